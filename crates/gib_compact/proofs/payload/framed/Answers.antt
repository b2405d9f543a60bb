use Rattle.std.proofs.Common.{◌≡◌, ◌++◌, ℕ, List, length, refl, subst, arith}
use Rattle.std.specs.Prelude.{IfOk}
use Rattle.gib_file.specs.Framed.{header2}
use Rattle.gib_compact.proofs.payload.framed.Goals as goal

pub returns : goal.returns
returns c =
    let description : List ℕ = c.args.description.now in
    let long : c.len.result ≡ length c.args.payload.items = omega (arith, c.len.ensures, c.args.payload.ok) in
    let front = subst (λ (n : ℕ). IfOk c.head-front.result (λ out. out.items ≡ header2 (length description) n ++ description)) long c.head-front.ensures in
    c.in_front.ensures (header2 (length description) (length c.args.payload.items) ++ description) c.args.payload.items front (c.alone.ensures c.args.payload.items refl)
