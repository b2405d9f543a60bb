use Rattle.std.proofs.Common.{◌≡◌, ◌≤◌, ◌<◌, ◌∙◌, ℕ, List, length, ap, subst, arith}
use Rattle.std.specs.Prelude.{Result, Err, IfOk}
use Rattle.std.specs.Global.{Vec}
use Rattle.gib_file.specs.Packed.{tree}
use Rattle.gib_types.specs.Tree.{Datum}
use Rattle.gib_compact.specs.Gathered.{with_head}
use Rattle.gib_compact.specs.declared.fault.CompactFault.{CompactFault}
use Rattle.gib_compact.specs.declared.fault.CompactFault.TheVariants.{Long}
use Rattle.gib_compact.proofs.GatheredLemmas.{with_bound}
use Rattle.gib_compact.proofs.payload.tree_alone.Goals as goal

-- the payload is that of a value, and has no more than so many bytes
abbrev Is : ℕ → Datum → Result (Vec ℕ) CompactFault → Type 0
Is most v r = IfOk r (λ payload. (payload.items ≡ tree v) × (length payload.items ≤ most))

pub framed-requires : goal.framed-requires
framed-requires c =
    let r = c.requires.value in
    let k = subst (Is c.args.packing.most r.1) c.in-Ok.is (c.write_tree-payload.ensures.out r.0 r.1 r.2 r.3) in
    omega (arith, k.1, c.requires.room)

pub returns-in-Err-clause-long : goal.returns-in-Err-clause-long
returns-in-Err-clause-long c = λ t v z d is.
    let same : c.in-Err.fault ≡ Long = cc in
    subst (λ (r : Result (Vec ℕ) CompactFault). r ≡ Err Long → c.args.packing.most < length (tree v)) c.in-Err.is (c.write_tree-payload.ensures.long t v z d) (ap (λ (f : CompactFault). Err f) same)

pub returns-in-Ok-clause-out : goal.returns-in-Ok-clause-out
returns-in-Ok-clause-out c = λ t v z d.
    let k = subst (Is c.args.packing.most v) c.in-Ok.is (c.write_tree-payload.ensures.out t v z d) in
    with_bound c.made.result _ _ _ _
    (ap (λ (x : List ℕ). with_head c.args.description.now (length x) x) k.0)
    (subst (λ (x : List ℕ). length x ≤ c.args.packing.most) k.0 k.1)
    (c.made.ensures.parts _ c.framed.ensures)
