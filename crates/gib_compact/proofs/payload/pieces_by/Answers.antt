use Rattle.std.proofs.Common.{◌≡◌, ◌∙◌, ◌++◌, ℕ, List, length, sym, ap, subst, arith}
use Rattle.std.specs.Prelude.{Result, Option, IfOk}
use Rattle.std.specs.Global.{Vec}
use Rattle.std.specs.declared.alloc.AllocError.{AllocError}
use Rattle.gib_file.specs.Framed.{header2}
use Rattle.gib_compact.specs.Counts.{IsCount}
use Rattle.gib_compact.proofs.CutLemmas.{Cut-grows}
use Rattle.gib_compact.proofs.BackLemmas.{back_on}
use Rattle.gib_compact.proofs.GatheredLemmas.{with_bound}
use Rattle.gib_compact.proofs.payload.pieces_by.Goals as goal

pub write_by-parts-requires-clause-few : goal.write_by-parts-requires-clause-few
write_by-parts-requires-clause-few g c κs within =
    let r = c.requires.cut in
    let n = c.count_by-count.ensures.count r.0 r.1 in
    let k = subst (λ (x : Result (Option ℕ) AllocError). IfOk x (λ n. IsCount (length r.0) c.args.packing.most n)) c.in-Ok.is n in
    let m = subst (IsCount (length r.0) c.args.packing.most) c.in-Some.is k in
    record { bytes = r.0; cut = Cut-grows c.count_by-count.ensures.back.known r.1; few = omega (arith, m.0, m.1) }

pub returns-in-Ok-head-clause-back : goal.returns-in-Ok-head-clause-back
returns-in-Ok-head-clause-back g c = back_on c.args.packing.arena.now c.args.pass c.count_by-count.result.1 c.write_by-parts.result.1 c.count_by-count.ensures.back c.write_by-parts.ensures.back

pub returns-in-Ok-head-clause-out : goal.returns-in-Ok-head-clause-out
returns-in-Ok-head-clause-out g c = λ bytes l.
    let description : List ℕ = c.args.description.now in
    let n = c.count_by-count.ensures.count bytes l in
    let k = subst (λ (x : Result (Option ℕ) AllocError). IfOk x (λ n. IsCount (length bytes) c.args.packing.most n)) c.in-Ok.is n in
    let m = subst (IsCount (length bytes) c.args.packing.most) c.in-Some.is k in
    let h = subst (λ (x : Result (Vec ℕ) AllocError). IfOk x (λ out. out.items ≡ header2 (length description) c.in-Some.payload ++ description)) c.in-Ok-head.is c.head.ensures in
    with_bound c.made.result _ _ _ _
    (ap (λ (x : List ℕ). x ++ bytes) (h ∙ ap (λ (len : ℕ). header2 (length description) len ++ description) (sym m.0)))
    (omega (arith, m.0, m.1))
    (c.made.ensures.parts _ (c.write_by-parts.ensures.out bytes (Cut-grows c.count_by-count.ensures.back.known l)))
