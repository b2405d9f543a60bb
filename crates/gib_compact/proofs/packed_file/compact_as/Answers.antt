use Rattle.std.proofs.Common.{length, ap, sym, subst, ◌∙◌, append_assoc, length-append, arith}
use Rattle.std.proofs.lemmas.Result.{IfOk-weaker}
use Rattle.gib_file.specs.Framed.{header2}
use Rattle.gib_file.specs.Packed.{packed}
use Rattle.gib_mem.specs.Memory.{Memory}
use Rattle.gib_packed.specs.Stands.{Stands}
use Rattle.gib_compact.proofs.packed_file.compact_as.Goals as goal

pub returns-clause-file : goal.returns-clause-file
returns-clause-file g c = λ ty v st.
    let there = subst (λ (m : Memory). Stands c.args.layouts.now m.cells c.args.root ty v) (sym c.into_parts-arena.ensures.shows) st in
    let d = c.args.description.now in
    let p = packed v in
    IfOk-weaker c.joined.result _ _ (λ file is. (omega (arith, is.1), is.0 ∙ append_assoc (header2 (length d) (length p)) d p)) (c.joined.ensures.out d p _ (c.parts_by-parts.ensures.out ty v there))

pub returns-clause-few : goal.returns-clause-few
returns-clause-few g c = λ ty v st.
    let there = subst (λ (m : Memory). Stands c.args.layouts.now m.cells c.args.root ty v) (sym c.into_parts-arena.ensures.shows) st in
    IfOk-weaker c.joined.result _ _ (λ file is. omega (arith, ap length is.0, is.1, length-append c.args.description.now (packed v))) (c.joined.ensures.out c.args.description.now (packed v) _ (c.parts_by-parts.ensures.out ty v there))

pub returns-clause-long : goal.returns-clause-long
returns-clause-long g c = λ ty v st e.
    let there = subst (λ (m : Memory). Stands c.args.layouts.now m.cells c.args.root ty v) (sym c.into_parts-arena.ensures.shows) st in
    let long = c.parts_by-parts.ensures.long ty v there (c.joined.ensures.long e) in
    omega (arith, long)

pub returns-clause-free : goal.returns-clause-free
returns-clause-free g c = λ q f.
    ap (λ (m : Memory). m.cells q) c.of_parts.ensures ∙ c.parts_by-parts.ensures.back.free q (ap (λ (m : Memory). m.cells q) c.into_parts-arena.ensures.shows ∙ f)
