use Rattle.std.proofs.Common.{◌∙◌, ◌≤◌, length, Err, option_map, ap, arith, sym, subst, subst₂}
use Rattle.gib_types.specs.Table.{Table}
use Rattle.gib_types.specs.declared.table.Ty.{Ty}
use Rattle.gib_file.specs.Framed.{File2}
use Rattle.gib_packed.specs.Stands.{Stands}
use Rattle.gib_compact.specs.declared.fault.CompactFault.{CompactFault}
use Rattle.gib_app.specs.Jobs.{Runs, RunsBoth}
use Rattle.gib_app.specs.MachineRun.{cells_of}
use Rattle.std.proofs.lemmas.Bool.{not-true, not-false}
use Rattle.std.proofs.lemmas.Result.{IfOk-at_ok, IfOk-weaker}
use Rattle.gib_app.proofs.PackedRuns.{made_alone, runs_alone, meant_again, stands_named, packed_run, long_run}
use Rattle.gib_app.proofs.Remaining.{left_again, stands_left, packed_comes, long_comes}
use Rattle.gib_app.proofs.jobs.run.finish_run.Goals as goal

-- ---- Without a packed file

pub returns-then-not-options-clause-made : goal.returns-then-not-options-clause-made
returns-then-not-options-clause-made g c = λ p input ty laid limit s.
    let names = c.args.value.names in
    let o = c.args.options in
    made_alone c.finish.result (Runs p names o input) (RunsBoth p names o input) c.finish.ensures.alone (runs_alone p names o input (not-true _ c.if-not-options.true))
    (c.finish.ensures.made p input laid limit s)

pub returns-then-not-options-clause-region : goal.returns-then-not-options-clause-region
returns-then-not-options-clause-region g c = c.finish.ensures.region

-- ---- With it

pub with_text-requires-clause-stands : goal.with_text-requires-clause-stands
with_text-requires-clause-stands g c =
    meant_again c.args.value c.packed_result-packed.result.1 c.packed_result-packed.ensures.again c.requires.stands.0

pub with_text-requires-clause-few : goal.with_text-requires-clause-few
with_text-requires-clause-few g c = let same = c.packed_result-packed.ensures.again.limit in let few = c.requires.few in omega (arith, same, few)

pub without_packed-requires-clause-stands : goal.without_packed-requires-clause-stands
without_packed-requires-clause-stands g c =
    meant_again c.args.value c.packed_result-packed.result.1 c.packed_result-packed.ensures.again c.requires.stands.0

pub without_packed-requires-clause-few : goal.without_packed-requires-clause-few
without_packed-requires-clause-few g c = let same = c.packed_result-packed.ensures.again.limit in let few = c.requires.few in omega (arith, same, few)

pub returns-in-Ok-clause-made : goal.returns-in-Ok-clause-made
returns-in-Ok-clause-made g c = λ p input ty laid limit s.
    let value = c.args.value in
    let o = c.args.options in
    let new = c.packed_result-packed.result.1 in
    let again = c.packed_result-packed.ensures.again in
    let S : Ty → Type 0 = λ t. Stands value.ran.lowered.code.laid (cells_of value.ran.memory) value.ran.root t s.result in
    let file = IfOk-at_ok (λ file. File2 value.ran.lowered.code.laid.table value.names.long c.args.ty s.result file.items) c.in-Ok.is (c.packed_result-packed.ensures.file s.result (subst S (sym ty) s.stands)) in
    let few = IfOk-at_ok (λ file. length file.items ≤ 16777216) c.in-Ok.is c.packed_result-packed.ensures.few in
    let F : Table → Ty → Type 0 = λ t y. File2 t value.names.long y s.result c.in-Ok.packed.items in
    packed_run p o input value new again laid limit (not-false _ c.if-not-options.false) s c.in-Ok.packed.items (subst₂ F s.table ty file) few c.with_text.result
    (c.with_text.ensures.shown p o.depth input (stands_named p o.depth input value new again s)) (IfOk-weaker c.with_text.result _ _ (λ made is. ap (option_map (λ bytes. bytes.items)) is) c.with_text.ensures.packed)

pub returns-in-Long-clause-made : goal.returns-in-Long-clause-made
returns-in-Long-clause-made g c = λ p input ty laid limit s.
    let value = c.args.value in
    let o = c.args.options in
    let new = c.packed_result-packed.result.1 in
    let again = c.packed_result-packed.ensures.again in
    let S : Ty → Type 0 = λ t. Stands value.ran.lowered.code.laid (cells_of value.ran.memory) value.ran.root t s.result in
    let failed = c.in-Err.is ∙ ap (λ (f : CompactFault). Err f) c.in-Long.is in
    long_run p o input value new again laid limit (not-false _ c.if-not-options.false) s
    (λ bytes f.
    let F : Table → Ty → Type 0 = λ t y. File2 t value.names.long y s.result bytes in
    c.packed_result-packed.ensures.long s.result bytes (subst S (sym ty) s.stands) failed (subst₂ F (sym s.table) (sym ty) f))
    c.without_packed.result (c.without_packed.ensures.image p o.depth input (stands_named p o.depth input value new again s)) c.without_packed.ensures.long

pub returns-in-Ok-clause-region : goal.returns-in-Ok-clause-region
returns-in-Ok-clause-region g c = λ p input left.
    let old = c.args.value in
    let o = c.args.options in
    let new = c.packed_result-packed.result.1 in
    let again = c.packed_result-packed.ensures.again in
    let there = left_again p o input old new again left in
    packed_comes p o input old new again there c.with_text.result (c.with_text.ensures.shown p o.depth input (stands_left p new.names o input new there))

pub returns-in-Long-clause-region : goal.returns-in-Long-clause-region
returns-in-Long-clause-region g c = λ p input left.
    let old = c.args.value in
    let o = c.args.options in
    let new = c.packed_result-packed.result.1 in
    let again = c.packed_result-packed.ensures.again in
    let there = left_again p o input old new again left in
    long_comes p o input old new again there c.without_packed.result (c.without_packed.ensures.image p o.depth input (stands_left p new.names o input new there)) c.without_packed.ensures.long
