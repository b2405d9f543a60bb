use Rattle.std.proofs.Common.{true}
use Rattle.std.proofs.lemmas.Bool.{not-true, not-false}
use Rattle.std.proofs.lemmas.Result.{IfOk-weaker}
use Rattle.gib_arena.specs.Sole.{sole_memory, sole_bounded}
use Rattle.gib_app.specs.Kept.{file_of}
use Rattle.gib_app.proofs.Imaged.{shown_runs}
use Rattle.gib_app.proofs.Remaining.{shown_here, stands_left}
use Rattle.gib_app.proofs.jobs.run.finish.Goals as goal

pub returns-then-not-options-clause-made : goal.returns-then-not-options-clause-made
returns-then-not-options-clause-made g c = λ p input laid limit s. c.printed_by.ensures.made p c.args.options input laid (not-true _ c.if-not-options.true) limit s

pub returns-clause-made : goal.returns-clause-made
returns-clause-made g c = λ p input laid limit s.
    let ran = c.args.value.ran in
    let asked = not-false _ c.if-not-options.false in
    IfOk-weaker c.with_text.result _ _
    (λ made shown. shown_runs p c.args.value.names c.args.options input ran.lowered.code.laid (sole_memory ran.memory) ran.root s (sole_bounded ran.memory) laid limit true asked (file_of made) made.end shown)
    (c.with_text.ensures.shown p c.args.options.depth input s)

pub returns-then-not-options-clause-region : goal.returns-then-not-options-clause-region
returns-then-not-options-clause-region g c = λ p input left. c.printed_by.ensures.region p c.args.options input (not-true _ c.if-not-options.true) left

pub returns-clause-region : goal.returns-clause-region
returns-clause-region g c = λ p input left.
    let value = c.args.value in
    let o = c.args.options in
    let asked = not-false _ c.if-not-options.false in
    IfOk-weaker c.with_text.result _ _ (λ made shown. shown_here p value.names o input value left true asked (file_of made) made.end shown)
    (c.with_text.ensures.shown p o.depth input (stands_left p value.names o input value left))
