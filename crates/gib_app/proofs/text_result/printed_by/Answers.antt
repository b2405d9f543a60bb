use Rattle.std.proofs.Common.{◌≡◌, ℕ, List, Option, None, Result, IfOk, option_map, refl, sym, ap, subst, subst₂}
use Rattle.std.specs.Global.{Vec}
use Rattle.std.specs.declared.alloc.AllocError.{AllocError}
use Rattle.gib_base.specs.Texts.{TextsView}
use Rattle.gib_arena.specs.Sole.{sole_memory, sole_bounded}
use Rattle.gib_app.specs.declared.made.End.{End as KeptEnd}
use Rattle.gib_app.specs.declared.made.End.TheVariants as ends
use Rattle.gib_app.specs.Imaging.{IsShownWith}
use Rattle.gib_app.specs.Jobs.{Runs}
use Rattle.gib_app.specs.Kept.{EndsBy, file_of}
use Rattle.gib_app.specs.Remains.{ComesOfMemory}
use Rattle.gib_app.specs.Running.{text_line}
use Rattle.gib_app.proofs.Imaged.{shown_runs, value_ends}
use Rattle.gib_app.proofs.PackedRuns.{held_again, stands_named}
use Rattle.gib_app.proofs.Remaining.{shown_here, stands_left, left_again}
use Rattle.gib_app.proofs.text_result.printed_by.Goals as goal

pub returns-then-workers-le1-clause-made : goal.returns-then-workers-le1-clause-made
returns-then-workers-le1-clause-made g c = λ p options input laid asked limit s. value_ends p options input c.args.value c.requires.names asked s

pub returns-then-workers-le1-clause-region : goal.returns-then-workers-le1-clause-region
returns-then-workers-le1-clause-region g c = λ p options input asked left. left

pub returns-in-Ok-clause-made : goal.returns-in-Ok-clause-made
returns-in-Ok-clause-made g c = λ p options input laid asked limit s.
    let value = c.args.value in
    let ran = value.ran in
    let made = c.only_prints.result in
    let none : file_of made ≡ None = ap (option_map (λ bytes. bytes.items)) c.only_prints.ensures.file in
    let E : Option (List ℕ) → KeptEnd → Type 0 = λ f e. IsShownWith Rattle.std.specs.Prelude.false ran.lowered.code.laid (sole_memory ran.memory) ran.root p value.names s.result f e in
    let T : Result (Vec ℕ) AllocError → Type 0 = λ r. IfOk r (λ text. text.items ≡ text_line p value.names s.result) in
    let there : E (file_of made) made.end = subst₂ E (sym none) (sym c.only_prints.ensures.end) (refl, subst T c.in-Ok.is (c.text_result-text.ensures.text p options.depth input s)) in
    shown_runs p value.names options input ran.lowered.code.laid (sole_memory ran.memory) ran.root s (sole_bounded ran.memory) laid limit Rattle.std.specs.Prelude.false asked (file_of made) made.end there

pub returns-in-Ok-clause-region : goal.returns-in-Ok-clause-region
returns-in-Ok-clause-region g c = λ p options input asked left.
    let value = c.args.value in
    let ran = value.ran in
    let made = c.only_prints.result in
    let s = stands_left p value.names options input value left in
    let none : file_of made ≡ None = ap (option_map (λ bytes. bytes.items)) c.only_prints.ensures.file in
    let E : Option (List ℕ) → KeptEnd → Type 0 = λ f e. IsShownWith Rattle.std.specs.Prelude.false ran.lowered.code.laid (sole_memory ran.memory) ran.root p value.names s.result f e in
    let T : Result (Vec ℕ) AllocError → Type 0 = λ r. IfOk r (λ text. text.items ≡ text_line p value.names s.result) in
    let there : E (file_of made) made.end = subst₂ E (sym none) (sym c.only_prints.ensures.end) (refl, subst T c.in-Ok.is (c.text_result-text.ensures.text p options.depth input s)) in
    shown_here p value.names options input value left Rattle.std.specs.Prelude.false asked (file_of made) made.end there

pub returns-in-Err-clause-made : goal.returns-in-Err-clause-made
returns-in-Err-clause-made g c = λ p options input laid asked limit s.
    let old = c.args.value in
    let new = c.text_result-text.result.1 in
    let again = c.text_result-text.ensures.again in
    let E : TextsView → Type 0 = λ names. EndsBy None (ends.Value new) (Runs p names options input) in
    subst E again.names (value_ends p options input new (held_again old new again c.requires.names) asked (stands_named p options.depth input old new again s))

pub returns-in-Err-clause-region : goal.returns-in-Err-clause-region
returns-in-Err-clause-region g c = λ p options input asked left.
    let old = c.args.value in
    let new = c.text_result-text.result.1 in
    let again = c.text_result-text.ensures.again in
    subst (λ (names : TextsView). ComesOfMemory p names options input None (ends.Value new)) again.names (left_again p options input old new again left)
