use Rattle.std.proofs.Common.{◌++◌, ◌∷◌, [], ℕ, List, sym, ap, ◌∙◌, subst, subst₂}
use Rattle.std.specs.Prelude.{FitsSigned}
use Rattle.std.specs.Fmt.{signed_decimal}
use Rattle.std.specs.Int.{w64}
use Rattle.std.proofs.lemmas.Int.{to_z-of_z}
use Rattle.gib_mem.specs.Memory.{Memory}
use Rattle.gib_packed.specs.Decoding.{Dec, Decodes}
use Rattle.gib_print.specs.Printing.{Prints}
use Rattle.gib_print.proofs.RootLemmas.{tree_stands, tree_decodes, whole_text, truth_is_text}
use Rattle.gib_print.proofs.print.print_root.Goals as goal

pub plan_walk-requires-clause-value : goal.plan_walk-requires-clause-value
plan_walk-requires-clause-value g c = subst (λ (m : Memory). Decodes c.args.printing.layouts.now m.cells c.in-At.at) (sym c.keep_text.ensures.same) (tree_decodes c.in-At.at c.requires.stands.2 c.in-At.is)

pub keep_text-requires-clause-value : goal.keep_text-requires-clause-value
keep_text-requires-clause-value g c = tree_decodes c.in-At.at c.requires.stands.2 c.in-At.is

pub print_tree-requires-clause-value : goal.print_tree-requires-clause-value
print_tree-requires-clause-value g c =
    subst₂ (λ (m : Memory) (x : ℕ). Decodes c.args.printing.layouts.now m.cells x) (sym (c.in_ok-plan-in-At.ensures.same ∙ c.keep_text.ensures.same)) (sym c.in_ok-plan-in-At.ensures.at) (tree_decodes c.in-At.at c.requires.stands.2 c.in-At.is)

pub returns-in-Some-clause-prints : goal.returns-in-Some-clause-prints
returns-in-Some-clause-prints g c = λ ty v st.
    let r = tree_stands c.in-At.at st c.in-At.is in
    subst (λ (l : List ℕ). Prints (g.O.Sink.view c.args.sink.now) (g.O.Sink.view c.put_made.new.sink) l c.put_made.result) (c.deref.ensures.value ∙ c.in-Some.ensures.text r.0 v r.1 r.2) c.put_made.ensures

pub returns-in-Err-clause-prints : goal.returns-in-Err-clause-prints
returns-in-Err-clause-prints g c = λ ty v st.
    let r = tree_stands c.in-At.at st c.in-At.is in
    let d = subst₂ (λ (m : Memory) (x : ℕ). Dec c.args.printing.layouts.now m.cells x r.0 v r.1) (sym (c.in_ok-plan-in-At.ensures.same ∙ c.keep_text.ensures.same)) (sym c.in_ok-plan-in-At.ensures.at) r.2 in
    c.in-Err.ensures.failed r.0 v r.1 d

pub returns-in-Ok-clause-prints : goal.returns-in-Ok-clause-prints
returns-in-Ok-clause-prints g c = λ ty v st.
    let r = tree_stands c.in-At.at st c.in-At.is in
    let d = subst₂ (λ (m : Memory) (x : ℕ). Dec c.args.printing.layouts.now m.cells x r.0 v r.1) (sym (c.in_ok-plan-in-At.ensures.same ∙ c.keep_text.ensures.same)) (sym c.in_ok-plan-in-At.ensures.at) r.2 in
    c.in-Ok.ensures.done r.0 v r.1 d

pub returns-in-Whole-clause-prints : goal.returns-in-Whole-clause-prints
returns-in-Whole-clause-prints g c = λ ty v st.
    let fits : FitsSigned w64 c.in-Whole.z = search in
    let kept = to_z-of_z w64 c.in-Whole.z fits in
    let is = whole_text c.args.printing.names.now.short c.in-Whole.z c.as_bytes.result.now st c.in-Whole.is (c.as_bytes.ensures.value ∙ c.format.ensures.text ∙ ap signed_decimal kept) in
    subst (λ (l : List ℕ). Prints (g.O.Sink.view c.args.sink.now) (g.O.Sink.view c.print_word.new.sink) (l ++ 10 ∷ []) c.print_word.result) is c.print_word.ensures

pub returns-in-Truth-clause-prints : goal.returns-in-Truth-clause-prints
returns-in-Truth-clause-prints g c = λ ty v st.
    let is = truth_is_text c.args.printing.names.now.short c.in-Truth.b c.truth_word.result.now st c.in-Truth.is c.truth_word.ensures in
    subst (λ (l : List ℕ). Prints (g.O.Sink.view c.args.sink.now) (g.O.Sink.view c.print_word-in-Truth.new.sink) (l ++ 10 ∷ []) c.print_word-in-Truth.result) is c.print_word-in-Truth.ensures
