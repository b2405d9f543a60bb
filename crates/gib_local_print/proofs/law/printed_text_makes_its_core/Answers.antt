use Rattle.std.proofs.Common.{List, ℕ, Ok, Some, ◌≡◌, sym, subst}
use Rattle.gib_core.specs.Tree.{CoreTree}
use Rattle.gib_core.specs.Literals.{AllLiteralsFit}
use Rattle.gib_core.specs.Numbering.{AreNumbered}
use Rattle.gib_core.specs.Rules.{AreBuilt}
use Rattle.gib_core.specs.TypesNamed.{SignaturesDeclared}
use Rattle.gib_core.specs.Inferring.{infer_program}
use Rattle.gib_core.specs.Reaching.{reach_core}
use Rattle.gib_place.specs.Numbering.{place_core}
use Rattle.gib_local.specs.Building.{build_core}
use Rattle.gib_local_print.specs.HasText.{with_ends}
use Rattle.gib_local_print.specs.LocatedText.{located_tree, located_text}
use Rattle.gib_local_print.proofs.law.printed_text_makes_its_core.Goals as goal

-- What is said of each core that the passes make.
abbrev Made : CoreTree → Type 0
Made core = SignaturesDeclared core → AllLiteralsFit core → AreNumbered core → AreBuilt core → (names : List (List ℕ)) (text : List ℕ) → located_text names core ≡ Some text → build_core (located_tree core) ≡ Ok (with_ends core)

pub returns : goal.returns
returns c = λ mode p is fine typed ord core same.
    let made : CoreTree = reach_core mode (place_core (infer_program p)) in
    let own : Made made = λ sg lit num built names text shown.
    let natural = c.passes_make_no_negative_literal.ensures.kept mode (infer_program p) (c.passes_make_no_negative_literal.ensures.none (infer_program p) ord) in
    let ordered = c.built_is_ordered.ensures made is num natural built in
    let form = c.passes_make_the_form.ensures mode p is (c.typed_is_covered.ensures p fine typed) in
    let shape = c.formed_is_shaped.ensures made is num lit built form (c.printed_core_is_single.ensures names made text shown) in
    c.located_core_is_made.ensures.built made is sg (c.types_of_a_built_core_are_declared.ensures made is sg num lit built) num natural shape (c.offsets_are_found.ensures mode (place_core (infer_program p)) ordered) built in
    subst Made (sym same) own
