use Rattle.std.specs.Prelude.{◌≡◌, ℕ, Some, is_none}
use Rattle.gib_types.specs.Form.{Form}
use Rattle.gib_syntax.specs.Declarations.{number_of, place_of}
use Rattle.gib_syntax.specs.GenericTyping.{form_in}
use Rattle.gib_check.specs.declared.fault.Kind.TheVariants as kind
use Rattle.gib_check.proofs.KindLaws.{allowed_broken, present, there}
use Rattle.gib_check.proofs.kinds.twice.Goals as goal

pub returns-clause-name : goal.returns-clause-name
returns-clause-name c = λ names x.
    allowed_broken (is_none (place_of names (number_of x))) kind.Twice x.span (tt {0}) ((i : ℕ) × (place_of names (number_of x) ≡ Some i)) (λ e p. present (place_of names (number_of x)) e p) (λ e. there (place_of names (number_of x)) e)

pub returns-clause-variable : goal.returns-clause-variable
returns-clause-variable c = λ scope x.
    allowed_broken (is_none (form_in scope (number_of x))) kind.Twice x.span (tt {0}) ((t : Form) × (form_in scope (number_of x) ≡ Some t)) (λ e p. present (form_in scope (number_of x)) e p) (λ e. there (form_in scope (number_of x)) e)
