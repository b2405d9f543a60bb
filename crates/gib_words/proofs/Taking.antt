-- The program's commands are simple, and each of their arguments is regular.
use Rattle.std.proofs.Common.{◌≡◌, ◌∙◌, Bool, cond, true, false, refl, sym, ap, List, [], Option, None}
use Rattle.std.specs.Prelude.{option_and_then}
use Rattle.std.specs.List.{list_all}
use Rattle.clap.specs.Walk.{Row, Text}
use Rattle.clap.specs.Simple.{App, built, is_simple, subcommand_of}
use Rattle.clap.specs.Takes.{takes}
use Rattle.clap.specs.Faults.{fault_of, is_simple_and_free}
use Rattle.clap.proofs.OnLiterals.{clap_on_literals}
use Rattle.gib_words.specs.Plan.{Plan}
use Rattle.gib_words.specs.Words.{asked_by_command, command_set, requested}
use Rattle.gib_words.proofs.Passing.{is_regular, takes_without_fault}

pub set_is_simple : is_simple command_set ≡ true
unfolding clap_on_literals
set_is_simple = refl

pub set_is_free : is_simple_and_free command_set ≡ true
unfolding clap_on_literals
set_is_free = refl

top_is_regular : is_regular (built command_set).top ≡ true
unfolding clap_on_literals
top_is_regular = refl

subs_are_regular : list_all is_regular (built command_set).subs ≡ true
unfolding clap_on_literals
subs_are_regular = refl

set_takes : (words : List Text) → fault_of command_set words ≡ [] → takes command_set words ≡ true
set_takes words e = takes_without_fault command_set words set_is_simple top_is_regular subs_are_regular e

-- What a parse of the program's words finds is what they ask for.
pub parsed_plan : (a : App) (words : List Text) (rows : Type 0) (entered : Option (Text × List Row)) (plan : Option Plan) → a ≡ command_set
    → (is_simple a ≡ true → rows × (entered ≡ subcommand_of a words)) → (is_simple_and_free a ≡ true → fault_of a words ≡ [])
    → plan ≡ option_and_then (λ e. requested e.0 e.1) entered → plan ≡ asked_by_command words
parsed_plan a words rows entered plan is matches faults found =
    let same = (matches (ap is_simple is ∙ set_is_simple)).1 ∙ ap (λ (x : App). subcommand_of x words) is in
    let taken = set_takes words (ap (λ (x : App). fault_of x words) (sym is) ∙ faults (ap is_simple_and_free is ∙ set_is_free)) in
    found ∙ ap (option_and_then (λ e. requested e.0 e.1)) same
    ∙ ap (λ (b : Bool). cond b (option_and_then (λ e. requested e.0 e.1) (subcommand_of command_set words)) None) (sym taken)

-- Where the commands do not take the words, nothing is asked for.
pub nothing_asked : (a : App) (words : List Text) → a ≡ command_set → (takes a words ≡ true → ⊥) → ◌≡◌ {A = Option Plan} None (asked_by_command words)
nothing_asked a words is refused = go (takes command_set words) refl
  where
    go : (b : Bool) → takes command_set words ≡ b → ◌≡◌ {A = Option Plan} None (asked_by_command words)
    go false e = ap (λ (x : Bool). cond x (option_and_then (λ m. requested m.0 m.1) (subcommand_of command_set words)) None) (sym e)
    go true e = absurd (refused (ap (λ (x : App). takes x words) is ∙ e))
