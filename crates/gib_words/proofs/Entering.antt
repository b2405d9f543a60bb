-- From the command that a parse entered to what it asks for.
use Rattle.std.specs.List.{AllByRecursion}
use Rattle.std.specs.Prelude.{Box, find, option_and_then}
use Rattle.std.specs.Str.{bytes_eq}
use Rattle.std.proofs.lemmas.Slice.Eq.{bytes_eq-Decides}
use Rattle.std.specs.Box.{box_value}
use Rattle.std.proofs.Common.{◌≡◌, ◌∙◌, refl, Bool, true, false, cond, List, [], ◌∷◌, Option, None, Some, is_some, option_map, ap, ap₂, true≢false}
use Rattle.clap.specs.Matches.{found_of}
use Rattle.clap.specs.Walk.{Row, Text, rows_of}
use Rattle.clap.specs.Simple.{subcommand_rows}
use Rattle.clap.specs.declared.parser.matches.ArgMatches.TheViews.{out-SubCommand}
use Rattle.clap.specs.declared.parser.matches.SubCommand.{SubCommand}
use Rattle.gib_words.specs.Plan.{Plan}
use Rattle.gib_words.specs.Words.{Form, requested}

module _ {Z : Type 0} where
  -- the command that is met is known by its name and its rows
  pub entered_asked : (sub : Option (Box SubCommand Z)) (name : Text) (rows : List Row) (plan : Option Plan)
      → Some name ≡ option_map (λ b. (out-SubCommand (box_value b)).name.now) sub → Some rows ≡ option_map (λ p. p.1) (subcommand_rows sub)
      → plan ≡ requested name rows → plan ≡ option_and_then (λ e. requested e.0 e.1) (subcommand_rows sub)
  entered_asked None name rows plan named found is = absurd (true≢false (ap is_some named))
  entered_asked (Some b) name rows plan named found is =
      let same : name ≡ (out-SubCommand (box_value b)).name.now = cc in
      let there : rows ≡ rows_of (found_of (out-SubCommand (box_value b)).matches) = cc in
      is ∙ ap₂ requested same there

-- Where no form has a name, none is found by it.
pub absent : (forms : List Form) (name : Text) → AllByRecursion (λ form. form.name ≡ name → ⊥) forms → find (λ form. bytes_eq form.name name) forms ≡ None
absent [] name all = refl
absent (form ∷ rest) name all = go (bytes_eq form.name name) refl (absent rest name all.1)
  where
    go : (b : Bool) → bytes_eq form.name name ≡ b → find (λ other. bytes_eq other.name name) rest ≡ None → cond b (Some form) (find (λ other. bytes_eq other.name name) rest) ≡ None
    go true e none = absurd (all.0 ((bytes_eq-Decides form.name name).0 e))
    go false e none = none
