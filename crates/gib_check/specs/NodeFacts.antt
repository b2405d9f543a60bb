-- What is known of each expression of a program, wherever it stands.
use Rattle.std.specs.Prelude.{◌≡◌, ℕ, List, Some, slice_get}
use Rattle.gib_syntax.specs.Tree.{Expression}
use Rattle.gib_syntax.specs.Typing.{Globals}
use Rattle.gib_check.specs.declared.node_facts.NodeFacts.{NodeFacts as Facts}
use Rattle.gib_check.specs.Origins.{origin}
use Rattle.gib_check.specs.ArmPlaces.{place_named, place_in, case_names}

-- What is known of an expression: where its type comes from, and the place of the first arm of each constructor.
pub record AreOf (g : Globals) (e : Expression) (facts : Facts) : Type 0 where
  pub origin_is : facts.origin ≡ origin g e
  pub places : (con : ℕ) → place_in facts.arms con ≡ place_named g.table (case_names e) con

-- So for each of the first expressions, where their numbers have these trees.
pub record AreFacts (g : Globals) (tree : ℕ → Expression) (all : List Facts) : Type 0 where
  pub by : (id : ℕ) (facts : Facts) → slice_get all id ≡ Some facts → AreOf g (tree id) facts
