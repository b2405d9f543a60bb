-- Which variables a run binds later, told by the times at which they were bound.
use Rattle.std.specs.Prelude.{◌≡◌, ℕ, ◌+◌, ◌≤◌, Bool, false, ◌||◌, if◌then◌else◌, nat_lt, List, [], ◌∷◌, ◌++◌, length, drop, Option, Some, None}
use Rattle.gib_core.specs.declared.atom.Variable.{Variable}
use Rattle.gib_core.specs.declared.atom.Atom.{Atom}
use Rattle.gib_core.specs.declared.atom.Atom.TheVariants as a
use Rattle.gib_core.specs.declared.node.BoundSide.{BoundSide}
use Rattle.gib_core.specs.declared.node.BoundSide.TheVariants as s
use Rattle.gib_core.specs.declared.node.Binding.{Binding}
use Rattle.gib_core.specs.declared.node.Binding.TheVariants as b
use Rattle.gib_core.specs.PartTypes.{types_in}
use Rattle.gib_core.specs.Tree.{variables_from}
use Rattle.gib_core.specs.Rules.{is_among}
use Rattle.gib_core.specs.ByVariable.{number_at}
pub use Rattle.gib_core.specs.Noted.{Seen}

-- The variable was bound after a moment.
abbrev pub is_late : Seen → ℕ → Variable → Bool
is_late seen moment x = nat_lt moment (number_at seen.times x.0)

-- The variables of a side.
abbrev pub side_variables : BoundSide → List Variable
side_variables (s.One x) = x.variable ∷ []
side_variables (s.Several x) = variables_from x.first.0 (types_in x.types)

-- The variables that a binding binds in its line.
abbrev pub binding_variables : Binding → List Variable
binding_variables (b.Past h k) = h ∷ []
binding_variables (b.One s) = side_variables s
binding_variables (b.Par fork l r) = side_variables l ++ side_variables r
binding_variables (b.Prim x f y z) = x ∷ []
binding_variables (b.Reach y by) = []

-- The variables that bindings bind in their line.
abbrev pub run_variables : List Binding → List Variable
run_variables [] = []
run_variables (x ∷ xs) = binding_variables x ++ run_variables xs

-- Variables were noted now.
pub record NotesAll (old new : Seen) (xs : List Variable) : Type 0 where
  pub clock : new.clock ≡ old.clock
  pub each : (y : Variable) → number_at new.times y.0 ≡ (if is_among xs y then old.clock else number_at old.times y.0)

-- The variables of a binding were bound, one moment later.
pub record Binds (old new : Seen) (binding : Binding) : Type 0 where
  pub clock : new.clock ≡ old.clock + 1
  pub each : (y : Variable) → number_at new.times y.0 ≡ (if is_among (binding_variables binding) y then old.clock + 1 else number_at old.times y.0)

-- The bindings of a run were bound from a moment on: what is bound from a binding on was bound after its moment.
pub record Timed (start : ℕ) (run : List Binding) (seen : Seen) : Type 0 where
  pub late : (i : ℕ) → i ≤ length run → (y : Variable) → is_among (run_variables (drop i run)) y ≡ is_late seen (start + i) y

-- A variable of a side, or one that was bound after a moment.
abbrev pub is_late_or : Seen → ℕ → Option BoundSide → Atom → Bool
is_late_or seen moment also (a.Whole z) = false
is_late_or seen moment also (a.Truth b) = false
is_late_or seen moment None (a.Variable y) = is_late seen moment y
is_late_or seen moment (Some s) (a.Variable y) = is_among (side_variables s) y || is_late seen moment y
