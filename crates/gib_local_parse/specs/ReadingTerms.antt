-- What the readers of terms put.
use Rattle.std.specs.Prelude.{ℕ, ◌<◌, List, [], ◌∷◌, length}
use Rattle.gib_local_parse.specs.declared.lines.LineArm.{LineArm}
use Rattle.gib_local_parse.specs.declared.lines.BindingNode.{BindingNode}
use Rattle.gib_local_parse.specs.declared.lines.LineNode.{LineNode}
use Rattle.gib_local_parse.specs.Tree.{Line, Arms, LastArm}
use Rattle.gib_local_parse.specs.Grammar.{ArmText}
use Rattle.gib_local_parse.specs.LineArena.{ArmsBelow, BindingBelow, Grows, arms_from, nothing}

-- A term was read: it stands here, and those that were there stay.
pub record Reads (old new : List LineNode) (id : ℕ) : Type 0 where
  pub grows : Grows old new
  pub inside : id < length new

-- The same for the terms of arms, one at least.
pub record ReadsArms (old new : List LineNode) (arms : List LineArm) : Type 0 where
  pub grows : Grows old new
  pub inside : ArmsBelow arms (length new)

-- The same for the terms of a binding.
pub record ReadsBinding (old new : List LineNode) (binding : BindingNode) : Type 0 where
  pub grows : Grows old new
  pub inside : BindingBelow binding (length new)

-- An arm as a tree.
abbrev pub arm_text : (ℕ → Line) → LineArm → ArmText
arm_text f arm = record { constructor = arm.constructor; variables = arm.variables.items; line = f arm.line.0 }

-- Arms as a tree. A case has one at least; of none, it is an arm of no meaning.
abbrev pub arms_text : (ℕ → Line) → List LineArm → Arms
arms_text f [] = LastArm (record { name = record { 0 = 0 }; span = record { start = 0; end = 0 } }) [] nothing
arms_text f (arm ∷ arms) = arms_from f arm arms
