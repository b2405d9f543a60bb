-- The branches of a case, one after another.
use Rattle.std.proofs.Common.{◌≡◌, ℕ, List, ◌++◌}
use Rattle.std.specs.List.{AllByRecursion}
use Rattle.gib_core.specs.declared.node.Branch.{Branch}
use Rattle.gib_core.specs.Tree.{CoreTree, Term}
use Rattle.gib_core.specs.Arena.{branches_from, IsBranchBelow}
use Rattle.gib_core.specs.Met.{Met, met_branches}
use Rattle.gib_loccheck.specs.declared.state.Walk.{Walk}
use Rattle.gib_loccheck.specs.declared.target.Target.{Target}
use Rattle.gib_loccheck.specs.Views.{setting_of}
use Rattle.gib_loccheck.specs.Judging.{Passes, Kept}

-- The walk stands before these branches, and those before them pass.
pub record ArmsSoFar (core : CoreTree) (old now : Walk) (target : Target) (f : ℕ → Term) (branches left : List Branch) (whole : ℕ) : Type 0 where
  pub lines : List Met
  pub all : met_branches core.table (setting_of old target) (branches_from f branches) ≡ lines ++ met_branches core.table (setting_of old target) (branches_from f left)
  pub passes : Passes core old now lines
  pub kept : Kept old now
  pub below : AllByRecursion (IsBranchBelow whole) left
