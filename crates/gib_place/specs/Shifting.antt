-- Nodes with other numbers for their variables, behind other nodes.
use Rattle.std.specs.Prelude.{◌≡◌, ℕ, ◌+◌, ◌<◌, List, map, length, Some}
use Rattle.std.specs.List.{AllByRecursion}
use Rattle.gib_core.specs.declared.node.BoundSide.{BoundSide}
use Rattle.gib_core.specs.declared.node.Binding.{Binding}
use Rattle.gib_core.specs.declared.node.Branch.{Branch}
use Rattle.gib_core.specs.declared.node.Node.{Node}
use Rattle.gib_core.specs.declared.node.TermId.{TermId}
use Rattle.gib_core.specs.Tree.{Term}
use Rattle.gib_core.specs.Arena.{Grows, IsBindingBelow, IsBranchBelow, IsPartBelow, PartsBelow, term_in, term_of, side_from, bind_from, parts_from, branches_from, layer}
use Rattle.gib_place.specs.Renaming.{Renaming, rename, rename_variable, rename_side, rename_bind, rename_parts, rename_branches}
use Rattle.gib_place.specs.Numbering.{place_in}

-- Numbers below one have their terms, renamed, so much further on.
abbrev pub Shifts : Renaming → ℕ → ℕ → (ℕ → Term) → (ℕ → Term) → Type 0
Shifts r base id f g = (a : ℕ) → a < id → g (base + a) ≡ rename r (f a)

-- A side with other numbers.
pub record SideShifted (r : Renaming) (base : ℕ) (old new : BoundSide) : Type 0 where
  pub term : (term_in new).0 ≡ base + (term_in old).0
  pub is : (f g : ℕ → Term) → g (base + (term_in old).0) ≡ rename r (f (term_in old).0) → side_from g new ≡ rename_side r (side_from f old)

-- A binding with other numbers.
pub record BindingShifted (r : Renaming) (base : ℕ) (old new : Binding) : Type 0 where
  pub below : (id : ℕ) → IsBindingBelow id old → IsBindingBelow (base + id) new
  pub is : (id : ℕ) (f g : ℕ → Term) → IsBindingBelow id old → Shifts r base id f g → bind_from g new ≡ rename_bind r (bind_from f old)

-- Parts so much further on.
pub record PartsShifted (base : ℕ) (old new : List TermId) : Type 0 where
  pub below : (id : ℕ) → AllByRecursion (IsPartBelow id) old → AllByRecursion (IsPartBelow (base + id)) new
  pub are : (r : Renaming) (id : ℕ) (f g : ℕ → Term) → AllByRecursion (IsPartBelow id) old → Shifts r base id f g
      → parts_from g new ≡ rename_parts r (parts_from f old)

-- A branch with other numbers.
pub record BranchShifted (r : Renaming) (base : ℕ) (old new : Branch) : Type 0 where
  pub constructor : new.constructor ≡ old.constructor
  pub variables : new.variables.items ≡ map (rename_variable r) old.variables.items
  pub term : new.term.0 ≡ base + old.term.0

-- Branches with other numbers.
pub record BranchesShifted (r : Renaming) (base : ℕ) (old new : List Branch) : Type 0 where
  pub below : (id : ℕ) → AllByRecursion (IsBranchBelow id) old → AllByRecursion (IsBranchBelow (base + id)) new
  pub are : (id : ℕ) (f g : ℕ → Term) → AllByRecursion (IsBranchBelow id) old → Shifts r base id f g
      → branches_from g new ≡ rename_branches r (branches_from f old)

-- A node with other numbers.
pub record NodeShifted (r : Renaming) (base : ℕ) (old new : Node) : Type 0 where
  pub below : (id : ℕ) → PartsBelow old id → PartsBelow new (base + id)
  pub is : (id : ℕ) (f g : ℕ → Term) → PartsBelow old id → Shifts r base id f g → layer g (Some new) ≡ rename r (layer f (Some old))

-- The first terms with other numbers, behind those that were there.
pub record Copies (xs : List ℕ) (terms : List Node) (count : ℕ) (old new : List Node) : Type 0 where
  pub grows : Grows old new
  pub long : length new ≡ length old + count
  pub are : Shifts (place_in xs) (length old) count (term_of terms) (term_of new)
