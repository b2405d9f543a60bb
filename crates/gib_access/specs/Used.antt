-- Which variables were used since a time, and what that says of the fields of an arm.
use Rattle.std.specs.Prelude.{◌≡◌, ℕ, ◌≤◌, Bool, false, ◌||◌, if◌then◌else◌, nat_le, slice_index_or, List, [], ◌∷◌}
use Rattle.std.specs.List.{list_any}
use Rattle.gib_types.specs.declared.table.ConId.{ConId}
use Rattle.gib_core.specs.ByVariable.{number_at}
pub use Rattle.gib_core.specs.Noted.{Seen}
use Rattle.gib_core.specs.declared.atom.Variable.{Variable}
use Rattle.gib_core.specs.declared.atom.Access.TheVariants.{Offset, Skip}
use Rattle.gib_core.specs.declared.atom.AccessMode.{AccessMode}
use Rattle.gib_core.specs.declared.atom.AccessMode.TheVariants.{Skips, Offsets, Ends}
use Rattle.gib_core.specs.Tree.{Bind, Reach}

-- The variable was used at this time or later.
abbrev pub since : Seen → ℕ → Variable → Bool
since seen start x = nat_le start (number_at seen.times x.0)

-- Between two moments just these variables were used.
pub record Marks (old new : Seen) (used : Variable → Bool) : Type 0 where
  pub clock : old.clock ≤ new.clock
  pub since : (start : ℕ) → start ≤ old.clock → (x : Variable) → since new start x ≡ (since old start x || used x)

-- No variable.
abbrev pub unused : Variable → Bool
unused x = false

-- An arm begins, at a time since which no variable was used.
pub record Enters (old new : Seen) (start : ℕ) : Type 0 where
  pub marks : Marks old new unused
  pub clock : start ≡ new.clock
  pub fresh : (x : Variable) → since new start x ≡ false

-- What stands directly before the field of a number, where a first field stands before them all.
abbrev pub before_at : Variable → List Variable → ℕ → Variable
before_at z ys i = slice_index_or (z ∷ ys) i z

-- Each of the fields that stand behind a field, up to the last one that is used, is reached by a skip.
abbrev pub skips_by : (Variable → Bool) → Variable → List Variable → List Bind
skips_by used z [] = []
skips_by used z (y ∷ ys) = if list_any used (y ∷ ys) then Reach y (Skip z) ∷ skips_by used y ys else []

-- Each of the fields that is used is reached by its offset.
abbrev pub offsets_by_use : (Variable → Bool) → List Variable → List Bind
offsets_by_use used [] = []
offsets_by_use used (y ∷ ys) = if used y then Reach y Offset ∷ offsets_by_use used ys else offsets_by_use used ys

-- The fields behind the first one are reached at the start: by walks all of them, else these others by their offsets.
abbrev pub reaches_by : AccessMode → (Variable → Bool) → List Variable → List Variable → List Bind
reaches_by mode used [] others = []
reaches_by Skips used (z ∷ ys) others = skips_by used z ys
reaches_by Offsets used (z ∷ ys) others = offsets_by_use used others
reaches_by Ends used (z ∷ ys) others = offsets_by_use used others

-- The constructor, where one of these fields is used.
abbrev pub offset_by : ConId → (Variable → Bool) → List Variable → List ConId
offset_by k used others = if list_any used others then k ∷ [] else []
