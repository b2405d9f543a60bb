-- The names in scope with what stands for them, as the code keeps them.
use Rattle.std.specs.Prelude.{◌≡◌, ℕ, ◌==◌, if◌then◌else◌, List, [], ◌∷◌, Option, Some, None}
use Rattle.gib_base.specs.Entries.{entry_at}
use Rattle.gib_check.specs.declared.scope.Entry.{Entry}

-- Names with what stands for each, the newest first.
abbrev pub ScopeOf : Type 0 → Type 0
ScopeOf A = List (ℕ × A)

-- What stands for the newest of a name.
abbrev pub newest : {A : Type 0} → ScopeOf A → ℕ → Option A
newest [] x = None
newest (b ∷ scope) x = if b.0 == x then Some b.1 else newest scope x

-- Entries, the oldest first, put before a scope.
abbrev pub scope_onto : {A : Type 0} → ScopeOf A → List (Entry A) → ScopeOf A
scope_onto scope [] = scope
scope_onto scope (v ∷ vs) = scope_onto ((v.name.0, v.item) ∷ scope) vs

-- The scope of entries, the oldest first.
abbrev pub scope_of : {A : Type 0} → List (Entry A) → ScopeOf A
scope_of vs = scope_onto [] vs

-- Each entry keeps what stood for its name before it, where entries stand behind a scope.
abbrev pub AreHidden : {A : Type 0} → ScopeOf A → List (Entry A) → Type 0
AreHidden scope [] = Unit {0}
AreHidden scope (v ∷ vs) = (v.hidden ≡ newest scope v.name.0) × AreHidden ((v.name.0, v.item) ∷ scope) vs

-- At the number of each name stands what its newest entry has.
pub record IsScope {A : Type 0} (entries : List (Entry A)) (found : List (Option A)) : Type 0 where
  pub each : (name : ℕ) → entry_at found name ≡ newest (scope_of entries) name
  pub hidden : AreHidden [] entries
