-- Texts by number: names.
use Rattle.std.specs.Prelude.{◌≡◌, ◌≤◌, ℕ, Bool, List, [], ◌∷◌, ◌++◌, length, map, Some, slice_get, if◌then◌else◌}
use Rattle.std.specs.List.{list_any, position_or_len}
use Rattle.std.specs.Str.{bytes_eq}
use Rattle.std.specs.Global.{Vec}

-- What the code keeps, as texts.
abbrev pub texts_of : List (Vec ℕ) → List (List ℕ)
texts_of kept = map (λ (v : Vec ℕ). v.items) kept

-- Whether a text is one of the names.
abbrev pub holds : List (List ℕ) → List ℕ → Bool
holds names text = list_any (bytes_eq text) names

-- The number of a text: its place among the names, or the next number where it is new.
abbrev pub number_of : List (List ℕ) → List ℕ → ℕ
number_of names text = position_or_len (bytes_eq text) names

-- The names with a text among them: a new one goes last.
abbrev pub with_name : List (List ℕ) → List ℕ → List (List ℕ)
with_name names text = if holds names text then names else names ++ text ∷ []

-- What names always are: all different, and 65,535 at most.
pub record AreNames (names : List (List ℕ)) : Type 0 where
  pub differ : (i j : ℕ) (text : List ℕ) → slice_get names i ≡ Some text → slice_get names j ≡ Some text → i ≡ j
  pub few : length names ≤ 65535
