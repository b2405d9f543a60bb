-- Constructors by their names' texts.
use Rattle.std.proofs.Common.{◌≡◌, ℕ, ◌<◌, List, [], length, Option, Some, None, MatchOption, slice_get, sym, ap, ◌∙◌}
use Rattle.std.proofs.lemmas.Option.{slice_get-get_or, unwrap_or-slice_get}
use Rattle.std.specs.Prelude.{unwrap_or}
use Rattle.gib_types.specs.declared.table.TyId.{TyId}
use Rattle.gib_types.specs.declared.table.ConId.{ConId}
use Rattle.gib_types.specs.Table.{Table, con_at, name_at}
use Rattle.gib_value.specs.Text.{con_text}
use Rattle.gib_value.specs.Reading.{AreTold}
use Rattle.gib_value.proofs.Complete.{own_within}

-- a constructor's name is held as its text
pub text_held : (table : Table) (names : List (List ℕ)) (k : ℕ) (token : List ℕ) → name_at table k < length names → token ≡ con_text table names k
    → slice_get names (name_at table k) ≡ Some token
text_held table names k token lt is =
    let at = slice_get-get_or names (name_at table k) [] lt in
    at ∙ ap Some (sym (unwrap_or-slice_get names (name_at table k) [])) ∙ ap Some (sym is)

-- a text that no name has is that of no constructor
pub no_text : (table : Table) (names : List (List ℕ)) (t : TyId) (token : List ℕ) → AreTold table names → ((number : ℕ) → slice_get names number ≡ Some token → ⊥)
    → (con : ConId) → con_at table t.0 con.0 ≡ Some con.0 → token ≡ con_text table names con.0 → ⊥
no_text table names t token told absent con own is =
    absent (name_at table con.0) (text_held table names con.0 token (told.held con.0 (own_within table t.0 con.0 own)) is)

-- a constructor whose name has this number has its text
pub named_text : (table : Table) (names : List (List ℕ)) (token : List ℕ) (number con : ℕ) → slice_get names number ≡ Some token → name_at table con ≡ number → token ≡ con_text table names con
named_text table names token number con at named = sym (ap (λ (n : ℕ). unwrap_or (slice_get names n) []) named ∙ ap (λ o. unwrap_or o []) at)

-- and it is the only one of its type
pub only_one : (table : Table) (names : List (List ℕ)) (t : TyId) (token : List ℕ) (con : ConId) → AreTold table names → con_at table t.0 con.0 ≡ Some con.0 → token ≡ con_text table names con.0
    → (other : ConId) → con_at table t.0 other.0 ≡ Some other.0 → token ≡ con_text table names other.0 → other.0 ≡ con.0
only_one table names t token con told own is other others has = told.apart t.0 other.0 con.0 others own (sym has ∙ is)

-- so one that is found is the only one
pub only_found : (table : Table) (names : List (List ℕ)) (t : TyId) (token : List ℕ) → AreTold table names → (found : Option ConId)
    → MatchOption found ((con : ConId) → con_at table t.0 con.0 ≡ Some con.0 → token ≡ con_text table names con.0 → ⊥)
    (λ con. (con_at table t.0 con.0 ≡ Some con.0) × (token ≡ con_text table names con.0) × (con.0 < length table.rows))
    → MatchOption found ((con : ConId) → con_at table t.0 con.0 ≡ Some con.0 → token ≡ con_text table names con.0 → ⊥)
    (λ con. (con_at table t.0 con.0 ≡ Some con.0) × (token ≡ con_text table names con.0) × (con.0 < length table.rows)
    × ((other : ConId) → con_at table t.0 other.0 ≡ Some other.0 → token ≡ con_text table names other.0 → other.0 ≡ con.0))
only_found table names t token told None h = h
only_found table names t token told (Some con) (own, is, within) = (own, is, within, only_one table names t token con told own is)
