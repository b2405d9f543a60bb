-- The places of arms by their constructors, and by the constructors' names.
use Rattle.std.proofs.Common.{◌≡◌, ℕ, ◌<◌, Bool, true, false, cond, eqb, List, [], ◌∷◌, length, get_or, Option, Some, None, refl, sym, ap, ◌∙◌, arith, slice_get}
use Rattle.std.proofs.lemmas.Bool.{eqb-true, eq-eqb, ne_eqb, eqb-false}
use Rattle.std.proofs.lemmas.List.{length-map}
use Rattle.std.proofs.lemmas.Option.{slice_get-map, slice_get-get_or, same_Some}
use Rattle.std.specs.Prelude.{option_map}
use Rattle.gib_types.specs.Table.{Row, Table, name_of, name_at}
use Rattle.gib_syntax.specs.Declarations.{place_of, next_place, AreDifferent, constructor_names, constructor_named}
use Rattle.gib_check.specs.ArmPlaces.{is_number, place_named}
use Rattle.gib_check.proofs.Different.{place_within}
use Rattle.gib_syntax.proofs.Soundness.{place_within as place_read, place_found}

name_there : (table : Table) (con : ℕ) → con < length table.rows → slice_get (constructor_names table) con ≡ Some (name_at table con)
name_there table con lt =
    slice_get-map (λ (r : Row). r.name) table.rows con ∙ go (slice_get table.rows con) (slice_get-get_or table.rows con (record { name = 0; owner = 0; fields = [] }) lt) where
      go : (o : Option Row) → o ≡ Some (get_or table.rows con (record { name = 0; owner = 0; fields = [] })) → option_map (λ (r : Row). r.name) o ≡ Some (name_of o)
      go None e = absurd cc
      go (Some r) e = refl

is_its_name : (table : Table) (k con : ℕ) → AreDifferent (constructor_names table) → con < length table.rows → is_number (constructor_named table k) con ≡ eqb k (name_at table con)
is_its_name table k con d lt = go (eqb k (name_at table con)) refl where
  names : List ℕ
  names = constructor_names table

  other : (o : Option ℕ) → constructor_named table k ≡ o → eqb k (name_at table con) ≡ false → is_number o con ≡ false
  other None e q = refl
  other (Some c) e q = ne_eqb c con (λ same. eqb-false k (name_at table con) q (same_Some k (name_at table con) (sym (place_read names k c e) ∙ ap (slice_get names) same ∙ name_there table con lt)))

  go : (b : Bool) → eqb k (name_at table con) ≡ b → is_number (constructor_named table k) con ≡ b
  go true q = ap (λ o. is_number o con) (ap (λ z. place_of names z) (eqb-true k (name_at table con) q) ∙ place_found names (name_at table con) con d (name_there table con lt)) ∙ eq-eqb con con refl
  go false q = other (constructor_named table k) refl q

-- The first name of a constructor is the first that is its name.
pub place_by_name : (table : Table) (ks : List ℕ) (con : ℕ) → AreDifferent (constructor_names table) → con < length table.rows → place_named table ks con ≡ place_of ks (name_at table con)
place_by_name table [] con d lt = refl
place_by_name table (k ∷ ks) con d lt = (λ i. cond (is_its_name table k con d lt i) (Some 0) (next_place (place_by_name table ks con d lt i)))

-- A constructor that is found is one of the table's.
pub named_within : (table : Table) (k con : ℕ) (o : Option ℕ) → o ≡ constructor_named table k → o ≡ Some con → con < length table.rows
named_within table k con o e s = let lt = place_within (constructor_names table) k con (sym e ∙ s) in omega (arith, lt, length-map table.rows (λ (r : Row). r.name))
