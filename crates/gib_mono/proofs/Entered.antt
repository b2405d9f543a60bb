-- Names of copies as the code keeps them are the entries.
use Rattle.std.proofs.Common.{◌≡◌, ℕ, suc, ◌+◌, ◌≤◌, ◌==◌, ◌&&◌, ◌||◌, nat_lt, Bool, true, false, cond, if◌then◌else◌, List, [], ◌∷◌, ◌++◌, length, map, Some, None, refl, sym, ap, ap₂, ◌∙◌, arith, position}
use Rattle.std.specs.List.{list_any, position_or_len}
use Rattle.std.proofs.lemmas.Bool.{eqb-true, eq-eqb, ltb-false}
use Rattle.std.proofs.lemmas.List.Recursion.{is_position_or_len}
use Rattle.indexmap.specs.IndexSet.{insert_key}
use Rattle.gib_types.specs.Form.{Form}
use Rattle.gib_types.specs.Types.{forms_at, AreBelow, AreOnce}
use Rattle.gib_mono.specs.declared.entries.Entry.{Entry}
use Rattle.gib_types.specs.SameForm.{same_forms}
use Rattle.gib_mono.specs.Naming.{is_entry, with_entry, entry_place}
use Rattle.gib_mono.specs.Entries.{same_key, has_key, with_key, place_in, item_of, AreEntriesBelow}
use Rattle.gib_mono.proofs.Keys.{ids_is, ids_forms, same_bool}

abbrev pub entry_eq : Entry → Entry → Bool
entry_eq = (Rattle.gib_mono.specs.contracts.entries.EntryPartialEq.TheImpl.eq-value).it

entry_is : (a b : Entry) → entry_eq a b ≡ same_key a b
entry_is a b = ap (λ t. (a.name == b.name) && t) (ids_is a.types.items b.types.items)

any_is : (e : Entry) (ks : List Entry) → list_any (entry_eq e) ks ≡ has_key ks e
any_is e [] = refl
any_is e (k ∷ ks) = ap₂ (λ s t. s || t) (entry_is e k) (any_is e ks)

pub put_is : (ks : List Entry) (e : Entry) → insert_key entry_eq ks e ≡ with_key ks e
put_is ks e = ap (λ b. if b then ks else ks ++ e ∷ []) (any_is e ks)

step_is : (e k : Entry) (n : ℕ) → (if same_key e k then 0 else suc n) ≡ cond (entry_eq e k) 0 (1 + n)
step_is e k n = let s : suc n ≡ 1 + n = omega arith in ap₂ (λ b m. if b then 0 else m) (sym (entry_is e k)) s

place_is : (ks : List Entry) (e : Entry) → place_in ks e ≡ position_or_len (entry_eq e) ks
place_is ks e = is_position_or_len (λ xs. place_in xs e) (entry_eq e) refl (λ k xs. step_is e k (place_in xs e)) ks

place_few : (ks : List Entry) (e : Entry) → place_in ks e ≤ length ks
place_few [] e = omega arith
place_few (k ∷ ks) e = by (same_key e k) (place_few ks e) where
  by : (b : Bool) → place_in ks e ≤ length ks → (if b then 0 else suc (place_in ks e)) ≤ length (k ∷ ks)
  by true l = omega arith
  by false l = omega (arith, l)

pub placed_some : (ks : List Entry) (e : Entry) (i : ℕ) → Some i ≡ position (entry_eq e) ks → i ≡ place_in ks e
placed_some ks e i h = by (nat_lt (position_or_len (entry_eq e) ks) (length ks)) h ∙ sym (place_is ks e) where
  by : (b : Bool) → Some i ≡ cond b (Some (position_or_len (entry_eq e) ks)) None → i ≡ position_or_len (entry_eq e) ks
  by true f = cc
  by false f = absurd cc

pub placed_none : (ks : List Entry) (e : Entry) → None ≡ position (entry_eq e) ks → length ks ≡ place_in ks e
placed_none ks e h = by (nat_lt (position_or_len (entry_eq e) ks) (length ks)) refl h where
  by : (b : Bool) → nat_lt (position_or_len (entry_eq e) ks) (length ks) ≡ b → None ≡ cond b (Some (position_or_len (entry_eq e) ks)) None → length ks ≡ place_in ks e
  by true g f = absurd cc
  by false g f =
      let l = ltb-false (position_or_len (entry_eq e) ks) (length ks) g in
      let m = place_few ks e in
      let n = place_is ks e in
      omega (arith, l, m, n)

-- as entries

turned : (a b : ℕ) → (a == b) ≡ (b == a)
turned a b = same_bool (a == b) (b == a) (λ h. eq-eqb b a (sym (eqb-true a b h))) (λ h. eq-eqb a b (sym (eqb-true b a h)))

module _ (fs : List Form) (once : AreOnce fs) where
  key_item : (e k : Entry) → AreBelow (length fs) e.types.items → AreBelow (length fs) k.types.items → same_key e k ≡ ((k.name == e.name) && same_forms (forms_at fs k.types.items) (forms_at fs e.types.items))
  key_item e k p q = ap₂ (λ s t. s && t) (turned e.name k.name) (ids_forms fs e.types.items k.types.items once p q)

  has_item : (ks : List Entry) (e : Entry) → AreEntriesBelow (length fs) ks → AreBelow (length fs) e.types.items → has_key ks e ≡ is_entry (map (item_of fs) ks) (item_of fs e)
  has_item [] e h p = refl
  has_item (k ∷ ks) e h p = ap₂ (λ s t. s || t) (key_item e k p h.0) (has_item ks e h.1 p)

  map_last : (ks : List Entry) (e : Entry) → map (item_of fs) (ks ++ e ∷ []) ≡ map (item_of fs) ks ++ item_of fs e ∷ []
  map_last [] e = refl
  map_last (k ∷ ks) e = ap (λ l. item_of fs k ∷ l) (map_last ks e)

  pub with_item : (ks : List Entry) (e : Entry) → AreEntriesBelow (length fs) ks → AreBelow (length fs) e.types.items → map (item_of fs) (with_key ks e) ≡ with_entry (map (item_of fs) ks) (item_of fs e)
  with_item ks e h p = by (has_key ks e) ∙ ap (λ b. if b then map (item_of fs) ks else map (item_of fs) ks ++ item_of fs e ∷ []) (has_item ks e h p) where
    by : (b : Bool) → map (item_of fs) (if b then ks else ks ++ e ∷ []) ≡ (if b then map (item_of fs) ks else map (item_of fs) ks ++ item_of fs e ∷ [])
    by true = refl
    by false = map_last ks e

  pub place_item : (ks : List Entry) (e : Entry) → AreEntriesBelow (length fs) ks → AreBelow (length fs) e.types.items → place_in ks e ≡ entry_place (map (item_of fs) ks) e.name (forms_at fs e.types.items)
  place_item [] e h p = refl
  place_item (k ∷ ks) e h p = ap₂ (λ b n. if b then 0 else suc n) (key_item e k p h.0) (place_item ks e h.1 p)

pub with_below : (n : ℕ) (ks : List Entry) (e : Entry) → AreEntriesBelow n ks → AreBelow n e.types.items → AreEntriesBelow n (with_key ks e)
with_below n ks e h p = by (has_key ks e) where
  all : (xs : List Entry) → AreEntriesBelow n xs → AreEntriesBelow n (xs ++ e ∷ [])
  all [] q = (p, tt)
  all (x ∷ xs) q = (q.0, all xs q.1)

  by : (b : Bool) → AreEntriesBelow n (if b then ks else ks ++ e ∷ [])
  by true = h
  by false = all ks h
