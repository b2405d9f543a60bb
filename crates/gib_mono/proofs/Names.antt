-- Copies are named apart.
use Rattle.std.proofs.Common.{◌≡◌, ℕ, zero, suc, ◌+◌, ◌<◌, Bool, true, false, ◌==◌, ◌&&◌, ◌||◌, if◌then◌else◌, List, [], ◌∷◌, ◌++◌, map, length, Some, refl, sym, ap, ◌∙◌, arith, ◌⊎◌, inl, inr}
use Rattle.std.specs.Prelude.{slice_get}
use Rattle.std.specs.Option.{option_map}
use Rattle.std.proofs.lemmas.Option.{same_Some, slice_get-map}
use Rattle.std.proofs.lemmas.Bool.{eqb-true, and_parts}
use Rattle.gib_syntax.specs.Declarations.{number_of}
use Rattle.gib_syntax.specs.Forms.{Forms, NoForm, MoreForms}
use Rattle.gib_syntax.specs.GenericTree.{GenericConstructorTree}
use Rattle.gib_mono.specs.Copied.{Item}
use Rattle.gib_types.specs.SameForm.{same_forms}
use Rattle.gib_mono.specs.Walk.{Copy, DataOf, FunctionOf, DataCopy, FunctionCopy, datas_in, function_copies, IsNaming}
use Rattle.gib_mono.specs.Naming.{entry, copy_entries, listed_entries, is_entry, with_entry, with_entries, entries, entry_place, number_with, naming_of, AreBelow}
use Rattle.gib_types.proofs.SameForms.{same_forms_are}
use Rattle.gib_mono.proofs.Closing.{parts_same}
use Rattle.gib_mono.proofs.Here.{get_more_any, get_behind}

-- the entry at the place of one that stands there is that one
pub place_right : (names : List Item) (n : ℕ) (x : ℕ) (ts : Forms) → slice_get names n ≡ Some (entry x ts) → slice_get names (entry_place names x ts) ≡ Some (entry x ts)
place_right [] n x ts e = absurd cc
place_right (i ∷ is) n x ts e = step ((i.name == x) && same_forms i.types ts) refl (λ m f. place_right is m x ts f) where
  here : (i.name == x) && same_forms i.types ts ≡ true → i ≡ entry x ts
  here h =
      let both = and_parts (i.name == x) (same_forms i.types ts) h in
      ap (λ (k : ℕ). entry k i.types) (eqb-true i.name x both.0) ∙ ap (entry x) (same_forms_are i.types ts both.1)

  crossed : (b : Bool) → b ≡ true → b ≡ false → ⊥
  crossed true f g = cc
  crossed false f g = cc

  later : (n : ℕ) → slice_get (i ∷ is) n ≡ Some (entry x ts) → (i.name == x) && same_forms i.types ts ≡ false → (m : ℕ) × (slice_get is m ≡ Some (entry x ts))
  later zero f out =
      let is_it = same_Some i (entry x ts) f in
      absurd (crossed ((i.name == x) && same_forms i.types ts) (parts_same i.name x i.types ts (ap (λ (u : Item). u.name) is_it) (ap (λ (u : Item). u.types) is_it)) out)
  later (suc m) f out = (m, f)

  step : (b : Bool) → ((i.name == x) && same_forms i.types ts) ≡ b → ((m : ℕ) → slice_get is m ≡ Some (entry x ts) → slice_get is (entry_place is x ts) ≡ Some (entry x ts)) →
      slice_get (i ∷ is) (if b then 0 else suc (entry_place is x ts)) ≡ Some (entry x ts)
  step true h go = ap Some (here h)
  step false h go = let k = later n e h in go k.0 k.1

-- different entries have different numbers
apart : (base : ℕ) (names : List Item) → ((n : ℕ) (i : Item) → slice_get names n ≡ Some i → i.name < base) → (m n : ℕ) (x y : ℕ) (ts us : Forms) →
    slice_get names m ≡ Some (entry x ts) → slice_get names n ≡ Some (entry y us) → number_with base names x ts ≡ number_with base names y us → entry x ts ≡ entry y us
apart base names below m n x y NoForm NoForm e f same = ap (λ (k : ℕ). entry k NoForm) same
apart base names below m n x y NoForm (MoreForms u us) e f same = let a = below m (entry x NoForm) e in absurd (omega (arith, a, same))
apart base names below m n x y (MoreForms t ts) NoForm e f same = let a = below n (entry y NoForm) f in absurd (omega (arith, a, same))
apart base names below m n x y (MoreForms t ts) (MoreForms u us) e f same =
    let place : entry_place names x (MoreForms t ts) ≡ entry_place names y (MoreForms u us) = omega (arith, same) in
    same_Some (entry x (MoreForms t ts)) (entry y (MoreForms u us))
    (sym (place_right names m x (MoreForms t ts) e) ∙ ap (slice_get names) place ∙ place_right names n y (MoreForms u us) f)

-- each copy's names are listed
further : (c : Copy) (cs : List Copy) (i : Item) → (n : ℕ) × (slice_get (listed_entries cs) n ≡ Some i) → (n : ℕ) × (slice_get (copy_entries c ++ listed_entries cs) n ≡ Some i)
further c cs i h = (length (copy_entries c) + h.0, get_behind Item (copy_entries c) (listed_entries cs) h.0 i h.1)

types_listed : (found : List Copy) (i : ℕ) (c : DataCopy) → slice_get (datas_in found) i ≡ Some c → (n : ℕ) × (slice_get (listed_entries found) n ≡ Some (entry (number_of c.decl.name) c.types))
types_listed [] i c e = absurd cc
types_listed (DataOf d ts ∷ cs) zero c e = (0, ap (λ (u : DataCopy). Some (entry (number_of u.decl.name) u.types)) (same_Some (record { decl = d; types = ts }) c e))
types_listed (DataOf d ts ∷ cs) (suc i) c e = further (DataOf d ts) cs (entry (number_of c.decl.name) c.types) (types_listed cs i c e)
types_listed (FunctionOf f ts ∷ cs) i c e = further (FunctionOf f ts) cs (entry (number_of c.decl.name) c.types) (types_listed cs i c e)

constructors_listed : (found : List Copy) (i j : ℕ) (c : DataCopy) (k : GenericConstructorTree) → slice_get (datas_in found) i ≡ Some c → slice_get c.decl.constructors j ≡ Some k → (n : ℕ) × (slice_get (listed_entries found) n ≡ Some (entry (number_of k.name) c.types))
constructors_listed [] i j c k e f = absurd cc
constructors_listed (DataOf d ts ∷ cs) zero j c k e f =
    let is = same_Some (record { decl = d; types = ts }) c e in
    let at : slice_get d.constructors j ≡ Some k = ap (λ (u : DataCopy). slice_get u.decl.constructors j) is ∙ f in (
      suc j,
      get_more_any Item (map (λ (k : GenericConstructorTree). entry (number_of k.name) ts) d.constructors) (listed_entries cs) j (entry (number_of k.name) ts)
          (slice_get-map (λ (k : GenericConstructorTree). entry (number_of k.name) ts) d.constructors j ∙ ap (option_map (λ (k : GenericConstructorTree). entry (number_of k.name) ts)) at)
          ∙ ap (λ (u : DataCopy). Some (entry (number_of k.name) u.types)) is,
    )
constructors_listed (DataOf d ts ∷ cs) (suc i) j c k e f = further (DataOf d ts) cs (entry (number_of k.name) c.types) (constructors_listed cs i j c k e f)
constructors_listed (FunctionOf h ts ∷ cs) i j c k e f = further (FunctionOf h ts) cs (entry (number_of k.name) c.types) (constructors_listed cs i j c k e f)

functions_listed : (found : List Copy) (i : ℕ) (c : FunctionCopy) → slice_get (function_copies found) i ≡ Some c → (n : ℕ) × (slice_get (listed_entries found) n ≡ Some (entry (number_of c.function.name) c.types))
functions_listed [] i c e = absurd cc
functions_listed (DataOf d ts ∷ cs) i c e = further (DataOf d ts) cs (entry (number_of c.function.name) c.types) (functions_listed cs i c e)
functions_listed (FunctionOf f ts ∷ cs) zero c e = (0, ap (λ (u : FunctionCopy). Some (entry (number_of u.function.name) u.types)) (same_Some (record { function = f; types = ts }) c e))
functions_listed (FunctionOf f ts ∷ cs) (suc i) c e = further (FunctionOf f ts) cs (entry (number_of c.function.name) c.types) (functions_listed cs i c e)

-- what is listed is an entry

or_true : (a b : Bool) → (a || b) ≡ true → (a ≡ true) ⊎ (b ≡ true)
or_true true b e = inl e
or_true false b e = inr e

same_item : (i j : Item) → ((j.name == i.name) && same_forms j.types i.types) ≡ true → j ≡ i
same_item i j h =
    let both = and_parts (j.name == i.name) (same_forms j.types i.types) h in
    ap (λ (k : ℕ). entry k j.types) (eqb-true j.name i.name both.0) ∙ ap (entry i.name) (same_forms_are j.types i.types both.1)

entry_there : (items : List Item) (i : Item) → is_entry items i ≡ true → (n : ℕ) × (slice_get items n ≡ Some i)
entry_there [] i h = absurd cc
entry_there (j ∷ items) i h = by (or_true ((j.name == i.name) && same_forms j.types i.types) (is_entry items i) h) (λ f. entry_there items i f) where
  by : (((j.name == i.name) && same_forms j.types i.types) ≡ true) ⊎ (is_entry items i ≡ true) → (is_entry items i ≡ true → (n : ℕ) × (slice_get items n ≡ Some i)) → (n : ℕ) × (slice_get (j ∷ items) n ≡ Some i)
  by (inl f) go = (0, ap Some (same_item i j f))
  by (inr f) go = let k = go f in (suc k.0, k.1)

last_there : (items : List Item) (i : Item) → (n : ℕ) × (slice_get (items ++ i ∷ []) n ≡ Some i)
last_there [] i = (0, refl)
last_there (j ∷ items) i = let k = last_there items i in (suc k.0, k.1)

put_there : (items : List Item) (i : Item) → (n : ℕ) × (slice_get (with_entry items i) n ≡ Some i)
put_there items i = by (is_entry items i) refl where
  by : (b : Bool) → is_entry items i ≡ b → (n : ℕ) × (slice_get (if b then items else items ++ i ∷ []) n ≡ Some i)
  by true e = entry_there items i e
  by false e = last_there items i

put_stays : (items : List Item) (j i : Item) (n : ℕ) → slice_get items n ≡ Some i → slice_get (with_entry items j) n ≡ Some i
put_stays items j i n e = by (is_entry items j) where
  by : (b : Bool) → slice_get (if b then items else items ++ j ∷ []) n ≡ Some i
  by true = e
  by false = get_more_any Item items (j ∷ []) n i e

all_stay : (items js : List Item) (i : Item) (n : ℕ) → slice_get items n ≡ Some i → slice_get (with_entries items js) n ≡ Some i
all_stay items [] i n e = e
all_stay items (j ∷ js) i n e = all_stay (with_entry items j) js i n (put_stays items j i n e)

listed_there : (items js : List Item) (i : Item) (n : ℕ) → slice_get js n ≡ Some i → (k : ℕ) × (slice_get (with_entries items js) k ≡ Some i)
listed_there items [] i n e = absurd cc
listed_there items (j ∷ js) i zero e =
    let k = put_there items j in
    (k.0, all_stay (with_entry items j) js i k.0 (k.1 ∙ e))
listed_there items (j ∷ js) i (suc n) e = listed_there (with_entry items j) js i n e

pub types_named : (found : List Copy) (i : ℕ) (c : DataCopy) → slice_get (datas_in found) i ≡ Some c → (n : ℕ) × (slice_get (entries found) n ≡ Some (entry (number_of c.decl.name) c.types))
types_named found i c e = let k = types_listed found i c e in listed_there [] (listed_entries found) (entry (number_of c.decl.name) c.types) k.0 k.1

pub constructors_named : (found : List Copy) (i j : ℕ) (c : DataCopy) (k : GenericConstructorTree) → slice_get (datas_in found) i ≡ Some c → slice_get c.decl.constructors j ≡ Some k → (n : ℕ) × (slice_get (entries found) n ≡ Some (entry (number_of k.name) c.types))
constructors_named found i j c k e f = let q = constructors_listed found i j c k e f in listed_there [] (listed_entries found) (entry (number_of k.name) c.types) q.0 q.1

functions_named : (found : List Copy) (i : ℕ) (c : FunctionCopy) → slice_get (function_copies found) i ≡ Some c → (n : ℕ) × (slice_get (entries found) n ≡ Some (entry (number_of c.function.name) c.types))
functions_named found i c e = let k = functions_listed found i c e in listed_there [] (listed_entries found) (entry (number_of c.function.name) c.types) k.0 k.1

pub named : (found : List Copy) (base : ℕ) → AreBelow base found → IsNaming (naming_of base (entries found)) (entries found) found
named found base below = record {
  types = types_named found;
  constructors = constructors_named found;
  functions = functions_named found;
  types_apart = λ m n a b e f same. apart base (entries found) below m n a.name b.name a.types b.types e f same;
  constructors_apart = λ m n a b e f same. apart base (entries found) below m n a.name b.name a.types b.types e f same;
  functions_apart = λ m n a b e f same. apart base (entries found) below m n a.name b.name a.types b.types e f same;
}
