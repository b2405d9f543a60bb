-- The table of the copied program.
use Rattle.std.proofs.Common.{◌≡◌, ℕ, zero, suc, ◌+◌, Bool, true, false, ◌==◌, if◌then◌else◌, List, [], ◌∷◌, ◌++◌, map, length, Option, Some, None, refl, sym, ap, ◌∙◌, subst, arith, ⊎_elim}
use Rattle.std.specs.Prelude.{slice_get}
use Rattle.std.specs.Option.{option_map}
use Rattle.std.proofs.lemmas.Option.{same_Some, slice_get-map}
use Rattle.std.proofs.lemmas.Bool.{eq-eqb, or_left, or_right}
use Rattle.gib_types.specs.Table.{Row}
use Rattle.gib_syntax.specs.Declarations.{number_of, place_of, next_place, AreDifferent, row_in, rows_from}
use Rattle.gib_syntax.proofs.Soundness.{place_within, place_found}
use Rattle.gib_syntax.specs.Forms.{Forms, assign}
use Rattle.gib_syntax.specs.GenericTree.{GenericConstructorTree, GenericDataTree, GenericFunctionTree, GenericProgramTree, GenericRow, row_of, rows_of, place_named, data_named}
use Rattle.gib_syntax.specs.GenericTyping.{IsTypedGeneric}
use Rattle.gib_mono.specs.Copying.{Naming, copy_constructor, copy_data}
use Rattle.gib_mono.specs.Walk.{Copy, DataOf, FunctionOf, same_copy, is_found, DataCopy, FunctionCopy, datas_in, function_copies, Made, made_of, made_from}
use Rattle.gib_mono.proofs.Closing.{parts_same}
use Rattle.gib_mono.proofs.Here.{get_more_any, get_behind, get_split, map_found}

-- Places of names

-- names are different where no two places have one name
pub absent_from : (xs : List ℕ) (x : ℕ) → ((i : ℕ) → slice_get xs i ≡ Some x → ⊥) → place_of xs x ≡ None
absent_from xs x h = step (place_of xs x) refl where
  step : (p : Option ℕ) → place_of xs x ≡ p → p ≡ None
  step None e = refl
  step (Some i) e = absurd (h i (place_within xs x i e))

pub place_some : (xs : List ℕ) (x i : ℕ) → slice_get xs i ≡ Some x → (j : ℕ) × (place_of xs x ≡ Some j)
place_some [] x i e = absurd cc
place_some (y ∷ xs) x zero e = (0, rw (eq-eqb y x (same_Some y x e)) refl)
place_some (y ∷ xs) x (suc i) e = step (y == x) (place_some xs x i e) where
  step : (b : Bool) → (j : ℕ) × (place_of xs x ≡ Some j) → (j : ℕ) × ((if b then Some 0 else next_place (place_of xs x)) ≡ Some j)
  step true h = (0, refl)
  step false h = (suc h.0, ap next_place h.1)

pub none_some : (p : Option ℕ) (i : ℕ) → p ≡ Some i → p ≡ None → ⊥
none_some None i e f = cc
none_some (Some j) i e f = cc

pub different_both : (xs ys : List ℕ) → AreDifferent xs → AreDifferent ys → ((i j x : ℕ) → slice_get xs i ≡ Some x → slice_get ys j ≡ Some x → ⊥) → AreDifferent (xs ++ ys)
different_both [] ys h k out = k
different_both (x ∷ xs) ys h k out = (
  absent_from (xs ++ ys) x (λ i e. ⊎_elim (λ (a : slice_get xs i ≡ Some x). let found = place_some xs x i a in none_some (place_of xs x) found.0 found.1 h.0)
      (λ (b : (j : ℕ) × (slice_get ys j ≡ Some x) × (i ≡ length xs + j)). out 0 b.0 x refl b.1) (get_split ℕ xs ys i x e)),
  different_both xs ys h.1 k (λ i j y a b. out (suc i) j y a b),
)

-- a name stands at one place where names are different
pub one_place : (xs : List ℕ) (x i j : ℕ) → AreDifferent xs → slice_get xs i ≡ Some x → slice_get xs j ≡ Some x → i ≡ j
one_place xs x i j d e f = same_Some i j (sym (place_found xs x i d e) ∙ place_found xs x j d f)

pub different_back : (xs ys : List ℕ) → AreDifferent (xs ++ ys) → AreDifferent ys
different_back [] ys h = h
different_back (x ∷ xs) ys h = different_back xs ys h.1

pub map_both : (A B : Type 0) (f : A → B) (xs ys : List A) → map f (xs ++ ys) ≡ map f xs ++ map f ys
map_both A B f [] ys = refl
map_both A B f (x ∷ xs) ys = ap (λ (zs : List B). f x ∷ zs) (map_both A B f xs ys)

-- Rows of the copy

-- the row of a copied constructor
abbrev pub made_row : Naming → List ℕ → Made → Row
made_row nm types m = row_in types m.type_number (copy_constructor nm (assign m.copy.decl.variables m.copy.types) m.copy.types m.constructor)

copied_rows : (nm : Naming) (types : List ℕ) (n : ℕ) (c : DataCopy) (ks : List GenericConstructorTree) →
    map (row_in types n) (map (copy_constructor nm (assign c.decl.variables c.types) c.types) ks) ≡ map (made_row nm types) (map (made_of n c) ks)
copied_rows nm types n c [] = refl
copied_rows nm types n c (k ∷ ks) = ap (λ (rows : List Row). made_row nm types (made_of n c k) ∷ rows) (copied_rows nm types n c ks)

pub rows_made : (nm : Naming) (types : List ℕ) (n : ℕ) (cs : List DataCopy) → rows_from types n (map (λ (c : DataCopy). copy_data nm c.decl c.types) cs) ≡ map (made_row nm types) (made_from n cs)
rows_made nm types n [] = refl
rows_made nm types n (c ∷ cs) =
    ap (λ (rows : List Row). rows ++ rows_from types (suc n) (map (λ (c : DataCopy). copy_data nm c.decl c.types) cs)) (copied_rows nm types n c c.decl.constructors)
    ∙ ap (λ (rows : List Row). map (made_row nm types) (map (made_of n c) c.decl.constructors) ++ rows) (rows_made nm types (suc n) cs)
    ∙ sym (map_both Made Row (made_row nm types) (map (made_of n c) c.decl.constructors) (made_from (suc n) cs))

-- each constructor of each copy has a place
pub made_at : (n : ℕ) (cs : List DataCopy) (i j : ℕ) (c : DataCopy) (k : GenericConstructorTree) → slice_get cs i ≡ Some c → slice_get c.decl.constructors j ≡ Some k → (d : ℕ) × (slice_get (made_from n cs) d ≡ Some (made_of (n + i) c k))
made_at n [] i j c k e f = absurd cc
made_at n (b ∷ cs) zero j c k e f =
    let is : b ≡ c = same_Some b c e in
    let here : slice_get (map (made_of n c) c.decl.constructors) j ≡ Some (made_of n c k) = slice_get-map (made_of n c) c.decl.constructors j ∙ ap (option_map (made_of n c)) f in
    let same : n + 0 ≡ n = omega arith in (
      j,
      subst (λ (u : DataCopy). slice_get (map (made_of n u) u.decl.constructors ++ made_from (suc n) cs) j ≡ Some (made_of (n + 0) c k)) (sym is)
          (get_more_any Made (map (made_of n c) c.decl.constructors) (made_from (suc n) cs) j (made_of n c k) here ∙ ap (λ (m : ℕ). Some (made_of m c k)) (sym same)),
    )
made_at n (b ∷ cs) (suc i) j c k e f =
    let rest = made_at (suc n) cs i j c k e f in
    let same : suc n + i ≡ n + suc i = omega arith in (
      length (map (made_of n b) b.decl.constructors) + rest.0,
      get_behind Made (map (made_of n b) b.decl.constructors) (made_from (suc n) cs) rest.0 (made_of (suc n + i) c k) rest.1 ∙ ap (λ (m : ℕ). Some (made_of m c k)) same,
    )

-- what stands at a place is a constructor of a copy
pub record IsMade (n : ℕ) (cs : List DataCopy) (m : Made) : Type 0 where
  pub index : ℕ
  pub place : ℕ
  pub number : m.type_number ≡ n + index
  pub copied : slice_get cs index ≡ Some m.copy
  pub there : slice_get m.copy.decl.constructors place ≡ Some m.constructor

pub made_found : (n : ℕ) (cs : List DataCopy) (d : ℕ) (m : Made) → slice_get (made_from n cs) d ≡ Some m → IsMade n cs m
made_found n [] d m e = absurd cc
made_found n (c ∷ cs) d m e =
    ⊎_elim (λ (a : slice_get (map (made_of n c) c.decl.constructors) d ≡ Some m). first (map_found GenericConstructorTree Made (made_of n c) c.decl.constructors d m a))
    (λ (b : (j : ℕ) × (slice_get (made_from (suc n) cs) j ≡ Some m) × (d ≡ length (map (made_of n c) c.decl.constructors) + j)). further (made_found (suc n) cs b.0 m b.1))
    (get_split Made (map (made_of n c) c.decl.constructors) (made_from (suc n) cs) d m e) where
      first : (k : GenericConstructorTree) × (slice_get c.decl.constructors d ≡ Some k) × (m ≡ made_of n c k) → IsMade n (c ∷ cs) m
      first k =
          let zero_more : n ≡ n + 0 = omega arith in
          record {
            index = 0;
            place = d;
            number = ap (λ (u : Made). u.type_number) k.2 ∙ zero_more;
            copied = ap (λ (u : Made). Some u.copy) (sym k.2);
            there = ap (λ (u : Made). slice_get u.copy.decl.constructors d) k.2 ∙ k.1 ∙ ap (λ (u : Made). Some u.constructor) (sym k.2);
          }

      further : IsMade (suc n) cs m → IsMade n (c ∷ cs) m
      further h = let e = h.number in record { index = suc h.index; place = h.place; number = omega (arith, e); copied = h.copied; there = h.there }

-- Copies are apart

pub data_in_found : (found : List Copy) (i : ℕ) (c : DataCopy) (d : GenericDataTree) (ts : Forms) → slice_get (datas_in found) i ≡ Some c → number_of c.decl.name ≡ number_of d.name → c.types ≡ ts → is_found found (DataOf d ts) ≡ true
data_in_found [] i c d ts e name types = absurd cc
data_in_found (DataOf b us ∷ cs) zero c d ts e name types =
    let is : record { decl = b; types = us } ≡ c = same_Some (record { decl = b; types = us }) c e in
    or_left (same_copy (DataOf b us) (DataOf d ts)) (is_found cs (DataOf d ts))
    (parts_same (number_of b.name) (number_of d.name) us ts (ap (λ (u : DataCopy). number_of u.decl.name) is ∙ name) (ap (λ (u : DataCopy). u.types) is ∙ types))
data_in_found (DataOf b us ∷ cs) (suc i) c d ts e name types = or_right (same_copy (DataOf b us) (DataOf d ts)) (is_found cs (DataOf d ts)) (data_in_found cs i c d ts e name types)
data_in_found (FunctionOf f us ∷ cs) i c d ts e name types = data_in_found cs i c d ts e name types

pub function_in_found : (found : List Copy) (i : ℕ) (c : FunctionCopy) (f : GenericFunctionTree) (ts : Forms) → slice_get (function_copies found) i ≡ Some c → number_of c.function.name ≡ number_of f.name → c.types ≡ ts → is_found found (FunctionOf f ts) ≡ true
function_in_found [] i c f ts e name types = absurd cc
function_in_found (DataOf b us ∷ cs) i c f ts e name types = function_in_found cs i c f ts e name types
function_in_found (FunctionOf b us ∷ cs) zero c f ts e name types =
    let is : record { function = b; types = us } ≡ c = same_Some (record { function = b; types = us }) c e in
    or_left (same_copy (FunctionOf b us) (FunctionOf f ts)) (is_found cs (FunctionOf f ts))
    (parts_same (number_of b.name) (number_of f.name) us ts (ap (λ (u : FunctionCopy). number_of u.function.name) is ∙ name) (ap (λ (u : FunctionCopy). u.types) is ∙ types))
function_in_found (FunctionOf b us ∷ cs) (suc i) c f ts e name types = or_right (same_copy (FunctionOf b us) (FunctionOf f ts)) (is_found cs (FunctionOf f ts)) (function_in_found cs i c f ts e name types)

-- The constructor of a name is of one declaration

-- rows of a declared type
rows_below : (datas ds : List GenericDataTree) (x : ℕ) (d : GenericDataTree) (j : ℕ) (k : GenericConstructorTree) → data_named ds x ≡ Some d → slice_get d.constructors j ≡ Some k → (c : ℕ) × (slice_get (rows_of ds) c ≡ Some (row_of d k))
rows_below datas [] x d j k e f = absurd cc
rows_below datas (b ∷ ds) x d j k e f = step (number_of b.name == x) e (λ h. rows_below datas ds x d j k h f) where
  step : (t : Bool) → (if t then Some b else data_named ds x) ≡ Some d → (data_named ds x ≡ Some d → (c : ℕ) × (slice_get (rows_of ds) c ≡ Some (row_of d k))) → (c : ℕ) × (slice_get (map (row_of b) b.constructors ++ rows_of ds) c ≡ Some (row_of d k))
  step true h go =
      let is : b ≡ d = same_Some b d h in (
        j,
        subst (λ (u : GenericDataTree). slice_get (map (row_of u) u.constructors ++ rows_of ds) j ≡ Some (row_of d k)) (sym is)
            (get_more_any GenericRow (map (row_of d) d.constructors) (rows_of ds) j (row_of d k) (slice_get-map (row_of d) d.constructors j ∙ ap (option_map (row_of d)) f)),
      )
  step false h go = let c = go h in (length (map (row_of b) b.constructors) + c.0, get_behind GenericRow (map (row_of b) b.constructors) (rows_of ds) c.0 (row_of d k) c.1)

pub rows_at : (p : GenericProgramTree) (d : GenericDataTree) (j : ℕ) (k : GenericConstructorTree) → data_named p.datas (number_of d.name) ≡ Some d → slice_get d.constructors j ≡ Some k → (c : ℕ) × (slice_get (rows_of p.datas) c ≡ Some (row_of d k))
rows_at p d j k e f = rows_below p.datas p.datas (number_of d.name) d j k e f

-- constructors of one name stand at one place
pub one_row : (p : GenericProgramTree) → IsTypedGeneric p → (c d : ℕ) (row other : GenericRow) → slice_get (rows_of p.datas) c ≡ Some row → slice_get (rows_of p.datas) d ≡ Some other → row.name ≡ other.name → c ≡ d
one_row p typed c d row other e f same =
    one_place (map (λ (r : GenericRow). r.name) (rows_of p.datas)) row.name c d typed.constructors_differ
    (slice_get-map (λ (r : GenericRow). r.name) (rows_of p.datas) c ∙ ap (option_map (λ (r : GenericRow). r.name)) e)
    (slice_get-map (λ (r : GenericRow). r.name) (rows_of p.datas) d ∙ ap (option_map (λ (r : GenericRow). r.name)) f ∙ ap Some (sym same))

-- a row is found by its name
pub row_placed : (p : GenericProgramTree) → IsTypedGeneric p → (c : ℕ) (row : GenericRow) → slice_get (rows_of p.datas) c ≡ Some row → place_named (rows_of p.datas) row.name ≡ Some c
row_placed p typed c row e =
    place_found (map (λ (r : GenericRow). r.name) (rows_of p.datas)) row.name c typed.constructors_differ
    (slice_get-map (λ (r : GenericRow). r.name) (rows_of p.datas) c ∙ ap (option_map (λ (r : GenericRow). r.name)) e)
