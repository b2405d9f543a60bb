-- The table of a typed program keeps its rules.
use Rattle.std.proofs.Common.{◌≡◌, ℕ, zero, suc, ◌+◌, ◌<◌, ◌≤◌, cond, List, [], ◌∷◌, ◌++◌, map, length, Option, Some, None, refl, sym, ap, ◌∙◌, subst, arith}
use Rattle.std.proofs.lemmas.Bool.{eq-eqb}
use Rattle.std.proofs.lemmas.List.{length-map}
use Rattle.std.specs.Prelude.{slice_get}
use Rattle.std.specs.List.{AllByRecursion}
use Rattle.gib_types.specs.declared.table.Ty.{Ty}
use Rattle.gib_types.specs.Table.{Row, if_owned, IsTyBelow, IsRow, IsTable}
use Rattle.gib_syntax.specs.declared.tree.TypeName.{TypeName}
use Rattle.gib_syntax.specs.declared.tree.TypeName.TheVariants as ty
use Rattle.gib_syntax.specs.Tree.{ConstructorTree, DataTree, ProgramTree}
use Rattle.gib_syntax.specs.Fine.{HasConstructor}
use Rattle.gib_syntax.specs.Declarations.{number_of, place_of, tree_type, type_names, type_or, type_of_name, row_in, rows_from, table_of_program}
use Rattle.gib_syntax.specs.Typing.{IsKnown, HasKnownFields, HasKnownConstructors}
use Rattle.gib_check.proofs.Different.{different_places, place_within}
use Rattle.gib_check.proofs.PlainRows.{DatasTyped, data_number}

pub all_at : {A : Type 0} (P : A → Type 0) (xs : List A) (i : ℕ) (x : A) → AllByRecursion P xs → slice_get xs i ≡ Some x → P x
all_at P [] i x h e = absurd cc
all_at P (y ∷ ys) zero x h e = let same : y ≡ x = cc in subst P same h.0
all_at P (y ∷ ys) (suc i) x h e = all_at P ys i x h.1 e

all_append : {A : Type 0} (P : A → Type 0) (xs ys : List A) → AllByRecursion P xs → AllByRecursion P ys → AllByRecursion P (xs ++ ys)
all_append P [] ys h k = k
all_append P (x ∷ xs) ys h k = (h.0, all_append P xs ys h.1 k)

pub get_map : {A B : Type 0} (f : A → B) (xs : List A) (i : ℕ) (x : A) → slice_get xs i ≡ Some x → slice_get (map f xs) i ≡ Some (f x)
get_map f [] i x e = absurd cc
get_map f (y ∷ ys) zero x e = let same : y ≡ x = cc in ap (λ z. Some (f z)) same
get_map f (y ∷ ys) (suc i) x e = get_map f ys i x e

-- The types that are written are known.
below_place : (n : ℕ) (types : List ℕ) (x : ℕ) (o : Option ℕ) (t : Ty) → length types ≤ n → ((i : ℕ) → o ≡ Some i → i < length types) → tree_type o ≡ Some t → IsTyBelow n (type_or (tree_type o))
below_place n types x None t l h e = tt
below_place n types x (Some i) t l h e = (let k = h i refl in omega (arith, k, l))

below : (n : ℕ) (types : List ℕ) (a : TypeName) → length types ≤ n → IsKnown types a → IsTyBelow n (type_of_name types a)
below n types (ty.Whole p) l h = tt
below n types (ty.Truth p) l h = tt
below n types (ty.Declared x) l h = below_place n types (number_of x) (place_of types (number_of x)) h.0 l (λ i e. place_within types (number_of x) i e) h.1

fields_below : (n : ℕ) (types : List ℕ) (fields : List TypeName) → length types ≤ n → AllByRecursion (IsKnown types) fields → AllByRecursion (IsTyBelow n) (map (type_of_name types) fields)
fields_below n types [] l h = tt
fields_below n types (a ∷ fields) l h = (below n types a l h.0, fields_below n types fields l h.1)

rows_of_type : (n : ℕ) (types : List ℕ) (owner : ℕ) (cs : List ConstructorTree) → length types ≤ n → owner < n → AllByRecursion (HasKnownFields types) cs → AllByRecursion (IsRow n) (map (row_in types owner) cs)
rows_of_type n types owner [] l o h = tt
rows_of_type n types owner (c ∷ cs) l o h =
    (record { owned = o; few = (let e = length-map c.fields (type_of_name types) in let s = h.0.0 in omega (arith, e, s)); known = fields_below n types c.fields l h.0.1 }, rows_of_type n types owner cs l o h.1)

rows_are : (n : ℕ) (types : List ℕ) (owner : ℕ) (ds : List DataTree) → length types ≤ n → owner + length ds ≤ n → AllByRecursion (HasKnownConstructors types) ds → AllByRecursion (IsRow n) (rows_from types owner ds)
rows_are n types owner [] l o h = tt
rows_are n types owner (d ∷ ds) l o h =
    all_append (IsRow n) (map (row_in types owner) d.constructors) (rows_from types (suc owner) ds)
    (rows_of_type n types owner d.constructors l (omega (arith, o)) h.0) (rows_are n types (suc owner) ds l (omega (arith, o)) h.1)

-- Owners in order.
abbrev AtLeast : ℕ → Row → Type 0
AtLeast n r = n ≤ r.owner

abbrev Ordered : List Row → Type 0
Ordered [] = Unit {0}
Ordered (r ∷ rs) = AllByRecursion (AtLeast r.owner) rs × Ordered rs

more_least : (m n : ℕ) (rs : List Row) → m ≤ n → AllByRecursion (AtLeast n) rs → AllByRecursion (AtLeast m) rs
more_least m n [] le h = tt
more_least m n (r ∷ rs) le h = (let k = h.0 in omega (arith, k, le), more_least m n rs le h.1)

own_least : (types : List ℕ) (owner : ℕ) (cs : List ConstructorTree) → AllByRecursion (AtLeast owner) (map (row_in types owner) cs)
own_least types owner [] = tt
own_least types owner (c ∷ cs) = (omega arith, own_least types owner cs)

rows_least : (types : List ℕ) (owner : ℕ) (ds : List DataTree) → AllByRecursion (AtLeast owner) (rows_from types owner ds)
rows_least types owner [] = tt
rows_least types owner (d ∷ ds) =
    all_append (AtLeast owner) (map (row_in types owner) d.constructors) (rows_from types (suc owner) ds)
    (own_least types owner d.constructors) (more_least owner (suc owner) (rows_from types (suc owner) ds) (omega arith) (rows_least types (suc owner) ds))

own_ordered : (types : List ℕ) (owner : ℕ) (cs : List ConstructorTree) (rest : List Row) → AllByRecursion (AtLeast owner) rest → Ordered rest → Ordered (map (row_in types owner) cs ++ rest)
own_ordered types owner [] rest h o = o
own_ordered types owner (c ∷ cs) rest h o =
    (all_append (AtLeast owner) (map (row_in types owner) cs) rest (own_least types owner cs) h, own_ordered types owner cs rest h o)

rows_ordered : (types : List ℕ) (owner : ℕ) (ds : List DataTree) → Ordered (rows_from types owner ds)
rows_ordered types owner [] = tt
rows_ordered types owner (d ∷ ds) =
    own_ordered types owner d.constructors (rows_from types (suc owner) ds)
    (more_least owner (suc owner) (rows_from types (suc owner) ds) (omega arith) (rows_least types (suc owner) ds)) (rows_ordered types (suc owner) ds)

together : (rs : List Row) → Ordered rs → (i j : ℕ) (r s : Row) → slice_get rs i ≡ Some r → slice_get rs j ≡ Some s → i ≤ j → r.owner ≤ s.owner
together [] o i j r s e f le = absurd cc
together (q ∷ rs) o zero zero r s e f le = let a : q ≡ r = cc in let b : q ≡ s = cc in let same = ap (λ (z : Row). z.owner) (sym a ∙ b) in omega (arith, same)
together (q ∷ rs) o zero (suc j) r s e f le = let a : q ≡ r = cc in subst (λ z. z.owner ≤ s.owner) a (all_at (AtLeast q.owner) rs j s o.0 f)
together (q ∷ rs) o (suc i) zero r s e f le = absurd (omega (arith, le))
together (q ∷ rs) o (suc i) (suc j) r s e f le = together rs o.1 i j r s e f (omega (arith, le))

-- Each type has a constructor.
get_behind : {A : Type 0} (xs ys : List A) (i : ℕ) → slice_get (xs ++ ys) (length xs + i) ≡ slice_get ys i
get_behind [] ys i = let e : 0 + i ≡ i = omega arith in ap (slice_get ys) e
get_behind (x ∷ xs) ys i = let e : length (x ∷ xs) + i ≡ suc (length xs + i) = omega arith in ap (slice_get (x ∷ (xs ++ ys))) e ∙ get_behind xs ys i

record HasRow (rs : List Row) (owner : ℕ) : Type 0 where
  con : ℕ
  row : Row
  is : slice_get rs con ≡ Some row
  owned : row.owner ≡ owner

first_row : (types : List ℕ) (owner : ℕ) (cs : List ConstructorTree) (rest : List Row) → (cs ≡ [] → ⊥) → HasRow (map (row_in types owner) cs ++ rest) owner
first_row types owner [] rest h = absurd (h refl)
first_row types owner (c ∷ cs) rest h = record { con = 0; row = row_in types owner c; is = refl; owned = refl }

has_row : (types : List ℕ) (owner : ℕ) (ds : List DataTree) (k : ℕ) → k < length ds → AllByRecursion HasConstructor ds → HasRow (rows_from types owner ds) (owner + k)
has_row types owner [] k lt h = absurd (omega (arith, lt))
has_row types owner (d ∷ ds) zero lt h =
    let e : owner ≡ owner + 0 = omega arith in
    subst (HasRow (rows_from types owner (d ∷ ds))) e (first_row types owner d.constructors (rows_from types (suc owner) ds) h.0)
has_row types owner (d ∷ ds) (suc k) lt h =
    let o = has_row types (suc owner) ds k (omega (arith, lt)) h.1 in
    let own = map (row_in types owner) d.constructors in
    let w = o.owned in
    record { con = length own + o.con; row = o.row; is = get_behind own (rows_from types (suc owner) ds) o.con ∙ o.is; owned = omega (arith, w) }

-- What is typed of the data declarations makes a table.
pub table_is : (p : ProgramTree) → DatasTyped p → AllByRecursion HasConstructor p.datas → IsTable (table_of_program p)
table_is p t h =
    let types = type_names p in
    let long : length types ≡ length p.datas = length-map p.datas data_number in
    let rows = rows_from types 0 p.datas in
    record {
      few = t.few;
      rows = λ con row e. all_at (IsRow (length types)) rows con row (rows_are (length types) types 0 p.datas (omega arith) (omega (arith, long)) t.fields) e;
      types_differ = λ i j name e f. different_places types t.types_differ i j name e f;
      names_differ = λ i j row other e f q.
          different_places (map (λ (r : Row). r.name) rows) t.constructors_differ i j row.name (get_map (λ (r : Row). r.name) rows i row e) (get_map (λ (r : Row). r.name) rows j other f ∙ ap Some (sym q));
      together = λ i j row other e f le. together rows (rows_ordered types 0 p.datas) i j row other e f le;
      inhabited = λ k lt. (let o = has_row types 0 p.datas k (omega (arith, lt, long)) h in
          let w : o.row.owner ≡ k = o.owned ∙ omega arith in
          (o.con, ap (if_owned k o.con) o.is ∙ ap (λ b. cond b (Some o.con) None) (eq-eqb o.row.owner k w)));
    }
