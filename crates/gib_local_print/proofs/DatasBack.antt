-- The data declarations of a table declare that table.
use Rattle.std.proofs.Common.{◌≡◌, ℕ, zero, suc, ◌+◌, ◌<◌, ◌≤◌, Bool, false, cond, nat_lt, List, [], ◌∷◌, ◌++◌, map, length, get_or, slice_get, Option, Some, refl, sym, ap, ap₂, ◌∙◌, arith}
use Rattle.std.proofs.lemmas.Bool.{lt-ltb}
use Rattle.std.proofs.lemmas.Bool.Decides.{nat_tests}
use Rattle.std.proofs.lemmas.List.{map-append}
use Rattle.std.proofs.lemmas.Option.{slice_get-get_or}
use Rattle.std.specs.List.{AllByRecursion}
use Rattle.gib_types.specs.declared.table.Ty.{Ty}
use Rattle.gib_types.specs.Table.{Row, Table, IsTable, IsTyBelow, fields_of, fields_at, name_of, name_at, rows_before, first_at, count_at, numbers_from}
use Rattle.gib_types.proofs.Owners.{Owned, next_before, among-owned, owned_within}
use Rattle.gib_syntax.specs.Tree.{DataTree}
use Rattle.gib_syntax.specs.Declarations.{number_of, type_of_name, row_in, rows_from, table_of_program}
use Rattle.gib_core.specs.Tree.{CoreTree}
use Rattle.gib_local.specs.Building.{declared}
use Rattle.gib_local_print.specs.Printing.{Naming, type_text, local_of}
use Rattle.gib_local_print.specs.LocatedText.{constructor_of, data_of, datas_of}
use Rattle.gib_local_print.proofs.Written.{written}

-- ---- lists of numbers

numbers_append : (a m n : ℕ) → numbers_from a (m + n) ≡ numbers_from a m ++ numbers_from (a + m) n
numbers_append a zero n =
    let here : a ≡ a + 0 = omega arith in
    let none : 0 + n ≡ n = omega arith in
    ap (numbers_from a) none ∙ ap (λ k. numbers_from k n) here
numbers_append a (suc m) n =
    let here : suc a + m ≡ a + suc m = omega arith in
    let more : suc m + n ≡ suc (m + n) = omega arith in
    ap (numbers_from a) more ∙ ap (λ l. a ∷ l) (numbers_append (suc a) m n ∙ ap (λ k. numbers_from (suc a) m ++ numbers_from k n) here)

numbers_up : {A : Type 0} (g : ℕ → A) (n count : ℕ) → map g (numbers_from (suc n) count) ≡ map (λ k. g (suc k)) (numbers_from n count)
numbers_up g n zero = refl
numbers_up g n (suc count) = ap (λ l. g (suc n) ∷ l) (numbers_up g (suc n) count)

-- All items by their places.
all_places : {A : Type 0} (xs : List A) (x : A) → map (λ k. get_or xs k x) (numbers_from 0 (length xs)) ≡ xs
all_places [] x = refl
all_places (y ∷ xs) x = ap (λ l. y ∷ l) (numbers_up (λ k. get_or (y ∷ xs) k x) 0 (length xs) ∙ all_places xs x)

-- ---- rows

abbrev none : Row
none = record { name = 0; owner = 0; fields = [] }

-- How many constructors so many types from a number on have.
abbrev counts : Table → ℕ → ℕ → ℕ
counts tb n zero = 0
counts tb n (suc c) = count_at tb n + counts tb (suc n) c

module _ (tb : Table) (is : IsTable tb) where
  types_back : (ts : List Ty) → AllByRecursion (IsTyBelow (length tb.types)) ts → map (type_of_name tb.types) (map (type_text tb) ts) ≡ ts
  types_back [] h = refl
  types_back (t ∷ ts) h = ap₂ (λ (x : Ty) (xs : List Ty). x ∷ xs) (written tb is t h.0) (types_back ts h.1)

  row_back : (n k : ℕ) → Owned tb.rows n k → row_in tb.types n (constructor_of tb k) ≡ get_or tb.rows k none
  row_back n k o =
      let row : Row = o.row in
      let known = is.rows k row o.is in
      let there : slice_get tb.rows k ≡ Some (get_or tb.rows k none) = slice_get-get_or tb.rows k none (owned_within tb.rows n k o) in
      let same : row ≡ get_or tb.rows k none = cc in
      let name : name_at tb k ≡ row.name = ap name_of o.is in
      let fields : map (type_of_name tb.types) (map (type_text tb) (fields_at tb k)) ≡ row.fields = ap (λ (r : Option Row). map (type_of_name tb.types) (map (type_text tb) (fields_of r))) o.is ∙ types_back row.fields known.known in
      let owner : n ≡ row.owner = sym o.of in
      (λ i. record { name = name i; owner = owner i; fields = fields i }) ∙ same

  rows_back : (n first count : ℕ) → ((k : ℕ) → first ≤ k → k < first + count → Owned tb.rows n k)
      → map (row_in tb.types n) (map (constructor_of tb) (numbers_from first count)) ≡ map (λ k. get_or tb.rows k none) (numbers_from first count)
  rows_back n first zero owned = refl
  rows_back n first (suc count) owned =
      ap₂ (λ (r : Row) (rs : List Row). r ∷ rs) (row_back n first (owned first (omega arith) (omega arith))) (rows_back n (suc first) count (λ k ge lt. owned k (omega arith) (omega arith)))

  first_next : (n : ℕ) → first_at tb (suc n) ≡ first_at tb n + count_at tb n
  first_next n = let same : suc n ≡ n + 1 = omega arith in ap (first_at tb) same ∙ next_before n tb.rows

  counted : (n c : ℕ) → first_at tb n + counts tb n c ≡ first_at tb (n + c)
  counted n zero = let same : n ≡ n + 0 = omega arith in let h = ap (first_at tb) same in omega (arith, h)
  counted n (suc c) =
      let same : suc n + c ≡ n + suc c = omega arith in
      let h = ap (first_at tb) same in
      omega (arith, h, first_next n, counted (suc n) c)

  all_back : (n c : ℕ) → rows_from tb.types n (map (data_of tb) (numbers_from n c)) ≡ map (λ k. get_or tb.rows k none) (numbers_from (first_at tb n) (counts tb n c))
  all_back n zero = refl
  all_back n (suc c) =
      let g : ℕ → Row = λ k. get_or tb.rows k none in
      let first = first_at tb n in
      let count = count_at tb n in
      ap₂ (λ (xs ys : List Row). xs ++ ys)
      (rows_back n first count (λ k ge lt. among-owned n tb.rows k is.together (record { from = ge; to = lt })))
      (all_back (suc n) c ∙ ap (λ f. map g (numbers_from f (counts tb (suc n) c))) (first_next n))
      ∙ sym (map-append g (numbers_from first count) (numbers_from (first + count) (counts tb (suc n) c)))
      ∙ ap (map g) (sym (numbers_append first count (counts tb (suc n) c)))

none_below : (x : ℕ) → nat_lt x 0 ≡ false
none_below x = let no : nat_lt x 0 ≡ false = grind (arith, nat_tests) in no

none_first : (rows : List Row) → rows_before 0 rows ≡ 0
none_first [] = refl
none_first (row ∷ rows) = ap (λ (b : Bool). cond b (1 + rows_before 0 rows) (rows_before 0 rows)) (none_below row.owner) ∙ none_first rows

all_before : (rows : List Row) (n : ℕ) → ((k : ℕ) (row : Row) → slice_get rows k ≡ Some row → row.owner < n) → rows_before n rows ≡ length rows
all_before [] n h = refl
all_before (row ∷ rows) n h =
    let rest = all_before rows n (λ k other at. h (suc k) other at) in
    let here : rows_before n (row ∷ rows) ≡ 1 + rows_before n rows = ap (λ (b : Bool). cond b (1 + rows_before n rows) (rows_before n rows)) (lt-ltb row.owner n (h 0 row refl)) in
    omega (arith, here, rest)

names_back : (tb : Table) (ks : List ℕ) → map (λ (d : DataTree). number_of d.name) (map (data_of tb) ks) ≡ map (λ k. get_or tb.types k 0) ks
names_back tb [] = refl
names_back tb (k ∷ ks) = ap (λ l. get_or tb.types k 0 ∷ l) (names_back tb ks)

-- The declarations are those of the table.
pub datas_back : (nm : Naming) (core : CoreTree) → IsTable core.table → table_of_program (declared (local_of nm (datas_of core.table) core)) ≡ core.table
datas_back nm core is =
    let tb = core.table in
    let n = length tb.types in
    let types : map (λ (d : DataTree). number_of d.name) (datas_of tb) ≡ tb.types = names_back tb (numbers_from 0 n) ∙ all_places tb.types 0 in
    let first : first_at tb 0 ≡ 0 = none_first tb.rows in
    let here : 0 + n ≡ n = omega arith in
    let last : first_at tb (0 + n) ≡ length tb.rows = ap (first_at tb) here ∙ all_before tb.rows n (λ k row at. (is.rows k row at).owned) in
    let whole : counts tb 0 n ≡ length tb.rows = omega (arith, counted tb is 0 n, first, last) in
    let rows : rows_from tb.types 0 (datas_of tb) ≡ tb.rows =
    all_back tb is 0 n
    ∙ ap₂ (λ (f c : ℕ). map (λ k. get_or tb.rows k none) (numbers_from f c)) first whole
    ∙ all_places tb.rows none in
    (λ i. record { types = types i; rows = (ap (λ (ts : List ℕ). rows_from ts 0 (datas_of tb)) types ∙ rows) i })
