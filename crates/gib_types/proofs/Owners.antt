-- The constructors of a type, and their places.
use Rattle.std.proofs.Common.{◌≡◌, ℕ, zero, suc, ◌+◌, ◌<◌, ◌≤◌, List, [], ◌∷◌, length, Bool, true, false, cond, Option, Some, None, slice_get, nat_lt, nat_eq, refl, sym, ap, ◌∙◌, arith, ◌↔◌, ◌⊎◌, inl, inr}
use Rattle.std.specs.Prelude.{◌==◌}
use Rattle.std.proofs.lemmas.Option.{slice_get_within, slice_get-get_or}
use Rattle.std.proofs.lemmas.Bool.{cases_lt, lt-ltb, eqb-true, eq-eqb}
use Rattle.std.proofs.lemmas.Bool.Decides.{eqb_tells, nat_tests}
use Rattle.gib_types.specs.Row.{Row, Table}
use Rattle.gib_types.specs.Table.{if_owned, con_at, owner_at, owner_of, rows_before, rows_of, first_at, count_at, IsTable}

-- at the place stands a constructor of the type
pub record Owned (rows : List Row) (ty con : ℕ) : Type 0 where
  pub row : Row
  pub is : slice_get rows con ≡ Some row
  pub of : row.owner ≡ ty

pub con_at-owned : (table : Table) (ty tag con : ℕ) → con_at table ty tag ≡ Some con → (tag ≡ con) × Owned table.rows ty con
con_at-owned table ty tag con e = go (slice_get table.rows tag) refl e
  where
    owned : (row : Row) (o : Bool) → slice_get table.rows tag ≡ Some row → (row.owner == ty) ≡ o → cond o (Some tag) None ≡ Some con → (tag ≡ con) × Owned table.rows ty con
    owned row true is o h =
        let same : tag ≡ con = cc in
        (same, record { row = row; is = ap (slice_get table.rows) (sym same) ∙ is; of = eqb-true row.owner ty o })
    owned row false is o h = absurd cc

    go : (o : Option Row) → slice_get table.rows tag ≡ o → if_owned ty tag o ≡ Some con → (tag ≡ con) × Owned table.rows ty con
    go None is h = absurd cc
    go (Some row) is h = owned row (row.owner == ty) is refl h

pub owned-con_at : (table : Table) (ty con : ℕ) → Owned table.rows ty con → con_at table ty con ≡ Some con
owned-con_at table ty con o =
    ap (if_owned ty con) o.is ∙ ap (λ (b : Bool). cond b (Some con) None) (eq-eqb o.row.owner ty o.of)

pub owned_within : (rows : List Row) (ty con : ℕ) → Owned rows ty con → con < length rows
owned_within rows ty con o = slice_get_within rows con o.row o.is

pub owned_owner : (table : Table) (ty con : ℕ) → Owned table.rows ty con → owner_at table con ≡ ty
owned_owner table ty con o = ap owner_of o.is ∙ o.of

-- ---- how many come before, and how many there are

before_yes : (ty : ℕ) (row : Row) (rows : List Row) → row.owner < ty → rows_before ty (row ∷ rows) ≡ 1 + rows_before ty rows
before_yes ty row rows lt = ap (λ (b : Bool). cond b (1 + rows_before ty rows) (rows_before ty rows)) (lt-ltb row.owner ty lt)

before_no : (ty : ℕ) (row : Row) (rows : List Row) → ty ≤ row.owner → rows_before ty (row ∷ rows) ≡ rows_before ty rows
before_no ty row rows le = ap (λ (b : Bool). cond b (1 + rows_before ty rows) (rows_before ty rows)) (let no : nat_lt row.owner ty ≡ false = grind (arith, nat_tests) in no)

of_yes : (ty : ℕ) (row : Row) (rows : List Row) → row.owner ≡ ty → rows_of ty (row ∷ rows) ≡ 1 + rows_of ty rows
of_yes ty row rows e = ap (λ (b : Bool). cond b (1 + rows_of ty rows) (rows_of ty rows)) (eq-eqb row.owner ty e)

of_no : (ty : ℕ) (row : Row) (rows : List Row) → (row.owner ≡ ty → ⊥) → rows_of ty (row ∷ rows) ≡ rows_of ty rows
of_no ty row rows ne = ap (λ (b : Bool). cond b (1 + rows_of ty rows) (rows_of ty rows)) (go (eqb_tells row.owner ty))
  where
    go : ((nat_eq row.owner ty ≡ true) × (row.owner ≡ ty)) ⊎ ((nat_eq row.owner ty ≡ false) × (row.owner ≡ ty → ⊥)) → nat_eq row.owner ty ≡ false
    go (inl same) = absurd (ne same.1)
    go (inr apart) = apart.0

pub next_before : (ty : ℕ) (rows : List Row) → rows_before (ty + 1) rows ≡ rows_before ty rows + rows_of ty rows
next_before ty [] = refl
next_before ty (row ∷ rows) =
    let rest = next_before ty rows in
    elim (cases_lt row.owner ty) [
      | inl lt ↦ omega (arith, before_yes ty row rows lt, before_yes (ty + 1) row rows (omega arith), of_no ty row rows (λ e. omega arith), rest)
      | inr ge ↦ elim (cases_lt ty row.owner) [
        | inl gt ↦ omega (arith, before_no ty row rows ge, before_no (ty + 1) row rows (omega arith), of_no ty row rows (λ e. omega arith), rest)
        | inr le ↦ let same : row.owner ≡ ty = omega arith in omega (arith, before_no ty row rows ge, before_yes (ty + 1) row rows (omega arith), of_yes ty row rows same, rest)
      ]
    ]

-- the types' numbers do not fall
abbrev pub InOrder : List Row → Type 0
InOrder rows = (i j : ℕ) (row other : Row) → slice_get rows i ≡ Some row → slice_get rows j ≡ Some other → i ≤ j → row.owner ≤ other.owner

tail_in_order : (row : Row) (rows : List Row) → InOrder (row ∷ rows) → InOrder rows
tail_in_order row rows h i j a b ia jb le = h (suc i) (suc j) a b ia jb (omega arith)

none_before : (ty : ℕ) (rows : List Row) → ((i : ℕ) (row : Row) → slice_get rows i ≡ Some row → ty ≤ row.owner) → rows_before ty rows ≡ 0
none_before ty [] h = refl
none_before ty (row ∷ rows) h = before_no ty row rows (h 0 row refl) ∙ none_before ty rows (λ i other is. h (suc i) other is)

none_of : (ty : ℕ) (rows : List Row) → ((i : ℕ) (row : Row) → slice_get rows i ≡ Some row → ty < row.owner) → rows_of ty rows ≡ 0
none_of ty [] h = refl
none_of ty (row ∷ rows) h =
    let lt : ty < row.owner = h 0 row refl in
    of_no ty row rows (λ e. omega arith) ∙ none_of ty rows (λ i other is. h (suc i) other is)

-- the place is among those of the type
pub record Among (ty : ℕ) (rows : List Row) (con : ℕ) : Type 0 where
  pub from : rows_before ty rows ≤ con
  pub to : con < rows_before ty rows + rows_of ty rows

shifted : (rows : List Row) (row : Row) (ty con : ℕ) → Owned rows ty con → Owned (row ∷ rows) ty (suc con)
shifted rows row ty con o = record { row = o.row; is = o.is; of = o.of }

unshifted : (rows : List Row) (row : Row) (ty con : ℕ) → Owned (row ∷ rows) ty (suc con) → Owned rows ty con
unshifted rows row ty con o = record { row = o.row; is = o.is; of = o.of }

head_owner : (rows : List Row) (row : Row) (ty : ℕ) → Owned (row ∷ rows) ty 0 → row.owner ≡ ty
head_owner rows row ty o = let same : row ≡ o.row = cc in ap (λ (r : Row). r.owner) same ∙ o.of

-- the rows after one of a type are of no type before it
later_rows : (row : Row) (rows : List Row) → InOrder (row ∷ rows) → (i : ℕ) (other : Row) → slice_get rows i ≡ Some other → row.owner ≤ other.owner
later_rows row rows h i other is = h 0 (suc i) row other refl is (omega arith)

-- one of the type leads the rows
same_first : (ty con : ℕ) (row : Row) (rows : List Row) → InOrder (row ∷ rows) → row.owner ≡ ty
    → (rows_before ty (row ∷ rows) ≡ 0) × (rows_before ty rows ≡ 0) × (rows_of ty (row ∷ rows) ≡ 1 + rows_of ty rows)
same_first ty con row rows h e =
    let least : rows_before ty rows ≡ 0 = none_before ty rows (λ i other is. let at = later_rows row rows h i other is in omega arith) in
    (before_no ty row rows (omega arith) ∙ least, least, of_yes ty row rows e)

among_next : (ty con : ℕ) (row : Row) (rows : List Row) → InOrder (row ∷ rows) → row.owner ≤ ty → Among ty rows con → Among ty (row ∷ rows) (suc con)
among_next ty con row rows h le r = elim (cases_lt row.owner ty) [
  | inl lt ↦
      let b = before_yes ty row rows lt in
      let n = of_no ty row rows (λ e. omega arith) in
      record { from = omega (arith, b, r.from); to = omega (arith, b, n, r.to) }
  | inr ge ↦
      let e : row.owner ≡ ty = omega arith in
      let s = same_first ty con row rows h e in
      record { from = omega (arith, s.0); to = omega (arith, s.0, s.1, s.2, r.to) }
]

pub owned-among : (ty : ℕ) (rows : List Row) (con : ℕ) → InOrder rows → Owned rows ty con → Among ty rows con
owned-among ty [] con h o = absurd (let lt = owned_within [] ty con o in omega arith)
owned-among ty (row ∷ rows) zero h o =
    let s = same_first ty 0 row rows h (head_owner rows row ty o) in
    record { from = omega (arith, s.0); to = omega (arith, s.0, s.2) }
owned-among ty (row ∷ rows) (suc con) h o =
    let le = later_rows row rows h con o.row o.is in
    among_next ty con row rows h (omega (arith, o.of)) (owned-among ty rows con (tail_in_order row rows h) (unshifted rows row ty con o))

-- a place among the rows, and what it says of the rows after the first
among_back : (ty : ℕ) (row : Row) (rows : List Row) (con : ℕ) → InOrder (row ∷ rows) → Among ty (row ∷ rows) (suc con) → Among ty rows con
among_back ty row rows con h a = elim (cases_lt row.owner ty) [
  | inl lt ↦
      let b = before_yes ty row rows lt in
      let n = of_no ty row rows (λ e. omega arith) in
      record { from = omega (arith, b, a.from); to = omega (arith, b, n, a.to) }
  | inr ge ↦ elim (cases_lt ty row.owner) [
    | inl gt ↦
        let no = of_no ty row rows (λ e. omega arith) in
        let rest = none_of ty rows (λ i other is. let at = later_rows row rows h i other is in omega arith) in
        absurd (omega (arith, no, rest, a.from, a.to))
    | inr le ↦
        let e : row.owner ≡ ty = omega arith in
        let s = same_first ty con row rows h e in
        record { from = omega (arith, s.1); to = omega (arith, s.0, s.1, s.2, a.to) }
  ]
]

among_first : (ty : ℕ) (row : Row) (rows : List Row) → InOrder (row ∷ rows) → Among ty (row ∷ rows) 0 → row.owner ≡ ty
among_first ty row rows h a = elim (cases_lt row.owner ty) [
  | inl lt ↦ absurd (omega (arith, before_yes ty row rows lt, a.from))
  | inr ge ↦ elim (cases_lt ty row.owner) [
    | inl gt ↦
        let no = of_no ty row rows (λ e. omega arith) in
        let rest = none_of ty rows (λ i other is. let at = later_rows row rows h i other is in omega arith) in
        absurd (omega (arith, no, rest, a.from, a.to))
    | inr le ↦ omega arith
  ]
]

pub among-owned : (ty : ℕ) (rows : List Row) (con : ℕ) → InOrder rows → Among ty rows con → Owned rows ty con
among-owned ty [] con h a = absurd (omega (arith, a.to))
among-owned ty (row ∷ rows) zero h a = record { row = row; is = refl; of = among_first ty row rows h a }
among-owned ty (row ∷ rows) (suc con) h a = shifted rows row ty con (among-owned ty rows con (tail_in_order row rows h) (among_back ty row rows con h a))

-- ---- there are no more types than constructors

pub types_few : (table : Table) → IsTable table → length table.types ≤ 200
types_few table t = go (length table.types) refl
  where
    -- a constructor of a type stands at its number or later
    at_least : (ty : ℕ) → ty < length table.types → (con : ℕ) → Owned table.rows ty con → ty ≤ con
    at_least zero lt con o = omega arith
    at_least (suc ty) lt con o =
        let less : ty < length table.types = omega arith in
        let had = t.inhabited ty less in
        let p = (con_at-owned table ty had.0 had.0 had.1).1 in
        let below = at_least ty less had.0 p in
        elim (cases_lt had.0 con) [
          | inl later ↦ omega arith
          | inr earlier ↦ absurd (let le = t.together con had.0 o.row p.row o.is p.is earlier in omega (arith, o.of, p.of))
        ]

    go : (n : ℕ) → length table.types ≡ n → length table.types ≤ 200
    go zero e = omega arith
    go (suc n) e =
        let lt : n < length table.types = omega arith in
        let last = t.inhabited n lt in
        let o = (con_at-owned table n last.0 last.0 last.1).1 in
        omega (arith, at_least n lt last.0 o, owned_within table.rows n last.0 o, t.few)

pub together : (table : Table) (ty con : ℕ) → IsTable table → (con_at table ty con ≡ Some con) ↔ ((first_at table ty ≤ con) × (con < first_at table ty + count_at table ty))
together table ty con t = (
  λ e. (let a = owned-among ty table.rows con t.together (con_at-owned table ty con con e).1 in (a.from, a.to)),
  λ a. owned-con_at table ty con (among-owned ty table.rows con t.together (record { from = a.0; to = a.1 })),
)

pub tag_there : (table : Table) (con : ℕ) → con < length table.rows → con_at table (owner_at table con) con ≡ Some con
tag_there table con lt = go (slice_get table.rows con) refl
  where
    go : (o : Option Row) → slice_get table.rows con ≡ o → con_at table (owner_at table con) con ≡ Some con
    go None is = absurd (let at = slice_get-get_or table.rows con (record { name = 0; owner = 0; fields = [] }) lt in cc)
    go (Some row) is = owned-con_at table (owner_at table con) con (record { row = row; is = is; of = sym (ap owner_of is) })

pub tag_back : (table : Table) (ty tag con : ℕ) → con_at table ty tag ≡ Some con → (tag ≡ con) × (con < length table.rows) × (owner_at table con ≡ ty)
tag_back table ty tag con e =
    let o = con_at-owned table ty tag con e in
    (o.0, owned_within table.rows ty con o.1, owned_owner table ty con o.1)
