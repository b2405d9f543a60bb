-- The constructors of a type.
use Rattle.std.proofs.Common.{◌≡◌, ℕ, suc, ◌+◌, ◌≤◌, Bool, true, false, ltb, eqb, cond, List, [], ◌∷◌, Some, length, refl, sym, ap, ◌∙◌, arith}
use Rattle.std.specs.Prelude.{slice_get}
use Rattle.std.proofs.lemmas.Bool.{ne_eqb, ltb-true, eqb-true}
use Rattle.gib_types.specs.Table.{Row, Table, first_at, count_at, rows_before, rows_of, numbers_from, constructors_of, IsRow, IsTable}

none-of : (rows : List Row) (types ty : ℕ) → ((i : ℕ) (row : Row) → slice_get rows i ≡ Some row → IsRow types row) → types ≤ ty → rows_of ty rows ≡ 0
none-of [] types ty h le = refl
none-of (r ∷ rows) types ty h le =
    let other : r.owner ≡ ty → ⊥ = λ e. (let lt = (h 0 r refl).owned in absurd (omega (arith, lt, e))) in
    ap (λ (b : Bool). cond b (1 + rows_of ty rows) (rows_of ty rows)) (ne_eqb r.owner ty other)
    ∙ none-of rows types ty (λ i row e. h (suc i) row e) le

-- No constructor belongs to a type that is not declared.
pub none_all : (table : Table) (ty : ℕ) → IsTable table → length table.types ≤ ty → numbers_from 0 0 ≡ constructors_of table ty
none_all table ty is le = (λ i. numbers_from (first_at table ty) (sym (none-of table.rows (length table.types) ty is.rows le) i))

at_most : (b c : Bool) (x y n : ℕ) → (b ≡ true → c ≡ true → ⊥) → x + y ≤ n → cond b (1 + x) x + cond c (1 + y) y ≤ suc n
at_most true true x y n h le = absurd (h refl refl)
at_most true false x y n h le = omega arith
at_most false true x y n h le = omega arith
at_most false false x y n h le = omega arith

within : (rows : List Row) (ty : ℕ) → rows_before ty rows + rows_of ty rows ≤ length rows
within [] ty = omega arith
within (r ∷ rows) ty = at_most (ltb r.owner ty) (eqb r.owner ty) (rows_before ty rows) (rows_of ty rows) (length rows) (λ e f. (let lt = ltb-true r.owner ty e in let eq = eqb-true r.owner ty f in absurd (omega (arith, lt, eq)))) (within rows ty)

-- The constructors of a type are among those of the table.
pub all_few : (table : Table) (ty : ℕ) → IsTable table → first_at table ty + count_at table ty ≤ 200
all_few table ty is = (let few = is.few in let le = within table.rows ty in omega (arith, few, le))
