-- The arms of a case are there for each constructor.
use Rattle.std.proofs.Common.{◌≡◌, ℕ, zero, suc, ◌+◌, ◌<◌, ◌≤◌, ◌==◌, true, false, ◌&&◌, if◌then◌else◌, List, [], ◌∷◌, ◌++◌, map, length, Option, Some, None, refl, sym, ap, ◌∙◌, subst, arith}
use Rattle.std.specs.Prelude.{slice_get, nat_lt}
use Rattle.std.proofs.lemmas.Bool.{eqb-true, eqb-false, eq-eqb, ltb-true, ltb-false, or_left, or_right, and_parts}
use Rattle.std.proofs.lemmas.Option.{same_Some}
use Rattle.gib_types.specs.declared.table.Ty.{Ty}
use Rattle.gib_types.specs.declared.table.Ty.TheVariants.{Whole, Truth, Tree}
use Rattle.gib_types.specs.declared.table.TyId.{TyId}
use Rattle.gib_types.specs.declared.table.ConId.{ConId}
use Rattle.gib_types.specs.Row.{Row}
use Rattle.gib_types.specs.Table.{Table, fields_at, con_at, if_owned, rows_before, rows_of, first_at, count_at, IsTable}
use Rattle.gib_core.specs.declared.atom.Variable.{Variable}
use Rattle.gib_core.specs.Tree.{Branches, NoBranch, BranchThen}
use Rattle.gib_core.specs.Inferring.{numbers_from, constructors_of}
use Rattle.gib_core.specs.Met.{arms_of}
use Rattle.gib_core.specs.Numbering.{branch_binders, binders}
use Rattle.gib_core.specs.Rules.{are_arms, cover}
use Rattle.gib_core.specs.Fits.{has_branch}
use Rattle.gib_core.proofs.Facts.{Test, holds, fails, test}
use Rattle.gib_core.proofs.Entering.{AreLong, AllBelow, below_apart, arm_numbers}

-- One of the numbers.
pub data In (k : ℕ) : List ℕ → Type 0 where
  first : {ns : List ℕ} → In k (k ∷ ns)
  later : {n : ℕ} {ns : List ℕ} → In k ns → In k (n ∷ ns)

suc_more : (k a count : ℕ) → a ≤ k → k < a + suc count → a == k ≡ false → suc a ≤ k
suc_more k a count le lt ne = let d = eqb-false a k ne in grind (arith, d)

in_by : (k a count : ℕ) → (suc a ≤ k → In k (numbers_from (suc a) count)) → a ≤ k → k < a + suc count → Test (a == k) → In k (numbers_from a (suc count))
in_by k a count f le lt (holds eq) = subst (λ m. In k (m ∷ numbers_from (suc a) count)) (sym (eqb-true a k eq)) first
in_by k a count f le lt (fails ne) = later (f (suc_more k a count le lt ne))

in_numbers : (k a count : ℕ) → a ≤ k → k < a + count → In k (numbers_from a count)
in_numbers k a zero le lt = absurd (omega arith)
in_numbers k a (suc count) le lt = in_by k a count (λ more. in_numbers k (suc a) count more (omega (arith, lt))) le lt (test (a == k))

-- Rows in the order of their types.
pub record Sorted (rows : List Row) : Type 0 where
  pub sorted : (i j : ℕ) (r q : Row) → slice_get rows i ≡ Some r → slice_get rows j ≡ Some q → i ≤ j → r.owner ≤ q.owner

sorted_behind : (r : Row) (rows : List Row) → Sorted (r ∷ rows) → Sorted rows
sorted_behind r rows s = record { sorted = λ i j a b e f le. s.sorted (suc i) (suc j) a b e f (omega (arith, le)) }

not_less : (m n : ℕ) → n ≤ m → Test (nat_lt m n) → nat_lt m n ≡ false
not_less m n le (fails ne) = ne
not_less m n le (holds lt) = (let h : m < n = ltb-true m n lt in absurd (omega (arith, h, le)))

less_or : (m n : ℕ) → m ≤ n → nat_lt m n ≡ false → m ≡ n
less_or m n le e = let h : n ≤ m = ltb-false m n e in omega (arith, h, le)

neither : (m n : ℕ) → m ≤ n → nat_lt m n ≡ false → m == n ≡ false → ⊥
neither m n le nl ne = eqb-false m n ne (less_or m n le nl)

none_before : (ty : ℕ) (rows : List Row) → ((i : ℕ) (r : Row) → slice_get rows i ≡ Some r → ty ≤ r.owner) → rows_before ty rows ≡ 0
none_before ty [] h = refl
none_before ty (r ∷ rows) h =
    let no : nat_lt r.owner ty ≡ false = not_less r.owner ty (h 0 r refl) (test (nat_lt r.owner ty)) in
    ap (λ t. if t then 1 + rows_before ty rows else rows_before ty rows) no ∙ none_before ty rows (λ i q e. h (suc i) q e)

pub record Place (ty k : ℕ) (rows : List Row) : Type 0 where
  pub from : rows_before ty rows ≤ k
  pub upto : k < rows_before ty rows + rows_of ty rows

place_first : (ty : ℕ) (r : Row) (rows : List Row) → r.owner ≡ ty → Sorted (r ∷ rows) → Place ty 0 (r ∷ rows)
place_first ty r rows e s =
    let all : rows_before ty rows ≡ 0 = none_before ty rows (λ i q f. let le = s.sorted 0 (suc i) r q refl f (omega arith) in omega (arith, le, e)) in
    let no : nat_lt r.owner ty ≡ false = not_less r.owner ty (omega (arith, e)) (test (nat_lt r.owner ty)) in
    let is : r.owner == ty ≡ true = eq-eqb r.owner ty e in
    let before : rows_before ty (r ∷ rows) ≡ 0 = ap (λ t. if t then 1 + rows_before ty rows else rows_before ty rows) no ∙ all in
    let of : rows_of ty (r ∷ rows) ≡ 1 + rows_of ty rows = ap (λ t. if t then 1 + rows_of ty rows else rows_of ty rows) is in
    record { from = omega (arith, before); upto = omega (arith, before, of) }

place_next : (ty k : ℕ) (r : Row) (rows : List Row) → r.owner ≤ ty → Place ty k rows → Test (nat_lt r.owner ty) → Test (r.owner == ty) → Place ty (suc k) (r ∷ rows)
place_next ty k r rows le p (holds lt) (fails ne) =
    let before : rows_before ty (r ∷ rows) ≡ 1 + rows_before ty rows = ap (λ t. if t then 1 + rows_before ty rows else rows_before ty rows) lt in
    let of : rows_of ty (r ∷ rows) ≡ rows_of ty rows = ap (λ t. if t then 1 + rows_of ty rows else rows_of ty rows) ne in
    record { from = omega (arith, before, p.from); upto = omega (arith, before, of, p.upto) }
place_next ty k r rows le p (fails nl) (holds eq) =
    let before : rows_before ty (r ∷ rows) ≡ rows_before ty rows = ap (λ t. if t then 1 + rows_before ty rows else rows_before ty rows) nl in
    let of : rows_of ty (r ∷ rows) ≡ 1 + rows_of ty rows = ap (λ t. if t then 1 + rows_of ty rows else rows_of ty rows) eq in
    record { from = omega (arith, before, p.from); upto = omega (arith, before, of, p.upto) }
place_next ty k r rows le p (holds lt) (holds eq) =
    let l : r.owner < ty = ltb-true r.owner ty lt in let e : r.owner ≡ ty = eqb-true r.owner ty eq in absurd (omega (arith, l, e))
place_next ty k r rows le p (fails nl) (fails ne) = absurd (neither r.owner ty le nl ne)

place_of : (ty k : ℕ) (rows : List Row) (r : Row) → Sorted rows → slice_get rows k ≡ Some r → r.owner ≡ ty → Place ty k rows
place_of ty k [] r s e o = absurd cc
place_of ty zero (q ∷ rows) r s e o =
    let same : q ≡ r = same_Some q r e in
    place_first ty q rows (ap (λ (x : Row). x.owner) same ∙ o) s
place_of ty (suc k) (q ∷ rows) r s e o =
    let le = s.sorted 0 (suc k) q r refl e (omega arith) in
    place_next ty k q rows (omega (arith, le, o)) (place_of ty k rows r (sorted_behind q rows s) e o) (test (nat_lt q.owner ty)) (test (q.owner == ty))

-- A constructor of a type is among those of the type.
owned_by : (ty k : ℕ) (r : Row) → Test (r.owner == ty) → (if r.owner == ty then Some k else None) ≡ Some k → r.owner ≡ ty
owned_by ty k r (holds eq) e = eqb-true r.owner ty eq
owned_by ty k r (fails ne) e = (let h : None ≡ Some k = sym (ap (λ t. if t then Some k else None) ne) ∙ e in absurd cc)

owned_row : (ty k : ℕ) (o : Option Row) → if_owned ty k o ≡ Some k → (r : Row) × (o ≡ Some r) × (r.owner ≡ ty)
owned_row ty k None e = absurd cc
owned_row ty k (Some r) e = (r, refl, owned_by ty k r (test (r.owner == ty)) e)

pub con_among : (table : Table) (ty k : ℕ) → IsTable table → con_at table ty k ≡ Some k → In k (constructors_of table ty)
con_among table ty k is e =
    let row = owned_row ty k (slice_get table.rows k) e in
    let p = place_of ty k table.rows row.0 (record { sorted = is.together }) row.1 row.2 in
    in_numbers k (first_at table ty) (count_at table ty) p.from p.upto

-- Arms.

in_none : (k : ℕ) → In k [] → ⊥
in_none k i = elim i [ ]

has_by : (table : Table) (ks : List ℕ) (bs : Branches) (k : ℕ) → are_arms table ks (arms_of bs) ≡ true → In k ks → has_branch bs k ≡ true
has_by table [] bs k e i = absurd (in_none k i)
has_by table (j ∷ ks) NoBranch k e i = absurd cc
has_by table (j ∷ ks) (BranchThen c ys u bs) k e first =
    let h = and_parts (k == c.0 && length (fields_at table k) == length ys) (are_arms table ks (arms_of bs)) e in
    let g = and_parts (k == c.0) (length (fields_at table k) == length ys) h.0 in
    let same : c.0 ≡ k = sym (eqb-true k c.0 g.0) in
    or_left (c.0 == k) (has_branch bs k) (eq-eqb c.0 k same)
has_by table (j ∷ ks) (BranchThen c ys u bs) k e (later i) =
    let h = and_parts (j == c.0 && length (fields_at table j) == length ys) (are_arms table ks (arms_of bs)) e in
    or_right (c.0 == k) (has_branch bs k) (has_by table ks bs k h.1 i)

long_by : (table : Table) (ks : List ℕ) (arms : List (ConId × List Variable)) → are_arms table ks arms ≡ true → AreLong table arms
long_by table [] [] e = tt
long_by table [] (arm ∷ arms) e = absurd cc
long_by table (k ∷ ks) [] e = absurd cc
long_by table (k ∷ ks) (arm ∷ arms) e =
    let h = and_parts (k == arm.0.0 && length (fields_at table k) == length arm.1) (are_arms table ks arms) e in
    let g = and_parts (k == arm.0.0) (length (fields_at table k) == length arm.1) h.0 in
    (ap (λ n. length (fields_at table n)) (sym (eqb-true k arm.0.0 g.0)) ∙ eqb-true (length (fields_at table k)) (length arm.1) g.1, long_by table ks arms h.1)

-- What a case has: a packed type, an arm for each constructor, and a variable for each field.
pub record Covers (table : Table) (o : Option Ty) (bs : Branches) : Type 0 where
  pub ty : TyId
  pub typed : o ≡ Some (Tree ty)
  pub each : (k : ℕ) → con_at table ty.0 k ≡ Some k → has_branch bs k ≡ true
  pub long : AreLong table (arms_of bs)

pub covers : (table : Table) (o : Option Ty) (bs : Branches) → IsTable table → cover table o (arms_of bs) ≡ true → Covers table o bs
covers table None bs is e = absurd cc
covers table (Some Whole) bs is e = absurd cc
covers table (Some Truth) bs is e = absurd cc
covers table (Some (Tree t)) bs is e =
    record { ty = t; typed = refl; each = λ k c. has_by table (constructors_of table t.0) bs k e (con_among table t.0 k is c); long = long_by table (constructors_of table t.0) (arms_of bs) e }

below_both : (n : ℕ) (xs ys : List ℕ) → AllBelow n xs → AllBelow n ys → AllBelow n (xs ++ ys)
below_both n [] ys h k = k
below_both n (x ∷ xs) ys h k = (h.0, below_both n xs ys h.1 k)

pub arms_below : (n : ℕ) (bs : Branches) → AllBelow n (branch_binders bs) → AllBelow n (arm_numbers (arms_of bs))
arms_below n NoBranch h = tt
arms_below n (BranchThen k ys u bs) h =
    let p = below_apart n (map (λ (y : Variable). y.0) ys) (binders u ++ branch_binders bs) h in
    below_both n (map (λ (y : Variable). y.0) ys) (arm_numbers (arms_of bs)) p.0 (arms_below n bs (below_apart n (binders u) (branch_binders bs) p.1).1)
