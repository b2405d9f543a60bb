-- A core that meets the build rules, and is numbered in the order of the text, is ordered.
use Rattle.std.proofs.Common.{◌≡◌, ℕ, zero, suc, ◌+◌, ◌<◌, ◌≤◌, ◌==◌, true, ◌&&◌, not, if◌then◌else◌, List, [], ◌∷◌, ◌++◌, map, length, Option, Some, None, refl, sym, ap, ◌∙◌, subst, arith}
use Rattle.std.specs.Prelude.{slice_get, nat_lt}
use Rattle.std.specs.List.{AllByRecursion}
use Rattle.std.proofs.lemmas.Bool.{eqb-true, eq-eqb, ltb-true, not-false, and_from, and_parts}
use Rattle.std.proofs.lemmas.Option.{same_Some}
use Rattle.gib_types.specs.declared.table.Ty.{Ty}
use Rattle.gib_types.specs.declared.table.Ty.TheVariants.{Whole, Truth, Tree}
use Rattle.gib_types.specs.declared.table.ConId.{ConId}
use Rattle.gib_types.specs.Row.{Row}
use Rattle.gib_types.specs.Table.{Table, fields_at, scalar_types, tree_types, name_of, con_at, if_owned, rows_before, rows_of, first_at, count_at, IsTable}
use Rattle.gib_syntax.specs.Declarations.{place_of, next_place, constructor_named}
use Rattle.gib_core.specs.declared.atom.Variable.{Variable}
use Rattle.gib_core.specs.declared.atom.Atom.{Atom}
use Rattle.gib_core.specs.declared.atom.Atom.TheVariants as a
use Rattle.gib_core.specs.declared.atom.Kind.{Kind}
use Rattle.gib_core.specs.declared.atom.Kind.TheVariants.{Here, Region, Scalar}
use Rattle.gib_core.specs.declared.scope.Known.{Known}
use Rattle.gib_core.specs.Tree.{Term, Then, Write, Point, CallTerm, Give, CaseTerm, IfTerm, Tuple, PartTerms, NoPart, PartThen, parts_count, Bind, Past, One, Both, Prim, Reach, Side, On, Several, Branches, NoBranch, BranchThen, CoreTree}
use Rattle.gib_core.specs.Inferring.{first_type, further_types, numbers_from, constructors_of}
use Rattle.gib_core.specs.Numbering.{binders, bind_binders, side_binders, part_binders, branch_binders, IsNumbered, AreNumbered}
use Rattle.gib_core.specs.Met.{Destination, Nowhere, Empty, Open, InParts, Setting, SideLine, ParLine, CaseLine, SeveralLine, PartLine, known, reached, reached_too, field, packed_before, with_arm, with_parameters, stands_too, in_side, in_several, in_part, with_variables, behind, behind_side, left_of, right_of, in_arm, in_branch, arms_of, met, met_bind, met_side, met_parts, met_branches, Body, bodies, opening, result_place}
use Rattle.gib_core.specs.Rules.{Before, is_reached, is_usable, all_usable, any_other, is_other, is_empty, is_of_type, is_bound, is_nowhere, is_in_parts, any_bound, are_several, are_due, same_types, is_declared, are_declared, are_parts, have_types, may_write, are_scalars, type_of, cover, are_arms, has_type, next, next_all, LinesAreBuilt, before_body, IsBuilt, AreBuilt}
use Rattle.gib_core.specs.Ordered.{IsFit, AreFit, FieldsOrdered, behind_fields, behind_variables, IsFound, IsTypeFound, IsOrdered, BindOrdered, SideOrdered, PartsOrdered, BranchesOrdered, AreOrdered, IsNatural, AreNaturalAtoms, IsNaturalTerm, IsNaturalBind, IsNaturalSide, AreNaturalParts, AreNaturalBranches, AreNatural}
use Rattle.gib_core.proofs.Facts.{least2, least3, least4, Test, holds, fails, test}
use Rattle.gib_core.proofs.Later.{built_apart, prim_facts, case_facts}
use Rattle.gib_core.proofs.Dests.{con_there}
use Rattle.gib_core.proofs.Fitted.{call_facts}
use Rattle.gib_core.proofs.Erases.{behind_same}
use Rattle.gib_core.specs.Erasing.{declared_name}
use Rattle.gib_syntax.specs.Declarations.{tree_type, type_or}
use Rattle.gib_syntax.specs.Results as results
use Rattle.gib_syntax.specs.Results.{Results, AreSeveral}
use Rattle.gib_core.proofs.Runs.{Runs, number_runs, runs_apart, runs_up}

-- Variables in scope are below a number.
record InScope (n : ℕ) (ks : List Known) : Type 0 where
  inside : (x : Variable) (k : Known) → known ks x ≡ Some k → x.0 < n

scope_more : (n m : ℕ) (ks : List Known) → n ≤ m → InScope n ks → InScope m ks
scope_more n m ks le h = record { inside = λ x k e. let lt = h.inside x k e in omega (arith, le, lt) }

put_in : (n : ℕ) (k : Known) (ks : List Known) (x : Variable) (j : Known) → k.variable.0 < n → InScope n ks → Test (k.variable.0 == x.0) → known (k ∷ ks) x ≡ Some j → x.0 < n
put_in n k ks x j lt h (fails ne) e = h.inside x j (ap (λ t. if t then Some k else known ks x) (sym ne) ∙ e)
put_in n k ks x j lt h (holds eq) e = let same = eqb-true k.variable.0 x.0 eq in omega (arith, lt, same)

scope_put : (n : ℕ) (k : Known) (ks : List Known) → k.variable.0 < n → InScope n ks → InScope n (k ∷ ks)
scope_put n k ks lt h = record { inside = λ x j e. put_in n k ks x j lt h (test (k.variable.0 == x.0)) e }

scope_bound : (n m : ℕ) (x : Variable) (ks : List Known) → x.0 ≡ n → n + 1 ≤ m → InScope n ks → InScope m (reached x ∷ ks)
scope_bound n m x ks e le h = scope_put m (reached x) ks (omega (arith, e, le)) (scope_more n m ks (omega (arith, le)) h)

pub known_by : (ks : List Known) (y : Variable) (k j : Known) → (known ks y ≡ Some k → k.variable.0 ≡ y.0) → Test (j.variable.0 == y.0) → known (j ∷ ks) y ≡ Some k → k.variable.0 ≡ y.0
known_by ks y k j was (fails ne) e = was (ap (λ t. if t then Some j else known ks y) (sym ne) ∙ e)
known_by ks y k j was (holds eq) e =
    let same : j ≡ k = same_Some j k (ap (λ t. if t then Some j else known ks y) (sym eq) ∙ e) in
    ap (λ (i : Known). i.variable.0) (sym same) ∙ eqb-true j.variable.0 y.0 eq

pub known_name : (ks : List Known) (y : Variable) (k : Known) → known ks y ≡ Some k → k.variable.0 ≡ y.0
known_name [] y k e = absurd cc
known_name (j ∷ ks) y k e = known_by ks y k j (known_name ks y k) (test (j.variable.0 == y.0)) e

scope_reach : (n : ℕ) (ks : List Known) (y : Variable) (o : Option Known) → known ks y ≡ o → InScope n ks → InScope n (reached_too o ks)
scope_reach n ks y None e h = h
scope_reach n ks y (Some k) e h =
    let name = known_name ks y k e in
    let lt = h.inside y k e in
    scope_put n (record k { reached = true }) ks (omega (arith, name, lt)) h

pub field_variable : (k : ConId) (x : Variable) (ty : Ty) (before : Option Variable) → (field k x ty before).variable.0 ≡ x.0
field_variable k x Whole before = refl
field_variable k x Truth before = refl
field_variable k x (Tree t) None = refl
field_variable k x (Tree t) (Some z) = refl

scope_arm : (n m : ℕ) (k : ConId) (xs : List Variable) (types : List Ty) (before : Option Variable) (ks : List Known) → Runs n (map (λ (x : Variable). x.0) xs) m → InScope n ks → InScope m (with_arm k xs types before ks)
scope_arm n m k [] types before ks h s = scope_more n m ks (omega (arith, h)) s
scope_arm n m k (x ∷ xs) types before ks h s =
    let f = field k x (first_type types) before in
    let name = field_variable k x (first_type types) before in
    scope_arm (n + 1) m k xs (further_types types) (packed_before x (first_type types) before) (f ∷ ks) h.1
    (scope_put (n + 1) f ks (omega (arith, name, h.0)) (scope_more n (n + 1) ks (omega arith) s))

fields_in : (n m : ℕ) (xs : List Variable) → Runs n (map (λ (x : Variable). x.0) xs) m → FieldsOrdered n xs × (behind_fields n xs ≤ m)
fields_in n m [] h = (tt, omega (arith, h))
fields_in n m (x ∷ xs) h =
    let same : n + 1 ≡ x.0 + 1 = omega (arith, h.0) in
    let r = fields_in (n + 1) m xs h.1 in
    ((omega (arith, h.0), subst (λ (k : ℕ). FieldsOrdered k xs) same r.0), subst (λ (k : ℕ). behind_fields k xs ≤ m) same r.1)

behind_exact : (n m : ℕ) (xs : List Variable) → Runs n (map (λ (x : Variable). x.0) xs) m → behind_fields n xs ≡ m
behind_exact n m [] h = h
behind_exact n m (x ∷ xs) h =
    let same : n + 1 ≡ x.0 + 1 = omega (arith, h.0) in
    subst (λ (k : ℕ). behind_fields k xs ≡ m) same (behind_exact (n + 1) m xs h.1)

scope_variables : (n m : ℕ) (xs : List Variable) (ks : List Known) → Runs n (map (λ (x : Variable). x.0) xs) m → InScope n ks → InScope m (with_variables xs ks)
scope_variables n m [] ks h s = scope_more n m ks (omega (arith, h)) s
scope_variables n m (x ∷ xs) ks h s = scope_variables (n + 1) m xs (reached x ∷ ks) h.1 (scope_bound n (n + 1) x ks h.0 (omega arith) s)

-- Atoms.

reached_in : (n : ℕ) (ks : List Known) (y : Variable) (o : Option Known) → known ks y ≡ o → is_reached o ≡ true → InScope n ks → y.0 < n
reached_in n ks y None e r h = absurd cc
reached_in n ks y (Some k) e r h = h.inside y k e

atom_in : (n : ℕ) (s : Setting) (x : Atom) → is_usable s x ≡ true → IsNatural x → InScope n s.scope → IsFit n x
atom_in n s (a.Variable y) u l h = reached_in n s.scope y (known s.scope y) refl u h
atom_in n s (a.Whole z) u l h = l
atom_in n s (a.Truth b) u l h = tt

atoms_in : (n : ℕ) (s : Setting) (xs : List Atom) → all_usable s xs ≡ true → AreNaturalAtoms xs → InScope n s.scope → AreFit n xs
atoms_in n s [] u l h = tt
atoms_in n s (x ∷ xs) u l h = let p = and_parts (is_usable s x) (all_usable s xs) u in (atom_in n s x p.0 l.0 h, atoms_in n s xs p.1 l.1 h)

pub usable_apart : (s : Setting) (xs ys : List Atom) → all_usable s (xs ++ ys) ≡ true → (all_usable s xs ≡ true) × (all_usable s ys ≡ true)
usable_apart s [] ys e = (refl, e)
usable_apart s (x ∷ xs) ys e =
    let p = and_parts (is_usable s x) (all_usable s (xs ++ ys)) e in
    let r = usable_apart s xs ys p.1 in
    (and_from (is_usable s x) (all_usable s xs) p.0 r.0, r.1)

-- Types are found by their names.

type_by : (types : List ℕ) (x name t : ℕ) → place_of types name ≡ Some t → (x ≡ name → ⊥) → Test (x == name) → place_of (x ∷ types) name ≡ Some (suc t)
type_by types x name t e ne (holds eq) = absurd (ne (eqb-true x name eq))
type_by types x name t e ne (fails apart) = ap (λ b. if b then Some 0 else next_place (place_of types name)) apart ∙ ap next_place e

type_there : (types : List ℕ) (t : ℕ) → t < length types → slice_get types t ≡ Some (declared_name types t)
type_there [] t lt = absurd (omega (arith, lt))
type_there (x ∷ types) zero lt = refl
type_there (x ∷ types) (suc t) lt = type_there types t (omega (arith, lt))

type_placed : (types : List ℕ) (t : ℕ) → ((i j name : ℕ) → slice_get types i ≡ Some name → slice_get types j ≡ Some name → i ≡ j) → t < length types → place_of types (declared_name types t) ≡ Some t
type_placed [] t differ lt = absurd (omega (arith, lt))
type_placed (x ∷ types) zero differ lt = ap (λ b. if b then Some 0 else next_place (place_of types x)) (eq-eqb x x refl)
type_placed (x ∷ types) (suc t) differ lt =
    type_by types x (declared_name types t) t (type_placed types t (λ i j name p q. let s = differ (suc i) (suc j) name p q in omega (arith, s)) (omega (arith, lt)))
    (λ same. let s = differ 0 (suc t) x refl (type_there types t (omega (arith, lt)) ∙ ap Some (sym same)) in absurd (omega (arith, s))) (test (x == declared_name types t))

type_found : (table : Table) → IsTable table → (t : Ty) → is_declared table t ≡ true → IsTypeFound table t
type_found table is Whole e = refl
type_found table is Truth e = refl
type_found table is (Tree t) e = ap (λ o. type_or (tree_type o)) (type_placed table.types t.0 is.types_differ (ltb-true t.0 (length table.types) e))

types_found : (table : Table) → IsTable table → (ts : List Ty) → are_declared table ts ≡ true → AllByRecursion (IsTypeFound table) ts
types_found table is [] e = tt
types_found table is (t ∷ ts) e = let p = and_parts (is_declared table t) (are_declared table ts) e in (type_found table is t p.0, types_found table is ts p.1)

-- What a tuple's line tells.
pub record TupleFacts (table : Table) (b : Before) (d : Destination) (tys : List Ty) (ss : List Atom) (packed : ℕ) : Type 0 where
  pub due : are_due d tys ≡ true
  pub declared : are_declared table tys ≡ true
  pub scalars : have_types b ss (scalar_types tys) ≡ true
  pub count : packed ≡ length (tree_types tys)

pub parts_facts : (table : Table) (b : Before) (d : Destination) (tys : List Ty) (ss : List Atom) (packed : ℕ) → is_in_parts d ≡ true → are_parts table b d tys ss packed ≡ true → TupleFacts table b d tys ss packed
parts_facts table b Nowhere tys ss packed i e = absurd cc
parts_facts table b Empty tys ss packed i e = absurd cc
parts_facts table b (Open h k standing) tys ss packed i e = absurd cc
parts_facts table b (InParts due) tys ss packed i e =
    let p = and_parts (same_types tys due) _ e in
    let q = and_parts (are_declared table tys) _ p.1 in
    let r = and_parts (have_types b ss (scalar_types tys)) (packed == length (tree_types tys)) q.1 in
    record { due = p.0; declared = q.0; scalars = r.0; count = eqb-true packed (length (tree_types tys)) r.1 }

pub typed_long : (b : Before) (xs : List Atom) (ts : List Ty) → have_types b xs ts ≡ true → length xs ≡ length ts
typed_long b [] [] e = refl
typed_long b [] (t ∷ ts) e = absurd cc
typed_long b (x ∷ xs) [] e = absurd cc
typed_long b (x ∷ xs) (t ∷ ts) e = let more = typed_long b xs ts (and_parts (has_type b x t) (have_types b xs ts) e).1 in omega (arith, more)

-- Several variables are two at least, and as many as their types.
pub several_facts : (xs : List Variable) (tys : List Ty) → are_several xs tys ≡ true → AreSeveral xs × (length xs ≡ length tys) × (length tys ≤ 8)
several_facts xs tys e =
    let p = and_parts (nat_lt 1 (length xs) && nat_lt (length xs) 9) (length xs == length tys) e in
    let q = and_parts (nat_lt 1 (length xs)) (nat_lt (length xs) 9) p.0 in
    let same = eqb-true (length xs) (length tys) p.1 in
    let few : length xs < 9 = ltb-true (length xs) 9 q.1 in
    (two xs (ltb-true 1 (length xs) q.0), same, omega (arith, same, few))
  where
    two : (ys : List Variable) → 1 < length ys → AreSeveral ys
    two [] lt = absurd (omega (arith, lt))
    two (y ∷ []) lt = absurd (omega (arith, lt))
    two (y ∷ z ∷ ys) lt = tt

-- Constructors are found by their names.

named_by : (rows : List Row) (q r : Row) (k : ℕ) → place_of (map (λ (row : Row). row.name) rows) r.name ≡ Some k → (q.name ≡ r.name → ⊥) → Test (q.name == r.name) → place_of (map (λ (row : Row). row.name) (q ∷ rows)) r.name ≡ Some (suc k)
named_by rows q r k e ne (holds eq) = absurd (ne (eqb-true q.name r.name eq))
named_by rows q r k e ne (fails apart) = ap (λ t. if t then Some 0 else next_place (place_of (map (λ (row : Row). row.name) rows) r.name)) apart ∙ ap next_place e

place_named : (rows : List Row) (k : ℕ) (r : Row) → ((i j : ℕ) (q p : Row) → slice_get rows i ≡ Some q → slice_get rows j ≡ Some p → q.name ≡ p.name → i ≡ j) → slice_get rows k ≡ Some r
    → place_of (map (λ (row : Row). row.name) rows) r.name ≡ Some k
place_named [] k r differ e = absurd cc
place_named (q ∷ rows) zero r differ e =
    let same : q ≡ r = same_Some q r e in
    ap (λ t. if t then Some 0 else next_place (place_of (map (λ (row : Row). row.name) rows) r.name)) (eq-eqb q.name r.name (ap (λ (row : Row). row.name) same))
place_named (q ∷ rows) (suc k) r differ e =
    named_by rows q r k (place_named rows k r (λ i j p o f g n. let s = differ (suc i) (suc j) p o f g n in omega (arith, s)) e)
    (λ same. let s = differ 0 (suc k) q r refl e same in absurd (omega (arith, s))) (test (q.name == r.name))

found_if : (table : Table) → IsTable table → (t k : ℕ) (o : Option Row) → slice_get table.rows k ≡ o → if_owned t k o ≡ Some k → constructor_named table (name_of o) ≡ Some k
found_if table is t k None e c = absurd cc
found_if table is t k (Some r) e c = place_named table.rows k r is.names_differ e

found_con : (table : Table) → IsTable table → (t : ℕ) (k : ConId) → con_at table t k.0 ≡ Some k.0 → IsFound table k
found_con table is t k c = found_if table is t k.0 (slice_get table.rows k.0) refl c

found_at : (table : Table) → IsTable table → (k : ConId) (o : Option Row) → slice_get table.rows k.0 ≡ o → k.0 < length table.rows → constructor_named table (name_of o) ≡ Some k.0
found_at table is k None e lt = absurd (there table.rows k.0 lt e)
  where
    there : (rows : List Row) (i : ℕ) → i < length rows → slice_get rows i ≡ None → ⊥
    there [] i lt e = absurd (omega (arith, lt))
    there (r ∷ rows) zero lt e = absurd cc
    there (r ∷ rows) (suc i) lt e = there rows i (omega (arith, lt)) e
found_at table is k (Some r) e lt = place_named table.rows k.0 r is.names_differ e

pub found_in : (table : Table) → IsTable table → (k : ConId) → k.0 < length table.rows → IsFound table k
found_in table is k lt = found_at table is k (slice_get table.rows k.0) refl lt

pub past_found : (table : Table) → IsTable table → (k : ConId) (ty : Ty) → is_of_type table k ty ≡ true → IsFound table k
past_found table is k Whole e = absurd cc
past_found table is k Truth e = absurd cc
past_found table is k (Tree t) e = found_con table is t.0 k (con_there table t.0 k.0 e)

-- The constructors of a type are rows of the table.
rows_by : (ty : ℕ) (r : Row) (rows : List Row) → rows_before ty rows + rows_of ty rows ≤ length rows → Test (nat_lt r.owner ty) → Test (r.owner == ty) → rows_before ty (r ∷ rows) + rows_of ty (r ∷ rows) ≤ suc (length rows)
rows_by ty r rows le (holds l) (holds e) = let lt : r.owner < ty = ltb-true r.owner ty l in let eq = eqb-true r.owner ty e in absurd (omega (arith, lt, eq))
rows_by ty r rows le (holds l) (fails e) =
    let before : rows_before ty (r ∷ rows) ≡ 1 + rows_before ty rows = ap (λ t. if t then 1 + rows_before ty rows else rows_before ty rows) l in
    let of : rows_of ty (r ∷ rows) ≡ rows_of ty rows = ap (λ t. if t then 1 + rows_of ty rows else rows_of ty rows) e in
    omega (arith, le, before, of)
rows_by ty r rows le (fails l) (holds e) =
    let before : rows_before ty (r ∷ rows) ≡ rows_before ty rows = ap (λ t. if t then 1 + rows_before ty rows else rows_before ty rows) l in
    let of : rows_of ty (r ∷ rows) ≡ 1 + rows_of ty rows = ap (λ t. if t then 1 + rows_of ty rows else rows_of ty rows) e in
    omega (arith, le, before, of)
rows_by ty r rows le (fails l) (fails e) =
    let before : rows_before ty (r ∷ rows) ≡ rows_before ty rows = ap (λ t. if t then 1 + rows_before ty rows else rows_before ty rows) l in
    let of : rows_of ty (r ∷ rows) ≡ rows_of ty rows = ap (λ t. if t then 1 + rows_of ty rows else rows_of ty rows) e in
    omega (arith, le, before, of)

pub rows_inside : (ty : ℕ) (rows : List Row) → rows_before ty rows + rows_of ty rows ≤ length rows
rows_inside ty [] = omega arith
rows_inside ty (r ∷ rows) = rows_by ty r rows (rows_inside ty rows) (test (nat_lt r.owner ty)) (test (r.owner == ty))

pub covered : (table : Table) (o : Option Ty) (arms : List (ConId × List Variable)) → cover table o arms ≡ true → (t : ℕ) × (are_arms table (constructors_of table t) arms ≡ true)
covered table None arms e = absurd cc
covered table (Some Whole) arms e = absurd cc
covered table (Some Truth) arms e = absurd cc
covered table (Some (Tree t)) arms e = (t.0, e)

-- Heads.

abbrev HeadFound : Table → Destination → Type 0
HeadFound table Nowhere = Unit {0}
HeadFound table Empty = Unit {0}
HeadFound table (Open h k standing) = IsFound table k
HeadFound table (InParts tys) = Unit {0}

head_stays : (table : Table) (kind : Kind) (x : Variable) (d : Destination) → HeadFound table d → HeadFound table (stands_too kind x d)
head_stays table Here x Nowhere h = tt
head_stays table Here x Empty h = tt
head_stays table Here x (Open q k standing) h = h
head_stays table Here x (InParts tys) h = tt
head_stays table Region x d h = h
head_stays table Scalar x d h = h

head_inside : (table : Table) (s : Setting) (kind : Kind) (ty : Ty) → HeadFound table (in_side table s kind ty).destination
head_inside table s Here ty = tt
head_inside table s Region ty = tt
head_inside table s Scalar ty = tt

-- Behind a side, and for the right one of two.
head_behind : (table : Table) (x : Side) (s : Setting) → HeadFound table s.destination → HeadFound table (behind_side s x).destination
head_behind table (On kind x ty t) s h = head_stays table kind x s.destination h
head_behind table (Several xs tys t) s h = h

head_right : (table : Table) (x : Side) (s : Setting) → HeadFound table s.destination → HeadFound table (right_of s x).destination
head_right table (On kind x ty t) s h = head_stays table kind x s.destination h
head_right table (Several xs tys t) s h = h

scope_right : (n : ℕ) (x : Side) (s : Setting) → InScope n s.scope → InScope n (right_of s x).scope
scope_right n (On kind x ty t) s h = h
scope_right n (Several xs tys t) s h = h

scope_behind : (n m : ℕ) (x : Side) (s : Setting) → Runs n (side_binders x) m → InScope n s.scope → InScope m (behind_side s x).scope
scope_behind n m (On kind x ty t) s runs h = scope_bound n m x s.scope runs.0 (runs_up (n + 1) m (binders t) runs.1) h
scope_behind n m (Several xs tys t) s runs h =
    let r = runs_apart n m (map (λ (x : Variable). x.0) xs) (binders t) runs in
    scope_more r.0 m (with_variables xs s.scope) (runs_up r.0 m (binders t) r.2) (scope_variables n r.0 xs s.scope r.1 h)

scope_inside : (table : Table) (n : ℕ) (s : Setting) (kind : Kind) (ty : Ty) → InScope n s.scope → InScope n (in_side table s kind ty).scope
scope_inside table n s Here ty h = h
scope_inside table n s Region ty h = h
scope_inside table n s Scalar ty h = h

write_found : (table : Table) (b : Before) (d : Destination) (h : Variable) (k : ConId) (ps : List Atom) → may_write table b d h k ps ≡ true → HeadFound table d → IsFound table k
write_found table b Nowhere h k ps e f = absurd cc
write_found table b Empty h k ps e f = absurd cc
write_found table b (InParts tys) h k ps e f = absurd cc
write_found table b (Open q c standing) h k ps e f =
    let p = and_parts (q.0 == h.0 && c.0 == k.0) _ e in
    let same = eqb-true c.0 k.0 (and_parts (q.0 == h.0) (c.0 == k.0) p.0).1 in
    subst (λ (i : ℕ). IsFound table (record { 0 = i })) same f

-- What a binding leaves.
record BindIn (core : CoreTree) (n k : ℕ) (b : Bind) (s : Setting) : Type 0 where
  ordered : BindOrdered core.table n b
  next : Rattle.gib_core.specs.Ordered.next_of n b ≤ k
  head : HeadFound core.table (behind s b).destination
  scope : InScope k (behind s b).scope

-- What a side leaves.
record SideIn (table : Table) (n k : ℕ) (x : Side) : Type 0 where
  ordered : SideOrdered table n x
  next : behind_variables n x ≤ k

several_in : (table : Table) (n m k : ℕ) (xs : List Variable) (tys : List Ty) (t : Term) → Runs n (map (λ (x : Variable). x.0) xs) m → m ≤ k → are_several xs tys ≡ true → IsOrdered table m t
    → SideIn table n k (Several xs tys t)
several_in table n m k xs tys t runs le e h =
    let same = behind_exact n m xs runs in
    let facts = several_facts xs tys e in
    record { ordered = ((fields_in n m xs runs).0, subst (λ (i : ℕ). IsOrdered table i t) (sym same) h, facts.0, facts.1); next = omega (arith, same, le) }

side_in : (table : Table) (n : ℕ) (kind : Kind) (x : Variable) (ty : Ty) (t : Term) → x.0 ≡ n → IsOrdered table (n + 1) t → SideOrdered table n (On kind x ty t)
side_in table n kind x ty t e h =
    let same : n + 1 ≡ x.0 + 1 = omega (arith, e) in
    (omega (arith, e), subst (λ (m : ℕ). IsOrdered table m t) same h)

mutual
  term_in : (core : CoreTree) → IsTable core.table → (t : Term) (b : Before) (s : Setting) (n m : ℕ) → Runs n (binders t) m → IsNaturalTerm t → HeadFound core.table s.destination → InScope n s.scope
      → LinesAreBuilt core b (met core.table s t) → IsOrdered core.table n t
  term_in core is (Then k rest) b s n m runs l hd sc h =
      let parts = built_apart core b (met_bind core.table s k) (met core.table (behind s k) rest) h in
      let r = runs_apart n m (bind_binders k) (binders rest) runs in
      let bd = bind_in core is k b s n r.0 r.1 l.0 hd sc parts.0 in
      (bd.ordered, (r.0, bd.next, term_in core is rest (next_all core.table b (met_bind core.table s k)) (behind s k) r.0 m r.2 l.1 bd.head bd.scope parts.1))
  term_in core is (Write q k ss ps) b s n m runs l hd sc h =
      let r = least4 4 5 8 9 (any_other s (ss ++ ps)) (not (may_write core.table b s.destination q k ps)) (not (all_usable s (ss ++ ps))) (not (are_scalars core.table b s.destination ss)) h.0 in
      let u = usable_apart s ss ps (not-false (all_usable s (ss ++ ps)) r.2) in
      (write_found core.table b s.destination q k ps (not-false (may_write core.table b s.destination q k ps) r.1) hd, atoms_in n s ss u.0 l.0 sc, atoms_in n s ps u.1 l.1 sc)
  term_in core is (Point x) b s n m runs l hd sc h =
      let r = least4 4 6 8 9 (is_other s x) (not (is_empty s.destination)) (not (is_usable s x)) (not (has_type b x s.due)) h.0 in
      atom_in n s x (not-false (is_usable s x) r.2) l sc
  term_in core is (CallTerm g xs) b s n m runs l hd sc h = atoms_in n s xs (call_facts core b s g xs h.0).usable l sc
  term_in core is (Give x) b s n m runs l hd sc h =
      let r = least3 4 8 9 (is_other s x) (not (is_usable s x)) (not (is_nowhere s.destination && has_type b x s.due)) h.0 in
      atom_in n s x (not-false (is_usable s x) r.1) l sc
  term_in core is (CaseTerm x bs) b s n m runs l hd sc h =
      let facts = case_facts core b s x (arms_of bs) h.0 in
      let cov = covered core.table (type_of b x) (arms_of bs) facts.covers in (
        atom_in n s x facts.usable l.0 sc,
        branches_in core is bs (next core.table b (CaseLine x (arms_of bs))) s n n m (first_at core.table cov.0) (count_at core.table cov.0) (omega arith) runs l.1 hd sc h.1 cov.1 (rows_inside cov.0 core.table.rows),
      )
  term_in core is (IfTerm x t u) b s n m runs l hd sc h =
      let r = least3 4 8 9 (is_other s x) (not (is_usable s x)) (not (has_type b x Truth)) h.0 in
      let lines = met core.table (in_branch s) t in
      let parts = built_apart core b lines (met core.table (in_branch s) u) h.1 in
      let p = runs_apart n m (binders t) (binders u) runs in
      let up = runs_up n p.0 (binders t) p.1 in (
        atom_in n s x (not-false (is_usable s x) r.1) l.0 sc,
        (n, omega arith, term_in core is t b (in_branch s) n p.0 p.1 l.1.0 hd sc parts.0),
        (p.0, up, term_in core is u (next_all core.table b lines) (in_branch s) p.0 m p.2 l.1.1 hd (scope_more n p.0 s.scope up sc) parts.1),
      )
  term_in core is (Tuple tys ss ps) b s n m runs l hd sc h =
      let r = least4 4 8 9 10 (any_other s ss) (not (all_usable s ss)) (not (are_parts core.table b s.destination tys ss (parts_count ps))) (not (is_in_parts s.destination)) h.0 in
      let facts = parts_facts core.table b s.destination tys ss (parts_count ps) (not-false (is_in_parts s.destination) r.3) (not-false (are_parts core.table b s.destination tys ss (parts_count ps)) r.2) in (
        atoms_in n s ss (not-false (all_usable s ss) r.1) l.0 sc,
        parts_in core is ps (tree_types tys) b s n n m (omega arith) runs l.1 sc h.1,
        (types_found core.table is tys facts.declared, typed_long b ss (scalar_types tys) facts.scalars, facts.count),
      )

  parts_in : (core : CoreTree) → IsTable core.table → (ps : PartTerms) (tys : List Ty) (b : Before) (s : Setting) (low n m : ℕ) → low ≤ n → Runs n (part_binders ps) m → AreNaturalParts ps → InScope n s.scope
      → LinesAreBuilt core b (met_parts core.table s tys ps) → PartsOrdered core.table low ps
  parts_in core is NoPart tys b s low n m le runs l sc h = tt
  parts_in core is (PartThen t ps) tys b s low n m le runs l sc h =
      let inner = in_part s (first_type tys) in
      let lines = met core.table inner t in
      let parts = built_apart core (next core.table b PartLine) lines (met_parts core.table s (further_types tys) ps) h.1 in
      let p = runs_apart n m (binders t) (part_binders ps) runs in
      let up = runs_up n p.0 (binders t) p.1 in (
        (n, le, term_in core is t (next core.table b PartLine) inner n p.0 p.1 l.1.0 tt sc parts.0),
        parts_in core is ps (further_types tys) (next_all core.table (next core.table b PartLine) lines) s low p.0 m (omega (arith, le, up)) p.2 l.1.1 (scope_more n p.0 s.scope up sc) parts.1,
      )

  side_placed : (core : CoreTree) → IsTable core.table → (x : Side) (b : Before) (s : Setting) (n m : ℕ) → Runs n (side_binders x) m → IsNaturalSide x → InScope n s.scope
      → LinesAreBuilt core b (met_side core.table s x) → SideIn core.table n m x
  side_placed core is (On kind x ty t) b s n m runs l sc h =
      let up = runs_up (n + 1) m (binders t) runs.1 in
      let inner = scope_inside core.table (n + 1) s kind ty (scope_more n (n + 1) s.scope (omega arith) sc) in
      let o = term_in core is t (next core.table b (SideLine kind x ty)) (in_side core.table s kind ty) (n + 1) m runs.1 l.1 (head_inside core.table s kind ty) inner h.1 in
      record { ordered = side_in core.table n kind x ty t runs.0 o; next = omega (arith, runs.0, up) }
  side_placed core is (Several xs tys t) b s n m runs l sc h =
      let r = runs_apart n m (map (λ (x : Variable). x.0) xs) (binders t) runs in
      let up = runs_up n r.0 (map (λ (x : Variable). x.0) xs) r.1 in
      let o = term_in core is t (next core.table b (SeveralLine xs tys)) (in_several s tys) r.0 m r.2 l.1 tt (scope_more n r.0 s.scope up sc) h.1 in
      let rule = least2 8 11 (any_bound xs [] b.bound) (not (are_several xs tys)) h.0 in
      several_in core.table n r.0 m xs tys t r.1 (runs_up r.0 m (binders t) r.2) (not-false (are_several xs tys) rule.1) o

  bind_in : (core : CoreTree) → IsTable core.table → (k : Bind) (b : Before) (s : Setting) (n m : ℕ) → Runs n (bind_binders k) m → IsNaturalBind k → HeadFound core.table s.destination → InScope n s.scope
      → LinesAreBuilt core b (met_bind core.table s k) → BindIn core n m k s
  bind_in core is (Past q k) b s n m runs l hd sc h =
      let r = least2 1 8 (not (is_empty s.destination && is_of_type core.table k s.due)) (is_bound b.bound q) h.0 in
      let both = and_parts (is_empty s.destination) (is_of_type core.table k s.due) (not-false (is_empty s.destination && is_of_type core.table k s.due) r.0) in
      record { ordered = tt; next = omega (arith, runs.1); head = past_found core.table is k s.due both.1; scope = scope_more n m s.scope (omega (arith, runs.1)) sc }
  bind_in core is (One x) b s n m runs l hd sc h =
      let o = side_placed core is x b s n m runs l sc h in
      record { ordered = o.ordered; next = o.next; head = head_behind core.table x s hd; scope = scope_behind n m x s runs sc }
  bind_in core is (Both fork x y) b s n m runs l hd sc h =
      let ls = left_of s y in
      let rs = right_of s x in
      let c = next core.table b ParLine in
      let lines = met_side core.table ls x in
      let parts = built_apart core c lines (met_side core.table rs y) h.1 in
      let p = runs_apart n m (side_binders x) (side_binders y) runs in
      let up = runs_up n p.0 (side_binders x) p.1 in
      let ol = side_placed core is x c ls n p.0 p.1 l.1.0 sc parts.0 in
      let or = side_placed core is y (next_all core.table c lines) rs p.0 m p.2 l.1.1 (scope_more n p.0 rs.scope up (scope_right n x s sc)) parts.1 in
      let same = behind_same core.table (behind_variables n x) p.0 y or.ordered in
      record {
        ordered = (ol.ordered, (p.0, ol.next, or.ordered));
        next = omega (arith, same, or.next);
        head = head_behind core.table y (behind_side s x) (head_behind core.table x s hd);
        scope = scope_behind p.0 m y (behind_side s x) p.2 (scope_behind n p.0 x s p.1 sc);
      }
  bind_in core is (Prim x f y z) b s n m runs l hd sc h =
      let facts = prim_facts core b s x f y z h.0 in
      let us = and_parts (is_usable s y) (is_usable s z && true) facts.usable in
      let uz = and_parts (is_usable s z) true us.1 in
      record {
        ordered = (omega (arith, runs.0), atom_in n s y us.0 l.0 sc, atom_in n s z uz.0 l.1 sc);
        next = omega (arith, runs.0, runs.1);
        head = hd;
        scope = scope_bound n m x s.scope runs.0 (omega (arith, runs.1)) sc;
      }
  bind_in core is (Reach y by) b s n m runs l hd sc h =
      record { ordered = tt; next = omega (arith, runs); head = hd; scope = scope_more n m (reached_too (known s.scope y) s.scope) (omega (arith, runs)) (scope_reach n s.scope y (known s.scope y) refl sc) }

  branches_in : (core : CoreTree) → IsTable core.table → (bs : Branches) (b : Before) (s : Setting) (low n m first count : ℕ) → low ≤ n → Runs n (branch_binders bs) m → AreNaturalBranches bs → HeadFound core.table s.destination
      → InScope n s.scope → LinesAreBuilt core b (met_branches core.table s bs) → are_arms core.table (numbers_from first count) (arms_of bs) ≡ true → first + count ≤ length core.table.rows → BranchesOrdered core.table low bs
  branches_in core is NoBranch b s low n m first count le runs l hd sc h e rows = tt
  branches_in core is (BranchThen k xs t bs) b s low n m first zero le runs l hd sc h e rows = absurd cc
  branches_in core is (BranchThen k xs t bs) b s low n m first (suc count) le runs l hd sc h e rows =
      let p = and_parts (first == k.0 && length (fields_at core.table first) == length xs) (are_arms core.table (numbers_from (suc first) count) (arms_of bs)) e in
      let is_k = eqb-true first k.0 (and_parts (first == k.0) (length (fields_at core.table first) == length xs) p.0).0 in
      let r = runs_apart n m (map (λ (x : Variable). x.0) xs) (binders t ++ branch_binders bs) runs in
      let q = runs_apart r.0 m (binders t) (branch_binders bs) r.2 in
      let up = runs_up n r.0 (map (λ (x : Variable). x.0) xs) r.1 in
      let up' = runs_up r.0 q.0 (binders t) q.1 in
      let f = fields_in n r.0 xs r.1 in
      let lines = met core.table (in_arm core.table s k xs) t in
      let parts = built_apart core b lines (met_branches core.table s bs) h in
      let o = term_in core is t b (in_arm core.table s k xs) r.0 q.0 q.1 l.1.0 hd (scope_arm n r.0 k xs (fields_at core.table k.0) None s.scope r.1 sc) parts.0 in (
        (n, le, f.0, found_in core.table is k (omega (arith, is_k, rows)), (r.0, f.1, o)),
        branches_in core is bs (next_all core.table b lines) s low q.0 m (suc first) count (omega (arith, le, up, up')) q.2 l.1.1 hd (scope_more n q.0 s.scope (omega (arith, up, up')) sc) parts.1 p.1 (omega (arith, rows)),
      )

-- Bodies.

parameters_in : (i : ℕ) (ts : List Ty) (ks : List Known) (n : ℕ) → i + length ts ≤ n → InScope n ks → InScope n (with_parameters i ts ks)
parameters_in i [] ks n le h = h
parameters_in i (t ∷ ts) ks n le h = parameters_in (suc i) ts (reached (record { 0 = i }) ∷ ks) n (omega (arith, le)) (scope_put n (reached (record { 0 = i })) ks (omega (arith, le)) h)

no_head : (table : Table) (r : Results Ty) → HeadFound table (result_place r)
no_head table (results.One Whole) = tt
no_head table (results.One Truth) = tt
no_head table (results.One (Tree t)) = tt
no_head table (results.Several tys) = tt

body_in : (core : CoreTree) (b : Body) → IsTable core.table → IsNumbered b → IsNaturalTerm b.term → IsBuilt core b → IsOrdered core.table (length b.parameters) b.term
body_in core b is num l built =
    let n = length b.parameters in
    let count = length (binders b.term) in
    let none_yet : InScope n [] = record { inside = λ x k e. absurd cc } in
    term_in core is b.term (before_body b) (opening b) n (n + count) (subst (λ xs. Runs n xs (n + count)) (sym num) (number_runs n count)) l (no_head core.table b.result)
    (parameters_in 0 b.parameters [] n (omega arith) none_yet) built

all_in : (core : CoreTree) (bs : List Body) → IsTable core.table → AllByRecursion IsNumbered bs → AllByRecursion (λ (b : Body). IsNaturalTerm b.term) bs → AllByRecursion (IsBuilt core) bs
    → AllByRecursion (λ (b : Body). IsOrdered core.table (length b.parameters) b.term) bs
all_in core [] is num l built = tt
all_in core (b ∷ bs) is num l built = (body_in core b is num.0 l.0 built.0, all_in core bs is num.1 l.1 built.1)

pub built_ordered : (core : CoreTree) → IsTable core.table → AreNumbered core → AreNatural core → AreBuilt core → AreOrdered core
built_ordered core is num l built = all_in core (bodies core) is num l built
