-- What stands behind lines: the variables that they bind, with their types, and those that cases are on.
use Rattle.std.proofs.Common.{◌≡◌, ℕ, zero, suc, ◌+◌, ◌≤◌, Bool, true, false, ◌||◌, ◌==◌, if◌then◌else◌, List, [], ◌∷◌, ◌++◌, map, Some, refl, sym, ap, ◌∙◌, subst, arith}
use Rattle.std.proofs.lemmas.Bool.{eq-eqb, false_from_ne_true, or_from}
use Rattle.gib_types.specs.declared.table.Ty.{Ty}
use Rattle.gib_types.specs.declared.table.ConId.{ConId}
use Rattle.gib_types.specs.Table.{Table, fields_at, tree_types}
use Rattle.gib_core.specs.declared.atom.Variable.{Variable}
use Rattle.gib_core.specs.declared.atom.Atom.{Atom}
use Rattle.gib_core.specs.declared.atom.Atom.TheVariants as a
use Rattle.gib_core.specs.declared.scope.Bound.{Bound}
use Rattle.gib_core.specs.Tree.{Term, Then, Write, Point, CallTerm, Give, CaseTerm, IfTerm, Tuple, PartTerms, NoPart, PartThen, Bind, Past, One, Both, Prim, Reach, Side, On, Several, Branches, NoBranch, BranchThen}
use Rattle.gib_core.specs.Inferring.{first_type, further_types}
use Rattle.gib_core.specs.Numbering.{binders, bind_binders, side_binders, part_binders, branch_binders}
use Rattle.gib_core.specs.Met.{Setting, Met, PastLine, SideLine, ParLine, PrimLine, ReachLine, WriteLine, PointLine, CallLine, GiveLine, CaseLine, IfLine, SeveralLine, TupleLine, PartLine, in_side, in_several, in_part, behind, left_of, right_of, in_arm, in_branch, arms_of, met, met_bind, met_side, met_parts, met_branches}
use Rattle.gib_core.specs.Rules.{Before, is_among, is_bound, type_bound, bind_fields, bind_arms, arm_variables, cases_on, next, next_all}
use Rattle.gib_core.specs.Walk.{Entry, AtLine, AtArm, walk, walk_bind, walk_side}
use Rattle.gib_core.proofs.Walks.{Joins, walk_joins, bind_joins, side_joins}
use Rattle.gib_core.proofs.After.{in_turn, step, after_is, bind_after, side_after}
use Rattle.gib_core.specs.Counting.{count_atom, entry_counts, count, count_bind}
use Rattle.gib_core.proofs.Along.{next_append}
use Rattle.gib_place.proofs.Counts.{occurs, occurs_append}

-- The numbers of what was bound.
abbrev pub nums : List Bound → List ℕ
nums bs = map (λ (b : Bound). b.variable.0) bs

abbrev pub times : List Variable → ℕ → ℕ
times xs y = occurs (map (λ (x : Variable). x.0) xs) y

pub bound_counts : (bs : List Bound) (y : Variable) → is_bound bs y ≡ true → 1 ≤ occurs (nums bs) y.0
bound_counts [] y m = absurd cc
bound_counts (b ∷ bs) y m = go (b.variable.0 == y.0) m (bound_counts bs y)
  where
    go : (c : Bool) → (c || is_bound bs y) ≡ true → (is_bound bs y ≡ true → 1 ≤ occurs (nums bs) y.0) → 1 ≤ (if c then 1 else 0) + occurs (nums bs) y.0
    go true m h = omega arith
    go false m h = let k = h m in omega arith

pub new_there : (bs : List Bound) (y : Variable) → occurs (nums bs) y.0 ≡ 0 → is_bound bs y ≡ false
new_there bs y e = false_from_ne_true (is_bound bs y) (λ m. let k = bound_counts bs y m in omega arith)

pub times_among : (xs : List Variable) (y : Variable) → is_among xs y ≡ true → 1 ≤ times xs y.0
times_among [] y m = absurd cc
times_among (x ∷ xs) y m = go (x.0 == y.0) m (times_among xs y)
  where
    go : (c : Bool) → (c || is_among xs y) ≡ true → (is_among xs y ≡ true → 1 ≤ times xs y.0) → 1 ≤ (if c then 1 else 0) + times xs y.0
    go true m h = omega arith
    go false m h = let k = h m in omega arith

pub none_among : (xs : List Variable) (y : Variable) → times xs y.0 ≡ 0 → is_among xs y ≡ false
none_among xs y e = false_from_ne_true (is_among xs y) (λ m. let k = times_among xs y m in omega arith)

pub own_time : (x : Variable) → (if x.0 == x.0 then 1 else 0) ≡ (suc zero)
own_time x = ap (λ (b : Bool). if b then (suc zero) else zero) (eq-eqb x.0 x.0 refl)

times_append : (xs ys : List Variable) (y : ℕ) → times (xs ++ ys) y ≡ times xs y + times ys y
times_append [] ys y = omega arith
times_append (x ∷ xs) ys y = let e = times_append xs ys y in omega arith

-- The arms' variables, and what their terms bind.
abbrev pub branch_terms : Branches → List ℕ
branch_terms NoBranch = []
branch_terms (BranchThen k xs t rest) = binders t ++ branch_terms rest

pub branch_occurs : (bs : Branches) (y : ℕ) → occurs (branch_binders bs) y ≡ times (arm_variables (arms_of bs)) y + occurs (branch_terms bs) y
branch_occurs NoBranch y = omega arith
branch_occurs (BranchThen k xs t rest) y =
    let e = branch_occurs rest y in
    let p = occurs_append (map (λ (x : Variable). x.0) xs) (binders t ++ branch_binders rest) y in
    let q = occurs_append (binders t) (branch_binders rest) y in
    let r = occurs_append (binders t) (branch_terms rest) y in
    let z = times_append xs (arm_variables (arms_of rest)) y in
    omega arith

fields_nums : (xs : List Variable) (types : List Ty) (bound : List Bound) (y : ℕ) → occurs (nums (bind_fields xs types bound)) y ≡ times xs y + occurs (nums bound) y
fields_nums [] types bound y = omega arith
fields_nums (x ∷ xs) types bound y = let e = fields_nums xs (further_types types) (record { variable = x; ty = first_type types } ∷ bound) y in omega arith

arms_nums : (tb : Table) (arms : List (ConId × List Variable)) (bound : List Bound) (y : ℕ) → occurs (nums (bind_arms tb arms bound)) y ≡ times (arm_variables arms) y + occurs (nums bound) y
arms_nums tb [] bound y = omega arith
arms_nums tb (arm ∷ arms) bound y =
    let e = arms_nums tb arms (bind_fields arm.1 (fields_at tb arm.0.0) bound) y in
    let f = fields_nums arm.1 (fields_at tb arm.0.0) bound y in
    let z = times_append arm.1 (arm_variables arms) y in
    omega arith

pub case_nums : (tb : Table) (x : Atom) (arms : List (ConId × List Variable)) (b : Before) (y : ℕ) → occurs (nums (next tb b (CaseLine x arms)).bound) y ≡ times (arm_variables arms) y + occurs (nums b.bound) y
case_nums tb x arms b y = arms_nums tb arms b.bound y

pub fields_types : (xs : List Variable) (types : List Ty) (bound bound' : List Bound) (y : Variable) → (is_among xs y ≡ false → type_bound bound' y ≡ type_bound bound y) → type_bound (bind_fields xs types bound') y ≡ type_bound (bind_fields xs types bound) y
fields_types [] types bound bound' y h = h refl
fields_types (x ∷ xs) types bound bound' y h =
    fields_types xs (further_types types) (record { variable = x; ty = first_type types } ∷ bound) (record { variable = x; ty = first_type types } ∷ bound') y (λ o. go (x.0 == y.0) (λ e. h (or_from (x.0 == y.0) (is_among xs y) e o)) refl)
  where
    go : (c : Bool) → ((x.0 == y.0) ≡ false → type_bound bound' y ≡ type_bound bound y) → (x.0 == y.0) ≡ c → (if c then Some (first_type types) else type_bound bound' y) ≡ (if c then Some (first_type types) else type_bound bound y)
    go true f e = refl
    go false f e = f e

pub arms_types : (tb : Table) (arms : List (ConId × List Variable)) (bound bound' : List Bound) (y : Variable) → (is_among (arm_variables arms) y ≡ false → type_bound bound' y ≡ type_bound bound y) → type_bound (bind_arms tb arms bound') y ≡ type_bound (bind_arms tb arms bound) y
arms_types tb [] bound bound' y h = h refl
arms_types tb (arm ∷ arms) bound bound' y h =
    arms_types tb arms (bind_fields arm.1 (fields_at tb arm.0.0) bound) (bind_fields arm.1 (fields_at tb arm.0.0) bound') y
    (λ o. fields_types arm.1 (fields_at tb arm.0.0) bound bound' y (λ p. h (not_either arm.1 (arm_variables arms) p o)))
  where
    not_either : (xs ys : List Variable) → is_among xs y ≡ false → is_among ys y ≡ false → is_among (xs ++ ys) y ≡ false
    not_either xs ys p o = Rattle.gib_core.proofs.Along.among_append xs ys y ∙ or_from (is_among xs y) (is_among ys y) p o

fields_past : (xs : List Variable) (types : List Ty) (bound : List Bound) (y : Variable) → times xs y.0 ≡ 0 → type_bound (bind_fields xs types bound) y ≡ type_bound bound y
fields_past [] types bound y e = refl
fields_past (x ∷ xs) types bound y e =
    fields_past xs (further_types types) (record { variable = x; ty = first_type types } ∷ bound) y (omega arith)
    ∙ ap (λ c. if c then Some (first_type types) else type_bound bound y) (false_from_ne_true (x.0 == y.0) (λ m. let s = ap (λ (c : Bool). if c then (suc zero) else zero) m in omega arith))

arms_past : (tb : Table) (arms : List (ConId × List Variable)) (bound : List Bound) (y : Variable) → times (arm_variables arms) y.0 ≡ 0 → type_bound (bind_arms tb arms bound) y ≡ type_bound bound y
arms_past tb [] bound y e = refl
arms_past tb (arm ∷ arms) bound y e =
    let z = times_append arm.1 (arm_variables arms) y.0 in
    arms_past tb arms (bind_fields arm.1 (fields_at tb arm.0.0) bound) y (omega arith) ∙ fields_past arm.1 (fields_at tb arm.0.0) bound y (omega arith)

one_past : (x : Variable) (ty : Ty) (bound : List Bound) (y : Variable) → occurs (x.0 ∷ []) y.0 ≡ 0 → type_bound (record { variable = x; ty = ty } ∷ bound) y ≡ type_bound bound y
one_past x ty bound y e = ap (λ c. if c then Some ty else type_bound bound y) (false_from_ne_true (x.0 == y.0) (λ m. let s = ap (λ (c : Bool). if c then (suc zero) else zero) m in omega arith))

-- The variables that cases are on, behind an entry and behind a term; behind a binding, a side.
abbrev pub entry_casing : Entry → List Variable → List Variable
entry_casing (AtLine l) c = cases_on l c
entry_casing (AtArm k xs) c = c

abbrev pub casing : Term → List Variable → List Variable
casing t = walk in_turn (λ c. c) entry_casing t

abbrev pub casing_bind : Bind → List Variable → List Variable
casing_bind b = walk_bind in_turn (λ c. c) entry_casing b

abbrev pub casing_side : Side → List Variable → List Variable
casing_side s = walk_side in_turn (λ c. c) entry_casing s

pub case_counts : (x : Atom) (arms : List (ConId × List Variable)) (c : List Variable) (y : Variable) → times (cases_on (CaseLine x arms) c) y.0 ≤ times c y.0 + count_atom y x
case_counts (a.Variable x) arms c y = omega arith
case_counts (a.Whole z) arms c y = omega arith
case_counts (a.Truth t) arms c y = omega arith

entry_casing_counts : (y : Variable) (l : Entry) (c : List Variable) → times (entry_casing l c) y.0 ≤ times c y.0 + entry_counts y l
entry_casing_counts y (AtLine (CaseLine x arms)) c = case_counts x arms c y
entry_casing_counts y (AtLine (PastLine h k)) c = omega arith
entry_casing_counts y (AtLine (SideLine kind x ty)) c = omega arith
entry_casing_counts y (AtLine ParLine) c = omega arith
entry_casing_counts y (AtLine (PrimLine x f v w)) c = omega arith
entry_casing_counts y (AtLine (ReachLine x by)) c = omega arith
entry_casing_counts y (AtLine (WriteLine h k ss ps)) c = omega arith
entry_casing_counts y (AtLine (PointLine x)) c = omega arith
entry_casing_counts y (AtLine (CallLine f xs)) c = omega arith
entry_casing_counts y (AtLine (GiveLine x)) c = omega arith
entry_casing_counts y (AtLine (IfLine x)) c = omega arith
entry_casing_counts y (AtLine (SeveralLine xs tys)) c = omega arith
entry_casing_counts y (AtLine (TupleLine tys ss packed)) c = omega arith
entry_casing_counts y (AtLine PartLine) c = omega arith
entry_casing_counts y (AtArm k xs) c = omega arith

-- A variable is used where a case is on it.
abbrev Counts : Variable → (List Variable → List Variable) → ℕ → Type 0
Counts y go n = (c : List Variable) → times (go c) y.0 ≤ times c y.0 + n

counts_join : (y : Variable) → Joins (Counts y) in_turn (λ c. c) entry_casing (◌+◌) 0 (entry_counts y)
counts_join y = record {
  none = λ c. omega arith;
  two = λ f g m n p q c. let h = p c in let k = q (f c) in omega arith;
  one = entry_casing_counts y;
}

pub casing_counts : (t : Term) (c : List Variable) (y : Variable) → times (casing t c) y.0 ≤ times c y.0 + count t y
casing_counts t c y = walk_joins {R = Counts y} {op = in_turn} {e = λ d. d} {g = entry_casing} {op' = (◌+◌)} {e' = 0} {g' = entry_counts y} (counts_join y) t c

pub bind_casing_counts : (b : Bind) (c : List Variable) (y : Variable) → times (casing_bind b c) y.0 ≤ times c y.0 + count_bind b y
bind_casing_counts b c y = bind_joins {R = Counts y} {op = in_turn} {e = λ d. d} {g = entry_casing} {op' = (◌+◌)} {e' = 0} {g' = entry_counts y} (counts_join y) b c

-- What stands behind lines that bind these numbers.
pub record Gains (b c : Before) (xs : List ℕ) : Type 0 where
  pub counts : (y : ℕ) → occurs (nums c.bound) y ≡ occurs (nums b.bound) y + occurs xs y
  pub types : (y : Variable) → occurs xs y.0 ≡ 0 → type_bound c.bound y ≡ type_bound b.bound y

pub gains_none : (b : Before) → Gains b b []
gains_none b = record { counts = λ y. omega arith; types = λ y o. refl }

pub gains_one : (x : Variable) (ty : Ty) (b : Before) → Gains b (record { bound = record { variable = x; ty = ty } ∷ b.bound; cased = b.cased }) (x.0 ∷ [])
gains_one x ty b = record { counts = λ y. omega arith; types = λ y o. one_past x ty b.bound y o }

pub gains_all : (xs : List Variable) (types : List Ty) (b : Before) → Gains b (record { bound = bind_fields xs types b.bound; cased = b.cased }) (map (λ (x : Variable). x.0) xs)
gains_all xs types b = record { counts = λ y. let e = fields_nums xs types b.bound y in omega arith; types = λ y o. fields_past xs types b.bound y o }

pub gains_then : (b c d : Before) (xs ys : List ℕ) → Gains b c xs → Gains c d ys → Gains b d (xs ++ ys)
gains_then b c d xs ys p q = record {
  counts = λ y. let m = p.counts y in let n = q.counts y in let r = occurs_append xs ys y in omega arith;
  types = λ y o. let r = occurs_append xs ys y.0 in q.types y (omega arith) ∙ p.types y (omega arith);
}

-- What stands behind a term, whatever it is met with.
module _ (tb : Table) where
  pub gains_both : (b : Before) (ls ms : List Met) (xs ys : List ℕ) → Gains b (next_all tb b ls) xs → Gains (next_all tb b ls) (next_all tb (next_all tb b ls) ms) ys → Gains b (next_all tb b (ls ++ ms)) (xs ++ ys)
  gains_both b ls ms xs ys p q = subst (λ (z : Before). Gains b z (xs ++ ys)) (sym (next_append tb b ls ms)) (gains_then b (next_all tb b ls) (next_all tb (next_all tb b ls) ms) xs ys p q)

  mutual
    pub gains_term : (t : Term) (s : Setting) (b : Before) → Gains b (next_all tb b (met tb s t)) (binders t)
    gains_term (Then bind rest) s b =
        let ls = met_bind tb s bind in gains_both b ls (met tb (behind s bind) rest) (bind_binders bind) (binders rest) (gains_bind bind s b) (gains_term rest (behind s bind) (next_all tb b ls))
    gains_term (Write h k ss ps) s b = gains_none b
    gains_term (Point x) s b = gains_none b
    gains_term (CallTerm f xs) s b = gains_none b
    gains_term (Give x) s b = gains_none b
    gains_term (CaseTerm x bs) s b =
        let p = gains_branches bs s (next tb b (CaseLine x (arms_of bs))) in
        record {
          counts = λ y. let m = p.counts y in let q = case_nums tb x (arms_of bs) b y in let r = branch_occurs bs y in omega arith;
          types = λ y o. let r = branch_occurs bs y.0 in p.types y (omega arith) ∙ arms_past tb (arms_of bs) b.bound y (omega arith);
        }
    gains_term (IfTerm x t u) s b =
        let ls = met tb (in_branch s) t in gains_both b ls (met tb (in_branch s) u) (binders t) (binders u) (gains_term t (in_branch s) b) (gains_term u (in_branch s) (next_all tb b ls))
    gains_term (Tuple tys ss ps) s b = gains_parts ps (tree_types tys) s b

    pub gains_bind : (bind : Bind) (s : Setting) (b : Before) → Gains b (next_all tb b (met_bind tb s bind)) (bind_binders bind)
    gains_bind (Past h k) s b = gains_one h (Rattle.gib_core.specs.Rules.type_made tb k) b
    gains_bind (One side) s b = gains_side side s b
    gains_bind (Both fork l r) s b =
        let ls = met_side tb (left_of s r) l in gains_both b ls (met_side tb (right_of s l) r) (side_binders l) (side_binders r) (gains_side l (left_of s r) b) (gains_side r (right_of s l) (next_all tb b ls))
    gains_bind (Prim x f v w) s b = gains_one x (Rattle.gib_types.specs.Operators.operator_type f) b
    gains_bind (Reach x by) s b = gains_none b

    pub gains_side : (side : Side) (s : Setting) (b : Before) → Gains b (next_all tb b (met_side tb s side)) (side_binders side)
    gains_side (On kind x ty t) s b =
        let c = next tb b (SideLine kind x ty) in gains_then b c (next_all tb c (met tb (in_side tb s kind ty) t)) (x.0 ∷ []) (binders t) (gains_one x ty b) (gains_term t (in_side tb s kind ty) c)
    gains_side (Several xs tys t) s b =
        let c = next tb b (SeveralLine xs tys) in
        gains_then b c (next_all tb c (met tb (in_several s tys) t)) (map (λ (x : Variable). x.0) xs) (binders t) (gains_all xs tys b) (gains_term t (in_several s tys) c)

    gains_parts : (ps : PartTerms) (tys : List Ty) (s : Setting) (b : Before) → Gains b (next_all tb b (met_parts tb s tys ps)) (part_binders ps)
    gains_parts NoPart tys s b = gains_none b
    gains_parts (PartThen t ps) tys s b =
        let ls = met tb (in_part s (first_type tys)) t in
        gains_both b ls (met_parts tb s (further_types tys) ps) (binders t) (part_binders ps) (gains_term t (in_part s (first_type tys)) b) (gains_parts ps (further_types tys) s (next_all tb b ls))

    gains_branches : (bs : Branches) (s : Setting) (b : Before) → Gains b (next_all tb b (met_branches tb s bs)) (branch_terms bs)
    gains_branches NoBranch s b = gains_none b
    gains_branches (BranchThen k xs t rest) s b =
        let ls = met tb (in_arm tb s k xs) t in gains_both b ls (met_branches tb s rest) (binders t) (branch_terms rest) (gains_term t (in_arm tb s k xs) b) (gains_branches rest s (next_all tb b ls))

  -- Of what stands behind, the variables that cases were on.
  abbrev Cases : (Before → Before) → (List Variable → List Variable) → Type 0
  Cases go f = (b : Before) → (go b).cased ≡ f b.cased

  cases_join : Joins Cases in_turn (λ b. b) (step tb) in_turn (λ c. c) entry_casing
  cases_join = record {
    none = λ b. refl;
    two = λ go go' f f' p q b. q (go b) ∙ ap f' (p b);
    one = entry_cases;
  }
    where
      entry_cases : (l : Entry) → Cases (step tb l) (entry_casing l)
      entry_cases (AtLine l) b = refl
      entry_cases (AtArm k xs) b = refl

  pub cased_after : (t : Term) (s : Setting) (b : Before) → (next_all tb b (met tb s t)).cased ≡ casing t b.cased
  cased_after t s b =
      ap (λ (z : Before). z.cased) (after_is tb t s b) ∙ walk_joins {R = Cases} {op = in_turn} {e = λ c. c} {g = step tb} {op' = in_turn} {e' = λ c. c} {g' = entry_casing} cases_join t b

  pub bind_cased_after : (bind : Bind) (s : Setting) (b : Before) → (next_all tb b (met_bind tb s bind)).cased ≡ casing_bind bind b.cased
  bind_cased_after bind s b =
      ap (λ (z : Before). z.cased) (bind_after tb bind s b) ∙ bind_joins {R = Cases} {op = in_turn} {e = λ c. c} {g = step tb} {op' = in_turn} {e' = λ c. c} {g' = entry_casing} cases_join bind b

  pub side_cased_after : (side : Side) (s : Setting) (b : Before) → (next_all tb b (met_side tb s side)).cased ≡ casing_side side b.cased
  side_cased_after side s b =
      ap (λ (z : Before). z.cased) (side_after tb side s b) ∙ side_joins {R = Cases} {op = in_turn} {e = λ c. c} {g = step tb} {op' = in_turn} {e' = λ c. c} {g' = entry_casing} cases_join side b
