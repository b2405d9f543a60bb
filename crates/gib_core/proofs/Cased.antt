-- What is not in scope before a term, and is not bound in it, is not cased in it.
use Rattle.std.proofs.Common.{◌≡◌, Bool, true, false, not, ◌==◌, ◌||◌, if◌then◌else◌, List, [], ◌∷◌, ◌++◌, map, Option, Some, None, refl, sym, ap, ◌∙◌}
use Rattle.std.proofs.lemmas.Bool.{both_ways, not-false, or_parts, or_from, false_from_ne_true}
use Rattle.gib_types.specs.declared.table.Ty.{Ty}
use Rattle.gib_types.specs.declared.table.Ty.TheVariants.{Whole, Truth, Tree}
use Rattle.gib_types.specs.declared.table.ConId.{ConId}
use Rattle.gib_types.specs.Table.{Table, fields_at, tree_types}
use Rattle.gib_core.specs.declared.atom.Variable.{Variable}
use Rattle.gib_core.specs.declared.atom.Atom.{Atom}
use Rattle.gib_core.specs.declared.atom.Atom.TheVariants as atomic
use Rattle.gib_core.specs.declared.atom.Access.{Access}
use Rattle.gib_core.specs.declared.atom.Kind.{Kind}
use Rattle.gib_core.specs.declared.atom.Kind.TheVariants.{Here, Region, Scalar}
use Rattle.gib_core.specs.Tree.{Term, Then, Write, Point, CallTerm, Give, CaseTerm, IfTerm, Tuple, PartTerms, NoPart, PartThen, Bind, Past, One, Both, Prim, Reach, Side, On, Several, Branches, NoBranch, BranchThen, CoreTree}
use Rattle.gib_core.specs.Inferring.{first_type, further_types}
use Rattle.gib_core.specs.Met.{Known, Setting, ReachLine, SideLine, CaseLine, SeveralLine, Met, known, with_arm, with_variables, reached, in_several, in_part, behind_side, field, packed_before, in_side, in_arm, in_branch, left_of, right_of, behind, arms_of, met, met_bind, met_side, met_parts, met_branches}
use Rattle.gib_core.specs.Rules.{Before, is_among, is_reached, is_usable, any_bound, arm_variables, may_reach, rules, least, next, next_all, cases_on}
use Rattle.gib_core.specs.Reachable.{as_reached, all_reached, LinesAreReachable}
use Rattle.gib_core.proofs.Along.{same_variable, none_broken, next_append, reachable_split, among_append, NoneBinds, none_split}

-- A variable is in scope.
abbrev pub has : List Known → Variable → Bool
has [] y = false
has (k ∷ ks) y = k.variable.0 == y.0 || has ks y

pub has_less : (x : Variable) (ks : List Known) (y : Variable) → (x.0 == y.0) ≡ false → (x.0 == y.0 || has ks y) ≡ true → has ks y ≡ true
has_less x ks y e m = sym (ap (λ c. c || has ks y) e) ∙ m

-- Where each field counts as reached, what is in scope is reached.
pub reached_where_has : (ks : List Known) (y : Variable) → is_reached (known (map as_reached ks) y) ≡ has ks y
reached_where_has [] y = refl
reached_where_has (k ∷ ks) y = go (k.variable.0 == y.0) (reached_where_has ks y)
  where
    go : (b : Bool) → is_reached (known (map as_reached ks) y) ≡ has ks y → is_reached (if b then Some (as_reached k) else known (map as_reached ks) y) ≡ (b || has ks y)
    go true e = refl
    go false e = e

pub field_named : (k : ConId) (x : Variable) (ty : Ty) (before : Option Variable) → (field k x ty before).variable ≡ x
field_named k x Whole before = refl
field_named k x Truth before = refl
field_named k x (Tree t) None = refl
field_named k x (Tree t) (Some z) = refl

pub has_arm : (k : ConId) (xs : List Variable) (types : List Ty) (before : Option Variable) (ks : List Known) (y : Variable) → has (with_arm k xs types before ks) y ≡ (is_among xs y || has ks y)
has_arm k [] types before ks y = refl
has_arm k (x ∷ xs) types before ks y =
    has_arm k xs (further_types types) (packed_before x (first_type types) before) (field k x (first_type types) before ∷ ks) y
    ∙ ap (λ (v : Variable). is_among xs y || (v.0 == y.0 || has ks y)) (field_named k x (first_type types) before)
    ∙ go (is_among xs y) (x.0 == y.0)
  where
    go : (a b : Bool) → (a || (b || has ks y)) ≡ ((b || a) || has ks y)
    go true true = refl
    go true false = refl
    go false true = refl
    go false false = refl

pub has_variables : (xs : List Variable) (ks : List Known) (y : Variable) → has (with_variables xs ks) y ≡ (is_among xs y || has ks y)
has_variables [] ks y = refl
has_variables (x ∷ xs) ks y = has_variables xs (reached x ∷ ks) y ∙ go (is_among xs y) (x.0 == y.0)
  where
    go : (a b : Bool) → (a || (b || has ks y)) ≡ ((b || a) || has ks y)
    go true true = refl
    go true false = refl
    go false true = refl
    go false false = refl

pub in_side_scope : (tb : Table) (s : Setting) (kind : Kind) (ty : Ty) → (in_side tb s kind ty).scope ≡ s.scope
in_side_scope tb s Here ty = refl
in_side_scope tb s Region ty = refl
in_side_scope tb s Scalar ty = refl

pub in_side_others : (tb : Table) (s : Setting) (kind : Kind) (ty : Ty) → (in_side tb s kind ty).others ≡ s.others
in_side_others tb s Here ty = refl
in_side_others tb s Region ty = refl
in_side_others tb s Scalar ty = refl

pub right_of_scope : (s : Setting) (left : Side) → (right_of s left).scope ≡ s.scope
right_of_scope s (On kind x ty t) = refl
right_of_scope s (Several xs tys t) = refl

module _ (core : CoreTree) where
  -- What is reached already is not reached again.
  reached_once : (b : Before) (s : Setting) (ks : List Known) (y : Variable) (by : Access) → may_reach core b s (known (map as_reached ks) y) by ≡ false
  reached_once b s [] y by = refl
  reached_once b s (k ∷ ks) y by = go (k.variable.0 == y.0) (reached_once b s ks y by)
    where
      go : (c : Bool) → may_reach core b s (known (map as_reached ks) y) by ≡ false → may_reach core b s (if c then Some (as_reached k) else known (map as_reached ks) y) by ≡ false
      go true e = refl
      go false e = e

  pub reaches_none : (b : Before) (s : Setting) (y : Variable) (by : Access) → least (rules core b (all_reached s) (ReachLine y by)) ≡ None → ⊥
  reaches_none b s y by e =
      let may = may_reach core b (all_reached s) (known (map as_reached s.scope) y) by in
      both_ways may (reached_once b (all_reached s) s.scope y by) (not-false may (none_broken (rules core b (all_reached s) (ReachLine y by)) e).1.0)

  -- The variable of a case is in scope, and the arms' variables are new and differ.
  pub case_usable : (b : Before) (s : Setting) (x : Variable) (arms : List (ConId × List Variable)) → least (rules core b (all_reached s) (CaseLine (atomic.Variable x) arms)) ≡ None → has s.scope x ≡ true
  case_usable b s x arms e =
      let usable = is_usable (all_reached s) (atomic.Variable x) in
      sym (reached_where_has s.scope x) ∙ not-false usable (or_parts (not usable) (any_bound (arm_variables arms) [] b.bound) (none_broken (rules core b (all_reached s) (CaseLine (atomic.Variable x) arms)) e).1.1.0).0

  pub case_keeps : (b : Before) (s : Setting) (x : Atom) (arms : List (ConId × List Variable)) (y : Variable) → least (rules core b (all_reached s) (CaseLine x arms)) ≡ None → has s.scope y ≡ false → is_among b.cased y ≡ false → is_among (cases_on (CaseLine x arms) b.cased) y ≡ false
  case_keeps b s (atomic.Variable x) arms y e out c = or_from (x.0 == y.0) (is_among b.cased y) (false_from_ne_true (x.0 == y.0) (λ same. both_ways (has s.scope y) out (ap (has s.scope) (sym (same_variable x y same)) ∙ case_usable b s x arms e))) c
  case_keeps b s (atomic.Whole z) arms y e out c = c
  case_keeps b s (atomic.Truth t) arms y e out c = c

  -- A variable that is not bound in a side is out of scope behind it too; so it is behind a binding.
  side_out : (y : Variable) (x : Side) (s other : Setting) → NoneBinds y (met_side core.table other x) → has s.scope y ≡ false → has (behind_side s x).scope y ≡ false
  side_out y (On kind x ty t) s other n out = or_from (x.0 == y.0) (has s.scope y) n.0 out
  side_out y (Several xs tys t) s other n out = has_variables xs s.scope y ∙ or_from (is_among xs y) (has s.scope y) n.0 out

  pub out_behind : (y : Variable) (bind : Bind) (s : Setting) (b : Before) → LinesAreReachable core b (met_bind core.table s bind) → NoneBinds y (met_bind core.table s bind) → has s.scope y ≡ false → has (behind s bind).scope y ≡ false
  out_behind y (Past h k) s b r n out = out
  out_behind y (One x) s b r n out = side_out y x s s n out
  out_behind y (Both fork left right) s b r n out =
      let ns = none_split y (met_side core.table (left_of s right) left) (met_side core.table (right_of s left) right) n.1 in
      side_out y right (behind_side s left) (right_of s left) ns.1 (side_out y left s (left_of s right) ns.0 out)
  out_behind y (Prim x f v w) s b r n out = or_from (x.0 == y.0) (has s.scope y) n.0 out
  out_behind y (Reach x by) s b r n out = absurd (reaches_none b s x by r.0)

  -- It is not cased by lines.
  abbrev pub StaysUncased : Variable → Before → List Met → Type 0
  StaysUncased y b ms = is_among (next_all core.table b ms).cased y ≡ false

  both_uncased : (y : Variable) (b : Before) (xs ys : List Met) → StaysUncased y (next_all core.table b xs) ys → StaysUncased y b (xs ++ ys)
  both_uncased y b xs ys h = ap (λ (z : Before). is_among z.cased y) (next_append core.table b xs ys) ∙ h

  mutual
    pub uncased : (y : Variable) (t : Term) (s : Setting) (b : Before) → LinesAreReachable core b (met core.table s t) → NoneBinds y (met core.table s t) → has s.scope y ≡ false → is_among b.cased y ≡ false → StaysUncased y b (met core.table s t)
    uncased y (Then bind t) s b r n out c =
        let xs = met_bind core.table s bind in
        let ys = met core.table (behind s bind) t in
        let rs = reachable_split core b xs ys r in
        let ns = none_split y xs ys n in
        both_uncased y b xs ys (uncased y t (behind s bind) (next_all core.table b xs) rs.1 ns.1 (out_behind y bind s b rs.0 ns.0 out) (bind_uncased y bind s b rs.0 ns.0 out c))
    uncased y (Write h k ss ps) s b r n out c = c
    uncased y (Point x) s b r n out c = c
    uncased y (CallTerm f xs) s b r n out c = c
    uncased y (Give x) s b r n out c = c
    uncased y (CaseTerm x branches) s b r n out c =
        branches_uncased y branches s (next core.table b (CaseLine x (arms_of branches))) r.1 n.1 n.0 out (case_keeps b s x (arms_of branches) y r.0 out c)
    uncased y (IfTerm x t u) s b r n out c =
        let xs = met core.table (in_branch s) t in
        let ys = met core.table (in_branch s) u in
        let rs = reachable_split core b xs ys r.1 in
        let ns = none_split y xs ys n.1 in
        both_uncased y b xs ys (uncased y u (in_branch s) (next_all core.table b xs) rs.1 ns.1 out (uncased y t (in_branch s) b rs.0 ns.0 out c))
    uncased y (Tuple tys ss ps) s b r n out c = parts_uncased y ps (tree_types tys) s b r.1 n.1 out c

    pub bind_uncased : (y : Variable) (bind : Bind) (s : Setting) (b : Before) → LinesAreReachable core b (met_bind core.table s bind) → NoneBinds y (met_bind core.table s bind) → has s.scope y ≡ false → is_among b.cased y ≡ false → StaysUncased y b (met_bind core.table s bind)
    bind_uncased y (Past h k) s b r n out c = c
    bind_uncased y (One side) s b r n out c = side_uncased y side s b r n out c
    bind_uncased y (Both fork left right) s b r n out c =
        let xs = met_side core.table (left_of s right) left in
        let ys = met_side core.table (right_of s left) right in
        let rs = reachable_split core b xs ys r.1 in
        let ns = none_split y xs ys n.1 in
        both_uncased y b xs ys (side_uncased y right (right_of s left) (next_all core.table b xs) rs.1 ns.1 (ap (λ (ks : List Known). has ks y) (right_of_scope s left) ∙ out) (side_uncased y left (left_of s right) b rs.0 ns.0 out c))
    bind_uncased y (Prim x f v w) s b r n out c = c
    bind_uncased y (Reach x by) s b r n out c = c

    pub side_uncased : (y : Variable) (side : Side) (s : Setting) (b : Before) → LinesAreReachable core b (met_side core.table s side) → NoneBinds y (met_side core.table s side) → has s.scope y ≡ false → is_among b.cased y ≡ false → StaysUncased y b (met_side core.table s side)
    side_uncased y (On kind x ty t) s b r n out c =
        uncased y t (in_side core.table s kind ty) (next core.table b (SideLine kind x ty)) r.1 n.1 (ap (λ (ks : List Known). has ks y) (in_side_scope core.table s kind ty) ∙ out) c
    side_uncased y (Several xs tys t) s b r n out c = uncased y t (in_several s tys) (next core.table b (SeveralLine xs tys)) r.1 n.1 out c

    parts_uncased : (y : Variable) (ps : PartTerms) (tys : List Ty) (s : Setting) (b : Before) → LinesAreReachable core b (met_parts core.table s tys ps) → NoneBinds y (met_parts core.table s tys ps) → has s.scope y ≡ false → is_among b.cased y ≡ false → StaysUncased y b (met_parts core.table s tys ps)
    parts_uncased y NoPart tys s b r n out c = c
    parts_uncased y (PartThen t ps) tys s b r n out c =
        let inner = in_part s (first_type tys) in
        let xs = met core.table inner t in
        let ys = met_parts core.table s (further_types tys) ps in
        let rs = reachable_split core b xs ys r.1 in
        let ns = none_split y xs ys n.1 in
        both_uncased y b xs ys (parts_uncased y ps (further_types tys) s (next_all core.table b xs) rs.1 ns.1 out (uncased y t inner b rs.0 ns.0 out c))

    pub branches_uncased : (y : Variable) (branches : Branches) (s : Setting) (b : Before) → LinesAreReachable core b (met_branches core.table s branches) → NoneBinds y (met_branches core.table s branches) → is_among (arm_variables (arms_of branches)) y ≡ false → has s.scope y ≡ false → is_among b.cased y ≡ false → StaysUncased y b (met_branches core.table s branches)
    branches_uncased y NoBranch s b r n differs out c = c
    branches_uncased y (BranchThen k vs t rest) s b r n differs out c =
        let xs = met core.table (in_arm core.table s k vs) t in
        let ys = met_branches core.table s rest in
        let rs = reachable_split core b xs ys r in
        let ns = none_split y xs ys n in
        let ds = or_parts (is_among vs y) (is_among (arm_variables (arms_of rest)) y) (sym (among_append vs (arm_variables (arms_of rest)) y) ∙ differs) in
        let inside : has (with_arm k vs (fields_at core.table k.0) None s.scope) y ≡ false = has_arm k vs (fields_at core.table k.0) None s.scope y ∙ or_from (is_among vs y) (has s.scope y) ds.0 out in
        both_uncased y b xs ys (branches_uncased y rest s (next_all core.table b xs) rs.1 ns.1 ds.1 out (uncased y t (in_arm core.table s k vs) b rs.0 ns.0 inside c))
