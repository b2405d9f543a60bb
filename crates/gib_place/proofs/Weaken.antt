-- Lines that break no rule break none where more is in scope and other variables were bound.
use Rattle.std.proofs.Common.{◌≡◌, ◌⊎◌, inl, inr, ⊎_elim, ℕ, ◌+◌, ◌≤◌, Bool, true, false, not, ◌&&◌, ◌||◌, ◌==◌, if◌then◌else◌, List, [], ◌∷◌, ◌++◌, map, length, Option, Some, None, refl, sym, ap, ◌∙◌, subst, arith}
use Rattle.std.proofs.lemmas.Bool.{both_ways, not-false, or_parts, or_from, or_cases, or_left, or_right, and_parts}
use Rattle.std.proofs.lemmas.List.{append_assoc}
use Rattle.gib_types.specs.declared.table.Ty.{Ty}
use Rattle.gib_types.specs.declared.table.Ty.TheVariants.{Whole, Truth}
use Rattle.gib_types.specs.declared.table.ConId.{ConId}
use Rattle.gib_types.specs.Table.{Table, fields_at, scalar_types, tree_types}
use Rattle.gib_types.specs.Operators.{operator_type}
use Rattle.gib_core.specs.declared.atom.Variable.{Variable}
use Rattle.gib_core.specs.declared.atom.Atom.{Atom}
use Rattle.gib_core.specs.declared.atom.Atom.TheVariants as a
use Rattle.gib_core.specs.declared.atom.Kind.{Kind}
use Rattle.gib_core.specs.declared.atom.Kind.TheVariants.{Here, Region, Scalar}
use Rattle.gib_core.specs.declared.scope.Known.{Known}
use Rattle.gib_core.specs.declared.scope.Bound.{Bound}
use Rattle.gib_core.specs.Inferring.{first_type, further_types}
use Rattle.gib_core.specs.Tree.{Term, Then, Write, Point, CallTerm, Give, CaseTerm, IfTerm, Tuple, PartTerms, NoPart, PartThen, parts_count, Bind, Past, One, Both, Prim, Reach, Side, On, Several, Branches, NoBranch, BranchThen, variables_of, FunctionTerm, CoreTree}
use Rattle.gib_core.specs.Meaning.{function_at}
use Rattle.gib_core.specs.Numbering.{binders, bind_binders, side_binders, part_binders}
use Rattle.gib_core.specs.Met.{Destination, Nowhere, Empty, Open, InParts, Setting, PastLine, SideLine, PrimLine, WriteLine, PointLine, CallLine, GiveLine, CaseLine, IfLine, SeveralLine, TupleLine, in_side, in_several, in_part, with_variables, behind, left_of, right_of, with_arm, in_arm, in_branch, arms_of, met, met_bind, met_side, met_parts, met_branches}
use Rattle.gib_core.specs.Rules.{Before, same_types, are_declared, are_parts, result_fits, is_among, is_bound, type_bound, type_of, is_type, have_types, is_usable, all_usable, is_other, any_other, may_write, are_scalars, call_fits, cover, bind_fields, any_bound, arm_variables, rules, least, cases_on, next, next_all, type_made}
use Rattle.gib_core.specs.Reachable.{all_reached, LinesAreReachable}
use Rattle.gib_core.proofs.Along.{none_broken, least_none, next_append, reachable_split, reachable_append}
use Rattle.gib_core.proofs.Cased.{has, reached_where_has, has_arm, has_variables, in_side_scope, reaches_none, has_less}
use Rattle.gib_place.proofs.Counts.{occurs, occurs_append}
use Rattle.gib_place.proofs.Wider.{nums, times, new_there, times_among, none_among, own_time, branch_occurs, fields_types, arms_types, case_nums, branch_terms, casing, Gains, gains_one, gains_all, gains_then, gains_term, cased_after}
use Rattle.gib_core.proofs.Orders.{usable_apart}
use Rattle.gib_core.proofs.Kept.{scoped}
use Rattle.gib_place.proofs.Scopes.{Room, Scoped, Wider}

-- Lines are met twice, the second time with more in scope: what is in scope was bound, and what comes was not.
pub record Ahead (from : List Known) (b : Before) (ks : List Known) (b' : Before) (xs : List ℕ) : Type 0 where
  pub wider : Wider from b ks b'
  pub scoped : Scoped from b
  pub room : Room b xs
  pub room' : Room b' xs

module _ {from : List Known} {b : Before} {ks : List Known} {b' : Before} where
  pub ahead_less : {xs ys : List ℕ} → Ahead from b ks b' xs → ((y : ℕ) → occurs ys y ≤ occurs xs y) → Ahead from b ks b' ys
  ahead_less a less = record {
    wider = a.wider;
    scoped = a.scoped;
    room = λ y. let o = a.room y in let l = less y in omega arith;
    room' = λ y. let o = a.room' y in let l = less y in omega arith;
  }

  pub ahead_first : (xs ys : List ℕ) → Ahead from b ks b' (xs ++ ys) → Ahead from b ks b' xs
  ahead_first xs ys a = ahead_less a (λ y. let r = occurs_append xs ys y in omega arith)

  -- Behind lines that bind some of it, with the same cases.
  pub ahead_past : {c c' : Before} (zs zs' xs : List ℕ) → Ahead from b ks b' (zs ++ xs) → Gains b c zs → Gains b' c' zs' → ((y : ℕ) → occurs zs' y ≤ occurs zs y) → c'.cased ≡ c.cased → Ahead from c ks c' xs
  ahead_past zs zs' xs a p q less same = record {
    wider = record {
      scope = a.wider.scope;
      types = λ y m.
          let k = a.scoped y m in let o = a.room y.0 in let r = occurs_append zs xs y.0 in let l = less y.0 in
          q.types y (omega arith) ∙ (a.wider.types y m ∙ sym (p.types y (omega arith)));
      cased = same;
    };
    scoped = λ y m. let k = a.scoped y m in let g = p.counts y.0 in omega arith;
    room = λ y. let o = a.room y in let r = occurs_append zs xs y in let g = p.counts y in omega arith;
    room' = λ y. let o = a.room' y in let r = occurs_append zs xs y in let g = q.counts y in let l = less y in omega arith;
  }

-- Of two terms, the second binds no variable more often, and its cases are the same.
pub record Like (t u : Term) : Type 0 where
  pub binds : (y : ℕ) → occurs (binders u) y ≤ occurs (binders t) y
  pub cases : (c : List Variable) → casing u c ≡ casing t c

pub like_itself : (t : Term) → Like t t
like_itself t = record { binds = λ y. omega arith; cases = λ c. refl }

-- Sides of the same variables with the same types, whose terms are like.
pub data LikeSides : Side → Side → Type 0 where
  same_one : {kind kind' : Kind} {x : Variable} {ty : Ty} {t u : Term} → Like t u → LikeSides (On kind x ty t) (On kind' x ty u)
  same_several : {xs : List Variable} {tys : List Ty} {t u : Term} → Like t u → LikeSides (Several xs tys t) (Several xs tys u)

pub likes_itself : (side : Side) → LikeSides side side
likes_itself (On kind x ty t) = same_one (like_itself t)
likes_itself (Several xs tys t) = same_several (like_itself t)

pub usable_more : (s : Setting) (b b' : Before) (ks : List Known) (x : Atom) → Wider s.scope b ks b' → is_usable (all_reached s) x ≡ true → is_usable (all_reached (scoped s ks)) x ≡ true
usable_more s b b' ks (a.Variable x) w e = reached_where_has ks x ∙ w.scope x (sym (reached_where_has s.scope x) ∙ e)
usable_more s b b' ks (a.Whole z) w e = refl
usable_more s b b' ks (a.Truth t) w e = refl

pub all_usable_more : (s : Setting) (b b' : Before) (ks : List Known) (xs : List Atom) → Wider s.scope b ks b' → all_usable (all_reached s) xs ≡ true → all_usable (all_reached (scoped s ks)) xs ≡ true
all_usable_more s b b' ks [] w e = refl
all_usable_more s b b' ks (x ∷ xs) w e =
    let h = and_parts (is_usable (all_reached s) x) (all_usable (all_reached s) xs) e in
    λ i. (usable_more s b b' ks x w h.0 i) && (all_usable_more s b b' ks xs w h.1 i)

pub type_same : (s : Setting) (b b' : Before) (x : Atom) → ((y : Variable) → has s.scope y ≡ true → type_bound b'.bound y ≡ type_bound b.bound y) → is_usable (all_reached s) x ≡ true → type_of b' x ≡ type_of b x
type_same s b b' (a.Variable x) h e = h x (sym (reached_where_has s.scope x) ∙ e)
type_same s b b' (a.Whole z) h e = refl
type_same s b b' (a.Truth t) h e = refl

pub types_same : (s : Setting) (b b' : Before) (xs : List Atom) (ts : List Ty) → ((y : Variable) → has s.scope y ≡ true → type_bound b'.bound y ≡ type_bound b.bound y) → all_usable (all_reached s) xs ≡ true → have_types b' xs ts ≡ have_types b xs ts
types_same s b b' [] [] h e = refl
types_same s b b' [] (t ∷ ts) h e = refl
types_same s b b' (x ∷ xs) [] h e = refl
types_same s b b' (x ∷ xs) (t ∷ ts) h e =
    let p = and_parts (is_usable (all_reached s) x) (all_usable (all_reached s) xs) e in
    λ i. is_type (type_same s b b' x h p.0 i) t && types_same s b b' xs ts h p.1 i

pub other_eq : (s z : Setting) (x : Atom) → s.others ≡ z.others → is_other s x ≡ is_other z x
other_eq s z (a.Variable x) e = ap (λ o. is_among o x) e
other_eq s z (a.Whole n) e = refl
other_eq s z (a.Truth t) e = refl

pub any_other_eq : (s z : Setting) (xs : List Atom) → s.others ≡ z.others → any_other s xs ≡ any_other z xs
any_other_eq s z [] e = refl
any_other_eq s z (x ∷ xs) e = λ i. other_eq s z x e i || any_other_eq s z xs e i

pub any_new : (xs seen : List Variable) (bound : List Bound) → ((y : ℕ) → occurs (nums bound) y + (times seen y + times xs y) ≤ 1) → any_bound xs seen bound ≡ false
any_new [] seen bound h = refl
any_new (x ∷ xs) seen bound h =
    let o = own_time x in let m = h x.0 in
    or_from (is_bound bound x || is_among seen x) (any_bound xs (x ∷ seen) bound)
    (or_from (is_bound bound x) (is_among seen x) (new_there bound x (omega arith)) (none_among seen x (omega arith)))
    (any_new xs (x ∷ seen) bound (λ y. let m = h y in omega arith))

module _ (tb : Table) where
  type_middle : (x : Variable) (ty : Ty) (bound bound' : List Bound) (y : Variable) → ((x.0 == y.0) ≡ false → type_bound bound' y ≡ type_bound bound y) → type_bound (record { variable = x; ty = ty } ∷ bound') y ≡ type_bound (record { variable = x; ty = ty } ∷ bound) y
  type_middle x ty bound bound' y h = go (x.0 == y.0) refl
    where
      go : (c : Bool) → (x.0 == y.0) ≡ c → (if c then Some ty else type_bound bound' y) ≡ (if c then Some ty else type_bound bound y)
      go true e = refl
      go false e = h e

  scoped_side : (s : Setting) (ks : List Known) (kind : Kind) (ty : Ty) → in_side tb (scoped s ks) kind ty ≡ scoped (in_side tb s kind ty) ks
  scoped_side s ks Here ty = refl
  scoped_side s ks Region ty = refl
  scoped_side s ks Scalar ty = refl

  pub scoped_behind : (bind : Bind) (s : Setting) (ks : List Known) → behind (scoped s ks) bind ≡ scoped (behind s bind) (behind (scoped s ks) bind).scope
  scoped_behind (Past h k) s ks = refl
  scoped_behind (One side) s ks = refl
  scoped_behind (Both fork l r) s ks = refl
  scoped_behind (Prim x f v w) s ks = refl
  scoped_behind (Reach y by) s ks = refl

  has_counts : (x : Variable) (ks : List Known) (b : Before) (y : Variable) → Scoped ks b → (x.0 == y.0 || has ks y) ≡ true → 1 ≤ occurs (x.0 ∷ []) y.0 + occurs (nums b.bound) y.0
  has_counts x ks b y sc m = go (x.0 == y.0) m (sc y)
    where
      go : (c : Bool) → (c || has ks y) ≡ true → (has ks y ≡ true → 1 ≤ occurs (nums b.bound) y.0) → 1 ≤ ((if c then 1 else 0) + 0) + occurs (nums b.bound) y.0
      go true m h = omega arith
      go false m h = let k = h m in omega arith

  -- Behind the line of variables.
  abbrev behind_own : List Variable → List Ty → Before → Before
  behind_own xs tys b = record { bound = bind_fields xs tys b.bound; cased = b.cased }

  all_count : (xs : List Variable) (ks : List Known) (b : Before) (y : Variable) → Scoped ks b → has (with_variables xs ks) y ≡ true → 1 ≤ times xs y.0 + occurs (nums b.bound) y.0
  all_count xs ks b y sc m =
      ⊎_elim (λ n. let k = times_among xs y n in omega arith) (λ n. let k = sc y n in omega arith) (or_cases (is_among xs y) (has ks y) (sym (has_variables xs ks y) ∙ m))

  scoped_all : (xs : List Variable) (tys : List Ty) (t : Term) (s : Setting) (from : List Known) (b : Before) → Scoped from b → Scoped (with_variables xs from) (next_all tb (behind_own xs tys b) (met tb s t))
  scoped_all xs tys t s from b sc y m =
      let k = all_count xs from b y sc m in
      let g = (gains_all xs tys b).counts y.0 in
      let h = (gains_term tb t s (behind_own xs tys b)).counts y.0 in
      omega arith

  scoped_bound : (side : Side) (s : Setting) (from : List Known) (b : Before) → Scoped from b → Scoped (with_variables (variables_of side) from) (next_all tb b (met_side tb s side))
  scoped_bound (On kind x ty t) s from b sc = scoped_all (x ∷ []) (ty ∷ []) t (in_side tb s kind ty) from b sc
  scoped_bound (Several xs tys t) s from b sc = scoped_all xs tys t (in_several s tys) from b sc

  has_more : (x : Variable) (from ks : List Known) (y : Variable) → (has from y ≡ true → has ks y ≡ true) → (x.0 == y.0 || has from y) ≡ true → (x.0 == y.0 || has ks y) ≡ true
  has_more x from ks y h m = go (x.0 == y.0) m
    where
      go : (c : Bool) → (c || has from y) ≡ true → (c || has ks y) ≡ true
      go true m = refl
      go false m = h m

  module _ {from : List Known} {b : Before} {ks : List Known} {b' : Before} where
    pub ahead_term : (t u : Term) (xs : List ℕ) (s z : Setting) → Like t u → Ahead from b ks b' (binders t ++ xs) → Ahead from (next_all tb b (met tb s t)) ks (next_all tb b' (met tb z u)) xs
    ahead_term t u xs s z like a =
        ahead_past (binders t) (binders u) xs a (gains_term tb t s b) (gains_term tb u z b') like.binds
        (cased_after tb u z b' ∙ (like.cases b'.cased ∙ (ap (casing t) a.wider.cased ∙ sym (cased_after tb t s b))))

    -- Behind a term, and the line before it that bound these variables.
    ahead_inner : (xs : List Variable) (tys : List Ty) (t u : Term) (zs : List ℕ) (s z : Setting) → Like t u → Ahead from b ks b' ((map (λ (x : Variable). x.0) xs ++ binders t) ++ zs)
        → Ahead from (next_all tb (behind_own xs tys b) (met tb s t)) ks (next_all tb (behind_own xs tys b') (met tb z u)) zs
    ahead_inner xs tys t u zs s z like a =
        let c = behind_own xs tys b in
        let c' = behind_own xs tys b' in
        let ns = map (λ (x : Variable). x.0) xs in
        ahead_past (ns ++ binders t) (ns ++ binders u) zs a
        (gains_then b c (next_all tb c (met tb s t)) ns (binders t) (gains_all xs tys b) (gains_term tb t s c))
        (gains_then b' c' (next_all tb c' (met tb z u)) ns (binders u) (gains_all xs tys b') (gains_term tb u z c'))
        (λ y. let l = like.binds y in let p = occurs_append ns (binders t) y in let q = occurs_append ns (binders u) y in omega arith)
        (cased_after tb u z c' ∙ (like.cases b'.cased ∙ (ap (casing t) a.wider.cased ∙ sym (cased_after tb t s c))))

    ahead_all : (xs : List Variable) (tys : List Ty) (t u : Term) (zs : List ℕ) (s z : Setting) → Like t u → Ahead from b ks b' ((map (λ (x : Variable). x.0) xs ++ binders t) ++ zs)
        → Ahead (with_variables xs from) (next_all tb (behind_own xs tys b) (met tb s t)) (with_variables xs ks) (next_all tb (behind_own xs tys b') (met tb z u)) zs
    ahead_all xs tys t u zs s z like a =
        let c = behind_own xs tys b in
        let c' = behind_own xs tys b' in
        let ns = map (λ (x : Variable). x.0) xs in
        let n = ahead_inner xs tys t u zs s z like a in
        record {
          wider = record {
            scope = λ y m.
                has_variables xs ks y
                ∙ ⊎_elim (λ o. or_left (is_among xs y) (has ks y) o) (λ o. or_right (is_among xs y) (has ks y) (a.wider.scope y o)) (or_cases (is_among xs y) (has from y) (sym (has_variables xs from y) ∙ m));
            types = λ y m.
                let k = all_count xs from b y a.scoped m in
                let o = a.room y.0 in
                let p = occurs_append (ns ++ binders t) zs y.0 in
                let q = occurs_append ns (binders t) y.0 in
                let l = like.binds y.0 in
                (gains_term tb u z c').types y (omega arith)
                ∙ (fields_types xs tys b.bound b'.bound y (λ e. a.wider.types y (sym (or_first (is_among xs y) (has from y) e) ∙ (sym (has_variables xs from y) ∙ m)))
                ∙ sym ((gains_term tb t s c).types y (omega arith)));
            cased = n.wider.cased;
          };
          scoped = scoped_all xs tys t s from b a.scoped;
          room = n.room;
          room' = n.room';
        }
      where
        or_first : (p q : Bool) → p ≡ false → (p || q) ≡ q
        or_first p q e = ap (λ c. c || q) e

    pub ahead_side : (side side' : Side) (xs : List ℕ) (s z : Setting) → LikeSides side side' → Ahead from b ks b' (side_binders side ++ xs) → Ahead from (next_all tb b (met_side tb s side)) ks (next_all tb b' (met_side tb z side')) xs
    ahead_side (On kind x ty t) (On kind' x' ty' u) xs s z (same_one like) a = ahead_inner (x ∷ []) (ty ∷ []) t u xs (in_side tb s kind ty) (in_side tb z kind' ty) like a
    ahead_side (On kind x ty t) (Several vs' tys' u) xs s z p a = elim p [ ]
    ahead_side (Several vs tys t) (On kind' x' ty' u) xs s z p a = elim p [ ]
    ahead_side (Several vs tys t) (Several vs' tys' u) xs s z (same_several like) a = ahead_inner vs tys t u xs (in_several s tys) (in_several z tys) like a

    -- The variables of a side come into scope behind it.
    pub ahead_bound : (side side' : Side) (xs : List ℕ) (s z : Setting) → LikeSides side side' → Ahead from b ks b' (side_binders side ++ xs)
        → Ahead (with_variables (variables_of side) from) (next_all tb b (met_side tb s side)) (with_variables (variables_of side) ks) (next_all tb b' (met_side tb z side')) xs
    ahead_bound (On kind x ty t) (On kind' x' ty' u) xs s z (same_one like) a = ahead_all (x ∷ []) (ty ∷ []) t u xs (in_side tb s kind ty) (in_side tb z kind' ty) like a
    ahead_bound (On kind x ty t) (Several vs' tys' u) xs s z p a = elim p [ ]
    ahead_bound (Several vs tys t) (On kind' x' ty' u) xs s z p a = elim p [ ]
    ahead_bound (Several vs tys t) (Several vs' tys' u) xs s z (same_several like) a = ahead_all vs tys t u xs (in_several s tys) (in_several z tys) like a

module _ (core : CoreTree) where
  -- What is in scope behind a binding was bound.
  pub scoped_after : (bind : Bind) (s : Setting) (b : Before) → Scoped s.scope b → LinesAreReachable core b (met_bind core.table s bind) → Scoped (behind s bind).scope (next_all core.table b (met_bind core.table s bind))
  scoped_after (Past h k) s b sc r y m = let e = sc y m in omega arith
  scoped_after (One side) s b sc r y m = scoped_bound core.table side s s.scope b sc y m
  scoped_after (Both fork left right) s b sc r y m =
      let L = met_side core.table (left_of s right) left in
      subst (Scoped (with_variables (variables_of right) (with_variables (variables_of left) s.scope))) (sym (next_append core.table b L (met_side core.table (right_of s left) right)))
      (scoped_bound core.table right (right_of s left) (with_variables (variables_of left) s.scope) (next_all core.table b L) (scoped_bound core.table left (left_of s right) s.scope b sc)) y m
  scoped_after (Prim x f v w) s b sc r y m = let n = has_counts core.table x s.scope b y sc m in omega arith
  scoped_after (Reach x by) s b sc r y m = absurd (reaches_none core b s x by r.0)

  -- Two sides, of which the second binding has like ones.
  pub ahead_two : {from ks : List Known} {b b' : Before} (l l' r r' : Side) (xs : List ℕ) (s1 s2 z1 z2 : Setting) → LikeSides l l' → LikeSides r r' → Ahead from b ks b' ((side_binders l ++ side_binders r) ++ xs)
      → Ahead (with_variables (variables_of r) (with_variables (variables_of l) from)) (next_all core.table b (met_side core.table s1 l ++ met_side core.table s2 r)) (with_variables (variables_of r) (with_variables (variables_of l) ks)) (next_all core.table b' (met_side core.table z1 l' ++ met_side core.table z2 r')) xs
  ahead_two {from} {ks} {b} {b'} l l' r r' xs s1 s2 z1 z2 p q a =
      let tb = core.table in
      let F = with_variables (variables_of r) (with_variables (variables_of l) from) in
      let K = with_variables (variables_of r) (with_variables (variables_of l) ks) in
      let L = met_side tb s1 l in
      let L' = met_side tb z1 l' in
      let C = next_all tb b' (L' ++ met_side tb z2 r') in
      subst (λ (c : Before). Ahead F c K C xs) (sym (next_append tb b L (met_side tb s2 r)))
      (subst (λ (c : Before). Ahead F (next_all tb (next_all tb b L) (met_side tb s2 r)) K c xs) (sym (next_append tb b' L' (met_side tb z2 r')))
      (ahead_bound tb r r' xs s2 z2 q (ahead_bound tb l l' (side_binders r ++ xs) s1 z1 p (subst (Ahead from b ks b') (append_assoc (side_binders l) (side_binders r) xs) a))))

  -- What stands behind a binding.
  pub ahead_behind : (bind : Bind) (xs : List ℕ) (s : Setting) (b : Before) (ks : List Known) (b' : Before) → Ahead s.scope b ks b' (bind_binders bind ++ xs) → LinesAreReachable core b (met_bind core.table s bind)
      → Ahead (behind s bind).scope (next_all core.table b (met_bind core.table s bind)) (behind (scoped s ks) bind).scope (next_all core.table b' (met_bind core.table (scoped s ks) bind)) xs
  ahead_behind (Past h k) xs s b ks b' a r = ahead_past (h.0 ∷ []) (h.0 ∷ []) xs a (gains_one h (type_made core.table k) b) (gains_one h (type_made core.table k) b') (λ y. omega arith) a.wider.cased
  ahead_behind (One side) xs s b ks b' a r = ahead_bound core.table side side xs s (scoped s ks) (likes_itself side) a
  ahead_behind (Both fork left right) xs s b ks b' a r =
      ahead_two left left right right xs (left_of s right) (right_of s left) (left_of (scoped s ks) right) (right_of (scoped s ks) left) (likes_itself left) (likes_itself right) a
  ahead_behind (Prim x f v w) xs s b ks b' a r =
      let n = ahead_past (x.0 ∷ []) (x.0 ∷ []) xs a (gains_one x (operator_type f) b) (gains_one x (operator_type f) b') (λ y. omega arith) a.wider.cased in
      record {
        wider = record {
          scope = λ y m. has_more core.table x s.scope ks y (a.wider.scope y) m;
          types = λ y m. type_middle core.table x (operator_type f) b.bound b'.bound y (λ e. a.wider.types y (has_less x s.scope y e m));
          cased = a.wider.cased;
        };
        scoped = scoped_after (Prim x f v w) s b a.scoped r;
        room = n.room;
        room' = n.room';
      }
  ahead_behind (Reach x by) xs s b ks b' a r = absurd (reaches_none core b s x by r.0)

  -- A side's own line.
  pub side_line : (s : Setting) (b b' : Before) (ks : List Known) (kind : Kind) (x : Variable) (ty : Ty) → is_bound b'.bound x ≡ false → least (rules core b (all_reached s) (SideLine kind x ty)) ≡ None → least (rules core b' (all_reached (scoped s ks)) (SideLine kind x ty)) ≡ None
  side_line s b b' ks Here x ty n e =
      let h = none_broken (rules core b (all_reached s) (SideLine Here x ty)) e in
      least_none (rules core b' (all_reached (scoped s ks)) (SideLine Here x ty)) (h.0, (n, (h.1.1.0, tt)))
  side_line s b b' ks Region x ty n e =
      let h = none_broken (rules core b (all_reached s) (SideLine Region x ty)) e in
      least_none (rules core b' (all_reached (scoped s ks)) (SideLine Region x ty)) (h.0, (n, tt))
  side_line s b b' ks Scalar x ty n e =
      let h = none_broken (rules core b (all_reached s) (SideLine Scalar x ty)) e in
      least_none (rules core b' (all_reached (scoped s ks)) (SideLine Scalar x ty)) (n, (h.1.0, tt))

  several_line : (s : Setting) (b b' : Before) (ks : List Known) (xs : List Variable) (tys : List Ty) → any_bound xs [] b'.bound ≡ false → least (rules core b (all_reached s) (SeveralLine xs tys)) ≡ None → least (rules core b' (all_reached (scoped s ks)) (SeveralLine xs tys)) ≡ None
  several_line s b b' ks xs tys n e =
      let h = none_broken (rules core b (all_reached s) (SeveralLine xs tys)) e in
      least_none (rules core b' (all_reached (scoped s ks)) (SeveralLine xs tys)) (n, (h.1.0, tt))

  usable_part : (c : Bool) (u : Bool) → (c || not u) ≡ false → u ≡ true
  usable_part c u e = not-false u (or_parts c (not u) e).1

  call_more : (s : Setting) (b b' : Before) (ks : List Known) (xs : List Atom) (f : Option FunctionTerm) → Wider s.scope b ks b' → all_usable (all_reached s) xs ≡ true → call_fits b' (all_reached (scoped s ks)) xs f ≡ call_fits b (all_reached s) xs f
  call_more s b b' ks xs None w u = refl
  call_more s b b' ks xs (Some f) w u = ap (λ c. c && result_fits s.destination s.due s.whole f.result) (types_same s b b' xs f.parameters w.types u)

  scalars_more : (s : Setting) (b b' : Before) (ks : List Known) (d : Destination) (ss : List Atom) → Wider s.scope b ks b' → all_usable (all_reached s) ss ≡ true → are_scalars core.table b' d ss ≡ are_scalars core.table b d ss
  scalars_more s b b' ks Nowhere ss w u = refl
  scalars_more s b b' ks Empty ss w u = refl
  scalars_more s b b' ks (InParts tys) ss w u = refl
  scalars_more s b b' ks (Open h k standing) ss w u = types_same s b b' ss (scalar_types (fields_at core.table k.0)) w.types u

  parts_more : (s : Setting) (b b' : Before) (ks : List Known) (d : Destination) (tys : List Ty) (ss : List Atom) (packed : ℕ) → Wider s.scope b ks b' → all_usable (all_reached s) ss ≡ true → are_parts core.table b' d tys ss packed ≡ are_parts core.table b d tys ss packed
  parts_more s b b' ks Nowhere tys ss packed w u = refl
  parts_more s b b' ks Empty tys ss packed w u = refl
  parts_more s b b' ks (Open h k standing) tys ss packed w u = refl
  parts_more s b b' ks (InParts due) tys ss packed w u = λ i. same_types tys due && (are_declared core.table tys && (types_same s b b' ss (scalar_types tys) w.types u i && packed == length (tree_types tys)))

  write_more : (b b' : Before) (d : Destination) (h : Variable) (k : ConId) (ps : List Atom) → b'.cased ≡ b.cased → may_write core.table b' d h k ps ≡ may_write core.table b d h k ps
  write_more b b' Nowhere h k ps e = refl
  write_more b b' Empty h k ps e = refl
  write_more b b' (InParts tys) h k ps e = refl
  write_more b b' (Open head con standing) h k ps e =
      ap (λ (c : List Variable). (head.0 == h.0 && con.0 == k.0) && ((length standing == length (Rattle.gib_core.specs.Met.packed_types core.table con) && Rattle.gib_core.specs.Rules.are_variables standing ps) && not (Rattle.gib_core.specs.Rules.any_cased c (Rattle.gib_core.specs.Rules.further standing)))) e

  -- A side whose lines stay unbroken.
  abbrev SideMore : Side → Type 0
  SideMore side = (s : Setting) (b : Before) (ks : List Known) (b' : Before) → Ahead s.scope b ks b' (side_binders side) → LinesAreReachable core b (met_side core.table s side) → LinesAreReachable core b' (met_side core.table (scoped s ks) side)

  both_more : (left right : Side) → SideMore left → SideMore right → (s : Setting) (b : Before) (ks : List Known) (b' : Before) → Ahead s.scope b ks b' (side_binders left ++ side_binders right)
      → LinesAreReachable core b (met_side core.table (left_of s right) left ++ met_side core.table (right_of s left) right)
      → LinesAreReachable core b' (met_side core.table (left_of (scoped s ks) right) left ++ met_side core.table (right_of (scoped s ks) left) right)
  both_more left right more_left more_right s b ks b' a r =
      let L = met_side core.table (left_of s right) left in
      let L' = met_side core.table (left_of (scoped s ks) right) left in
      let rs = reachable_split core b L (met_side core.table (right_of s left) right) r in
      reachable_append core b' L' (met_side core.table (right_of (scoped s ks) left) right)
      (more_left (left_of s right) b ks b' (ahead_first (side_binders left) (side_binders right) a) rs.0)
      (more_right (right_of s left) (next_all core.table b L) ks (next_all core.table b' L') (ahead_side core.table left left (side_binders right) (left_of s right) (left_of (scoped s ks) right) (likes_itself left) a) rs.1)

  mutual
    pub wider_term : (t : Term) (s : Setting) (b : Before) (ks : List Known) (b' : Before) → Ahead s.scope b ks b' (binders t) → LinesAreReachable core b (met core.table s t) → LinesAreReachable core b' (met core.table (scoped s ks) t)
    wider_term (Then bind rest) s b ks b' a r =
        let xs = met_bind core.table s bind in
        let ys = met core.table (behind s bind) rest in
        let rs = reachable_split core b xs ys r in
        reachable_append core b' (met_bind core.table (scoped s ks) bind) (met core.table (behind (scoped s ks) bind) rest)
        (wider_bind bind s b ks b' (ahead_first (bind_binders bind) (binders rest) a) rs.0)
        (subst (λ (z : Setting). LinesAreReachable core (next_all core.table b' (met_bind core.table (scoped s ks) bind)) (met core.table z rest)) (sym (scoped_behind core.table bind s ks))
        (wider_term rest (behind s bind) (next_all core.table b xs) (behind (scoped s ks) bind).scope (next_all core.table b' (met_bind core.table (scoped s ks) bind)) (ahead_behind bind (binders rest) s b ks b' a rs.0) rs.1))
    wider_term (Write h k ss ps) s b ks b' a r =
        let f = none_broken (rules core b (all_reached s) (WriteLine h k ss ps)) r.0 in
        let u = not-false (all_usable (all_reached s) (ss ++ ps)) f.1.1.0 in
        (least_none (rules core b' (all_reached (scoped s ks)) (WriteLine h k ss ps)) (any_other_eq (all_reached (scoped s ks)) (all_reached s) (ss ++ ps) refl ∙ f.0, (ap not (write_more b b' s.destination h k ps a.wider.cased) ∙ f.1.0, (ap not (all_usable_more s b b' ks (ss ++ ps) a.wider u), (ap not (scalars_more s b b' ks s.destination ss a.wider (usable_apart (all_reached s) ss ps u).0) ∙ f.1.1.1.0, tt)))), tt)
    wider_term (Point x) s b ks b' a r =
        let f = none_broken (rules core b (all_reached s) (PointLine x)) r.0 in
        let u = not-false (is_usable (all_reached s) x) f.1.1.0 in
        (least_none (rules core b' (all_reached (scoped s ks)) (PointLine x)) (other_eq (all_reached (scoped s ks)) (all_reached s) x refl ∙ f.0, (f.1.0, (ap not (usable_more s b b' ks x a.wider u), (ap (λ o. not (is_type o s.due)) (type_same s b b' x a.wider.types u) ∙ f.1.1.1.0, tt)))), tt)
    wider_term (CallTerm g xs) s b ks b' a r =
        let f = none_broken (rules core b (all_reached s) (CallLine g xs)) r.0 in
        let u = not-false (all_usable (all_reached s) xs) f.1.1.0 in
        (least_none (rules core b' (all_reached (scoped s ks)) (CallLine g xs)) (any_other_eq (all_reached (scoped s ks)) (all_reached s) xs refl ∙ f.0, (f.1.0, (ap not (all_usable_more s b b' ks xs a.wider u), (ap not (call_more s b b' ks xs (function_at core.functions g.0) a.wider u) ∙ f.1.1.1.0, tt)))), tt)
    wider_term (Give x) s b ks b' a r =
        let f = none_broken (rules core b (all_reached s) (GiveLine x)) r.0 in
        let u = not-false (is_usable (all_reached s) x) f.1.0 in
        (least_none (rules core b' (all_reached (scoped s ks)) (GiveLine x)) (other_eq (all_reached (scoped s ks)) (all_reached s) x refl ∙ f.0, (ap not (usable_more s b b' ks x a.wider u), (ap (λ o. not (Rattle.gib_core.specs.Rules.is_nowhere s.destination && is_type o s.due)) (type_same s b b' x a.wider.types u) ∙ f.1.1.0, tt))), tt)
    wider_term (CaseTerm x bs) s b ks b' a r =
        let arms = arms_of bs in
        let f = none_broken (rules core b (all_reached s) (CaseLine x arms)) r.0 in
        let u = not-false (is_usable (all_reached s) x) (or_parts (not (is_usable (all_reached s) x)) (any_bound (arm_variables arms) [] b.bound) f.1.1.0).0 in (
          least_none (rules core b' (all_reached (scoped s ks)) (CaseLine x arms)) (
            other_eq (all_reached (scoped s ks)) (all_reached s) x refl ∙ f.0,
            (
              ap (λ o. not (cover core.table o arms)) (type_same s b b' x a.wider.types u) ∙ f.1.0,
              (
                or_from (not (is_usable (all_reached (scoped s ks)) x)) (any_bound (arm_variables arms) [] b'.bound) (ap not (usable_more s b b' ks x a.wider u))
                    (any_new (arm_variables arms) [] b'.bound (λ y. let q = branch_occurs bs y in let o = a.room' y in omega arith)),
                tt,
              ),
            ),
          ),
          wider_branches bs s (next core.table b (CaseLine x arms)) ks (next core.table b' (CaseLine x arms)) a.wider.scope
              (λ y m. arms_types core.table arms b.bound b'.bound y (λ o. ⊎_elim (λ n. absurd (both_ways (is_among (arm_variables arms) y) o n)) (a.wider.types y) m))
              (ap (cases_on (CaseLine x arms)) a.wider.cased)
              (λ y m. let q = case_nums core.table x arms b y.0 in ⊎_elim (λ n. let k = times_among (arm_variables arms) y n in omega arith) (λ n. let k = a.scoped y n in omega arith) m)
              (λ y. let q = branch_occurs bs y in let o = a.room y in let e = case_nums core.table x arms b y in omega arith)
              (λ y. let q = branch_occurs bs y in let o = a.room' y in let e = case_nums core.table x arms b' y in omega arith)
              r.1,
        )
    wider_term (IfTerm x t u) s b ks b' a r =
        let f = none_broken (rules core b (all_reached s) (IfLine x)) r.0 in
        let us = not-false (is_usable (all_reached s) x) f.1.0 in
        let xs = met core.table (in_branch s) t in
        let ys = met core.table (in_branch s) u in
        let rs = reachable_split core b xs ys r.1 in (
          least_none (rules core b' (all_reached (scoped s ks)) (IfLine x)) (other_eq (all_reached (scoped s ks)) (all_reached s) x refl ∙ f.0, (ap not (usable_more s b b' ks x a.wider us), (ap (λ o. not (is_type o Truth)) (type_same s b b' x a.wider.types us) ∙ f.1.1.0, tt))),
          reachable_append core b' (met core.table (in_branch (scoped s ks)) t) (met core.table (in_branch (scoped s ks)) u)
              (wider_term t (in_branch s) b ks b' (ahead_first (binders t) (binders u) a) rs.0)
              (wider_term u (in_branch s) (next_all core.table b xs) ks (next_all core.table b' (met core.table (in_branch (scoped s ks)) t)) (ahead_term core.table t t (binders u) (in_branch s) (in_branch (scoped s ks)) (like_itself t) a) rs.1),
        )
    wider_term (Tuple tys ss ps) s b ks b' a r =
        let f = none_broken (rules core b (all_reached s) (TupleLine tys ss (parts_count ps))) r.0 in
        let u = not-false (all_usable (all_reached s) ss) f.1.0 in (
          least_none (rules core b' (all_reached (scoped s ks)) (TupleLine tys ss (parts_count ps))) (any_other_eq (all_reached (scoped s ks)) (all_reached s) ss refl ∙ f.0, (ap not (all_usable_more s b b' ks ss a.wider u), (ap not (parts_more s b b' ks s.destination tys ss (parts_count ps) a.wider u) ∙ f.1.1.0, (f.1.1.1.0, tt)))),
          wider_parts ps (tree_types tys) s b ks b' a r.1,
        )

    pub wider_parts : (ps : PartTerms) (tys : List Ty) (s : Setting) (b : Before) (ks : List Known) (b' : Before) → Ahead s.scope b ks b' (part_binders ps) → LinesAreReachable core b (met_parts core.table s tys ps) → LinesAreReachable core b' (met_parts core.table (scoped s ks) tys ps)
    wider_parts NoPart tys s b ks b' a r = tt
    wider_parts (PartThen t ps) tys s b ks b' a r =
        let inner = in_part s (first_type tys) in
        let inner' = in_part (scoped s ks) (first_type tys) in
        let xs = met core.table inner t in
        let xs' = met core.table inner' t in
        let rs = reachable_split core b xs (met_parts core.table s (further_types tys) ps) r.1 in (
          refl,
          reachable_append core b' xs' (met_parts core.table (scoped s ks) (further_types tys) ps)
              (wider_term t inner b ks b' (ahead_first (binders t) (part_binders ps) a) rs.0)
              (wider_parts ps (further_types tys) s (next_all core.table b xs) ks (next_all core.table b' xs') (ahead_term core.table t t (part_binders ps) inner inner' (like_itself t) a) rs.1),
        )

    pub wider_bind : (bind : Bind) (s : Setting) (b : Before) (ks : List Known) (b' : Before) → Ahead s.scope b ks b' (bind_binders bind) → LinesAreReachable core b (met_bind core.table s bind) → LinesAreReachable core b' (met_bind core.table (scoped s ks) bind)
    wider_bind (Past h k) s b ks b' a r =
        let f = none_broken (rules core b (all_reached s) (PastLine h k)) r.0 in
        (least_none (rules core b' (all_reached (scoped s ks)) (PastLine h k)) (f.0, (new_there b'.bound h (let o = a.room' h.0 in let e = own_time h in omega arith), tt)), tt)
    wider_bind (One side) s b ks b' a r = wider_side side s b ks b' a r
    wider_bind (Both fork left right) s b ks b' a r = (refl, both_more left right (λ s1 b1 k1 c1 a1 r1. wider_side left s1 b1 k1 c1 a1 r1) (λ s1 b1 k1 c1 a1 r1. wider_side right s1 b1 k1 c1 a1 r1) s b ks b' a r.1)
    wider_bind (Prim x g v w') s b ks b' a r =
        let f = none_broken (rules core b (all_reached s) (PrimLine x g v w')) r.0 in
        let u = usable_part (is_bound b.bound x) (all_usable (all_reached s) (v ∷ w' ∷ [])) f.1.0 in
        (least_none (rules core b' (all_reached (scoped s ks)) (PrimLine x g v w')) (any_other_eq (all_reached (scoped s ks)) (all_reached s) (v ∷ w' ∷ []) refl ∙ f.0, (or_from (is_bound b'.bound x) (not (all_usable (all_reached (scoped s ks)) (v ∷ w' ∷ []))) (new_there b'.bound x (let o = a.room' x.0 in let e = own_time x in omega arith)) (ap not (all_usable_more s b b' ks (v ∷ w' ∷ []) a.wider u)), (ap not (types_same s b b' (v ∷ w' ∷ []) (Whole ∷ Whole ∷ []) a.wider.types u) ∙ f.1.1.0, tt))), tt)
    wider_bind (Reach y by) s b ks b' a r = absurd (reaches_none core b s y by r.0)

    pub wider_side : (side : Side) (s : Setting) (b : Before) (ks : List Known) (b' : Before) → Ahead s.scope b ks b' (side_binders side) → LinesAreReachable core b (met_side core.table s side) → LinesAreReachable core b' (met_side core.table (scoped s ks) side)
    wider_side (On kind x ty t) s b ks b' a r =
        let inner = in_side core.table s kind ty in (
          side_line s b b' ks kind x ty (new_there b'.bound x (let o = a.room' x.0 in let e = own_time x in omega arith)) r.0,
          subst (λ (z : Setting). LinesAreReachable core (next core.table b' (SideLine kind x ty)) (met core.table z t)) (sym (scoped_side core.table s ks kind ty))
              (wider_term t inner (next core.table b (SideLine kind x ty)) ks (next core.table b' (SideLine kind x ty))
              (subst (λ (o : List Known). Ahead o (next core.table b (SideLine kind x ty)) ks (next core.table b' (SideLine kind x ty)) (binders t)) (sym (in_side_scope core.table s kind ty))
              (ahead_past (x.0 ∷ []) (x.0 ∷ []) (binders t) a (gains_one x ty b) (gains_one x ty b') (λ y. omega arith) a.wider.cased)) r.1),
        )
    wider_side (Several xs tys t) s b ks b' a r =
        let ns = map (λ (x : Variable). x.0) xs in (
          several_line s b b' ks xs tys (any_new xs [] b'.bound (λ y. let o = a.room' y in let e = occurs_append ns (binders t) y in omega arith)) r.0,
          wider_term t (in_several s tys) (next core.table b (SeveralLine xs tys)) ks (next core.table b' (SeveralLine xs tys))
              (ahead_past ns ns (binders t) a (gains_all xs tys b) (gains_all xs tys b') (λ y. omega arith) a.wider.cased) r.1,
        )

    pub wider_branches : (bs : Branches) (s : Setting) (b : Before) (ks : List Known) (b' : Before) → ((y : Variable) → has s.scope y ≡ true → has ks y ≡ true)
        → ((y : Variable) → (is_among (arm_variables (arms_of bs)) y ≡ true) ⊎ (has s.scope y ≡ true) → type_bound b'.bound y ≡ type_bound b.bound y) → b'.cased ≡ b.cased
        → ((y : Variable) → (is_among (arm_variables (arms_of bs)) y ≡ true) ⊎ (has s.scope y ≡ true) → 1 ≤ occurs (nums b.bound) y.0)
        → Room b (branch_terms bs) → Room b' (branch_terms bs) → LinesAreReachable core b (met_branches core.table s bs) → LinesAreReachable core b' (met_branches core.table (scoped s ks) bs)
    wider_branches NoBranch s b ks b' more same cased sc ro ro' r = tt
    wider_branches (BranchThen k vs t rest) s b ks b' more same cased sc ro ro' r =
        let types = fields_at core.table k.0 in
        let inner = in_arm core.table s k vs in
        let xs = met core.table inner t in
        let xs' = met core.table (in_arm core.table (scoped s ks) k vs) t in
        let rs = reachable_split core b xs (met_branches core.table s rest) r in
        let later = arm_variables (arms_of rest) in
        let inside : (y : Variable) → has inner.scope y ≡ true → (is_among (vs ++ later) y ≡ true) ⊎ (has s.scope y ≡ true) =
        λ y m. ⊎_elim (λ n. inl (Rattle.gib_core.proofs.Along.among_append vs later y ∙ or_left (is_among vs y) (is_among later y) n)) (λ n. inr n) (or_cases (is_among vs y) (has s.scope y) (sym (has_arm k vs types None s.scope y) ∙ m)) in
        let further : (y : Variable) → (is_among later y ≡ true) ⊎ (has s.scope y ≡ true) → (is_among (vs ++ later) y ≡ true) ⊎ (has s.scope y ≡ true) =
        λ y m. ⊎_elim (λ n. inl (Rattle.gib_core.proofs.Along.among_append vs later y ∙ or_right (is_among vs y) (is_among later y) n)) (λ n. inr n) m in
        reachable_append core b' xs' (met_branches core.table (scoped s ks) rest)
        (wider_term t inner b (with_arm k vs types None ks) b' (record {
          wider = record {
            scope = λ y m. has_arm k vs types None ks y ∙ ⊎_elim (λ n. or_left (is_among vs y) (has ks y) n) (λ n. or_right (is_among vs y) (has ks y) (more y n)) (or_cases (is_among vs y) (has s.scope y) (sym (has_arm k vs types None s.scope y) ∙ m));
            types = λ y m. same y (inside y m);
            cased = cased;
          };
          scoped = λ y m. sc y (inside y m);
          room = λ y. let q = occurs_append (binders t) (branch_terms rest) y in let o = ro y in omega arith;
          room' = λ y. let q = occurs_append (binders t) (branch_terms rest) y in let o = ro' y in omega arith;
        }) rs.0)
        (wider_branches rest s (next_all core.table b xs) ks (next_all core.table b' xs') more
        (λ y m.
        let q = occurs_append (binders t) (branch_terms rest) y.0 in let o = ro y.0 in let z = sc y (further y m) in
        (gains_term core.table t (in_arm core.table (scoped s ks) k vs) b').types y (omega arith) ∙ (same y (further y m) ∙ sym ((gains_term core.table t inner b).types y (omega arith))))
        (cased_after core.table t (in_arm core.table (scoped s ks) k vs) b' ∙ (ap (casing t) cased ∙ sym (cased_after core.table t inner b)))
        (λ y m. let z = sc y (further y m) in let e = (gains_term core.table t inner b).counts y.0 in omega arith)
        (λ y. let q = occurs_append (binders t) (branch_terms rest) y in let o = ro y in let e = (gains_term core.table t inner b).counts y in omega arith)
        (λ y. let q = occurs_append (binders t) (branch_terms rest) y in let o = ro' y in let e = (gains_term core.table t (in_arm core.table (scoped s ks) k vs) b').counts y in omega arith)
        rs.1)
