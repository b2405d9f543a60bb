-- What the terms of a core are met with where its fields are reached, and how that goes on from a term to its parts.
use Rattle.std.proofs.Common.{◌≡◌, inl, ⊎_elim, ℕ, suc, Bool, true, false, ◌==◌, ◌||◌, ◌&&◌, if◌then◌else◌, List, [], ◌∷◌, ◌++◌, Option, Some, None, refl, sym, ap, ◌∙◌, subst}
use Rattle.std.proofs.lemmas.Bool.{eq-eqb, both_ways, or_parts, or_from, or_left, or_right, or_cases, false_from_ne_true, true_from_ne_false, and_parts}
use Rattle.gib_types.specs.declared.table.Ty.{Ty}
use Rattle.gib_types.specs.declared.table.ConId.{ConId}
use Rattle.gib_types.specs.Table.{Table, fields_at}
use Rattle.gib_syntax.specs.Meaning.{is_scalar, at_fields}
use Rattle.gib_core.specs.declared.atom.Variable.{Variable}
use Rattle.gib_core.specs.declared.atom.Atom.{Atom}
use Rattle.gib_core.specs.declared.atom.AccessMode.{AccessMode}
use Rattle.gib_core.specs.declared.atom.AccessMode.TheVariants.{Skips, Offsets, Ends}
use Rattle.gib_core.specs.declared.atom.Kind.{Kind}
use Rattle.gib_core.specs.declared.atom.Kind.TheVariants.{Here, Region, Scalar}
use Rattle.gib_core.specs.Tree.{Term, Then, Write, Point, CallTerm, Give, CaseTerm, IfTerm, Tuple, variables_of, Bind, Past, One, Both, Prim, Reach, Side, On, Several, prepend, CoreTree}
use Rattle.gib_core.specs.Ending.{Ended, is_telling, has_ended, call_ends}
use Rattle.gib_core.specs.Met.{Known, Setting, at, SideLine, CaseLine, SeveralLine, Line, Met, known, reached, with_arm, with_variables, in_side, in_several, in_arm, left_of, right_of, behind, met, met_bind, met_side}
use Rattle.gib_core.specs.Reaching.{is_variable, has_variable, uses, bind_uses, side_uses, Later, told_first, not_now, laters, ends_from, in_par, reaches, offset_of, all_offsets, packed_variables, ended_by, reach, reach_bind, reach_side, reach_core}
use Rattle.gib_core.specs.Rules.{Before, further, is_among, is_bound, is_outside, is_reached, one_tells, arm_variables, any_bound, rules, least, next, next_all, LinesAreBuilt}
use Rattle.gib_core.specs.Reachable.{all_reached, LinesAreReachable}
use Rattle.gib_core.proofs.Alike.{alike_call}
use Rattle.gib_core.proofs.PastReaches.{reach_alike}
use Rattle.gib_core.proofs.Along.{same_variable, AreDistinct, arms_unbound, arms_distinct, distinct_split, none_broken, built_append, reachable_split, among_append, line_bound, NoneBinds, none_split, stays_bound, never_bound, bound_once}
use Rattle.gib_core.proofs.Cased.{has, has_variables, has_arm, in_side_scope, in_side_others, reaches_none, case_keeps, StaysUncased, out_behind, uncased, bind_uncased, side_uncased}
use Rattle.gib_core.proofs.Skipped.{arm_started, ReachedOr, arm_reached, known_past, known_past_arm, Serves, inside}
use Rattle.gib_core.proofs.Offered.{AreListed, IsWithin, AreBehind, offered, reaches_built, ends_first, later_apart}
use Rattle.gib_core.proofs.Awaits.{but, AreAwaited, AreApart, AreFirst, Awaits, awaits_none, left_apart}
use Rattle.gib_core.proofs.Onward.{side_next}
use Rattle.gib_core.proofs.Kept.{scoped, side_kept, several_kept}
use Rattle.gib_core.proofs.Later.{or_none}
use Rattle.gib_core.proofs.Outside.{IsOut, out_of, out_par}

fields_among : (types : List Ty) (xs : List Variable) (y : Variable) → is_among (at_fields false types xs) y ≡ true → is_among xs y ≡ true
fields_among [] xs y m = absurd cc
fields_among (t ∷ types) [] y m = absurd cc
fields_among (t ∷ types) (x ∷ xs) y m = go (is_scalar t) m (fields_among types xs y)
  where
    go : (c : Bool) → is_among (if c then at_fields false types xs else x ∷ at_fields false types xs) y ≡ true → (is_among (at_fields false types xs) y ≡ true → is_among xs y ≡ true) → is_among (x ∷ xs) y ≡ true
    go true n more' = or_right (x.0 == y.0) (is_among xs y) (more' n)
    go false n more' = ⊎_elim (λ same. or_left (x.0 == y.0) (is_among xs y) same) (λ l. or_right (x.0 == y.0) (is_among xs y) (more' l)) (or_cases (x.0 == y.0) (is_among (at_fields false types xs) y) n)

fields_distinct : (types : List Ty) (xs : List Variable) → AreDistinct xs → AreDistinct (at_fields false types xs)
fields_distinct [] xs h = tt
fields_distinct (t ∷ types) [] h = tt
fields_distinct (t ∷ types) (x ∷ xs) h = go (is_scalar t) (fields_distinct types xs h.1)
  where
    go : (c : Bool) → AreDistinct (at_fields false types xs) → AreDistinct (if c then at_fields false types xs else x ∷ at_fields false types xs)
    go true d = d
    go false d = (false_from_ne_true (is_among (at_fields false types xs) x) (λ m. both_ways (is_among xs x) h.0 (fields_among types xs x m)), d)

pub serves_more : (used : Variable → Bool) (x : Variable) (from ks : List Known) → Serves used from ks → Serves used (reached x ∷ from) (reached x ∷ ks)
serves_more used x from ks h y u m = go (x.0 == y.0) m
  where
    go : (c : Bool) → (c || has from y) ≡ true → is_reached (if c then Some (reached x) else known ks y) ≡ true
    go true n = refl
    go false n = h y u n

-- Variables that come into scope are reached, and all else is as it was.
pub serves_all : (used : Variable → Bool) (xs : List Variable) (from ks : List Known) → Serves used from ks → Serves used (with_variables xs from) (with_variables xs ks)
serves_all used [] from ks h = h
serves_all used (x ∷ xs) from ks h = serves_all used xs (reached x ∷ from) (reached x ∷ ks) (serves_more used x from ks h)

known_past_all : (xs : List Variable) (ks : List Known) (y : Variable) → is_among xs y ≡ false → known (with_variables xs ks) y ≡ known ks y
known_past_all [] ks y e = refl
known_past_all (x ∷ xs) ks y e =
    let parts = or_parts (x.0 == y.0) (is_among xs y) e in
    known_past_all xs (reached x ∷ ks) y parts.1 ∙ known_past (reached x) ks y parts.0

pub has_all : (xs : List Variable) (ks : List Known) (y : Variable) → has ks y ≡ true → has (with_variables xs ks) y ≡ true
has_all xs ks y h = has_variables xs ks y ∙ or_right (is_among xs y) (has ks y) h

-- What a side does not bind is none of its variables.
pub side_binds_none : (tb : Table) (x : Side) (s : Setting) (y : Variable) → NoneBinds y (met_side tb s x) → is_among (variables_of x) y ≡ false
side_binds_none tb (On kind x ty t) s y n = or_from (x.0 == y.0) false n.0 refl
side_binds_none tb (Several xs tys t) s y n = n.0

pub others_behind : (bind : Bind) (s : Setting) → (behind s bind).others ≡ s.others
others_behind (Past h k) s = refl
others_behind (One x) s = refl
others_behind (Both fork l r) s = refl
others_behind (Prim x f v w) s = refl
others_behind (Reach y by) s = refl

pub scoped_behind : (m : AccessMode) (tb : Table) (es : List Ended) (bind : Bind) (s : Setting) (ks : List Known) → behind (scoped s ks) (reach_bind m tb es bind) ≡ scoped (behind s bind) (behind (scoped s ks) bind).scope
scoped_behind m tb es (Past h k) s ks = refl
scoped_behind m tb es (One (On kind x ty t)) s ks = λ i. record (scoped (behind s (One (On kind x ty t))) (reached x ∷ ks)) { calls = alike_call (reach_alike m tb es t) s.calls i }
scoped_behind m tb es (One (Several xs tys t)) s ks = refl
scoped_behind m tb es (Both fork (On kind x ty t) (On other z uy u)) s ks = refl
scoped_behind m tb es (Both fork (On kind x ty t) (Several ys tys u)) s ks = refl
scoped_behind m tb es (Both fork (Several xs tys t) (On other z uy u)) s ks = refl
scoped_behind m tb es (Both fork (Several xs tys t) (Several ys uys u)) s ks = refl
scoped_behind m tb es (Prim x f v w) s ks = refl
scoped_behind m tb es (Reach y by) s ks = refl

scoped_side : (tb : Table) (s : Setting) (ks : List Known) (kind : Kind) (ty : Ty) → in_side tb (scoped s ks) kind ty ≡ scoped (in_side tb s kind ty) ks
scoped_side tb s ks Here ty = refl
scoped_side tb s ks Region ty = refl
scoped_side tb s ks Scalar ty = refl

-- A term is met so, in this scope of the core whose fields are reached: what it uses is reached there, what is in scope or was
-- cased was bound, and its lines bind no variable of another side.
pub record Suits (used : Variable → Bool) (s : Setting) (ks : List Known) (b : Before) (ms : List Met) : Type 0 where
  pub serves : Serves used s.scope ks
  pub bound : (x : Variable) → has s.scope x ≡ true → is_bound b.bound x ≡ true
  pub cased : (x : Variable) → is_among b.cased x ≡ true → is_bound b.bound x ≡ true
  pub differs : (x : Variable) → is_among s.others x ≡ true → NoneBinds x ms

-- Arms with these variables come now: they were just bound, they differ, and they are not in scope, another side's or cased.
pub record ArmsSuit (vs : List Variable) (s : Setting) (b : Before) : Type 0 where
  pub distinct : AreDistinct vs
  pub bound : (y : Variable) → is_among vs y ≡ true → is_bound b.bound y ≡ true
  pub hidden : (y : Variable) → is_among vs y ≡ true → has s.scope y ≡ false
  pub others : (y : Variable) → is_among vs y ≡ true → is_among s.others y ≡ false
  pub uncased : (y : Variable) → is_among vs y ≡ true → is_among b.cased y ≡ false

pub first_arm : (vs rest : List Variable) (s : Setting) (b : Before) → ArmsSuit (vs ++ rest) s b → ArmsSuit vs s b
first_arm vs rest s b arms =
    let wider : (y : Variable) → is_among vs y ≡ true → is_among (vs ++ rest) y ≡ true = λ y m. among_append vs rest y ∙ or_left (is_among vs y) (is_among rest y) m in
    record {
      distinct = (distinct_split vs rest arms.distinct).0;
      bound = λ y m. arms.bound y (wider y m);
      hidden = λ y m. arms.hidden y (wider y m);
      others = λ y m. arms.others y (wider y m);
      uncased = λ y m. arms.uncased y (wider y m);
    }

module _ (core : CoreTree) where
  out_before : (s : Setting) (b : Before) (ms : List Met) (x : Variable) → ((y : Variable) → has s.scope y ≡ true → is_bound b.bound y ≡ true) → is_bound (next_all core.table b ms).bound x ≡ false → has s.scope x ≡ false
  out_before s b ms x bound e = false_from_ne_true (has s.scope x) (λ h. both_ways (is_bound (next_all core.table b ms).bound x) e (stays_bound core.table ms b x (bound x h)))

  -- What was cased behind lines was bound there.
  pub cased_after : (s : Setting) (b : Before) (ms : List Met) → ((y : Variable) → has s.scope y ≡ true → is_bound b.bound y ≡ true) → ((y : Variable) → is_among b.cased y ≡ true → is_bound b.bound y ≡ true)
      → ((y : Variable) → NoneBinds y ms → has s.scope y ≡ false → is_among b.cased y ≡ false → StaysUncased core y b ms)
      → (x : Variable) → is_among (next_all core.table b ms).cased x ≡ true → is_bound (next_all core.table b ms).bound x ≡ true
  cased_after s b ms bound cased un x c =
      let after = next_all core.table b ms in
      true_from_ne_false (is_bound after.bound x) (λ e.
      let before = false_from_ne_true (is_among b.cased x) (λ h. both_ways (is_bound after.bound x) e (stays_bound core.table ms b x (cased x h))) in
      both_ways (is_among after.cased x) (un x (never_bound core.table ms b x e) (out_before s b ms x bound e) before) c)

  -- What is in scope behind a binding was bound there.
  bound_behind : (bind : Bind) (s : Setting) (b : Before) → LinesAreReachable core b (met_bind core.table s bind) → ((y : Variable) → has s.scope y ≡ true → is_bound b.bound y ≡ true)
      → (x : Variable) → has (behind s bind).scope x ≡ true → is_bound (next_all core.table b (met_bind core.table s bind)).bound x ≡ true
  bound_behind bind s b r bound x h =
      let ms = met_bind core.table s bind in
      true_from_ne_false (is_bound (next_all core.table b ms).bound x) (λ e.
      both_ways (has (behind s bind).scope x) (out_behind core x bind s b r (never_bound core.table ms b x e) (out_before s b ms x bound e)) h)

  serves_behind : (used : Variable → Bool) (bind : Bind) (s : Setting) (ks : List Known) (b : Before) → LinesAreReachable core b (met_bind core.table s bind) → Serves used s.scope ks → Serves used (behind s bind).scope (behind (scoped s ks) bind).scope
  serves_behind used (Past h k) s ks b r g = g
  serves_behind used (One x) s ks b r g = serves_all used (variables_of x) s.scope ks g
  serves_behind used (Both fork x z) s ks b r g =
      serves_all used (variables_of z) (with_variables (variables_of x) s.scope) (with_variables (variables_of x) ks) (serves_all used (variables_of x) s.scope ks g)
  serves_behind used (Prim x f v w) s ks b r g = serves_more used x s.scope ks g
  serves_behind used (Reach y by) s ks b r g = absurd (reaches_none core b s y by r.0)

  -- The rest of a line.
  pub rest_suits : (bind : Bind) (t : Term) (used : Variable → Bool) (s : Setting) (ks : List Known) (b : Before) → Suits used s ks b (met core.table s (Then bind t)) → LinesAreReachable core b (met_bind core.table s bind)
      → Suits used (behind s bind) (behind (scoped s ks) bind).scope (next_all core.table b (met_bind core.table s bind)) (met core.table (behind s bind) t)
  rest_suits bind t used s ks b h r =
      let xs = met_bind core.table s bind in
      let ys = met core.table (behind s bind) t in
      record {
        serves = serves_behind used bind s ks b r h.serves;
        bound = bound_behind bind s b r h.bound;
        cased = cased_after s b xs h.bound h.cased (λ y n out c. bind_uncased core y bind s b r n out c);
        differs = λ x m. (none_split x xs ys (h.differs x (ap (λ (o : List Variable). is_among o x) (sym (others_behind bind s)) ∙ m))).1;
      }

  -- A call tells the end of a variable that it uses.
  ends_use : (es : List Ended) (f k : ℕ) (xs : List Atom) (z : Variable) → call_ends es f k xs z ≡ true → has_variable z xs ≡ true
  ends_use es f k [] z e = absurd cc
  ends_use es f k (x ∷ xs) z e = ⊎_elim (λ h. or_left (is_variable z x) (has_variable z xs) (and_parts (is_variable z x) (has_ended es f k) h).0) (λ h. or_right (is_variable z x) (has_variable z xs) (ends_use es f (suc k) xs z h)) (or_cases (is_variable z x && has_ended es f k) (call_ends es f (suc k) xs z) e)

  telling_uses : (es : List Ended) (bind : Bind) (z : Variable) → is_telling es bind z ≡ true → bind_uses bind z ≡ true
  telling_uses es (Past h k) z e = absurd cc
  telling_uses es (One (On kind x ty (Then b t))) z e = absurd cc
  telling_uses es (One (On kind x ty (Write h k ss ps))) z e = absurd cc
  telling_uses es (One (On kind x ty (Point y))) z e = absurd cc
  telling_uses es (One (On kind x ty (CallTerm f xs))) z e = ends_use es f.0 0 xs z e
  telling_uses es (One (On kind x ty (Give y))) z e = absurd cc
  telling_uses es (One (On kind x ty (CaseTerm y branches))) z e = absurd cc
  telling_uses es (One (On kind x ty (IfTerm y t u))) z e = absurd cc
  telling_uses es (One (On kind x ty (Tuple tys ss ps))) z e = absurd cc
  telling_uses es (One (Several xs tys t)) z e = absurd cc
  telling_uses es (Both fork l r) z e = absurd cc
  telling_uses es (Prim x f v w) z e = absurd cc
  telling_uses es (Reach y by) z e = absurd cc

  -- What is told behind a binding.
  pub told_behind : (es : List Ended) (bind : Bind) (s : Setting) (z : Variable) → one_tells es (behind s bind).calls z ≡ (is_telling es bind z || one_tells es s.calls z)
  told_behind es (Past h k) s z = refl
  told_behind es (One (On kind x ty (Then b t))) s z = refl
  told_behind es (One (On kind x ty (Write h k ss ps))) s z = refl
  told_behind es (One (On kind x ty (Point y))) s z = refl
  told_behind es (One (On kind x ty (CallTerm f xs))) s z = refl
  told_behind es (One (On kind x ty (Give y))) s z = refl
  told_behind es (One (On kind x ty (CaseTerm y branches))) s z = refl
  told_behind es (One (On kind x ty (IfTerm y t u))) s z = refl
  told_behind es (One (On kind x ty (Tuple tys ss ps))) s z = refl
  told_behind es (One (Several xs tys t)) s z = refl
  told_behind es (Both fork l r) s z = refl
  told_behind es (Prim x f v w) s z = refl
  told_behind es (Reach y by) s z = refl

  whole_behind : (bind : Bind) (s : Setting) → (behind s bind).whole ≡ false
  whole_behind (Past h k) s = refl
  whole_behind (One x) s = refl
  whole_behind (Both fork l r) s = refl
  whole_behind (Prim x f v w) s = refl
  whole_behind (Reach y by) s = refl

  -- What is in scope stays so, and is what it was, but for what a binding binds.
  has_behind : (bind : Bind) (s : Setting) (y : Variable) → has s.scope y ≡ true → has (behind s bind).scope y ≡ true
  has_behind (Past h k) s y m = m
  has_behind (One x) s y m = has_all (variables_of x) s.scope y m
  has_behind (Both fork x z) s y m = has_all (variables_of z) (with_variables (variables_of x) s.scope) y (has_all (variables_of x) s.scope y m)
  has_behind (Prim x f v w) s y m = or_right (x.0 == y.0) (has s.scope y) m
  has_behind (Reach z by) s y m = go (known s.scope z)
    where
      go : (o : Option Known) → has (Rattle.gib_core.specs.Met.reached_too o s.scope) y ≡ true
      go None = m
      go (Some k) = or_right (k.variable.0 == y.0) (has s.scope y) m

  reached_more : (x y : Variable) (ks : List Known) → is_reached (known ks y) ≡ true → is_reached (known (reached x ∷ ks) y) ≡ true
  reached_more x y ks r = go (x.0 == y.0)
    where
      go : (c : Bool) → is_reached (if c then Some (reached x) else known ks y) ≡ true
      go true = refl
      go false = r

  reached_all : (xs : List Variable) (y : Variable) (ks : List Known) → is_reached (known ks y) ≡ true → is_reached (known (with_variables xs ks) y) ≡ true
  reached_all [] y ks r = r
  reached_all (x ∷ xs) y ks r = reached_all xs y (reached x ∷ ks) (reached_more x y ks r)

  reached_behind : (bind : Bind) (s : Setting) (ks : List Known) (b : Before) → LinesAreReachable core b (met_bind core.table s bind) → (y : Variable) → is_reached (known ks y) ≡ true → is_reached (known (behind (scoped s ks) bind).scope y) ≡ true
  reached_behind (Past h k) s ks b r y m = m
  reached_behind (One x) s ks b r y m = reached_all (variables_of x) y ks m
  reached_behind (Both fork x z) s ks b r y m = reached_all (variables_of z) y (with_variables (variables_of x) ks) (reached_all (variables_of x) y ks m)
  reached_behind (Prim x f v w) s ks b r y m = reached_more x y ks m
  reached_behind (Reach z by) s ks b r y m = absurd (reaches_none core b s z by r.0)

  known_behind : (bind : Bind) (s : Setting) (ks : List Known) (b : Before) → LinesAreReachable core b (met_bind core.table s bind) → (y : Variable) → NoneBinds y (met_bind core.table s bind) → known (behind (scoped s ks) bind).scope y ≡ known ks y
  known_behind (Past h k) s ks b r y n = refl
  known_behind (One x) s ks b r y n = known_past_all (variables_of x) ks y (side_binds_none core.table x s y n)
  known_behind (Both fork x z) s ks b r y n =
      let parts = none_split y (met_side core.table (left_of s z) x) (met_side core.table (right_of s x) z) n.1 in
      known_past_all (variables_of z) (with_variables (variables_of x) ks) y (side_binds_none core.table z (right_of s x) y parts.1)
      ∙ known_past_all (variables_of x) ks y (side_binds_none core.table x (left_of s z) y parts.0)
  known_behind (Prim x f v w) s ks b r y n = known_past (reached x) ks y n.0
  known_behind (Reach z by) s ks b r y n = absurd (reaches_none core b s z by r.0)

  awaited_behind : (es : List Ended) (bind : Bind) (s : Setting) (ks : List Known) (b : Before) → LinesAreReachable core b (met_bind core.table s bind) → ((x : Variable) → has s.scope x ≡ true → is_bound b.bound x ≡ true) → Serves (bind_uses bind) s.scope ks
      → (fs : List Later) → AreAwaited es s ks fs → AreAwaited es (behind s bind) (behind (scoped s ks) bind).scope fs
  awaited_behind es bind s ks b r bound serves [] a = tt
  awaited_behind es bind s ks b r bound serves (f ∷ fs) a = (
    record {
      constructor = a.0.constructor;
      pending = known_behind bind s ks b r f.field (bound_once core b (met_bind core.table s bind) f.field r (bound f.field a.0.there)) ∙ a.0.pending;
      told = λ e. ⊎_elim (λ h. reached_behind bind s ks b r f.before (serves f.before (telling_uses es bind f.before h) a.0.beside)) (λ h. reached_behind bind s ks b r f.before (a.0.told h))
          (or_cases (is_telling es bind f.before) (one_tells es s.calls f.before) (sym (told_behind es bind s f.before) ∙ e));
      there = has_behind bind s f.field a.0.there;
      beside = has_behind bind s f.before a.0.beside;
      out = ap is_outside (others_behind bind s) ∙ a.0.out;
      whole = whole_behind bind s;
    },
    awaited_behind es bind s ks b r bound serves fs a.1,
  )

  first_behind : (es : List Ended) (bind : Bind) (s : Setting) (t : Term) (fs : List Later) → AreFirst es s (Then bind t) fs → AreFirst es (behind s bind) t (not_now (bind_uses bind) fs)
  first_behind es bind s t [] h = tt
  first_behind es bind s t (f ∷ fs) h = go (bind_uses bind f.field) h.0 (first_behind es bind s t fs h.1)
    where
      go : (c : Bool) → (if c then one_tells es s.calls f.before else told_first es (is_telling es bind f.before || one_tells es s.calls f.before) f.before f.field t) ≡ true
          → AreFirst es (behind s bind) t (not_now (bind_uses bind) fs) → AreFirst es (behind s bind) t (if c then not_now (bind_uses bind) fs else f ∷ not_now (bind_uses bind) fs)
      go true e q = q
      go false e q = (ap (λ (told : Bool). told_first es told f.before f.field t) (told_behind es bind s f.before) ∙ e, q)

  -- The rest of a line awaits the fields that a binding does not use.
  pub awaits_behind : (es : List Ended) (bind : Bind) (t : Term) (s : Setting) (ks new : List Known) (b : Before) (fs : List Later) → LinesAreReachable core b (met_bind core.table s bind) → ((x : Variable) → has s.scope x ≡ true → is_bound b.bound x ≡ true)
      → Serves (bind_uses bind) s.scope new → AreAwaited es s new (not_now (bind_uses bind) fs) → AreFirst es s (Then bind t) fs → AreApart fs
      → Awaits es t (behind s bind) (behind (scoped s new) bind).scope (not_now (bind_uses bind) fs)
  awaits_behind es bind t s ks new b fs r bound serves a first p = record {
    each = awaited_behind es bind s new b r bound serves (not_now (bind_uses bind) fs) a;
    first = first_behind es bind s t fs first;
    apart = left_apart (bind_uses bind) fs p;
  }

  side_new : (b : Before) (s : Setting) (kind : Kind) (x : Variable) (ty : Ty) → least (rules core b s (SideLine kind x ty)) ≡ None → is_bound b.bound x ≡ false
  side_new b s Here x ty e = (none_broken (rules core b s (SideLine Here x ty)) e).1.0
  side_new b s Region x ty e = (none_broken (rules core b s (SideLine Region x ty)) e).1.0
  side_new b s Scalar x ty e = (none_broken (rules core b s (SideLine Scalar x ty)) e).0

  -- The next arms.
  pub rest_arms : (k : ConId) (vs : List Variable) (t : Term) (rest : List Variable) (s : Setting) (b : Before) → ArmsSuit (vs ++ rest) s b → LinesAreReachable core b (met core.table (in_arm core.table s k vs) t)
      → ArmsSuit rest s (next_all core.table b (met core.table (in_arm core.table s k vs) t))
  rest_arms k vs t rest s b arms r =
      let xs = met core.table (in_arm core.table s k vs) t in
      let d = distinct_split vs rest arms.distinct in
      let wider : (y : Variable) → is_among rest y ≡ true → is_among (vs ++ rest) y ≡ true = λ y m. among_append vs rest y ∙ or_right (is_among vs y) (is_among rest y) m in
      record {
        distinct = d.1;
        bound = λ y m. stays_bound core.table xs b y (arms.bound y (wider y m));
        hidden = λ y m. arms.hidden y (wider y m);
        others = λ y m. arms.others y (wider y m);
        uncased = λ y m. uncased core y t (in_arm core.table s k vs) b r (bound_once core b xs y r (arms.bound y (wider y m)))
            (has_arm k vs (fields_at core.table k.0) None s.scope y ∙ or_from (is_among vs y) (has s.scope y) (d.2 y m) (arms.hidden y (wider y m))) (arms.uncased y (wider y m));
      }

  -- Behind the line of a case its arms' variables are new.
  pub case_arms : (x : Atom) (arms : List (ConId × List Variable)) (s : Setting) (b : Before) (used : Variable → Bool) (ks : List Known) (ms : List Met) → Suits used s ks b (at s (CaseLine x arms) ∷ ms)
      → least (rules core b (all_reached s) (CaseLine x arms)) ≡ None → ArmsSuit (arm_variables arms) s (next core.table b (CaseLine x arms))
  case_arms x arms s b used ks ms h e =
      let vs = arm_variables arms in
      let new = (or_parts _ (any_bound vs [] b.bound) (none_broken (rules core b (all_reached s) (CaseLine x arms)) e).1.1.0).1 in
      let unbound : (y : Variable) → is_among vs y ≡ true → is_bound b.bound y ≡ false = λ y m. arms_unbound vs b.bound y new m in
      let hidden : (y : Variable) → is_among vs y ≡ true → has s.scope y ≡ false = λ y m. false_from_ne_true (has s.scope y) (λ g. both_ways (is_bound b.bound y) (unbound y m) (h.bound y g)) in
      record {
        distinct = arms_distinct vs [] b.bound new;
        bound = λ y m. line_bound core.table (CaseLine x arms) b.bound y ∙ or_left (is_among vs y) (is_bound b.bound y) m;
        hidden = hidden;
        others = λ y m. false_from_ne_true (is_among s.others y) (λ g. both_ways (is_among vs y) (h.differs y g).0 m);
        uncased = λ y m. case_keeps core b s x arms y e (hidden y m) (false_from_ne_true (is_among b.cased y) (λ g. both_ways (is_bound b.bound y) (unbound y m) (h.cased y g)));
      }

module _ (mode : AccessMode) (core : CoreTree) where
  -- Lines break no rule of the core whose fields are reached.
  abbrev pub AreFine : Before → List Met → Type 0
  AreFine b ms = LinesAreBuilt (reach_core mode core) b ms

  abbrev pub es : List Ended
  es = ended_by mode core

  -- The lines of a term with its fields reached break no rule, where its line reaches these by ends.
  abbrev pub IsKept : AccessMode → List Later → Term → Type 0
  IsKept m fs t = (s : Setting) (ks : List Known) (b : Before) → IsOut m s → Awaits es t s ks fs → Suits (but (uses t) fs) s ks b (met core.table s t) → LinesAreReachable core b (met core.table s t) → AreFine b (met core.table (scoped s ks) (reach m core.table es fs t))

  pub then_built : (b : Before) (xs xs' ys' : List Met) → next_all core.table b xs' ≡ next_all core.table b xs → AreFine b xs' → AreFine (next_all core.table b xs) ys' → AreFine b (xs' ++ ys')
  then_built b xs xs' ys' e p q = built_append (reach_core mode core) b xs' ys' p (subst (λ (c : Before). AreFine c ys') (sym e) q)

  -- A term behind a line that binds variables.
  inner_from : (m : AccessMode) (line : Line) (t : Term) (s inner : Setting) (ks : List Known) (b : Before) → inner.scope ≡ s.scope → inner.others ≡ s.others
      → next core.table b line ≡ record { bound = (next core.table b line).bound; cased = b.cased }
      → Suits (uses t) s ks b (at s line ∷ met core.table inner t) → LinesAreReachable core (next core.table b line) (met core.table inner t)
      → IsOut m s → IsKept m [] t → AreFine (next core.table b line) (met core.table (scoped inner ks) (reach m core.table es [] t))
  inner_from m line t s inner ks b scope others cases h r out kept =
      let b' = next core.table b line in
      let stays : (y : Variable) → is_bound b.bound y ≡ true → is_bound b'.bound y ≡ true = λ y e. stays_bound core.table (at s line ∷ []) b y e in
      let suits : Suits (uses t) inner ks b' (met core.table inner t) = record {
        serves = λ y u m. h.serves y u (ap (λ (o : List Known). has o y) (sym scope) ∙ m);
        bound = λ y m. stays y (h.bound y (ap (λ (o : List Known). has o y) (sym scope) ∙ m));
        cased = λ y m. stays y (h.cased y (ap (λ (c : Before). is_among c.cased y) (sym cases) ∙ m));
        differs = λ y m. (h.differs y (ap (λ (o : List Variable). is_among o y) (sym others) ∙ m)).1;
      } in
      kept inner ks b' (out_of m s inner others out) (awaits_none es t inner ks) suits r

  -- The term of a side.
  abbrev pub term_of_side : Side → Term
  term_of_side (On kind x ty t) = t
  term_of_side (Several xs tys t) = t

  -- A side: its line, and its term.
  pub side_from : (m : AccessMode) (x : Side) (s : Setting) (ks : List Known) (b : Before) → Suits (side_uses x) s ks b (met_side core.table s x) → LinesAreReachable core b (met_side core.table s x)
      → IsOut m s → IsKept m [] (term_of_side x) → AreFine b (met_side core.table (scoped s ks) (reach_side m core.table es x))
  side_from m (On kind x ty t) s ks b h r out kept =
      let line = SideLine kind x ty in
      let inner = in_side core.table s kind ty in (
        side_kept mode core b s ks kind x ty r.0,
        subst (λ (z : Setting). AreFine (next core.table b line) (met core.table z (reach m core.table es [] t))) (sym (scoped_side core.table s ks kind ty))
            (inner_from m line t s inner ks b (in_side_scope core.table s kind ty) (in_side_others core.table s kind ty) refl h r.1 out kept),
      )
  side_from m (Several xs tys t) s ks b h r out kept =
      (several_kept mode core b s ks xs tys r.0, inner_from m (SeveralLine xs tys) t s (in_several s tys) ks b refl refl refl h r.1 out kept)

  -- The variables of a side were not bound before it, and are bound behind it.
  side_fresh : (x : Side) (s : Setting) (b : Before) (y : Variable) → LinesAreReachable core b (met_side core.table s x) → is_among (variables_of x) y ≡ true → is_bound b.bound y ≡ false
  side_fresh (On kind x ty t) s b y r m =
      let new = side_new core b (all_reached s) kind x ty r.0 in
      ⊎_elim (λ same. ap (is_bound b.bound) (sym (same_variable x y same)) ∙ new) (λ none. absurd (both_ways false refl none)) (or_cases (x.0 == y.0) false m)
  side_fresh (Several xs tys t) s b y r m = arms_unbound xs b.bound y (none_broken (rules core b (all_reached s) (SeveralLine xs tys)) r.0).0 m

  side_bound : (x : Side) (s : Setting) (b : Before) (y : Variable) → is_among (variables_of x) y ≡ true → is_bound (next_all core.table b (met_side core.table s x)).bound y ≡ true
  side_bound (On kind x ty t) s b y m =
      stays_bound core.table (met core.table (in_side core.table s kind ty) t) (next core.table b (SideLine kind x ty)) y
      (line_bound core.table (SideLine kind x ty) b.bound y ∙ or_left (x.0 == y.0) (is_bound b.bound y) (sym (or_none (x.0 == y.0)) ∙ m))
  side_bound (Several xs tys t) s b y m =
      stays_bound core.table (met core.table (in_several s tys) t) (next core.table b (SeveralLine xs tys)) y
      (line_bound core.table (SeveralLine xs tys) b.bound y ∙ or_left (is_among xs y) (is_bound b.bound y) m)

  -- A side whose fields are reached has the same variables.
  left_reached : (m : AccessMode) (s : Setting) (ks : List Known) (r : Side) → left_of (scoped s ks) (reach_side m core.table es r) ≡ scoped (left_of s r) ks
  left_reached m s ks (On kind x ty t) = refl
  left_reached m s ks (Several xs tys t) = refl

  right_reached : (m : AccessMode) (s : Setting) (ks : List Known) (l : Side) → right_of (scoped s ks) (reach_side m core.table es l) ≡ scoped (right_of s l) ks
  right_reached m s ks (On kind x ty t) = refl
  right_reached m s ks (Several xs tys t) = refl

  -- Two sides: the variables of each are another one's while the other is met.
  pub both_from : (m : AccessMode) (fork : Bool) (left right : Side) (s : Setting) (ks : List Known) (b : Before) → Suits (bind_uses (Both fork left right)) s ks b (met_bind core.table s (Both fork left right))
      → LinesAreReachable core b (met_bind core.table s (Both fork left right))
      → IsKept (in_par m) [] (term_of_side left) → IsKept (in_par m) [] (term_of_side right) → AreFine b (met_bind core.table (scoped s ks) (reach_bind m core.table es (Both fork left right)))
  both_from m fork left right s ks b h r kept kept' =
      let first = left_of s right in
      let second = right_of s left in
      let xs = met_side core.table first left in
      let ys = met_side core.table second right in
      let after = next_all core.table b xs in
      let rs = reachable_split core b xs ys r.1 in
      let suits : Suits (side_uses left) first ks b xs = record {
        serves = λ y m. h.serves y (or_left (side_uses left y) (side_uses right y) m);
        bound = h.bound;
        cased = h.cased;
        differs = λ y m. ⊎_elim (λ own. never_bound core.table xs b y (side_fresh right second after y rs.1 own))
            (λ l. (none_split y xs ys (h.differs y l).1).0) (or_cases (is_among (variables_of right) y) (is_among s.others y) (sym (among_append (variables_of right) s.others y) ∙ m));
      } in
      let suits' : Suits (side_uses right) second ks after ys = record {
        serves = λ y m. h.serves y (or_right (side_uses left y) (side_uses right y) m);
        bound = λ y m. stays_bound core.table xs b y (h.bound y m);
        cased = cased_after core first b xs h.bound h.cased (λ y n out c. side_uncased core y left first b rs.0 n out c);
        differs = λ y m. ⊎_elim (λ own. bound_once core after ys y rs.1 (side_bound left first b y own))
            (λ l. (none_split y xs ys (h.differs y l).1).1) (or_cases (is_among (variables_of left) y) (is_among s.others y) (sym (among_append (variables_of left) s.others y) ∙ m));
      } in (
        refl,
        then_built b xs (met_side core.table (left_of (scoped s ks) (reach_side (in_par m) core.table es right)) (reach_side (in_par m) core.table es left)) (met_side core.table (right_of (scoped s ks) (reach_side (in_par m) core.table es left)) (reach_side (in_par m) core.table es right))
            (side_next core.table es (in_par m) left first (left_of (scoped s ks) (reach_side (in_par m) core.table es right)) b)
            (subst (λ (z : Setting). AreFine b (met_side core.table z (reach_side (in_par m) core.table es left))) (sym (left_reached (in_par m) s ks right)) (side_from (in_par m) left first ks b suits rs.0 (out_par m first) kept))
            (subst (λ (z : Setting). AreFine after (met_side core.table z (reach_side (in_par m) core.table es right))) (sym (right_reached (in_par m) s ks left)) (side_from (in_par m) right second ks after suits' rs.1 (out_par m second) kept')),
      )

  -- An arm: its fields are reached, and then its term comes.
  pub arm_from : (m : AccessMode) → IsWithin mode m → (k : ConId) (vs : List Variable) (t : Term) (s : Setting) (ks : List Known) (b : Before) → IsOut m s → Suits (uses t) s ks b (met core.table (in_arm core.table s k vs) t) → ArmsSuit vs s b
      → LinesAreReachable core b (met core.table (in_arm core.table s k vs) t) → AreListed m (all_offsets mode core) (offset_of m es k t (packed_variables core.table k vs)) → IsKept m (laters m es t (packed_variables core.table k vs)) t
      → AreFine b (met core.table (in_arm core.table (scoped s ks) k vs) (prepend (reaches m es t (packed_variables core.table k vs)) (reach m core.table es (laters m es t (packed_variables core.table k vs)) t)))
  arm_from m w k vs t s ks b out h arms r listed kept =
      reaches_built (reach_core mode core) k t (reach m core.table es (laters m es t ps) t) inner b from m es ps start (record {
        started = arm_started k vs types ks arms.distinct;
        distinct = fields_distinct types vs arms.distinct;
        others = λ y m. arms.others y (fields_among types vs y m);
        uncased = λ y m. arms.uncased y (fields_among types vs y m);
        served = served;
      }) (offered mode m w core es k t ps listed) built_there
    where
      types : List Ty
      types = fields_at core.table k.0

      ps : List Variable
      ps = packed_variables core.table k vs

      from : List Known
      from = with_arm k vs types None s.scope

      start : List Known
      start = with_arm k vs types None ks

      inner : Setting
      inner = in_arm core.table s k vs

      bound : (y : Variable) → has from y ≡ true → is_bound b.bound y ≡ true
      bound y m = ⊎_elim (arms.bound y) (h.bound y) (or_cases (is_among vs y) (has s.scope y) (sym (has_arm k vs types None s.scope y) ∙ m))

      in_scope : (y : Variable) → is_among ps y ≡ true → has from y ≡ true
      in_scope y n = has_arm k vs types None s.scope y ∙ or_left (is_among vs y) (has s.scope y) (fields_among types vs y n)

      awaited : (z : Variable) (ys : List Variable) (new : List Known) → ((y : Variable) → is_among (z ∷ ys) y ≡ true → has from y ≡ true) → is_outside inner.others ≡ true → AreBehind k new (ends_from es t z ys) → AreAwaited es inner new (ends_from es t z ys)
      awaited z [] new sc o a = tt
      awaited z (y ∷ ys) new sc o a = go (uses t y && told_first es false z y t) a (λ n. awaited y ys new (λ v m'. sc v (or_right (z.0 == v.0) (is_among (y ∷ ys) v) m')) o n)
        where
          go : (c : Bool) → AreBehind k new (if c then record { field = y; before = z } ∷ ends_from es t y ys else ends_from es t y ys) → (AreBehind k new (ends_from es t y ys) → AreAwaited es inner new (ends_from es t y ys))
              → AreAwaited es inner new (if c then record { field = y; before = z } ∷ ends_from es t y ys else ends_from es t y ys)
          go true n rest = (
            record {
              constructor = k;
              pending = n.0;
              told = λ e. absurd cc;
              there = sc y (or_right (z.0 == y.0) (is_among (y ∷ ys) y) (or_left (y.0 == y.0) (is_among ys y) (eq-eqb y.0 y.0 refl)));
              beside = sc z (or_left (z.0 == z.0) (is_among (y ∷ ys) z) (eq-eqb z.0 z.0 refl));
              out = o;
              whole = refl;
            },
            rest n.1,
          )
          go false n rest = rest n

      distinct_ps : AreDistinct ps
      distinct_ps = fields_distinct types vs arms.distinct

      awaits : (n : AccessMode) (qs : List Variable) (new : List Known) → AreDistinct qs → ((y : Variable) → is_among qs y ≡ true → has from y ≡ true) → IsOut n inner → AreBehind k new (laters n es t qs) → Awaits es t inner new (laters n es t qs)
      awaits Skips qs new d sc o a = awaits_none es t inner new
      awaits Offsets qs new d sc o a = awaits_none es t inner new
      awaits Ends [] new d sc o a = awaits_none es t inner new
      awaits Ends (z ∷ ys) new d sc o a = record { each = awaited z ys new sc o a; first = ends_first es t inner refl z ys; apart = later_apart es t z ys d.1 }

      built_there : (new : List Known) → Serves (but (uses t) (laters m es t ps)) from new → AreBehind k new (laters m es t ps) → AreFine b (met core.table (inside inner new) (reach m core.table es (laters m es t ps) t))
      built_there new serves a = kept inner new b (out_of m s inner refl out) (awaits m ps new distinct_ps in_scope (out_of m s inner refl out) a) (record { serves = serves; bound = bound; cased = h.cased; differs = h.differs }) r

      served : (y : Variable) → uses t y ≡ true → has from y ≡ true → ReachedOr start (further ps) y
      served y u m = split (is_among vs y) refl
        where
          split : (c : Bool) → is_among vs y ≡ c → ReachedOr start (further ps) y
          split true e = arm_reached k vs types None ks y arms.distinct e
          split false e = inl (ap is_reached (known_past_arm k vs types None ks y e) ∙ h.serves y u (sym (has_arm k vs types None s.scope y ∙ ap (λ c. c || has s.scope y) e) ∙ m))
