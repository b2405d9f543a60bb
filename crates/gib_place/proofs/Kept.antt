-- What a line is laid out as breaks no rule where the line breaks none.
use Rattle.std.proofs.Common.{◌≡◌, ⊎_elim, ℕ, suc, ◌+◌, ◌<◌, ◌≤◌, Bool, true, false, not, ◌&&◌, ◌||◌, ◌==◌, if◌then◌else◌, List, [], ◌∷◌, ◌++◌, length, Some, refl, sym, ap, ◌∙◌, subst, arith}
use Rattle.std.specs.Prelude.{get_or}
use Rattle.std.proofs.lemmas.Bool.{eqb-true, eq-eqb, both_ways, not-false, false_from_ne_true, or_parts, or_from, or_cases, or_left, or_right, lt-ltb, and_parts}
use Rattle.std.proofs.lemmas.List.{append-nil, append_assoc}
use Rattle.gib_base.specs.declared.name.Name.{Name}
use Rattle.gib_types.specs.declared.table.Ty.{Ty}
use Rattle.gib_types.specs.declared.table.Ty.TheVariants.{Whole, Truth}
use Rattle.gib_types.specs.declared.table.ConId.{ConId}
use Rattle.gib_types.specs.Table.{Table, fields_at, scalar_types}
use Rattle.gib_core.specs.declared.atom.Variable.{Variable}
use Rattle.gib_core.specs.declared.atom.Atom.{Atom}
use Rattle.gib_core.specs.declared.atom.Atom.TheVariants as a
use Rattle.gib_core.specs.declared.atom.Kind.{Kind}
use Rattle.gib_core.specs.declared.atom.Kind.TheVariants.{Here, Region, Scalar}
use Rattle.gib_core.specs.declared.scope.Known.{Known}
use Rattle.gib_core.specs.declared.scope.Bound.{Bound}
use Rattle.gib_core.specs.Tree.{Term, Then, Write, Bind, Past, One, Both, Prim, Reach, Side, On, Several, variables_of, prepend, CoreTree}
use Rattle.gib_core.specs.Inferring.{as_atoms}
use Rattle.gib_core.specs.Numbering.{binders, bind_binders, side_binders}
use Rattle.gib_core.specs.Met.{Destination, Nowhere, Empty, Open, InParts, Setting, PastLine, SideLine, PrimLine, WriteLine, PointLine, Met, reached, known, packed_types, stands_too, stands_behind, with_variables, in_side, behind, behind_side, calls_behind, left_of, right_of, met, met_bind, met_side}
use Rattle.gib_core.specs.Rules.{Before, same_type, is_empty, has_room, is_among, is_bound, type_bound, type_of, is_type, has_type, have_types, is_usable, all_usable, is_other, any_other, is_of_type, any_cased, further, rules, next, next_all, type_made}
use Rattle.gib_core.specs.Reachable.{all_reached, LinesAreReachable}
use Rattle.gib_place.specs.declared.field.Field.{Field}
use Rattle.gib_core.specs.Counting.{count}
use Rattle.gib_place.specs.Placing.{bound_by, bound_in, is_one}
use Rattle.gib_core.proofs.Along.{none_broken, least_none, next_append, reachable_split, same_variable, behind_all, met_all, own_atoms, reachable_append}
use Rattle.gib_core.proofs.Cased.{has, reached_where_has, has_variables, reaches_none, has_less}
use Rattle.gib_place.proofs.Lays.{Lays, ends, opens, puts, stays, one, left, right, both, variables}
use Rattle.gib_place.proofs.Counts.{occurs, occurs_append, binders_all}
use Rattle.gib_place.proofs.Fitting.{not_among}
use Rattle.gib_place.proofs.Wider.{nums, times, new_there, own_time, Gains, gains_none, gains_both, gains_term, gains_bind, gains_side}
use Rattle.gib_place.proofs.Weaken.{Ahead, ahead_less, ahead_first, likes_itself, ahead_side, all_usable_more, types_same, other_eq, any_other_eq, ahead_behind, wider_side, wider_bind}
use Rattle.gib_place.proofs.Scopes.{Scoped, Room, Wider}
use Rattle.gib_core.proofs.Facts.{same_type_is}
use Rattle.gib_core.proofs.Suited.{others_behind, has_all}
use Rattle.gib_core.proofs.Kept.{scoped}

abbrev pub opened : Setting → Destination → List Known → Bool → Setting
opened s d ks w = record s { destination = d; scope = ks; whole = w }

usable_eq : (s z : Setting) (x : Atom) → s.scope ≡ z.scope → is_usable s x ≡ is_usable z x
usable_eq s z (a.Variable x) e = ap (λ o. Rattle.gib_core.specs.Rules.is_reached (known o x)) e
usable_eq s z (a.Whole n) e = refl
usable_eq s z (a.Truth t) e = refl

all_usable_eq : (s z : Setting) (xs : List Atom) → s.scope ≡ z.scope → all_usable s xs ≡ all_usable z xs
all_usable_eq s z [] e = refl
all_usable_eq s z (x ∷ xs) e = λ i. usable_eq s z x e i && all_usable_eq s z xs e i

others_two : (s : Setting) (xs ys : List Atom) → any_other s xs ≡ false → any_other s ys ≡ false → any_other s (xs ++ ys) ≡ false
others_two s [] ys e f = f
others_two s (x ∷ xs) ys e f = let p = or_parts (is_other s x) (any_other s xs) e in or_from (is_other s x) (any_other s (xs ++ ys)) p.0 (others_two s xs ys p.1 f)

usable_two : (s : Setting) (xs ys : List Atom) → all_usable s xs ≡ true → all_usable s ys ≡ true → all_usable s (xs ++ ys) ≡ true
usable_two s [] ys e f = f
usable_two s (x ∷ xs) ys e f = let p = and_parts (is_usable s x) (all_usable s xs) e in λ i. p.0 i && usable_two s xs ys p.1 f i

pub length_one : {A : Type 0} (xs : List A) (x : A) → length (xs ++ x ∷ []) ≡ suc (length xs)
length_one [] x = refl
length_one (y ∷ xs) x = ap suc (length_one xs x)

pub shift_one : {A : Type 0} (xs : List A) (x : A) (ys : List A) → xs ++ (x ∷ ys) ≡ (xs ++ x ∷ []) ++ ys
shift_one xs x ys = sym (append_assoc xs (x ∷ []) ys)

among_one : (xs : List Variable) (x y : Variable) (P : Type 0) → (is_among xs y ≡ true → P) → ((x.0 == y.0) ≡ true → P) → is_among (xs ++ x ∷ []) y ≡ true → P
among_one [] x y P f g m = g (go (x.0 == y.0) m)
  where
    go : (c : Bool) → (c || false) ≡ true → c ≡ true
    go true m = refl
    go false m = absurd cc
among_one (z ∷ xs) x y P f g m =
    ⊎_elim (λ n. f (or_left (z.0 == y.0) (is_among xs y) n)) (λ n. among_one xs x y P (λ k. f (or_right (z.0 == y.0) (is_among xs y) k)) g n) (or_cases (z.0 == y.0) (is_among (xs ++ x ∷ []) y) m)

uncased_all : (cased xs : List Variable) → ((y : Variable) → is_among xs y ≡ true → is_among cased y ≡ false) → any_cased cased xs ≡ false
uncased_all cased [] h = refl
uncased_all cased (x ∷ xs) h =
    or_from (is_among cased x) (any_cased cased xs) (h x (or_left (x.0 == x.0) (is_among xs x) (eq-eqb x.0 x.0 refl))) (uncased_all cased xs (λ y m. h y (or_right (x.0 == y.0) (is_among xs y) m)))

further_among : (xs : List Variable) (y : Variable) → is_among (further xs) y ≡ true → is_among xs y ≡ true
further_among [] y m = m
further_among (x ∷ xs) y m = or_right (x.0 == y.0) (is_among xs y) m

module _ (core : CoreTree) where
  tb : Table
  tb = core.table

  abbrev pub R : Before → List Met → Type 0
  R b ms = LinesAreReachable core b ms

  pub met_prepend : (bs : List Bind) (t : Term) (s : Setting) → met core.table s (prepend bs t) ≡ met_all core.table s bs ++ met core.table (behind_all s bs) t
  met_prepend [] t s = refl
  met_prepend (b ∷ bs) t s = ap (λ l. met_bind core.table s b ++ l) (met_prepend bs t (behind s b)) ∙ sym (append_assoc (met_bind core.table s b) (met_all core.table (behind s b) bs) (met core.table (behind_all (behind s b) bs) t))

  pub gains_run : (bs : List Bind) (s : Setting) (b : Before) → Gains b (next_all core.table b (met_all core.table s bs)) (binders_all bs)
  gains_run [] s b = gains_none b
  gains_run (bd ∷ bs) s b =
      let ls = met_bind core.table s bd in
      gains_both core.table b ls (met_all core.table (behind s bd) bs) (bind_binders bd) (binders_all bs) (gains_bind core.table bd s b) (gains_run bs (behind s bd) (next_all core.table b ls))

  pub mets_cased : (bs : List Bind) (s : Setting) (b : Before) (y : Variable) → times (next_all core.table b (met_all core.table s bs)).cased y.0 ≤ times b.cased y.0 + Rattle.gib_place.proofs.Counts.count_all bs y
  mets_cased [] s b y = omega arith
  mets_cased (bd ∷ bs) s b y =
      let e = ap (λ (z : Before). times z.cased y.0) (next_append core.table b (met_bind core.table s bd) (met_all core.table (behind s bd) bs)) in
      let p = ap (λ c. times c y.0) (Rattle.gib_place.proofs.Wider.bind_cased_after core.table bd s b) in
      let q = Rattle.gib_place.proofs.Wider.bind_casing_counts bd b.cased y in
      let r = mets_cased bs (behind s bd) (next_all core.table b (met_bind core.table s bd)) y in
      omega arith

  -- The destination was empty, where it is empty behind bindings.
  side_empty : (kind : Kind) (x : Variable) (d : Destination) → is_empty (stands_too kind x d) ≡ true → is_empty d ≡ true
  side_empty Here x Nowhere e = e
  side_empty Here x Empty e = e
  side_empty Here x (Open h k standing) e = e
  side_empty Here x (InParts tys) e = e
  side_empty Region x d e = e
  side_empty Scalar x d e = e

  stands_empty : (side : Side) (d : Destination) → is_empty (stands_behind side d) ≡ true → is_empty d ≡ true
  stands_empty (On kind x ty t) d e = side_empty kind x d e
  stands_empty (Several xs tys t) d e = e

  was_empty : (bd : Bind) (s : Setting) → is_empty (behind s bd).destination ≡ true → is_empty s.destination ≡ true
  was_empty (Past h k) s e = absurd cc
  was_empty (One side) s e = stands_empty side s.destination e
  was_empty (Both fork l r) s e = stands_empty l s.destination (stands_empty r (stands_behind l s.destination) e)
  was_empty (Prim x f v w) s e = e
  was_empty (Reach y by) s e = e

  pub all_empty : (bs : List Bind) (s : Setting) → is_empty (behind_all s bs).destination ≡ true → is_empty s.destination ≡ true
  all_empty [] s e = e
  all_empty (bd ∷ bs) s e = was_empty bd s (all_empty bs (behind s bd) e)

  no_room : (d : Destination) → is_empty d ≡ true → has_room core.table d ≡ false
  no_room Nowhere e = absurd cc
  no_room Empty e = refl
  no_room (Open h k standing) e = absurd cc
  no_room (InParts tys) e = absurd cc

  has_back : (xs : List Variable) (ks : List Known) (y : Variable) → is_among xs y ≡ false → has (with_variables xs ks) y ≡ true → has ks y ≡ true
  has_back xs ks y o m = sym (ap (λ c. c || has ks y) o) ∙ (sym (has_variables xs ks y) ∙ m)

  -- What is in scope behind a run, and is not bound by it, was in scope.
  scope_back : (bd : Bind) (s : Setting) (b : Before) (y : Variable) → R b (met_bind core.table s bd) → has (behind s bd).scope y ≡ true → is_among (bound_by bd) y ≡ false → has s.scope y ≡ true
  scope_back (Past h k) s b y r m o = m
  scope_back (One side) s b y r m o = has_back (variables_of side) s.scope y o m
  scope_back (Both fork l rt) s b y r m o =
      let p = not_among (variables_of l) (variables_of rt) y o in
      has_back (variables_of l) s.scope y p.0 (has_back (variables_of rt) (with_variables (variables_of l) s.scope) y p.1 m)
  scope_back (Prim x f v w) s b y r m o = has_less x s.scope y (or_parts (x.0 == y.0) false o).0 m
  scope_back (Reach x by) s b y r m o = absurd (reaches_none core b s x by r.0)

  pub scopes_back : (bs : List Bind) (s : Setting) (b : Before) (y : Variable) → R b (met_all core.table s bs) → has (behind_all s bs).scope y ≡ true → is_among (bound_in bs) y ≡ false → has s.scope y ≡ true
  scopes_back [] s b y r m o = m
  scopes_back (bd ∷ bs) s b y r m o =
      let rs = reachable_split core b (met_bind core.table s bd) (met_all core.table (behind s bd) bs) r in
      let p = not_among (bound_by bd) (bound_in bs) y o in
      scope_back bd s b y rs.0 (scopes_back bs (behind s bd) (next_all core.table b (met_bind core.table s bd)) y rs.1 m p.1) p.0

  -- A side where another destination stands and more is in scope: its lines, and what stands behind it.
  record SideNew (s : Setting) (ks : List Known) (b' : Before) (d : Destination) (w : Bool) (side side' : Side) : Type 0 where
    pub lines : R b' (met_side core.table (opened s d ks w) side')
    pub after : next_all core.table b' (met_side core.table (opened s d ks w) side') ≡ next_all core.table b' (met_side core.table (scoped s ks) side)

  -- The same of a binding, and what is met behind it.
  record BindNew (s : Setting) (ks : List Known) (b' : Before) (d d1 : Destination) (w : Bool) (bd bd' : Bind) : Type 0 where
    pub lines : R b' (met_bind core.table (opened s d ks w) bd')
    pub after : next_all core.table b' (met_bind core.table (opened s d ks w) bd') ≡ next_all core.table b' (met_bind core.table (scoped s ks) bd)
    pub setting : behind (opened s d ks w) bd' ≡ opened (behind s bd) d1 (behind (scoped s ks) bd).scope false

  -- A side where a destination stands: it stays, or takes the place of the next field, which then stands.
  data Step : Destination → Destination → Side → Side → Type 0 where
    keeps : {d : Destination} {side : Side} → Step d d side side
    takes : {h : Variable} {k : ConId} {done : List Variable} {x : Variable} {ty : Ty} {t : Term} → length done < length (packed_types core.table k) → same_type ty (get_or (packed_types core.table k) (length done) Whole) ≡ true
        → Step (Open h k done) (Open h k (done ++ x ∷ [])) (On Region x ty t) (On Here x ty t)

  -- At an empty destination no side is a field.
  abbrev IsApart : Side → Type 0
  IsApart (On Here x ty t) = ⊥
  IsApart (On Region x ty t) = Unit {0}
  IsApart (On Scalar x ty t) = Unit {0}
  IsApart (Several xs tys t) = Unit {0}

  is_apart : (side : Side) (s : Setting) (b : Before) → is_empty s.destination ≡ true → R b (met_side core.table s side) → IsApart side
  is_apart (On Region x ty t) s b e r = tt
  is_apart (On Scalar x ty t) s b e r = tt
  is_apart (Several xs tys t) s b e r = tt
  is_apart (On Here x ty t) s b e r =
      both_ways (has_room core.table s.destination) (no_room s.destination e) (not-false (has_room core.table s.destination) (none_broken (rules core b (all_reached s) (SideLine Here x ty)) r.0).0)

  still_empty : (side : Side) (s : Setting) → IsApart side → is_empty s.destination ≡ true → is_empty (right_of s side).destination ≡ true
  still_empty (On Here x ty t) s c e = absurd c
  still_empty (On Region x ty t) s c e = e
  still_empty (On Scalar x ty t) s c e = e
  still_empty (Several xs tys t) s c e = e

  step_left : {d d1 : Destination} {side side' : Side} → Step d d1 side side' → (s : Setting) (e : Destination) (ks : List Known) (w : Bool) → left_of (opened s e ks w) side' ≡ opened (left_of s side) e ks w
  step_left keeps s e ks w = refl
  step_left (takes lt same) s e ks w = refl

  step_right : {d d1 : Destination} {side side' : Side} → Step d d1 side side' → IsApart side → (s : Setting) (ks : List Known) (w : Bool) → right_of (opened s d ks w) side' ≡ opened (right_of s side) d1 ks w
  step_right (keeps {side = On Here x ty t}) c s ks w = absurd c
  step_right (keeps {side = On Region x ty t}) c s ks w = refl
  step_right (keeps {side = On Scalar x ty t}) c s ks w = refl
  step_right (keeps {side = Several xs tys t}) c s ks w = refl
  step_right (takes lt same) c s ks w = refl

  step_behind : {d d1 : Destination} {side side' : Side} → Step d d1 side side' → IsApart side → (s : Setting) (ks : List Known) (w : Bool) → behind_side (opened s d ks w) side' ≡ opened (behind_side s side) d1 (behind_side (scoped s ks) side).scope false
  step_behind (keeps {side = On Here x ty t}) c s ks w = absurd c
  step_behind (keeps {side = On Region x ty t}) c s ks w = refl
  step_behind (keeps {side = On Scalar x ty t}) c s ks w = refl
  step_behind (keeps {side = Several xs tys t}) c s ks w = refl
  step_behind (takes lt same) c s ks w = refl

  calls_stay : {d d1 : Destination} {side side' : Side} → Step d d1 side side' → (cs : List (Name × List Atom)) → calls_behind side' cs ≡ calls_behind side cs
  calls_stay keeps cs = refl
  calls_stay (takes lt same) cs = refl

  side_step : {d d1 : Destination} {side side' : Side} → Step d d1 side side' → (s : Setting) (b : Before) (ks : List Known) (b' : Before) (w : Bool) → is_empty s.destination ≡ true → Ahead s.scope b ks b' (side_binders side)
      → R b (met_side core.table s side) → SideNew s ks b' d w side side'
  side_step (keeps {side = On Here x ty t}) s b ks b' w e a r = absurd (is_apart (On Here x ty t) s b e r)
  side_step (keeps {side = On Region x ty t}) s b ks b' w e a r = record { lines = wider_side core (On Region x ty t) s b ks b' a r; after = refl }
  side_step (keeps {side = On Scalar x ty t}) s b ks b' w e a r = record { lines = wider_side core (On Scalar x ty t) s b ks b' a r; after = refl }
  side_step (keeps {side = Several xs tys t}) s b ks b' w e a r = record { lines = wider_side core (Several xs tys t) s b ks b' a r; after = refl }
  side_step (takes {h = h} {k = k} {done = done} {x = x} {ty = ty} {t = t} lt same) s b ks b' w e a r =
      let due = get_or (packed_types core.table k) (length done) Whole in
      let so = opened s (Open h k done) ks w in
      let inner : Ty → Setting = λ z. record s { destination = Empty; due = z; scope = ks; whole = false; calls = [] } in
      let line = SideLine Here x ty in
      let typed = same_type_is ty due same in
      record {
        lines = (
          least_none (rules core b' (all_reached so) line) (ap not (lt-ltb (length done) (length (packed_types core.table k)) lt), (new_there b'.bound x (let o = a.room' x.0 in let z = own_time x in omega arith), (ap not same, tt))),
          subst (λ (z : Ty). R (next core.table b' line) (met core.table (inner z) t)) typed ((wider_side core (On Region x ty t) s b ks b' a r).1),
        );
        after = ap (λ (z : Ty). next_all core.table (next core.table b' line) (met core.table (inner z) t)) (sym typed);
      }

  one_step : {d d1 : Destination} {side side' : Side} → Step d d1 side side' → (s : Setting) (b : Before) (ks : List Known) (b' : Before) (w : Bool) → is_empty s.destination ≡ true → Ahead s.scope b ks b' (side_binders side)
      → R b (met_side core.table s side) → BindNew s ks b' d d1 w (One side) (One side')
  one_step {side = side} p s b ks b' w e a r =
      let n = side_step p s b ks b' w e a r in
      record { lines = n.lines; after = n.after; setting = λ i. record (step_behind p (is_apart side s b e r) s ks w i) { calls = calls_stay p s.calls i } }

  -- The left side of a par is met at an empty place, and so is the right one where the left one is none of the fields.
  both_step : {d d1 d2 : Destination} (fork : Bool) (l l' r r' : Side) → Step d d1 l l' → Step d1 d2 r r' → (s : Setting) (b : Before) (ks : List Known) (b' : Before) (w : Bool) → is_empty s.destination ≡ true
      → Ahead s.scope b ks b' (side_binders l ++ side_binders r) → R b (met_bind core.table s (Both fork l r)) → BindNew s ks b' d d2 w (Both fork l r) (Both fork l' r')
  both_step {d} {d1} {d2} fork l l' r r' p q s b ks b' w e a h =
      let tb = core.table in
      let L = met_side tb (left_of s r) l in
      let L' = met_side tb (left_of (opened s d ks w) r') l' in
      let R' = met_side tb (right_of (opened s d ks w) l') r' in
      let N = met_side tb (left_of (scoped s ks) r) l in
      let O = met_side tb (right_of (scoped s ks) l) r in
      let rs = reachable_split core b L (met_side tb (right_of s l) r) h.1 in
      let c = is_apart l (left_of s r) b e rs.0 in
      let e' = still_empty l s c e in
      let m = side_step p (left_of s r) b ks b' w e (ahead_first (side_binders l) (side_binders r) a) rs.0 in
      let n = side_step q (right_of s l) (next_all tb b L) ks (next_all tb b' N) w e' (ahead_side tb l l (side_binders r) (left_of s r) (left_of (scoped s ks) r) (likes_itself l) a) rs.1 in
      let after_l : next_all tb b' L' ≡ next_all tb b' N = ap (λ (v : Setting). next_all tb b' (met_side tb v l')) (step_left q s d ks w) ∙ m.after in
      record {
        lines = (
          refl,
          reachable_append core b' L' R' (subst (λ (v : Setting). R b' (met_side tb v l')) (sym (step_left q s d ks w)) m.lines)
              (subst (λ (v : Before). R v R') (sym after_l) (subst (λ (v : Setting). R (next_all tb b' N) (met_side tb v r')) (sym (step_right p c s ks w)) n.lines)),
        );
        after =
            next_append tb b' L' R'
            ∙ (ap (λ (v : Before). next_all tb v R') after_l
            ∙ (ap (λ (v : Setting). next_all tb (next_all tb b' N) (met_side tb v r')) (step_right p c s ks w) ∙ (n.after ∙ sym (next_append tb b' N O))));
        setting = ap (λ (v : Setting). behind_side v r') (step_behind p c s ks w) ∙ step_behind q (is_apart r (right_of s l) (next_all tb b L) e' rs.1) (behind_side s l) (with_variables (variables_of l) ks) false;
      }

  prim_stays : (x : Variable) (g : Rattle.gib_types.specs.declared.operator.Operator.Operator) (v u : Atom) (s : Setting) (b' : Before) (ks : List Known) (d : Destination) (w : Bool) → R b' (met_bind core.table (scoped s ks) (Prim x g v u)) → R b' (met_bind core.table (opened s d ks w) (Prim x g v u))
  prim_stays x g v u s b' ks d w r =
      let so = all_reached (opened s d ks w) in
      let sc = all_reached (scoped s ks) in
      let f = none_broken (rules core b' sc (PrimLine x g v u)) r.0 in (
        least_none (rules core b' so (PrimLine x g v u)) (
          any_other_eq so sc (v ∷ u ∷ []) refl ∙ f.0,
          (ap (λ c. is_bound b'.bound x || not c) (all_usable_eq so sc (v ∷ u ∷ []) refl) ∙ f.1.0, (f.1.1.0, tt)),
        ),
        tt,
      )

  bind_stays : (bd : Bind) (s : Setting) (b : Before) (ks : List Known) (b' : Before) (d : Destination) (w : Bool) → is_empty s.destination ≡ true → is_empty (behind s bd).destination ≡ true → Ahead s.scope b ks b' (bind_binders bd)
      → R b (met_bind core.table s bd) → BindNew s ks b' d d w bd bd
  bind_stays (Past h k) s b ks b' d w e e' a r = absurd cc
  bind_stays (One side) s b ks b' d w e e' a r = one_step keeps s b ks b' w e a r
  bind_stays (Both fork l r) s b ks b' d w e e' a h = both_step fork l l r r keeps keeps s b ks b' w e a h
  bind_stays (Prim x g v u) s b ks b' d w e e' a r = record { lines = prim_stays x g v u s b' ks d w (wider_bind core (Prim x g v u) s b ks b' a r); after = refl; setting = refl }
  bind_stays (Reach y by) s b ks b' d w e e' a r = absurd (reaches_none core b s y by r.0)

  -- One more binding is laid: what follows goes on from there.
  go_on : (s : Setting) (b : Before) (ks : List Known) (b' : Before) (d d1 : Destination) (w : Bool) (bd bd' : Bind) (t : Term) → BindNew s ks b' d d1 w bd bd'
      → R (next_all core.table b' (met_bind core.table (scoped s ks) bd)) (met core.table (opened (behind s bd) d1 (behind (scoped s ks) bd).scope false) t)
      → R b' (met core.table (opened s d ks w) (Then bd' t))
  go_on s b ks b' d d1 w bd bd' t n rest =
      reachable_append core b' (met_bind core.table (opened s d ks w) bd') (met core.table (behind (opened s d ks w) bd') t) n.lines
      (subst (λ (z : Before). R z (met core.table (behind (opened s d ks w) bd') t)) (sym n.after)
      (subst (λ (z : Setting). R (next_all core.table b' (met_bind core.table (scoped s ks) bd)) (met core.table z t)) (sym n.setting) rest))

  module _ (once : Variable → Bool) (h : Variable) (k : ConId) (hw : Variable) (kw : ConId) (ss : List Atom) where
    abbrev pub due_at : ℕ → Ty
    due_at n = get_or (packed_types core.table k) n Whole

    -- A field of the head, as it stands behind the run.
    pub record FieldOk (se : Setting) (be : Before) (n : ℕ) (f : Field) : Type 0 where
      pub due : same_type f.ty (due_at n) ≡ true
      pub typed : has_type be f.target (due_at n) ≡ true
      pub usable : is_usable (all_reached se) f.target ≡ true
      pub other : is_other (all_reached se) f.target ≡ false
      pub mine : is_among se.others f.variable ≡ false
      pub uncased : is_among be.cased f.variable ≡ false
      pub target_uncased : (y : Variable) → once y ≡ true → f.target ≡ a.Variable y → is_among be.cased y ≡ false

    abbrev pub FieldsOk : Setting → Before → ℕ → List Field → Type 0
    FieldsOk se be n [] = Unit {0}
    FieldsOk se be n (f ∷ fs) = FieldOk se be n f × FieldsOk se be (suc n) fs

    -- The end of a line, as it stands behind the run.
    pub record EndOk (se : Setting) (be : Before) : Type 0 where
      pub made : is_of_type core.table k se.due ≡ true
      pub heads : (h.0 == hw.0 && k.0 == kw.0) ≡ true
      pub others : any_other (all_reached se) ss ≡ false
      pub usable : all_usable (all_reached se) ss ≡ true
      pub typed : have_types be ss (scalar_types (fields_at core.table k.0)) ≡ true

    abbrev pub place_of : Bool → List Variable → Destination
    place_of false done = Empty
    place_of true done = Open h k done

    abbrev pub heads_left : Bool → List ℕ
    heads_left true = []
    heads_left false = h.0 ∷ []

    -- The variables that stand.
    pub record Stand (se : Setting) (be : Before) (ks : List Known) (done : List Variable) : Type 0 where
      pub there : (y : Variable) → is_among done y ≡ true → has ks y ≡ true
      pub others : (y : Variable) → is_among done y ≡ true → is_among se.others y ≡ false
      pub uncased : (y : Variable) → is_among done y ≡ true → is_among be.cased y ≡ false

    stand_more : (se : Setting) (be : Before) (ks ks' : List Known) (done : List Variable) → ((y : Variable) → has ks y ≡ true → has ks' y ≡ true) → Stand se be ks done → Stand se be ks' done
    stand_more se be ks ks' done more st = record { there = λ y m. more y (st.there y m); others = st.others; uncased = st.uncased }

    stand_too : (se : Setting) (be : Before) (ks : List Known) (done : List Variable) (x : Variable) → has ks x ≡ true → is_among se.others x ≡ false → is_among be.cased x ≡ false → Stand se be ks done → Stand se be ks (done ++ x ∷ [])
    stand_too se be ks done x u o c st = record {
      there = λ y m. among_one done x y (has ks y ≡ true) (st.there y) (λ e. subst (λ (z : Variable). has ks z ≡ true) (same_variable x y e) u) m;
      others = λ y m. among_one done x y (is_among se.others y ≡ false) (st.others y) (λ e. subst (λ (z : Variable). is_among se.others z ≡ false) (same_variable x y e) o) m;
      uncased = λ y m. among_one done x y (is_among be.cased y ≡ false) (st.uncased y) (λ e. subst (λ (z : Variable). is_among be.cased z ≡ false) (same_variable x y e) c) m;
    }

    others_none : (s : Setting) (xs : List Variable) → ((y : Variable) → is_among xs y ≡ true → is_among s.others y ≡ false) → any_other s (as_atoms xs) ≡ false
    others_none s [] f = refl
    others_none s (x ∷ xs) f = or_from (is_among s.others x) (any_other s (as_atoms xs)) (f x (or_left (x.0 == x.0) (is_among xs x) (eq-eqb x.0 x.0 refl))) (others_none s xs (λ y m. f y (or_right (x.0 == y.0) (is_among xs y) m)))

    usable_each : (s : Setting) (xs : List Variable) → ((y : Variable) → is_among xs y ≡ true → has s.scope y ≡ true) → all_usable (all_reached s) (as_atoms xs) ≡ true
    usable_each s [] f = refl
    usable_each s (x ∷ xs) f =
        let mine : is_usable (all_reached s) (a.Variable x) ≡ true = reached_where_has s.scope x ∙ f x (or_left (x.0 == x.0) (is_among xs x) (eq-eqb x.0 x.0 refl)) in
        λ i. mine i && usable_each s xs (λ y m. f y (or_right (x.0 == y.0) (is_among xs y) m)) i

    -- The head, where all its fields stand.
    written : (s : Setting) (b : Before) (ks : List Known) (b' : Before) (done : List Variable) (w : Bool) → Wider s.scope b ks b' → EndOk s b → length done ≡ length (packed_types core.table k) → Stand s b ks done
        → R b' (met core.table (opened s (Open h k done) ks w) (Write hw kw ss (as_atoms done)))
    written s b ks b' done w wd end size st =
        let so = opened s (Open h k done) ks w in
        let line = WriteLine hw kw ss (as_atoms done) in
        let mine : any_cased b'.cased (further done) ≡ false = uncased_all b'.cased (further done) (λ y m. ap (λ c. is_among c y) wd.cased ∙ st.uncased y (further_among done y m)) in (
          least_none (rules core b' (all_reached so) line) (
            others_two (all_reached so) ss (as_atoms done) (any_other_eq (all_reached so) (all_reached s) ss refl ∙ end.others) (others_none (all_reached so) done st.others),
            (
              ap not (λ i. end.heads i && ((eq-eqb (length done) (length (packed_types core.table k)) size i && own_atoms done i) && not (mine i))),
              (
                ap not (usable_two (all_reached so) ss (as_atoms done) (all_usable_eq (all_reached so) (all_reached (scoped s ks)) ss refl ∙ all_usable_more s b b' ks ss wd end.usable) (usable_each so done st.there)),
                (ap not (types_same s b b' ss (scalar_types (fields_at core.table k.0)) wd.types end.usable ∙ end.typed), tt),
              ),
            ),
          ),
          tt,
        )

    -- The value that a field points to has its type where it is put.
    pointed : (s : Setting) (b : Before) (ks : List Known) (b' : Before) (bs : List Bind) (x : Atom) → Wider s.scope b ks b' → Scoped s.scope b → Room b (binders_all bs) → R b (met_all core.table s bs)
        → is_usable (all_reached (behind_all s bs)) x ≡ true → is_one (bound_in bs) x ≡ false
        → (is_usable (all_reached (scoped s ks)) x ≡ true) × (type_of b' x ≡ type_of (next_all core.table b (met_all core.table s bs)) x)
    pointed s b ks b' bs (a.Whole z) w sc ro r u o = (refl, refl)
    pointed s b ks b' bs (a.Truth t) w sc ro r u o = (refl, refl)
    pointed s b ks b' bs (a.Variable y) w sc ro r u o =
        let m = scopes_back bs s b y r (sym (reached_where_has (behind_all s bs).scope y) ∙ u) o in
        let n = sc y m in let q = ro y.0 in
        (reached_where_has ks y ∙ w.scope y m, w.types y m ∙ sym ((gains_run bs s b).types y (omega arith)))

    abbrev pub Closed : Bool → List Variable → Type 0
    Closed true done = Unit {0}
    Closed false done = done ≡ []

    -- What holds where a run and fields are left, and these stand: of the line, and of what it is laid out as.
    pub record Pre (o : Bool) (bs : List Bind) (fs : List Field) (cs : List Bind) (s : Setting) (b : Before) (ks : List Known) (b' : Before) (done : List Variable) (n : ℕ) (be : Before) : Type 0 where
      pub is : be ≡ next_all core.table b (met_all core.table s bs)
      pub empty : is_empty (behind_all s bs).destination ≡ true
      pub wider : Wider s.scope b ks b'
      pub scoped : Scoped s.scope b
      pub rooms : (y : ℕ) → occurs (nums b.bound) y + (occurs (binders_all bs) y + (times (variables fs) y + occurs (heads_left o) y)) ≤ 1
      pub room : Room b' (binders_all cs)
      pub lines : R b (met_all core.table s bs)
      pub end : EndOk (behind_all s bs) be
      pub fields : FieldsOk (behind_all s bs) be n fs
      pub count : n ≡ length done
      pub size : n + length fs ≡ length (packed_types core.table k)
      pub stand : Stand (behind_all s bs) be ks done
      pub closed : Closed o done

    has_behind : (bd : Bind) (s : Setting) (b : Before) (ks : List Known) (y : Variable) → R b (met_bind core.table s bd) → has ks y ≡ true → has (behind (scoped s ks) bd).scope y ≡ true
    has_behind (Past c j) s b ks y r m = m
    has_behind (One side) s b ks y r m = has_all (variables_of side) ks y m
    has_behind (Both fork l rt) s b ks y r m = has_all (variables_of rt) (with_variables (variables_of l) ks) y (has_all (variables_of l) ks y m)
    has_behind (Prim x g v w) s b ks y r m = or_right (x.0 == y.0) (has ks y) m
    has_behind (Reach x by) s b ks y r m = absurd (reaches_none core b s x by r.0)

    due_behind : (bd : Bind) (s : Setting) → (behind s bd).due ≡ s.due
    due_behind (Past c j) s = refl
    due_behind (One side) s = refl
    due_behind (Both fork l r) s = refl
    due_behind (Prim x g v w) s = refl
    due_behind (Reach y by) s = refl

    pub others_behinds : (bs : List Bind) (s : Setting) → (behind_all s bs).others ≡ s.others
    others_behinds [] s = refl
    others_behinds (bd ∷ bs) s = others_behinds bs (behind s bd) ∙ others_behind bd s

    due_behinds : (bs : List Bind) (s : Setting) → (behind_all s bs).due ≡ s.due
    due_behinds [] s = refl
    due_behinds (bd ∷ bs) s = due_behinds bs (behind s bd) ∙ due_behind bd s

    bind_ahead : {o : Bool} {bd bd' : Bind} {bs : List Bind} {fs : List Field} {cs : List Bind} {s : Setting} {b : Before} {ks : List Known} {b' : Before} {done : List Variable} {n : ℕ} {be : Before} → Pre o (bd ∷ bs) fs (bd' ∷ cs) s b ks b' done n be
        → bind_binders bd' ≡ bind_binders bd → Ahead s.scope b ks b' (bind_binders bd)
    bind_ahead {bd = bd} {bd' = bd'} {bs = bs} {cs = cs} p same = record {
      wider = p.wider;
      scoped = p.scoped;
      room = λ y. let q = occurs_append (bind_binders bd) (binders_all bs) y in let z = p.rooms y in omega arith;
      room' = λ y. let q = occurs_append (bind_binders bd') (binders_all cs) y in let z = p.room y in let f = ap (λ l. occurs l y) same in omega arith;
    }

    -- Behind a binding that was laid.
    pre_after : (o : Bool) (bd bd' : Bind) (bs : List Bind) (fs gs : List Field) (cs : List Bind) (s : Setting) (b : Before) (ks : List Known) (b' : Before) (done more : List Variable) (n m : ℕ) (be : Before) → Pre o (bd ∷ bs) fs (bd' ∷ cs) s b ks b' done n be
        → bind_binders bd' ≡ bind_binders bd → ((y : ℕ) → times (variables gs) y ≤ times (variables fs) y) → FieldsOk (behind_all s (bd ∷ bs)) be m gs → m ≡ length more → m + length gs ≡ length (packed_types core.table k)
        → Stand (behind_all s (bd ∷ bs)) be (behind (scoped s ks) bd).scope more → Closed o more
        → Pre o bs gs cs (behind s bd) (next_all core.table b (met_bind core.table s bd)) (behind (scoped s ks) bd).scope (next_all core.table b' (met_bind core.table (scoped s ks) bd)) more m be
    pre_after o bd bd' bs fs gs cs s b ks b' done more n m be p same fewer fields count size stand closed =
        let rs = reachable_split core b (met_bind core.table s bd) (met_all core.table (behind s bd) bs) p.lines in
        let ahead = ahead_behind core bd [] s b ks b' (ahead_less (bind_ahead p same) (λ y. let q = occurs_append (bind_binders bd) [] y in omega arith)) rs.0 in
        record {
          is = p.is ∙ next_append core.table b (met_bind core.table s bd) (met_all core.table (behind s bd) bs);
          empty = p.empty;
          wider = ahead.wider;
          scoped = ahead.scoped;
          rooms = λ y.
              let q = occurs_append (bind_binders bd) (binders_all bs) y in let z = p.rooms y in let e = (gains_bind core.table bd s b).counts y in let f = fewer y in omega arith;
          room = λ y.
              let q = occurs_append (bind_binders bd') (binders_all cs) y in let z = p.room y in let e = (gains_bind core.table bd (scoped s ks) b').counts y in let f = ap (λ l. occurs l y) same in omega arith;
          lines = rs.1;
          end = p.end;
          fields = fields;
          count = count;
          size = size;
          stand = stand;
          closed = closed;
        }

    -- The type of a region's variable at the end of the line.
    here_type : (x : Variable) (ty : Ty) (bound : List Bound) → type_bound (record { variable = x; ty = ty } ∷ bound) x ≡ Some ty
    here_type x ty bound = ap (λ c. if c then Some ty else type_bound bound x) (eq-eqb x.0 x.0 refl)

    region_type : (be : Before) (n : ℕ) (f : Field) (x : Variable) (ty : Ty) → has_type be f.target (due_at n) ≡ true → f.target ≡ a.Variable x → type_bound be.bound x ≡ Some ty → same_type ty (due_at n) ≡ true
    region_type be n f x ty typed e t = sym (ap (λ o. is_type o (due_at n)) (ap (type_of be) e ∙ t)) ∙ typed

    -- A side that is placed stands.
    placed_stands : (se : Setting) (be : Before) (ks ks' : List Known) (done : List Variable) (n : ℕ) (f : Field) (x : Variable) → once x ≡ true → f.target ≡ a.Variable x → FieldOk se be n f → ((y : Variable) → has ks y ≡ true → has ks' y ≡ true) → has ks' x ≡ true
        → Stand se be ks done → Stand se be ks' (done ++ x ∷ [])
    placed_stands se be ks ks' done n f x o e fo more there st =
        stand_too se be ks' done x there (sym (ap (is_other (all_reached se)) e) ∙ fo.other) (fo.target_uncased x o e) (stand_more se be ks ks' done more st)

    not_new : (b : Before) (x y : Variable) → 1 ≤ occurs (nums b.bound) y.0 → occurs (nums b.bound) x.0 ≡ 0 → (x.0 == y.0) ≡ false
    not_new b x y m n = false_from_ne_true (x.0 == y.0) (λ e. let p = ap (λ z. occurs (nums b.bound) z) (eqb-true x.0 y.0 e) in omega arith)

    type_new : (b b' : Before) (x : Atom) (v : Variable) (ty : Ty) → ((y : Variable) → x ≡ a.Variable y → 1 ≤ occurs (nums b.bound) y.0) → occurs (nums b.bound) v.0 ≡ 0 → type_of (record { bound = record { variable = v; ty = ty } ∷ b'.bound; cased = b'.cased }) x ≡ type_of b' x
    type_new b b' (a.Variable y) v ty old n = ap (λ c. if c then Some ty else type_bound b'.bound y) (not_new b v y (old y refl) n)
    type_new b b' (a.Whole z) v ty old n = refl
    type_new b b' (a.Truth t) v ty old n = refl

    is_old : (s : Setting) (b : Before) (bs : List Bind) (x : Atom) → Scoped s.scope b → R b (met_all core.table s bs) → is_usable (all_reached (behind_all s bs)) x ≡ true → is_one (bound_in bs) x ≡ false → (y : Variable) → x ≡ a.Variable y → 1 ≤ occurs (nums b.bound) y.0
    is_old s b bs x sc r u o y e =
        sc y (scopes_back bs s b y r (sym (reached_where_has (behind_all s bs).scope y) ∙ (sym (ap (is_usable (all_reached (behind_all s bs))) e) ∙ u)) (sym (ap (is_one (bound_in bs)) e) ∙ o))

    -- Types at the end of a line.
    side_type : (x : Variable) (ty : Ty) (t : Term) (s : Setting) (b : Before) → occurs (binders t) x.0 ≡ 0 → type_bound (next_all core.table b (met_side core.table s (On Region x ty t))).bound x ≡ Some ty
    side_type x ty t s b o = (gains_term core.table t (in_side core.table s Region ty) (next core.table b (SideLine Region x ty))).types x o ∙ here_type x ty b.bound

    bind_type : (bd : Bind) (x : Variable) (ty : Ty) (bs : List Bind) (s : Setting) (b be : Before) → be ≡ next_all core.table b (met_all core.table s (bd ∷ bs)) → occurs (binders_all bs) x.0 ≡ 0
        → type_bound (next_all core.table b (met_bind core.table s bd)).bound x ≡ Some ty → type_bound be.bound x ≡ Some ty
    bind_type bd x ty bs s b be e o h =
        ap (λ (z : Before). type_bound z.bound x) (e ∙ next_append core.table b (met_bind core.table s bd) (met_all core.table (behind s bd) bs))
        ∙ ((gains_run bs (behind s bd) (next_all core.table b (met_bind core.table s bd))).types x o ∙ h)

    one_type : (x : Variable) (ty : Ty) (t : Term) (bs : List Bind) (s : Setting) (b be : Before) → be ≡ next_all core.table b (met_all core.table s (One (On Region x ty t) ∷ bs)) → Room b ((x.0 ∷ binders t) ++ binders_all bs) → type_bound be.bound x ≡ Some ty
    one_type x ty t bs s b be e ro =
        let q = occurs_append (x.0 ∷ binders t) (binders_all bs) x.0 in let o = ro x.0 in let m = own_time x in
        bind_type (One (On Region x ty t)) x ty bs s b be e (omega arith) (side_type x ty t s b (omega arith))

    both_type_left : (fork : Bool) (x : Variable) (ty : Ty) (t : Term) (r : Side) (bs : List Bind) (s : Setting) (b be : Before) → be ≡ next_all core.table b (met_all core.table s (Both fork (On Region x ty t) r ∷ bs)) → Room b (((x.0 ∷ binders t) ++ side_binders r) ++ binders_all bs) → type_bound be.bound x ≡ Some ty
    both_type_left fork x ty t r bs s b be e ro =
        let L = met_side core.table (left_of s r) (On Region x ty t) in
        let q = occurs_append ((x.0 ∷ binders t) ++ side_binders r) (binders_all bs) x.0 in let q' = occurs_append (x.0 ∷ binders t) (side_binders r) x.0 in let o = ro x.0 in let m = own_time x in
        bind_type (Both fork (On Region x ty t) r) x ty bs s b be e (omega arith)
        (ap (λ (z : Before). type_bound z.bound x) (next_append core.table b L (met_side core.table (right_of s (On Region x ty t)) r))
        ∙ ((gains_side core.table r (right_of s (On Region x ty t)) (next_all core.table b L)).types x (omega arith) ∙ side_type x ty t (left_of s r) b (omega arith)))

    both_type_right : (fork : Bool) (l : Side) (x : Variable) (ty : Ty) (t : Term) (bs : List Bind) (s : Setting) (b be : Before) → be ≡ next_all core.table b (met_all core.table s (Both fork l (On Region x ty t) ∷ bs)) → Room b ((side_binders l ++ (x.0 ∷ binders t)) ++ binders_all bs) → type_bound be.bound x ≡ Some ty
    both_type_right fork l x ty t bs s b be e ro =
        let r = On Region x ty t in
        let L = met_side core.table (left_of s r) l in
        let q = occurs_append (side_binders l ++ (x.0 ∷ binders t)) (binders_all bs) x.0 in let q' = occurs_append (side_binders l) (x.0 ∷ binders t) x.0 in let o = ro x.0 in let m = own_time x in
        bind_type (Both fork l r) x ty bs s b be e (omega arith)
        (ap (λ (z : Before). type_bound z.bound x) (next_append core.table b L (met_side core.table (right_of s l) r)) ∙ side_type x ty t (right_of s l) (next_all core.table b L) (omega arith))

    line_room : (o : Bool) (bs : List Bind) (fs : List Field) (b : Before) → ((y : ℕ) → occurs (nums b.bound) y + (occurs (binders_all bs) y + (times (variables fs) y + occurs (heads_left o) y)) ≤ 1) → Room b (binders_all bs)
    line_room o bs fs b ro y = let z = ro y in omega arith

    same_due : (n m : ℕ) (ty : Ty) → n ≡ m → same_type ty (due_at n) ≡ true → same_type ty (due_at m) ≡ true
    same_due n m ty e h = sym (ap (λ i. same_type ty (due_at i)) e) ∙ h

    here_has : (x : Variable) (ks : List Known) → (x.0 == x.0 || has ks x) ≡ true
    here_has x ks = or_left (x.0 == x.0) (has ks x) (eq-eqb x.0 x.0 refl)

    left_has : (fork : Bool) (x : Variable) (ty : Ty) (t : Term) (r : Side) (s : Setting) (ks : List Known) → has (behind (scoped s ks) (Both fork (On Region x ty t) r)).scope x ≡ true
    left_has fork x ty t r s ks = has_all (variables_of r) (reached x ∷ ks) x (here_has x ks)

    right_has : (fork : Bool) (l : Side) (z : Variable) (uy : Ty) (u : Term) (s : Setting) (ks : List Known) → has (behind (scoped s ks) (Both fork l (On Region z uy u))).scope z ≡ true
    right_has fork l z uy u s ks = here_has z (with_variables (variables_of l) ks)

    -- A binding one of whose sides takes the place of the next field: what follows goes on behind it.
    one_more : (bd bd' : Bind) (x : Variable) (ty : Ty) {bs : List Bind} {f : Field} {fs : List Field} {cs : List Bind} → once x ≡ true → f.target ≡ a.Variable x → bind_binders bd' ≡ bind_binders bd
        → (s : Setting) (b : Before) (ks : List Known) (b' : Before) (w : Bool) (done all : List Variable) (n : ℕ) (be : Before) → Pre true (bd ∷ bs) (f ∷ fs) (bd' ∷ cs) s b ks b' done n be → is_empty s.destination ≡ true
        → type_bound be.bound x ≡ Some ty → has (behind (scoped s ks) bd).scope x ≡ true
        → (length done < length (packed_types core.table k) → same_type ty (due_at (length done)) ≡ true → R b (met_bind core.table s bd) → BindNew s ks b' (Open h k done) (Open h k (done ++ x ∷ [])) w bd bd')
        → ((s1 : Setting) (b1 : Before) (ks1 : List Known) (c1 : Before) (n1 : ℕ) → Pre true bs fs cs s1 b1 ks1 c1 (done ++ x ∷ []) n1 be → R c1 (met core.table (opened s1 (Open h k (done ++ x ∷ [])) ks1 false) (prepend cs (Write hw kw ss (as_atoms all)))))
        → R b' (met core.table (opened s (Open h k done) ks w) (prepend (bd' ∷ cs) (Write hw kw ss (as_atoms all))))
    one_more bd bd' x ty {bs} {f} {fs} {cs} u g like s b ks b' w done all n be p empty type_x there new further =
        let rs = reachable_split core b (met_bind core.table s bd) (met_all core.table (behind s bd) bs) p.lines in
        let fo = p.fields.0 in
        let same = same_due n (length done) ty p.count (region_type be n f x ty fo.typed g type_x) in
        let less : length done < length (packed_types core.table k) = let i = p.count in let j = p.size in omega arith in
        let ks1 = (behind (scoped s ks) bd).scope in
        go_on s b ks b' (Open h k done) (Open h k (done ++ x ∷ [])) w bd bd' (prepend cs (Write hw kw ss (as_atoms all))) (new less same rs.0)
        (further (behind s bd) (next_all core.table b (met_bind core.table s bd)) ks1 (next_all core.table b' (met_bind core.table (scoped s ks) bd)) (suc n)
        (pre_after true bd bd' bs (f ∷ fs) fs cs s b ks b' done (done ++ x ∷ []) n (suc n) be p like (λ y. omega arith) p.fields.1 (ap suc p.count ∙ sym (length_one done x)) (let i = p.size in omega arith)
        (placed_stands (behind_all s (bd ∷ bs)) be ks ks1 done n f x u g fo (λ y m. has_behind bd s b ks y rs.0 m) there p.stand) tt))

    pub lays_reach : {o : Bool} {bs : List Bind} {fs : List Field} {cs : List Bind} {xs : List Variable} → Lays once (Past h k) o bs fs cs xs
        → (s : Setting) (b : Before) (ks : List Known) (b' : Before) (w : Bool) (done all : List Variable) (n : ℕ) (be : Before) → Pre o bs fs cs s b ks b' done n be → all ≡ done ++ xs
        → R b' (met core.table (opened s (place_of o done) ks w) (prepend cs (Write hw kw ss (as_atoms all))))
    lays_reach ends s b ks b' w done all n be p e =
        let z = e ∙ append-nil done in
        let size : length done ≡ length (packed_types core.table k) = let i = p.count in let j = p.size in omega arith in
        subst (λ (l : List Variable). R b' (met core.table (opened s (Open h k done) ks w) (Write hw kw ss (as_atoms l)))) (sym z)
        (written s b ks b' done w p.wider (subst (λ (c : Before). EndOk s c) p.is p.end) size (subst (λ (c : Before). Stand s c ks done) p.is p.stand))
    lays_reach (opens {bs = bs} {fs = fs} {cs = cs} {xs = xs} l) s b ks b' w done all n be p e =
        let line = PastLine h k in
        let so = opened s Empty ks w in
        let fresh : is_bound b'.bound h ≡ false = new_there b'.bound h (let q = p.room h.0 in let m = own_time h in omega arith) in
        let made : is_of_type core.table k s.due ≡ true = sym (ap (λ d. is_of_type core.table k d) (due_behinds bs s)) ∙ p.end.made in (
          least_none (rules core b' (all_reached so) line) (ap not made, (fresh, tt)),
          lays_reach l s b ks (next core.table b' line) false [] all n be (record {
            is = p.is;
            empty = p.empty;
            wider = record {
              scope = p.wider.scope;
              types = λ y m.
                  let q = p.rooms h.0 in let r = p.scoped y m in let o = own_time h in
                  ap (λ c. if c then Some (type_made core.table k) else type_bound b'.bound y) (not_new b h y r (omega arith)) ∙ p.wider.types y m;
              cased = p.wider.cased;
            };
            scoped = p.scoped;
            rooms = λ y. let q = p.rooms y in omega arith;
            room = λ y. let q = p.room y in omega arith;
            lines = p.lines;
            end = p.end;
            fields = p.fields;
            count = p.count ∙ ap length p.closed;
            size = p.size;
            stand = subst (λ (d : List Variable). Stand (behind_all s bs) be ks d) p.closed p.stand;
            closed = tt;
          }) (e ∙ ap (λ d. d ++ xs) p.closed),
        )
    lays_reach (puts {bs = bs} {f = f} {fs = fs} {cs = cs} {xs = xs} late l) s b ks b' w done all n be p e =
        let fo = p.fields.0 in
        let v = f.variable in
        let so = opened s (Open h k done) ks w in
        let line = SideLine Here v f.ty in
        let bf = next core.table b' line in
        let si = in_side core.table so Here f.ty in
        let se = behind_all s bs in
        let room_b = line_room true bs (f ∷ fs) b p.rooms in
        let pt = pointed s b ks b' bs f.target p.wider p.scoped room_b p.lines fo.usable late in
        let new_f : occurs (nums b.bound) v.0 ≡ 0 = let q = p.rooms v.0 in let m = own_time v in omega arith in
        let fresh : is_bound b'.bound v ≡ false = new_there b'.bound v (let q = p.room v.0 in let m = own_time v in omega arith) in
        let less : length done < length (packed_types core.table k) = let i = p.count in let j = p.size in omega arith in
        let old = is_old s b bs f.target p.scoped p.lines fo.usable late in
        let typed : has_type bf f.target (due_at (length done)) ≡ true =
        ap (λ o. is_type o (due_at (length done))) (type_new b b' f.target v f.ty old new_f ∙ (pt.1 ∙ ap (λ (z : Before). type_of z f.target) (sym p.is)))
        ∙ (ap (λ i. has_type be f.target (due_at i)) (sym p.count) ∙ fo.typed) in (
          least_none (rules core b' (all_reached so) line) (ap not (lt-ltb (length done) (length (packed_types core.table k)) less), (fresh, (ap not (same_due n (length done) f.ty p.count fo.due), tt))),
          (
            least_none (rules core bf (all_reached si) (PointLine f.target)) (
              other_eq (all_reached si) (all_reached se) f.target (sym (others_behinds bs s)) ∙ fo.other,
              (refl, (ap not (usable_eq (all_reached si) (all_reached (scoped s ks)) f.target refl ∙ pt.0), (ap not typed, tt))),
            ),
            lays_reach l s b (reached v ∷ ks) bf false (done ++ v ∷ []) all (suc n) be (record {
              is = p.is;
              empty = p.empty;
              wider = record {
                scope = λ y m. or_right (v.0 == y.0) (has ks y) (p.wider.scope y m);
                types = λ y m. ap (λ c. if c then Some f.ty else type_bound b'.bound y) (not_new b v y (p.scoped y m) new_f) ∙ p.wider.types y m;
                cased = p.wider.cased;
              };
              scoped = p.scoped;
              rooms = λ y. let q = p.rooms y in omega arith;
              room = λ y. let q = p.room y in omega arith;
              lines = p.lines;
              end = p.end;
              fields = p.fields.1;
              count = ap suc p.count ∙ sym (length_one done v);
              size = let i = p.size in omega arith;
              stand = stand_too se be (reached v ∷ ks) done v (here_has v ks) fo.mine fo.uncased (stand_more se be ks (reached v ∷ ks) done (λ y m. or_right (v.0 == y.0) (has ks y) m) p.stand);
              closed = tt;
            }) (e ∙ shift_one done v xs),
          ),
        )
    lays_reach (stays {o = o} {b = bd} {bs = bs} {fs = fs} {cs = cs} {xs = xs} l) s b ks b' w done all n be p e =
        let ks1 = (behind (scoped s ks) bd).scope in
        let rs = reachable_split core b (met_bind core.table s bd) (met_all core.table (behind s bd) bs) p.lines in
        let d = place_of o done in
        go_on s b ks b' d d w bd bd (prepend cs (Write hw kw ss (as_atoms all)))
        (bind_stays bd s b ks b' d w (all_empty (bd ∷ bs) s p.empty) (all_empty bs (behind s bd) p.empty) (bind_ahead p refl) rs.0)
        (lays_reach l (behind s bd) (next_all core.table b (met_bind core.table s bd)) ks1 (next_all core.table b' (met_bind core.table (scoped s ks) bd)) false done all n be
        (pre_after o bd bd bs fs fs cs s b ks b' done done n n be p refl (λ y. omega arith) p.fields p.count p.size (stand_more (behind_all s (bd ∷ bs)) be ks ks1 done (λ y m. has_behind bd s b ks y rs.0 m) p.stand) p.closed) e)
    lays_reach (one {x = x} {ty = ty} {t = t} {bs = bs} {f = f} {fs = fs} {cs = cs} {xs = xs} u g l) s b ks b' w done all n be p e =
        let bd : Bind = One (On Region x ty t) in
        one_more bd (One (On Here x ty t)) x ty u g refl s b ks b' w done all n be p (all_empty (bd ∷ bs) s p.empty) (one_type x ty t bs s b be p.is (line_room true (bd ∷ bs) (f ∷ fs) b p.rooms)) (here_has x ks)
        (λ less same r. one_step (takes less same) s b ks b' w (all_empty (bd ∷ bs) s p.empty) (bind_ahead p refl) r)
        (λ s1 b1 ks1 c1 n1 pre. lays_reach l s1 b1 ks1 c1 false (done ++ x ∷ []) all n1 be pre (e ∙ shift_one done x xs))
    lays_reach (left {fork = fork} {x = x} {ty = ty} {t = t} {r = r} {bs = bs} {f = f} {fs = fs} {cs = cs} {xs = xs} u g l) s b ks b' w done all n be p e =
        let bd : Bind = Both fork (On Region x ty t) r in
        one_more bd (Both fork (On Here x ty t) r) x ty u g refl s b ks b' w done all n be p (all_empty (bd ∷ bs) s p.empty) (both_type_left fork x ty t r bs s b be p.is (line_room true (bd ∷ bs) (f ∷ fs) b p.rooms)) (left_has fork x ty t r s ks)
        (λ less same h. both_step fork (On Region x ty t) (On Here x ty t) r r (takes less same) keeps s b ks b' w (all_empty (bd ∷ bs) s p.empty) (bind_ahead p refl) h)
        (λ s1 b1 ks1 c1 n1 pre. lays_reach l s1 b1 ks1 c1 false (done ++ x ∷ []) all n1 be pre (e ∙ shift_one done x xs))
    lays_reach (right {fork = fork} {l = sl} {y = x} {uy = ty} {u = t} {bs = bs} {f = f} {fs = fs} {cs = cs} {xs = xs} u g l) s b ks b' w done all n be p e =
        let bd : Bind = Both fork sl (On Region x ty t) in
        one_more bd (Both fork sl (On Here x ty t)) x ty u g refl s b ks b' w done all n be p (all_empty (bd ∷ bs) s p.empty) (both_type_right fork sl x ty t bs s b be p.is (line_room true (bd ∷ bs) (f ∷ fs) b p.rooms)) (right_has fork sl x ty t s ks)
        (λ less same h. both_step fork sl sl (On Region x ty t) (On Here x ty t) keeps (takes less same) s b ks b' w (all_empty (bd ∷ bs) s p.empty) (bind_ahead p refl) h)
        (λ s1 b1 ks1 c1 n1 pre. lays_reach l s1 b1 ks1 c1 false (done ++ x ∷ []) all n1 be pre (e ∙ shift_one done x xs))
    lays_reach (both {fork = fork} {x = x} {ty = ty} {t = t} {y = z} {uy = uy} {u = v} {bs = bs} {f = f} {g = f'} {fs = fs} {cs = cs} {xs = xs} u g u' g' l) s b ks b' w done all n be p e =
        let bd : Bind = Both fork (On Region x ty t) (On Region z uy v) in
        let bd' : Bind = Both fork (On Here x ty t) (On Here z uy v) in
        let ks1 = (behind (scoped s ks) bd).scope in
        let rs = reachable_split core b (met_bind core.table s bd) (met_all core.table (behind s bd) bs) p.lines in
        let fo = p.fields.0 in
        let fo' = p.fields.1.0 in
        let ro = line_room true (bd ∷ bs) (f ∷ f' ∷ fs) b p.rooms in
        let same = same_due n (length done) ty p.count (region_type be n f x ty fo.typed g (both_type_left fork x ty t (On Region z uy v) bs s b be p.is ro)) in
        let same' = same_due (suc n) (length (done ++ x ∷ [])) uy (ap suc p.count ∙ sym (length_one done x)) (region_type be (suc n) f' z uy fo'.typed g' (both_type_right fork (On Region x ty t) z uy v bs s b be p.is ro)) in
        let less : suc (length done) < length (packed_types core.table k) = let i = p.count in let j = p.size in omega arith in
        go_on s b ks b' (Open h k done) (Open h k ((done ++ x ∷ []) ++ z ∷ [])) w bd bd' (prepend cs (Write hw kw ss (as_atoms all)))
        (both_step fork (On Region x ty t) (On Here x ty t) (On Region z uy v) (On Here z uy v) (takes (omega arith) same) (takes (let e = length_one done x in omega arith) same') s b ks b' w (all_empty (bd ∷ bs) s p.empty) (bind_ahead p refl) rs.0)
        (lays_reach l (behind s bd) (next_all core.table b (met_bind core.table s bd)) ks1 (next_all core.table b' (met_bind core.table (scoped s ks) bd)) false ((done ++ x ∷ []) ++ z ∷ []) all (suc (suc n)) be
        (pre_after true bd bd' bs (f ∷ f' ∷ fs) fs cs s b ks b' done ((done ++ x ∷ []) ++ z ∷ []) n (suc (suc n)) be p refl (λ y. omega arith) p.fields.1.1
        (ap suc (ap suc p.count ∙ sym (length_one done x)) ∙ sym (length_one (done ++ x ∷ []) z)) (let i = p.size in omega arith)
        (placed_stands (behind_all s (bd ∷ bs)) be ks1 ks1 (done ++ x ∷ []) (suc n) f' z u' g' fo' (λ y m. m) (here_has z (reached x ∷ ks))
        (placed_stands (behind_all s (bd ∷ bs)) be ks ks1 done n f x u g fo (λ y m. has_behind bd s b ks y rs.0 m) (or_right (z.0 == x.0) (x.0 == x.0 || has ks x) (here_has x ks)) p.stand)) tt)
        (e ∙ (shift_one done x (z ∷ xs) ∙ shift_one (done ++ x ∷ []) z xs)))
