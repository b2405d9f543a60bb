-- What the build rules say of reaching, of heres, and of sides, for the proof that a term fits.
use Rattle.std.proofs.Common.{◌≡◌, ℕ, suc, ◌<◌, ◌≤◌, arith, ◌==◌, Bool, true, false, ◌||◌, ◌&&◌, not, if◌then◌else◌, List, [], ◌∷◌, ◌++◌, map, length, Option, Some, None, refl, sym, ap, ◌∙◌, subst}
use Rattle.std.proofs.lemmas.Bool.{eqb-true, ltb-true, not-true, or_left, or_right, not-false, both_ways, and_parts, and_from}
use Rattle.gib_types.specs.declared.table.Ty.{Ty}
use Rattle.gib_types.specs.declared.table.Ty.TheVariants.{Whole, Truth, Tree}
use Rattle.gib_types.specs.declared.table.TyId.{TyId}
use Rattle.gib_types.specs.declared.table.ConId.{ConId}
use Rattle.gib_types.specs.Table.{fields_at, tree_types}
use Rattle.gib_syntax.specs.Results as results
use Rattle.gib_syntax.specs.Results.{AreSeveral}
use Rattle.std.specs.List.{AllByRecursion}
use Rattle.gib_types.specs.Layout.{is_among as is_number_among, numbers_of}
use Rattle.gib_types.specs.declared.operator.Operator.{Operator}
use Rattle.gib_types.specs.declared.operator.Operator.TheVariants as o
use Rattle.gib_syntax.specs.Meaning.{is_scalar}
use Rattle.gib_types.specs.Operators.{operator_type}
use Rattle.gib_core.specs.declared.atom.Variable.{Variable}
use Rattle.gib_core.specs.declared.atom.Atom.{Atom}
use Rattle.gib_core.specs.declared.atom.Atom.TheVariants as a
use Rattle.gib_core.specs.declared.atom.Kind.TheVariants.{Scalar}
use Rattle.gib_core.specs.declared.atom.Access.{Access}
use Rattle.gib_core.specs.declared.scope.Bound.{Bound as BoundVariable}
use Rattle.gib_core.specs.declared.scope.Behind.{Behind}
use Rattle.gib_core.specs.declared.scope.Known.{Known}
use Rattle.gib_core.specs.Tree.{Term, One, Both, Side, On, Several, variables_of, CoreTree}
use Rattle.gib_core.specs.Numbering.{side_binders}
use Rattle.gib_core.specs.Met.{Destination, Nowhere, Empty, Open, InParts, Setting, SideLine, ReachLine, SeveralLine, known, reached, field_due, packed_types, with_field, with_variables, in_side, behind, left_of, right_of, met, met_side, reached_too}
use Rattle.gib_core.specs.Rules.{Before, is_among, is_bound, type_bound, rules, least, next, next_all, LinesAreBuilt, has_room, same_type, is_usable, has_type, may_reach, by_access, is_one_of, is_reached, any_bound, are_several, have_types, is_type}
use Rattle.gib_core.specs.Fits as f
use Rattle.gib_core.specs.Fits.{Sort, Placed, Field, Scope, put, tree_type, loosen, cased, Dest, packed_due, more, IsDue, CallFits, by_call, Line, Needs, Inner, new_line, tell_line, side_tells, AreNew, AreApart, hold_all, Fits, SideFits, AloneFits}
use Rattle.gib_core.specs.Ending.{Within}
use Rattle.gib_core.proofs.Owing.{BindsSome}
use Rattle.gib_core.proofs.Facts.{least2, same_type_is, is_type_is, itself, Test, holds, fails, test}
use Rattle.gib_core.proofs.Later.{Later, HaveTypes, fields_typed, later_on, fresh_arms, line_later, lines_later, its_type, typed_bound}
use Rattle.gib_core.specs.Reaching.{side_uses}
use Rattle.gib_core.proofs.Unused.{side_unused, cased_before}
use Rattle.gib_core.proofs.Vars.{named, Tracked, Behinds, IsKnown, Vars, vars_on, put_there, put_elsewhere, IsUsable, vars_over}
use Rattle.gib_core.proofs.Dests.{IsDest, Keeps, dest_kept, here_due, next_of, stand_too, tracked_as, stand_kept}
use Rattle.gib_core.proofs.Entering.{AllBelow, fresh_new}
use Rattle.gib_core.proofs.Severals.{tracked_on, vars_all, hold_vars}
use Rattle.gib_core.proofs.Fitted.{SideDone, side_types, bind_sort, scalar_own}
use Rattle.gib_core.proofs.Along.{among_append}
use Rattle.gib_core.proofs.Orders.{known_name, several_facts}

one_by : (same q r : Bool) → (q ≡ true → r ≡ true) → same || q ≡ true → (if same then true else r) ≡ true
one_by true q r f e = refl
one_by false q r f e = f e

-- Reaching a field.

-- What reaching needs of a field that stands behind another.
pub record ReachFacts (core : CoreTree) (b : Before) (s : Setting) (y : Variable) (by : Access) : Type 0 where
  pub unreached : Known
  pub found : known s.scope y ≡ Some unreached
  pub not_yet : unreached.reached ≡ false
  pub access : by_access core b s unreached.behind by ≡ true

reach_if : (core : CoreTree) (b : Before) (s : Setting) (y : Variable) (by : Access) (o : Option Known) → known s.scope y ≡ o → may_reach core b s o by ≡ true → ReachFacts core b s y by
reach_if core b s y by None e h = absurd cc
reach_if core b s y by (Some k) e h =
    let p = and_parts (not k.reached) (by_access core b s k.behind by) h in
    record { unreached = k; found = e; not_yet = not-true k.reached p.0; access = p.1 }

pub reach_facts : (core : CoreTree) (b : Before) (s : Setting) (y : Variable) (by : Access) → least (rules core b s (ReachLine y by)) ≡ None → ReachFacts core b s y by
reach_facts core b s y by e =
    let h = least2 4 8 (is_among s.others y) (not (may_reach core b s (known s.scope y) by)) e in
    reach_if core b s y by (known s.scope y) refl (not-false (may_reach core b s (known s.scope y) by) h.1)

pub behind_of : (b : Before) (sc : Scope) (y : ℕ) (r : Bool) (o : Option Behind) → r ≡ false → IsKnown b sc y r o → (f : Behind) × (o ≡ Some f) × Behinds b sc y f
behind_of b sc y true o e k = absurd cc
behind_of b sc y false None e k = absurd k
behind_of b sc y false (Some f) e k = (f, refl, k)

pub one_of : (core : CoreTree) (k : ConId) (ks : List ConId) → is_one_of ks k ≡ true → is_number_among (numbers_of ks) k.0 ≡ true
one_of core k [] e = absurd cc
one_of core k (j ∷ ks) e = one_by (j.0 == k.0) (is_one_of ks k) (is_number_among (numbers_of ks) k.0) (one_of core k ks) e

reached_by : (c : Before) (tc : Scope) (y : ℕ) (r : Bool) (o : Option Behind) → r ≡ true → (ty : Ty) × Tracked c tc y ty → IsKnown c tc y r o
reached_by c tc y true o e own = own
reached_by c tc y false o e own = absurd cc

field_unusable : (cs : List Variable) (y : ℕ) (i : Sort) (ty : Ty) (t z tree k p : ℕ) → i ≡ Field t z tree k p → IsUsable cs y i ty → ⊥
field_unusable cs y i Whole t z tree k p e u = (let h : Field t z tree k p ≡ f.Scalar Whole = sym e ∙ u in absurd cc)
field_unusable cs y i Truth t z tree k p e u = (let h : Field t z tree k p ≡ f.Scalar Truth = sym e ∙ u in absurd cc)
field_unusable cs y i (Tree ty) t z tree k p e u = (let h : None ≡ Some ty.0 = ap tree_type (sym e) ∙ u.0 in absurd cc)

tracked_elsewhere : (b : Before) (sc : Scope) (x y : ℕ) (i : Sort) (ty : Ty) → y == x ≡ false → Tracked b sc y ty → Tracked b (put sc x i) y ty
tracked_elsewhere b sc x y i ty ne k = record { typed = k.typed; usable = subst (λ j. IsUsable b.cased y j ty) (sym (put_elsewhere sc x y i ne)) k.usable }

-- The field is at its place from here on.
pub field_reached : (n : ℕ) (b : Before) (ks : List Known) (sc : Scope) (k : Known) (y : Variable) (t : TyId) → known ks y ≡ Some k → type_bound b.bound y ≡ Some (Tree t) → Vars n b ks sc
    → Vars n b (record k { reached = true } ∷ ks) (put sc y.0 (Placed t.0))
field_reached n b ks sc k y t e typed v =
    let name = known_name ks y k e in
    let there = put_there sc y.0 (Placed t.0) in
    let own : Tracked b (put sc y.0 (Placed t.0)) y.0 (Tree t) = record { typed = typed; usable = (ap tree_type there, λ ne. there) } in
    let P : ℕ → Type 0 = λ m. Vars n b (record k { reached = true } ∷ ks) (put sc m (Placed t.0)) in
    let Q : ℕ → Type 0 = λ m. Tracked b (put sc m (Placed t.0)) m (Tree t) in
    subst P name (vars_over n b ks sc (record k { reached = true }) (Placed t.0) (Tree t, subst Q (sym name) own) v)

-- What is tracked is no field that is to be reached.
tracked_field : (b : Before) (sc : Scope) (x y : ℕ) (t z tree k p : ℕ) (ty : Ty) → sc x ≡ Field t z tree k p → Tracked b sc y ty → Test (y == x) → y == x ≡ false
tracked_field b sc x y t z tree k p ty e h (fails ne) = ne
tracked_field b sc x y t z tree k p ty e h (holds eq) = absurd (field_unusable b.cased y (sc y) ty t z tree k p (ap sc (eqb-true y x eq) ∙ e) h.usable)

pub keep_reached : (b : Before) (sc : Scope) (x : ℕ) (t z tree k p : ℕ) (i : Sort) → sc x ≡ Field t z tree k p → Keeps b sc b (put sc x i)
keep_reached b sc x t z tree k p i e = λ y ty h. tracked_elsewhere b sc x y i ty (tracked_field b sc x y t z tree k p ty e h (test (y == x))) h

-- The operators' types are scalars.
pub operator_scalar : (g : Operator) → is_scalar (operator_type g) ≡ true
operator_scalar o.Add = refl
operator_scalar o.Subtract = refl
operator_scalar o.Multiply = refl
operator_scalar o.Equal = refl
operator_scalar o.Less = refl
operator_scalar o.Quotient = refl
operator_scalar o.Remainder = refl

-- What a here at an open head needs.
pub record HereFacts (core : CoreTree) (b : Before) (s : Setting) (sc : Scope) (x : Variable) (ty : Ty) (d : Dest) : Type 0 where
  pub tree : TyId
  pub typed : ty ≡ Tree tree
  pub due : field_due core.table s.destination ≡ Tree tree
  pub is : IsDue d tree.0
  pub after : (c : Before) (tc : Scope) → Keeps b sc c tc → Tracked c tc x.0 (Tree tree) → IsDest core.table c tc (with_field x s.destination) s.due (more d x.0)

pub here_facts : (core : CoreTree) (b : Before) (s : Setting) (sc : Scope) (x : Variable) (ty : Ty) (d : Dest) (e : Destination) → e ≡ s.destination → has_room core.table e ≡ true → same_type ty (field_due core.table e) ≡ true
    → IsDest core.table b sc e s.due d → HereFacts core b s sc x ty d
here_facts core b s sc x ty d Nowhere e r t i = absurd cc
here_facts core b s sc x ty d Empty e r t i = absurd cc
here_facts core b s sc x ty d (InParts tys) e r t i = absurd cc
here_facts core b s sc x ty d (Open h k standing) e r t i =
    let next = here_due core.table b sc h k standing i.0.0 d x i.2 (ltb-true (length standing) (length (packed_types core.table k)) r) in
    let typed = same_type_is ty (field_due core.table (Open h k standing)) t in
    let P : Destination → Type 0 = λ e'. HereFacts core b (record s { destination = e' }) sc x ty d in
    subst P e (record {
      tree = next.ty;
      typed = typed ∙ next.due;
      due = next.due;
      is = next.is;
      after = λ c tc keep own. (i.0, i.1, record { dest = next.after; stand = stand_too c tc standing x next.ty (stand_kept b c sc tc standing keep i.2.stand) own });
    })

-- Terms.

-- What comes after a binding: the rest of its line; after a left side, the right one comes before that.
pub data After : Type 0 where
  AfterBind : Needs → Term → After
  AfterLeft : (Line → Within) → Side → After → After

abbrev pub goes : CoreTree → After → Scope → Dest → Line → Type 0
goes core (AfterBind ns t) sc d ln = Fits core ns t sc d ln
goes core (AfterLeft v r go) sc d ln = SideFits core (v ln) r sc d ln (goes core go)

-- What a side leaves, by itself, before the right side, and behind both.
pub one_left : (core : CoreTree) (n : ℕ) (b : Before) (s : Setting) (side : Side) (sc : Scope) (c : Before) (tc : Scope) (d : Dest) → SideDone core n b s side sc c tc d
    → Vars n c (behind s (One side)).scope tc × IsDest core.table c tc (behind s (One side)).destination (behind s (One side)).due d
one_left core n b s side sc c tc d dn = (vars_all n c s.scope tc (variables_of side) (side_types side) dn.own dn.vars, dn.dest)

pub right_start : (core : CoreTree) (n : ℕ) (b : Before) (s : Setting) (l r : Side) (sc : Scope) (c : Before) (tc : Scope) (d : Dest) → SideDone core n b (left_of s r) l sc c tc d
    → Vars n c (right_of s l).scope tc × IsDest core.table c tc (right_of s l).destination (right_of s l).due d
right_start core n b s l r sc c tc d dl = (dl.vars, dl.dest)

pub both_left : (core : CoreTree) (n : ℕ) (b : Before) (s : Setting) (marked : Bool) (l r : Side) (sc : Scope) (m : Before) (tc : Scope) (d : Dest) (z : Before) (uc : Scope) (e : Dest)
    → SideDone core n b (left_of s r) l sc m tc d → SideDone core n m (right_of s l) r tc z uc e
    → Vars n z (behind s (Both marked l r)).scope uc × IsDest core.table z uc (behind s (Both marked l r)).destination (behind s (Both marked l r)).due e
both_left core n b s marked l r sc m tc d z uc e dl dr = (
  vars_all n z (with_variables (variables_of l) s.scope) uc (variables_of r) (side_types r) dr.own
      (vars_all n z s.scope uc (variables_of l) (side_types l) (tracked_on m z tc uc (variables_of l) (side_types l) dr.keep dl.own) dr.vars),
  dr.dest,
)

-- The right side uses no variable of the left one.
pub side_apart : (core : CoreTree) (l r : Side) (m : Before) (s : Setting) → LinesAreBuilt core m (met_side core.table (right_of s l) r) → AreApart l r
side_apart core (On kind x ty t) r m s h = side_unused core r m (right_of s (On kind x ty t)) x (or_left (x.0 == x.0) (is_among s.others x) (itself x.0)) h
side_apart core (Several xs tys t) r m s h = each xs (λ y i. among_append xs s.others y ∙ or_left (is_among xs y) (is_among s.others y) i)
  where
    each : (ys : List Variable) → ((y : Variable) → is_among ys y ≡ true → is_among (xs ++ s.others) y ≡ true) → AllByRecursion (λ (x : Variable). side_uses r x ≡ false) ys
    each [] f = tt
    each (y ∷ ys) f =
        (side_unused core r m (right_of s (Several xs tys t)) y (f y (or_left (y.0 == y.0) (is_among ys y) (itself y.0))) h, each ys (λ z i. f z (or_right (y.0 == z.0) (is_among ys z) i)))

-- A side binds some variable.
pub side_some : (core : CoreTree) (x : Side) (b : Before) (s : Setting) → LinesAreBuilt core b (met_side core.table s x) → BindsSome x
side_some core (On kind x ty t) b s h = λ e. absurd cc
side_some core (Several xs tys t) b s h = none (several_facts xs tys (not-false (are_several xs tys) (least2 8 11 (any_bound xs [] b.bound) (not (are_several xs tys)) h.0).1)).0
  where
    none : AreSeveral xs → xs ≡ [] → ⊥
    none several e = subst AreSeveral e several

-- Atoms have their types later on.
pub later_typed : (b c : Before) (xs : List Atom) (ts : List Ty) → Later b c → have_types b xs ts ≡ true → have_types c xs ts ≡ true
later_typed b c [] [] l e = refl
later_typed b c [] (t ∷ ts) l e = absurd cc
later_typed b c (x ∷ xs) [] l e = absurd cc
later_typed b c (x ∷ xs) (t ∷ ts) l e =
    let p = and_parts (has_type b x t) (have_types b xs ts) e in
    and_from (has_type c x t) (have_types c xs ts) (one x p.0) (later_typed b c xs ts l p.1)
  where
    one : (y : Atom) → has_type b y t ≡ true → has_type c y t ≡ true
    one (a.Variable y) h = let q = is_type_is (type_bound b.bound y) t h in ap (λ w. is_type w t) (l.bound.types y t q ∙ sym q) ∙ h
    one (a.Whole z) h = h
    one (a.Truth z) h = h

-- Where several variables are bound: they are new, and their values are being made.
pub record SeveralStart (core : CoreTree) (n : ℕ) (b : Before) (s : Setting) (sc : Scope) (xs : List Variable) (tys : List Ty) : Type 0 where
  pub few : AreSeveral tys × (length tys ≤ 8)
  pub new : AreNew sc tys xs
  pub types : HaveTypes xs tys (next core.table b (SeveralLine xs tys)).bound
  pub held : Vars n (next core.table b (SeveralLine xs tys)) s.scope (hold_all xs sc)

-- There are as many types.
as_many : (xs : List Variable) (tys : List Ty) → AreSeveral xs → length xs ≡ length tys → AreSeveral tys
as_many [] tys h e = absurd h
as_many (x ∷ []) tys h e = absurd h
as_many (x ∷ y ∷ xs) [] h e = absurd (omega (arith, e))
as_many (x ∷ y ∷ xs) (t ∷ []) h e = absurd (omega (arith, e))
as_many (x ∷ y ∷ xs) (t ∷ u ∷ tys) h e = tt

pub several_start : (core : CoreTree) (n : ℕ) (b : Before) (s other : Setting) (sc : Scope) (xs : List Variable) (tys : List Ty) → AllBelow n (map (λ (x : Variable). x.0) xs) → Vars n b s.scope sc
    → least (rules core b other (SeveralLine xs tys)) ≡ None → SeveralStart core n b s sc xs tys
several_start core n b s other sc xs tys below v e =
    let r = least2 8 11 (any_bound xs [] b.bound) (not (are_several xs tys)) e in
    let facts = several_facts xs tys (not-false (are_several xs tys) r.1) in
    let fresh = fresh_arms xs b.bound r.0 in
    let m = next core.table b (SeveralLine xs tys) in
    let new = fresh_new n tys xs sc (is_bound b.bound) fresh (λ z no lt. v.new z no lt) below (sym facts.1) in
    let types = fields_typed xs tys b.bound fresh in
    record { few = (as_many xs tys facts.0 facts.1, facts.2); new = new; types = types; held = hold_vars n m s.scope tys xs sc new types (vars_on n b m s.scope sc (line_later core b other (SeveralLine xs tys) e) v) }

pub suc_same : (m n : ℕ) → suc m ≡ suc n → n ≡ m
suc_same m n e = omega (arith, e)

-- Trees, and the numbers of their types.
abbrev pub ArePaired : List Ty → List ℕ → Type 0
ArePaired [] [] = Unit {0}
ArePaired [] (s ∷ ss) = ⊥
ArePaired (Whole ∷ ts) ss = ⊥
ArePaired (Truth ∷ ts) ss = ⊥
ArePaired (Tree t ∷ ts) [] = ⊥
ArePaired (Tree t ∷ ts) (s ∷ ss) = (t.0 ≡ s) × ArePaired ts ss

pub paired : (tys : List Ty) → ArePaired (tree_types tys) (packed_due tys)
paired [] = tt
paired (Whole ∷ tys) = paired tys
paired (Truth ∷ tys) = paired tys
paired (Tree t ∷ tys) = (refl, paired tys)

pub unbound_apart : (bs : List BoundVariable) (x : Variable) (z : ℕ) → is_bound bs x ≡ true → is_bound bs (named z) ≡ false → Test (z == x.0) → z == x.0 ≡ false
unbound_apart bs x z bx bz (fails ne) = ne
unbound_apart bs x z bx bz (holds eq) = absurd (both_ways (is_bound bs x) (ap (λ m. is_bound bs (named m)) (sym (eqb-true z x.0 eq)) ∙ bz) bx)

-- What is in scope and reached is known as reached.
pub reached_known : (c : Before) (tc : Scope) (y : ℕ) (k : Known) (ks : List Known) (x : Variable) → is_reached (known ks x) ≡ true → known ks x ≡ Some k → (ty : Ty) × Tracked c tc y ty → IsKnown c tc y k.reached k.behind
reached_known c tc y k ks x r e own = reached_by c tc y k.reached k.behind (ap is_reached (sym e) ∙ r) own

pub truth_fits : (n : ℕ) (b : Before) (s : Setting) (sc : Scope) (x : Atom) → is_usable s x ≡ true → has_type b x Truth ≡ true → Vars n b s.scope sc → f.AtomFits sc x Truth
truth_fits n b s sc (a.Variable x) u t v = (tracked_as n b s.scope sc x Truth u (is_type_is (type_bound b.bound x) Truth t) v).usable
truth_fits n b s sc (a.Whole z) u t v = absurd cc
truth_fits n b s sc (a.Truth z) u t v = tt

-- The scope behind a reach.
pub reach_vars : (n : ℕ) (b : Before) (s : Setting) (sc : Scope) (y : Variable) (k : Known) (t : TyId) (tc : Scope) → known s.scope y ≡ Some k → Vars n b (record k { reached = true } ∷ s.scope) tc → Vars n b (reached_too (known s.scope y) s.scope) tc
reach_vars n b s sc y k t tc e v = subst (λ w. Vars n b (reached_too w s.scope) tc) (sym e) v

-- A scalar's right side.

pub scalar_due : (core : CoreTree) (b : Before) (s : Setting) (x : Variable) (ty : Ty) (t : Term) → LinesAreBuilt core b (met_side core.table s (On Scalar x ty t)) → is_scalar ty ≡ true
scalar_due core b s x ty t h = not-false (is_scalar ty) (least2 8 9 (is_bound b.bound x) (not (is_scalar ty)) h.0).1

pub scalar_vars : (core : CoreTree) (n : ℕ) (b : Before) (s : Setting) (sc : Scope) (x : Variable) (ty : Ty) (t : Term) → LinesAreBuilt core b (met_side core.table s (On Scalar x ty t)) → Vars n b s.scope sc → Vars n (next core.table b (SideLine Scalar x ty)) s.scope sc
scalar_vars core n b s sc x ty t h v = vars_on n b (next core.table b (SideLine Scalar x ty)) s.scope sc (line_later core b s (SideLine Scalar x ty) h.0) v

pub scalar_side : (core : CoreTree) (n : ℕ) (w : Within) (x : Variable) (ty : Ty) (t : Term) (b : Before) (s : Setting) (sc : Scope) (d : Dest) (ln : Line) (go : After) → AllBelow n (side_binders (On Scalar x ty t))
    → Vars n b s.scope sc → IsDest core.table b sc s.destination s.due d → LinesAreBuilt core b (met_side core.table s (On Scalar x ty t))
    → ((tc : Scope) (d' : Dest) → SideDone core n b s (On Scalar x ty t) sc (next_all core.table b (met_side core.table s (On Scalar x ty t))) tc d' → goes core go tc d' (tell_line (side_tells w core t) ln))
    → by_call t (Fits core (Inner (side_tells w core t)) t sc (f.Nowhere ty) (new_line w)) (λ g xs. CallFits core sc g xs (results.One ty)) → SideFits core w (On Scalar x ty t) sc d ln (goes core go)
scalar_side core n w x ty t b s sc d ln go below v e h on inside =
    let r = least2 8 9 (is_bound b.bound x) (not (is_scalar ty)) h.0 in
    let scalar = not-false (is_scalar ty) r.1 in
    let line = SideLine Scalar x ty in
    let m = next core.table b line in
    let inner = in_side core.table s Scalar ty in
    let lines = met core.table inner t in
    let c = next_all core.table m lines in
    let l1 = line_later core b s line h.0 in
    let l2 = lines_later core m lines h.1 in
    let typed : type_bound c.bound x ≡ Some ty = l2.bound.types x ty (its_type b.bound x ty) in
    let z = bind_sort n b c s.scope sc (cased t) x (f.Scalar ty) (later_on b m c l1 l2) (λ q m'. cased_before core.table t m inner (named q) m') r.0 below.0 (typed_bound c.bound x ty typed) v in
    let tc = put (loosen (cased t) sc) x.0 (f.Scalar ty) in (
      scalar,
      v.new x.0 r.0 below.0,
      inside,
      on tc d (record { vars = z.vars; keep = z.keep; own = (scalar_own c (loosen (cased t) sc) x ty scalar typed, tt); dest = dest_kept core.table b c sc tc s.destination s.due d z.keep e }),
    )

-- Where an open head has room, a packed field is due.
pub due_there : (core : CoreTree) (e : Destination) → has_room core.table e ≡ true → (t : TyId) × (field_due core.table e ≡ Tree t)
due_there core Nowhere r = absurd cc
due_there core Empty r = absurd cc
due_there core (InParts tys) r = absurd cc
due_there core (Open h k standing) r = (let n = next_of (fields_at core.table k.0) (length standing) (ltb-true (length standing) (length (packed_types core.table k)) r) in (n.ty, n.due))

-- A scalar by itself.
pub alone_scalar : (core : CoreTree) (n : ℕ) (w : Within) (x : Variable) (ty : Ty) (t : Term) (b : Before) (s : Setting) (sc : Scope) → AllBelow n (side_binders (On Scalar x ty t))
    → Vars n b s.scope sc → LinesAreBuilt core b (met_side core.table s (On Scalar x ty t)) → by_call t (Fits core (Inner (side_tells w core t)) t sc (f.Nowhere ty) (new_line w)) (λ g xs. CallFits core sc g xs (results.One ty)) → AloneFits core w (On Scalar x ty t) sc
alone_scalar core n w x ty t b s sc below v h inside =
    let r = least2 8 9 (is_bound b.bound x) (not (is_scalar ty)) h.0 in (not-false (is_scalar ty) r.1, v.new x.0 r.0 below.0, inside)
