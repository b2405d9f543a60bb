-- What is known of variables, by the rules and by the type.
use Rattle.std.proofs.Common.{◌≡◌, ℕ, ◌<◌, ◌==◌, Bool, true, false, if◌then◌else◌, List, ◌∷◌, Option, Some, None, refl, sym, ap, ◌∙◌, subst}
use Rattle.std.proofs.lemmas.Bool.{eqb-true, eq-eqb, both_ways}
use Rattle.std.proofs.lemmas.Option.{same_Some}
use Rattle.gib_types.specs.declared.table.Ty.{Ty}
use Rattle.gib_types.specs.declared.table.Ty.TheVariants.{Whole, Truth, Tree}
use Rattle.gib_types.specs.declared.table.TyId.{TyId}
use Rattle.gib_core.specs.declared.atom.Variable.{Variable}
use Rattle.gib_core.specs.declared.scope.Behind.{Behind}
use Rattle.gib_core.specs.declared.scope.Known.{Known}
use Rattle.gib_core.specs.Met.{known}
use Rattle.gib_core.specs.Rules.{Before, is_among, is_bound, type_bound}
use Rattle.gib_core.specs.Fits.{Sort, Outside, Absent, Scalar, Held, Placed, Loose, AtHead, Field, Scope, put, tree_type, loosen_one, loosen}
use Rattle.gib_core.proofs.Facts.{Test, holds, fails, test, itself}
use Rattle.gib_core.proofs.Later.{Later, typed_bound}

abbrev pub named : ℕ → Variable
named n = record { 0 = n }

-- The variable can be used at the type; a tree on which no case was is where it was bound to.
abbrev pub IsUsable : List Variable → ℕ → Sort → Ty → Type 0
IsUsable cased y i Whole = i ≡ Scalar Whole
IsUsable cased y i Truth = i ≡ Scalar Truth
IsUsable cased y i (Tree t) = (tree_type i ≡ Some t.0) × (is_among cased (named y) ≡ false → i ≡ Placed t.0)

-- The variable has a type, and can be used at it.
pub record Tracked (b : Before) (sc : Scope) (y : ℕ) (ty : Ty) : Type 0 where
  pub typed : type_bound b.bound (named y) ≡ Some ty
  pub usable : IsUsable b.cased y (sc y) ty

-- A field that is not reached stands behind another one.
pub record Behinds (b : Before) (sc : Scope) (y : ℕ) (f : Behind) : Type 0 where
  pub ty : TyId
  pub before : TyId
  pub tree : ℕ
  pub place : ℕ
  pub typed : type_bound b.bound (named y) ≡ Some (Tree ty)
  pub before_typed : type_bound b.bound f.before ≡ Some (Tree before)
  pub sort : sc y ≡ Field ty.0 f.before.0 tree f.constructor.0 place

abbrev pub IsKnown : Before → Scope → ℕ → Bool → Option Behind → Type 0
IsKnown b sc y true o = (ty : Ty) × Tracked b sc y ty
IsKnown b sc y false None = ⊥
IsKnown b sc y false (Some f) = Behinds b sc y f

-- The scopes agree: what is new in a function of n slots is absent, and what is known is so.
pub record Vars (n : ℕ) (b : Before) (ks : List Known) (sc : Scope) : Type 0 where
  pub new : (y : ℕ) → is_bound b.bound (named y) ≡ false → y < n → sc y ≡ Absent
  pub knows : (y : ℕ) (k : Known) → known ks (named y) ≡ Some k → IsKnown b sc y k.reached k.behind

-- An absent variable is not known.

absent_unusable : (cs : List Variable) (y : ℕ) (i : Sort) (ty : Ty) → i ≡ Absent → IsUsable cs y i ty → ⊥
absent_unusable cs y i Whole e u = absurd cc
absent_unusable cs y i Truth e u = absurd cc
absent_unusable cs y i (Tree t) e u = (let h : None ≡ Some t.0 = ap tree_type (sym e) ∙ u.0 in absurd cc)

absent_unknown : (b : Before) (sc : Scope) (y : ℕ) (r : Bool) (o : Option Behind) → sc y ≡ Absent → IsKnown b sc y r o → ⊥
absent_unknown b sc y true o e k = absent_unusable b.cased y (sc y) k.0 e k.1.usable
absent_unknown b sc y false None e k = k
absent_unknown b sc y false (Some f) e k = (let h : Absent ≡ Field k.ty.0 f.before.0 k.tree f.constructor.0 k.place = sym e ∙ k.sort in absurd cc)

-- A known variable was bound.
pub known_bound : (b : Before) (sc : Scope) (y : ℕ) (r : Bool) (o : Option Behind) → IsKnown b sc y r o → is_bound b.bound (named y) ≡ true
known_bound b sc y true o k = typed_bound b.bound (named y) k.0 k.1.typed
known_bound b sc y false None k = absurd k
known_bound b sc y false (Some f) k = typed_bound b.bound (named y) (Tree k.ty) k.typed

-- Another sort, another set of cased variables, more bound ones.

usable_as : (cs : List Variable) (y : ℕ) (i j : Sort) (ty : Ty) → i ≡ j → IsUsable cs y j ty → IsUsable cs y i ty
usable_as cs y i j ty e u = subst (λ k. IsUsable cs y k ty) (sym e) u

pub known_as : (b : Before) (sc tc : Scope) (y : ℕ) (r : Bool) (o : Option Behind) → tc y ≡ sc y → IsKnown b sc y r o → IsKnown b tc y r o
known_as b sc tc y true o e k = (k.0, record { typed = k.1.typed; usable = usable_as b.cased y (tc y) (sc y) k.0 e k.1.usable })
known_as b sc tc y false None e k = k
known_as b sc tc y false (Some f) e k = record { ty = k.ty; before = k.before; tree = k.tree; place = k.place; typed = k.typed; before_typed = k.before_typed; sort = e ∙ k.sort }

by_test : (p q : Bool) → (p ≡ true → q ≡ true) → q ≡ false → Test p → p ≡ false
by_test p q f e (fails ne) = ne
by_test p q f e (holds eq) = absurd (both_ways q e (f eq))

not_cased : (b c : Before) (y : Variable) → Later b c → is_among c.cased y ≡ false → is_among b.cased y ≡ false
not_cased b c y l e = by_test (is_among b.cased y) (is_among c.cased y) (l.cased y) e (test (is_among b.cased y))

tree_loosened : (m : Bool) (i : Sort) (t : ℕ) → tree_type i ≡ Some t → tree_type (loosen_one m i) ≡ Some t
tree_loosened false i t e = e
tree_loosened true Outside t e = e
tree_loosened true Absent t e = e
tree_loosened true (Scalar ty) t e = e
tree_loosened true Held t e = e
tree_loosened true (Placed u) t e = e
tree_loosened true (Loose u) t e = e
tree_loosened true (AtHead u) t e = e
tree_loosened true (Field a z x k p) t e = e

scalar_loosened : (m : Bool) (ty : Ty) → loosen_one m (Scalar ty) ≡ Scalar ty
scalar_loosened true ty = refl
scalar_loosened false ty = refl

absent_loosened : (m : Bool) → loosen_one m Absent ≡ Absent
absent_loosened true = refl
absent_loosened false = refl

field_loosened : (m : Bool) (t z x k p : ℕ) → loosen_one m (Field t z x k p) ≡ Field t z x k p
field_loosened true t z x k p = refl
field_loosened false t z x k p = refl

placed_still : (m : Bool) (i : Sort) (t : ℕ) (c : Bool) → (m ≡ true → c ≡ true) → c ≡ false → i ≡ Placed t → loosen_one m i ≡ Placed t
placed_still false i t c f e p = p
placed_still true i t c f e p = absurd (both_ways c e (f refl))

usable_later : (b c : Before) (y : ℕ) (i : Sort) (m : Bool) (ty : Ty) → Later b c → (m ≡ true → is_among c.cased (named y) ≡ true) → IsUsable b.cased y i ty → IsUsable c.cased y (loosen_one m i) ty
usable_later b c y i m Whole l h u = ap (loosen_one m) u ∙ scalar_loosened m Whole
usable_later b c y i m Truth l h u = ap (loosen_one m) u ∙ scalar_loosened m Truth
usable_later b c y i m (Tree t) l h u =
    (tree_loosened m i t.0 u.0, λ no. placed_still m i t.0 (is_among c.cased (named y)) h no (u.1 (not_cased b c (named y) l no)))

pub tracked_later : (b c : Before) (sc : Scope) (m : ℕ → Bool) (y : ℕ) (ty : Ty) → Later b c → ((z : ℕ) → m z ≡ true → is_among c.cased (named z) ≡ true) → Tracked b sc y ty → Tracked c (loosen m sc) y ty
tracked_later b c sc m y ty l h k = record { typed = l.bound.types (named y) ty k.typed; usable = usable_later b c y (sc y) (m y) ty l (h y) k.usable }

known_later : (b c : Before) (sc : Scope) (m : ℕ → Bool) (y : ℕ) (r : Bool) (o : Option Behind) → Later b c → ((z : ℕ) → m z ≡ true → is_among c.cased (named z) ≡ true) → IsKnown b sc y r o → IsKnown c (loosen m sc) y r o
known_later b c sc m y true o l h k = (k.0, tracked_later b c sc m y k.0 l h k.1)
known_later b c sc m y false None l h k = k
known_later b c sc m y false (Some f) l h k = record {
  ty = k.ty;
  before = k.before;
  tree = k.tree;
  place = k.place;
  typed = l.bound.types (named y) (Tree k.ty) k.typed;
  before_typed = l.bound.types f.before (Tree k.before) k.before_typed;
  sort = ap (loosen_one (m y)) k.sort ∙ field_loosened (m y) k.ty.0 f.before.0 k.tree f.constructor.0 k.place;
}

-- Later on, with the variables loosened that a case was on.
pub vars_later : (n : ℕ) (b c : Before) (ks : List Known) (sc : Scope) (m : ℕ → Bool) → Later b c → ((z : ℕ) → m z ≡ true → is_among c.cased (named z) ≡ true) → Vars n b ks sc → Vars n c ks (loosen m sc)
vars_later n b c ks sc m l h v = record {
  new = λ y e lt. ap (loosen_one (m y)) (v.new y (l.bound.new (named y) e) lt) ∙ absent_loosened (m y);
  knows = λ y k e. known_later b c sc m y k.reached k.behind l h (v.knows y k e);
}

-- Later on.
pub vars_on : (n : ℕ) (b c : Before) (ks : List Known) (sc : Scope) → Later b c → Vars n b ks sc → Vars n c ks sc
vars_on n b c ks sc l v = vars_later n b c ks sc (λ y. false) l (λ z e. absurd cc) v

-- Another place.

pub put_there : (sc : Scope) (x : ℕ) (i : Sort) → put sc x i x ≡ i
put_there sc x i = ap (λ t. if t then i else sc x) (itself x)

pub put_elsewhere : (sc : Scope) (x y : ℕ) (i : Sort) → y == x ≡ false → put sc x i y ≡ sc y
put_elsewhere sc x y i e = ap (λ t. if t then i else sc y) e

apart_by : (b : Before) (sc : Scope) (x y : ℕ) (r : Bool) (o : Option Behind) → sc x ≡ Absent → IsKnown b sc y r o → Test (y == x) → y == x ≡ false
apart_by b sc x y r o e k (fails ne) = ne
apart_by b sc x y r o e k (holds eq) = absurd (absent_unknown b sc y r o (ap sc (eqb-true y x eq) ∙ e) k)

-- What is known is not what is absent.
pub known_apart : (b : Before) (sc : Scope) (x y : ℕ) (r : Bool) (o : Option Behind) → sc x ≡ Absent → IsKnown b sc y r o → y == x ≡ false
known_apart b sc x y r o e k = apart_by b sc x y r o e k (test (y == x))

-- What is tracked is not what is absent.
pub tracked_apart : (b : Before) (sc : Scope) (x y : ℕ) (ty : Ty) → sc x ≡ Absent → Tracked b sc y ty → y == x ≡ false
tracked_apart b sc x y ty e k = known_apart b sc x y true None e (ty, k)

pub tracked_put : (b : Before) (sc : Scope) (x y : ℕ) (i : Sort) (ty : Ty) → sc x ≡ Absent → Tracked b sc y ty → Tracked b (put sc x i) y ty
tracked_put b sc x y i ty e k = record { typed = k.typed; usable = usable_as b.cased y (put sc x i y) (sc y) ty (put_elsewhere sc x y i (tracked_apart b sc x y ty e k)) k.usable }

new_put : (b : Before) (sc : Scope) (x y : ℕ) (i : Sort) → is_bound b.bound (named x) ≡ true → is_bound b.bound (named y) ≡ false → sc y ≡ Absent → Test (y == x) → put sc x i y ≡ Absent
new_put b sc x y i bx by e (fails ne) = put_elsewhere sc x y i ne ∙ e
new_put b sc x y i bx by e (holds eq) = absurd (both_ways (is_bound b.bound (named x)) (ap (λ z. is_bound b.bound (named z)) (sym (eqb-true y x eq)) ∙ by) bx)

-- A variable that was bound gets a sort, without coming into scope.
pub vars_hold : (n : ℕ) (b : Before) (ks : List Known) (sc : Scope) (x : ℕ) (i : Sort) → sc x ≡ Absent → is_bound b.bound (named x) ≡ true → Vars n b ks sc → Vars n b ks (put sc x i)
vars_hold n b ks sc x i absent bx v = record {
  new = λ y e lt. new_put b sc x y i bx e (v.new y e lt) (test (y == x));
  knows = λ y k e.
      let was = v.knows y k e in
      known_as b sc (put sc x i) y k.reached k.behind (put_elsewhere sc x y i (known_apart b sc x y k.reached k.behind absent was)) was;
}

turned_no : (m n : ℕ) → m == n ≡ false → Test (n == m) → n == m ≡ false
turned_no m n e (fails ne) = ne
turned_no m n e (holds eq) = (let h : m ≡ n = sym (eqb-true n m eq) in absurd (both_ways (m == n) e (eq-eqb m n h)))

pub turned : (m n : ℕ) (t : Bool) → m == n ≡ t → n == m ≡ t
turned m n true e = let h : n ≡ m = sym (eqb-true m n e) in eq-eqb n m h
turned m n false e = turned_no m n e (test (n == m))

knows_put : (b : Before) (ks : List Known) (sc : Scope) (k j : Known) (y : ℕ) → IsKnown b sc k.variable.0 k.reached k.behind → (known ks (named y) ≡ Some j → IsKnown b sc y j.reached j.behind)
    → Test (k.variable.0 == y) → known (k ∷ ks) (named y) ≡ Some j → IsKnown b sc y j.reached j.behind
knows_put b ks sc k j y is was (fails ne) e = was (ap (λ t. if t then Some k else known ks (named y)) (sym ne) ∙ e)
knows_put b ks sc k j y is was (holds eq) e =
    let same : k ≡ j = same_Some k j (ap (λ t. if t then Some k else known ks (named y)) (sym eq) ∙ e) in
    let P : Known → Type 0 = λ i. IsKnown b sc y i.reached i.behind in
    subst P same (subst (λ z. IsKnown b sc z k.reached k.behind) (eqb-true k.variable.0 y eq) is)

-- A variable that is tracked comes into scope.
pub vars_scope : (n : ℕ) (b : Before) (ks : List Known) (sc : Scope) (k : Known) → IsKnown b sc k.variable.0 k.reached k.behind → Vars n b ks sc → Vars n b (k ∷ ks) sc
vars_scope n b ks sc k is v = record { new = v.new; knows = λ y j e. knows_put b ks sc k j y is (v.knows y j) (test (k.variable.0 == y)) e }

-- A variable comes into scope.
pub vars_put : (n : ℕ) (b : Before) (ks : List Known) (sc : Scope) (k : Known) (i : Sort) → sc k.variable.0 ≡ Absent
    → IsKnown b (put sc k.variable.0 i) k.variable.0 k.reached k.behind → Vars n b ks sc → Vars n b (k ∷ ks) (put sc k.variable.0 i)
vars_put n b ks sc k i absent is v =
    let x = k.variable.0 in
    let held = vars_hold n b ks sc x i absent (known_bound b (put sc x i) x k.reached k.behind is) v in
    record { new = held.new; knows = λ y j e. knows_put b ks (put sc x i) k j y is (held.knows y j) (test (x == y)) e }

over_elsewhere : (b : Before) (ks : List Known) (sc : Scope) (x y : ℕ) (i : Sort) (j : Known) → y == x ≡ false → IsKnown b sc y j.reached j.behind → IsKnown b (put sc x i) y j.reached j.behind
over_elsewhere b ks sc x y i j ne h = known_as b sc (put sc x i) y j.reached j.behind (put_elsewhere sc x y i ne) h

knows_over : (b : Before) (ks : List Known) (sc : Scope) (k j : Known) (i : Sort) (y : ℕ) → IsKnown b (put sc k.variable.0 i) k.variable.0 k.reached k.behind → (known ks (named y) ≡ Some j → IsKnown b sc y j.reached j.behind)
    → Test (k.variable.0 == y) → known (k ∷ ks) (named y) ≡ Some j → IsKnown b (put sc k.variable.0 i) y j.reached j.behind
knows_over b ks sc k j i y is was (fails ne) e =
    over_elsewhere b ks sc k.variable.0 y i j (turned k.variable.0 y false ne) (was (ap (λ t. if t then Some k else known ks (named y)) (sym ne) ∙ e))
knows_over b ks sc k j i y is was (holds eq) e =
    let same : k ≡ j = same_Some k j (ap (λ t. if t then Some k else known ks (named y)) (sym eq) ∙ e) in
    let P : Known → Type 0 = λ z. IsKnown b (put sc k.variable.0 i) y z.reached z.behind in
    subst P same (subst (λ z. IsKnown b (put sc k.variable.0 i) z k.reached k.behind) (eqb-true k.variable.0 y eq) is)

-- A variable that was bound comes into scope anew, with another sort.
pub vars_over : (n : ℕ) (b : Before) (ks : List Known) (sc : Scope) (k : Known) (i : Sort) → IsKnown b (put sc k.variable.0 i) k.variable.0 k.reached k.behind → Vars n b ks sc → Vars n b (k ∷ ks) (put sc k.variable.0 i)
vars_over n b ks sc k i is v =
    let x = k.variable.0 in
    let bound = known_bound b (put sc x i) x k.reached k.behind is in
    record {
      new = λ y e lt. new_put b sc x y i bound e (v.new y e lt) (test (y == x));
      knows = λ y j e. knows_over b ks sc k j i y is (v.knows y j) (test (x == y)) e;
    }

knows_at : (b : Before) (ks : List Known) (sc : Scope) (x : ℕ) (i : Sort) (y : ℕ) (j : Known) → ((k : Known) → known ks (named x) ≡ Some k → IsKnown b (put sc x i) x k.reached k.behind) → IsKnown b sc y j.reached j.behind
    → known ks (named y) ≡ Some j → Test (y == x) → IsKnown b (put sc x i) y j.reached j.behind
knows_at b ks sc x i y j f was e (fails ne) = over_elsewhere b ks sc x y i j ne was
knows_at b ks sc x i y j f was e (holds eq) =
    let same : y ≡ x = eqb-true y x eq in
    subst (λ z. IsKnown b (put sc x i) z j.reached j.behind) (sym same) (f j (ap (λ z. known ks (named z)) (sym same) ∙ e))

-- A variable in scope gets another sort.
pub vars_at : (n : ℕ) (b : Before) (ks : List Known) (sc : Scope) (x : ℕ) (i : Sort) → is_bound b.bound (named x) ≡ true → ((k : Known) → known ks (named x) ≡ Some k → IsKnown b (put sc x i) x k.reached k.behind)
    → Vars n b ks sc → Vars n b ks (put sc x i)
vars_at n b ks sc x i bound f v = record {
  new = λ y e lt. new_put b sc x y i bound e (v.new y e lt) (test (y == x));
  knows = λ y j e. knows_at b ks sc x i y j f (v.knows y j e) e (test (y == x));
}

-- A tree on which a case is.

cased_by : (b : Before) (sc : Scope) (x : ℕ) (t : TyId) (y : ℕ) (ty : Ty) → Tracked b sc x (Tree t) → is_among b.cased (named x) ≡ true → Tracked b sc y ty → Test (y == x) → Tracked b (put sc x (AtHead t.0)) y ty
cased_by b sc x t y ty own c k (fails ne) = record { typed = k.typed; usable = usable_as b.cased y (put sc x (AtHead t.0) y) (sc y) ty (put_elsewhere sc x y (AtHead t.0) ne) k.usable }
cased_by b sc x t y ty own c k (holds eq) =
    let at : y ≡ x = eqb-true y x eq in
    let same : Tree t ≡ ty = same_Some (Tree t) ty (sym own.typed ∙ ap (λ z. type_bound b.bound (named z)) (sym at) ∙ k.typed) in
    let there = put_there sc x (AtHead t.0) in
    let is : Tracked b (put sc x (AtHead t.0)) x (Tree t) = record { typed = own.typed; usable = (ap tree_type there, λ e. absurd (both_ways (is_among b.cased (named x)) e c)) } in
    subst (λ z. Tracked b (put sc x (AtHead t.0)) z ty) (sym at) (subst (λ u. Tracked b (put sc x (AtHead t.0)) x u) same is)

pub tracked_cased : (b : Before) (sc : Scope) (x : ℕ) (t : TyId) (y : ℕ) (ty : Ty) → Tracked b sc x (Tree t) → is_among b.cased (named x) ≡ true → Tracked b sc y ty → Tracked b (put sc x (AtHead t.0)) y ty
tracked_cased b sc x t y ty own c k = cased_by b sc x t y ty own c k (test (y == x))
