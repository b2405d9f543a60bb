-- The fields of an arm come into scope.
use Rattle.std.proofs.Common.{◌≡◌, ℕ, ◌<◌, ◌==◌, Bool, true, false, ◌||◌, List, [], ◌∷◌, ◌++◌, map, length, Option, Some, None, sym, ap, ◌∙◌, arith}
use Rattle.std.proofs.lemmas.Bool.{eqb-true, or_parts}
use Rattle.gib_types.specs.declared.table.Ty.{Ty}
use Rattle.gib_types.specs.declared.table.Ty.TheVariants.{Whole, Truth, Tree}
use Rattle.gib_types.specs.declared.table.TyId.{TyId}
use Rattle.gib_types.specs.declared.table.ConId.{ConId}
use Rattle.gib_types.specs.Table.{Table, fields_at}
use Rattle.gib_core.specs.declared.atom.Variable.{Variable}
use Rattle.gib_core.specs.declared.scope.Known.{Known}
use Rattle.gib_core.specs.Met.{reached, packed_field, with_arm}
use Rattle.gib_core.specs.Rules.{Before, type_bound, arm_variables}
use Rattle.gib_core.specs.Fits.{Sort, Outside, Absent, Scalar, Held, Placed, Loose, AtHead, Field, Scope, put, tree_type, field_sort, next_place, arm_scope, AreNew}
use Rattle.gib_core.proofs.Facts.{Test, holds, fails, test}
use Rattle.gib_core.proofs.Later.{AreFresh, grown, fresh_apart, HaveTypes}
use Rattle.gib_core.proofs.Vars.{named, IsKnown, Vars, put_there, put_elsewhere, tracked_put, vars_put, turned}
use Rattle.gib_core.proofs.Dests.{Keeps}

-- All numbers are below one.
abbrev pub AllBelow : ℕ → List ℕ → Type 0
AllBelow n [] = Unit {0}
AllBelow n (x ∷ xs) = (x < n) × AllBelow n xs

pub below_apart : (n : ℕ) (xs ys : List ℕ) → AllBelow n (xs ++ ys) → AllBelow n xs × AllBelow n ys
below_apart n [] ys h = (tt, h)
below_apart n (x ∷ xs) ys h = let k = below_apart n xs ys h.1 in ((h.0, k.0), k.1)

-- New variables.

is_held : Sort → Bool
is_held Outside = false
is_held Absent = false
is_held (Scalar ty) = false
is_held Held = true
is_held (Placed t) = false
is_held (Loose t) = false
is_held (AtHead t) = false
is_held (Field t z x k p) = false

held_no : Held ≡ Absent → ⊥
unfolding is_held
held_no e = (let h : true ≡ false = ap is_held e in absurd cc)

held_absent : (sc : Scope) (y z : ℕ) → Test (z == y) → put sc y Held z ≡ Absent → (z == y ≡ false) × (sc z ≡ Absent)
held_absent sc y z (fails ne) e = (ne, sym (put_elsewhere sc y z Held ne) ∙ e)
held_absent sc y z (holds eq) e = absurd (held_no (sym (put_there sc y Held) ∙ ap (put sc y Held) (sym (eqb-true z y eq)) ∙ e))

pub new_same : (ts : List Ty) (ys : List Variable) (sc tc : Scope) → ((z : ℕ) → sc z ≡ Absent → tc z ≡ Absent) → AreNew sc ts ys → AreNew tc ts ys
new_same [] [] sc tc f h = tt
new_same [] (y ∷ ys) sc tc f h = absurd h
new_same (t ∷ ts) [] sc tc f h = absurd h
new_same (t ∷ ts) (y ∷ ys) sc tc f h =
    (f y.0 h.0, new_same ts ys (put sc y.0 Held) (put tc y.0 Held) (λ z e. let k = held_absent sc y.0 z (test (z == y.0)) e in put_elsewhere tc y.0 z Held k.0 ∙ f z k.1) h.1)

-- Behind a field that got another sort.
pub new_put : (ts : List Ty) (ys : List Variable) (sc : Scope) (y : ℕ) (i : Sort) → AreNew (put sc y Held) ts ys → AreNew (put sc y i) ts ys
new_put ts ys sc y i h = new_same ts ys (put sc y Held) (put sc y i) (λ z e. let k = held_absent sc y z (test (z == y)) e in put_elsewhere sc y z i k.0 ∙ k.1) h

pub fresh_new : (n : ℕ) (ts : List Ty) (ys : List Variable) (sc : Scope) (m : Variable → Bool) → AreFresh ys m → ((z : ℕ) → m (named z) ≡ false → z < n → sc z ≡ Absent) → AllBelow n (map (λ (y : Variable). y.0) ys)
    → length ts ≡ length ys → AreNew sc ts ys
fresh_new n [] [] sc m h f below e = tt
fresh_new n [] (y ∷ ys) sc m h f below e = absurd (omega (arith, e))
fresh_new n (t ∷ ts) [] sc m h f below e = absurd (omega (arith, e))
fresh_new n (t ∷ ts) (y ∷ ys) sc m h f below e =
    (f y.0 h.0 below.0, fresh_new n ts ys (put sc y.0 Held) (λ z. y.0 == z.0 || m z) h.1 (λ z no lt. let k = or_parts (y.0 == z) (m (named z)) no in put_elsewhere sc y.0 z Held (turned y.0 z false k.0) ∙ f z k.1 lt) below.1 (omega (arith, e)))

or_less : (p m k : Bool) → (m ≡ false → k ≡ false) → p || m ≡ false → p || k ≡ false
or_less true m k f e = absurd cc
or_less false m k f e = f e

fresh_less : (xs : List Variable) (m k : Variable → Bool) → ((y : Variable) → m y ≡ false → k y ≡ false) → AreFresh xs m → AreFresh xs k
fresh_less [] m k f h = tt
fresh_less (x ∷ xs) m k f h = (f x h.0, fresh_less xs (λ y. x.0 == y.0 || m y) (λ y. x.0 == y.0 || k y) (λ y e. or_less (x.0 == y.0) (m y) (k y) (f y) e) h.1)

grown_less : (xs : List Variable) (m : Variable → Bool) (y : Variable) → grown xs m y ≡ false → m y ≡ false
grown_less [] m y e = e
grown_less (x ∷ xs) m y e = (or_parts (x.0 == y.0) (m y) (grown_less xs (λ z. x.0 == z.0 || m z) y e)).1

abbrev pub ArmsAreNew : Table → Scope → List (ConId × List Variable) → Type 0
ArmsAreNew table sc [] = Unit {0}
ArmsAreNew table sc (arm ∷ arms) = AreNew sc (fields_at table arm.0.0) arm.1 × ArmsAreNew table sc arms

-- Each arm has a variable for each field.
abbrev pub AreLong : Table → List (ConId × List Variable) → Type 0
AreLong table [] = Unit {0}
AreLong table (arm ∷ arms) = (length (fields_at table arm.0.0) ≡ length arm.1) × AreLong table arms

abbrev pub arm_numbers : List (ConId × List Variable) → List ℕ
arm_numbers [] = []
arm_numbers (arm ∷ arms) = map (λ (y : Variable). y.0) arm.1 ++ arm_numbers arms

pub arms_new : (n : ℕ) (table : Table) (arms : List (ConId × List Variable)) (sc : Scope) (m : Variable → Bool) → AreFresh (arm_variables arms) m → ((z : ℕ) → m (named z) ≡ false → z < n → sc z ≡ Absent)
    → AllBelow n (arm_numbers arms) → AreLong table arms → ArmsAreNew table sc arms
arms_new n table [] sc m h f below long = tt
arms_new n table (arm ∷ arms) sc m h f below long =
    let parts = fresh_apart arm.1 (arm_variables arms) m h in
    let low = below_apart n (map (λ (y : Variable). y.0) arm.1) (arm_numbers arms) below in (
      fresh_new n (fields_at table arm.0.0) arm.1 sc m parts.0 f low.0 long.0,
      arms_new n table arms sc m (fresh_less (arm_variables arms) (grown arm.1 m) m (grown_less arm.1 m) parts.1) f low.1 long.1,
    )

-- The arm's scope.

abbrev number_before : Option Variable → Option ℕ
number_before None = None
number_before (Some z) = Some z.0

-- The packed field before, where there is one, is a tree.
abbrev BeforeIsTree : Before → Option Variable → Type 0
BeforeIsTree b None = Unit {0}
BeforeIsTree b (Some z) = (o : TyId) × (type_bound b.bound z ≡ Some (Tree o))

packed_known : (b : Before) (sc : Scope) (x p : ℕ) (k : ConId) (y : Variable) (t : TyId) (z : Option Variable) → type_bound b.bound y ≡ Some (Tree t) → BeforeIsTree b z
    → IsKnown b (put sc y.0 (field_sort x k.0 p (number_before z) t.0)) y.0 (packed_field k y z).reached (packed_field k y z).behind
packed_known b sc x p k y t None e o =
    let there = put_there sc y.0 (Placed t.0) in
    (Tree t, record { typed = e; usable = (ap tree_type there, λ no. there) })
packed_known b sc x p k y t (Some z) e o =
    record { ty = t; before = o.0; tree = x; place = p; typed = e; before_typed = o.1; sort = put_there sc y.0 (Field t.0 z.0 x k.0 p) }

packed_put : (n : ℕ) (b : Before) (ks : List Known) (sc : Scope) (x p : ℕ) (k : ConId) (y : Variable) (t : TyId) (z : Option Variable) → sc y.0 ≡ Absent → type_bound b.bound y ≡ Some (Tree t) → BeforeIsTree b z
    → Vars n b ks sc → Vars n b (packed_field k y z ∷ ks) (put sc y.0 (field_sort x k.0 p (number_before z) t.0))
packed_put n b ks sc x p k y t None absent e o v = vars_put n b ks sc (packed_field k y None) (Placed t.0) absent (packed_known b sc x p k y t None e o) v
packed_put n b ks sc x p k y t (Some z) absent e o v = vars_put n b ks sc (packed_field k y (Some z)) (Field t.0 z.0 x k.0 p) absent (packed_known b sc x p k y t (Some z) e o) v

-- What an arm does.
pub record Entered (n : ℕ) (b : Before) (ks : List Known) (sc tc : Scope) : Type 0 where
  pub vars : Vars n b ks tc
  pub keep : Keeps b sc b tc

kept_put : (n : ℕ) (b : Before) (ks : List Known) (sc tc : Scope) (y : ℕ) (i : Sort) → sc y ≡ Absent → Entered n b ks (put sc y i) tc → Entered n b ks sc tc
kept_put n b ks sc tc y i absent h = record { vars = h.vars; keep = λ z ty k. h.keep z ty (tracked_put b sc y z i ty absent k) }

pub enter : (n : ℕ) (b : Before) (ks : List Known) (sc : Scope) (x p : ℕ) (k : ConId) (z : Option Variable) (ts : List Ty) (ys : List Variable) → AreNew sc ts ys → HaveTypes ys ts b.bound → BeforeIsTree b z
    → Vars n b ks sc → Entered n b (with_arm k ys ts z ks) sc (arm_scope x k.0 p (number_before z) ts ys sc)
enter n b ks sc x p k z [] [] new types o v = record { vars = v; keep = λ y ty t. t }
enter n b ks sc x p k z [] (y ∷ ys) new types o v = absurd new
enter n b ks sc x p k z (t ∷ ts) [] new types o v = absurd new
enter n b ks sc x p k z (Whole ∷ ts) (y ∷ ys) new types o v =
    let tc = put sc y.0 (Scalar Whole) in
    let one = vars_put n b ks sc (reached y) (Scalar Whole) new.0 (Whole, record { typed = types.0; usable = put_there sc y.0 (Scalar Whole) }) v in
    kept_put n b (with_arm k ys ts z (reached y ∷ ks)) sc (arm_scope x k.0 p (number_before z) ts ys tc) y.0 (Scalar Whole) new.0
    (enter n b (reached y ∷ ks) tc x p k z ts ys (new_put ts ys sc y.0 (Scalar Whole) new.1) types.1 o one)
enter n b ks sc x p k z (Truth ∷ ts) (y ∷ ys) new types o v =
    let tc = put sc y.0 (Scalar Truth) in
    let one = vars_put n b ks sc (reached y) (Scalar Truth) new.0 (Truth, record { typed = types.0; usable = put_there sc y.0 (Scalar Truth) }) v in
    kept_put n b (with_arm k ys ts z (reached y ∷ ks)) sc (arm_scope x k.0 p (number_before z) ts ys tc) y.0 (Scalar Truth) new.0
    (enter n b (reached y ∷ ks) tc x p k z ts ys (new_put ts ys sc y.0 (Scalar Truth) new.1) types.1 o one)
enter n b ks sc x p k z (Tree t ∷ ts) (y ∷ ys) new types o v =
    let i = field_sort x k.0 p (number_before z) t.0 in
    let tc = put sc y.0 i in
    let one = packed_put n b ks sc x p k y t z new.0 types.0 o v in
    kept_put n b (with_arm k ys ts (Some y) (packed_field k y z ∷ ks)) sc (arm_scope x k.0 (next_place p (number_before z)) (Some y.0) ts ys tc) y.0 i new.0
    (enter n b (packed_field k y z ∷ ks) tc x (next_place p (number_before z)) k (Some y) ts ys (new_put ts ys sc y.0 i new.1) types.1 (t, types.0) one)
