-- What was bound and cased, later on.
use Rattle.std.proofs.Common.{◌≡◌, ◌==◌, Bool, true, false, ◌||◌, ◌&&◌, not, if◌then◌else◌, List, [], ◌∷◌, ◌++◌, Some, None, refl, sym, ap, ◌∙◌}
use Rattle.std.proofs.lemmas.Bool.{or_right, not-false, both_ways, or_parts}
use Rattle.gib_types.specs.declared.table.Ty.{Ty}
use Rattle.gib_types.specs.declared.table.ConId.{ConId}
use Rattle.gib_types.specs.Table.{Table, fields_at}
use Rattle.gib_types.specs.declared.table.Ty.TheVariants.{Whole}
use Rattle.gib_types.specs.declared.operator.Operator.{Operator}
use Rattle.gib_types.specs.Operators.{operator_type}
use Rattle.gib_syntax.specs.Meaning.{is_scalar}
use Rattle.gib_core.specs.declared.atom.Variable.{Variable}
use Rattle.gib_core.specs.declared.atom.Atom.{Atom}
use Rattle.gib_core.specs.declared.atom.Atom.TheVariants as a
use Rattle.gib_core.specs.declared.atom.Kind.{Kind}
use Rattle.gib_core.specs.declared.atom.Kind.TheVariants.{Here, Region, Scalar}
use Rattle.gib_core.specs.declared.scope.Bound.{Bound}
use Rattle.gib_core.specs.Tree.{CoreTree}
use Rattle.gib_core.specs.Inferring.{first_type, further_types}
use Rattle.gib_core.specs.Met.{Line, PastLine, SideLine, ParLine, PrimLine, ReachLine, WriteLine, PointLine, CallLine, GiveLine, CaseLine, IfLine, SeveralLine, TupleLine, PartLine, Met, Setting, field_due}
use Rattle.gib_core.specs.Rules.{Before, is_among, is_bound, type_bound, bound_too, bind_fields, bind_arms, any_bound, are_several, arm_variables, least, rules, next, next_all, LinesAreBuilt, any_other, all_usable, have_types, is_empty, is_of_type, is_other, is_usable, cover, type_of, has_room, same_type, type_made}
use Rattle.gib_core.proofs.Facts.{Test, holds, fails, test, least2, least3, same_variable, itself}

-- What was bound, later on: types stay, and what is still new was new.
pub record LaterBound (bs cs : List Bound) : Type 0 where
  pub types : (y : Variable) (ty : Ty) → type_bound bs y ≡ Some ty → type_bound cs y ≡ Some ty
  pub new : (y : Variable) → is_bound cs y ≡ false → is_bound bs y ≡ false

-- What stands before a line, later on.
pub record Later (b c : Before) : Type 0 where
  pub bound : LaterBound b.bound c.bound
  pub cased : (y : Variable) → is_among b.cased y ≡ true → is_among c.cased y ≡ true

pub bound_stays : (bs : List Bound) → LaterBound bs bs
bound_stays bs = record { types = λ y ty e. e; new = λ y e. e }

pub bound_on : (bs cs ds : List Bound) → LaterBound bs cs → LaterBound cs ds → LaterBound bs ds
bound_on bs cs ds f g = record { types = λ y ty e. g.types y ty (f.types y ty e); new = λ y e. f.new y (g.new y e) }

pub later_same : (b : Before) → Later b b
later_same b = record { bound = bound_stays b.bound; cased = λ y e. e }

pub later_on : (b c d : Before) → Later b c → Later c d → Later b d
later_on b c d f g = record { bound = bound_on b.bound c.bound d.bound f.bound g.bound; cased = λ y e. g.cased y (f.cased y e) }

typed_by : (same : Bool) (bs : List Bound) (y : Variable) (ty own : Ty) → (type_bound bs y ≡ Some ty → is_bound bs y ≡ true) → (if same then Some own else type_bound bs y) ≡ Some ty → same || is_bound bs y ≡ true
typed_by true bs y ty own f e = refl
typed_by false bs y ty own f e = f e

-- A variable with a type was bound.
pub typed_bound : (bs : List Bound) (y : Variable) (ty : Ty) → type_bound bs y ≡ Some ty → is_bound bs y ≡ true
typed_bound [] y ty e = absurd cc
typed_bound (b ∷ bs) y ty e = typed_by (b.variable.0 == y.0) bs y ty b.ty (typed_bound bs y ty) e

-- A new variable is bound.
new_type : (bs : List Bound) (x y : Variable) (ty other : Ty) → is_bound bs x ≡ false → Test (x.0 == y.0) → type_bound bs y ≡ Some other → type_bound (bound_too x ty bs) y ≡ Some other
new_type bs x y ty other new (fails ne) e = ap (λ t. if t then Some ty else type_bound bs y) ne ∙ e
new_type bs x y ty other new (holds eq) e =
    let same = same_variable x y eq in
    absurd (both_ways (is_bound bs x) new (ap (is_bound bs) same ∙ typed_bound bs y other e))

pub bound_new : (bs : List Bound) (x : Variable) (ty : Ty) → is_bound bs x ≡ false → LaterBound bs (bound_too x ty bs)
bound_new bs x ty new = record {
  types = λ y other e. new_type bs x y ty other new (test (x.0 == y.0)) e;
  new = λ y e. (or_parts (x.0 == y.0) (is_bound bs y) e).1;
}

pub its_type : (bs : List Bound) (x : Variable) (ty : Ty) → type_bound (bound_too x ty bs) x ≡ Some ty
its_type bs x ty = ap (λ t. if t then Some ty else type_bound bs x) (itself x.0)

-- Several variables that are all new: none was known, and none is there twice.
abbrev pub AreFresh : List Variable → (Variable → Bool) → Type 0
AreFresh [] m = Unit {0}
AreFresh (x ∷ xs) m = (m x ≡ false) × AreFresh xs (λ y. x.0 == y.0 || m y)

abbrev pub grown : List Variable → (Variable → Bool) → Variable → Bool
grown [] m = m
grown (x ∷ xs) m = grown xs (λ y. x.0 == y.0 || m y)

fresh_same : (xs : List Variable) (m k : Variable → Bool) → ((y : Variable) → m y ≡ k y) → AreFresh xs m → AreFresh xs k
fresh_same [] m k e h = tt
fresh_same (x ∷ xs) m k e h = (sym (e x) ∙ h.0, fresh_same xs (λ y. x.0 == y.0 || m y) (λ y. x.0 == y.0 || k y) (λ y. ap (λ b. x.0 == y.0 || b) (e y)) h.1)

pub fresh_apart : (xs ys : List Variable) (m : Variable → Bool) → AreFresh (xs ++ ys) m → AreFresh xs m × AreFresh ys (grown xs m)
fresh_apart [] ys m h = (tt, h)
fresh_apart (x ∷ xs) ys m h = let k = fresh_apart xs ys (λ y. x.0 == y.0 || m y) h.1 in ((h.0, k.0), k.1)

pub or_none : (a : Bool) → a || false ≡ a
or_none true = refl
or_none false = refl

or_shift : (a b c : Bool) → b || (a || c) ≡ a || (b || c)
or_shift true true c = refl
or_shift true false c = refl
or_shift false true c = refl
or_shift false false c = refl

fresh_seen : (xs seen : List Variable) (bs : List Bound) → any_bound xs seen bs ≡ false → AreFresh xs (λ y. is_bound bs y || is_among seen y)
fresh_seen [] seen bs e = tt
fresh_seen (x ∷ xs) seen bs e =
    let h = or_parts (is_bound bs x || is_among seen x) (any_bound xs (x ∷ seen) bs) e in
    let same : (y : Variable) → (is_bound bs y || is_among (x ∷ seen) y) ≡ (x.0 == y.0 || (is_bound bs y || is_among seen y)) =
    λ y. or_shift (x.0 == y.0) (is_bound bs y) (is_among seen y) in
    (h.0, fresh_same xs (λ y. is_bound bs y || is_among (x ∷ seen) y) (λ y. x.0 == y.0 || (is_bound bs y || is_among seen y)) same (fresh_seen xs (x ∷ seen) bs h.1))

pub fresh_arms : (xs : List Variable) (bs : List Bound) → any_bound xs [] bs ≡ false → AreFresh xs (is_bound bs)
fresh_arms xs bs e = fresh_same xs (λ y. is_bound bs y || false) (is_bound bs) (λ y. or_none (is_bound bs y)) (fresh_seen xs [] bs e)

-- The fields of an arm are bound.

pub bound_fields : (xs : List Variable) (ts : List Ty) (bs : List Bound) → AreFresh xs (is_bound bs) → LaterBound bs (bind_fields xs ts bs)
bound_fields [] ts bs h = bound_stays bs
bound_fields (x ∷ xs) ts bs h =
    let cs = bound_too x (first_type ts) bs in
    bound_on bs cs (bind_fields xs (further_types ts) cs) (bound_new bs x (first_type ts) h.0) (bound_fields xs (further_types ts) cs h.1)

abbrev pub HaveTypes : List Variable → List Ty → List Bound → Type 0
HaveTypes [] ts bs = Unit {0}
HaveTypes (x ∷ xs) ts bs = (type_bound bs x ≡ Some (first_type ts)) × HaveTypes xs (further_types ts) bs

pub have_on : (xs : List Variable) (ts : List Ty) (bs cs : List Bound) → LaterBound bs cs → HaveTypes xs ts bs → HaveTypes xs ts cs
have_on [] ts bs cs l h = tt
have_on (x ∷ xs) ts bs cs l h = (l.types x (first_type ts) h.0, have_on xs (further_types ts) bs cs l h.1)

pub fields_typed : (xs : List Variable) (ts : List Ty) (bs : List Bound) → AreFresh xs (is_bound bs) → HaveTypes xs ts (bind_fields xs ts bs)
fields_typed [] ts bs h = tt
fields_typed (x ∷ xs) ts bs h =
    let cs = bound_too x (first_type ts) bs in
    let later = bound_fields xs (further_types ts) cs h.1 in
    (later.types x (first_type ts) (its_type bs x (first_type ts)), fields_typed xs (further_types ts) cs h.1)

fields_grow : (xs : List Variable) (ts : List Ty) (bs : List Bound) (y : Variable) → grown xs (is_bound bs) y ≡ is_bound (bind_fields xs ts bs) y
fields_grow [] ts bs y = refl
fields_grow (x ∷ xs) ts bs y = fields_grow xs (further_types ts) (bound_too x (first_type ts) bs) y

-- The fields of all arms are bound.

abbrev pub ArmsHaveTypes : Table → List (ConId × List Variable) → List Bound → Type 0
ArmsHaveTypes table [] bs = Unit {0}
ArmsHaveTypes table (arm ∷ arms) bs = HaveTypes arm.1 (fields_at table arm.0.0) bs × ArmsHaveTypes table arms bs

pub arms_have_on : (table : Table) (arms : List (ConId × List Variable)) (bs cs : List Bound) → LaterBound bs cs → ArmsHaveTypes table arms bs → ArmsHaveTypes table arms cs
arms_have_on table [] bs cs l h = tt
arms_have_on table (arm ∷ arms) bs cs l h = (have_on arm.1 (fields_at table arm.0.0) bs cs l h.0, arms_have_on table arms bs cs l h.1)

pub bound_arms : (table : Table) (arms : List (ConId × List Variable)) (bs : List Bound) → AreFresh (arm_variables arms) (is_bound bs)
    → LaterBound bs (bind_arms table arms bs) × ArmsHaveTypes table arms (bind_arms table arms bs)
bound_arms table [] bs h = (bound_stays bs, tt)
bound_arms table (arm ∷ arms) bs h =
    let ts = fields_at table arm.0.0 in
    let cs = bind_fields arm.1 ts bs in
    let parts = fresh_apart arm.1 (arm_variables arms) (is_bound bs) h in
    let rest = bound_arms table arms cs (fresh_same (arm_variables arms) (grown arm.1 (is_bound bs)) (is_bound cs) (fields_grow arm.1 ts bs) parts.1) in
    (bound_on bs cs (bind_arms table arms cs) (bound_fields arm.1 ts bs parts.0) rest.0, (have_on arm.1 ts cs (bind_arms table arms cs) rest.0 (fields_typed arm.1 ts bs parts.0), rest.1))

-- Behind a line that breaks no rule.

pub later_new : (b : Before) (x : Variable) (ty : Ty) → is_bound b.bound x ≡ false → Later b (record { bound = bound_too x ty b.bound; cased = b.cased })
later_new b x ty new = record { bound = bound_new b.bound x ty new; cased = λ y e. e }

-- A line that breaks no rule.

pub side_new : (core : CoreTree) (b : Before) (s : Setting) (kind : Kind) (x : Variable) (ty : Ty) → least (rules core b s (SideLine kind x ty)) ≡ None → is_bound b.bound x ≡ false
side_new core b s Here x ty e = (least3 2 8 9 (not (has_room core.table s.destination)) (is_bound b.bound x) (not (same_type ty (field_due core.table s.destination))) e).1
side_new core b s Region x ty e = (least2 3 8 (is_scalar ty) (is_bound b.bound x) e).1
side_new core b s Scalar x ty e = (least2 8 9 (is_bound b.bound x) (not (is_scalar ty)) e).0

pub record PrimFacts (b : Before) (s : Setting) (x : Variable) (y z : Atom) : Type 0 where
  pub apart : any_other s (y ∷ z ∷ []) ≡ false
  pub new : is_bound b.bound x ≡ false
  pub usable : all_usable s (y ∷ z ∷ []) ≡ true
  pub typed : have_types b (y ∷ z ∷ []) (Whole ∷ Whole ∷ []) ≡ true

pub prim_facts : (core : CoreTree) (b : Before) (s : Setting) (x : Variable) (f : Operator) (y z : Atom) → least (rules core b s (PrimLine x f y z)) ≡ None → PrimFacts b s x y z
prim_facts core b s x f y z e =
    let u = all_usable s (y ∷ z ∷ []) in
    let ts = have_types b (y ∷ z ∷ []) (Whole ∷ Whole ∷ []) in
    let h = least3 4 8 9 (any_other s (y ∷ z ∷ [])) (is_bound b.bound x || not u) (not ts) e in
    let k = or_parts (is_bound b.bound x) (not u) h.1 in
    record { apart = h.0; new = k.0; usable = not-false u k.1; typed = not-false ts h.2 }

pub record CaseFacts (core : CoreTree) (b : Before) (s : Setting) (x : Atom) (arms : List (ConId × List Variable)) : Type 0 where
  pub apart : is_other s x ≡ false
  pub covers : cover core.table (type_of b x) arms ≡ true
  pub usable : is_usable s x ≡ true
  pub new : any_bound (arm_variables arms) [] b.bound ≡ false

pub case_facts : (core : CoreTree) (b : Before) (s : Setting) (x : Atom) (arms : List (ConId × List Variable)) → least (rules core b s (CaseLine x arms)) ≡ None → CaseFacts core b s x arms
case_facts core b s x arms e =
    let u = is_usable s x in
    let n = any_bound (arm_variables arms) [] b.bound in
    let c = cover core.table (type_of b x) arms in
    let h = least3 4 7 8 (is_other s x) (not c) (not u || n) e in
    let k = or_parts (not u) n h.2 in
    record { apart = h.0; covers = not-false c h.1; usable = not-false u k.0; new = k.1 }

pub past_new : (core : CoreTree) (b : Before) (s : Setting) (h : Variable) (k : ConId) → least (rules core b s (PastLine h k)) ≡ None → is_bound b.bound h ≡ false
past_new core b s h k e = (least2 1 8 (not (is_empty s.destination && is_of_type core.table k s.due)) (is_bound b.bound h) e).1

pub line_later : (core : CoreTree) (b : Before) (s : Setting) (line : Line) → least (rules core b s line) ≡ None → Later b (next core.table b line)
line_later core b s (PastLine h k) e = later_new b h (type_made core.table k) (past_new core b s h k e)
line_later core b s (SideLine kind x ty) e = later_new b x ty (side_new core b s kind x ty e)
line_later core b s ParLine e = later_same b
line_later core b s (PrimLine x f y z) e = later_new b x (operator_type f) (prim_facts core b s x f y z e).new
line_later core b s (ReachLine y by) e = later_same b
line_later core b s (WriteLine h k ss ps) e = later_same b
line_later core b s (PointLine x) e = later_same b
line_later core b s (CallLine f xs) e = later_same b
line_later core b s (GiveLine x) e = later_same b
line_later core b s (CaseLine (a.Variable x) arms) e =
    record {
      bound = (bound_arms core.table arms b.bound (fresh_arms (arm_variables arms) b.bound (case_facts core b s (a.Variable x) arms e).new)).0;
      cased = λ y h. or_right (x.0 == y.0) (is_among b.cased y) h;
    }
line_later core b s (CaseLine (a.Whole z) arms) e =
    record { bound = (bound_arms core.table arms b.bound (fresh_arms (arm_variables arms) b.bound (case_facts core b s (a.Whole z) arms e).new)).0; cased = λ y h. h }
line_later core b s (CaseLine (a.Truth z) arms) e =
    record { bound = (bound_arms core.table arms b.bound (fresh_arms (arm_variables arms) b.bound (case_facts core b s (a.Truth z) arms e).new)).0; cased = λ y h. h }
line_later core b s (IfLine x) e = later_same b
line_later core b s (SeveralLine xs tys) e =
    record { bound = bound_fields xs tys b.bound (fresh_arms xs b.bound (least2 8 11 (any_bound xs [] b.bound) (not (are_several xs tys)) e).0); cased = λ y h. h }
line_later core b s (TupleLine tys ss packed) e = later_same b
line_later core b s PartLine e = later_same b

pub lines_later : (core : CoreTree) (b : Before) (ms : List Met) → LinesAreBuilt core b ms → Later b (next_all core.table b ms)
lines_later core b [] h = later_same b
lines_later core b (m ∷ ms) h =
    let c = next core.table b m.line in
    later_on b c (next_all core.table c ms) (line_later core b m.with m.line h.0) (lines_later core c ms h.1)

-- Lines one after another.

pub built_apart : (core : CoreTree) (b : Before) (ms ns : List Met) → LinesAreBuilt core b (ms ++ ns) → LinesAreBuilt core b ms × LinesAreBuilt core (next_all core.table b ms) ns
built_apart core b [] ns h = (tt, h)
built_apart core b (m ∷ ms) ns h = let k = built_apart core (next core.table b m.line) ms ns h.1 in ((h.0, k.0), k.1)
