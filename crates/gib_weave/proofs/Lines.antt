-- A line waits while a part of it runs.
use Rattle.std.proofs.Common.{◌≡◌, ℕ, suc, ◌<◌, ◌≤◌, Bool, true, false, cond, List, [], ◌∷◌, length, refl, sym, ap, subst, ◌∙◌, arith}
use Rattle.std.proofs.lemmas.Bool.{false≢true}
use Rattle.gib_types.specs.declared.table.Ty.{Ty}
use Rattle.gib_types.specs.Layout.{LaidOut}
use Rattle.gib_types.specs.Tree.{Datum}
use Rattle.gib_syntax.specs.Meaning.{Environment, value_in, Outcome, Gives, Stops, Reason, with_value}
use Rattle.gib_mem.specs.Memory.{Store, Grows}
use Rattle.gib_core.specs.declared.atom.Variable.{Variable}
use Rattle.gib_core.specs.Tree.{Term, Then, One, Side, CoreTree}
use Rattle.gib_core.specs.Meaning.{bind_side, from_there, having, Went}
use Rattle.gib_code.specs.Program.{CodeTree}
use Rattle.gib_core.specs.Ending.{Within}
use Rattle.gib_machine.specs.State.{end_at, nesting, Slots, slot, set, Frame, Open as OpenRegion, cursor}
use Rattle.gib_core.specs.Fits.{put, Sort, Outside, Absent, Scalar, Held, Placed, Loose, AtHead, Field, Scope, new_line, await, await_call, bound_scope, none_of, AreNew, tell_line, is_settled, is_there, has_slot, loosen_one, loosen, Dest, Nowhere, Empty, InParts, Open, cased}
use Rattle.gib_weave.specs.Environment.{Ctx, StandsAt, Has, HasAll, IsDest, Matches}
use Rattle.gib_weave.specs.EndWords.{HasEnd}
use Rattle.gib_weave.specs.Continuing.{given_of, Rest, Plain, Part, Meet, Leave, Last, Fills, KSide, KLast, AllFollow, Follows, IsInBody, Next, RestCode, RestFits, rest_cased, rest_nest, nest, Kont, KEnd, KHere, KRegion, KScalar, KCall, KCallScalar, KPart, KSeveral, Goes, Under, AllUnder, Calm, AllCalm, end_of, needs_of}
use Rattle.gib_weave.specs.Owing.{means, resume, side_gives}
use Rattle.gib_weave.specs.Stacks.{SeveralWaits, Waits}
use Rattle.gib_weave.specs.Sound.{OnLine, MayFollow}
use Rattle.gib_weave.proofs.Grow.{Matches-grows, Stack-grows}
use Rattle.gib_weave.proofs.Basics.{by_test, put-other, end-other}
use Rattle.gib_weave.proofs.Move.{Moved, AllMoved, HasAll-moved, Matches-moved, Stack-moved, moved_set, all_moved_set, not_there, with_line, HasAll-dest, HasAll-line, settled_there, Matches-line, closes_keeps, other, Keeps, Has-keeps, Fields-keeps, absent_slot}
use Rattle.gib_weave.proofs.Sorts.{given_keeps, goes-refl, under_goes, all_under_goes, goes_new, rest_code_loosen}

-- Trees may be elsewhere.

pub loosen-there : (b : Bool) (so : Sort) → is_there (loosen_one b so) ≡ is_there so
loosen-there false so = refl
loosen-there true Outside = refl
loosen-there true Absent = refl
loosen-there true (Scalar ty) = refl
loosen-there true Held = refl
loosen-there true (Placed t) = refl
loosen-there true (Loose t) = refl
loosen-there true (AtHead t) = refl
loosen-there true (Field t z x k p) = refl

loosen-slot : (b : Bool) (so : Sort) → has_slot (loosen_one b so) ≡ has_slot so
loosen-slot false so = refl
loosen-slot true Outside = refl
loosen-slot true Absent = refl
loosen-slot true (Scalar ty) = refl
loosen-slot true Held = refl
loosen-slot true (Placed t) = refl
loosen-slot true (Loose t) = refl
loosen-slot true (AtHead t) = refl
loosen-slot true (Field t z x k p) = refl

pub loosen-settled : (b : Bool) (so : Sort) → is_settled (loosen_one b so) ≡ is_settled so
loosen-settled false so = refl
loosen-settled true Outside = refl
loosen-settled true Absent = refl
loosen-settled true (Scalar ty) = refl
loosen-settled true Held = refl
loosen-settled true (Placed t) = refl
loosen-settled true (Loose t) = refl
loosen-settled true (AtHead t) = refl
loosen-settled true (Field t z x k p) = refl

pub loosen-held : (b : Bool) (so : Sort) → so ≡ Held → loosen_one b so ≡ Held
loosen-held false so e = e
loosen-held true so e = ap (loosen_one true) e

pub loosen-absent : (b : Bool) (so : Sort) → so ≡ Absent → loosen_one b so ≡ Absent
loosen-absent false so e = e
loosen-absent true so e = ap (loosen_one true) e

pub loosen-head : (b : Bool) (so : Sort) (t : ℕ) → so ≡ AtHead t → loosen_one b so ≡ AtHead t
loosen-head false so t e = e
loosen-head true so t e = ap (loosen_one true) e

-- the line as it is after a term with such cases
abbrev pub loosened : (ℕ → Bool) → Ctx → Ctx
loosened m c = record { scope = loosen m c.scope; env = c.env; pl = c.pl; hd = c.hd; dest = c.dest; front = c.front; head = c.head; line = c.line }

pub keeps_loosened : (m : ℕ → Bool) (c : Ctx) → Keeps c (loosened m c)
keeps_loosened m c = record {
  there = λ y h. loosen-there (m y) (c.scope y) ∙ h;
  places = λ y h. refl;
  values = λ y h. refl;
  at_head = λ y o e. loosen-head (m y) (c.scope y) o e;
  heads = λ y o e. refl;
}

Has-loosen : (laid : LaidOut) (s : Store) (c : Ctx) (b : Bool) (so : Sort) (w : ℕ) (v : Datum) (at hd : ℕ) → Has laid s c so w v at hd → Has laid s c (loosen_one b so) w v at hd
Has-loosen laid s c false so w v at hd h = h
Has-loosen laid s c true Outside w v at hd h = tt
Has-loosen laid s c true Absent w v at hd h = tt
Has-loosen laid s c true (Scalar ty) w v at hd h = h
Has-loosen laid s c true Held w v at hd h = tt
Has-loosen laid s c true (Placed t) w v at hd h = subst (λ (z : ℕ). StandsAt laid s t z v) (sym h.same) h.stands
Has-loosen laid s c true (Loose t) w v at hd h = h
Has-loosen laid s c true (AtHead t) w v at hd h = h
Has-loosen laid s c true (Field t z x k p) w v at hd h = h

pub IsDest-loosen : (laid : LaidOut) (s : Store) (sl : Slots) (c : Ctx) (cur : ℕ) (m : ℕ → Bool) (d : Dest) → IsDest laid s sl c d cur → IsDest laid s sl (loosened m c) d cur
IsDest-loosen laid s sl c cur m (Nowhere ty) h = tt
IsDest-loosen laid s sl c cur m (Empty t) h = h
IsDest-loosen laid s sl c cur m (InParts tys) h = tt
IsDest-loosen laid s sl c cur m (Open t x k xs dues) h = record { con = h.con; slot = h.slot; sort = loosen-held (m x) (c.scope x) h.sort; leads = h.leads; types = h.types; all = h.all; fields = Fields-keeps (keeps_loosened m c) h.fields }

HasEnd-loosen : (laid : LaidOut) (s : Store) (b : Bool) (so : Sort) (w e : ℕ) (v : Datum) (pl : ℕ) → HasEnd laid s so w e v pl → HasEnd laid s (loosen_one b so) w e v pl
HasEnd-loosen laid s false so w e v pl h = h
HasEnd-loosen laid s true Outside w e v pl h = tt
HasEnd-loosen laid s true Absent w e v pl h = tt
HasEnd-loosen laid s true (Scalar ty) w e v pl h = tt
HasEnd-loosen laid s true Held w e v pl h = tt
HasEnd-loosen laid s true (Placed t) w e v pl h = h
HasEnd-loosen laid s true (Loose t) w e v pl h = h
HasEnd-loosen laid s true (AtHead t) w e v pl h = h
HasEnd-loosen laid s true (Field t z x k p) w e v pl h = tt

pub HasAll-loosen : {laid : LaidOut} {s : Store} {sl : Slots} {c : Ctx} (m : ℕ → Bool) → HasAll laid s sl c → HasAll laid s sl (loosened m c)
HasAll-loosen {laid} {s} {sl} {c} m h = record {
  has = λ y. Has-loosen laid s (loosened m c) (m y) (c.scope y) (slot sl y) (value_in c.env y) (c.pl y) (c.hd y) (Has-keeps laid s c (loosened m c) (c.scope y) (slot sl y) (value_in c.env y) (c.pl y) (c.hd y) (keeps_loosened m c) (h.has y));
  wide = λ y e. h.wide y (sym (loosen-slot (m y) (c.scope y)) ∙ e);
  ends = λ y. HasEnd-loosen laid s (m y) (c.scope y) (slot sl y) (end_at sl y) (value_in c.env y) (c.pl y) (h.ends y);
  even = h.even;
  told = λ q e. let t = h.told q e in record { settled = loosen-settled (m q) (c.scope q) ∙ t.settled; some = t.some };
  closes = closes_keeps laid s c (loosened m c) c.line.overs (keeps_loosened m c) h.closes;
}

pub Matches-loosen : {laid : LaidOut} {s : Store} {sl : Slots} {c : Ctx} {cur : ℕ} (m : ℕ → Bool) → Matches laid s sl c cur → Matches laid s sl (loosened m c) cur
Matches-loosen {laid} {s} {sl} {c} {cur} m h = record { vars = HasAll-loosen m h.vars; dest = IsDest-loosen laid s sl c cur m c.dest h.dest }

pub goes_loosen : (b : Bool) (so : Sort) → Goes so (loosen_one b so)
goes_loosen false so = goes-refl so
goes_loosen true Outside = tt
goes_loosen true Absent = tt
goes_loosen true (Scalar ty) = refl
goes_loosen true Held = refl
goes_loosen true (Placed t) = refl
goes_loosen true (Loose t) = refl
goes_loosen true (AtHead t) = refl
goes_loosen true (Field t z x k p) = refl

pub all_under_loosen : (sc : Scope) (env : Environment) (k : Kont) (m : ℕ → Bool) → AllUnder sc env k → AllUnder (loosen m sc) env k
all_under_loosen sc env k m u = all_under_goes sc (loosen m sc) env env k (λ y. goes_loosen (m y) (sc y)) (λ y t. refl) u

-- A variable is held while its value is made.

pub all_under_hold : (sc : Scope) (env : Environment) (k : Kont) (x : ℕ) → sc x ≡ Absent → AllUnder sc env k → AllUnder (put sc x Held) env k
all_under_hold sc env k x n u = all_under_goes sc (put sc x Held) env env k (goes_new sc x Held n) (λ y t. refl) u

-- variables that are new where fewer are bound
pub new_less : (sc sc' : Scope) (tys : List Ty) (xs : List Variable) → ((y : ℕ) → sc y ≡ Absent → sc' y ≡ Absent) → AreNew sc tys xs → AreNew sc' tys xs
new_less sc sc' [] [] f n = tt
new_less sc sc' [] (x ∷ xs) f n = absurd n
new_less sc sc' (ty ∷ tys) [] f n = absurd n
new_less sc sc' (ty ∷ tys) (x ∷ xs) f n =
    (f x.0 n.0, new_less (put sc x.0 Held) (put sc' x.0 Held) tys xs (λ y. by_test y x.0 (λ b. cond b Held (sc y) ≡ Absent → cond b Held (sc' y) ≡ Absent) (λ e h. h) (λ e h. f y h)) n.1)

-- the line of a part, which goes to a
abbrev pub holding : Within → Ctx → ℕ → Dest → ℕ → ℕ → Ctx
holding wi c x d a b = record { scope = put c.scope x Held; env = c.env; pl = c.pl; hd = c.hd; dest = d; front = a; head = b; line = new_line wi }

-- a new line in the same scope, which goes to a
abbrev pub own_line : Within → Ctx → Dest → ℕ → Ctx
own_line wi c d a = record { scope = c.scope; env = c.env; pl = c.pl; hd = c.hd; dest = d; front = a; head = 0; line = new_line wi }

pub HasAll-own : {laid : LaidOut} {s : Store} {sl : Slots} {c : Ctx} (wi : Within) (d : Dest) (a : ℕ) → HasAll laid s sl c → HasAll laid s sl (own_line wi c d a)
HasAll-own {c = c} wi d a h = HasAll-dest {c = c} {c' = own_line wi c d a} refl (record { there = λ y h. h; places = λ y h. refl; values = λ y h. refl; at_head = λ y o e. e; heads = λ y o e. refl }) h (λ y. refl) (λ y. refl) (λ y. refl) (λ q e. absurd (false≢true e)) tt

-- the line waits until these are told
abbrev pub pend : (f g : ℕ → Bool) → Ctx → Ctx
pend f g c = with_line c (await_call g (await f c.line))

pub Matches-pend : {laid : LaidOut} {s : Store} {sl : Slots} {c : Ctx} {cur : ℕ} (f g : ℕ → Bool) → Matches laid s sl c cur → Matches laid s sl (pend f g c) cur
Matches-pend {c = c} f g m = Matches-line (await_call g (await f c.line)) m.vars.told m.vars.closes m

pub keeps_holding : (wi : Within) (c : Ctx) (x : ℕ) (d : Dest) (a b : ℕ) → c.scope x ≡ Absent → Keeps c (holding wi c x d a b)
keeps_holding wi c x d a b n = record {
  there = λ y h. ap is_there (put-other c.scope x y Held (other c.scope y x h n)) ∙ h;
  places = λ y h. refl;
  values = λ y h. refl;
  at_head = λ y o e. put-other c.scope x y Held (other c.scope y x (ap is_there e) n) ∙ e;
  heads = λ y o e. refl;
}

pub HasAll-held : (wi : Within) (laid : LaidOut) (s : Store) (sl : Slots) (c : Ctx) (x : ℕ) (d : Dest) (a b : ℕ) → c.scope x ≡ Absent → HasAll laid s sl c → HasAll laid s sl (holding wi c x d a b)
HasAll-held wi laid s sl c x d a b n h = record { has = has; wide = wide; ends = ends; even = h.even; told = λ q e. absurd (false≢true e); closes = tt }
  where
    ends : (y : ℕ) → HasEnd laid s (put c.scope x Held y) (slot sl y) (end_at sl y) (value_in c.env y) (c.pl y)
    ends y = by_test y x (λ t. HasEnd laid s (cond t Held (c.scope y)) (slot sl y) (end_at sl y) (value_in c.env y) (c.pl y)) (λ e. tt) (λ e. h.ends y)

    c' : Ctx
    c' = holding wi c x d a b

    has : (y : ℕ) → Has laid s c' (put c.scope x Held y) (slot sl y) (value_in c.env y) (c.pl y) (c.hd y)
    has y = by_test y x (λ t. Has laid s c' (cond t Held (c.scope y)) (slot sl y) (value_in c.env y) (c.pl y) (c.hd y)) (λ e. tt)
        (λ e. Has-keeps laid s c c' (c.scope y) (slot sl y) (value_in c.env y) (c.pl y) (c.hd y) (keeps_holding wi c x d a b n) (h.has y))

    wide : (y : ℕ) → has_slot (put c.scope x Held y) ≡ true → y < length sl.vars
    wide y = by_test y x (λ t. has_slot (cond t Held (c.scope y)) ≡ true → y < length sl.vars) (λ e h'. subst (λ (z : ℕ). z < length sl.vars) (sym e) (h.wide x (absent_slot c.scope x n))) (λ e h'. h.wide y h')

-- its slot is set too
pub HasAll-hold : (wi : Within) (laid : LaidOut) (s : Store) (sl : Slots) (c : Ctx) (x w : ℕ) (d : Dest) (a b : ℕ) → c.scope x ≡ Absent → HasAll laid s sl c → HasAll laid s (set sl x w) (holding wi c x d a b)
HasAll-hold wi laid s sl c x w d a b n h = HasAll-held wi laid s (set sl x w) c x d a b n (HasAll-moved (moved_set x w (not_there c.scope x n)) h)

-- a head is open in the line
abbrev pub opening : Ctx → ℕ → Dest → ℕ → ℕ → Ctx
opening c x d a b = with_line (holding c.line.within c x d a b) c.line

pub keeps_opening : (c : Ctx) (x : ℕ) (d : Dest) (a b : ℕ) → c.scope x ≡ Absent → Keeps c (opening c x d a b)
keeps_opening c x d a b n = let k = keeps_holding c.line.within c x d a b n in record { there = k.there; places = k.places; values = k.values; at_head = k.at_head; heads = k.heads }

pub HasAll-open : (laid : LaidOut) (s : Store) (sl : Slots) (c : Ctx) (x w : ℕ) (d : Dest) (a b : ℕ) → c.scope x ≡ Absent → HasAll laid s sl c → HasAll laid s (set sl x w) (opening c x d a b)
HasAll-open laid s sl c x w d a b n h =
    HasAll-line {c = holding c.line.within c x d a b} c.line
    (λ q e. let t = h.told q e in let ne = other c.scope q x (settled_there (c.scope q) t.settled) n in record { settled = ap is_settled (put-other c.scope x q Held ne) ∙ t.settled; some = subst (λ (z : ℕ). 0 < z) (sym (end-other sl x q w 0 ne)) t.some })
    (closes_keeps laid s c (holding c.line.within c x d a b) c.line.overs (keeps_holding c.line.within c x d a b n) h.closes) (HasAll-hold c.line.within laid s sl c x w d a b n h)

-- Cases.

pub all_calm_less : (m m' : ℕ → Bool) (k : Kont) → ((y : ℕ) → m' y ≡ true → m y ≡ true) → AllCalm m k → AllCalm m' k
all_calm_less m m' (KEnd ty) h c = tt
all_calm_less m m' (KSide b) h c = tt
all_calm_less m m' (KLast l0 y0 s0) h c = tt
all_calm_less m m' (KHere l x s t o k) h c = (record { calm = λ y t e. c.0.calm y t (h y e) }, all_calm_less m m' k h c.1)
all_calm_less m m' (KRegion l x s t o k) h c = (record { calm = λ y t e. c.0.calm y t (h y e) }, all_calm_less m m' k h c.1)
all_calm_less m m' (KScalar l x ty t o k) h c = (record { calm = λ y t e. c.0.calm y t (h y e) }, all_calm_less m m' k h c.1)
all_calm_less m m' (KCall gs wc k) h c = tt
all_calm_less m m' (KCallScalar x ty gs t o k) h c = tt
all_calm_less m m' (KPart l i t tys ss vs ps o k) h c = (record { calm = λ y t e. c.0.calm y t (h y e) }, all_calm_less m m' k h c.1)
all_calm_less m m' (KSeveral l xs tys t o k) h c = (record { calm = λ y t e. c.0.calm y t (h y e) }, all_calm_less m m' k h c.1)

not_placed : (b : Bool) (so : Sort) (t : ℕ) → b ≡ true → loosen_one b so ≡ Placed t → ⊥
not_placed false so t e h = absurd cc
not_placed true Outside t e h = absurd cc
not_placed true Absent t e h = absurd cc
not_placed true (Scalar ty) t e h = absurd cc
not_placed true Held t e h = absurd cc
not_placed true (Placed u) t e h = absurd cc
not_placed true (Loose u) t e h = absurd cc
not_placed true (AtHead u) t e h = absurd cc
not_placed true (Field u z x k p) t e h = absurd cc

pub calm_loosened : (m : ℕ → Bool) (c : Ctx) → Calm m (loosened m c)
calm_loosened m c = record { calm = λ y t e h. not_placed (m y) (c.scope y) t e h }

loosen_goes : (b : Bool) (so : Sort) → Goes (loosen_one b so) so
loosen_goes false so = goes-refl so
loosen_goes true Outside = tt
loosen_goes true Absent = tt
loosen_goes true (Scalar ty) = refl
loosen_goes true Held = refl
loosen_goes true (Placed t) = refl
loosen_goes true (Loose t) = refl
loosen_goes true (AtHead t) = refl
loosen_goes true (Field t z x k p) = refl

pub under_scalar : (m : ℕ → Bool) (c : Ctx) → Under (loosened m c) c.scope c.env
under_scalar m c = record { sorts = λ y. loosen_goes (m y) (c.scope y); same = λ y t. refl }

pub under_holding : (m : ℕ → Bool) (c : Ctx) (x : ℕ) → c.scope x ≡ Absent → Under (loosened m c) (put c.scope x Held) c.env
under_holding m c x n = under_goes (goes_new c.scope x Held n) (λ y t. refl) (under_scalar m c)

-- What comes after a part.

pub resume-stop : (core : CoreTree) (n : ℕ) (k : Kont) (why : Reason) → resume core n k (Stops why) ≡ Stops why
resume-stop core n (KEnd ty) why = refl
resume-stop core n (KSide b) why = refl
resume-stop core n (KLast l0 y0 s0) why = refl
resume-stop core n (KHere l x s u c k) why = refl
resume-stop core n (KRegion l x s u c k) why = refl
resume-stop core n (KScalar l x ty u c k) why = refl
resume-stop core n (KCall gs wc k) why = resume-stop core (suc n) k why
resume-stop core n (KCallScalar x ty gs u c k) why = refl
resume-stop core n (KPart l i t tys ss vs ps c k) why = refl
resume-stop core n (KSeveral l xs tys u c k) why = refl

pub resume-with : (core : CoreTree) (n : ℕ) (k : Kont) (o : Outcome) (f : Datum → Outcome) → resume core n k (with_value o f) ≡ with_value o (λ v. resume core n k (f v))
resume-with core n k (Stops why) f = resume-stop core n k why
resume-with core n k (Gives v) f = refl

pub from_having : (s : Side) (env : Environment) (o : Outcome) (go : Environment → Outcome) → from_there (having o (λ v. Went (bind_side s v env))) go ≡ with_value o (λ v. go (bind_side s v env))
from_having s env (Stops why) go = refl
from_having s env (Gives v) go = refl

-- a line with a part
pub side_means : (core : CoreTree) (n : ℕ) (s : Side) (u : Term) (env : Environment) → means core n (Then (One s) u) env ≡ with_value (side_gives core n s env) (λ v. means core n u (bind_side s v env))
side_means core n s u env = from_having s env (side_gives core n s env) (λ e. means core n u e)

-- A line goes on.

module _ {core : CoreTree} {code : CodeTree} {s : Store} {sl : Slots} {fs : List Frame} {rs : List OpenRegion} {c : Ctx} {k : Kont} {m : ℕ → Bool} where
  -- its own slots and those of the lines that wait are as good
  pub line_moved : {sl' : Slots} → Moved code.laid s sl sl' c → AllMoved code.laid s sl sl' k → OnLine core code s sl fs rs c k m → OnLine core code s sl' fs rs c k m
  line_moved {sl'} mo all l = record { kind = l.kind; matches = Matches-moved mo l.matches; stack = Stack-moved core code s k sl sl' fs c.front rs all l.stack; under = l.under; given = l.given; calm = l.calm }

  -- the slot of a new variable is set
  pub line_set : (x w : ℕ) → c.scope x ≡ Absent → OnLine core code s sl fs rs c k m → OnLine core code s (set sl x w) fs rs c k m
  line_set x w new l = line_moved (moved_set x w (not_there c.scope x new)) (all_moved_set code.laid s sl c.scope c.env k x w l.under (not_there c.scope x new)) l

  pub line_grows : {s' : Store} → Grows s s' → OnLine core code s sl fs rs c k m → OnLine core code s' sl fs rs c k m
  line_grows g l = record { kind = l.kind; matches = Matches-grows g l.matches; stack = Stack-grows core code k sl fs c.front rs g l.stack; under = l.under; given = l.given; calm = l.calm }

  pub line_less : {n : ℕ → Bool} → ((y : ℕ) → n y ≡ true → m y ≡ true) → OnLine core code s sl fs rs c k m → OnLine core code s sl fs rs c k n
  line_less {n} less l = record { kind = l.kind; matches = l.matches; stack = l.stack; under = l.under; given = l.given; calm = all_calm_less m n k less l.calm }

  -- it waits for the value of x, which a term with such cases makes
  pub waiting : {at x : ℕ} {so : Sort} (t : Term) {f : ℕ → Bool} (g : ℕ → Bool) {u : Rest} {after : Dest} → OnLine core code s sl fs rs c k m → ((y : ℕ) → rest_cased u y ≡ true → m y ≡ true)
      → Follows x u k → rest_nest u ≤ nesting code → c.scope x ≡ Absent → RestCode core code c.line.within c.scope at u (end_of c.line.overs k) → RestFits core (needs_of k) u (put (loosen (cased t) c.scope) x so) after (tell_line f c.line) → ((q : ℕ) → f q ≡ true → is_settled (c.scope q) ≡ true)
      → Waits core code s sl at x so u (loosened (cased t) (pend f g c)) after (cursor rs) k
  waiting {at} {x} {so} t {f} g {u} l less free nar new low fits asked = record {
    line = record {
      low = rest_code_loosen core code c.line.within c.scope at u (end_of c.line.overs k) (cased t) low;
      matches = Matches-loosen (cased t) (Matches-pend f g l.matches);
      under = all_under_loosen c.scope c.env k (cased t) l.under;
      given = given_keeps c (loosened (cased t) (pend f g c)) 0 (given_of k) (record { there = λ y h. loosen-there (cased t y) (c.scope y) ∙ h; places = λ y h. refl; values = λ y h. refl; at_head = λ y o e. loosen-head (cased t y) (c.scope y) o e; heads = λ y o e. refl }) (λ y. goes_loosen (cased t y) (c.scope y)) l.given;
      calm = all_calm_less m (rest_cased u) k less l.calm;
      kind = l.kind;
      narrow = nar;
    };
    fits = fits;
    asked = λ q e. loosen-settled (cased t q) (c.scope q) ∙ asked q e;
    new = loosen-absent (cased t x) (c.scope x) new;
    free = free;
  }

  -- it waits for the parts of several variables, which a term with such cases makes
  pub several_waits : {at : ℕ} {xs : List Variable} {tys : List Ty} (t : Term) {u : Rest} → OnLine core code s sl fs rs c k m → ((y : ℕ) → rest_cased u y ≡ true → m y ≡ true) → AllFollow xs u k → Next u k → rest_nest u ≤ nesting code
      → length tys ≤ 8 → AreNew c.scope tys xs → RestCode core code c.line.within c.scope at u (end_of c.line.overs k) → RestFits core (needs_of k) u (bound_scope tys xs (loosen (cased t) c.scope)) c.dest (tell_line none_of c.line)
      → SeveralWaits core code s sl at xs tys u (loosened (cased t) c) (cursor rs) k
  several_waits {at} {xs} {tys} t {u} l less free next nar few new low fits = record {
    line = record {
      low = rest_code_loosen core code c.line.within c.scope at u (end_of c.line.overs k) (cased t) low;
      matches = Matches-loosen (cased t) l.matches;
      under = all_under_loosen c.scope c.env k (cased t) l.under;
      given = given_keeps c (loosened (cased t) c) 0 (given_of k) (keeps_loosened (cased t) c) (λ y. goes_loosen (cased t y) (c.scope y)) l.given;
      calm = all_calm_less m (rest_cased u) k less l.calm;
      kind = l.kind;
      narrow = nar;
    };
    fits = fits;
    few = few;
    new = new_less c.scope (loosen (cased t) c.scope) tys xs (λ y e. loosen-absent (cased t y) (c.scope y) e) new;
    free = free;
    next = next;
  }

-- a term that opens no more
pub room_less : {w d r : ℕ} {t t' : Term} {k : Kont} → nest t' ≤ nest t → MayFollow w d (Plain t) r k → MayFollow w d (Plain t') r k
room_less le h = record { free = h.free; narrow = let n = h.narrow in omega (arith, n, le); nests = let n = h.nests in omega (arith, n, le); all_room = h.all_room }

-- What is next behind a new variable.

pub follows : (x : ℕ) (u : Rest) (k : Kont) → Follows x u k → Next u k
follows x (Plain u) k h = h
follows x (Part wi s r) k h = (h.0, follows x r k h.1)
follows x (Meet p s u) k h = h.1
follows x (Leave p u) k h = h
follows x (Last b) k h = h
follows x (Fills i tys ss vs ps) k h = h

-- What is next behind several ones follows where the term's end is that of a body.
pub all_follow : (u : Term) (k : Kont) (xs : List Variable) → IsInBody k → AllFollow xs (Plain u) k
all_follow u k [] h = tt
all_follow u k (x ∷ xs) h = (h, all_follow u k xs h)
