-- Fields are reached, and a line goes on with other sorts.
use Rattle.std.proofs.Common.{◌≡◌, ℕ, ◌+◌, ◌<◌, Bool, true, false, ◌==◌, cond, List, length, refl, sym, ap, subst, ◌∙◌, arith}
use Rattle.std.proofs.lemmas.Bool.{true≢false, or_left, or_right}
use Rattle.gib_types.specs.declared.table.Ty.TheVariants.{Truth}
use Rattle.gib_types.specs.Table.{fields_at}
use Rattle.gib_types.specs.Layout.{LaidOut, is_among}
use Rattle.gib_types.specs.Tree.{Datum, truth}
use Rattle.gib_syntax.specs.Meaning.{Environment, value_in, choose, is_true}
use Rattle.gib_mem.specs.Memory.{Store, Holds}
use Rattle.gib_packed.specs.Scalars.{bit}
use Rattle.gib_packed.specs.Head.{address}
use Rattle.gib_packed.specs.Decoding.{Dec}
use Rattle.gib_core.specs.declared.atom.Variable.{Variable}
use Rattle.gib_core.specs.declared.atom.Atom.{Atom}
use Rattle.gib_core.specs.declared.atom.Access.TheVariants as by
use Rattle.gib_core.specs.Tree.{Term, Then, Reach, IfTerm, CoreTree}
use Rattle.gib_core.specs.Meaning.{value}
use Rattle.gib_code.specs.Instruction as i
use Rattle.gib_code.specs.Program.{CodeTree, IsAt}
use Rattle.gib_core.specs.Low.{operand, field_of, Field as StoredField, reaching}
use Rattle.gib_machine.specs.State.{end_at, Slots, slot, set, word, Frame, Open as OpenRegion, Silent, cursor, went, went_to, State, sets}
use Rattle.gib_machine.specs.Machine.{next}
use Rattle.gib_weave.proofs.Basics.{set_both}
use Rattle.gib_core.specs.Cost.{Cost, plus, choose_cost}
use Rattle.gib_weave.proofs.Counts.{goes_on_counted}
use Rattle.gib_core.specs.Fits.{is_settled, put, Sort, Outside, Absent, Scalar, Held, Placed, Loose, AtHead, Field, Scope, is_there, has_slot, Dest, Nowhere, Empty, InParts, Open, Fits, cased}
use Rattle.gib_packed.specs.Reaching.{there}
use Rattle.gib_weave.specs.Environment.{Ctx, IsPlaced, IsAtHead, IsField, Has, HasAll, IsDest}
use Rattle.gib_weave.specs.EndWords.{IsTold, HasEnd}
use Rattle.gib_weave.specs.Continuing.{given_of, Plain, KSide, KLast, Kont, KEnd, KHere, KRegion, KScalar, KCall, KCallScalar, KPart, KSeveral, end_of, needs_of, Goes, Under, AllUnder, Calm, AllCalm, IsCode, Agrees}
use Rattle.gib_weave.specs.Owing.{costs, Owed, resume, means}
use Rattle.gib_weave.specs.Paying.{Share, Counted, later_costs}
use Rattle.gib_weave.specs.Places.{Owned, heads}
use Rattle.gib_weave.specs.Sound.{AtTerm, at_term, Safe, rests, Moves, silent, InMemory, OnLine}
use Rattle.gib_weave.specs.Starting.{AreBodies}
use Rattle.gib_weave.proofs.Basics.{by_test, put-other, set-same, set-other, set-length, end-same, end-other, ends-length, both-other}
use Rattle.gib_weave.proofs.Groups.{same_held}
use Rattle.gib_weave.proofs.Move.{goes_settled, closes_keeps, end_kept, MovedOne, Moved, moved_same, AllMoved, Stack-moved, Keeps, Has-keeps, Fields-keeps, with_var, HasAll-set, IsDest-bind}
use Rattle.gib_weave.proofs.Sorts.{given_keeps, given_bind, all_under_bind, all_under_goes, goes-refl, code_put, is_field}
use Rattle.gib_weave.proofs.Scalars.{scalar_word}
use Rattle.gib_weave.proofs.Readings.{get_one, skip_looks, dec_small}
use Rattle.gib_weave.proofs.Numbers.{reads_number}
use Rattle.gib_weave.proofs.Opens.{few_packed}
use Rattle.gib_weave.proofs.Ends.{step_is}
use Rattle.gib_core.proofs.Fine.{few_fields}
use Rattle.gib_weave.proofs.Lines.{line_less, room_less}

-- One slot changes that inner lines alone rely on.

kept_at : (sl : Slots) (x w en y : ℕ) → x < length sl.ends → (so : Sort) → (y ≡ x → is_settled so ≡ true → 0 < end_at sl y → 0 < en) → is_settled so ≡ true → 0 < end_at sl y → 0 < end_at (set_both sl x w en) y
kept_at sl x w en y lt so kp st p = by_test y x (λ b. 0 < end_at (set_both sl x w en) y)
    (λ e. subst (λ (z : ℕ). 0 < end_at (set_both sl x w en) z) (sym e) (subst (λ (z : ℕ). 0 < z) (sym (end-same sl x w en lt)) (kp e st p)))
    (λ e. subst (λ (z : ℕ). 0 < z) (sym (end-other sl x y w en e)) p)

pub moved_at : {laid : LaidOut} {s : Store} {sl : Slots} {c : Ctx} (x w e : ℕ) → x < length sl.vars → length sl.ends ≡ length sl.vars → MovedOne laid s (c.scope x) (slot sl x) w (value_in c.env x)
    → (HasEnd laid s (c.scope x) (slot sl x) (end_at sl x) (value_in c.env x) (c.pl x) → HasEnd laid s (c.scope x) w e (value_in c.env x) (c.pl x)) → (is_settled (c.scope x) ≡ true → 0 < end_at sl x → 0 < e) → Moved laid s sl (set_both sl x w e) c
moved_at {laid} {s} {sl} {c} x w en lt ev h g kp = record { one = λ y. one y; long = set-length sl x w; ends = λ y. ends y; same_ends = ends-length sl x w en; kept = λ y. kept_at sl x w en y lt' (c.scope y) (λ e st p. kp (subst (λ (z : ℕ). is_settled (c.scope z) ≡ true) e st) (subst (λ (z : ℕ). 0 < end_at sl z) e p)) }
  where
    lt' : x < length sl.ends
    lt' = omega (arith, lt, ev)

    one : (y : ℕ) → MovedOne laid s (c.scope y) (slot sl y) (slot (set sl x w) y) (value_in c.env y)
    one y = by_test y x (λ b. MovedOne laid s (c.scope y) (slot sl y) (slot (set sl x w) y) (value_in c.env y))
        (λ e. subst (λ (z : ℕ). MovedOne laid s (c.scope z) (slot sl z) (slot (set sl x w) z) (value_in c.env z)) (sym e) (subst (λ (q : ℕ). MovedOne laid s (c.scope x) (slot sl x) q (value_in c.env x)) (sym (set-same sl x w lt)) h))
        (λ e. moved_same laid s (c.scope y) (slot sl y) (slot (set sl x w) y) (value_in c.env y) (set-other sl x y w e))

    ends : (y : ℕ) → HasEnd laid s (c.scope y) (slot sl y) (end_at sl y) (value_in c.env y) (c.pl y) → HasEnd laid s (c.scope y) (slot (set sl x w) y) (end_at (set_both sl x w en) y) (value_in c.env y) (c.pl y)
    ends y = by_test y x (λ b. HasEnd laid s (c.scope y) (slot sl y) (end_at sl y) (value_in c.env y) (c.pl y) → HasEnd laid s (c.scope y) (slot (set sl x w) y) (end_at (set_both sl x w en) y) (value_in c.env y) (c.pl y))
        (λ e. subst (λ (z : ℕ). HasEnd laid s (c.scope z) (slot sl z) (end_at sl z) (value_in c.env z) (c.pl z) → HasEnd laid s (c.scope z) (slot (set sl x w) z) (end_at (set_both sl x w en) z) (value_in c.env z) (c.pl z)) (sym e)
        (λ i. subst (λ (q : ℕ). HasEnd laid s (c.scope x) q (end_at (set_both sl x w en) x) (value_in c.env x) (c.pl x)) (sym (set-same sl x w lt)) (subst (λ (q : ℕ). HasEnd laid s (c.scope x) w q (value_in c.env x) (c.pl x)) (sym (end-same sl x w en lt')) (g i))))
        (λ e. end_kept laid s (c.scope y) (slot sl y) (slot (set sl x w) y) (end_at sl y) (end_at (set_both sl x w en) y) (value_in c.env y) (c.pl y) (λ i. set-other sl x y w e) (λ i. end-other sl x y w en e))

-- what a line relies on of the slot that changes
pub record Follow (laid : LaidOut) (s : Store) (sl : Slots) (o : Ctx) (x w e : ℕ) : Type 0 where
  pub one : MovedOne laid s (o.scope x) (slot sl x) w (value_in o.env x)
  pub end_of : HasEnd laid s (o.scope x) (slot sl x) (end_at sl x) (value_in o.env x) (o.pl x) → HasEnd laid s (o.scope x) w e (value_in o.env x) (o.pl x)
  pub kept : is_settled (o.scope x) ≡ true → 0 < end_at sl x → 0 < e

pub all_moved_at : (laid : LaidOut) (s : Store) (sl : Slots) (sc : Scope) (env : Environment) (m : ℕ → Bool) (k : Kont) (x w e : ℕ) → x < length sl.vars → length sl.ends ≡ length sl.vars → (sc x ≡ Held → ⊥) → ((o : Ctx) → Under o sc env → Calm m o → Follow laid s sl o x w e) → AllUnder sc env k → AllCalm m k → AllMoved laid s sl (set_both sl x w e) k
all_moved_at laid s sl sc env m (KEnd ty) x w e lt ev nh f u c = tt
all_moved_at laid s sl sc env m (KSide b) x w e lt ev nh f u c = tt
all_moved_at laid s sl sc env m (KLast l0 y0 s0) x w e lt ev nh f u c = set-other sl x y0 w (λ i. nh (sym (ap sc i) ∙ u))
all_moved_at laid s sl sc env m (KHere l y q t o k) x w e lt ev nh f u c = (both-other sl x y w e (λ i. nh (sym (ap sc i) ∙ u.0)), moved_at x w e lt ev (f o u.1 c.0).one (f o u.1 c.0).end_of (f o u.1 c.0).kept, all_moved_at laid s sl sc env m k x w e lt ev nh f u.2 c.1)
all_moved_at laid s sl sc env m (KRegion l y q t o k) x w e lt ev nh f u c = (both-other sl x y w e (λ i. nh (sym (ap sc i) ∙ u.0)), moved_at x w e lt ev (f o u.1 c.0).one (f o u.1 c.0).end_of (f o u.1 c.0).kept, all_moved_at laid s sl sc env m k x w e lt ev nh f u.2 c.1)
all_moved_at laid s sl sc env m (KScalar l y ty t o k) x w e lt ev nh f u c = (moved_at x w e lt ev (f o u.0 c.0).one (f o u.0 c.0).end_of (f o u.0 c.0).kept, all_moved_at laid s sl sc env m k x w e lt ev nh f u.1 c.1)
all_moved_at laid s sl sc env m (KCall gs wc k) x w e lt ev nh f u c = tt
all_moved_at laid s sl sc env m (KCallScalar y ty gs t o k) x w e lt ev nh f u c = tt
all_moved_at laid s sl sc env m (KPart l i t tys ss vs ps o k) x w e lt ev nh f u c = (moved_at x w e lt ev (f o u.0 c.0).one (f o u.0 c.0).end_of (f o u.0 c.0).kept, all_moved_at laid s sl sc env m k x w e lt ev nh f u.1 c.1)
all_moved_at laid s sl sc env m (KSeveral l ys tys t o k) x w e lt ev nh f u c =
    (same_held sl (set_both sl x w e) sc tys ys (λ y h. both-other sl x y w e (λ i. nh (sym (ap sc i) ∙ h))) u.0, moved_at x w e lt ev (f o u.1 c.0).one (f o u.1 c.0).end_of (f o u.1 c.0).kept, all_moved_at laid s sl sc env m k x w e lt ev nh f u.2 c.1)

-- A variable gets another sort, and its head another place.

abbrev pub with_sort : Ctx → ℕ → Sort → ℕ → Ctx
with_sort c x so h = record { scope = put c.scope x so; env = c.env; pl = c.pl; hd = put c.hd x h; dest = c.dest; front = c.front; head = c.head; line = c.line }

-- the new sort, as far as fields rely on it
pub record StaysHead (c : Ctx) (x : ℕ) (so : Sort) (h : ℕ) : Type 0 where
  pub there : is_there so ≡ true
  pub slot : has_slot (c.scope x) ≡ true
  pub same : (o : ℕ) → c.scope x ≡ AtHead o → (so ≡ AtHead o) × (h ≡ c.hd x)

pub keeps_sort : (c : Ctx) (x : ℕ) (so : Sort) (h : ℕ) → StaysHead c x so h → Keeps c (with_sort c x so h)
keeps_sort c x so h st = record {
  there = λ y. by_test y x (λ b. is_there (c.scope y) ≡ true → is_there (cond b so (c.scope y)) ≡ true) (λ e g. st.there) (λ e g. g);
  places = λ y g. refl;
  values = λ y g. refl;
  at_head = λ y o. by_test y x (λ b. c.scope y ≡ AtHead o → cond b so (c.scope y) ≡ AtHead o) (λ e g. (st.same o (sym (ap c.scope e) ∙ g)).0) (λ e g. g);
  heads = λ y o. by_test y x (λ b. c.scope y ≡ AtHead o → cond b h (c.hd y) ≡ c.hd y) (λ e g. (st.same o (sym (ap c.scope e) ∙ g)).1 ∙ sym (ap c.hd e)) (λ e g. refl);
}

pub HasAll-sort : (laid : LaidOut) (s : Store) (sl : Slots) (c : Ctx) (x w en : ℕ) (so : Sort) (h : ℕ) → StaysHead c x so h → Has laid s (with_sort c x so h) so w (value_in c.env x) (c.pl x) h → HasEnd laid s so w en (value_in c.env x) (c.pl x) → is_settled so ≡ true → (is_settled (c.scope x) ≡ true → 0 < end_at sl x → 0 < en) → HasAll laid s sl c → HasAll laid s (set_both sl x w en) (with_sort c x so h)
HasAll-sort laid s sl c x w en so h st hx he sso kp hs = record { has = has; wide = wide; ends = ends; even = ends-length sl x w en ∙ hs.even ∙ sym (set-length sl x w); told = told; closes = closes_keeps laid s c c' c.line.overs (keeps_sort c x so h st) hs.closes }
  where
    told : (q : ℕ) → c.line.told q ≡ true → IsTold (set_both sl x w en) (put c.scope x so) q
    told q e =
        let t = hs.told q e in
        record {
          settled = by_test q x (λ b. is_settled (cond b so (c.scope q)) ≡ true) (λ i. sso) (λ i. t.settled);
          some = kept_at sl x w en q (let lt = hs.wide x st.slot in let ev = hs.even in omega (arith, lt, ev)) (c.scope q) (λ i s2 p. kp (subst (λ (z : ℕ). is_settled (c.scope z) ≡ true) i s2) (subst (λ (z : ℕ). 0 < end_at sl z) i p)) t.settled t.some;
        }

    ends : (y : ℕ) → HasEnd laid s (put c.scope x so y) (slot (set sl x w) y) (end_at (set_both sl x w en) y) (value_in c.env y) (c.pl y)
    ends y = by_test y x (λ b. HasEnd laid s (cond b so (c.scope y)) (slot (set sl x w) y) (end_at (set_both sl x w en) y) (value_in c.env y) (c.pl y))
        (λ e. subst (λ (z : ℕ). HasEnd laid s so (slot (set sl x w) z) (end_at (set_both sl x w en) z) (value_in c.env z) (c.pl z)) (sym e) (subst (λ (q : ℕ). HasEnd laid s so q (end_at (set_both sl x w en) x) (value_in c.env x) (c.pl x)) (sym (set-same sl x w (hs.wide x st.slot)))
        (subst (λ (q : ℕ). HasEnd laid s so w q (value_in c.env x) (c.pl x)) (sym (end-same sl x w en (let lt = hs.wide x st.slot in let ev = hs.even in omega (arith, lt, ev)))) he)))
        (λ e. end_kept laid s (c.scope y) (slot sl y) (slot (set sl x w) y) (end_at sl y) (end_at (set_both sl x w en) y) (value_in c.env y) (c.pl y) (λ i. set-other sl x y w e) (λ i. end-other sl x y w en e) (hs.ends y))

    c' : Ctx
    c' = with_sort c x so h

    has : (y : ℕ) → Has laid s c' (put c.scope x so y) (slot (set sl x w) y) (value_in c.env y) (c.pl y) (put c.hd x h y)
    has y = by_test y x (λ b. Has laid s c' (cond b so (c.scope y)) (slot (set sl x w) y) (value_in c.env y) (c.pl y) (cond b h (c.hd y)))
        (λ e. subst (λ (z : ℕ). Has laid s c' so (slot (set sl x w) z) (value_in c.env z) (c.pl z) h) (sym e) (subst (λ (q : ℕ). Has laid s c' so q (value_in c.env x) (c.pl x) h) (sym (set-same sl x w (hs.wide x st.slot))) hx))
        (λ e. subst (λ (q : ℕ). Has laid s c' (c.scope y) q (value_in c.env y) (c.pl y) (c.hd y)) (sym (set-other sl x y w e)) (Has-keeps laid s c c' (c.scope y) (slot sl y) (value_in c.env y) (c.pl y) (c.hd y) (keeps_sort c x so h st) (hs.has y)))

    wide : (y : ℕ) → has_slot (put c.scope x so y) ≡ true → y < length (set sl x w).vars
    wide y = subst (λ (m : ℕ). has_slot (put c.scope x so y) ≡ true → y < m) (sym (set-length sl x w))
        (by_test y x (λ b. has_slot (cond b so (c.scope y)) ≡ true → y < length sl.vars) (λ e g. subst (λ (z : ℕ). z < length sl.vars) (sym e) (hs.wide x st.slot)) (λ e g. hs.wide y g))

pub IsDest-sort : (laid : LaidOut) (s : Store) (sl : Slots) (c : Ctx) (cur x w en : ℕ) (so : Sort) (h : ℕ) (d : Dest) → StaysHead c x so h → (c.scope x ≡ Held → ⊥) → IsDest laid s sl c d cur → IsDest laid s (set_both sl x w en) (with_sort c x so h) d cur
IsDest-sort laid s sl c cur x w en so h (Nowhere ty) st nh g = tt
IsDest-sort laid s sl c cur x w en so h (Empty t) st nh g = g
IsDest-sort laid s sl c cur x w en so h (InParts tys) st nh g = tt
IsDest-sort laid s sl c cur x w en so h (Open t y k xs dues) st nh g =
    let ne : y ≡ x → ⊥ = λ e. nh (sym (ap c.scope e) ∙ g.sort) in
    record { con = g.con; slot = set-other sl x y w ne ∙ g.slot; sort = put-other c.scope x y so ne ∙ g.sort; leads = g.leads; types = g.types; all = g.all; fields = Fields-keeps (keeps_sort c x so h st) g.fields }

pub goes_sort : (sc : Scope) (x : ℕ) (so : Sort) → Goes (sc x) so → (y : ℕ) → Goes (sc y) (put sc x so y)
goes_sort sc x so g y = by_test y x (λ b. Goes (sc y) (cond b so (sc y))) (λ e. subst (λ (z : ℕ). Goes (sc z) so) (sym e) g) (λ e. goes-refl (sc y))

-- A line with what its task has in memory.
pub record Line (core : CoreTree) (code : CodeTree) (own : Owned) (s : Store) (sl : Slots) (fs : List Frame) (rs : List OpenRegion) (ts : List ℕ) (c : Ctx) (k : Kont) (m : ℕ → Bool) : Type 0 where
  pub on : OnLine core code s sl fs rs c k m
  pub memory : InMemory own s (heads code.laid c.head c.dest k) rs ts

-- A variable is at another place, or reached: what its new sort, slot and head's place say
pub record Resorted (laid : LaidOut) (s : Store) (sl : Slots) (c : Ctx) (m : ℕ → Bool) (x w en : ℕ) (so : Sort) (h : ℕ) : Type 0 where
  pub stays : StaysHead c x so h
  pub unheld : c.scope x ≡ Held → ⊥
  pub has : Has laid s (with_sort c x so h) so w (value_in c.env x) (c.pl x) h
  pub ends : HasEnd laid s so w en (value_in c.env x) (c.pl x)
  pub settled : is_settled so ≡ true
  pub kept : is_settled (c.scope x) ≡ true → 0 < end_at sl x → 0 < en
  pub goes : Goes (c.scope x) so
  pub follow : (o : Ctx) → Under o c.scope c.env → Calm m o → Follow laid s sl o x w en

module _ {core : CoreTree} {code : CodeTree} {own : Owned} {s : Store} {sl : Slots} {fs : List Frame} {rs : List OpenRegion} {ts : List ℕ} {c : Ctx} {k : Kont} {m : ℕ → Bool} where
  -- a variable is bound whose slot is as it should be
  pub line_var : (x : ℕ) (so : Sort) (v : Datum) (pl : ℕ) → Line core code own s sl fs rs ts c k m → c.scope x ≡ Absent
      → Has code.laid s (with_var c x so v pl) so (slot sl x) v pl (c.hd x) → HasEnd code.laid s so (slot sl x) (end_at sl x) v pl → Line core code own s sl fs rs ts (with_var c x so v pl) k m
  line_var x so v pl l new has he = record {
    on = record {
      kind = l.on.kind;
      matches = record { vars = HasAll-set code.laid s sl c x so v pl new has he l.on.matches.vars; dest = IsDest-bind code.laid s sl c (cursor rs) x so v pl c.dest new l.on.matches.dest };
      stack = l.on.stack;
      under = all_under_bind c.scope c.env k x so v new l.on.under;
      given = given_bind c x so v pl (given_of k) new l.on.given;
      calm = l.on.calm;
    };
    memory = l.memory;
  }

  pub line_sort : (x w en : ℕ) (so : Sort) (h : ℕ) → Line core code own s sl fs rs ts c k m → Resorted code.laid s sl c m x w en so h → Line core code own s (set_both sl x w en) fs rs ts (with_sort c x so h) k m
  line_sort x w en so h l r = record {
    on = record {
      kind = l.on.kind;
      matches = record { vars = HasAll-sort code.laid s sl c x w en so h r.stays r.has r.ends r.settled r.kept l.on.matches.vars; dest = IsDest-sort code.laid s sl c (cursor rs) x w en so h c.dest r.stays r.unheld l.on.matches.dest };
      stack = Stack-moved core code s k sl (set_both sl x w en) fs c.front rs (all_moved_at code.laid s sl c.scope c.env m k x w en (l.on.matches.vars.wide x r.stays.slot) l.on.matches.vars.even r.unheld r.follow l.on.under l.on.calm) l.on.stack;
      under = all_under_goes c.scope (put c.scope x so) c.env c.env k (goes_sort c.scope x so r.goes) (λ y h. refl) l.on.under;
      given = given_keeps c (with_sort c x so h) 0 (given_of k) (keeps_sort c x so h r.stays) (goes_sort c.scope x so r.goes) l.on.given;
      calm = l.on.calm;
    };
    memory = l.memory;
  }

-- Reaching a field.

field_not : (t z x k p : ℕ) (so : Sort) → is_field so ≡ false → ◌≡◌ {A = Sort} (Field t z x k p) so → ⊥
field_not t z x k p so n e = true≢false (ap is_field e ∙ n)

moved_field : (laid : LaidOut) (s : Store) (o : Sort) (t z x k p w w' : ℕ) (v : Datum) → Goes o (Field t z x k p) → MovedOne laid s o w w' v
moved_field laid s Outside t z x k p w w' v g = tt
moved_field laid s Absent t z x k p w w' v g = tt
moved_field laid s (Scalar ty) t z x k p w w' v g = absurd (field_not t z x k p (Scalar ty) refl g)
moved_field laid s Held t z x k p w w' v g = absurd (field_not t z x k p Held refl g)
moved_field laid s (Placed u) t z x k p w w' v g = absurd cc
moved_field laid s (Loose u) t z x k p w w' v g = absurd cc
moved_field laid s (AtHead u) t z x k p w w' v g = absurd (field_not t z x k p (AtHead u) refl g)
moved_field laid s (Field t' z' x' k' p') t z x k p w w' v g = tt

end_field : (laid : LaidOut) (s : Store) (o : Sort) (t z x k p w w' e e' pl : ℕ) (v : Datum) → Goes o (Field t z x k p) → HasEnd laid s o w e v pl → HasEnd laid s o w' e' v pl
end_field laid s Outside t z x k p w w' e e' pl v g h = tt
end_field laid s Absent t z x k p w w' e e' pl v g h = tt
end_field laid s (Scalar ty) t z x k p w w' e e' pl v g h = tt
end_field laid s Held t z x k p w w' e e' pl v g h = tt
end_field laid s (Placed u) t z x k p w w' e e' pl v g h = absurd cc
end_field laid s (Loose u) t z x k p w w' e e' pl v g h = absurd cc
end_field laid s (AtHead u) t z x k p w w' e e' pl v g h = absurd (field_not t z x k p (AtHead u) refl g)
end_field laid s (Field t' z' x' k' p') t z x k p w w' e e' pl v g h = tt

field_stays : (c : Ctx) (y t z x k p h : ℕ) → c.scope y ≡ Field t z x k p → StaysHead c y (Placed t) h
field_stays c y t z x k p h e = record { there = refl; slot = ap has_slot e; same = λ o g. absurd (field_not t z x k p (AtHead o) refl (sym e ∙ g)) }

module _ (core : CoreTree) (code : CodeTree) (owed : Owed) (own : Owned) (sh : Share) where
  -- y is at its place
  pub reached : {s : Store} {m : State} {c : Ctx} {k : Kont} (y : Variable) (access : Rattle.gib_core.specs.declared.atom.Access.Access) (u : Term) (t z x con p : ℕ) → c.scope y.0 ≡ Field t z x con p
      → AtTerm core code owed own sh s m (Then (Reach y access) u) c k → IsCode core code c.line.within c.scope (m.ip + 1) u (end_of c.line.overs k) → Fits core (needs_of k) u (put c.scope y.0 (Placed t)) c.dest c.line
      → Safe core code owed own sh s (sets m y.0 (c.pl y.0))
  reached {s} {m} {c} {k} y access u t z x con p e at lu fit =
      let fld : IsField code.laid s c t z x con p (value_in c.env y.0) (c.pl y.0) = subst (λ (so : Sort). Has code.laid s c so (slot m.words y.0) (value_in c.env y.0) (c.pl y.0) (c.hd y.0)) e (at.line.matches.vars.has y.0) in
      let w = c.pl y.0 in
      let h = c.hd y.0 in
      let l : Line core code own s (set_both m.words y.0 w 0) m.frames m.regions m.tails (with_sort c y.0 (Placed t) h) k (cased u) = line_sort y.0 w 0 (Placed t) h (record { on = at.line; memory = at.memory }) (record {
        stays = field_stays c y.0 t z x con p h e;
        unheld = λ g. field_not t z x con p Held refl (sym e ∙ g);
        has = record { same = refl; stands = fld.stands };
        ends = record { near = λ q. there; ends = λ q. absurd (omega (arith, q)) };
        settled = refl;
        kept = λ g. absurd (true≢false (sym (sym (ap is_settled e) ∙ g)));
        goes = subst (λ (so : Sort). Goes so (Placed t)) (sym e) refl;
        follow = λ o un ca. let go = subst (λ (so : Sort). Goes (o.scope y.0) so) e (un.sorts y.0) in record {
          one = moved_field code.laid s (o.scope y.0) t z x con p (slot m.words y.0) w (value_in o.env y.0) go;
          end_of = end_field code.laid s (o.scope y.0) t z x con p (slot m.words y.0) w (end_at m.words y.0) 0 (o.pl y.0) (value_in o.env y.0) go;
          kept = λ g. absurd (true≢false (sym (goes_settled (o.scope y.0) (Field t z x con p) go g)));
        };
      }) in
      rests (at_term {u = Plain u} {c = with_sort c y.0 (Placed t) h} {k = k} record {
        ready = refl;
        group = at.group;
        low = code_put y.0 (Placed t) refl lu;
        fits = fit;
        line = l.on;
        memory = l.memory;
        ties = at.ties;
        owes = at.owes;
        counted = goes_on_counted (record { regions = omega arith; items = omega arith }) at.counted;
        room = room_less (omega arith) at.room;
      })

module _ (core : CoreTree) (code : CodeTree) (ok : AreBodies core code) (owed : Owed) (own : Owned) (sh : Share) where
  pub does_skip : {s : Store} {m : State} {c : Ctx} {k : Kont} (y z : Variable) (u : Term) → IsAt code m.ip (i.Skip y.0 z.0) → IsCode core code c.line.within c.scope (m.ip + 1) u (end_of c.line.overs k)
      → AtTerm core code owed own sh s m (Then (Reach y (by.Skip z)) u) c k → Moves core code owed own sh s m
  does_skip {s} {m} {c} {k} y z u e lu at =
      let t = at.fits.0 in
      let fld : IsField code.laid s c t z.0 at.fits.1 at.fits.2 at.fits.3 (value_in c.env y.0) (c.pl y.0) = subst (λ (so : Sort). Has code.laid s c so (slot m.words y.0) (value_in c.env y.0) (c.pl y.0) (c.hd y.0)) at.fits.5 (at.line.matches.vars.has y.0) in
      let pz : IsPlaced code.laid s at.fits.4 (slot m.words z.0) (c.pl z.0) (value_in c.env z.0) = subst (λ (so : Sort). Has code.laid s c so (slot m.words z.0) (value_in c.env z.0) (c.pl z.0) (c.hd z.0)) at.fits.6 (at.line.matches.vars.has z.0) in
      let w = c.pl y.0 in
      let over = reached core code owed own sh y (by.Skip z) u t z.0 at.fits.1 at.fits.2 at.fits.3 at.fits.5 at lu at.fits.7 in
      let sk = skip_looks core code owed own sh (λ k. let i = few_packed (fields_at code.laid.table k) in let j = few_fields code.laid.table ok.table k in omega (arith, i, j)) s m y.0 (slot m.words z.0) fld.type_before w (value_in c.env z.0) (subst (λ (q : ℕ). Dec code.laid s q fld.type_before (value_in c.env z.0) w) (sym pz.same) fld.before) at.memory.small over in
      get_one core code owed own sh (step_is code m (i.Skip y.0 z.0) at.ready e) sk.known sk.goes

  pub does_offset : {s : Store} {m : State} {c : Ctx} {k : Kont} (y : Variable) (u : Term) (stored : List StoredField) → Agrees stored c.scope → IsAt code m.ip (reaching stored y by.Offset) → IsCode core code c.line.within c.scope (m.ip + 1) u (end_of c.line.overs k)
      → AtTerm core code owed own sh s m (Then (Reach y by.Offset) u) c k → Moves core code owed own sh s m
  does_offset {s} {m} {c} {k} y u stored ag e lu at =
      let t = at.fits.0 in
      let z = at.fits.1 in
      let x = at.fits.2 in
      let con = at.fits.3 in
      let p = at.fits.4 in
      let fld : IsField code.laid s c t z x con p (value_in c.env y.0) (c.pl y.0) = subst (λ (so : Sort). Has code.laid s c so (slot m.words y.0) (value_in c.env y.0) (c.pl y.0) (c.hd y.0)) at.fits.5 (at.line.matches.vars.has y.0) in
      let hx : IsAtHead code.laid s fld.owner_type (slot m.words x) (c.hd x) (value_in c.env x) = subst (λ (so : Sort). Has code.laid s c so (slot m.words x) (value_in c.env x) (c.pl x) (c.hd x)) fld.owner (at.line.matches.vars.has x) in
      let w = c.pl y.0 in
      let same = ag.agrees y.0 t z x con p at.fits.5 in
      let ex : IsAt code m.ip (i.Offset y.0 x p) = subst (λ (q : ℕ). IsAt code m.ip (i.Offset y.0 x q)) same.1 (subst (λ (q : ℕ). IsAt code m.ip (i.Offset y.0 q (field_of stored y.0).place)) same.0 e) in
      let has : is_among code.laid.with_offsets con ≡ true = subst (λ (q : LaidOut). is_among q.with_offsets con ≡ true) (sym ok.laid) at.fits.6 in
      let bytes : Holds s (slot m.words x + p) (address w) = subst (λ (q : ℕ). Holds s (q + p) (address w)) (sym hx.same) (fld.stored has) in
      reads_number core code owed own sh s w (dec_small at.memory.small fld.stands.dec) m y.0 (slot m.words x + p) bytes (step_is code m (i.Offset y.0 x p) at.ready ex)
      (reached core code owed own sh y by.Offset u t z x con p at.fits.5 at lu at.fits.7)

module _ (core : CoreTree) (code : CodeTree) (owed : Owed) (own : Owned) (sh : Share) where
  pub does_if : {s : Store} {m : State} {c : Ctx} {k : Kont} (l : ℕ) (x : Atom) (u v : Term) → IsAt code m.ip (i.Unless (operand x) l) → IsCode core code c.line.within c.scope (m.ip + 1) u (end_of c.line.overs k) → IsCode core code c.line.within c.scope l v (end_of c.line.overs k)
      → AtTerm core code owed own sh s m (IfTerm x u v) c k → Moves core code owed own sh s m
  does_if {s} {m} {c} {k} l x u v e lu lv at =
      let w = scalar_word code.laid s m.words c x Truth refl at.line.matches.vars at.fits.0 in
      go w.0 w.1 w.2
    where
      asks : (b : Bool) → word m.words (operand x) ≡ bit b → next code m ≡ Silent (cond (bit b == 0) (went_to m l) (went m))
      asks b h = step_is code m (i.Unless (operand x) l) at.ready e ∙ ap (λ (q : ℕ). Silent (cond (q == 0) (went_to m l) (went m))) h

      owes : (b : Bool) → value c.env x ≡ truth b → resume core m.depth k (choose b (means core m.depth u c.env) (means core m.depth v c.env)) ≡ owed.all
      owes b h = ap (λ (q : Datum). resume core m.depth k (choose (is_true q) (means core m.depth u c.env) (means core m.depth v c.env))) (sym h) ∙ at.owes

      both : Bool → Cost
      both b = plus (choose_cost b (costs core m.depth m.level u c.env) (costs core m.depth m.level v c.env)) (later_costs core m.depth m.level k (choose b (means core m.depth u c.env) (means core m.depth v c.env)))

      counted : (b : Bool) → value c.env x ≡ truth b → Counted m.regions (both b) sh
      counted b h = subst (λ (q : Datum). Counted m.regions (both (is_true q)) sh) h at.counted

      go : (b : Bool) → value c.env x ≡ truth b → word m.words (operand x) ≡ bit b → Moves core code owed own sh s m
      go true h g = silent (asks true g) (rests (at_term {u = Plain u} {c = c} {k = k} record {
        ready = refl;
        group = at.group;
        low = lu;
        fits = at.fits.1;
        line = line_less (λ y q. or_left (cased u y) (cased v y) q) at.line;
        memory = at.memory;
        ties = at.ties;
        owes = owes true h;
        counted = counted true h;
        room = room_less (omega arith) at.room;
      }))
      go false h g = silent (asks false g) (rests (at_term {u = Plain v} {c = c} {k = k} record {
        ready = refl;
        group = at.group;
        low = lv;
        fits = at.fits.2;
        line = line_less (λ y q. or_right (cased u y) (cased v y) q) at.line;
        memory = at.memory;
        ties = at.ties;
        owes = owes false h;
        counted = counted false h;
        room = room_less (omega arith) at.room;
      }))
