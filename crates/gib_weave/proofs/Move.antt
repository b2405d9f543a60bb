-- What is said of a frame's slots is kept when slots change that are not relied on, and when a line knows more.
use Rattle.std.proofs.Common.{◌≡◌, ℕ, ◌+◌, ◌<◌, Bool, true, false, cond, eqb, List, [], ◌∷◌, ◌++◌, ◌-◌, length, drop, Some, append_assoc, refl, sym, ap, subst, ◌∙◌, arith, ◌≤◌}
use Rattle.std.proofs.lemmas.Bool.{true≢false}
use Rattle.gib_types.specs.Layout.{LaidOut, head_size}
use Rattle.gib_types.specs.Tree.{Datum}
use Rattle.gib_syntax.specs.Meaning.{Environment, value_in}
use Rattle.gib_mem.specs.Memory.{Store, Holds}
use Rattle.gib_packed.specs.Head.{address}
use Rattle.gib_packed.specs.Decoding.{Dec}
use Rattle.gib_core.specs.Tree.{CoreTree}
use Rattle.gib_code.specs.Program.{CodeTree}
use Rattle.gib_core.specs.Low.{Over, packed_slots}
use Rattle.gib_machine.specs.State.{Slots, slot, end_at, set, Frame, Open as OpenRegion, sink}
use Rattle.gib_weave.specs.EndWords.{both, EndWord, HasEnd, IsTold}
use Rattle.gib_core.specs.Fits.{put, Sort, Outside, Absent, Scalar, Held, Placed, Loose, AtHead, Field, Scope, is_settled, Line, is_there, has_slot, tree_type, Dest, Nowhere, Empty, Open, InParts, IsDue, more, packed_due}
use Rattle.gib_weave.specs.Environment.{AllClose, Ctx, IsScalar, StandsAt, Has, HasAll, Fields, none, field, IsDest, Matches}
use Rattle.gib_weave.specs.Continuing.{Rest, KSide, KLast, Kont, KEnd, KHere, KRegion, KScalar, KCall, KCallScalar, KPart, KSeveral, Goes, Under, AllUnder}
use Rattle.gib_weave.specs.Places.{kont_covers, heads}
use Rattle.gib_weave.specs.Stacks.{Paused, Waits, Stack}
use Rattle.gib_weave.specs.Groups.{unused}
use Rattle.gib_weave.proofs.Groups.{AreSame, same_held, starts_same}
use Rattle.gib_weave.proofs.Basics.{by_test, put-same, put-other, set-same, set-other, set-length, end-same, end-other, ends-length, both-other}

pub settled_there : (so : Sort) → is_settled so ≡ true → is_there so ≡ true
settled_there Outside h = absurd (true≢false (sym h))
settled_there Absent h = absurd (true≢false (sym h))
settled_there (Scalar ty) h = refl
settled_there Held h = refl
settled_there (Placed u) h = refl
settled_there (Loose u) h = refl
settled_there (AtHead u) h = refl
settled_there (Field u z x k p) h = refl

-- one slot's change, as far as a line relies on it
abbrev pub MovedOne : LaidOut → Store → Sort → ℕ → ℕ → Datum → Type 0
MovedOne laid s Outside w w' v = Unit {0}
MovedOne laid s Absent w w' v = Unit {0}
MovedOne laid s (Scalar ty) w w' v = w' ≡ w
MovedOne laid s Held w w' v = w' ≡ w
MovedOne laid s (Placed t) w w' v = w' ≡ w
MovedOne laid s (Loose t) w w' v = StandsAt laid s t w v → StandsAt laid s t w' v
MovedOne laid s (AtHead t) w w' v = w' ≡ w
MovedOne laid s (Field t z x k p) w w' v = Unit {0}

pub record Moved (laid : LaidOut) (s : Store) (sl sl' : Slots) (c : Ctx) : Type 0 where
  pub one : (y : ℕ) → MovedOne laid s (c.scope y) (slot sl y) (slot sl' y) (value_in c.env y)
  pub long : length sl'.vars ≡ length sl.vars
  pub ends : (y : ℕ) → HasEnd laid s (c.scope y) (slot sl y) (end_at sl y) (value_in c.env y) (c.pl y) → HasEnd laid s (c.scope y) (slot sl' y) (end_at sl' y) (value_in c.env y) (c.pl y)
  pub same_ends : length sl'.ends ≡ length sl.ends
  pub kept : (y : ℕ) → is_settled (c.scope y) ≡ true → 0 < end_at sl y → 0 < end_at sl' y

-- an end is as it was
end_moved : (laid : LaidOut) (s : Store) (t w w' e e' pl : ℕ) (v : Datum) → w' ≡ w → e' ≡ e → EndWord laid s t pl w e v → EndWord laid s t pl w' e' v
end_moved laid s t w w' e e' pl v p q h = subst (λ (z : ℕ). EndWord laid s t pl z e' v) (sym p) (subst (λ (z : ℕ). EndWord laid s t pl w z v) (sym q) h)

pub end_kept : (laid : LaidOut) (s : Store) (so : Sort) (w w' e e' : ℕ) (v : Datum) (pl : ℕ) → (is_there so ≡ true → w' ≡ w) → (is_there so ≡ true → e' ≡ e) → HasEnd laid s so w e v pl → HasEnd laid s so w' e' v pl
end_kept laid s Outside w w' e e' v pl p q h = tt
end_kept laid s Absent w w' e e' v pl p q h = tt
end_kept laid s (Scalar ty) w w' e e' v pl p q h = tt
end_kept laid s Held w w' e e' v pl p q h = tt
end_kept laid s (Placed t) w w' e e' v pl p q h = end_moved laid s t w w' e e' pl v (p refl) (q refl) h
end_kept laid s (Loose t) w w' e e' v pl p q h = end_moved laid s t w w' e e' pl v (p refl) (q refl) h
end_kept laid s (AtHead t) w w' e e' v pl p q h = end_moved laid s t w w' e e' pl v (p refl) (q refl) h
end_kept laid s (Field t z x k p') w w' e e' v pl p q h = tt

pub moved_absent : (laid : LaidOut) (s : Store) (so : Sort) (w w' : ℕ) (v : Datum) → is_there so ≡ false → MovedOne laid s so w w' v
moved_absent laid s Outside w w' v h = tt
moved_absent laid s Absent w w' v h = tt
moved_absent laid s (Scalar ty) w w' v h = absurd (true≢false h)
moved_absent laid s Held w w' v h = absurd (true≢false h)
moved_absent laid s (Placed t) w w' v h = absurd (true≢false h)
moved_absent laid s (Loose t) w w' v h = absurd (true≢false h)
moved_absent laid s (AtHead t) w w' v h = absurd (true≢false h)
moved_absent laid s (Field t z x k p) w w' v h = tt

pub moved_same : (laid : LaidOut) (s : Store) (so : Sort) (w w' : ℕ) (v : Datum) → w' ≡ w → MovedOne laid s so w w' v
moved_same laid s Outside w w' v e = tt
moved_same laid s Absent w w' v e = tt
moved_same laid s (Scalar ty) w w' v e = e
moved_same laid s Held w w' v e = e
moved_same laid s (Placed t) w w' v e = e
moved_same laid s (Loose t) w w' v e = λ h. subst (λ (z : ℕ). StandsAt laid s t z v) (sym e) h
moved_same laid s (AtHead t) w w' v e = e
moved_same laid s (Field t z x k p) w w' v e = tt

Has-moved : (laid : LaidOut) (s : Store) (c : Ctx) (so : Sort) (w w' : ℕ) (v : Datum) (at hd : ℕ) → MovedOne laid s so w w' v → Has laid s c so w v at hd → Has laid s c so w' v at hd
Has-moved laid s c Outside w w' v at hd m h = tt
Has-moved laid s c Absent w w' v at hd m h = tt
Has-moved laid s c (Scalar ty) w w' v at hd m h = subst (λ (z : ℕ). IsScalar ty z v) (sym m) h
Has-moved laid s c Held w w' v at hd m h = tt
Has-moved laid s c (Placed t) w w' v at hd m h = record { same = m ∙ h.same; stands = h.stands }
Has-moved laid s c (Loose t) w w' v at hd m h = m h
Has-moved laid s c (AtHead t) w w' v at hd m h = record { same = m ∙ h.same; tag = h.tag; known = h.known; is_head = h.is_head; stands = h.stands }
Has-moved laid s c (Field t z x k p) w w' v at hd m h = h

pub IsDest-moved : (laid : LaidOut) (s : Store) (sl sl' : Slots) (c : Ctx) (cur : ℕ) (d : Dest) → Moved laid s sl sl' c → IsDest laid s sl c d cur → IsDest laid s sl' c d cur
IsDest-moved laid s sl sl' c cur (Nowhere ty) m h = tt
IsDest-moved laid s sl sl' c cur (Empty t) m h = h
IsDest-moved laid s sl sl' c cur (InParts tys) m h = tt
IsDest-moved laid s sl sl' c cur (Open t x k xs dues) m h =
    let e : slot sl' x ≡ slot sl x = subst (λ (so : Sort). MovedOne laid s so (slot sl x) (slot sl' x) (value_in c.env x)) h.sort (m.one x) in
    record { con = h.con; slot = e ∙ h.slot; sort = h.sort; leads = h.leads; types = h.types; all = h.all; fields = h.fields }

pub HasAll-moved : {laid : LaidOut} {s : Store} {sl sl' : Slots} {c : Ctx} → Moved laid s sl sl' c → HasAll laid s sl c → HasAll laid s sl' c
HasAll-moved {laid} {s} {sl} {sl'} {c} m h = record {
  has = λ y. Has-moved laid s c (c.scope y) (slot sl y) (slot sl' y) (value_in c.env y) (c.pl y) (c.hd y) (m.one y) (h.has y);
  wide = λ y e. subst (λ (n : ℕ). y < n) (sym m.long) (h.wide y e);
  ends = λ y. m.ends y (h.ends y);
  even = m.same_ends ∙ h.even ∙ sym m.long;
  told = λ q e. let t = h.told q e in record { settled = t.settled; some = m.kept q t.settled t.some };
  closes = h.closes;
}

pub Matches-moved : {laid : LaidOut} {s : Store} {sl sl' : Slots} {c : Ctx} {cur : ℕ} → Moved laid s sl sl' c → Matches laid s sl c cur → Matches laid s sl' c cur
Matches-moved {laid} {s} {sl} {sl'} {c} {cur} m h = record { vars = HasAll-moved m h.vars; dest = IsDest-moved laid s sl sl' c cur c.dest m h.dest }

pub Paused-moved : {core : CoreTree} {code : CodeTree} {s : Store} {sl sl' : Slots} {at : ℕ} {u : Rest} {c : Ctx} {cur : ℕ} {k : Kont} → Moved code.laid s sl sl' c → Paused core code s sl at u c cur k → Paused core code s sl' at u c cur k
Paused-moved m l = record { low = l.low; matches = Matches-moved m l.matches; under = l.under; given = l.given; calm = l.calm; kind = l.kind; narrow = l.narrow }

Waits-moved : {core : CoreTree} {code : CodeTree} {s : Store} {sl sl' : Slots} {at x : ℕ} {so : Sort} {u : Rest} {c : Ctx} {after : Dest} {cur : ℕ} {k : Kont} → Moved code.laid s sl sl' c → Waits core code s sl at x so u c after cur k → Waits core code s sl' at x so u c after cur k
Waits-moved m w = record { line = Paused-moved m w.line; fits = w.fits; asked = w.asked; new = w.new; free = w.free }

-- the lines of this frame that wait rely on none of the changes
abbrev pub AllMoved : LaidOut → Store → Slots → Slots → Kont → Type 0
AllMoved laid s sl sl' (KEnd ty) = Unit {0}
AllMoved laid s sl sl' (KSide b) = Unit {0}
AllMoved laid s sl sl' (KLast l0 y0 s0) = slot sl' y0 ≡ slot sl y0
AllMoved laid s sl sl' (KHere l x t u c k) = (both sl' x ≡ both sl x) × Moved laid s sl sl' c × AllMoved laid s sl sl' k
AllMoved laid s sl sl' (KRegion l x t u c k) = (both sl' x ≡ both sl x) × Moved laid s sl sl' c × AllMoved laid s sl sl' k
AllMoved laid s sl sl' (KScalar l x ty u c k) = Moved laid s sl sl' c × AllMoved laid s sl sl' k
AllMoved laid s sl sl' (KCall gs wc k) = Unit {0}
AllMoved laid s sl sl' (KCallScalar x ty gs u c k) = Unit {0}
AllMoved laid s sl sl' (KPart l i t tys ss vs ps c k) = Moved laid s sl sl' c × AllMoved laid s sl sl' k
AllMoved laid s sl sl' (KSeveral l xs tys u c k) = AreSame sl sl' (packed_slots tys xs) × Moved laid s sl sl' c × AllMoved laid s sl sl' k

pub Stack-moved : (core : CoreTree) (code : CodeTree) (s : Store) (k : Kont) (sl sl' : Slots) (fs : List Frame) (a : ℕ) (rs : List OpenRegion) → AllMoved code.laid s sl sl' k → Stack core code s k sl fs a rs → Stack core code s k sl' fs a rs
Stack-moved core code s (KEnd ty) sl sl' [] a rs m h = h
Stack-moved core code s (KEnd ty) sl sl' (f ∷ fs) a rs m h = absurd h
Stack-moved core code s (KSide b) sl sl' [] a rs m h = tt
Stack-moved core code s (KSide b) sl sl' (f ∷ fs) a rs m h = absurd h
Stack-moved core code s (KLast l y t) sl sl' [] a [] m h = absurd h
Stack-moved core code s (KLast l y t) sl sl' [] a (r ∷ []) m h = (h.0, m ∙ h.1, h.2)
Stack-moved core code s (KLast l y t) sl sl' [] a (r ∷ q ∷ rs) m h = absurd h
Stack-moved core code s (KLast l y t) sl sl' (f ∷ fs) a rs m h = absurd h
Stack-moved core code s (KHere l x t u c k) sl sl' fs a rs m h = (m.0 ∙ h.0, h.1, Waits-moved m.1 h.2, Stack-moved core code s k sl sl' fs c.front rs m.2 h.3)
Stack-moved core code s (KRegion l x t u c k) sl sl' fs a [] m h = absurd h
Stack-moved core code s (KRegion l x t u c k) sl sl' fs a (q ∷ rs) m h = (m.0 ∙ h.0, h.1, h.2, Waits-moved m.1 h.3, Stack-moved core code s k sl sl' fs c.front rs m.2 h.4, h.5)
Stack-moved core code s (KScalar l x ty u c k) sl sl' fs a rs m h = (h.0, Waits-moved m.0 h.1, Stack-moved core code s k sl sl' fs c.front rs m.1 h.2, h.3)
Stack-moved core code s (KCall gs wc k) sl sl' [] a rs m h = absurd h
Stack-moved core code s (KCall gs wc k) sl sl' (f ∷ fs) a rs m h = h
Stack-moved core code s (KCallScalar x ty gs u c k) sl sl' [] a rs m h = absurd h
Stack-moved core code s (KCallScalar x ty gs u c k) sl sl' (f ∷ fs) a rs m h = h
Stack-moved core code s (KPart l i t tys ss vs ps c k) sl sl' fs a [] m h = absurd h
Stack-moved core code s (KPart l i t tys ss vs ps c k) sl sl' fs a (r ∷ rs) m h =
    let w = h.2 in (
      h.0,
      h.1,
      record { low = w.low; fits = w.fits; meets = w.meets; dest = w.dest; many = w.many; vars = HasAll-moved m.0 w.vars; under = w.under; given = w.given; calm = w.calm; kind = w.kind; free = w.free; narrow = w.narrow },
      h.3,
      h.4,
      Stack-moved core code s k sl sl' fs c.front (sink (length (packed_due tys) - 1 - i) (unused r ∷ rs)) m.1 h.5,
    )
Stack-moved core code s (KSeveral l xs tys u c k) sl sl' fs a rs m h =
    let w = h.3 in (
      starts_same sl sl' (packed_slots tys xs) rs m.0 h.0,
      h.1,
      h.2,
      record { line = Paused-moved m.1 w.line; fits = w.fits; few = w.few; new = w.new; free = w.free; next = w.next },
      Stack-moved core code s k sl sl' fs c.front (drop (length (packed_slots tys xs)) rs) m.2 h.4,
      h.5,
    )

-- A line knows more.

pub tree_settled : (i : Sort) (t : ℕ) → tree_type i ≡ Some t → is_settled i ≡ true
tree_settled Outside t h = absurd cc
tree_settled Absent t h = absurd cc
tree_settled (Scalar ty) t h = refl
tree_settled Held t h = absurd cc
tree_settled (Placed u) t h = refl
tree_settled (Loose u) t h = refl
tree_settled (AtHead u) t h = refl
tree_settled (Field u z x k p) t h = absurd cc

pub goes_settled : (o i : Sort) → Goes o i → is_settled o ≡ true → is_settled i ≡ true
goes_settled Outside i g h = absurd (true≢false (sym h))
goes_settled Absent i g h = absurd (true≢false (sym h))
goes_settled (Scalar ty) i g h = ap is_settled g
goes_settled Held i g h = absurd (true≢false (sym h))
goes_settled (Placed t) i g h = tree_settled i t g
goes_settled (Loose t) i g h = tree_settled i t g
goes_settled (AtHead t) i g h = ap is_settled g
goes_settled (Field t z x k p) i g h = absurd (true≢false (sym h))

pub tree_there : (i : Sort) (t : ℕ) → tree_type i ≡ Some t → is_there i ≡ true
tree_there Outside t h = absurd cc
tree_there Absent t h = absurd cc
tree_there (Scalar ty) t h = refl
tree_there Held t h = refl
tree_there (Placed u) t h = refl
tree_there (Loose u) t h = refl
tree_there (AtHead u) t h = refl
tree_there (Field u z x k p) t h = refl

pub goes-there : (o i : Sort) → Goes o i → is_there o ≡ true → is_there i ≡ true
goes-there Outside i g h = absurd (true≢false (sym h))
goes-there Absent i g h = absurd (true≢false (sym h))
goes-there (Scalar ty) i g h = ap is_there g
goes-there Held i g h = ap is_there g
goes-there (Placed t) i g h = tree_there i t g
goes-there (Loose t) i g h = tree_there i t g
goes-there (AtHead t) i g h = ap is_there g
goes-there (Field t z x k p) i g h = g

pub new_under : {o : Ctx} {sc : Scope} {env : Environment} (x : ℕ) → Under o sc env → is_there (sc x) ≡ false → is_there (o.scope x) ≡ false
new_under {o} {sc} x u n = go (is_there (o.scope x)) refl
  where
    go : (b : Bool) → is_there (o.scope x) ≡ b → b ≡ false
    go false e = refl
    go true e = sym (goes-there (o.scope x) (sc x) (u.sorts x) e) ∙ n

-- a slot is set that the line does not rely on
pub moved_set : {laid : LaidOut} {s : Store} {sl : Slots} {c : Ctx} (x w : ℕ) → is_there (c.scope x) ≡ false → Moved laid s sl (set sl x w) c
moved_set {laid} {s} {sl} {c} x w n = record { one = λ y. one y; long = set-length sl x w; ends = λ y. ends y; same_ends = ends-length sl x w 0; kept = λ y st p. subst (λ (z : ℕ). 0 < z) (sym (end-other sl x y w 0 (not_it y (settled_there (c.scope y) st)))) p }
  where
    not_it : (y : ℕ) → is_there (c.scope y) ≡ true → y ≡ x → ⊥
    not_it y h e = true≢false (sym h ∙ ap (λ z. is_there (c.scope z)) e ∙ n)

    ends : (y : ℕ) → HasEnd laid s (c.scope y) (slot sl y) (end_at sl y) (value_in c.env y) (c.pl y) → HasEnd laid s (c.scope y) (slot (set sl x w) y) (end_at (set sl x w) y) (value_in c.env y) (c.pl y)
    ends y = end_kept laid s (c.scope y) (slot sl y) (slot (set sl x w) y) (end_at sl y) (end_at (set sl x w) y) (value_in c.env y) (c.pl y) (λ h. set-other sl x y w (not_it y h)) (λ h. end-other sl x y w 0 (not_it y h))

    one : (y : ℕ) → MovedOne laid s (c.scope y) (slot sl y) (slot (set sl x w) y) (value_in c.env y)
    one y = by_test y x (λ b. MovedOne laid s (c.scope y) (slot sl y) (slot (set sl x w) y) (value_in c.env y))
        (λ e. moved_absent laid s (c.scope y) (slot sl y) (slot (set sl x w) y) (value_in c.env y) (ap (λ z. is_there (c.scope z)) e ∙ n))
        (λ e. moved_same laid s (c.scope y) (slot sl y) (slot (set sl x w) y) (value_in c.env y) (set-other sl x y w e))

pub held : (sc : Scope) (x y : ℕ) → sc y ≡ Held → is_there (sc x) ≡ false → y ≡ x → ⊥
held sc x y h n e = true≢false (sym (ap is_there h) ∙ ap (λ z. is_there (sc z)) e ∙ n)

-- a held variable stays held while another one is
pub put_held : (sc : Scope) (x y : ℕ) → sc y ≡ Held → put sc x Held y ≡ Held
put_held sc x y h = by_test y x (λ b. cond b Held (sc y) ≡ Held) (λ e. refl) (λ e. h)

pub all_moved_set : (laid : LaidOut) (s : Store) (sl : Slots) (sc : Scope) (env : Environment) (k : Kont) (x w : ℕ) → AllUnder sc env k → is_there (sc x) ≡ false → AllMoved laid s sl (set sl x w) k
all_moved_set laid s sl sc env (KEnd ty) x w u n = tt
all_moved_set laid s sl sc env (KSide b) x w u n = tt
all_moved_set laid s sl sc env (KLast l0 y0 s0) x w u n = set-other sl x y0 w (held sc x y0 u n)
all_moved_set laid s sl sc env (KHere l y s' t c k) x w u n = (both-other sl x y w 0 (held sc x y u.0 n), moved_set x w (new_under x u.1 n), all_moved_set laid s sl sc env k x w u.2 n)
all_moved_set laid s sl sc env (KRegion l y s' t c k) x w u n = (both-other sl x y w 0 (held sc x y u.0 n), moved_set x w (new_under x u.1 n), all_moved_set laid s sl sc env k x w u.2 n)
all_moved_set laid s sl sc env (KScalar l y ty t c k) x w u n = (moved_set x w (new_under x u.0 n), all_moved_set laid s sl sc env k x w u.1 n)
all_moved_set laid s sl sc env (KCall gs wc k) x w u n = tt
all_moved_set laid s sl sc env (KCallScalar y ty gs t c k) x w u n = tt
all_moved_set laid s sl sc env (KPart l i t tys ss vs ps c k) x w u n = (moved_set x w (new_under x u.0 n), all_moved_set laid s sl sc env k x w u.1 n)
all_moved_set laid s sl sc env (KSeveral l ys tys t c k) x w u n =
    (same_held sl (set sl x w) sc tys ys (λ y h. both-other sl x y w 0 (held sc x y h n)) u.0, moved_set x w (new_under x u.1 n), all_moved_set laid s sl sc env k x w u.2 n)

-- what is there in one line is so in the other
pub record Keeps (c c' : Ctx) : Type 0 where
  pub there : (y : ℕ) → is_there (c.scope y) ≡ true → is_there (c'.scope y) ≡ true
  pub places : (y : ℕ) → is_there (c.scope y) ≡ true → c'.pl y ≡ c.pl y
  pub values : (y : ℕ) → is_there (c.scope y) ≡ true → value_in c'.env y ≡ value_in c.env y
  pub at_head : (y o : ℕ) → c.scope y ≡ AtHead o → c'.scope y ≡ AtHead o
  pub heads : (y o : ℕ) → c.scope y ≡ AtHead o → c'.hd y ≡ c.hd y

pub Has-keeps : (laid : LaidOut) (s : Store) (c c' : Ctx) (so : Sort) (w : ℕ) (v : Datum) (at hd : ℕ) → Keeps c c' → Has laid s c so w v at hd → Has laid s c' so w v at hd
Has-keeps laid s c c' Outside w v at hd k h = tt
Has-keeps laid s c c' Absent w v at hd k h = tt
Has-keeps laid s c c' (Scalar ty) w v at hd k h = h
Has-keeps laid s c c' Held w v at hd k h = tt
Has-keeps laid s c c' (Placed t) w v at hd k h = h
Has-keeps laid s c c' (Loose t) w v at hd k h = h
Has-keeps laid s c c' (AtHead t) w v at hd k h = h
Has-keeps laid s c c' (Field t z x con p) w v at hd k h = record {
  there = k.there z h.there;
  owner_type = h.owner_type;
  owner = k.at_head x h.owner_type h.owner;
  type_before = h.type_before;
  before = subst (λ (q : ℕ). Dec laid s q h.type_before (value_in c'.env z) at) (sym (k.places z h.there)) (subst (λ (q : Datum). Dec laid s (c.pl z) h.type_before q at) (sym (k.values z h.there)) h.before);
  stored = λ e. subst (λ (q : ℕ). Holds s (q + p) (address at)) (sym (k.heads x h.owner_type h.owner)) (h.stored e);
  stands = h.stands;
}

pub closes_keeps : (laid : LaidOut) (s : Store) (c c' : Ctx) (os : List Over) → Keeps c c' → AllClose laid s c os → AllClose laid s c' os
closes_keeps laid s c c' [] k h = tt
closes_keeps laid s c c' (o ∷ os) k h = (
  record {
    tx = h.0.tx;
    head = k.at_head o.tree h.0.tx h.0.head;
    there = k.there o.field h.0.there;
    ty = h.0.ty;
    end = h.0.end;
    tree = subst (λ (q : ℕ). Dec laid s q h.0.tx (value_in c'.env o.tree) h.0.end) (sym (k.heads o.tree h.0.tx h.0.head)) (subst (λ (q : Datum). Dec laid s (c.hd o.tree) h.0.tx q h.0.end) (sym (k.values o.tree (ap is_there h.0.head))) h.0.tree);
    field = subst (λ (q : ℕ). Dec laid s q h.0.ty (value_in c'.env o.field) h.0.end) (sym (k.places o.field h.0.there)) (subst (λ (q : Datum). Dec laid s (c.pl o.field) h.0.ty q h.0.end) (sym (k.values o.field h.0.there)) h.0.field);
  },
  closes_keeps laid s c c' os k h.1,
)

pub Fields-keeps : {laid : LaidOut} {s : Store} {c c' : Ctx} {a z : ℕ} {xs ts : List ℕ} → Keeps c c' → Fields laid s c a xs ts z → Fields laid s c' a xs ts z
Fields-keeps k none = none
Fields-keeps {laid} {s} {c} {c'} {a = a} k (field {x = x} {y = y} {t = t} h p d f) =
    field (k.there x h) (k.places x h ∙ p) (subst (λ (q : Datum). Dec laid s a t q y) (sym (k.values x h)) d) (Fields-keeps k f)

pub Fields-more : {laid : LaidOut} {s : Store} {c : Ctx} {a y z t : ℕ} {xs ts : List ℕ} (x : ℕ) → is_there (c.scope x) ≡ true → c.pl x ≡ y → Fields laid s c a xs ts y → Dec laid s y t (value_in c.env x) z → Fields laid s c a (xs ++ x ∷ []) (ts ++ t ∷ []) z
Fields-more x h p none d = field h p d none
Fields-more x h p (field t' p' d' f) d = field t' p' d' (Fields-more x h p f d)

-- A variable is bound.

pub bound-other : (env : Environment) (x : ℕ) (v : Datum) (y : ℕ) → (y ≡ x → ⊥) → value_in ((x, v) ∷ env) y ≡ value_in env y
bound-other env x v y ne = by_test x y (λ b. cond b v (value_in env y) ≡ value_in env y) (λ e. absurd (ne (sym e))) (λ e. refl)

pub bound-same : (env : Environment) (x : ℕ) (v : Datum) → value_in ((x, v) ∷ env) x ≡ v
bound-same env x v = by_test x x (λ b. cond b v (value_in env x) ≡ v) (λ e. refl) (λ e. absurd (e refl))

pub bound-is : (env : Environment) (x : ℕ) (v : Datum) (y : ℕ) → value_in ((x, v) ∷ env) y ≡ cond (eqb y x) v (value_in env y)
bound-is env x v y = by_test y x (λ b. value_in ((x, v) ∷ env) y ≡ cond b v (value_in env y)) (λ e. ap (value_in ((x, v) ∷ env)) e ∙ bound-same env x v) (λ e. bound-other env x v y e)

abbrev pub with_var : Ctx → ℕ → Sort → Datum → ℕ → Ctx
with_var c x so v at = record { scope = put c.scope x so; env = (x, v) ∷ c.env; pl = put c.pl x at; hd = c.hd; dest = c.dest; front = c.front; head = c.head; line = c.line }

-- the same with another destination
abbrev pub with_dest : Ctx → Dest → Ctx
with_dest c d = record { scope = c.scope; env = c.env; pl = c.pl; hd = c.hd; dest = d; front = c.front; head = c.head; line = c.line }

-- the same with other ends
abbrev pub with_line : Ctx → Line → Ctx
with_line c ln = record { scope = c.scope; env = c.env; pl = c.pl; hd = c.hd; dest = c.dest; front = c.front; head = c.head; line = ln }

pub not_there : (sc : Scope) (x : ℕ) → sc x ≡ Absent → is_there (sc x) ≡ false
not_there sc x n = ap is_there n

pub other : (sc : Scope) (l x : ℕ) → is_there (sc l) ≡ true → sc x ≡ Absent → l ≡ x → ⊥
other sc l x t n e = true≢false (sym t ∙ ap (λ z. is_there (sc z)) e ∙ ap is_there n)

pub keeps_var : (c : Ctx) (x : ℕ) (so : Sort) (v : Datum) (at : ℕ) → c.scope x ≡ Absent → Keeps c (with_var c x so v at)
keeps_var c x so v at n = record {
  there = λ y h. ap is_there (put-other c.scope x y so (other c.scope y x h n)) ∙ h;
  places = λ y h. put-other c.pl x y at (other c.scope y x h n);
  values = λ y h. bound-other c.env x v y (other c.scope y x h n);
  at_head = λ y o e. put-other c.scope x y so (other c.scope y x (ap is_there e) n) ∙ e;
  heads = λ y o e. refl;
}

pub keeps_dest : (c : Ctx) (d : Dest) → Keeps c (with_dest c d)
keeps_dest c d = record { there = λ y h. h; places = λ y h. refl; values = λ y h. refl; at_head = λ y o e. e; heads = λ y o e. refl }

pub absent_slot : (sc : Scope) (x : ℕ) → sc x ≡ Absent → has_slot (sc x) ≡ true
absent_slot sc x n = ap has_slot n

-- a new variable, where its slot is as it should be and the others' are as they were
pub HasAll-new : (laid : LaidOut) (s : Store) (sl sl' : Slots) (c : Ctx) (x : ℕ) (so : Sort) (v : Datum) (at : ℕ) → c.scope x ≡ Absent → length sl'.vars ≡ length sl.vars → ((y : ℕ) → (y ≡ x → ⊥) → slot sl' y ≡ slot sl y) → length sl'.ends ≡ length sl.ends → ((y : ℕ) → (y ≡ x → ⊥) → end_at sl' y ≡ end_at sl y) → Has laid s (with_var c x so v at) so (slot sl' x) v at (c.hd x) → HasEnd laid s so (slot sl' x) (end_at sl' x) v at
    → HasAll laid s sl c → HasAll laid s sl' (with_var c x so v at)
HasAll-new laid s sl sl' c x so v at n len others lens other_ends h he hs = record { has = has; wide = wide; ends = ends; even = lens ∙ hs.even ∙ sym len; told = told; closes = closes_keeps laid s c c' c.line.overs (keeps_var c x so v at n) hs.closes }
  where
    told : (q : ℕ) → c.line.told q ≡ true → IsTold sl' (put c.scope x so) q
    told q e =
        let t = hs.told q e in
        let ne = other c.scope q x (settled_there (c.scope q) t.settled) n in
        record { settled = ap is_settled (put-other c.scope x q so ne) ∙ t.settled; some = subst (λ (z : ℕ). 0 < z) (sym (other_ends q ne)) t.some }

    ends : (y : ℕ) → HasEnd laid s (put c.scope x so y) (slot sl' y) (end_at sl' y) (value_in ((x, v) ∷ c.env) y) (put c.pl x at y)
    ends y = subst (λ (q : Datum). HasEnd laid s (put c.scope x so y) (slot sl' y) (end_at sl' y) q (put c.pl x at y)) (sym (bound-is c.env x v y))
        (by_test y x (λ b. HasEnd laid s (cond b so (c.scope y)) (slot sl' y) (end_at sl' y) (cond b v (value_in c.env y)) (cond b at (c.pl y)))
        (λ e. subst (λ (z : ℕ). HasEnd laid s so (slot sl' z) (end_at sl' z) v at) (sym e) he)
        (λ e. end_kept laid s (c.scope y) (slot sl y) (slot sl' y) (end_at sl y) (end_at sl' y) (value_in c.env y) (c.pl y) (λ i. others y e) (λ i. other_ends y e) (hs.ends y)))

    c' : Ctx
    c' = with_var c x so v at

    has : (y : ℕ) → Has laid s c' (put c.scope x so y) (slot sl' y) (value_in ((x, v) ∷ c.env) y) (put c.pl x at y) (c.hd y)
    has y = subst (λ (q : Datum). Has laid s c' (put c.scope x so y) (slot sl' y) q (put c.pl x at y) (c.hd y)) (sym (bound-is c.env x v y))
        (by_test y x (λ b. Has laid s c' (cond b so (c.scope y)) (slot sl' y) (cond b v (value_in c.env y)) (cond b at (c.pl y)) (c.hd y))
        (λ e. subst (λ (z : ℕ). Has laid s c' so (slot sl' z) v at (c.hd z)) (sym e) h)
        (λ e. subst (λ (q : ℕ). Has laid s c' (c.scope y) q (value_in c.env y) (c.pl y) (c.hd y)) (sym (others y e))
        (Has-keeps laid s c c' (c.scope y) (slot sl y) (value_in c.env y) (c.pl y) (c.hd y) (keeps_var c x so v at n) (hs.has y))))

    wide : (y : ℕ) → has_slot (put c.scope x so y) ≡ true → y < length sl'.vars
    wide y = subst (λ (m : ℕ). has_slot (put c.scope x so y) ≡ true → y < m) (sym len)
        (by_test y x (λ b. has_slot (cond b so (c.scope y)) ≡ true → y < length sl.vars)
        (λ e h'. subst (λ (z : ℕ). z < length sl.vars) (sym e) (hs.wide x (absent_slot c.scope x n)))
        (λ e h'. hs.wide y h'))

pub HasAll-bind : (laid : LaidOut) (s : Store) (sl : Slots) (c : Ctx) (x : ℕ) (so : Sort) (v : Datum) (w at : ℕ) → c.scope x ≡ Absent → Has laid s (with_var c x so v at) so w v at (c.hd x) → HasEnd laid s so w 0 v at → HasAll laid s sl c → HasAll laid s (set sl x w) (with_var c x so v at)
HasAll-bind laid s sl c x so v w at n h he hs =
    HasAll-new laid s sl (set sl x w) c x so v at n (set-length sl x w) (λ y e. set-other sl x y w e) (ends-length sl x w 0) (λ y e. end-other sl x y w 0 e)
    (subst (λ (q : ℕ). Has laid s (with_var c x so v at) so q v at (c.hd x)) (sym (set-same sl x w lt)) h)
    (subst (λ (q : ℕ). HasEnd laid s so q (end_at (set sl x w) x) v at) (sym (set-same sl x w lt)) (subst (λ (q : ℕ). HasEnd laid s so w q v at) (sym (end-same sl x w 0 (let ev = hs.even in omega (arith, lt, ev)))) he)) hs
  where
    lt : x < length sl.vars
    lt = hs.wide x (absent_slot c.scope x n)

-- the same where the slot is as it should be
pub HasAll-set : (laid : LaidOut) (s : Store) (sl : Slots) (c : Ctx) (x : ℕ) (so : Sort) (v : Datum) (at : ℕ) → c.scope x ≡ Absent → Has laid s (with_var c x so v at) so (slot sl x) v at (c.hd x) → HasEnd laid s so (slot sl x) (end_at sl x) v at → HasAll laid s sl c → HasAll laid s sl (with_var c x so v at)
HasAll-set laid s sl c x so v at n h he hs = HasAll-new laid s sl sl c x so v at n refl (λ y e. refl) refl (λ y e. refl) h he hs

pub HasAll-dest : {laid : LaidOut} {s : Store} {sl : Slots} {c c' : Ctx} → c'.scope ≡ c.scope → Keeps c c' → HasAll laid s sl c → ((y : ℕ) → value_in c'.env y ≡ value_in c.env y) → ((y : ℕ) → c'.pl y ≡ c.pl y) → ((y : ℕ) → c'.hd y ≡ c.hd y) → ((q : ℕ) → c'.line.told q ≡ true → IsTold sl c.scope q) → AllClose laid s c c'.line.overs → HasAll laid s sl c'
HasAll-dest {laid} {s} {sl} {c} {c'} e k h ve pe he te ac = record {
  has = λ y.
      subst (λ (z : Scope). Has laid s c' (z y) (slot sl y) (value_in c'.env y) (c'.pl y) (c'.hd y)) (sym e)
      (subst (λ (q : ℕ). Has laid s c' (c.scope y) (slot sl y) (value_in c'.env y) (c'.pl y) q) (sym (he y))
      (subst (λ (q : ℕ). Has laid s c' (c.scope y) (slot sl y) (value_in c'.env y) q (c.hd y)) (sym (pe y))
      (subst (λ (q : Datum). Has laid s c' (c.scope y) (slot sl y) q (c.pl y) (c.hd y)) (sym (ve y))
      (Has-keeps laid s c c' (c.scope y) (slot sl y) (value_in c.env y) (c.pl y) (c.hd y) k (h.has y)))));
  wide = λ y f. h.wide y (ap (λ (z : Scope). has_slot (z y)) (sym e) ∙ f);
  ends = λ y.
      subst (λ (z : Scope). HasEnd laid s (z y) (slot sl y) (end_at sl y) (value_in c'.env y) (c'.pl y)) (sym e)
      (subst (λ (q : ℕ). HasEnd laid s (c.scope y) (slot sl y) (end_at sl y) (value_in c'.env y) q) (sym (pe y))
      (subst (λ (q : Datum). HasEnd laid s (c.scope y) (slot sl y) (end_at sl y) q (c.pl y)) (sym (ve y)) (h.ends y)));
  even = h.even;
  told = λ q f. let t = te q f in record { settled = ap (λ (z : Scope). is_settled (z q)) e ∙ t.settled; some = t.some };
  closes = closes_keeps laid s c c' c'.line.overs k ac;
}

pub keeps_line : (c : Ctx) (ln : Line) → Keeps c (with_line c ln)
keeps_line c ln = record { there = λ y h. h; places = λ y h. refl; values = λ y h. refl; at_head = λ y o e. e; heads = λ y o e. refl }

-- other ends are told
pub HasAll-line : {laid : LaidOut} {s : Store} {sl : Slots} {c : Ctx} (ln : Line) → ((q : ℕ) → ln.told q ≡ true → IsTold sl c.scope q) → AllClose laid s c ln.overs → HasAll laid s sl c → HasAll laid s sl (with_line c ln)
HasAll-line {c = c} ln te ac h = HasAll-dest {c = c} {c' = with_line c ln} refl (keeps_line c ln) h (λ y. refl) (λ y. refl) (λ y. refl) te ac

pub IsDest-line : (laid : LaidOut) (s : Store) (sl : Slots) (c : Ctx) (cur : ℕ) (d : Dest) (ln : Line) → IsDest laid s sl c d cur → IsDest laid s sl (with_line c ln) d cur
IsDest-line laid s sl c cur (Nowhere ty) ln h = tt
IsDest-line laid s sl c cur (Empty t) ln h = h
IsDest-line laid s sl c cur (InParts tys) ln h = tt
IsDest-line laid s sl c cur (Open t x k xs dues) ln h = record { con = h.con; slot = h.slot; sort = h.sort; leads = h.leads; types = h.types; all = h.all; fields = Fields-keeps (keeps_line c ln) h.fields }

pub Matches-line : {laid : LaidOut} {s : Store} {sl : Slots} {c : Ctx} {cur : ℕ} (ln : Line) → ((q : ℕ) → ln.told q ≡ true → IsTold sl c.scope q) → AllClose laid s c ln.overs → Matches laid s sl c cur → Matches laid s sl (with_line c ln) cur
Matches-line {laid} {s} {sl} {c} {cur} ln te ac m = record { vars = HasAll-line ln te ac m.vars; dest = IsDest-line laid s sl c cur c.dest ln m.dest }

pub IsDest-bind : (laid : LaidOut) (s : Store) (sl : Slots) (c : Ctx) (cur x : ℕ) (so : Sort) (v : Datum) (at : ℕ) (d : Dest) → c.scope x ≡ Absent → IsDest laid s sl c d cur → IsDest laid s sl (with_var c x so v at) d cur
IsDest-bind laid s sl c cur x so v at (Nowhere ty) n h = tt
IsDest-bind laid s sl c cur x so v at (Empty t) n h = h
IsDest-bind laid s sl c cur x so v at (InParts tys) n h = tt
IsDest-bind laid s sl c cur x so v at (Open t y k xs dues) n h = record {
  con = h.con;
  slot = h.slot;
  sort = put-other c.scope x y so (held c.scope x y h.sort (ap is_there n)) ∙ h.sort;
  leads = h.leads;
  types = h.types;
  all = h.all;
  fields = Fields-keeps (keeps_var c x so v at n) h.fields;
}

pub IsDest-more : (laid : LaidOut) (s : Store) (sl : Slots) (c : Ctx) (a z x t : ℕ) (v : Datum) (d : Dest) → c.scope x ≡ Absent → IsDue d t → Dec laid s a t v z → IsDest laid s sl c d a → IsDest laid s sl (with_dest (with_var c x (Placed t) v a) (more d x)) (more d x) z
IsDest-more laid s sl c a z x t v (Nowhere ty) n o e h = absurd o
IsDest-more laid s sl c a z x t v (Empty u) n o e h = absurd o
IsDest-more laid s sl c a z x t v (InParts tys) n o e h = absurd o
IsDest-more laid s sl c a z x t v (Open u y k xs []) n o e h = absurd o
IsDest-more laid s sl c a z x t v (Open u y k xs (q ∷ dues)) n o e h =
    let c1 = with_var c x (Placed t) v a in
    let c2 = with_dest c1 (Open u y k (xs ++ x ∷ []) dues) in
    let f : Fields laid s c2 (c.head + head_size laid k) xs h.types a = Fields-keeps (keeps_dest c1 (Open u y k (xs ++ x ∷ []) dues)) (Fields-keeps (keeps_var c x (Placed t) v a n) h.fields) in
    record {
      con = h.con;
      slot = h.slot;
      sort = put-other c.scope x y (Placed t) (held c.scope x y h.sort (ap is_there n)) ∙ h.sort;
      leads = h.leads;
      types = h.types ++ q ∷ [];
      all = append_assoc h.types (q ∷ []) dues ∙ h.all;
      fields = Fields-more x (ap is_there (put-same c.scope x (Placed t))) (put-same c.pl x a) f
          (subst (λ (b : ℕ). Dec laid s a b (value_in ((x, v) ∷ c.env) x) z) (sym o) (subst (λ (b : Datum). Dec laid s a t b z) (sym (bound-same c.env x v)) e));
    }

pub covers_more : (laid : LaidOut) (h : ℕ) (d : Dest) (x : ℕ) (k : Kont) (q : ℕ) → heads laid h (more d x) k q ≡ heads laid h d k q
covers_more laid h (Nowhere ty) x k q = refl
covers_more laid h (Empty t) x k q = refl
covers_more laid h (InParts tys) x k q = refl
covers_more laid h (Open t y c xs []) x k q = refl
covers_more laid h (Open t y c xs (u ∷ dues)) x k q = refl

-- the lines that wait are a part
pub kont_less : (laid : LaidOut) (h : ℕ) (d : Dest) (k : Kont) (q : ℕ) → kont_covers laid k q ≤ heads laid h d k q
kont_less laid h (Nowhere ty) k q = omega arith
kont_less laid h (Empty t) k q = omega arith
kont_less laid h (InParts tys) k q = omega arith
kont_less laid h (Open t x c xs dues) k q = omega arith
