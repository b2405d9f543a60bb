-- What is said of a store is kept when the store grows.
use Rattle.std.proofs.Common.{ℕ, ◌-◌, List, [], ◌∷◌, length, drop}
use Rattle.gib_types.specs.Layout.{LaidOut}
use Rattle.gib_types.specs.Tree.{Datum}
use Rattle.gib_syntax.specs.Meaning.{value_in}
use Rattle.gib_core.specs.Tree.{CoreTree}
use Rattle.gib_mem.specs.Memory.{Store, Grows}
use Rattle.gib_packed.proofs.Grow as g
use Rattle.gib_packed.proofs.Grow.{Dec-grows}
use Rattle.gib_packed.proofs.WalkLaws.{Turns-grows}
use Rattle.gib_code.specs.Program.{CodeTree}
use Rattle.gib_machine.specs.State.{end_at, Slots, slot, Frame, Open as OpenRegion, sink}
use Rattle.gib_machine.specs.Sides.{Waiting}
use Rattle.gib_core.specs.Fits.{Sort, Outside, Absent, Scalar, Held, Placed, Loose, AtHead, Field, Dest, Nowhere, Empty, Open, InParts, packed_due}
use Rattle.gib_core.specs.Low.{Over, packed_slots}
use Rattle.gib_weave.specs.Environment.{AllClose, Ctx, StandsAt, Has, HasAll, Fields, none, field, IsDest, Matches}
use Rattle.gib_weave.specs.EndWords.{EndWord, HasEnd}
use Rattle.gib_packed.specs.Reaching.{there}
use Rattle.gib_weave.specs.Continuing.{Rest, KSide, KLast, Kont, KEnd, KHere, KRegion, KScalar, KCall, KCallScalar, KPart, KSeveral, made}
use Rattle.gib_weave.specs.Groups.{unused}
use Rattle.gib_weave.proofs.Groups.{Group-grows}
use Rattle.gib_weave.specs.Owing.{Debt}
use Rattle.gib_weave.specs.Sound.{SideSafe}
use Rattle.gib_weave.specs.Stacks.{Paused, Waits, Stack}

-- Stores that grow.

pub grows_same : (s : Store) → Grows s s
grows_same s = record { kept = λ q b h. h }

pub grows_on : {s r q : Store} → Grows s r → Grows r q → Grows s q
grows_on g h = record { kept = λ a b e. h.kept a b (g.kept a b e) }

-- a right side that is not begun
pub side_grows : {core : CoreTree} {code : CodeTree} {d : Debt} {s r : Store} {x : Waiting} → Grows s r → SideSafe core code d s x → SideSafe core code d r x
side_grows g h = record { safe = λ q k sm. h.safe q (grows_on g k) sm }

pub StandsAt-grows : {laid : LaidOut} {s r : Store} {t a : ℕ} {v : Datum} → Grows s r → StandsAt laid s t a v → StandsAt laid r t a v
StandsAt-grows g d = record { end = d.end; dec = Dec-grows g d.dec }

pub EndWord-grows : {laid : LaidOut} {s r : Store} {t pl w e : ℕ} {v : Datum} → Grows s r → EndWord laid s t pl w e v → EndWord laid r t pl w e v
EndWord-grows g h = record { near = λ q. Turns-grows g (h.near q); ends = λ p. Dec-grows g (h.ends p) }

pub HasEnd-grows : (laid : LaidOut) (s r : Store) (so : Sort) (w e : ℕ) (v : Datum) (pl : ℕ) → Grows s r → HasEnd laid s so w e v pl → HasEnd laid r so w e v pl
HasEnd-grows laid s r Outside w e v pl g h = tt
HasEnd-grows laid s r Absent w e v pl g h = tt
HasEnd-grows laid s r (Scalar ty) w e v pl g h = tt
HasEnd-grows laid s r Held w e v pl g h = tt
HasEnd-grows laid s r (Placed t) w e v pl g h = EndWord-grows g h
HasEnd-grows laid s r (Loose t) w e v pl g h = EndWord-grows g h
HasEnd-grows laid s r (AtHead t) w e v pl g h = EndWord-grows g h
HasEnd-grows laid s r (Field t z x k p) w e v pl g h = tt

pub Has-grows : (laid : LaidOut) (s r : Store) (c : Ctx) (so : Sort) (w : ℕ) (v : Datum) (at hd : ℕ) → Grows s r → Has laid s c so w v at hd → Has laid r c so w v at hd
Has-grows laid s r c Outside w v at hd g h = tt
Has-grows laid s r c Absent w v at hd g h = tt
Has-grows laid s r c (Scalar ty) w v at hd g h = h
Has-grows laid s r c Held w v at hd g h = tt
Has-grows laid s r c (Placed t) w v at hd g h = record { same = h.same; stands = StandsAt-grows g h.stands }
Has-grows laid s r c (Loose t) w v at hd g h = StandsAt-grows g h
Has-grows laid s r c (AtHead t) w v at hd g h = record { same = h.same; tag = h.tag; known = g.kept _ _ h.known; is_head = h.is_head; stands = StandsAt-grows g h.stands }
Has-grows laid s r c (Field t z x k p) w v at hd g' h = record { there = h.there; owner_type = h.owner_type; owner = h.owner; type_before = h.type_before; before = Dec-grows g' h.before; stored = λ e. g.Holds-grows g' (h.stored e); stands = StandsAt-grows g' h.stands }

pub Fields-grows : {laid : LaidOut} {s r : Store} {c : Ctx} {a z : ℕ} {xs ts : List ℕ} → Grows s r → Fields laid s c a xs ts z → Fields laid r c a xs ts z
Fields-grows g none = none
Fields-grows g (field t p d f) = field t p (Dec-grows g d) (Fields-grows g f)

pub IsDest-grows : (laid : LaidOut) (s r : Store) (sl : Slots) (c : Ctx) (cur : ℕ) (d : Dest) → Grows s r → IsDest laid s sl c d cur → IsDest laid r sl c d cur
IsDest-grows laid s r sl c cur (Nowhere ty) g h = tt
IsDest-grows laid s r sl c cur (Empty t) g h = h
IsDest-grows laid s r sl c cur (Open t x k xs dues) g h = record { con = h.con; slot = h.slot; sort = h.sort; leads = Turns-grows g h.leads; types = h.types; all = h.all; fields = Fields-grows g h.fields }
IsDest-grows laid s r sl c cur (InParts tys) g h = tt

closes_grows : (laid : LaidOut) (s r : Store) (c : Ctx) (os : List Over) → Grows s r → AllClose laid s c os → AllClose laid r c os
closes_grows laid s r c [] g h = tt
closes_grows laid s r c (o ∷ os) g h = (record { tx = h.0.tx; head = h.0.head; there = h.0.there; ty = h.0.ty; end = h.0.end; tree = Dec-grows g h.0.tree; field = Dec-grows g h.0.field }, closes_grows laid s r c os g h.1)

pub HasAll-grows : {laid : LaidOut} {s r : Store} {sl : Slots} {c : Ctx} → Grows s r → HasAll laid s sl c → HasAll laid r sl c
HasAll-grows {laid = laid} {s = s} {r = r} {sl = sl} {c = c} g h = record { has = λ y. Has-grows laid s r c (c.scope y) (slot sl y) (value_in c.env y) (c.pl y) (c.hd y) g (h.has y); wide = h.wide; ends = λ y. HasEnd-grows laid s r (c.scope y) (slot sl y) (end_at sl y) (value_in c.env y) (c.pl y) g (h.ends y); even = h.even; told = h.told; closes = closes_grows laid s r c c.line.overs g h.closes }

pub Matches-grows : {laid : LaidOut} {s r : Store} {sl : Slots} {c : Ctx} {cur : ℕ} → Grows s r → Matches laid s sl c cur → Matches laid r sl c cur
Matches-grows {laid = laid} {s = s} {r = r} {sl = sl} {c = c} {cur = cur} g m = record { vars = HasAll-grows g m.vars; dest = IsDest-grows laid s r sl c cur c.dest g m.dest }

pub Paused-grows : {core : CoreTree} {code : CodeTree} {s r : Store} {sl : Slots} {at : ℕ} {u : Rest} {c : Ctx} {cur : ℕ} {k : Kont} → Grows s r → Paused core code s sl at u c cur k → Paused core code r sl at u c cur k
Paused-grows g l = record { low = l.low; matches = Matches-grows g l.matches; under = l.under; given = l.given; calm = l.calm; kind = l.kind; narrow = l.narrow }

pub Waits-grows : {core : CoreTree} {code : CodeTree} {s r : Store} {sl : Slots} {at x : ℕ} {so : Sort} {u : Rest} {c : Ctx} {after : Dest} {cur : ℕ} {k : Kont} → Grows s r → Waits core code s sl at x so u c after cur k → Waits core code r sl at x so u c after cur k
Waits-grows g w = record { line = Paused-grows g w.line; fits = w.fits; asked = w.asked; new = w.new; free = w.free }

pub Stack-grows : (core : CoreTree) (code : CodeTree) {s r : Store} (k : Kont) (sl : Slots) (fs : List Frame) (a : ℕ) (rs : List OpenRegion) → Grows s r → Stack core code s k sl fs a rs → Stack core code r k sl fs a rs
Stack-grows core code (KEnd ty) sl [] a rs g h = h
Stack-grows core code (KEnd ty) sl (f ∷ fs) a rs g h = absurd h
Stack-grows core code (KSide b) sl [] a rs g h = tt
Stack-grows core code (KSide b) sl (f ∷ fs) a rs g h = absurd h
Stack-grows core code (KLast l y t) sl [] a [] g h = absurd h
Stack-grows core code (KLast l y t) sl [] a (r ∷ []) g h = h
Stack-grows core code (KLast l y t) sl [] a (r ∷ q ∷ rs) g h = absurd h
Stack-grows core code (KLast l y t) sl (f ∷ fs) a rs g h = absurd h
Stack-grows core code (KHere l x t u c k) sl fs a rs g h = (h.0, h.1, Waits-grows g h.2, Stack-grows core code k sl fs c.front rs g h.3)
Stack-grows core code (KRegion l x t u c k) sl fs a [] g h = absurd h
Stack-grows core code (KRegion l x t u c k) sl fs a (q ∷ rs) g h = (h.0, h.1, h.2, Waits-grows g h.3, Stack-grows core code k sl fs c.front rs g h.4, Group-grows code.laid c.dest (made u) rs g h.5)
Stack-grows core code (KScalar l x ty u c k) sl fs a rs g h = (h.0, Waits-grows g h.1, Stack-grows core code k sl fs c.front rs g h.2, Group-grows code.laid c.dest (made u) rs g h.3)
Stack-grows core code (KCall gs wc k) sl [] a rs g h = absurd h
Stack-grows core code (KCall gs wc k) sl (f ∷ fs) a rs g h = (h.0, h.1, h.2, h.3, h.4, h.5, record { vars = HasAll-grows g h.6.vars; under = h.6.under; given = h.6.given; meets = h.6.meets }, Stack-grows core code k f.words fs a rs g h.7)
Stack-grows core code (KCallScalar x ty gs u c k) sl [] a rs g h = absurd h
Stack-grows core code (KCallScalar x ty gs u c k) sl (f ∷ fs) a rs g h = (h.0, h.1, h.2, h.3, h.4, Waits-grows g h.5, Stack-grows core code k f.words fs c.front rs g h.6, Group-grows code.laid c.dest (made u) rs g h.7)
Stack-grows core code (KPart l i t tys ss vs ps c k) sl fs a [] g h = absurd h
Stack-grows core code (KPart l i t tys ss vs ps c k) sl fs a (r ∷ rs) g h =
    let w = h.2 in (
      h.0,
      h.1,
      record { low = w.low; fits = w.fits; meets = w.meets; dest = w.dest; many = w.many; vars = HasAll-grows g w.vars; under = w.under; given = w.given; calm = w.calm; kind = w.kind; free = w.free; narrow = w.narrow },
      h.3,
      Group-grows code.laid (InParts tys) vs (sink (length (packed_due tys) - 1 - i) (unused r ∷ rs)) g h.4,
      Stack-grows core code k sl fs c.front (sink (length (packed_due tys) - 1 - i) (unused r ∷ rs)) g h.5,
    )
Stack-grows core code (KSeveral l xs tys u c k) sl fs a rs g h =
    let w = h.3 in (
      h.0,
      h.1,
      h.2,
      record { line = Paused-grows g w.line; fits = w.fits; few = w.few; new = w.new; free = w.free; next = w.next },
      Stack-grows core code k sl fs c.front (drop (length (packed_slots tys xs)) rs) g h.4,
      Group-grows code.laid c.dest (made u) (drop (length (packed_slots tys xs)) rs) g h.5,
    )
