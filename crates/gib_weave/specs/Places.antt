-- The places that are a task's own: open heads, the rests behind its cursors, its tails; and the room that it has.
use Rattle.std.specs.Prelude.{◌≡◌, ℕ, suc, ◌+◌, ◌*◌, ◌<◌, ◌≤◌, ◌^◌, List, [], ◌∷◌, length, if◌then◌else◌, nat_lt, nat_le}
use Rattle.gib_types.specs.Layout.{LaidOut, head_size}
use Rattle.gib_mem.specs.Memory.{Store, absent, fresh, byte, set_cell}
use Rattle.gib_region.specs.Region.{rest}
use Rattle.gib_core.specs.Fits.{Dest, Empty, InParts, Nowhere, Open}
use Rattle.gib_core.specs.Low.{packed_slots}
use Rattle.gib_machine.specs.State.{Open as OpenRegion, times}
use Rattle.gib_weave.specs.Continuing.{Fills, KCall, KCallScalar, KEnd, KHere, KLast, KPart, KRegion, KScalar, KSeveral, KSide, Kont, Last, Leave, Meet, Part, Plain, Rest, nest, parts_nest, side_nest}

-- 1 where q is one of the n addresses from a on.
abbrev pub within : ℕ → ℕ → ℕ → ℕ
within a n q = if nat_le a q then (if nat_lt q (a + n) then 1 else 0) else 0

-- Besides n others: an open head at h.
abbrev pub with_head : LaidOut → (h : ℕ) → Dest → (n q : ℕ) → ℕ
with_head laid h (Nowhere ty) n q = n
with_head laid h (Empty t) n q = n
with_head laid h (Open t x k xs dues) n q = n + within h (head_size laid k) q
with_head laid h (InParts tys) n q = n

-- The open heads of the lines that wait.
abbrev pub kont_covers : LaidOut → Kont → ℕ → ℕ
kont_covers laid (KEnd ty) q = 0
kont_covers laid (KSide b) q = 0
kont_covers laid (KLast l y s) q = 0
kont_covers laid (KHere l x s u c k) q = with_head laid c.head c.dest (kont_covers laid k q) q
kont_covers laid (KRegion l x s u c k) q = with_head laid c.head c.dest (kont_covers laid k q) q
kont_covers laid (KScalar l x ty u c k) q = with_head laid c.head c.dest (kont_covers laid k q) q
kont_covers laid (KCall gs c k) q = kont_covers laid k q
kont_covers laid (KCallScalar x ty gs u c k) q = with_head laid c.head c.dest (kont_covers laid k q) q
kont_covers laid (KPart l i t tys ss vs ps c k) q = with_head laid c.head c.dest (kont_covers laid k q) q
kont_covers laid (KSeveral l xs tys u c k) q = with_head laid c.head c.dest (kont_covers laid k q) q

-- All open heads: those, and one of the running term.
abbrev pub heads : LaidOut → (h : ℕ) → Dest → Kont → ℕ → ℕ
heads laid h d k q = with_head laid h d (kont_covers laid k q) q

-- The rests of their chunks behind the cursors.
abbrev pub rest_covers : List OpenRegion → ℕ → ℕ
rest_covers [] q = 0
rest_covers (r ∷ rs) q = within r.cur (rest r.cur) q + rest_covers rs q

-- The tails.
abbrev pub tail_covers : List ℕ → ℕ → ℕ
tail_covers [] q = 0
tail_covers (t ∷ ts) q = within t (rest t) q + tail_covers ts q

-- Behind each cursor there is room for a redirect.
abbrev pub HaveRoom : List OpenRegion → Type 0
HaveRoom [] = Unit {0}
HaveRoom (r ∷ rs) = (9 ≤ rest r.cur) × HaveRoom rs

-- Behind each tail there is.
abbrev pub TailsHaveRoom : List ℕ → Type 0
TailsHaveRoom [] = Unit {0}
TailsHaveRoom (t ∷ ts) = (9 ≤ rest t) × TailsHaveRoom ts

-- The addresses that are a task's own: 1 there, 0 elsewhere.
abbrev pub Owned : Type 0
Owned = ℕ → ℕ

-- So many addresses from a on are a task's own and fresh.
pub record AllFresh (own : Owned) (s : Store) (a n : ℕ) : Type 0 where
  pub mine : (q : ℕ) → a ≤ q → q < a + n → 0 < own q
  pub all : (q : ℕ) → a ≤ q → q < a + n → s q ≡ fresh

-- The bytes were put from a on, one after another.
abbrev pub put_all : Store → ℕ → List ℕ → Store
put_all s a [] = s
put_all s a (b ∷ bs) = put_all (set_cell s a (byte b)) (a + 1) bs

-- The places are the task's own, fresh, and apart.
pub record Apart (own : Owned) (s : Store) (n : ℕ → ℕ) : Type 0 where
  pub mine : (q : ℕ) → n q ≤ own q
  pub once : (q : ℕ) → n q ≤ 1
  pub fresh : (q : ℕ) → 0 < n q → s q ≡ fresh

-- Addresses are those of fewer than 2 ^ 32 chunks.
pub record IsSmall (s : Store) : Type 0 where
  pub small : (q : ℕ) → 2 ^ 44 ≤ q → s q ≡ absent

-- Nobody had the chunk.
pub record IsNew (s : Store) (c : ℕ) : Type 0 where
  pub new : (q : ℕ) → 4096 * c ≤ q → q < 4096 * c + 4096 → s q ≡ absent
  pub small : c < 2 ^ 32

-- There is room for what is next in a line, and w more; the room that it leaves behind.
abbrev pub HasRoom : ℕ → Rest → ℕ → Type 0
HasRoom w (Plain u) r = nest u + w ≤ r
HasRoom w (Part wi s u) r = (side_nest s + w ≤ r) × HasRoom w u r
HasRoom w (Meet p s u) r = (side_nest s + w ≤ r) × (nest u + w ≤ suc r)
HasRoom w (Leave p u) r = nest u + w ≤ suc r
HasRoom w (Last b) r = Unit {0}
HasRoom w (Fills i tys ss vs ps) r = parts_nest ps + w ≤ r

-- The room that is left behind a line, when so much is now.
abbrev pub freed : Rest → ℕ → ℕ
freed (Plain u) r = r
freed (Part wi s u) r = freed u r
freed (Meet p s u) r = suc r
freed (Leave p u) r = suc r
freed (Last b) r = r
freed (Fills i tys ss vs ps) r = r

-- There is room for the regions of the lines that wait, with so many calls and so much room left.
abbrev pub AllRoom : ℕ → ℕ → ℕ → Kont → Type 0
AllRoom w n r (KEnd ty) = Unit {0}
AllRoom w n r (KSide b) = Unit {0}
AllRoom w n r (KLast l y s) = Unit {0}
AllRoom w n r (KHere l x s u c k) = HasRoom (times n w) u r × AllRoom w n (freed u r) k
AllRoom w n r (KRegion l x s u c k) = HasRoom (times n w) u (suc r) × AllRoom w n (freed u (suc r)) k
AllRoom w n r (KScalar l x ty u c k) = HasRoom (times n w) u r × AllRoom w n (freed u r) k
AllRoom w n r (KCall gs c k) = AllRoom w (suc n) r k
AllRoom w n r (KCallScalar x ty gs u c k) = HasRoom (times (suc n) w) u r × AllRoom w (suc n) (freed u r) k
AllRoom w n r (KPart l i t tys ss vs ps c k) = (parts_nest ps + times n w ≤ r) × AllRoom w n r k
AllRoom w n r (KSeveral l xs tys u c k) = HasRoom (times n w) u (length (packed_slots tys xs) + r) × AllRoom w n (freed u (length (packed_slots tys xs) + r)) k

-- With a chunk that was drawn.
abbrev pub with_chunk : Owned → ℕ → Owned
with_chunk own c q = own q + within (4096 * c) 4096 q
