-- What stands in a payload that is read as a memory.
use Rattle.std.proofs.Common.{◌≡◌, ℕ, zero, suc, ◌+◌, ◌<◌, ◌≤◌, ◌-◌, ◌≢◌, List, [], ◌∷◌, ◌++◌, length, take, drop, get_or, refl, sym, ap, ap₂, subst, ◌∙◌, arith, inl, inr, length-append, Option, Some, None}
use Rattle.std.specs.Prelude.{slice_get, Bool, true, false, ℤ, FitsSigned}
use Rattle.std.specs.Int.{w64}
use Rattle.std.proofs.lemmas.Bool.Decides.{eqb_tells}
use Rattle.std.proofs.lemmas.Option.{slice_get-get_or, slice_get_past}
use Rattle.gib_types.specs.declared.table.Ty.{Ty}
use Rattle.gib_types.specs.declared.table.Ty.TheVariants as ty
use Rattle.gib_types.specs.declared.table.TyId.{TyId}
use Rattle.gib_types.specs.Table.{Table, con_at, fields_at, IsTable}
use Rattle.gib_types.specs.Layout.{LaidOut, head_size}
use Rattle.gib_types.specs.Tree.{Datum, whole, truth, con, Data, none, more, HasType, HaveTypes}
use Rattle.gib_mem.specs.Memory.{Cell, Store, Memory, Holds, byte, absent, fresh, set_cell, after_put, look_of, IsThere, AreKnown, none as no_byte, more as one_byte}
use Rattle.gib_mem.proofs.Puts.{set_same, set_other}
use Rattle.gib_packed.specs.Decoding.{Dec, head, Decs, done, whole_field, truth_field, tree_field}
use Rattle.gib_packed.specs.Scalars.{scalars, number, bit}
use Rattle.gib_packed.proofs.HeadLemmas.{Decs-scalars}
use Rattle.gib_packed.proofs.HoldsLemmas.{Holds-first, Holds-rest, same_byte}
use Rattle.gib_packed.proofs.SpanLemmas.{con_within}
use Rattle.gib_packed.proofs.StoredLemmas.{Holds-front, Holds-behind}
use Rattle.gib_file.specs.Packed.{tree, trees, Packed}
use Rattle.gib_print.specs.InPlace.{cell_of, cells_of, cells_with, behind_byte, read_only, packed_layout}

-- ---- bytes

-- the first of the bytes behind a place
record FirstAt (bytes : List ℕ) (a b : ℕ) (bs : List ℕ) : Type 0 where
  first : slice_get bytes a ≡ Some b
  rest : drop (suc a) bytes ≡ bs

first_at : (bytes : List ℕ) (a b : ℕ) (bs : List ℕ) → drop a bytes ≡ b ∷ bs → FirstAt bytes a b bs
first_at [] zero b bs e = absurd cc
first_at [] (suc a) b bs e = absurd cc
first_at (x ∷ xs) zero b bs e = record { first = cc; rest = cc }
first_at (x ∷ xs) (suc a) b bs e = let i = first_at xs a b bs e in record { first = i.first; rest = i.rest }

-- bytes stand where they are
holds_from : (bytes : List ℕ) (a : ℕ) (bs : List ℕ) → drop a bytes ≡ bs → Holds (cells_of bytes) a bs
holds_from bytes a [] e = no_byte
holds_from bytes a (b ∷ bs) e =
    let i = first_at bytes a b bs e in
    let next : suc a ≡ a + 1 = omega arith in
    one_byte (ap cell_of i.first) (subst (λ (x : ℕ). Holds (cells_of bytes) x bs) next (holds_from bytes (suc a) bs i.rest))

past_all : (a : ℕ) → cells_of [] a ≡ absent
past_all a = ap cell_of (slice_get_past {X = ℕ} [] a (omega arith))

-- an address at which a byte stands is one of them
pub is_within : (bytes : List ℕ) (a b : ℕ) → cells_of bytes a ≡ byte b → a < length bytes
is_within [] a b e = let n = past_all a in absurd cc
is_within (x ∷ xs) zero b e = omega arith
is_within (x ∷ xs) (suc a) b e = let i = is_within xs a b e in omega (arith, i)

pub there_within : (bytes : List ℕ) (a : ℕ) → IsThere (cells_of bytes a) → a < length bytes
there_within [] zero h = absurd h
there_within [] (suc a) h = absurd h
there_within (x ∷ xs) zero h = omega arith
there_within (x ∷ xs) (suc a) h = let i = there_within xs a h in omega (arith, i)

-- nothing is put there
pub never_fresh : (bytes : List ℕ) (a : ℕ) → cells_of bytes a ≡ fresh → ⊥
never_fresh bytes a e = go (slice_get bytes a) e
  where
    go : (o : Option ℕ) → cell_of o ≡ fresh → ⊥
    go None e = absurd cc
    go (Some b) e = absurd cc

-- the byte there
pub is_byte : (bytes : List ℕ) (a : ℕ) → a < length bytes → cells_of bytes a ≡ byte (get_or bytes a 0)
is_byte bytes a lt = ap cell_of (slice_get-get_or bytes a 0 lt)

-- bytes that stand from a place on are those from there on
record StandsFrom (bytes : List ℕ) (a : ℕ) (bs : List ℕ) : Type 0 where
  within : 0 < length bs → a + length bs ≤ length bytes
  are : take (length bs) (drop a bytes) ≡ bs

next_at : (bytes : List ℕ) (a b : ℕ) → cells_of bytes a ≡ byte b → drop a bytes ≡ b ∷ drop (suc a) bytes
next_at [] a b e = let n = past_all a in absurd cc
next_at (x ∷ xs) zero b e = cc
next_at (x ∷ xs) (suc a) b e = next_at xs a b e

stands_from : (bytes : List ℕ) (a : ℕ) (bs : List ℕ) → Holds (cells_of bytes) a bs → StandsFrom bytes a bs
stands_from bytes a [] h = record { within = λ lt. absurd (omega (arith, lt)); are = refl }
stands_from bytes a (b ∷ bs) h =
    let e = Holds-first h in
    let next : a + 1 ≡ suc a = omega arith in
    let i = stands_from bytes (suc a) bs (subst (λ (x : ℕ). Holds (cells_of bytes) x bs) next (Holds-rest h)) in
    let here = is_within bytes a b e in
    record {
      within = λ lt. last_within bytes a bs here i.within;
      are = ap (λ (xs : List ℕ). take (suc (length bs)) xs) (next_at bytes a b e) ∙ ap (λ (xs : List ℕ). b ∷ xs) i.are;
    }
  where
    last_within : (bytes : List ℕ) (a : ℕ) (bs : List ℕ) → a < length bytes → (0 < length bs → suc a + length bs ≤ length bytes) → a + suc (length bs) ≤ length bytes
    last_within bytes a [] here w = omega (arith, here)
    last_within bytes a (b ∷ bs) here w = let z = w (omega arith) in omega (arith, z)

-- the eight bytes of a number are there, and are these
pub eight_within : (bytes : List ℕ) (a : ℕ) (bs : List ℕ) → Holds (cells_of bytes) a bs → length bs ≡ 8 → a + 8 ≤ length bytes
eight_within bytes a bs h n = let i = (stands_from bytes a bs h).within (omega (arith, n)) in omega (arith, i, n)

pub eight_are : (bytes : List ℕ) (a : ℕ) (bs : List ℕ) → Holds (cells_of bytes) a bs → length bs ≡ 8 → take 8 (drop a bytes) ≡ bs
eight_are bytes a bs h n = subst (λ (k : ℕ). take k (drop a bytes) ≡ bs) n (stands_from bytes a bs h).are

-- ---- the place behind the bytes

at_or_not : {P : Type 0} (q n : ℕ) → (q ≡ n → P) → (q ≢ n → P) → P
at_or_not q n here other = elim (eqb_tells q n) [
  | inl same ↦ here same.1
  | inr apart ↦ other apart.1
]

-- elsewhere stands what the bytes are
elsewhere_open : (bytes : List ℕ) (q : ℕ) → q ≢ length bytes → cells_with (Some None) bytes q ≡ cells_of bytes q
elsewhere_open bytes q ne = set_other (cells_of bytes) (length bytes) fresh q ne

elsewhere_same : (behind : Option (Option ℕ)) (bytes : List ℕ) (q : ℕ) → q ≢ length bytes → cells_with behind bytes q ≡ cells_of bytes q
elsewhere_same None bytes q ne = refl
elsewhere_same (Some None) bytes q ne = elsewhere_open bytes q ne
elsewhere_same (Some (Some b)) bytes q ne = set_other (cells_with (Some None) bytes) (length bytes) (byte b) q ne ∙ elsewhere_open bytes q ne

within_same : (behind : Option (Option ℕ)) (bytes : List ℕ) (q : ℕ) → q < length bytes → cells_with behind bytes q ≡ cells_of bytes q
within_same behind bytes q lt = elsewhere_same behind bytes q (λ e. absurd (omega (arith, lt, e)))

-- at an address where something is there
pub there_until : (behind : Option (Option ℕ)) (bytes : List ℕ) (q : ℕ) → IsThere (cells_with behind bytes q) → q ≤ length bytes
there_until behind bytes q h = at_or_not q (length bytes) (λ e. omega (arith, e)) (λ ne. let i = there_within bytes q (subst IsThere (elsewhere_same behind bytes q ne) h) in omega (arith, i))

-- a known byte is there, and is what is read
pub byte_there : (c : Cell) (b : ℕ) → c ≡ byte b → IsThere c
byte_there c b e = subst IsThere (sym e) (tt {0})

pub byte_read : (c : Cell) (b r : ℕ) → c ≡ byte b → r ≡ look_of c → c ≡ byte r
byte_read c b r e f = e ∙ ap byte (sym (f ∙ ap look_of e))

pub within_read : (behind : Option (Option ℕ)) (bytes : List ℕ) (q : ℕ) → q < length bytes → get_or bytes q 0 ≡ look_of (cells_with behind bytes q)
within_read behind bytes q lt = sym (ap look_of (within_same behind bytes q lt ∙ is_byte bytes q lt))

pub behind_read : (behind : Option (Option ℕ)) (bytes : List ℕ) (q : ℕ) → length bytes ≤ q → IsThere (cells_with behind bytes q) → behind_byte behind ≡ look_of (cells_with behind bytes q)
behind_read None bytes q le h = let i = there_within bytes q h in absurd (omega (arith, i, le))
behind_read (Some None) bytes q le h =
    let here : q ≡ length bytes = let i = there_until (Some None) bytes q h in omega (arith, i, le) in
    sym (ap look_of (ap (cells_with (Some None) bytes) here ∙ set_same (cells_of bytes) (length bytes) fresh))
behind_read (Some (Some b)) bytes q le h =
    let here : q ≡ length bytes = let i = there_until (Some (Some b)) bytes q h in omega (arith, i, le) in
    sym (ap look_of (ap (cells_with (Some (Some b)) bytes) here ∙ set_same (cells_with (Some None) bytes) (length bytes) (byte b)))

-- a byte is put there, where it is open
pub put_behind : (behind : Option (Option ℕ)) (bytes : List ℕ) (chunks at b : ℕ) → cells_with behind bytes at ≡ fresh → read_only (Some (Some b)) bytes chunks ≡ after_put (read_only behind bytes chunks) at b
put_behind None bytes chunks at b e = absurd (never_fresh bytes at e)
put_behind (Some None) bytes chunks at b e = at_or_not at (length bytes)
    (λ here. ap (λ (x : ℕ). after_put (read_only (Some None) bytes chunks) x b) (sym here))
    (λ ne. absurd (never_fresh bytes at (sym (elsewhere_same (Some None) bytes at ne) ∙ e)))
put_behind (Some (Some c)) bytes chunks at b e = at_or_not at (length bytes)
    (λ here. let f : cells_with (Some (Some c)) bytes (length bytes) ≡ byte c = set_same (cells_with (Some None) bytes) (length bytes) (byte c) in absurd (no_byte_fresh c (sym f ∙ ap (cells_with (Some (Some c)) bytes) (sym here) ∙ e)))
    (λ ne. absurd (never_fresh bytes at (sym (elsewhere_same (Some (Some c)) bytes at ne) ∙ e)))
  where
    no_byte_fresh : (c : ℕ) → byte c ≡ fresh → ⊥
    no_byte_fresh c e = absurd cc

-- bytes that stand before that place are those of the list
holds_within : (behind : Option (Option ℕ)) (bytes : List ℕ) (a : ℕ) (bs : List ℕ) → a + length bs ≤ length bytes → Holds (cells_with behind bytes) a bs → Holds (cells_of bytes) a bs
holds_within behind bytes a [] le h = no_byte
holds_within behind bytes a (b ∷ bs) le h = one_byte (sym (within_same behind bytes a (omega (arith, le))) ∙ Holds-first h) (holds_within behind bytes (a + 1) bs (omega (arith, le)) (Holds-rest h))

-- a list's last item, and those before it
record LastOf (n : ℕ) (bs : List ℕ) : Type 0 where
  front : List ℕ
  last : ℕ
  long : length front ≡ n
  is : bs ≡ front ++ last ∷ []

last_of : (n : ℕ) (bs : List ℕ) → length bs ≡ suc n → LastOf n bs
last_of n [] e = absurd (omega (arith, e))
last_of zero (b ∷ []) e = record { front = []; last = b; long = refl; is = refl }
last_of zero (b ∷ c ∷ bs) e = absurd (omega (arith, e))
last_of (suc n) (b ∷ bs) e = let l = last_of n bs (omega (arith, e)) in record { front = b ∷ l.front; last = l.last; long = omega (arith, l.long); is = ap (λ (xs : List ℕ). b ∷ xs) l.is }

-- eight bytes that are known end there at most
pub eight_until : (behind : Option (Option ℕ)) (bytes : List ℕ) (a : ℕ) → AreKnown (cells_with behind bytes) a 8 → a + 7 ≤ length bytes
eight_until behind bytes a k =
    let l = last_of 7 k.0 k.2 in
    let h = subst (λ (xs : List ℕ). Holds (cells_with behind bytes) a xs) l.is k.1 in
    let e = Holds-first (Holds-behind a l.front (l.last ∷ []) h) in
    let i = there_until behind bytes (a + length l.front) (byte_there _ l.last e) in
    omega (arith, i, l.long)

-- they are those of the list
pub eight_before : (behind : Option (Option ℕ)) (bytes : List ℕ) (a : ℕ) (bs : List ℕ) → a + 8 ≤ length bytes → Holds (cells_with behind bytes) a bs → length bs ≡ 8 → take 8 (drop a bytes) ≡ bs
eight_before behind bytes a bs le h n = eight_are bytes a bs (holds_within behind bytes a bs (omega (arith, le, n)) h) n

-- or the last ones of the list, and the one behind it
pub eight_over : (behind : Option (Option ℕ)) (bytes : List ℕ) (a : ℕ) (bs : List ℕ) → a + 7 ≡ length bytes → Holds (cells_with behind bytes) a bs → length bs ≡ 8 → take (length bytes - a) (drop a bytes) ++ behind_byte behind ∷ [] ≡ bs
eight_over behind bytes a bs e held n =
    let l = last_of 7 bs n in
    let h = subst (λ (xs : List ℕ). Holds (cells_with behind bytes) a xs) l.is held in
    let before = holds_within behind bytes a l.front (omega (arith, e, l.long)) (Holds-front a l.front (l.last ∷ []) h) in
    let long : length l.front ≡ length bytes - a = omega (arith, e, l.long) in
    let front = subst (λ (k : ℕ). take k (drop a bytes) ≡ l.front) long (stands_from bytes a l.front before).are in
    let known = Holds-first (Holds-behind a l.front (l.last ∷ []) h) in
    let last = behind_read behind bytes (a + length l.front) (omega (arith, e, l.long)) (byte_there _ l.last known) ∙ ap look_of known in
    ap₂ (λ (xs : List ℕ) (b : ℕ). xs ++ b ∷ []) front last ∙ sym l.is

-- ---- values

-- fields stand where their bytes are
record Lie (table : Table) (s : Store) (a : ℕ) (ts : List Ty) (vs : Data) : Type 0 where
  places : List ℕ
  decs : Decs (packed_layout table) s a ts vs places (a + length (trees vs))

abbrev FieldsLie : Table → Store → Data → Type 0
FieldsLie table s vs = (ts : List Ty) (a : ℕ) → HaveTypes table vs ts → Holds s a (trees vs) → Lie table s a ts vs

-- so does a value
value_lies : (table : Table) (s : Store) → IsTable table → (t k : ℕ) (vs : Data) (a : ℕ) → FieldsLie table s vs → con_at table t k ≡ Some k → HaveTypes table vs (fields_at table k) → Holds s a (tree (con k vs))
    → Dec (packed_layout table) s a t (con k vs) (a + length (tree (con k vs)))
value_lies table s rules t k vs a all owned typed h =
    let laid = packed_layout table in
    let ts = fields_at table k in
    let bytes : List ℕ = k ∷ scalars vs in
    let below : k < 254 = let n = con_within table t k owned in let m = rules.few in omega (arith, n, m) in
    let fields = all ts (a + length bytes) typed (Holds-behind a bytes (trees vs) h) in
    let long = Decs-scalars fields.decs in
    let size : a + length bytes ≡ a + head_size laid k = omega (arith, long) in
    let ends : a + length bytes + length (trees vs) ≡ a + length (tree (con k vs)) = let n = length-append (scalars vs) (trees vs) in omega (arith, n) in
    let decs = subst (λ (x : ℕ). Decs laid s x ts vs fields.places (a + length bytes + length (trees vs))) size fields.decs in
    subst (λ (z : ℕ). Dec laid s a t (con k vs) z) ends (head below owned (Holds-front a bytes (trees vs) h) decs)

fields_lie : (table : Table) (s : Store) → IsTable table → (vs : Data) (ts : List Ty) (a : ℕ) → HaveTypes table vs ts → Holds s a (trees vs) → Lie table s a ts vs
fields_lie table s rules none [] a h held = record { places = []; decs = let z : a ≡ a + length {A = ℕ} [] = omega arith in subst (λ (x : ℕ). Decs (packed_layout table) s a [] none [] x) z done }
fields_lie table s rules none (t ∷ ts) a h held = absurd h
fields_lie table s rules (more v vs) [] a h held = absurd h
fields_lie table s rules (more (whole z) vs) (ty.Whole ∷ ts) a h held = let r = fields_lie table s rules vs ts a h.1 held in record { places = r.places; decs = whole_field h.0 r.decs }
fields_lie table s rules (more (truth b) vs) (ty.Truth ∷ ts) a h held = let r = fields_lie table s rules vs ts a h.1 held in record { places = r.places; decs = truth_field r.decs }
fields_lie table s rules (more (con k ws) vs) (ty.Tree t ∷ ts) a h held =
    let bytes = tree (con k ws) in
    let first = value_lies table s rules t.0 k ws a (λ us x g y. fields_lie table s rules ws us x g y) h.0.0 h.0.1 (Holds-front a bytes (trees vs) held) in
    let r = fields_lie table s rules vs ts (a + length bytes) h.1 (Holds-behind a bytes (trees vs) held) in
    let ends : a + length bytes + length (trees vs) ≡ a + length (bytes ++ trees vs) = let n = length-append bytes (trees vs) in omega (arith, n) in
    record { places = a ∷ r.places; decs = tree_field first (subst (λ (x : ℕ). Decs (packed_layout table) s (a + length bytes) ts vs r.places x) ends r.decs) }
fields_lie table s rules (more (whole z) vs) (ty.Truth ∷ ts) a h held = absurd h.0
fields_lie table s rules (more (whole z) vs) (ty.Tree t ∷ ts) a h held = absurd h.0
fields_lie table s rules (more (truth b) vs) (ty.Whole ∷ ts) a h held = absurd h.0
fields_lie table s rules (more (truth b) vs) (ty.Tree t ∷ ts) a h held = absurd h.0
fields_lie table s rules (more (con k ws) vs) (ty.Whole ∷ ts) a h held = absurd h.0
fields_lie table s rules (more (con k ws) vs) (ty.Truth ∷ ts) a h held = absurd h.0

-- a packed value stands in its bytes
pub tree_lies : (table : Table) → IsTable table → (bytes : List ℕ) (t : TyId) (v : Datum) → Packed table (ty.Tree t) v bytes → Dec (packed_layout table) (cells_of bytes) 0 t.0 v (length bytes)
tree_lies table rules bytes t (con k vs) p =
    let held : Holds (cells_of bytes) 0 (tree (con k vs)) = holds_from bytes 0 (tree (con k vs)) p.1 in
    let d = value_lies table (cells_of bytes) rules t.0 k vs 0 (λ us x g y. fields_lie table (cells_of bytes) rules vs us x g y) p.0.0 p.0.1 held in
    let ends : 0 + length (tree (con k vs)) ≡ length bytes = let n = ap length p.1 in omega (arith, n) in
    subst (λ (z : ℕ). Dec (packed_layout table) (cells_of bytes) 0 t.0 (con k vs) z) ends d
tree_lies table rules bytes t (whole z) p = absurd p.0
tree_lies table rules bytes t (truth b) p = absurd p.0

-- a packed scalar is the scalar in its bytes
pub whole_lies : (table : Table) (bytes : List ℕ) (v : Datum) → Packed table ty.Whole v bytes → (z : ℤ) × FitsSigned w64 z × Holds (cells_of bytes) 0 (number z) × (v ≡ whole z)
whole_lies table bytes (whole z) p = (z, p.0, holds_from bytes 0 (number z) p.1, refl)
whole_lies table bytes (truth b) p = absurd p.0
whole_lies table bytes (con k vs) p = absurd p.0

pub truth_lies : (table : Table) (bytes : List ℕ) (v : Datum) → Packed table ty.Truth v bytes → (b : Bool) × (cells_of bytes 0 ≡ byte (bit b)) × (v ≡ truth b)
truth_lies table bytes (truth b) p = (b, Holds-first (holds_from bytes 0 (bit b ∷ []) p.1), refl)
truth_lies table bytes (whole z) p = absurd p.0
truth_lies table bytes (con k vs) p = absurd p.0

bit_same : (b c : Bool) → bit b ≡ bit c → b ≡ c
bit_same true true e = refl
bit_same false false e = refl
bit_same true false e = absurd (omega (arith, e))
bit_same false true e = absurd (omega (arith, e))

pub truth_is : (table : Table) (bytes : List ℕ) (v : Datum) (b : Bool) → Packed table ty.Truth v bytes → cells_of bytes 0 ≡ byte (bit b) → v ≡ truth b
truth_is table bytes v b p e =
    let w = truth_lies table bytes v p in
    w.2 ∙ ap truth (bit_same w.0 b (same_byte (cells_of bytes) 0 (bit w.0) (bit b) w.1 e))

-- layouts without offsets
abbrev laid_with : Table → List ℕ → LaidOut
laid_with table cons = record { table = table; with_offsets = cons }

pub laid_packed : (laid : LaidOut) (table : Table) → laid.table ≡ table → laid.with_offsets ≡ [] → laid ≡ packed_layout table
laid_packed laid table e f = ap₂ laid_with e f
