-- Scripts of calls and answers, and when the calls of a run follow one.
use Rattle.std.specs.Prelude.{◌≡◌, ◌≢◌, ◌⊎◌, ℕ, ◌≤◌, List, [], ◌∷◌, length, Bool, Result, Ok, Err, Vec}
use Rattle.std.specs.declared.alloc.Global.{Global}
use Rattle.gib_edge.specs.Views.{Call, ShelfView, SinkView, ReadOf, WriteOf}
use Rattle.gib_edge.specs.Causes.{Rose, told, IsFrontOf, IsUntold, Appends, AppendsPart, PutsPieces, PutsSomePieces}
use Rattle.gib_edge.specs.declared.outside.Failed.{Failed as SinkFailed}
use Rattle.gib_edge.specs.declared.outside.ShelfFault.{ShelfFault}
use Rattle.gib_edge.specs.declared.outside.ShelfFault.TheVariants as shelf_fault

-- Calls, each chosen by the answers to those before: the script returns; or it fails; or something of which this holds is chosen, for which
-- memory may be wanting; or so many bytes of a file are read; or a file is written; or bytes are put. A call that fails ends the script.
pub data Script (E X : Type 0) : Type 1 where
  Return : X → Script E X
  Fail : E → Script E X
  Choose : (A : Type 0) → (A → Type 0) → (A → Script E X) → Script E X
  Read : List ℕ → ℕ → (List ℕ → Script E X) → Script E X
  Write : List ℕ → List ℕ → Script E X → Script E X
  Put : List ℕ → Script E X → Script E X

-- Why a script does not return: it fails; a file was not read, or not written; bytes were not put; or memory was wanting.
pub data Halt (E : Type 0) : Type 0 where
  Failed : E → Halt E
  NoRead : List ℕ → Halt E
  NoWrite : List ℕ → Halt E
  NoPut : Halt E
  NoMemory : Halt E

-- What is told of a shelf and a sink.
pub record World : Type 0 where
  pub shelf : ShelfView
  pub out : SinkView

-- A file was read.
pub record DidRead (before now : ShelfView) (name : List ℕ) (most : ℕ) (bytes : List ℕ) : Type 0 where
  pub bytes_are : IsFrontOf (before.kept name) most bytes
  pub most_are : length bytes ≤ most
  pub same : (other : List ℕ) → now.kept other ≡ before.kept other
  pub reads : (other : List ℕ) → now.reads other ≡ before.reads other
  pub writes : (other : List ℕ) → now.writes other ≡ before.writes other
  pub called : Appends before.calls now.calls (ReadOf name most ∷ [])

-- A read failed.
pub record MissedRead (before now : ShelfView) (name : List ℕ) (most : ℕ) : Type 0 where
  pub same : (other : List ℕ) → now.kept other ≡ before.kept other
  pub later : (other : List ℕ) → before.reads other ≤ now.reads other
  pub rose : Rose (before.reads name) (now.reads name)
  pub writes : (other : List ℕ) → now.writes other ≡ before.writes other
  pub once : AppendsPart before.calls now.calls (ReadOf name most ∷ [])

-- Memory was wanting before a call, or at it.
pub record LostCall (before now : ShelfView) (call : Call) : Type 0 where
  pub same : (other : List ℕ) → now.kept other ≡ before.kept other
  pub reads : (other : List ℕ) → now.reads other ≡ before.reads other
  pub writes : (other : List ℕ) → now.writes other ≡ before.writes other
  pub once : AppendsPart before.calls now.calls (call ∷ [])

-- A file was written.
pub record DidWrite (tells : Bool) (before now : ShelfView) (name bytes : List ℕ) : Type 0 where
  pub here : now.kept name ≡ told tells bytes
  pub others : (other : List ℕ) → other ≢ name → now.kept other ≡ before.kept other
  pub reads : (other : List ℕ) → now.reads other ≡ before.reads other
  pub writes : (other : List ℕ) → now.writes other ≡ before.writes other
  pub called : Appends before.calls now.calls (WriteOf name ∷ [])

-- A write failed.
pub record MissedWrite (before now : ShelfView) (name : List ℕ) : Type 0 where
  pub others : (other : List ℕ) → other ≢ name → now.kept other ≡ before.kept other
  pub untold : IsUntold (now.kept name)
  pub rose : Rose (before.writes name) (now.writes name)
  pub later : (other : List ℕ) → before.writes other ≤ now.writes other
  pub reads : (other : List ℕ) → now.reads other ≡ before.reads other
  pub once : AppendsPart before.calls now.calls (WriteOf name ∷ [])

-- Bytes were put.
pub record DidPut (before now : SinkView) (bytes : List ℕ) : Type 0 where
  pub taken : Appends before.taken now.taken bytes
  pub quiet : now.faults ≡ before.faults
  pub pieces : PutsPieces before now (length bytes)

-- A put failed.
pub record MissedPut (before now : SinkView) (bytes : List ℕ) : Type 0 where
  pub taken : AppendsPart before.taken now.taken bytes
  pub later : before.faults ≤ now.faults
  pub rose : Rose before.faults now.faults
  pub pieces : PutsSomePieces before now (length bytes)

-- What a read does, by its answer.
abbrev pub IsRead : List ℕ → ℕ → (before now : ShelfView) → Result (Vec ℕ Global) ShelfFault → Type 0
IsRead name most before now (Ok bytes) = DidRead before now name most bytes.items
IsRead name most before now (Err shelf_fault.Failed) = MissedRead before now name most
IsRead name most before now (Err shelf_fault.Memory) = LostCall before now (ReadOf name most)

-- What a put does, by its answer.
abbrev pub IsPut : List ℕ → (before now : SinkView) → Result (Unit {0}) SinkFailed → Type 0
IsPut bytes before now (Ok x) = DidPut before now bytes
IsPut bytes before now (Err fault) = MissedPut before now bytes

-- A read halts a run.
abbrev pub HaltsRead : {E X : Type 0} → (before now : ShelfView) → List ℕ → ℕ → Result X (Halt E) → Type 0
HaltsRead before now name most r = ((r ≡ Err (NoRead name)) × MissedRead before now name most) ⊎ ((r ≡ Err NoMemory) × LostCall before now (ReadOf name most))

-- A write halts a run.
abbrev pub HaltsWrite : {E X : Type 0} → (before now : ShelfView) → List ℕ → Result X (Halt E) → Type 0
HaltsWrite before now name r = ((r ≡ Err (NoWrite name)) × MissedWrite before now name) ⊎ ((r ≡ Err NoMemory) × LostCall before now (WriteOf name))

-- The calls that were made, and their answers, follow the script, and it ended so.
abbrev pub Follows : {E X : Type 0} → (tells : Bool) → Script E X → World → World → Result X (Halt E) → Type 0
Follows tells (Return x) w v r = (v ≡ w) × (r ≡ Ok x)
Follows tells (Fail e) w v r = (v ≡ w) × (r ≡ Err (Failed e))
Follows tells (Choose A P k) w v r = ((v ≡ w) × (r ≡ Err NoMemory)) ⊎ ((a : A) × P a × Follows tells (k a) w v r)
Follows tells (Read name most k) w v r =
    ((v.out ≡ w.out) × HaltsRead w.shelf v.shelf name most r)
    ⊎ ((mid : ShelfView) × (bytes : List ℕ) × DidRead w.shelf mid name most bytes × Follows tells (k bytes) (record { shelf = mid; out = w.out }) v r)
Follows tells (Write name bytes k) w v r =
    ((v.out ≡ w.out) × HaltsWrite w.shelf v.shelf name r)
    ⊎ ((mid : ShelfView) × DidWrite tells w.shelf mid name bytes × Follows tells k (record { shelf = mid; out = w.out }) v r)
Follows tells (Put bytes k) w v r =
    ((v.shelf ≡ w.shelf) × (r ≡ Err NoPut) × MissedPut w.out v.out bytes)
    ⊎ ((mid : SinkView) × DidPut w.out mid bytes × Follows tells k (record { shelf = w.shelf; out = mid }) v r)

-- One script, and then the one for what it returns.
abbrev pub and_then : {E X Y : Type 0} → Script E X → (X → Script E Y) → Script E Y
and_then (Return x) f = f x
and_then (Fail e) f = Fail e
and_then (Choose A P k) f = Choose A P (λ a. and_then (k a) f)
and_then (Read name most k) f = Read name most (λ bytes. and_then (k bytes) f)
and_then (Write name bytes k) f = Write name bytes (and_then k f)
and_then (Put bytes k) f = Put bytes (and_then k f)

-- The same of a shelf alone, whatever the sink is.
abbrev pub OnShelf : {E X : Type 0} → (tells : Bool) → Script E X → (before now : ShelfView) → Result X (Halt E) → Type 0
OnShelf tells s before now r = (out : SinkView) → Follows tells s (record { shelf = before; out = out }) (record { shelf = now; out = out }) r
