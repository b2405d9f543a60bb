-- The end words of a frame: what is known of where the values of its variables end.
use Rattle.std.specs.Prelude.{◌≡◌, ℕ, ◌<◌, true}
use Rattle.gib_types.specs.Layout.{LaidOut}
use Rattle.gib_types.specs.Tree.{Datum}
use Rattle.gib_mem.specs.Memory.{Store}
use Rattle.gib_packed.specs.Decoding.{Dec}
use Rattle.gib_packed.specs.Reaching.{Turns}
use Rattle.gib_core.specs.Fits.{Absent, AtHead, Field, Held, Loose, Outside, Placed, Scalar, Scope, Sort, is_settled}
use Rattle.gib_machine.specs.State.{Slots, slot, end_at}

-- A slot with its end.
pub record WithEnd : Type 0 where
  pub word : ℕ
  pub last : ℕ

-- The slot of a variable together with its end.
abbrev pub both : Slots → ℕ → WithEnd
both ws x = record { word = slot ws x; last = end_at ws x }

-- The end word e of a variable whose slot is w and that was bound to the place pl, where the value v stands: 0, and then
-- redirects alone lead from the place to the slot; or the end of the value at the place.
pub record EndWord (laid : LaidOut) (s : Store) (t pl w e : ℕ) (v : Datum) : Type 0 where
  pub near : e ≡ 0 → Turns s pl w
  pub ends : 0 < e → Dec laid s pl t v e

-- What is known of the end word of a variable of the sort.
abbrev pub HasEnd : LaidOut → Store → Sort → (w e : ℕ) → Datum → (pl : ℕ) → Type 0
HasEnd laid s Outside w e v pl = Unit {0}
HasEnd laid s Absent w e v pl = Unit {0}
HasEnd laid s (Scalar ty) w e v pl = Unit {0}
HasEnd laid s Held w e v pl = Unit {0}
HasEnd laid s (Placed t) w e v pl = EndWord laid s t pl w e v
HasEnd laid s (Loose t) w e v pl = EndWord laid s t pl w e v
HasEnd laid s (AtHead t) w e v pl = EndWord laid s t pl w e v
HasEnd laid s (Field t z x k p) w e v pl = Unit {0}

-- An end is known of a variable that is not set anew.
pub record IsTold (sl : Slots) (sc : Scope) (q : ℕ) : Type 0 where
  pub settled : is_settled (sc q) ≡ true
  pub some : 0 < end_at sl q
