-- The slot of an answer. Its word is 3 while a thread has the slot, 1 where an answer lies in it, and else 0.
use Rattle.std.specs.Prelude.{◌≡◌, ◌≢◌, ℕ, [], ◌∷◌, length, slice_index, Option, IfSome}
use mathlib.Core.Option.{some}
use lib.ListN.{get_elem?}
use Rattle.atomic_table.specs.Table.{State, Me, Step}
use Rattle.gib_frame.specs.declared.due.Due.{Due}
use Rattle.gib_frame.specs.declared.due.Given.{Given}
use Rattle.gib_frame.specs.Answers.{Delivers}

-- What lies in the slot, if anything, is what the frame was made for.
abbrev pub Fits : Due → Option Given → Type 0
Fits due x = IfSome x (λ g. Delivers due g.ending g.pass)

-- The rule of the slot: there is one word; unless a thread has the slot, something or nothing lies in it, and it fits; every
-- thread knows what the frame was made for.
pub record OneSlot (due : Due) (s : State (Option Given) Due) : Type 0 where
  pub one_word : length s.words ≡ 1
  pub at_home : slice_index s.words 0 ≢ 3 → (x : Option Given) × (get_elem? s.homes 0 ≡ some (some x))
  pub fits : (x : Option Given) → get_elem? s.homes 0 ≡ some (some x) → Fits due x
  pub told : (j : ℕ) (v : Due) → get_elem? s.views j ≡ some v → v ≡ due

-- What a thread knows and has.
abbrev My : Type 0
My = Me (Option Given) Due

-- A thread that came to the slot knows what it knew.
abbrev pub Sat : Step (Option Given) → My → ℕ → My → Type 0
Sat st m r m' = m'.0 ≡ m.0

-- A thread that found the word as expected has what lay in the slot, which fits; any other has what it had.
abbrev pub Took : Step (Option Given) → My → ℕ → My → Type 0
Took st m r m' = (m'.0 ≡ m.0) × (r ≡ st.first → (x : Option Given) × (m'.1 ≡ (0, x) ∷ []) × Fits m.0 x) × (r ≢ st.first → m'.1 ≡ m.1)

-- A thread that gave the slot back has nothing of it.
abbrev pub Gave : Step (Option Given) → My → ℕ → My → Type 0
Gave st m r m' = (m'.0 ≡ m.0) × (m'.1 ≡ [])
