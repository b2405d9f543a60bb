-- A worker's frames, and which of their tasks may still be there to be popped.
use Rattle.std.specs.Prelude.{◌≡◌, ℕ, ◌-◌, zero, suc, Bool, false, List, [], ◌∷◌, ◌++◌, length, Option, Some, None, is_some, slice_get}
use Rattle.gib_frame.specs.declared.due.Due.{Due}
use Rattle.gib_frame.specs.declared.ends.Frame.{Frame}
use Rattle.gib_frame.specs.Dues.{frame_due}

-- What a frame was made for, where it was not refused.
abbrev pub due_maybe : Option Frame → Option Due
due_maybe None = None
due_maybe (Some f) = Some (frame_due f)

-- What frames were made for, the newest first, before what older ones were made for.
abbrev pub before : List (Option Frame) → List (Option Due) → List (Option Due)
before [] es = es
before (x ∷ xs) es = before xs (due_maybe x ∷ es)

-- What frames, the oldest first, were made for, the newest first.
abbrev pub lent_of : List (Option Frame) → List (Option Due)
lent_of xs = before xs []

-- There is a frame, and it was made.
abbrev pub is_made : Option (Option Frame) → Bool
is_made None = false
is_made (Some x) = is_some x

-- The newest of these frames, the last one, was made and not refused.
abbrev pub newest_made : List (Option Frame) → Bool
newest_made xs = is_made (slice_get xs (length xs - 1))

-- So many newest ones are the last that were pushed and not popped.
abbrev pub AreHere : List (Option Due) → ℕ → List Due → Type 0
AreHere [] zero mine = Unit {0}
AreHere [] (suc n) mine = ⊥
AreHere (None ∷ es) n mine = AreHere es n mine
AreHere (Some e ∷ es) zero mine = Unit {0}
AreHere (Some e ∷ es) (suc n) mine = (older : List Due) × (mine ≡ older ++ e ∷ []) × AreHere es n older
