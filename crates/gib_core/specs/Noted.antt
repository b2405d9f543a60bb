-- A clock, and when variables were noted last.
use Rattle.std.specs.Prelude.{◌≡◌, ℕ, ◌+◌, ◌≤◌, ◌==◌, if◌then◌else◌, List, Option}
use Rattle.gib_core.specs.declared.atom.Variable.{Variable}
use Rattle.gib_core.specs.ByVariable.{number_at}

-- A clock, and at the number of each variable the time at which it was noted last; past the end, 0.
pub record Seen : Type 0 where
  pub clock : ℕ
  pub times : List (Option ℕ)

-- No time is later than the clock.
abbrev pub ArePast : ℕ → List (Option ℕ) → Type 0
ArePast clock times = (x : ℕ) → number_at times x ≤ clock

-- The clock went up.
pub record Ticks (old new : Seen) : Type 0 where
  pub clock : new.clock ≡ old.clock + 1
  pub times : new.times ≡ old.times

-- A variable was noted now.
pub record Notes (old new : Seen) (x : Variable) : Type 0 where
  pub clock : new.clock ≡ old.clock
  pub each : (y : ℕ) → number_at new.times y ≡ (if x.0 == y then old.clock else number_at old.times y)
