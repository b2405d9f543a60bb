-- The order of build rules.
use Rattle.std.specs.Prelude.{◌≡◌, ℕ, ◌<◌, ◌≤◌, true, List, [], ◌∷◌}
use Rattle.gib_core.specs.Rules.{Judgement}

-- Each rule is greater than the one before it, and the first one than this number.
abbrev pub RisesPast : ℕ → List Judgement → Type 0
RisesPast n [] = Unit {0}
RisesPast n (r ∷ rs) = (n < r.0) × RisesPast r.0 rs

-- No rule that is smaller than this one is broken.
abbrev pub NoneBelow : ℕ → List Judgement → Type 0
NoneBelow n [] = Unit {0}
NoneBelow n (r ∷ rs) = (r.1 ≡ true → n ≤ r.0) × NoneBelow n rs
