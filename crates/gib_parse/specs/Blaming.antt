-- The one token of a list that is blamed, or nested too deep, where no program of 200 levels has these tokens.
use Rattle.std.specs.Prelude.{◌≡◌, ◌≤◌, ◌<◌, ◌-◌, ℕ, zero, suc, List, [], ◌∷◌, ◌++◌, length, take}
use Rattle.gib_base.specs.declared.token.Token.{Token}
use Rattle.gib_base.specs.Lexed.{Lexed}
use Rattle.gib_syntax.specs.GenericTree.{GenericProgramTree}
use Rattle.gib_syntax.specs.Spelling.{Derives, Blames, levels_program}
pub use Rattle.gib_reads.specs.Faults.{place_in, place_of}
use Rattle.gib_parse.specs.Nesting.{too_deep}

-- Some program's tokens begin with the tokens before the one from which so many are left.
abbrev pub Begun : List Token → ℕ → Type 0
Begun tokens left = (p : GenericProgramTree) × (more : List Token) × Derives (take (length tokens - left) tokens ++ more) p

-- Each program whose tokens begin with the tokens up to and including the one from which so many are left
-- has more than 200 levels; where none are left: each whose tokens these are.
abbrev pub Deepens : List Token → ℕ → Type 0
Deepens tokens zero = (p : GenericProgramTree) → Derives tokens p → 200 < levels_program p
Deepens tokens (suc k) = (p : GenericProgramTree) (more : List Token) → Derives (take (length tokens - k) tokens ++ more) p → 200 < levels_program p

-- Some program's tokens begin with the tokens up to and including the one from which so many are left.
abbrev pub BegunWith : List Token → ℕ → Type 0
BegunWith tokens zero = ⊥
BegunWith tokens (suc k) = Begun tokens k

-- Of expressions, each told by how many tokens are left from its first one on, the first begins with the token from
-- which so many are left.
abbrev pub IsFirst : ℕ → List ℕ → Type 0
IsFirst k [] = ⊥
IsFirst k (first ∷ more) = first ≡ k

-- None of such expressions, so not the first, begins before the token from which so many are left.
abbrev pub NoneBefore : ℕ → List ℕ → Type 0
NoneBefore k [] = Unit {0}
NoneBefore k (first ∷ more) = first ≤ k

-- In each program whose tokens begin with the tokens up to and including the one from which so many are
-- left, the first expression on level 201 begins with this token.
abbrev pub Sinks : List Token → ℕ → Type 0
Sinks tokens zero = ⊥
Sinks tokens (suc k) =
    (p : GenericProgramTree) (more : List Token) → Derives (take (length tokens - k) tokens ++ more) p → IsFirst (suc (length more)) (too_deep p)

-- In no program whose tokens begin with the tokens before the one from which so many are left does an
-- expression on level 201 begin with one of those tokens.
abbrev pub Floats : List Token → ℕ → Type 0
Floats tokens left =
    (p : GenericProgramTree) (more : List Token) → Derives (take (length tokens - left) tokens ++ more) p → NoneBefore (length more) (too_deep p)

-- At this place stands the first token such that no program's tokens begin with the tokens up to and
-- including it; or it is the text's length, and tokens are missing. No expression on level 201 begins before.
pub record IsBlamedAt (l : Lexed) (place : ℕ) : Type 0 where
  pub left : ℕ
  pub within : left ≤ length l.tokens
  pub blamed : Blames l.tokens left
  pub first : Begun l.tokens left
  pub floats : Floats l.tokens left
  pub here : place ≡ place_of l left

-- At this place stands a token such that some program's tokens begin with the tokens up to and including it,
-- and in each such program, which so has more than 200 levels, it begins the first expression on level 201.
pub record IsTooDeepAt (l : Lexed) (place : ℕ) : Type 0 where
  pub left : ℕ
  pub within : left ≤ length l.tokens
  pub deep : Deepens l.tokens left
  pub begun : BegunWith l.tokens left
  pub sinks : Sinks l.tokens left
  pub here : place ≡ place_of l left
