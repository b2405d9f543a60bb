-- Where a text has no tokens. Each holds what the text makes up to its place, so that it is the first in the text.
use Rattle.std.specs.Prelude.{◌≡◌, ◌<◌, ◌≤◌, ℕ, List, [], ◌∷◌, length, take, drop}
use Rattle.gib_base.specs.declared.token.Dialect.{Dialect}
use Rattle.gib_base.specs.declared.token.Dialect.TheVariants.{Source}
use Rattle.gib_base.specs.declared.token.Piece.TheVariants.{TooBig}
use Rattle.gib_base.specs.Piece.{IsLongest, IsStuck}
use Rattle.gib_base.specs.Spelling.{piece_by}
use Rattle.gib_base.specs.Lexed.{Lexed, IsLexedTo, part_at, names_with}

-- At the place no piece begins.
pub record IsStuckIn (dialect : Dialect) (bytes : List ℕ) (place : ℕ) : Type 0 where
  pub before : Lexed
  pub front : IsLexedTo dialect bytes place before
  pub few : length before.names ≤ 65535
  pub inside : place < length bytes
  pub stuck : IsStuck dialect (drop place bytes)

-- At the place a number begins that is larger than the greatest literal.
pub record IsBigIn (dialect : Dialect) (bytes : List ℕ) (place : ℕ) : Type 0 where
  pub before : Lexed
  pub front : IsLexedTo dialect bytes place before
  pub few : length before.names ≤ 65535
  pub size : ℕ
  pub longest : IsLongest dialect (drop place bytes) size
  pub big : piece_by dialect (take size (drop place bytes)) ≡ TooBig

-- At some place a name stands with which there are more than 65,535.
pub record HasTooManyNamesIn (dialect : Dialect) (bytes : List ℕ) : Type 0 where
  pub place : ℕ
  pub before : Lexed
  pub front : IsLexedTo dialect bytes place before
  pub few : length before.names ≤ 65535
  pub size : ℕ
  pub longest : IsLongest dialect (drop place bytes) size
  pub many : 65535 < length (names_with dialect before.names (part_at bytes place size ∷ []))

-- The same in a program.
abbrev pub IsStuckAt : List ℕ → ℕ → Type 0
IsStuckAt = IsStuckIn Source

-- At this place of a program stands a number that is too big.
abbrev pub IsBigAt : List ℕ → ℕ → Type 0
IsBigAt = IsBigIn Source

-- A program has more names than can be numbered.
abbrev pub HasTooManyNames : List ℕ → Type 0
HasTooManyNames = HasTooManyNamesIn Source
