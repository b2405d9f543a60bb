-- Bytes that a reader gives, where it tells what it has left.
use Rattle.std.specs.Prelude.{◌≡◌, ℕ, List, ◌++◌, Option}
use Rattle.std.specs.Io.KnownBytes.{Consumes, IsAtEnd}

-- So many bytes went from the reader to the end of a list; none go only where the reader is at its end.
pub record Moves (left_old left_new : Option (List ℕ)) (old new : List ℕ) (count : ℕ) : Type 0 where
  pub piece : List ℕ
  pub put : new ≡ old ++ piece
  pub left : Consumes left_old left_new piece
  pub last : count ≡ 0 → IsAtEnd left_new
