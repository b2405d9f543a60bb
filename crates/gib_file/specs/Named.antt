-- What the types and constructors of checked programs and of their copies are called.
use Rattle.std.specs.Prelude.{◌≡◌, ◌<◌, ◌==◌, ◌⊎◌, ℕ, zero, suc, true, if◌then◌else◌, List, [], ◌∷◌, length, codes}
use Rattle.gib_base.specs.Piece.{is_name_byte}
use Rattle.gib_types.specs.Table.{Table, IsTable}
use Rattle.gib_value.specs.Text.{con_text}
use Rattle.gib_file.specs.Describing.{type_text}

-- How many brackets are open behind a byte where one more than so many are: 91 opens one, and 93 closes one.
abbrev pub open_behind : ℕ → ℕ → ℕ
open_behind n b = if b == 91 then suc (suc n) else (if b == 93 then n else suc n)

-- How a name goes on where so many brackets are open: outside of them by letters, digits and `_`, or one opens; each is closed.
abbrev pub GoesOn : ℕ → List ℕ → Type 0
GoesOn zero [] = Unit {0}
GoesOn (suc n) [] = ⊥
GoesOn zero (b ∷ bs) = ((is_name_byte b ≡ true) × GoesOn zero bs) ⊎ ((b ≡ 91) × GoesOn 1 bs)
GoesOn (suc n) (b ∷ bs) = GoesOn (open_behind n b) bs

-- A name: letters, digits and `_`, and behind them, in that of a copy, types in brackets.
abbrev pub IsName : List ℕ → Type 0
IsName [] = ⊥
IsName (b ∷ bs) = (is_name_byte b ≡ true) × GoesOn zero bs

-- The name of a declared type is neither `Int` nor `Bool`.
pub record IsTypeName (text : List ℕ) : Type 0 where
  pub named : IsName text
  pub not_whole : text ≡ codes "Int" → ⊥
  pub not_truth : text ≡ codes "Bool" → ⊥

-- What holds of the table and the names of each checked program, and of those of its copy: types have names, each another one;
-- constructors have names.
pub record AreNamed (table : Table) (names : List (List ℕ)) : Type 0 where
  pub declared : IsTable table
  pub types : (t : ℕ) → t < length table.types → IsTypeName (type_text table names t)
  pub differ : (t u : ℕ) → t < length table.types → u < length table.types → type_text table names t ≡ type_text table names u → t ≡ u
  pub constructors : (k : ℕ) → k < length table.rows → IsName (con_text table names k)
