-- How the longest piece at the front is found.
use Rattle.std.specs.Prelude.{ℕ, suc, Bool, true, false, ◌==◌, if◌then◌else◌, List, [], ◌∷◌}
use Rattle.std.specs.List.{prefix_len}
use Rattle.std.specs.Char.{is_ascii_digit}
use Rattle.gib_base.specs.declared.token.Dialect.{Dialect}
use Rattle.gib_base.specs.Piece.{is_name_byte, is_comment_byte, Class, Blank, Letter, Digit, Dash, Equal, Single, Other, class_by}

-- How many bytes stand behind a `-`.
abbrev pub dash_len : List ℕ → ℕ
dash_len [] = 0
dash_len (b ∷ rest) = if b == 62 then 1 else (if b == 45 then suc (prefix_len is_comment_byte rest) else 0)

-- How many bytes stand behind a `=`.
abbrev pub equal_len : List ℕ → ℕ
equal_len [] = 0
equal_len (b ∷ rest) = if b == 61 then 1 else 0

-- How many bytes stand behind the first one.
abbrev pub more_of : Class → List ℕ → ℕ
more_of Blank rest = 0
more_of Letter rest = prefix_len is_name_byte rest
more_of Digit rest = prefix_len is_ascii_digit rest
more_of Dash rest = dash_len rest
more_of Equal rest = equal_len rest
more_of Single rest = 0
more_of Other rest = 0

-- Whether a piece can begin so.
abbrev pub begins : Class → Bool
begins Blank = true
begins Letter = true
begins Digit = true
begins Dash = true
begins Equal = true
begins Single = true
begins Other = false

-- The length of the longest piece at the front, or 0 where none begins there.
abbrev pub longest : Dialect → List ℕ → ℕ
longest dialect [] = 0
longest dialect (b ∷ rest) = if begins (class_by dialect b) then suc (more_of (class_by dialect b) rest) else 0
