-- How tokens are written, and what a piece of a text is.
use Rattle.std.specs.Prelude.{◌≡◌, ℕ, Bool, true, false, ◌+◌, ◌-◌, ◌*◌, ◌^◌, ◌==◌, nat_lt, if◌then◌else◌, List, [], ◌∷◌, Option, Some, None, codes, slice_get, unwrap_or, map}
use Rattle.std.specs.List.{find, join_with_byte}
use Rattle.std.specs.Option.{option_or}
use Rattle.std.specs.Str.{bytes_eq}
use Rattle.std.specs.Fmt.{decimal}
use Rattle.gib_base.specs.declared.token.Dialect.{Dialect}
use Rattle.gib_base.specs.declared.token.Dialect.TheVariants.{Source, Located}
use Rattle.gib_base.specs.declared.token.Sign.{Sign}
use Rattle.gib_base.specs.declared.token.Sign.TheVariants as sign
use Rattle.gib_base.specs.declared.token.Token.{Token}
use Rattle.gib_base.specs.declared.token.Token.TheVariants as token
use Rattle.gib_base.specs.declared.token.Piece.{Piece}
use Rattle.gib_base.specs.declared.token.Piece.TheVariants as piece
use Rattle.gib_base.specs.Piece.{Class, Blank, Letter, Digit, Dash, Equal, Single, Other, class_by}

-- How a word or sign is written.
abbrev pub sign_text : Sign → List ℕ
sign_text sign.Data = codes "data"
sign_text sign.Fun = codes "fun"
sign_text sign.Main = codes "main"
sign_text sign.Let = codes "let"
sign_text sign.Par = codes "par"
sign_text sign.And = codes "and"
sign_text sign.In = codes "in"
sign_text sign.If = codes "if"
sign_text sign.Then = codes "then"
sign_text sign.Else = codes "else"
sign_text sign.Case = codes "case"
sign_text sign.Of = codes "of"
sign_text sign.True = codes "True"
sign_text sign.False = codes "False"
sign_text sign.Int = codes "Int"
sign_text sign.Bool = codes "Bool"
sign_text sign.Quotient = codes "quot"
sign_text sign.Remainder = codes "rem"
sign_text sign.Equals = codes "="
sign_text sign.Bar = codes "|"
sign_text sign.Semicolon = codes ";"
sign_text sign.Open = codes "("
sign_text sign.Close = codes ")"
sign_text sign.Colon = codes ":"
sign_text sign.OpenBrace = codes "{"
sign_text sign.CloseBrace = codes "}"
sign_text sign.OpenBracket = codes "["
sign_text sign.CloseBracket = codes "]"
sign_text sign.Arrow = codes "->"
sign_text sign.Plus = codes "+"
sign_text sign.Minus = codes "-"
sign_text sign.Times = codes "*"
sign_text sign.Same = codes "=="
sign_text sign.Less = codes "<"
sign_text sign.Comma = codes ","
sign_text sign.At = codes "@"
sign_text sign.Offsets = codes "offsets"
sign_text sign.LetRegion = codes "letregion"
sign_text sign.LetLocation = codes "letloc"
sign_text sign.Reach = codes "reach"
sign_text sign.By = codes "by"
sign_text sign.Offset = codes "offset"
sign_text sign.Skip = codes "skip"
sign_text sign.End = codes "end"
sign_text sign.Give = codes "give"
sign_text sign.Point = codes "point"
sign_text sign.Start = codes "start"
sign_text sign.After = codes "after"

-- The signs of programs; the others belong to programs whose places are written out.
abbrev pub is_plain : Sign → Bool
is_plain sign.At = false
is_plain sign.Offsets = false
is_plain sign.LetRegion = false
is_plain sign.LetLocation = false
is_plain sign.Reach = false
is_plain sign.By = false
is_plain sign.Offset = false
is_plain sign.Skip = false
is_plain sign.End = false
is_plain sign.Give = false
is_plain sign.Point = false
is_plain sign.Start = false
is_plain sign.After = false
is_plain s = true

-- The sign is one of the dialect's.
abbrev pub IsSignOf : Dialect → Sign → Type 0
IsSignOf Source s = is_plain s ≡ true
IsSignOf Located s = Unit {0}

-- The signs that are words.
abbrev pub words : List Sign
words = sign.Data ∷ sign.Fun ∷ sign.Main ∷ sign.Let ∷ sign.Par ∷ sign.And ∷ sign.In ∷ sign.If ∷ sign.Then ∷ sign.Else ∷ sign.Case ∷ sign.Of ∷ sign.True ∷ sign.False ∷ sign.Int ∷ sign.Bool ∷ sign.Quotient ∷ sign.Remainder ∷ []

-- The further words of programs whose places are written out.
abbrev pub place_words : List Sign
place_words = sign.Offsets ∷ sign.LetRegion ∷ sign.LetLocation ∷ sign.Reach ∷ sign.By ∷ sign.Offset ∷ sign.Skip ∷ sign.End ∷ sign.Give ∷ sign.Point ∷ sign.Start ∷ sign.After ∷ []

-- The first of some words that a text is, where it is one.
abbrev pub word_among : List Sign → List ℕ → Option Sign
word_among signs text = find (λ s. bytes_eq text (sign_text s)) signs

-- The further word that a text is.
abbrev pub place_word : Dialect → List ℕ → Option Sign
place_word Source text = None
place_word Located text = word_among place_words text

-- The word that a text is, where it is one.
abbrev pub word_by : Dialect → List ℕ → Option Sign
word_by dialect text = option_or (word_among words text) (place_word dialect text)

-- Any other name is a variable's or a constructor's, by its first letter: 91 stands behind `Z`.
abbrev pub name_piece : ℕ → Option Sign → Piece
name_piece b None = if nat_lt b 91 then piece.Constructor else piece.Variable
name_piece b (Some s) = piece.Sign s

-- The number that digits stand for, with the number that the digits before them stand for; 48 is `0`.
abbrev pub value_from : ℕ → List ℕ → ℕ
value_from n [] = n
value_from n (b ∷ rest) = value_from (10 * n + (b - 48)) rest

-- A literal goes to 9223372036854775807.
abbrev pub number_piece : ℕ → Piece
number_piece n = if nat_lt n (2 ^ 63) then piece.Number n else piece.TooBig

-- A `-` alone, an arrow, or a comment.
abbrev pub dash_piece : List ℕ → Piece
dash_piece [] = piece.Sign sign.Minus
dash_piece (b ∷ rest) = if b == 62 then piece.Sign sign.Arrow else piece.Gap

-- One `=`, or two.
abbrev pub equal_piece : List ℕ → Piece
equal_piece [] = piece.Sign sign.Equals
equal_piece (b ∷ rest) = piece.Sign sign.Same

-- The sign of one byte.
abbrev pub single_of : ℕ → Sign
single_of b =
    if b == 124 then sign.Bar
    else (if b == 59 then sign.Semicolon
    else (if b == 40 then sign.Open
    else (if b == 41 then sign.Close
    else (if b == 58 then sign.Colon
    else (if b == 123 then sign.OpenBrace
    else (if b == 125 then sign.CloseBrace
    else (if b == 43 then sign.Plus
    else (if b == 42 then sign.Times
    else (if b == 91 then sign.OpenBracket
    else (if b == 93 then sign.CloseBracket
    else (if b == 64 then sign.At
    else (if b == 44 then sign.Comma
    else sign.Less))))))))))))

-- What a piece of a class is, by its first byte and the bytes behind it; no piece is of class `Other`.
abbrev pub piece_of_class : Dialect → Class → ℕ → List ℕ → Piece
piece_of_class dialect Blank b rest = piece.Gap
piece_of_class dialect Letter b rest = name_piece b (word_by dialect (b ∷ rest))
piece_of_class dialect Digit b rest = number_piece (value_from 0 (b ∷ rest))
piece_of_class dialect Dash b rest = dash_piece rest
piece_of_class dialect Equal b rest = equal_piece rest
piece_of_class dialect Single b rest = piece.Sign (single_of b)
piece_of_class dialect Other b rest = piece.Gap

-- What a piece is, by its first byte.
abbrev pub piece_by : Dialect → List ℕ → Piece
piece_by dialect [] = piece.Gap
piece_by dialect (b ∷ rest) = piece_of_class dialect (class_by dialect b) b rest

-- The same in a program.
abbrev pub piece_in : Class → ℕ → List ℕ → Piece
piece_in = piece_of_class Source

-- The piece that a program's bytes begin with.
abbrev pub piece_of : List ℕ → Piece
piece_of = piece_by Source

-- How a token is written, with the names by their numbers.
abbrev pub token_text : List (List ℕ) → Token → List ℕ
token_text names (token.Variable x) = unwrap_or (slice_get names x.0) []
token_text names (token.Constructor x) = unwrap_or (slice_get names x.0) []
token_text names (token.Number n) = decimal n
token_text names (token.Sign s) = sign_text s

-- Tokens with one space between two.
abbrev pub tokens_text : List (List ℕ) → List Token → List ℕ
tokens_text names tokens = join_with_byte 32 (map (token_text names) tokens)
