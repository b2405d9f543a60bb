-- The pieces of a source text: a blank, a comment or a token each.
use Rattle.std.specs.Prelude.{◌≡◌, ℕ, ◌<◌, ◌≤◌, Bool, true, false, ◌||◌, ◌&&◌, ◌==◌, nat_le, nat_lt, if◌then◌else◌, List, [], ◌∷◌, length, take}
use Rattle.std.specs.List.{list_all}
use Rattle.std.specs.Char.{is_ascii_digit, is_ascii_alphabetic}
use Rattle.gib_base.specs.declared.token.Dialect.{Dialect}
use Rattle.gib_base.specs.declared.token.Dialect.TheVariants.{Source, Located}

-- Blanks are space, tab, line feed and carriage return.
abbrev pub is_blank : ℕ → Bool
is_blank b = b == 32 || b == 9 || b == 10 || b == 13

-- A name goes on with letters, digits and `_`.
abbrev pub is_name_byte : ℕ → Bool
is_name_byte b = is_ascii_alphabetic b || is_ascii_digit b || b == 95

-- A comment holds tab, carriage return and the bytes from 32 to 126; so it ends before a line feed.
abbrev pub is_comment_byte : ℕ → Bool
is_comment_byte b = b == 9 || b == 13 || nat_le 32 b && nat_lt b 127

-- The signs of one byte with which no longer one begins: | ; ( ) : { } + * [ ] < ,
abbrev pub is_sign_byte : ℕ → Bool
is_sign_byte b = b == 124 || b == 59 || b == 40 || b == 41 || b == 58 || b == 123 || b == 125 || b == 43 || b == 42 || b == 91 || b == 93 || b == 60 || b == 44

-- What a byte begins: 45 is `-` and 61 is `=`.
pub data Class : Type 0 where
  Blank : Class
  Letter : Class
  Digit : Class
  Dash : Class
  Equal : Class
  Single : Class
  Other : Class

-- The class of a byte that begins nothing in a program: 64 is `@`.
abbrev pub other_class : Dialect → ℕ → Class
other_class Source b = Other
other_class Located b = if b == 64 then Single else Other

-- The class of a byte, by the first of these tests that it passes.
abbrev pub class_by : Dialect → ℕ → Class
class_by dialect b =
    if is_blank b then Blank
    else (if is_ascii_alphabetic b then Letter
    else (if is_ascii_digit b then Digit
    else (if b == 45 then Dash
    else (if b == 61 then Equal
    else (if is_sign_byte b then Single
    else other_class dialect b)))))

-- In a program.
abbrev pub class_of : ℕ → Class
class_of = class_by Source

-- Nothing is left.
abbrev pub is_nil : List ℕ → Bool
is_nil [] = true
is_nil (b ∷ rest) = false

-- Behind a `-` stands nothing, a `>`, or another `-` and a comment.
abbrev pub ends_dash : List ℕ → Bool
ends_dash [] = true
ends_dash (b ∷ rest) = if b == 62 then is_nil rest else (if b == 45 then list_all is_comment_byte rest else false)

-- Behind a `=` stands nothing, or another `=`.
abbrev pub ends_equal : List ℕ → Bool
ends_equal [] = true
ends_equal (b ∷ rest) = if b == 61 then is_nil rest else false

-- The bytes behind the first one end a piece.
abbrev pub ends : Class → List ℕ → Bool
ends Blank rest = is_nil rest
ends Letter rest = list_all is_name_byte rest
ends Digit rest = list_all is_ascii_digit rest
ends Dash rest = ends_dash rest
ends Equal rest = ends_equal rest
ends Single rest = is_nil rest
ends Other rest = false

-- The whole text is one piece.
abbrev pub is_piece_by : Dialect → List ℕ → Bool
is_piece_by dialect [] = false
is_piece_by dialect (b ∷ rest) = ends (class_by dialect b) rest

-- One of a program.
abbrev pub is_piece : List ℕ → Bool
is_piece = is_piece_by Source

-- The first n bytes are a piece, and no more of them are.
pub record IsLongest (dialect : Dialect) (bytes : List ℕ) (n : ℕ) : Type 0 where
  pub within : n ≤ length bytes
  pub piece : is_piece_by dialect (take n bytes) ≡ true
  pub longest : (m : ℕ) → n < m → m ≤ length bytes → is_piece_by dialect (take m bytes) ≡ false

-- No piece begins the bytes.
abbrev pub IsStuck : Dialect → List ℕ → Type 0
IsStuck dialect bytes = (m : ℕ) → m ≤ length bytes → is_piece_by dialect (take m bytes) ≡ false
