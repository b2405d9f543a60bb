-- What lexing makes of a text.
use Rattle.std.specs.Prelude.{◌≡◌, ◌<◌, ◌≤◌, ℕ, ◌+◌, ◌^◌, List, [], ◌∷◌, length, take, drop, fold}
use Rattle.std.specs.List.{flat_map, AllByRecursion}
use Rattle.gib_base.specs.declared.Span.{Span}
use Rattle.gib_base.specs.declared.token.Dialect.{Dialect}
use Rattle.gib_base.specs.declared.token.Dialect.TheVariants.{Source}
use Rattle.gib_base.specs.declared.token.Token.{Token}
use Rattle.gib_base.specs.declared.token.Token.TheVariants as token
use Rattle.gib_base.specs.declared.token.Piece.{Piece}
use Rattle.gib_base.specs.declared.token.Piece.TheVariants as piece
use Rattle.gib_base.specs.Names.{number_of, with_name}
use Rattle.gib_base.specs.Piece.{IsLongest}
use Rattle.gib_base.specs.Spelling.{piece_by}

-- The names of the text by their numbers (each is a list of bytes), its tokens, the span of each token,
-- and the text's length in bytes.
pub record Lexed : Type 0 where
  pub names : List (List ℕ)
  pub tokens : List Token
  pub spans : List Span
  pub len : ℕ

-- A piece of a text: where it begins, and its bytes.
pub record Part : Type 0 where
  pub start : ℕ
  pub text : List ℕ

-- From one place to another the bytes are cut into pieces of these lengths, each the longest there.
abbrev pub AreLongest : Dialect → List ℕ → ℕ → List ℕ → ℕ → Type 0
AreLongest dialect bytes from [] to = from ≡ to
AreLongest dialect bytes from (n ∷ ns) to = IsLongest dialect (drop from bytes) n × AreLongest dialect bytes (from + n) ns to

-- The part of so many bytes.
abbrev pub part_at : List ℕ → ℕ → ℕ → Part
part_at bytes from n = record { start = from; text = take n (drop from bytes) }

-- The parts of these lengths.
abbrev pub parts_of : List ℕ → ℕ → List ℕ → List Part
parts_of bytes from [] = []
parts_of bytes from (n ∷ ns) = part_at bytes from n ∷ parts_of bytes (from + n) ns

-- The piece is no number past the greatest literal.
abbrev pub IsNotBig : Piece → Type 0
IsNotBig piece.Gap = Unit {0}
IsNotBig (piece.Sign s) = Unit {0}
IsNotBig piece.Variable = Unit {0}
IsNotBig piece.Constructor = Unit {0}
IsNotBig (piece.Number n) = Unit {0}
IsNotBig piece.TooBig = ⊥

-- A part's text where it is a name.
abbrev pub name_in : Piece → List ℕ → List (List ℕ)
name_in piece.Gap text = []
name_in (piece.Sign s) text = []
name_in piece.Variable text = text ∷ []
name_in piece.Constructor text = text ∷ []
name_in (piece.Number n) text = []
name_in piece.TooBig text = []

-- The name that a part is, where it is one.
abbrev pub name_by : Dialect → Part → List (List ℕ)
name_by dialect p = name_in (piece_by dialect p.text) p.text

-- The same in a program.
abbrev pub name_at : Part → List (List ℕ)
name_at = name_by Source

-- The names with those of more parts: each once, in the order of their first use.
abbrev pub names_with : Dialect → List (List ℕ) → List Part → List (List ℕ)
names_with dialect names parts = fold with_name names (flat_map (name_by dialect) parts)

-- The token of a piece, where it is one; a name goes by its number.
abbrev pub token_in : Piece → ℕ → List Token
token_in piece.Gap number = []
token_in (piece.Sign s) number = token.Sign s ∷ []
token_in piece.Variable number = token.Variable (record { 0 = number }) ∷ []
token_in piece.Constructor number = token.Constructor (record { 0 = number }) ∷ []
token_in (piece.Number n) number = token.Number n ∷ []
token_in piece.TooBig number = []

-- The token of a part, where it is one, with the names by their numbers.
abbrev pub token_at : Dialect → List (List ℕ) → Part → List Token
token_at dialect names p = token_in (piece_by dialect p.text) (number_of names p.text)

-- The span of a piece, where it is a token.
abbrev pub span_in : Piece → Span → List Span
span_in piece.Gap span = []
span_in (piece.Sign s) span = span ∷ []
span_in piece.Variable span = span ∷ []
span_in piece.Constructor span = span ∷ []
span_in (piece.Number n) span = span ∷ []
span_in piece.TooBig span = []

-- The span of a part, where it is a token.
abbrev pub span_at : Dialect → Part → List Span
span_at dialect p = span_in (piece_by dialect p.text) (record { start = p.start; end = p.start + length p.text })

-- The bytes up to a place are blanks, comments and tokens, each the longest there; this is what they make.
pub record IsLexedTo (dialect : Dialect) (bytes : List ℕ) (to : ℕ) (l : Lexed) : Type 0 where
  pub lengths : List ℕ
  pub cut : AreLongest dialect bytes 0 lengths to
  pub fits : AllByRecursion (λ p. IsNotBig (piece_by dialect p.text)) (parts_of bytes 0 lengths)
  pub names : l.names ≡ names_with dialect [] (parts_of bytes 0 lengths)
  pub tokens : l.tokens ≡ flat_map (token_at dialect l.names) (parts_of bytes 0 lengths)
  pub spans : l.spans ≡ flat_map (span_at dialect) (parts_of bytes 0 lengths)
  pub len : l.len ≡ to

-- The whole text is lexed so.
abbrev pub IsLexedIn : Dialect → List ℕ → Lexed → Type 0
IsLexedIn dialect bytes l = IsLexedTo dialect bytes (length bytes) l

-- The text is lexed as a program is.
abbrev pub IsLexed : List ℕ → Lexed → Type 0
IsLexed = IsLexedIn Source

-- Spans stand in order between two places, and none is empty.
abbrev pub AreInOrder : ℕ → List Span → ℕ → Type 0
AreInOrder from [] to = from ≤ to
AreInOrder from (s ∷ spans) to = (from ≤ s.start) × (s.start < s.end) × AreInOrder s.end spans to

-- A token's name is one of so many, and its number is at most the greatest literal.
abbrev pub IsTokenOf : ℕ → Token → Type 0
IsTokenOf count (token.Variable x) = x.0 < count
IsTokenOf count (token.Constructor x) = x.0 < count
IsTokenOf count (token.Number n) = n < 2 ^ 63
IsTokenOf count (token.Sign s) = Unit {0}

-- What the tokens of every text keep: each has a span; spans stand in order in the text; the names of tokens
-- are held; the text and its names are within their limits; and there is such a text.
pub record AreTokens (l : Lexed) : Type 0 where
  pub same : length l.spans ≡ length l.tokens
  pub order : AreInOrder 0 l.spans l.len
  pub below : AllByRecursion (IsTokenOf (length l.names)) l.tokens
  pub short : l.len ≤ 1048576
  pub few : length l.names ≤ 65535
  pub source : (dialect : Dialect) × (bytes : List ℕ) × IsLexedIn dialect bytes l
