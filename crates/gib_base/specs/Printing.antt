-- Tokens that are written with one space between two, and read again.
use Rattle.std.specs.Prelude.{◌≡◌, ◌<◌, ◌^◌, ℕ, true, List, [], ◌∷◌, Some, slice_get, map, fold}
use Rattle.std.specs.List.{flat_map}
use Rattle.gib_base.specs.declared.token.Dialect.{Dialect}
use Rattle.gib_base.specs.declared.token.Dialect.TheVariants.{Source}
use Rattle.gib_base.specs.declared.token.Token.{Token}
use Rattle.gib_base.specs.declared.token.Token.TheVariants as token
use Rattle.gib_base.specs.declared.token.Piece.{Piece}
use Rattle.gib_base.specs.declared.token.Piece.TheVariants as kinds
use Rattle.gib_base.specs.Names.{number_of, with_name}
use Rattle.gib_base.specs.Piece.{is_piece_by}
use Rattle.gib_base.specs.Spelling.{IsSignOf, piece_by, token_text, tokens_text}
use Rattle.gib_base.specs.Lexed.{Lexed, IsLexedIn}

-- The number is held by a text that is a name of this kind.
pub record IsNameOf (dialect : Dialect) (names : List (List ℕ)) (kind : Piece) (number : ℕ) : Type 0 where
  pub text : List ℕ
  pub held : slice_get names number ≡ Some text
  pub whole : is_piece_by dialect text ≡ true
  pub is_so : piece_by dialect text ≡ kind

-- The token can be written: its name is one of its kind, its number a literal, its sign one of the dialect's.
abbrev pub IsWritableIn : Dialect → List (List ℕ) → Token → Type 0
IsWritableIn dialect names (token.Variable x) = IsNameOf dialect names kinds.Variable x.0
IsWritableIn dialect names (token.Constructor x) = IsNameOf dialect names kinds.Constructor x.0
IsWritableIn dialect names (token.Number n) = n < 2 ^ 63
IsWritableIn dialect names (token.Sign s) = IsSignOf dialect s

-- The same in a program.
abbrev pub IsWritable : List (List ℕ) → Token → Type 0
IsWritable = IsWritableIn Source

-- The text of a token's name.
abbrev pub name_used : List (List ℕ) → Token → List (List ℕ)
name_used names (token.Variable x) = token_text names (token.Variable x) ∷ []
name_used names (token.Constructor x) = token_text names (token.Constructor x) ∷ []
name_used names (token.Number n) = []
name_used names (token.Sign s) = []

-- The names of tokens, each once, in the order of their first use.
abbrev pub names_used : List (List ℕ) → List Token → List (List ℕ)
names_used names tokens = fold with_name [] (flat_map (name_used names) tokens)

-- The token with its name's number among other names.
abbrev pub renumbered : List (List ℕ) → List (List ℕ) → Token → Token
renumbered names new (token.Variable x) = token.Variable (record { 0 = number_of new (token_text names (token.Variable x)) })
renumbered names new (token.Constructor x) = token.Constructor (record { 0 = number_of new (token_text names (token.Constructor x)) })
renumbered names new (token.Number n) = token.Number n
renumbered names new (token.Sign s) = token.Sign s

-- What the written tokens make: the same tokens, with the names that they use.
pub record IsReadAgainIn (dialect : Dialect) (names : List (List ℕ)) (tokens : List Token) (l : Lexed) : Type 0 where
  pub lexed : IsLexedIn dialect (tokens_text names tokens) l
  pub used : l.names ≡ names_used names tokens
  pub same : l.tokens ≡ map (renumbered names l.names) tokens

-- The same in a program.
abbrev pub IsReadAgain : List (List ℕ) → List Token → Lexed → Type 0
IsReadAgain = IsReadAgainIn Source
