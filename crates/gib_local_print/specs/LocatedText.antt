-- The bytes of a core's LoCal text.
use Rattle.std.specs.Prelude.{ℕ, zero, suc, ◌+◌, ◌-◌, ◌*◌, ◌/◌, ◌%◌, ◌^◌, nat_lt, Bool, true, false, not, ◌&&◌, if◌then◌else◌, List, [], ◌∷◌, ◌++◌, map, length, get_or, Option, Some, None}
use Rattle.std.specs.List.{flat_map, list_all, list_any}
use Rattle.std.specs.Str.{bytes_eq}
use Rattle.std.specs.Fmt.{decimal}
use Rattle.std.specs.Char.{is_ascii_alphabetic}
use Rattle.gib_base.specs.declared.token.Sign.{Sign}
use Rattle.gib_base.specs.declared.token.Sign.TheVariants as s
use Rattle.gib_base.specs.declared.token.Token.{Token}
use Rattle.gib_base.specs.declared.token.Token.TheVariants as t
use Rattle.gib_base.specs.Piece.{is_name_byte}
use Rattle.gib_base.specs.Spelling.{sign_text, words, place_words, token_text}
use Rattle.gib_types.specs.Table.{Table, fields_at, name_at, numbers_from, constructors_of}
use Rattle.gib_syntax.specs.Tree.{ConstructorTree, DataTree}
use Rattle.gib_core.specs.Tree.{CoreTree}
use Rattle.gib_local_print.specs.Printing.{Naming, ident, type_text, local_of}
pub use Rattle.gib_local_print.specs.Printing.{first_given}
use Rattle.gib_local_parse.specs.Texts.{spell_text}
use Rattle.gib_local_parse.specs.Tree.{LocalTree}

-- From a number on, three names for each variable: its own, that of the location at which it stands or behind its head, and that of its region.
abbrev pub numbered : ℕ → Naming
numbered base = record { variable = λ n. base + 3 * n; location = λ n. base + (3 * n + 1); region = λ n. base + (3 * n + 2) }

-- The names that a text gives.
abbrev pub given : Naming
given = numbered first_given

-- ---- the data declarations of a table

-- A constructor of the table, by its name.
abbrev pub constructor_of : Table → ℕ → ConstructorTree
constructor_of tb k = record { name = ident (name_at tb k); fields = map (type_text tb) (fields_at tb k) }

-- A type of the table with its constructors.
abbrev pub data_of : Table → ℕ → DataTree
data_of tb n = record { name = ident (get_or tb.types n 0); constructors = map (constructor_of tb) (constructors_of tb n) }

-- All types of the table, in its order.
abbrev pub datas_of : Table → List DataTree
datas_of tb = map (data_of tb) (numbers_from 0 (length tb.types))

-- ---- tokens

-- The text of a core.
abbrev pub located_tree : CoreTree → LocalTree
located_tree core = local_of given (datas_of core.table) core

-- The tokens of that text.
abbrev pub located_tokens : CoreTree → List Token
located_tokens core = spell_text (located_tree core) []

-- A word of the language.
abbrev pub is_word : List ℕ → Bool
is_word text = list_any (λ (a : Sign). bytes_eq text (sign_text a)) (words ++ place_words)

-- A name that begins with a lower-case letter, or with an upper-case one: 91 stands behind `Z`.
abbrev pub is_name : Bool → List ℕ → Bool
is_name upper [] = false
is_name upper (b ∷ rest) = is_ascii_alphabetic b && (if nat_lt b 91 then upper else not upper) && list_all is_name_byte rest && not (is_word (b ∷ rest))

-- Whether the text of a token's name is a name.
abbrev pub is_named : List (List ℕ) → Token → Bool
is_named names (t.Variable x) = if nat_lt x.0 first_given then is_name false (token_text names (t.Variable x)) else true
is_named names (t.Constructor k) = nat_lt k.0 first_given && is_name true (token_text names (t.Constructor k))
is_named names (t.Number n) = true
is_named names (t.Sign a) = true

-- ---- bytes

-- `v` (118) of a variable, `l` (108) of a location, `r` (114) of a region.
abbrev pub letter : ℕ → ℕ
letter zero = 118
letter (suc zero) = 108
letter (suc (suc n)) = 114

-- A name that the text gives: its letter, and the number of the variable.
abbrev pub given_text : ℕ → List ℕ
given_text n = letter (n % 3) ∷ decimal (n / 3)

-- How a token is written.
abbrev pub written : List (List ℕ) → Token → List ℕ
written names (t.Variable x) = if nat_lt x.0 first_given then token_text names (t.Variable x) else given_text (x.0 - first_given)
written names (t.Constructor k) = token_text names (t.Constructor k)
written names (t.Number n) = token_text names (t.Number n)
written names (t.Sign a) = token_text names (t.Sign a)

-- A line ends (10) with a binding or an arm, and where arms begin; else a space (32) stands behind a token.
abbrev pub gap : Token → ℕ
gap (t.Sign s.In) = 10
gap (t.Sign s.Semicolon) = 10
gap (t.Sign s.OpenBrace) = 10
gap x = 32

-- A token, and what stands behind it.
abbrev pub spaced : List (List ℕ) → Token → List ℕ
spaced names x = written names x ++ gap x ∷ []

-- The text of tokens with the names by their numbers, where all are names.
abbrev pub text_with : List (List ℕ) → List Token → Option (List ℕ)
text_with names tokens = if list_all (is_named names) tokens then Some (flat_map (spaced names) tokens) else None

-- The text of a core; none where a name of it is no name of LoCal text, as those of copies for types, and where several parts are bound or given.
abbrev pub located_text : List (List ℕ) → CoreTree → Option (List ℕ)
located_text names core = text_with names (located_tokens core)
