-- Texts of names by their numbers: those of a source, and behind them those of its names with types.
use Rattle.std.specs.Prelude.{◌≡◌, ◌<◌, ℕ, List, [], ◌∷◌, ◌++◌, map, codes, slice_get, unwrap_or}
use Rattle.std.specs.List.{AllByRecursion}
use Rattle.gib_base.specs.declared.texts.Copied.{Copied}
use Rattle.gib_base.specs.declared.texts.TextPiece.{TextPiece}
use Rattle.gib_base.specs.declared.texts.TextPiece.TheVariants.{Word, Whole, Truth, Open, Space, Close}

-- Each name has two texts: the short one, by which values are written and read, and the long one, which tells its types too.
pub record TextsView : Type 0 where
  pub short : List (List ℕ)
  pub long : List (List ℕ)

-- A source's names alone are their texts.
abbrev pub plain_texts : List (List ℕ) → TextsView
plain_texts names = record { short = names; long = names }

-- A piece as bytes: a name of the source, a scalar type, a bracket (91, 93), or a space (32).
abbrev pub piece_text : List (List ℕ) → TextPiece → List ℕ
piece_text names (Word x) = unwrap_or (slice_get names x.0) []
piece_text names Whole = codes "Int"
piece_text names Truth = codes "Bool"
piece_text names Open = 91 ∷ []
piece_text names Space = 32 ∷ []
piece_text names Close = 93 ∷ []

-- Pieces, one after another.
abbrev pub pieces_text : List (List ℕ) → List TextPiece → List ℕ
pieces_text names [] = []
pieces_text names (p ∷ ps) = piece_text names p ++ pieces_text names ps

-- The short text of a name with types is that of the source's name.
abbrev pub short_of : List (List ℕ) → Copied → List ℕ
short_of names c = unwrap_or (slice_get names c.origin.0) []

-- Behind it stand the types, where there are some.
abbrev pub long_of : List (List ℕ) → Copied → List ℕ
long_of names c = short_of names c ++ pieces_text names c.types.items

-- The texts of a source's names and of what the code keeps of those with types.
abbrev pub view_of : List (List ℕ) → List Copied → TextsView
view_of names copies = record { short = names ++ map (short_of names) copies; long = names ++ map (long_of names) copies }

-- There are no types, or they begin with a bracket.
abbrev pub IsBracketed : List TextPiece → Type 0
IsBracketed [] = Unit {0}
IsBracketed (p ∷ ps) = p ≡ Open

-- Each is that of a name of the source, behind which types stand in brackets.
abbrev pub AreOfSource : ℕ → List Copied → Type 0
AreOfSource count copies = AllByRecursion (λ (c : Copied). (c.origin.0 < count) × IsBracketed c.types.items) copies

-- A bracket stands in the text.
abbrev pub HasBracket : List ℕ → Type 0
HasBracket text = (word : List ℕ) × (rest : List ℕ) × (text ≡ word ++ 91 ∷ rest)
