-- What reading a type in parentheses keeps.
use Rattle.std.specs.Prelude.{◌≡◌, ◌<◌, ◌+◌, ℕ, Bool, true, false, List, [], ◌∷◌, ◌++◌, length}
use Rattle.std.specs.List.{AllByRecursion}
use Rattle.gib_base.specs.declared.Span.{Span}
use Rattle.gib_base.specs.declared.token.Token.{Token}
use Rattle.gib_syntax.specs.declared.tree.Ident.{Ident}
use Rattle.gib_syntax.specs.declared.written.Word.{Word}
use Rattle.gib_syntax.specs.declared.written.Word.TheVariants as w
use Rattle.gib_syntax.specs.Forms.{WrittenType}
use Rattle.gib_syntax.specs.Spelling.{Places}
use Rattle.gib_syntax.specs.Words.{words_in, all_types}
use Rattle.gib_parse.specs.declared.types.OpenType.{OpenType}
use Rattle.gib_parse.specs.Reading.{Read, Opened, inside}
use Rattle.gib_parse.specs.Parsing.{ReadsWords}

-- All words, the innermost type that is open, and those round it, the next one first.
pub record TypeState : Type 0 where
  pub words : List Word
  pub here : OpenType
  pub outer : List OpenType

-- The word of an open type is one of so many.
abbrev pub IsPlaceBelow : ℕ → OpenType → Type 0
IsPlaceBelow n ty = ty.place < n

-- The words of all open types are there.
pub record AreThere (s : TypeState) : Type 0 where
  pub here : IsPlaceBelow (length s.words) s.here
  pub outer : AllByRecursion (IsPlaceBelow (length s.words)) s.outer

-- A type that opens: its word stands behind the others, and tells no arguments yet.
abbrev pub open_type : List Word → Span → Ident → OpenType
open_type words p k = record { place = length words; span = p; name = k; arguments = 0 }

-- With one argument more.
abbrev pub counted : OpenType → OpenType
counted ty = record { place = ty.place; span = ty.span; name = ty.name; arguments = ty.arguments + 1 }

-- The words of types that stand open, the innermost first, behind others.
abbrev pub unclosed : List Word → List Opened → List Word
unclosed base [] = base
unclosed base (o ∷ os) = unclosed base os ++ (w.Data o.place o.name 0 ∷ words_in (all_types o.arguments))

-- This is what is kept of an open type with these arguments, whose word stands behind these.
pub record IsKept (words : List Word) (ty : OpenType) (o : Opened) : Type 0 where
  pub place : ty.place ≡ length words
  pub span : ty.span ≡ o.place
  pub name : ty.name ≡ o.name
  pub count : ty.arguments ≡ length o.arguments

-- The same of all that stand open.
abbrev pub AreKept : List Word → List OpenType → List Opened → Type 0
AreKept base [] [] = Unit {0}
AreKept base [] (o ∷ os) = ⊥
AreKept base (ty ∷ tys) [] = ⊥
AreKept base (ty ∷ tys) (o ∷ os) = IsKept (unclosed base os) ty o × AreKept base tys os

-- Reading all of it goes on behind these.
pub record InType (at : Places) (all : Read WrittenType) (base : List Word) (s : TypeState) (ts : List Token) : Type 0 where
  pub innermost : Opened
  pub others : List Opened
  pub here : IsKept (unclosed base others) s.here innermost
  pub outer : AreKept base s.outer others
  pub words : s.words ≡ unclosed base (innermost ∷ others)
  pub read : all ≡ inside at innermost.place innermost.name innermost.arguments others ts

-- The whole type is read, or reading goes on.
abbrev pub AfterToken : Bool → Places → Read WrittenType → List Word → TypeState → List Token → Type 0
AfterToken true at all base s rest = ReadsWords all base s.words rest
AfterToken false at all base s rest = InType at all base s rest
