-- Why a source is no program. Places count its bytes from 0.
use Rattle.std.specs.Prelude.{◌≡◌, ◌≤◌, ℕ, List, length, Some, Err}
use Rattle.gib_base.specs.Lexed.{Lexed, IsLexed}
use Rattle.gib_base.specs.declared.Span.{Span}
use Rattle.gib_base.specs.declared.token.Dialect.{Dialect}
use Rattle.gib_base.specs.declared.token.Dialect.TheVariants.{Source, Located}
use Rattle.gib_syntax.specs.GenericTree.{GenericProgramTree}
use Rattle.gib_syntax.specs.GenericTyping.{IsTypedGeneric}
use Rattle.gib_mono.specs.Walk.{copies_of}
use Rattle.gib_syntax.specs.Source.{Spells}
use Rattle.gib_lex.specs.declared.fault.LexFault.TheVariants as lexing
use Rattle.gib_lex.specs.Refused.{IsRefused, IsRefusedIn}
use Rattle.gib_parse.specs.Blaming.{IsBlamedAt, IsTooDeepAt}
use Rattle.gib_check.specs.declared.fault.Fault.{Fault}
use Rattle.gib_check.specs.declared.fault.Kind.{Kind}
use Rattle.gib_check.specs.FirstFault.{first_fault}
use Rattle.gib_local.specs.Local.{Misnamed, Breaks}
use Rattle.gib_local.specs.Local.{Misplaced as Elsewhere}
use Rattle.gib_local.specs.LocalFaults.{IsAnswered, IsMisspelled, IsTooNested}
use Rattle.gib_app.specs.declared.source_fault.SourceFault.{SourceFault}
use Rattle.gib_app.specs.declared.source_fault.SourceFault.TheVariants.{Long, BadCharacter, BigNumber, ManyNames, Syntax, Nested, Broken, OverLimit, Misplaced, BreaksRule}

-- What lexing makes of the source, which is within the limits on bytes and names.
pub record HasTokens (source : List ℕ) (lexed : Lexed) : Type 0 where
  pub is_lexed : IsLexed source lexed
  pub short : length source ≤ 1048576
  pub few_names : length lexed.names ≤ 65535

-- A token that may not stand at the place is the first fault of the source's tokens: no program begins with the tokens up
-- to and including it.
pub record IsBadSyntax (source : List ℕ) (place : ℕ) : Type 0 where
  pub lexed : Lexed
  pub tokens : HasTokens source lexed
  pub blamed : IsBlamedAt lexed place

-- An expression at the place, nested too deep, is the first fault of the source's tokens.
pub record IsTooDeep (source : List ℕ) (place : ℕ) : Type 0 where
  pub lexed : Lexed
  pub tokens : HasTokens source lexed
  pub deep : IsTooDeepAt lexed place

-- The source spells a program, and the first rule of typing that it breaks is of this kind; what breaks it
-- begins at the place.
pub record IsBroken (source : List ℕ) (kind : Kind) (place : ℕ) : Type 0 where
  pub lexed : Lexed
  pub program : GenericProgramTree
  pub spelled : Spells source lexed program
  pub fault : Fault
  pub first : first_fault program ≡ Some fault
  pub of_kind : fault.kind ≡ kind
  pub here : fault.span.start ≡ place

-- The source spells a typed program, and the first of its uses that is over a limit on copies begins at the place.
pub record IsOverLimit (source : List ℕ) (place : ℕ) : Type 0 where
  pub lexed : Lexed
  pub program : GenericProgramTree
  pub spelled : Spells source lexed program
  pub typed : IsTypedGeneric program
  pub use_of : Span
  pub first : copies_of program ≡ Err use_of
  pub here : use_of.start ≡ place

-- The source is refused for this fault: it has too many bytes; or the first fault of lexing, else of its
-- tokens by the grammar, else of its program by the rules of typing, else by the limits on copies.
abbrev pub IsSourceFault : List ℕ → SourceFault → Type 0
IsSourceFault source Long = IsRefused source lexing.Long
IsSourceFault source (BadCharacter place) = IsRefused source (lexing.At place)
IsSourceFault source (BigNumber place) = IsRefused source (lexing.Big place)
IsSourceFault source ManyNames = IsRefused source lexing.Many
IsSourceFault source (Syntax place) = IsBadSyntax source place
IsSourceFault source (Nested place) = IsTooDeep source place
IsSourceFault source (Broken kind place) = IsBroken source kind place
IsSourceFault source (OverLimit place) = IsOverLimit source place
IsSourceFault source (Misplaced place) = ⊥
IsSourceFault source (BreaksRule n term) = ⊥

-- The names, counts and limits of a text that writes its places out are not in order: the first rule that is broken is of this kind, and
-- what breaks it begins at the place.
pub record IsMisnamed (source : List ℕ) (kind : Kind) (place : ℕ) : Type 0 where
  pub lexed : Lexed
  pub fault : Fault
  pub answered : IsAnswered source lexed (Misnamed fault)
  pub of_kind : fault.kind ≡ kind
  pub here : fault.span.start ≡ place

-- A source that writes its places out is refused for this fault: it has too many bytes; or the first fault of lexing, else of its tokens by
-- the grammar, else of its names, counts and limits, else of its places, else of its core by the build rules.
abbrev pub IsLocatedFault : List ℕ → SourceFault → Type 0
IsLocatedFault source Long = IsRefusedIn Located source lexing.Long
IsLocatedFault source (BadCharacter place) = IsRefusedIn Located source (lexing.At place)
IsLocatedFault source (BigNumber place) = IsRefusedIn Located source (lexing.Big place)
IsLocatedFault source ManyNames = IsRefusedIn Located source lexing.Many
IsLocatedFault source (Syntax place) = IsMisspelled source place
IsLocatedFault source (Nested place) = IsTooNested source place
IsLocatedFault source (Broken kind place) = IsMisnamed source kind place
IsLocatedFault source (OverLimit place) = ⊥
IsLocatedFault source (Misplaced place) = (lexed : Lexed) × IsAnswered source lexed (Elsewhere place)
IsLocatedFault source (BreaksRule n term) = (lexed : Lexed) × IsAnswered source lexed (Breaks n term)

-- Why a source is no program in a dialect.
abbrev pub IsSourceFaultIn : Dialect → List ℕ → SourceFault → Type 0
IsSourceFaultIn Source source fault = IsSourceFault source fault
IsSourceFaultIn Located source fault = IsLocatedFault source fault
