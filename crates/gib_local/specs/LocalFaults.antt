-- Why bytes are no program whose places are written out. Places count their bytes from 0.
use Rattle.std.specs.Prelude.{◌≡◌, ◌≤◌, ℕ, List, length, Err}
use Rattle.gib_base.specs.Lexed.{Lexed, IsLexedIn}
use Rattle.gib_base.specs.declared.token.Dialect.TheVariants.{Located}
use Rattle.gib_syntax.specs.Spelling.{places_of}
use Rattle.gib_lex.specs.declared.fault.LexFault.TheVariants as lexing
use Rattle.gib_lex.specs.Refused.{IsRefusedIn}
use Rattle.gib_reads.specs.Faults.{place_of}
use Rattle.gib_reads.specs.Readers as reading
use Rattle.gib_check.specs.declared.fault.Fault.{Fault}
use Rattle.gib_local.specs.declared.fault.LocalFault.{LocalFault}
use Rattle.gib_local.specs.declared.fault.LocalFault.TheVariants.{Memory, Long, At, Big, Many, Syntax, Nested, Broken, Place, Rule}
use Rattle.gib_local_parse.specs.Refused.{IsFirstBlamed}
use Rattle.gib_local.specs.Local.{Refusal, Unread, Misnamed, Misplaced, Breaks, answer}

-- Within the limits on bytes and names the text has tokens to which this refusal is answered.
pub record IsAnswered (bytes : List ℕ) (lexed : Lexed) (refusal : Refusal) : Type 0 where
  pub is_lexed : IsLexedIn Located bytes lexed
  pub short : length bytes ≤ 1048576
  pub few_names : length lexed.names ≤ 65535
  pub refused : answer (places_of lexed.spans) lexed.tokens ≡ Err refusal

-- The token at the place is the first that no text goes on with, in however many levels; before it no term is nested too deep.
pub record IsMisspelled (bytes : List ℕ) (place : ℕ) : Type 0 where
  pub lexed : Lexed
  pub left : ℕ
  pub answered : IsAnswered bytes lexed (Unread (reading.At left))
  pub first : IsFirstBlamed lexed.tokens left
  pub here : place ≡ place_of lexed left

-- The term at the place is nested too deep.
pub record IsTooNested (bytes : List ℕ) (place : ℕ) : Type 0 where
  pub lexed : Lexed
  pub left : ℕ
  pub answered : IsAnswered bytes lexed (Unread (reading.Nested left))
  pub here : place ≡ place_of lexed left

-- The bytes are refused for this fault; want of memory is none that they give.
abbrev pub IsLocalFault : List ℕ → LocalFault → Type 0
IsLocalFault bytes Memory = Unit {0}
IsLocalFault bytes Long = IsRefusedIn Located bytes lexing.Long
IsLocalFault bytes (At place) = IsRefusedIn Located bytes (lexing.At place)
IsLocalFault bytes (Big place) = IsRefusedIn Located bytes (lexing.Big place)
IsLocalFault bytes Many = IsRefusedIn Located bytes lexing.Many
IsLocalFault bytes (Syntax place) = IsMisspelled bytes place
IsLocalFault bytes (Nested place) = IsTooNested bytes place
IsLocalFault bytes (Broken fault) = (lexed : Lexed) × IsAnswered bytes lexed (Misnamed fault)
IsLocalFault bytes (Place place) = (lexed : Lexed) × IsAnswered bytes lexed (Misplaced place)
IsLocalFault bytes (Rule n term) = (lexed : Lexed) × IsAnswered bytes lexed (Breaks n term)
