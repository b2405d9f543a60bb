-- What the stages behind the reader answer, and the whole call to tokens.
use Rattle.std.specs.Prelude.{◌≡◌, ◌≤◌, ℕ, List, length, Result, Ok, Err}
use Rattle.gib_base.specs.declared.token.Dialect.TheVariants.{Located}
use Rattle.gib_base.specs.Lexed.{Lexed, IsLexedIn}
use Rattle.gib_lex.specs.declared.fault.LexFault.TheVariants as lexing
use Rattle.gib_lex.specs.Refused.{IsRefusedIn}
use Rattle.gib_syntax.specs.Spelling.{places_of}
use Rattle.gib_reads.specs.Faults.{place_of}
use Rattle.gib_reads.specs.Readers as reading
use Rattle.gib_core.specs.Parts.{Parts, core_of}
use Rattle.gib_core.specs.Tree.{CoreTree}
use Rattle.gib_local.specs.declared.fault.LocalFault.{LocalFault}
use Rattle.gib_local.specs.declared.fault.LocalFault.TheVariants.{Memory, Long, At, Big, Many, Syntax, Nested, Broken, Place, Rule}
use Rattle.gib_local_parse.specs.Refused.{IsFirstBlamed}
use Rattle.gib_local.specs.Local.{Refusal, Unread, Misnamed, Misplaced, Breaks, answer}

-- The refusal of a text that was read, unless memory ran out.
abbrev pub Blames : LocalFault → Result CoreTree Refusal → Type 0
Blames Memory r = Unit {0}
Blames Long r = ⊥
Blames (At place) r = ⊥
Blames (Big place) r = ⊥
Blames Many r = ⊥
Blames (Syntax place) r = ⊥
Blames (Nested place) r = ⊥
Blames (Broken fault) r = r ≡ Err (Misnamed fault)
Blames (Place place) r = r ≡ Err (Misplaced place)
Blames (Rule n term) r = r ≡ Err (Breaks n term)

-- The core of a text that was read, or its refusal.
abbrev pub Judges : Result Parts LocalFault → Result CoreTree Refusal → Type 0
Judges (Ok core) r = r ≡ Ok (core_of core)
Judges (Err fault) r = Blames fault r

-- The tokens of a text are refused for a token that may not stand at this place.
pub record IsUnread (lexed : Lexed) (place : ℕ) : Type 0 where
  pub left : ℕ
  pub is : answer (places_of lexed.spans) lexed.tokens ≡ Err (Unread (reading.At left))
  pub first : IsFirstBlamed lexed.tokens left
  pub here : place ≡ place_of lexed left

-- They are refused for a term at this place that is nested too deep.
pub record IsDeep (lexed : Lexed) (place : ℕ) : Type 0 where
  pub left : ℕ
  pub is : answer (places_of lexed.spans) lexed.tokens ≡ Err (Unread (reading.Nested left))
  pub here : place ≡ place_of lexed left

-- The refusal of tokens, unless memory ran out.
abbrev pub Refuses : Lexed → LocalFault → Type 0
Refuses lexed Memory = Unit {0}
Refuses lexed Long = ⊥
Refuses lexed (At place) = ⊥
Refuses lexed (Big place) = ⊥
Refuses lexed Many = ⊥
Refuses lexed (Syntax place) = IsUnread lexed place
Refuses lexed (Nested place) = IsDeep lexed place
Refuses lexed (Broken fault) = answer (places_of lexed.spans) lexed.tokens ≡ Err (Misnamed fault)
Refuses lexed (Place place) = answer (places_of lexed.spans) lexed.tokens ≡ Err (Misplaced place)
Refuses lexed (Rule n term) = answer (places_of lexed.spans) lexed.tokens ≡ Err (Breaks n term)

-- What is answered to tokens.
abbrev pub Answers : Lexed → Result Parts LocalFault → Type 0
Answers lexed (Ok core) = answer (places_of lexed.spans) lexed.tokens ≡ Ok (core_of core)
Answers lexed (Err fault) = Refuses lexed fault

-- The bytes have no tokens for this fault, unless memory ran out.
abbrev pub IsUnlexed : List ℕ → LocalFault → Type 0
IsUnlexed bytes Memory = Unit {0}
IsUnlexed bytes Long = IsRefusedIn Located bytes lexing.Long
IsUnlexed bytes (At place) = IsRefusedIn Located bytes (lexing.At place)
IsUnlexed bytes (Big place) = IsRefusedIn Located bytes (lexing.Big place)
IsUnlexed bytes Many = IsRefusedIn Located bytes lexing.Many
IsUnlexed bytes (Syntax place) = ⊥
IsUnlexed bytes (Nested place) = ⊥
IsUnlexed bytes (Broken fault) = ⊥
IsUnlexed bytes (Place place) = ⊥
IsUnlexed bytes (Rule n term) = ⊥

-- The bytes have these tokens, within the limits on bytes and names.
pub record AreTokensOf (bytes : List ℕ) (lexed : Lexed) : Type 0 where
  pub is : IsLexedIn Located bytes lexed
  pub short : length bytes ≤ 1048576
  pub few_names : length lexed.names ≤ 65535
