-- A source is refused for one fault, and then it is no program.
use Rattle.std.proofs.Common.{◌≡◌, ◌∙◌, refl, ℕ, ◌≤◌, List, length, Some, None, Ok, Err, subst, sym, ap}
use Rattle.gib_base.specs.Lexed.{Lexed, IsLexed}
use Rattle.gib_lex.specs.declared.fault.LexFault.{LexFault}
use Rattle.gib_lex.specs.declared.fault.LexFault.TheVariants as lexing
use Rattle.gib_lex.specs.Refused.{IsRefused}
use Rattle.gib_parse.specs.Blaming.{IsBlamedAt, IsTooDeepAt}
use Rattle.gib_parse.specs.declared.fault.ParseFault.{ParseFault}
use Rattle.gib_parse.specs.declared.fault.ParseFault.TheVariants as parsing
use Rattle.gib_app.specs.PassFaults.{parse_stop, check_stop}
use Rattle.gib_app.specs.declared.stop.Stop.{Stop}
use Rattle.gib_app.specs.declared.stop.Stop.TheVariants.{Usage, Source, Unread, Input, NoValue, Memory, Unwritten, Unput}
use Rattle.gib_app.specs.Stops.{IsCompileStop, IsCopyStop}
use Rattle.gib_check.specs.declared.fault.Fault.{Fault}
use Rattle.gib_check.specs.FirstFault.{first_fault}
use Rattle.gib_check.specs.Refusals.{IsFirst}
use Rattle.gib_check.specs.declared.fault.TypeFault.{TypeFault}
use Rattle.gib_check.specs.declared.fault.TypeFault.TheVariants as typing
use Rattle.gib_base.specs.declared.Span.{Span}
use Rattle.gib_syntax.specs.GenericTree.{GenericProgramTree}
use Rattle.gib_syntax.specs.GenericTyping.{IsTypedGeneric}
use Rattle.gib_mono.specs.Walk.{Copy, copies_of}
use Rattle.gib_syntax.specs.Spelling.{Derives, levels_program}
use Rattle.gib_syntax.specs.Source.{Spells}
use Rattle.gib_app.specs.declared.source_fault.SourceFault.{SourceFault}
use Rattle.gib_app.specs.declared.source_fault.SourceFault.TheVariants.{Long, BadCharacter, BigNumber, ManyNames, Syntax, Nested, Broken, OverLimit, Misplaced, BreaksRule}
use Rattle.gib_app.specs.Running.{IsNoProgram}
use Rattle.gib_app.specs.SourceFaults.{IsSourceFault, HasTokens}

-- what lexing makes of a text is one
abbrev pub OneLexed : Type 0
OneLexed = (bytes : List ℕ) (l m : Lexed) → IsLexed bytes l → IsLexed bytes m → l ≡ m

-- a text makes one program
abbrev pub OneText : Type 0
OneText = (text : List ℕ) (l m : Lexed) (p q : GenericProgramTree) → Spells text l p → Spells text m q → (l ≡ m) × (p ≡ q)

-- no token of a program is blamed
abbrev pub NoneBlamed : Type 0
NoneBlamed = (l : Lexed) (place : ℕ) (p : GenericProgramTree) → Derives l.tokens p → IsBlamedAt l place → ⊥

-- none of a program within the levels is nested too deep
abbrev pub NoneNested : Type 0
NoneNested = (l : Lexed) (place : ℕ) (p : GenericProgramTree) → Derives l.tokens p → levels_program p ≤ 200 → IsTooDeepAt l place → ⊥

pub record Laws : Type 0 where
  pub nothing : (bytes : List ℕ) (fault : LexFault) (l : Lexed) → IsRefused bytes fault → IsLexed bytes l → length bytes ≤ 1048576 → length l.names ≤ 65535 → ⊥
  pub one : (bytes : List ℕ) (f g : LexFault) → IsRefused bytes f → IsRefused bytes g → f ≡ g
  pub lexed : OneLexed
  pub text : OneText
  pub blamed : (l : Lexed) (p q : ℕ) → IsBlamedAt l p → IsBlamedAt l q → p ≡ q
  pub nested : (l : Lexed) (p q : ℕ) → IsTooDeepAt l p → IsTooDeepAt l q → p ≡ q
  pub either : (l : Lexed) (p q : ℕ) → IsBlamedAt l p → IsTooDeepAt l q → ⊥
  pub not_blamed : NoneBlamed
  pub not_nested : NoneNested
  pub typed : (p : GenericProgramTree) → IsTypedGeneric p → first_fault p ≡ None

-- the fault of a source by that of its lexing, of its tokens, of its program

abbrev of_lexing : LexFault → SourceFault
of_lexing lexing.Memory = Long
of_lexing lexing.Long = Long
of_lexing (lexing.At place) = BadCharacter place
of_lexing (lexing.Big place) = BigNumber place
of_lexing lexing.Many = ManyNames

abbrev of_parsing : ParseFault → SourceFault
of_parsing parsing.Memory = Long
of_parsing (parsing.At place) = Syntax place
of_parsing (parsing.Nested place) = Nested place

-- the fault of these tokens
abbrev IsTokenFault : Lexed → ParseFault → Type 0
IsTokenFault l parsing.Memory = ⊥
IsTokenFault l (parsing.At place) = IsBlamedAt l place
IsTokenFault l (parsing.Nested place) = IsTooDeepAt l place

abbrev of_typing : Fault → SourceFault
of_typing fault = Broken fault.kind fault.span.start

data Stage (source : List ℕ) (f : SourceFault) : Type 0 where
  Lexing : (fault : LexFault) → IsRefused source fault → f ≡ of_lexing fault → Stage source f
  Parsing : (l : Lexed) (fault : ParseFault) → HasTokens source l → IsTokenFault l fault → f ≡ of_parsing fault → Stage source f
  Typing : (l : Lexed) (p : GenericProgramTree) (fault : Fault) → Spells source l p → first_fault p ≡ Some fault → f ≡ of_typing fault → Stage source f
  Copying : (l : Lexed) (p : GenericProgramTree) (use_of : Span) → Spells source l p → IsTypedGeneric p → copies_of p ≡ Err use_of → f ≡ OverLimit use_of.start → Stage source f

stage : (source : List ℕ) (f : SourceFault) → IsSourceFault source f → Stage source f
stage source Long h = Lexing lexing.Long h refl
stage source (BadCharacter place) h = Lexing (lexing.At place) h refl
stage source (BigNumber place) h = Lexing (lexing.Big place) h refl
stage source ManyNames h = Lexing lexing.Many h refl
stage source (Syntax place) h = Parsing h.lexed (parsing.At place) h.tokens h.blamed refl
stage source (Nested place) h = Parsing h.lexed (parsing.Nested place) h.tokens h.deep refl
stage source (Broken kind place) h =
    Typing h.lexed h.program h.fault h.spelled h.first (ap (λ k. Broken k place) (sym h.of_kind) ∙ ap (Broken h.fault.kind) (sym h.here))
stage source (OverLimit place) h = Copying h.lexed h.program h.use_of h.spelled h.typed h.first (ap OverLimit (sym h.here))
stage source (Misplaced place) h = absurd h
stage source (BreaksRule n term) h = absurd h

-- a text that is refused by its tokens is no program's

-- a program with a use over a limit has no copy
copy_nowhere : (p q : GenericProgramTree) (f : Span) (found : List Copy) → p ≡ q → copies_of p ≡ Err f → copies_of q ≡ Ok found → ⊥
copy_nowhere p q f found e a b =
    let T : GenericProgramTree → Type 0 = λ x. copies_of x ≡ Err f in
    let both = sym (subst T e a) ∙ b in cc

fault_nowhere : NoneBlamed → NoneNested → (l : Lexed) (fault : ParseFault) (p : GenericProgramTree) → Derives l.tokens p → levels_program p ≤ 200 → IsTokenFault l fault → ⊥
fault_nowhere none_blamed none_nested l parsing.Memory p derived shallow is = is
fault_nowhere none_blamed none_nested l (parsing.At place) p derived shallow is = none_blamed l place p derived is
fault_nowhere none_blamed none_nested l (parsing.Nested place) p derived shallow is = none_nested l place p derived shallow is

-- a text whose tokens have a fault spells no program
faulty_nowhere : OneLexed → NoneBlamed → NoneNested → (source : List ℕ) (l m : Lexed) (fault : ParseFault) (p : GenericProgramTree) → HasTokens source l → IsTokenFault l fault → Spells source m p → ⊥
faulty_nowhere one_lexed none_blamed none_nested source l m fault p tokens is spells =
    let D : Lexed → Type 0 = λ x. Derives x.tokens p in
    fault_nowhere none_blamed none_nested l fault p (subst D (one_lexed source m l spells.is_lexed tokens.is_lexed) spells.derived) spells.shallow is

not_tokened : Laws → (source : List ℕ) (l m : Lexed) (fault : ParseFault) (p : GenericProgramTree) → HasTokens source l → IsTokenFault l fault → Spells source m p → ⊥
not_tokened laws source l m fault p tokens is spells = faulty_nowhere laws.lexed laws.not_blamed laws.not_nested source l m fault p tokens is spells

-- a fault of the tokens is one of the source, which is no program
pub parse_refused : OneLexed → NoneBlamed → NoneNested → (source : List ℕ) (l : Lexed) (fault : ParseFault) → HasTokens source l
    → ((place : ℕ) → fault ≡ parsing.At place → IsBlamedAt l place) → ((place : ℕ) → fault ≡ parsing.Nested place → IsTooDeepAt l place)
    → IsCompileStop source (parse_stop fault)
parse_refused one_lexed none_blamed none_nested source l parsing.Memory tokens blamed deep = tt {0}
parse_refused one_lexed none_blamed none_nested source l (parsing.At place) tokens blamed deep = (
  record { lexed = l; tokens = tokens; blamed = blamed place refl },
  λ t p prog. faulty_nowhere one_lexed none_blamed none_nested source l prog.lexed (parsing.At place) prog.generic tokens (blamed place refl) prog.spelled,
)
parse_refused one_lexed none_blamed none_nested source l (parsing.Nested place) tokens blamed deep = (
  record { lexed = l; tokens = tokens; deep = deep place refl },
  λ t p prog. faulty_nowhere one_lexed none_blamed none_nested source l prog.lexed (parsing.Nested place) prog.generic tokens (deep place refl) prog.spelled,
)

-- a broken rule of typing is a fault of the source, which is no program
pub check_refused : OneText → ((p : GenericProgramTree) → IsTypedGeneric p → first_fault p ≡ None) → (source : List ℕ) (l : Lexed) (g : GenericProgramTree) → Spells source l g → (fault : TypeFault) → IsFirst g fault → IsCompileStop source (check_stop fault)
check_refused one_text none source l g spells typing.Memory first = tt {0}
check_refused one_text none source l g spells (typing.Broken fault) first = (
  record { lexed = l; program = g; spelled = spells; fault = fault; first = first; of_kind = refl; here = refl },
  λ t q prog.
      (let T : GenericProgramTree → Type 0 = λ x. first_fault x ≡ Some fault in
      let both : Some fault ≡ None = sym (subst T ((one_text source l prog.lexed g prog.generic spells prog.spelled).1) first) ∙ none prog.generic prog.typed in cc),
)

-- a use over a limit is a fault of the source, which is no program
pub copy_refused : OneText → (source : List ℕ) (l : Lexed) (g : GenericProgramTree) → Spells source l g → IsTypedGeneric g → (stop : Stop) → IsCopyStop g stop → IsCompileStop source stop
copy_refused one_text source l g spells typed Usage h = h
copy_refused one_text source l g spells typed (Source fault) (use_of, over, is) =
    let F : SourceFault → Type 0 = λ f. IsSourceFault source f × IsNoProgram source in
    subst F (sym is) (
      record { lexed = l; program = g; spelled = spells; typed = typed; use_of = use_of; first = over; here = refl },
      λ t q prog. copy_nowhere g prog.generic use_of prog.copy.found ((one_text source l prog.lexed g prog.generic spells prog.spelled).1) over prog.copy.within,
    )
copy_refused one_text source l g spells typed (Unread name) h = h
copy_refused one_text source l g spells typed (Input fault) h = h
copy_refused one_text source l g spells typed (NoValue reason) h = h
copy_refused one_text source l g spells typed Memory h = h
copy_refused one_text source l g spells typed (Unwritten name) h = h
copy_refused one_text source l g spells typed Unput h = h

not_lexed : Laws → (source : List ℕ) (fault : LexFault) (m : Lexed) (p : GenericProgramTree) → IsRefused source fault → Spells source m p → ⊥
not_lexed laws source fault m p h spells = laws.nothing source fault m h spells.is_lexed spells.short spells.few_names

not_tokens : Laws → (source : List ℕ) (fault : LexFault) (m : Lexed) → IsRefused source fault → HasTokens source m → ⊥
not_tokens laws source fault m h tokens = laws.nothing source fault m h tokens.is_lexed tokens.short tokens.few_names

one_token_fault : Laws → (l : Lexed) (f g : ParseFault) → IsTokenFault l f → IsTokenFault l g → f ≡ g
one_token_fault laws l parsing.Memory g a b = absurd a
one_token_fault laws l (parsing.At p) parsing.Memory a b = absurd b
one_token_fault laws l (parsing.At p) (parsing.At q) a b = ap (λ (n : ℕ). parsing.At n) (laws.blamed l p q a b)
one_token_fault laws l (parsing.At p) (parsing.Nested q) a b = absurd (laws.either l p q a b)
one_token_fault laws l (parsing.Nested p) parsing.Memory a b = absurd b
one_token_fault laws l (parsing.Nested p) (parsing.At q) a b = absurd (laws.either l q p b a)
one_token_fault laws l (parsing.Nested p) (parsing.Nested q) a b = ap (λ (n : ℕ). parsing.Nested n) (laws.nested l p q a b)

token_fault : Laws → (l m : Lexed) (f g : ParseFault) → l ≡ m → IsTokenFault l f → IsTokenFault m g → of_parsing f ≡ of_parsing g
token_fault laws l m f g e a b =
    let T : Lexed → Type 0 = λ x. IsTokenFault x f in
    ap of_parsing (one_token_fault laws m f g (subst T e a) b)

type_fault : (p q : GenericProgramTree) (f g : Fault) → p ≡ q → first_fault p ≡ Some f → first_fault q ≡ Some g → of_typing f ≡ of_typing g
type_fault p q f g e a b =
    let T : GenericProgramTree → Type 0 = λ x. first_fault x ≡ Some f in
    let both = sym (subst T e a) ∙ b in
    let same : f ≡ g = cc in
    ap of_typing same

-- a typed program has no fault of typing
no_fault : Laws → (p q : GenericProgramTree) (f : Fault) → p ≡ q → first_fault p ≡ Some f → IsTypedGeneric q → ⊥
no_fault laws p q f e a typed =
    let T : GenericProgramTree → Type 0 = λ x. first_fault x ≡ Some f in
    let both = sym (subst T e a) ∙ laws.typed q typed in cc

copy_fault : (p q : GenericProgramTree) (f g : Span) → p ≡ q → copies_of p ≡ Err f → copies_of q ≡ Err g → OverLimit f.start ≡ OverLimit g.start
copy_fault p q f g e a b =
    let T : GenericProgramTree → Type 0 = λ x. copies_of x ≡ Err f in
    let both = sym (subst T e a) ∙ b in
    let same : f ≡ g = cc in
    ap (λ (x : Span). OverLimit x.start) same

one_stage : Laws → (source : List ℕ) (f g : SourceFault) → Stage source f → Stage source g → f ≡ g
one_stage laws source f g (Lexing a ra ea) (Lexing b rb eb) = ea ∙ ap of_lexing (laws.one source a b ra rb) ∙ sym eb
one_stage laws source f g (Lexing a ra ea) (Parsing m b tokens rb eb) = absurd (not_tokens laws source a m ra tokens)
one_stage laws source f g (Lexing a ra ea) (Typing m q b spells rb eb) = absurd (not_lexed laws source a m q ra spells)
one_stage laws source f g (Lexing a ra ea) (Copying m q b spells typed rb eb) = absurd (not_lexed laws source a m q ra spells)
one_stage laws source f g (Parsing l a tokens ra ea) (Lexing b rb eb) = absurd (not_tokens laws source b l rb tokens)
one_stage laws source f g (Parsing l a tokens ra ea) (Parsing m b others rb eb) = ea ∙ token_fault laws l m a b (laws.lexed source l m tokens.is_lexed others.is_lexed) ra rb ∙ sym eb
one_stage laws source f g (Parsing l a tokens ra ea) (Typing m q b spells rb eb) = absurd (not_tokened laws source l m a q tokens ra spells)
one_stage laws source f g (Parsing l a tokens ra ea) (Copying m q b spells typed rb eb) = absurd (not_tokened laws source l m a q tokens ra spells)
one_stage laws source f g (Typing l p a spells ra ea) (Lexing b rb eb) = absurd (not_lexed laws source b l p rb spells)
one_stage laws source f g (Typing l p a spells ra ea) (Parsing m b tokens rb eb) = absurd (not_tokened laws source m l b p tokens rb spells)
one_stage laws source f g (Typing l p a spells ra ea) (Typing m q b others rb eb) = ea ∙ type_fault p q a b ((laws.text source l m p q spells others).1) ra rb ∙ sym eb
one_stage laws source f g (Typing l p a spells ra ea) (Copying m q b others typed rb eb) = absurd (no_fault laws p q a ((laws.text source l m p q spells others).1) ra typed)
one_stage laws source f g (Copying l p a spells typed ra ea) (Lexing b rb eb) = absurd (not_lexed laws source b l p rb spells)
one_stage laws source f g (Copying l p a spells typed ra ea) (Parsing m b tokens rb eb) = absurd (not_tokened laws source m l b p tokens rb spells)
one_stage laws source f g (Copying l p a spells typed ra ea) (Typing m q b others rb eb) = absurd (no_fault laws q p b ((laws.text source m l q p others spells).1) rb typed)
one_stage laws source f g (Copying l p a spells typed ra ea) (Copying m q b others other rb eb) = ea ∙ copy_fault p q a b ((laws.text source l m p q spells others).1) ra rb ∙ sym eb

pub one_fault : Laws → (source : List ℕ) (f g : SourceFault) → IsSourceFault source f → IsSourceFault source g → f ≡ g
one_fault laws source f g h k = one_stage laws source f g (stage source f h) (stage source g k)

no_stage : Laws → (source : List ℕ) (f : SourceFault) → Stage source f → IsNoProgram source
no_stage laws source f (Lexing a ra ea) t q prog = not_lexed laws source a prog.lexed prog.generic ra prog.spelled
no_stage laws source f (Parsing l a tokens ra ea) t q prog = not_tokened laws source l prog.lexed a prog.generic tokens ra prog.spelled
no_stage laws source f (Typing l p a spells ra ea) t q prog = no_fault laws p prog.generic a ((laws.text source l prog.lexed p prog.generic spells prog.spelled).1) ra prog.typed
no_stage laws source f (Copying l p a spells typed ra ea) t q prog = copy_nowhere p prog.generic a prog.copy.found ((laws.text source l prog.lexed p prog.generic spells prog.spelled).1) ra prog.copy.within

pub no_program : Laws → (source : List ℕ) (f : SourceFault) → IsSourceFault source f → IsNoProgram source
no_program laws source f h = no_stage laws source f (stage source f h)
