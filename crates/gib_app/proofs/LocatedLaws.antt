-- A source that writes its places out is refused for one fault, and then it is no program; else its core runs in the place of its program.
use Rattle.std.proofs.Common.{◌≡◌, ◌∙◌, refl, sym, ap, subst, ℕ, ◌≤◌, List, [], ◌∷◌, length, map, Option, Some, None, Ok, Err}
use Rattle.std.specs.Prelude.{◌↔◌, Result, Bool, true, false, if◌then◌else◌, nat_le}
use Rattle.std.specs.List.{AllByRecursion}
use Rattle.gib_base.specs.Lexed.{Lexed, IsLexedIn}
use Rattle.gib_base.specs.Printing.{IsWritableIn}
use Rattle.gib_base.specs.Texts.{TextsView, plain_texts}
use Rattle.gib_base.specs.declared.token.Dialect.TheVariants as dialect
use Rattle.gib_types.specs.Table.{IsTable}
use Rattle.gib_types.specs.Tree.{Datum}
use Rattle.gib_value.specs.Text.{AreHeld}
use Rattle.gib_syntax.specs.Declarations.{table_of_program, input_type, output_type}
use Rattle.gib_syntax.specs.Meaning.{run}
use Rattle.gib_syntax.specs.Spelling.{Places, places_of}
use Rattle.gib_syntax.specs.Tree.{ProgramTree}
use Rattle.gib_lex.specs.declared.fault.LexFault.{LexFault}
use Rattle.gib_lex.specs.declared.fault.LexFault.TheVariants as lexing
use Rattle.gib_lex.specs.Refused.{IsRefusedIn}
use Rattle.gib_parse.specs.Blaming.{place_of}
use Rattle.gib_parse.specs.Reading as reading
use Rattle.gib_check.specs.declared.fault.Fault.{Fault}
use Rattle.gib_core.specs.Erasing.{erase_core}
use Rattle.gib_core.specs.Walk.{with_body}
use Rattle.gib_core.specs.Marking.{mark, mark_core}
use Rattle.gib_core.specs.Meaning.{core_run}
use Rattle.gib_core.specs.Numbering.{AreNumbered}
use Rattle.gib_core.specs.Parts.{AreDeclared}
use Rattle.gib_core.specs.Rules.{AreBuilt, Broken, first_broken}
use Rattle.gib_core.specs.Tree.{CoreTree, FunctionTerm}
use Rattle.gib_core.specs.TypesNamed.{SignaturesDeclared}
use Rattle.gib_local.specs.Building.{build_core, program}
use Rattle.gib_local.specs.Counting.{broken_text, unlike_in, with_unlike}
use Rattle.gib_local.specs.Local.{Local, Refusal, Unread, Misnamed, Breaks, answer}
use Rattle.gib_local.specs.Local.{Misplaced as Elsewhere}
use Rattle.gib_local.specs.LocalFaults.{IsAnswered, IsLocalFault}
use Rattle.gib_local_parse.specs.Tree.{LocalTree}
use Rattle.gib_local.specs.declared.fault.LocalFault.{LocalFault}
use Rattle.gib_local.specs.declared.fault.LocalFault.TheVariants as locating
use Rattle.gib_app.specs.declared.source_fault.SourceFault.{SourceFault}
use Rattle.gib_app.specs.declared.source_fault.SourceFault.TheVariants.{Long, BadCharacter, BigNumber, ManyNames, Syntax, Nested, Broken as BreaksTyping, OverLimit, Misplaced, BreaksRule}
use Rattle.gib_app.specs.Located.{IsWritten, IsLocatedStop}
use Rattle.gib_app.specs.MachineRun.{RunsFor}
use Rattle.gib_app.specs.PassFaults.{local_stop}
use Rattle.gib_app.specs.Running.{Program, IsLocated, IsNoProgramIn}
use Rattle.gib_app.specs.SourceFaults.{IsLocatedFault}
use Rattle.gib_app.proofs.LocatedNames.{names_held}

pub record Laws : Type 0 where
  pub nothing : (bytes : List ℕ) (fault : LexFault) (l : Lexed) → IsRefusedIn dialect.Located bytes fault → IsLexedIn dialect.Located bytes l → length bytes ≤ 1048576 → length l.names ≤ 65535 → ⊥
  pub one : (bytes : List ℕ) (f g : LexFault) → IsRefusedIn dialect.Located bytes f → IsRefusedIn dialect.Located bytes g → f ≡ g
  pub lexed : (bytes : List ℕ) (l m : Lexed) → IsLexedIn dialect.Located bytes l → IsLexedIn dialect.Located bytes m → l ≡ m
  pub answered : (bytes : List ℕ) (core : CoreTree) (h : Local bytes core) → broken_text h.tree core ≡ None → answer (places_of h.lexed.spans) h.lexed.tokens ≡ Ok (mark_core core)

-- the fault of a source by that of its lexing, or by what is answered to its tokens

abbrev of_lexing : LexFault → SourceFault
of_lexing lexing.Memory = Long
of_lexing lexing.Long = Long
of_lexing (lexing.At place) = BadCharacter place
of_lexing (lexing.Big place) = BigNumber place
of_lexing lexing.Many = ManyNames

abbrev of_refusal : Lexed → Refusal → SourceFault
of_refusal l (Unread (reading.At left)) = Syntax (place_of l left)
of_refusal l (Unread (reading.Nested left)) = Nested (place_of l left)
of_refusal l (Misnamed fault) = BreaksTyping fault.kind fault.span.start
of_refusal l (Elsewhere place) = Misplaced place
of_refusal l (Breaks n term) = BreaksRule n term

data Stage (source : List ℕ) (f : SourceFault) : Type 0 where
  Lexing : (fault : LexFault) → IsRefusedIn dialect.Located source fault → f ≡ of_lexing fault → Stage source f
  Answering : (l : Lexed) (refusal : Refusal) → IsAnswered source l refusal → f ≡ of_refusal l refusal → Stage source f

stage : (source : List ℕ) (f : SourceFault) → IsLocatedFault source f → Stage source f
stage source Long h = Lexing lexing.Long h refl
stage source (BadCharacter place) h = Lexing (lexing.At place) h refl
stage source (BigNumber place) h = Lexing (lexing.Big place) h refl
stage source ManyNames h = Lexing lexing.Many h refl
stage source (Syntax place) h = Answering h.lexed (Unread (reading.At h.left)) h.answered (ap Syntax h.here)
stage source (Nested place) h = Answering h.lexed (Unread (reading.Nested h.left)) h.answered (ap Nested h.here)
stage source (BreaksTyping kind place) h =
    Answering h.lexed (Misnamed h.fault) h.answered (ap (λ k. BreaksTyping k place) (sym h.of_kind) ∙ ap (BreaksTyping h.fault.kind) (sym h.here))
stage source (OverLimit place) h = absurd h
stage source (Misplaced place) h = Answering h.0 (Elsewhere place) h.1 refl
stage source (BreaksRule n term) h = Answering h.0 (Breaks n term) h.1 refl

-- the tokens are answered once
one_answer : (r : Result CoreTree Refusal) (a b : Refusal) → r ≡ Err a → r ≡ Err b → a ≡ b
one_answer r a b e f = let both = sym e ∙ f in cc

answers_differ : (r : Result CoreTree Refusal) (a : Refusal) (c : CoreTree) → r ≡ Err a → r ≡ Ok c → ⊥
answers_differ r a c e f = let both = sym e ∙ f in cc

abbrev answer_of : Lexed → Result CoreTree Refusal
answer_of l = answer (places_of l.spans) l.tokens

not_both : Laws → (source : List ℕ) (fault : LexFault) (l : Lexed) (refusal : Refusal) → IsRefusedIn dialect.Located source fault → IsAnswered source l refusal → ⊥
not_both laws source fault l refusal h k = laws.nothing source fault l h k.is_lexed k.short k.few_names

one_stage : Laws → (source : List ℕ) (f g : SourceFault) → Stage source f → Stage source g → f ≡ g
one_stage laws source f g (Lexing a ra ea) (Lexing b rb eb) = ea ∙ ap of_lexing (laws.one source a b ra rb) ∙ sym eb
one_stage laws source f g (Lexing a ra ea) (Answering m b rb eb) = absurd (not_both laws source a m b ra rb)
one_stage laws source f g (Answering l a ra ea) (Lexing b rb eb) = absurd (not_both laws source b l a rb ra)
one_stage laws source f g (Answering l a ra ea) (Answering m b rb eb) =
    let el = laws.lexed source l m ra.is_lexed rb.is_lexed in
    let A : Lexed → Type 0 = λ x. answer_of x ≡ Err a in
    let er = one_answer (answer_of m) a b (subst A el ra.refused) rb.refused in
    ea ∙ ap (λ x. of_refusal x a) el ∙ ap (of_refusal m) er ∙ sym eb

pub one_fault : Laws → (source : List ℕ) (f g : SourceFault) → IsLocatedFault source f → IsLocatedFault source g → f ≡ g
one_fault laws source f g h k = one_stage laws source f g (stage source f h) (stage source g k)

no_stage : Laws → (source : List ℕ) (f : SourceFault) → Stage source f → IsNoProgramIn dialect.Located source
no_stage laws source f (Lexing a ra ea) t p is = laws.nothing source a is.local.lexed ra is.local.is_lexed is.local.short is.local.few_names
no_stage laws source f (Answering l a ra ea) t p is =
    let el = laws.lexed source l is.local.lexed ra.is_lexed is.local.is_lexed in
    let A : Lexed → Type 0 = λ x. answer_of x ≡ Err a in
    answers_differ (answer_of is.local.lexed) a (mark_core is.core) (subst A el ra.refused) (laws.answered source is.core is.local is.built)

pub no_program : Laws → (source : List ℕ) (f : SourceFault) → IsLocatedFault source f → IsNoProgramIn dialect.Located source
no_program laws source f h = no_stage laws source f (stage source f h)

-- what is refused is refused as a source

found_fault : (source : List ℕ) (fault : LocalFault) (f : SourceFault) → Laws → IsLocatedFault source f → IsLocatedFault source f × IsNoProgramIn dialect.Located source
found_fault source fault f laws h = (h, no_program laws source f h)

pub local_refused : Laws → (source : List ℕ) (fault : LocalFault) → IsLocalFault source fault → IsLocatedStop source (local_stop fault)
local_refused laws source locating.Memory h = tt {0}
local_refused laws source locating.Long h = found_fault source locating.Long Long laws h
local_refused laws source (locating.At place) h = found_fault source (locating.At place) (BadCharacter place) laws h
local_refused laws source (locating.Big place) h = found_fault source (locating.Big place) (BigNumber place) laws h
local_refused laws source locating.Many h = found_fault source locating.Many ManyNames laws h
local_refused laws source (locating.Syntax place) h = found_fault source (locating.Syntax place) (Syntax place) laws h
local_refused laws source (locating.Nested place) h = found_fault source (locating.Nested place) (Nested place) laws h
local_refused laws source (locating.Broken fault) h =
    found_fault source (locating.Broken fault) (BreaksTyping fault.kind fault.span.start) laws (record { lexed = h.0; fault = fault; answered = h.1; of_kind = refl; here = refl })
local_refused laws source (locating.Place place) h = found_fault source (locating.Place place) (Misplaced place) laws h
local_refused laws source (locating.Rule n term) h = found_fault source (locating.Rule n term) (BreaksRule n term) laws h

-- What is written out runs.

-- a text whose rules hold makes a core whose rules hold
none_chosen : (b : Bool) (x y : ℕ × ℕ) → (if b then Some x else Some y) ≡ None → ⊥
none_chosen true x y e = cc
none_chosen false x y e = cc

none_first : (unlike : Option ℕ) (broken : Broken) → with_unlike unlike broken ≡ None → broken ≡ None
none_first None broken e = e
none_first (Some n) None e = refl
none_first (Some n) (Some place) e = absurd (none_chosen (nat_le place.1 n) (place.0, place.1) (9, n) e)

unbroken : (t : LocalTree) (core : CoreTree) → broken_text t core ≡ None → first_broken core ≡ None
unbroken t core e = none_first (unlike_in (program t) t.functions t.main.body 0) (first_broken core) e

-- the types of a marked core are declared, and so are those of the core
functions_declared : (n : ℕ) (fs : List FunctionTerm) → AllByRecursion (λ (f : FunctionTerm). AreDeclared n f.parameters f.result) (map (with_body (λ b. mark b.term)) fs) → AllByRecursion (λ (f : FunctionTerm). AreDeclared n f.parameters f.result) fs
functions_declared n [] h = tt {0}
functions_declared n (f ∷ fs) h = (h.0, functions_declared n fs h.1)

signatures : (core : CoreTree) → SignaturesDeclared (mark_core core) → SignaturesDeclared core
signatures core h = record { functions = functions_declared (length core.table.types) core.functions h.functions; main = h.main }

-- the laws of what is written out
pub record Facts : Type 0 where
  pub unbroken_built : (core : CoreTree) → (first_broken core ≡ None) ↔ AreBuilt core
  pub marked_run : (core : CoreTree) (depth : ℕ) (v : Datum) → core_run (mark_core core) depth v ≡ core_run core depth v
  pub marked_numbered : (core : CoreTree) → AreNumbered core → AreNumbered (mark_core core)
  pub numbered : (t : LocalTree) (core : CoreTree) → build_core t ≡ Ok core → AreNumbered core
  pub table : (t : LocalTree) (core : CoreTree) → build_core t ≡ Ok core → table_of_program (erase_core t.datas core) ≡ core.table
  pub types : (t : LocalTree) (core : CoreTree) → build_core t ≡ Ok core → IsTable core.table → SignaturesDeclared core → (input_type (erase_core t.datas core) ≡ core.main.parameter) × (output_type (erase_core t.datas core) ≡ core.main.result)
  pub means : (t : LocalTree) (core : CoreTree) → build_core t ≡ Ok core → IsTable core.table → AreBuilt core → (depth : ℕ) (v : Datum) → run (erase_core t.datas core) depth v ≡ core_run core depth v
  pub writable : (bytes : List ℕ) (l : Lexed) → IsLexedIn dialect.Located bytes l → AllByRecursion (IsWritableIn dialect.Located l.names) l.tokens

module _ (facts : Facts) (source : List ℕ) (core : CoreTree) (l : Local source core) (built : broken_text l.tree core ≡ None) where
  abbrev left : ProgramTree
  left = erase_core l.tree.datas core

  runs : IsTable core.table → SignaturesDeclared core → RunsFor (mark_core core) left (plain_texts l.lexed.names)
  runs is declared =
      let types = facts.types l.tree core l.made is declared in
      let rules = (facts.unbroken_built core).0 (unbroken l.tree core built) in
      record {
        table = sym (facts.table l.tree core l.made);
        parameter = sym types.0;
        result = sym types.1;
        means = λ depth v. facts.marked_run core depth v ∙ sym (facts.means l.tree core l.made is rules depth v);
        held = names_held facts.writable source l.lexed l.tree l.is_lexed l.spelled left refl;
      }

  pub written_of : (made : CoreTree) (names : List (List ℕ)) (texts : TextsView) → made ≡ mark_core core → names ≡ l.lexed.names → texts ≡ plain_texts names → IsTable made.table → SignaturesDeclared made → IsWritten source made texts
  written_of made names texts e en et is declared =
      let there : IsTable core.table = let P : CoreTree → Type 0 = λ c. IsTable c.table in subst P e is in
      let known = signatures core (subst SignaturesDeclared e declared) in
      let marked : IsWritten source (mark_core core) (plain_texts l.lexed.names) = record {
        program = record { tree = left; located = Some (mark_core core) };
        is_program = record { core = core; local = l; built = built; is = refl; shown = refl };
        located = refl;
        runs = runs there known;
        numbered = facts.marked_numbered core (facts.numbered l.tree core l.made);
      } in
      let C : CoreTree → Type 0 = λ c. IsWritten source c texts in
      let T : TextsView → Type 0 = λ x. IsWritten source (mark_core core) x in
      subst C (sym e) (subst T (sym (et ∙ ap plain_texts en)) marked)
