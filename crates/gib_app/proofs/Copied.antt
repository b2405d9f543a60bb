-- What is known of a source's program and of its copy.
use Rattle.std.proofs.Common.{◌≡◌, ◌∙◌, refl, ℕ, zero, suc, List, [], ◌∷◌, ◌++◌, length, Some, Ok, subst, sym, ap}
use Rattle.std.specs.Prelude.{slice_get, unwrap_or}
use Rattle.std.specs.List.{AllByRecursion}
use Rattle.std.proofs.lemmas.Option.{same_Some}
use Rattle.gib_base.specs.Lexed.{Lexed}
use Rattle.gib_base.specs.Names.{AreNames}
use Rattle.gib_base.specs.Texts.{TextsView}
use Rattle.gib_base.specs.declared.token.Dialect.TheVariants as dialect
use Rattle.gib_types.proofs.Once.{get_below}
use Rattle.gib_types.specs.declared.table.Ty.{Ty}
use Rattle.gib_types.specs.Table.{name_at}
use Rattle.gib_types.specs.Tree.{Datum, HasType}
use Rattle.gib_value.specs.Text.{text, AreHeld}
use Rattle.gib_value.specs.Reading.{IsWord, AreWords, AreApart}
use Rattle.gib_value.proofs.OneText.{one_text}
use Rattle.gib_syntax.specs.Tree.{ProgramTree}
use Rattle.gib_syntax.specs.Fine.{IsFineProgram}
use Rattle.gib_syntax.specs.Declarations.{table_of_program, input_type, output_type}
use Rattle.gib_syntax.specs.Meaning.{run, OutcomeHas}
use Rattle.gib_syntax.proofs.Soundness.{run_has}
use Rattle.gib_syntax.specs.GenericTree.{GenericProgramTree, GenericRow, rows_of}
use Rattle.gib_syntax.specs.GenericTyping.{IsTypedGeneric}
use Rattle.gib_syntax.specs.GenericMeaning.{run_generic}
use Rattle.gib_syntax.specs.Source.{Spells}
use Rattle.gib_mono.specs.Copied.{shown, shown_outcome}
use Rattle.gib_mono.specs.Walk.{Copy, copies_of, base_of}
use Rattle.gib_mono.specs.Naming.{entries, naming_of, AreBelow}
use Rattle.gib_mono.specs.Showing.{source_text, short_texts, long_texts}
use Rattle.gib_mono.proofs.Below.{copies_below}
use Rattle.gib_mono.proofs.Names.{named}
use Rattle.gib_mono.proofs.Showing.{shown_short}
use Rattle.gib_mono.proofs.TextsApart.{texts_apart}
use Rattle.gib_mono.proofs.Theorem.{set_made, copied_typed, copied_fine, copied_runs}
use Rattle.gib_mono.proofs.Whole.{IsSet}
use Rattle.gib_app.specs.GenericText.{generic_text, row_text}
use Rattle.gib_app.specs.Headline.{copy_with}
use Rattle.gib_app.specs.Running.{IsCopy, IsProgram, sourced, text_line}
use Rattle.gib_app.specs.Causes.{OnProgram}
use Rattle.gib_app.specs.Stops.{IsReady}
use Rattle.gib_app.proofs.Held.{named_below, rows_are_words}
use Rattle.gib_app.proofs.Shown.{text_shown}

-- the texts of a copy's names
abbrev pub texts_with : Lexed → List Copy → TextsView
texts_with l found = record { short = short_texts l.names (entries found); long = long_texts l.names (entries found) }

-- a source whose program is copied
pub record IsSpelled (source : List ℕ) (l : Lexed) (g : GenericProgramTree) (found : List Copy) : Type 0 where
  pub spelled : Spells source l g
  pub typed : IsTypedGeneric g
  pub within : copies_of g ≡ Ok found

pub row_holds : (P : GenericRow → Type 0) (rows : List GenericRow) (i : ℕ) (row : GenericRow) → AllByRecursion P rows → slice_get rows i ≡ Some row → P row
row_holds P [] i row h e = absurd cc
row_holds P (r ∷ rows) zero row h e = subst P (same_Some r row e) h.0
row_holds P (r ∷ rows) (suc i) row h e = row_holds P rows i row h.1 e

module _ (source : List ℕ) (l : Lexed) (g : GenericProgramTree) (found : List Copy) (is : IsSpelled source l g found) where
  abbrev q : ProgramTree
  q = copy_with g l found

  abbrev base : ℕ → ℕ
  base = base_of (rows_of g.datas) found

  pub below : AreBelow (length l.names) found
  below = copies_below g (length l.names) found (named_below source l g is.spelled) is.typed is.spelled.derived.fine.datas is.within

  pub set : IsSet g (naming_of (length l.names) (entries found)) (entries found) found
  set = set_made g (naming_of (length l.names) (entries found)) (entries found) found is.spelled.derived.fine.datas is.typed is.within (named found (length l.names) below)

  pub fine : IsFineProgram q
  fine = copied_fine g (naming_of (length l.names) (entries found)) (entries found) found is.spelled.derived.fine set

  -- what the copy gives is of the type of main's result
  pub has : (depth : ℕ) (v : Datum) → HasType (table_of_program q) v (input_type q) → OutcomeHas (table_of_program q) (output_type q) (run q depth v)
  has depth v h = run_has q depth v fine (copied_typed g (naming_of (length l.names) (entries found)) (entries found) found set) h

  pub means : (depth : ℕ) (v : Datum) → HasType (table_of_program q) v (input_type q) → shown_outcome base (run q depth v) ≡ run_generic g depth (shown base v)
  means depth v h = copied_runs g (naming_of (length l.names) (entries found)) (entries found) found depth v is.spelled.derived.fine set h

  -- values of the copy have the texts of those that they are read as
  pub text_is : (v : Datum) (ty : Ty) → HasType (table_of_program q) v ty → text (table_of_program q) (texts_with l found).short v ≡ generic_text (rows_of g.datas) l.names (shown base v)
  text_is v ty h =
      text_shown (table_of_program q) (texts_with l found).short (rows_of g.datas) l.names base
      (λ d at. (let s = shown_short g found l.names set below d at in ap (λ o. unwrap_or o []) s.2 ∙ sym (ap (row_text l.names) s.1)))
      v ty [] h

  pub held : AreHeld (table_of_program q) (texts_with l found).short
  held d at = let s = shown_short g found l.names set below d at in get_below (texts_with l found).short (name_at (table_of_program q) d) (source_text l.names (s.0).name) s.2

  pub words : AreWords (table_of_program q) (texts_with l found).short
  words d at =
      let s = shown_short g found l.names set below d at in
      subst IsWord (sym (ap (λ o. unwrap_or o []) s.2))
      (row_holds (λ (row : GenericRow). IsWord (source_text l.names row.name)) (rows_of g.datas) (base d) s.0 (rows_are_words source l g is.spelled) s.1)

  pub apart : AreNames l.names → AreApart (table_of_program q) (texts_with l found).short
  apart differ = texts_apart g found l.names set below differ

  -- values of one type that are read as one are one
  pub read_once : AreNames l.names → (v w : Datum) (ty : Ty) → HasType (table_of_program q) v ty → HasType (table_of_program q) w ty → shown base v ≡ shown base w → v ≡ w
  read_once differ v w ty h k e =
      one_text (table_of_program q) (texts_with l found).short (record { words = words; apart = apart differ }) ty v w h k
      (text_is v ty h ∙ ap (generic_text (rows_of g.datas) l.names) e ∙ sym (text_is w ty k))

-- the program of a source, as its copy

pub spelled_of : (source : List ℕ) (t : TextsView) (p : ProgramTree) (is : IsProgram source t p) → IsSpelled source is.lexed is.generic is.copy.found
spelled_of source t p is = record { spelled = is.spelled; typed = is.typed; within = is.copy.within }

pub text_of_copy : (source : List ℕ) (t : TextsView) (p : ProgramTree) (is : IsProgram source t p) (v : Datum) (ty : Ty) → HasType (table_of_program p) v ty
    → text_line p t v ≡ generic_text (rows_of is.generic.datas) is.lexed.names (shown (base_of (rows_of is.generic.datas) is.copy.found) v) ++ 10 ∷ []
text_of_copy source t p is v ty h =
    let c = copy_with is.generic is.lexed is.copy.found in
    let H : ProgramTree → Type 0 = λ q. HasType (table_of_program q) v ty in
    ap (λ (q : ProgramTree). text_line q t v) is.copy.is
    ∙ ap (λ (s : TextsView). text_line c s v) is.copy.shown
    ∙ ap (λ (line : List ℕ). line ++ 10 ∷ []) (text_is source is.lexed is.generic is.copy.found (spelled_of source t p is) v ty (subst H is.copy.is h))

pub record OnCopy (source : List ℕ) (P : ProgramTree → TextsView → Type 0) : Type 0 where
  pub lexed : Lexed
  pub generic : GenericProgramTree
  pub found : List Copy
  pub is_spelled : IsSpelled source lexed generic found
  pub holds : P (copy_with generic lexed found) (texts_with lexed found)

-- the source is a program whose places are left to the passes, and this holds of its tree
abbrev pub OnTree : List ℕ → (ProgramTree → TextsView → Type 0) → Type 0
OnTree source P = OnProgram dialect.Source source (λ p names. P p.tree names)

pub to_copy : (source : List ℕ) (P : ProgramTree → TextsView → Type 0) → OnTree source P → OnCopy source P
to_copy source P on =
    let is = on.is_program.0 in
    let A : ProgramTree → Type 0 = λ p. P p on.texts in
    let B : TextsView → Type 0 = λ t. P (copy_with is.generic is.lexed is.copy.found) t in
    record {
      lexed = is.lexed;
      generic = is.generic;
      found = is.copy.found;
      is_spelled = spelled_of source on.texts on.program.tree is;
      holds = subst B is.copy.shown (subst A is.copy.is on.holds);
    }

pub of_copy : (source : List ℕ) (P : ProgramTree → TextsView → Type 0) → OnCopy source P → OnTree source P
of_copy source P on = record {
  texts = texts_with on.lexed on.found;
  program = sourced (copy_with on.generic on.lexed on.found);
  is_program = (
    record {
      lexed = on.lexed;
      generic = on.generic;
      spelled = on.is_spelled.spelled;
      typed = on.is_spelled.typed;
      copy = record { found = on.found; within = on.is_spelled.within; is = refl; shown = refl };
    },
    refl,
  );
  holds = on.holds;
}

-- a copy is ready to run
pub copy_ready : (source : List ℕ) (l : Lexed) (g : GenericProgramTree) (p : ProgramTree) (t : TextsView) → Spells source l g → IsTypedGeneric g → AreNames l.names → IsCopy g l.names p t → IsReady p t
copy_ready source l g p t spelled typed differ copy =
    let is : IsSpelled source l g copy.found = record { spelled = spelled; typed = typed; within = copy.within } in
    let A : ProgramTree → Type 0 = λ x. IsReady x (texts_with l copy.found) in
    let B : TextsView → Type 0 = λ x. IsReady p x in
    subst B (sym copy.shown) (subst A (sym copy.is) (record {
      fine = fine source l g copy.found is;
      held = held source l g copy.found is;
      words = words source l g copy.found is;
      apart = apart source l g copy.found is differ;
    }))
