-- A replay of the journal of a trace ends as the trace did.
use Rattle.gib_base.specs.Texts.{TextsView}
use Rattle.std.proofs.Common.{◌≡◌, ◌∙◌, ◌≤◌, refl, sym, ap, subst, false, true≢false, ℕ, List, [], ◌∷◌, length, Option, Some, None}
use Rattle.gib_types.specs.Tree.{Datum}
use Rattle.gib_code.specs.declared.answer.Answer.{Answer}
use Rattle.gib_types.specs.declared.reason.Reason.{Reason}
use Rattle.gib_syntax.specs.Tree.{ProgramTree}
use Rattle.gib_syntax.specs.Declarations.{table_of_program, input_type, output_type}
use Rattle.gib_syntax.specs.Meaning.{Outcome, Gives, Stops, run}
use Rattle.gib_app.specs.declared.made.Reason.TheVariants.{Meant, Full, Long}
use Rattle.gib_words.specs.declared.plan.Job.TheVariants.{Replay, Trace}
use Rattle.gib_words.specs.declared.plan.Options.{Options}
use Rattle.gib_app.specs.Jobs.{End, Prints, NoValue, Does, without_image}
use Rattle.gib_words.specs.Plan.{Contents}
use Rattle.gib_app.specs.Replaying.{IsEndOf, IsShownEnd, IsTrace, IsValueless, OnJournal, journal_in, layouts_for}
use Rattle.gib_app.specs.Running.{IsOutput, MeansNone, sourced, text_line}
use Rattle.gib_app.proofs.Replays.{OneValue, is_stopped, root_there, both_on, one_given, some_or_none, shown_or_valueless, shown_or_full, one_valueless, valueless_or_full}

module _ (one : OneValue) (p : ProgramTree) (names : TextsView) (options : Options) (input bytes : List ℕ) (short : length bytes ≤ 16777216) (t : IsTrace p names options input bytes) where
  -- what the program means on the value within the depth of the options, it means within that of the journal
  means_there : (v : Datum) (o : Outcome) → v ≡ t.value → run p options.depth v ≡ o → run p t.settings.depth t.value ≡ o
  means_there v o same means =
      let V : Datum → Type 0 = λ x. run p options.depth x ≡ o in
      let D : ℕ → Type 0 = λ d. run p d t.value ≡ o in
      subst D (sym t.set.depth) (subst V same means)

  pub shown_again : (text : List ℕ) → IsOutput p names options.depth input text → OnJournal p names input bytes (IsShownEnd p names false None text)
  shown_again text h =
      let same = one (table_of_program p) _ (input_type p) h.value t.value input h.is_input.file t.is_input.file in
      let means = means_there h.value (Gives h.result) same h.means in
      let root = root_there (layouts_for p t.settings) t.memory.cells (output_type p) (run p t.settings.depth t.value) t.ends_with t.ended.means h.result means in
      record {
        value = t.value;
        settings = t.settings;
        lines = t.lines;
        is_input = t.is_input;
        is_journal = record { short = short; are = t.are; text_is = t.text_is };
        holds = record {
          memory = t.memory;
          ends_with = t.ends_with;
          place = root.0;
          result = h.result;
          ended = t.ended;
          is_place = root.1;
          means = means;
          is_text = h.is_text;
          is_file = refl;
        };
      }

  pub stopped_again : (why : Reason) → MeansNone p names options.depth input why → OnJournal p names input bytes (IsValueless p why)
  stopped_again why h =
      let same = one (table_of_program p) _ (input_type p) h.value t.value input h.is_input.file t.is_input.file in
      let means = means_there h.value (Stops why) same h.means in
      let is = is_stopped (layouts_for p t.settings) t.memory.cells (output_type p) (run p t.settings.depth t.value) t.ends_with t.ended.means why means in
      let E : Answer → Type 0 = IsEndOf p t.value t.settings t.lines t.memory in
      record {
        value = t.value;
        settings = t.settings;
        lines = t.lines;
        is_input = t.is_input;
        is_journal = record { short = short; are = t.are; text_is = t.text_is };
        holds = record { memory = t.memory; ended = subst E is t.ended; means = means };
      }

module _ (one : OneValue) (p : ProgramTree) (names : TextsView) where
  -- the journal is replayed to the same end
  pub replays_again : (o a : Options) (given : Contents) (bytes : List ℕ) (e : End) → length bytes ≤ 16777216 → Does Trace o (sourced p) names given (Some bytes) e →
      Does Replay (without_image a) (sourced p) names (record { second = given.second; further = bytes ∷ [] }) None e
  replays_again o a given bytes (Prints text) short h = shown_again one p names o given.second bytes short h.0 text h.1
  replays_again o a given bytes (NoValue (Meant why)) short h = (refl, stopped_again one p names o given.second bytes short h.0 why h.1)
  replays_again o a given bytes (NoValue Full) short h = absurd (some_or_none bytes h.0)
  replays_again o a given bytes (NoValue Long) short h = absurd (true≢false (sym h.2))

  -- and to no other one
  one_end : (o a : Options) (given : Contents) (file other : Option (List ℕ)) (e f : End) → Does Replay o (sourced p) names given file e → Does Replay a (sourced p) names given other f → e ≡ f
  one_end o a given file other (Prints x) (Prints y) h k =
      let both = both_on one p given.second (journal_in given) (IsShownEnd p names o.image file x) (IsShownEnd p names a.image other y) h k in
      let shown = both.3 in
      let again = both.4 in
      let same = one_given (run p both.1.depth both.0) shown.result again.result shown.means again.means in
      ap Prints (shown.is_text ∙ ap (text_line p names) same ∙ sym again.is_text)
  one_end o a given file other (Prints x) (NoValue (Meant why)) h k = absurd (shown_or_valueless one p names given.second (journal_in given) o.image file x why h k.1)
  one_end o a given file other (Prints x) (NoValue Full) h k = absurd (shown_or_full one p names given.second (journal_in given) o.image file x h k.1)
  one_end o a given file other (NoValue (Meant why)) (Prints y) h k = absurd (shown_or_valueless one p names given.second (journal_in given) a.image other y why k h.1)
  one_end o a given file other (NoValue (Meant x)) (NoValue (Meant y)) h k = ap (λ (why : Reason). NoValue (Meant why)) (one_valueless one p names given.second (journal_in given) x y h.1 k.1)
  one_end o a given file other (NoValue (Meant why)) (NoValue Full) h k = absurd (valueless_or_full one p names given.second (journal_in given) why h.1 k.1)
  one_end o a given file other (NoValue Full) (Prints y) h k = absurd (shown_or_full one p names given.second (journal_in given) a.image other y k h.1)
  one_end o a given file other (NoValue Full) (NoValue (Meant why)) h k = absurd (valueless_or_full one p names given.second (journal_in given) why k.1 h.1)
  one_end o a given file other (NoValue Full) (NoValue Full) h k = refl
  one_end o a given file other (Prints x) (NoValue Long) h k = absurd k
  one_end o a given file other (NoValue (Meant why)) (NoValue Long) h k = absurd k
  one_end o a given file other (NoValue Full) (NoValue Long) h k = absurd k
  one_end o a given file other (NoValue Long) e h k = absurd h

  pub same_end : (o a : Options) (given : Contents) (bytes : List ℕ) (file : Option (List ℕ)) (e f : End) → length bytes ≤ 16777216 → Does Trace o (sourced p) names given (Some bytes) e →
      Does Replay a (sourced p) names (record { second = given.second; further = bytes ∷ [] }) file f → e ≡ f
  same_end o a given bytes file e f short h k =
      one_end (without_image a) a (record { second = given.second; further = bytes ∷ [] }) None file e f (replays_again o a given bytes e short h) k
