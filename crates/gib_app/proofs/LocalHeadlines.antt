-- The promise of `local`, from how a call ends.
use Rattle.gib_base.specs.Texts.{TextsView, plain_texts}
use Rattle.gib_base.specs.declared.token.Dialect.TheVariants as dialect
use Rattle.std.proofs.lemmas.Option.{none-some}
use Rattle.std.proofs.Common.{◌≡◌, ◌∙◌, refl, ℕ, List, [], ◌++◌, Option, Some, None, IfSome, ◌⊎◌, inl, inr, subst, sym, ap, Bool, true≢false}
use Rattle.gib_types.specs.Tree.{Datum}
use Rattle.gib_core.specs.Marking.{mark_core}
use Rattle.gib_syntax.specs.Declarations.{table_of_program, input_type}
use Rattle.gib_syntax.specs.Meaning.{Gives, run}
use Rattle.gib_types.specs.declared.reason.Reason.{Reason as Why}
use Rattle.gib_edge.specs.Views.{ShelfView, SinkView}
use Rattle.gib_app.specs.declared.made.Reason.TheVariants.{Meant, Full, Long}
use Rattle.gib_words.specs.declared.plan.Options.{Options}
use Rattle.gib_app.specs.declared.status.Status.{Status}
use Rattle.gib_app.specs.declared.status.Status.TheVariants as status
use Rattle.gib_words.specs.Plan.{Contents, Plan, bytes_in}
use Rattle.gib_app.specs.Writes.{at_reading}
use Rattle.gib_app.specs.Formats.{inputs_of, Accepts}
use Rattle.gib_words.specs.Words.{asked}
use Rattle.gib_app.specs.Jobs.{run_forks}
use Rattle.gib_app.specs.Running.{Program, IsInput, IsLocated, IsNoProgramIn, IsOutput, MeansNone, text_line}
use Rattle.gib_app.specs.Causes.{OnProgram, OnBoth, OnSource, AsksProgram, EndsWithout}
use Rattle.gib_app.specs.Ending.{IsEnding, HasText, DueOfFiles, DueOfSource, DueWithout, TakesAll}
use Rattle.gib_app.specs.LocalHeadline.{IsLocalRun, MakesCore, LocalGiven, IsLocalResult, HasNoLocalResult, IsLocalTooBig, NoReadFailed, local_plan, program_in}
use Rattle.gib_app.proofs.CallCauses.{Whole, cause_of}
use Rattle.gib_app.proofs.EndsDone.{done_due, fit_ends}
use Rattle.gib_app.proofs.EndsNone.{none_due}
use Rattle.gib_app.proofs.EndsRefused.{source_due}
use Rattle.gib_app.proofs.OneEnd.{one_meaning, runs_well}
use Rattle.gib_app.proofs.OneProgram.{Laws, together}
use Rattle.gib_app.proofs.SameFiles.{packed_read, same_bytes, same_given}
use Rattle.gib_app.proofs.Performing.{asked_is}
use Rattle.gib_app.proofs.Replays.{one_given}

-- The program of a core that is made, and the texts of its names.

abbrev program_of : {source : List ℕ} → MakesCore source → Program
program_of made = record { tree = program_in made; located = Some (mark_core made.core) }

abbrev names_of : {source : List ℕ} → MakesCore source → TextsView
names_of made = plain_texts made.local.lexed.names

record OnMade (source : List ℕ) (P : Program → TextsView → Type 0) : Type 0 where
  made : MakesCore source
  holds : P (program_of made) (names_of made)

abbrev made_in : (source : List ℕ) (t : TextsView) (p : Program) → IsLocated source t p → MakesCore source
made_in source t p is = record { core = is.core; local = is.local; built = is.built }

to_made : (source : List ℕ) (P : Program → TextsView → Type 0) → OnProgram dialect.Located source P → OnMade source P
to_made source P on =
    let is = on.is_program in
    let A : Program → Type 0 = λ p. P p on.texts in
    let made = made_in source on.texts on.program is in
    let B : TextsView → Type 0 = λ t. P (program_of made) t in
    record { made = made; holds = subst B is.shown (subst A is.is on.holds) }

of_made : (source : List ℕ) (P : Program → TextsView → Type 0) (made : MakesCore source) → P (program_of made) (names_of made) → OnProgram dialect.Located source P
of_made source P made h = record {
  texts = names_of made;
  program = program_of made;
  is_program = record { core = made.core; local = made.local; built = made.built; is = refl; shown = refl };
  holds = h;
}

abbrev given_of : (source input : List ℕ) (made : MakesCore source) (v : Datum) → IsInput (program_in made) (names_of made) v input → LocalGiven source input
given_of source input made v is = record { made = made; value = v; short = is.short; file = is.file }

abbrev input_in : {source input : List ℕ} (given : LocalGiven source input) → IsInput (program_in given.made) (names_of given.made) given.value input
input_in given = record { short = given.short; file = given.file }

-- What holds of the tree of such a program.

abbrev IsText : (depth : ℕ) (input output : List ℕ) → Program → TextsView → Type 0
IsText depth input output p names = IsOutput p.tree names depth input output

abbrev IsNone : (depth : ℕ) (input : List ℕ) → Why → Program → TextsView → Type 0
IsNone depth input meant p names = MeansNone p.tree names depth input meant

result_of : (source input : List ℕ) (depth : ℕ) (output : List ℕ) → OnProgram dialect.Located source (IsText depth input output) → IsLocalResult source input depth output
result_of source input depth output on =
    let m = to_made source (IsText depth input output) on in
    record { given = given_of source input m.made m.holds.value m.holds.is_input; result = m.holds.result; means = m.holds.means; is_text = m.holds.is_text }

output_of : (source input : List ℕ) (depth : ℕ) (output : List ℕ) → IsLocalResult source input depth output → OnProgram dialect.Located source (IsText depth input output)
output_of source input depth output h =
    of_made source (IsText depth input output) h.given.made (record { value = h.given.value; result = h.result; is_input = input_in h.given; means = h.means; is_text = h.is_text })

none_of : (source input : List ℕ) (depth : ℕ) (meant : Why) → OnProgram dialect.Located source (IsNone depth input meant) → HasNoLocalResult source input depth meant
none_of source input depth meant on =
    let m = to_made source (IsNone depth input meant) on in
    record { given = given_of source input m.made m.holds.value m.holds.is_input; means = m.holds.means }

of_none : (source input : List ℕ) (depth : ℕ) (meant : Why) → HasNoLocalResult source input depth meant → OnProgram dialect.Located source (IsNone depth input meant)
of_none source input depth meant h = of_made source (IsNone depth input meant) h.given.made (record { value = h.given.value; is_input = input_in h.given; means = h.means })

-- ---- There is one

pub one_result : Laws → (source input : List ℕ) (depth : ℕ) (output other : List ℕ) → IsLocalResult source input depth output → IsLocalResult source input depth other → output ≡ other
one_result laws source input depth output other h k =
    let both = together laws dialect.Located source (IsText depth input output) (IsText depth input other) (output_of source input depth output h) (output_of source input depth other k) in
    let p = both.0.tree in
    let a = both.2 in
    let b = both.3 in
    let same = laws.filed (table_of_program p) _ (input_type p) b.value a.value input b.is_input.file a.is_input.file in
    let M : Datum → Type 0 = λ x. run p depth x ≡ Gives b.result in
    let u = one_given (run p depth a.value) a.result b.result a.means (subst M same b.means) in
    a.is_text ∙ ap (text_line p both.1) u ∙ sym b.is_text

pub no_result : Laws → (source input : List ℕ) (depth : ℕ) (output : List ℕ) (meant : Why) → IsLocalResult source input depth output → HasNoLocalResult source input depth meant → ⊥
no_result laws source input depth output meant h k =
    let both = together laws dialect.Located source (IsText depth input output) (IsNone depth input meant) (output_of source input depth output h) (of_none source input depth meant k) in
    runs_well laws both.0.tree both.1 depth input output meant both.2 both.3

pub one_reason : Laws → (source input : List ℕ) (depth : ℕ) (x y : Why) → HasNoLocalResult source input depth x → HasNoLocalResult source input depth y → x ≡ y
one_reason laws source input depth x y h k =
    let both = together laws dialect.Located source (IsNone depth input x) (IsNone depth input y) (of_none source input depth x h) (of_none source input depth y k) in
    one_meaning laws both.0.tree both.1 depth input x y both.2 both.3

-- ---- From how a call ends

module _ (tells : Bool) (words : List (List ℕ)) (before now : ShelfView) (out out_now : SinkView) (source input : List ℕ) (options : Options) (front : List ℕ) (r : IsLocalRun words before out source input options front) where
  abbrev plan : Plan
  plan = local_plan r.program r.packed options

  abbrev given : Contents
  given = record { second = input; further = [] }

  of_files : (P : Program → TextsView → Contents → Type 0) → OnBoth before.kept plan P → OnProgram dialect.Located source (λ p names. P p names given)
  of_files P h =
      let es = same_bytes (bytes_in before.kept r.program) source h.source r.source_is h.source_held in
      let ei = same_given before.kept (inputs_of plan) given h.given (r.input_is, refl) h.given_held in
      let S : List ℕ → Type 0 = λ s. OnProgram dialect.Located s (λ p names. P p names h.given) in
      let I : Contents → Type 0 = λ i. OnProgram dialect.Located source (λ p names. P p names i) in
      subst I ei (subst S es h.holds)

  pub local_done : (said : List ℕ) → IsEnding tells words before now out out_now status.Done said → (output : List ℕ) × IsLocalResult source input options.depth output × (out_now.taken ≡ Some (front ++ output))
  local_done said h =
      let P : Plan → Type 0 = λ q. OnBoth (at_reading tells before.kept q) q (Whole tells before now out out_now q) in
      let on = of_files (Whole tells before now out out_now plan) (asked_is (asked words) plan P r.asks h.0) in
      let T : Option (List ℕ) → Type 0 = λ t. IfSome t (λ first. out_now.taken ≡ Some (first ++ on.holds.0)) in (
        on.holds.0,
        result_of source input options.depth on.holds.0 (record { texts = on.texts; program = on.program; is_program = on.is_program; holds = on.holds.1.ended.does.1 }),
        subst T r.front_is on.holds.2,
      )

  local_none : (x : Why) → AsksProgram tells words before.kept (EndsWithout tells before now (Meant x)) → HasNoLocalResult source input options.depth x
  local_none x h =
      let P : Plan → Type 0 = λ q. OnBoth (at_reading tells before.kept q) q (EndsWithout tells before now (Meant x) q) in
      let on = of_files (EndsWithout tells before now (Meant x) plan) (asked_is (asked words) plan P r.asks h) in
      none_of source input options.depth x (record { texts = on.texts; program = on.program; is_program = on.is_program; holds = on.holds.does.1 })

  pub local_valueless : (said : List ℕ) (x : Why) → IsEnding tells words before now out out_now (status.NoValue x) said → HasNoLocalResult source input options.depth x
  local_valueless said x h = local_none x h.0

  pub local_full : (said : List ℕ) → IsEnding tells words before now out out_now status.Full said → IsLocalTooBig source input options.depth (run_forks options) options.chunks
  local_full said h =
      let P : Plan → Type 0 = λ q. OnBoth (at_reading tells before.kept q) q (EndsWithout tells before now Full q) in
      let E : Program → TextsView → Type 0 = λ p names. EndsWithout tells before now Full plan p names given in
      let m = to_made source E (of_files (EndsWithout tells before now Full plan) (asked_is (asked words) plan P r.asks h.0)) in
      let fills = m.holds.does.1 in
      record { given = given_of source input m.made fills.value fills.is_input; tight = fills.tight }

  pub local_refused : (said : List ℕ) → IsEnding tells words before now out out_now status.Source said → MakesCore source → ⊥
  local_refused said h made =
      let on : OnSource before.kept r.program (IsNoProgramIn dialect.Located) = cause_of tells words (record { shelf = before; out = out }) (record { shelf = now; out = out_now }) plan r.asks status.Source said h in
      let es = same_bytes (bytes_in before.kept r.program) source on.source r.source_is on.source_held in
      subst (IsNoProgramIn dialect.Located) es on.holds (names_of made) (program_of made) (record { core = made.core; local = made.local; built = made.built; is = refl; shown = refl })

  long_never : (said : List ℕ) → IsEnding tells words before now out out_now status.Long said → ⊥
  long_never said h =
      let P : Plan → Type 0 = λ q. OnBoth (at_reading tells before.kept q) q (EndsWithout tells before now Long q) in
      true≢false (sym (of_files (EndsWithout tells before now Long plan) (asked_is (asked words) plan P r.asks h.0)).holds.does.2)

  -- ---- The other way round

  module _ (laws : Laws) (quiet : NoReadFailed r.program r.packed before now out out_now) where
    due_of : (P : Program → TextsView → Contents → Type 0) → OnProgram dialect.Located source (λ p names. P p names given) → DueOfFiles tells before now plan P
    due_of P on = record {
      source = source;
      given = given;
      source_told = r.source_is;
      given_told = (r.input_is, refl);
      first_written = λ name h. absurd h;
      source_read = quiet.program_read;
      given_read = packed_read before now r.packed quiet.packed_read;
      holds = on;
    }

    takes : TakesAll before now out out_now plan
    takes = record { target = λ name named. absurd (none-some name named); pack = λ name named. absurd (none-some name named); out = quiet.put }

    pub ends_done : (output said : List ℕ) (end' : Status) → IsLocalResult source input options.depth output → IsEnding tells words before now out out_now end' said → (end' ≡ status.Done) ⊎ (end' ≡ status.Memory) ⊎ (end' ≡ status.Full)
    ends_done output said end' h ends =
        let on = output_of source input options.depth output h in
        let due = due_of (HasText plan) (record { texts = on.texts; program = on.program; is_program = on.is_program; holds = (None, output, (refl, on.holds), (None, refl)) }) in
        done_due laws tells (record { shelf = before; out = out }) (record { shelf = now; out = out_now }) plan (due, takes) end' (cause_of tells words (record { shelf = before; out = out }) (record { shelf = now; out = out_now }) plan r.asks end' said ends)

    pub ends_valueless : (said : List ℕ) (x : Why) (end' : Status) → HasNoLocalResult source input options.depth x → IsEnding tells words before now out out_now end' said → (end' ≡ status.NoValue x) ⊎ (end' ≡ status.Memory) ⊎ (end' ≡ status.Full)
    ends_valueless said x end' h ends =
        let on = of_none source input options.depth x h in
        let due = due_of (DueWithout before now (Meant x) plan) (record { texts = on.texts; program = on.program; is_program = on.is_program; holds = ((None, (refl, on.holds)), λ name bytes named does. absurd (none-some name named)) }) in
        none_due laws tells (record { shelf = before; out = out }) (record { shelf = now; out = out_now }) plan x due end' (cause_of tells words (record { shelf = before; out = out }) (record { shelf = now; out = out_now }) plan r.asks end' said ends)

    pub ends_refused : (said : List ℕ) (end' : Status) → (MakesCore source → ⊥) → IsEnding tells words before now out out_now end' said → (end' ≡ status.Source) ⊎ (end' ≡ status.Memory)
    ends_refused said end' no' ends =
        let none : IsNoProgramIn dialect.Located source = λ t p is. no' (made_in source t p is) in
        let due : DueOfSource tells before now plan (IsNoProgramIn dialect.Located) = record {
          source = source;
          source_told = r.source_is;
          first_written = λ name h. absurd h;
          source_read = quiet.program_read;
          holds = none;
        } in
        let E : Status → Type 0 = λ s. IsEnding tells words before now out out_now s said in
        elim (source_due laws tells (record { shelf = before; out = out }) (record { shelf = now; out = out_now }) plan due end' (cause_of tells words (record { shelf = before; out = out }) (record { shelf = now; out = out_now }) plan r.asks end' said ends)) [
          | inl e ↦ inl e
          | inr (inl e) ↦ inr e
          | inr (inr e) ↦ absurd (no' (local_full said (subst E e ends)).given.made)
        ]

    pub local_fits : (said : List ℕ) (end' : Status) → LocalGiven source input → (IsLocalTooBig source input options.depth (run_forks options) options.chunks → ⊥) → IsEnding tells words before now out out_now end' said →
        (end' ≡ status.Done) ⊎ ((x : Why) × (end' ≡ status.NoValue x)) ⊎ (end' ≡ status.Memory)
    local_fits said end' g fits ends =
        let E : Status → Type 0 = λ s. IsEnding tells words before now out out_now s said in
        let due = due_of (λ p names contents. Accepts plan.job plan.options p names contents) (of_made source (λ p names. Accepts plan.job plan.options p names given) g.made (g.value, input_in g)) in
        elim (fit_ends laws tells (record { shelf = before; out = out }) (record { shelf = now; out = out_now }) plan (due, takes) end' (cause_of tells words (record { shelf = before; out = out }) (record { shelf = now; out = out_now }) plan r.asks end' said ends)) [
          | inl e ↦ inl e
          | inr (inl e) ↦ inr (inl e)
          | inr (inr (inl e)) ↦ inr (inr e)
          | inr (inr (inr (inl e))) ↦ absurd (long_never said (subst E e ends))
          | inr (inr (inr (inr e))) ↦ absurd (fits (local_full said (subst E e ends)))
        ]
