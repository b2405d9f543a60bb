-- A call that replays the journal of a trace ends as the call that traced.
use Rattle.gib_base.specs.Texts.{TextsView}
use Rattle.std.proofs.lemmas.Option.{none-some}
use Rattle.std.proofs.Common.{◌≡◌, ◌∙◌, refl, sym, subst, ℕ, List, [], ◌∷◌, ◌++◌, Option, Some, None, IfSome, ◌⊎◌, inl, inr, Bool, true, false}
use Rattle.gib_base.specs.declared.token.Dialect.TheVariants as dialect
use Rattle.gib_types.specs.declared.reason.Reason.{Reason as Why}
use Rattle.gib_edge.specs.Causes.{Rose, told}
use Rattle.gib_edge.specs.Views.{Held, Has, ShelfView, SinkView}
use Rattle.gib_app.specs.declared.made.Reason.TheVariants.{Meant}
use Rattle.gib_words.specs.declared.plan.Job.TheVariants.{Trace}
use Rattle.gib_words.specs.declared.plan.Options.{Options}
use Rattle.gib_app.specs.declared.status.Status.{Status}
use Rattle.gib_app.specs.declared.status.Status.TheVariants as status
use Rattle.gib_app.specs.Rows.{row}
use Rattle.gib_words.specs.Plan.{Document, Named, Plan, Files, bytes_in, Contents}
use Rattle.gib_app.specs.Writes.{at_reading, AreMade, writes_of}
use Rattle.gib_app.specs.Formats.{dialect_of, inputs_of}
use Rattle.gib_words.specs.Words.{asked}
use Rattle.gib_app.specs.Running.{Program}
use Rattle.gib_app.specs.Jobs.{End, Prints, NoValue, Does}
use Rattle.gib_app.specs.Causes.{OnProgram, OnBoth, EndsWithout, AsksProgram, IsStored, IsUnread}
use Rattle.gib_app.specs.Ending.{IsEnding, AreTold, HasText, DueOfFiles, DueWithout, TakesAll, AsksRun, IsDueOrScarce}
use Rattle.gib_app.specs.Repeating.{trace_plan, replay_plan, IsRepeated, NoneFails, PutAlike}
use Rattle.gib_app.proofs.Doing.{RunsACore}
use Rattle.gib_app.proofs.CallCauses.{Whole}
use Rattle.gib_app.proofs.Endings.{ends_as_due}
use Rattle.gib_app.proofs.EndsDone.{DueAll}
use Rattle.gib_app.proofs.EndsNone.{DueNone}
use Rattle.gib_app.proofs.OneProgram.{Laws, together}
use Rattle.gib_app.proofs.SameFiles.{same_bytes, same_given}
use Rattle.gib_app.proofs.Performing.{asked_of, asked_is}
use Rattle.gib_app.proofs.Repeats.{replays_again, same_end}
use Rattle.gib_app.proofs.Writing.{written_here}

-- what holds of the files of a plan holds of their bytes, where these are told
of_told : (kept : Files) (r : Plan) (source : List ℕ) (given : Contents) → bytes_in kept r.source ≡ Has source → AreTold kept (inputs_of r) given →
    (P : Program → TextsView → Contents → Type 0) → OnBoth kept r P → OnProgram (dialect_of r.job) source (λ p names. P p names given)
of_told kept r source given source_is given_is P h =
    let es = same_bytes (bytes_in kept r.source) source h.source source_is h.source_held in
    let ei = same_given kept (inputs_of r) given h.given given_is h.given_held in
    let S : List ℕ → Type 0 = λ s. OnProgram (dialect_of r.job) s (λ p names. P p names h.given) in
    let I : Contents → Type 0 = λ i. OnProgram (dialect_of r.job) source (λ p names. P p names i) in
    subst I ei (subst S es h.holds)

map_program : (source : List ℕ) (P Q : Program → TextsView → Type 0) → ((p : Program) (names : TextsView) → P p names → Q p names) → OnProgram dialect.Source source P → OnProgram dialect.Source source Q
map_program source P Q go h = record { texts = h.texts; program = h.program; is_program = h.is_program; holds = go h.program h.texts h.holds }

-- what was written is what stands there
told_is : (tells : Bool) (bytes journal : List ℕ) (held : Held) → held ≡ told tells bytes → held ≡ Has journal → bytes ≡ journal
told_is true bytes journal held e f = let both = sym e ∙ f in cc
told_is false bytes journal held e f = let both = sym e ∙ f in cc

-- a trace that ends makes the journal, which is what stands there
left_by : (tells : Bool) (before left : Files) (name journal : List ℕ) (o : Options) (p : Program) (names : TextsView) (given : Contents) (file : Option (List ℕ)) (e : End) → left name ≡ Has journal →
    AreMade tells before left (writes_of file (Some name) ++ []) → (file ≡ None → ⊥) → Does Trace o p names given file e → Does Trace o p names given (Some journal) e
left_by tells before left name journal o p names given None e is made stored h = absurd (stored refl)
left_by tells before left name journal o p names given (Some bytes) e is made stored h =
    let same = told_is tells bytes journal (left name) (written_here tells before left name bytes made) is in
    let F : List ℕ → Type 0 = λ x. Does Trace o p names given (Some x) e in
    subst F same h

is_stored : (name : List ℕ) (file : Option (List ℕ)) → IsStored (Some name) file → file ≡ None → ⊥
is_stored name None h e = h
is_stored name (Some bytes) h e = cc

makes_some : (o : Options) (p : Program) (names : TextsView) (given : Contents) (why : Why) (file : Option (List ℕ)) → Does Trace o p names given file (NoValue (Meant why)) → file ≡ None → ⊥
makes_some o p names given why None h e = h.0
makes_some o p names given why (Some bytes) h e = cc

-- no run is asked for
no_run : (words : List (List ℕ)) (program packed : Document) (name : List ℕ) (image : Option (List ℕ)) (others : Options) → asked words ≡ Some (replay_plan program packed name image others) → AsksRun words → ⊥
no_run words program packed name image others e h =
    let is = asked_is (asked words) (replay_plan program packed name image others) (λ r. RunsACore (row r.job)) e h in
    cc is.1

due_alone : (words : List (List ℕ)) (program packed : Document) (name : List ℕ) (image : Option (List ℕ)) (others : Options) → asked words ≡ Some (replay_plan program packed name image others) → (due end' : Status) →
    IsDueOrScarce words due end' → (end' ≡ due) ⊎ (end' ≡ status.Memory)
due_alone words program packed name image others e due end' (inl h) = inl h
due_alone words program packed name image others e due end' (inr (inl h)) = inr h
due_alone words program packed name image others e due end' (inr (inr h)) = absurd (no_run words program packed name image others e h.1)

module _ (laws : Laws) (tells : Bool) (words again : List (List ℕ)) (before left later now : ShelfView) (out out_left out_later out_now : SinkView) (r : IsRepeated words again before left later) where
  abbrev given : Contents
  given = record { second = r.input; further = [] }

  abbrev given_again : Contents
  given_again = record { second = r.input; further = r.journal ∷ [] }

  abbrev first : Plan
  first = trace_plan r.program r.packed r.name r.options

  abbrev second : Plan
  second = replay_plan r.program r.packed r.name r.image r.others

  all_read : NoneFails r.program r.packed r.name r.image later now out_later out_now → (file : List ℕ) → IsUnread later now r.packed file ⊎ IsUnread later now (Named r.name) file ⊎ ⊥ → ⊥
  all_read quiet file (inl h) = quiet.packed_read file h
  all_read quiet file (inr (inl h)) = let R : List ℕ → Type 0 = λ x. Rose (later.reads x) (now.reads x) in quiet.journal_read (subst R (sym h.0) h.1)
  all_read quiet file (inr (inr h)) = h

  due_of : NoneFails r.program r.packed r.name r.image later now out_later out_now → (P : Program → TextsView → Contents → Type 0) → OnProgram dialect.Source r.source (λ p names. P p names given_again) → DueOfFiles tells later now second P
  due_of quiet P on = record {
    source = r.source;
    given = given_again;
    source_told = r.source_again;
    given_told = (r.input_again, (r.journal_is, refl));
    first_written = λ name h. absurd h;
    source_read = quiet.program_read;
    given_read = all_read quiet;
    holds = on;
  }

  -- it wrote the journal alone
  one_written : (name : List ℕ) (file packed : Option (List ℕ)) → packed ≡ None → AreMade tells before.kept left.kept (writes_of file (Some name) ++ writes_of packed None) → AreMade tells before.kept left.kept (writes_of file (Some name) ++ [])
  one_written name file packed none made = let P : Option (List ℕ) → Type 0 = λ q. AreMade tells before.kept left.kept (writes_of file (Some name) ++ writes_of q None) in subst P none made

  -- what the first call made
  abbrev Traced : List ℕ → Program → TextsView → Type 0
  Traced text p names = Does Trace r.options p names given (Some r.journal) (Prints text)

  traced : (said : List ℕ) → IsEnding tells words before left out out_left status.Done said →
      (text : List ℕ) × ((front : List ℕ) → out.taken ≡ Some front → out_left.taken ≡ Some (front ++ text)) × OnProgram dialect.Source r.source (Traced text)
  traced said h =
      let P : Plan → Type 0 = λ q. OnBoth (at_reading tells before.kept q) q (Whole tells before left out out_left q) in
      let on = of_told before.kept first r.source given r.source_is (r.input_is, refl) (Whole tells before left out out_left first) (asked_is (asked words) first P r.traces h.0) in
      let text = on.holds.0 in
      let made = on.holds.1 in
      let T : Option (List ℕ) → Type 0 = λ t. IfSome t (λ front. out_left.taken ≡ Some (front ++ text)) in (
        text,
        (λ front is. subst T is on.holds.2),
        record {
          texts = on.texts;
          program = on.program;
          is_program = on.is_program;
          holds = left_by tells before.kept left.kept r.name r.journal r.options on.program on.texts given made.ended.file (Prints text) r.journal_left (one_written r.name made.ended.file made.ended.packed made.ended.packs made.ended.written) (is_stored r.name made.ended.file made.stored) made.ended.does;
        },
      )

  again_printed : (text : List ℕ) (p : Program) (names : TextsView) → Traced text p names → HasText second p names given_again
  again_printed text p names h = (None, text, replays_again laws.filed p.tree names r.options r.others given r.journal (Prints text) r.short h, (None, refl))

  -- what the second call put, where it ends well
  put_again : (said : List ℕ) (text front_later : List ℕ) → OnProgram dialect.Source r.source (Traced text) → out_later.taken ≡ Some front_later → IsEnding tells again later now out_later out_now status.Done said → out_now.taken ≡ Some (front_later ++ text)
  put_again said text front_later on_first begins h =
      let P : Plan → Type 0 = λ q. OnBoth (at_reading tells later.kept q) q (Whole tells later now out_later out_now q) in
      let on = of_told later.kept second r.source given_again r.source_again (r.input_again, (r.journal_is, refl)) (Whole tells later now out_later out_now second) (asked_is (asked again) second P r.replays h.0) in
      let both = together laws dialect.Source r.source (Traced text) (λ p names. Whole tells later now out_later out_now second p names given_again) on_first on in
      let other = both.3.0 in
      let made = both.3.1 in
      let same : Prints text ≡ Prints other = same_end laws.filed both.0.tree both.1 r.options r.others given r.journal made.ended.file (Prints text) (Prints other) r.short both.2 made.ended.does in
      let texts : other ≡ text = cc in
      let T : Option (List ℕ) → Type 0 = λ t. IfSome t (λ front. out_now.taken ≡ Some (front ++ other)) in
      let X : List ℕ → Type 0 = λ x. out_now.taken ≡ Some (front_later ++ x) in
      subst X texts (subst T begins both.3.2)

  pub repeats_done : (front front_later said said_later : List ℕ) (end' : Status) → NoneFails r.program r.packed r.name r.image later now out_later out_now → out.taken ≡ Some front → out_later.taken ≡ Some front_later →
      IsEnding tells words before left out out_left status.Done said → IsEnding tells again later now out_later out_now end' said_later →
      ((end' ≡ status.Done) × PutAlike out out_left out_later out_now front front_later) ⊎ (end' ≡ status.Memory)
  repeats_done front front_later said said_later end' quiet begins begins_later h k =
      let one = traced said h in
      let text = one.0 in
      let due = due_of quiet (HasText second) (map_program r.source (Traced text) (λ p names. HasText second p names given_again) (again_printed text) one.2) in
      let takes : TakesAll later now out_later out_now second = record { target = quiet.image_written; pack = λ file named. absurd (none-some file named); out = quiet.put } in
      let is = ends_as_due laws tells again (record { shelf = later; out = out_later }) (record { shelf = now; out = out_now }) end' said_later k status.Done (asked_of (asked again) second (DueAll tells (record { shelf = later; out = out_later }) (record { shelf = now; out = out_now })) r.replays (due, takes)) in
      let E : Status → Type 0 = λ s. IsEnding tells again later now out_later out_now s said_later in
      elim (due_alone again r.program r.packed r.name r.image r.others r.replays status.Done end' is) [
        | inl e ↦ inl (e, record { text = text; put = one.1 front begins; put_again = put_again said_later text front_later one.2 begins_later (subst E e k) })
        | inr e ↦ inr e
      ]

  -- what the first call made where the program means no value
  abbrev Valueless : Why → Program → TextsView → Type 0
  Valueless x p names = Does Trace r.options p names given (Some r.journal) (NoValue (Meant x))

  stopped_at : (x : Why) → AsksProgram tells words before.kept (EndsWithout tells before left (Meant x)) → OnProgram dialect.Source r.source (Valueless x)
  stopped_at x h =
      let P : Plan → Type 0 = λ q. OnBoth (at_reading tells before.kept q) q (EndsWithout tells before left (Meant x) q) in
      let on = of_told before.kept first r.source given r.source_is (r.input_is, refl) (EndsWithout tells before left (Meant x) first) (asked_is (asked words) first P r.traces h) in
      let ended = on.holds in
      record {
        texts = on.texts;
        program = on.program;
        is_program = on.is_program;
        holds = left_by tells before.kept left.kept r.name r.journal r.options on.program on.texts given ended.file (NoValue (Meant x)) r.journal_left (one_written r.name ended.file ended.packed ended.packs ended.written) (makes_some r.options on.program on.texts given x ended.file ended.does) ended.does;
      }

  again_valueless : NoneFails r.program r.packed r.name r.image later now out_later out_now → (x : Why) (p : Program) (names : TextsView) → Valueless x p names → DueWithout later now (Meant x) second p names given_again
  again_valueless quiet x p names h = (
    (None, replays_again laws.filed p.tree names r.options r.others given r.journal (NoValue (Meant x)) r.short h),
    (λ name bytes named does. quiet.image_written name named),
  )

  due_none : NoneFails r.program r.packed r.name r.image later now out_later out_now → (x : Why) → OnProgram dialect.Source r.source (Valueless x) → DueNone tells later now x second
  due_none quiet x on = due_of quiet (DueWithout later now (Meant x) second) (map_program r.source (Valueless x) (λ p names. DueWithout later now (Meant x) second p names given_again) (again_valueless quiet x) on)

  pub repeats_valueless : (said said_later : List ℕ) (x : Why) (end' : Status) → NoneFails r.program r.packed r.name r.image later now out_later out_now →
      IsEnding tells words before left out out_left (status.NoValue x) said → IsEnding tells again later now out_later out_now end' said_later → (end' ≡ status.NoValue x) ⊎ (end' ≡ status.Memory)
  repeats_valueless said said_later x end' quiet h k =
      let due = due_none quiet x (stopped_at x h.0) in
      let is = ends_as_due laws tells again (record { shelf = later; out = out_later }) (record { shelf = now; out = out_now }) end' said_later k (status.NoValue x) (asked_of (asked again) second (DueNone tells later now x) r.replays due) in
      due_alone again r.program r.packed r.name r.image r.others r.replays (status.NoValue x) end' is
