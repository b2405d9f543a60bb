-- From the status that is due to the one that is answered.
use Rattle.std.proofs.Common.{◌≡◌, ◌∙◌, refl, ℕ, List, Option, Some, None, MatchOption, ◌⊎◌, inl, inr, subst, Bool}
use Rattle.gib_syntax.specs.Meaning.{run}
use Rattle.gib_types.specs.declared.reason.Reason.{Reason as Why}
use Rattle.gib_app.specs.declared.status.Status.{Status}
use Rattle.gib_app.specs.declared.status.Status.TheVariants as status
use Rattle.gib_app.specs.declared.made.Reason.TheVariants.{Meant, Full}
use Rattle.gib_app.specs.Rows.{ForFiles, row}
use Rattle.gib_words.specs.Plan.{Plan}
use Rattle.gib_words.specs.Words.{asked}
use Rattle.gib_app.specs.Jobs.{Prints, without_image}
use Rattle.gib_app.specs.Jobs.{NoValue as Without}
use Rattle.gib_app.specs.Causes.{OnBoth, HasNoValue}
use Rattle.gib_app.specs.Ending.{IsEnding, HasText, DueMissing, DueRefused, DueWithout, IsDue, IsDueOrScarce}
use Rattle.gib_app.proofs.Performing.{asked_of}
use Rattle.gib_app.proofs.Doing.{RunsACore, does_accepts, full_runs}
use Rattle.gib_script.specs.Script.{World}
use Rattle.gib_app.proofs.CallCauses.{K, IsCause, cause_of, untaken_ends}
use Rattle.gib_app.proofs.OneProgram.{Laws}
use Rattle.gib_app.proofs.SameFiles.{clash, a_program}
use Rattle.gib_app.proofs.OneEnd.{text_or_full, none_or_full, as_replay, ends_replay}
use Rattle.gib_app.proofs.EndsDone.{Ends, DueAll, done_due}
use Rattle.gib_app.proofs.EndsNone.{DueNone, none_due}
use Rattle.gib_app.proofs.EndsFull.{DueFull, full_due}
use Rattle.gib_app.proofs.EndsRefused.{DueRefusal, source_due, unfit_both, input_due}
use Rattle.gib_app.proofs.EndsMissing.{missing_both, read_due}
use Rattle.gib_app.proofs.EndsLong.{DueLong, long_due}

-- What is due of a plan, by its status.
abbrev DueOf : Bool → World → World → Plan → Status → Type 0
DueOf tells before now r status.Done = DueAll tells before now r
DueOf tells before now r status.Source = DueRefusal tells before.shelf now.shelf r
DueOf tells before now r status.Usage = ⊥
DueOf tells before now r (status.NoValue x) = DueNone tells before.shelf now.shelf x r
DueOf tells before now r status.Full = DueFull tells before.shelf now.shelf r
DueOf tells before now r status.Memory = ⊥
DueOf tells before now r status.ReadFault = DueMissing tells before.shelf now.shelf r
DueOf tells before now r status.WriteFault = ⊥
DueOf tells before now r status.Input = DueRefused tells before.shelf now.shelf r
DueOf tells before now r status.Long = DueLong tells before.shelf now.shelf r

-- Chunks run out in a run alone, or where that is due.

abbrev Scarce : Plan → Type 0
Scarce r = RunsACore (row r.job)

module _ (laws : Laws) (tells : Bool) (before now : World) (r : Plan) where
  ends : (due : Status) → DueOf tells before now r due → (ended : Status) → IsCause tells before now r ended → Ends due ended
  ends status.Done due ended h = done_due laws tells before now r due ended h
  ends status.Source due ended h = source_due laws tells before now r due ended h
  ends status.Usage due ended h = absurd due
  ends (status.NoValue x) due ended h = none_due laws tells before now r x due ended h
  ends status.Full due ended h = full_due laws tells before now r due ended h
  ends status.Memory due ended h = absurd due
  ends status.Long due ended h = long_due laws tells before now r due ended h
  ends status.ReadFault due ended h = read_due laws tells before now r due ended h
  ends status.WriteFault due ended h = absurd due
  ends status.Input due ended h = input_due laws tells before now r due ended h

  abbrev Drained : Type 0
  Drained = OnBoth (K tells before.shelf r) r (HasNoValue Full r)

  done_or_scarce : DueAll tells before now r → Drained → Scarce r
  done_or_scarce due h =
      let both = clash laws tells before.shelf now.shelf r (HasText r) (HasNoValue Full r) due.0 h in
      let p = both.0 in
      let names = both.1 in
      let given = both.2 in
      let text = both.3 in
      let full = both.4 in
      elim (full_runs r.job r.options p names given full.0 full.1) [
        | inl run ↦ run
        | inr is ↦ absurd (text_or_full laws r.options p names given (without_image r.options) text.1 text.0 full.0 (ends_replay (row r.job) (without_image r.options) p names given text.0 (Prints text.1) is text.2)
            (as_replay (row r.job) r.options p names given full.0 (Without Full) is full.1))
      ]

  none_or_scarce : (x : Why) → DueNone tells before.shelf now.shelf x r → Drained → Scarce r
  none_or_scarce x due h =
      let both = clash laws tells before.shelf now.shelf r (DueWithout before.shelf now.shelf (Meant x) r) (HasNoValue Full r) due h in
      let p = both.0 in
      let names = both.1 in
      let given = both.2 in
      let valueless = both.3.0 in
      let full = both.4 in
      elim (full_runs r.job r.options p names given full.0 full.1) [
        | inl run ↦ run
        | inr is ↦ absurd (none_or_full laws r.options p names given x valueless.0 full.0 (ends_replay (row r.job) (without_image r.options) p names given valueless.0 (Without (Meant x)) is valueless.1)
            (as_replay (row r.job) r.options p names given full.0 (Without Full) is full.1))
      ]

  -- chunks ran out: that is due, or it is a run
  scarce : (due : Status) → DueOf tells before now r due → Drained → (status.Full ≡ due) ⊎ Scarce r
  scarce status.Done due h = inr (done_or_scarce due h)
  scarce status.Source due h = absurd (a_program tells before.shelf now.shelf r (HasNoValue Full r) due h)
  scarce status.Usage due h = absurd due
  scarce (status.NoValue x) due h = inr (none_or_scarce x due h)
  scarce status.Full due h = inl refl
  scarce status.Memory due h = absurd due
  scarce status.Long due h = inr (ForFiles, due.0, (λ e. cc))
  scarce status.ReadFault due h = absurd (missing_both tells before.shelf now.shelf r (HasNoValue Full r) due h)
  scarce status.WriteFault due h = absurd due
  scarce status.Input due h = absurd (unfit_both laws tells before.shelf now.shelf r (HasNoValue Full r) (λ p names given f. does_accepts r.job r.options p names given f.0 (Without Full) f.1) due h)

  due_or_scarce : (words : List (List ℕ)) → asked words ≡ Some r → (due ended : Status) → DueOf tells before now r due → IsCause tells before now r ended → Ends due ended → IsDueOrScarce words due ended
  due_or_scarce words is due ended h cause (inl e) = inl e
  due_or_scarce words is due ended h cause (inr (inl e)) = inr (inl e)
  due_or_scarce words is due ended h cause (inr (inr e)) =
      let P : Status → Type 0 = IsCause tells before now r in
      elim (scarce due h (subst P e cause)) [
        | inl same ↦ inl (e ∙ same)
        | inr run ↦ inr (inr (e, asked_of (asked words) r (λ q. RunsACore (row q.job)) is run))
      ]

-- Whatever the call answers.

some_asked : (o : Option Plan) (P : Plan → Type 0) → MatchOption o ⊥ P → (r : Plan) × (o ≡ Some r) × P r
some_asked None P h = absurd h
some_asked (Some r) P h = (r, refl, h)

module _ (laws : Laws) (tells : Bool) (words : List (List ℕ)) (before now : World) (ended : Status) (said : List ℕ) (h : IsEnding tells words before.shelf now.shelf before.out now.out ended said) where
  asked_due : (due : Status) → MatchOption (asked words) ⊥ (λ r. DueOf tells before now r due) → IsDueOrScarce words due ended
  asked_due due d =
      let k = some_asked (asked words) (λ r. DueOf tells before now r due) d in
      let cause = cause_of tells words before now k.0 k.1 ended said h in
      due_or_scarce laws tells before now k.0 words k.1 due ended k.2 cause (ends laws tells before now k.0 due k.2 ended cause)

  usage_due : (ended ≡ status.Usage) ⊎ (ended ≡ status.Memory) → IsDueOrScarce words status.Usage ended
  usage_due (inl e) = inl e
  usage_due (inr e) = inr (inl e)

  pub ends_as_due : (due : Status) → IsDue tells words before.shelf now.shelf before.out now.out due → IsDueOrScarce words due ended
  ends_as_due status.Done d = asked_due status.Done d
  ends_as_due status.Source d = asked_due status.Source d
  ends_as_due status.Usage d = usage_due (untaken_ends tells words before now d ended said h)
  ends_as_due (status.NoValue x) d = asked_due (status.NoValue x) d
  ends_as_due status.Full d = asked_due status.Full d
  ends_as_due status.Memory d = absurd d
  ends_as_due status.Long d = asked_due status.Long d
  ends_as_due status.ReadFault d = asked_due status.ReadFault d
  ends_as_due status.WriteFault d = absurd d
  ends_as_due status.Input d = asked_due status.Input d
