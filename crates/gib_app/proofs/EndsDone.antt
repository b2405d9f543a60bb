-- A text is due, or a job that accepts its inputs.
use Rattle.gib_base.specs.Texts.{TextsView}
use Rattle.std.proofs.Common.{◌≡◌, refl, ℕ, List, ◌⊎◌, inl, inr, Bool}
use Rattle.gib_types.specs.declared.reason.Reason.{Reason as Why}
use Rattle.gib_app.specs.declared.status.Status.{Status}
use Rattle.gib_app.specs.declared.status.Status.TheVariants as status
use Rattle.gib_app.specs.declared.made.Reason.TheVariants.{Long}
use Rattle.gib_app.specs.Rows.{row}
use Rattle.gib_words.specs.Plan.{Plan, Contents}
use Rattle.gib_app.specs.Running.{Program}
use Rattle.gib_app.specs.Formats.{Accepts}
use Rattle.gib_app.specs.Jobs.{Prints, without_image}
use Rattle.gib_app.specs.Causes.{OnBoth, HasNoValue, FailsToWrite}
use Rattle.gib_app.specs.Ending.{HasText, DueOfFiles, TakesAll}
use Rattle.gib_script.specs.Script.{World}
use Rattle.gib_app.proofs.CallCauses.{K, Valueless, IsCause}
use Rattle.gib_app.proofs.OneProgram.{Laws}
use Rattle.gib_app.proofs.SameFiles.{clash, fit_or_unfit, no_program, read_both, of_two, of_job}
use Rattle.gib_app.proofs.OneEnd.{packs_or_long, text_or_none, ends_accept, accepts_without}

-- It ends as is due, unless memory or chunks run out.
abbrev pub Ends : (due ended : Status) → Type 0
Ends due ended = (ended ≡ due) ⊎ (ended ≡ status.Memory) ⊎ (ended ≡ status.Full)

-- a text is due
abbrev pub DueAll : Bool → World → World → Plan → Type 0
DueAll tells before now r = DueOfFiles tells before.shelf now.shelf r (HasText r) × TakesAll before.shelf now.shelf before.out now.out r

-- a job that accepts its inputs is due: it ends with a text, or without a value
abbrev pub DueFit : Bool → World → World → Plan → Type 0
DueFit tells before now r = DueOfFiles tells before.shelf now.shelf r (λ p names given. Accepts r.job r.options p names given) × TakesAll before.shelf now.shelf before.out now.out r

module _ (laws : Laws) (tells : Bool) (before now : World) (r : Plan) where
  -- the files that are asked for are written
  all_written : (P : Program → TextsView → Contents → Type 0) → DueOfFiles tells before.shelf now.shelf r P → TakesAll before.shelf now.shelf before.out now.out r
      → (name : List ℕ) × FailsToWrite tells before.shelf now.shelf r name → ⊥
  all_written P due takes h =
      let on = of_job tells before.shelf now.shelf r h.0 due.first_written h.1 in
      elim (of_two tells before.shelf now.shelf r on.holds.program on.holds.texts on.given h.0 on.holds.holds) [
        | inl found ↦ takes.target h.0 found.2 found.3
        | inr found ↦ takes.pack h.0 found.2 found.3
      ]

  done_or_none : (x : Why) → DueAll tells before now r → OnBoth (K tells before.shelf r) r (Valueless x r) → ⊥
  done_or_none x due h =
      let both = clash laws tells before.shelf now.shelf r (HasText r) (Valueless x r) due.0 h in
      text_or_none laws r.options both.0 both.1 both.2 (row r.job) both.3.1 x both.3.0 both.4.0 both.3.2 both.4.1

  pub done_due : DueAll tells before now r → (ended : Status) → IsCause tells before now r ended → Ends status.Done ended
  done_due due status.Done h = inl refl
  done_due due status.Source h = absurd (no_program tells before.shelf now.shelf r (HasText r) due.0 h)
  done_due due status.Usage h = absurd h
  done_due due (status.NoValue x) h = absurd (done_or_none x due h)
  done_due due status.Full h = inr (inr refl)
  done_due due status.Memory h = inr (inl refl)
  done_due due status.Long h =
      let both = clash laws tells before.shelf now.shelf r (HasText r) (HasNoValue Long r) due.0 h in
      absurd (packs_or_long laws r.job r.options both.0 both.1 both.2 both.3.1 both.3.3.0 both.4.0 both.3.3.1 both.4.1)
  done_due due status.ReadFault h = absurd (read_both tells before.shelf now.shelf r (HasText r) h.0 due.0 h.1)
  done_due due status.WriteFault (inl h) = absurd (all_written (HasText r) due.0 due.1 h)
  done_due due status.WriteFault (inr h) = absurd (due.1.out h.1)
  done_due due status.Input h =
      absurd (fit_or_unfit laws tells before.shelf now.shelf r (HasText r) (λ p names given d. accepts_without r.job r.options p names given (ends_accept (row r.job) (without_image r.options) p names given d.0 (Prints d.1) d.2)) due.0 h)

  pub fit_ends : DueFit tells before now r → (ended : Status) → IsCause tells before now r ended →
      (ended ≡ status.Done) ⊎ ((x : Why) × (ended ≡ status.NoValue x)) ⊎ (ended ≡ status.Memory) ⊎ (ended ≡ status.Long) ⊎ (ended ≡ status.Full)
  fit_ends due status.Done h = inl refl
  fit_ends due (status.NoValue x) h = inr (inl (x, refl))
  fit_ends due status.Memory h = inr (inr (inl refl))
  fit_ends due status.Long h = inr (inr (inr (inl refl)))
  fit_ends due status.Full h = inr (inr (inr (inr refl)))
  fit_ends due status.Source h =
      absurd (no_program tells before.shelf now.shelf r (λ p names given. Accepts r.job r.options p names given) due.0 h)
  fit_ends due status.Usage h = absurd h
  fit_ends due status.ReadFault h =
      absurd (read_both tells before.shelf now.shelf r (λ p names given. Accepts r.job r.options p names given) h.0 due.0 h.1)
  fit_ends due status.WriteFault (inl h) = absurd (all_written (λ p names given. Accepts r.job r.options p names given) due.0 due.1 h)
  fit_ends due status.WriteFault (inr h) = absurd (due.1.out h.1)
  fit_ends due status.Input h =
      absurd (fit_or_unfit laws tells before.shelf now.shelf r (λ p names given. Accepts r.job r.options p names given) (λ p names given d. d) due.0 h)
