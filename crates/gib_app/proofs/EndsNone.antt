-- No value is due.
use Rattle.std.proofs.Common.{◌≡◌, refl, ap, ℕ, List, Option, Some, inl, inr, subst, sym, Bool}
use Rattle.gib_edge.specs.Views.{ShelfView}
use Rattle.gib_types.specs.declared.reason.Reason.{Reason as Why}
use Rattle.gib_app.specs.declared.status.Status.{Status}
use Rattle.gib_app.specs.declared.status.Status.TheVariants as status
use Rattle.gib_app.specs.declared.made.Reason.TheVariants.{Meant, Long}
use Rattle.gib_app.specs.Rows.{row}
use Rattle.gib_words.specs.Plan.{Plan}
use Rattle.gib_app.specs.Jobs.{End, Does, DoesPack, without_image}
use Rattle.gib_app.specs.Jobs.{NoValue as Without}
use Rattle.gib_app.specs.Causes.{OnBoth, HasNoValue, IsUnwritten}
use Rattle.gib_app.specs.Ending.{DueOfFiles, DueWithout}
use Rattle.gib_script.specs.Script.{World}
use Rattle.gib_app.proofs.CallCauses.{K, Whole, Front, Valueless, IsCause}
use Rattle.gib_app.proofs.OneProgram.{Laws}
use Rattle.gib_app.proofs.SameFiles.{clash, fit_or_unfit, no_program, read_both, of_two, of_job}
use Rattle.gib_app.proofs.OneEnd.{packed_text, none_or_text, one_end, long_or_none, file_or_none, ends_accept, accepts_without}
use Rattle.gib_app.proofs.EndsDone.{Ends}

-- no value is due, for a reason
abbrev pub DueNone : Bool → ShelfView → ShelfView → Why → Plan → Type 0
DueNone tells before now x r = DueOfFiles tells before now r (DueWithout before now (Meant x) r)

module _ (laws : Laws) (tells : Bool) (before now : World) (r : Plan) (x : Why) where
  none_or_none : (y : Why) → DueNone tells before.shelf now.shelf x r → OnBoth (K tells before.shelf r) r (Valueless y r) → x ≡ y
  none_or_none y due h =
      let both = clash laws tells before.shelf now.shelf r (DueWithout before.shelf now.shelf (Meant x) r) (Valueless y r) due h in
      one_end laws r.options both.0 both.1 both.2 (row r.job) x y both.3.0.0 both.4.0 both.3.0.1 both.4.1

  pub none_due : DueNone tells before.shelf now.shelf x r → (ended : Status) → IsCause tells before now r ended → Ends (status.NoValue x) ended
  none_due due status.Done h =
      let both = clash laws tells before.shelf now.shelf r (DueWithout before.shelf now.shelf (Meant x) r) (Whole tells before.shelf now.shelf before.out now.out r) due h in
      absurd (none_or_text laws r.options both.0 both.1 both.2 (row r.job) x both.4.0 both.3.0.0 both.4.1.ended.file both.3.0.1 both.4.1.ended.does)
  none_due due status.Source h =
      absurd (no_program tells before.shelf now.shelf r (DueWithout before.shelf now.shelf (Meant x) r) due h)
  none_due due status.Usage h = absurd h
  none_due due (status.NoValue y) h = inl (ap status.NoValue (sym (none_or_none y due h)))
  none_due due status.Full h = inr (inr refl)
  none_due due status.Memory h = inr (inl refl)
  none_due due status.Long h =
      let both = clash laws tells before.shelf now.shelf r (DueWithout before.shelf now.shelf (Meant x) r) (HasNoValue Long r) due h in
      absurd (long_or_none laws r.options both.0 both.1 both.2 (row r.job) x both.3.0.0 both.4.0 both.3.0.1 both.4.1)
  none_due due status.ReadFault h =
      absurd (read_both tells before.shelf now.shelf r (DueWithout before.shelf now.shelf (Meant x) r) h.0 due h.1)
  none_due due status.WriteFault (inl h) =
      let on = of_job tells before.shelf now.shelf r h.0 due.first_written h.1 in
      let both = clash laws tells before.shelf now.shelf r (DueWithout before.shelf now.shelf (Meant x) r) (λ p names given. IsUnwritten tells before.shelf now.shelf r p names given h.0) due on in
      let u = both.4 in
      absurd (elim (of_two tells before.shelf now.shelf r both.0 both.1 both.2 h.0 u) [
        | inl found ↦
            let made = subst (λ (f : Option (List ℕ)). Does r.job r.options both.0 both.1 both.2 f u.ending) found.1 u.does.0 in
            let D : End → Type 0 = Does r.job r.options both.0 both.1 both.2 (Some found.0) in
            let valueless = subst D (file_or_none laws r.options both.0 both.1 both.2 (row r.job) x found.0 u.ending both.3.0.0 made both.3.0.1) made in
            both.3.1 h.0 found.0 found.2 valueless found.3
        | inr found ↦
            let text = packed_text r.job r.options both.0 both.1 both.2 found.0 u.ending (subst (λ (f : Option (List ℕ)). DoesPack r.job r.options both.0 both.1 both.2 f u.ending) found.1 u.does.1) in
            none_or_text laws r.options both.0 both.1 both.2 (row r.job) x text.0 both.3.0.0 u.file both.3.0.1 (subst (Does r.job r.options both.0 both.1 both.2 u.file) text.1 u.does.0)
      ])
  none_due due status.WriteFault (inr h) =
      let both = clash laws tells before.shelf now.shelf r (DueWithout before.shelf now.shelf (Meant x) r) (Front tells before.shelf now.shelf before.out now.out r) due h.0 in
      absurd (none_or_text laws r.options both.0 both.1 both.2 (row r.job) x both.4.0 both.3.0.0 both.4.1.ended.file both.3.0.1 both.4.1.ended.does)
  none_due due status.Input h =
      absurd (fit_or_unfit laws tells before.shelf now.shelf r (DueWithout before.shelf now.shelf (Meant x) r) (λ p names given d. accepts_without r.job r.options p names given (ends_accept (row r.job) (without_image r.options) p names given d.0.0 (Without (Meant x)) d.0.1)) due h)
