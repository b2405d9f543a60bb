-- Want of chunks is due.
use Rattle.std.proofs.Common.{◌≡◌, ◌∙◌, refl, ℕ, List, Option, Some, inl, inr, subst, sym, Bool}
use Rattle.gib_edge.specs.Views.{ShelfView}
use Rattle.gib_types.specs.declared.reason.Reason.{Reason as Why}
use Rattle.gib_app.specs.declared.status.Status.{Status}
use Rattle.gib_app.specs.declared.status.Status.TheVariants as status
use Rattle.gib_app.specs.declared.made.Reason.TheVariants.{Meant, Full, Long}
use Rattle.gib_app.specs.Rows.{Row, FollowsJournal, row}
use Rattle.gib_words.specs.Plan.{Plan}
use Rattle.gib_app.specs.Jobs.{Prints, Does, PacksResult, packs_of, without_image}
use Rattle.gib_app.specs.Jobs.{NoValue as Without}
use Rattle.gib_app.specs.Causes.{OnBoth, HasNoValue, IsUnwritten}
use Rattle.gib_app.specs.Ending.{DueOfFiles, DueWithout}
use Rattle.gib_app.proofs.Replays.{some_or_none}
use Rattle.gib_script.specs.Script.{World}
use Rattle.gib_app.proofs.CallCauses.{K, Whole, Front, Valueless, IsCause}
use Rattle.gib_app.proofs.OneProgram.{Laws}
use Rattle.gib_app.proofs.SameFiles.{clash, fit_or_unfit, no_program, read_both, of_two, of_job}
use Rattle.gib_app.proofs.OneEnd.{text_or_full, none_or_full, file_or_full, ends_accept, accepts_without, as_replay, ends_replay}
use Rattle.gib_app.proofs.EndsDone.{Ends}

-- want of chunks is due, which a replay tells
abbrev pub DueFull : Bool → ShelfView → ShelfView → Plan → Type 0
DueFull tells before now r = (row r.job ≡ FollowsJournal) × DueOfFiles tells before now r (DueWithout before now Full r)

module _ (laws : Laws) (tells : Bool) (before now : World) (r : Plan) where
  full_or_none : (x : Why) → DueFull tells before.shelf now.shelf r → OnBoth (K tells before.shelf r) r (Valueless x r) → ⊥
  full_or_none x due h =
      let both = clash laws tells before.shelf now.shelf r (DueWithout before.shelf now.shelf Full r) (Valueless x r) due.1 h in
      let full = ends_replay (row r.job) (without_image r.options) both.0 both.1 both.2 both.3.0.0 (Without Full) due.0 both.3.0.1 in
      let valueless = as_replay (row r.job) r.options both.0 both.1 both.2 both.4.0 (Without (Meant x)) due.0 both.4.1 in
      none_or_full laws r.options both.0 both.1 both.2 x both.4.0 both.3.0.0 valueless full

  pub full_due : DueFull tells before.shelf now.shelf r → (ended : Status) → IsCause tells before now r ended → Ends status.Full ended
  full_due due status.Done h =
      let both = clash laws tells before.shelf now.shelf r (DueWithout before.shelf now.shelf Full r) (Whole tells before.shelf now.shelf before.out now.out r) due.1 h in
      let full = ends_replay (row r.job) (without_image r.options) both.0 both.1 both.2 both.3.0.0 (Without Full) due.0 both.3.0.1 in
      let text = as_replay (row r.job) r.options both.0 both.1 both.2 both.4.1.ended.file (Prints both.4.0) due.0 both.4.1.ended.does in
      absurd (text_or_full laws r.options both.0 both.1 both.2 r.options both.4.0 both.4.1.ended.file both.3.0.0 text full)
  full_due due status.Source h =
      absurd (no_program tells before.shelf now.shelf r (DueWithout before.shelf now.shelf Full r) due.1 h)
  full_due due status.Usage h = absurd h
  full_due due (status.NoValue x) h = absurd (full_or_none x due h)
  full_due due status.Full h = inl refl
  full_due due status.Memory h = inr (inl refl)
  full_due due status.Long h =
      let both = clash laws tells before.shelf now.shelf r (DueWithout before.shelf now.shelf Full r) (HasNoValue Long r) due.1 h in
      absurd (as_replay (row r.job) r.options both.0 both.1 both.2 both.4.0 (Without Long) due.0 both.4.1)
  full_due due status.ReadFault h =
      absurd (read_both tells before.shelf now.shelf r (DueWithout before.shelf now.shelf Full r) h.0 due.1 h.1)
  full_due due status.WriteFault (inl h) =
      let on = of_job tells before.shelf now.shelf r h.0 due.1.first_written h.1 in
      let both = clash laws tells before.shelf now.shelf r (DueWithout before.shelf now.shelf Full r) (λ p names given. IsUnwritten tells before.shelf now.shelf r p names given h.0) due.1 on in
      let full = ends_replay (row r.job) (without_image r.options) both.0 both.1 both.2 both.3.0.0 (Without Full) due.0 both.3.0.1 in
      let u = both.4 in
      absurd (elim (of_two tells before.shelf now.shelf r both.0 both.1 both.2 h.0 u) [
        | inl found ↦
            let made = subst (λ (f : Option (List ℕ)). Does r.job r.options both.0 both.1 both.2 f u.ending) found.1 u.does.0 in
            file_or_full laws r.options both.0 both.1 both.2 found.0 u.ending both.3.0.0 (as_replay (row r.job) r.options both.0 both.1 both.2 (Some found.0) u.ending due.0 made) full
        | inr found ↦
            let packs = subst (λ (x : Row). PacksResult (packs_of x r.options) both.0.tree both.1 r.options.depth both.2.second u.packed u.ending) due.0 u.does.1 in
            some_or_none found.0 (sym found.1 ∙ packs)
      ])
  full_due due status.WriteFault (inr h) =
      let both = clash laws tells before.shelf now.shelf r (DueWithout before.shelf now.shelf Full r) (Front tells before.shelf now.shelf before.out now.out r) due.1 h.0 in
      let full = ends_replay (row r.job) (without_image r.options) both.0 both.1 both.2 both.3.0.0 (Without Full) due.0 both.3.0.1 in
      let text = as_replay (row r.job) r.options both.0 both.1 both.2 both.4.1.ended.file (Prints both.4.0) due.0 both.4.1.ended.does in
      absurd (text_or_full laws r.options both.0 both.1 both.2 r.options both.4.0 both.4.1.ended.file both.3.0.0 text full)
  full_due due status.Input h =
      absurd (fit_or_unfit laws tells before.shelf now.shelf r (DueWithout before.shelf now.shelf Full r) (λ p names given d. accepts_without r.job r.options p names given (ends_accept (row r.job) (without_image r.options) p names given d.0.0 (Without Full) d.0.1)) due.1 h)
