-- Too long a result is due.
use Rattle.gib_base.specs.Texts.{TextsView}
use Rattle.std.proofs.Common.{◌≡◌, ◌∙◌, refl, ap, ℕ, List, Option, Some, inl, inr, subst, Bool, true}
use Rattle.gib_edge.specs.Views.{ShelfView}
use Rattle.gib_types.specs.declared.reason.Reason.{Reason as Why}
use Rattle.gib_app.specs.declared.status.Status.{Status}
use Rattle.gib_app.specs.declared.status.Status.TheVariants as status
use Rattle.gib_words.specs.declared.plan.Options.{Options}
use Rattle.gib_app.specs.declared.made.Reason.TheVariants.{Meant, Full, Long}
use Rattle.gib_app.specs.Rows.{ForFiles, Row, Evaluates, row}
use Rattle.gib_words.specs.Plan.{Plan, Contents}
use Rattle.gib_app.specs.Running.{Program, IsLongResult}
use Rattle.gib_app.specs.Jobs.{End, Prints, Does, DoesBy, DoesPack, PacksResult, packs_of, without_image}
use Rattle.gib_app.specs.Jobs.{NoValue as Without}
use Rattle.gib_app.specs.Causes.{OnBoth, IsUnwritten}
use Rattle.gib_app.specs.Ending.{ends_as, DueOfFiles, DueWithout}
use Rattle.gib_script.specs.Script.{World}
use Rattle.gib_app.proofs.CallCauses.{K, Whole, Front, Valueless, IsCause}
use Rattle.gib_app.proofs.OneProgram.{Laws}
use Rattle.gib_app.proofs.SameFiles.{clash, fit_or_unfit, no_program, read_both, of_two, of_job}
use Rattle.gib_app.proofs.OneEnd.{long_well, packed_or_long, packed_text, full_no_file, ends_accept, accepts_without}
use Rattle.gib_app.proofs.EndsDone.{Ends}

-- too long a result is due
abbrev pub DueLong : Bool → ShelfView → ShelfView → Plan → Type 0
DueLong tells before now r = (row r.job ≡ Evaluates ForFiles) × DueOfFiles tells before now r (DueWithout before now Long r)

-- what a job does and makes, where it is a run
as_run : (r : Row) (o : Options) (p : Program) (names : TextsView) (given : Contents) (file : Option (List ℕ)) (e : End) → r ≡ Evaluates ForFiles → DoesBy r o p names given file e → DoesBy (Evaluates ForFiles) o p names given file e
as_run r o p names given file e is h = let P : Row → Type 0 = λ x. DoesBy x o p names given file e in subst P is h

-- so it is with a run, where it may leave out an image
abbrev LongRun : Options → Program → TextsView → Contents → Type 0
LongRun o p names given = IsLongResult p.tree names o.depth given.second × (o.packs ≡ true)

long_run : (r : Row) (o : Options) (p : Program) (names : TextsView) (given : Contents) (file : Option (List ℕ)) → r ≡ Evaluates ForFiles → DoesBy (ends_as r) (without_image o) p names given file (Without Long) → LongRun o p names given
long_run r o p names given file is h =
    let P : Row → Type 0 = λ x. DoesBy (ends_as x) (without_image o) p names given file (Without Long) in
    let k = subst P is h in
    (k.1, k.2)

module _ (laws : Laws) (o : Options) (p : Program) (names : TextsView) (given : Contents) (long : LongRun o p names given) where
  long_or_text : (r : Row) → r ≡ Evaluates ForFiles → (text : List ℕ) (packed : Option (List ℕ)) → PacksResult (packs_of r o) p.tree names o.depth given.second packed (Prints text) → ⊥
  long_or_text r is text packed d =
      let k = subst (λ (b : Bool). PacksResult b p.tree names o.depth given.second packed (Prints text)) (ap (λ (x : Row). packs_of x o) is ∙ long.1) d in
      packed_or_long laws p.tree names o.depth given.second k.0 k.2 long.0

  long_lacks : (r : Row) → r ≡ Evaluates ForFiles → (x : Why) (file : Option (List ℕ)) → DoesBy r o p names given file (Without (Meant x)) → ⊥
  long_lacks r is x file d = long_well laws p.tree names o.depth given.second x long.0 (as_run r o p names given file (Without (Meant x)) is d).1

  -- where it makes a file, it ends so
  long_file : (r : Row) → r ≡ Evaluates ForFiles → (bytes : List ℕ) (packed : Option (List ℕ)) (e : End) → DoesBy r o p names given (Some bytes) e → PacksResult (packs_of r o) p.tree names o.depth given.second packed e → e ≡ Without Long
  long_file r is bytes packed (Prints text) h d = absurd (long_or_text r is text packed d)
  long_file r is bytes packed (Without (Meant x)) h d = absurd (long_lacks r is x (Some bytes) h)
  long_file r is bytes packed (Without Full) h d = absurd (full_no_file r o p names given bytes h)
  long_file r is bytes packed (Without Long) h d = refl

module _ (laws : Laws) (tells : Bool) (before now : World) (r : Plan) where
  long_or_lacking : (x : Why) → DueLong tells before.shelf now.shelf r → OnBoth (K tells before.shelf r) r (Valueless x r) → ⊥
  long_or_lacking x due h =
      let both = clash laws tells before.shelf now.shelf r (DueWithout before.shelf now.shelf Long r) (Valueless x r) due.1 h in
      let long = long_run (row r.job) r.options both.0 both.1 both.2 both.3.0.0 due.0 both.3.0.1 in
      long_lacks laws r.options both.0 both.1 both.2 long (row r.job) due.0 x both.4.0 both.4.1

  pub long_due : DueLong tells before.shelf now.shelf r → (ended : Status) → IsCause tells before now r ended → Ends status.Long ended
  long_due due status.Done h =
      let both = clash laws tells before.shelf now.shelf r (DueWithout before.shelf now.shelf Long r) (Whole tells before.shelf now.shelf before.out now.out r) due.1 h in
      let long = long_run (row r.job) r.options both.0 both.1 both.2 both.3.0.0 due.0 both.3.0.1 in
      absurd (long_or_text laws r.options both.0 both.1 both.2 long (row r.job) due.0 both.4.0 both.4.1.ended.packed both.4.1.ended.packs)
  long_due due status.Source h =
      absurd (no_program tells before.shelf now.shelf r (DueWithout before.shelf now.shelf Long r) due.1 h)
  long_due due status.Usage h = absurd h
  long_due due (status.NoValue x) h = absurd (long_or_lacking x due h)
  long_due due status.Long h = inl refl
  long_due due status.Full h = inr (inr refl)
  long_due due status.Memory h = inr (inl refl)
  long_due due status.ReadFault h =
      absurd (read_both tells before.shelf now.shelf r (DueWithout before.shelf now.shelf Long r) h.0 due.1 h.1)
  long_due due status.WriteFault (inl h) =
      let on = of_job tells before.shelf now.shelf r h.0 due.1.first_written h.1 in
      let both = clash laws tells before.shelf now.shelf r (DueWithout before.shelf now.shelf Long r) (λ p names given. IsUnwritten tells before.shelf now.shelf r p names given h.0) due.1 on in
      let long = long_run (row r.job) r.options both.0 both.1 both.2 both.3.0.0 due.0 both.3.0.1 in
      let u = both.4 in
      absurd (elim (of_two tells before.shelf now.shelf r both.0 both.1 both.2 h.0 u) [
        | inl found ↦
            let made = subst (λ (f : Option (List ℕ)). Does r.job r.options both.0 both.1 both.2 f u.ending) found.1 u.does.0 in
            let D : End → Type 0 = Does r.job r.options both.0 both.1 both.2 (Some found.0) in
            both.3.1 h.0 found.0 found.2 (subst D (long_file laws r.options both.0 both.1 both.2 long (row r.job) due.0 found.0 u.packed u.ending made u.does.1) made) found.3
        | inr found ↦
            let text = packed_text r.job r.options both.0 both.1 both.2 found.0 u.ending (subst (λ (f : Option (List ℕ)). DoesPack r.job r.options both.0 both.1 both.2 f u.ending) found.1 u.does.1) in
            long_or_text laws r.options both.0 both.1 both.2 long (row r.job) due.0 text.0 u.packed (subst (DoesPack r.job r.options both.0 both.1 both.2 u.packed) text.1 u.does.1)
      ])
  long_due due status.WriteFault (inr h) =
      let both = clash laws tells before.shelf now.shelf r (DueWithout before.shelf now.shelf Long r) (Front tells before.shelf now.shelf before.out now.out r) due.1 h.0 in
      let long = long_run (row r.job) r.options both.0 both.1 both.2 both.3.0.0 due.0 both.3.0.1 in
      absurd (long_or_text laws r.options both.0 both.1 both.2 long (row r.job) due.0 both.4.0 both.4.1.ended.packed both.4.1.ended.packs)
  long_due due status.Input h =
      absurd (fit_or_unfit laws tells before.shelf now.shelf r (DueWithout before.shelf now.shelf Long r) (λ p names given d. accepts_without r.job r.options p names given (ends_accept (row r.job) (without_image r.options) p names given d.0.0 (Without Long) d.0.1)) due.1 h)
