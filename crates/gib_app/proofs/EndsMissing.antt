-- A file is not there.
use Rattle.gib_base.specs.Texts.{TextsView}
use Rattle.std.proofs.Common.{◌≡◌, refl, ℕ, List, [], ◌∷◌, inl, inr, subst, sym, Bool}
use Rattle.gib_types.specs.Tree.{Datum}
use Rattle.gib_edge.specs.Causes.{IsAllOf}
use Rattle.gib_edge.specs.Views.{Held, Missing, ShelfView}
use Rattle.gib_types.specs.declared.reason.Reason.{Reason as Why}
use Rattle.gib_app.specs.declared.status.Status.{Status}
use Rattle.gib_app.specs.declared.status.Status.TheVariants as status
use Rattle.gib_app.specs.declared.made.Reason.TheVariants.{Long}
use Rattle.gib_words.specs.Plan.{Plan, Files, bytes_in, Contents}
use Rattle.gib_app.specs.Running.{IsInput, IsSourceIn, IsNoProgramIn, Program}
use Rattle.gib_app.specs.Formats.{inputs_of, dialect_of}
use Rattle.gib_app.specs.Formats.{Input as PlanInput}
use Rattle.gib_app.specs.Causes.{AreFurther, AreGiven, AreReached, further_of, OnProgram, OnSource, OnBoth, OnReached, HasNoValue, IsUnwritten}
use Rattle.gib_app.specs.Ending.{IsMissing, FirstWritten, DueOfFirst, DueMissing}
use Rattle.gib_app.proofs.Making.{reached_all}
use Rattle.gib_script.specs.Script.{World}
use Rattle.gib_app.proofs.CallCauses.{K, Whole, Front, Valueless, Unfit, IsCause}
use Rattle.gib_app.proofs.OneProgram.{Laws, together}
use Rattle.gib_app.proofs.SameFiles.{same_bytes, of_job}
use Rattle.gib_app.proofs.EndsDone.{Ends}
use Rattle.gib_app.proofs.EndsRefused.{same_reached}

not_missing : (o : Held) (bytes : List ℕ) → o ≡ Missing → IsAllOf o bytes → ⊥
not_missing o bytes e h = let P : Held → Type 0 = λ x. IsAllOf x bytes in subst P e h

first_missing : (kept : Files) (p : Program) (names : TextsView) (is : List PlanInput) (given : Contents) → IsMissing kept is → AreReached kept p names is given → ⊥
first_missing kept p names [] given e h = e
first_missing kept p names (i ∷ is) given e h = not_missing (bytes_in kept i.document) given.second e h.0

behind_missing : (kept : Files) (is : List PlanInput) (further : List (List ℕ)) → IsMissing kept is → AreFurther kept is further → ⊥
behind_missing kept [] further e h = e
behind_missing kept (i ∷ is) [] e h = h
behind_missing kept (i ∷ is) (bytes ∷ further) e h = not_missing (bytes_in kept i.document) bytes e h.0

further_missing : (kept : Files) (is : List PlanInput) (given : Contents) → IsMissing kept (further_of is) → AreGiven kept is given → ⊥
further_missing kept [] given e h = e
further_missing kept (i ∷ is) given e h = behind_missing kept is given.further e h.1

-- where the first is taken, what is behind it is reached
taken_missing : {names : TextsView} (kept : Files) (p : Program) (is : List PlanInput) (given : Contents) → IsMissing kept (further_of is) → ((v : Datum) × IsInput p.tree names v given.second) → AreReached kept p names is given → ⊥
taken_missing kept p [] given e taken h = e
taken_missing kept p (i ∷ is) given e taken h = behind_missing kept is given.further e (h.1 taken)

pub missing_both : (tells : Bool) (before now : ShelfView) (r : Plan) (Q : Program → TextsView → Contents → Type 0) → DueMissing tells before now r → OnBoth (K tells before r) r Q → ⊥
missing_both tells before now r Q (inl e) h = not_missing (bytes_in (K tells before r) r.source) h.source e.0 h.source_held
missing_both tells before now r Q (inr (inl d)) h = first_missing (K tells before r) h.holds.program h.holds.texts (inputs_of r) h.given d.1 (reached_all (K tells before r) h.holds.program h.holds.texts (inputs_of r) h.given h.given_held)
missing_both tells before now r Q (inr (inr d)) h = further_missing (K tells before r) (inputs_of r) h.given d.holds.1 h.given_held

missing_reached : Laws → (tells : Bool) (before now : ShelfView) (r : Plan) (Q : Program → TextsView → Contents → Type 0) → DueMissing tells before now r → OnReached (K tells before r) r Q → ⊥
missing_reached laws tells before now r Q (inl e) h = not_missing (bytes_in (K tells before r) r.source) h.source e.0 h.source_held
missing_reached laws tells before now r Q (inr (inl d)) h = first_missing (K tells before r) h.holds.program h.holds.texts (inputs_of r) h.given d.1 h.holds.holds.0
missing_reached laws tells before now r Q (inr (inr d)) h =
    let kept = K tells before r in
    let es = same_bytes (bytes_in kept r.source) d.source h.source d.source_told h.source_held in
    let R : Program → TextsView → Type 0 = λ p names. AreReached kept p names (inputs_of r) h.given × Q p names h.given in
    let S : List ℕ → Type 0 = λ s. OnProgram (dialect_of r.job) s R in
    let F : Program → TextsView → Type 0 = λ p names. DueOfFirst tells before now r (λ bytes. (v : Datum) × IsInput p.tree names v bytes) in
    let both = together laws (dialect_of r.job) d.source F R d.holds.0 (subst S es h.holds) in
    let p = both.0 in
    let names = both.1 in
    let first = both.2 in
    let second = same_reached kept p names (inputs_of r) first.first h.given first.first_told both.3.0 in
    let I : List ℕ → Type 0 = λ bytes. (v : Datum) × IsInput p.tree names v bytes in
    taken_missing kept p (inputs_of r) h.given d.holds.1 (subst I (sym second) first.holds) both.3.0

missing_program : (tells : Bool) (before now : ShelfView) (r : Plan) → DueMissing tells before now r → OnSource (K tells before r) r.source (IsNoProgramIn (dialect_of r.job)) → ⊥
missing_program tells before now r (inl e) h = not_missing (bytes_in (K tells before r) r.source) h.source e.0 h.source_held
missing_program tells before now r (inr (inl d)) h =
    let es = same_bytes (bytes_in (K tells before r) r.source) d.0.source h.source d.0.source_told h.source_held in
    let program : (IsSourceIn (dialect_of r.job)) d.0.source = d.0.holds in
    subst (IsNoProgramIn (dialect_of r.job)) es h.holds program.0 program.1 program.2
missing_program tells before now r (inr (inr d)) h =
    let es = same_bytes (bytes_in (K tells before r) r.source) d.source h.source d.source_told h.source_held in
    subst (IsNoProgramIn (dialect_of r.job)) es h.holds d.holds.0.texts d.holds.0.program d.holds.0.is_program

missing_first : (tells : Bool) (before now : ShelfView) (r : Plan) → DueMissing tells before now r → FirstWritten before now r
missing_first tells before now r (inl e) = e.1
missing_first tells before now r (inr (inl d)) = d.0.first_written
missing_first tells before now r (inr (inr d)) = d.first_written

module _ (laws : Laws) (tells : Bool) (before now : World) (r : Plan) where
  read_or_none : (x : Why) → DueMissing tells before.shelf now.shelf r → OnBoth (K tells before.shelf r) r (Valueless x r) → ⊥
  read_or_none x due h = missing_both tells before.shelf now.shelf r (Valueless x r) due h

  pub read_due : DueMissing tells before.shelf now.shelf r → (ended : Status) → IsCause tells before now r ended → Ends status.ReadFault ended
  read_due due status.Done h =
      absurd (missing_both tells before.shelf now.shelf r (Whole tells before.shelf now.shelf before.out now.out r) due h)
  read_due due status.Source h = absurd (missing_program tells before.shelf now.shelf r due h)
  read_due due status.Usage h = absurd h
  read_due due (status.NoValue x) h = absurd (read_or_none x due h)
  read_due due status.Full h = inr (inr refl)
  read_due due status.Memory h = inr (inl refl)
  read_due due status.Long h = absurd (missing_both tells before.shelf now.shelf r (HasNoValue Long r) due h)
  read_due due status.ReadFault h = inl refl
  read_due due status.WriteFault (inl h) =
      absurd (missing_both tells before.shelf now.shelf r (λ p names given. IsUnwritten tells before.shelf now.shelf r p names given h.0) due (of_job tells before.shelf now.shelf r h.0 (missing_first tells before.shelf now.shelf r due) h.1))
  read_due due status.WriteFault (inr h) =
      absurd (missing_both tells before.shelf now.shelf r (Front tells before.shelf now.shelf before.out now.out r) due h.0)
  read_due due status.Input h = absurd (missing_reached laws tells before.shelf now.shelf r (Unfit r) due h)
