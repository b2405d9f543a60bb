-- A refusal of the source or of the inputs is due.
use Rattle.gib_base.specs.Texts.{TextsView}
use Rattle.std.proofs.Common.{◌≡◌, ◌∙◌, refl, ℕ, List, [], ◌∷◌, Some, inl, inr, subst, sym, Bool}
use Rattle.gib_types.specs.Tree.{Datum}
use Rattle.gib_edge.specs.Causes.{IsAllOf}
use Rattle.gib_edge.specs.Views.{ShelfView}
use Rattle.gib_types.specs.declared.reason.Reason.{Reason as Why}
use Rattle.gib_app.specs.declared.status.Status.{Status}
use Rattle.gib_app.specs.declared.status.Status.TheVariants as status
use Rattle.gib_words.specs.declared.plan.Job.{Job}
use Rattle.gib_app.specs.declared.inputs.Format.TheVariants.{Journaled}
use Rattle.gib_words.specs.declared.plan.Options.{Options}
use Rattle.gib_app.specs.declared.made.Reason.TheVariants.{Meant, Long}
use Rattle.gib_app.specs.Rows.{Row, FollowsJournal, row}
use Rattle.gib_words.specs.Plan.{Plan, Files, bytes_in, Contents}
use Rattle.gib_app.specs.Running.{IsInput, IsNoProgramIn, Program}
use Rattle.gib_app.specs.Formats.{format_by, inputs_of, dialect_of, Accepts}
use Rattle.gib_app.specs.Formats.{Input as PlanInput}
use Rattle.gib_app.specs.Jobs.{Prints}
use Rattle.gib_app.specs.Jobs.{NoValue as Without}
use Rattle.gib_app.specs.Causes.{AreGiven, AreReached, first_of, OnProgram, OnSource, OnBoth, HasNoValue, IsUnwritten, FailsToRead}
use Rattle.gib_app.specs.Ending.{AreTold, FirstWritten, DueOfSource, DueRefused, RefusesFirst}
use Rattle.gib_app.proofs.Doing.{AcceptsBy, does_accepts}
use Rattle.gib_app.proofs.Making.{reached_all}
use Rattle.gib_script.specs.Script.{World}
use Rattle.gib_app.proofs.CallCauses.{K, Whole, Front, Valueless, Unfit, IsCause}
use Rattle.gib_app.proofs.OneProgram.{Laws, together}
use Rattle.gib_app.proofs.SameFiles.{same_bytes, clash, no_program, a_program, reached_program, read_both, read_one, of_job}
use Rattle.gib_app.proofs.EndsDone.{Ends}

-- a refusal of the source is due
abbrev pub DueRefusal : Bool → ShelfView → ShelfView → Plan → Type 0
DueRefusal tells before now r = DueOfSource tells before now r (IsNoProgramIn (dialect_of r.job))

module _ (laws : Laws) (tells : Bool) (before now : World) (r : Plan) where
  source_or_none : (x : Why) → DueRefusal tells before.shelf now.shelf r → OnBoth (K tells before.shelf r) r (Valueless x r) → ⊥
  source_or_none x due h = a_program tells before.shelf now.shelf r (Valueless x r) due h

  pub source_due : DueRefusal tells before.shelf now.shelf r → (ended : Status) → IsCause tells before now r ended → Ends status.Source ended
  source_due due status.Done h =
      absurd (a_program tells before.shelf now.shelf r (Whole tells before.shelf now.shelf before.out now.out r) due h)
  source_due due status.Source h = inl refl
  source_due due status.Usage h = absurd h
  source_due due (status.NoValue x) h = absurd (source_or_none x due h)
  source_due due status.Full h = inr (inr refl)
  source_due due status.Memory h = inr (inl refl)
  source_due due status.Long h = absurd (a_program tells before.shelf now.shelf r (HasNoValue Long r) due h)
  source_due due status.ReadFault h = absurd (read_one tells before.shelf now.shelf r h.0 due h.1)
  source_due due status.WriteFault (inl h) =
      absurd (a_program tells before.shelf now.shelf r (λ p names given. IsUnwritten tells before.shelf now.shelf r p names given h.0) due (of_job tells before.shelf now.shelf r h.0 due.first_written h.1))
  source_due due status.WriteFault (inr h) =
      absurd (a_program tells before.shelf now.shelf r (Front tells before.shelf now.shelf before.out now.out r) due h.0)
  source_due due status.Input h = absurd (reached_program tells before.shelf now.shelf r (Unfit r) due h)

-- ---- A refusal of the inputs is due

-- the first one, which is told, is that which is given
pub same_reached : (kept : Files) (p : Program) (names : TextsView) (is : List PlanInput) (first : List ℕ) (given : Contents) → AreTold kept (first_of is) (record { second = first; further = [] }) → AreReached kept p names is given → given.second ≡ first
same_reached kept p names [] first given e h = h.0 ∙ sym e.0
same_reached kept p names (i ∷ is) first given e h = same_bytes (bytes_in kept i.document) first given.second e.0 h.0

same_alone : (kept : Files) (is : List PlanInput) (first : List ℕ) (given : Contents) → AreTold kept (first_of is) (record { second = first; further = [] }) → AreGiven kept (first_of is) given → given.second ≡ first
same_alone kept [] first given e h = h.0 ∙ sym e.0
same_alone kept (i ∷ is) first given e h = same_bytes (bytes_in kept i.document) first given.second e.0 h.0

-- what a replay accepts begins with a packed file
accepts_packed : (job : Job) (options : Options) (p : Program) (names : TextsView) (given : Contents) → row job ≡ FollowsJournal → Accepts job options p names given → (v : Datum) × IsInput p.tree names v given.second
accepts_packed job options p names given is h =
    let P : Row → Type 0 = λ r. AcceptsBy (format_by r) options p names given in
    let a : AcceptsBy (Some Journaled) options p names given = subst P is h in
    (a.value, a.is_input)

-- the first is no packed file, and is one
module _ (laws : Laws) (tells : Bool) (before now : ShelfView) (r : Plan) (due : DueOfSource tells before now r (RefusesFirst tells before now r)) where
  refused_and_taken : (source : List ℕ) (given : Contents) → IsAllOf (bytes_in (K tells before r) r.source) source → given.second ≡ due.holds.holds.first → OnProgram (dialect_of r.job) source (λ p names. (v : Datum) × IsInput p.tree names v given.second) → ⊥
  refused_and_taken source given held second on =
      let es = same_bytes (bytes_in (K tells before r) r.source) due.source source due.source_told held in
      let Q : Program → TextsView → Type 0 = λ p names. (v : Datum) × IsInput p.tree names v given.second in
      let S : List ℕ → Type 0 = λ s. OnProgram (dialect_of r.job) s Q in
      let F : Program → TextsView → Type 0 = λ p names. ((v : Datum) × IsInput p.tree names v due.holds.holds.first) → ⊥ in
      let first : OnProgram (dialect_of r.job) due.source F = record { texts = due.holds.texts; program = due.holds.program; is_program = due.holds.is_program; holds = due.holds.holds.holds } in
      let both = together laws (dialect_of r.job) due.source F Q first (subst S es on) in
      let I : List ℕ → Type 0 = λ bytes. (v : Datum) × IsInput both.0.tree both.1 v bytes in
      both.2 (subst I second both.3)

  refused_read : (name : List ℕ) → FailsToRead (K tells before r) before now r name → ⊥
  refused_read name (inl h) = due.source_read name h
  refused_read name (inr (inl h)) = due.holds.holds.first_read name h.0
  refused_read name (inr (inr h)) =
      refused_and_taken h.1.source h.1.given h.1.source_held (same_alone (K tells before r) (inputs_of r) due.holds.holds.first h.1.given due.holds.holds.first_told h.1.given_held) h.1.holds

  refused_both : (Q : Program → TextsView → Contents → Type 0) → row r.job ≡ FollowsJournal → ((p : Program) (names : TextsView) (given : Contents) → Q p names given → Accepts r.job r.options p names given) →
      OnBoth (K tells before r) r Q → ⊥
  refused_both Q is accepts end' =
      let given = end'.given in
      let on : OnProgram (dialect_of r.job) end'.source (λ p names. (v : Datum) × IsInput p.tree names v given.second) = record {
        texts = end'.holds.texts;
        program = end'.holds.program;
        is_program = end'.holds.is_program;
        holds = accepts_packed r.job r.options end'.holds.program end'.holds.texts given is (accepts end'.holds.program end'.holds.texts given end'.holds.holds);
      } in
      refused_and_taken end'.source given end'.source_held (same_reached (K tells before r) end'.holds.program end'.holds.texts (inputs_of r) due.holds.holds.first given due.holds.holds.first_told (reached_all (K tells before r) end'.holds.program end'.holds.texts (inputs_of r) given end'.given_held)) on

  refused_program : OnSource (K tells before r) r.source (IsNoProgramIn (dialect_of r.job)) → ⊥
  refused_program end' =
      let es = same_bytes (bytes_in (K tells before r) r.source) due.source end'.source due.source_told end'.source_held in
      subst (IsNoProgramIn (dialect_of r.job)) es end'.holds due.holds.texts due.holds.program due.holds.is_program

-- so the inputs are not accepted, and their source is a program
module _ (laws : Laws) (tells : Bool) (before now : ShelfView) (r : Plan) where
  pub unfit_both : (Q : Program → TextsView → Contents → Type 0) → ((p : Program) (names : TextsView) (given : Contents) → Q p names given → Accepts r.job r.options p names given) →
      DueRefused tells before now r → OnBoth (K tells before r) r Q → ⊥
  unfit_both Q accepts (inl due) end' = let both = clash laws tells before now r (Unfit r) Q due end' in both.3 (accepts both.0 both.1 both.2 both.4)
  unfit_both Q accepts (inr due) end' = refused_both laws tells before now r due.1 Q due.0 accepts end'

  unfit_program : DueRefused tells before now r → OnSource (K tells before r) r.source (IsNoProgramIn (dialect_of r.job)) → ⊥
  unfit_program (inl due) end' = no_program tells before now r (Unfit r) due end'
  unfit_program (inr due) end' = refused_program laws tells before now r due.1 end'

  unfit_read : (name : List ℕ) → DueRefused tells before now r → FailsToRead (K tells before r) before now r name → ⊥
  unfit_read name (inl due) h = read_both tells before now r (Unfit r) name due h
  unfit_read name (inr due) h = refused_read laws tells before now r due.1 name h

  unfit_first : DueRefused tells before now r → FirstWritten before now r
  unfit_first (inl due) = due.first_written
  unfit_first (inr due) = due.1.first_written

module _ (laws : Laws) (tells : Bool) (before now : World) (r : Plan) where
  input_or_none : (x : Why) → DueRefused tells before.shelf now.shelf r → OnBoth (K tells before.shelf r) r (Valueless x r) → ⊥
  input_or_none x due h = unfit_both laws tells before.shelf now.shelf r (Valueless x r) (λ p names given d. does_accepts r.job r.options p names given d.0 (Without (Meant x)) d.1) due h

  pub input_due : DueRefused tells before.shelf now.shelf r → (ended : Status) → IsCause tells before now r ended → Ends status.Input ended
  input_due due status.Done h =
      absurd (unfit_both laws tells before.shelf now.shelf r (Whole tells before.shelf now.shelf before.out now.out r) (λ p names given w. does_accepts r.job r.options p names given w.1.ended.file (Prints w.0) w.1.ended.does) due h)
  input_due due status.Source h = absurd (unfit_program laws tells before.shelf now.shelf r due h)
  input_due due status.Usage h = absurd h
  input_due due (status.NoValue x) h = absurd (input_or_none x due h)
  input_due due status.Full h = inr (inr refl)
  input_due due status.Memory h = inr (inl refl)
  input_due due status.Long h =
      absurd (unfit_both laws tells before.shelf now.shelf r (HasNoValue Long r) (λ p names given f. does_accepts r.job r.options p names given f.0 (Without Long) f.1) due h)
  input_due due status.ReadFault h = absurd (unfit_read laws tells before.shelf now.shelf r h.0 due h.1)
  input_due due status.WriteFault (inl h) =
      let on = of_job tells before.shelf now.shelf r h.0 (unfit_first laws tells before.shelf now.shelf r due) h.1 in
      absurd (unfit_both laws tells before.shelf now.shelf r (λ p names given. IsUnwritten tells before.shelf now.shelf r p names given h.0)
      (λ p names given u. does_accepts r.job r.options p names given u.file u.ending u.does.0) due on)
  input_due due status.WriteFault (inr h) =
      absurd (unfit_both laws tells before.shelf now.shelf r (Front tells before.shelf now.shelf before.out now.out r) (λ p names given w. does_accepts r.job r.options p names given w.1.ended.file (Prints w.0) w.1.ended.does) due h.0)
  input_due due status.Input h = inl refl
