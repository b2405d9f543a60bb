-- What is due and what is answered are of the same files.
use Rattle.gib_base.specs.Texts.{TextsView}
use Rattle.std.proofs.Common.{◌≡◌, ◌∙◌, refl, ap, ap₂, ℕ, List, [], ◌∷◌, Option, Some, None, ◌⊎◌, inl, inr, subst, sym, ◌++◌, Bool}
use Rattle.gib_types.specs.Tree.{Datum}
use Rattle.gib_edge.specs.Causes.{Rose, IsAllOf}
use Rattle.gib_edge.specs.Views.{Held, Has, ShelfView}
use Rattle.gib_words.specs.declared.plan.Job.{Job}
use Rattle.gib_app.specs.Cores.{layouts_asked}
use Rattle.gib_app.specs.declared.inputs.Format.{Format}
use Rattle.gib_app.specs.declared.inputs.Format.TheVariants.{Packed, Packable, Shown, Journaled}
use Rattle.gib_words.specs.declared.plan.Options.{Options}
use Rattle.gib_words.specs.Plan.{Write, Plan, Files, Document, bytes_in, Contents}
use Rattle.gib_app.specs.Writes.{with_write, writes_of, IsStuckIn, IsNamedIn}
use Rattle.gib_app.specs.Running.{IsInput, IsSourceIn, IsNoProgramIn, Program, IsShownValue}
use Rattle.gib_app.specs.Packing.{IsPackedBy}
use Rattle.gib_app.specs.Formats.{format_of, inputs_of, dialect_of, Accepts}
use Rattle.gib_app.specs.Formats.{Input as PlanInput}
use Rattle.gib_app.specs.Causes.{IsUnread, AreFurther, AreGiven, AreReached, AreUnread, first_of, further_of, OnProgram, OnSource, OnBoth, OnReached, IsUnwritten, FailsToRead, FailsToWrite}
use Rattle.gib_app.specs.Ending.{AreFurtherTold, AreTold, FirstWritten, DueOfSource, DueOfFiles}
use Rattle.gib_app.proofs.Doing.{AcceptsBy}
use Rattle.gib_app.proofs.CallCauses.{K}
use Rattle.gib_app.proofs.OneProgram.{Laws, together}

pub same_bytes : (o : Held) (a b : List ℕ) → o ≡ Has a → IsAllOf o b → b ≡ a
same_bytes o a b e h = let P : Held → Type 0 = λ x. IsAllOf x b in subst P e h

same_further : (kept : Files) (is : List PlanInput) (a b : List (List ℕ)) → AreFurtherTold kept is a → AreFurther kept is b → b ≡ a
same_further kept [] a b e h = h ∙ sym e
same_further kept (i ∷ is) [] b e h = absurd e
same_further kept (i ∷ is) (x ∷ a) [] e h = absurd h
same_further kept (i ∷ is) (x ∷ a) (y ∷ b) e h = ap₂ (λ z c. z ∷ c) (same_bytes (bytes_in kept i.document) x y e.0 h.0) (same_further kept is a b e.1 h.1)

same_parts : (a b : Contents) → b.second ≡ a.second → b.further ≡ a.further → b ≡ a
same_parts a b e f = ap₂ (λ s (t : List (List ℕ)). record { second = s; further = t }) e f

pub same_given : (kept : Files) (is : List PlanInput) (a b : Contents) → AreTold kept is a → AreGiven kept is b → b ≡ a
same_given kept [] a b e h = same_parts a b (h.0 ∙ sym e.0) (h.1 ∙ sym e.1)
same_given kept (i ∷ is) a b e h = same_parts a b (same_bytes (bytes_in kept i.document) a.second b.second e.0 h.0) (same_further kept is a.further b.further e.1 h.1)

-- what is due and what is answered hold of the same files
pub clash : Laws → (tells : Bool) (before now : ShelfView) (r : Plan) (P Q : Program → TextsView → Contents → Type 0) → DueOfFiles tells before now r P → OnBoth (K tells before r) r Q →
    (p : Program) × (names : TextsView) × (given : Contents) × P p names given × Q p names given
clash laws tells before now r P Q due end' =
    let es = same_bytes (bytes_in (K tells before r) r.source) due.source end'.source due.source_told end'.source_held in
    let eb = same_given (K tells before r) (inputs_of r) due.given end'.given due.given_told end'.given_held in
    let S : List ℕ → Type 0 = λ s. OnProgram (dialect_of r.job) s (λ p names. Q p names end'.given) in
    let B : Contents → Type 0 = λ b. OnProgram (dialect_of r.job) due.source (λ p names. Q p names b) in
    let both = together laws (dialect_of r.job) due.source (λ p names. P p names due.given) (λ p names. Q p names due.given) due.holds (subst B eb (subst S es end'.holds)) in
    (both.0, both.1, due.given, both.2, both.3)

-- Inputs that are told, and inputs as far as they were read

same_second : (kept : Files) (p : Program) (names : TextsView) (is : List PlanInput) (a b : Contents) → AreTold kept is a → AreReached kept p names is b → b.second ≡ a.second
same_second kept p names [] a b e h = h.0 ∙ sym e.0
same_second kept p names (i ∷ is) a b e h = same_bytes (bytes_in kept i.document) a.second b.second e.0 h.0

same_behind : (kept : Files) (p : Program) (names : TextsView) (is : List PlanInput) (a b : Contents) → AreTold kept is a → AreReached kept p names is b → ((v : Datum) × IsInput p.tree names v b.second) → b.further ≡ a.further
same_behind kept p names [] a b e h taken = h.1 ∙ sym e.1
same_behind kept p names (i ∷ is) a b e h taken = same_further kept is a.further b.further e.1 (h.1 taken)

-- what is accepted of all of them, is accepted of those that were read
module _ (options : Options) (p : Program) (names : TextsView) (a b : Contents) (second : b.second ≡ a.second) (behind : ((v : Datum) × IsInput p.tree names v b.second) → b.further ≡ a.further) where
  packed_again : ((v : Datum) × IsInput p.tree names v a.second) → (v : Datum) × IsInput p.tree names v b.second
  packed_again h = let P : List ℕ → Type 0 = λ bytes. (v : Datum) × IsInput p.tree names v bytes in subst P (sym second) h

  accepted_by : (o : Option Format) → AcceptsBy o options p names a → AcceptsBy o options p names b
  accepted_by None h = h
  accepted_by (Some Packed) h = packed_again h
  accepted_by (Some Packable) h = let P : List ℕ → Type 0 = λ bytes. (packed : List ℕ) × IsPackedBy options.repacks options.first_version p.tree names bytes packed in subst P (sym second) h
  accepted_by (Some Shown) h = let P : List ℕ → Type 0 = λ bytes. (v : Datum) × IsShownValue p.tree names (layouts_asked options p.tree) v bytes in subst P (sym second) h
  accepted_by (Some Journaled) h =
      let same : b ≡ a = same_parts a b second (behind (packed_again (h.value, h.is_input))) in
      let P : Contents → Type 0 = AcceptsBy (Some Journaled) options p names in
      subst P (sym same) h

  accepted_again : (job : Job) → Accepts job options p names a → Accepts job options p names b
  accepted_again job h = accepted_by (format_of job) h

-- what is due is accepted, and what was read is not
pub fit_or_unfit : Laws → (tells : Bool) (before now : ShelfView) (r : Plan) (P : Program → TextsView → Contents → Type 0) →
    ((p : Program) (names : TextsView) (given : Contents) → P p names given → Accepts r.job r.options p names given) → DueOfFiles tells before now r P →
    OnReached (K tells before r) r (λ p names given. Accepts r.job r.options p names given → ⊥) → ⊥
fit_or_unfit laws tells before now r P accepts due end' =
    let kept = K tells before r in
    let Q : Program → TextsView → Type 0 = λ p names. AreReached kept p names (inputs_of r) end'.given × (Accepts r.job r.options p names end'.given → ⊥) in
    let S : List ℕ → Type 0 = λ s. OnProgram (dialect_of r.job) s Q in
    let es = same_bytes (bytes_in kept r.source) due.source end'.source due.source_told end'.source_held in
    let both = together laws (dialect_of r.job) due.source (λ p names. P p names due.given) Q due.holds (subst S es end'.holds) in
    let p = both.0 in
    let reached = both.3.0 in
    let second = same_second kept p both.1 (inputs_of r) due.given end'.given due.given_told reached in
    let behind = same_behind kept p both.1 (inputs_of r) due.given end'.given due.given_told reached in
    both.3.1 (accepted_again r.options p both.1 due.given end'.given second behind r.job (accepts p both.1 due.given both.2))

pub no_program : (tells : Bool) (before now : ShelfView) (r : Plan) (P : Program → TextsView → Contents → Type 0) → DueOfFiles tells before now r P → OnSource (K tells before r) r.source (IsNoProgramIn (dialect_of r.job)) → ⊥
no_program tells before now r P due end' =
    let es = same_bytes (bytes_in (K tells before r) r.source) due.source end'.source due.source_told end'.source_held in
    subst (IsNoProgramIn (dialect_of r.job)) es end'.holds due.holds.texts due.holds.program due.holds.is_program

pub a_program : (tells : Bool) (before now : ShelfView) (r : Plan) (Q : Program → TextsView → Contents → Type 0) → DueOfSource tells before now r (IsNoProgramIn (dialect_of r.job)) → OnBoth (K tells before r) r Q → ⊥
a_program tells before now r Q due end' =
    let es = same_bytes (bytes_in (K tells before r) r.source) due.source end'.source due.source_told end'.source_held in
    subst (IsNoProgramIn (dialect_of r.job)) (sym es) due.holds end'.holds.texts end'.holds.program end'.holds.is_program

pub reached_program : (tells : Bool) (before now : ShelfView) (r : Plan) (Q : Program → TextsView → Contents → Type 0) → DueOfSource tells before now r (IsNoProgramIn (dialect_of r.job)) → OnReached (K tells before r) r Q → ⊥
reached_program tells before now r Q due end' =
    let es = same_bytes (bytes_in (K tells before r) r.source) due.source end'.source due.source_told end'.source_held in
    subst (IsNoProgramIn (dialect_of r.job)) (sym es) due.holds end'.holds.texts end'.holds.program end'.holds.is_program

pub a_source : (tells : Bool) (before now : ShelfView) (r : Plan) → DueOfSource tells before now r (IsNoProgramIn (dialect_of r.job)) → OnSource (K tells before r) r.source (IsSourceIn (dialect_of r.job)) → ⊥
a_source tells before now r due end' =
    let es = same_bytes (bytes_in (K tells before r) r.source) due.source end'.source due.source_told end'.source_held in
    subst (IsNoProgramIn (dialect_of r.job)) (sym es) due.holds end'.holds.0 end'.holds.1 end'.holds.2

first_unread : (before now : ShelfView) (is : List PlanInput) (name : List ℕ) → AreUnread before now (first_of is) name → AreUnread before now is name
first_unread before now [] name h = h
first_unread before now (i ∷ is) name (inl h) = inl h
first_unread before now (i ∷ is) name (inr h) = absurd h

further_unread : (before now : ShelfView) (is : List PlanInput) (name : List ℕ) → AreUnread before now (further_of is) name → AreUnread before now is name
further_unread before now [] name h = h
further_unread before now (i ∷ is) name h = inr h

pub read_both : (tells : Bool) (before now : ShelfView) (r : Plan) (P : Program → TextsView → Contents → Type 0) (name : List ℕ) → DueOfFiles tells before now r P → FailsToRead (K tells before r) before now r name → ⊥
read_both tells before now r P name due (inl h) = due.source_read name h
read_both tells before now r P name due (inr (inl h)) = due.given_read name (first_unread before now (inputs_of r) name h.0)
read_both tells before now r P name due (inr (inr h)) = due.given_read name (further_unread before now (inputs_of r) name h.0)

pub read_one : (tells : Bool) (before now : ShelfView) (r : Plan) (name : List ℕ) → DueOfSource tells before now r (IsNoProgramIn (dialect_of r.job)) → FailsToRead (K tells before r) before now r name → ⊥
read_one tells before now r name due (inl h) = due.source_read name h
read_one tells before now r name due (inr (inl h)) = a_source tells before now r due h.1
read_one tells before now r name due (inr (inr h)) =
    a_source tells before now r due (record { source = h.1.source; source_held = h.1.source_held; holds = (h.1.holds.texts, h.1.holds.program, h.1.holds.is_program) })

-- the first writes were made
stuck_named : (tells : Bool) (kept : Files) (writes : List Write) (before now : ShelfView) (name : List ℕ) → IsStuckIn tells kept writes before now name → IsNamedIn writes name × Rose (before.writes name) (now.writes name)
stuck_named tells kept [] before now name h = absurd h
stuck_named tells kept (w ∷ ws) before now name (inl h) = (inl h.0, h.1.rose)
stuck_named tells kept (w ∷ ws) before now name (inr h) = let k = stuck_named tells (with_write tells kept w) ws before now name h in (inr k.0, k.1)

-- one file of two: its bytes, its name, and its count, which rose
stuck_one : (tells : Bool) (kept : Files) (file target : Option (List ℕ)) (before now : ShelfView) (name : List ℕ) → IsStuckIn tells kept (writes_of file target) before now name →
    (bytes : List ℕ) × (file ≡ Some bytes) × (target ≡ Some name) × Rose (before.writes name) (now.writes name)
stuck_one tells kept None target before now name h = absurd h
stuck_one tells kept (Some bytes) None before now name h = absurd h
stuck_one tells kept (Some bytes) (Some other) before now name (inl h) = (bytes, refl, ap Some h.0, h.1.rose)
stuck_one tells kept (Some bytes) (Some other) before now name (inr h) = absurd h

abbrev pub StuckOfTwo : (file target packed pack : Option (List ℕ)) → ShelfView → ShelfView → List ℕ → Type 0
StuckOfTwo file target packed pack before now name =
    ((bytes : List ℕ) × (file ≡ Some bytes) × (target ≡ Some name) × Rose (before.writes name) (now.writes name))
    ⊎ ((bytes : List ℕ) × (packed ≡ Some bytes) × (pack ≡ Some name) × Rose (before.writes name) (now.writes name))

stuck_two : (tells : Bool) (kept : Files) (file target packed pack : Option (List ℕ)) (before now : ShelfView) (name : List ℕ) → IsStuckIn tells kept (writes_of file target ++ writes_of packed pack) before now name →
    StuckOfTwo file target packed pack before now name
stuck_two tells kept None target packed pack before now name h = inr (stuck_one tells kept packed pack before now name h)
stuck_two tells kept (Some bytes) None packed pack before now name h = inr (stuck_one tells kept packed pack before now name h)
stuck_two tells kept (Some bytes) (Some other) packed pack before now name (inl h) = inl (bytes, refl, ap Some h.0, h.1.rose)
stuck_two tells kept (Some bytes) (Some other) packed pack before now name (inr h) = inr (stuck_one tells (with_write tells kept (record { name = other; bytes = bytes })) packed pack before now name h)

pub of_two : (tells : Bool) (before now : ShelfView) (r : Plan) (p : Program) (names : TextsView) (given : Contents) (name : List ℕ) (u : IsUnwritten tells before now r p names given name) → StuckOfTwo u.file r.target u.packed r.pack before now name
of_two tells before now r p names given name u = stuck_two tells (K tells before r) u.file r.target u.packed r.pack before now name u.stuck

-- so it is a file of the job that is not written
pub of_job : (tells : Bool) (before now : ShelfView) (r : Plan) (name : List ℕ) → FirstWritten before now r → FailsToWrite tells before now r name → OnBoth (K tells before r) r (λ p names given. IsUnwritten tells before now r p names given name)
of_job tells before now r name wrote (inl h) = let k = stuck_named tells before.kept r.first before now name h in absurd (wrote name k.0 k.1)
of_job tells before now r name wrote (inr h) = h

-- no document of an input is unread
pub packed_read : (before now : ShelfView) (d : Document) → ((name : List ℕ) → IsUnread before now d name → ⊥) → (name : List ℕ) → IsUnread before now d name ⊎ ⊥ → ⊥
packed_read before now d quiet name (inl h) = quiet name h
packed_read before now d quiet name (inr h) = h
