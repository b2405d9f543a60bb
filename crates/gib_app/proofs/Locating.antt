-- From a core that a source writes out to what is made of a plan's files.
use Rattle.gib_base.specs.Texts.{TextsView}
use Rattle.gib_base.specs.declared.token.Dialect.TheVariants as dialect
use Rattle.std.proofs.Common.{◌≡◌, ◌∙◌, refl, sym, ap, subst, ℕ, ◌≤◌, List, [], Option, None, Result, Ok, Err, IfOk, IfErr}
use Rattle.std.specs.Option.{option_map_or}
use Rattle.gib_edge.specs.Views.{ShelfView}
use Rattle.gib_app.specs.declared.made.Made.{Made}
use Rattle.gib_words.specs.declared.plan.Job.{Job}
use Rattle.gib_words.specs.declared.plan.Job.TheVariants.{Local}
use Rattle.gib_words.specs.declared.plan.Options.{Options}
use Rattle.gib_app.specs.declared.stop.Stop.{Stop}
use Rattle.gib_app.specs.Calls.{input_calls}
use Rattle.gib_app.specs.Causes.{AreFurther, AreGiven, first_of, further_of}
use Rattle.gib_app.specs.Formats.{dialect_of, inputs_of, limits_of, most_of, with_limits, dialect_by, format_by, limit_of}
use Rattle.gib_app.specs.Formats.{Input as PlanInput}
use Rattle.gib_app.specs.Rows.{Plainly, ForFiles, ForSummary, ForJournal, ForPlaces, Row, Says, Evaluates, PacksValue, ShowsFile, FollowsJournal, row}
use Rattle.gib_app.specs.Jobs.{DoesAll, DoesBy, End, PacksResult, RunsLocated, packs_of}
use Rattle.gib_app.specs.Kept.{EndsBy, EndsByBoth, file_of, packed_of}
use Rattle.gib_words.specs.Plan.{Contents, Files, Plan}
use Rattle.gib_app.specs.Readings.{HasRead}
use Rattle.gib_app.specs.Remains.{ComesOfCore, ComesOfRun}
use Rattle.gib_app.specs.Running.{Program}
use Rattle.gib_app.specs.Stops.{FailsTo, IsRunStop, IsRefusal}
use Rattle.gib_app.proofs.AfterReads.{inputs_read, none_read}
use Rattle.gib_app.proofs.Doing.{AcceptsBy, RefusesBy}
use Rattle.gib_app.proofs.Making.{inputs_given, only_first}
use Rattle.gib_app.proofs.PackedRuns.{made_alone}

-- The job that takes a source with its places written out.

two_dialects : dialect.Source ≡ dialect.Located → ⊥
two_dialects e = cc

pub not_local : (job : Job) → dialect_of job ≡ dialect.Source → job ≡ Local → ⊥
not_local job e is = two_dialects (sym e ∙ ap dialect_of is)

located_row : (r : Row) → dialect_by r ≡ dialect.Located → r ≡ Evaluates ForPlaces
located_row (Says said) e = absurd (two_dialects e)
located_row (Evaluates Plainly) e = absurd (two_dialects e)
located_row (Evaluates ForFiles) e = absurd (two_dialects e)
located_row (Evaluates ForSummary) e = absurd (two_dialects e)
located_row (Evaluates ForJournal) e = absurd (two_dialects e)
located_row (Evaluates ForPlaces) e = refl
located_row PacksValue e = absurd (two_dialects e)
located_row ShowsFile e = absurd (two_dialects e)
located_row FollowsJournal e = absurd (two_dialects e)

pub is_local : (job : Job) → dialect_of job ≡ dialect.Located → row job ≡ Evaluates ForPlaces
is_local job e = located_row (row job) e

pub local_most : (job : Job) (n : ℕ) → row job ≡ Evaluates ForPlaces → n ≤ most_of job → n ≤ 16777216
local_most job n is h = let P : Row → Type 0 = λ r. n ≤ option_map_or limit_of (format_by r) 0 in subst P is h

-- It has one input.
no_further : (r : Plan) → row r.job ≡ Evaluates ForPlaces → further_of (inputs_of r) ≡ []
no_further r e = let P : Row → Type 0 = λ x. further_of (with_limits (option_map_or limits_of (format_by x) []) r.inputs) ≡ [] in subst P (sym e) (only_first 16777216 r.inputs)

module _ (r : Plan) (is : row r.job ≡ Evaluates ForPlaces) where
  pub one_given : (mid : Files) (first : List ℕ) → AreGiven mid (first_of (inputs_of r)) (record { second = first; further = [] })
      → AreGiven mid (inputs_of r) (record { second = first; further = [] })
  one_given mid first h =
      let P : List PlanInput → Type 0 = λ i. AreFurther mid i [] in
      inputs_given mid mid (inputs_of r) first [] (λ name. refl) h (subst P (sym (no_further r is)) refl)

  pub one_input_read : (before now : ShelfView) → HasRead before now (input_calls (first_of (inputs_of r))) → HasRead before now (input_calls (inputs_of r))
  one_input_read before now h =
      let P : List PlanInput → Type 0 = λ i. HasRead now now (input_calls i) in
      inputs_read before now now (inputs_of r) h (subst P (sym (no_further r is)) (none_read now))

-- What the job makes of it.

module _ (job : Job) (is : row job ≡ Evaluates ForPlaces) (o : Options) (p : Program) (names : TextsView) (given : Contents) where
  does_located : (f : Option (List ℕ)) (x : End) → RunsLocated p names o given.second f x → DoesAll job o p names given f None x
  does_located f x h = let P : Row → Type 0 = λ r. DoesBy r o p names given f x × PacksResult (packs_of r o) p.tree names o.depth given.second None x in subst P (sym is) (h, refl)

  pub located_made : (r : Result Made Stop) → IfOk r (λ made. made.packed ≡ None) → IfOk r (λ made. EndsBy (file_of made) made.end (RunsLocated p names o given.second))
      → IfOk r (λ made. EndsByBoth (file_of made) (packed_of made) made.end (DoesAll job o p names given))
  located_made r alone h = made_alone r (RunsLocated p names o given.second) (DoesAll job o p names given) alone does_located h

  pub located_comes : (r : Result Made Stop) → IfOk r (λ made. ComesOfCore p names o given.second made.end) → IfOk r (λ made. ComesOfRun (row job) p names o given.second (file_of made) made.end)
  located_comes r h = let P : Row → Type 0 = λ x. IfOk r (λ made. ComesOfRun x p names o given.second (file_of made) made.end) in subst P (sym is) h

  fails_located : (stop : Stop) → IsRunStop p.tree names given.second stop → FailsTo job o p names given stop
  fails_located stop h = let P : Row → Type 0 = λ r. IsRefusal (λ fault. RefusesBy (format_by r) o p names given fault × (AcceptsBy (format_by r) o p names given → ⊥)) stop in subst P (sym is) h

  pub located_stop : (r : Result Made Stop) → IfErr r (IsRunStop p.tree names given.second) → IfErr r (FailsTo job o p names given)
  located_stop (Ok made) h = tt {0}
  located_stop (Err stop) h = fails_located stop h
