-- From what is made to what is written.
use Rattle.gib_base.specs.Texts.{TextsView}
use Rattle.std.proofs.Common.{◌≡◌, inr, ℕ, List, Option, Some, MatchOption, subst, sym, Bool}
use Rattle.gib_edge.specs.Views.{ShelfView}
use Rattle.gib_app.specs.declared.stop.Stop.{Stop}
use Rattle.gib_app.specs.declared.stop.Stop.TheVariants.{Usage, Source, Unread, Input, Memory, Unwritten, Unput}
use Rattle.gib_app.specs.declared.stop.Stop.TheVariants.{NoValue as Stopped}
use Rattle.gib_app.specs.declared.made.End.{End as KeptEnd}
use Rattle.gib_app.specs.Kept.{EndsByBoth}
use Rattle.gib_words.specs.Plan.{Plan, Files, Contents}
use Rattle.gib_app.specs.Running.{Program}
use Rattle.gib_app.specs.Writes.{at_reading, job_writes}
use Rattle.gib_app.specs.Jobs.{DoesAll}
use Rattle.gib_app.specs.Causes.{OnBoth, IsUnwritten}
use Rattle.gib_app.specs.Stops.{IsStop}
use Rattle.gib_app.specs.Performing.{IsDone}
use Rattle.gib_app.proofs.FirstWriting.{Cause, stuck_from}
use Rattle.gib_app.proofs.Fitting.{some_end}

pub map_both : (kept : Files) (r : Plan) (P Q : Program → TextsView → Contents → Type 0) → ((p : Program) (names : TextsView) (given : Contents) → P p names given → Q p names given) → OnBoth kept r P → OnBoth kept r Q
map_both kept r P Q go h = record {
  source = h.source;
  given = h.given;
  source_held = h.source_held;
  given_held = h.given_held;
  holds = record { texts = h.holds.texts; program = h.holds.program; is_program = h.holds.is_program; holds = go h.holds.program h.holds.texts h.given h.holds.holds };
}

-- Writing, after what was made

pub write_stop : (tells : Bool) (before mid now : ShelfView) (r : Plan) (file packed : Option (List ℕ)) (e : KeptEnd) → ((name : List ℕ) → mid.kept name ≡ at_reading tells before.kept r name) →
    ((name : List ℕ) → mid.writes name ≡ before.writes name) → IsDone (at_reading tells before.kept r) r file packed e → (stop : Stop) → Cause tells mid.kept (job_writes r file packed) mid now stop → IsStop tells before now r stop
write_stop tells before mid now r file packed e kept same on Usage h = h
write_stop tells before mid now r file packed e kept same on (Source fault) h = absurd h
write_stop tells before mid now r file packed e kept same on (Unread name) h = absurd h
write_stop tells before mid now r file packed e kept same on (Input fault) h = absurd h
write_stop tells before mid now r file packed e kept same on (Stopped reason) h = h
write_stop tells before mid now r file packed e kept same on Memory h = h
write_stop tells before mid now r file packed e kept same on (Unwritten name) h =
    inr
    (map_both (at_reading tells before.kept r) r (λ p names given. EndsByBoth file packed e (DoesAll r.job r.options p names given)) (λ p names given. IsUnwritten tells before now r p names given name.now)
    (λ p names given k.
    let x = some_end file packed e (DoesAll r.job r.options p names given) k in
    record { file = file; packed = packed; ending = x.0; does = x.1; stuck = stuck_from tells (at_reading tells before.kept r) mid.kept (job_writes r file packed) before mid now name.now kept same h }) on)
write_stop tells before mid now r file packed e kept same on Unput h = h

-- The call, by what the words ask for

pub asked_of : (o : Option Plan) (r : Plan) (P : Plan → Type 0) → o ≡ Some r → P r → MatchOption o ⊥ P
asked_of o r P e h = let Q : Option Plan → Type 0 = λ x. MatchOption x ⊥ P in subst Q (sym e) h

pub asked_is : (o : Option Plan) (r : Plan) (P : Plan → Type 0) → o ≡ Some r → MatchOption o ⊥ P → P r
asked_is o r P e h = let Q : Option Plan → Type 0 = λ x. MatchOption x ⊥ P in subst Q e h
