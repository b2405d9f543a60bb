use Rattle.std.proofs.Common.{List, ℕ, ◌≤◌, [], length, Ok, Err, subst, sym}
use Rattle.gib_app.specs.Calls.{input_calls}
use Rattle.gib_app.specs.Formats.{inputs_of}
use Rattle.gib_app.specs.Jobs.{RunsLocated}
use Rattle.gib_words.specs.Kept.{plan_of}
use Rattle.gib_app.specs.Kept.{EndsBy, file_of}
use Rattle.gib_words.specs.Plan.{Contents}
use Rattle.gib_app.specs.Remains.{ComesOfCore}
use Rattle.gib_app.specs.Stops.{IsRunStop}
use Rattle.gib_app.proofs.AfterReads.{first_stopped, stopped_behind}
use Rattle.gib_app.proofs.Locating.{is_local, local_most, located_comes, located_made, located_stop, one_given, one_input_read}
use Rattle.gib_app.proofs.Making.{first_stops, inputs_refused}
use Rattle.gib_app.proofs.make.finish_core.Goals as goal

-- src/make.rt

-- ---- The input is not read

pub returns-in-Err-clause-stop : goal.returns-in-Err-clause-stop
returns-in-Err-clause-stop g c = λ p located runs.
    first_stops (g.S.Shelf.view c.args.shelf.now) (g.S.Shelf.view c.read_second.new.shelf) (plan_of c.args.plan) p c.args.located.names c.in-Err.stop c.in-Err.ensures.stop

pub returns-in-Err-clause-stopped : goal.returns-in-Err-clause-stopped
returns-in-Err-clause-stopped g c =
    let now' = g.S.Shelf.view c.read_second.new.shelf in
    first_stopped (g.S.Shelf.view c.args.shelf.now) now' now' (inputs_of (plan_of c.args.plan)) c.in-Err.stop c.in-Err.ensures.stopped

-- ---- The job is done

pub local-requires-clause-short : goal.local-requires-clause-short
local-requires-clause-short g c κs within =
    let S : List ℕ → Type 0 = λ bytes. length bytes ≤ 16777216 in
    subst S (sym c.deref.ensures.value) (local_most c.args.plan.job (length c.in-Ok.second.items) (is_local c.args.plan.job c.requires.dialect) c.in-Ok.ensures.most)

pub returns-in-Ok-local-clause-made : goal.returns-in-Ok-local-clause-made
returns-in-Ok-local-clause-made g c = λ p located runs.
    let before = g.S.Shelf.view c.args.shelf.now in
    let r = plan_of c.args.plan in
    let names = c.args.located.names in
    let given : Contents = record { second = c.in-Ok.second.items; further = [] } in
    let is = is_local c.args.plan.job c.requires.dialect in
    let made = c.in-Ok-local.made in
    let M : List ℕ → Type 0 = λ bytes. EndsBy (file_of made) made.end (RunsLocated p names c.args.plan.options bytes) in
    let C : List ℕ → Type 0 = λ bytes. ComesOfCore p names c.args.plan.options bytes made.end in
    record {
      given = given;
      given_held = one_given r is before.kept c.in-Ok.second.items c.in-Ok.ensures.bytes;
      done = located_made r.job is r.options p names given (Ok made) c.in-Ok-local.ensures.alone (subst M c.deref.ensures.value (c.in-Ok-local.ensures.made p located runs));
      comes = located_comes r.job is r.options p names given (Ok made) (subst C c.deref.ensures.value (c.in-Ok-local.ensures.region p located runs));
    }

pub returns-in-Ok-local-clause-read : goal.returns-in-Ok-local-clause-read
returns-in-Ok-local-clause-read g c =
    one_input_read (plan_of c.args.plan) (is_local c.args.plan.job c.requires.dialect) (g.S.Shelf.view c.args.shelf.now) (g.S.Shelf.view c.read_second.new.shelf) c.in-Ok.ensures.read

-- ---- It is not done

pub returns-clause-stop : goal.returns-clause-stop
returns-clause-stop g c = λ p located runs.
    let before = g.S.Shelf.view c.args.shelf.now in
    let r = plan_of c.args.plan in
    let names = c.args.located.names in
    let given : Contents = record { second = c.in-Ok.second.items; further = [] } in
    let is = is_local c.args.plan.job c.requires.dialect in
    let M : List ℕ → Type 0 = λ bytes. IsRunStop p.tree names bytes c.in-Err-local.stop in
    let stops = located_stop r.job is r.options p names given (Err c.in-Err-local.stop) (subst M c.deref.ensures.value (c.in-Err-local.ensures.stop p located runs)) in
    inputs_refused before (g.S.Shelf.view c.read_second.new.shelf) r p names given (one_given r is before.kept c.in-Ok.second.items c.in-Ok.ensures.bytes) c.in-Err-local.stop stops

pub returns-clause-stopped : goal.returns-clause-stopped
returns-clause-stopped g c =
    let before = g.S.Shelf.view c.args.shelf.now in
    let now' = g.S.Shelf.view c.read_second.new.shelf in
    let r = plan_of c.args.plan in
    stopped_behind before now' (input_calls (inputs_of r)) c.in-Err-local.stop (one_input_read r (is_local c.args.plan.job c.requires.dialect) before now' c.in-Ok.ensures.read)
