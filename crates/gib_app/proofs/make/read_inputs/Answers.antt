use Rattle.std.proofs.Common.{List, ℕ, subst}
use Rattle.std.specs.Prelude.{option_map, option_to_list}
use Rattle.gib_syntax.specs.Parts.{program_of}
use Rattle.gib_app.specs.Running.{sourced}
use Rattle.gib_app.specs.Formats.{inputs_of}
use Rattle.gib_words.specs.Kept.{plan_of}
use Rattle.gib_app.specs.Stops.{IsFurtherStop}
use Rattle.gib_app.proofs.AfterReads.{first_stopped, further_stopped, inputs_read}
use Rattle.gib_app.proofs.Making.{first_stops, further_stops, inputs_given}
use Rattle.gib_app.proofs.make.read_inputs.Goals as goal

-- src/make.rt
pub returns-in-Err-clause-stop : goal.returns-in-Err-clause-stop
returns-in-Err-clause-stop g c =
    first_stops (g.S.Shelf.view c.args.shelf.now) (g.S.Shelf.view c.read_second.new.shelf) (plan_of c.args.plan) (sourced (program_of c.args.compiled.now.typed)) c.args.compiled.now.names c.in-Err.stop c.in-Err.ensures.stop

pub returns-in-Err-clause-stopped : goal.returns-in-Err-clause-stopped
returns-in-Err-clause-stopped g c = first_stopped (g.S.Shelf.view c.args.shelf.now) (g.S.Shelf.view c.read_second.new.shelf) (g.S.Shelf.view c.read_second.new.shelf) (inputs_of (plan_of c.args.plan)) c.in-Err.stop c.in-Err.ensures.stopped

pub returns-in-Ok-read_third-clause-bytes : goal.returns-in-Ok-read_third-clause-bytes
returns-in-Ok-read_third-clause-bytes g c =
    let journal = c.in-Ok-read_third.journal in
    inputs_given (g.S.Shelf.view c.args.shelf.now).kept (g.S.Shelf.view c.read_second.new.shelf).kept (inputs_of (plan_of c.args.plan)) c.in-Ok.second.items (option_to_list (option_map (λ bytes. bytes.items) journal))
    c.in-Ok.ensures.read.same c.in-Ok.ensures.bytes c.in-Ok-read_third.ensures.bytes

pub returns-in-Ok-read_third-clause-read : goal.returns-in-Ok-read_third-clause-read
returns-in-Ok-read_third-clause-read g c =
    inputs_read (g.S.Shelf.view c.args.shelf.now) (g.S.Shelf.view c.read_second.new.shelf) (g.S.Shelf.view c.read_third.new.shelf) (inputs_of (plan_of c.args.plan)) c.in-Ok.ensures.read c.in-Ok-read_third.ensures.read

pub returns-clause-stop : goal.returns-clause-stop
returns-clause-stop g c =
    let mid = g.S.Shelf.view c.read_second.new.shelf in
    let now' = g.S.Shelf.view c.read_third.new.shelf in
    let p = sourced (program_of c.args.compiled.now.typed) in
    let names = c.args.compiled.now.names in
    let F : List ℕ → Type 0 = λ first. IsFurtherStop mid now' (plan_of c.args.plan) p names first c.in-Err-read_third.stop in
    further_stops (g.S.Shelf.view c.args.shelf.now) mid now' (plan_of c.args.plan) p names c.in-Ok.second.items c.in-Ok.ensures.read.same c.in-Ok.ensures.read.reads c.in-Ok.ensures.bytes
    c.in-Err-read_third.stop (subst F c.deref.ensures.value c.in-Err-read_third.ensures.stop)

pub returns-clause-stopped : goal.returns-clause-stopped
returns-clause-stopped g c =
    further_stopped (g.S.Shelf.view c.args.shelf.now) (g.S.Shelf.view c.read_second.new.shelf) (g.S.Shelf.view c.read_third.new.shelf) (inputs_of (plan_of c.args.plan)) c.in-Err-read_third.stop c.in-Ok.ensures.read c.in-Err-read_third.ensures.stopped
