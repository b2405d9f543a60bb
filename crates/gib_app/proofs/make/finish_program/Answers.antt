use Rattle.std.proofs.Common.{subst}
use Rattle.std.specs.Prelude.{option_map, option_to_list}
use Rattle.gib_syntax.specs.Parts.{program_of}
use Rattle.gib_app.specs.Running.{sourced}
use Rattle.gib_app.specs.declared.made.Made.{Made}
use Rattle.gib_app.specs.Calls.{input_calls}
use Rattle.gib_app.specs.Formats.{inputs_of}
use Rattle.gib_app.specs.Jobs.{DoesAll}
use Rattle.gib_words.specs.Kept.{plan_of}
use Rattle.gib_app.specs.Kept.{EndsByBoth, file_of, packed_of}
use Rattle.gib_words.specs.Plan.{Contents}
use Rattle.gib_app.specs.Remains.{ComesOfRun}
use Rattle.gib_app.specs.Rows.{row}
use Rattle.gib_app.specs.Stops.{FailsTo}
use Rattle.gib_app.proofs.AfterReads.{stopped_behind}
use Rattle.gib_app.proofs.Locating.{not_local}
use Rattle.gib_app.proofs.Making.{inputs_refused}
use Rattle.gib_app.proofs.make.finish_program.Goals as goal

-- src/make.rt

pub returns-in-Ok-do_job-clause-made : goal.returns-in-Ok-do_job-clause-made
returns-in-Ok-do_job-clause-made g c =
    let r = plan_of c.args.plan in
    let made : Made = c.in-Ok-do_job.made in
    let p = sourced (program_of c.args.compiled.typed) in
    let names = c.args.compiled.names in
    let P : Contents → Type 0 = λ given.
    EndsByBoth (file_of made) (packed_of made) made.end (DoesAll r.job r.options p names given) × ComesOfRun (row r.job) p names r.options given.second (file_of made) made.end in
    let all = subst P c.given.ensures.contents (c.in-Ok-do_job.ensures.made, c.in-Ok-do_job.ensures.region) in
    record {
      given = record { second = c.in-Ok.inputs.second.items; further = option_to_list (option_map (λ bytes. bytes.items) c.in-Ok.inputs.journal) };
      given_held = c.in-Ok.ensures.bytes;
      done = all.0;
      comes = all.1;
    }

pub returns-clause-stop : goal.returns-clause-stop
returns-clause-stop g c =
    let before = g.S.Shelf.view c.args.shelf.now in
    let r = plan_of c.args.plan in
    let p = sourced (program_of c.args.compiled.typed) in
    let P : Contents → Type 0 = λ given. FailsTo r.job r.options p c.args.compiled.names given c.in-Err-do_job.stop in
    inputs_refused before (g.S.Shelf.view c.read_inputs.new.shelf) r p c.args.compiled.names _ c.in-Ok.ensures.bytes
    c.in-Err-do_job.stop (subst P c.given.ensures.contents c.in-Err-do_job.ensures.stop)

pub returns-clause-stopped : goal.returns-clause-stopped
returns-clause-stopped g c =
    stopped_behind (g.S.Shelf.view c.args.shelf.now) (g.S.Shelf.view c.read_inputs.new.shelf) (input_calls (inputs_of (plan_of c.args.plan))) c.in-Err-do_job.stop c.in-Ok.ensures.read

-- It is not the job that takes a source with its places written out.
pub do_job-requires-clause-here : goal.do_job-requires-clause-here
do_job-requires-clause-here g c κs within = not_local c.args.plan.job c.requires.dialect
