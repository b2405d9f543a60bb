use Rattle.gib_syntax.specs.Parts.{program_of}
use Rattle.gib_app.specs.Jobs.{Does, DoesAll}
use Rattle.gib_app.specs.Kept.{contents_of}
use Rattle.gib_app.specs.Running.{sourced}
use Rattle.gib_app.proofs.PackedRuns.{does_alone, made_alone}
use Rattle.gib_app.proofs.Remaining.{comes_beside}
use Rattle.gib_app.proofs.jobs.do_job.Goals as goal

pub returns : goal.returns
returns g c =
    let job = c.args.job in
    let o = c.args.options in
    let p = sourced (program_of c.args.compiled.typed) in
    let names = c.args.compiled.names in
    let given = contents_of c.args.given in
    record {
      made = made_alone c.do_beside.result (Does job o p names given) (DoesAll job o p names given) c.do_beside.ensures.alone (does_alone job o p names given c.do_beside.ensures.beside) c.do_beside.ensures.made;
      region = comes_beside job p names o c.args.given.second.now c.do_beside.result c.in_default.not-Run c.requires.here c.do_beside.ensures.region;
      stop = c.do_beside.ensures.stop;
    }
