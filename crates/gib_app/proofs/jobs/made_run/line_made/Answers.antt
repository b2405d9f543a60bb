use Rattle.gib_arena.specs.Sole.{sole_memory}
use Rattle.gib_app.specs.declared.made.Valued.{Valued}
use Rattle.gib_app.proofs.Remaining.{stands_left}
use Rattle.gib_app.proofs.Summed.{summed}
use Rattle.gib_app.proofs.jobs.made_run.line_made.Goals as goal

pub returns-in-Ok-clause-made : goal.returns-in-Ok-clause-made
returns-in-Ok-clause-made c = λ p names input s.
    let ran = c.args.ran in
    summed p c.args.options input c.in-Ok.line.items ran.lowered.code.laid (sole_memory ran.memory).cells ran.root s (c.in-Ok.ensures p names c.args.options.depth input s)

pub returns-in-Ok-clause-region : goal.returns-in-Ok-clause-region
returns-in-Ok-clause-region c = λ p names input left.
    let ran = c.args.ran in
    let o = c.args.options in
    let value : Valued = record { ran = ran; names = names } in
    record {
      memory = sole_memory ran.memory;
      place = ran.root;
      remains = left.remains;
      is_line = c.in-Ok.ensures p names o.depth input (stands_left p names o input value left);
    }
