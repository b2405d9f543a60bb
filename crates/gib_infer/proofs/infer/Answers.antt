use Rattle.gib_syntax.specs.Parts.{program_of}
use Rattle.gib_infer.proofs.Kept.{kept_calls, kept_main, kept_meaning, kept_numbered, kept_reachable, kept_run}
use Rattle.gib_infer.proofs.infer.Goals as goal

pub returns-clause-calls : goal.returns-clause-calls
returns-clause-calls c = kept_calls (program_of c.args.typed.now) c.types.result.now c.make_core.result c.types.ensures c.rules.ensures c.program-typed.ensures.typed c.infer_leaves_the_meaning.ensures.calls c.make_core.ensures

pub returns-clause-run : goal.returns-clause-run
returns-clause-run c = kept_run (program_of c.args.typed.now) c.types.result.now c.make_core.result c.types.ensures c.rules.ensures c.program-typed.ensures.typed c.infer_leaves_the_meaning.ensures.run c.make_core.ensures

pub returns-clause-reachable : goal.returns-clause-reachable
returns-clause-reachable c = kept_reachable (program_of c.args.typed.now) c.types.result.now c.make_core.result c.types.ensures c.rules.ensures c.program-typed.ensures.typed c.infer_gives_reachable.ensures c.make_core.ensures

pub returns-clause-numbered : goal.returns-clause-numbered
returns-clause-numbered c = kept_numbered (program_of c.args.typed.now) c.make_core.result c.infer_numbers_variables.ensures.numbered c.make_core.ensures

pub returns-clause-meaning : goal.returns-clause-meaning
returns-clause-meaning c = kept_meaning (program_of c.args.typed.now) c.types.result.now c.make_core.result c.types.ensures c.rules.ensures c.program-typed.ensures.typed c.infer_keeps_the_meaning.ensures.calls c.make_core.ensures

pub returns-clause-main : goal.returns-clause-main
returns-clause-main c = kept_main (program_of c.args.typed.now) c.types.result.now c.make_core.result c.types.ensures c.rules.ensures c.program-typed.ensures.typed c.infer_keeps_the_meaning.ensures.run c.make_core.ensures
