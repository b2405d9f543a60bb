use Rattle.gib_core.specs.Parts.{core_of}
use Rattle.gib_access.proofs.Programs.{kept_built, kept_erased, kept_calls, kept_numbered, kept_run}
use Rattle.gib_access.proofs.reach.Goals as goal

pub returns-clause-erased : goal.returns-clause-erased
returns-clause-erased c = kept_erased c.args.mode (core_of c.args.core) c.reached.result c.reaching_keeps_the_meaning.ensures.erased c.reached.ensures

pub returns-clause-calls : goal.returns-clause-calls
returns-clause-calls c = kept_calls c.args.mode (core_of c.args.core) c.reached.result c.reaching_keeps_the_meaning.ensures.calls c.reached.ensures

pub returns-clause-run : goal.returns-clause-run
returns-clause-run c = kept_run c.args.mode (core_of c.args.core) c.reached.result c.reaching_keeps_the_meaning.ensures.run c.reached.ensures

pub returns-clause-built : goal.returns-clause-built
returns-clause-built c = λ is. kept_built c.args.mode (core_of c.args.core) c.reached.result c.reaching_makes_built.ensures c.reached.ensures is

pub returns-clause-numbered : goal.returns-clause-numbered
returns-clause-numbered c = λ is. kept_numbered c.args.mode (core_of c.args.core) c.reached.result c.reaching_keeps_numbers.ensures c.reached.ensures is
