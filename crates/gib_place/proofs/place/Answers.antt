use Rattle.gib_core.specs.Parts.{core_of}
use Rattle.gib_place.proofs.Programs.{kept_reachable, kept_numbered, kept_source, kept_calls, kept_run}
use Rattle.gib_place.proofs.place.Goals as goal

pub returns-clause-reachable : goal.returns-clause-reachable
returns-clause-reachable c = λ n is. kept_reachable (core_of c.args.core) c.placed.result c.placing_keeps_reachable.ensures c.placed.ensures n is

pub returns-clause-numbered : goal.returns-clause-numbered
returns-clause-numbered c = λ n. kept_numbered (core_of c.args.core) c.placed.result c.placing_keeps_the_meaning.ensures.numbered c.placed.ensures n

pub returns-clause-source : goal.returns-clause-source
returns-clause-source c = λ n. kept_source (core_of c.args.core) c.placed.result c.placing_keeps_the_source.ensures.numbered c.placed.ensures n

pub returns-clause-calls : goal.returns-clause-calls
returns-clause-calls c = λ n. kept_calls (core_of c.args.core) c.placed.result c.placing_keeps_the_meaning.ensures.calls c.placed.ensures n

pub returns-clause-run : goal.returns-clause-run
returns-clause-run c = λ n. kept_run (core_of c.args.core) c.placed.result c.placing_keeps_the_meaning.ensures.run c.placed.ensures n
