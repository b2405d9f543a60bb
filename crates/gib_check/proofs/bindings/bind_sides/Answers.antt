use Rattle.std.proofs.Common.{◌++◌}
use Rattle.gib_check.specs.Judging.{in_scope}
use Rattle.gib_check.proofs.Answering.{both_added}
use Rattle.gib_check.proofs.bindings.bind_sides.Goals as goal

pub returns-clause-kept : goal.returns-clause-kept
returns-clause-kept c = (
  c.in_ok-bind_results-2.ensures.kept.0 ++ c.in_ok-bind_results.ensures.kept.0,
  both_added (in_scope c.args.state.now) (in_scope c.bind_results.new.self) (in_scope c.bind_results-2.new.self) c.in_ok-bind_results.ensures.kept.0 c.in_ok-bind_results-2.ensures.kept.0 c.in_ok-bind_results.ensures.kept.1 c.in_ok-bind_results-2.ensures.kept.1,
)
