use Rattle.std.proofs.Common.{length}
use Rattle.gib_mono.proofs.Finding.{RunsAsked}
use Rattle.gib_mono.proofs.find.ask_parts.Given as goal

abbrev pub invariant-runs : goal.invariant-runs
invariant-runs l = RunsAsked l.source l.fn.search l.search l.runs l.rest

abbrev pub decreases-runs : goal.decreases-runs
decreases-runs l = length l.rest
