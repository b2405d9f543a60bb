use Rattle.std.proofs.Common.{◌-◌, length, arith, ◌∙◌}
use Rattle.gib_check.proofs.InScope.{none_out, more_out, all_out}
use Rattle.gib_check.proofs.scope.Scope.truncate.Goals as goal

pub entries-init : goal.entries-init
entries-init g c = none_out c.args.self.now c.args.len

pub entries-preserved : goal.entries-preserved
entries-preserved g c = more_out c.args.self.now c.entries.self c.pop.new.self c.args.len c.entries.invariant (omega (arith, c.entries-test.true, c.len.ensures)) c.in_ok-pop.ensures.gone

pub returns-clause-rest : goal.returns-clause-rest
returns-clause-rest g c = all_out c.args.self.now c.entries.self c.args.len c.entries.invariant (omega (arith, c.entries-test.false, c.len.ensures))

pub returns-clause-some : goal.returns-clause-some
returns-clause-some g c = (length c.args.self.now - length c.entries.self, c.entries.invariant.rest)

pub returns-in_err-pop-clause-some : goal.returns-in_err-pop-clause-some
returns-in_err-pop-clause-some g c = (length c.args.self.now - length c.entries.self, c.in_err-pop.ensures.same ∙ c.entries.invariant.rest)
