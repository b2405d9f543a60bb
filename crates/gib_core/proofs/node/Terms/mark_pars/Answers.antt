use Rattle.std.proofs.Common.{◌+◌, refl, arith}
use Rattle.gib_core.proofs.Marks.{marked_next}
use Rattle.gib_core.proofs.node.Terms.mark_pars.Goals as goal

-- src/marking.rt
pub terms-preserved : goal.terms-preserved
terms-preserved c =
    marked_next c.args.self.now c.terms.self c.set_fork.new.self c.terms.place (c.terms.place + 1) c.may_fork-fork.result c.terms.invariant (omega (arith, c.terms-test.true, c.len.ensures)) c.set_fork.ensures
    c.may_fork-fork.ensures refl
