use Rattle.std.proofs.Common.{arith, refl, ◌+◌}
use Rattle.gib_core.proofs.LiteralTerms.{next_fits}
use Rattle.gib_core.proofs.literals.all_literals.Goals as goal

-- src/literals.rt
pub terms-preserved : goal.terms-preserved
terms-preserved c = record {
  within = omega (arith, c.terms-test.true, c.len.ensures);
  fit = next_fits c.args.terms.now c.terms.index (c.terms.index + 1) c.node_at.result.now c.terms.invariant.fit c.node_at.ensures c.node.ensures refl;
}
