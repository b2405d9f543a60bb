use Rattle.std.proofs.Common.{◌-◌, take, slice_index_or, refl, sym, ◌∙◌, arith}
use Rattle.gib_mono.proofs.InScene.{last_at, is_last, not_last}
use Rattle.gib_mono.proofs.scene.newest.Goals as goal

pub returns-then-variable-name-clause-found : goal.returns-then-variable-name-clause-found
returns-then-variable-name-clause-found c = λ fs.
    sym (c.from_last.invariant.1 fs) ∙ is_last fs (take c.from_last.at c.args.scope.now) (take (c.from_last.at - 1) c.args.scope.now) (slice_index_or c.args.scope.now (c.from_last.at - 1) (record { name = 0; ty = record { 0 = 0 } })) c.args.name.0
    (last_at (record { name = 0; ty = record { 0 = 0 } }) c.args.scope.now c.from_last.at (c.from_last.at - 1) refl c.from_last-test.true c.from_last.invariant.0) c.if-variable-name.true

pub from_last-preserved : goal.from_last-preserved
from_last-preserved c = (
  (let h = c.from_last.invariant.0 in omega (arith, h)),
  λ fs. not_last fs (take c.from_last.at c.args.scope.now) (take (c.from_last.at - 1) c.args.scope.now) (slice_index_or c.args.scope.now (c.from_last.at - 1) (record { name = 0; ty = record { 0 = 0 } })) c.args.name.0
      (last_at (record { name = 0; ty = record { 0 = 0 } }) c.args.scope.now c.from_last.at (c.from_last.at - 1) refl c.from_last-test.true c.from_last.invariant.0) c.if-variable-name.false ∙ c.from_last.invariant.1 fs,
)
