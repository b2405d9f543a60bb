use Rattle.gib_local.proofs.Joining.{operation_step}
use Rattle.gib_local.proofs.steps.operation.Goals as goal

pub returns : goal.returns
returns c = λ p w at. operation_step p c.args.builder.now c.bind_new.new.self at c.args.name w c.args.left c.args.operator c.args.right c.in_ok-left.left c.in_ok-right.right c.in_ok-variable.variable
    (c.in_ok-left.ensures at) (c.in_ok-right.ensures at) c.in_ok-variable.ensures.variable c.in_ok-variable.ensures.new
