use Rattle.gib_local.proofs.Binding.{bind_is}
use Rattle.gib_local.proofs.builder.Builder.bind_new.Goals as goal

pub returns-clause-new : goal.returns-clause-new
returns-clause-new c = bind_is c.args.self.now c.new_variable.new.self c.bind.new.self c.args.x c.in_ok-variable.variable.0 c.in_ok-variable.ensures.variable c.in_ok-variable.ensures.new c.in_ok-bind.ensures
