use Rattle.std.proofs.Common.{refl}
use Rattle.gib_infer.proofs.FieldSteps.{call_bound}
use Rattle.gib_infer.proofs.steps.bind_call.Goals as goal

pub returns : goal.returns
returns c =
    call_bound c.args.work.now c.new_variable.new.work (record c.new_variable.new.work { terms = c.put.new.self }) c.args.bindings.now.items c.push.new.self.items c.in_ok-variable.variable c.args.function c.args.arguments.items c.args.ty c.in_ok-term.term c.in_ok-variable.ensures.variable c.in_ok-variable.ensures.new c.in_ok-term.ensures.made.grows c.in_ok-term.ensures.made.inside c.in_ok-term.ensures.made.term refl refl c.requires c.in_ok-push.ensures.items
