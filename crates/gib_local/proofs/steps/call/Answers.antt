use Rattle.std.proofs.Common.{map, subst}
use Rattle.gib_local.specs.Building.{atom, call}
use Rattle.gib_local.specs.Builds.{Puts, around_of, passed_of}
use Rattle.gib_local.proofs.Adding.{call_put}
use Rattle.gib_local.proofs.steps.call.Goals as goal

pub returns : goal.returns
returns c =
    subst (λ s. Puts c.args.builder.now c.put.new.self c.in_ok-term.term (call s (around_of c.args.builder.now c.args.goal.now) (passed_of c.args.builder.now) c.args.f (map (atom (around_of c.args.builder.now c.args.goal.now)) c.args.values.now) c.args.mark)) c.gives_scalar.ensures
    (call_put c.args.builder.now c.put.new.self c.args.goal.now c.gives_scalar.result c.args.f c.in_ok-arguments.arguments (map (atom (around_of c.args.builder.now c.args.goal.now)) c.args.values.now) c.args.mark c.in_ok-term.term c.in_ok-term.ensures (c.in_ok-arguments.ensures c.args.goal.now) c.in_ok-call_mark.ensures)
