use Rattle.std.proofs.Common.{true, false, ◌≡◌, rules, sym, ap, ◌∙◌}
use Rattle.gib_core.specs.declared.atom.Variable.{Variable}
use Rattle.gib_local.specs.Building.{AtNext, is_last, named_too, variable}
use Rattle.gib_local.specs.Builds.{around_of, destination_of, passed_of, program_in}
use Rattle.gib_local.proofs.Adding.{given, is_due, not_due}
use Rattle.gib_local.proofs.Joining.{named_step}
use Rattle.gib_local.proofs.steps.after.Goals as goal

pub returns-then-not-is_last : goal.returns-then-not-is_last
returns-then-not-is_last c =
    let tb = (program_in c.args.source.now).table in
    let h = around_of c.args.builder.now c.args.goal.now in
    let off : c.is_last.result ≡ false = search rules in
    let due : is_last tb (destination_of c.args.goal.now.destination) (variable h c.args.x) ≡ false = ap (λ (v : Variable). is_last tb (destination_of c.args.goal.now.destination) v) (sym c.variable-variable.ensures) ∙ sym c.is_last.ensures ∙ off in
    not_due (is_last tb (destination_of c.args.goal.now.destination) (variable h c.args.x)) c.args.x.span.start (given (named_too h (passed_of c.args.builder.now) c.args.l (AtNext (variable h c.args.x).0))) due

pub returns : goal.returns
returns c =
    let tb = (program_in c.args.source.now).table in
    let h = around_of c.args.builder.now c.args.goal.now in
    let on : c.is_last.result ≡ true = search rules in
    let due : is_last tb (destination_of c.args.goal.now.destination) (variable h c.args.x) ≡ true = ap (λ (v : Variable). is_last tb (destination_of c.args.goal.now.destination) v) (sym c.variable-variable.ensures) ∙ sym c.is_last.ensures ∙ on in
    named_step c.args.builder.now c.name.new.self c.args.goal.now c.args.l (AtNext c.variable-variable.result.0) _ c.in_ok-name.ensures
    (is_due (is_last tb (destination_of c.args.goal.now.destination) (variable h c.args.x)) c.args.x.span.start (given (named_too h (passed_of c.args.builder.now) c.args.l (AtNext (variable h c.args.x).0))) due
    ∙ ap (λ (v : Variable). given (named_too h (passed_of c.args.builder.now) c.args.l (AtNext v.0))) (sym c.variable-variable.ensures))
