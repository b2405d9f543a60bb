use Rattle.std.proofs.Common.{true, ◌≡◌, rules, sym, ◌∙◌}
use Rattle.gib_local.specs.Building.{AtStart, is_region, meant, named_too}
use Rattle.gib_local.specs.Builds.{around_of, passed_of}
use Rattle.gib_local.proofs.Adding.{given, is_due}
use Rattle.gib_local.proofs.Joining.{named_step}
use Rattle.gib_local.proofs.steps.start.Goals as goal

pub returns : goal.returns
returns c =
    let h = around_of c.args.builder.now c.args.goal.now in
    let due : is_region (meant h.places c.args.r.name.0) ≡ true = search rules in
    named_step c.args.builder.now c.name.new.self c.args.goal.now c.args.l (AtStart c.args.r.name.0) _ c.in_ok-name.ensures (is_due (is_region (meant h.places c.args.r.name.0)) c.args.r.span.start (given (named_too h (passed_of c.args.builder.now) c.args.l (AtStart c.args.r.name.0))) due)
