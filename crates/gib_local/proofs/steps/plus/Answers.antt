use Rattle.std.proofs.Common.{true, ◌≡◌, rules, refl, sym, ap, ◌∙◌}
use Rattle.gib_types.specs.declared.table.ConId.{ConId}
use Rattle.gib_core.specs.Met.{Open}
use Rattle.gib_local.specs.Building.{con, may_open, opened}
use Rattle.gib_local.specs.Builds.{around_of, passed_of, program_in}
use Rattle.gib_local.proofs.Adding.{given, is_due}
use Rattle.gib_local.proofs.Joining.{opened_step}
use Rattle.gib_local.proofs.steps.plus.Goals as goal

pub returns : goal.returns
returns c =
    let tb = (program_in c.args.source.now).table in
    let h = around_of c.args.builder.now c.args.goal.now in
    let v = passed_of c.args.builder.now in
    let on : c.may_open.result ≡ true = search rules in
    let due : may_open tb h c.args.d (con tb c.args.k) ≡ true = ap (λ (k : ConId). may_open tb h c.args.d k) (sym c.constructor-constructor.ensures) ∙ sym c.may_open.ensures ∙ on in
    opened_step c.args.builder.now c.new_variable.new.self c.name.new.self c.args.goal.now _ c.args.l c.constructor-constructor.result c.in_ok-head.head _ c.in_ok-head.ensures.variable c.in_ok-head.ensures.new c.in_ok-name.ensures
    (ap (λ xs. Open c.in_ok-head.head c.constructor-constructor.result xs) c.new.ensures.items) refl
    (is_due (may_open tb h c.args.d (con tb c.args.k)) c.args.d.span.start (given (opened h v c.args.l (con tb c.args.k))) due ∙ ap (λ (k : ConId). given (opened h v c.args.l k)) (sym c.constructor-constructor.ensures))
