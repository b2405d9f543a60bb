use Rattle.std.proofs.Common.{rules}
use Rattle.gib_loccheck.proofs.Answering.{ok_then, err_then}
use Rattle.gib_loccheck.proofs.OneBody.{core_passes, core_blamed_main, core_blamed_functions}
use Rattle.gib_loccheck.proofs.bodies.check_bodies.Goals as goal

pub returns-in_err-check_functions-clause-broken : goal.returns-in_err-check_functions-clause-broken
returns-in_err-check_functions-clause-broken c =
    let h = core_blamed_functions c.in_err-check_functions.field-0.0 c.args.core.now c.functions.result.now c.functions.ensures.value c.in_err-check_functions.ensures.broken in search rules

pub returns-clause-unbroken : goal.returns-clause-unbroken
returns-clause-unbroken c =
    ok_then c.check_body.result
    (core_passes c.args.core.now c.functions.result.now c.main-main.result c.check_functions.new.walk.place c.check_body.new.walk.place c.functions.ensures.value c.main-main.ensures.value c.in_ok-check_functions.ensures.passes)
    c.check_body.ensures.passes

pub returns-clause-broken : goal.returns-clause-broken
returns-clause-broken c =
    err_then c.check_body.result
    (λ e. core_blamed_main e c.args.core.now c.functions.result.now c.main-main.result c.check_functions.new.walk.place c.functions.ensures.value c.main-main.ensures.value c.in_ok-check_functions.ensures.passes)
    c.check_body.ensures.broken
