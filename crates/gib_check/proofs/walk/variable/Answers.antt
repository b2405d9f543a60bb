use Rattle.std.proofs.lemmas.Result.{err_from_is_err_and}
use Rattle.gib_types.specs.Types.{form_at}
use Rattle.gib_check.specs.Judging.{forms}
use Rattle.gib_check.proofs.Growing.{same_advance}
use Rattle.gib_check.proofs.Answering.{variable_fails, variable_ok}
use Rattle.gib_check.proofs.walk.variable.Goals as goal

pub returns-in_err-ty-clause-read : goal.returns-in_err-ty-clause-read
returns-in_err-ty-clause-read c =
    let p = err_from_is_err_and c.from_residual-in_err-ty.result c.from_residual-in_err-ty.ensures.1 in
    rw (p.1, p.2) (variable_fails c.in_err-ty.field-0.0 c.args.state.now c.one_more.new.self c.args.x c.in_ok-one_more.ensures.counts c.one_more.ensures.scope c.in_err-ty.ensures.read)

pub returns-clause-read : goal.returns-clause-read
returns-clause-read c = variable_ok c.args.state.now c.one_more.new.self c.args.x (form_at (forms c.one_more.new.self) c.in_ok-ty.ty.0) c.in_ok-one_more.ensures.counts c.one_more.ensures.scope c.in_ok-ty.ensures.read

pub returns-clause-met : goal.returns-clause-met
returns-clause-met c = record { advances = same_advance c.args.state.now c.one_more.new.self c.one_more.ensures.types c.one_more.ensures.parts; here = c.in_ok-ty.ensures.below }
