use Rattle.std.proofs.Common.{map, ◌≡◌, Ok, refl, sym, subst, ap, ◌∙◌, length}
use Rattle.std.proofs.lemmas.Result.{err_from_is_err_and}
use Rattle.gib_syntax.specs.GenericTyping.{variable_numbers, opaque}
use Rattle.gib_syntax.specs.GenericParts.{parameter_in, results_in}
use Rattle.gib_check.specs.declared.rules.Part.{Part}
use Rattle.gib_check.specs.Answers.{IsFaultOf}
use Rattle.gib_check.specs.Faults.{wanted, infer}
use Rattle.gib_check.specs.FirstFault.{check_body}
use Rattle.gib_check.specs.NameViews.{generic_globals, generic_tree}
use Rattle.gib_check.proofs.Opening.{gives_same}
use Rattle.gib_check.specs.Judging.{in_scope, forms_given, AreMet, part_in}
use Rattle.gib_check.proofs.Growing.{met_stays}
use Rattle.gib_check.proofs.BodySteps.{body_fails, body_is}
use Rattle.gib_check.proofs.bodies.check_from.Goals as goal

pub returns-in_err-given : goal.returns-in_err-given
returns-in_err-given c =
    let p = err_from_is_err_and c.from_residual-in_err-given.result c.from_residual-in_err-given.ensures.1 in
    let words = c.args.around.now.named.now.exprs.words in
    rw (p.1, p.2)
    (body_fails c.args.around.now.named.now c.args.around.now.variables.now c.args.parameters.now (results_in words c.args.gives.now) (generic_tree c.args.around.now.named.now c.args.body.0) c.in_err-given.field-0.0 c.meet_plain.new.self c.push_parameters.new.state (length c.args.parameters.now)
    refl (c.meet_plain.ensures.scope ∙ c.requires.scope) (c.meet_plain.ensures.counts ∙ c.requires.counts) c.in_ok-push_parameters.ensures.scope c.in_ok-push_parameters.ensures.counts
    (subst (λ st. IsFaultOf c.in_err-given.field-0.0 (infer (generic_globals c.args.around.now.named.now) (variable_numbers c.args.around.now.variables.now) opaque st (in_scope c.push_parameters.new.state) c.push_parameters.new.state.counts (generic_tree c.args.around.now.named.now c.args.body.0))) (c.standing_of.ensures words opaque) c.in_err-given.ensures.read))

pub returns : goal.returns
returns c =
    let body = generic_tree c.args.around.now.named.now c.args.body.0 in
    let words = c.args.around.now.named.now.exprs.words in
    gives_same (λ _. tt {0}) c.wanted.result (check_body (generic_globals c.args.around.now.named.now) c.args.around.now.variables.now (map (parameter_in words) c.args.parameters.now) (results_in words c.args.gives.now) body) (wanted (forms_given c.result_types.new.state c.in_ok-due.due) (part_in c.result_types.new.state c.part.result))
    (body_is c.args.around.now.named.now c.args.around.now.variables.now c.args.parameters.now (results_in words c.args.gives.now) body c.meet_plain.new.self c.push_parameters.new.state c.infer.new.state c.result_types.new.state (length c.args.parameters.now) c.in_ok-given.given c.in_ok-due.due
    refl (c.meet_plain.ensures.scope ∙ c.requires.scope) (c.meet_plain.ensures.counts ∙ c.requires.counts) c.in_ok-push_parameters.ensures.scope c.in_ok-push_parameters.ensures.counts
    (subst (λ st. infer (generic_globals c.args.around.now.named.now) (variable_numbers c.args.around.now.variables.now) opaque st (in_scope c.push_parameters.new.state) c.push_parameters.new.state.counts body ≡ Ok (forms_given c.infer.new.state c.in_ok-given.given, c.infer.new.state.counts)) (c.standing_of.ensures words opaque) c.in_ok-given.ensures.read)
    c.in_ok-given.ensures.met c.in_ok-due.ensures.met.advances c.in_ok-due.ensures.forms
    ∙ sym (ap (λ (p : Part). wanted (forms_given c.result_types.new.state c.in_ok-due.due) (part_in c.result_types.new.state p)) c.part.ensures))
    c.wanted.ensures

pub wanted-requires-clause-part : goal.wanted-requires-clause-part
wanted-requires-clause-part c =
    subst (λ (q : Part). AreMet c.result_types.new.state q.ty) (sym c.part.ensures) (met_stays c.infer.new.state c.result_types.new.state c.in_ok-given.given c.in_ok-due.ensures.met.advances c.in_ok-given.ensures.met.here)
