use Rattle.std.proofs.Common.{◌≡◌, [], map, rules, sym, subst}
use Rattle.gib_check.proofs.Loops.{RunsSoFar}
use Rattle.gib_check.proofs.UseTypes.{parameter_run, runs_start, runs_meaning, parameters_next, parameters_end}
use Rattle.gib_check.proofs.uses.parameter_types.Goals as goal

pub parameters-init : goal.parameters-init
parameters-init c =
    let e : c.new-ids.result.items ≡ [] = search rules in
    subst (λ ids. RunsSoFar c.args.named.now.exprs.words c.args.state.now c.args.state.now c.args.meaning.now (map parameter_run c.args.parameters.now) (map parameter_run c.args.parameters.now) ids) (sym e) (runs_start c.args.named.now.exprs.words c.args.state.now c.args.meaning.now (map parameter_run c.args.parameters.now) c.requires)

pub read_first-requires : goal.read_first-requires
read_first-requires c = runs_meaning c.args.named.now.exprs.words c.args.state.now c.parameters.state c.args.meaning.now (map parameter_run c.args.parameters.now) (map parameter_run c.parameters.rest.now) c.parameters.ids.items c.parameters.invariant

pub parameters-preserved : goal.parameters-preserved
parameters-preserved c =
    parameters_next c.args.named.now.exprs.words c.args.state.now c.parameters.state c.read_first.new.self c.args.meaning.now (map parameter_run c.args.parameters.now) c.parameters.rest.now _ c.words.result.now c.parameters.ids.items c.push.new.self.items c.in_ok-id.id
    c.in-len1-up.len_at_least c.parameters.invariant c.words.ensures c.in_ok-id.ensures.met c.read_first.ensures.keeps c.in_ok-push.ensures.items

pub returns-clause-types : goal.returns-clause-types
returns-clause-types c =
    parameters_end c.args.named.now.exprs.words c.args.state.now c.parameters.state c.args.meaning.now c.args.parameters.now c.parameters.rest.now c.parameters.ids.items c.in_default.len_below c.parameters.invariant
