use Rattle.std.proofs.Common.{◌≡◌, [], rules, sym, subst}
use Rattle.gib_check.proofs.Loops.{RunsSoFar}
use Rattle.gib_check.proofs.UseTypes.{runs_start, runs_meaning, runs_next, runs_end}
use Rattle.gib_check.proofs.uses.part_types.Goals as goal

pub runs-init : goal.runs-init
runs-init c =
    let e : c.new-ids.result.items ≡ [] = search rules in
    subst (λ ids. RunsSoFar c.args.named.now.exprs.words c.args.state.now c.args.state.now c.args.meaning.now c.args.runs.now c.args.runs.now ids) (sym e) (runs_start c.args.named.now.exprs.words c.args.state.now c.args.meaning.now c.args.runs.now c.requires)

pub read_first-requires : goal.read_first-requires
read_first-requires c = runs_meaning c.args.named.now.exprs.words c.args.state.now c.runs.state c.args.meaning.now c.args.runs.now c.runs.rest.now c.runs.ids.items c.runs.invariant

pub runs-preserved : goal.runs-preserved
runs-preserved c =
    runs_next c.args.named.now.exprs.words c.args.state.now c.runs.state c.read_first.new.self c.args.meaning.now c.args.runs.now c.runs.rest.now _ c.words.result.now c.runs.ids.items c.push.new.self.items c.in_ok-id.id
    c.in-len1-up.len_at_least c.runs.invariant c.words.ensures c.in_ok-id.ensures.met c.read_first.ensures.keeps c.in_ok-push.ensures.items

pub returns-clause-types : goal.returns-clause-types
returns-clause-types c =
    runs_end c.args.named.now.exprs.words c.args.state.now c.runs.state c.args.meaning.now c.args.runs.now c.runs.rest.now c.runs.ids.items c.in_default.len_below c.runs.invariant
