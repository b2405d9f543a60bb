use Rattle.std.proofs.Common.{◌≡◌, [], rules, sym, subst}
use Rattle.gib_check.proofs.Singles.{SinglesSoFar, singles_start, singles_next, singles_end, singles_fail}
use Rattle.gib_check.proofs.rules.all_single.Goals as goal

pub parts-init : goal.parts-init
parts-init c =
    let e : c.new-ids.result.items ≡ [] = search rules in
    subst (λ done. SinglesSoFar c.args.state.now c.args.parts.now c.args.parts.now done) (sym e) (singles_start c.args.state.now c.args.parts.now c.requires)

pub parts-preserved : goal.parts-preserved
parts-preserved c =
    singles_next c.args.state.now c.args.parts.now c.parts.rest.now _ c.parts.ids.items c.push.new.self.items c.in-One.id c.in-len1-up.len_at_least c.parts.invariant c.in-One.is c.in_ok-push.ensures.items

pub returns-clause-types : goal.returns-clause-types
returns-clause-types c = singles_end c.args.state.now c.args.parts.now c.parts.rest.now c.parts.ids.items c.in_default.len_below c.parts.invariant
