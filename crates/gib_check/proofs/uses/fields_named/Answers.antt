use Rattle.std.proofs.Common.{◌≡◌, [], rules, ap, ◌∙◌}
use Rattle.gib_types.specs.Types.{forms_at}
use Rattle.gib_check.specs.Judging.{forms, listed}
use Rattle.gib_check.specs.NameViews.{generic_globals}
use Rattle.gib_check.proofs.UseTypes.{none_named}
use Rattle.gib_check.proofs.uses.fields_named.Goals as goal

pub returns-in-None-clause-types : goal.returns-in-None-clause-types
returns-in-None-clause-types c =
    let e : c.new.result.items ≡ [] = search rules in
    ap (listed (forms c.args.state.now)) e
    ∙ none_named c.args.named.now (generic_globals c.args.named.now).rows c.args.name.0 c.row.result (forms_at (forms c.args.state.now) c.args.types.now) c.in-None.is c.row.ensures.row
