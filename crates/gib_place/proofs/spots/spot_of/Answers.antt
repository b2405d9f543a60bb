use Rattle.std.proofs.Common.{ap, ◌∙◌}
use Rattle.gib_core.specs.Arena.{bind_from}
use Rattle.gib_place.specs.Placing.{place_bind}
use Rattle.gib_place.specs.Filled.{once_by}
use Rattle.gib_place.proofs.spots.spot_of.Goals as goal

pub returns-in-One-clause-bind : goal.returns-in-One-clause-bind
returns-in-One-clause-bind c = λ f late h. ap (λ x. place_bind (once_by c.args.at.now.once.now) late (bind_from f x) c.args.fields.now) c.in-One.is ∙ c.spot_of_one.ensures.bind f late h

pub returns-in-Par-clause-bind : goal.returns-in-Par-clause-bind
returns-in-Par-clause-bind c = λ f late h. ap (λ x. place_bind (once_by c.args.at.now.once.now) late (bind_from f x) c.args.fields.now) c.in-Par.is ∙ c.spot_of_par.ensures.bind f late h
