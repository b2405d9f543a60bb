use Rattle.gib_place.specs.Filled.{once_by}
use Rattle.gib_place.proofs.Cutting.{par_left, par_right}
use Rattle.gib_place.proofs.spots.spot_of_par.Goals as goal

pub returns-in-Some-clause-bind : goal.returns-in-Some-clause-bind
returns-in-Some-clause-bind c = λ f late h. par_left (once_by c.args.at.now.once.now) c.args.at.now.times.now c.args.at.now.time f late c.args.sides.0 c.args.sides.1 c.args.sides.2 c.args.fields.now c.in-Some.taken c.spot_of_both.result h (c.in-Some.ensures.side f) (c.spot_of_both.ensures.bind f)

pub returns-in-None-clause-bind : goal.returns-in-None-clause-bind
returns-in-None-clause-bind c = λ f late h. par_right (once_by c.args.at.now.once.now) c.args.at.now.times.now c.args.at.now.time f late c.args.sides.0 c.args.sides.1 c.args.sides.2 c.args.fields.now c.spot_of_right.result h (c.in-None.ensures.side f) (c.spot_of_right.ensures.bind f late h)
