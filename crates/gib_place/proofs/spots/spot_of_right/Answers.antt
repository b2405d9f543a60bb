use Rattle.std.proofs.Common.{◌+◌, refl}
use Rattle.gib_place.specs.Filled.{once_by}
use Rattle.gib_place.proofs.Cutting.{right_stays, right_placed}
use Rattle.gib_place.proofs.spots.spot_of_right.Goals as goal

pub returns-in-None-clause-bind : goal.returns-in-None-clause-bind
returns-in-None-clause-bind c = λ f late h. right_stays (once_by c.args.at.now.once.now) c.args.at.now.times.now c.args.at.now.time f late c.args.sides.0 c.args.sides.1 c.args.sides.2 c.args.fields.now h (c.in-None.ensures.side f)

pub returns-in-Some-clause-bind : goal.returns-in-Some-clause-bind
returns-in-Some-clause-bind c =
    λ f late h. right_placed (once_by c.args.at.now.once.now) c.args.at.now.times.now c.args.at.now.time f late c.args.sides.0 c.args.sides.1 c.args.sides.2 c.args.fields.now c.in-Some.taken (c.in-Some.taken.place + 1) h refl (c.in-Some.ensures.side f)
