use Rattle.gib_place.specs.Filled.{once_by}
use Rattle.gib_place.proofs.Onward.{spot_laid}
use Rattle.gib_place.proofs.laying.lay_binding.Goals as goal

pub returns-in-Some-clause-lays : goal.returns-in-Some-clause-lays
returns-in-Some-clause-lays c = spot_laid c.lay_spot.result (once_by c.args.at.now.once.now) c.args.at.now.times.now c.args.at.now.time c.args.line.now c.args.laid.now c.lay_spot.new.laid c.args.binding c.in-Some.spot c.deref.result.now c.deref.ensures.value c.requires.used c.in-Some.ensures.below c.in-Some.ensures.bind c.lay_spot.ensures
