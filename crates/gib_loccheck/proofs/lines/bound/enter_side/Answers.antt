use Rattle.std.proofs.Common.{[], refl}
use Rattle.gib_core.specs.Arena.{term_of, side_from}
use Rattle.gib_loccheck.proofs.Entered.{enters_side}
use Rattle.gib_loccheck.proofs.lines.bound.enter_side.Goals as goal

pub returns-clause-binds : goal.returns-clause-binds
returns-clause-binds c =
    λ f. enters_side c.args.walk.now c.enter_variables.new.walk c.args.target.now _ (side_from f c.args.side) (c.in_ok-enter_variables.ensures f) (c.in_ok-destination.ensures f) refl refl

pub returns-clause-stays : goal.returns-clause-stays
returns-clause-stays c = (c.in_ok-enter_variables.ensures (term_of [])).stays
