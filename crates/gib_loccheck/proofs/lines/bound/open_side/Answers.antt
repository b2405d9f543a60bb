use Rattle.std.proofs.Common.{subst, sym}
use Rattle.gib_core.specs.declared.node.BoundSide.{BoundSide}
use Rattle.gib_core.specs.Arena.{term_of, side_from}
use Rattle.gib_core.specs.Parts.{core_of}
use Rattle.gib_loccheck.specs.Views.{setting_of}
use Rattle.gib_loccheck.specs.Judging.{ChecksOpening}
use Rattle.gib_loccheck.proofs.lines.bound.open_side.Goals as goal

pub returns-in-Several : goal.returns-in-Several
returns-in-Several c =
    let core = core_of c.args.core.now in
    let f = term_of c.args.core.now.terms in
    let s = setting_of c.args.walk.now c.args.target.now in
    subst (λ (side : BoundSide). ChecksOpening core c.args.walk.now c.open_several.new.walk s (side_from f side) c.open_several.result) (sym c.in-Several.is) (c.open_several.ensures core c.args.target.now f)
