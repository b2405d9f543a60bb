use Rattle.std.proofs.Common.{◌-◌, arith}
use Rattle.gib_place.specs.Numbering.{place_in}
use Rattle.gib_place.proofs.Shifted.{branches_next}
use Rattle.gib_place.proofs.renumber.copying.renamed_branches.Goals as goal

pub branches-preserved : goal.branches-preserved
branches-preserved c =
    (omega arith, branches_next (place_in c.args.numbers.now) c.args.base c.branches.reversed.items c.push.new.self.items c.args.branches.now c.in_ok-branch.branch c.index-branches-i.result c.index-branches-i.result (c.branches.i - 1) c.branches.i (omega arith) c.branches.invariant.0 c.index-branches-i.is c.in_ok-push.ensures.items c.branches.invariant.1 c.in_ok-branch.ensures)
