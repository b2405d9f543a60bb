use Rattle.std.proofs.Common.{refl, arith}
use Rattle.gib_core.specs.Arena.{term_of}
use Rattle.gib_core.proofs.Listed.{parts_next, branches_next}
use Rattle.gib_core.proofs.mentions.+list.Goals as goal

pub list_parts-parts-preserved : goal.list_parts-parts-preserved
list_parts-parts-preserved t c =
    parts_next (term_of c.args.terms.now) c.args.parts.now c.parts.i _ (record { 0 = 0 }) c.args.mentions.now.items c.parts.mentions.items c.list_term.new.mentions.items (omega arith) refl c.parts.invariant c.in_ok-list_term.ensures

pub list_branches-branches-preserved : goal.list_branches-branches-preserved
list_branches-branches-preserved t c =
    branches_next (term_of c.args.terms.now) c.args.branches.now c.branches.i c.index-branches-i.result c.index-branches-i.result c.args.mentions.now.items c.branches.mentions.items c.list_branch.new.mentions.items (omega arith) c.index-branches-i.is c.branches.invariant c.in_ok-list_branch.ensures
