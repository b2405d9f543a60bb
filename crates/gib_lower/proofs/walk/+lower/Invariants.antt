use Rattle.std.proofs.Common.{◌≡◌, ◌≤◌, ◌+◌, ◌*◌, length, drop, reverse}
use Rattle.gib_core.specs.Arena.{term_in, term_of, binds_from, branches_from, parts_from}
use Rattle.gib_core.specs.Parts.{core_of}
use Rattle.gib_lower.specs.Lowering.{lowered_parts, lowered_branches}
use Rattle.gib_lower.specs.Ends.{end_of, within_of}
use Rattle.gib_lower.proofs.Along.{lowered_binds}
use Rattle.gib_lower.proofs.walk.+lower.Given as goal

abbrev pub decreases-lower_term : goal.decreases-lower_term
decreases-lower_term l = 6 * l.id.0 + 5

abbrev pub decreases-lower_end : goal.decreases-lower_end
decreases-lower_end l = 6 * l.id.0 + 4

abbrev pub decreases-lower_binding : goal.decreases-lower_binding
decreases-lower_binding l = 6 * l.parent.0 + 4

abbrev pub decreases-lower_fork : goal.decreases-lower_fork
decreases-lower_fork l = 6 * l.parent.0 + 3

abbrev pub decreases-lower_parts : goal.decreases-lower_parts
decreases-lower_parts l = 6 * l.parent.0 + 3

abbrev pub decreases-lower_side : goal.decreases-lower_side
decreases-lower_side l = 6 * (term_in l.side).0 + 8

abbrev pub decreases-lower_several : goal.decreases-lower_several
decreases-lower_several l = 6 * l.side.term.0 + 7

abbrev pub decreases-lower_bound : goal.decreases-lower_bound
decreases-lower_bound l = 6 * l.side.term.0 + 7

abbrev pub decreases-lower_scalar : goal.decreases-lower_scalar
decreases-lower_scalar l = 6 * l.term.0 + 6

abbrev pub decreases-lower_case : goal.decreases-lower_case
decreases-lower_case l = 6 * l.parent.0 + 3

abbrev pub decreases-lower_branch : goal.decreases-lower_branch
decreases-lower_branch l = 6 * l.branch.now.term.0 + 6

abbrev pub invariant-lower_term-bindings : goal.invariant-lower_term-bindings
invariant-lower_term-bindings l = record {
  within : l.i ≤ length l.bindings.items;
  code : l.out.code ≡ lowered_binds (core_of l.source) (within_of l.at.around) l.fn.out.fields (binds_from (term_of l.source.terms) (drop l.i l.bindings.items)) l.initial.out.code;
  fields : l.out.fields ≡ l.fn.out.fields;
  overs : l.out.overs ≡ l.fn.out.overs;
}

abbrev pub decreases-lower_term-bindings : goal.decreases-lower_term-bindings
decreases-lower_term-bindings l = l.i

abbrev pub invariant-lower_case-branches : goal.invariant-lower_case-branches
invariant-lower_case-branches l = record {
  within : l.i ≤ length l.branches;
  code : record { arms = reverse l.reversed.items; code = l.out.code } ≡ lowered_branches (core_of l.source) (within_of l.at.around) l.fn.out.fields l.tree (branches_from (term_of l.source.terms) (drop l.i l.branches)) (end_of l.at.ending l.fn.out.overs) l.fn.out.code;
  fields : l.out.fields ≡ l.fn.out.fields;
  overs : l.out.overs ≡ l.fn.out.overs;
}

abbrev pub decreases-lower_case-branches : goal.decreases-lower_case-branches
decreases-lower_case-branches l = l.i

abbrev pub invariant-lower_parts-parts : goal.invariant-lower_parts-parts
invariant-lower_parts-parts l = record {
  within : l.i ≤ length l.parts;
  all : l.count ≡ length l.parts;
  code : l.out.code ≡ lowered_parts (core_of l.source) (within_of l.around) l.fn.out.fields l.i (length l.parts) (parts_from (term_of l.source.terms) (drop l.i l.parts)) l.fn.out.code;
  fields : l.out.fields ≡ l.fn.out.fields;
  overs : l.out.overs ≡ l.fn.out.overs;
}

abbrev pub decreases-lower_parts-parts : goal.decreases-lower_parts-parts
decreases-lower_parts-parts l = l.i
