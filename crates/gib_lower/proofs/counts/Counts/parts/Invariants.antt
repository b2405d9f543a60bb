use Rattle.std.proofs.Common.{◌≡◌, ◌+◌, length}
use Rattle.std.specs.List.{AllByRecursion}
use Rattle.gib_core.specs.Arena.{IsPartBelow, term_of, parts_from}
use Rattle.gib_core.specs.Numbering.{part_binders}
use Rattle.gib_lower.proofs.counts.Counts.parts.Given as goal

abbrev pub invariant-parts : goal.invariant-parts
invariant-parts l = record {
  below : AllByRecursion (IsPartBelow l.self.upto) l.parts;
  so_far : l.count + length (part_binders (parts_from (term_of l.self.terms) l.parts)) ≡ length (part_binders (parts_from (term_of l.self.terms) l.fn.parts));
}

abbrev pub decreases-parts : goal.decreases-parts
decreases-parts l = length l.parts
