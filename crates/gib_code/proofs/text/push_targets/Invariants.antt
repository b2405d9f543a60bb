use Rattle.std.proofs.Common.{◌≡◌, ◌≤◌, ◌-◌, ◌++◌}
use Rattle.std.specs.List.{flat_map}
use Rattle.gib_types.specs.Table.{numbers_from}
use Rattle.gib_code.specs.Instruction.{target_slots}
use Rattle.gib_code.specs.ListingText.{slot_text}
use Rattle.gib_code.proofs.text.push_targets.Given as goal

abbrev pub invariant-slots : goal.invariant-slots
invariant-slots l = record {
  text : l.out.items ++ flat_map slot_text (numbers_from l.slot (l.behind - l.slot)) ≡ l.fn.out.items ++ flat_map slot_text (target_slots l.fn.targets);
  most : l.slot ≤ l.behind;
}

abbrev pub decreases-slots : goal.decreases-slots
decreases-slots l = l.behind - l.slot
