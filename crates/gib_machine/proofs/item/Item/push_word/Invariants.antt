use Rattle.std.proofs.Common.{◌≡◌, ◌≤◌, ◌+◌, ◌++◌, length}
use Rattle.std.specs.Int.{w64, to_le_bytes}
use Rattle.gib_machine.proofs.item.Item.push_word.Given as goal

abbrev pub invariant-bytes : goal.invariant-bytes
invariant-bytes l = record {
  same : l.self.left ++ l.rest ≡ l.fn.self.left ++ to_le_bytes w64 l.fn.word;
  room : l.self.room + 8 ≡ l.fn.self.room + length l.rest;
  enough : length l.rest ≤ l.self.room;
}

abbrev pub decreases-bytes : goal.decreases-bytes
decreases-bytes l = length l.rest
