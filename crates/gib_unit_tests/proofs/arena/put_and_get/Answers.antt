use Rattle.std.proofs.Common.{ap, ◌∙◌}
use Rattle.gib_mem.specs.Memory.{Memory, byte}
use Rattle.gib_mem.proofs.Puts.{set_same}
use Rattle.gib_unit_tests.proofs.arena.put_and_get.Goals as goal

pub get-requires : goal.get-requires
get-requires g c = (c.args.value, ap (λ (m : Memory). m.cells c.args.at) c.put.ensures ∙ set_same (g.M.Mem.view c.args.mem.now).cells c.args.at (byte c.args.value))
