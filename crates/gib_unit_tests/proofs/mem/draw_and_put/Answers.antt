use Rattle.std.proofs.Common.{◌+◌, ◌*◌, ap, ◌∙◌}
use Rattle.gib_mem.specs.Memory.{Memory, byte}
use Rattle.gib_mem.proofs.Puts.{set_same}
use Rattle.gib_unit_tests.proofs.mem.draw_and_put.Goals as goal

pub get-requires : goal.get-requires
get-requires g c =
    let at = 4096 * c.in-Some.chunk + 4094 in
    (c.args.byte, ap (λ (m : Memory). m.cells at) c.put.ensures ∙ set_same (g.M.Mem.view c.draw.new.self).cells at (byte c.args.byte))
