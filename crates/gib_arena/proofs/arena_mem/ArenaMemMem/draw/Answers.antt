use Rattle.gib_arena.proofs.Showing.{drew_shown}
use Rattle.gib_arena.proofs.arena_mem.ArenaMemMem.draw.Goals as goal

pub returns-clause-some : goal.returns-clause-some
returns-clause-some c = drew_shown _ _ _ _ _ c.draw.result c.args.self.now.pass.sound c.draw.ensures.of c.args.self.now.of c.draw.ensures.some c.draw.ensures.order
