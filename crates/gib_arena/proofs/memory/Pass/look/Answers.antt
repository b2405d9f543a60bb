use Rattle.std.proofs.Common.{rules, ◌/◌, arith, ap}
use Rattle.gib_arena.proofs.Keeps.{reads}
use Rattle.gib_arena.proofs.Reading.{in_words}
use Rattle.gib_arena.proofs.memory.Pass.look.Goals as goal

pub load-word-requires : goal.load-word-requires
load-word-requires c = let w = ap (λ z. z.words) c.requires.of in let p = c.args.self.now in let k = in_words _ _ p.sound c.args.at c.requires.there in let s = p.sized in (search rules, omega arith, reads _ _ _ (c.args.at / 8) _)
