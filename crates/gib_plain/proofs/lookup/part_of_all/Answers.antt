use Rattle.std.proofs.Common.{arith}
use Rattle.gib_plain.proofs.Names.{args-at, args-past}
use Rattle.gib_plain.proofs.lookup.part_of_all.Goals as goal

pub returns-then-at-parts : goal.returns-then-at-parts
returns-then-at-parts c = λ f. args-at f c.args.parts.now c.args.at _ c.if-at-parts.true

pub returns-else-at-parts : goal.returns-else-at-parts
returns-else-at-parts c = λ f. args-past f c.args.parts.now c.args.at (omega arith)
