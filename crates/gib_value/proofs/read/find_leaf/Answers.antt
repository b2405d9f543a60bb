use Rattle.std.proofs.Common.{subst}
use Rattle.gib_types.specs.declared.table.Ty.{Ty}
use Rattle.gib_value.specs.Reading.{IsLeaf}
use Rattle.gib_value.proofs.read.find_leaf.Goals as goal

pub returns-in-None-find_bare : goal.returns-in-None-find_bare
returns-in-None-find_bare c = λ n h. c.in-None-find_bare.ensures n (subst (λ (t : Ty). IsLeaf c.args.context.now.types.now c.args.context.now.names.now.short t c.args.token.now n) c.in-Tree.is h)
