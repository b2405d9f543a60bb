use Rattle.std.proofs.Common.{sym, ap, subst}
use Rattle.gib_value.specs.Due.{Due, due_of}
use Rattle.gib_value.specs.Reading.{Steps}
use Rattle.gib_value.proofs.ReadTakes.{space_steps}
use Rattle.gib_value.proofs.read.Reader.take.Goals as goal

pub returns-in-Space-clause-yes : goal.returns-in-Space-clause-yes
returns-in-Space-clause-yes c = λ e.
    subst (λ (w : Due). Steps c.args.context.now.types.now c.args.context.now.names.now.short w c.args.token.now c.args.self.now.heap c.args.self.now.heap c.args.self.now.done.items c.args.self.now.done.items c.args.self.now.wanted c.args.self.now.wanted) (sym (ap due_of c.in-Space.is))
    (space_steps c.args.context.now.types.now c.args.context.now.names.now.short c.args.token.now c.args.self.now.heap c.args.self.now.done.items c.args.self.now.wanted (c.is_byte.ensures.yes e) c.requires.held)
