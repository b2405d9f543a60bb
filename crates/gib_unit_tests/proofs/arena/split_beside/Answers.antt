use Rattle.std.proofs.Common.{ap, ◌∙◌}
use Rattle.gib_arena.specs.declared.view.View.{View}
use Rattle.gib_arena.specs.Cells.{cells_of}
use Rattle.gib_unit_tests.proofs.arena.split_beside.Goals as goal

pub returns-clause-free : goal.returns-clause-free
returns-clause-free c = ap (λ (v : View). cells_of v.holding c.args.next) c.split-other.ensures.left ∙ c.requires.free

pub returns-clause-known : goal.returns-clause-known
returns-clause-known c = c.split-other.ensures.knows.0.kept c.args.at c.args.value c.requires.known
