use Rattle.std.proofs.Common.{ap, ◌∙◌}
use Rattle.gib_arena.specs.declared.view.View.{View}
use Rattle.gib_arena.specs.Cells.{cells_of}
use Rattle.gib_unit_tests.proofs.arena.exchange.Goals as goal

pub get-first-requires-clause-known : goal.get-first-requires-clause-known
get-first-requires-clause-known g c = let a = rw c.in_ok-whole.was at c.join-a.ensures.first in (c.args.one, c.join.ensures.known.0.kept c.in_ok-whole.left c.args.one a.2)

pub get-second-requires-clause-known : goal.get-second-requires-clause-known
get-second-requires-clause-known g c = let b = rw c.in_ok-rest.was at c.join-a.ensures.second in let at = c.in_ok-rest.right in
    (c.args.two, ap (λ (v : View). cells_of v.holding at) c.get-first.ensures.same ∙ c.join.ensures.known.1.kept at c.args.two b.2)
