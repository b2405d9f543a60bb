use Rattle.std.proofs.Common.{◌-◌, ◌≡◌}
use Rattle.gib_arena.specs.Passes.{view, IsOf}
use Rattle.gib_unit_tests.proofs.arena.draw_all.Given as goal

abbrev pub invariant-draws : goal.invariant-draws
invariant-draws l = record {
  of : IsOf l.arena l.mine;
  branch : (view l.mine).branch ≡ (view l.fn.pass).branch;
}

abbrev pub decreases-draws : goal.decreases-draws
decreases-draws l = (view l.mine).branch.limit - (view l.mine).holding.seen
