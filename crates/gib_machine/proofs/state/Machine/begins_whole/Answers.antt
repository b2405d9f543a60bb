use Rattle.std.proofs.Common.{rules, ℕ, sym, subst}
use Rattle.gib_region.specs.Region.{Begins}
use Rattle.gib_machine.proofs.Latest.{begun}
use Rattle.gib_machine.proofs.state.Machine.begins_whole.Goals as goal

pub returns-in-Ok : goal.returns-in-Ok
returns-in-Ok g c =
    let b = subst (λ (a : ℕ). Begins (g.M.Mem.view c.args.mem.now) c.args.tails.now (g.M.Mem.view c.begin.new.mem) c.begin.new.tails a) (sym c.place.ensures) c.in-Ok.ensures.begins in
    begun c.args.self.now _ _ _ _ c.args.self.now.room _ _ _ (search rules) b (search rules)
