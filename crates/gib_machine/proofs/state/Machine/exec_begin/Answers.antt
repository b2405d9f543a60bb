use Rattle.std.proofs.Common.{rules, ◌≡◌, ◌-◌, ℕ, sym, subst}
use Rattle.gib_region.specs.Region.{Begins}
use Rattle.gib_machine.specs.State.{sets}
use Rattle.gib_machine.specs.Machine.{opened}
use Rattle.gib_machine.specs.Stepping.{with_tails}
use Rattle.gib_machine.proofs.Latest.{begun}
use Rattle.gib_machine.proofs.state.Machine.exec_begin.Goals as goal

pub returns-in-Ok : goal.returns-in-Ok
returns-in-Ok g c =
    let e : with_tails c.sets.new.self c.begin.new.tails ≡ sets (opened (record (with_tails c.args.self.now c.args.tails.now) { room = c.args.self.now.room - 1 }) c.place-at.result c.begin.new.tails) c.args.to c.place-at.result = search rules in
    let b = subst (λ (a : ℕ). Begins (g.M.Mem.view c.args.mem.now) c.args.tails.now (g.M.Mem.view c.begin.new.mem) c.begin.new.tails a) (sym c.place-at.ensures) c.in-Ok.ensures.begins in
    begun c.args.self.now _ _ _ _ c.args.self.now.room _ _ _ (search rules) b e
