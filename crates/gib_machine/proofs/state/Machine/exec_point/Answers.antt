use Rattle.std.proofs.Common.{rules, ◌≡◌, Bool, false, sym, subst}
use Rattle.gib_machine.specs.State as st
use Rattle.gib_machine.specs.Machine as m
use Rattle.gib_machine.specs.Stepping.{Made, with_tails}
use Rattle.gib_machine.proofs.state.Machine.exec_point.Goals as goal

pub returns : goal.returns
returns g c = λ laid ts.
    let e : st.room c.args.self.now.regions 9 ≡ false = search rules in
    subst (λ (b : Bool). Made (m.points laid (with_tails c.args.self.now ts) c.args.target b) (with_tails c.args.self.now ts) (with_tails c.turns.new.self ts) (g.M.Mem.view c.args.mem.now) (g.M.Mem.view c.turns.new.mem) c.turns.result) (sym e) (c.turns.ensures ts)
