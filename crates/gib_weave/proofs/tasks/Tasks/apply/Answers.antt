use Rattle.std.proofs.Common.{sym, subst}
use Rattle.gib_weave.specs.declared.event.Event.{Event}
use Rattle.gib_weave.specs.Applied.{Applied, event_of, over}
use Rattle.gib_weave.proofs.tasks.Tasks.apply.Goals as goal

pub returns-in-Fork : goal.returns-in-Fork
returns-in-Fork g c =
    let v = g.V.Mem.view c.args.mem.now in
    subst (λ (e : Event). Applied c.args.code.now (over v c.args.self.now) (event_of e) (over v c.fork.new.self) c.fork.result) (sym c.in-Fork.is) (c.fork.ensures v)

pub returns-in-Steal : goal.returns-in-Steal
returns-in-Steal g c =
    let v = g.V.Mem.view c.args.mem.now in
    subst (λ (e : Event). Applied c.args.code.now (over v c.args.self.now) (event_of e) (over v c.steal.new.self) c.steal.result) (sym c.in-Steal.is) (c.steal.ensures v)

pub returns-in-Take : goal.returns-in-Take
returns-in-Take g c =
    let v = g.V.Mem.view c.args.mem.now in
    subst (λ (e : Event). Applied c.args.code.now (over v c.args.self.now) (event_of e) (over v c.take.new.self) c.take.result) (sym c.in-Take.is) (c.take.ensures v)

pub returns-in-Finish : goal.returns-in-Finish
returns-in-Finish g c =
    let v = g.V.Mem.view c.args.mem.now in
    subst (λ (e : Event). Applied c.args.code.now (over v c.args.self.now) (event_of e) (over v c.finish.new.self) c.finish.result) (sym c.in-Finish.is) (c.finish.ensures v)

pub returns-in-Join : goal.returns-in-Join
returns-in-Join g c =
    let v = g.V.Mem.view c.args.mem.now in
    subst (λ (e : Event). Applied c.args.code.now (over v c.args.self.now) (event_of e) (over v c.join.new.self) c.join.result) (sym c.in-Join.is) (c.join.ensures v)
