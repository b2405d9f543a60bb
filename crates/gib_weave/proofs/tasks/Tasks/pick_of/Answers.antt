use Rattle.std.proofs.Common.{refl, ap, ◌∙◌}
use Rattle.std.proofs.lemmas.Bool.{false≢true}
use Rattle.gib_machine.specs.Machine.{next}
use Rattle.gib_machine.specs.Stepping.{stand_of}
use Rattle.gib_weave.specs.Applied.{over}
use Rattle.gib_weave.specs.Weave.{Task, asks, task}
use Rattle.gib_weave.proofs.Picking.{none_off, by_what_it_asks, goes_on, at_fork, at_join, at_end}
use Rattle.gib_weave.proofs.tasks.Tasks.pick_of.Goals as goal

pub returns-then-not-is_on : goal.returns-then-not-is_on
returns-then-not-is_on c = λ v. none_off c.args.code.now (over v c.args.self.now) c.args.number (λ on. false≢true ((c.if-not-is_on.ensures.on v).1 on))

pub returns-in-Goes : goal.returns-in-Goes
returns-in-Goes c = λ v.
    let w = over v c.args.self.now in
    goes_on w.tasks c.args.number (task w.tasks c.args.number).sides (asks c.args.code.now w c.args.number) (c.in-Goes.ensures ∙ ap (λ (t : Task). stand_of (next c.args.code.now t.state)) c.at.ensures)
    ∙ by_what_it_asks c.args.code.now w c.args.number ((c.if-not-is_on.ensures.on v).0 refl)

pub returns-in-Fork : goal.returns-in-Fork
returns-in-Fork c = λ v.
    let w = over v c.args.self.now in
    at_fork w.tasks c.args.number (task w.tasks c.args.number).sides (asks c.args.code.now w c.args.number) (c.in-Fork.ensures ∙ ap (λ (t : Task). stand_of (next c.args.code.now t.state)) c.at.ensures)
    ∙ by_what_it_asks c.args.code.now w c.args.number ((c.if-not-is_on.ensures.on v).0 refl)

pub returns-in-Join : goal.returns-in-Join
returns-in-Join c = λ v.
    let w = over v c.args.self.now in
    c.pick_at_join.ensures
    ∙ at_join w.tasks c.args.number (task w.tasks c.args.number).sides (asks c.args.code.now w c.args.number) (c.in-Join.ensures ∙ ap (λ (t : Task). stand_of (next c.args.code.now t.state)) c.at.ensures)
    ∙ by_what_it_asks c.args.code.now w c.args.number ((c.if-not-is_on.ensures.on v).0 refl)

pub returns-in-End : goal.returns-in-End
returns-in-End c = λ v.
    let w = over v c.args.self.now in
    at_end w.tasks c.args.number (task w.tasks c.args.number).sides (asks c.args.code.now w c.args.number) (c.in-End.ensures ∙ ap (λ (t : Task). stand_of (next c.args.code.now t.state)) c.at.ensures)
    ∙ by_what_it_asks c.args.code.now w c.args.number ((c.if-not-is_on.ensures.on v).0 refl)
