use Rattle.std.proofs.Common.{List, refl, ap, ◌∙◌}
use Rattle.std.proofs.lemmas.Bool.{false≢true}
use Rattle.gib_weave.specs.Applied.{over}
use Rattle.gib_weave.specs.Weave.{Task, pick_steal}
use Rattle.gib_weave.proofs.Opening.{newest_to_steal, none_to_steal}
use Rattle.gib_weave.proofs.open_tasks.OpenTasks.pick_steal.Goals as goal

pub returns-in-None : goal.returns-in-None
returns-in-None c = λ v.
    none_to_steal (over v c.self.inside.tasks) c.self.inside.numbers c.self.invariant (λ l. false≢true (c.in-None.ensures.variant.1 l))
    ∙ c.if-not-has_steals.ensures.yes v refl ∙ ap (λ (ts : List Task). pick_steal (over v ts)) c.self.view_is

pub returns-in-Some : goal.returns-in-Some
returns-in-Some c = λ v.
    newest_to_steal (over v c.self.inside.tasks) c.self.inside.numbers c.in-Some.number.now c.self.invariant c.in-Some.ensures.member c.in-Some.ensures.greatest
    ∙ c.if-not-has_steals.ensures.yes v refl ∙ ap (λ (ts : List Task). pick_steal (over v ts)) c.self.view_is
