use Rattle.std.proofs.Common.{◌<◌, ◌^◌, refl, ap, length, arith}
use Rattle.std.proofs.lemmas.Bool.{false≢true}
use Rattle.gib_weave.specs.Applied.{over}
use Rattle.gib_weave.proofs.Picking.{fewer, steal_ended, steal_few}
use Rattle.gib_weave.proofs.tasks.Tasks.has_steals.Goals as goal

pub returns-then-not-is_on-clause-no : goal.returns-then-not-is_on-clause-no
returns-then-not-is_on-clause-no c = λ v e. steal_ended (over v c.args.self.now) (λ on. false≢true ((c.if-not-is_on.ensures.on v).1 on))

pub returns-clause-yes : goal.returns-clause-yes
returns-clause-yes c = λ v h.
    let few : length c.args.self.now < 2 ^ 32 = (let l = fewer c.len.result h in let a = c.len.ensures in let o = c.self.inside.items.ok in let d = ap length c.self.view_is in omega (arith, l, a, o, d)) in
    steal_few (over v c.args.self.now) ((c.if-not-is_on.ensures.on v).0 refl) few
