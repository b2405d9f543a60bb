use Rattle.std.proofs.Common.{refl, ap, length, arith}
use Rattle.std.proofs.lemmas.Bool.{false≢true}
use Rattle.gib_weave.specs.Applied.{over}
use Rattle.gib_weave.specs.Weave.{Weave, IsOn}
use Rattle.gib_weave.proofs.Applying.{can_step, on_below, read_step_applied, read_task}
use Rattle.gib_weave.proofs.tasks.Tasks.step.Goals as goal

pub returns-then-not-is_on : goal.returns-then-not-is_on
returns-then-not-is_on g c = (refl, λ h. absurd (false≢true ((c.if-not-is_on.ensures.on (g.V.Mem.view c.args.mem.now)).1 h.0)))

pub index_mut-requires : goal.index_mut-requires
index_mut-requires g c =
    let v : Weave = over (g.V.Mem.view c.args.mem.now) c.args.self.now in
    let on : IsOn v c.args.number = (c.if-not-is_on.ensures.on v.memory).0 refl in
    let b = on_below v c.args.number on in
    let l = ap length c.self.view_is in
    let k = c.self.inside.items.ok in
    omega (arith, b, l, k)

pub step-turn-requires : goal.step-turn-requires
step-turn-requires g c =
    let v : Weave = over (g.V.Mem.view c.args.mem.now) c.args.self.now in
    let on : IsOn v c.args.number = (c.if-not-is_on.ensures.on v.memory).0 refl in
    can_step c.args.code.now v c.args.number c.index_mut.result.now c.requires on (read_task c.args.self.now c.self.inside.items.items c.args.number c.index_mut.result.now c.index_mut.ensures.value c.self.view_is (on_below v c.args.number on))

pub returns : goal.returns
returns g c =
    let v : Weave = over (g.V.Mem.view c.args.mem.now) c.args.self.now in
    let on : IsOn v c.args.number = (c.if-not-is_on.ensures.on v.memory).0 refl in
    read_step_applied c.args.code.now v c.self.inside.items.items c.args.number _ c.index_mut.result.now c.step-turn.new.self c.step-turn.result c.stepped.result on c.requires c.self.view_is
    (read_task c.args.self.now c.self.inside.items.items c.args.number c.index_mut.result.now c.index_mut.ensures.value c.self.view_is (on_below v c.args.number on))
    c.step-turn.ensures.made c.step-turn.ensures.kept c.stepped.ensures
