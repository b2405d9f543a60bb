use Rattle.std.proofs.Common.{◌≡◌, ◌++◌, ◌∷◌, [], ℕ, List, refl, sym, ap, subst, ◌∙◌, length, arith}
use Rattle.std.proofs.lemmas.Bool.{false≢true}
use Rattle.std.proofs.lemmas.List.{length-append}
use Rattle.gib_mem.specs.Plain.{nothing}
use Rattle.gib_weave.specs.Applied.{IsOldest, over, side_task}
use Rattle.gib_weave.specs.Weave.{HasWaiting, Stolen, Task, task}
use Rattle.gib_weave.proofs.Applying.{read_before, steal_applied}
use Rattle.gib_weave.proofs.tasks.Tasks.steal.Goals as goal

pub returns-then-not-can_be_stolen_from : goal.returns-then-not-can_be_stolen_from
returns-then-not-can_be_stolen_from c = λ v. (refl, λ h. absurd (false≢true ((c.if-not-can_be_stolen_from.ensures.on v).1 h)))

pub overflow_cast-side : goal.overflow_cast-side
overflow_cast-side c =
    let few = ((c.if-not-can_be_stolen_from.ensures.on (nothing 0)).0 refl).1 in
    let a = c.len-side.ensures in
    let l = ap length c.self.view_is in
    omega (arith, few, a, l)

pub add_oldest-requires-clause-few : goal.add_oldest-requires-clause-few
add_oldest-requires-clause-few c = ((c.if-not-can_be_stolen_from.ensures.on (nothing 0)).0 refl).1

pub add_oldest-requires-clause-waits : goal.add_oldest-requires-clause-waits
add_oldest-requires-clause-waits c = ((c.if-not-can_be_stolen_from.ensures.on (nothing 0)).0 refl).2

-- It runs, so its frames have the width of the code.
pub add_oldest-requires-clause-width : goal.add_oldest-requires-clause-width
add_oldest-requires-clause-width c = c.requires c.args.number ((c.if-not-can_be_stolen_from.ensures.on (nothing 0)).0 refl).0.here

pub index_mut-requires : goal.index_mut-requires
index_mut-requires c =
    let b = c.if-not-can_be_stolen_from.ensures.below refl in
    let n = side_task c.args.code.now c.in-Ok.ensures.added.0 in
    let l = ap length (c.self-2.view_is ∙ c.in-Ok.ensures.added.2) in
    let m = length-append c.args.self.now (n ∷ []) in
    let k = c.self-2.inside.items.ok in
    omega (arith, b, l, m, k)

pub begin_oldest-requires : goal.begin_oldest-requires
begin_oldest-requires c =
    let us = c.self-2.inside.items.items in
    let n = side_task c.args.code.now c.in-Ok.ensures.added.0 in
    let read = read_before c.args.self.now us c.args.number c.index_mut.result.now n c.index_mut.ensures.value (c.self-2.view_is ∙ c.in-Ok.ensures.added.2) (c.if-not-can_be_stolen_from.ensures.below refl) in
    subst (λ (t : Task). HasWaiting t.sides) (sym read) ((c.if-not-can_be_stolen_from.ensures.on (nothing 0)).0 refl).2

pub returns-in-Ok : goal.returns-in-Ok
returns-in-Ok c = λ v.
    let us = c.self-2.inside.items.items in
    let i = c.args.number in
    let o = c.in-Ok.ensures.added in
    let t = c.index_mut.result.now in
    let n = side_task c.args.code.now o.0 in
    let b = c.if-not-can_be_stolen_from.ensures.below refl in
    let can = (c.if-not-can_be_stolen_from.ensures.on v).0 refl in
    let all : us ≡ c.args.self.now ++ n ∷ [] = c.self-2.view_is ∙ o.2 in
    let read : t ≡ task c.args.self.now i = read_before c.args.self.now us i t n c.index_mut.ensures.value all b in
    let number : c.len-side.result ≡ length c.args.self.now = (let a = c.len-side.ensures in let d = ap length c.self.view_is in omega (arith, a, d)) in
    let begun = c.begin_oldest.ensures.begun o.0 (subst (λ (q : Task). IsOldest q.sides o.0) (sym read) o.1) in
    steal_applied c.args.code.now (over v c.args.self.now) us i o.0 t c.begin_oldest.new.self n can.0 b can.1 all read refl
    (subst (λ (j : ℕ). Stolen j t.sides o.0 c.begin_oldest.new.self.sides) number begun) c.begin_oldest.ensures.kept
