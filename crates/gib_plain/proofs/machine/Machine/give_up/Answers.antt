use Rattle.std.proofs.Common.{◌++◌, ◌∷◌, [], refl, ◌∙◌, ap}
use Rattle.gib_plain.specs.Running.{State}
use Rattle.gib_plain.proofs.Moves.{held_at, held_drop, seen_at, dropped, state_eq}
use Rattle.gib_plain.proofs.machine.Machine.give_up.Goals as goal

pub invariant_of-self-2 : goal.invariant_of-self-2
invariant_of-self-2 c =
    let m = c.self.inside in
    let held = held_at m.heap m.vars.items m.temps.items m.frames.items c.pop.new.self.items _ m.base c.in-Some.ensures.items c.self.invariant.held in
    record { held = rw c.truncate.ensures.items (held_drop _ _ _ _ _ _ held); next = tt }

pub returns : goal.returns
returns c = λ fs f e.
    let m = c.self.inside in
    let held = held_at m.heap m.vars.items m.temps.items m.frames.items c.pop.new.self.items _ m.base c.in-Some.ensures.items c.self.invariant.held in
    let seen = seen_at m.heap m.vars.items m.temps.items m.frames.items c.pop.new.self.items c.in-Some.frame (fs ++ f ∷ []) c.in-Some.ensures.items (ap (λ (s : State). s.frames) c.self.view_is ∙ e) in
    state_eq _ _ _ _ _ _ _ _ (rw c.truncate.ensures.items (dropped _ _ _ _ _ _ fs f held seen)) (ap (λ (s : State). s.left) c.self.view_is) (ap (λ (s : State). s.env) c.self.view_is) refl
