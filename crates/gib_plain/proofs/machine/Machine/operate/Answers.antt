use Rattle.std.proofs.Common.{◌≡◌, ◌++◌, ◌∷◌, [], ◌∙◌, ap, length, List, ℤ, map}
use Rattle.gib_types.specs.Tree.{Datum}
use Rattle.gib_value.specs.declared.node.Node.{Node}
use Rattle.gib_value.specs.Heap.{value_of}
use Rattle.gib_syntax.specs.Meaning.{number_in, outcome}
use Rattle.gib_plain.specs.Running.{State, Waiting, doing_for, value_at}
use Rattle.gib_plain.specs.Stacks.{cut}
use Rattle.gib_plain.proofs.Moves.{held_at, held_drop, seen_at, dropped, state_eq, frames_popped, popped}
use Rattle.gib_plain.proofs.machine.Machine.operate.Goals as goal

pub between-done-requires-clause-start : goal.between-done-requires-clause-start
between-done-requires-clause-start c =
    let m = c.self.inside in
    let held = held_at m.heap m.vars.items m.temps.items m.frames.items c.pop.new.self.items _ m.base c.in-Some.ensures.items c.self.invariant.held in
    (popped _ _ _ _ _ _ held).start

pub between-done-requires-clause-end : goal.between-done-requires-clause-end
between-done-requires-clause-end c =
    let m = c.self.inside in
    let held = held_at m.heap m.vars.items m.temps.items m.frames.items c.pop.new.self.items _ m.base c.in-Some.ensures.items c.self.invariant.held in
    rw c.deref.ensures.value (popped _ _ _ _ _ _ held).temps

pub invariant_of-self-2 : goal.invariant_of-self-2
invariant_of-self-2 c =
    let m = c.self.inside in
    let held = held_at m.heap m.vars.items m.temps.items m.frames.items c.pop.new.self.items _ m.base c.in-Some.ensures.items c.self.invariant.held in
    record { held = rw c.truncate.ensures.items (held_drop _ _ _ _ _ _ held); next = c.operated-next.ensures.within (length m.heap) }

pub returns : goal.returns
returns c = λ fs f e.
    let m = c.self.inside in
    let held = held_at m.heap m.vars.items m.temps.items m.frames.items c.pop.new.self.items _ m.base c.in-Some.ensures.items c.self.invariant.held in
    let seen = seen_at m.heap m.vars.items m.temps.items m.frames.items c.pop.new.self.items c.in-Some.frame (fs ++ f ∷ []) c.in-Some.ensures.items (ap (λ (s : State). s.frames) c.self.view_is ∙ e) in
    let r = frames_popped _ _ _ _ _ fs f seen in
    let d : map (value_of m.heap) c.between-done.result.now ≡ f.finished = ap (map (value_of m.heap)) (c.between-done.ensures ∙ ap (λ (ts : List Node). cut ts c.in-Some.frame.start c.in-Some.frame.temps_len) c.deref.ensures.value) ∙ ap (λ (a : Waiting). a.finished) r.1 in
    let n0 = ap number_in (c.node_at.ensures.value m.heap ∙ ap (λ (vs : List Datum). value_at vs 0) d) in
    let n1 = ap number_in (c.node_at-2.ensures.value m.heap ∙ ap (λ (vs : List Datum). value_at vs 1) d) in
    let next = c.operated-next.ensures.value m.heap ∙ ap (λ (z : ℤ). doing_for (outcome c.args.operator z (number_in (value_of m.heap c.node_at-2.result)))) n0 ∙ ap (λ (z : ℤ). doing_for (outcome c.args.operator (number_in (value_at f.finished 0)) z)) n1 in
    state_eq _ _ _ _ _ _ _ _ (rw c.truncate.ensures.items (dropped _ _ _ _ _ _ fs f held seen)) (ap (λ (s : State). s.left) c.self.view_is) (ap (λ (s : State). s.env) c.self.view_is) next
