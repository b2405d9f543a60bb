use Rattle.std.proofs.Common.{◌≡◌, ◌++◌, ◌∷◌, [], refl, ◌∙◌, ap, drop, length, map, List}
use Rattle.std.specs.List.{AllByRecursion}
use Rattle.gib_types.specs.Tree.{Datum}
use Rattle.gib_value.specs.declared.node.Node.{Node}
use Rattle.gib_value.specs.Heap.{value_of, IsWithin}
use Rattle.gib_syntax.specs.Meaning.{bind}
use Rattle.gib_plain.specs.Running.{State, Waiting}
use Rattle.gib_plain.specs.Stacks.{cut, env_of}
use Rattle.gib_plain.proofs.Stacks.{bindings-within}
use Rattle.gib_plain.proofs.Moves.{held_at, held_pop, held_bind, within_parts, seen_at, bound, env_bound, state_eq, frames_popped, popped}
use Rattle.gib_plain.proofs.machine.Machine.bind.Goals as goal

pub between-done-requires-clause-start : goal.between-done-requires-clause-start
between-done-requires-clause-start c =
    let m = c.self.inside in
    let held = held_at m.heap m.vars.items m.temps.items m.frames.items c.pop.new.self.items _ m.base c.in-Some.ensures.items c.self.invariant.held in
    (popped _ _ _ _ _ _ held).start

pub between-done-requires-clause-end : goal.between-done-requires-clause-end
between-done-requires-clause-end c =
    let m = c.self.inside in
    let held = held_at m.heap m.vars.items m.temps.items m.frames.items c.pop.new.self.items _ m.base c.in-Some.ensures.items c.self.invariant.held in
    rw c.deref.ensures.value (popped _ _ _ _ _ _ held).temps

pub invariant_of-self-in_err-push_bindings : goal.invariant_of-self-in_err-push_bindings
invariant_of-self-in_err-push_bindings c =
    let m = c.self.inside in
    let held = held_at m.heap m.vars.items m.temps.items m.frames.items c.pop.new.self.items _ m.base c.in-Some.ensures.items c.self.invariant.held in
    record { held = rw c.in_err-push_bindings.ensures (held_pop _ _ _ _ _ _ held); next = c.self.invariant.next }

pub invariant_of-self-2 : goal.invariant_of-self-2
invariant_of-self-2 c =
    let m = c.self.inside in
    let held = held_at m.heap m.vars.items m.temps.items m.frames.items c.pop.new.self.items _ m.base c.in-Some.ensures.items c.self.invariant.held in
    let within : AllByRecursion (IsWithin (length m.heap)) c.between-done.result.now = rw (c.between-done.ensures, c.deref.ensures.value) (within_parts _ _ _ _ _ _ held) in
    record { held = rw (c.in_ok-push_bindings.ensures, c.truncate.ensures.items) (held_bind _ _ _ _ _ _ _ m.base held (bindings-within (length m.heap) c.args.names.now c.between-done.result.now within) c.self.invariant.held.base_in); next = tt }

pub returns : goal.returns
returns c = λ fs f e.
    let m = c.self.inside in
    let held = held_at m.heap m.vars.items m.temps.items m.frames.items c.pop.new.self.items _ m.base c.in-Some.ensures.items c.self.invariant.held in
    let seen = seen_at m.heap m.vars.items m.temps.items m.frames.items c.pop.new.self.items c.in-Some.frame (fs ++ f ∷ []) c.in-Some.ensures.items (ap (λ (s : State). s.frames) c.self.view_is ∙ e) in
    let r = frames_popped _ _ _ _ _ fs f seen in
    let d : map (value_of m.heap) c.between-done.result.now ≡ f.finished = ap (map (value_of m.heap)) (c.between-done.ensures ∙ ap (λ (ts : List Node). cut ts c.in-Some.frame.start c.in-Some.frame.temps_len) c.deref.ensures.value) ∙ ap (λ (a : Waiting). a.finished) r.1 in
    let env = env_bound m.heap m.vars.items c.args.names.now c.between-done.result.now m.base c.self.invariant.held.base_in ∙ ap (λ (vs : List Datum). bind c.args.names.now vs (env_of m.heap (drop m.base m.vars.items))) d ∙ ap (bind c.args.names.now f.finished) (ap (λ (s : State). s.env) c.self.view_is) in
    state_eq _ _ _ _ _ _ _ _ (rw (c.in_ok-push_bindings.ensures, c.truncate.ensures.items) (bound _ _ _ _ _ _ _ fs f held seen)) (ap (λ (s : State). s.left) c.self.view_is) (rw c.in_ok-push_bindings.ensures env) refl
