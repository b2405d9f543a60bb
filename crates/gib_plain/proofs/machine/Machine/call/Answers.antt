use Rattle.std.proofs.Common.{◌≡◌, ◌-◌, ◌++◌, ◌∷◌, [], arith, refl, ◌∙◌, ap, length, map, List}
use Rattle.std.specs.List.{AllByRecursion}
use Rattle.std.proofs.Math.Seq.{drop-append_seam}
use Rattle.gib_types.specs.Tree.{Datum}
use Rattle.gib_value.specs.declared.node.Node.{Node}
use Rattle.gib_value.specs.Heap.{value_of, IsWithin}
use Rattle.gib_syntax.specs.Meaning.{bind, names_of}
use Rattle.gib_plain.specs.Running.{State, Waiting}
use Rattle.gib_plain.specs.Stacks.{cut}
use Rattle.gib_plain.proofs.Stacks.{bindings-within, env_over-bindings}
use Rattle.gib_plain.proofs.Moves.{held_at, held_pop, held_bind, within_parts, seen_at, bound, state_eq, frames_popped, popped}
use Rattle.gib_plain.proofs.machine.Machine.call.Goals as goal

pub between-done-requires-clause-start : goal.between-done-requires-clause-start
between-done-requires-clause-start c =
    let m = c.self.inside in
    let held = held_at m.heap m.vars.items m.temps.items m.frames.items c.pop.new.self.items _ m.base c.in-Some.ensures.items c.self.invariant.held in
    (popped _ _ _ _ _ _ held).start

pub between-done-requires-clause-end : goal.between-done-requires-clause-end
between-done-requires-clause-end c =
    let m = c.self.inside in
    let held = held_at m.heap m.vars.items m.temps.items m.frames.items c.pop.new.self.items _ m.base c.in-Some.ensures.items c.self.invariant.held in
    rw c.deref.ensures.value (popped _ _ _ _ _ _ held).temps

pub invariant_of-self-in_err-push_parameters : goal.invariant_of-self-in_err-push_parameters
invariant_of-self-in_err-push_parameters c =
    let m = c.self.inside in
    let held = held_at m.heap m.vars.items m.temps.items m.frames.items c.pop.new.self.items _ m.base c.in-Some.ensures.items c.self.invariant.held in
    let h = held_pop _ _ _ _ _ _ held in
    record { held = rw c.in_err-push_parameters.ensures (record { vars_within = h.vars_within; temps_within = h.temps_within; base_in = omega (arith, c.len-self-inside.ensures, m.vars.ok.0); nest = h.nest }); next = c.self.invariant.next }

pub invariant_of-self-2 : goal.invariant_of-self-2
invariant_of-self-2 c =
    let m = c.self.inside in
    let held = held_at m.heap m.vars.items m.temps.items m.frames.items c.pop.new.self.items _ m.base c.in-Some.ensures.items c.self.invariant.held in
    let within : AllByRecursion (IsWithin (length m.heap)) c.between-done.result.now = rw (c.between-done.ensures, c.deref.ensures.value) (within_parts _ _ _ _ _ _ held) in
    record { held = rw (c.in_ok-push_parameters.ensures, c.truncate.ensures.items) (held_bind _ _ _ _ _ _ _ c.len-self-inside.result held (bindings-within (length m.heap) (names_of c.args.parameters.now) c.between-done.result.now within) (omega (arith, c.len-self-inside.ensures, m.vars.ok.0))); next = tt }

pub returns : goal.returns
returns c = λ fs f e.
    let m = c.self.inside in
    let held = held_at m.heap m.vars.items m.temps.items m.frames.items c.pop.new.self.items _ m.base c.in-Some.ensures.items c.self.invariant.held in
    let seen = seen_at m.heap m.vars.items m.temps.items m.frames.items c.pop.new.self.items c.in-Some.frame (fs ++ f ∷ []) c.in-Some.ensures.items (ap (λ (s : State). s.frames) c.self.view_is ∙ e) in
    let r = frames_popped _ _ _ _ _ fs f seen in
    let d : map (value_of m.heap) c.between-done.result.now ≡ f.finished = ap (map (value_of m.heap)) (c.between-done.ensures ∙ ap (λ (ts : List Node). cut ts c.in-Some.frame.start c.in-Some.frame.temps_len) c.deref.ensures.value) ∙ ap (λ (a : Waiting). a.finished) r.1 in
    let start : c.len-self-inside.result ≡ length m.vars.items = c.len-self-inside.ensures ∙ m.vars.ok.0 in
    let env = env_over-bindings m.heap (names_of c.args.parameters.now) c.between-done.result.now [] ∙ ap (λ (vs : List Datum). bind (names_of c.args.parameters.now) vs []) d in
    state_eq _ _ _ _ _ _ _ _ (rw (c.in_ok-push_parameters.ensures, c.truncate.ensures.items) (bound _ _ _ _ _ _ _ fs f held seen)) (ap (λ (s : State). s.left - 1) c.self.view_is) (rw (c.in_ok-push_parameters.ensures, start, drop-append_seam) env) refl
