use Rattle.std.proofs.Common.{◌≡◌, ◌++◌, ◌∷◌, [], refl, ◌∙◌, ap, drop, length, map, List}
use Rattle.std.specs.List.{AllByRecursion}
use Rattle.gib_types.specs.Tree.{Datum}
use Rattle.gib_value.specs.declared.node.Node.{Node}
use Rattle.gib_value.specs.Heap.{value_of, IsWithin}
use Rattle.gib_syntax.specs.Meaning.{Environment, bind_results, names_of}
use Rattle.gib_plain.specs.Running.{State, Waiting, value_at}
use Rattle.gib_plain.specs.Stacks.{cut, env_of, env_over, IsBound}
use Rattle.gib_plain.proofs.Stacks.{env_over-append}
use Rattle.gib_plain.proofs.Moves.{held_at, held_pop, held_bind, held_more, adds_both, within_parts, seen_at, bound, env_added, state_eq, frames_popped, popped}
use Rattle.gib_plain.proofs.machine.Machine.bind_two.Goals as goal
use Rattle.gib_value.proofs.HeapLemmas.{All-append}

pub between-done-requires-clause-start : goal.between-done-requires-clause-start
between-done-requires-clause-start c =
    let m = c.self.inside in
    let held = held_at m.heap m.vars.items m.temps.items m.frames.items c.pop.new.self.items _ m.base c.in-Some.ensures.items c.self.invariant.held in
    (popped _ _ _ _ _ _ held).start

pub between-done-requires-clause-end : goal.between-done-requires-clause-end
between-done-requires-clause-end c =
    let m = c.self.inside in
    let held = held_at m.heap m.vars.items m.temps.items m.frames.items c.pop.new.self.items _ m.base c.in-Some.ensures.items c.self.invariant.held in
    rw c.deref.ensures.value (popped _ _ _ _ _ _ held).temps

pub push_results-requires : goal.push_results-requires
push_results-requires c =
    let m = c.self.inside in
    let held = held_at m.heap m.vars.items m.temps.items m.frames.items c.pop.new.self.items _ m.base c.in-Some.ensures.items c.self.invariant.held in
    c.node_at-first.ensures.within (length m.heap) (rw (c.between-done.ensures, c.deref.ensures.value) (within_parts _ _ _ _ _ _ held))

pub push_results-requires-2 : goal.push_results-requires-2
push_results-requires-2 c =
    let m = c.self.inside in
    let held = held_at m.heap m.vars.items m.temps.items m.frames.items c.pop.new.self.items _ m.base c.in-Some.ensures.items c.self.invariant.held in
    c.node_at-second.ensures.within (length m.heap) (rw (c.between-done.ensures, c.deref.ensures.value) (within_parts _ _ _ _ _ _ held))

pub invariant_of-self-in_err-push_results : goal.invariant_of-self-in_err-push_results
invariant_of-self-in_err-push_results c =
    let m = c.self.inside in
    let held = held_at m.heap m.vars.items m.temps.items m.frames.items c.pop.new.self.items _ m.base c.in-Some.ensures.items c.self.invariant.held in
    let a = c.in_err-push_results.ensures in
    record { held = rw a.1 (held_more _ _ _ _ _ _ (held_pop _ _ _ _ _ _ held) a.2); next = c.self.invariant.next }

pub invariant_of-self-in_err-push_results-2 : goal.invariant_of-self-in_err-push_results-2
invariant_of-self-in_err-push_results-2 c =
    let m = c.self.inside in
    let held = held_at m.heap m.vars.items m.temps.items m.frames.items c.pop.new.self.items _ m.base c.in-Some.ensures.items c.self.invariant.held in
    let a = c.in_ok-push_results.ensures in
    let b = c.in_err-push_results-2.ensures in
    record { held = rw (b.1, a.1) (held_more _ _ _ _ _ _ (held_more _ _ _ _ _ _ (held_pop _ _ _ _ _ _ held) a.2) b.2); next = c.self.invariant.next }

pub invariant_of-self-2 : goal.invariant_of-self-2
invariant_of-self-2 c =
    let m = c.self.inside in
    let held = held_at m.heap m.vars.items m.temps.items m.frames.items c.pop.new.self.items _ m.base c.in-Some.ensures.items c.self.invariant.held in
    let a = c.in_ok-push_results.ensures in
    let b = c.in_ok-push_results-2.ensures in
    let both = adds_both _ _ _ a.0 b.0 a.1 b.1 in
    record { held = rw (both, c.truncate.ensures.items) (held_bind _ _ _ _ _ _ _ m.base held (All-append (IsBound (length m.heap)) a.0 b.0 a.2 b.2) c.self.invariant.held.base_in); next = tt }

pub returns : goal.returns
returns c = λ fs f e.
    let m = c.self.inside in
    let held = held_at m.heap m.vars.items m.temps.items m.frames.items c.pop.new.self.items _ m.base c.in-Some.ensures.items c.self.invariant.held in
    let seen = seen_at m.heap m.vars.items m.temps.items m.frames.items c.pop.new.self.items c.in-Some.frame (fs ++ f ∷ []) c.in-Some.ensures.items (ap (λ (s : State). s.frames) c.self.view_is ∙ e) in
    let r = frames_popped _ _ _ _ _ fs f seen in
    let d : map (value_of m.heap) c.between-done.result.now ≡ f.finished = ap (map (value_of m.heap)) (c.between-done.ensures ∙ ap (λ (ts : List Node). cut ts c.in-Some.frame.start c.in-Some.frame.temps_len) c.deref.ensures.value) ∙ ap (λ (a : Waiting). a.finished) r.1 in
    let v : value_of m.heap c.node_at-first.result ≡ value_at f.finished 0 = c.node_at-first.ensures.value m.heap ∙ ap (λ (vs : List Datum). value_at vs 0) d in
    let w : value_of m.heap c.node_at-second.result ≡ value_at f.finished 1 = c.node_at-second.ensures.value m.heap ∙ ap (λ (vs : List Datum). value_at vs 1) d in
    let xs = names_of c.args.left.now in
    let ys = names_of c.args.right.now in
    let here = env_of m.heap (drop m.base m.vars.items) in
    let a = c.in_ok-push_results.ensures in
    let b = c.in_ok-push_results-2.ensures in
    let both = adds_both _ _ _ a.0 b.0 a.1 b.1 in
    let change : Environment → Environment = λ env. bind_results ys (value_of m.heap c.node_at-second.result) (bind_results xs (value_of m.heap c.node_at-first.result) env) in
    let env = env_added m.heap m.vars.items (a.0 ++ b.0) m.base change c.self.invariant.held.base_in
    (λ env. env_over-append m.heap a.0 b.0 env ∙ b.3 (env_over m.heap a.0 env) ∙ ap (bind_results ys (value_of m.heap c.node_at-second.result)) (a.3 env))
    ∙ ap (λ (u : Datum). bind_results ys (value_of m.heap c.node_at-second.result) (bind_results xs u here)) v
    ∙ ap (λ (u : Datum). bind_results ys u (bind_results xs (value_at f.finished 0) here)) w
    ∙ ap (λ (u : Environment). bind_results ys (value_at f.finished 1) (bind_results xs (value_at f.finished 0) u)) (ap (λ (s : State). s.env) c.self.view_is) in
    state_eq _ _ _ _ _ _ _ _ (rw (both, c.truncate.ensures.items) (bound _ _ _ _ _ _ _ fs f held seen)) (ap (λ (s : State). s.left) c.self.view_is) (rw both env) refl
