use Rattle.std.proofs.Common.{◌≡◌, ◌+◌, ◌++◌, ◌∷◌, [], arith, ◌∙◌, ap, sym, subst, length, length-append, length-take}
use Rattle.gib_types.specs.Tree.{Datum}
use Rattle.gib_value.specs.Heap.{value_of, IsWithin}
use Rattle.gib_plain.specs.declared.machine.Now.{Now}
use Rattle.gib_plain.specs.Running.{State, Waiting, Leaving, with_done}
use Rattle.gib_plain.specs.Machines.{doing_of, IsNowWithin}
use Rattle.gib_plain.proofs.Moves.{held_at, held_back, held_taken, seen_at, taken, state_eq, frames_popped, popped}
use Rattle.gib_plain.proofs.machine.Machine.take_in.Goals as goal

pub invariant_of-self-in_err-push : goal.invariant_of-self-in_err-push
invariant_of-self-in_err-push c =
    let m = c.self.inside in
    let held = held_at m.heap m.vars.items m.temps.items m.frames.items c.pop.new.self.items _ m.base c.in-Some.ensures.items c.self.invariant.held in
    record { held = rw (c.truncate.ensures.items, c.in_err-push.ensures.items, c.truncate-2.ensures.items) (held_back _ _ _ _ _ _ held); next = c.self.invariant.next }

-- one more part
count : (c : goal.In_ok-push-2) → c.len.result ≡ c.in-Some.frame.temps_len + 1
count c =
    let m = c.self.inside in
    let held = held_at m.heap m.vars.items m.temps.items m.frames.items c.pop.new.self.items _ m.base c.in-Some.ensures.items c.self.invariant.held in
    let p = popped _ _ _ _ _ _ held in
    omega (arith, c.len.ensures, c.push.new.self.ok.0, ap length c.in_ok-push.ensures.items, ap length c.truncate-2.ensures.items, length-append c.truncate-2.new.self.items (c.in-Leave.value ∷ []), length-take c.in-Some.frame.temps_len m.temps.items, p.temps)

pub invariant_of-self-2 : goal.invariant_of-self-2
invariant_of-self-2 c =
    let m = c.self.inside in
    let held = held_at m.heap m.vars.items m.temps.items m.frames.items c.pop.new.self.items _ m.base c.in-Some.ensures.items c.self.invariant.held in
    let within : IsWithin (length m.heap) c.in-Leave.value = subst (λ (n : Now). IsNowWithin (length m.heap) n) c.in-Leave.is c.self.invariant.next in
    record { held = rw (c.truncate.ensures.items, c.in_ok-push-2.ensures.items, c.in_ok-push.ensures.items, c.truncate-2.ensures.items) (held_taken _ _ _ _ _ _ c.in-Leave.value c.len.result held within (count c)); next = c.self.invariant.next }

pub returns : goal.returns
returns c = λ fs f v d e.
    let m = c.self.inside in
    let held = held_at m.heap m.vars.items m.temps.items m.frames.items c.pop.new.self.items _ m.base c.in-Some.ensures.items c.self.invariant.held in
    let seen = seen_at m.heap m.vars.items m.temps.items m.frames.items c.pop.new.self.items c.in-Some.frame (fs ++ f ∷ []) c.in-Some.ensures.items (ap (λ (s : State). s.frames) c.self.view_is ∙ e) in
    let r = frames_popped _ _ _ _ _ fs f seen in
    let here : Leaving (value_of m.heap c.in-Leave.value) ≡ Leaving v = sym (ap (doing_of m.heap) c.in-Leave.is) ∙ ap (λ (s : State). s.doing) c.self.view_is ∙ d in
    let same : value_of m.heap c.in-Leave.value ≡ v = cc in
    let t = taken m.heap m.vars.items m.temps.items c.pop.new.self.items c.in-Some.frame m.base c.in-Leave.value c.len.result fs f held (count c) seen in
    state_eq _ _ _ _ _ _ _ _ (rw (c.truncate.ensures.items, c.in_ok-push-2.ensures.items, c.in_ok-push.ensures.items, c.truncate-2.ensures.items) (t ∙ ap (λ (w : Datum). fs ++ with_done f w ∷ []) same)) (ap (λ (a : Waiting). a.left) r.1) (rw c.truncate.ensures.items (ap (λ (a : Waiting). a.env) r.1)) (ap (λ (s : State). s.doing) c.self.view_is)
