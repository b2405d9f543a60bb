use Rattle.std.proofs.Common.{◌≡◌, ◌++◌, ◌∷◌, [], ◌∙◌, ap, map, length, List}
use Rattle.gib_types.specs.Tree.{Datum}
use Rattle.gib_types.specs.declared.table.Ty.{Ty}
use Rattle.gib_syntax.specs.Meaning.{tuple}
use Rattle.gib_value.specs.declared.node.Node.{Node}
use Rattle.gib_value.specs.Heap.{value_of}
use Rattle.gib_syntax.specs.Parts.{program_of}
use Rattle.gib_syntax.specs.Declarations.{table_of_program}
use Rattle.gib_plain.specs.Running.{State, Waiting, Leaving, types_in}
use Rattle.gib_plain.specs.Stacks.{cut}
use Rattle.gib_plain.specs.Turns.{in_place}
use Rattle.gib_plain.proofs.Moves.{held_at, held_pop, held_drop, within_parts, seen_at, dropped, state_eq, frames_popped, popped, grown}
use Rattle.gib_plain.proofs.machine.Machine.build_tuple.Goals as goal

pub between-done-requires-clause-start : goal.between-done-requires-clause-start
between-done-requires-clause-start c =
    let m = c.self.inside in
    let held = held_at m.heap m.vars.items m.temps.items m.frames.items c.pop.new.self.items _ m.base c.in-Some.ensures.items c.self.invariant.held in
    (popped _ _ _ _ _ _ held).start

pub between-done-requires-clause-end : goal.between-done-requires-clause-end
between-done-requires-clause-end c =
    let m = c.self.inside in
    let held = held_at m.heap m.vars.items m.temps.items m.frames.items c.pop.new.self.items _ m.base c.in-Some.ensures.items c.self.invariant.held in
    rw c.deref.ensures.value (popped _ _ _ _ _ _ held).temps

pub make-requires : goal.make-requires
make-requires c =
    let m = c.self.inside in
    let held = held_at m.heap m.vars.items m.temps.items m.frames.items c.pop.new.self.items _ m.base c.in-Some.ensures.items c.self.invariant.held in
    rw (c.between-done.ensures, c.deref.ensures.value) (within_parts _ _ _ _ _ _ held)

pub invariant_of-self-in_err-value : goal.invariant_of-self-in_err-value
invariant_of-self-in_err-value c =
    let m = c.self.inside in
    let held = held_at m.heap m.vars.items m.temps.items m.frames.items c.pop.new.self.items _ m.base c.in-Some.ensures.items c.self.invariant.held in
    record { held = rw c.in_err-value.ensures.refused (held_pop _ _ _ _ _ _ held); next = rw c.in_err-value.ensures.refused c.self.invariant.next }

pub invariant_of-self-2 : goal.invariant_of-self-2
invariant_of-self-2 c =
    let m = c.self.inside in
    let held = held_at m.heap m.vars.items m.temps.items m.frames.items c.pop.new.self.items _ m.base c.in-Some.ensures.items c.self.invariant.held in
    record { held = rw c.truncate.ensures.items (grown _ _ _ _ _ _ _ c.in_ok-value.ensures.kept.1 (held_drop _ _ _ _ _ _ held)).0; next = c.in_ok-value.ensures.within }

pub returns : goal.returns
returns c = λ fs f e.
    let m = c.self.inside in
    let held = held_at m.heap m.vars.items m.temps.items m.frames.items c.pop.new.self.items _ m.base c.in-Some.ensures.items c.self.invariant.held in
    let seen = seen_at m.heap m.vars.items m.temps.items m.frames.items c.pop.new.self.items c.in-Some.frame (fs ++ f ∷ []) c.in-Some.ensures.items (ap (λ (s : State). s.frames) c.self.view_is ∙ e) in
    let r = frames_popped _ _ _ _ _ fs f seen in
    let d : map (value_of m.heap) c.between-done.result.now ≡ f.finished = ap (map (value_of m.heap)) (c.between-done.ensures ∙ ap (λ (ts : List Node). cut ts c.in-Some.frame.start c.in-Some.frame.temps_len) c.deref.ensures.value) ∙ ap (λ (a : Waiting). a.finished) r.1 in
    let made = c.in_ok-value.ensures.made ∙ ap (λ (vs : List Datum). tuple (in_place c.deref-2.result.now vs)) d ∙ ap (λ (ts : List Ty). tuple (in_place ts f.finished)) (c.deref-2.ensures.value ∙ c.in_ok-push_types.ensures ∙ ap (λ (us : List Ty). us ++ types_in (table_of_program (program_of c.args.typed.now)) c.args.names.now) c.clear.ensures.items) in
    let g = grown _ _ _ _ _ _ _ c.in_ok-value.ensures.kept.1 (held_drop _ _ _ _ _ _ held) in
    state_eq _ _ _ _ _ _ _ _ (rw c.truncate.ensures.items (g.1 ∙ dropped _ _ _ _ _ _ fs f held seen)) (ap (λ (s : State). s.left) c.self.view_is) (g.2 ∙ ap (λ (s : State). s.env) c.self.view_is) (ap Leaving made)
