use Rattle.std.proofs.Common.{◌≡◌, ◌-◌, ◌++◌, ◌∷◌, [], ◌∙◌, ap, sym, length, take}
use Rattle.std.proofs.lemmas.Bool.{eqb-false}
use Rattle.gib_plain.specs.Running.{State, Waiting}
use Rattle.gib_plain.proofs.Moves.{last_at, held_at, seen_at, popped, frames_popped, done_len}
use Rattle.gib_plain.proofs.machine.Machine.top.Goals as goal

newest : (c : goal.After-struct_known-1) → c.self.inside.frames.items ≡ take (c.len.result - 1) c.self.inside.frames.items ++ c.index-frame.result.now ∷ []
newest c = last_at c.self.inside.frames.items c.len.result c.index-frame.result.now (c.len.ensures ∙ c.self.inside.frames.ok.0) (λ z. eqb-false _ 0 (sym c.is_empty.ensures ∙ c.if-is_empty.false) (sym c.len.ensures ∙ z)) c.index-frame.ensures

pub overflow_sub-result : goal.overflow_sub-result
overflow_sub-result c =
    let m = c.self.inside in
    (popped _ _ _ _ _ _ (held_at m.heap m.vars.items m.temps.items m.frames.items _ _ m.base (newest c) c.self.invariant.held)).start

pub returns : goal.returns
returns c = λ fs f e.
    let m = c.self.inside in
    let held = held_at m.heap m.vars.items m.temps.items m.frames.items _ _ m.base (newest c) c.self.invariant.held in
    let seen = seen_at m.heap m.vars.items m.temps.items m.frames.items _ c.index-frame.result.now (fs ++ f ∷ []) (newest c) (ap (λ (s : State). s.frames) c.self.view_is ∙ e) in
    let r = frames_popped _ _ _ _ _ fs f seen in
    (sym (ap (λ (a : Waiting). a.id) r.1), sym (ap (λ (a : Waiting). length a.finished) r.1) ∙ done_len _ _ _ _ _ _ held)
