use Rattle.std.proofs.Common.{refl, ◌∙◌}
use Rattle.gib_plain.proofs.Moves.{held_wait}
use Rattle.gib_plain.proofs.machine.Machine.wait.Goals as goal

pub invariant_of-self-2 : goal.invariant_of-self-2
invariant_of-self-2 c = record {
  held = rw c.in_ok-push.ensures.items (held_wait c.self.inside.heap c.self.inside.vars.items c.self.inside.temps.items c.self.inside.frames.items c.self.inside.base _ c.self.invariant.held refl (c.len-vars_len.ensures ∙ c.self.inside.vars.ok.0) (c.len-temps_len.ensures ∙ c.self.inside.temps.ok.0) (c.len-temps_len.ensures ∙ c.self.inside.temps.ok.0));
  next = c.self.invariant.next;
}
