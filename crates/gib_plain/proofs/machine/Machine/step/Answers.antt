use Rattle.std.proofs.Common.{◌≡◌, ◌∙◌, ap, sym}
use Rattle.gib_value.specs.Heap.{value_of}
use Rattle.gib_plain.specs.Machines.{doing_of}
use Rattle.gib_plain.specs.Running.{State, Leaving, with_done, IsReady, code_of}
use Rattle.gib_plain.proofs.Steps.{goes_leaving, newest, has_frames, on_ok}
use Rattle.gib_plain.proofs.machine.Machine.step.Goals as goal

pub returns-in_ok-take_in-in-Leave : goal.returns-in_ok-take_in-in-Leave
returns-in_ok-take_in-in-Leave c =
    let s = c.args.self.now in
    let v = value_of c.self.inside.heap c.in-Leave.field-0 in
    let here : s.doing ≡ Leaving v = sym (ap (λ (t : State). t.doing) c.self.view_is) ∙ ap (doing_of c.self.inside.heap) c.in-Leave.is in
    let n = newest s.frames (has_frames s v here c.requires) in
    let t = c.in_ok-take_in-in-Leave.ensures n.0 n.1 v here n.2 in
    let ready : IsReady c.take_in.new.self n.0 (with_done n.1 v) = record { frames = ap (λ (u : State). u.frames) t; left = ap (λ (u : State). u.left) t; env = ap (λ (u : State). u.env) t } in
    on_ok c.go_on.result
    (λ h. goes_leaving (code_of c.args.typed.now) s _ v n.0 n.1 here n.2 (h n.0 (with_done n.1 v) ready))
    c.go_on.ensures
