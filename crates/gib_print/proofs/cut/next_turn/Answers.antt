use Rattle.std.proofs.Common.{List, reverse, subst}
use Rattle.gib_print.specs.Framing.{Turn}
use Rattle.gib_print.specs.declared.frame.Frame.{Frame}
use Rattle.gib_print.proofs.CutLemmas.{comes_turn}
use Rattle.gib_print.proofs.cut.next_turn.Goals as goal

pub returns-clause-comes : goal.returns-clause-comes
returns-clause-comes g c = λ names rest l.
    let turn = subst (λ (xs : List Frame). Turn c.args.layouts.now (g.M.Mem.view c.args.mem.now).cells (reverse xs) c.args.progress.now.end c.turn-printed.result (reverse c.turn-printed.new.progress.frames.items) c.turn-printed.new.progress.end)
    c.in_ok-reserve.ensures.items c.turn-printed.ensures.turn in
    comes_turn turn l
