use Rattle.std.proofs.Common.{◌≤◌, ◌-◌, List, ap, subst, length, drop, reverse, sym, ◌∙◌}
use Rattle.gib_lower.proofs.Lists.{cut_view}
use Rattle.gib_lower.proofs.stack.Stack.leave.Goals as goal

pub returns : goal.returns
returns g c =
    let n = c.args.count in
    ap reverse c.truncate.ensures.items ∙ cut_view c.self.inside.items.items n (subst (λ (l : List _). n ≤ length l) (sym c.self.view_is) c.requires)
    ∙ ap (λ (l : List _). drop (length l - n) l) c.self.view_is
