use Rattle.std.proofs.Common.{◌≡◌, ℕ, List, ◌∷◌, [], reverse, sym, ap, subst, ◌∙◌}
use Rattle.std.proofs.lemmas.List.{reverse-append}
use Rattle.gib_compact.specs.declared.walk.Back.{Back}
use Rattle.gib_compact.specs.Left.{Left, back}
use Rattle.gib_compact.proofs.LeftLemmas.{Left-anywhere}
use Rattle.gib_compact.proofs.walk.leave.Goals as goal

pub returns-then-walk-eq0-clause-left : goal.returns-then-walk-eq0-clause-left
returns-then-walk-eq0-clause-left c = λ laid s a rest l.
    let bs = reverse c.args.walk.now.back.items in
    let e = c.if-walk-eq0.true in
    subst (λ (x : ℕ). Left laid s a x bs rest) (sym e) (Left-anywhere a (subst (λ (x : ℕ). Left laid s c.args.end x bs rest) e l))

pub returns-clause-left : goal.returns-clause-left
returns-clause-left c = λ laid s a rest l.
    let b : Back = record { at = c.args.end; due = c.args.walk.now.due } in
    let e : reverse c.push.new.self.items ≡ b ∷ reverse c.args.walk.now.back.items = ap reverse c.in_ok-push.ensures.items ∙ reverse-append c.args.walk.now.back.items (b ∷ []) in
    subst (λ (x : List Back). Left laid s a 0 x rest) (sym e) (back {b = b} l)
