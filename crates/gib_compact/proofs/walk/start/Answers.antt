use Rattle.std.proofs.Common.{ℕ, List, [], reverse, sym, subst, append-nil}
use Rattle.gib_file.specs.Packed.{tree}
use Rattle.gib_compact.specs.declared.walk.Back.{Back}
use Rattle.gib_compact.specs.Left.{Left, over, value}
use Rattle.gib_compact.proofs.walk.start.Goals as goal

pub returns-clause-left : goal.returns-clause-left
returns-clause-left c = λ laid s t v z d.
    subst (λ (x : List Back). Left laid s c.args.at 1 (reverse x) (tree v)) (sym c.new.ensures.items)
    (subst (λ (x : List ℕ). Left laid s c.args.at 1 [] x) (append-nil (tree v)) (value d over))
