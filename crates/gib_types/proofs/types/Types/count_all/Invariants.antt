use Rattle.std.proofs.Common.{◌≡◌, ◌≤◌, ◌+◌, drop}
use Rattle.gib_types.specs.Types.{forms_of, forms_at, cut}
use Rattle.gib_types.specs.Form.{all_words}
use Rattle.gib_types.proofs.types.Types.count_all.Given as goal

-- the sum so far and the words of the arguments that are left
abbrev pub invariant-loop-argument : goal.invariant-loop-argument
invariant-loop-argument l = (l.sum ≤ 65)
    × (cut (l.sum + all_words (forms_at (forms_of l.fn.self) (drop l.argument-index l.fn.arguments))) ≡ cut (all_words (forms_at (forms_of l.fn.self) l.fn.arguments) + 1))
