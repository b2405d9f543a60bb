use Rattle.std.proofs.Common.{ℕ, reverse, rules, tests, ◌∙◌}
use Rattle.std.specs.Prelude.{◌==◌}
use Rattle.std.proofs.lemmas.Iterator.Search.{any_from_yields_List}
use Rattle.std.proofs.lemmas.Iterator.Adapters.{YieldsList-from_rev_slice}
use Rattle.gib_local.proofs.Scoping.{search_in}
use Rattle.gib_local.proofs.unused.is_listed.Goals as goal

pub returns : goal.returns
returns c =
    let test = λ (y : ℕ). y == c.args.number in
    any_from_yields_List test _ _ _ c.any.ensures.ran (YieldsList-from_rev_slice c.args.numbers.now cc) (λ x b q k. search (rules, tests))
    ∙ search_in (reverse c.args.numbers.now) c.args.number
