use Rattle.std.proofs.Common.{rules}
use Rattle.gib_place.proofs.Shifted.{case_shifted, tuple_shifted}
use Rattle.gib_place.proofs.renumber.copying.renamed_branching.Goals as goal

pub returns-in_ok-branches-in-Case : goal.returns-in_ok-branches-in-Case
returns-in_ok-branches-in-Case c = let h = case_shifted in search rules

pub returns-in_ok-parts-in-Tuple : goal.returns-in_ok-parts-in-Tuple
returns-in_ok-parts-in-Tuple c = let h = tuple_shifted in search rules
