use Rattle.std.proofs.Common.{rules}
use Rattle.gib_place.proofs.Shifted.{then_shifted}
use Rattle.gib_place.proofs.renumber.copying.renamed_node.Goals as goal

pub returns-in_ok-rest-in-Then : goal.returns-in_ok-rest-in-Then
returns-in_ok-rest-in-Then c = let h = then_shifted in search rules
