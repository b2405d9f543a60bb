use Rattle.std.proofs.Common.{◌≡◌, length}
use Rattle.gib_syntax.specs.TypeTokens.{unspelled, all_spelled}
use Rattle.gib_syntax.proofs.type_tokens.type_tokens.Given as goal

abbrev pub invariant-words : goal.invariant-words
invariant-words l = all_spelled l.found l.rest ≡ all_spelled unspelled l.words

abbrev pub decreases-words : goal.decreases-words
decreases-words l = length l.rest
