use Rattle.std.proofs.Common.{◌≡◌, length}
use Rattle.gib_check.specs.Knowing.{known_words}
use Rattle.gib_check.specs.NameViews.{generic_globals}
use Rattle.gib_syntax.specs.GenericTyping.{variable_numbers}
use Rattle.gib_check.proofs.known.known_words.Given as goal

abbrev pub invariant-words : goal.invariant-words
invariant-words l = known_words (generic_globals l.named).datas (variable_numbers l.variables) l.words ≡ known_words (generic_globals l.named).datas (variable_numbers l.variables) l.rest

abbrev pub decreases-words : goal.decreases-words
decreases-words l = length l.rest
