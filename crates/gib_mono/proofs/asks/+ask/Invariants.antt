use Rattle.std.proofs.Common.{◌+◌, ◌*◌, max, length}
use Rattle.gib_mono.proofs.Walking.{ArgumentsAsked, ArmsAsked}
use Rattle.gib_mono.proofs.asks.+ask.Given as goal

abbrev pub decreases-ask_arguments : goal.decreases-ask_arguments
decreases-ask_arguments l = 4 * l.id.0

abbrev pub decreases-ask_case : goal.decreases-ask_case
decreases-ask_case l = 4 * l.id.0

abbrev pub decreases-ask_expression : goal.decreases-ask_expression
decreases-ask_expression l = 4 * l.id.0 + 2

abbrev pub decreases-ask_two : goal.decreases-ask_two
decreases-ask_two l = 4 * max l.left.0 l.right.0 + 3

abbrev pub decreases-ask_three : goal.decreases-ask_three
decreases-ask_three l = 4 * max (max l.first.0 l.second.0) l.third.0 + 4

abbrev pub invariant-ask_arguments-arguments : goal.invariant-ask_arguments-arguments
invariant-ask_arguments-arguments l = ArgumentsAsked l.source l.fn.id.0 l.fn.search l.search l.ids l.rest

abbrev pub decreases-ask_arguments-arguments : goal.decreases-ask_arguments-arguments
decreases-ask_arguments-arguments l = length l.rest

abbrev pub invariant-ask_case-arms : goal.invariant-ask_case-arms
invariant-ask_case-arms l = ArmsAsked l.source l.fn.id.0 l.fn.search l.search l.arms l.rest

abbrev pub decreases-ask_case-arms : goal.decreases-ask_case-arms
decreases-ask_case-arms l = length l.rest
