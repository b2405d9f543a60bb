use Rattle.std.proofs.Common.{◌≡◌, ◌+◌, ◌*◌, ◌++◌, length}
use Rattle.gib_types.specs.Types.{forms_of, forms_at, AreBelow}
use Rattle.gib_mono.specs.Pieces.{further_pieces}
use Rattle.gib_mono.proofs.copy_texts.+types.Given as goal

abbrev pub decreases-push_form : goal.decreases-push_form
decreases-push_form l = 4 * l.id.0 + 3

abbrev pub decreases-push_data : goal.decreases-push_data
decreases-push_data l = 4 * l.below + 2

abbrev pub decreases-push_types : goal.decreases-push_types
decreases-push_types l = 4 * l.below + 1

abbrev pub decreases-push_further : goal.decreases-push_further
decreases-push_further l = 4 * l.below

abbrev pub invariant-push_further-arguments : goal.invariant-push_further-arguments
invariant-push_further-arguments l =
    (l.out.items ++ further_pieces (forms_at (forms_of l.types) l.rest) ≡ l.fn.out.items ++ further_pieces (forms_at (forms_of l.types) l.arguments)) × AreBelow l.below l.rest

abbrev pub decreases-push_further-arguments : goal.decreases-push_further-arguments
decreases-push_further-arguments l = length l.rest
