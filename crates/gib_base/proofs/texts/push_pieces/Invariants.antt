use Rattle.std.proofs.Common.{◌≡◌, ◌++◌, length}
use Rattle.gib_base.specs.Texts.{pieces_text}
use Rattle.gib_base.proofs.texts.push_pieces.Given as goal

abbrev pub invariant-pieces : goal.invariant-pieces
invariant-pieces l = l.out.items ++ pieces_text l.names l.rest ≡ l.fn.out.items ++ pieces_text l.names l.pieces

abbrev pub decreases-pieces : goal.decreases-pieces
decreases-pieces l = length l.rest
