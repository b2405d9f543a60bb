use Rattle.std.proofs.Common.{◌≡◌, ◌++◌, length}
use Rattle.std.specs.List.{flat_map}
use Rattle.gib_core.specs.CoreText.{piece_text}
use Rattle.gib_core.proofs.text.text_of.Given as goal

abbrev pub invariant-pieces : goal.invariant-pieces
invariant-pieces l = l.out.items ++ flat_map (piece_text l.names.long l.types) l.rest ≡ flat_map (piece_text l.names.long l.types) l.pieces

abbrev pub decreases-pieces : goal.decreases-pieces
decreases-pieces l = length l.rest
