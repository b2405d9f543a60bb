use Rattle.std.proofs.Common.{◌≡◌, ◌++◌, length}
use Rattle.std.specs.List.{flat_map, list_all}
use Rattle.gib_local_print.specs.LocatedText.{is_named, spaced}
use Rattle.gib_local_print.proofs.located_text.bytes_of.Given as goal

abbrev pub invariant-tokens : goal.invariant-tokens
invariant-tokens l =
    (l.out.items ++ flat_map (spaced l.names.long) l.rest ≡ flat_map (spaced l.names.long) l.tokens)
    × (list_all (is_named l.names.long) l.rest ≡ list_all (is_named l.names.long) l.tokens)

abbrev pub decreases-tokens : goal.decreases-tokens
decreases-tokens l = length l.rest
