use Rattle.std.proofs.Common.{length, List}
use Rattle.gib_syntax.specs.declared.written.Word.{Word}
use Rattle.gib_syntax.specs.Forms.{WrittenType}
use Rattle.gib_syntax.specs.Spelling.{places_of}
use Rattle.gib_parse.specs.Reading.{Read}
use Rattle.gib_parse.specs.OpenTypes.{InType, AfterToken}
use Rattle.gib_parse.proofs.types.TypeReader.read_on.Given as goal

abbrev pub invariant-tokens : goal.invariant-tokens
invariant-tokens l =
    let at = places_of l.spans in
    (all : Read WrittenType) (base : List Word) → InType at all base l.fn.self l.tokens → AfterToken l.closed at all base l.self l.rest

abbrev pub decreases-tokens : goal.decreases-tokens
decreases-tokens l = length l.rest
