use Rattle.std.proofs.Common.{length, map}
use Rattle.gib_syntax.specs.Spelling.{places_of}
use Rattle.gib_parse.specs.Reading.{is_sign, many}
use Rattle.gib_parse.specs.Parsing.{with_front}
use Rattle.gib_parse.proofs.Repeating.{ItemsSoFar}
use Rattle.gib_parse.proofs.repeated.more.Given as goal

abbrev pub invariant-items : goal.invariant-items
invariant-items g l =
    let at = places_of l.spans in
    let p = g.T.Repeated.reader at in
    ItemsSoFar g.T.Repeated.inside g.T.Repeated.tree (is_sign g.T.Repeated.mark) p l.fn.exprs l.exprs
    (with_front (map (g.T.Repeated.tree l.fn.exprs) l.fn.first.items) (many (is_sign g.T.Repeated.mark) p l.tokens)) l.rest l.found.items

abbrev pub decreases-items : goal.decreases-items
decreases-items g l = length l.rest
