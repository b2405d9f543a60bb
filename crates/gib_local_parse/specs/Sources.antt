-- What all readers of a text share.
use Rattle.std.specs.Prelude.{length}
use Rattle.gib_base.specs.declared.token.Sign.TheVariants as s
use Rattle.gib_syntax.specs.Spelling.{Places, places_of}
use Rattle.gib_reads.specs.Readers.{Reader, then_at, want}
use Rattle.gib_local_parse.specs.declared.source.Source.{Source}
use Rattle.gib_local_parse.specs.declared.source.Depth.{Depth}
use Rattle.gib_local_parse.specs.Tree.{Line}
use Rattle.gib_local_parse.specs.Grammar.{case_at, if_at, parse}

-- Where the tokens of a text stand.
abbrev pub places_in : Source → Places
places_in source = places_of source.spans.now

-- The same at some level.
abbrev pub places_at : Depth → Places
places_at depth = places_in depth.source

-- The reader of the terms for which this level is left.
abbrev pub terms_at : Depth → Reader Line
terms_at depth = parse (places_at depth) depth.level

-- An `if`, from its sign on.
abbrev pub if_from : Depth → Reader Line
if_from depth ws = then_at (want s.If ws) (λ _ rest. if_at (places_at depth) (terms_at depth) (places_at depth (length ws)) rest)

-- A `case`, from its sign on.
abbrev pub case_from : Depth → Reader Line
case_from depth ws = then_at (want s.Case ws) (λ _ rest. case_at (places_at depth) (terms_at depth) (places_at depth (length ws)) rest)
