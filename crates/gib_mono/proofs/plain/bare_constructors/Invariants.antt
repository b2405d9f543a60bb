use Rattle.std.proofs.Common.{◌≡◌, ◌++◌, length, map}
use Rattle.gib_syntax.specs.GenericParts.{constructor_in}
use Rattle.gib_syntax.specs.Parts.{constructor_tree}
use Rattle.gib_mono.specs.Bare.{bare_constructor}
use Rattle.gib_mono.proofs.plain.bare_constructors.Given as goal

abbrev pub invariant-constructors : goal.invariant-constructors
invariant-constructors l = map constructor_tree l.made.items ++ map bare_constructor (map (constructor_in l.exprs.words) l.rest) ≡ map bare_constructor (map (constructor_in l.exprs.words) l.constructors)

abbrev pub decreases-constructors : goal.decreases-constructors
decreases-constructors l = length l.rest
