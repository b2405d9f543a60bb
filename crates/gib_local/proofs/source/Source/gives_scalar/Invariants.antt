use Rattle.std.proofs.Common.{◌≡◌, length, map}
use Rattle.gib_local.specs.Building.{gives_scalar}
use Rattle.gib_local_parse.specs.LineArena.{tree_of}
use Rattle.gib_local_parse.specs.TextParts.{function_text}
use Rattle.gib_local.specs.Builds.{program_in}
use Rattle.gib_local.proofs.source.Source.gives_scalar.Given as goal

abbrev pub invariant-functions : goal.invariant-functions
invariant-functions l =
    gives_scalar (map (function_text (tree_of l.self.lines)) l.rest) (program_in l.self).table.types l.f.name.0 ≡ gives_scalar (program_in l.self).functions (program_in l.self).table.types l.f.name.0

abbrev pub decreases-functions : goal.decreases-functions
decreases-functions l = length l.rest
