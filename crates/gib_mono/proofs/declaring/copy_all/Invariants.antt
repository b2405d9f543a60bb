use Rattle.std.proofs.Common.{length}
use Rattle.gib_mono.specs.Sources.{globals_in}
use Rattle.gib_mono.proofs.Declarations.{DeclaredSoFar}
use Rattle.gib_mono.proofs.declaring.copy_all.Given as goal

abbrev pub invariant-keys : goal.invariant-keys
invariant-keys l = DeclaredSoFar (globals_in l.source) l.fn.copier l.copier l.keys l.rest l.declared.datas.items l.declared.functions.items

abbrev pub decreases-keys : goal.decreases-keys
decreases-keys l = length l.rest
