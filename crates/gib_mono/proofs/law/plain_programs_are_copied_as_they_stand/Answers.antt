use Rattle.std.proofs.Common.{refl}
use Rattle.gib_mono.specs.Naming.{naming_of}
use Rattle.gib_mono.proofs.Bared.{bare_copy, bare_walk}
use Rattle.gib_mono.proofs.law.plain_programs_are_copied_as_they_stand.Goals as goal

pub returns-clause-walk : goal.returns-clause-walk
returns-clause-walk c = bare_walk

pub returns-clause-same : goal.returns-clause-same
returns-clause-same c = λ p base names typed plain. bare_copy p (naming_of base names) (record { types = λ x. refl; constructors = λ x. refl; functions = λ x. refl }) typed plain
