use Rattle.std.proofs.Common.{[], refl}
use Rattle.gib_mono.specs.Naming.{entries, naming_of}
use Rattle.gib_mono.specs.Walk.{plain_copies}
use Rattle.gib_mono.proofs.Bared.{bare_walk}
use Rattle.gib_mono.proofs.Names.{named}
use Rattle.gib_mono.proofs.OwnValues.{number_own, run_own, typed_own}
use Rattle.gib_mono.proofs.Theorem.{set_made}
use Rattle.gib_mono.proofs.law.plain_copies_mean_the_same.Goals as goal

pub returns-clause-number : goal.returns-clause-number
returns-clause-number c = number_own

pub returns-clause-value : goal.returns-clause-value
returns-clause-value c = λ p v typed plain h. typed_own p (naming_of 0 []) v h.0 (record { types = λ x. refl; constructors = λ x. refl; functions = λ x. refl }) typed plain h.1

pub returns-clause-run : goal.returns-clause-run
returns-clause-run c = λ p base depth v fine typed plain below h.
    let found = plain_copies p in
    run_own p (naming_of base (entries found)) (entries found) depth v (record { types = λ x. refl; constructors = λ x. refl; functions = λ x. refl }) fine typed plain
    (set_made p (naming_of base (entries found)) (entries found) found fine.datas typed (bare_walk p typed plain) (named found base below)) h
