-- A source is refused for one fault in its dialect, and then it is no program.
use Rattle.std.proofs.Common.{◌≡◌, ℕ, List}
use Rattle.gib_base.specs.declared.token.Dialect.{Dialect}
use Rattle.gib_base.specs.declared.token.Dialect.TheVariants as dialect
use Rattle.gib_app.specs.declared.source_fault.SourceFault.{SourceFault}
use Rattle.gib_app.specs.Running.{IsNoProgramIn}
use Rattle.gib_app.specs.SourceFaults.{IsSourceFaultIn}
use Rattle.gib_app.proofs.LocatedLaws.{Laws as LocatedOnes, one_fault as one_located, no_program as none_located}
use Rattle.gib_app.proofs.Making.{none_in}
use Rattle.gib_app.proofs.SourceLaws.{Laws, one_fault, no_program}

module _ (laws : Laws) (located : LocatedOnes) where
  pub one_in : (d : Dialect) (source : List ℕ) (f g : SourceFault) → IsSourceFaultIn d source f → IsSourceFaultIn d source g → f ≡ g
  one_in dialect.Source source f g h k = one_fault laws source f g h k
  one_in dialect.Located source f g h k = one_located located source f g h k

  pub none_of : (d : Dialect) (source : List ℕ) (f : SourceFault) → IsSourceFaultIn d source f → IsNoProgramIn d source
  none_of dialect.Source source f h = none_in source (no_program laws source f h)
  none_of dialect.Located source f h = none_located located source f h
