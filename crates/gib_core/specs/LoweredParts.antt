-- A core with its code.
use Rattle.gib_core.specs.Parts.{Parts, core_of}
use Rattle.gib_code.specs.Program.{CodeTree, Runs}
use Rattle.gib_core.specs.Low.{IsLowered}
use Rattle.gib_core.specs.Fits.{AllFit}

-- The parts of a core, and the code.
pub record LoweredParts : Type 0 where
  pub core : Parts
  pub code : CodeTree

-- The code is that of the core, each body fits, and a machine can run the code.
pub record IsWhole (core : Parts) (code : CodeTree) : Type 0 where
  pub lowered : IsLowered (core_of core) code
  pub fits : AllFit (core_of core)
  pub runs : Runs code
