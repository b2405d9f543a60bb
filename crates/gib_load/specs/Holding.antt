-- What holds of a value that was loaded.
use Rattle.gib_types.specs.declared.table.Ty.{Ty}
use Rattle.gib_types.specs.Layout.{LaidOut}
use Rattle.gib_types.specs.Loaded.{Loaded}
use Rattle.gib_types.specs.Tree.{Datum}
use Rattle.gib_packed.specs.Stands.{Stands}
use Rattle.gib_region.specs.Region.{AreOwned}
use Rattle.gib_load.specs.Placement.{Placement}

-- The value stands for the root, the tails are owned, and no more chunks are drawn than the value needs.
pub record Holding (laid : LaidOut) (ty : Ty) (v : Datum) (p : Placement) : Type 0 where
  pub stands : Stands laid p.memory.cells p.root ty v
  pub tails : AreOwned p.memory.cells p.tails
  pub loaded : Loaded p.memory.drawn v
