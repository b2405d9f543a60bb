-- The loop over heads: what was placed, and what is left.
use Rattle.std.proofs.Common.{◌≡◌, ℕ, ◌++◌, List, Bool, Option}
use Rattle.gib_mem.specs.Memory.{Memory}
use Rattle.gib_types.specs.Layout.{LaidOut}
use Rattle.gib_types.specs.Tree.{Datum}
use Rattle.gib_load.specs.Preorder.{Head, heads}
use Rattle.gib_load.specs.Spot.{Spot}
use Rattle.gib_load.specs.Placement.{Open, spot_of, place_heads}
use Rattle.gib_load.specs.Rest.{Rest, all_of}

-- of the heads of v those in front were placed from r0 on, but for the gaps that are open; what is left are the others
pub record Going (laid : LaidOut) (r0 : Open) (v : Datum) (noting : Bool) (now : Memory) (at : ℕ) (bytes : List ℕ) (dues : List (Option ℕ)) : Type 0 where
  pub front : List Head
  pub spot : Spot
  pub rest : Rest laid noting spot now bytes dues (place_heads laid r0 front).memory
  pub parts : heads v ≡ front ++ all_of rest.forest
  pub here : spot ≡ spot_of (place_heads laid r0 front)
  pub there : (place_heads laid r0 front).at ≡ at
