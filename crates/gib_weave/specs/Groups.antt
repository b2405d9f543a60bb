-- A group of regions, one for each packed part: the first part's region is the oldest of them.
use Rattle.std.specs.Prelude.{◌≡◌, ℕ, zero, suc, ◌≤◌, List, [], ◌∷◌, length}
use Rattle.gib_types.specs.Layout.{LaidOut}
use Rattle.gib_types.specs.Tree.{Datum}
use Rattle.gib_mem.specs.Memory.{Store}
use Rattle.gib_packed.specs.Decoding.{Dec}
use Rattle.gib_core.specs.Fits.{Dest, Nowhere, Empty, Open, InParts, packed_due}
use Rattle.gib_machine.specs.State.{Slots, Open as OpenRegion}
use Rattle.gib_weave.specs.EndWords.{both}

-- The region with so many newer ones.
abbrev pub nth : ℕ → List OpenRegion → OpenRegion
nth j [] = record { start = 0; cur = 0 }
nth zero (r ∷ rs) = r
nth (suc j) (r ∷ rs) = nth j rs

-- A region as it began.
abbrev pub unused : OpenRegion → OpenRegion
unused r = record { start = r.start; cur = r.start }

-- The first parts, of these types, are made: each fills its region from its start to its cursor. The regions of the others are empty.
abbrev pub Holds : LaidOut → Store → List ℕ → List Datum → List OpenRegion → Type 0
Holds laid s [] vs rs = Unit {0}
Holds laid s (t ∷ ts) [] rs = ((nth (length ts) rs).cur ≡ (nth (length ts) rs).start) × Holds laid s ts [] rs
Holds laid s (t ∷ ts) (v ∷ vs) rs = Dec laid s (nth (length ts) rs).start t v (nth (length ts) rs).cur × Holds laid s ts vs rs

-- Where parts are due these are made, in the newest regions.
abbrev pub Group : LaidOut → Store → Dest → List Datum → List OpenRegion → Type 0
Group laid s (Nowhere ty) vs rs = Unit {0}
Group laid s (Empty t) vs rs = Unit {0}
Group laid s (Open t h k xs dues) vs rs = Unit {0}
Group laid s (InParts tys) vs rs = (length (packed_due tys) ≤ length rs) × Holds laid s (packed_due tys) vs rs

-- Each of the slots was set to the start of its region.
abbrev pub Starts : Slots → List ℕ → List OpenRegion → Type 0
Starts sl [] rs = Unit {0}
Starts sl (x ∷ xs) rs = (both sl x ≡ record { word = (nth (length xs) rs).start; last = 0 }) × Starts sl xs rs
