-- Where the fields of an arm's line are reached by ends: each before the first term that uses it.
use Rattle.std.specs.Prelude.{◌≡◌, ℕ, zero, suc, ◌<◌, ◌==◌, ◌||◌, Bool, true, false, if◌then◌else◌, nat_le, ◌&&◌, take, List, [], ◌∷◌, map, length}
use Rattle.gib_core.specs.declared.atom.Variable.{Variable}
use Rattle.gib_core.specs.declared.atom.Access.TheVariants.{End}
use Rattle.gib_core.specs.declared.atom.AccessMode.{AccessMode}
use Rattle.gib_core.specs.declared.atom.AccessMode.TheVariants.{Skips, Offsets, Ends}
use Rattle.gib_core.specs.Tree.{Term, Bind, Reach, prepend}
use Rattle.gib_core.specs.declared.atom.Ended.{Ended}
use Rattle.gib_core.specs.Ending.{is_telling}
use Rattle.gib_core.specs.Reaching.{Later, uses, bind_uses, laters, untold}
use Rattle.gib_access.specs.declared.planning.Planned.{Planned}

-- How many bindings of a line stand before the first that uses a variable: all of them, where none does.
abbrev pub first_use : List Bind → Variable → ℕ
first_use [] y = zero
first_use (b ∷ bs) y = if bind_uses b y then zero else suc (first_use bs y)

-- One of the bindings tells the end of a variable.
abbrev pub any_tells : List Ended → List Bind → Variable → Bool
any_tells es [] z = false
any_tells es (b ∷ bs) z = is_telling es b z || any_tells es bs z

-- A field that a line reaches by an end, without its place.
abbrev pub later_of : Planned → Later
later_of p = record { field = p.field; before = p.before }

-- The fields that are reached at a place of the line.
abbrev pub ends_at : ℕ → List Planned → List Bind
ends_at i [] = []
ends_at i (p ∷ ps) = if p.place == i then Reach p.field (End p.before) ∷ ends_at i ps else ends_at i ps

-- Those that are reached there or later.
abbrev pub left_from : ℕ → List Planned → List Later
left_from i [] = []
left_from i (p ∷ ps) = if nat_le i p.place then later_of p ∷ left_from i ps else left_from i ps

-- Each is reached before the first term that uses it, and it is used.
abbrev pub ArePlanned : List Bind → Term → List Planned → Type 0
ArePlanned bs t [] = Unit {0}
ArePlanned bs t (p ∷ ps) = ((p.place ≡ first_use bs p.field) × (uses (prepend bs t) p.field ≡ true)) × ArePlanned bs t ps

-- A field behind z is reached by an end: before its first use one of the bindings tells that of z.
abbrev pub is_told_first : List Ended → List Bind → Variable → Variable → Bool
is_told_first es bs z y = any_tells es (take (first_use bs y) bs) z

-- The fields behind z that are reached by ends, where t ends the line.
abbrev pub planned_from : List Ended → List Bind → Term → Variable → List Variable → List Planned
planned_from es bs t z [] = []
planned_from es bs t z (y ∷ ys) =
    if uses (prepend bs t) y && is_told_first es bs z y then record { field = y; before = z; place = first_use bs y } ∷ planned_from es bs t y ys else planned_from es bs t y ys

-- Those before whose first use no end is told.
abbrev pub others_from : List Ended → List Bind → Variable → List Variable → List Variable
others_from es bs z [] = []
others_from es bs z (y ∷ ys) = if is_told_first es bs z y then others_from es bs y ys else y ∷ others_from es bs y ys

-- The fields behind the first one.
abbrev pub behind_first : List Variable → List Variable
behind_first [] = []
behind_first (z ∷ ys) = ys

-- The plan of an arm's line: the fields that ends reach, in their order, and the others.
pub record IsPlan (mode : AccessMode) (es : List Ended) (bs : List Bind) (t : Term) (packed : List Variable) (ps : List Planned) (rest : List Variable) : Type 0 where
  pub planned : ArePlanned bs t ps
  pub laters : map later_of ps ≡ laters mode es (prepend bs t) packed
  pub others : rest ≡ untold mode es (prepend bs t) packed
