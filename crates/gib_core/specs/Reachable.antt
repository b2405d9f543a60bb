-- Cores whose fields are not reached yet: what the pass that reaches them is given.
use Rattle.std.specs.Prelude.{◌≡◌, true, List, [], ◌∷◌, map, None}
use Rattle.std.specs.List.{AllByRecursion}
use Rattle.gib_core.specs.declared.scope.Known.{Known}
use Rattle.gib_core.specs.Tree.{CoreTree}
use Rattle.gib_core.specs.Met.{Setting, Met, Body, bodies, met_body}
use Rattle.gib_core.specs.Rules.{Before, least, rules, next, before_body}

-- A variable in scope, as if it was reached.
abbrev pub as_reached : Known → Known
as_reached k = record k { reached = true }

-- What a term is met with, as if each field in scope was reached.
abbrev pub all_reached : Setting → Setting
all_reached s = record s { scope = map as_reached s.scope }

-- Lines break no rule, where each field in scope counts as reached.
abbrev pub LinesAreReachable : CoreTree → Before → List Met → Type 0
LinesAreReachable core b [] = Unit {0}
LinesAreReachable core b (m ∷ ms) = (least (rules core b (all_reached m.with) m.line) ≡ None) × LinesAreReachable core (next core.table b m.line) ms

-- A body breaks no rule, where each field in scope counts as reached.
abbrev pub IsReachable : CoreTree → Body → Type 0
IsReachable core body = LinesAreReachable core (before_body body) (met_body core.table body)

-- A core breaks no rule, where each field in scope counts as reached: so it reaches none itself, and to reach its fields
-- is all that it needs.
abbrev pub AreReachable : CoreTree → Type 0
AreReachable core = AllByRecursion (IsReachable core) (bodies core)
