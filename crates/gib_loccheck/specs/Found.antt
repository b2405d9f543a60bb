-- What is found by the numbers of variables.
use Rattle.std.specs.Prelude.{◌≡◌, Bool, true, false, List, [], ◌∷◌, map, Option, Some, None}
use Rattle.gib_base.specs.Entries.{entry_at}
use Rattle.gib_types.specs.declared.table.Ty.{Ty}
use Rattle.gib_core.specs.declared.atom.Variable.{Variable}
use Rattle.gib_core.specs.declared.scope.Bound.{Bound}
use Rattle.gib_core.specs.declared.scope.Known.{Known}
use Rattle.gib_core.specs.Met.{known}
use Rattle.gib_core.specs.Rules.{is_among, type_bound}
use Rattle.gib_loccheck.specs.declared.index.scope.InScope.{InScope}

-- Items, the newest last.
pub record Listed (A : Type 0) : Type 0 where
  pub items : List A

-- Something is there.
abbrev pub is_found : {A : Type 0} → Option A → Bool
is_found None = false
is_found (Some x) = true

-- At the number of each variable stands the type that it was bound with; the newest comes first.
pub record AreTypes (bound : List Bound) (types : List (Option Ty)) : Type 0 where
  pub each : (x : Variable) → entry_at types x.0 ≡ type_bound bound x

-- Something stands at the numbers of these variables, and of no others.
pub record AreMarked (variables : List Variable) (marks : List (Option Bool)) : Type 0 where
  pub each : (x : Variable) → is_found (entry_at marks x.0) ≡ is_among variables x

-- What is known, of what is in scope.
abbrev pub known_of : InScope → Known
known_of e = e.known

-- The newest comes first: each keeps what was known of its variable before.
abbrev pub AreKept : List InScope → Type 0
AreKept [] = Unit {0}
AreKept (e ∷ es) = (e.before ≡ known (map known_of es) e.known.variable) × AreKept es

-- At the number of each variable in scope stands what is known of it; the newest comes first.
pub record AreKnown (scope : List InScope) (entries : List (Option Known)) : Type 0 where
  pub each : (x : Variable) → entry_at entries x.0 ≡ known (map known_of scope) x
  pub kept : AreKept scope
