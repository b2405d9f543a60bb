-- Where ends reach fields, no par stands around.
use Rattle.std.proofs.Common.{◌≡◌, true, ◌==◌, ◌||◌, ◌&&◌, if◌then◌else◌, ◌∷◌, ◌++◌, ap, ◌∙◌}
use Rattle.gib_core.specs.declared.atom.AccessMode.{AccessMode}
use Rattle.gib_core.specs.declared.atom.AccessMode.TheVariants.{Skips, Offsets, Ends}
use Rattle.gib_core.specs.Met.{Setting}
use Rattle.gib_core.specs.Reaching.{in_par}
use Rattle.gib_core.specs.Rules.{is_outside}

-- Where ends reach fields, no par stands around.
abbrev pub IsOut : AccessMode → Setting → Type 0
IsOut Skips s = Unit {0}
IsOut Offsets s = Unit {0}
IsOut Ends s = is_outside s.others ≡ true

pub out_of : (m : AccessMode) (s s' : Setting) → s'.others ≡ s.others → IsOut m s → IsOut m s'
out_of Skips s s' e o = tt
out_of Offsets s s' e o = tt
out_of Ends s s' e o = ap is_outside e ∙ o

pub out_par : (m : AccessMode) (s : Setting) → IsOut (in_par m) s
out_par Skips s = tt
out_par Offsets s = tt
out_par Ends s = tt
