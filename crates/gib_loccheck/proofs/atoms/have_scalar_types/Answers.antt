use Rattle.std.proofs.Common.{◌≡◌, ◌<◌, ◌≤◌, false, List, [], ◌∷◌, length, refl, sym, ◌∙◌, arith}
use Rattle.gib_types.specs.declared.table.Ty.{Ty}
use Rattle.gib_types.specs.Table.{scalar_types}
use Rattle.gib_core.specs.declared.atom.Atom.{Atom}
use Rattle.gib_core.specs.Rules.{Before, have_types}
use Rattle.gib_loccheck.specs.Views.{before_of}
use Rattle.gib_loccheck.proofs.atoms.have_scalar_types.Goals as goal

too_many : (b : Before) (xs : List Atom) (ts : List Ty) → 1 ≤ length xs → length ts < 1 → have_types b xs (scalar_types ts) ≡ false
too_many b [] ts long short = absurd (omega (arith, long))
too_many b (x ∷ xs) [] long short = refl
too_many b (x ∷ xs) (t ∷ ts) long short = absurd (omega (arith, short))

pub returns-in-len1-up-left-2 : goal.returns-in-len1-up-left-2
returns-in-len1-up-left-2 c =
    sym (too_many (before_of c.args.walk.now) c.fields.left.now c.fields.fields_left.now c.in-len1-up-left-2.len_at_least c.in_default.len_below) ∙ c.fields.invariant
