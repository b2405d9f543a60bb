-- The lines with one atom, and what their rules are judged by.
use Rattle.std.specs.Prelude.{Bool, false, not, ◌&&◌, List, [], ◌∷◌}
use Rattle.gib_types.specs.declared.table.Ty.TheVariants.{Truth}
use Rattle.gib_core.specs.declared.atom.Atom.{Atom}
use Rattle.gib_core.specs.declared.rule.Rule.TheVariants as r
use Rattle.gib_core.specs.Met.{Setting, Line, GiveLine, PointLine, IfLine}
use Rattle.gib_core.specs.Rules.{Before, Judgement, judged, is_other, is_usable, is_empty, is_nowhere, has_type}
use Rattle.gib_loccheck.specs.declared.lines.atom.AtomLine.{AtomLine}
use Rattle.gib_loccheck.specs.declared.lines.atom.AtomLine.TheVariants as l

-- The line of such an atom.
abbrev pub atom_line : AtomLine → Atom → Line
atom_line l.Give x = GiveLine x
atom_line l.Point x = PointLine x
atom_line l.Condition x = IfLine x

-- Whether a packed value is put where none may stand.
abbrev pub is_misplaced : Setting → AtomLine → Bool
is_misplaced s l.Give = false
is_misplaced s l.Point = not (is_empty s.destination)
is_misplaced s l.Condition = false

-- Whether the atom is of the type that the line asks.
abbrev pub atom_fits : Before → Setting → AtomLine → Atom → Bool
atom_fits b s l.Give x = is_nowhere s.destination && has_type b x s.due
atom_fits b s l.Point x = has_type b x s.due
atom_fits b s l.Condition x = has_type b x Truth

-- What the rules on such a line are judged by: the core matters to none.
abbrev pub atom_rules : Before → Setting → AtomLine → Atom → List Judgement
atom_rules b s line x =
    judged r.Sides (is_other s x)
    ∷ judged r.Place (is_misplaced s line)
    ∷ judged r.Scope (not (is_usable s x))
    ∷ judged r.Types (not (atom_fits b s line x)) ∷ []
