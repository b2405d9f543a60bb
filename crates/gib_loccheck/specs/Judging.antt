-- What the walk answers.
use Rattle.std.specs.Prelude.{◌≡◌, ◌+◌, List, [], ◌∷◌, ◌++◌, length, reverse, Some, None, Result, Ok, Err}
use Rattle.gib_types.specs.declared.table.Ty.{Ty}
use Rattle.gib_core.specs.declared.atom.Variable.{Variable}
use Rattle.gib_core.specs.declared.atom.Atom.{Atom}
use Rattle.gib_core.specs.declared.scope.Known.{Known}
use Rattle.gib_base.specs.declared.name.Name.{Name}
use Rattle.gib_types.specs.Table.{Table}
use Rattle.gib_core.specs.Tree.{CoreTree, Term, Bind, Side, On, Several}
use Rattle.gib_core.specs.Met.{Setting, Met, Line, SideLine, CaseLine, SeveralLine, PartLine, at, met, met_bind, in_side, in_several, in_part, behind, stands_behind, reached_too, with_variables, known}
use Rattle.gib_core.specs.Rules.{Broken, broken_from, next_all, cases_on}
use Rattle.gib_loccheck.specs.declared.state.Walk.{Walk}
use Rattle.gib_loccheck.specs.declared.target.Target.{Target}
use Rattle.gib_loccheck.specs.declared.fault.LocFault.{LocFault}
use Rattle.gib_loccheck.specs.declared.fault.LocFault.TheVariants as fault
use Rattle.gib_loccheck.specs.Views.{before_of, setting_of, at_line, calls_of}

-- One line with what it is met with.
abbrev pub one : Setting → Line → List Met
one s line = record { line = line; with = s } ∷ []

-- The lines break no rule where the walk was, and it stands behind them.
pub record Passes (core : CoreTree) (old new : Walk) (lines : List Met) : Type 0 where
  pub unbroken : broken_from core old.place (before_of old) lines ≡ None
  pub before : before_of new ≡ next_all core.table (before_of old) lines
  pub place : new.place ≡ old.place + length lines

-- A refusal for a rule names the first broken one.
abbrev pub Says : LocFault → Broken → Type 0
Says fault.Memory broken = Unit {0}
Says (fault.Rule rule place) broken = broken ≡ Some (rule, place)

-- A refusal for a rule names the first one that the lines break where the walk was.
abbrev pub Blames : CoreTree → Walk → List Met → LocFault → Type 0
Blames core old lines e = Says e (broken_from core old.place (before_of old) lines)

-- More is in scope, on top.
pub record Extends (old new : List Known) : Type 0 where
  pub more : List Known
  pub is : new ≡ old ++ more

-- What is in scope is again the same.
pub record Kept (old new : Walk) : Type 0 where
  pub scope : new.scope.items ≡ old.scope.items
  pub others : new.others.items ≡ old.others.items
  pub calls : new.calls.items ≡ old.calls.items

-- What the walk answers of lines: it stands behind them with the same in scope, or it names the first rule that they break.
abbrev pub Checks : CoreTree → Walk → Walk → List Met → Result (Unit {0}) LocFault → Type 0
Checks core old new lines (Ok x) = Passes core old new lines × Kept old new
Checks core old new lines (Err e) = Blames core old lines e

-- More is in scope, and what stands behind is met with this.
pub record Binds (old new : Walk) (target : Target) (now : Setting) : Type 0 where
  pub more : List Known
  pub scope : new.scope.items ≡ old.scope.items ++ more
  pub others : new.others.items ≡ old.others.items
  pub setting : setting_of new target ≡ now

-- What the walk answers of a binding: it stands behind it and has what is due there, or it names the first rule that is broken.
abbrev pub ChecksBinding : CoreTree → Walk → Walk → Setting → Bind → Result Target LocFault → Type 0
ChecksBinding core old new s b (Ok t) = Passes core old new (met_bind core.table s b) × Binds old new t (behind s b)
ChecksBinding core old new s b (Err e) = Blames core old (met_bind core.table s b) e

-- A side's own line.
abbrev pub side_line : Side → Line
side_line (On kind x ty t) = SideLine kind x ty
side_line (Several xs tys t) = SeveralLine xs tys

-- What the term of a side is met with.
abbrev pub inside : Table → Setting → Side → Setting
inside table s (On kind x ty t) = in_side table s kind ty
inside table s (Several xs tys t) = in_several s tys

-- The lines of a packed part of this type.
abbrev pub part_lines : Table → Setting → Ty → Term → List Met
part_lines table s ty t = at s PartLine ∷ met table (in_part s ty) t

-- What the walk answers of a side's own line: it stands behind it with the same in scope and has what is due at the side's term, or it names
-- the first rule that is broken.
abbrev pub ChecksOpening : CoreTree → Walk → Walk → Setting → Side → Result Target LocFault → Type 0
ChecksOpening core old new s side (Ok t) = Passes core old new (one s (side_line side)) × (Kept old new × (at_line (setting_of new t) ≡ inside core.table s side))
ChecksOpening core old new s side (Err e) = Blames core old (one s (side_line side)) e

-- One more variable was bound, and nothing else is new.
pub record BindsToo (old new : Walk) (x : Variable) (ty : Ty) : Type 0 where
  pub bound : reverse new.bound.items ≡ record { variable = x; ty = ty } ∷ reverse old.bound.items
  pub cased : new.cased.items ≡ old.cased.items
  pub scope : new.scope.items ≡ old.scope.items
  pub others : new.others.items ≡ old.others.items
  pub calls : new.calls.items ≡ old.calls.items
  pub place : new.place ≡ old.place

-- A `case` was on one more variable, where it was on one, and nothing else is new.
pub record CasesToo (old new : Walk) (x : Atom) : Type 0 where
  pub cased : reverse new.cased.items ≡ cases_on (CaseLine x []) (reverse old.cased.items)
  pub bound : new.bound.items ≡ old.bound.items
  pub scope : new.scope.items ≡ old.scope.items
  pub others : new.others.items ≡ old.others.items
  pub calls : new.calls.items ≡ old.calls.items
  pub place : new.place ≡ old.place

-- What judges lines is the same: what was bound and cased, and the number of the next term.
pub record Stays (old new : Walk) : Type 0 where
  pub bound : new.bound.items ≡ old.bound.items
  pub cased : new.cased.items ≡ old.cased.items
  pub place : new.place ≡ old.place

-- What a term behind a side is met with, before the side's variables are in scope.
abbrev pub past_side : Side → Setting → Setting
past_side side s = record s { destination = stands_behind side s.destination }

-- One more variable is in scope, and nothing else is new.
pub record Enters (old new : Walk) (k : Known) : Type 0 where
  pub scope : new.scope.items ≡ old.scope.items ++ k ∷ []
  pub others : new.others.items ≡ old.others.items
  pub calls : new.calls.items ≡ old.calls.items
  pub stays : Stays old new

-- These variables are in scope, and nothing else is new.
pub record EntersAll (old new : Walk) (xs : List Variable) : Type 0 where
  pub scope : Extends old.scope.items new.scope.items
  pub variables : reverse new.scope.items ≡ with_variables xs (reverse old.scope.items)
  pub others : new.others.items ≡ old.others.items
  pub calls : new.calls.items ≡ old.calls.items
  pub stays : Stays old new

-- The field is reached, where it is in scope, and nothing else is new.
pub record Reaches (old new : Walk) (x : Variable) : Type 0 where
  pub more : List Known
  pub scope : new.scope.items ≡ old.scope.items ++ more
  pub field : reverse new.scope.items ≡ reached_too (known (reverse old.scope.items) x) (reverse old.scope.items)
  pub others : new.others.items ≡ old.others.items
  pub calls : new.calls.items ≡ old.calls.items
  pub stays : Stays old new

-- These variables are another side's, and nothing else is new.
pub record HasOthers (old new : Walk) (xs : List Variable) : Type 0 where
  pub others : new.others.items ≡ old.others.items ++ reverse xs
  pub scope : new.scope.items ≡ old.scope.items
  pub calls : new.calls.items ≡ old.calls.items
  pub stays : Stays old new

-- These calls stand before, and nothing else is new.
pub record Tells (old new : Walk) (calls : List (Name × List Atom)) : Type 0 where
  pub told : calls_of new ≡ calls
  pub scope : new.scope.items ≡ old.scope.items
  pub others : new.others.items ≡ old.others.items
  pub stays : Stays old new
