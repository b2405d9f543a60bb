-- The rules by the kinds of their faults.
use Rattle.std.specs.Prelude.{◌≡◌, Err}
use Rattle.gib_base.specs.declared.Span.{Span}
use Rattle.gib_check.specs.declared.fault.Fault.{Fault}
use Rattle.gib_check.specs.declared.fault.Kind.{Kind}
use Rattle.gib_check.specs.Faults.{Checked}

-- A fault of a kind at a place.
abbrev pub fault : Kind → Span → Fault
fault kind at = record { kind = kind; span = at }

-- A rule is broken exactly where this holds, and the fault is then this one.
pub record IsBrokenWhere {A : Type 0} (rule : Checked A) (condition : Type 0) (f : Fault) : Type 0 where
  pub broken : condition → rule ≡ Err f
  pub only : (g : Fault) → rule ≡ Err g → condition × (g ≡ f)
