-- What the code answers, beside the definitions.
use Rattle.std.specs.Prelude.{◌≡◌, ℕ, Result, Ok, Err}
use Rattle.gib_base.specs.declared.name.Name.{Name}
use Rattle.gib_check.specs.declared.fault.TypeFault.{TypeFault}
use Rattle.gib_check.specs.declared.fault.TypeFault.TheVariants as t
use Rattle.gib_check.specs.Faults.{Checked}

-- A refusal is that of the rules, unless memory ran out.
abbrev pub IsFaultOf : {B : Type 0} → TypeFault → Checked B → Type 0
IsFaultOf t.Memory checked = Unit {0}
IsFaultOf (t.Broken fault) checked = checked ≡ Err fault

-- The answer, in this view, is what the rules give, unless memory ran out.
abbrev pub Gives : {A B : Type 0} → (A → B) → Result A TypeFault → Checked B → Type 0
Gives view (Ok x) checked = checked ≡ Ok (view x)
Gives view (Err e) checked = IsFaultOf e checked

-- The number of a name.
abbrev pub number : Name → ℕ
number n = n.0
