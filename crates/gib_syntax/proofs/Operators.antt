-- What holds whichever the operator is.
use Rattle.std.proofs.Common.{ℤ, Bool}
use Rattle.gib_types.specs.declared.table.Ty.{Ty}
use Rattle.gib_types.specs.declared.table.Ty.TheVariants.{Whole, Truth}
use Rattle.gib_types.specs.Form.{Form, WholeForm, TruthForm}
use Rattle.gib_types.specs.Tree.{Datum, whole, truth}
use Rattle.gib_types.specs.declared.operator.Operator.{Operator}
use Rattle.gib_types.specs.declared.operator.Operator.TheVariants as o
use Rattle.gib_types.specs.Operators.{operator_type}
use Rattle.gib_syntax.specs.GenericTyping.{operator_form}
use Rattle.gib_syntax.specs.Meaning.{operate}

-- The types of operators are the two scalars.
pub either_scalar : (P : Form → Ty → Type 0) → P WholeForm Whole → P TruthForm Truth → (f : Operator) → P (operator_form f) (operator_type f)
either_scalar P n b o.Add = n
either_scalar P n b o.Subtract = n
either_scalar P n b o.Multiply = n
either_scalar P n b o.Equal = b
either_scalar P n b o.Less = b
either_scalar P n b o.Quotient = n
either_scalar P n b o.Remainder = n

-- An operator gives a number or a truth value.
pub either_value : (P : Datum → Type 0) → ((n : ℤ) → P (whole n)) → ((b : Bool) → P (truth b)) → (f : Operator) (x y : ℤ) → P (operate f x y)
either_value P n b f x y = elim f as (λ g. P (operate g x y)) [
  | o.Add ↦ n _
  | o.Subtract ↦ n _
  | o.Multiply ↦ n _
  | o.Equal ↦ b _
  | o.Less ↦ b _
  | o.Quotient ↦ n _
  | o.Remainder ↦ n _
]
