-- The operators of the language.
use Rattle.gib_types.specs.declared.table.Ty.{Ty}
use Rattle.gib_types.specs.declared.table.Ty.TheVariants.{Whole, Truth}
use Rattle.gib_types.specs.declared.operator.Operator.{Operator}
use Rattle.gib_types.specs.declared.operator.Operator.TheVariants as o

-- What an operator gives.
abbrev pub operator_type : Operator → Ty
operator_type o.Add = Whole
operator_type o.Subtract = Whole
operator_type o.Multiply = Whole
operator_type o.Equal = Truth
operator_type o.Less = Truth
operator_type o.Quotient = Whole
operator_type o.Remainder = Whole
