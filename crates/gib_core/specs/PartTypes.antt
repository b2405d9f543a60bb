-- The types of several parts, as the code keeps them.
use Rattle.std.specs.Prelude.{ℕ, zero, suc, List, take, map}
use Rattle.gib_types.specs.declared.table.Ty.{Ty}
use Rattle.gib_types.specs.declared.table.Ty.TheVariants.{Whole, Truth, Tree}
use Rattle.gib_core.specs.declared.part_types.PartTypes.{PartTypes}
use Rattle.gib_core.specs.declared.part_types.Unpacked.{Unpacked}

-- This is the type of a code: declared types stand behind the two others.
abbrev pub type_of_code : ℕ → Ty
type_of_code zero = Whole
type_of_code (suc zero) = Truth
type_of_code (suc (suc n)) = Tree (record { 0 = n })

-- These are the types, in declared order.
abbrev pub types_in : PartTypes → List Ty
types_in p = map type_of_code (take p.count p.codes)

-- These are the types that are no codes any more.
abbrev pub unpacked_types : Unpacked → List Ty
unpacked_types u = take u.count u.types
