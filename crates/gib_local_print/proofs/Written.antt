-- The name that is printed of a type is that type's.
use Rattle.std.proofs.Common.{length, refl, ap}
use Rattle.std.specs.Prelude.{get_or}
use Rattle.std.proofs.lemmas.Option.{slice_get-get_or}
use Rattle.gib_types.specs.declared.table.Ty.{Ty}
use Rattle.gib_types.specs.declared.table.Ty.TheVariants.{Whole, Truth, Tree}
use Rattle.gib_types.specs.Table.{Table, IsTable, IsTyBelow}
use Rattle.gib_syntax.specs.Declarations.{tree_type, type_or}
use Rattle.gib_local.proofs.Finding.{type_place}
use Rattle.gib_local_print.specs.HasText.{IsWritten}

pub written : (table : Table) → IsTable table → (t : Ty) → IsTyBelow (length table.types) t → IsWritten table t
written table is Whole h = refl
written table is Truth h = refl
written table is (Tree t) h = ap (λ o. type_or (tree_type o)) (type_place table.types t.0 (get_or table.types t.0 0) is.types_differ (slice_get-get_or table.types t.0 0 h))
