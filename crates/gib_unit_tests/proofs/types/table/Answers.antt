use Rattle.std.proofs.Common.{ap, map, List, refl}
use Rattle.gib_base.specs.declared.name.Name.{Name}
use Rattle.gib_unit_tests.proofs.WideSample.{sample_is_table}
use Rattle.gib_unit_tests.proofs.types.table.Goals as goal

pub make-requires : goal.make-requires
make-requires c =
    sample_is_table c.in_ok-types.types.items c.add-4.new.rows.items (ap (λ (l : List Name). map (λ (n : Name). n.0) l) c.in_ok-types.ensures.items)
    (rw (c.in_ok-add-4.ensures, c.in_ok-add-3.ensures, c.in_ok-add-2.ensures, c.in_ok-add.ensures, c.new-rows.ensures.items) refl)
