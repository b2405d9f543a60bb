use Rattle.std.proofs.Common.{ap, map, List, refl, subst, sym}
use Rattle.gib_base.specs.declared.name.Name.{Name}
use Rattle.gib_types.specs.Table.{IsTable}
use Rattle.gib_unit_tests.specs.Samples.{mixed_table}
use Rattle.gib_unit_tests.proofs.SampleLemmas.{mixed_ok, same_parts}
use Rattle.gib_unit_tests.proofs.sample.mixed.Goals as goal

pub make-requires : goal.make-requires
make-requires c =
    subst IsTable
    (sym (same_parts mixed_table c.in_ok-types.types.items c.add-6.new.rows.items (ap (λ (l : List Name). map (λ (n : Name). n.0) l) c.in_ok-types.ensures.items)
    (rw (c.in_ok-add-6.ensures, c.in_ok-add-5.ensures, c.in_ok-add-4.ensures, c.in_ok-add-3.ensures, c.in_ok-add-2.ensures, c.in_ok-add.ensures, c.new-rows.ensures.items) refl)))
    mixed_ok
