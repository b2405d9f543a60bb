use Rattle.std.proofs.Common.{arith, refl}
use Rattle.gib_types.specs.Table.{fields_at}
use Rattle.gib_print.proofs.HeadLemmas.{opened_here, no_fields, some_fields}
use Rattle.gib_print.proofs.turn.open_head.Goals as goal

pub returns-then-fields-eq0 : goal.returns-then-fields-eq0
returns-then-fields-eq0 g c = λ laid s at f d lays n.
    let fields = fields_at laid.table c.args.head.tag in
    opened_here fields 0 f d lays refl (no_fields fields (omega (arith, n, c.if-fields-eq0.true))) refl

pub returns-else-fields-eq0 : goal.returns-else-fields-eq0
returns-else-fields-eq0 g c = λ laid s at f d lays n.
    let fields = fields_at laid.table c.args.head.tag in
    opened_here fields 1 f d lays refl (some_fields fields (λ e. omega (arith, n, e, c.if-fields-eq0.false))) refl
