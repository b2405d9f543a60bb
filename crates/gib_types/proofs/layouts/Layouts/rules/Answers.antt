use Rattle.std.proofs.Common.{subst}
use Rattle.gib_types.specs.Table.{fields_at, IsTable}
use Rattle.gib_types.specs.Layout.{is_among, LaidOut}
use Rattle.gib_types.proofs.LayoutLemmas.{few_fields, head_long, packed_few}
use Rattle.gib_types.proofs.layouts.Layouts.rules.Goals as goal

pub returns-clause-long : goal.returns-clause-long
returns-clause-long c = λ con.
    let rules = subst (λ (l : LaidOut). IsTable l.table) c.self.view_is c.rules.ensures in
    head_long (is_among c.args.self.now.with_offsets con) (fields_at c.args.self.now.table con) (few_fields c.args.self.now.table con rules)

pub returns-clause-packed : goal.returns-clause-packed
returns-clause-packed c = λ con.
    let rules = subst (λ (l : LaidOut). IsTable l.table) c.self.view_is c.rules.ensures in
    packed_few (fields_at c.args.self.now.table con) (few_fields c.args.self.now.table con rules)
