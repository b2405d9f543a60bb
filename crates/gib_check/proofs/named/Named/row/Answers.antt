use Rattle.gib_check.proofs.NameRows.{row_found_at, row_counted_at, row_missing_at}
use Rattle.gib_check.proofs.named.Named.row.Goals as goal

pub returns-in-Some-clause-row : goal.returns-in-Some-clause-row
returns-in-Some-clause-row c =
    row_found_at c.self.inside.program c.args.self.now c.self.inside.constructors c.self.inside.rows.items c.args.name.0 c.in-Some.place c.place.result c.index.result.now
    c.self.view_is c.self.invariant.rows_are c.self.invariant.constructors_are c.place.ensures.place c.in-Some.is c.index.ensures

pub returns-in-Some-clause-count : goal.returns-in-Some-clause-count
returns-in-Some-clause-count c =
    row_counted_at c.self.inside.program c.args.self.now c.self.inside.constructors c.self.inside.rows.items c.args.name.0 c.in-Some.place c.place.result c.index.result.now
    c.self.view_is c.self.invariant.rows_are c.self.invariant.constructors_are c.place.ensures.place c.in-Some.is c.index.ensures

pub returns-in-None-clause-row : goal.returns-in-None-clause-row
returns-in-None-clause-row c =
    row_missing_at c.self.inside.program c.args.self.now c.self.inside.constructors c.self.inside.rows.items c.args.name.0 c.place.result c.self.view_is c.self.invariant.rows_are c.self.invariant.constructors_are c.place.ensures.place c.in-None.is
