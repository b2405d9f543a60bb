use Rattle.std.proofs.Common.{ap, ◌∙◌, map}
use Rattle.gib_check.specs.NameViews.{row_in}
use Rattle.gib_check.proofs.NameRows.{kept_rows}
use Rattle.gib_check.proofs.named.Named.rows.Goals as goal

pub returns : goal.returns
returns c = ap (map (row_in c.args.self.now)) c.deref.ensures.value ∙ kept_rows c.self.inside.program c.args.self.now c.self.inside.rows.items c.self.invariant.rows_are c.self.view_is
