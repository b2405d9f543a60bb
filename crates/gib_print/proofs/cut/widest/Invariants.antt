use Rattle.std.proofs.Common.{◌-◌, length}
use Rattle.gib_print.proofs.cut.widest.Given as goal

abbrev pub decreases-constructors : goal.decreases-constructors
decreases-constructors l = length l.layouts.table.rows - l.con
