use Rattle.std.proofs.Common.{◌*◌, ◌+◌}
use Rattle.gib_text.proofs.share.+fn-texts_by-join+arg3+texts_by.Given as goal

abbrev pub decreases-join+arg3 : goal.decreases-join+arg3
decreases-join+arg3 g l = 2 * l.workers

abbrev pub decreases-texts_by : goal.decreases-texts_by
decreases-texts_by g l = 2 * l.workers + 1
