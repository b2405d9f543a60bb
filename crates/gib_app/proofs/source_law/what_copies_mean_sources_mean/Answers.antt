use Rattle.gib_app.proofs.Copied.{text_of_copy}
use Rattle.gib_app.proofs.Results.{copy_result, copy_none, result_copy, none_copy}
use Rattle.gib_app.proofs.source_law.what_copies_mean_sources_mean.Goals as goal

pub returns : goal.returns
returns c = record { output = copy_result; result = result_copy; none = copy_none; lacks = none_copy; text = text_of_copy }
