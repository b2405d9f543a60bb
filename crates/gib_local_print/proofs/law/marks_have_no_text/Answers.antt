use Rattle.gib_local_print.proofs.Shapes.{core_marked}
use Rattle.gib_local_print.proofs.law.marks_have_no_text.Goals as goal

pub returns : goal.returns
returns c nm datas core = core_marked nm datas core
