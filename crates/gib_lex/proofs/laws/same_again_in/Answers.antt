use Rattle.gib_lex.proofs.Again as again
use Rattle.gib_lex.proofs.laws.same_again_in.Goals as goal

pub returns-clause-writable : goal.returns-clause-writable
returns-clause-writable c = again.all_writable_in

pub returns-clause-same : goal.returns-clause-same
returns-clause-same c = again.same_again_in
