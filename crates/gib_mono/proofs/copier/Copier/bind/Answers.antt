use Rattle.std.proofs.lemmas.Result.{on_ok_weaker}
use Rattle.gib_mono.proofs.Meeting.{bound}
use Rattle.gib_mono.proofs.copier.Copier.bind.Goals as goal

pub returns-clause-scope : goal.returns-clause-scope
returns-clause-scope c = on_ok_weaker c.bind.result (λ h. bound c.args.self.now c.args.x c.args.ty c.bind.new.self h) c.bind.ensures
