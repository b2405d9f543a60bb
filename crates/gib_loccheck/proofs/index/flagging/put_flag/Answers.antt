use Rattle.gib_loccheck.proofs.FoundLemmas.{flag_put}
use Rattle.gib_loccheck.proofs.index.flagging.put_flag.Goals as goal

pub returns : goal.returns
returns c = flag_put c.args.flags.now c.set.new.self c.args.number c.in_ok-set.ensures.set
