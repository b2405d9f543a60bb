use Rattle.gib_types.specs.Types.{forms_at}
use Rattle.gib_mono.specs.Scenes.{forms}
use Rattle.gib_mono.proofs.Seeking.{if_ok}
use Rattle.gib_mono.proofs.Meeting.{at_met}
use Rattle.gib_mono.proofs.copier.Copier.meet_at.Goals as goal

pub returns : goal.returns
returns c =
    if_ok _ _ c.first.result (λ id m. at_met c.args.self.now c.first.new.self c.read_at.new.self id c.args.variables.now (forms_at (forms c.args.self.now.scene) c.args.types.now) c.args.words.now c.in_ok-reading.reading c.in_ok-reading.ensures m) c.first.ensures
