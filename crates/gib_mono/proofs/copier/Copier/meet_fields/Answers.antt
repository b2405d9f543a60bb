use Rattle.gib_types.specs.Types.{forms_at}
use Rattle.gib_mono.specs.Scenes.{forms}
use Rattle.gib_mono.proofs.Meeting.{no_fields, row_met}
use Rattle.gib_mono.proofs.copier.Copier.meet_fields.Goals as goal

pub returns-in_default : goal.returns-in_default
returns-in_default c =
    no_fields c.args.source.now c.args.self.now c.new.result.items c.args.k.0 (forms_at (forms c.args.self.now.scene) c.args.types.now) c.new.ensures.items c.in_default.ensures

pub returns : goal.returns
returns c =
    row_met c.args.source.now c.args.self.now c.read_at.new.self c.in-Some.row c.args.k.0 c.variables-variables.result.now (forms_at (forms c.args.self.now.scene) c.args.types.now) c.words-words.result.now c.in_ok-reading.reading
    c.into_vec.result.items c.in-Some.ensures c.variables-variables.ensures c.words-words.ensures c.in_ok-reading.ensures c.into_vec.ensures
