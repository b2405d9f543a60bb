use Rattle.gib_types.specs.Types.{forms_at}
use Rattle.gib_syntax.specs.Forms.{assign}
use Rattle.gib_mono.specs.Scenes.{forms}
use Rattle.gib_mono.proofs.Seeking.{if_ok}
use Rattle.gib_mono.proofs.Meeting.{one_given, parts_given}
use Rattle.gib_mono.proofs.copier.Copier.meet_results.Goals as goal

pub returns-in_ok-ty-in-One : goal.returns-in_ok-ty-in-One
returns-in_ok-ty-in-One c =
    one_given c.args.source.now.exprs.words (assign c.args.variables.now (forms_at (forms c.args.self.now.scene) c.args.types.now)) c.args.self.now c.meet_at.new.self c.in_ok-ty-in-One.ty c.args.gives.now c.in-One.run' c.words.result.now
    c.in-One.is c.words.ensures c.in_ok-ty-in-One.ensures

pub returns-in-Several : goal.returns-in-Several
returns-in-Several c =
    if_ok _ _ c.meet_parts.result
    (λ given g. parts_given c.args.source.now.exprs.words (assign c.args.variables.now (forms_at (forms c.args.self.now.scene) c.args.types.now)) c.args.self.now c.meet_parts.new.self given c.args.gives.now c.in-Several.runs c.deref.result.now
    c.in-Several.is c.deref.ensures.value g)
    c.meet_parts.ensures
