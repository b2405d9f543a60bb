use Rattle.std.proofs.Common.{map}
use Rattle.gib_types.specs.Types.{forms_at}
use Rattle.gib_syntax.specs.Forms.{assign}
use Rattle.gib_mono.specs.Scenes.{forms}
use Rattle.gib_syntax.specs.Words.{type_in}
use Rattle.gib_mono.proofs.Seeking.{if_ok}
use Rattle.gib_mono.proofs.Meeting.{parts_put}
use Rattle.gib_mono.proofs.copier.Copier.meet_parts.Goals as goal

pub returns : goal.returns
returns c =
    if_ok _ _ c.put_parts.result
    (λ given o. parts_put (assign c.args.variables.now (forms_at (forms c.args.self.now.scene) c.args.types.now)) c.args.self.now c.meet_all_at.new.self c.put_parts.new.self given c.in_ok-ids.ids.items c.deref.result.now
    (map (type_in c.args.source.now.exprs.words) c.args.runs.now) c.in_ok-ids.ensures c.deref.ensures.value o)
    c.put_parts.ensures
