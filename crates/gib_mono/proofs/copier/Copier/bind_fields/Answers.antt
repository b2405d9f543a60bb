use Rattle.std.proofs.lemmas.Result.{on_ok_weaker}
use Rattle.gib_syntax.specs.GenericTree.{place_named}
use Rattle.gib_types.specs.Types.{forms_at}
use Rattle.gib_mono.specs.Copying.{forms_named}
use Rattle.gib_mono.specs.Scenes.{forms}
use Rattle.gib_mono.specs.Sources.{globals_in}
use Rattle.gib_mono.proofs.Meeting.{fields_bound}
use Rattle.gib_mono.proofs.copier.Copier.bind_fields.Goals as goal

pub returns : goal.returns
returns c =
    on_ok_weaker c.bind_all.result (λ h. fields_bound c.args.self.now c.meet_fields.new.self c.bind_all.new.self c.args.variables.now c.in_ok-fields.fields.items c.deref.result.now
    (forms_named (globals_in c.args.source.now).rows (place_named (globals_in c.args.source.now).rows c.args.k.0) (forms_at (forms c.args.self.now.scene) c.args.types.now)) c.in_ok-fields.ensures c.deref.ensures.value h)
    c.bind_all.ensures
