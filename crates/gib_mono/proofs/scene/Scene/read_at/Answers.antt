use Rattle.std.proofs.Common.{List}
use Rattle.gib_types.specs.Form.{Form}
use Rattle.gib_types.specs.Types.{forms_at}
use Rattle.gib_syntax.specs.Forms.{assign}
use Rattle.gib_mono.proofs.InScene.{reads_view}
use Rattle.gib_mono.proofs.Seeking.{if_ok}
use Rattle.gib_mono.proofs.scene.Scene.read_at.Goals as goal

pub returns : goal.returns
returns c =
    if_ok _ _ c.read.result (λ r h. reads_view (record { types = c.self.inside.types; variables = c.self.inside.variables.items; meant = c.self.inside.meant.items; scope = c.self.inside.scope.items; entries = c.self.inside.entries }) c.args.self.now c.read.new.types
    (λ (fs : List Form). assign c.args.variables.now (forms_at fs c.args.meant.now)) c.args.words.now r c.self.view_is c.self.invariant h) c.read.ensures.read
