use Rattle.gib_mono.proofs.InScene.{read_ok}
use Rattle.gib_mono.proofs.scene.Scene.read.Goals as goal

pub returns : goal.returns
returns c =
    read_ok (record { types = c.self.inside.types; variables = c.self.inside.variables.items; meant = c.self.inside.meant.items; scope = c.self.inside.scope.items; entries = c.self.inside.entries }) c.args.self.now c.read.new.types c.deref.result.now c.deref-2.result.now c.args.words.now c.read.result c.self.view_is
    c.self.invariant c.deref.ensures.value c.deref-2.ensures.value c.read.ensures.read
