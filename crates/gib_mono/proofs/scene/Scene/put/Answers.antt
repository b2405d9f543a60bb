use Rattle.std.proofs.Common.{List}
use Rattle.gib_types.specs.Form.{Form}
use Rattle.gib_types.specs.Types.{form_from}
use Rattle.gib_mono.proofs.InScene.{made_ok}
use Rattle.gib_mono.proofs.scene.Scene.put.Goals as goal

pub returns : goal.returns
returns c =
    made_ok (record { types = c.self.inside.types; variables = c.self.inside.variables.items; meant = c.self.inside.meant.items; scope = c.self.inside.scope.items; entries = c.self.inside.entries }) c.args.self.now c.put.new.self (λ (fs : List Form). form_from fs c.args.node)
    c.put.result c.self.view_is c.self.invariant c.put.ensures.grown c.put.ensures.longer c.put.ensures.within c.put.ensures.form
