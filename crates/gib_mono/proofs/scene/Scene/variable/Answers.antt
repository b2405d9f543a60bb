use Rattle.gib_mono.proofs.InScene.{variable_view, no_variable}
use Rattle.gib_mono.proofs.scene.Scene.variable.Goals as goal

pub returns-in-Some : goal.returns-in-Some
returns-in-Some c =
    variable_view (record { types = c.self.inside.types; variables = c.self.inside.variables.items; meant = c.self.inside.meant.items; scope = c.self.inside.scope.items; entries = c.self.inside.entries }) c.args.self.now c.deref.result.now c.in-Some.ty c.args.name.0 c.self.view_is c.self.invariant
    c.deref.ensures.value c.in-Some.ensures.below c.in-Some.ensures.found

pub returns-in-None : goal.returns-in-None
returns-in-None c =
    no_variable (record { types = c.self.inside.types; variables = c.self.inside.variables.items; meant = c.self.inside.meant.items; scope = c.self.inside.scope.items; entries = c.self.inside.entries }) c.args.self.now c.deref.result.now c.put.new.self c.args.name.0 c.put.result c.self.view_is c.self.invariant
    c.put.ensures.grown c.put.ensures.longer c.put.ensures.within c.put.ensures.form c.deref.ensures.value c.in-None.ensures.found
