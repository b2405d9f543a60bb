use Rattle.std.proofs.Common.{◌∙◌, rules}
use Rattle.gib_mono.proofs.InScene.{number_view}
use Rattle.gib_mono.proofs.scene.Scene.name.Goals as goal

pub returns-in-Some : goal.returns-in-Some
returns-in-Some c =
    number_view (record { types = c.self.inside.types; variables = c.self.inside.variables.items; meant = c.self.inside.meant.items; scope = c.self.inside.scope.items; entries = c.self.inside.entries }) c.args.self.now c.args.base c.args.name.0 c.args.types c.in-Some.number c.in-Ok.place
    c.self.view_is c.self.invariant c.len-met.ensures.once c.requires (search rules) (c.in-Ok.ensures.1 ∙ c.place.ensures) c.in-Some.ensures.1
