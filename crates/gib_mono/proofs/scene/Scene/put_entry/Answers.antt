use Rattle.std.proofs.lemmas.Result.{on_ok_weaker}
use Rattle.gib_mono.proofs.InScene.{names_put}
use Rattle.gib_mono.proofs.scene.Scene.put_entry.Goals as goal

pub returns : goal.returns
returns c =
    on_ok_weaker c.put.result (λ h. names_put (record { types = c.self.inside.types; variables = c.self.inside.variables.items; meant = c.self.inside.meant.items; scope = c.self.inside.scope.items; entries = c.self.inside.entries }) c.args.self.now c.put.new.self
    (record { name = c.args.name.0; types = c.args.types }) c.self.view_is c.self.invariant c.len-met.ensures.once c.requires h)
    c.put.ensures.put
