use Rattle.gib_mono.specs.Copying.{bind_forms}
use Rattle.gib_mono.specs.Reading.{listed}
use Rattle.gib_mono.specs.Scenes.{forms, scope_in}
use Rattle.gib_mono.proofs.Meeting.{bound_next, bound_end}
use Rattle.gib_mono.proofs.Walking.{empty_is, split_is}
use Rattle.gib_mono.proofs.copier.Copier.bind_all.Goals as goal

pub names-preserved : goal.names-preserved
names-preserved c =
    bound_next c.args.self.now c.names.self c.bind.new.self c.names.names.now _ c.names.left.now _ (bind_forms c.args.variables.now (listed (forms c.args.self.now.scene) c.args.types.now) (scope_in c.args.self.now.scene)) _ _
    (split_is c.names.names.now _ c.in-len1-up.len_at_least) (split_is c.names.left.now _ c.in-len1-up-left.len_at_least) c.names.invariant c.in_ok-bind.ensures.scope c.in_ok-bind.ensures.types

pub returns : goal.returns
returns c =
    bound_end c.args.self.now c.names.self c.names.names.now c.names.left.now (bind_forms c.args.variables.now (listed (forms c.args.self.now.scene) c.args.types.now) (scope_in c.args.self.now.scene)) (empty_is c.names.names.now c.in_default.len_below) c.names.invariant
