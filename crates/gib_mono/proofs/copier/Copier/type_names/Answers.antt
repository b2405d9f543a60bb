use Rattle.std.proofs.Common.{length}
use Rattle.gib_mono.proofs.Walking.{empty_is, split_is}
use Rattle.gib_mono.proofs.Written.{first_below, names_end, names_next, names_start}
use Rattle.gib_mono.proofs.copier.Copier.type_names.Goals as goal

pub types-init : goal.types-init
types-init c = names_start c.args.self.now c.args.span c.new-names.result.items c.args.types.now c.new-names.ensures.items c.requires

pub type_name-requires : goal.type_name-requires
type_name-requires c = (first_below (length c.args.self.now.scene.types) c.types.rest.now _ _ (split_is c.types.rest.now _ c.in-len1-up.len_at_least) c.types.invariant.below).0

pub types-preserved : goal.types-preserved
types-preserved c =
    names_next c.args.self.now c.args.span c.types.names.items c.push.new.self.items c.types.rest.now _ c.args.types.now _ c.in_ok-name.name (split_is c.types.rest.now _ c.in-len1-up.len_at_least) c.types.invariant c.in_ok-name.ensures c.in_ok-push.ensures.items

pub returns : goal.returns
returns c = names_end c.args.self.now c.args.span c.types.names.items c.types.rest.now c.args.types.now (empty_is c.types.rest.now c.in_default.len_below) c.types.invariant
