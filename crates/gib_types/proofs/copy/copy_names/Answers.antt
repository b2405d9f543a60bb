use Rattle.gib_base.specs.declared.name.Name.{Name}
use Rattle.gib_types.proofs.Copied.{copied}
use Rattle.gib_types.proofs.copy.copy_names.Goals as goal

pub types-preserved : goal.types-preserved
types-preserved c = copied (λ (n : Name). n.0) c.types.names.items c.push.new.self.items c.type_name.result c.args.types.now.types c.types.i c.type_name.ensures c.in_ok-push.ensures.items c.types.invariant.1
