use Rattle.std.proofs.Common.{arith}
use Rattle.gib_check.proofs.Naming.{name_put, name_kept}
use Rattle.gib_check.proofs.names.NameList.push.Goals as goal

pub invariant_of-self-in_default : goal.invariant_of-self-in_default
invariant_of-self-in_default c =
    name_put c.self.inside.names.items c.push.new.self.items c.args.name c.self.inside.places c.set.new.self c.len-place.result c.get.result c.self.invariant c.in_ok-push.ensures.items
    (omega (arith, c.in_ok-push.ensures.len, c.if-len.false, c.len.ensures)) c.get.ensures c.if-is_none.ensures (omega (arith, c.len-place.ensures, c.self.inside.names.ok)) c.in_default.ensures.set

pub invariant_of-self-else-is_none : goal.invariant_of-self-else-is_none
invariant_of-self-else-is_none c =
    name_kept c.self.inside.names.items c.push.new.self.items c.args.name c.self.inside.places c.get.result c.self.invariant c.in_ok-push.ensures.items
    (omega (arith, c.in_ok-push.ensures.len, c.if-len.false, c.len.ensures)) c.get.ensures c.if-is_none.ensures
