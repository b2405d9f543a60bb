use Rattle.std.proofs.Common.{◌≡◌, ◌-◌, ◌++◌, length, take, drop}
use Rattle.gib_plain.specs.Stacks.{bindings_of}
use Rattle.gib_plain.proofs.stack.push_bindings.Given as goal

abbrev pub invariant-names : goal.invariant-names
invariant-names l =
    (l.vars.items ++ bindings_of (drop l.i l.names) (drop l.i l.values) ≡ l.initial.vars.items ++ bindings_of l.names l.values)
    × (take l.start l.vars.items ≡ l.initial.vars.items)

abbrev pub decreases-names : goal.decreases-names
decreases-names l = length l.values - l.i
