use Rattle.std.proofs.Common.{◌≡◌, ◌-◌, ◌++◌, length, take, drop}
use Rattle.gib_syntax.specs.Meaning.{names_of}
use Rattle.gib_plain.specs.Stacks.{bindings_of}
use Rattle.gib_plain.proofs.stack.push_parameters.Given as goal

abbrev pub invariant-parameters : goal.invariant-parameters
invariant-parameters l =
    (l.vars.items ++ bindings_of (drop l.i (names_of l.parameters)) (drop l.i l.values) ≡ l.initial.vars.items ++ bindings_of (names_of l.parameters) l.values)
    × (take l.start l.vars.items ≡ l.initial.vars.items)

abbrev pub decreases-parameters : goal.decreases-parameters
decreases-parameters l = length l.values - l.i
