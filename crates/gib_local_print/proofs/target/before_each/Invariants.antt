use Rattle.std.proofs.Common.{◌≡◌, ◌+◌, ◌++◌, length, map}
use Rattle.gib_core.specs.Arena.{term_of, binds_from}
use Rattle.gib_local.specs.Builds.{destination_of}
use Rattle.gib_local_print.specs.LineTokens.{before_each, behind_all}
use Rattle.gib_local_print.proofs.target.before_each.Given as goal

abbrev pub invariant-bindings : goal.invariant-bindings
invariant-bindings l =
    let rest = binds_from (term_of l.from.terms.now) l.rest in
    let all = binds_from (term_of l.from.terms.now) l.bindings in
    (map destination_of l.found.items ++ before_each (destination_of l.destination) rest ≡ before_each (destination_of l.fn.destination) all)
    × (behind_all (destination_of l.destination) rest ≡ behind_all (destination_of l.fn.destination) all)
    × (length l.found.items + length l.rest ≡ length l.bindings)

abbrev pub decreases-bindings : goal.decreases-bindings
decreases-bindings l = length l.rest
