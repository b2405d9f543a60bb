use Rattle.std.proofs.Common.{refl, sym, ◌∙◌, suc, take, drop, arith}
use Rattle.gib_core.specs.Arena.{term_of, binds_from}
use Rattle.gib_core.specs.Tree.{Write, prepend}
use Rattle.gib_place.specs.Placing.{ending_of, filling_of, room_first}
use Rattle.gib_place.specs.Filled.{bindings_first}
use Rattle.gib_place.proofs.Found.{run_next, run_found, run_missed, line_passed}
use Rattle.gib_place.proofs.filling.line_of.Goals as goal

pub returns-in-Some-clause-filling : goal.returns-in-Some-clause-filling
returns-in-Some-clause-filling c =
    let f = term_of c.args.terms.now in
    line_passed f c.line_at.result (λ h k ss ps. filling_of (prepend (binds_from f c.args.bindings.now) (Write h k ss ps)))
    (λ h k ss ps. bindings_first (binds_from f (take c.bindings.i c.args.bindings.now)) (room_first c.in-Some.head c.in-Some.constructor (ending_of (prepend (binds_from f (drop (suc c.bindings.i) c.args.bindings.now)) (Write h k ss ps)))))
    (run_found f c.args.bindings.now c.bindings.i _ _ (c.in-Some.head, c.in-Some.constructor) c.bindings.invariant (omega arith) refl (sym c.room_of.ensures ∙ c.in-Some.is))
    c.line_at.ensures.filling

pub bindings-preserved : goal.bindings-preserved
bindings-preserved c = run_next (term_of c.args.terms.now) c.args.bindings.now c.bindings.i _ _ c.bindings.invariant (omega arith) refl (sym c.room_of.ensures ∙ c.in-None.is)

pub returns-clause-filling : goal.returns-clause-filling
returns-clause-filling c = run_missed (term_of c.args.terms.now) c.args.bindings.now c.bindings.i c.bindings.invariant (omega arith)
