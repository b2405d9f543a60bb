use Rattle.std.proofs.Common.{◌+◌, ◌∙◌, sym, ap, suc, take, drop, arith}
use Rattle.gib_core.specs.Arena.{term_of, binds_from}
use Rattle.gib_core.specs.Tree.{Write, prepend}
use Rattle.gib_place.specs.Placing.{ending_of}
use Rattle.gib_place.specs.Filled.{ending_from}
use Rattle.gib_place.proofs.Cutting.{tail_is}
use Rattle.gib_place.proofs.Found.{line_at_none, line_at_some}
use Rattle.gib_place.proofs.filling.line_at.Goals as goal

pub returns-in-None-clause-filling : goal.returns-in-None-clause-filling
returns-in-None-clause-filling c = λ h k ss ps.
    line_at_none (binds_from (term_of c.args.terms.now) (take c.args.place c.args.bindings.now)) c.args.head c.args.constructor (ending_of (prepend (binds_from (term_of c.args.terms.now) (drop (suc c.args.place) c.args.bindings.now)) (Write h k ss ps)))
    (sym (ap (λ z. ending_of (prepend (binds_from (term_of c.args.terms.now) z) (Write h k ss ps))) (tail_is c.args.bindings.now (c.args.place + 1) (suc c.args.place) (let r = c.requires.place in omega arith) (omega arith)))
    ∙ (c.in_ok-found.ensures.ending h k ss ps ∙ ap (ending_from h k ss ps) c.in-None.is))

pub returns-in_ok-pointing-in-Some-clause-filling : goal.returns-in_ok-pointing-in-Some-clause-filling
returns-in_ok-pointing-in-Some-clause-filling c = λ h k ss ps.
    line_at_some (term_of c.args.terms.now) (take c.args.place c.args.bindings.now) c.in_ok-run-in-Some.run'.items c.args.head c.args.constructor (ending_of (prepend (binds_from (term_of c.args.terms.now) (drop (suc c.args.place) c.args.bindings.now)) (Write h k ss ps)))
    (record { fields = c.in-Some.fields.items; head = h; con = k; scalars = ss; packed = ps })
    (sym (ap (λ z. ending_of (prepend (binds_from (term_of c.args.terms.now) z) (Write h k ss ps))) (tail_is c.args.bindings.now (c.args.place + 1) (suc c.args.place) (let r = c.requires.place in omega arith) (omega arith)))
    ∙ (c.in_ok-found.ensures.ending h k ss ps ∙ ap (ending_from h k ss ps) c.in-Some.is))
    c.in_ok-run-in-Some.ensures.items
