use Rattle.std.proofs.Common.{sym, ap, ◌∙◌}
use Rattle.gib_core.specs.Tree.{Write, prepend}
use Rattle.gib_core.specs.Arena.{term_of, binds_from}
use Rattle.gib_place.specs.Placing.{filling_of}
use Rattle.gib_place.specs.Filled.{once_by, filling_from}
use Rattle.gib_place.proofs.Making.{made_passed, no_line}
use Rattle.gib_place.proofs.filling.fill.Goals as goal

pub returns-in-None : goal.returns-in-None
returns-in-None c =
    let f = term_of c.args.scratch.now.terms in
    let head = c.args.head in
    made_passed c.put_write.result _ _ (λ t. no_line (once_by c.args.placing.now.once.now) c.args.scratch.now.terms c.put_write.new.terms t _
    (ap (λ z. filling_of (prepend (binds_from f z) (Write head.variable head.constructor head.scalars.items head.packed.items))) (sym c.deref.ensures.value)
    ∙ (c.in_ok-found.ensures.filling head.variable head.constructor head.scalars.items head.packed.items ∙ ap (filling_from f head.variable head.constructor head.scalars.items head.packed.items) c.in-None.is)))
    c.put_write.ensures
