use Rattle.std.proofs.Common.{◌||◌, ◌-◌, ◌+◌, drop, take, arith, sym, ap, ◌∙◌}
use Rattle.gib_core.specs.Arena.{term_of, binds_from}
use Rattle.gib_access.specs.Planned.{any_tells}
use Rattle.gib_access.proofs.Plans.{told_step}
use Rattle.gib_access.proofs.planning.is_told.Goals as goal

pub returns-then-is_telling : goal.returns-then-is_telling
returns-then-is_telling c =
    let f = term_of c.args.source.now.terms.now in
    let es = c.args.source.now.ended.now in
    let bs = c.args.bindings.now in
    sym (c.bindings.invariant.1
    ∙ told_step es f bs c.args.many c.bindings.i _ c.args.z (omega arith) c.requires.many
    ∙ ap (λ a. a || any_tells es (take (c.args.many - (c.bindings.i + 1)) (binds_from f (drop (c.bindings.i + 1) bs))) c.args.z) (sym c.is_telling.ensures ∙ c.if-is_telling.true))

pub bindings-preserved : goal.bindings-preserved
bindings-preserved c =
    let f = term_of c.args.source.now.terms.now in
    let es = c.args.source.now.ended.now in
    let bs = c.args.bindings.now in (
      omega arith,
      c.bindings.invariant.1
          ∙ told_step es f bs c.args.many c.bindings.i _ c.args.z (omega arith) c.requires.many
          ∙ ap (λ a. a || any_tells es (take (c.args.many - (c.bindings.i + 1)) (binds_from f (drop (c.bindings.i + 1) bs))) c.args.z) (sym c.is_telling.ensures ∙ c.if-is_telling.false),
    )
