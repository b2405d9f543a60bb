use Rattle.std.proofs.Common.{◌+◌, suc, refl, subst, List, arith, Some, None, ◌≡◌}
use Rattle.gib_core.specs.Arena.{side_from}
use Rattle.gib_place.specs.declared.field.Field.{Field}
use Rattle.gib_place.specs.Placing.{are_none, place_side}
use Rattle.gib_place.specs.Filled.{once_by, side_placed}
use Rattle.gib_place.proofs.Cutting.{left_placed, both_placed, tail_is}
use Rattle.gib_place.proofs.spots.spot_of_both.Goals as goal

pub returns-in-None-clause-bind : goal.returns-in-None-clause-bind
returns-in-None-clause-bind c =
    λ f.
    let rest = tail_is c.args.fields.now (c.args.left.place + 1) (suc c.args.left.place) (let r = c.requires in omega arith) (omega arith) in
    left_placed (once_by c.args.once.now) f c.args.fork c.args.right c.args.fields.now c.args.left (c.args.left.place + 1) refl
    (subst (λ (z : List Field). place_side (once_by c.args.once.now) are_none (side_from f c.args.right) z ≡ None) rest (c.in-None.ensures.side f))

pub returns-in-Some-clause-bind : goal.returns-in-Some-clause-bind
returns-in-Some-clause-bind c =
    λ f.
    let rest = tail_is c.args.fields.now (c.args.left.place + 1) (suc c.args.left.place) (let r = c.requires in omega arith) (omega arith) in
    both_placed (once_by c.args.once.now) f c.args.fork c.args.right c.args.fields.now c.args.left c.in-Some.second (c.args.left.place + 2) refl c.in-Some.ensures.first
    (subst (λ (z : List Field). place_side (once_by c.args.once.now) are_none (side_from f c.args.right) z ≡ side_placed f z (Some c.in-Some.second)) rest (c.in-Some.ensures.side f))
