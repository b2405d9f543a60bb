use Rattle.std.proofs.Common.{◌+◌, ◌≡◌, ◌++◌, refl, sym, ap, ◌∙◌, drop, arith}
use Rattle.std.proofs.Math.Bool.{beq}
use Rattle.gib_core.specs.PartTypes.{types_in}
use Rattle.gib_lower.proofs.PartMoves.{slots_from, slot_taken, slot_passed, slots_end}
use Rattle.gib_lower.proofs.parts.slots_at.Goals.{then-is_scalar-scalars+in_ok-push, else-is_scalar-scalars}
use Rattle.gib_lower.proofs.parts.slots_at.Goals as goal

pub types-preserved : goal.types-preserved
types-preserved c =
    let ts = types_in c.args.types in
    let all = slots_from c.args.scalars c.args.first.0 ts in
    let there = sym c.get.ensures ∙ c.in-Some.is in
    record {
      at = omega (arith, c.types.invariant.at, c.in_ok-slot.ensures.sum);
      made = elim c.if-is_scalar-scalars.branch [
        | then-is_scalar-scalars+in_ok-push w ↦
            slot_taken c.args.scalars ts c.in-Some.ty c.types.place (c.types.place + 1) c.types.slot c.in_ok-slot.slot c.types.slots.items c.if-is_scalar-scalars.slots.items all there
            (ap (λ b. beq b c.args.scalars) (sym c.is_scalar.ensures) ∙ w.if-is_scalar-scalars.true) refl c.in_ok-slot.ensures.sum (ap (λ v. v.items) w.slots-is ∙ w.in_ok-push.ensures.items) c.types.invariant.made
        | else-is_scalar-scalars w ↦
            ap (λ v. v.items ++ slots_from c.args.scalars c.in_ok-slot.slot (drop (c.types.place + 1) ts)) w.slots-is
            ∙ slot_passed c.args.scalars ts c.in-Some.ty c.types.place (c.types.place + 1) c.types.slot c.in_ok-slot.slot c.types.slots.items all there
            (ap (λ b. beq b c.args.scalars) (sym c.is_scalar.ensures) ∙ w.if-is_scalar-scalars.false) refl c.in_ok-slot.ensures.sum c.types.invariant.made
      ];
    }

pub returns : goal.returns
returns c =
    let ts = types_in c.args.types in
    slots_end c.args.scalars ts c.types.place c.types.slot c.types.slots.items (slots_from c.args.scalars c.args.first.0 ts) (sym c.get.ensures ∙ c.in_default.is) c.types.invariant.made
