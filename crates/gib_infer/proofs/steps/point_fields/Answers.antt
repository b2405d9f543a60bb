use Rattle.std.proofs.Common.{refl}
use Rattle.gib_infer.proofs.FieldSteps.{points_next}
use Rattle.gib_infer.proofs.steps.point_fields.Goals as goal

pub fields-preserved : goal.fields-preserved
fields-preserved c =
    points_next c.args.work.now c.fields.work c.new_variable.new.work (record c.new_variable.new.work { terms = c.put.new.self }) c.args.bindings.now.items c.fields.bindings.items c.push.new.self.items c.args.types.now c.fields.types_left.now c.further_types-types_left.result.now c.args.atoms.now c.fields.atoms_left.now _ c.fields.fields.items c.push-in-len1-up.new.self.items c.in_ok-variable.variable c.first_type-ty.result c.in_ok-term.term c.in-len1-up.len_at_least c.in_ok-variable.ensures.variable c.in_ok-variable.ensures.new c.in_ok-term.ensures.made.grows c.in_ok-term.ensures.made.inside c.in_ok-term.ensures.made.term refl refl c.in_ok-push.ensures.items c.in_ok-push-2.ensures.items c.first_type-ty.ensures c.further_types-types_left.ensures c.fields.invariant
