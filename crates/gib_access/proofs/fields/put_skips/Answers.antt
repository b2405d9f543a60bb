use Rattle.std.proofs.Common.{◌-◌, arith, sym, ◌∙◌}
use Rattle.gib_access.specs.Used.{since}
use Rattle.gib_access.proofs.Fronting.{skips_stay}
use Rattle.gib_access.proofs.fields.put_skips.Goals as goal
use Rattle.gib_access.proofs.fields.put_skips.Goals.{then-wanted, else-wanted}

pub fields-preserved : goal.fields-preserved
fields-preserved c =
    elim c.if-wanted.branch [
      | then-wanted w ↦ absurd cc
      | else-wanted w ↦
          let h = skips_stay (since c.args.stamps.now c.args.start) c.args.terms.now c.fields.terms c.fields.term c.args.body c.args.first c.args.fields.now c.fields.i (c.fields.i - 1) (record { 0 = 0 }) c.fields.wanted c.if-wanted.wanted (omega arith) c.fields.invariant.within (sym w.is_used_since-wanted.ensures ∙ sym w.wanted-is ∙ c.if-wanted-2.false) w.if-wanted.false c.fields.invariant.wanted c.if-wanted-2.false c.fields.invariant.fronts in
          record { within = omega arith; wanted = h.0; fronts = h.1 }
    ]
