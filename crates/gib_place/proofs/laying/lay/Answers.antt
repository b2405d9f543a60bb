use Rattle.std.proofs.Common.{◌-◌, arith}
use Rattle.gib_place.specs.Filled.{once_by}
use Rattle.gib_place.proofs.Onward.{laying_next, laying_end}
use Rattle.gib_place.proofs.laying.lay.Goals as goal

pub run-preserved : goal.run-preserved
run-preserved c =
    laying_next (once_by c.args.placing.now.once.now) c.bind_run.new.times c.args.line.now c.run.time c.in-Some.next c.run.i c.run.laid c.lay_binding.new.laid c.index.result.now c.index.result.now c.run.invariant (omega (arith, c.len.ensures)) (omega (arith, c.in-Some.ensures)) c.index.ensures c.in_ok-lay_binding.ensures.used c.in_ok-lay_binding.ensures.lays

pub returns : goal.returns
returns c =
    laying_end (once_by c.args.placing.now.once.now) c.bind_run.new.times c.args.line.now c.run.time c.run.i (c.len-2.result - c.open_head.new.laid.used) c.run.laid c.open_head.new.laid c.put_fields.new.laid c.run.invariant (omega (arith, c.len.ensures)) c.requires
    (let u = c.in_ok-open_head.ensures.used in let w = c.run.invariant.used in omega (arith, c.len-2.ensures)) c.in_ok-open_head.ensures c.in_ok-put_fields.ensures
