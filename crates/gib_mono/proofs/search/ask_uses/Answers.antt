use Rattle.std.proofs.Common.{length, subst}
use Rattle.gib_mono.specs.Reading.{AreUsesBelow}
use Rattle.gib_mono.specs.Sources.{globals_in}
use Rattle.gib_mono.proofs.Seeking.{uses_start, uses_next, uses_end}
use Rattle.gib_mono.proofs.search.ask_uses.Goals as goal

pub uses-init : goal.uses-init
uses-init c = uses_start (globals_in c.args.source.now) c.args.search.now c.args.uses c.requires

pub ask_type-requires : goal.ask_type-requires
ask_type-requires c = (subst (AreUsesBelow (length c.uses.search.context.types)) c.in-Some.ensures c.uses.invariant.below).0

pub uses-preserved : goal.uses-preserved
uses-preserved c =
    uses_next (globals_in c.args.source.now) c.args.search.now c.uses.search c.ask_type.new.search c.args.uses c.uses.uses c.pop.new.self c.in-Some.used c.uses.invariant c.in-Some.ensures c.in_ok-ask_type.ensures

pub returns : goal.returns
returns c = uses_end (globals_in c.args.source.now) c.args.search.now c.uses.search c.args.uses c.uses.uses c.uses.invariant c.in_default.ensures.0
