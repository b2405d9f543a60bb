use Rattle.std.proofs.Common.{sym, subst}
use Rattle.gib_compact.specs.Cut.{Adds}
use Rattle.gib_compact.proofs.CutLemmas.{adds_one, part_stands}
use Rattle.gib_compact.proofs.cut.refine_one.Goals as goal

pub returns-in_ok-push-in-Head-clause-adds : goal.returns-in_ok-push-in-Head-clause-adds
returns-in_ok-push-in-Head-clause-adds g c = λ bytes i. adds_one c.args.out.now.items c.push.new.self.items c.args.piece bytes i c.in_ok-push-in-Head.ensures.items

pub returns-in_ok-open-in-Part-clause-adds : goal.returns-in_ok-open-in-Part-clause-adds
returns-in_ok-open-in-Part-clause-adds g c = λ bytes i.
    let p = part_stands c.in-Part.is i in
    subst (Adds c.args.layouts.now (g.M.Mem.view c.args.mem.now).cells c.args.out.now.items c.open.new.out.items) (sym p.4) (c.in_ok-open-in-Part.ensures.adds p.0 p.1 p.2 p.3)
