use Rattle.std.proofs.Common.{ap, refl}
use Rattle.gib_syntax.proofs.GenericLayers.{put_keeps, put_view}
use Rattle.gib_syntax.proofs.generic.GenericExprs.put.Goals as goal

pub returns-clause-made : goal.returns-clause-made
returns-clause-made c =
    put_view (record { words = c.self.inside.words.items; nodes = c.self.inside.nodes }) c.args.self.now (record { words = c.self.inside.words.items; nodes = c.put.new.self }) c.in_ok-number.number c.args.node
    c.self.view_is c.in_ok-number.ensures.made refl

pub invariant_of-self-2 : goal.invariant_of-self-2
invariant_of-self-2 c =
    put_keeps (record { words = c.self.inside.words.items; nodes = c.self.inside.nodes }) c.args.self.now (record { words = c.self.inside.words.items; nodes = c.put.new.self }) c.args.node
    c.self.view_is c.self.invariant c.requires.below c.requires.within (ap (λ ns. record { words = c.self.inside.words.items; nodes = ns }) c.in_ok-number.ensures.made.nodes)
