use Rattle.std.proofs.Common.{ap}
use Rattle.gib_syntax.specs.GenericArena.{Arena}
use Rattle.gib_syntax.proofs.GenericLayers.{grow_view, words_keep}
use Rattle.gib_syntax.proofs.generic.GenericExprs.put_words.Goals as goal

pub returns-clause-grows : goal.returns-clause-grows
returns-clause-grows c =
    let with : Arena = record { words = c.self.inside.words.items; nodes = c.self.inside.nodes } in
    grow_view with c.args.self.now (record { words = c.extend_from_slice.new.self.items; nodes = c.self.inside.nodes }) c.args.words.now c.self.view_is c.self.invariant
    (ap (λ ws. record { words = ws; nodes = c.self.inside.nodes }) c.in_ok-extend_from_slice.ensures.items)

pub invariant_of-self-2 : goal.invariant_of-self-2
invariant_of-self-2 c =
    let old : Arena = record { words = c.self.inside.words.items; nodes = c.self.inside.nodes } in
    words_keep old (record { words = c.extend_from_slice.new.self.items; nodes = c.self.inside.nodes }) c.args.words.now c.self.invariant
    (ap (λ ws. record { words = ws; nodes = c.self.inside.nodes }) c.in_ok-extend_from_slice.ensures.items)
