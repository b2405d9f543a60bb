use Rattle.std.proofs.Common.{ap, sym}
use Rattle.gib_base.specs.Texts.{TextsView}
use Rattle.gib_base.proofs.TextsHeld.{found_nowhere, none_gives}
use Rattle.gib_base.proofs.texts.Texts.find.Goals as goal

-- src/texts.rt:101:5
pub returns-clause-absent : goal.returns-clause-absent
returns-clause-absent c = none_gives c.find.result _ _ (λ none. found_nowhere c.self.inside.names c.self.inside.copies.items c.args.text.now c.self.invariant none c.args.self.now.short (ap (λ (v : TextsView). v.short) (sym c.self.view_is))) c.find.ensures.absent
