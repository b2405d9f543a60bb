use Rattle.std.proofs.Common.{sym, ap, ◌∙◌}
use Rattle.gib_compact.specs.Gathered.{gathered}
use Rattle.gib_compact.proofs.GatheredLemmas.{gathered_last}
use Rattle.gib_compact.proofs.parts.gather.Goals as goal

pub returns : goal.returns
returns c =
    c.in_ok-add_all.ensures ∙ sym (gathered_last c.pop.new.self.items c.in-Some.out) ∙ ap gathered (sym c.in-Some.ensures.items)
