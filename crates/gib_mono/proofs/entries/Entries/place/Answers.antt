use Rattle.std.proofs.Common.{ap, ◌∙◌}
use Rattle.gib_mono.specs.Entries.{place_in}
use Rattle.gib_mono.proofs.Entered.{placed_some, placed_none}
use Rattle.gib_mono.proofs.entries.Entries.place.Goals as goal

pub returns-in-Some : goal.returns-in-Some
returns-in-Some c = placed_some c.self.inside.keys.keys c.args.entry.now c.in-Some.place c.in-Some.ensures.index ∙ ap (λ ks. place_in ks c.args.entry.now) c.self.view_is

pub returns-in-None : goal.returns-in-None
returns-in-None c = c.len.ensures.len ∙ placed_none c.self.inside.keys.keys c.args.entry.now c.in-None.ensures.index ∙ ap (λ ks. place_in ks c.args.entry.now) c.self.view_is
