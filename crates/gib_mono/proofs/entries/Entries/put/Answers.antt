use Rattle.std.proofs.Common.{ap, ◌∙◌}
use Rattle.gib_mono.specs.Entries.{with_key}
use Rattle.gib_mono.proofs.Entered.{put_is}
use Rattle.gib_mono.proofs.entries.Entries.put.Goals as goal

pub returns-clause-put : goal.returns-clause-put
returns-clause-put c = c.in-Ok.ensures.keys ∙ put_is c.self.inside.keys.keys c.args.entry ∙ ap (λ ks. with_key ks c.args.entry) c.self.view_is
