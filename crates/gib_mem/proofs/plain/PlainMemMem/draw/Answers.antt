use Rattle.std.proofs.Common.{◌∙◌, ◌+◌, ap, refl}
use Rattle.gib_mem.specs.Plain.{plain_memory}
use Rattle.gib_mem.proofs.Drawn.{chunk_drawn}
use Rattle.gib_mem.proofs.plain.PlainMemMem.draw.Goals as goal

pub returns-clause-some : goal.returns-clause-some
returns-clause-some c =
    let old = c.args.self.now in
    ap (λ items. plain_memory items (old.drawn + 1) old.limit) c.push_unput.ensures.items ∙ chunk_drawn old.bytes.items old.drawn old.limit 4096 old.plain refl
