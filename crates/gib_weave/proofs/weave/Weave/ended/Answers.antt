use Rattle.std.proofs.Common.{ℕ, subst}
use Rattle.std.specs.Prelude.{IfSome}
use Rattle.gib_types.specs.Tree.{Datum}
use Rattle.gib_mem.specs.Plain.{plain_memory}
use Rattle.gib_weave.specs.Applied.{over}
use Rattle.gib_weave.specs.Woven.{WeaveParts, IsMeant, IsSoundOn, weave_of}
use Rattle.gib_weave.proofs.Wovens.{ended_means}
use Rattle.gib_weave.proofs.weave.Weave.ended.Goals as goal

pub returns-clause-means : goal.returns-clause-means
returns-clause-means c =
    subst (λ (p : WeaveParts). IfSome c.ended.result (λ a. (depth level : ℕ) (d : Datum) → IsSoundOn p.lowered depth level d (weave_of p) → IsMeant p.lowered depth d (weave_of p) a)) c.self.view_is
    (ended_means c.self.inside.lowered.now (over (plain_memory c.self.inside.memory.bytes.items c.self.inside.memory.drawn c.self.inside.memory.limit) c.self.inside.tasks) c.ended.result c.ended.ensures.some)
