use Rattle.std.proofs.Common.{ℕ, Option, sym, ap₂, ◌∙◌}
use Rattle.gib_core.specs.Parts.{core_of}
use Rattle.gib_core.specs.Rules.{Broken}
use Rattle.gib_local.specs.Counting.{with_unlike}
use Rattle.gib_local.proofs.counting.check_core.Goals as goal

pub returns-in-None-clause-unbroken : goal.returns-in-None-clause-unbroken
returns-in-None-clause-unbroken c =
    ap₂ (λ (o : Option ℕ) (b : Broken). with_unlike o b) (sym c.in_ok-unlike.ensures ∙ c.in-None.is) ((c.built_is_unbroken.ensures (core_of c.args.core)).1 c.in-Ok.ensures.built)
