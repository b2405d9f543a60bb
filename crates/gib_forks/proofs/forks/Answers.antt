use Rattle.std.proofs.Common.{refl, sym, ap, ◌∙◌, subst}
use Rattle.gib_core.specs.Parts.{core_of}
use Rattle.gib_core.specs.Meaning.{core_calls, core_run}
use Rattle.gib_core.specs.Erasing.{erase_core}
use Rattle.gib_core.specs.Numbering.{AreNumbered}
use Rattle.gib_core.specs.Rules.{AreBuilt}
use Rattle.gib_forks.proofs.Bodies.{all_marked}
use Rattle.gib_forks.proofs.forks.Goals as goal

-- src/lib.rt
pub make-requires : goal.make-requires
make-requires c =
    let is = all_marked c.args.core c.into_core.result c.marked.result c.marked.result c.into_core.ensures.value c.marked.ensures refl in
    subst AreBuilt (sym is) (c.marking_keeps.ensures.built (core_of c.args.core) c.into_core.ensures.built)

pub returns-clause-numbered : goal.returns-clause-numbered
returns-clause-numbered c =
    let is = all_marked c.args.core c.into_core.result c.marked.result c.make.result c.into_core.ensures.value c.marked.ensures c.make.ensures in
    λ h. subst AreNumbered (sym is) (c.marking_keeps.ensures.numbered (core_of c.args.core) h)

pub returns-clause-erased : goal.returns-clause-erased
returns-clause-erased c =
    let is = all_marked c.args.core c.into_core.result c.marked.result c.make.result c.into_core.ensures.value c.marked.ensures c.make.ensures in
    λ datas. ap (erase_core datas) is ∙ c.marking_keeps.ensures.erased datas (core_of c.args.core)

pub returns-clause-calls : goal.returns-clause-calls
returns-clause-calls c =
    let is = all_marked c.args.core c.into_core.result c.marked.result c.make.result c.into_core.ensures.value c.marked.ensures c.make.ensures in
    λ n. ap (λ x. core_calls x n) is ∙ c.marking_keeps.ensures.calls (core_of c.args.core) n

pub returns-clause-run : goal.returns-clause-run
returns-clause-run c =
    let is = all_marked c.args.core c.into_core.result c.marked.result c.make.result c.into_core.ensures.value c.marked.ensures c.make.ensures in
    λ depth v. ap (λ x. core_run x depth v) is ∙ c.marking_keeps.ensures.run (core_of c.args.core) depth v
