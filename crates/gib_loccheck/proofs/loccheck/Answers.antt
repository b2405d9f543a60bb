use Rattle.std.proofs.Common.{subst, sym, rules}
use Rattle.gib_core.specs.Parts.{Parts, core_of}
use Rattle.gib_core.specs.Rules.{AreBuilt, first_broken}
use Rattle.gib_loccheck.proofs.Answering.{memory_alone, memory_or, never}
use Rattle.gib_loccheck.proofs.loccheck.Goals as goal

pub make-requires : goal.make-requires
make-requires c =
    subst (λ (p : Parts). AreBuilt (core_of p)) (sym c.in_ok-unbroken.ensures.same) ((c.built_is_unbroken.ensures (core_of c.args.core)).0 c.in_ok-unbroken.ensures.unbroken)

pub returns-in_err-unbroken-clause-only : goal.returns-in_err-unbroken-clause-only
returns-in_err-unbroken-clause-only c =
    λ built. let h = memory_alone c.in_err-unbroken.field-0.0 (first_broken (core_of c.args.core)) c.in_err-unbroken.ensures.broken ((c.built_is_unbroken.ensures (core_of c.args.core)).1 built) in search rules

pub returns-in_err-unbroken-clause-reached : goal.returns-in_err-unbroken-clause-reached
returns-in_err-unbroken-clause-reached c =
    λ mode tree reachable e.
    let h = memory_alone c.in_err-unbroken.field-0.0 (first_broken (core_of c.args.core)) c.in_err-unbroken.ensures.broken
    ((c.built_is_unbroken.ensures (core_of c.args.core)).1 (subst AreBuilt (sym e) (c.reaching_makes_built.ensures mode tree reachable))) in
    search rules

pub returns-in_err-unbroken-clause-told : goal.returns-in_err-unbroken-clause-told
returns-in_err-unbroken-clause-told c =
    λ rule place e. let h = memory_or c.in_err-unbroken.field-0.0 (first_broken (core_of c.args.core)) rule place c.in_err-unbroken.ensures.broken e in search rules

pub returns-clause-told : goal.returns-clause-told
returns-clause-told c =
    λ rule place h. never (first_broken (core_of c.args.core)) rule place c.in_ok-unbroken.ensures.unbroken h
