use Rattle.std.proofs.Common.{◌≡◌, subst, None, rules}
use Rattle.gib_core.specs.Parts.{Parts, core_of}
use Rattle.gib_core.specs.Rules.{first_broken}
use Rattle.gib_loccheck.specs.Judging.{Says}
use Rattle.gib_loccheck.proofs.unbroken.Goals as goal

pub returns-in_err-check_bodies-clause-broken : goal.returns-in_err-check_bodies-clause-broken
returns-in_err-check_bodies-clause-broken c =
    let h = subst (λ (p : Parts). Says c.in_err-check_bodies.field-0.0 (first_broken (core_of p))) c.in_ok-indexed.ensures c.in_err-check_bodies.ensures.broken in search rules

pub returns-clause-unbroken : goal.returns-clause-unbroken
returns-clause-unbroken c = subst (λ (p : Parts). first_broken (core_of p) ≡ None) c.in_ok-indexed.ensures c.in_ok-check_bodies.ensures.unbroken
