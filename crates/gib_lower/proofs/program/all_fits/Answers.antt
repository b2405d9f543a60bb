use Rattle.std.proofs.Common.{ap, ◌∙◌, subst}
use Rattle.gib_types.specs.Row.{Table}
use Rattle.gib_types.specs.Table.{IsTable}
use Rattle.gib_core.specs.Parts.{Parts, core_of}
use Rattle.gib_core.specs.Literals.{AllLiteralsFit}
use Rattle.gib_lower.proofs.program.all_fits.Goals as goal

pub returns-clause-named : goal.returns-clause-named
returns-clause-named c =
    let same = c.types.ensures ∙ ap (λ (p : Parts). p.table) c.core-core.ensures.value in
    c.built_fits.ensures.named (core_of c.args.checked.now) (subst (λ (t : Table). IsTable t) same c.rules.ensures) c.requires (subst (λ (p : Parts). AllLiteralsFit (core_of p)) c.core-core.ensures.value c.literals_fit.ensures) c.core-core.ensures.built

pub returns-clause-each : goal.returns-clause-each
returns-clause-each c =
    let same = c.types.ensures ∙ ap (λ (p : Parts). p.table) c.core-core.ensures.value in
    c.built_fits.ensures.each (core_of c.args.checked.now) (subst (λ (t : Table). IsTable t) same c.rules.ensures) c.requires (subst (λ (p : Parts). AllLiteralsFit (core_of p)) c.core-core.ensures.value c.literals_fit.ensures) c.core-core.ensures.built
