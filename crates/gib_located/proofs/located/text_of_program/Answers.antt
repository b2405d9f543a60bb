use Rattle.std.proofs.Common.{◌≡◌, ◌∙◌, Ok, sym, ap, subst}
use Rattle.gib_types.specs.Table.{IsTable}
use Rattle.gib_syntax.specs.Parts.{program_of}
use Rattle.gib_core.specs.declared.atom.AccessMode.TheVariants.{Ends}
use Rattle.gib_core.specs.Numbering.{AreNumbered}
use Rattle.gib_core.specs.Parts.{Parts, core_of}
use Rattle.gib_core.specs.Rules.{AreBuilt}
use Rattle.gib_core.specs.Tree.{CoreTree}
use Rattle.gib_app.specs.Cores.{core_after}
use Rattle.gib_types.specs.declared.access.FieldAccess.TheVariants as access
use Rattle.gib_local.specs.Building.{build_core}
use Rattle.gib_local_print.specs.HasText.{with_ends}
use Rattle.gib_local_print.specs.LocatedText.{located_tree}
use Rattle.gib_located.proofs.located.text_of_program.Goals as goal

pub returns-in-Ok-print_located-clause-again : goal.returns-in-Ok-print_located-clause-again
returns-in-Ok-print_located-clause-again c =
    let p = program_of c.args.typed.now in
    let core : CoreTree = core_of c.into_core-core.result in
    let same : core ≡ core_after access.Ends 3 p = ap (λ (x : Parts). core_of x) c.into_core-core.ensures.value ∙ c.in-Ok.ensures.core in
    let table : IsTable c.types.result.now = c.rules.ensures in
    let numbered : AreNumbered core = subst (λ (x : Parts). AreNumbered (core_of x)) (sym c.into_core-core.ensures.value) c.in-Ok.ensures.numbered in
    let built : AreBuilt core = subst (λ (x : Parts). AreBuilt (core_of x)) (sym c.into_core-core.ensures.value) c.into_core-core.ensures.built in
    let typed = c.program-typed.ensures.typed in
    subst (λ (x : CoreTree). build_core (located_tree x) ≡ Ok (with_ends x)) same
    (c.printed_text_makes_its_core.ensures Ends p (subst IsTable c.types.ensures table) c.requires.fine typed (c.infer_numbers_variables.ensures.ordered p typed) core same c.types_declared.ensures c.literals_fit.ensures numbered
    built c.args.names.now.long c.in-Ok-print_located.text.items c.in-Ok-print_located.ensures.text)
