-- A text's core means what is left of it without its places.
use Rattle.std.proofs.Common.{◌≡◌, ℕ, List, [], ◌∷◌, Ok, refl, ap, ◌∙◌}
use Rattle.gib_types.specs.Tree.{Datum}
use Rattle.gib_types.specs.Table.{Table, IsTable}
use Rattle.gib_syntax.specs.Tree.{DataTree}
use Rattle.gib_syntax.specs.Declarations.{table_of_program, type_of_name, input_type, output_type}
use Rattle.gib_core.specs.TypesNamed.{SignaturesDeclared}
use Rattle.gib_local.proofs.Finding.{declared_back}
use Rattle.gib_syntax.specs.Meaning.{run}
use Rattle.gib_core.specs.Tree.{CoreTree}
use Rattle.gib_core.specs.Meaning.{core_run}
use Rattle.gib_core.specs.Erasing.{erase_core, type_name}
use Rattle.gib_core.specs.Numbering.{AreNumbered}
use Rattle.gib_core.specs.Ordered.{AreOrdered, AreNatural}
use Rattle.gib_core.specs.Rules.{AreBuilt}
use Rattle.gib_local_parse.specs.Tree.{LocalTree}
use Rattle.gib_local.specs.Building.{build_core, build_body, build_functions, program}
use Rattle.gib_local.proofs.Holding.{Holds, any, then_holds, holds_of}
use Rattle.gib_local.proofs.Numbered.{made_numbered}
use Rattle.gib_local.proofs.Naturals.{made_natural}

core_table : (t : LocalTree) → Holds (build_core t) (λ c. (program t).table ≡ c.table)
unfolding build_core
core_table t =
    then_holds (λ fs. Unit {0}) (λ c. (program t).table ≡ c.table) (build_functions (program t) t.functions) _ (any (build_functions (program t) t.functions))
    (λ fs ok. then_holds (λ r. Unit {0}) (λ c. (program t).table ≡ c.table) (build_body (program t) (t.main.parameter ∷ []) t.main.result t.main.place t.main.body) _ (any (build_body (program t) (t.main.parameter ∷ []) t.main.result t.main.place t.main.body))
    (λ r more. refl))

-- The table of a text's core is that of its declarations, which are those of what is left.
pub made_table : (t : LocalTree) (core : CoreTree) → build_core t ≡ Ok core → table_of_program (erase_core t.datas core) ≡ core.table
made_table t core e = holds_of (λ c. (program t).table ≡ c.table) (build_core t) core e (core_table t)

pub text_means : ((core : CoreTree) → IsTable core.table → AreNumbered core → AreNatural core → AreBuilt core → AreOrdered core)
    → ((datas : List DataTree) (core : CoreTree) → table_of_program (erase_core datas core) ≡ core.table → AreOrdered core → (depth : ℕ) (v : Datum) → run (erase_core datas core) depth v ≡ core_run core depth v)
    → (t : LocalTree) (core : CoreTree) → build_core t ≡ Ok core → IsTable core.table → AreBuilt core → (depth : ℕ) (v : Datum) → run (erase_core t.datas core) depth v ≡ core_run core depth v
text_means order means t core e is built depth v = means t.datas core (made_table t core e) (order core is (made_numbered t core e) (made_natural t core e) built) depth v

-- The program that is left reads and gives values of the types of the core's main.
pub made_types : (t : LocalTree) (core : CoreTree) → build_core t ≡ Ok core → IsTable core.table → SignaturesDeclared core → (input_type (erase_core t.datas core) ≡ core.main.parameter) × (output_type (erase_core t.datas core) ≡ core.main.result)
made_types t core e is sg =
    let same : (table_of_program (erase_core t.datas core)).types ≡ core.table.types = ap (λ (tb : Table). tb.types) (made_table t core e) in (
      ap (λ ns. type_of_name ns (type_name core.table core.main.parameter)) same ∙ declared_back core.table is core.main.parameter sg.main.0.0,
      ap (λ ns. type_of_name ns (type_name core.table core.main.result)) same ∙ declared_back core.table is core.main.result sg.main.1,
    )
