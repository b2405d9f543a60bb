-- What is declared, made.
use Rattle.std.proofs.Common.{◌≡◌, ℕ, List, map, sym, ap, ◌∙◌, subst}
use Rattle.gib_types.specs.Table.{Table, IsTable}
use Rattle.gib_syntax.specs.declared.tree.DataDecl.{DataDecl}
use Rattle.gib_syntax.specs.Parts.{Parts, data_tree}
use Rattle.gib_syntax.specs.Declarations.{rows_from}
use Rattle.gib_check.specs.declared.functions.FunctionHead.{FunctionHead}
use Rattle.gib_check.specs.Functions.{head_of, head_in}
use Rattle.gib_check.specs.Views.{tree_number, row_name, function_name, types_in, table_in, IsDeclared}

-- The table of these types and data declarations.
abbrev pub table_from : List ℕ → List DataDecl → Table
table_from types ds = record { types = map tree_number (map data_tree ds); rows = rows_from types 0 (map data_tree ds) }

table_same : (parts : Parts) (types : List ℕ) (ds : List DataDecl) → ds ≡ parts.data_decls → types ≡ types_in parts → table_from types ds ≡ table_in parts
table_same parts types ds e t = (λ i. table_from (t i) (e i))

pub made_table : (parts : Parts) (types : List ℕ) (ds : List DataDecl) → ds ≡ parts.data_decls → types ≡ types_in parts → IsTable (table_in parts) → IsTable (table_from types ds)
made_table parts types ds e t h = subst IsTable (sym (table_same parts types ds e t)) h

pub declared_is : (parts : Parts) (types : List ℕ) (ds : List DataDecl) (table : Table) (constructors functions : List ℕ) (heads : List FunctionHead) → ds ≡ parts.data_decls → types ≡ types_in parts → table ≡ table_from types ds → constructors ≡ map row_name (rows_from types 0 (map data_tree ds)) → functions ≡ map function_name parts.functions → map head_of heads ≡ map (head_in types) parts.functions → IsDeclared parts table types constructors functions heads
declared_is parts types ds table constructors functions heads e t et ec ef eh = record {
  is_table = et ∙ table_same parts types ds e t;
  are_types = t;
  are_constructors = ec ∙ ap (λ (z : Table). map row_name z.rows) (table_same parts types ds e t);
  are_functions = ef;
  are_heads = eh ∙ ap (λ (z : List ℕ). map (head_in z) parts.functions) t;
}
