-- The declarations round bodies, and what is in scope, as the code keeps them.
use Rattle.std.specs.Prelude.{◌≡◌, ℕ, ◌-◌, ◌≤◌, ◌==◌, Bool, List, [], ◌∷◌, ◌++◌, drop, length, map, Option, Ok}
use Rattle.gib_types.specs.Row.{Row}
use Rattle.gib_types.specs.declared.table.Ty.{Ty}
use Rattle.gib_types.specs.Table.{Table, fields_at, tree_types}
use Rattle.gib_syntax.specs.declared.tree.Ident.{Ident}
use Rattle.gib_syntax.specs.declared.tree.TypeName.{TypeName}
use Rattle.gib_syntax.specs.declared.tree.Parameter.{Parameter}
use Rattle.gib_syntax.specs.declared.tree.DataDecl.{DataDecl}
use Rattle.gib_syntax.specs.declared.tree.ConstructorDecl.{ConstructorDecl}
use Rattle.gib_syntax.specs.Tree.{ProgramTree, FunctionTree}
use Rattle.gib_syntax.specs.GenericTree.{GenericDataTree}
use Rattle.gib_syntax.specs.Plain.{generic_data}
use Rattle.gib_syntax.specs.Parts.{data_tree}
use Rattle.gib_syntax.specs.Declarations.{number_of, type_of_name, constructor_names, table_of_program}
use Rattle.gib_check.specs.declared.counts.Counts.{Counts}
use Rattle.gib_base.specs.declared.Span.{Span}
use Rattle.gib_check.specs.Faults.{Checked, and_then, one_more}
use Rattle.gib_local.specs.declared.known.Kept.{Kept}
use Rattle.gib_local_parse.specs.declared.text.FunctionLines.{FunctionLines}
use Rattle.gib_local.specs.Building.{declared}
use Rattle.gib_check.specs.InScope.{ScopeOf}
use Rattle.gib_local.specs.Naming.{Names, Declared, as_many, constructor, function, known, old, operand, operands, all_bound, check_line, check_body}
use Rattle.gib_local_parse.specs.TextParts.{TextParts, text_of}
use Rattle.gib_local_parse.specs.Tree.{Line}
use Rattle.gib_local_parse.specs.declared.tree.Mark.{Mark}
use Rattle.gib_local_parse.specs.declared.tree.Operand.{Operand}

-- What is declared by a program without bodies.
abbrev pub declared_by : ProgramTree → Declared
declared_by p = record { table = table_of_program p; functions = p.functions }

-- The data declarations of a text, as those of a program that may have type parameters.
abbrev pub datas_of : TextParts → List GenericDataTree
datas_of parts = map generic_data (map data_tree parts.datas)

-- What a text declares.
abbrev pub declared_of : TextParts → Declared
declared_of parts = declared_by (declared (text_of parts))

-- The number of a function's name.
abbrev pub function_number : FunctionLines → ℕ
function_number f = number_of f.name

-- None of these types is packed.
abbrev pub no_tree : List Ty → Bool
no_tree ts = length (tree_types ts) == 0

-- What is kept of a constructor, where the declared types have these names.
abbrev pub kept_in : List ℕ → ConstructorDecl → Kept
kept_in types k = record { name = k.name.name; count = length k.fields.items; flat = no_tree (map (type_of_name types) k.fields.items) }

-- The name of a kept constructor.
abbrev pub kept_name : Kept → ℕ
kept_name k = k.name.0

-- What is kept of the constructors of all types, in the order of the text.
abbrev pub all_kept : List ℕ → List DataDecl → List Kept
all_kept types [] = []
all_kept types (d ∷ ds) = map (kept_in types) d.constructors.items ++ all_kept types ds

-- How many fields a kept constructor has.
abbrev pub kept_count : Kept → ℕ
kept_count k = k.count

-- How many a constructor of the table has.
abbrev pub count_of : Row → ℕ
count_of r = length r.fields

-- Whether a kept constructor has no packed field.
abbrev pub kept_flat : Kept → Bool
kept_flat k = k.flat

-- Whether a constructor of the table has none.
abbrev pub flat_of : Row → Bool
flat_of r = no_tree r.fields

-- The names that a text declares, each list in the order of the text, and its constructors.
pub record IsKnown (parts : TextParts) (types constructors functions : List ℕ) (rows : List Kept) : Type 0 where
  pub types_are : types ≡ (declared_of parts).table.types
  pub constructors_are : constructors ≡ constructor_names (declared_of parts).table
  pub functions_are : functions ≡ map function_number parts.functions
  pub counts_are : map kept_count rows ≡ map count_of (declared_of parts).table.rows
  pub flats_are : map kept_flat rows ≡ map flat_of (declared_of parts).table.rows

-- A constructor is declared and has so many fields.
abbrev pub constructor_of : Table → Ident → ℕ → Checked (Unit {0})
constructor_of tb k n = and_then (constructor tb k) (λ c. as_many n (length (fields_at tb c)) k)

-- A function is declared and has so many parameters.
abbrev pub function_of : List FunctionTree → Ident → ℕ → Checked (Unit {0})
function_of functions f n = and_then (function functions f) (λ g. as_many n (length g.parameters) f)

-- A line ends with an operand; it counts as one more expression.
abbrev pub given : Names → Counts → Span → Operand → Checked Counts
given s n p x = and_then (one_more n p) (λ m. and_then (operand s.variables x) (λ _. Ok m))

-- It ends with a variable.
abbrev pub pointed : Names → Counts → Span → Ident → Checked Counts
pointed s n p x = and_then (one_more n p) (λ m. and_then (old s.variables x) (λ _. Ok m))

-- It ends with a call of a function that is declared.
abbrev pub called : Declared → Names → Counts → Ident → List Operand → Checked Counts
called d s n f xs = and_then (one_more n f.span) (λ m. and_then (function_of d.functions f (length xs)) (λ _. and_then (operands s.variables xs) (λ _. Ok m)))

-- It ends with the value of a constructor that is declared.
abbrev pub made : Declared → Names → Counts → Ident → List Operand → Checked Counts
made d s n k xs = and_then (one_more n k.span) (λ m. and_then (constructor_of d.table k (length xs)) (λ _. and_then (operands s.variables xs) (λ _. Ok m)))

-- Behind a variable that was counted: its type is declared, then the term that it is bound to.
abbrev pub side : Declared → Names → Counts → TypeName → Line → Checked Counts
side d s n w t = and_then (known d.table.types w) (λ _. check_line d t s n)

-- An arm: its constructor with its count, its variables, its term.
abbrev pub arm : Declared → Names → Counts → Ident → List Ident → Line → Checked Counts
arm d s n k xs t = and_then (constructor_of d.table k (length xs)) (λ _. and_then (all_bound xs s n) (λ r. check_line d t r.names r.counts))

-- A body as it is judged, without its counts.
abbrev pub body : Declared → List Parameter → Option Mark → Line → Checked (Unit {0})
body d qs at line = and_then (check_body d qs at line) (λ _. Ok (tt {0}))

-- The names that were in scope are the oldest of those in scope.
pub record IsKept (old new : Names) : Type 0 where
  pub variables : drop (length new.variables - length old.variables) new.variables ≡ old.variables
  pub places : drop (length new.places - length old.places) new.places ≡ old.places

-- A function has few parameters.
abbrev pub HasFew : FunctionLines → Type 0
HasFew f = length f.parameters.items ≤ 200

-- The names of a scope, the newest first.
abbrev pub names_in : ScopeOf ℕ → List ℕ
names_in [] = []
names_in (b ∷ scope) = b.0 ∷ names_in scope
