-- The names, counts and limits of a text: the first fault in the order of the text.
use Rattle.std.specs.Prelude.{ℕ, ◌==◌, is_some, is_none, List, [], ◌∷◌, length, Option, Some, None, Ok}
use Rattle.gib_types.specs.Table.{Table, fields_at}
use Rattle.gib_syntax.specs.declared.tree.Ident.{Ident}
use Rattle.gib_syntax.specs.declared.tree.TypeName.{TypeName}
use Rattle.gib_syntax.specs.declared.tree.TypeName.TheVariants as ty
use Rattle.gib_syntax.specs.declared.tree.Parameter.{Parameter}
use Rattle.gib_syntax.specs.Tree.{FunctionTree}
use Rattle.gib_syntax.specs.Declarations.{number_of, place_of, constructor_named, function_named, table_of_program}
use Rattle.gib_check.specs.declared.counts.Counts.{Counts}
use Rattle.gib_check.specs.declared.fault.Kind.TheVariants as kind
use Rattle.gib_syntax.specs.Plain.{generic_of}
use Rattle.gib_check.specs.Faults.{Checked, and_then, allowed, found, one_more, counted}
use Rattle.gib_check.specs.FirstFault.{check_declarations}
use Rattle.gib_local_parse.specs.Tree.{Line, In, Given, Pointed, Called, Made, Cased, Chosen, Binding, NewRegion, NewPlace, LetIn, ParIn, PrimIn, ReachIn, Be, Arms, LastArm, NextArm, FunctionText, LocalTree}
use Rattle.gib_local_parse.specs.declared.tree.Mark.{Mark}
use Rattle.gib_local_parse.specs.declared.tree.Operand.{Operand}
use Rattle.gib_local_parse.specs.declared.tree.Operand.TheVariants.{Named, Number, Bit}
use Rattle.gib_local_parse.specs.declared.tree.Location.{Location}
use Rattle.gib_local_parse.specs.declared.tree.Location.TheVariants.{Start, Plus, After}
use Rattle.gib_local_parse.specs.declared.tree.Way.{Way}
use Rattle.gib_local_parse.specs.declared.tree.Way.TheVariants.{ByOffset, BySkip, ByEnd}
use Rattle.gib_local.specs.Building.{declared}

-- The names in scope: variables; regions and locations, which are one name space of their own.
pub record Names : Type 0 where
  pub variables : List ℕ
  pub places : List ℕ

-- The declarations round a body.
pub record Declared : Type 0 where
  pub table : Table
  pub functions : List FunctionTree

-- `Twice`: a name that is none of these.
abbrev pub new : List ℕ → Ident → Checked (Unit {0})
new names x = allowed (is_none (place_of names (number_of x))) kind.Twice x.span (tt {0})

-- `Unknown`: a name that is one of these.
abbrev pub old : List ℕ → Ident → Checked (Unit {0})
old names x = allowed (is_some (place_of names (number_of x))) kind.Unknown x.span (tt {0})

-- `Unknown`: a type that is declared.
abbrev pub known : List ℕ → TypeName → Checked (Unit {0})
known types (ty.Whole p) = Ok (tt {0})
known types (ty.Truth p) = Ok (tt {0})
known types (ty.Declared x) = old types x

-- `Unknown`: the constructor of a name.
abbrev pub constructor : Table → Ident → Checked ℕ
constructor tb k = found (constructor_named tb (number_of k)) kind.Unknown k.span

-- `Unknown`: the function of a name.
abbrev pub function : List FunctionTree → Ident → Checked FunctionTree
function functions f = found (function_named functions (number_of f)) kind.Unknown f.span

-- A variable is bound: `Twice`, then `Limit`.
abbrev pub bound : List ℕ → Counts → Ident → Checked Counts
bound names n x = and_then (new names x) (λ _. counted n x)

-- An operand's variable is in scope.
abbrev pub operand : List ℕ → Operand → Checked (Unit {0})
operand names (Named x) = old names x
operand names (Number p n) = Ok (tt {0})
operand names (Bit p b) = Ok (tt {0})

-- Operands, from left to right.
abbrev pub operands : List ℕ → List Operand → Checked (Unit {0})
operands names [] = Ok (tt {0})
operands names (x ∷ xs) = and_then (operand names x) (λ _. operands names xs)

-- `Count`: as many as there are to be.
abbrev pub as_many : ℕ → ℕ → Ident → Checked (Unit {0})
as_many n due at = allowed (n == due) kind.Count at.span (tt {0})

-- One more variable in scope.
abbrev pub with_variable : Ident → Names → Names
with_variable x s = record s { variables = number_of x ∷ s.variables }

-- One more region or location in scope.
abbrev pub with_place : Ident → Names → Names
with_place x s = record s { places = number_of x ∷ s.places }

-- The variables of an arm, one after another; gives the names and counts behind them.
pub record After' : Type 0 where
  pub names : Names
  pub counts : Counts

-- What is in scope, and what was counted.
abbrev pub after : Names → Counts → After'
after s n = record { names = s; counts = n }

-- Variables that are bound one after another.
abbrev pub all_bound : List Ident → Names → Counts → Checked After'
all_bound [] s n = Ok (after s n)
all_bound (x ∷ xs) s n = and_then (bound s.variables n x) (λ m. all_bound xs (with_variable x s) m)

-- What a location's right side names: a constructor is declared, a variable is in scope. Regions and locations are judged
-- as places.
abbrev pub location : Declared → Names → Location → Checked (Unit {0})
location d s (Start r) = Ok (tt {0})
location d s (Plus x k) = and_then (constructor d.table k) (λ _. Ok (tt {0}))
location d s (After x) = old s.variables x

-- How a field is reached.
abbrev pub reach_names : Names → Ident → Way → Checked (Unit {0})
reach_names s y ByOffset = old s.variables y
reach_names s y (BySkip z) = and_then (old s.variables y) (λ _. old s.variables z)
reach_names s y (ByEnd z) = and_then (old s.variables y) (λ _. old s.variables z)

-- A place's name between two sides; it holds for the right one.
abbrev pub between_names : Names → Ident → Option (Ident × Ident) → Checked Names
between_names s x None = Ok s
between_names s x (Some (l, y)) = and_then (new s.places l) (λ _. and_then (old (number_of x ∷ s.variables) y) (λ _. Ok (with_place l s)))

abbrev mutual
  -- A line; gives what was counted.
  pub check_line : Declared → Line → Names → Counts → Checked Counts
  check_line d (In p b rest) s n = and_then (one_more n p) (λ m. and_then (check_binding d b s m) (λ r. check_line d rest r.names r.counts))
  check_line d (Given p x) s n = and_then (one_more n p) (λ m. and_then (operand s.variables x) (λ _. Ok m))
  check_line d (Pointed p x at) s n = and_then (one_more n p) (λ m. and_then (old s.variables x) (λ _. Ok m))
  check_line d (Called f xs at) s n =
      and_then (one_more n f.span) (λ m. and_then (function d.functions f) (λ g. and_then (as_many (length xs) (length g.parameters) f) (λ _. and_then (operands s.variables xs) (λ _. Ok m))))
  check_line d (Made k at xs) s n =
      and_then (one_more n k.span) (λ m. and_then (constructor d.table k) (λ c. and_then (as_many (length xs) (length (fields_at d.table c)) k) (λ _. and_then (operands s.variables xs) (λ _. Ok m))))
  check_line d (Cased p x arms) s n = and_then (one_more n p) (λ m. and_then (old s.variables x) (λ _. check_arms d arms s m))
  check_line d (Chosen p x t u) s n = and_then (one_more n p) (λ m. and_then (operand s.variables x) (λ _. and_then (check_line d t s m) (λ o. check_line d u s o)))

  -- A binding; gives what holds for the rest of its line.
  pub check_binding : Declared → Binding → Names → Counts → Checked After'
  check_binding d (NewRegion r) s n = and_then (new s.places r) (λ _. Ok (after (with_place r s) n))
  check_binding d (NewPlace l q) s n = and_then (new s.places l) (λ _. and_then (location d s q) (λ _. Ok (after (with_place l s) n)))
  check_binding d (LetIn (Be x w at t)) s n =
      and_then (bound s.variables n x) (λ m. and_then (known d.table.types w) (λ _. and_then (check_line d t s m) (λ o. Ok (after (with_variable x s) o))))
  check_binding d (ParIn (Be x w at t) g (Be y z on u)) s n =
      and_then (bound s.variables n x) (λ m. and_then (known d.table.types w) (λ _. and_then (check_line d t s m)
      (λ o. and_then (between_names s x g)
      (λ r. and_then (bound (number_of x ∷ s.variables) o y) (λ q. and_then (known d.table.types z) (λ _. and_then (check_line d u r q)
      (λ e. Ok (after (with_variable y (with_variable x s)) e))))))))
  check_binding d (PrimIn x w y f z) s n =
      and_then (bound s.variables n x) (λ m. and_then (known d.table.types w) (λ _. and_then (operands s.variables (y ∷ z ∷ [])) (λ _. Ok (after (with_variable x s) m))))
  check_binding d (ReachIn y way) s n = and_then (reach_names s y way) (λ _. Ok (after s n))

  -- Arms, each whole: its constructor, its count, its variables, its line.
  pub check_arms : Declared → Arms → Names → Counts → Checked Counts
  check_arms d (LastArm k xs t) s n =
      and_then (constructor d.table k) (λ c. and_then (as_many (length xs) (length (fields_at d.table c)) k) (λ _. and_then (all_bound xs s n) (λ r. check_line d t r.names r.counts)))
  check_arms d (NextArm k xs t arms) s n =
      and_then (constructor d.table k) (λ c. and_then (as_many (length xs) (length (fields_at d.table c)) k) (λ _. and_then (all_bound xs s n)
      (λ r. and_then (check_line d t r.names r.counts) (λ m. check_arms d arms s m))))

-- The names of parameters, the newest first.
abbrev pub with_names : List Parameter → List ℕ → List ℕ
with_names [] names = names
with_names (q ∷ qs) names = with_names qs (number_of q.name ∷ names)

-- The name of a result's place.
abbrev pub result_names : Option Mark → List ℕ
result_names None = []
result_names (Some at) = number_of at.name ∷ []

-- A body behind its head.
abbrev pub check_body : Declared → List Parameter → Option Mark → Line → Checked Counts
check_body d qs at line = check_line d line (record { variables = with_names qs []; places = result_names at }) (record { variables = length qs; expressions = 0 })

-- Bodies, in the order of the text.
abbrev pub check_bodies : Declared → List FunctionText → Checked (Unit {0})
check_bodies d [] = Ok (tt {0})
check_bodies d (f ∷ fs) = and_then (check_body d f.parameters f.place f.body) (λ _. check_bodies d fs)

-- The constructors that are said to have offsets.
abbrev pub check_offsets : Table → List Ident → Checked (Unit {0})
check_offsets tb [] = Ok (tt {0})
check_offsets tb (k ∷ ks) = and_then (constructor tb k) (λ _. check_offsets tb ks)

-- All names of a text: its declarations, its offsets, then its bodies.
unfoldable pub check_text : LocalTree → Checked (Unit {0})
check_text t =
    let p = declared t in
    let d : Declared = record { table = table_of_program p; functions = p.functions } in
    and_then (check_declarations (generic_of p))
    (λ _. and_then (check_offsets d.table t.offsets)
    (λ _. and_then (check_bodies d t.functions)
    (λ _. and_then (check_body d (t.main.parameter ∷ []) t.main.place t.main.body) (λ _. Ok (tt {0})))))
