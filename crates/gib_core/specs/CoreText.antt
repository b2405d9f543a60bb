-- The text of a core.
use Rattle.std.specs.Prelude.{ℕ, zero, suc, ◌+◌, Bool, true, false, if◌then◌else◌, List, [], ◌∷◌, ◌++◌, codes, slice_get, unwrap_or}
use Rattle.std.specs.List.{flat_map}
use Rattle.std.specs.Fmt.{decimal, signed_decimal}
use Rattle.gib_types.specs.declared.table.Ty.{Ty}
use Rattle.gib_types.specs.declared.table.Ty.TheVariants as ty
use Rattle.gib_types.specs.Table.{Table, name_at}
pub use Rattle.gib_code.specs.ListingText.{name_text}
use Rattle.gib_types.specs.declared.operator.Operator.{Operator}
use Rattle.gib_types.specs.declared.operator.Operator.TheVariants as o
use Rattle.gib_core.specs.declared.atom.Variable.{Variable}
use Rattle.gib_core.specs.declared.atom.Atom.{Atom}
use Rattle.gib_core.specs.declared.atom.Atom.TheVariants as a
use Rattle.gib_core.specs.declared.atom.Kind.{Kind}
use Rattle.gib_core.specs.declared.atom.Kind.TheVariants.{Here, Region, Scalar}
use Rattle.gib_core.specs.declared.atom.Access.{Access}
use Rattle.gib_core.specs.declared.atom.Access.TheVariants.{Offset, Skip, End}
use Rattle.gib_core.specs.declared.piece.Keyword.{Keyword}
use Rattle.gib_core.specs.declared.piece.Keyword.TheVariants as k
use Rattle.gib_core.specs.declared.piece.Piece.{Piece}
use Rattle.gib_core.specs.declared.piece.Piece.TheVariants as p
use Rattle.gib_syntax.specs.Results as results
use Rattle.gib_syntax.specs.Results.{Results}
use Rattle.gib_core.specs.Ending.{Ended, has_ended, ended}
use Rattle.gib_core.specs.Tree.{Term, Then, Write, Point, CallTerm, Give, CaseTerm, IfTerm, Tuple, PartTerms, NoPart, PartThen, Bind, Past, One, Both, Prim, Reach, Side, On, Several, Branches, NoBranch, BranchThen, FunctionTerm, MainTerm, CoreTree}

-- The pieces of variables, and then the rest.
abbrev pub spell_variables : List Variable → List Piece → List Piece
spell_variables [] rest = rest
spell_variables (x ∷ xs) rest = p.Variable x ∷ spell_variables xs rest

-- The pieces of atoms, and then the rest.
abbrev pub spell_atoms : List Atom → List Piece → List Piece
spell_atoms [] rest = rest
spell_atoms (x ∷ xs) rest = p.Atom x ∷ spell_atoms xs rest

-- The word of the line of a side.
abbrev pub kind_word : Kind → Keyword
kind_word Here = k.Here
kind_word Region = k.Region
kind_word Scalar = k.Scalar

-- How a field is reached.
abbrev pub spell_access : Access → Piece
spell_access Offset = p.ByOffset
spell_access (Skip z) = p.BySkip z
spell_access (End z) = p.ByEnd z

-- The variables of a call of f at ended parameters, from the place k on.
abbrev pub ended_from : List Ended → (f k : ℕ) → List Atom → List Variable
ended_from es f k [] = []
ended_from es f k (a.Variable x ∷ xs) = if has_ended es f k then x ∷ ended_from es f (suc k) xs else ended_from es f (suc k) xs
ended_from es f k (a.Whole z ∷ xs) = ended_from es f (suc k) xs
ended_from es f k (a.Truth b ∷ xs) = ended_from es f (suc k) xs

-- The variables whose ends a call tells, where there are some.
abbrev pub spell_ends : List Variable → List Piece → List Piece
spell_ends [] rest = rest
spell_ends (x ∷ xs) rest = p.Ends ∷ spell_variables (x ∷ xs) rest

-- The mark of two sides that may run at the same time.
abbrev pub spell_fork : Bool → List Piece → List Piece
spell_fork false rest = rest
spell_fork true rest = p.Fork ∷ rest

abbrev mutual
  -- The pieces of a term on a level, and then the rest, where these parameters are ended.
  pub spell_term : List Ended → ℕ → Term → List Piece → List Piece
  spell_term es d (Then b t) rest = spell_bind es d b (spell_term es d t rest)
  spell_term es d (Write h c ss ps) rest = p.Line d k.Write ∷ p.Variable h ∷ spell_atoms ss (spell_atoms ps (p.End ∷ rest))
  spell_term es d (Point x) rest = p.Line d k.Point ∷ p.Atom x ∷ p.End ∷ rest
  spell_term es d (CallTerm f xs) rest = p.Line d k.Call ∷ p.Function f ∷ spell_atoms xs (spell_ends (ended_from es f.0 0 xs) (p.End ∷ rest))
  spell_term es d (Give x) rest = p.Line d k.Give ∷ p.Atom x ∷ p.End ∷ rest
  spell_term es d (CaseTerm x branches) rest = p.Line d k.Case ∷ p.Atom x ∷ p.End ∷ spell_branches es (d + 1) branches rest
  spell_term es d (IfTerm x t u) rest =
      p.Line d k.If ∷ p.Atom x ∷ p.End ∷ spell_term es (d + 1) t (p.Line d k.Else ∷ p.End ∷ spell_term es (d + 1) u rest)
  spell_term es d (Tuple tys ss ps) rest = p.Line d k.Tuple ∷ spell_atoms ss (p.End ∷ spell_parts es (d + 1) ps rest)

  -- A binding, with the sides of a `par` one level deeper: calls in them tell no ends.
  pub spell_bind : List Ended → ℕ → Bind → List Piece → List Piece
  spell_bind es d (Past h c) rest = p.Line d k.Past ∷ p.Variable h ∷ p.Constructor c ∷ p.End ∷ rest
  spell_bind es d (One s) rest = spell_side es d s rest
  spell_bind es d (Both fork l r) rest = p.Line d k.Par ∷ spell_fork fork (p.End ∷ spell_side [] (d + 1) l (spell_side [] (d + 1) r rest))
  spell_bind es d (Prim x f y z) rest = p.Line d k.Prim ∷ p.Variable x ∷ p.Equals ∷ p.Atom y ∷ p.Operator f ∷ p.Atom z ∷ p.End ∷ rest
  spell_bind es d (Reach y by) rest = p.Line d k.Reach ∷ p.Variable y ∷ spell_access by ∷ p.End ∷ rest

  -- The line of each part, and its term on the level below it.
  pub spell_parts : List Ended → ℕ → PartTerms → List Piece → List Piece
  spell_parts es d NoPart rest = rest
  spell_parts es d (PartThen t ps) rest = p.Line d k.To ∷ p.End ∷ spell_term es (d + 1) t (spell_parts es d ps rest)

  -- What is bound, and its term on the level below.
  pub spell_side : List Ended → ℕ → Side → List Piece → List Piece
  spell_side es d (On kind x ty t) rest = p.Line d (kind_word kind) ∷ p.Variable x ∷ p.End ∷ spell_term es (d + 1) t rest
  spell_side es d (Several xs tys t) rest = p.Line d k.Several ∷ spell_variables xs (p.End ∷ spell_term es (d + 1) t rest)

  -- Each arm's line, and its term on the level below it.
  pub spell_branches : List Ended → ℕ → Branches → List Piece → List Piece
  spell_branches es d NoBranch rest = rest
  spell_branches es d (BranchThen c xs t branches) rest =
      p.Arm d c ∷ spell_variables xs (p.End ∷ spell_term es (d + 1) t (spell_branches es d branches rest))

-- Parameters, which are the variables from a number on.
abbrev pub spell_parameters : ℕ → List Ty → List Piece → List Piece
spell_parameters n [] rest = rest
spell_parameters n (t ∷ ts) rest = p.Parameter (record { 0 = n }) t ∷ spell_parameters (n + 1) ts rest

-- The types of further parts.
abbrev pub spell_further : List Ty → List Piece → List Piece
spell_further [] rest = rest
spell_further (t ∷ ts) rest = p.FurtherPart t ∷ spell_further ts rest

-- The types of the parts of a result.
abbrev pub spell_result_parts : List Ty → List Piece → List Piece
spell_result_parts [] rest = rest
spell_result_parts (t ∷ ts) rest = p.FirstPart t ∷ spell_further ts (p.PartsEnd ∷ rest)

-- The type of a result, or those of its parts.
abbrev pub spell_result : Results Ty → List Piece → List Piece
spell_result (results.One t) rest = p.Result t ∷ rest
spell_result (results.Several ts) rest = spell_result_parts ts rest

-- A function: its line, and its body.
abbrev pub spell_function : List Ended → FunctionTerm → List Piece → List Piece
spell_function es f rest =
    p.Line 0 k.Fun ∷ p.Function f.name ∷ spell_parameters 0 f.parameters (spell_result f.result (p.End ∷ spell_term es 1 f.body rest))

-- The functions, in the order of the text.
abbrev pub spell_functions : List Ended → List FunctionTerm → List Piece → List Piece
spell_functions es [] rest = rest
spell_functions es (f ∷ fs) rest = spell_function es f (spell_functions es fs rest)

-- Main: its line, and its body.
abbrev pub spell_main : List Ended → MainTerm → List Piece → List Piece
spell_main es m rest =
    p.Line 0 k.Main ∷ p.Parameter (record { 0 = 0 }) m.parameter ∷ p.Result m.result ∷ p.End ∷ spell_term es 1 m.body rest

-- The pieces of a core.
abbrev pub spell_core : CoreTree → List Piece
spell_core core = spell_functions (ended core) core.functions (spell_main (ended core) core.main [])

-- The word that a line begins with.
abbrev pub keyword_text : Keyword → List ℕ
keyword_text k.Fun = codes "fun"
keyword_text k.Main = codes "main"
keyword_text k.Case = codes "case"
keyword_text k.If = codes "if"
keyword_text k.Else = codes "else"
keyword_text k.Past = codes "past"
keyword_text k.Write = codes "write"
keyword_text k.Point = codes "point"
keyword_text k.Give = codes "give"
keyword_text k.Call = codes "call"
keyword_text k.Here = codes "here"
keyword_text k.Region = codes "region"
keyword_text k.Scalar = codes "scalar"
keyword_text k.Prim = codes "prim"
keyword_text k.Par = codes "par"
keyword_text k.Reach = codes "reach"
keyword_text k.Several = codes "several"
keyword_text k.Tuple = codes "tuple"
keyword_text k.To = codes "to"

-- How an operator is written.
abbrev pub operator_text : Operator → List ℕ
operator_text o.Add = codes "+"
operator_text o.Subtract = codes "-"
operator_text o.Multiply = codes "*"
operator_text o.Equal = codes "=="
operator_text o.Less = codes "<"
operator_text o.Quotient = codes "quot"
operator_text o.Remainder = codes "rem"

-- Two spaces for each level.
abbrev pub indent : ℕ → List ℕ
indent zero = []
indent (suc d) = 32 ∷ 32 ∷ indent d

-- A variable is `%` (37) with its number.
abbrev pub variable_text : Variable → List ℕ
variable_text x = 37 ∷ decimal x.0

-- How a variable or literal is written.
abbrev pub atom_text : Atom → List ℕ
atom_text (a.Variable x) = variable_text x
atom_text (a.Whole z) = signed_decimal z
atom_text (a.Truth false) = codes "False"
atom_text (a.Truth true) = codes "True"

-- How a type is written, with the names of the program.
abbrev pub type_text : List (List ℕ) → Table → Ty → List ℕ
type_text names table ty.Whole = codes "Int"
type_text names table ty.Truth = codes "Bool"
type_text names table (ty.Tree t) = name_text names (unwrap_or (slice_get table.types t.0) 0)

-- How a piece is written: what does not begin a line comes behind a space (32), and a line ends with a line
-- feed (10).
abbrev pub piece_text : List (List ℕ) → Table → Piece → List ℕ
piece_text names table (p.Line d word) = indent d ++ keyword_text word
piece_text names table (p.Arm d c) = indent d ++ name_text names (name_at table c.0)
piece_text names table (p.Function f) = 32 ∷ name_text names f.0
piece_text names table (p.Constructor c) = 32 ∷ name_text names (name_at table c.0)
piece_text names table (p.Variable x) = 32 ∷ variable_text x
piece_text names table (p.Atom x) = 32 ∷ atom_text x
piece_text names table (p.Parameter x t) = 32 ∷ (variable_text x ++ 58 ∷ type_text names table t)
piece_text names table (p.Result t) = codes " : " ++ type_text names table t
piece_text names table (p.FirstPart t) = codes " : (" ++ type_text names table t
piece_text names table (p.FurtherPart t) = codes ", " ++ type_text names table t
piece_text names table p.PartsEnd = codes ")"
piece_text names table (p.Operator f) = 32 ∷ operator_text f
piece_text names table p.Equals = codes " ="
piece_text names table p.Fork = codes " fork"
piece_text names table p.ByOffset = codes " by offset"
piece_text names table (p.BySkip z) = codes " by skip " ++ variable_text z
piece_text names table (p.ByEnd z) = codes " by end " ++ variable_text z
piece_text names table p.Ends = codes " ends"
piece_text names table p.End = 10 ∷ []

-- The text of a core, with the names by their numbers.
abbrev pub core_text : List (List ℕ) → CoreTree → List ℕ
core_text names core = flat_map (piece_text names core.table) (spell_core core)
