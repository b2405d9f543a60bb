-- The trees of programs with type parameters.
use Rattle.std.specs.Prelude.{ℕ, ◌==◌, if◌then◌else◌, Bool, List, [], ◌∷◌, ◌++◌, map, Option, Some, None}
use Rattle.gib_base.specs.declared.Span.{Span}
use Rattle.gib_syntax.specs.declared.tree.Ident.{Ident}
use Rattle.gib_types.specs.declared.operator.Operator.{Operator}
use Rattle.gib_syntax.specs.Declarations.{number_of, place_of}
use Rattle.gib_syntax.specs.Forms.{WrittenType, WrittenTypes}
use Rattle.gib_syntax.specs.Results.{Results}

-- An expression, as one without type parameters; a called function and a constructor have type arguments. A binding has a name,
-- or several for the parts of what is bound. Neither these nor the parts of a tuple have written types.
mutual
  pub data GenericExpression : Type 0 where
    GenericVar : Ident → GenericExpression
    GenericNum : Span → ℕ → GenericExpression
    GenericBit : Span → Bool → GenericExpression
    GenericParen : Span → GenericExpression → GenericExpression
    GenericOp : Span → Operator → GenericExpression → GenericExpression → GenericExpression
    GenericCall : Ident → WrittenTypes → GenericArguments → GenericExpression
    GenericMake : Ident → WrittenTypes → GenericArguments → GenericExpression
    -- names, what they are bound to, and the body
    GenericLet : Span → List Ident → GenericExpression → GenericExpression → GenericExpression
    -- two sides with their names, and the body
    GenericPar : Span → List Ident → GenericExpression → List Ident → GenericExpression → GenericExpression → GenericExpression
    GenericIf : Span → GenericExpression → GenericExpression → GenericExpression → GenericExpression
    GenericCase : Span → Ident → GenericArms → GenericExpression
    GenericTuple : Span → GenericArguments → GenericExpression

  pub data GenericArguments : Type 0 where
    GenericNoArgument : GenericArguments
    GenericArgument : GenericExpression → GenericArguments → GenericArguments

  pub data GenericArms : Type 0 where
    GenericLastArm : Ident → List Ident → GenericExpression → GenericArms
    GenericNextArm : Ident → List Ident → GenericExpression → GenericArms → GenericArms

-- A constructor of a data declaration.
pub record GenericConstructorTree : Type 0 where
  pub name : Ident
  pub fields : List WrittenType

-- A data declaration with its type variables.
pub record GenericDataTree : Type 0 where
  pub name : Ident
  pub variables : List Ident
  pub constructors : List GenericConstructorTree

-- A parameter with its type.
pub record GenericParameterTree : Type 0 where
  pub name : Ident
  pub ty : WrittenType

-- A function with its type variables.
pub record GenericFunctionTree : Type 0 where
  pub name : Ident
  pub variables : List Ident
  pub parameters : List GenericParameterTree
  pub result : Results WrittenType
  pub body : GenericExpression

-- Main.
pub record GenericMainTree : Type 0 where
  pub parameter : GenericParameterTree
  pub result : WrittenType
  pub body : GenericExpression

-- A program.
pub record GenericProgramTree : Type 0 where
  pub datas : List GenericDataTree
  pub functions : List GenericFunctionTree
  pub main : GenericMainTree

-- A constructor with its type, by name, and the type's variables.
pub record GenericRow : Type 0 where
  pub name : ℕ
  pub owner : ℕ
  pub variables : List Ident
  pub fields : List WrittenType

-- A constructor of this type.
abbrev pub row_of : GenericDataTree → GenericConstructorTree → GenericRow
row_of d c = record { name = number_of c.name; owner = number_of d.name; variables = d.variables; fields = c.fields }

-- All constructors, in the order of the text.
abbrev pub rows_of : List GenericDataTree → List GenericRow
rows_of [] = []
rows_of (d ∷ ds) = map (row_of d) d.constructors ++ rows_of ds

-- What bodies may name besides their variables.
pub record GenericGlobals : Type 0 where
  pub datas : List GenericDataTree
  pub rows : List GenericRow
  pub functions : List GenericFunctionTree

-- Those of a program.
abbrev pub globals_of_generic : GenericProgramTree → GenericGlobals
globals_of_generic p = record { datas = p.datas; rows = rows_of p.datas; functions = p.functions }

-- The number of the constructor of a name: its place among all of the program.
abbrev pub place_named : List GenericRow → ℕ → Option ℕ
place_named rows k = place_of (map (λ (r : GenericRow). r.name) rows) k

-- The function of a name: the first one.
abbrev pub generic_named : List GenericFunctionTree → ℕ → Option GenericFunctionTree
generic_named [] f = None
generic_named (g ∷ gs) f = if number_of g.name == f then Some g else generic_named gs f

-- The declared type of a name: the first one.
abbrev pub data_named : List GenericDataTree → ℕ → Option GenericDataTree
data_named [] t = None
data_named (d ∷ ds) t = if number_of d.name == t then Some d else data_named ds t
