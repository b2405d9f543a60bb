-- Where the type of an expression comes from, whatever is in scope.
use Rattle.std.specs.Prelude.{ℕ, ◌==◌, if◌then◌else◌, List, [], ◌∷◌, Option, Some, None}
use Rattle.gib_types.specs.declared.table.Ty.{Ty}
use Rattle.gib_types.specs.declared.table.Ty.TheVariants.{Whole, Truth, Tree}
use Rattle.gib_types.specs.Table.{Table, owner_at, fields_at}
use Rattle.gib_syntax.specs.declared.tree.Ident.{Ident}
use Rattle.gib_syntax.specs.Tree.{Expression, Arms, Var, Num, Bit, Paren, Op, Call, Make, Let, Par, If, Case, Tuple, LetSeveral, ParSeveral, LastArm, NextArm, FunctionTree}
use Rattle.gib_syntax.specs.Declarations.{number_of, constructor_named, function_named}
use Rattle.gib_syntax.specs.Typing.{Globals, Scope, type_in, names_of, types_of, result_type}
use Rattle.gib_types.specs.Operators.{operator_type}
use Rattle.gib_check.specs.declared.origin.TypeOrigin.{TypeOrigin}
use Rattle.gib_check.specs.declared.origin.TypeOrigin.TheVariants.{Fixed, Variable}

-- The types of the fields of a constructor, none where it is not declared.
abbrev pub fields_if : Table → Option ℕ → List Ty
fields_if table None = []
fields_if table (Some c) = fields_at table c

-- The types of the fields of the constructor of a name, none where it is not declared.
abbrev pub fields_named : Table → Ident → List Ty
fields_named table k = fields_if table (constructor_named table (number_of k))

-- The type that comes from there, where these variables are in scope.
abbrev pub type_from : Scope → TypeOrigin → Option Ty
type_from scope (Fixed t) = Some t
type_from scope (Variable x) = type_in scope x.0

-- Seen from outside of a binding: where the type is that of the variable, it comes from where the variable's does.
abbrev pub outside : Ident → TypeOrigin → TypeOrigin → TypeOrigin
outside x a (Fixed t) = Fixed t
outside x a (Variable y) = if number_of x == y.0 then a else Variable y

-- Seen from outside of an arm that binds these variables to fields of these types.
abbrev pub outside_arm : List Ident → List Ty → TypeOrigin → TypeOrigin
outside_arm [] ts o = o
outside_arm (x ∷ xs) [] o = o
outside_arm (x ∷ xs) (t ∷ ts) o = outside x (Fixed t) (outside_arm xs ts o)

-- The type of the result of a function; where there is none, which typing excludes, `Int`.
abbrev pub result_if : Table → Option FunctionTree → Ty
result_if table None = Whole
result_if table (Some f) = result_type table f

-- The type of a constructor; where there is none, which typing excludes, `Int`.
abbrev pub made_type : Table → Option ℕ → Ty
made_type table None = Whole
made_type table (Some c) = Tree (record { 0 = owner_at table c })

abbrev mutual
  -- Where the type of an expression that gives one thing comes from: a variable's from its own, that of a `let` from its body, of an `if`
  -- from its `then` part, of a `case` from its first arm.
  pub origin : Globals → Expression → TypeOrigin
  origin g (Var x) = Variable x.name
  origin g (Num p n) = Fixed Whole
  origin g (Bit p b) = Fixed Truth
  origin g (Paren p e) = origin g e
  origin g (Op p f a b) = Fixed (operator_type f)
  origin g (Call f xs) = Fixed (result_if g.table (function_named g.functions (number_of f)))
  origin g (Make k xs) = Fixed (made_type g.table (constructor_named g.table (number_of k)))
  origin g (Let p x a b) = outside x (origin g a) (origin g b)
  origin g (Par p x a y b c) = outside x (origin g a) (outside y (origin g b) (origin g c))
  origin g (If p a b c) = origin g b
  origin g (Case p x arms) = origin_first g arms
  origin g (Tuple p as' xs) = Fixed Whole
  origin g (LetSeveral p qs a b) = outside_arm (names_of qs) (types_of g.table.types qs) (origin g b)
  origin g (ParSeveral p qs a rs b c) =
      outside_arm (names_of qs) (types_of g.table.types qs) (outside_arm (names_of rs) (types_of g.table.types rs) (origin g c))

  -- So for the first arm.
  pub origin_first : Globals → Arms → TypeOrigin
  origin_first g (LastArm k xs e) = outside_arm xs (fields_named g.table k) (origin g e)
  origin_first g (NextArm k xs e arms) = outside_arm xs (fields_named g.table k) (origin g e)
