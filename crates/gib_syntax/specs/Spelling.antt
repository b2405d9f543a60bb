-- How a program is spelled as tokens.
use Rattle.std.specs.Prelude.{◌≡◌, ◌-◌, ℕ, zero, suc, Bool, true, false, max, List, [], ◌∷◌, ◌++◌, length, take, get_or}
use Rattle.gib_base.specs.declared.Span.{Span}
use Rattle.gib_base.specs.declared.token.Sign.{Sign}
use Rattle.gib_base.specs.declared.token.Sign.TheVariants as s
use Rattle.gib_base.specs.declared.token.Token.{Token}
use Rattle.gib_base.specs.declared.token.Token.TheVariants as t
use Rattle.gib_syntax.specs.declared.tree.Ident.{Ident}
use Rattle.gib_types.specs.declared.operator.Operator.{Operator}
use Rattle.gib_types.specs.declared.operator.Operator.TheVariants as o
use Rattle.gib_syntax.specs.GenericTree.{GenericExpression, GenericArguments, GenericArms, GenericVar, GenericNum, GenericBit, GenericParen, GenericOp, GenericCall, GenericMake, GenericLet, GenericPar, GenericIf, GenericCase, GenericTuple, GenericNoArgument, GenericArgument, GenericLastArm, GenericNextArm, GenericConstructorTree, GenericDataTree, GenericParameterTree, GenericFunctionTree, GenericMainTree, GenericProgramTree}
use Rattle.gib_syntax.specs.GenericFine.{IsGenericFineProgram}
use Rattle.gib_syntax.specs.Results.{Results, One, Several}
use Rattle.gib_syntax.specs.Forms.{WrittenType, WrittenTypes, WholeAt, TruthAt, VariableAt, DataAt, NoType, MoreTypes}

-- The sign of an operator.
abbrev pub sign_of : Operator → Sign
sign_of o.Add = s.Plus
sign_of o.Subtract = s.Minus
sign_of o.Multiply = s.Times
sign_of o.Equal = s.Same
sign_of o.Less = s.Less
sign_of o.Quotient = s.Quotient
sign_of o.Remainder = s.Remainder

-- An operator.
abbrev pub spell_operator : Operator → List Token → List Token
spell_operator f rest = t.Sign (sign_of f) ∷ rest

-- A truth value.
abbrev pub spell_bit : Bool → List Token → List Token
spell_bit true rest = t.Sign s.True ∷ rest
spell_bit false rest = t.Sign s.False ∷ rest

-- Variables one after another.
abbrev pub spell_variables : List Ident → List Token → List Token
spell_variables [] rest = rest
spell_variables (x ∷ xs) rest = t.Variable x.name ∷ spell_variables xs rest

-- Variables behind a comma each.
abbrev pub spell_further_names : List Ident → List Token → List Token
spell_further_names [] rest = rest
spell_further_names (x ∷ xs) rest = t.Sign s.Comma ∷ t.Variable x.name ∷ spell_further_names xs rest

-- The variables of a binding: one, or several in parentheses.
abbrev pub spell_names : List Ident → List Token → List Token
spell_names [] rest = rest
spell_names (x ∷ []) rest = t.Variable x.name ∷ rest
spell_names (x ∷ y ∷ ys) rest = t.Sign s.Open ∷ t.Variable x.name ∷ spell_further_names (y ∷ ys) (t.Sign s.Close ∷ rest)

-- A type: a word, a variable, or a declared type, in parentheses where it has arguments.
abbrev mutual
  pub spell_type : WrittenType → List Token → List Token
  spell_type (WholeAt p) rest = t.Sign s.Int ∷ rest
  spell_type (TruthAt p) rest = t.Sign s.Bool ∷ rest
  spell_type (VariableAt x) rest = t.Variable x.name ∷ rest
  spell_type (DataAt p x NoType) rest = t.Constructor x.name ∷ rest
  spell_type (DataAt p x (MoreTypes w ws)) rest = t.Sign s.Open ∷ t.Constructor x.name ∷ spell_type w (spell_written ws (t.Sign s.Close ∷ rest))

  -- The arguments of a type, one after another.
  pub spell_written : WrittenTypes → List Token → List Token
  spell_written NoType rest = rest
  spell_written (MoreTypes w ws) rest = spell_type w (spell_written ws rest)

-- Type arguments, in brackets where there are some.
abbrev pub spell_type_arguments : WrittenTypes → List Token → List Token
spell_type_arguments NoType rest = rest
spell_type_arguments (MoreTypes w ws) rest = t.Sign s.OpenBracket ∷ spell_type w (spell_written ws (t.Sign s.CloseBracket ∷ rest))

-- The tokens of an expression, and then the rest.
abbrev mutual
  pub spell : GenericExpression → List Token → List Token
  spell (GenericVar x) rest = t.Variable x.name ∷ rest
  spell (GenericNum p n) rest = t.Number n ∷ rest
  spell (GenericBit p b) rest = spell_bit b rest
  spell (GenericParen p e) rest = t.Sign s.Open ∷ spell e (t.Sign s.Close ∷ rest)
  spell (GenericOp p f a b) rest = t.Sign s.Open ∷ spell a (spell_operator f (spell b (t.Sign s.Close ∷ rest)))
  spell (GenericCall f ws xs) rest = t.Variable f.name ∷ spell_type_arguments ws (spell_arguments xs rest)
  spell (GenericMake k ws xs) rest = t.Constructor k.name ∷ spell_type_arguments ws (spell_arguments xs rest)
  spell (GenericLet p xs a b) rest = t.Sign s.Let ∷ spell_names xs (t.Sign s.Equals ∷ spell a (t.Sign s.In ∷ spell b rest))
  spell (GenericPar p xs a ys b c) rest =
      t.Sign s.Let ∷ t.Sign s.Par ∷ spell_names xs (t.Sign s.Equals ∷ spell a (t.Sign s.And ∷
      spell_names ys (t.Sign s.Equals ∷ spell b (t.Sign s.In ∷ spell c rest))))
  spell (GenericIf p a b c) rest = t.Sign s.If ∷ spell a (t.Sign s.Then ∷ spell b (t.Sign s.Else ∷ spell c rest))
  spell (GenericCase p x arms) rest = t.Sign s.Case ∷ t.Variable x.name ∷ t.Sign s.Of ∷ t.Sign s.OpenBrace ∷ spell_arms arms (t.Sign s.CloseBrace ∷ rest)
  spell (GenericTuple p xs) rest = t.Sign s.Open ∷ spell_parts xs (t.Sign s.Close ∷ rest)

  -- The tokens of parts, a comma between two, and then the rest.
  pub spell_parts : GenericArguments → List Token → List Token
  spell_parts GenericNoArgument rest = rest
  spell_parts (GenericArgument a xs) rest = spell a (spell_further_parts xs rest)

  -- The tokens of further parts, each behind a comma, and then the rest.
  pub spell_further_parts : GenericArguments → List Token → List Token
  spell_further_parts GenericNoArgument rest = rest
  spell_further_parts (GenericArgument a xs) rest = t.Sign s.Comma ∷ spell a (spell_further_parts xs rest)

  -- The tokens of arguments, one after another, and then the rest.
  pub spell_arguments : GenericArguments → List Token → List Token
  spell_arguments GenericNoArgument rest = rest
  spell_arguments (GenericArgument a xs) rest = spell a (spell_arguments xs rest)

  -- The tokens of arms, a semicolon between two, and then the rest.
  pub spell_arms : GenericArms → List Token → List Token
  spell_arms (GenericLastArm k xs e) rest = t.Constructor k.name ∷ spell_variables xs (t.Sign s.Arrow ∷ spell e rest)
  spell_arms (GenericNextArm k xs e arms) rest = t.Constructor k.name ∷ spell_variables xs (t.Sign s.Arrow ∷ spell e (t.Sign s.Semicolon ∷ spell_arms arms rest))

-- Types one after another.
abbrev pub spell_types : List WrittenType → List Token → List Token
spell_types [] rest = rest
spell_types (a ∷ as') rest = spell_type a (spell_types as' rest)

-- A constructor with its fields.
abbrev pub spell_constructor : GenericConstructorTree → List Token → List Token
spell_constructor c rest = t.Constructor c.name.name ∷ spell_types c.fields rest

-- Further constructors, each behind a bar.
abbrev pub spell_more : List GenericConstructorTree → List Token → List Token
spell_more [] rest = rest
spell_more (c ∷ cs) rest = t.Sign s.Bar ∷ spell_constructor c (spell_more cs rest)

-- Constructors with a bar between two.
abbrev pub spell_constructors : List GenericConstructorTree → List Token → List Token
spell_constructors [] rest = rest
spell_constructors (c ∷ cs) rest = spell_constructor c (spell_more cs rest)

-- A data declaration.
abbrev pub spell_data : GenericDataTree → List Token → List Token
spell_data d rest = t.Sign s.Data ∷ t.Constructor d.name.name ∷ spell_variables d.variables (t.Sign s.Equals ∷ spell_constructors d.constructors (t.Sign s.Semicolon ∷ rest))

-- Data declarations one after another.
abbrev pub spell_datas : List GenericDataTree → List Token → List Token
spell_datas [] rest = rest
spell_datas (d ∷ ds) rest = spell_data d (spell_datas ds rest)

-- A parameter, in its parentheses.
abbrev pub spell_parameter : GenericParameterTree → List Token → List Token
spell_parameter q rest = t.Sign s.Open ∷ t.Variable q.name.name ∷ t.Sign s.Colon ∷ spell_type q.ty (t.Sign s.Close ∷ rest)

-- Parameters one after another.
abbrev pub spell_parameters : List GenericParameterTree → List Token → List Token
spell_parameters [] rest = rest
spell_parameters (q ∷ qs) rest = spell_parameter q (spell_parameters qs rest)

-- Types behind a comma each.
abbrev pub spell_further_types : List WrittenType → List Token → List Token
spell_further_types [] rest = rest
spell_further_types (a ∷ as') rest = t.Sign s.Comma ∷ spell_type a (spell_further_types as' rest)

-- What a function gives: a type, or those of several parts in parentheses.
abbrev pub spell_results : Results WrittenType → List Token → List Token
spell_results (One a) rest = spell_type a rest
spell_results (Several []) rest = rest
spell_results (Several (a ∷ as')) rest = t.Sign s.Open ∷ spell_type a (spell_further_types as' (t.Sign s.Close ∷ rest))

-- What a function gives, and its body.
abbrev pub spell_body : Results WrittenType → GenericExpression → List Token → List Token
spell_body result body rest = t.Sign s.Colon ∷ spell_results result (t.Sign s.Equals ∷ spell body (t.Sign s.Semicolon ∷ rest))

-- Type parameters of a function, in brackets where there are some.
abbrev pub spell_type_parameters : List Ident → List Token → List Token
spell_type_parameters [] rest = rest
spell_type_parameters (x ∷ xs) rest = t.Sign s.OpenBracket ∷ t.Variable x.name ∷ spell_variables xs (t.Sign s.CloseBracket ∷ rest)

-- A function.
abbrev pub spell_function : GenericFunctionTree → List Token → List Token
spell_function f rest = t.Sign s.Fun ∷ t.Variable f.name.name ∷ spell_type_parameters f.variables (spell_parameters f.parameters (spell_body f.result f.body rest))

-- Functions one after another.
abbrev pub spell_functions : List GenericFunctionTree → List Token → List Token
spell_functions [] rest = rest
spell_functions (f ∷ fs) rest = spell_function f (spell_functions fs rest)

-- Main.
abbrev pub spell_main : GenericMainTree → List Token → List Token
spell_main m rest = t.Sign s.Main ∷ spell_parameter m.parameter (spell_body (One m.result) m.body rest)

-- A program.
abbrev pub spell_program : GenericProgramTree → List Token → List Token
spell_program p rest = spell_datas p.datas (spell_functions p.functions (spell_main p.main rest))

-- How many levels an expression has: one more than its parts, parentheses counted.
abbrev mutual
  pub levels : GenericExpression → ℕ
  levels (GenericVar x) = 1
  levels (GenericNum p n) = 1
  levels (GenericBit p b) = 1
  levels (GenericParen p e) = suc (levels e)
  levels (GenericOp p f a b) = suc (max (levels a) (levels b))
  levels (GenericCall f ws xs) = suc (levels_arguments xs)
  levels (GenericMake k ws xs) = suc (levels_arguments xs)
  levels (GenericLet p xs a b) = suc (max (levels a) (levels b))
  levels (GenericPar p xs a ys b c) = suc (max (levels a) (max (levels b) (levels c)))
  levels (GenericIf p a b c) = suc (max (levels a) (max (levels b) (levels c)))
  levels (GenericCase p x arms) = suc (levels_arms arms)
  levels (GenericTuple p xs) = suc (levels_arguments xs)

  -- The most levels that one of the arguments has.
  pub levels_arguments : GenericArguments → ℕ
  levels_arguments GenericNoArgument = 0
  levels_arguments (GenericArgument a xs) = max (levels a) (levels_arguments xs)

  -- The most levels that the body of one of the arms has.
  pub levels_arms : GenericArms → ℕ
  levels_arms (GenericLastArm k xs e) = levels e
  levels_arms (GenericNextArm k xs e arms) = max (levels e) (levels_arms arms)

-- The most levels that the body of one of these functions has; with no function, 0.
abbrev pub levels_functions : List GenericFunctionTree → ℕ
levels_functions [] = 0
levels_functions (f ∷ fs) = max (levels f.body) (levels_functions fs)

-- How many levels a program has.
abbrev pub levels_program : GenericProgramTree → ℕ
levels_program p = max (levels_functions p.functions) (levels p.main.body)

-- The span of the token from which so many tokens are left, itself counted.
abbrev pub Places : Type 0
Places = ℕ → Span

-- The name stands before the rest.
abbrev pub IsAt : Places → Ident → List Token → Type 0
IsAt at x rest = x.span ≡ at (suc (length rest))

-- The names stand one after another before the rest.
abbrev pub AreAt : Places → List Ident → List Token → Type 0
AreAt at [] rest = Unit {0}
AreAt at (x ∷ xs) rest = IsAt at x (spell_variables xs rest) × AreAt at xs rest

-- Names behind a comma each stand before the rest.
abbrev pub AreFurtherAt : Places → List Ident → List Token → Type 0
AreFurtherAt at [] rest = Unit {0}
AreFurtherAt at (x ∷ xs) rest = IsAt at x (spell_further_names xs rest) × AreFurtherAt at xs rest

-- The names of a binding stand before the rest.
abbrev pub AreNamesAt : Places → List Ident → List Token → Type 0
AreNamesAt at [] rest = Unit {0}
AreNamesAt at (x ∷ []) rest = IsAt at x rest
AreNamesAt at (x ∷ y ∷ ys) rest = IsAt at x (spell_further_names (y ∷ ys) (t.Sign s.Close ∷ rest)) × AreFurtherAt at (y ∷ ys) (t.Sign s.Close ∷ rest)

-- The names of a type, behind which the rest stands, carry the spans of their tokens, and the type that of its first one.
abbrev mutual
  pub IsTypeAt : Places → WrittenType → List Token → Type 0
  IsTypeAt at (WholeAt p) rest = p ≡ at (suc (length rest))
  IsTypeAt at (TruthAt p) rest = p ≡ at (suc (length rest))
  IsTypeAt at (VariableAt x) rest = IsAt at x rest
  IsTypeAt at (DataAt p x NoType) rest = (p ≡ at (suc (length rest))) × IsAt at x rest
  IsTypeAt at (DataAt p x (MoreTypes w ws)) rest =
      (p ≡ at (length (spell_type (DataAt p x (MoreTypes w ws)) rest))) × IsAt at x (spell_type w (spell_written ws (t.Sign s.Close ∷ rest)))
      × IsTypeAt at w (spell_written ws (t.Sign s.Close ∷ rest)) × AreWrittenAt at ws (t.Sign s.Close ∷ rest)

  -- The arguments of a type carry the spans of their tokens.
  pub AreWrittenAt : Places → WrittenTypes → List Token → Type 0
  AreWrittenAt at NoType rest = Unit {0}
  AreWrittenAt at (MoreTypes w ws) rest = IsTypeAt at w (spell_written ws rest) × AreWrittenAt at ws rest

-- The names and expressions of a tree, behind which the rest stands, carry the spans of their tokens.
abbrev mutual
  pub IsPlaced : Places → GenericExpression → List Token → Type 0
  IsPlaced at (GenericVar x) rest = IsAt at x rest
  IsPlaced at (GenericNum p n) rest = p ≡ at (suc (length rest))
  IsPlaced at (GenericBit p b) rest = p ≡ at (suc (length rest))
  IsPlaced at (GenericParen p e) rest = (p ≡ at (length (spell (GenericParen p e) rest))) × IsPlaced at e (t.Sign s.Close ∷ rest)
  IsPlaced at (GenericOp p f a b) rest =
      (p ≡ at (length (spell (GenericOp p f a b) rest))) × IsPlaced at a (spell_operator f (spell b (t.Sign s.Close ∷ rest)))
      × IsPlaced at b (t.Sign s.Close ∷ rest)
  IsPlaced at (GenericCall f ws xs) rest = IsAt at f (spell_type_arguments ws (spell_arguments xs rest)) × AreWrittenAt at ws (t.Sign s.CloseBracket ∷ spell_arguments xs rest) × ArePlaced at xs rest
  IsPlaced at (GenericMake k ws xs) rest = IsAt at k (spell_type_arguments ws (spell_arguments xs rest)) × AreWrittenAt at ws (t.Sign s.CloseBracket ∷ spell_arguments xs rest) × ArePlaced at xs rest
  IsPlaced at (GenericLet p xs a b) rest =
      (p ≡ at (length (spell (GenericLet p xs a b) rest))) × AreNamesAt at xs (t.Sign s.Equals ∷ spell a (t.Sign s.In ∷ spell b rest))
      × IsPlaced at a (t.Sign s.In ∷ spell b rest) × IsPlaced at b rest
  IsPlaced at (GenericPar p xs a ys b c) rest =
      (p ≡ at (length (spell (GenericPar p xs a ys b c) rest)))
      × AreNamesAt at xs (t.Sign s.Equals ∷ spell a (t.Sign s.And ∷ spell_names ys (t.Sign s.Equals ∷ spell b (t.Sign s.In ∷ spell c rest))))
      × IsPlaced at a (t.Sign s.And ∷ spell_names ys (t.Sign s.Equals ∷ spell b (t.Sign s.In ∷ spell c rest)))
      × AreNamesAt at ys (t.Sign s.Equals ∷ spell b (t.Sign s.In ∷ spell c rest))
      × IsPlaced at b (t.Sign s.In ∷ spell c rest) × IsPlaced at c rest
  IsPlaced at (GenericIf p a b c) rest =
      (p ≡ at (length (spell (GenericIf p a b c) rest))) × IsPlaced at a (t.Sign s.Then ∷ spell b (t.Sign s.Else ∷ spell c rest))
      × IsPlaced at b (t.Sign s.Else ∷ spell c rest) × IsPlaced at c rest
  IsPlaced at (GenericCase p x arms) rest =
      (p ≡ at (length (spell (GenericCase p x arms) rest)))
      × IsAt at x (t.Sign s.Of ∷ t.Sign s.OpenBrace ∷ spell_arms arms (t.Sign s.CloseBrace ∷ rest))
      × HavePlaces at arms (t.Sign s.CloseBrace ∷ rest)
  IsPlaced at (GenericTuple p xs) rest =
      (p ≡ at (length (spell (GenericTuple p xs) rest))) × ArePartsPlaced at xs (t.Sign s.Close ∷ rest)

  -- The parts of a tuple carry the spans of their tokens.
  pub ArePartsPlaced : Places → GenericArguments → List Token → Type 0
  ArePartsPlaced at GenericNoArgument rest = Unit {0}
  ArePartsPlaced at (GenericArgument a xs) rest = IsPlaced at a (spell_further_parts xs rest) × ArePartsPlaced at xs rest

  -- The arguments carry the spans of their tokens.
  pub ArePlaced : Places → GenericArguments → List Token → Type 0
  ArePlaced at GenericNoArgument rest = Unit {0}
  ArePlaced at (GenericArgument a xs) rest = IsPlaced at a (spell_arguments xs rest) × ArePlaced at xs rest

  -- The arms carry the spans of their tokens.
  pub HavePlaces : Places → GenericArms → List Token → Type 0
  HavePlaces at (GenericLastArm k xs e) rest =
      IsAt at k (spell_variables xs (t.Sign s.Arrow ∷ spell e rest)) × AreAt at xs (t.Sign s.Arrow ∷ spell e rest) × IsPlaced at e rest
  HavePlaces at (GenericNextArm k xs e arms) rest =
      IsAt at k (spell_variables xs (t.Sign s.Arrow ∷ spell e (t.Sign s.Semicolon ∷ spell_arms arms rest)))
      × AreAt at xs (t.Sign s.Arrow ∷ spell e (t.Sign s.Semicolon ∷ spell_arms arms rest))
      × IsPlaced at e (t.Sign s.Semicolon ∷ spell_arms arms rest) × HavePlaces at arms rest

-- Types one after another carry the spans of their tokens.
abbrev pub AreTypesAt : Places → List WrittenType → List Token → Type 0
AreTypesAt at [] rest = Unit {0}
AreTypesAt at (a ∷ as') rest = IsTypeAt at a (spell_types as' rest) × AreTypesAt at as' rest

-- The name and the field types of a constructor carry the spans of their tokens.
abbrev pub IsConstructorAt : Places → GenericConstructorTree → List Token → Type 0
IsConstructorAt at c rest = IsAt at c.name (spell_types c.fields rest) × AreTypesAt at c.fields rest

-- Constructors with a bar between two carry the spans of their tokens.
abbrev pub AreConstructorsAt : Places → List GenericConstructorTree → List Token → Type 0
AreConstructorsAt at [] rest = Unit {0}
AreConstructorsAt at (c ∷ cs) rest = IsConstructorAt at c (spell_more cs rest) × AreConstructorsAt at cs rest

-- The name, the type variables and the constructors of a data declaration carry the spans of their tokens.
abbrev pub IsDataAt : Places → GenericDataTree → List Token → Type 0
IsDataAt at d rest =
    IsAt at d.name (spell_variables d.variables (t.Sign s.Equals ∷ spell_constructors d.constructors (t.Sign s.Semicolon ∷ rest)))
    × AreAt at d.variables (t.Sign s.Equals ∷ spell_constructors d.constructors (t.Sign s.Semicolon ∷ rest))
    × AreConstructorsAt at d.constructors (t.Sign s.Semicolon ∷ rest)

-- Data declarations one after another carry the spans of their tokens.
abbrev pub AreDatasAt : Places → List GenericDataTree → List Token → Type 0
AreDatasAt at [] rest = Unit {0}
AreDatasAt at (d ∷ ds) rest = IsDataAt at d (spell_datas ds rest) × AreDatasAt at ds rest

-- The name and the type of a parameter carry the spans of their tokens.
abbrev pub IsParameterAt : Places → GenericParameterTree → List Token → Type 0
IsParameterAt at q rest = IsAt at q.name (t.Sign s.Colon ∷ spell_type q.ty (t.Sign s.Close ∷ rest)) × IsTypeAt at q.ty (t.Sign s.Close ∷ rest)

-- Parameters one after another carry the spans of their tokens.
abbrev pub AreParametersAt : Places → List GenericParameterTree → List Token → Type 0
AreParametersAt at [] rest = Unit {0}
AreParametersAt at (q ∷ qs) rest = IsParameterAt at q (spell_parameters qs rest) × AreParametersAt at qs rest

-- Types behind a comma each carry the spans of their tokens.
abbrev pub AreFurtherTypesAt : Places → List WrittenType → List Token → Type 0
AreFurtherTypesAt at [] rest = Unit {0}
AreFurtherTypesAt at (a ∷ as') rest = IsTypeAt at a (spell_further_types as' rest) × AreFurtherTypesAt at as' rest

-- What a function gives carries the spans of its tokens.
abbrev pub AreResultsAt : Places → Results WrittenType → List Token → Type 0
AreResultsAt at (One a) rest = IsTypeAt at a rest
AreResultsAt at (Several []) rest = Unit {0}
AreResultsAt at (Several (a ∷ as')) rest = IsTypeAt at a (spell_further_types as' (t.Sign s.Close ∷ rest)) × AreFurtherTypesAt at as' (t.Sign s.Close ∷ rest)

-- What a function gives, and its body, carry the spans of their tokens.
abbrev pub IsBodyAt : Places → Results WrittenType → GenericExpression → List Token → Type 0
IsBodyAt at result body rest =
    AreResultsAt at result (t.Sign s.Equals ∷ spell body (t.Sign s.Semicolon ∷ rest)) × IsPlaced at body (t.Sign s.Semicolon ∷ rest)

-- The type parameters of a function carry the spans of their tokens.
abbrev pub AreTypeParametersAt : Places → List Ident → List Token → Type 0
AreTypeParametersAt at [] rest = Unit {0}
AreTypeParametersAt at (x ∷ xs) rest = AreAt at (x ∷ xs) (t.Sign s.CloseBracket ∷ rest)

-- The name, the type parameters, the parameters, the result type and the body of a function carry the spans of their tokens.
abbrev pub IsFunctionAt : Places → GenericFunctionTree → List Token → Type 0
IsFunctionAt at f rest =
    IsAt at f.name (spell_type_parameters f.variables (spell_parameters f.parameters (spell_body f.result f.body rest)))
    × AreTypeParametersAt at f.variables (spell_parameters f.parameters (spell_body f.result f.body rest))
    × AreParametersAt at f.parameters (spell_body f.result f.body rest) × IsBodyAt at f.result f.body rest

-- Functions one after another carry the spans of their tokens.
abbrev pub AreFunctionsAt : Places → List GenericFunctionTree → List Token → Type 0
AreFunctionsAt at [] rest = Unit {0}
AreFunctionsAt at (f ∷ fs) rest = IsFunctionAt at f (spell_functions fs rest) × AreFunctionsAt at fs rest

-- The parameter, the result type and the body of main carry the spans of their tokens.
abbrev pub IsMainAt : Places → GenericMainTree → List Token → Type 0
IsMainAt at m rest = IsParameterAt at m.parameter (spell_body (One m.result) m.body rest) × IsBodyAt at (One m.result) m.body rest

-- Each name, type and expression of a program carries the span of its first token.
pub record IsPlacedProgram (at : Places) (p : GenericProgramTree) : Type 0 where
  pub datas : AreDatasAt at p.datas (spell_functions p.functions (spell_main p.main []))
  pub functions : AreFunctionsAt at p.functions (spell_main p.main [])
  pub main : IsMainAt at p.main []

-- The tokens are those of the program, by the grammar.
pub record Derives (tokens : List Token) (p : GenericProgramTree) : Type 0 where
  pub fine : IsGenericFineProgram p
  pub spelled : tokens ≡ spell_program p []

-- No program's tokens begin with the tokens up to and including the one from which so many are left;
-- where none are left: the tokens are no program's.
abbrev pub Blames : List Token → ℕ → Type 0
Blames tokens zero = (p : GenericProgramTree) → Derives tokens p → ⊥
Blames tokens (suc k) = (p : GenericProgramTree) (more : List Token) → Derives (take (length tokens - k) tokens ++ more) p → ⊥

-- The places that spans of tokens tell.
abbrev pub places_of : List Span → Places
places_of spans left = get_or spans (length spans - left) (record { start = 0; end = 0 })
