-- Tokens without a comma spell no results of several parts.
use Rattle.std.proofs.Common.{◌≡◌, Bool, true, false, List, [], ◌∷◌, refl}
use Rattle.std.specs.List.{AllByRecursion}
use Rattle.gib_base.specs.declared.token.Sign.TheVariants as s
use Rattle.gib_base.specs.declared.token.Token.{Token}
use Rattle.gib_base.specs.declared.token.Token.TheVariants as t
use Rattle.gib_syntax.specs.declared.tree.Ident.{Ident}
use Rattle.gib_types.specs.declared.operator.Operator.{Operator}
use Rattle.gib_types.specs.declared.operator.Operator.TheVariants as o
use Rattle.gib_syntax.specs.Results.{Results, One, Several, AreResults}
use Rattle.gib_syntax.specs.Forms.{WrittenType, WrittenTypes, WholeAt, TruthAt, VariableAt, DataAt, NoType, MoreTypes}
use Rattle.gib_syntax.specs.GenericTree.{GenericExpression, GenericArguments, GenericArms, GenericVar, GenericNum, GenericBit, GenericParen, GenericOp, GenericCall, GenericMake, GenericLet, GenericPar, GenericIf, GenericCase, GenericTuple, GenericNoArgument, GenericArgument, GenericLastArm, GenericNextArm, GenericConstructorTree, GenericDataTree, GenericParameterTree, GenericFunctionTree, GenericProgramTree}
use Rattle.gib_syntax.specs.GenericFine.{IsGenericFine, AreGenericFine, HasGenericFine, IsGenericFineFunction, IsGenericFineProgram}
use Rattle.gib_syntax.specs.Single.{IsSingle, AreSingle, HasSingle, IsSingleFunction, IsSingleProgram, HasNoComma}
use Rattle.gib_syntax.specs.Spelling.{spell, spell_arguments, spell_arms, spell_variables, spell_names, spell_further_parts, spell_operator, spell_bit, spell_type, spell_written, spell_types, spell_type_arguments, spell_type_parameters, spell_more, spell_constructors, spell_datas, spell_parameter, spell_parameters, spell_further_types, spell_results, spell_body, spell_function, spell_functions, spell_main, spell_program}

-- ---- what is spelled before the rest

after_variables : (xs : List Ident) (rest : List Token) → HasNoComma (spell_variables xs rest) → HasNoComma rest
after_variables [] rest h = h
after_variables (x ∷ xs) rest h = after_variables xs rest h

after_operator : (f : Operator) (rest : List Token) → HasNoComma (spell_operator f rest) → HasNoComma rest
after_operator o.Add rest h = h
after_operator o.Subtract rest h = h
after_operator o.Multiply rest h = h
after_operator o.Equal rest h = h
after_operator o.Less rest h = h
after_operator o.Quotient rest h = h
after_operator o.Remainder rest h = h

after_bit : (b : Bool) (rest : List Token) → HasNoComma (spell_bit b rest) → HasNoComma rest
after_bit true rest h = h
after_bit false rest h = h

mutual
  after_type : (w : WrittenType) (rest : List Token) → HasNoComma (spell_type w rest) → HasNoComma rest
  after_type (WholeAt p) rest h = h
  after_type (TruthAt p) rest h = h
  after_type (VariableAt x) rest h = h
  after_type (DataAt p x NoType) rest h = h
  after_type (DataAt p x (MoreTypes w ws)) rest h = after_written ws (t.Sign s.Close ∷ rest) (after_type w (spell_written ws (t.Sign s.Close ∷ rest)) h)

  after_written : (ws : WrittenTypes) (rest : List Token) → HasNoComma (spell_written ws rest) → HasNoComma rest
  after_written NoType rest h = h
  after_written (MoreTypes w ws) rest h = after_written ws rest (after_type w (spell_written ws rest) h)

after_type_arguments : (ws : WrittenTypes) (rest : List Token) → HasNoComma (spell_type_arguments ws rest) → HasNoComma rest
after_type_arguments NoType rest h = h
after_type_arguments (MoreTypes w ws) rest h = after_written ws (t.Sign s.CloseBracket ∷ rest) (after_type w (spell_written ws (t.Sign s.CloseBracket ∷ rest)) h)

after_type_parameters : (xs : List Ident) (rest : List Token) → HasNoComma (spell_type_parameters xs rest) → HasNoComma rest
after_type_parameters [] rest h = h
after_type_parameters (x ∷ xs) rest h = after_variables xs (t.Sign s.CloseBracket ∷ rest) h

-- ---- expressions

mutual
  single : (e : GenericExpression) (rest : List Token) → IsGenericFine e → HasNoComma (spell e rest) → IsSingle e × HasNoComma rest
  single (GenericVar x) rest f h = (tt, h)
  single (GenericNum p n) rest f h = (tt, h)
  single (GenericBit p b) rest f h = (tt, after_bit b rest h)
  single (GenericParen p e) rest f h = let a = single e (t.Sign s.Close ∷ rest) f h in (a.0, a.1)
  single (GenericOp p g a b) rest f h =
      let left = single a (spell_operator g (spell b (t.Sign s.Close ∷ rest))) f.0 h in
      let right = single b (t.Sign s.Close ∷ rest) f.1 (after_operator g (spell b (t.Sign s.Close ∷ rest)) left.1) in
      ((left.0, right.0), right.1)
  single (GenericCall g ws GenericNoArgument) rest f h = absurd f
  single (GenericCall g ws (GenericArgument a xs)) rest f h = all_single (GenericArgument a xs) rest f (after_type_arguments ws (spell a (spell_arguments xs rest)) h)
  single (GenericMake k ws xs) rest f h = all_single xs rest f (after_type_arguments ws (spell_arguments xs rest) h)
  single (GenericLet p [] a b) rest f h = absurd (f.0 refl)
  single (GenericLet p (x ∷ []) a b) rest f h =
      let bound = single a (t.Sign s.In ∷ spell b rest) f.1 h in
      let body = single b rest f.2 bound.1 in
      (((x, refl), bound.0, body.0), body.1)
  single (GenericLet p (x ∷ y ∷ ys) a b) rest f h = absurd h
  single (GenericPar p [] a ys b c) rest f h = absurd (f.0 refl)
  single (GenericPar p (x ∷ xs) a [] b c) rest f h = absurd (f.1 refl)
  single (GenericPar p (x ∷ []) a (y ∷ []) b c) rest f h =
      let left = single a (t.Sign s.And ∷ t.Variable y.name ∷ t.Sign s.Equals ∷ spell b (t.Sign s.In ∷ spell c rest)) f.2 h in
      let right = single b (t.Sign s.In ∷ spell c rest) f.3 left.1 in
      let body = single c rest f.4 right.1 in
      (((x, refl), (y, refl), left.0, right.0, body.0), body.1)
  single (GenericPar p (x ∷ []) a (y ∷ z ∷ zs) b c) rest f h = absurd (single a (t.Sign s.And ∷ spell_names (y ∷ z ∷ zs) (t.Sign s.Equals ∷ spell b (t.Sign s.In ∷ spell c rest))) f.2 h).1
  single (GenericPar p (x ∷ w ∷ ws) a (y ∷ ys) b c) rest f h = absurd h
  single (GenericIf p a b c) rest f h =
      let first = single a (t.Sign s.Then ∷ spell b (t.Sign s.Else ∷ spell c rest)) f.0 h in
      let second = single b (t.Sign s.Else ∷ spell c rest) f.1 first.1 in
      let third = single c rest f.2 second.1 in
      ((first.0, second.0, third.0), third.1)
  single (GenericCase p x arms) rest f h = let all = arms_single arms (t.Sign s.CloseBrace ∷ rest) f h in (all.0, all.1)
  single (GenericTuple p GenericNoArgument) rest f h = absurd f
  single (GenericTuple p (GenericArgument a GenericNoArgument)) rest f h = absurd f
  single (GenericTuple p (GenericArgument a (GenericArgument b xs))) rest f h = absurd (single a (spell_further_parts (GenericArgument b xs) (t.Sign s.Close ∷ rest)) f.0 h).1

  all_single : (xs : GenericArguments) (rest : List Token) → AreGenericFine xs → HasNoComma (spell_arguments xs rest) → AreSingle xs × HasNoComma rest
  all_single GenericNoArgument rest f h = (tt, h)
  all_single (GenericArgument a xs) rest f h =
      let first = single a (spell_arguments xs rest) f.0 h in
      let more = all_single xs rest f.2 first.1 in
      ((first.0, more.0), more.1)

  arms_single : (arms : GenericArms) (rest : List Token) → HasGenericFine arms → HasNoComma (spell_arms arms rest) → HasSingle arms × HasNoComma rest
  arms_single (GenericLastArm k xs e) rest f h = single e rest f (after_variables xs (t.Sign s.Arrow ∷ spell e rest) h)
  arms_single (GenericNextArm k xs e arms) rest f h =
      let behind = t.Sign s.Semicolon ∷ spell_arms arms rest in
      let first = single e behind f.0 (after_variables xs (t.Sign s.Arrow ∷ spell e behind) h) in
      let more = arms_single arms rest f.1 first.1 in
      ((first.0, more.0), more.1)

-- ---- declarations

after_types : (ws : List WrittenType) (rest : List Token) → HasNoComma (spell_types ws rest) → HasNoComma rest
after_types [] rest h = h
after_types (w ∷ ws) rest h = after_types ws rest (after_type w (spell_types ws rest) h)

after_more : (cs : List GenericConstructorTree) (rest : List Token) → HasNoComma (spell_more cs rest) → HasNoComma rest
after_more [] rest h = h
after_more (c ∷ cs) rest h = after_more cs rest (after_types c.fields (spell_more cs rest) h)

after_constructors : (cs : List GenericConstructorTree) (rest : List Token) → HasNoComma (spell_constructors cs rest) → HasNoComma rest
after_constructors [] rest h = h
after_constructors (c ∷ cs) rest h = after_more cs rest (after_types c.fields (spell_more cs rest) h)

after_datas : (ds : List GenericDataTree) (rest : List Token) → HasNoComma (spell_datas ds rest) → HasNoComma rest
after_datas [] rest h = h
after_datas (d ∷ ds) rest h =
    let behind = t.Sign s.Semicolon ∷ spell_datas ds rest in
    after_datas ds rest (after_constructors d.constructors behind (after_variables d.variables (t.Sign s.Equals ∷ spell_constructors d.constructors behind) h))

after_parameter : (q : GenericParameterTree) (rest : List Token) → HasNoComma (spell_parameter q rest) → HasNoComma rest
after_parameter q rest h = after_type q.ty (t.Sign s.Close ∷ rest) h

after_parameters : (qs : List GenericParameterTree) (rest : List Token) → HasNoComma (spell_parameters qs rest) → HasNoComma rest
after_parameters [] rest h = h
after_parameters (q ∷ qs) rest h = after_parameters qs rest (after_parameter q (spell_parameters qs rest) h)

one_result : (r : Results WrittenType) (rest : List Token) → AreResults r → HasNoComma (spell_results r rest) → ((w : WrittenType) × (r ≡ One w)) × HasNoComma rest
one_result (One w) rest f h = ((w, refl), after_type w rest h)
one_result (Several []) rest f h = absurd f
one_result (Several (w ∷ [])) rest f h = absurd f
one_result (Several (w ∷ v ∷ more)) rest f h = absurd (after_type w (spell_further_types (v ∷ more) (t.Sign s.Close ∷ rest)) h)

function_single : (f : GenericFunctionTree) (rest : List Token) → IsGenericFineFunction f → HasNoComma (spell_function f rest) → IsSingleFunction f × HasNoComma rest
function_single f rest fine h =
    let behind = spell_body f.result f.body rest in
    let parameters = after_type_parameters f.variables (spell_parameters f.parameters behind) h in
    let result = one_result f.result (t.Sign s.Equals ∷ spell f.body (t.Sign s.Semicolon ∷ rest)) fine.2 (after_parameters f.parameters behind parameters) in
    let body = single f.body (t.Sign s.Semicolon ∷ rest) fine.1 result.1 in
    ((result.0, body.0), body.1)

functions_single : (fs : List GenericFunctionTree) (rest : List Token) → AllByRecursion IsGenericFineFunction fs → HasNoComma (spell_functions fs rest) → AllByRecursion IsSingleFunction fs × HasNoComma rest
functions_single [] rest fine h = (tt, h)
functions_single (f ∷ fs) rest fine h =
    let first = function_single f (spell_functions fs rest) fine.0 h in
    let more = functions_single fs rest fine.1 first.1 in
    ((first.0, more.0), more.1)

-- A program whose tokens have no comma has one result everywhere.
pub no_commas : (p : GenericProgramTree) → IsGenericFineProgram p → HasNoComma (spell_program p []) → IsSingleProgram p
no_commas p fine h =
    let m = p.main in
    let functions = functions_single p.functions (spell_main m []) fine.functions (after_datas p.datas (spell_functions p.functions (spell_main m [])) h) in
    let result = after_type m.result (t.Sign s.Equals ∷ spell m.body (t.Sign s.Semicolon ∷ [])) (after_parameter m.parameter (spell_body (One m.result) m.body []) functions.1) in
    record { functions = functions.0; main = (single m.body (t.Sign s.Semicolon ∷ []) fine.main result).0 }
