-- What holds of all tokens of a program holds of those of its declarations' names.
use Rattle.std.proofs.Common.{◌≡◌, ℕ, List, [], ◌∷◌, Bool, true, false}
use Rattle.std.specs.List.{AllByRecursion}
use Rattle.gib_base.specs.declared.token.Token.{Token}
use Rattle.gib_base.specs.declared.token.Token.TheVariants as t
use Rattle.gib_base.specs.declared.token.Sign.TheVariants as s
use Rattle.gib_syntax.specs.declared.tree.Ident.{Ident}
use Rattle.gib_types.specs.declared.operator.Operator.{Operator}
use Rattle.gib_types.specs.declared.operator.Operator.TheVariants as o
use Rattle.gib_syntax.specs.Forms.{WrittenType, WrittenTypes, WholeAt, TruthAt, VariableAt, DataAt, NoType, MoreTypes}
use Rattle.gib_syntax.specs.GenericTree.{GenericExpression, GenericArguments, GenericArms, GenericVar, GenericNum, GenericBit, GenericParen, GenericOp, GenericCall, GenericMake, GenericLet, GenericPar, GenericIf, GenericCase, GenericTuple, GenericNoArgument, GenericArgument, GenericLastArm, GenericNextArm, GenericConstructorTree, GenericDataTree, GenericParameterTree, GenericFunctionTree, GenericMainTree, GenericProgramTree}
use Rattle.gib_syntax.specs.Results.{Results, One, Several}
use Rattle.gib_syntax.specs.Spelling.{spell, spell_arguments, spell_arms, spell_bit, spell_operator, spell_variables, spell_names, spell_further_names, spell_parts, spell_further_parts, spell_type, spell_written, spell_types, spell_type_arguments, spell_type_parameters, spell_more, spell_constructors, spell_datas, spell_parameters, spell_further_types, spell_results, spell_body, spell_functions, spell_main, spell_program}

module _ (T : Token → Type 0) where
  abbrev All : List Token → Type 0
  All = AllByRecursion T

  after_variables : (xs : List Ident) (rest : List Token) → All (spell_variables xs rest) → All rest
  after_variables [] rest h = h
  after_variables (x ∷ xs) rest h = after_variables xs rest h.1

  after_further_names : (xs : List Ident) (rest : List Token) → All (spell_further_names xs rest) → All rest
  after_further_names [] rest h = h
  after_further_names (x ∷ xs) rest h = after_further_names xs rest h.1.1

  after_names : (xs : List Ident) (rest : List Token) → All (spell_names xs rest) → All rest
  after_names [] rest h = h
  after_names (x ∷ []) rest h = h.1
  after_names (x ∷ y ∷ ys) rest h = (after_further_names (y ∷ ys) (t.Sign s.Close ∷ rest) h.1.1).1

  mutual
    after_type : (w : WrittenType) (rest : List Token) → All (spell_type w rest) → All rest
    after_type (WholeAt p) rest h = h.1
    after_type (TruthAt p) rest h = h.1
    after_type (VariableAt x) rest h = h.1
    after_type (DataAt p x NoType) rest h = h.1
    after_type (DataAt p x (MoreTypes w ws)) rest h = (after_written ws (t.Sign s.Close ∷ rest) (after_type w (spell_written ws (t.Sign s.Close ∷ rest)) h.1.1)).1

    after_written : (ws : WrittenTypes) (rest : List Token) → All (spell_written ws rest) → All rest
    after_written NoType rest h = h
    after_written (MoreTypes w ws) rest h = after_written ws rest (after_type w (spell_written ws rest) h)

  after_types : (ws : List WrittenType) (rest : List Token) → All (spell_types ws rest) → All rest
  after_types [] rest h = h
  after_types (w ∷ ws) rest h = after_types ws rest (after_type w (spell_types ws rest) h)

  after_type_arguments : (ws : WrittenTypes) (rest : List Token) → All (spell_type_arguments ws rest) → All rest
  after_type_arguments NoType rest h = h
  after_type_arguments (MoreTypes w ws) rest h = (after_written ws (t.Sign s.CloseBracket ∷ rest) (after_type w (spell_written ws (t.Sign s.CloseBracket ∷ rest)) h.1)).1

  after_operator : (f : Operator) (rest : List Token) → All (spell_operator f rest) → All rest
  after_operator o.Add rest h = h.1
  after_operator o.Subtract rest h = h.1
  after_operator o.Multiply rest h = h.1
  after_operator o.Equal rest h = h.1
  after_operator o.Less rest h = h.1
  after_operator o.Quotient rest h = h.1
  after_operator o.Remainder rest h = h.1

  after_bit : (b : Bool) (rest : List Token) → All (spell_bit b rest) → All rest
  after_bit true rest h = h.1
  after_bit false rest h = h.1

  mutual
    after : (e : GenericExpression) (rest : List Token) → All (spell e rest) → All rest
    after (GenericVar x) rest h = h.1
    after (GenericNum p n) rest h = h.1
    after (GenericBit p b) rest h = after_bit b rest h
    after (GenericParen p e) rest h = (after e (t.Sign s.Close ∷ rest) h.1).1
    after (GenericOp p f a b) rest h =
        (after b (t.Sign s.Close ∷ rest) (after_operator f (spell b (t.Sign s.Close ∷ rest)) (after a (spell_operator f (spell b (t.Sign s.Close ∷ rest))) h.1))).1
    after (GenericCall f ws xs) rest h = after_arguments xs rest (after_type_arguments ws (spell_arguments xs rest) h.1)
    after (GenericMake k ws xs) rest h = after_arguments xs rest (after_type_arguments ws (spell_arguments xs rest) h.1)
    after (GenericLet p xs a b) rest h =
        let bound = t.Sign s.In ∷ spell b rest in
        after b rest (after a bound (after_names xs (t.Sign s.Equals ∷ spell a bound) h.1).1).1
    after (GenericPar p xs a ys b c) rest h =
        let bound = t.Sign s.In ∷ spell c rest in
        let right = t.Sign s.Equals ∷ spell b bound in
        let left = t.Sign s.And ∷ spell_names ys right in
        let second = after a left (after_names xs (t.Sign s.Equals ∷ spell a left) h.1.1).1 in
        after c rest (after b bound (after_names ys right second.1).1).1
    after (GenericIf p a b c) rest h =
        after c rest (after b (t.Sign s.Else ∷ spell c rest) (after a (t.Sign s.Then ∷ spell b (t.Sign s.Else ∷ spell c rest)) h.1).1).1
    after (GenericCase p x arms) rest h = (after_arms arms (t.Sign s.CloseBrace ∷ rest) h.1.1.1.1).1
    after (GenericTuple p xs) rest h = (after_parts xs (t.Sign s.Close ∷ rest) h.1).1

    after_parts : (xs : GenericArguments) (rest : List Token) → All (spell_parts xs rest) → All rest
    after_parts GenericNoArgument rest h = h
    after_parts (GenericArgument a xs) rest h = after_further_parts xs rest (after a (spell_further_parts xs rest) h)

    after_further_parts : (xs : GenericArguments) (rest : List Token) → All (spell_further_parts xs rest) → All rest
    after_further_parts GenericNoArgument rest h = h
    after_further_parts (GenericArgument a xs) rest h = after_further_parts xs rest (after a (spell_further_parts xs rest) h.1)

    after_arguments : (xs : GenericArguments) (rest : List Token) → All (spell_arguments xs rest) → All rest
    after_arguments GenericNoArgument rest h = h
    after_arguments (GenericArgument a xs) rest h = after_arguments xs rest (after a (spell_arguments xs rest) h)

    after_arms : (arms : GenericArms) (rest : List Token) → All (spell_arms arms rest) → All rest
    after_arms (GenericLastArm k xs e) rest h = after e rest (after_variables xs (t.Sign s.Arrow ∷ spell e rest) h.1).1
    after_arms (GenericNextArm k xs e arms) rest h =
        after_arms arms rest (after e (t.Sign s.Semicolon ∷ spell_arms arms rest) (after_variables xs (t.Sign s.Arrow ∷ spell e (t.Sign s.Semicolon ∷ spell_arms arms rest)) h.1).1).1

  -- of the names of constructors, types and functions
  abbrev pub HasName : GenericConstructorTree → Type 0
  HasName c = T (t.Constructor c.name.name)

  abbrev pub HaveNames : GenericDataTree → Type 0
  HaveNames d = T (t.Constructor d.name.name) × AllByRecursion HasName d.constructors

  abbrev pub IsFunctionNamed : GenericFunctionTree → Type 0
  IsFunctionNamed f = T (t.Variable f.name.name)

  in_more : (cs : List GenericConstructorTree) (rest : List Token) → All (spell_more cs rest) → AllByRecursion HasName cs × All rest
  in_more [] rest h = (tt {0}, h)
  in_more (c ∷ cs) rest h = let more = in_more cs rest (after_types c.fields (spell_more cs rest) h.1.1) in ((h.1.0, more.0), more.1)

  in_constructors : (cs : List GenericConstructorTree) (rest : List Token) → All (spell_constructors cs rest) → AllByRecursion HasName cs × All rest
  in_constructors [] rest h = (tt {0}, h)
  in_constructors (c ∷ cs) rest h = let more = in_more cs rest (after_types c.fields (spell_more cs rest) h.1) in ((h.0, more.0), more.1)

  in_datas : (ds : List GenericDataTree) (rest : List Token) → All (spell_datas ds rest) → AllByRecursion HaveNames ds × All rest
  in_datas [] rest h = (tt {0}, h)
  in_datas (d ∷ ds) rest h =
      let cs = in_constructors d.constructors (t.Sign s.Semicolon ∷ spell_datas ds rest)
      (after_variables d.variables (t.Sign s.Equals ∷ spell_constructors d.constructors (t.Sign s.Semicolon ∷ spell_datas ds rest)) h.1.1).1 in
      let more = in_datas ds rest cs.1.1 in
      (((h.1.0, cs.0), more.0), more.1)

  after_parameters : (qs : List GenericParameterTree) (rest : List Token) → All (spell_parameters qs rest) → All rest
  after_parameters [] rest h = h
  after_parameters (q ∷ qs) rest h = after_parameters qs rest (after_type q.ty (t.Sign s.Close ∷ spell_parameters qs rest) h.1.1.1).1

  after_type_parameters : (xs : List Ident) (rest : List Token) → All (spell_type_parameters xs rest) → All rest
  after_type_parameters [] rest h = h
  after_type_parameters (x ∷ xs) rest h = (after_variables xs (t.Sign s.CloseBracket ∷ rest) h.1.1).1

  after_further_types : (ws : List WrittenType) (rest : List Token) → All (spell_further_types ws rest) → All rest
  after_further_types [] rest h = h
  after_further_types (w ∷ ws) rest h = after_further_types ws rest (after_type w (spell_further_types ws rest) h.1)

  after_results : (r : Results WrittenType) (rest : List Token) → All (spell_results r rest) → All rest
  after_results (One w) rest h = after_type w rest h
  after_results (Several []) rest h = h
  after_results (Several (w ∷ ws)) rest h =
      let behind = t.Sign s.Close ∷ rest in (after_further_types ws behind (after_type w (spell_further_types ws behind) h.1)).1

  after_body : (r : Results WrittenType) (e : GenericExpression) (rest : List Token) → All (spell_body r e rest) → All rest
  after_body r e rest h = (after e (t.Sign s.Semicolon ∷ rest) (after_results r (t.Sign s.Equals ∷ spell e (t.Sign s.Semicolon ∷ rest)) h.1).1).1

  in_functions : (fs : List GenericFunctionTree) (rest : List Token) → All (spell_functions fs rest) → AllByRecursion IsFunctionNamed fs
  in_functions [] rest h = tt {0}
  in_functions (f ∷ fs) rest h =
      let behind = spell_body f.result f.body (spell_functions fs rest) in
      let left = after_parameters f.parameters behind (after_type_parameters f.variables (spell_parameters f.parameters behind) h.1.1) in
      (h.1.0, in_functions fs rest (after_body f.result f.body (spell_functions fs rest) left))

  pub in_program : (p : GenericProgramTree) → All (spell_program p []) → AllByRecursion HaveNames p.datas × AllByRecursion IsFunctionNamed p.functions
  in_program p h =
      let ds = in_datas p.datas (spell_functions p.functions (spell_main p.main [])) h in
      (ds.0, in_functions p.functions (spell_main p.main []) ds.1)
