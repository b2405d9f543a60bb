-- Programs on which examples stand.
use Rattle.std.specs.Prelude.{ℕ, [], ◌∷◌}
use Rattle.gib_base.specs.declared.Span.{Span}
use Rattle.gib_syntax.specs.declared.tree.Ident.{Ident}
use Rattle.gib_types.specs.declared.operator.Operator.TheVariants as o
use Rattle.gib_syntax.specs.Results.{One}
use Rattle.gib_syntax.specs.Forms.{WholeAt, VariableAt, DataAt, NoType, MoreTypes, Forms, WholeForm, NoForm, MoreForms}
use Rattle.gib_syntax.specs.GenericTree.{GenericVar, GenericNum, GenericOp, GenericCall, GenericMake, GenericCase, GenericNoArgument, GenericArgument, GenericLastArm, GenericNextArm, GenericDataTree, GenericFunctionTree, GenericProgramTree}

-- A name at a place.
abbrev pub named : ℕ → Span → Ident
named n p = record { name = record { 0 = n }; span = p }

-- data List a = Nil | Cons a (List a) ; with the names 0 to 3.
abbrev pub list_data : Span → GenericDataTree
list_data p = record {
  name = named 0 p;
  variables = named 1 p ∷ [];
  constructors = record { name = named 2 p; fields = [] } ∷ record { name = named 3 p; fields = VariableAt (named 1 p) ∷ DataAt p (named 0 p) (MoreTypes (VariableAt (named 1 p)) NoType) ∷ [] } ∷ [];
}

-- The function that takes the length of a list.
abbrev pub len_function : Span → GenericFunctionTree
len_function p = record {
  name = named 4 p;
  variables = named 1 p ∷ [];
  parameters = record { name = named 5 p; ty = DataAt p (named 0 p) (MoreTypes (VariableAt (named 1 p)) NoType) } ∷ [];
  result = One (WholeAt p);
  body = GenericCase p (named 5 p) (GenericNextArm (named 2 p) [] (GenericNum p 0) (GenericLastArm (named 3 p) (named 6 p ∷ named 7 p ∷ [])
      (GenericOp p o.Add (GenericNum p 1) (GenericCall (named 4 p) (MoreTypes (VariableAt (named 1 p)) NoType) (GenericArgument (GenericVar (named 7 p)) GenericNoArgument)))));
}

-- fun len [a] (l : (List a)) : Int = case l of { Nil -> 0 ; Cons x r -> (1 + len [a] r) } ;
-- main (n : Int) : Int = len [Int] (Cons [Int] n Nil [Int]) ; with the names 4 to 8.
abbrev pub len_program : Span → GenericProgramTree
len_program p = record {
  datas = list_data p ∷ [];
  functions = len_function p ∷ [];
  main = record {
    parameter = record { name = named 8 p; ty = WholeAt p };
    result = WholeAt p;
    body = GenericCall (named 4 p) (MoreTypes (WholeAt p) NoType) (GenericArgument (GenericMake (named 3 p) (MoreTypes (WholeAt p) NoType)
        (GenericArgument (GenericVar (named 8 p)) (GenericArgument (GenericMake (named 2 p) (MoreTypes (WholeAt p) NoType) GenericNoArgument) GenericNoArgument))) GenericNoArgument);
  };
}

-- fun f [a] (x : a) : Int = f [(List a)] (Cons [a] x Nil [a]) ; main (n : Int) : Int = f [Int] n ;
-- with the `f` of the body at a place of its own.
abbrev pub growing_program : Span → Span → GenericProgramTree
growing_program p q = record {
  datas = list_data p ∷ [];
  functions = record {
    name = named 4 p;
    variables = named 1 p ∷ [];
    parameters = record { name = named 6 p; ty = VariableAt (named 1 p) } ∷ [];
    result = One (WholeAt p);
    body = GenericCall (named 4 q) (MoreTypes (DataAt p (named 0 p) (MoreTypes (VariableAt (named 1 p)) NoType)) NoType)
        (GenericArgument (GenericMake (named 3 p) (MoreTypes (VariableAt (named 1 p)) NoType) (GenericArgument (GenericVar (named 6 p)) (GenericArgument (GenericMake (named 2 p) (MoreTypes (VariableAt (named 1 p)) NoType) GenericNoArgument) GenericNoArgument))) GenericNoArgument);
  } ∷ [];
  main = record { parameter = record { name = named 8 p; ty = WholeAt p }; result = WholeAt p; body = GenericCall (named 4 p) (MoreTypes (WholeAt p) NoType) (GenericArgument (GenericVar (named 8 p)) GenericNoArgument) };
}

-- The type arguments `Int`.
abbrev pub whole_only : Forms
whole_only = MoreForms WholeForm NoForm
