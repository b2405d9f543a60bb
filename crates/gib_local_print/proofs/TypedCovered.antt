-- The arms of typed programs are of declared constructors.
use Rattle.std.proofs.Common.{◌≢◌, ◌<◌, List, [], ◌∷◌, length, refl, arith}
use Rattle.std.specs.List.{AllByRecursion}
use Rattle.gib_types.specs.declared.table.Ty.{Ty}
use Rattle.gib_types.specs.declared.table.Ty.TheVariants.{Whole, Truth}
use Rattle.gib_types.specs.Table.{fields_at}
use Rattle.gib_syntax.specs.Results.{Results, One, map_results, as_results}
use Rattle.gib_syntax.specs.Tree.{Expression, Arguments, Arms, Var, Num, Bit, Paren, Op, Call, Make, Let, Par, If, Case, Tuple, LetSeveral, ParSeveral, NoArgument, Argument, LastArm, NextArm, FunctionTree, ProgramTree}
use Rattle.gib_syntax.specs.Declarations.{type_of_name}
use Rattle.gib_syntax.specs.Fine.{IsFineFunction, IsFineProgram}
use Rattle.gib_syntax.specs.Typing.{Globals, globals_of, Scope, bound, parameter_types, types_of, Has, HaveAll, HaveArms, IsTypedHere, IsTypedProgram}
use Rattle.gib_local_print.specs.Covered.{Covered, AllCovered, ArmsCovered, IsCovered}

module _ (g : Globals) where
  mutual
    has_covered : (e : Expression) (scope : Scope) (r : Results Ty) → Has g scope e r → Covered g e
    has_covered (Var x) scope r h = tt
    has_covered (Num p n) scope r h = tt
    has_covered (Bit p b) scope r h = tt
    has_covered (Paren p e) scope r h = has_covered e scope r h
    has_covered (Op p f a b) scope r h = (has_covered a scope (One Whole) h.1, has_covered b scope (One Whole) h.2)
    has_covered (Call f xs) scope r h = all_covered xs scope (parameter_types g.table h.0) h.3
    has_covered (Make k xs) scope r h = all_covered xs scope (fields_at g.table h.0) h.3
    has_covered (Let p x a b) scope r h = (has_covered a scope (One h.0) h.1, has_covered b (bound x h.0 scope) r h.3)
    has_covered (Par p x a y b c) scope r h = (has_covered a scope (One h.0) h.2, has_covered b scope (One h.1) h.3, has_covered c (bound y h.1 (bound x h.0 scope)) r h.6)
    has_covered (If p a b c) scope r h = (has_covered a scope (One Truth) h.0, has_covered b scope r h.1, has_covered c scope r h.2)
    has_covered (Case p x arms) scope r h = arms_covered arms scope r h.3
    has_covered (Tuple p as' xs) scope r h = all_covered xs scope (Rattle.std.specs.Prelude.map (type_of_name g.table.types) as') h.2
    has_covered (LetSeveral p qs a b) scope r h = (has_covered a scope (as_results (types_of g.table.types qs)) h.2, has_covered b h.0 r h.4)
    has_covered (ParSeveral p qs a rs b c) scope r h =
        (has_covered a scope (as_results (types_of g.table.types qs)) h.4, has_covered b scope (as_results (types_of g.table.types rs)) h.5, has_covered c h.1 r h.8)

    all_covered : (xs : Arguments) (scope : Scope) (ts : List Ty) → HaveAll g scope xs ts → AllCovered g xs
    all_covered NoArgument scope ts h = tt
    all_covered (Argument a xs) scope [] h = absurd h
    all_covered (Argument a xs) scope (t ∷ ts) h = (has_covered a scope (One t) h.0, all_covered xs scope ts h.1)

    arms_covered : (arms : Arms) (scope : Scope) (r : Results Ty) → HaveArms g scope arms r → ArmsCovered g arms
    arms_covered (LastArm k xs e) scope r h = ((h.0, h.2), has_covered e h.1 r h.4)
    arms_covered (NextArm k xs e arms) scope r h = ((h.0.0, h.0.2), has_covered e h.0.1 r h.0.4, arms_covered arms scope r h.1)

functions_covered : (g : Globals) (fs : List FunctionTree) → AllByRecursion (IsTypedHere g) fs → AllByRecursion (λ (f : FunctionTree). Covered g f.body) fs
functions_covered g [] h = tt
functions_covered g (f ∷ fs) h = (has_covered g f.body h.0.scope (map_results (type_of_name g.table.types) f.result) h.0.typed, functions_covered g fs h.1)

some_there : {A : Type 0} (xs : List A) → xs ≢ [] → 0 < length xs
some_there [] h = absurd (h refl)
some_there (x ∷ xs) h = omega arith

functions_take : (fs : List FunctionTree) → AllByRecursion IsFineFunction fs → AllByRecursion (λ (f : FunctionTree). 0 < length f.parameters) fs
functions_take [] h = tt
functions_take (f ∷ fs) h = (some_there f.parameters h.0.0, functions_take fs h.1)

pub typed_covered : (p : ProgramTree) → IsFineProgram p → IsTypedProgram p → IsCovered p
typed_covered p fine typed = record {
  functions = functions_covered (globals_of p) p.functions typed.functions;
  main = has_covered (globals_of p) p.main.body typed.main.scope (One (type_of_name (globals_of p).table.types p.main.result)) typed.main.typed;
  parameters = functions_take p.functions fine.functions;
}
