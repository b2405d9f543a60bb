-- A program without type parameters asks for its own declarations alone.
use Rattle.std.proofs.Common.{◌≡◌, ℕ, suc, Bool, true, false, ◌==◌, if◌then◌else◌, List, [], ◌∷◌, ◌++◌, map, length, Option, Some, None, refl, ap, ◌∙◌, subst}
use Rattle.std.specs.Prelude.{slice_get, Result, Ok}
use Rattle.std.specs.List.{AllByRecursion}
use Rattle.std.proofs.lemmas.Option.{same_Some}
use Rattle.std.proofs.lemmas.Bool.{or_left, or_right}
use Rattle.gib_base.specs.declared.Span.{Span}
use Rattle.gib_syntax.specs.declared.tree.TypeName.{TypeName}
use Rattle.gib_syntax.specs.declared.tree.TypeName.TheVariants as ty
use Rattle.gib_syntax.specs.declared.tree.Parameter.{Parameter}
use Rattle.gib_syntax.specs.Declarations.{number_of}
use Rattle.gib_syntax.specs.Tree.{Expression, Arguments, Arms, Var, Num, Bit, Paren, Op, Call, Make, Let, Par, If, Case, Tuple, LetSeveral, ParSeveral, NoArgument, Argument, LastArm, NextArm, ConstructorTree, DataTree, FunctionTree, ProgramTree}
use Rattle.gib_syntax.specs.Results.{Results, One, Several, map_results}
use Rattle.gib_syntax.specs.Forms.{Forms, NoForm, Meant, assign}
use Rattle.gib_syntax.specs.GenericTree.{GenericDataTree, GenericParameterTree, GenericFunctionTree, GenericRow, globals_of_generic, generic_named, data_named}
use Rattle.gib_mono.specs.Walk.{Ask, Copy, DataOf, FunctionOf, data_asked, function_asked, asked, same_copy, is_found, add_new, add_short, add_ask, with_found, add_asks, walk_one, walk, written_asks, results_asks, types_asks, asks, all_asks, arm_asks, constructor_asks, function_asks, copy_asks, copies_asks, main_asks, plain_datas, plain_functions, plain_copies, copies_of}
use Rattle.gib_types.specs.Form.{has_long}
use Rattle.gib_syntax.specs.Plain.{written_of, as_generic, all_as_generic, arms_as_generic, generic_constructor, generic_data, generic_parameter, generic_function, generic_of}
use Rattle.gib_mono.proofs.Closing.{parts_same}

-- uses without types
abbrev pub Bare : List Ask → Type 0
Bare as' = AllByRecursion (λ (a : Ask). a.types ≡ NoForm) as'

pub bare_both : (xs ys : List Ask) → Bare xs → Bare ys → Bare (xs ++ ys)
bare_both [] ys h k = k
bare_both (x ∷ xs) ys h k = (h.0, bare_both xs ys h.1 k)

bare_written : (m : Meant) (a : TypeName) → Bare (written_asks m (written_of a))
bare_written m (ty.Whole p) = tt {0}
bare_written m (ty.Truth p) = tt {0}
bare_written m (ty.Declared x) = (refl, tt {0})

bare_types : (m : Meant) (as' : List TypeName) → Bare (types_asks m (map written_of as'))
bare_types m [] = tt {0}
bare_types m (a ∷ as') = bare_both (written_asks m (written_of a)) (types_asks m (map written_of as')) (bare_written m a) (bare_types m as')

bare_constructors : (m : Meant) (cs : List ConstructorTree) → Bare (constructor_asks m (map generic_constructor cs))
bare_constructors m [] = tt {0}
bare_constructors m (c ∷ cs) = bare_both (types_asks m (map written_of c.fields)) (constructor_asks m (map generic_constructor cs)) (bare_types m c.fields) (bare_constructors m cs)

bare_parameters : (m : Meant) (qs : List Parameter) → Bare (types_asks m (map (λ (q : GenericParameterTree). q.ty) (map generic_parameter qs)))
bare_parameters m [] = tt {0}
bare_parameters m (q ∷ qs) = bare_both (written_asks m (written_of q.ty)) (types_asks m (map (λ (q : GenericParameterTree). q.ty) (map generic_parameter qs))) (bare_written m q.ty) (bare_parameters m qs)

mutual
  pub bare_asks : (rows : List GenericRow) (m : Meant) (e : Expression) → Bare (asks rows m (as_generic e))
  bare_asks rows m (Var x) = tt {0}
  bare_asks rows m (Num p n) = tt {0}
  bare_asks rows m (Bit p b) = tt {0}
  bare_asks rows m (Paren p e) = bare_asks rows m e
  bare_asks rows m (Op p f a b) = bare_both (asks rows m (as_generic a)) (asks rows m (as_generic b)) (bare_asks rows m a) (bare_asks rows m b)
  bare_asks rows m (Call f xs) = (refl, bare_all_asks rows m xs)
  bare_asks rows m (Make k xs) = (refl, bare_all_asks rows m xs)
  bare_asks rows m (Let p x a b) = bare_both (asks rows m (as_generic a)) (asks rows m (as_generic b)) (bare_asks rows m a) (bare_asks rows m b)
  bare_asks rows m (Par p x a y b c) =
      bare_both (asks rows m (as_generic a)) (asks rows m (as_generic b) ++ asks rows m (as_generic c)) (bare_asks rows m a) (bare_both (asks rows m (as_generic b)) (asks rows m (as_generic c)) (bare_asks rows m b) (bare_asks rows m c))
  bare_asks rows m (If p a b c) =
      bare_both (asks rows m (as_generic a)) (asks rows m (as_generic b) ++ asks rows m (as_generic c)) (bare_asks rows m a) (bare_both (asks rows m (as_generic b)) (asks rows m (as_generic c)) (bare_asks rows m b) (bare_asks rows m c))
  bare_asks rows m (Case p x arms) = bare_arm_asks rows m arms
  bare_asks rows m (Tuple p as' xs) = bare_all_asks rows m xs
  bare_asks rows m (LetSeveral p qs a b) = bare_both (asks rows m (as_generic a)) (asks rows m (as_generic b)) (bare_asks rows m a) (bare_asks rows m b)
  bare_asks rows m (ParSeveral p qs a rs b c) =
      bare_both (asks rows m (as_generic a)) (asks rows m (as_generic b) ++ asks rows m (as_generic c)) (bare_asks rows m a) (bare_both (asks rows m (as_generic b)) (asks rows m (as_generic c)) (bare_asks rows m b) (bare_asks rows m c))

  bare_all_asks : (rows : List GenericRow) (m : Meant) (xs : Arguments) → Bare (all_asks rows m (all_as_generic xs))
  bare_all_asks rows m NoArgument = tt {0}
  bare_all_asks rows m (Argument a xs) = bare_both (asks rows m (as_generic a)) (all_asks rows m (all_as_generic xs)) (bare_asks rows m a) (bare_all_asks rows m xs)

  bare_arm_asks : (rows : List GenericRow) (m : Meant) (arms : Arms) → Bare (arm_asks rows m (arms_as_generic arms))
  bare_arm_asks rows m (LastArm k xs e) = bare_asks rows m e
  bare_arm_asks rows m (NextArm k xs e arms) = bare_both (asks rows m (as_generic e)) (arm_asks rows m (arms_as_generic arms)) (bare_asks rows m e) (bare_arm_asks rows m arms)

bare_results : (m : Meant) (r : Results TypeName) → Bare (results_asks m (map_results written_of r))
bare_results m (One a) = bare_written m a
bare_results m (Several as') = bare_types m as'

bare_function : (rows : List GenericRow) (m : Meant) (qs : List Parameter) (result : Results TypeName) (body : Expression) → Bare (function_asks rows m (map generic_parameter qs) (map_results written_of result) (as_generic body))
bare_function rows m qs result body =
    bare_both (types_asks m (map (λ (q : GenericParameterTree). q.ty) (map generic_parameter qs))) (results_asks m (map_results written_of result) ++ asks rows m (as_generic body)) (bare_parameters m qs)
    (bare_both (results_asks m (map_results written_of result)) (asks rows m (as_generic body)) (bare_results m result) (bare_asks rows m body))

bare_copies : (rows : List GenericRow) (ds : List DataTree) (fs : List FunctionTree) → Bare (copies_asks rows (plain_datas (map generic_data ds) ++ plain_functions (map generic_function fs)))
bare_copies rows [] [] = tt {0}
bare_copies rows [] (f ∷ fs) =
    bare_both (copy_asks rows (FunctionOf (generic_function f) NoForm)) (copies_asks rows (plain_functions (map generic_function fs))) (bare_function rows (assign [] NoForm) f.parameters f.result f.body) (bare_copies rows [] fs)
bare_copies rows (d ∷ ds) fs =
    bare_both (copy_asks rows (DataOf (generic_data d) NoForm)) (copies_asks rows (plain_datas (map generic_data ds) ++ plain_functions (map generic_function fs))) (bare_constructors (assign [] NoForm) d.constructors) (bare_copies rows ds fs)

-- what a name finds is a plain declaration
data_there : (ds : List DataTree) (fs : List FunctionTree) (x : ℕ) (d : GenericDataTree) → data_named (map generic_data ds) x ≡ Some d → is_found (plain_datas (map generic_data ds) ++ plain_functions (map generic_function fs)) (DataOf d NoForm) ≡ true
data_there [] fs x d e = absurd cc
data_there (b ∷ ds) fs x d e = step (number_of b.name == x) e (data_there ds fs x d) where
  step : (t : Bool) → (if t then Some (generic_data b) else data_named (map generic_data ds) x) ≡ Some d → (data_named (map generic_data ds) x ≡ Some d → is_found (plain_datas (map generic_data ds) ++ plain_functions (map generic_function fs)) (DataOf d NoForm) ≡ true) →
      is_found (DataOf (generic_data b) NoForm ∷ (plain_datas (map generic_data ds) ++ plain_functions (map generic_function fs))) (DataOf d NoForm) ≡ true
  step true e go =
      or_left (same_copy (DataOf (generic_data b) NoForm) (DataOf d NoForm)) (is_found (plain_datas (map generic_data ds) ++ plain_functions (map generic_function fs)) (DataOf d NoForm))
      (parts_same (number_of b.name) (number_of d.name) NoForm NoForm (ap (λ (u : GenericDataTree). number_of u.name) (same_Some (generic_data b) d e)) refl)
  step false e go = or_right (same_copy (DataOf (generic_data b) NoForm) (DataOf d NoForm)) (is_found (plain_datas (map generic_data ds) ++ plain_functions (map generic_function fs)) (DataOf d NoForm)) (go e)

function_there : (ds : List DataTree) (fs : List FunctionTree) (x : ℕ) (f : GenericFunctionTree) → generic_named (map generic_function fs) x ≡ Some f → is_found (plain_datas (map generic_data ds) ++ plain_functions (map generic_function fs)) (FunctionOf f NoForm) ≡ true
function_there [] [] x f e = absurd cc
function_there [] (b ∷ fs) x f e = step (number_of b.name == x) e (function_there [] fs x f) where
  step : (t : Bool) → (if t then Some (generic_function b) else generic_named (map generic_function fs) x) ≡ Some f → (generic_named (map generic_function fs) x ≡ Some f → is_found (plain_functions (map generic_function fs)) (FunctionOf f NoForm) ≡ true) →
      is_found (FunctionOf (generic_function b) NoForm ∷ plain_functions (map generic_function fs)) (FunctionOf f NoForm) ≡ true
  step true e go =
      or_left (same_copy (FunctionOf (generic_function b) NoForm) (FunctionOf f NoForm)) (is_found (plain_functions (map generic_function fs)) (FunctionOf f NoForm))
      (parts_same (number_of b.name) (number_of f.name) NoForm NoForm (ap (λ (u : GenericFunctionTree). number_of u.name) (same_Some (generic_function b) f e)) refl)
  step false e go = or_right (same_copy (FunctionOf (generic_function b) NoForm) (FunctionOf f NoForm)) (is_found (plain_functions (map generic_function fs)) (FunctionOf f NoForm)) (go e)
function_there (d ∷ ds) fs x f e = function_there ds fs x f e

pub short_own : (found : List Copy) (o : Option Copy) (span : Span) → ((c : Copy) → o ≡ Some c → is_found found c ≡ true) → add_short found o span false ≡ Ok found
short_own found None span h = refl
short_own found (Some c) span h = ap (add_new found c span) (h c refl)

asked_there : (p : ProgramTree) (b : Bool) (x : ℕ) (c : Copy) → asked (globals_of_generic (generic_of p)) b x NoForm ≡ Some c → is_found (plain_copies (generic_of p)) c ≡ true
asked_there p true x c e = step (generic_named (map generic_function p.functions) x) refl e where
  step : (o : Option GenericFunctionTree) → generic_named (map generic_function p.functions) x ≡ o → function_asked o NoForm ≡ Some c → is_found (plain_copies (generic_of p)) c ≡ true
  step None h e = absurd cc
  step (Some f) h e = subst (λ (u : Copy). is_found (plain_copies (generic_of p)) u ≡ true) (same_Some (FunctionOf f NoForm) c e) (function_there p.datas p.functions x f h)
asked_there p false x c e = step (data_named (map generic_data p.datas) x) refl e where
  step : (o : Option GenericDataTree) → data_named (map generic_data p.datas) x ≡ o → data_asked o NoForm ≡ Some c → is_found (plain_copies (generic_of p)) c ≡ true
  step None h e = absurd cc
  step (Some d) h e = subst (λ (u : Copy). is_found (plain_copies (generic_of p)) u ≡ true) (same_Some (DataOf d NoForm) c e) (data_there p.datas p.functions x d h)

ask_own : (p : ProgramTree) (a : Ask) → a.types ≡ NoForm → add_ask (globals_of_generic (generic_of p)) (plain_copies (generic_of p)) a ≡ Ok (plain_copies (generic_of p))
ask_own p a e =
    ap (λ (ts : Forms). add_short (plain_copies (generic_of p)) (asked (globals_of_generic (generic_of p)) a.function a.name ts) a.span (has_long ts)) e
    ∙ short_own (plain_copies (generic_of p)) (asked (globals_of_generic (generic_of p)) a.function a.name NoForm) a.span (asked_there p a.function a.name)

asks_own : (p : ProgramTree) (as' : List Ask) → Bare as' → add_asks (globals_of_generic (generic_of p)) (plain_copies (generic_of p)) as' ≡ Ok (plain_copies (generic_of p))
asks_own p [] h = refl
asks_own p (a ∷ as') h =
    ap (λ (r : Result (List Copy) Span). with_found r (λ u. add_asks (globals_of_generic (generic_of p)) u as')) (ask_own p a h.0) ∙ asks_own p as' h.1

pub past : (xs : List Copy) → slice_get xs (length xs) ≡ None
past [] = refl
past (x ∷ xs) = past xs

pub own_walk : (p : ProgramTree) → copies_of (generic_of p) ≡ Ok (plain_copies (generic_of p))
own_walk p =
    let g = globals_of_generic (generic_of p) in
    let found = plain_copies (generic_of p) in
    ap (λ (r : Result (List Copy) Span). with_found r (λ u. walk 1201 g u (length found)))
    (asks_own p (copies_asks g.rows found ++ main_asks (generic_of p))
    (bare_both (copies_asks g.rows found) (main_asks (generic_of p)) (bare_copies g.rows p.datas p.functions) (bare_function g.rows (assign [] NoForm) (p.main.parameter ∷ []) (One p.main.result) p.main.body)))
    ∙ ap (λ (o : Option Copy). walk_one g found o (λ u. walk 1200 g u (suc (length found)))) (past found)
