-- The plain expressions, types and declarations of a program without type parameters.
use Rattle.std.proofs.Common.{◌≡◌, ℕ, zero, suc, ◌<◌, ◌≤◌, List, [], ◌∷◌, ◌++◌, map, length, drop, Some, slice_get, refl, sym, ap, ap₂, ◌∙◌, subst, arith, ◌⊎◌, inl, inr, ⊎_elim}
use Rattle.std.specs.List.{AllByRecursion}
use Rattle.std.proofs.lemmas.List.{append_assoc}
use Rattle.std.proofs.lemmas.Option.{slice_get_within}
use Rattle.gib_base.specs.declared.Span.{Span}
use Rattle.gib_syntax.specs.declared.exprs.Arm.{Arm}
use Rattle.gib_syntax.specs.declared.exprs.ExprId.{ExprId}
use Rattle.gib_syntax.specs.declared.exprs.Node.{Node}
use Rattle.gib_syntax.specs.declared.generic.GenericNode.{GenericNode}
use Rattle.gib_syntax.specs.declared.generic.GenericNode.TheVariants as g
use Rattle.gib_syntax.specs.declared.program.GenericConstructor.{GenericConstructor}
use Rattle.gib_syntax.specs.declared.program.GenericData.{GenericData}
use Rattle.gib_syntax.specs.declared.program.GenericFunction.{GenericFunction}
use Rattle.gib_syntax.specs.declared.program.GenericMain.{GenericMain}
use Rattle.gib_syntax.specs.declared.tree.FunctionDecl.{FunctionDecl}
use Rattle.gib_syntax.specs.declared.tree.Ident.{Ident}
use Rattle.gib_syntax.specs.declared.tree.TypeName.{TypeName}
use Rattle.gib_syntax.specs.declared.tree.TypeName.TheVariants as ty
use Rattle.gib_syntax.specs.declared.written.Word.{Word}
use Rattle.gib_syntax.specs.declared.written.Word.TheVariants as w
use Rattle.gib_syntax.specs.Arena.{PartsBelow, ArmsBelow, IsArmBelow, arguments_from, arms_from, case_from, layer, tree_of, Makes}
use Rattle.gib_syntax.specs.Declarations.{number_of}
use Rattle.gib_syntax.specs.Forms.{WrittenType, NoForm}
use Rattle.gib_syntax.specs.GenericArena.{Arena, IsArena, PartsBelow as GenericBelow, ArmsBelow as GenericArmsBelow, IsArmBelow as GenericArmBelow, arguments_from as generic_arguments, arms_from as generic_arms, case_from as generic_case, layer as generic_layer, tree_of as generic_of}
use Rattle.gib_syntax.specs.GenericParts.{AreInside as GenericInside, IsFunctionInside as GenericFunctionInside, GenericParts, constructor_in, data_in, function_in, results_in, generic_program_of, main_in}
use Rattle.gib_syntax.specs.GenericTree.{GenericExpression, GenericCase, GenericConstructorTree, GenericDataTree}
use Rattle.gib_syntax.specs.Parts.{AreInside, IsFunctionInside, Parts, data_tree, results_tree, function_tree, main_tree, program_of}
use Rattle.gib_syntax.specs.Tree.{DataTree, FunctionTree, MainTree, ProgramTree, Expression, Op, Call, Make, Let, Par, If, Case, Paren, Argument, LastArm, NextArm}
use Rattle.gib_syntax.specs.declared.written.ResultRuns.{ResultRuns}
use Rattle.gib_syntax.specs.declared.written.ResultRuns.TheVariants as result
use Rattle.gib_syntax.specs.Results.{One}
use Rattle.gib_syntax.specs.Words.{left, read_word, stack_of, type_in}
use Rattle.gib_syntax.proofs.GenericLayers.{tree_of-node}
use Rattle.gib_mono.specs.Bindings.{only_name, let_of, par_of}
use Rattle.gib_mono.specs.Bare.{AreBare, AreSingleTrees, IsOne, IsSingleNode, one_name, GivesOne, IsSingle, AreSingle, HasSingle, IsSingleFunction, IsPlainData, IsPlainFunction, IsPlainHere, IsPlainKept, IsPlainProgram, all_bare, arms_bare, bare, bare_constructor, bare_data, bare_function, bare_main, bare_node, bare_program, bare_tree, bare_written, data_names, datas_names, function_names}
use Rattle.gib_mono.specs.Copied.{Item}
use Rattle.gib_mono.specs.Declaring.{own_entry}
use Rattle.gib_mono.specs.Naming.{copy_entries, entries, entry, listed_entries, with_entries, with_entry}
use Rattle.gib_mono.specs.Walk.{Copy, plain_copies, plain_data, plain_datas, plain_function, plain_functions}
use Rattle.gib_check.proofs.Read.{places_onto}
use Rattle.gib_mono.proofs.Making.{all_inside}

-- Nodes over the same parts

-- So many expressions are plain ones of these.
abbrev Plain : (ℕ → GenericExpression) → (ℕ → Expression) → ℕ → Type 0
Plain f h b = (i : ℕ) → i < b → h i ≡ bare (f i)

arguments_bare : (f : ℕ → GenericExpression) (h : ℕ → Expression) (b : ℕ) (ids : List ExprId) → Plain f h b → AllByRecursion (λ (a : ExprId). a.0 < b) ids → arguments_from h ids ≡ all_bare (generic_arguments f ids)
arguments_bare f h b [] e l = refl
arguments_bare f h b (i ∷ ids) e l = ap₂ Argument (e i.0 l.0) (arguments_bare f h b ids e l.1)

arms_plain : (f : ℕ → GenericExpression) (h : ℕ → Expression) (b : ℕ) (arm : Arm) (arms : List Arm) → Plain f h b → arm.body.0 < b → AllByRecursion (GenericArmBelow b) arms → arms_from h arm arms ≡ arms_bare (generic_arms f arm arms)
arms_plain f h b arm [] e l k = ap (LastArm arm.constructor arm.variables.items) (e arm.body.0 l)
arms_plain f h b arm (next ∷ arms) e l k = ap₂ (NextArm arm.constructor arm.variables.items) (e arm.body.0 l) (arms_plain f h b next arms e k.0 k.1)

case_plain : (f : ℕ → GenericExpression) (h : ℕ → Expression) (b : ℕ) (arms : List Arm) (p : Span) (x : Ident) → Plain f h b → GenericArmsBelow arms b → case_from h arms (Case p x) ≡ bare (generic_case f arms (GenericCase p x))
case_plain f h b [] p x e l = absurd l
case_plain f h b (arm ∷ arms) p x e l = ap (Case p x) (arms_plain f h b arm arms e l.0 l.1)

-- a binding of one name is so in both forms
let_bare : (p : Span) (xs : List Ident) (a b : Expression) → IsOne xs → Let p (one_name xs) a b ≡ let_of p (only_name xs) [] a b
let_bare p xs a b one = subst (λ (ys : List Ident). Let p (one_name ys) a b ≡ let_of p (only_name ys) [] a b) (sym one.1) refl

-- so are two sides of one name each
par_bare : (p : Span) (xs ys : List Ident) (a b c : Expression) → IsOne xs → IsOne ys → Par p (one_name xs) a (one_name ys) b c ≡ par_of p (only_name xs) [] a (only_name ys) [] b c
par_bare p xs ys a b c one other =
    subst (λ (us : List Ident). Par p (one_name us) a (one_name ys) b c ≡ par_of p (only_name us) [] a (only_name ys) [] b c) (sym one.1)
    (subst (λ (us : List Ident). Par p one.0 a (one_name us) b c ≡ par_of p (Some one.0) [] a (only_name us) [] b c) (sym other.1) refl)

layer_bare : (f : ℕ → GenericExpression) (h : ℕ → Expression) (words : List Word) (b : ℕ) (node : GenericNode) → Plain f h b → GenericBelow node b → IsSingleNode node → layer h (Some (bare_node node)) ≡ bare (generic_layer words f (Some node))
layer_bare f h words b (g.Variable x) e l one = refl
layer_bare f h words b (g.Whole p v) e l one = refl
layer_bare f h words b (g.Truth p t) e l one = refl
layer_bare f h words b (g.Paren p a) e l one = ap (Paren p) (e a.0 l)
layer_bare f h words b (g.Operation p o a c) e l one = ap₂ (Op p o) (e a.0 l.0) (e c.0 l.1)
layer_bare f h words b (g.Call x ws ids) e l one = ap (Call x) (arguments_bare f h b ids.items e l)
layer_bare f h words b (g.Make x ws ids) e l one = ap (Make x) (arguments_bare f h b ids.items e l)
layer_bare f h words b (g.Let p xs a c) e l one = let_bare p xs (h a.0) (h c.0) one ∙ ap₂ (let_of p (only_name xs) []) (e a.0 l.0) (e c.0 l.1)
layer_bare f h words b (g.LetPar p x y d) e l one =
    par_bare p x.names y.names (h x.value.0) (h y.value.0) (h d.0) one.0 one.1
    ∙ ap (λ (u : Expression). par_of p (only_name x.names) [] u (only_name y.names) [] (h y.value.0) (h d.0)) (e x.value.0 l.0)
    ∙ ap₂ (par_of p (only_name x.names) [] (bare (f x.value.0)) (only_name y.names) []) (e y.value.0 l.1) (e d.0 l.2)
layer_bare f h words b (g.If p a c d) e l one = ap (λ (u : Expression). If p u (h c.0) (h d.0)) (e a.0 l.0) ∙ ap₂ (If p (bare (f a.0))) (e c.0 l.1) (e d.0 l.2)
layer_bare f h words b (g.Case p x arms) e l one = case_plain f h b arms.items p x e l
layer_bare f h words b (g.Tuple p xs) e l one = absurd one

arms_below : (b c : ℕ) (arms : List Arm) → b ≤ c → AllByRecursion (GenericArmBelow b) arms → AllByRecursion (IsArmBelow c) arms
arms_below b c [] le h = tt {0}
arms_below b c (arm ∷ arms) le h = ((let l = h.0 in omega (arith, l, le)), arms_below b c arms le h.1)

case_below : (b c : ℕ) (arms : List Arm) → b ≤ c → GenericArmsBelow arms b → ArmsBelow arms c
case_below b c [] le h = absurd h
case_below b c (arm ∷ arms) le h = ((let l = h.0 in omega (arith, l, le)), arms_below b c arms le h.1)

parts_below : (b c : ℕ) (node : GenericNode) → b ≤ c → GenericBelow node b → IsSingleNode node → PartsBelow (bare_node node) c
parts_below b c (g.Variable x) le h one = tt {0}
parts_below b c (g.Whole p v) le h one = h
parts_below b c (g.Truth p t) le h one = tt {0}
parts_below b c (g.Paren p a) le h one = omega (arith, h, le)
parts_below b c (g.Operation p o x y) le h one = let (l, k) = h in (omega (arith, l, le), omega (arith, k, le))
parts_below b c (g.Call x ws ids) le h one = all_inside b c ids.items le h
parts_below b c (g.Make x ws ids) le h one = all_inside b c ids.items le h
parts_below b c (g.Let p xs y z) le h one = let l = h.0 in let k = h.1 in (omega (arith, l, le), omega (arith, k, le))
parts_below b c (g.LetPar p x y e) le h one = let l = h.0 in let k = h.1 in let m = h.2 in (omega (arith, l, le), omega (arith, k, le), omega (arith, m, le))
parts_below b c (g.If p x y z) le h one = let l = h.0 in let k = h.1 in let m = h.2 in (omega (arith, l, le), omega (arith, k, le), omega (arith, m, le))
parts_below b c (g.Case p x arms) le h one = case_below b c arms.items le h
parts_below b c (g.Tuple p xs) le h one = absurd one

-- All expressions, in their order

-- Expressions before a number were put, and the nodes from there on are left.
pub record BareSoFar (a : Arena) (next : ℕ) (nodes : List Node) (left : List GenericNode) : Type 0 where
  pub are : AreBare a next nodes
  pub left_is : left ≡ drop next a.nodes

pub bare_none : (a : Arena) (nodes : List Node) (left : List GenericNode) → left ≡ a.nodes → BareSoFar a 0 nodes left
bare_none a nodes left e = record { are = record { many = omega arith; trees = λ i l. absurd (omega (arith, l)) }; left_is = e }

here : {X : Type 0} (xs : List X) (n : ℕ) (x : X) (rest : List X) → x ∷ rest ≡ drop n xs → slice_get xs n ≡ Some x
here [] zero x rest e = absurd cc
here [] (suc n) x rest e = absurd cc
here (y ∷ xs) zero x rest e = cc
here (y ∷ xs) (suc n) x rest e = here xs n x rest e

behind : {X : Type 0} (xs : List X) (n : ℕ) (x : X) (rest : List X) → x ∷ rest ≡ drop n xs → rest ≡ drop (suc n) xs
behind [] zero x rest e = absurd cc
behind [] (suc n) x rest e = absurd cc
behind (y ∷ xs) zero x rest e = cc
behind (y ∷ xs) (suc n) x rest e = behind xs n x rest e

over : {X : Type 0} (xs : List X) (n : ℕ) → [] ≡ drop n xs → length xs ≤ n
over [] n e = omega arith
over (y ∷ xs) zero e = absurd cc
over (y ∷ xs) (suc n) e = let l = over xs n e in omega (arith, l)

pub one_there : (xs : List Ident) → 1 ≤ length xs → length xs < 2 → IsOne xs
one_there [] l k = absurd (omega (arith, l))
one_there (x ∷ []) l k = (x, refl)
one_there (x ∷ y ∷ ys) l k = absurd (omega (arith, k))

node_single : (words : List Word) (f : ℕ → GenericExpression) (node : GenericNode) → IsSingle (generic_layer words f (Some node)) → IsSingleNode node
node_single words f (g.Variable x) h = tt {0}
node_single words f (g.Whole p v) h = tt {0}
node_single words f (g.Truth p t) h = tt {0}
node_single words f (g.Paren p a) h = tt {0}
node_single words f (g.Operation p o x y) h = tt {0}
node_single words f (g.Call x ws ids) h = tt {0}
node_single words f (g.Make x ws ids) h = tt {0}
node_single words f (g.Let p xs y z) h = h.0
node_single words f (g.LetPar p x y e) h = (h.0, h.1)
node_single words f (g.If p x y z) h = tt {0}
node_single words f (g.Case p x arms) h = tt {0}
node_single words f (g.Tuple p xs) h = absurd h

single_at : (a : Arena) (i : ℕ) (node : GenericNode) → IsArena a → AreSingleTrees a → slice_get a.nodes i ≡ Some node → IsSingleNode node
single_at a i node arena h e = node_single a.words (generic_of a) node (subst IsSingle (tree_of-node a i node arena e) (h i (slice_get_within a.nodes i node e)))

pub next_below : (a : Arena) (next : ℕ) (nodes : List Node) (left after : List GenericNode) (node : GenericNode) → IsArena a → AreSingleTrees a → BareSoFar a next nodes left → left ≡ node ∷ after → PartsBelow (bare_node node) (length nodes)
next_below a next nodes left after node arena single h e =
    let at = here a.nodes next node after (sym e ∙ h.left_is) in
    parts_below next (length nodes) node h.are.many (arena.below next node at) (single_at a next node arena single at)

pub next_single : (a : Arena) (next : ℕ) (nodes : List Node) (left after : List GenericNode) (node : GenericNode) → IsArena a → AreSingleTrees a → BareSoFar a next nodes left → left ≡ node ∷ after → IsSingleNode node
next_single a next nodes left after node arena single h e = single_at a next node arena single (here a.nodes next node after (sym e ∙ h.left_is))

pub bare_more : (a : Arena) (next : ℕ) (old new : List Node) (left after : List GenericNode) (node : GenericNode) → IsArena a → AreSingleTrees a → BareSoFar a next old left → left ≡ node ∷ after → Makes old new next (bare_node node) → BareSoFar a (suc next) new after
bare_more a next old new left after node arena single h e makes =
    let at = here a.nodes next node after (sym e ∙ h.left_is) in
    let made : tree_of new next ≡ bare_tree a next =
    makes.tree ∙ layer_bare (generic_of a) (tree_of old) a.words next node h.are.trees (arena.below next node at) (single_at a next node arena single at) ∙ ap bare (sym (tree_of-node a next node arena at)) in
    record {
      are = record {
        many = (let l = makes.inside in omega (arith, l));
        trees = λ i l.
            ⊎_elim (λ (b : i < next). makes.grows.same i (let m = h.are.many in omega (arith, b, m)) ∙ h.are.trees i b) (λ (s : i ≡ next). subst (λ n. tree_of new n ≡ bare_tree a n) (sym s) made) (before i next l);
      };
      left_is = behind a.nodes next node after (sym e ∙ h.left_is);
    } where
      before : (i n : ℕ) → i < suc n → (i < n) ⊎ (i ≡ n)
      before zero zero l = inr refl
      before zero (suc n) l = inl (omega arith)
      before (suc i) zero l = absurd (omega (arith, l))
      before (suc i) (suc n) l = ⊎_elim (λ (b : i < n). inl (omega (arith, b))) (λ (s : i ≡ n). inr (ap suc s)) (before i n (omega (arith, l)))

pub bare_over : (a : Arena) (next : ℕ) (nodes : List Node) (left : List GenericNode) → BareSoFar a next nodes left → length left ≡ 0 → AreBare a (length a.nodes) nodes
bare_over a next nodes left h e =
    let all : length a.nodes ≤ next = over a.nodes next (none left e ∙ h.left_is) in
    let m = h.are.many in
    record { many = omega (arith, all, m); trees = λ i l. h.are.trees i (omega (arith, all, l)) } where
      none : (xs : List GenericNode) → length xs ≡ 0 → [] ≡ xs
      none [] e = refl
      none (x ∷ xs) e = absurd cc

-- Types

bare_left : (n : ℕ) (st : List WrittenType) → drop n (map bare_written st) ≡ map bare_written (left n st)
bare_left zero st = refl
bare_left (suc n) [] = refl
bare_left (suc n) (x ∷ st) = bare_left n st

-- The name of a declared type stands in for its arguments.
pub data_bare : (word : Word) (p : Span) (x : Ident) (n : ℕ) (old mid new : List TypeName) → word ≡ w.Data p x n → mid ≡ drop n old → new ≡ ty.Declared (record { name = x.name; span = p }) ∷ mid → (types : List WrittenType) → old ≡ map bare_written types → new ≡ map bare_written (read_word word types)
data_bare word p x n old mid new e m q types h =
    q ∙ ap (λ l. ty.Declared (record { name = x.name; span = p }) ∷ l) (m ∙ ap (drop n) h ∙ bare_left n types) ∙ ap (λ z. map bare_written (read_word z types)) (sym e)

-- Some of the words were looked at, from the last one on.

pub record TypesSoFar (words rest : List Word) (names : List TypeName) : Type 0 where
  pub types : List WrittenType
  pub are : names ≡ map bare_written types
  pub whole : places_onto rest types ≡ stack_of words

onto_last : (ws : List Word) (x : Word) (st : List WrittenType) → places_onto (ws ++ x ∷ []) st ≡ places_onto ws (read_word x st)
onto_last [] x st = refl
onto_last (y ∷ ws) x st = ap (read_word y) (onto_last ws x st)

onto_none : (ws : List Word) → places_onto ws [] ≡ stack_of ws
onto_none [] = refl
onto_none (x ∷ ws) = ap (read_word x) (onto_none ws)

pub types_start : (words : List Word) (names : List TypeName) → names ≡ [] → TypesSoFar words words names
types_start words names e = record { types = []; are = e; whole = onto_none words }

pub types_next : (words rest before : List Word) (x : Word) (names more : List TypeName) → TypesSoFar words rest names → rest ≡ before ++ x ∷ [] → ((types : List WrittenType) → names ≡ map bare_written types → more ≡ map bare_written (read_word x types)) → TypesSoFar words before more
types_next words rest before x names more h e step = record {
  types = read_word x h.types;
  are = step h.types h.are;
  whole = sym (onto_last before x h.types) ∙ ap (λ ws. places_onto ws h.types) (sym e) ∙ h.whole;
}

pub types_end : (words rest : List Word) (names : List TypeName) → TypesSoFar words rest names → rest ≡ [] → names ≡ map bare_written (stack_of words)
types_end words rest names h e = h.are ∙ ap (map bare_written) (ap (λ ws. places_onto ws h.types) (sym e) ∙ h.whole)

-- Declarations without type variables

datas_plain : (words : List Word) (ds : List GenericData) → AllByRecursion IsPlainKept ds → AllByRecursion IsPlainData (map (data_in words) ds)
datas_plain words [] h = tt {0}
datas_plain words (d ∷ ds) h = (h.0, datas_plain words ds h.1)

functions_plain : (a : Arena) (fs : List GenericFunction) → AllByRecursion IsPlainHere fs → AllByRecursion IsPlainFunction (map (function_in a) fs)
functions_plain a [] h = tt {0}
functions_plain a (f ∷ fs) h = (h.0.0, functions_plain a fs h.1)

-- Expressions over single nodes are single

arguments_single : (f : ℕ → GenericExpression) (b : ℕ) (ids : List ExprId) → ((i : ℕ) → i < b → IsSingle (f i)) → AllByRecursion (λ (a : ExprId). a.0 < b) ids → AreSingle (generic_arguments f ids)
arguments_single f b [] k h = tt {0}
arguments_single f b (i ∷ ids) k h = (k i.0 h.0, arguments_single f b ids k h.1)

arms_single : (f : ℕ → GenericExpression) (b : ℕ) (arm : Arm) (arms : List Arm) → ((i : ℕ) → i < b → IsSingle (f i)) → arm.body.0 < b → AllByRecursion (GenericArmBelow b) arms → HasSingle (generic_arms f arm arms)
arms_single f b arm [] k h r = k arm.body.0 h
arms_single f b arm (next ∷ arms) k h r = (k arm.body.0 h, arms_single f b next arms k r.0 r.1)

case_single : (f : ℕ → GenericExpression) (b : ℕ) (arms : List Arm) (p : Span) (x : Ident) → ((i : ℕ) → i < b → IsSingle (f i)) → GenericArmsBelow arms b → IsSingle (generic_case f arms (GenericCase p x))
case_single f b [] p x k h = absurd h
case_single f b (arm ∷ arms) p x k h = arms_single f b arm arms k h.0 h.1

layer_single : (words : List Word) (f : ℕ → GenericExpression) (b : ℕ) (node : GenericNode) → ((i : ℕ) → i < b → IsSingle (f i)) → GenericBelow node b → IsSingleNode node → IsSingle (generic_layer words f (Some node))
layer_single words f b (g.Variable x) k h one = tt {0}
layer_single words f b (g.Whole p v) k h one = tt {0}
layer_single words f b (g.Truth p t) k h one = tt {0}
layer_single words f b (g.Paren p a) k h one = k a.0 h
layer_single words f b (g.Operation p o x y) k h one = (k x.0 h.0, k y.0 h.1)
layer_single words f b (g.Call x ws ids) k h one = arguments_single f b ids.items k h
layer_single words f b (g.Make x ws ids) k h one = arguments_single f b ids.items k h
layer_single words f b (g.Let p xs y z) k h one = (one, k y.0 h.0, k z.0 h.1)
layer_single words f b (g.LetPar p x y e) k h one = (one.0, one.1, k x.value.0 h.0, k y.value.0 h.1, k e.0 h.2)
layer_single words f b (g.If p x y z) k h one = (k x.0 h.0, k y.0 h.1, k z.0 h.2)
layer_single words f b (g.Case p x arms) k h one = case_single f b arms.items p x k h
layer_single words f b (g.Tuple p xs) k h one = absurd one

-- those before a number are
abbrev pub SingleBefore : Arena → ℕ → Type 0
SingleBefore a n = (i : ℕ) → i < n → IsSingle (generic_of a i)

pub single_none : (a : Arena) → SingleBefore a 0
single_none a i l = absurd (omega (arith, l))

pub single_next : (a : Arena) (n m : ℕ) (node : GenericNode) → SingleBefore a n → m ≡ suc n → generic_of a n ≡ generic_layer a.words (generic_of a) (Some node) → GenericBelow node n → IsSingleNode node → SingleBefore a m
single_next a n m node h s tree below one i l =
    ⊎_elim (λ (b : i < n). h i b) (λ (q : i ≡ n). subst (λ (j : ℕ). IsSingle (generic_of a j)) (sym q) (subst IsSingle (sym tree) (layer_single a.words (generic_of a) n node h below one))) (before i n (omega (arith, l, s))) where
      before : (j k : ℕ) → j < suc k → (j < k) ⊎ (j ≡ k)
      before zero zero l = inr refl
      before zero (suc k) l = inl (omega arith)
      before (suc j) zero l = absurd (omega (arith, l))
      before (suc j) (suc k) l = ⊎_elim (λ (b : j < k). inl (omega (arith, b))) (λ (q : j ≡ k). inr (ap suc q)) (before j k (omega (arith, l)))

pub single_all : (a : Arena) (n : ℕ) → SingleBefore a n → length a.nodes ≤ n → AreSingleTrees a
single_all a n h l i k = h i (omega (arith, l, k))

gives_single : (words : List Word) (r : ResultRuns) → GivesOne r → (w : WrittenType) × (results_in words r ≡ One w)
gives_single words (result.One run) h = (type_in words run, refl)
gives_single words (result.Several runs) h = absurd h

functions_single : (a : Arena) (fs : List GenericFunction) → AreSingleTrees a → AllByRecursion (GenericFunctionInside a) fs → AllByRecursion IsPlainHere fs → AllByRecursion IsSingleFunction (map (function_in a) fs)
functions_single a [] single inside h = tt {0}
functions_single a (f ∷ fs) single inside h =
    ((gives_single a.words f.result h.0.1, single f.body.0 inside.0.2), functions_single a fs single inside.1 h.1)

-- a function of one thing whose type variables are none is so where it is kept
one_given : (words : List Word) (r : ResultRuns) (t : WrittenType) → results_in words r ≡ One t → GivesOne r
one_given words (result.One run) t e = tt {0}
one_given words (result.Several runs) t e = absurd cc

pub functions_here : (a : Arena) (fs : List GenericFunction) → AllByRecursion IsPlainFunction (map (function_in a) fs) → AllByRecursion IsSingleFunction (map (function_in a) fs) → AllByRecursion IsPlainHere fs
functions_here a [] h s = tt {0}
functions_here a (f ∷ fs) h s = ((h.0, one_given a.words f.result s.0.0.0 s.0.0.1), functions_here a fs h.1 s.1)

pub program_plain : (p : GenericParts) → GenericInside p → AllByRecursion IsPlainKept p.datas → AllByRecursion IsPlainHere p.functions → AreSingleTrees p.exprs → IsPlainProgram (generic_program_of p)
program_plain p inside h k single = record {
  datas = datas_plain p.exprs.words p.datas h;
  functions = functions_plain p.exprs p.functions k;
  singles = functions_single p.exprs p.functions single inside.functions k;
  main = single p.main.body.0 inside.main;
}

-- Each copied type has a constructor

have_some : (d : _) → Rattle.gib_syntax.specs.GenericFine.HasGenericConstructor d → Rattle.gib_syntax.specs.Fine.HasConstructor (bare_data d)
have_some d h e = by d.constructors h e where
  by : (cs : List GenericConstructorTree) → (cs ≡ [] → ⊥) → map bare_constructor cs ≡ [] → ⊥
  by [] k f = k refl
  by (c ∷ cs) k f = cc

pub have_constructors : (ds : List GenericDataTree) → AllByRecursion Rattle.gib_syntax.specs.GenericFine.HasGenericConstructor ds → AllByRecursion Rattle.gib_syntax.specs.Fine.HasConstructor (map bare_data ds)
have_constructors [] h = tt {0}
have_constructors (d ∷ ds) h = (have_some d h.0, have_constructors ds h.1)

-- A whole program

functions_there : (a : Arena) (nodes : List Node) (fs : List FunctionDecl) → AreBare a (length a.nodes) nodes → AllByRecursion (IsFunctionInside (length a.nodes)) fs → map (function_tree (tree_of nodes)) fs ≡ map (function_tree (bare_tree a)) fs
functions_there a nodes [] h k = refl
functions_there a nodes (f ∷ fs) h k =
    ap₂ (λ (x : FunctionTree) (l : List FunctionTree). x ∷ l) (ap (λ (b : Expression). let t : FunctionTree = record { name = f.name; parameters = f.parameters.items; result = results_tree f.result; body = b } in t) (h.trees f.body.0 k.0)) (functions_there a nodes fs h k.1)

functions_inside : (a : Arena) (nodes : List Node) (fs : List FunctionDecl) → AreBare a (length a.nodes) nodes → AllByRecursion (IsFunctionInside (length a.nodes)) fs → AllByRecursion (IsFunctionInside (length nodes)) fs
functions_inside a nodes [] h k = tt {0}
functions_inside a nodes (f ∷ fs) h k = ((let l = k.0 in let m = h.many in omega (arith, l, m)), functions_inside a nodes fs h k.1)

-- The parts of the plain program, by what was made of each.
pub record Bares (p : GenericParts) (made : Parts) : Type 0 where
  pub exprs : AreBare p.exprs (length p.exprs.nodes) made.exprs
  pub datas : map data_tree made.data_decls ≡ map bare_data (map (data_in p.exprs.words) p.datas)
  pub functions : map (function_tree (bare_tree p.exprs)) made.functions ≡ map bare_function (map (function_in p.exprs) p.functions)
  pub inside : AllByRecursion (IsFunctionInside (length p.exprs.nodes)) made.functions
  pub main : main_tree (bare_tree p.exprs) made.main ≡ bare_main (main_in p.exprs p.main)
  pub body : made.main.body ≡ p.main.body

-- So they are, where each was made of what the program tells of it.
pub bares_of : (p : GenericParts) (made : Parts) (a b c d : Arena) (ds : List GenericData) (fs : List GenericFunction) (m : GenericMain) → a ≡ p.exprs → b ≡ p.exprs → c ≡ p.exprs → d ≡ p.exprs → ds ≡ p.datas → fs ≡ p.functions → m ≡ p.main
    → AreBare d (length d.nodes) made.exprs → map data_tree made.data_decls ≡ map bare_data (map (data_in a.words) ds) → map (function_tree (bare_tree b)) made.functions ≡ map bare_function (map (function_in b) fs) → AllByRecursion (IsFunctionInside (length b.nodes)) made.functions
    → main_tree (bare_tree c) made.main ≡ bare_main (main_in c m) → made.main.body ≡ m.body → Bares p made
bares_of p made a b c d ds fs m ea eb ec ed eds efs em exprs datas functions inside main body = record {
  exprs = subst (λ (z : Arena). AreBare z (length z.nodes) made.exprs) ed exprs;
  datas = datas ∙ ap₂ (λ (z : Arena) (l : List GenericData). map bare_data (map (data_in z.words) l)) ea eds;
  functions = subst (λ (z : Arena). map (function_tree (bare_tree z)) made.functions ≡ map bare_function (map (function_in z) p.functions)) eb (functions ∙ ap (λ (l : List GenericFunction). map bare_function (map (function_in b) l)) efs);
  inside = subst (λ (z : Arena). AllByRecursion (IsFunctionInside (length z.nodes)) made.functions) eb inside;
  main = subst (λ (z : Arena). main_tree (bare_tree z) made.main ≡ bare_main (main_in z p.main)) ec (main ∙ ap (λ (f : GenericMain). bare_main (main_in c f)) em);
  body = body ∙ ap (λ (f : GenericMain). f.body) em;
}

main_below : (p : GenericParts) (made : Parts) → GenericInside p → Bares p made → made.main.body.0 < length p.exprs.nodes
main_below p made inside h = subst (λ (i : ExprId). i.0 < length p.exprs.nodes) (sym h.body) inside.main

pub parts_inside : (p : GenericParts) (made : Parts) → GenericInside p → Bares p made → AreInside made
parts_inside p made inside h = record {
  functions = functions_inside p.exprs made.exprs made.functions h.exprs h.inside;
  main = (let l = main_below p made inside h in let m = h.exprs.many in omega (arith, l, m));
  constructors = subst (AllByRecursion Rattle.gib_syntax.specs.Fine.HasConstructor) (sym h.datas) (have_constructors (map (data_in p.exprs.words) p.datas) inside.constructors);
}

pub whole_bare : (p : GenericParts) (made : Parts) → GenericInside p → Bares p made → program_of made ≡ bare_program (generic_program_of p)
whole_bare p made inside h =
    ap (λ (a : List DataTree). let t : ProgramTree = record { datas = a; functions = map (function_tree (tree_of made.exprs)) made.functions; main = main_tree (tree_of made.exprs) made.main } in t) h.datas
    ∙ ap₂ (λ (b : List FunctionTree) (c : MainTree). let t : ProgramTree = record { datas = map bare_data (map (data_in p.exprs.words) p.datas); functions = b; main = c } in t)
    (functions_there p.exprs made.exprs made.functions h.exprs h.inside ∙ h.functions)
    (ap (λ (b : Expression). let t : MainTree = record { parameter = made.main.parameter; result = made.main.result; body = b } in t) (h.exprs.trees made.main.body.0 (main_below p made inside h)) ∙ h.main)

-- The names of its copies

listed_more : (as' bs : List Copy) → listed_entries (as' ++ bs) ≡ listed_entries as' ++ listed_entries bs
listed_more [] bs = refl
listed_more (c ∷ as') bs = ap (λ l. copy_entries c ++ l) (listed_more as' bs) ∙ sym (append_assoc (copy_entries c) (listed_entries as') (listed_entries bs))

constructor_names : (words : List Word) (cs : List GenericConstructor) → map (λ (k : GenericConstructorTree). entry (number_of k.name) NoForm) (map (constructor_in words) cs) ≡ map (own_entry NoForm) cs
constructor_names words [] = refl
constructor_names words (c ∷ cs) = ap (λ l. entry (number_of c.name) NoForm ∷ l) (constructor_names words cs)

datas_listed : (words : List Word) (ds : List GenericData) → AllByRecursion IsPlainData (map (data_in words) ds) → listed_entries (plain_datas (map (data_in words) ds)) ≡ datas_names ds
datas_listed words [] h = refl
datas_listed words (d ∷ ds) h =
    subst (λ (vs : List Ident). listed_entries (plain_data (data_in words d) vs (plain_datas (map (data_in words) ds))) ≡ datas_names (d ∷ ds)) (sym h.0)
    (ap₂ (λ (ks rest : List Item). entry (number_of d.name) NoForm ∷ (ks ++ rest)) (constructor_names words d.constructors.items) (datas_listed words ds h.1))

functions_listed : (a : Arena) (fs : List GenericFunction) → AllByRecursion IsPlainFunction (map (function_in a) fs) → listed_entries (plain_functions (map (function_in a) fs)) ≡ function_names fs
functions_listed a [] h = refl
functions_listed a (f ∷ fs) h =
    subst (λ (vs : List Ident). listed_entries (plain_function (function_in a f) vs (plain_functions (map (function_in a) fs))) ≡ function_names (f ∷ fs)) (sym h.0)
    (ap (λ (l : List Item). entry (number_of f.name) NoForm ∷ l) (functions_listed a fs h.1))

pub with_more : (items xs ys : List Item) → with_entries items (xs ++ ys) ≡ with_entries (with_entries items xs) ys
with_more items [] ys = refl
with_more items (x ∷ xs) ys = with_more (with_entry items x) xs ys

pub datas_next : (now new whole : List Item) (rest after : List GenericData) (d : GenericData) → rest ≡ d ∷ after → with_entries now (datas_names rest) ≡ whole → new ≡ with_entries now (data_names d) → with_entries new (datas_names after) ≡ whole
datas_next now new whole rest after d e h k =
    ap (λ (l : List Item). with_entries l (datas_names after)) k ∙ sym (with_more now (data_names d) (datas_names after)) ∙ ap (λ (l : List GenericData). with_entries now (datas_names l)) (sym e) ∙ h

pub names_plain : (p : GenericParts) → IsPlainProgram (generic_program_of p) → with_entries (with_entries [] (datas_names p.datas)) (function_names p.functions) ≡ entries (plain_copies (generic_program_of p))
names_plain p h =
    sym (with_more [] (datas_names p.datas) (function_names p.functions))
    ∙ ap (with_entries []) (sym (listed_more (plain_datas (generic_program_of p).datas) (plain_functions (generic_program_of p).functions) ∙ ap₂ (λ (a b : List Item). a ++ b) (datas_listed p.exprs.words p.datas h.datas) (functions_listed p.exprs p.functions h.functions)))
