-- Bodies, functions and whole programs.
use Rattle.std.proofs.Common.{false, ◌≡◌, ℕ, zero, suc, ◌+◌, ◌<◌, ◌≤◌, List, [], ◌∷◌, ◌++◌, length, map, drop, Some, refl, sym, ap, ◌∙◌, subst, arith, append_assoc}
use Rattle.std.specs.Prelude.{slice_get}
use Rattle.std.specs.List.{AllByRecursion}
use Rattle.std.proofs.lemmas.List.{map-append, append-nil}
use Rattle.std.proofs.lemmas.Option.{same_Some}
use Rattle.gib_types.specs.declared.table.Ty.{Ty}
use Rattle.gib_syntax.specs.declared.exprs.Node.{Node as Expr}
use Rattle.gib_syntax.specs.declared.tree.Ident.{Ident}
use Rattle.gib_syntax.specs.declared.tree.FunctionDecl.{FunctionDecl}
use Rattle.gib_syntax.specs.Tree.{FunctionTree}
use Rattle.gib_syntax.specs.Arena.{tree_of}
use Rattle.gib_syntax.specs.Parts.{Parts, program_of, function_tree}
use Rattle.gib_syntax.specs.Meaning.{names_of}
use Rattle.gib_syntax.specs.Typing.{parameter_types, result_types}
use Rattle.gib_core.specs.declared.atom.Variable.{Variable}
use Rattle.gib_core.specs.declared.node.TermId.{TermId}
use Rattle.gib_core.specs.declared.node.Node.{Node}
use Rattle.gib_core.specs.declared.program.CoreFunction.{CoreFunction}
use Rattle.gib_core.specs.Arena.{Grows, term_of}
use Rattle.gib_types.specs.declared.table.ConId.{ConId}
use Rattle.gib_types.specs.Table.{Table}
use Rattle.gib_syntax.specs.Declarations.{table_of_program}
use Rattle.gib_core.specs.declared.program.CoreMain.{CoreMain}
use Rattle.gib_core.specs.Parts.{Parts as CoreParts, IsFunctionInside, function_term, results_of, core_of}
use Rattle.gib_core.specs.Inferring.{infer_body, infer_function, infer_program, with_fields}
use Rattle.gib_infer.specs.declared.work.Work.{Work}
use Rattle.gib_infer.specs.Made.{scope_of, globals_in, code_at, BindsFields, MakesLine}
use Rattle.gib_infer.specs.Bodies.{MakesBody, MakesFunction, MakesFunctions, MakesMain}
use Rattle.gib_core.proofs.Fronting.{grows_more, grows_none}
use Rattle.gib_core.proofs.Inside.{functions_more, functions_stay}

pub body_made : (parts : Parts) (exprs : List Expr) (names : List Ident) (types : List Ty) (id : ℕ) (w0 w1 w2 w3 : Work) (xs : List Variable) (t : TermId) (of : Ty) → exprs ≡ parts.exprs → w1.terms ≡ w0.terms → w1.scope.items ≡ [] → w1.fresh ≡ 0 → BindsFields w1 w2 names types xs → MakesLine w2 w3 t of ((code_at parts exprs id).line (scope_of w2.scope.items) w2.fresh) → MakesBody w0 w3 t (infer_body (globals_in parts) names types (tree_of parts.exprs id))
body_made parts exprs names types id w0 w1 w2 w3 xs t of ee et es ef hb h =
    let count : w2.fresh ≡ length names = (let q = hb.fresh in omega (arith, q, ef)) in
    let scope : scope_of w2.scope.items ≡ with_fields names types 0 [] = hb.scope ∙ (λ i. with_fields names types (ef i) (scope_of (es i))) in
    record {
      grows = subst (λ (z : List Node). Grows z w3.terms) (hb.terms ∙ et) h.keeps.grows;
      inside = h.inside;
      is = h.term ∙ (λ i. ((code_at parts (ee i) id).line (scope i) (count i)).term);
    }

pub function_made : (parts : Parts) (d : FunctionDecl) (f : FunctionTree) (id : ℕ) (names : List Ident) (types : List Ty) (w0 w1 : Work) (made : CoreFunction) → slice_get (program_of parts).functions id ≡ Some (function_tree (tree_of parts.exprs) d) → slice_get (program_of parts).functions id ≡ Some f → names ≡ names_of d.parameters.items → types ≡ parameter_types (globals_in parts).table f → MakesBody w0 w1 made.body (infer_body (globals_in parts) names types (tree_of parts.exprs d.body.0)) → made.name ≡ d.name.name → made.parameters.items ≡ types → results_of made.result ≡ result_types (globals_in parts).table f → MakesFunction w0 w1 made (infer_function (globals_in parts) f)
function_made parts d f id names types w0 w1 made e1 e2 en et h enm ep er =
    let ef : function_tree (tree_of parts.exprs) d ≡ f = same_Some (function_tree (tree_of parts.exprs) d) f (sym e1 ∙ e2) in
    let body : infer_body (globals_in parts) names types (tree_of parts.exprs d.body.0) ≡ infer_body (globals_in parts) (names_of f.parameters) (parameter_types (globals_in parts).table f) f.body =
    (λ i. infer_body (globals_in parts) ((en ∙ ap (λ (z : FunctionTree). names_of z.parameters) ef) i) (et i) (ef i).body) in
    record {
      grows = h.grows;
      inside = h.inside;
      is = (λ i. record { name = (enm ∙ ap (λ (z : FunctionTree). z.name.name) ef) i; parameters = (ep ∙ et) i; result = er i; body = (h.is ∙ body) i });
    }

-- What a function gives is what its declaration says.
pub result_same : (parts : Parts) (d : FunctionDecl) (f : FunctionTree) (id : ℕ) → slice_get (program_of parts).functions id ≡ Some (function_tree (tree_of parts.exprs) d) → slice_get (program_of parts).functions id ≡ Some f
    → result_types (globals_in parts).table (function_tree (tree_of parts.exprs) d) ≡ result_types (globals_in parts).table f
result_same parts d f id e1 e2 = ap (result_types (globals_in parts).table) (same_Some (function_tree (tree_of parts.exprs) d) f (sym e1 ∙ e2))

-- Some functions are made; with the rest they are all.
pub record FunctionsSoFar (parts : Parts) (old new : Work) (made : List CoreFunction) (next : ℕ) : Type 0 where
  pub grows : Grows old.terms new.terms
  pub inside : AllByRecursion (IsFunctionInside (length new.terms)) made
  pub are : map (function_term (term_of new.terms)) made ++ map (infer_function (globals_in parts)) (drop next (program_of parts).functions) ≡ map (infer_function (globals_in parts)) (program_of parts).functions

pub functions_start : (parts : Parts) (old : Work) → FunctionsSoFar parts old old [] 0
functions_start parts old = record { grows = grows_none old.terms; inside = tt; are = refl }

pub there : (fs : List FunctionTree) (n : ℕ) → n < length fs → (f : FunctionTree) × (slice_get fs n ≡ Some f)
there [] n lt = absurd (omega (arith, lt))
there (f ∷ fs) zero lt = (f, refl)
there (f ∷ fs) (suc n) lt = there fs n (omega (arith, lt))

drop-at : (fs : List FunctionTree) (n : ℕ) (f : FunctionTree) → slice_get fs n ≡ Some f → drop n fs ≡ f ∷ drop (n + 1) fs
drop-at [] n f e = absurd cc
drop-at (x ∷ fs) zero f e = (λ i. same_Some x f e i ∷ fs)
drop-at (x ∷ fs) (suc n) f e = drop-at fs n f e ∙ ap (λ k. f ∷ drop k (x ∷ fs)) (let q : suc (n + 1) ≡ suc n + 1 = omega arith in q)

inside_push : (n : ℕ) (made : List CoreFunction) (x : CoreFunction) → AllByRecursion (IsFunctionInside n) made → x.body.0 < n → AllByRecursion (IsFunctionInside n) (made ++ x ∷ [])
inside_push n [] x h lt = (lt, tt)
inside_push n (y ∷ made) x h lt = (h.0, inside_push n made x h.1 lt)

pub functions_next : (parts : Parts) (old now newer : Work) (made more : List CoreFunction) (x : CoreFunction) (next : ℕ) → next < length (program_of parts).functions → FunctionsSoFar parts old now made next → ((f : FunctionTree) → slice_get (program_of parts).functions next ≡ Some f → MakesFunction now newer x (infer_function (globals_in parts) f)) → more ≡ made ++ x ∷ [] → FunctionsSoFar parts old newer more (next + 1)
functions_next parts old now newer made more x next lt h step em =
    let fs = (program_of parts).functions in
    let found = there fs next lt in
    let k = step found.0 found.1 in
    let g = globals_in parts in
    let f = term_of newer.terms in
    record {
      grows = grows_more old.terms now.terms newer.terms h.grows k.grows;
      inside = rw em (inside_push (length newer.terms) made x (functions_more (length now.terms) (length newer.terms) made k.grows.longer h.inside) k.inside);
      are =
          (λ i. (ap (map (function_term f)) em ∙ map-append (function_term f) made (x ∷ [])) i ++ map (infer_function g) (drop (next + 1) fs))
          ∙ (λ i. (functions_stay (term_of newer.terms) (term_of now.terms) (length now.terms) made h.inside k.grows.same i ++ k.is i ∷ []) ++ map (infer_function g) (drop (next + 1) fs))
          ∙ append_assoc (map (function_term (term_of now.terms)) made) (infer_function g found.0 ∷ []) (map (infer_function g) (drop (next + 1) fs))
          ∙ ap (λ z. map (function_term (term_of now.terms)) made ++ map (infer_function g) z) (sym (drop-at fs next found.0 found.1))
          ∙ h.are;
    }

drop-past : (fs : List FunctionTree) (n : ℕ) → length fs ≤ n → drop n fs ≡ []
drop-past [] zero le = refl
drop-past [] (suc n) le = refl
drop-past (x ∷ fs) zero le = absurd (omega (arith, le))
drop-past (x ∷ fs) (suc n) le = drop-past fs n (omega (arith, le))

pub functions_end : (parts : Parts) (old new : Work) (made : List CoreFunction) (next : ℕ) → length (program_of parts).functions ≤ next → FunctionsSoFar parts old new made next → MakesFunctions old new made (map (infer_function (globals_in parts)) (program_of parts).functions)
functions_end parts old new made next le h = record {
  grows = h.grows;
  inside = h.inside;
  are = sym (append-nil (map (function_term (term_of new.terms)) made)) ∙ ap (λ z. map (function_term (term_of new.terms)) made ++ map (infer_function (globals_in parts)) z) (sym (drop-past (program_of parts).functions next le)) ∙ h.are;
}

-- The core of these parts.
pub core_made : (parts : Parts) (w0 w1 w2 : Work) (table : Table) (fs : List CoreFunction) (main : CoreMain) (offsets : List ConId) (core : CoreParts) → table ≡ table_of_program (program_of parts) → MakesFunctions w0 w1 fs (map (infer_function (globals_in parts)) (program_of parts).functions) → MakesMain w1 w2 main (infer_program (program_of parts)).main → offsets ≡ [] → core ≡ record { table = table; terms = w2.terms; functions = fs; main = main; offsets = offsets; marked = false } → core_of core ≡ infer_program (program_of parts)
core_made parts w0 w1 w2 table fs main offsets core et hf hm eo e =
    ap core_of e
    ∙ (λ i. record { table = et i; functions = (functions_stay (term_of w2.terms) (term_of w1.terms) (length w1.terms) fs hf.inside hm.grows.same ∙ hf.are) i; main = hm.is i; offsets = eo i; marked = false })
