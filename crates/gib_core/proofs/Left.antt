-- What is left of an ordered core means what the core means: its calls and main.
use Rattle.std.proofs.Common.{◌≡◌, ℕ, zero, suc, ◌+◌, Bool, true, false, ◌==◌, if◌then◌else◌, List, [], ◌∷◌, ◌++◌, map, length, Some, refl, ap, ◌∙◌, arith}
use Rattle.std.specs.List.{AllByRecursion}
use Rattle.gib_types.specs.declared.table.Ty.{Ty}
use Rattle.gib_types.specs.Table.{Table}
use Rattle.gib_types.specs.Tree.{Datum}
use Rattle.gib_syntax.specs.Results as results
use Rattle.gib_syntax.specs.Tree.{DataTree}
use Rattle.gib_syntax.specs.Declarations.{function_named, table_of_program}
use Rattle.gib_syntax.specs.Meaning.{bind, eval, names_of, of_function as of_source, calls, run}
use Rattle.gib_core.specs.declared.atom.Variable.{Variable}
use Rattle.gib_core.specs.Tree.{Term, FunctionTerm, CoreTree, variables_from}
use Rattle.gib_core.specs.Meaning as core
use Rattle.gib_core.specs.Meaning.{Calls, mean, function_at, of_function, core_calls, core_run}
use Rattle.gib_core.specs.Met.{Body}
use Rattle.gib_core.specs.Erasing.{ident, erase, parameters_from, erase_function, erase_core}
use Rattle.gib_core.specs.Ordered.{IsOrdered, AreOrdered}
use Rattle.gib_core.proofs.Erases.{Relates, relates_more, relates_fields, fields_ordered, fields_behind, erases}

nothing_relates : Relates 0 [] [] []
nothing_relates = record { values = λ x. refl; fresh = λ x le. refl; kept = λ x le. refl; below = λ x lt. absurd (omega arith) }

names_left : (table : Table) (n : ℕ) (types : List Ty) → names_of (parameters_from table n types) ≡ map (λ (x : Variable). ident x.0) (variables_from n types)
names_left table n [] = refl
names_left table n (t ∷ types) = ap (λ l. ident n ∷ l) (names_left table (n + 1) types)

body_left : (tb : Table) (call : Calls) (types : List Ty) (t : Term) (vs : List Datum) → IsOrdered tb (length types) t
    → eval tb call (erase tb [] t) (bind (names_of (parameters_from tb 0 types)) vs []) ≡ mean tb call t (core.bind (variables_from 0 types) vs [])
body_left tb call types t vs h =
    let xs = variables_from 0 types in
    let relates = relates_fields xs vs (fields_ordered 0 types) nothing_relates in
    let few = fields_behind 0 types in
    ap (λ ys. eval tb call (erase tb [] t) (bind ys vs [])) (names_left tb 0 types) ∙ erases tb call t h (relates_more (omega (arith, few)) relates)

functions_left : (tb : Table) (call : Calls) (fs : List FunctionTerm) (others : List Body) (f : ℕ) (vs : List Datum)
    → AllByRecursion (λ (b : Body). IsOrdered tb (length b.parameters) b.term) (map (λ (g : FunctionTerm). record { parameters = g.parameters; result = g.result; term = g.body }) fs ++ others)
    → of_source (function_named (map (erase_function tb) fs) f) (λ k. eval tb call k.body (bind (names_of k.parameters) vs [])) ≡ of_function (function_at fs f) (λ g. mean tb call g.body (core.bind (variables_from 0 g.parameters) vs []))
functions_left tb call [] others f vs h = refl
functions_left tb call (g ∷ fs) others f vs h = step (g.name.0 == f) (functions_left tb call fs others f vs h.1)
  where
    step : (b : Bool)
        → of_source (function_named (map (erase_function tb) fs) f) (λ k. eval tb call k.body (bind (names_of k.parameters) vs [])) ≡ of_function (function_at fs f) (λ k. mean tb call k.body (core.bind (variables_from 0 k.parameters) vs []))
        → of_source (if b then Some (erase_function tb g) else function_named (map (erase_function tb) fs) f) (λ k. eval tb call k.body (bind (names_of k.parameters) vs []))
        ≡ of_function (if b then Some g else function_at fs f) (λ k. mean tb call k.body (core.bind (variables_from 0 k.parameters) vs []))
    step true more = body_left tb call g.parameters g.body vs h.0
    step false more = more

pub calls_left : (datas : List DataTree) (c : CoreTree) → table_of_program (erase_core datas c) ≡ c.table → AreOrdered c → (n : ℕ) → calls (erase_core datas c) n ≡ core_calls c n
calls_left datas c e h zero = refl
calls_left datas c e h (suc n) = λ i f vs. (
    ap (λ k. of_source (function_named (erase_core datas c).functions f) (λ g. eval (table_of_program (erase_core datas c)) k g.body (bind (names_of g.parameters) vs []))) (calls_left datas c e h n)
    ∙ ap (λ tb. of_source (function_named (erase_core datas c).functions f) (λ g. eval tb (core_calls c n) g.body (bind (names_of g.parameters) vs []))) e
    ∙ functions_left c.table (core_calls c n) c.functions (record { parameters = c.main.parameter ∷ []; result = results.One c.main.result; term = c.main.body } ∷ []) f vs h) i

main_ordered : (tb : Table) (fs : List FunctionTerm) (b : Body)
    → AllByRecursion (λ (b : Body). IsOrdered tb (length b.parameters) b.term) (map (λ (g : FunctionTerm). record { parameters = g.parameters; result = g.result; term = g.body }) fs ++ b ∷ []) → IsOrdered tb (length b.parameters) b.term
main_ordered tb [] b h = h.0
main_ordered tb (g ∷ fs) b h = main_ordered tb fs b h.1

pub run_left : (datas : List DataTree) (c : CoreTree) → table_of_program (erase_core datas c) ≡ c.table → AreOrdered c → (depth : ℕ) (v : Datum) → run (erase_core datas c) depth v ≡ core_run c depth v
run_left datas c e h depth v =
    let main : Body = record { parameters = c.main.parameter ∷ []; result = results.One c.main.result; term = c.main.body } in
    ap (λ k. eval (table_of_program (erase_core datas c)) k (erase c.table [] c.main.body) ((0, v) ∷ [])) (calls_left datas c e h depth)
    ∙ ap (λ tb. eval tb (core_calls c depth) (erase c.table [] c.main.body) ((0, v) ∷ [])) e
    ∙ body_left c.table (core_calls c depth) (c.main.parameter ∷ []) c.main.body (v ∷ []) (main_ordered c.table c.functions main h)
