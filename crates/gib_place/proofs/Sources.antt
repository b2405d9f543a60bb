-- What is left of a core that is placed is what was left of it, up to the names of variables.
use Rattle.std.proofs.Common.{◌≡◌, ℕ, suc, ◌+◌, ◌<◌, List, [], ◌∷◌, map, length, refl, sym, ap, ◌∙◌, arith}
use Rattle.std.proofs.lemmas.Bool.{eqb-true}
use Rattle.gib_types.specs.declared.table.Ty.{Ty}
use Rattle.gib_types.specs.Table.{Table}
use Rattle.gib_syntax.specs.Tree.{DataTree}
use Rattle.gib_core.specs.Tree.{Term, FunctionTerm, CoreTree, Results}
use Rattle.gib_core.specs.Erasing.{erase, type_name, parameters_from, erase_function, erase_core, ident}
use Rattle.gib_core.specs.Numbering.{IsNumbered, AreNumbered}
use Rattle.std.specs.List.{AllByRecursion}
use Rattle.gib_core.specs.Met.{Body, bodies}
use Rattle.gib_core.specs.Walk.{body_of, body_of_main, with_body}
use Rattle.gib_core.proofs.Remade.{all_so, functions_of, main_so, remade_erased}
use Rattle.gib_core.specs.Counting.{count, is_once}
use Rattle.gib_place.specs.Placing.{place_body, place_bodies}
use Rattle.gib_place.specs.Renaming.{Renaming}
use Rattle.gib_place.specs.Numbering.{place_in, variables_in, number_anew, place_anew, place_core}
use Rattle.gib_place.specs.SameSource.{rename_parameter, rename_expression, IsSameFunction, AreSameFunctions, IsSameProgram}
use Rattle.gib_place.proofs.Positions.{place_tells, tells_apart}
use Rattle.gib_place.proofs.Renames.{erase_renamed}
use Rattle.gib_place.proofs.Erased.{place_leaves}
use Rattle.gib_place.proofs.Cores.{body_differs, parameters_stay}

names_stay : (r : Renaming) (tb : Table) (n : ℕ) (ps : List Ty) → ((i : ℕ) → i < length ps → r (n + i) ≡ n + i) → parameters_from tb n ps ≡ map (rename_parameter r) (parameters_from tb n ps)
names_stay r tb n [] h = refl
names_stay r tb n (p ∷ ps) h =
    let e : n + 0 ≡ n = omega arith in
    λ i. record { name = ident (sym (sym (ap r e) ∙ (h 0 (omega arith) ∙ e)) i); ty = type_name tb p }
    ∷ names_stay r tb (n + 1) ps (λ j lt. let d : n + 1 + j ≡ n + suc j = omega arith in ap r d ∙ (h (suc j) (omega arith) ∙ sym d)) i

module _ (tb : Table) (ps : List Ty) (result : Results Ty) (t : Term) (numbered : IsNumbered (record { parameters = ps; result = result; term = t })) where
  abbrev by : Renaming
  by = place_in (variables_in (length ps) (place_body t))

  body_left : erase tb [] (number_anew (length ps) (place_body t)) ≡ rename_expression by (erase tb [] t)
  body_left =
      erase_renamed by (place_tells (variables_in (length ps) (place_body t))) tb (place_body t) []
      ∙ ap (rename_expression by) (place_leaves tb (is_once t) t (λ y e. let same : count t y ≡ 1 = eqb-true (count t y) 1 e in omega arith) (λ y. let m = body_differs ps result t numbered y in omega arith) [])

  names_left : parameters_from tb 0 ps ≡ map (rename_parameter by) (parameters_from tb 0 ps)
  names_left = names_stay by tb 0 ps (λ i lt. let e : 0 + i ≡ i = omega arith in ap by e ∙ (parameters_stay ps result t numbered i lt ∙ sym e))

  body_kept : erase tb [] (place_body t) ≡ erase tb [] t
  body_kept = place_leaves tb (is_once t) t (λ y e. let same : count t y ≡ 1 = eqb-true (count t y) 1 e in omega arith) (λ y. let m = body_differs ps result t numbered y in omega arith) []

-- Before variables are numbered, what is left of a core is exactly what was left of it.
pub core_kept : (datas : List DataTree) (c : CoreTree) → AreNumbered c → erase_core datas (place_bodies c) ≡ erase_core datas c
core_kept datas c h =
    remade_erased (λ b. place_body b.term) c.offsets c.marked datas c
    (all_so IsNumbered (λ (b : Body). erase c.table [] (place_body b.term) ≡ erase c.table [] b.term) (λ b n. body_kept c.table b.parameters b.result b.term n) (bodies c) h)

function_left : (tb : Table) (f : FunctionTerm) → IsNumbered (body_of f) → IsSameFunction (erase_function tb f) (erase_function tb (with_body place_anew f))
function_left tb f h = record {
  renaming = place_in (variables_in (length f.parameters) (place_body f.body));
  apart = tells_apart (place_in (variables_in (length f.parameters) (place_body f.body))) (place_tells (variables_in (length f.parameters) (place_body f.body)));
  same = λ i. record {
    name = (erase_function tb f).name;
    parameters = names_left tb f.parameters f.result f.body h i;
    result = (erase_function tb f).result;
    body = body_left tb f.parameters f.result f.body h i;
  };
}

functions_left : (tb : Table) (fs : List FunctionTerm) → AllByRecursion (λ (f : FunctionTerm). IsNumbered (body_of f)) fs → AreSameFunctions (map (erase_function tb) fs) (map (erase_function tb) (map (with_body place_anew) fs))
functions_left tb [] h = tt
functions_left tb (f ∷ fs) h = (function_left tb f h.0, functions_left tb fs h.1)

pub core_left : (datas : List DataTree) (c : CoreTree) → AreNumbered c → IsSameProgram (erase_core datas c) (erase_core datas (place_core c))
core_left datas c h =
    let ps = c.main.parameter ∷ [] in
    let main = body_of_main c.main in
    let numbered = main_so IsNumbered main c.functions h in
    let vs = variables_in 1 (place_body c.main.body) in
    record {
      datas = refl;
      functions = functions_left c.table c.functions (functions_of IsNumbered main c.functions h);
      main = record {
        renaming = place_in vs;
        apart = tells_apart (place_in vs) (place_tells vs);
        same = λ i. record {
          parameter = record { name = ident (sym (parameters_stay ps main.result c.main.body numbered 0 (omega arith)) i); ty = type_name c.table c.main.parameter };
          result = type_name c.table c.main.result;
          body = body_left c.table ps main.result c.main.body numbered i;
        };
      };
    }
