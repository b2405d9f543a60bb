-- The declarations of a text, by their names.
use Rattle.std.proofs.Common.{◌≡◌, ℕ, ◌+◌, ◌≤◌, Bool, true, false, cond, eqb, List, [], ◌∷◌, ◌++◌, map, length, Option, Some, None, Ok, Err, refl, sym, ap, ap₂, ◌∙◌, subst, arith}
use Rattle.std.proofs.lemmas.List.{length-append}
use Rattle.std.specs.Prelude.{is_some}
use Rattle.std.specs.List.{AllByRecursion}
use Rattle.gib_syntax.specs.declared.tree.Ident.{Ident}
use Rattle.gib_syntax.specs.declared.tree.TypeName.{TypeName}
use Rattle.gib_syntax.specs.declared.tree.TypeName.TheVariants as ty
use Rattle.gib_syntax.specs.declared.tree.Parameter.{Parameter}
use Rattle.gib_syntax.specs.declared.tree.DataDecl.{DataDecl}
use Rattle.gib_syntax.specs.Parts.{data_tree}
use Rattle.gib_syntax.specs.Declarations.{number_of, place_of, next_place}
use Rattle.gib_syntax.specs.Forms.{WrittenType}
use Rattle.gib_syntax.specs.GenericTree.{GenericDataTree, data_named}
use Rattle.gib_syntax.specs.Results as results
use Rattle.gib_syntax.specs.Results.{Results}
use Rattle.gib_syntax.specs.Plain.{written_of, generic_of, generic_data, generic_parameter, generic_function}
use Rattle.gib_check.specs.declared.fault.TypeFault.{TypeFault}
use Rattle.gib_check.specs.declared.fault.Kind.TheVariants as kind
use Rattle.gib_check.specs.Answers.{IsFaultOf}
use Rattle.gib_check.specs.Faults.{Checked, and_then, allowed, found, as_many}
use Rattle.gib_check.specs.Faults as generic
use Rattle.gib_check.specs.FirstFault.{new_name, fewer, check_datas, check_fields, check_parameters, check_head, check_heads, check_declarations}
use Rattle.gib_check.specs.Views.{tree_number}
use Rattle.gib_check.proofs.Loops.{passed_on, along}
use Rattle.gib_check.proofs.Steps.{Holds, holds_ok, then_holds}
use Rattle.gib_check.proofs.DataRules.{fewer_holds}
use Rattle.gib_local_parse.specs.declared.text.FunctionLines.{FunctionLines}
use Rattle.gib_local_parse.specs.declared.text.MainLines.{MainLines}
use Rattle.gib_local_parse.specs.LineArena.{tree_of}
use Rattle.gib_local_parse.specs.TextParts.{TextParts, text_of, function_text}
use Rattle.gib_local.specs.Building.{declared, head}
use Rattle.gib_local.specs.Knowing.{datas_of, declared_of, HasFew}
use Rattle.gib_local.specs.Naming.{known}

-- Where a name is a declared type's, this one has no variables.
type_found : (b : Bool) (d : DataDecl) (x : Ident) (o : Option ℕ) (p : Option GenericDataTree) → and_then (found p kind.Unknown x.span) (λ e. and_then (as_many 0 (length e.variables) x) (λ _. Ok (tt {0}))) ≡ allowed (is_some o) kind.Unknown x.span (tt {0}) → and_then (found (cond b (Some (generic_data (data_tree d))) p) kind.Unknown x.span) (λ e. and_then (as_many 0 (length e.variables) x) (λ _. Ok (tt {0}))) ≡ allowed (is_some (cond b (Some 0) (next_place o))) kind.Unknown x.span (tt {0})
type_found true d x o p h = refl
type_found false d x None p h = h
type_found false d x (Some n) p h = h

name_known : (ds : List DataDecl) (x : Ident) → and_then (found (data_named (map generic_data (map data_tree ds)) (number_of x)) kind.Unknown x.span) (λ e. and_then (as_many 0 (length e.variables) x) (λ _. Ok (tt {0}))) ≡ allowed (is_some (place_of (map tree_number (map data_tree ds)) (number_of x))) kind.Unknown x.span (tt {0})
name_known [] x = refl
name_known (d ∷ ds) x =
    type_found (eqb (number_of d.name) (number_of x)) d x (place_of (map tree_number (map data_tree ds)) (number_of x)) (data_named (map generic_data (map data_tree ds)) (number_of x)) (name_known ds x)

-- A type of a program without type parameters is declared where its name is.
pub written_known : (ds : List DataDecl) (w : TypeName) → generic.known (map generic_data (map data_tree ds)) [] (written_of w) ≡ known (map tree_number (map data_tree ds)) w
written_known ds (ty.Whole p) = refl
written_known ds (ty.Truth p) = refl
written_known ds (ty.Declared x) = name_known ds x

-- A type as the code finds it.
pub type_there : (inner parts : TextParts) (types : List ℕ) (w : TypeName) (x : Ident) (o : Option ℕ) (i : ℕ) → inner ≡ parts → types ≡ (declared_of inner).table.types → w ≡ ty.Declared x → o ≡ place_of types (number_of x) → o ≡ Some i → generic.known (datas_of parts) [] (written_of w) ≡ Ok (tt {0})
type_there inner parts types w x o i same et ew eo e =
    subst (λ (z : TextParts). generic.known (datas_of z) [] (written_of w) ≡ Ok (tt {0})) same
    (written_known inner.datas w ∙ ap (known (map tree_number (map data_tree inner.datas))) ew ∙ ap (λ p. allowed (is_some p) kind.Unknown x.span (tt {0})) (ap (λ l. place_of l (number_of x)) (sym et) ∙ sym eo ∙ e))

pub type_missing : (inner parts : TextParts) (types : List ℕ) (w : TypeName) (x : Ident) (o : Option ℕ) → inner ≡ parts → types ≡ (declared_of inner).table.types → w ≡ ty.Declared x → o ≡ place_of types (number_of x) → o ≡ None → generic.known (datas_of parts) [] (written_of w) ≡ Err (record { kind = kind.Unknown; span = x.span })
type_missing inner parts types w x o same et ew eo e =
    subst (λ (z : TextParts). generic.known (datas_of z) [] (written_of w) ≡ Err (record { kind = kind.Unknown; span = x.span })) same
    (written_known inner.datas w ∙ ap (known (map tree_number (map data_tree inner.datas))) ew ∙ ap (λ p. allowed (is_some p) kind.Unknown x.span (tt {0})) (ap (λ l. place_of l (number_of x)) (sym et) ∙ sym eo ∙ e))

-- The heads of functions of a text, behind these names.
abbrev pub heads_in : TextParts → List ℕ → List FunctionLines → Checked (Unit {0})
heads_in parts names functions = check_heads (datas_of parts) names (map generic_function (map head (map (function_text (tree_of parts.lines)) functions)))

-- Parameters without a fault are few.
any_holds : {A : Type 0} (c : Checked A) → Holds c (λ _. Unit {0})
any_holds c = record { by = λ u e. tt }

few_parameters : (datas : List GenericDataTree) (names : List ℕ) (qs : List Parameter) → length names ≤ 200 → Holds (check_parameters datas [] names (map generic_parameter qs)) (λ _. length names + length qs ≤ 200)
few_parameters datas names [] l = holds_ok (tt {0}) (omega (arith, l))
few_parameters datas names (q ∷ qs) l =
    then_holds (any_holds (new_name names q.name)) (λ _ _. then_holds (fewer_holds 200 names q.name) (λ _ lt. then_holds (any_holds (generic.known datas [] (written_of q.ty))) (λ _ _.
    record {
      by = λ u e. (let n = length-append names (number_of q.name ∷ []) in
          let all = (few_parameters datas (names ++ number_of q.name ∷ []) qs (omega (arith, n, lt))).by u e in omega (arith, all, n));
    })))

few_head : (datas : List GenericDataTree) (qs : List Parameter) (w : Results WrittenType) → Holds (check_head datas [] (map generic_parameter qs) w) (λ _. length qs ≤ 200)
few_head datas qs w = then_holds (few_parameters datas [] qs (omega arith)) (λ _ l. record { by = λ u e. omega (arith, l) })

few_heads : (parts : TextParts) (names : List ℕ) (fs : List FunctionLines) → Holds (heads_in parts names fs) (λ _. AllByRecursion HasFew fs)
few_heads parts names [] = holds_ok (tt {0}) tt
few_heads parts names (f ∷ fs) =
    then_holds (any_holds (fewer 1000 names f.name)) (λ _ _. then_holds (any_holds (new_name names f.name)) (λ _ _.
    then_holds (few_head (datas_of parts) f.parameters.items (results.One (written_of f.result))) (λ _ l. record { by = λ u e. (l, (few_heads parts (names ++ number_of f.name ∷ []) fs).by u e) })))

pub heads_few : (parts : TextParts) (functions : List FunctionLines) → functions ≡ parts.functions → heads_in parts [] functions ≡ Ok (tt {0}) → AllByRecursion HasFew parts.functions
heads_few parts functions e h = subst (AllByRecursion HasFew) e ((few_heads parts [] functions).by (tt {0}) h)

-- ---- all declarations

main_head : TextParts → MainLines → Checked (Unit {0})
main_head parts main = check_head (datas_of parts) [] (map generic_parameter (main.parameter ∷ [])) (results.One (written_of main.result))

whole : (parts : TextParts) → check_declarations (generic_of (declared (text_of parts))) ≡ and_then (check_datas [] [] (datas_of parts)) (λ _. and_then (check_fields (datas_of parts) (datas_of parts)) (λ _. and_then (heads_in parts [] parts.functions) (λ _. main_head parts parts.main)))
unfolding check_declarations main_head
whole parts = refl

module _ (parts : TextParts) (datas : List DataDecl) (functions : List FunctionLines) (main : MainLines) (ed : datas ≡ parts.datas) (ef : functions ≡ parts.functions) (em : main ≡ parts.main) where
  seen : check_declarations (generic_of (declared (text_of parts))) ≡ and_then (check_datas [] [] (map generic_data (map data_tree datas))) (λ _. and_then (check_fields (datas_of parts) (map generic_data (map data_tree datas))) (λ _. and_then (heads_in parts [] functions) (λ _. main_head parts main)))
  seen = whole parts
      ∙ sym (ap (λ (ds : List DataDecl). and_then (check_datas [] [] (map generic_data (map data_tree ds))) (λ _. and_then (check_fields (datas_of parts) (map generic_data (map data_tree ds))) (λ _. and_then (heads_in parts [] functions) (λ _. main_head parts main)))) ed
      ∙ ap₂ (λ (fs : List FunctionLines) (m : MainLines). and_then (check_datas [] [] (datas_of parts)) (λ _. and_then (check_fields (datas_of parts) (datas_of parts)) (λ _. and_then (heads_in parts [] fs) (λ _. main_head parts m)))) ef em)

  datas_there : check_datas [] [] (map generic_data (map data_tree datas)) ≡ Ok (tt {0}) → check_declarations (generic_of (declared (text_of parts))) ≡ and_then (check_fields (datas_of parts) (map generic_data (map data_tree datas))) (λ _. and_then (heads_in parts [] functions) (λ _. main_head parts main))
  datas_there h = seen ∙ ap (λ z. and_then z (λ _. and_then (check_fields (datas_of parts) (map generic_data (map data_tree datas))) (λ _. and_then (heads_in parts [] functions) (λ _. main_head parts main)))) h

  fields_there : check_datas [] [] (map generic_data (map data_tree datas)) ≡ Ok (tt {0}) → check_fields (datas_of parts) (map generic_data (map data_tree datas)) ≡ Ok (tt {0}) → check_declarations (generic_of (declared (text_of parts))) ≡ and_then (heads_in parts [] functions) (λ _. main_head parts main)
  fields_there h k = datas_there h ∙ ap (λ z. and_then z (λ _. and_then (heads_in parts [] functions) (λ _. main_head parts main))) k

  pub datas_fail : (e : TypeFault) → IsFaultOf e (check_datas [] [] (map generic_data (map data_tree datas))) → IsFaultOf e (check_declarations (generic_of (declared (text_of parts))))
  datas_fail e f = along e _ _ seen (passed_on e _ _ f)

  pub fields_fail : (e : TypeFault) → check_datas [] [] (map generic_data (map data_tree datas)) ≡ Ok (tt {0}) → IsFaultOf e (check_fields (datas_of parts) (map generic_data (map data_tree datas))) → IsFaultOf e (check_declarations (generic_of (declared (text_of parts))))
  fields_fail e h f = along e _ _ (datas_there h) (passed_on e _ _ f)

  pub heads_fail : (e : TypeFault) → check_datas [] [] (map generic_data (map data_tree datas)) ≡ Ok (tt {0}) → check_fields (datas_of parts) (map generic_data (map data_tree datas)) ≡ Ok (tt {0}) → IsFaultOf e (heads_in parts [] functions) → IsFaultOf e (check_declarations (generic_of (declared (text_of parts))))
  heads_fail e h k f = along e _ _ (fields_there h k) (passed_on e _ _ f)

  pub after_heads : check_datas [] [] (map generic_data (map data_tree datas)) ≡ Ok (tt {0}) → check_fields (datas_of parts) (map generic_data (map data_tree datas)) ≡ Ok (tt {0}) → heads_in parts [] functions ≡ Ok (tt {0}) → check_declarations (generic_of (declared (text_of parts))) ≡ check_head (datas_of parts) [] (map generic_parameter (main.parameter ∷ [])) (results.One (written_of main.result))
  unfolding main_head
  after_heads h k n = fields_there h k ∙ ap (λ z. and_then z (λ _. main_head parts main)) n
