-- The rules of declarations and of all, in their order.
use Rattle.std.proofs.Common.{◌≡◌, List, [], ◌∷◌, map, Ok, refl, sym, ap, ap₂, ◌∙◌}
use Rattle.gib_syntax.specs.Results.{One}
use Rattle.gib_syntax.specs.declared.program.GenericData.{GenericData}
use Rattle.gib_syntax.specs.declared.program.GenericFunction.{GenericFunction}
use Rattle.gib_syntax.specs.declared.program.GenericMain.{GenericMain}
use Rattle.gib_syntax.specs.Words.{type_in}
use Rattle.gib_syntax.specs.GenericArena.{Arena}
use Rattle.gib_syntax.specs.GenericParts.{GenericParts, generic_program_of, data_in, function_in, parameter_in}
use Rattle.gib_check.specs.declared.fault.TypeFault.{TypeFault}
use Rattle.gib_check.specs.Answers.{IsFaultOf}
use Rattle.gib_check.specs.Faults.{Checked, and_then}
use Rattle.gib_check.specs.FirstFault.{check_datas, check_fields, check_heads, check_head, check_body, check_bodies, check_declarations, check_program}
use Rattle.gib_check.specs.NameViews.{generic_globals, generic_tree}
use Rattle.gib_check.proofs.Loops.{passed_on, along}

-- What the code sees of a program.
pub record AreSeen (parts : GenericParts) (exprs : Arena) (datas : List GenericData) : Type 0 where
  pub are_exprs : exprs ≡ parts.exprs
  pub are_datas : datas ≡ parts.datas

datas_of : GenericParts → Checked (Unit {0})
datas_of parts = check_datas [] [] (generic_program_of parts).datas

fields_of : GenericParts → Checked (Unit {0})
fields_of parts = check_fields (generic_program_of parts).datas (generic_program_of parts).datas

heads_of : GenericParts → Checked (Unit {0})
heads_of parts = check_heads (generic_program_of parts).datas [] (generic_program_of parts).functions

main_of : GenericParts → Checked (Unit {0})
main_of parts = check_head (generic_program_of parts).datas [] ((generic_program_of parts).main.parameter ∷ []) (One (generic_program_of parts).main.result)

seen_datas : (parts : GenericParts) (exprs : Arena) (datas : List GenericData) → AreSeen parts exprs datas → datas_of parts ≡ check_datas [] [] (map (data_in exprs.words) datas)
unfolding datas_of
seen_datas parts exprs datas s = sym (ap₂ (λ (a : Arena) (ds : List GenericData). check_datas [] [] (map (data_in a.words) ds)) s.are_exprs s.are_datas)

seen_fields : (parts : GenericParts) (exprs : Arena) (datas : List GenericData) → AreSeen parts exprs datas → fields_of parts ≡ check_fields (generic_globals parts).datas (map (data_in parts.exprs.words) datas)
unfolding fields_of
seen_fields parts exprs datas s = sym (ap (λ (ds : List GenericData). check_fields (generic_globals parts).datas (map (data_in parts.exprs.words) ds)) s.are_datas)

seen_heads : (parts : GenericParts) (functions : List GenericFunction) → functions ≡ parts.functions → heads_of parts ≡ check_heads (generic_globals parts).datas [] (map (function_in parts.exprs) functions)
unfolding heads_of
seen_heads parts functions e = sym (ap (λ (fs : List GenericFunction). check_heads (generic_globals parts).datas [] (map (function_in parts.exprs) fs)) e)

seen_main : (parts : GenericParts) (main : GenericMain) → main ≡ parts.main → main_of parts ≡ check_head (generic_globals parts).datas [] (map (parameter_in parts.exprs.words) (main.parameter ∷ [])) (One (type_in parts.exprs.words main.result))
unfolding main_of
seen_main parts main e = sym (ap (λ (m : GenericMain). check_head (generic_globals parts).datas [] (map (parameter_in parts.exprs.words) (m.parameter ∷ [])) (One (type_in parts.exprs.words m.result))) e)

whole : (parts : GenericParts) → check_declarations (generic_program_of parts) ≡ and_then (datas_of parts) (λ _. and_then (fields_of parts) (λ _. and_then (heads_of parts) (λ _. main_of parts)))
unfolding check_declarations datas_of fields_of heads_of main_of
whole parts = refl

module _ (parts : GenericParts) (exprs : Arena) (datas : List GenericData) (s : AreSeen parts exprs datas) where
  pub datas_fail : (e : TypeFault) → IsFaultOf e (check_datas [] [] (map (data_in exprs.words) datas)) → IsFaultOf e (check_declarations (generic_program_of parts))
  datas_fail e h = along e _ _ (whole parts) (passed_on e _ _ (along e _ _ (seen_datas parts exprs datas s) h))

  after_datas : check_datas [] [] (map (data_in exprs.words) datas) ≡ Ok (tt {0}) → check_declarations (generic_program_of parts) ≡ and_then (fields_of parts) (λ _. and_then (heads_of parts) (λ _. main_of parts))
  after_datas h = whole parts ∙ ap (λ z. and_then z (λ _. and_then (fields_of parts) (λ _. and_then (heads_of parts) (λ _. main_of parts)))) (seen_datas parts exprs datas s ∙ h)

  pub fields_fail : (e : TypeFault) → check_datas [] [] (map (data_in exprs.words) datas) ≡ Ok (tt {0}) → IsFaultOf e (check_fields (generic_globals parts).datas (map (data_in parts.exprs.words) datas)) → IsFaultOf e (check_declarations (generic_program_of parts))
  fields_fail e d h = along e _ _ (after_datas d) (passed_on e _ _ (along e _ _ (seen_fields parts exprs datas s) h))

  after_fields : check_datas [] [] (map (data_in exprs.words) datas) ≡ Ok (tt {0}) → check_fields (generic_globals parts).datas (map (data_in parts.exprs.words) datas) ≡ Ok (tt {0}) → check_declarations (generic_program_of parts) ≡ and_then (heads_of parts) (λ _. main_of parts)
  after_fields d f = after_datas d ∙ ap (λ z. and_then z (λ _. and_then (heads_of parts) (λ _. main_of parts))) (seen_fields parts exprs datas s ∙ f)

  pub heads_fail : (e : TypeFault) (functions : List GenericFunction) → functions ≡ parts.functions → check_datas [] [] (map (data_in exprs.words) datas) ≡ Ok (tt {0}) → check_fields (generic_globals parts).datas (map (data_in parts.exprs.words) datas) ≡ Ok (tt {0}) → IsFaultOf e (check_heads (generic_globals parts).datas [] (map (function_in parts.exprs) functions)) → IsFaultOf e (check_declarations (generic_program_of parts))
  heads_fail e functions q d f h = along e _ _ (after_fields d f) (passed_on e _ _ (along e _ _ (seen_heads parts functions q) h))

  pub after_heads : (functions : List GenericFunction) (main : GenericMain) → functions ≡ parts.functions → main ≡ parts.main → check_datas [] [] (map (data_in exprs.words) datas) ≡ Ok (tt {0}) → check_fields (generic_globals parts).datas (map (data_in parts.exprs.words) datas) ≡ Ok (tt {0}) → check_heads (generic_globals parts).datas [] (map (function_in parts.exprs) functions) ≡ Ok (tt {0}) → check_declarations (generic_program_of parts) ≡ check_head (generic_globals parts).datas [] (map (parameter_in parts.exprs.words) (main.parameter ∷ [])) (One (type_in parts.exprs.words main.result))
  after_heads functions main q m d f h = after_fields d f ∙ ap (λ z. and_then z (λ _. main_of parts)) (seen_heads parts functions q ∙ h) ∙ seen_main parts main m

-- All rules.
bodies_of : GenericParts → Checked (Unit {0})
bodies_of parts = check_bodies (generic_globals parts) (generic_program_of parts).functions

all_whole : (parts : GenericParts) → check_program (generic_program_of parts) ≡ and_then (check_declarations (generic_program_of parts)) (λ _. and_then (bodies_of parts) (λ _. check_body (generic_globals parts) [] ((generic_program_of parts).main.parameter ∷ []) (One (generic_program_of parts).main.result) (generic_program_of parts).main.body))
unfolding check_program bodies_of
all_whole parts = refl

pub declarations_fail : (parts : GenericParts) (e : TypeFault) → IsFaultOf e (check_declarations (generic_program_of parts)) → IsFaultOf e (check_program (generic_program_of parts))
declarations_fail parts e h = along e _ _ (all_whole parts) (passed_on e _ _ h)

seen_bodies : (parts : GenericParts) (functions : List GenericFunction) → functions ≡ parts.functions → bodies_of parts ≡ check_bodies (generic_globals parts) (map (function_in parts.exprs) functions)
unfolding bodies_of
seen_bodies parts functions e = sym (ap (λ (fs : List GenericFunction). check_bodies (generic_globals parts) (map (function_in parts.exprs) fs)) e)

pub bodies_fail : (parts : GenericParts) (e : TypeFault) (functions : List GenericFunction) → functions ≡ parts.functions → check_declarations (generic_program_of parts) ≡ Ok (tt {0}) → IsFaultOf e (check_bodies (generic_globals parts) (map (function_in parts.exprs) functions)) → IsFaultOf e (check_program (generic_program_of parts))
bodies_fail parts e functions q d h =
    along e _ _ (all_whole parts ∙ ap (λ z. and_then z (λ _. and_then (bodies_of parts) (λ _. check_body (generic_globals parts) [] ((generic_program_of parts).main.parameter ∷ []) (One (generic_program_of parts).main.result) (generic_program_of parts).main.body))) d)
    (passed_on e _ _ (along e _ _ (seen_bodies parts functions q) h))

pub after_bodies : (parts : GenericParts) (functions : List GenericFunction) (main : GenericMain) → functions ≡ parts.functions → main ≡ parts.main → check_declarations (generic_program_of parts) ≡ Ok (tt {0}) → check_bodies (generic_globals parts) (map (function_in parts.exprs) functions) ≡ Ok (tt {0}) → check_program (generic_program_of parts) ≡ check_body (generic_globals parts) [] (map (parameter_in parts.exprs.words) (main.parameter ∷ [])) (One (type_in parts.exprs.words main.result)) (generic_tree parts main.body.0)
after_bodies parts functions main q m d h =
    all_whole parts
    ∙ ap (λ z. and_then z (λ _. and_then (bodies_of parts) (λ _. check_body (generic_globals parts) [] ((generic_program_of parts).main.parameter ∷ []) (One (generic_program_of parts).main.result) (generic_program_of parts).main.body))) d
    ∙ ap (λ z. and_then z (λ _. check_body (generic_globals parts) [] ((generic_program_of parts).main.parameter ∷ []) (One (generic_program_of parts).main.result) (generic_program_of parts).main.body)) (seen_bodies parts functions q ∙ h)
    ∙ sym (ap (λ (n : GenericMain). check_body (generic_globals parts) [] (map (parameter_in parts.exprs.words) (n.parameter ∷ [])) (One (type_in parts.exprs.words n.result)) (generic_tree parts n.body.0)) m)
