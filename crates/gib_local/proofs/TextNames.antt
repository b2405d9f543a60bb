-- The rules of names of a text, in their order.
use Rattle.std.proofs.Common.{◌≡◌, ◌<◌, List, [], ◌∷◌, map, length, Ok, Err, refl, sym, ap, ap₂, ◌∙◌, subst}
use Rattle.std.specs.Prelude.{Result, IfOk}
use Rattle.std.specs.List.{AllByRecursion}
use Rattle.gib_check.specs.declared.fault.TypeFault.{TypeFault}
use Rattle.gib_check.specs.Answers.{IsFaultOf}
use Rattle.gib_check.specs.Faults.{Checked, and_then}
use Rattle.gib_check.specs.FirstFault.{check_declarations}
use Rattle.gib_check.proofs.Loops.{passed_on, along}
use Rattle.gib_syntax.specs.Plain.{generic_of}
use Rattle.gib_local_parse.specs.declared.text.FunctionLines.{FunctionLines}
use Rattle.gib_local_parse.specs.declared.text.MainLines.{MainLines}
use Rattle.gib_local_parse.specs.LineArena.{tree_of}
use Rattle.gib_local_parse.specs.TextParts.{TextParts, IsFunctionIn, AreInside, text_of, function_text}
use Rattle.gib_local.specs.Building.{declared}
use Rattle.gib_local.specs.Knowing.{declared_of, body, HasFew}
use Rattle.gib_local.specs.Naming.{check_offsets, check_bodies, check_text}

-- What holds anyway holds where it is so.
pub if_ok : {A E : Type 0} {P : Type 0} (r : Result A E) → P → IfOk r (λ _. P)
if_ok (Ok x) p = p
if_ok (Err e) p = tt

declarations_in : TextParts → Checked (Unit {0})
declarations_in parts = check_declarations (generic_of (declared (text_of parts)))

offsets_in : TextParts → Checked (Unit {0})
offsets_in parts = check_offsets (declared_of parts).table parts.offsets

bodies_in : TextParts → List FunctionLines → Checked (Unit {0})
bodies_in parts functions = check_bodies (declared_of parts) (map (function_text (tree_of parts.lines)) functions)

main_in : TextParts → MainLines → Checked (Unit {0})
main_in parts main = body (declared_of parts) (main.parameter ∷ []) main.place (tree_of parts.lines main.body.0)

whole : (parts : TextParts) → check_text (text_of parts) ≡ and_then (declarations_in parts) (λ _. and_then (offsets_in parts) (λ _. and_then (bodies_in parts parts.functions) (λ _. main_in parts parts.main)))
unfolding check_text declarations_in offsets_in bodies_in main_in
whole parts = refl

pub declarations_fail : (parts : TextParts) (e : TypeFault) → IsFaultOf e (check_declarations (generic_of (declared (text_of parts)))) → IsFaultOf e (check_text (text_of parts))
unfolding declarations_in
declarations_fail parts e f = along e _ _ (whole parts) (passed_on e _ _ f)

after_declarations : (parts : TextParts) → check_declarations (generic_of (declared (text_of parts))) ≡ Ok (tt {0}) → check_text (text_of parts) ≡ and_then (offsets_in parts) (λ _. and_then (bodies_in parts parts.functions) (λ _. main_in parts parts.main))
unfolding declarations_in
after_declarations parts h = whole parts ∙ ap (λ z. and_then z (λ _. and_then (offsets_in parts) (λ _. and_then (bodies_in parts parts.functions) (λ _. main_in parts parts.main)))) h

pub offsets_fail : (parts : TextParts) (e : TypeFault) → check_declarations (generic_of (declared (text_of parts))) ≡ Ok (tt {0}) → IsFaultOf e (check_offsets (declared_of parts).table parts.offsets) → IsFaultOf e (check_text (text_of parts))
unfolding offsets_in
offsets_fail parts e h f = along e _ _ (after_declarations parts h) (passed_on e _ _ f)

after_offsets : (parts : TextParts) → check_declarations (generic_of (declared (text_of parts))) ≡ Ok (tt {0}) → check_offsets (declared_of parts).table parts.offsets ≡ Ok (tt {0}) → check_text (text_of parts) ≡ and_then (bodies_in parts parts.functions) (λ _. main_in parts parts.main)
unfolding offsets_in
after_offsets parts h k = after_declarations parts h ∙ ap (λ z. and_then z (λ _. and_then (bodies_in parts parts.functions) (λ _. main_in parts parts.main))) k

module _ (parts : TextParts) (functions : List FunctionLines) (ef : functions ≡ parts.functions) (h : check_declarations (generic_of (declared (text_of parts))) ≡ Ok (tt {0})) (k : check_offsets (declared_of parts).table parts.offsets ≡ Ok (tt {0})) where
  pub bodies_fail : (e : TypeFault) → IsFaultOf e (check_bodies (declared_of parts) (map (function_text (tree_of parts.lines)) functions)) → IsFaultOf e (check_text (text_of parts))
  unfolding bodies_in
  bodies_fail e f =
      along e _ _ (after_offsets parts h k ∙ sym (ap (λ (fs : List FunctionLines). and_then (bodies_in parts fs) (λ _. main_in parts parts.main)) ef)) (passed_on e _ _ f)

  pub after_bodies : (main : MainLines) → main ≡ parts.main → check_bodies (declared_of parts) (map (function_text (tree_of parts.lines)) functions) ≡ Ok (tt {0}) → check_text (text_of parts) ≡ body (declared_of parts) (main.parameter ∷ []) main.place (tree_of parts.lines main.body.0)
  unfolding bodies_in main_in
  after_bodies main em b =
      after_offsets parts h k
      ∙ sym (ap₂ (λ (fs : List FunctionLines) (m : MainLines). and_then (bodies_in parts fs) (λ _. main_in parts m)) ef em)
      ∙ ap (λ z. and_then z (λ _. main_in parts main)) b

-- What a text says of its parts is said of the parts.
pub inside_here : (parts inner : TextParts) (functions : List FunctionLines) → inner ≡ parts → functions ≡ inner.functions → AreInside inner → AllByRecursion (IsFunctionIn (length parts.lines)) functions
inside_here parts inner functions e ef h =
    subst (λ (z : TextParts). AllByRecursion (IsFunctionIn (length z.lines)) functions) e (subst (AllByRecursion (IsFunctionIn (length inner.lines))) (sym ef) h.functions)

pub few_here : (parts inner : TextParts) (functions : List FunctionLines) → inner ≡ parts → functions ≡ inner.functions → AllByRecursion HasFew parts.functions → AllByRecursion HasFew functions
few_here parts inner functions e ef h = subst (AllByRecursion HasFew) (sym (ef ∙ ap (λ (z : TextParts). z.functions) e)) h

pub main_here : (parts inner : TextParts) (main : MainLines) → inner ≡ parts → main ≡ inner.main → AreInside inner → main.body.0 < length parts.lines
main_here parts inner main e em h = subst (λ (z : TextParts). main.body.0 < length z.lines) e (subst (λ (m : MainLines). m.body.0 < length inner.lines) (sym em) h.main)
