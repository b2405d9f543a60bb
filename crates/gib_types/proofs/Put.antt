-- What a push leaves.
use Rattle.std.proofs.Common.{◌≡◌, List, [], ◌∷◌, ◌++◌, length, Some, slice_get, refl, sym, ap, ◌∙◌}
use Rattle.std.specs.Prelude.{Result, Ok, Err, IfOk, OnOk, OnErr}
use Rattle.gib_types.specs.declared.types.TypeId.{TypeId}
use Rattle.gib_types.specs.declared.types.TypeNode.{TypeNode}
use Rattle.gib_types.specs.Types.{forms_of, form_from, GrowsTo}
use Rattle.gib_types.proofs.Once.{forms_push, get_last}

append_nil : {A : Type 0} (xs : List A) → xs ++ [] ≡ xs
append_nil [] = refl
append_nil (x ∷ xs) = ap (λ l. x ∷ l) (append_nil xs)

pub put_form : {E : Type 0} (old new : List TypeNode) (n : TypeNode) (r : Result TypeId E) → length (forms_of old) ≡ length old → IfOk r (λ id. id.0 ≡ length old) → OnOk r (new ≡ old ++ n ∷ [])
    → IfOk r (λ id. slice_get (forms_of new) id.0 ≡ Some (form_from (forms_of old) n))
put_form old new n (Ok id) m e f =
    ap (λ ns. slice_get (forms_of ns) id.0) f ∙ ap (λ fs. slice_get fs id.0) (forms_push old n) ∙ ap (slice_get (forms_of old ++ form_from (forms_of old) n ∷ [])) (e ∙ sym m) ∙ get_last (forms_of old) (form_from (forms_of old) n)
put_form old new n (Err x) m e f = e

pub put_grown : {E : Type 0} (old new : List TypeNode) (n : TypeNode) (r : Result TypeId E) → OnOk r (new ≡ old ++ n ∷ []) → OnErr r (new ≡ old) → GrowsTo (forms_of old) (forms_of new)
put_grown old new n (Ok id) e f = record { more = form_from (forms_of old) n ∷ []; is = ap forms_of e ∙ forms_push old n }
put_grown old new n (Err x) e f = record { more = []; is = ap forms_of f ∙ sym (append_nil (forms_of old)) }
