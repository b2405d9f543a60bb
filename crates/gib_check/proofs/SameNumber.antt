-- The same type is the same number.
use Rattle.std.proofs.Common.{◌≡◌, ℕ, zero, suc, ◌<◌, Bool, true, false, eqb, List, [], ◌∷◌, length, Some, Ok, Err, refl, sym, ap, ◌∙◌, arith, slice_get}
use Rattle.std.proofs.lemmas.Bool.{eqb-true, eqb-false}
use Rattle.gib_types.specs.declared.types.TypeId.{TypeId}
use Rattle.gib_types.specs.declared.types.TypeNode.{TypeNode}
use Rattle.gib_types.specs.Form.{Form, form_or}
use Rattle.gib_types.specs.Types.{form_at, forms_of, AreOnce}
use Rattle.gib_types.specs.SameForm.{same_form}
use Rattle.gib_types.proofs.SameForms.{same_form_is, same_form_own}
use Rattle.gib_check.proofs.Growing.{many}

get_at : (fs : List Form) (i : ℕ) → i < length fs → slice_get fs i ≡ Some (form_at fs i)
get_at [] i l = absurd (omega (arith, l))
get_at (f ∷ fs) zero l = refl
get_at (f ∷ fs) (suc i) l = get_at fs i (omega (arith, l))

other_form : (b : Bool) (fs : List Form) (i j : ℕ) → same_form (form_at fs i) (form_at fs j) ≡ b → AreOnce fs → i < length fs → j < length fs → (i ≡ j → ⊥) → b ≡ false
other_form true fs i j e once l m h = absurd (h (once.once i j (form_at fs i) (get_at fs i l) (get_at fs j m ∙ ap Some (sym (same_form_is (form_at fs i) (form_at fs j) e)))))
other_form false fs i j e once l m h = refl

-- Equal numbers, and only these, are of the same type.
pub same_number : (ns : List TypeNode) (left right : TypeId) → AreOnce (forms_of ns) → left.0 < length ns → right.0 < length ns → eqb left.0 right.0 ≡ same_form (form_at (forms_of ns) left.0) (form_at (forms_of ns) right.0)
same_number ns left right once l m = go (eqb left.0 right.0) refl where
  go : (b : Bool) → eqb left.0 right.0 ≡ b → b ≡ same_form (form_at (forms_of ns) left.0) (form_at (forms_of ns) right.0)
  go true e = sym (ap (λ i. same_form (form_at (forms_of ns) i) (form_at (forms_of ns) right.0)) (eqb-true left.0 right.0 e) ∙ same_form_own (form_at (forms_of ns) right.0))
  go false e =
      let k = many ns in
      sym (other_form (same_form (form_at (forms_of ns) left.0) (form_at (forms_of ns) right.0)) (forms_of ns) left.0 right.0 refl once (omega (arith, k, l)) (omega (arith, k, m)) (eqb-false left.0 right.0 e))

-- What a node says of its type.
pub at_node : (fs : List Form) (i : ℕ) (f : Form) → slice_get fs i ≡ Some f → form_at fs i ≡ f
at_node fs i f e = ap form_or e
