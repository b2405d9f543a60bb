-- Types are the same exactly where the test of it says so.
use Rattle.std.proofs.Common.{◌≡◌, ℕ, Bool, true, false, ◌==◌, ◌&&◌, refl, ap, ◌∙◌}
use Rattle.std.proofs.lemmas.Bool.{eqb-true, eq-eqb, and_parts, and_from}
use Rattle.gib_types.specs.Form.{Form, Forms, WholeForm, TruthForm, VariableForm, DataForm, NoForm, MoreForms}
use Rattle.gib_types.specs.SameForm.{same_form, same_forms}

mutual
  pub same_form_is : (f g : Form) → same_form f g ≡ true → f ≡ g
  same_form_is WholeForm WholeForm h = refl
  same_form_is WholeForm TruthForm h = absurd cc
  same_form_is WholeForm (VariableForm y) h = absurd cc
  same_form_is WholeForm (DataForm u us) h = absurd cc
  same_form_is TruthForm WholeForm h = absurd cc
  same_form_is TruthForm TruthForm h = refl
  same_form_is TruthForm (VariableForm y) h = absurd cc
  same_form_is TruthForm (DataForm u us) h = absurd cc
  same_form_is (VariableForm x) WholeForm h = absurd cc
  same_form_is (VariableForm x) TruthForm h = absurd cc
  same_form_is (VariableForm x) (VariableForm y) h = ap VariableForm (eqb-true x y h)
  same_form_is (VariableForm x) (DataForm u us) h = absurd cc
  same_form_is (DataForm t ts) WholeForm h = absurd cc
  same_form_is (DataForm t ts) TruthForm h = absurd cc
  same_form_is (DataForm t ts) (VariableForm y) h = absurd cc
  same_form_is (DataForm t ts) (DataForm u us) h =
      let both = and_parts (t == u) (same_forms ts us) h in
      ap (λ (n : ℕ). DataForm n ts) (eqb-true t u both.0) ∙ ap (DataForm u) (same_forms_are ts us both.1)

  pub same_forms_are : (fs gs : Forms) → same_forms fs gs ≡ true → fs ≡ gs
  same_forms_are NoForm NoForm h = refl
  same_forms_are NoForm (MoreForms g gs) h = absurd cc
  same_forms_are (MoreForms f fs) NoForm h = absurd cc
  same_forms_are (MoreForms f fs) (MoreForms g gs) h =
      let both = and_parts (same_form f g) (same_forms fs gs) h in
      ap (λ (u : Form). MoreForms u fs) (same_form_is f g both.0) ∙ ap (MoreForms g) (same_forms_are fs gs both.1)

mutual
  pub same_form_own : (f : Form) → same_form f f ≡ true
  same_form_own WholeForm = refl
  same_form_own TruthForm = refl
  same_form_own (VariableForm x) = eq-eqb x x refl
  same_form_own (DataForm t ts) = and_from (t == t) (same_forms ts ts) (eq-eqb t t refl) (same_forms_own ts)

  pub same_forms_own : (fs : Forms) → same_forms fs fs ≡ true
  same_forms_own NoForm = refl
  same_forms_own (MoreForms f fs) = and_from (same_form f f) (same_forms fs fs) (same_form_own f) (same_forms_own fs)
