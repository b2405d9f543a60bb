-- Whether types are the same.
use Rattle.std.specs.Prelude.{◌==◌, ◌&&◌, Bool, true, false}
use Rattle.gib_types.specs.Form.{Form, Forms, WholeForm, TruthForm, VariableForm, DataForm, NoForm, MoreForms}

abbrev mutual
  pub same_form : Form → Form → Bool
  same_form WholeForm WholeForm = true
  same_form WholeForm TruthForm = false
  same_form WholeForm (VariableForm y) = false
  same_form WholeForm (DataForm u us) = false
  same_form TruthForm WholeForm = false
  same_form TruthForm TruthForm = true
  same_form TruthForm (VariableForm y) = false
  same_form TruthForm (DataForm u us) = false
  same_form (VariableForm x) WholeForm = false
  same_form (VariableForm x) TruthForm = false
  same_form (VariableForm x) (VariableForm y) = x == y
  same_form (VariableForm x) (DataForm u us) = false
  same_form (DataForm t ts) WholeForm = false
  same_form (DataForm t ts) TruthForm = false
  same_form (DataForm t ts) (VariableForm y) = false
  same_form (DataForm t ts) (DataForm u us) = (t == u) && same_forms ts us

  pub same_forms : Forms → Forms → Bool
  same_forms NoForm NoForm = true
  same_forms NoForm (MoreForms g gs) = false
  same_forms (MoreForms f fs) NoForm = false
  same_forms (MoreForms f fs) (MoreForms g gs) = same_form f g && same_forms fs gs
