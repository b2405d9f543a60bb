-- Runs of words read as types, from the last word to the first.
use Rattle.std.specs.Prelude.{◌≡◌, ℕ, zero, suc, List, [], ◌∷◌, length, drop}
use Rattle.gib_types.specs.declared.types.TypeId.{TypeId}
use Rattle.gib_types.specs.declared.types.TypeNode.{TypeNode}
use Rattle.gib_types.specs.Form.{Form, Forms, WholeForm, TruthForm, DataForm, NoForm, MoreForms, Meant}
use Rattle.gib_types.specs.Types.{forms_of, AreBelow}
use Rattle.gib_syntax.specs.declared.tree.Ident.{Ident}
use Rattle.gib_syntax.specs.declared.written.Word.{Word}
use Rattle.gib_syntax.specs.declared.written.Word.TheVariants as w
use Rattle.gib_syntax.specs.Declarations.{number_of}
use Rattle.gib_check.specs.Judging.{Grows, listed}

-- So many types from the top.
abbrev pub taken_forms : ℕ → List Form → Forms
taken_forms zero fs = NoForm
taken_forms (suc n) [] = NoForm
taken_forms (suc n) (f ∷ fs) = MoreForms f (taken_forms n fs)

-- A type is read that has no arguments.
abbrev pub put_form : Form → List Form → List Form
put_form f fs = f ∷ fs

-- The name of a declared type is read, behind its arguments.
abbrev pub data_form : Ident → ℕ → List Form → List Form
data_form x n fs = DataForm (number_of x) (taken_forms n fs) ∷ drop n fs

-- One word, read before those behind it.
abbrev pub read_one : Meant → Word → List Form → List Form
read_one m (w.Whole p) fs = put_form WholeForm fs
read_one m (w.Truth p) fs = put_form TruthForm fs
read_one m (w.Variable x) fs = put_form (m (number_of x)) fs
read_one m (w.Data p x n) fs = data_form x n fs

-- Words, read before those behind them.
abbrev pub read_words : Meant → List Word → List Form → List Form
read_words m [] fs = fs
read_words m (x ∷ xs) fs = read_one m x (read_words m xs fs)

-- A step of reading was made.
pub record ReadsOn (old new : List TypeNode) (before after : List TypeId) (step : List Form → List Form) : Type 0 where
  pub grows : Grows old new
  pub below : AreBelow (length new) after
  pub read : listed (forms_of new) after ≡ step (listed (forms_of old) before)
