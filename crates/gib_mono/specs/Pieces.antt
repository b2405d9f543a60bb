-- The types of a copy as pieces, whose texts are written one after another.
use Rattle.std.specs.Prelude.{List, [], ◌∷◌, ◌++◌}
use Rattle.gib_base.specs.declared.texts.TextPiece.{TextPiece}
use Rattle.gib_base.specs.declared.texts.TextPiece.TheVariants.{Word, Whole, Truth, Open, Space, Close}
use Rattle.gib_syntax.specs.Forms.{Form, Forms, WholeForm, TruthForm, VariableForm, DataForm, NoForm, MoreForms}

abbrev mutual
  -- A type, with those in it in brackets.
  pub form_pieces : Form → List TextPiece
  form_pieces WholeForm = Whole ∷ []
  form_pieces TruthForm = Truth ∷ []
  form_pieces (VariableForm x) = []
  form_pieces (DataForm t ts) = Word (record { 0 = t }) ∷ types_pieces ts

  -- Types in brackets, where there are some.
  pub types_pieces : Forms → List TextPiece
  types_pieces NoForm = []
  types_pieces (MoreForms t ts) = Open ∷ (form_pieces t ++ further_pieces ts)

  -- Types behind the first one, each behind a space, and the closing bracket.
  pub further_pieces : Forms → List TextPiece
  further_pieces NoForm = Close ∷ []
  further_pieces (MoreForms t ts) = Space ∷ (form_pieces t ++ further_pieces ts)
