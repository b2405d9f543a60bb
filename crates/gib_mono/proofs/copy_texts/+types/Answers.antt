use Rattle.std.proofs.Common.{List, ◌++◌, ap, sym, ◌∙◌}
use Rattle.gib_base.specs.declared.texts.TextPiece.{TextPiece}
use Rattle.gib_types.specs.declared.types.TypeId.{TypeId}
use Rattle.gib_types.specs.Form.{DataForm}
use Rattle.gib_types.specs.Types.{forms_of, forms_at}
use Rattle.gib_mono.specs.Pieces.{form_pieces}
use Rattle.gib_mono.proofs.Called.{data_pieces}
use Rattle.gib_mono.proofs.copy_texts.+types.Goals as goal

pub push_form-returns-in_ok-push_data-in-Data : goal.push_form-returns-in_ok-push_data-in-Data
push_form-returns-in_ok-push_data-in-Data t c =
    let fs = forms_of c.args.types.now in
    c.in_ok-push_data-in-Data.ensures
    ∙ ap (λ (u : List TextPiece). c.args.out.now.items ++ u)
    (ap (λ (is : List TypeId). form_pieces (DataForm c.in-Data.name (forms_at fs is))) c.deref.ensures.value
    ∙ sym (data_pieces fs c.args.id.0 c.node.result.now c.in-Data.name c.in-Data.arguments c.node.ensures.form c.in-Data.is))
