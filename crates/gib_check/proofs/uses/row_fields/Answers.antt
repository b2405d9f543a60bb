use Rattle.std.proofs.Common.{ap, ◌∙◌}
use Rattle.gib_types.specs.Types.{forms_at}
use Rattle.gib_syntax.specs.Forms.{assign}
use Rattle.gib_check.specs.Judging.{forms, meant_by}
use Rattle.gib_check.proofs.UseTypes.{row_read}
use Rattle.gib_check.proofs.uses.row_fields.Goals as goal

pub returns-clause-types : goal.returns-clause-types
returns-clause-types c =
    row_read c.args.named.now c.args.row c.args.state.now.types c.read.new.self.types (meant_by (forms c.args.state.now) c.in_ok-meaning.meaning) c.words.result.now c.in_ok-ids.ids.items c.args.types.now
    c.in_ok-ids.ensures.read c.words.ensures (c.in_ok-meaning.ensures.meant ∙ ap (λ vs. assign vs (forms_at (forms c.args.state.now) c.args.types.now)) c.variables.ensures)
