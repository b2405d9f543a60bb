use Rattle.std.proofs.Common.{sym}
use Rattle.gib_base.proofs.LongTexts.{long_bracket}
use Rattle.gib_base.proofs.texts.text_of.Goals as goal

pub returns-else-is_empty-clause-types : goal.returns-else-is_empty-clause-types
returns-else-is_empty-clause-types c = long_bracket c.args.names.now c.args.copied.now _ c.args.copied.now.types.ok.0 (sym c.if-is_empty.ensures) c.requires
