use Rattle.gib_value.proofs.OneText.{one_text}
use Rattle.gib_value.proofs.law.texts_differ.Goals as goal

pub returns : goal.returns
returns c = one_text c.args.types.now c.args.names.now.short (record { words = c.requires.words; apart = c.requires.apart })
