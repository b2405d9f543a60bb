use Rattle.gib_local.proofs.OneLocal.{text_is_answered}
use Rattle.gib_local.proofs.law.texts_are_answered.Goals as goal

pub returns : goal.returns
returns c bytes core h e = text_is_answered bytes core h e
