use Rattle.gib_local_parse.proofs.WholeLaws as lemma
use Rattle.gib_local_parse.proofs.law.one_blame.Goals as goal

pub returns-clause-blamed : goal.returns-clause-blamed
returns-clause-blamed c = lemma.one_blamed

pub returns-clause-not_blamed : goal.returns-clause-not_blamed
returns-clause-not_blamed c = lemma.text_has_none
