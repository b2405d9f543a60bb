use Rattle.gib_words.proofs.Forms.{in_range}
use Rattle.gib_app.proofs.Settings.{have_settings}
use Rattle.gib_app.proofs.option_law.options_are_in_range.Goals as goal

pub returns-clause-range : goal.returns-clause-range
returns-clause-range c = in_range

pub returns-clause-settings : goal.returns-clause-settings
returns-clause-settings c = have_settings
