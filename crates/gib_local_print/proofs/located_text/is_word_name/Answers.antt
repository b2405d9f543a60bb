use Rattle.std.proofs.Common.{ap, sym, ◌∙◌}
use Rattle.gib_local_print.specs.LocatedText.{is_name}
use Rattle.gib_local_print.proofs.NoNames.{bracket_is_no_name}
use Rattle.gib_local_print.proofs.located_text.is_word_name.Goals as goal

pub returns-in-None : goal.returns-in-None
returns-in-None c =
    let text = c.in-None.ensures.types in
    sym (ap (is_name c.args.upper) text.2 ∙ bracket_is_no_name c.args.upper text.0 text.1)
