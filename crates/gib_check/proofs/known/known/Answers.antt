use Rattle.std.proofs.Common.{sym, ap, ◌∙◌}
use Rattle.gib_syntax.specs.Words.{run_words, type_in}
use Rattle.gib_syntax.specs.GenericTyping.{variable_numbers}
use Rattle.gib_check.specs.Faults.{known}
use Rattle.gib_check.specs.Knowing.{known_words}
use Rattle.gib_check.specs.NameViews.{generic_globals}
use Rattle.gib_check.proofs.KnownWords.{type_known}
use Rattle.gib_check.proofs.Opening.{gives_same}
use Rattle.gib_check.proofs.known.known.Goals as goal

pub returns : goal.returns
returns c =
    let datas = (generic_globals c.args.named.now).datas in
    let vars = variable_numbers c.args.variables.now in
    gives_same (λ _. tt {0}) c.known_words.result (known datas vars (type_in c.args.named.now.exprs.words c.args.run)) (known_words datas vars c.words.result.now)
    (sym (ap (known_words datas vars) c.words.ensures ∙ type_known datas vars (run_words c.args.named.now.exprs.words c.args.run) c.requires.1 c.requires.2))
    c.known_words.ensures
