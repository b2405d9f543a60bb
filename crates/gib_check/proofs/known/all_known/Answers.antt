use Rattle.std.proofs.Common.{sym, ap, ◌∙◌}
use Rattle.gib_syntax.specs.Words.{run_words, types_in, stack_of}
use Rattle.gib_syntax.specs.GenericTyping.{variable_numbers}
use Rattle.gib_check.specs.Faults.{all_known}
use Rattle.gib_check.specs.FirstFault.{check_types}
use Rattle.gib_check.specs.Knowing.{known_words}
use Rattle.gib_check.specs.NameViews.{generic_globals}
use Rattle.gib_check.proofs.KnownWords.{types_known, each_known}
use Rattle.gib_check.proofs.Opening.{gives_same}
use Rattle.gib_check.proofs.known.all_known.Goals as goal

pub returns-clause-all : goal.returns-clause-all
returns-clause-all c =
    let datas = (generic_globals c.args.named.now).datas in
    let vars = variable_numbers c.args.variables.now in
    gives_same (λ _. tt {0}) c.known_words.result (all_known datas vars (types_in c.args.named.now.exprs.words c.args.run)) (known_words datas vars c.words.result.now)
    (sym (ap (known_words datas vars) c.words.ensures ∙ types_known datas vars (run_words c.args.named.now.exprs.words c.args.run) c.requires.1 c.requires.2))
    c.known_words.ensures

pub returns-clause-each : goal.returns-clause-each
returns-clause-each c =
    let datas = (generic_globals c.args.named.now).datas in
    let vars = variable_numbers c.args.variables.now in
    let words = run_words c.args.named.now.exprs.words c.args.run in
    gives_same (λ _. tt {0}) c.known_words.result (check_types datas vars (stack_of words)) (known_words datas vars c.words.result.now)
    (sym (ap (known_words datas vars) c.words.ensures ∙ types_known datas vars words c.requires.1 c.requires.2 ∙ each_known datas vars (stack_of words)))
    c.known_words.ensures
