use Rattle.std.proofs.Common.{◌∙◌, arith}
use Rattle.std.proofs.lemmas.Result.{err_from_is_err_and}
use Rattle.gib_syntax.specs.Forms.{count_written}
use Rattle.gib_syntax.specs.Words.{run_words, types_in}
use Rattle.gib_syntax.specs.GenericTyping.{opaque, variable_numbers}
use Rattle.gib_check.specs.Faults.{all_known}
use Rattle.gib_check.specs.NameViews.{generic_globals}
use Rattle.gib_check.proofs.UseTypes.{count_fails, names_fail, names_follow, run_read, run_count}
use Rattle.gib_check.proofs.uses.type_arguments.Goals as goal

pub returns-in_err-as_many-clause-read : goal.returns-in_err-as_many-clause-read
returns-in_err-as_many-clause-read c =
    let p = err_from_is_err_and c.from_residual-in_err-as_many.result c.from_residual-in_err-as_many.ensures.1 in
    let ws = types_in c.args.around.now.named.now.exprs.words c.args.used.types in
    let many = run_count c.args.state.now.types c.read.new.self.types opaque c.words.result.now (run_words c.args.around.now.named.now.exprs.words c.args.used.types) c.in_ok-ids.ids.items c.in_ok-ids.ensures.read c.words.ensures in
    rw (p.1, p.2)
    (count_fails c.in_err-as_many.field-0.0 c.len.result (count_written ws) c.args.due c.args.used.name (all_known (generic_globals c.args.around.now.named.now).datas (variable_numbers c.args.around.now.variables.now) ws)
    (omega (arith, c.len.ensures, c.in_ok-ids.ids.ok) ∙ many) c.in_err-as_many.ensures)

pub returns-in_err-all_known-clause-read : goal.returns-in_err-all_known-clause-read
returns-in_err-all_known-clause-read c =
    let p = err_from_is_err_and c.from_residual-in_err-all_known.result c.from_residual-in_err-all_known.ensures.1 in
    let ws = types_in c.args.around.now.named.now.exprs.words c.args.used.types in
    let many = run_count c.args.state.now.types c.read.new.self.types opaque c.words.result.now (run_words c.args.around.now.named.now.exprs.words c.args.used.types) c.in_ok-ids.ids.items c.in_ok-ids.ensures.read c.words.ensures in
    rw (p.1, p.2)
    (names_fail c.in_err-all_known.field-0.0 c.len.result (count_written ws) c.args.due c.args.used.name (all_known (generic_globals c.args.around.now.named.now).datas (variable_numbers c.args.around.now.variables.now) ws)
    (omega (arith, c.len.ensures, c.in_ok-ids.ids.ok) ∙ many) c.in_ok-as_many.ensures c.in_err-all_known.ensures.all)

pub returns-clause-read : goal.returns-clause-read
returns-clause-read c =
    let ws = types_in c.args.around.now.named.now.exprs.words c.args.used.types in
    let many = run_count c.args.state.now.types c.read.new.self.types opaque c.words.result.now (run_words c.args.around.now.named.now.exprs.words c.args.used.types) c.in_ok-ids.ids.items c.in_ok-ids.ensures.read c.words.ensures in
    names_follow c.len.result (count_written ws) c.args.due c.args.used.name (all_known (generic_globals c.args.around.now.named.now).datas (variable_numbers c.args.around.now.variables.now) ws)
    (omega (arith, c.len.ensures, c.in_ok-ids.ids.ok) ∙ many) c.in_ok-as_many.ensures
    ∙ c.in_ok-all_known.ensures.all

pub returns-clause-types : goal.returns-clause-types
returns-clause-types c =
    run_read c.args.state.now.types c.read.new.self.types opaque c.words.result.now (run_words c.args.around.now.named.now.exprs.words c.args.used.types) c.in_ok-ids.ids.items c.in_ok-ids.ensures.read c.words.ensures
