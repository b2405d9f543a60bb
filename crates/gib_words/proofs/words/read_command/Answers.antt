use Rattle.std.proofs.Common.{sym, true≢false}
use Rattle.gib_words.specs.Words.{bytes_of}
use Rattle.clap.specs.Simple.{app_of, subcommand_rows_of}
use Rattle.gib_words.proofs.Taking.{nothing_asked, parsed_plan}
use Rattle.gib_words.proofs.words.read_command.Goals as goal

pub returns-in-Ok : goal.returns-in-Ok
returns-in-Ok c = parsed_plan (app_of c.in_ok-command_set.field-0) (bytes_of c.args.words.now) _ (subcommand_rows_of c.in-Ok.matches) _
    c.in_ok-command_set.ensures c.in-Ok.ensures.matches c.in-Ok.ensures.kinds c.entered_plan.ensures

pub returns : goal.returns
returns c = nothing_asked (app_of c.in_ok-command_set.field-0) (bytes_of c.args.words.now) c.in_ok-command_set.ensures (λ taken. true≢false (sym (c.if-is_want_of_memory.ensures.1 (c.in-Err.ensures.passes taken))))
