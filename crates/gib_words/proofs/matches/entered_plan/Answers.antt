use Rattle.clap.specs.declared.parser.matches.ArgMatches.TheViews.{out-ArgMatches}
use Rattle.gib_words.specs.Kept.{plan_of}
use Rattle.std.specs.Prelude.{option_map}
use Rattle.gib_words.proofs.Entering.{entered_asked}
use Rattle.gib_words.proofs.matches.entered_plan.Goals as goal

pub returns : goal.returns
returns c = entered_asked (out-ArgMatches c.args.matches.now).subcommand _ _ (option_map plan_of c.command_plan.result)
    c.in_ok-name.ensures.name c.in_ok-name.ensures.rows c.command_plan.ensures
