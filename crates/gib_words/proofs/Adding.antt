-- The commands and their arguments, one after another.
use Rattle.std.proofs.Common.{◌≡◌, ◌∙◌, true, false, ap, ap₂}
use Rattle.clap.specs.Walk.{Rule, rule_of}
use Rattle.clap.specs.Simple.{App, app_of, shape_of, with_rule, with_subcommand}
use Rattle.clap.specs.Built.{AddsArg, AddsSubcommand}
use Rattle.clap.specs.declared.builder.arg.Arg.{Arg}
use Rattle.clap.specs.declared.builder.command.Command.{Command}
use Rattle.clap.specs.declared.builder.command.Command.TheViews.{out-Command}
use Rattle.clap.proofs.WalkLemmas.{both}
use Rattle.clap.proofs.SimpleLemmas.{is_false}

-- A plain command has no global argument.
plain_local : (c : Command) → (shape_of c).is_plain ≡ true → (out-Command c).has_globals ≡ false
plain_local c plain = is_false _ (both _ _ (both _ _ (both _ _ plain).1).1).0

-- A program with one more command, by what clap sees of both.
pub adds_command : (old sub new : Command) (program command : App) → AddsSubcommand old sub new → app_of old ≡ program → app_of sub ≡ command
    → command.top.is_plain ≡ true → app_of new ≡ with_subcommand program command.top
adds_command old sub new program command adds old_is sub_is plain =
    adds.shape (plain_local sub (ap (λ (a : App). a.top.is_plain) sub_is ∙ plain)) ∙ ap₂ with_subcommand old_is (ap (λ (a : App). a.top) sub_is)

-- A command with one more argument that is no global one.
pub adds_rule : (old new : Command) (argument : Arg) (before : App) (rule : Rule) → AddsArg old argument new → app_of old ≡ before → rule_of argument ≡ rule
    → argument.global ≡ false → app_of new ≡ with_rule before rule
adds_rule old new argument before rule adds old_is rule_is local = adds.shape local ∙ ap₂ with_rule old_is rule_is
