use Rattle.std.proofs.Common.{◌≡◌, Result, Ok, IfOk, subst}
use Rattle.std.proofs.lemmas.Result.{IfOk-weaker}
use Rattle.clap.specs.Simple.{app_of}
use Rattle.gib_words.proofs.Adding.{adds_command}
use Rattle.gib_words.proofs.commands.add_command.Goals as goal

held : {T E : Type 0} (r : Result T E) (x : T) (P : T → Type 0) → r ≡ Ok x → IfOk r P → P x
held r x P is h = subst (λ s. IfOk s P) is h

pub returns : goal.returns
returns c = λ old added program_is command_is plain.
    let program = held c.args.program c.in_ok-program.field-0 (λ p. app_of p ≡ old) c.in_ok-program.was program_is in
    let command = held c.args.command c.in_ok-command.field-0 (λ p. app_of p ≡ added) c.in_ok-command.was command_is in
    IfOk-weaker c.subcommand.result _ _ (λ new' adds. adds_command _ _ _ _ _ adds program command plain) c.subcommand.ensures
