use Rattle.std.proofs.Common.{ap, sym}
use Rattle.std.specs.Prelude.{option_and_then}
use Rattle.clap.specs.Walk.{rows_of}
use Rattle.clap.specs.declared.parser.matches.ArgMatches.TheViews.{out-ArgMatches}
use Rattle.gib_words.specs.Words.{Form, forms, planned}
use Rattle.gib_words.proofs.Entering.{absent}
use Rattle.gib_words.proofs.matches.read_plan.Goals as goal

pub returns-in_default : goal.returns-in_default
returns-in_default c =
    let other = c.in_default in
    let rows = rows_of (out-ArgMatches c.args.matches.now).found in
    let none = absent forms c.args.name.now (
      (λ e. other.not-run (sym e)),
      (
        (λ e. other.not-plain (sym e)),
        (
          (λ e. other.not-check (sym e)),
          (
            (λ e. other.not-core (sym e)),
            (
              (λ e. other.not-code (sym e)),
              (
                (λ e. other.not-pack (sym e)),
                ((λ e. other.not-show (sym e)), ((λ e. other.not-trace (sym e)), ((λ e. other.not-replay (sym e)), ((λ e. other.not-local (sym e)), tt)))),
              ),
            ),
          ),
        ),
      ),
    ) in
    sym (ap (option_and_then (λ (form : Form). planned form.job form.second form.third form.target form.pack rows)) none)
