use Rattle.std.proofs.Common.{IfErr, subst}
use Rattle.gib_base.specs.Texts.{TextsView}
use Rattle.gib_app.specs.declared.make.Taken.{Taken}
use Rattle.gib_app.specs.Formats.{dialect_of}
use Rattle.gib_app.specs.FromSource.{StandsFor}
use Rattle.gib_words.specs.Kept.{plan_of}
use Rattle.gib_app.specs.Running.{Program}
use Rattle.gib_app.specs.Stops.{IsInputsStop}
use Rattle.gib_app.proofs.Finishing.{by_core, by_program}
use Rattle.gib_app.proofs.make.finish.Goals as goal

-- src/make.rt

pub returns-in-Program-clause-stop : goal.returns-in-Program-clause-stop
returns-in-Program-clause-stop g c = λ p names stands.
    let d = dialect_of c.args.plan.job in
    let S : Taken → Type 0 = λ t. StandsFor d t p names in
    let Q : Program → TextsView → Type 0 = λ q ns. IfErr c.finish_program.result (IsInputsStop (g.S.Shelf.view c.args.shelf.now) (g.S.Shelf.view c.finish_program.new.shelf) (plan_of c.args.plan) q ns) in
    by_program d c.in-Program.compiled p names Q (subst S c.in-Program.is stands) c.finish_program.ensures.stop

pub returns-in-Core-clause-stop : goal.returns-in-Core-clause-stop
returns-in-Core-clause-stop g c = λ p names stands.
    let d = dialect_of c.args.plan.job in
    let S : Taken → Type 0 = λ t. StandsFor d t p names in
    let Q : TextsView → Type 0 = λ ns. IfErr c.finish_core.result (IsInputsStop (g.S.Shelf.view c.args.shelf.now) (g.S.Shelf.view c.finish_core.new.shelf) (plan_of c.args.plan) p ns) in
    by_core d c.in-Core.located p names Q (subst S c.in-Core.is stands) (c.finish_core.ensures.stop p)
