use Rattle.std.proofs.Common.{subst, sym}
use Rattle.gib_base.specs.declared.token.Dialect.{Dialect}
use Rattle.gib_app.specs.declared.make.Taken.TheVariants as taken
use Rattle.gib_app.specs.FromSource.{IsTaken}
use Rattle.gib_app.proofs.Finishing.{compiled_taken, written_taken}
use Rattle.gib_app.proofs.make.taken_from.Goals as goal

-- src/make.rt

pub returns-in-Ok-clause-taken : goal.returns-in-Ok-clause-taken
returns-in-Ok-clause-taken c =
    let T : Dialect → Type 0 = λ d. IsTaken d (taken.Program c.in-Ok.compiled) c.args.source.now in
    subst T (sym c.in-Source.is) (compiled_taken c.in-Ok.compiled c.args.source.now c.in-Ok.ensures.compiled c.in-Ok.ensures.ready)

pub returns-in-Ok-locate-clause-taken : goal.returns-in-Ok-locate-clause-taken
returns-in-Ok-locate-clause-taken c =
    let T : Dialect → Type 0 = λ d. IsTaken d (taken.Core c.in-Ok-locate.located) c.args.source.now in
    subst T (sym c.in-Located.is) (written_taken c.in-Ok-locate.located c.args.source.now c.in-Ok-locate.ensures.written)
