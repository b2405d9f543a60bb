use Rattle.std.proofs.Common.{sym, subst, Option}
use Rattle.gib_words.specs.declared.plan.MadeNames.{MadeNames}
use Rattle.gib_app.specs.FirstWrites.{HasStuck}
use Rattle.gib_words.specs.Kept.{first_of}
use Rattle.gib_app.proofs.first.write_first.Goals as goal

-- src/first.rt
pub returns-in-Err-clause-stuck : goal.returns-in-Err-clause-stuck
returns-in-Err-clause-stuck g c =
    let P : Option MadeNames → Type 0 = λ names. HasStuck g.S.Shelf.tells (g.S.Shelf.view c.args.shelf.now) (g.S.Shelf.view c.write_made.new.shelf) (first_of c.args.plan.options names) c.in-Err.stop in
    subst P (sym c.in-Some.is) c.in-Err.ensures.stuck
