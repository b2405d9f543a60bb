use Rattle.std.proofs.Common.{rules}
use Rattle.gib_words.specs.Kept.{plan_of}
use Rattle.gib_app.specs.Kept.{file_of, packed_of}
use Rattle.gib_app.proofs.Staging.{first_unwritten, unmade, performed, unwritten}
use Rattle.gib_words.proofs.Forms.{in_range}
use Rattle.gib_app.proofs.perform.perform.Goals as goal

-- The first writes failed.
pub returns-in-Err-clause-stop : goal.returns-in-Err-clause-stop
returns-in-Err-clause-stop g c =
    first_unwritten g.S.Shelf.tells (g.S.Shelf.view c.args.shelf.now) (g.S.Shelf.view c.write_first.new.shelf) (plan_of c.args.plan) c.in-Err.stop c.in-Err.ensures.stuck

-- Nothing was made.
pub returns-in-Err-make-clause-stop : goal.returns-in-Err-make-clause-stop
returns-in-Err-make-clause-stop g c =
    unmade g.S.Shelf.tells (g.S.Shelf.view c.args.shelf.now) (g.S.Shelf.view c.write_first.new.shelf) (g.S.Shelf.view c.make.new.shelf) (plan_of c.args.plan) c.in-Err-make.stop
    c.in-Ok.ensures.written c.in-Err-make.ensures.stopped c.in-Err-make.ensures.stop

-- It was written.
pub returns-in-Ok-write_files-clause-done : goal.returns-in-Ok-write_files-clause-done
returns-in-Ok-write_files-clause-done g c =
    let made = c.in-Ok-make.made in
    performed g.S.Shelf.tells (g.S.Shelf.view c.args.shelf.now) (g.S.Shelf.view c.write_first.new.shelf) (g.S.Shelf.view c.make.new.shelf) (g.S.Shelf.view c.write_files.new.shelf) (plan_of c.args.plan)
    c.requires.asked c.in-Ok.ensures.written c.in-Ok-make.ensures.read (file_of made) (packed_of made) made.end c.in-Ok-make.ensures.made c.in-Ok-write_files.ensures.written

-- One of these writes failed.
pub returns-clause-stop : goal.returns-clause-stop
returns-clause-stop g c =
    let made = c.in-Ok-make.made in
    unwritten g.S.Shelf.tells (g.S.Shelf.view c.args.shelf.now) (g.S.Shelf.view c.write_first.new.shelf) (g.S.Shelf.view c.make.new.shelf) (g.S.Shelf.view c.write_files.new.shelf) (plan_of c.args.plan)
    c.requires.asked c.in-Ok.ensures.written c.in-Ok-make.ensures.read (file_of made) (packed_of made) made.end c.in-Ok-make.ensures.made
    c.in-Err-write_files.stop c.in-Err-write_files.ensures.stuck c.in-Err-write_files.ensures.same

-- What its words ask for is within the ranges.
pub make-requires : goal.make-requires
make-requires g c = (search rules, (search rules, in_range c.requires.asked.0 (plan_of c.args.plan) c.requires.asked.1))
