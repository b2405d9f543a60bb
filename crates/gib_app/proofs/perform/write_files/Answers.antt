use Rattle.gib_app.specs.Writes.{writes_of}
use Rattle.gib_words.specs.Kept.{plan_of}
use Rattle.gib_app.specs.Kept.{file_of, packed_of}
use Rattle.gib_app.proofs.JobWriting.{second_stuck, one_stuck, stays_or_between}
use Rattle.gib_app.proofs.perform.write_files.Goals as goal

pub returns-in-Err-clause-stuck : goal.returns-in-Err-clause-stuck
returns-in-Err-clause-stuck g c =
    let r = plan_of c.args.plan in
    one_stuck g.S.Shelf.tells (g.S.Shelf.view c.args.shelf.now) (g.S.Shelf.view c.write_file.new.shelf) (file_of c.args.made.now) r.target (writes_of (packed_of c.args.made.now) r.pack)
    c.in-Err.stop c.in-Err.ensures.stuck

pub returns-in-Err-write_file-clause-stuck : goal.returns-in-Err-write_file-clause-stuck
returns-in-Err-write_file-clause-stuck g c =
    let r = plan_of c.args.plan in
    second_stuck g.S.Shelf.tells (g.S.Shelf.view c.args.shelf.now) (g.S.Shelf.view c.write_file.new.shelf) (g.S.Shelf.view c.write_file-2.new.shelf) (file_of c.args.made.now) r.target (writes_of (packed_of c.args.made.now) r.pack)
    c.in-Err-write_file.stop c.in-Ok.ensures.written c.in-Err-write_file.ensures.stuck

pub returns-in-Err-write_file-clause-same : goal.returns-in-Err-write_file-clause-same
returns-in-Err-write_file-clause-same g c =
    let r = plan_of c.args.plan in
    stays_or_between g.S.Shelf.tells (g.S.Shelf.view c.args.shelf.now) (g.S.Shelf.view c.write_file.new.shelf) (g.S.Shelf.view c.write_file-2.new.shelf) r (file_of c.args.made.now) (packed_of c.args.made.now)
    c.in-Err-write_file.ensures.named c.in-Err-write_file.ensures.there c.in-Ok.ensures.written.made c.in-Err-write_file.stop c.in-Err-write_file.ensures.stuck c.in-Err-write_file.ensures.same
