use Rattle.gib_print.proofs.print.put_made.Goals as goal

pub returns-in-Err : goal.returns-in-Err
returns-in-Err g c = record {
  later = c.put_all.ensures.cause.later;
  rose = c.in-Err.ensures.cause.failed;
  part = c.in-Err.ensures.part;
  some = c.in-Err.ensures.some;
}

pub returns-in-Ok : goal.returns-in-Ok
returns-in-Ok g c = record {
  quiet = c.in-Ok.ensures.cause.quiet;
  taken = c.in-Ok.ensures.ok;
  pieces = c.in-Ok.ensures.pieces;
}
