use Rattle.std.proofs.lemmas.Result.{on_ok_weaker}
use Rattle.gib_check.proofs.Read.{data_place}
use Rattle.gib_check.proofs.reading.push_place.Goals as goal

pub returns-in-Data : goal.returns-in-Data
returns-in-Data c =
    on_ok_weaker c.put-in-Data.result
    (λ q. data_place c.args.word c.in-Data.span _ c.in-Data.count c.args.stack.now c.skip.new.self c.put-in-Data.new.self c.in-Data.is c.skip.ensures q)
    c.put-in-Data.ensures
