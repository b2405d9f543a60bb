use Rattle.std.proofs.lemmas.Result.{on_ok_weaker}
use Rattle.gib_mono.proofs.Baring.{data_bare}
use Rattle.gib_mono.proofs.plain.push_type.Goals as goal

pub returns-in-Data : goal.returns-in-Data
returns-in-Data c =
    on_ok_weaker c.put-in-Data.result
    (λ q. data_bare c.args.word c.in-Data.span c.in-Data.x c.in-Data.count c.args.stack.now c.skip.new.self c.put-in-Data.new.self c.in-Data.is c.skip.ensures q)
    c.put-in-Data.ensures
