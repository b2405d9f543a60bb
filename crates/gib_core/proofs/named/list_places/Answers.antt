use Rattle.std.proofs.Common.{arith}
use Rattle.gib_core.proofs.FirstNamed.{index_next}
use Rattle.gib_core.proofs.named.list_places.Goals as goal

pub functions-preserved : goal.functions-preserved
functions-preserved c = (
  omega arith,
  index_next c.args.functions.now c.functions.next c.index-functions-next.result c.functions.places c.put_place.new.places
      c.functions.invariant.0 c.functions-test.true c.index-functions-next.is c.in_ok-put_place.ensures c.functions.invariant.1,
)
