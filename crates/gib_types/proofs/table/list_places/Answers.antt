use Rattle.std.proofs.Common.{arith}
use Rattle.std.proofs.lemmas.Option.{slice_get_within}
use Rattle.gib_types.proofs.Indexes.{put_next, put_only}
use Rattle.gib_types.proofs.table.list_places.Goals as goal

pub constructors-preserved : goal.constructors-preserved
constructors-preserved c = (
  omega arith,
  put_next c.args.constructors.now c.constructors.con c.index-constructors-con.result _ _ c.requires.differ c.constructors-test.true c.constructors.invariant.1 c.in_ok-set.ensures.set,
  put_only c.args.constructors.now c.constructors.con c.index-constructors-con.result _ _ c.constructors-test.true c.constructors.invariant.2 c.in_ok-set.ensures.set,
)

pub returns : goal.returns
returns c = record {
  each = λ i d is. c.constructors.invariant.1 i d (let lt = slice_get_within c.args.constructors.now i d is in omega arith) is;
  only = c.constructors.invariant.2;
}
