use Rattle.gib_packed.proofs.StoredLemmas.{stored_of, stored_is}
use Rattle.gib_packed.proofs.WalkLemmas.{known_below}
use Rattle.gib_packed.proofs.read.field_by_offset.Goals as goal

pub word_at-requires : goal.word_at-requires
word_at-requires g c =
    let r = stored_of (known_below (g.M.Mem.view c.args.mem.now) (g.met.M.Mem.bounded c.args.mem.now)) c.requires.stored c.requires.value.3 in
    (r.3.place, r.3.small, r.3.holds)

pub returns-clause-place : goal.returns-clause-place
returns-clause-place g c = λ t k vs z v p y d f.
    let r = stored_is (known_below (g.M.Mem.view c.args.mem.now) (g.met.M.Mem.bounded c.args.mem.now)) c.requires.stored d f in
    c.word_at.ensures.value p r.1 r.0
