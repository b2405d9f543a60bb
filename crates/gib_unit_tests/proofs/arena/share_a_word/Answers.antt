use Rattle.gib_arena.proofs.Samples.{known_after, known_still}
use Rattle.gib_unit_tests.proofs.arena.share_a_word.Goals as goal

pub get-first-requires-clause-known : goal.get-first-requires-clause-known
get-first-requires-clause-known g c = (c.args.one, known_after _ _ _ _ _ c.join.ensures.known.1 c.join-a.ensures.second.1 c.split_beside-left.ensures.known)

pub get-second-requires-clause-known : goal.get-second-requires-clause-known
get-second-requires-clause-known g c = (c.args.two, known_still _ _ _ _ c.get-first.ensures.same (c.join.ensures.known.0.kept _ _ c.join-a.ensures.first.2))
