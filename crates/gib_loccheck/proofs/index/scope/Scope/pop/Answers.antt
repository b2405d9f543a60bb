use Rattle.gib_loccheck.proofs.FoundLemmas.{known_popped}
use Rattle.gib_loccheck.proofs.index.scope.Scope.pop.Goals as goal

pub invariant_of-self-in-Some : goal.invariant_of-self-in-Some
invariant_of-self-in-Some c =
    known_popped c.self.inside.entries.items c.deref.result.now c.pop.new.self.items _ c.self.inside.known c.set.new.self c.in-Some.entry.now c.self.invariant c.deref.ensures.value c.self.inside.entries.ok.0 c.in-Some.ensures.item.3.0 c.in-Some.ensures.item.1 c.pop.ensures.rest c.in_ok-set.ensures.set
