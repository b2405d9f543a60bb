use Rattle.std.proofs.Common.{subst, sym, ◌∙◌, true, arith, List, ℕ}
use Rattle.std.specs.Prelude.{pos, negsuc}
use Rattle.gib_mem.specs.Memory.{Memory, Holds}
use Rattle.gib_packed.specs.Scalars.{number}
use Rattle.gib_packed.specs.Head.{address}
use Rattle.gib_packed.proofs.HoldsLemmas.{Holds-first}
use Rattle.gib_packed.proofs.Examples.{part}
use Rattle.gib_unit_tests.proofs.packed.read_scalars.Goals as goal

pub truth_at-truth-requires : goal.truth_at-truth-requires
truth_at-truth-requires g c = (true, Holds-first (part 19 1 (omega arith) c.requires))

pub whole_at-below-requires : goal.whole_at-below-requires
whole_at-below-requires g c = (negsuc 1, omega arith, subst (λ (m : Memory). Holds m.cells 20 (number (negsuc 1))) (sym c.truth_at-truth.ensures.same) (part 20 8 (omega arith) c.requires))

pub whole_at-above-requires : goal.whole_at-above-requires
whole_at-above-requires g c = (pos 258, omega arith, subst (λ (m : Memory). Holds m.cells 29 (number (pos 258))) (sym (c.whole_at-below.ensures.same ∙ c.truth_at-truth.ensures.same)) (part 29 8 (omega arith) c.requires))

pub word_at-address-requires : goal.word_at-address-requires
word_at-address-requires g c = (9, omega arith, subst (λ (m : Memory). Holds m.cells 39 (address 9)) (sym (c.whole_at-above.ensures.same ∙ c.whole_at-below.ensures.same ∙ c.truth_at-truth.ensures.same)) (part 39 8 (omega arith) c.requires))
