use Rattle.std.proofs.Common.{List, ℕ, ◌++◌, sym, ap, ◌∙◌, append_assoc}
use Rattle.gib_compact.specs.Gathered.{gathered}
use Rattle.gib_compact.proofs.GatheredLemmas.{gathered_last}
use Rattle.gib_compact.proofs.parts.add_all.Goals as goal

pub parts-preserved : goal.parts-preserved
parts-preserved c =
    let left = gathered c.pop.new.self.items in
    let part = c.in-Some.part in
    record {
      whole = ap (λ (q : List ℕ). q ++ left) (c.in_ok-extend_from_slice.ensures.items ∙ ap (λ (q : List ℕ). c.parts.out.items ++ q) c.deref.ensures.value)
          ∙ append_assoc c.parts.out.items part.items left
          ∙ ap (λ (q : List ℕ). c.parts.out.items ++ q) (sym (gathered_last c.pop.new.self.items part) ∙ ap gathered (sym c.in-Some.ensures.items))
          ∙ c.parts.invariant.whole;
    }
