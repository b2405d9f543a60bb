use Rattle.std.proofs.Common.{◌≡◌, ℕ, suc, ◌+◌, ◌-◌, ◌<◌, List, ◌++◌, sym, ap, ◌∙◌, arith}
use Rattle.std.proofs.lemmas.List.{append_assoc}
use Rattle.std.specs.List.{flat_map}
use Rattle.gib_types.specs.Table.{numbers_from}
use Rattle.gib_code.specs.ListingText.{slot_text}
use Rattle.gib_code.proofs.text.push_targets.Goals as goal

-- The texts of slots from one on, that one first.
first_text : (x m : ℕ) → x < m → flat_map slot_text (numbers_from x (m - x)) ≡ slot_text x ++ flat_map slot_text (numbers_from (x + 1) (m - (x + 1)))
first_text x m h =
    let e : m - x ≡ suc (m - (x + 1)) = omega (arith, h) in
    let f : suc x ≡ x + 1 = omega arith in
    ap (λ (n : ℕ). flat_map slot_text (numbers_from x n)) e ∙ ap (λ (y : ℕ). slot_text x ++ flat_map slot_text (numbers_from y (m - (x + 1)))) f

pub slots-preserved : goal.slots-preserved
slots-preserved c =
    let x = c.slots.slot in
    let m = c.from-slot.result + c.from.result in
    let h = c.slots-test.true in
    record {
      text = ap (λ (l : List ℕ). l ++ flat_map slot_text (numbers_from (x + 1) (m - (x + 1)))) c.in_ok-push_slot_at.ensures
          ∙ append_assoc c.slots.out.items (slot_text x) (flat_map slot_text (numbers_from (x + 1) (m - (x + 1))))
          ∙ ap (λ (l : List ℕ). c.slots.out.items ++ l) (sym (first_text x m h)) ∙ c.slots.invariant.text;
      most = omega (arith, h);
    }
