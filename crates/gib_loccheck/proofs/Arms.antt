-- Branches against the constructors of a type, one after another.
use Rattle.std.proofs.Common.{◌≡◌, ℕ, zero, suc, ◌+◌, ◌-◌, ◌≤◌, Bool, true, List, [], ◌∷◌, length, take, drop, get_or, refl, sym, ap, ◌∙◌, arith, subst}
use Rattle.std.proofs.Math.Seq.{take-length}
use Rattle.std.specs.Prelude.{◌==◌, ◌&&◌}
use Rattle.gib_types.specs.Table.{Table, fields_at}
use Rattle.gib_core.specs.declared.node.Branch.{Branch}
use Rattle.gib_core.specs.Inferring.{numbers_from}
use Rattle.gib_core.specs.Rules.{are_arms}
use Rattle.gib_loccheck.specs.Views.{arms_in}

-- The first branch is the next constructor's: what is left to judge are the others.
pub arms_next : (table : Table) (k m : ℕ) (branch : Branch) (left : List Branch) → 1 ≤ length left → branch ≡ get_or left 0 branch → (m ≡ 0 → ⊥)
    → (k == branch.constructor.0 && length (fields_at table k) == length branch.variables.items) ≡ true
    → are_arms table (numbers_from (k + 1) (m - 1)) (arms_in (take (length left - 1) (drop 1 left))) ≡ are_arms table (numbers_from k m) (arms_in left)
arms_next table k m branch [] long at more ok = absurd (omega (arith, long))
arms_next table k zero branch (b ∷ left) long at more ok = absurd (more refl)
arms_next table k (suc m) branch (b ∷ left) long at more ok =
    let fewer : suc m - 1 ≡ m = omega arith in
    let next : k + 1 ≡ suc k = omega arith in
    let count : length (b ∷ left) - 1 ≡ length left = omega arith in
    let rest : take (length (b ∷ left) - 1) left ≡ left = ap (λ (n : ℕ). take n left) count ∙ take-length left in
    let fits = subst (λ (z : Branch). (k == z.constructor.0 && length (fields_at table k) == length z.variables.items) ≡ true) at ok in
    (λ i. are_arms table (numbers_from (next i) (fewer i)) (arms_in (rest i)))
    ∙ sym (ap (λ (t : Bool). t && are_arms table (numbers_from (suc k) m) (arms_in left)) fits)
