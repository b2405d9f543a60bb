-- The first arm of a constructor.
use Rattle.std.proofs.Common.{◌≡◌, ℕ, ◌-◌, ◌<◌, ◌≤◌, List, [], ◌∷◌, length, take, drop, get_or, cond, Some, None, refl, sym, ap, ◌∙◌, subst, arith}
use Rattle.std.specs.List.{AllByRecursion}
use Rattle.std.proofs.lemmas.Bool.{eq-eqb, ne_eqb}
use Rattle.gib_syntax.specs.declared.exprs.Arm.{Arm}
use Rattle.gib_syntax.specs.declared.exprs.Node.{Node as Expr}
use Rattle.gib_syntax.specs.Arena.{IsArmBelow, ArmsBelow}
use Rattle.gib_syntax.specs.Parts.{Parts}
use Rattle.gib_core.specs.Inferring.{arm_for, con_named}
use Rattle.gib_infer.specs.Made.{globals_in, arm_at, arms_at}
use Rattle.gib_check.proofs.RowLists.{rest-is}

-- The arm is among those that are left.
pub record ArmsLeft (parts : Parts) (arms left : List Arm) (k : ℕ) : Type 0 where
  pub same : (exprs : List Expr) → arm_for (arms_at parts exprs left) k ≡ arm_for (arms_at parts exprs arms) k
  pub below : (id : ℕ) → ArmsBelow arms id → AllByRecursion (IsArmBelow id) left

all_below : (arms : List Arm) (id : ℕ) → ArmsBelow arms id → AllByRecursion (IsArmBelow id) arms
all_below [] id h = tt
all_below (arm ∷ arms) id h = (h.0, h.1)

pub arms_start : (parts : Parts) (arms : List Arm) (k : ℕ) → ArmsLeft parts arms arms k
arms_start parts arms k = record { same = λ exprs. refl; below = all_below arms }

pub arms_next : (parts : Parts) (arms left : List Arm) (k c : ℕ) (first : Arm) → 1 ≤ length left → first ≡ get_or left 0 first → c ≡ con_named (globals_in parts) first.constructor → (c ≡ k → ⊥) → ArmsLeft parts arms left k → ArmsLeft parts arms (take (length left - 1) (drop 1 left)) k
arms_next parts arms [] k c first le ef ec ne h = absurd (omega (arith, le))
arms_next parts arms (x ∷ left) k c first le ef ec ne h =
    subst (λ z. ArmsLeft parts arms z k) (sym (rest-is x left)) (record {
      same = λ exprs. sym (ap (λ b. cond b (Some (arm_at parts exprs x)) (arm_for (arms_at parts exprs left) k)) (ne_eqb (con_named (globals_in parts) x.constructor) k (λ e. ne (ec ∙ ap (λ (z : Arm). con_named (globals_in parts) z.constructor) ef ∙ e)))) ∙ h.same exprs;
      below = λ id b. (h.below id b).1;
    })

pub arms_found : (parts : Parts) (arms left : List Arm) (k c : ℕ) (first : Arm) → 1 ≤ length left → first ≡ get_or left 0 first → c ≡ con_named (globals_in parts) first.constructor → c ≡ k → ArmsLeft parts arms left k → (exprs : List Expr) → arm_for (arms_at parts exprs arms) k ≡ Some (arm_at parts exprs first)
arms_found parts arms [] k c first le ef ec e h exprs = absurd (omega (arith, le))
arms_found parts arms (x ∷ left) k c first le ef ec e h exprs =
    sym (h.same exprs)
    ∙ ap (λ b. cond b (Some (arm_at parts exprs x)) (arm_for (arms_at parts exprs left) k)) (eq-eqb (con_named (globals_in parts) x.constructor) k (sym (ec ∙ ap (λ (z : Arm). con_named (globals_in parts) z.constructor) ef) ∙ e))
    ∙ ap (λ (z : Arm). Some (arm_at parts exprs z)) (sym ef)

pub found_below : (parts : Parts) (arms left : List Arm) (k : ℕ) (first : Arm) → 1 ≤ length left → first ≡ get_or left 0 first → ArmsLeft parts arms left k → (id : ℕ) → ArmsBelow arms id → IsArmBelow id first
found_below parts arms [] k first le ef h id b = absurd (omega (arith, le))
found_below parts arms (x ∷ left) k first le ef h id b = subst (λ (z : Arm). IsArmBelow id z) (sym ef) (h.below id b).0

pub arms_end : (parts : Parts) (arms left : List Arm) (k : ℕ) → length left < 1 → ArmsLeft parts arms left k → (exprs : List Expr) → arm_for (arms_at parts exprs arms) k ≡ None
arms_end parts arms [] k lt h exprs = sym (h.same exprs)
arms_end parts arms (x ∷ left) k lt h exprs = absurd (omega (arith, lt))
