-- The first broken rule of a line is the smallest.
use Rattle.std.proofs.Common.{◌≡◌, ℕ, ◌≤◌, Bool, true, false, if◌then◌else◌, List, [], ◌∷◌, Some, ap, arith}
use Rattle.std.specs.Prelude.{unwrap_or}
use Rattle.gib_core.specs.declared.atom.Kind.TheVariants.{Here, Region, Scalar}
use Rattle.gib_core.specs.Tree.{CoreTree}
use Rattle.gib_core.specs.Met.{Setting, Line, PastLine, SideLine, ParLine, PrimLine, ReachLine, WriteLine, PointLine, CallLine, GiveLine, CaseLine, IfLine, SeveralLine, TupleLine, PartLine}
use Rattle.gib_core.specs.Rules.{Before, Judgement, least, rules}
use Rattle.gib_loccheck.specs.RuleOrder.{RisesPast, NoneBelow}

rules_rise : (core : CoreTree) (b : Before) (s : Setting) (line : Line) → RisesPast 0 (rules core b s line)
rules_rise core b s (PastLine h k) = (omega arith, (omega arith, tt {0}))
rules_rise core b s (SideLine Here x ty) = (omega arith, (omega arith, (omega arith, tt {0})))
rules_rise core b s (SideLine Region x ty) = (omega arith, (omega arith, tt {0}))
rules_rise core b s (SideLine Scalar x ty) = (omega arith, (omega arith, tt {0}))
rules_rise core b s ParLine = tt {0}
rules_rise core b s (PrimLine x f y z) = (omega arith, (omega arith, (omega arith, tt {0})))
rules_rise core b s (ReachLine y by) = (omega arith, (omega arith, tt {0}))
rules_rise core b s (WriteLine h k ss ps) = (omega arith, (omega arith, (omega arith, (omega arith, tt {0}))))
rules_rise core b s (PointLine x) = (omega arith, (omega arith, (omega arith, (omega arith, tt {0}))))
rules_rise core b s (CallLine f xs) = (omega arith, (omega arith, (omega arith, (omega arith, tt {0}))))
rules_rise core b s (GiveLine x) = (omega arith, (omega arith, (omega arith, tt {0})))
rules_rise core b s (CaseLine x arms) = (omega arith, (omega arith, (omega arith, tt {0})))
rules_rise core b s (IfLine x) = (omega arith, (omega arith, (omega arith, tt {0})))
rules_rise core b s (SeveralLine xs tys) = (omega arith, (omega arith, tt {0}))
rules_rise core b s (TupleLine tys ss packed) = (omega arith, (omega arith, (omega arith, (omega arith, tt {0}))))
rules_rise core b s PartLine = tt {0}

none_below : (n : ℕ) (js : List Judgement) → RisesPast n js → (rule : ℕ) → rule ≤ n → NoneBelow rule js
none_below n [] h rule le = tt {0}
none_below n (j ∷ js) h rule le = (λ _. omega (arith, h.0, le), none_below j.0 js h.1 rule (omega (arith, h.0, le)))

smallest : (n : ℕ) (js : List Judgement) → RisesPast n js → (rule : ℕ) → least js ≡ Some rule → NoneBelow rule js
smallest n [] h rule e = tt {0}
smallest n (j ∷ js) h rule e = go j.1 (none_below j.0 js h.1) (smallest j.0 js h.1 rule) e
  where
    go : (b : Bool) → ((r : ℕ) → r ≤ j.0 → NoneBelow r js) → (least js ≡ Some rule → NoneBelow rule js)
        → (if b then Some j.0 else least js) ≡ Some rule → (b ≡ true → rule ≤ j.0) × NoneBelow rule js
    go true above later u = let same : j.0 ≡ rule = ap (λ o. unwrap_or o 0) u in (λ _. omega (arith, same), above rule (omega (arith, same)))
    go false above later u = (λ f. absurd cc, later u)

pub least_is_smallest : (core : CoreTree) (b : Before) (s : Setting) (line : Line) (rule : ℕ) → least (rules core b s line) ≡ Some rule → NoneBelow rule (rules core b s line)
least_is_smallest core b s line = smallest 0 (rules core b s line) (rules_rise core b s line)
