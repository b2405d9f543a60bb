-- GenericArms, printed from the last one on.
use Rattle.std.proofs.Common.{◌≡◌, ◌≤◌, ℕ, zero, suc, List, [], ◌∷◌, length, get_or, drop, refl, ap, ◌∙◌, arith}
use Rattle.gib_base.specs.declared.token.Sign.TheVariants as s
use Rattle.gib_base.specs.declared.token.Token.{Token}
use Rattle.gib_base.specs.declared.token.Token.TheVariants as t
use Rattle.gib_syntax.specs.declared.exprs.Arm.{Arm}
use Rattle.gib_syntax.specs.GenericTree.{GenericExpression}
use Rattle.gib_syntax.specs.Spelling.{spell_arms}
use Rattle.gib_syntax.specs.GenericArena.{arms_from}
use Rattle.gib_syntax.specs.Printing.{spell_arm, spell_further, spell_all_arms}

-- The first arm before the further ones.
arms_printed : (f : ℕ → GenericExpression) (arm : Arm) (arms : List Arm) (rest : List Token) → spell_arm f arm (spell_further f arms rest) ≡ spell_arms (arms_from f arm arms) rest
arms_printed f arm [] rest = refl
arms_printed f arm (next ∷ arms) rest = ap (λ (l : List Token). spell_arm f arm (t.Sign s.Semicolon ∷ l)) (arms_printed f next arms rest)

-- The first arm before the further ones, where the loop stopped at the second one.
pub all_arms_printed : (f : ℕ → GenericExpression) (arms : List Arm) (n : ℕ) (first : Arm) (rest : List Token) → 1 ≤ n → n ≤ length arms → n ≤ 1 → first ≡ get_or arms 0 first
    → spell_arm f first (spell_further f (drop n arms) rest) ≡ spell_all_arms f arms rest
all_arms_printed f [] n first rest le in_arms stopped e = absurd (omega arith)
all_arms_printed f (arm ∷ arms) zero first rest le in_arms stopped e = absurd (omega arith)
all_arms_printed f (arm ∷ arms) (suc zero) first rest le in_arms stopped e = ap (λ (a : Arm). spell_arm f a (spell_further f arms rest)) e ∙ arms_printed f arm arms rest
all_arms_printed f (arm ∷ arms) (suc (suc n)) first rest le in_arms stopped e = absurd (omega arith)
