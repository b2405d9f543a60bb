-- The tokens of types, by their words from the first to the last: what stands open is kept, since types nest without a bound.
use Rattle.std.specs.Prelude.{ℕ, zero, suc, List, [], ◌∷◌, ◌++◌}
use Rattle.gib_base.specs.declared.name.Name.{Name}
use Rattle.gib_base.specs.declared.token.Sign.TheVariants as s
use Rattle.gib_base.specs.declared.token.Token.{Token}
use Rattle.gib_base.specs.declared.token.Token.TheVariants as t
use Rattle.gib_syntax.specs.declared.written.Word.{Word}
use Rattle.gib_syntax.specs.declared.written.Word.TheVariants as w

-- Tokens, and of each type that stands open in parentheses, the innermost first, how many arguments are due.
pub record TypesSpelled : Type 0 where
  pub tokens : List Token
  pub due : List ℕ

-- Nothing yet.
abbrev pub unspelled : TypesSpelled
unspelled = record { tokens = []; due = [] }

-- An argument of the innermost type has ended, and so has each type whose last one that is.
abbrev pub closed : List Token → List ℕ → TypesSpelled
closed ts [] = record { tokens = ts; due = [] }
closed ts (zero ∷ ds) = closed (ts ++ t.Sign s.Close ∷ []) ds
closed ts (suc zero ∷ ds) = closed (ts ++ t.Sign s.Close ∷ []) ds
closed ts (suc (suc n) ∷ ds) = record { tokens = ts; due = suc n ∷ ds }

-- A token that is a type by itself.
abbrev pub alone : TypesSpelled → Token → TypesSpelled
alone p x = closed (p.tokens ++ x ∷ []) p.due

-- A type that opens.
abbrev pub opened : TypesSpelled → Name → ℕ → TypesSpelled
opened p k n = record { tokens = (p.tokens ++ t.Sign s.Open ∷ []) ++ t.Constructor k ∷ []; due = n ∷ p.due }

-- A declared type with so many arguments.
abbrev pub declared : TypesSpelled → Name → ℕ → TypesSpelled
declared p k zero = alone p (t.Constructor k)
declared p k (suc n) = opened p k (suc n)

-- One more word.
abbrev pub spelled : TypesSpelled → Word → TypesSpelled
spelled p (w.Whole q) = alone p (t.Sign s.Int)
spelled p (w.Truth q) = alone p (t.Sign s.Bool)
spelled p (w.Variable x) = alone p (t.Variable x.name)
spelled p (w.Data q x n) = declared p x.name n

-- More words.
abbrev pub all_spelled : TypesSpelled → List Word → TypesSpelled
all_spelled p [] = p
all_spelled p (x ∷ xs) = all_spelled (spelled p x) xs
