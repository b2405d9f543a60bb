-- Signs are told apart by their numbers, and those of operators by their operators.
use Rattle.std.proofs.Common.{◌≡◌, ℕ, true, List, [], ◌∷◌, get_or, Option, Some, None, refl, sym, ap, ◌∙◌, subst}
use Rattle.std.proofs.lemmas.Bool.{eqb-true}
use Rattle.gib_base.specs.declared.token.Sign.{Sign}
use Rattle.gib_base.specs.declared.token.Sign.TheVariants as s
use Rattle.gib_types.specs.declared.operator.Operator.{Operator}
use Rattle.gib_types.specs.declared.operator.Operator.TheVariants as o
use Rattle.gib_syntax.specs.Spelling.{sign_of}
use Rattle.gib_reads.specs.Readers.{number_of, same, operator_of}

all_signs : List Sign
all_signs =
    s.Data ∷ s.Fun ∷ s.Main ∷ s.Let ∷ s.Par ∷ s.And ∷ s.In ∷ s.If ∷ s.Then ∷ s.Else ∷ s.Case ∷ s.Of ∷ s.True ∷ s.False
    ∷ s.Int ∷ s.Bool ∷ s.Quotient ∷ s.Remainder ∷ s.Equals ∷ s.Bar ∷ s.Semicolon ∷ s.Open ∷ s.Close ∷ s.Colon
    ∷ s.OpenBrace ∷ s.CloseBrace ∷ s.OpenBracket ∷ s.CloseBracket ∷ s.Arrow ∷ s.Plus ∷ s.Minus ∷ s.Times ∷ s.Same
    ∷ s.Less ∷ s.Comma ∷ s.At ∷ s.Offsets ∷ s.LetRegion ∷ s.LetLocation ∷ s.Reach ∷ s.By ∷ s.Offset ∷ s.Skip ∷ s.End
    ∷ s.Give ∷ s.Point ∷ s.Start ∷ s.After ∷ []

numbered : ℕ → Sign
numbered n = get_or all_signs n s.Data

numbered-number_of : (a : Sign) → numbered (number_of a) ≡ a
unfolding numbered all_signs
numbered-number_of a = elim a as (λ k. numbered (number_of k) ≡ k) [
  | s.Data ↦ refl
  | s.Fun ↦ refl
  | s.Main ↦ refl
  | s.Let ↦ refl
  | s.Par ↦ refl
  | s.And ↦ refl
  | s.In ↦ refl
  | s.If ↦ refl
  | s.Then ↦ refl
  | s.Else ↦ refl
  | s.Case ↦ refl
  | s.Of ↦ refl
  | s.True ↦ refl
  | s.False ↦ refl
  | s.Int ↦ refl
  | s.Bool ↦ refl
  | s.Quotient ↦ refl
  | s.Remainder ↦ refl
  | s.Equals ↦ refl
  | s.Bar ↦ refl
  | s.Semicolon ↦ refl
  | s.Open ↦ refl
  | s.Close ↦ refl
  | s.Colon ↦ refl
  | s.OpenBrace ↦ refl
  | s.CloseBrace ↦ refl
  | s.OpenBracket ↦ refl
  | s.CloseBracket ↦ refl
  | s.Arrow ↦ refl
  | s.Plus ↦ refl
  | s.Minus ↦ refl
  | s.Times ↦ refl
  | s.Same ↦ refl
  | s.Less ↦ refl
  | s.At ↦ refl
  | s.Offsets ↦ refl
  | s.LetRegion ↦ refl
  | s.LetLocation ↦ refl
  | s.Reach ↦ refl
  | s.By ↦ refl
  | s.Offset ↦ refl
  | s.Skip ↦ refl
  | s.End ↦ refl
  | s.Give ↦ refl
  | s.Point ↦ refl
  | s.Start ↦ refl
  | s.After ↦ refl
  | s.Comma ↦ refl
]

pub same_is : (a b : Sign) → same a b ≡ true → a ≡ b
same_is a b e = sym (numbered-number_of a) ∙ ap numbered (eqb-true (number_of a) (number_of b) e) ∙ numbered-number_of b

-- ---- operators

pub operator_back : (f : Operator) → operator_of (sign_of f) ≡ Some f
operator_back f = elim f as (λ g. operator_of (sign_of g) ≡ Some g) [
  | o.Add ↦ refl
  | o.Subtract ↦ refl
  | o.Multiply ↦ refl
  | o.Equal ↦ refl
  | o.Less ↦ refl
  | o.Quotient ↦ refl
  | o.Remainder ↦ refl
]

-- The sign is that of the operator, where there is one.
abbrev IsSignOf : Sign → Option Operator → Type 0
IsSignOf a None = Unit {0}
IsSignOf a (Some f) = a ≡ sign_of f

sign_back : (a : Sign) → IsSignOf a (operator_of a)
sign_back s.Plus = refl
sign_back s.Minus = refl
sign_back s.Times = refl
sign_back s.Same = refl
sign_back s.Less = refl
sign_back s.Quotient = refl
sign_back s.Remainder = refl
sign_back a = tt {0}

pub sign_is : (a : Sign) (f : Operator) → operator_of a ≡ Some f → a ≡ sign_of f
sign_is a f e = subst (IsSignOf a) e (sign_back a)
