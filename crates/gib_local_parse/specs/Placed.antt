-- Trees that stand where their words stand, in so many levels.
use Rattle.std.specs.Prelude.{◌≡◌, ◌<◌, ℕ, false, zero, suc, ◌^◌, List, [], ◌∷◌, length, Option, Some, None, Ok}
use Rattle.gib_base.specs.declared.token.Sign.TheVariants as s
use Rattle.gib_syntax.specs.declared.tree.Ident.{Ident}
use Rattle.gib_syntax.specs.declared.tree.TypeName.{TypeName}
use Rattle.gib_syntax.specs.declared.tree.TypeName.TheVariants as ty
use Rattle.gib_local_parse.specs.Tree.{Mark, Operand, Named, Number, Bit, Location, Start, Plus, After, Way, ByOffset, BySkip, ByEnd, Line, In, Given, Pointed, Called, Made, Cased, Chosen, Binding, NewRegion, NewPlace, LetIn, ParIn, PrimIn, ReachIn, Bound, Be, Arms, LastArm, NextArm}
use Rattle.gib_base.specs.declared.token.Token.{Token}
use Rattle.gib_base.specs.declared.token.Token.TheVariants as t
use Rattle.gib_reads.specs.Readers.{Read, before}
use Rattle.gib_syntax.specs.Spelling.{Places}
use Rattle.gib_reads.specs.Readers.{next_is}
use Rattle.gib_local_parse.specs.Grammar.{starts_operand, option_at, sign, lower, upper, operand_word, operator_word, type_word, spell_mark, spell_option, spell_operands, spell_names, spell_location, spell_way, spell_between, spell_line, spell_binding, spell_bound, spell_arms}

-- A name stands before these words.
abbrev pub IsAt : Places → Ident → List Token → Type 0
IsAt at x rest = x.span ≡ before at rest

-- An `@` and its name stand before these words.
abbrev pub MarkAt : Places → Mark → List Token → Type 0
MarkAt at m rest = (m.sign ≡ before at (lower m.name ∷ rest)) × IsAt at m.name rest

-- So does an `@` that may be absent.
abbrev pub OptionAt : Places → Option Mark → List Token → Type 0
OptionAt at None rest = Unit {0}
OptionAt at (Some m) rest = MarkAt at m rest

-- An operand stands before these words; a number is below the bound of literals.
abbrev pub OperandAt : Places → Operand → List Token → Type 0
OperandAt at (Named x) rest = IsAt at x rest
OperandAt at (Number p n) rest = (p ≡ before at rest) × (n < 2 ^ 63)
OperandAt at (Bit p b) rest = p ≡ before at rest

-- Operands do, each before those behind it.
abbrev pub OperandsAt : Places → List Operand → List Token → Type 0
OperandsAt at [] rest = Unit {0}
OperandsAt at (x ∷ xs) rest = OperandAt at x (spell_operands xs rest) × OperandsAt at xs rest

-- Names do, each before those behind it.
abbrev pub NamesAt : Places → List Ident → List Token → Type 0
NamesAt at [] rest = Unit {0}
NamesAt at (x ∷ xs) rest = IsAt at x (spell_names xs rest) × NamesAt at xs rest

-- A type stands before these words.
abbrev pub TypeAt : Places → TypeName → List Token → Type 0
TypeAt at (ty.Whole p) rest = p ≡ before at rest
TypeAt at (ty.Truth p) rest = p ≡ before at rest
TypeAt at (ty.Declared x) rest = IsAt at x rest

-- A location does, with its names.
abbrev pub LocationAt : Places → Location → List Token → Type 0
LocationAt at (Start r) rest = IsAt at r rest
LocationAt at (Plus d k) rest = IsAt at d (sign s.Plus ∷ upper k ∷ rest) × IsAt at k rest
LocationAt at (After x) rest = IsAt at x rest

-- A way does, with the name that it goes by.
abbrev pub WayAt : Places → Way → List Token → Type 0
WayAt at ByOffset rest = Unit {0}
WayAt at (BySkip z) rest = IsAt at z rest
WayAt at (ByEnd z) rest = IsAt at z rest

-- The name of the place between two sides does, and that of the side before it.
abbrev pub BetweenAt : Places → Option (Ident × Ident) → List Token → Type 0
BetweenAt at None rest = Unit {0}
BetweenAt at (Some (l, x)) rest = IsAt at l (sign s.Equals ∷ t.Sign s.After ∷ lower x ∷ sign s.In ∷ rest) × IsAt at x (sign s.In ∷ rest)

-- A call has an argument.
abbrev pub ArgumentsAt : Places → List Operand → List Token → Type 0
ArgumentsAt at [] rest = ⊥
ArgumentsAt at (x ∷ xs) rest = OperandsAt at (x ∷ xs) rest

-- There is a level left; of the parts this is said in one level less.
abbrev pub OnLevel : ℕ → (ℕ → Type 0) → Type 0
OnLevel zero P = ⊥
OnLevel (suc n) P = P n

abbrev mutual
  -- A line that stands before these words, in so many levels.
  pub LineAt : Places → Line → ℕ → List Token → Type 0
  LineAt at (In p b u) n rest = OnLevel n (λ n. (p ≡ at (length (spell_line (In p b u) rest))) × BindingAt at b n (sign s.In ∷ spell_line u rest) × LineAt at u n rest)
  LineAt at (Given p x) n rest = OnLevel n (λ n. (p ≡ at (length (spell_line (Given p x) rest))) × OperandAt at x rest)
  LineAt at (Pointed p x m) n rest = OnLevel n (λ n. (p ≡ at (length (spell_line (Pointed p x m) rest))) × IsAt at x (spell_mark m rest) × MarkAt at m rest)
  LineAt at (Called f xs m) n rest = OnLevel n (λ n. IsAt at f (spell_operands xs (spell_option m rest)) × ArgumentsAt at xs (spell_option m rest) × OptionAt at m rest)
  LineAt at (Made k m xs) n rest = OnLevel n (λ n. IsAt at k (spell_mark m (spell_operands xs rest)) × MarkAt at m (spell_operands xs rest) × OperandsAt at xs rest)
  LineAt at (Cased p x arms) n rest =
      OnLevel n (λ n. (p ≡ at (length (spell_line (Cased p x arms) rest))) × IsAt at x (sign s.Of ∷ sign s.OpenBrace ∷ spell_arms arms (sign s.CloseBrace ∷ rest)) × ArmsAt at arms n (sign s.CloseBrace ∷ rest))
  LineAt at (Chosen p x u v) n rest =
      OnLevel n (λ n. (p ≡ at (length (spell_line (Chosen p x u v) rest))) × OperandAt at x (sign s.Then ∷ spell_line u (sign s.Else ∷ spell_line v rest)) × LineAt at u n (sign s.Else ∷ spell_line v rest) × LineAt at v n rest)

  pub BindingAt : Places → Binding → ℕ → List Token → Type 0
  BindingAt at (NewRegion r) n rest = IsAt at r rest
  BindingAt at (NewPlace l q) n rest = IsAt at l (sign s.Equals ∷ spell_location q rest) × LocationAt at q rest
  BindingAt at (LetIn b) n rest = BoundAt at b n rest
  BindingAt at (ParIn l m r) n rest = BoundAt at l n (sign s.And ∷ spell_between m (spell_bound r rest)) × BetweenAt at m (spell_bound r rest) × BoundAt at r n rest
  BindingAt at (PrimIn x w y f z) n rest =
      IsAt at x (sign s.Colon ∷ type_word w ∷ sign s.Equals ∷ sign s.Open ∷ operand_word y ∷ operator_word f ∷ operand_word z ∷ sign s.Close ∷ rest)
      × TypeAt at w (sign s.Equals ∷ sign s.Open ∷ operand_word y ∷ operator_word f ∷ operand_word z ∷ sign s.Close ∷ rest)
      × OperandAt at y (operator_word f ∷ operand_word z ∷ sign s.Close ∷ rest) × OperandAt at z (sign s.Close ∷ rest)
  BindingAt at (ReachIn y q) n rest = IsAt at y (t.Sign s.By ∷ spell_way q rest) × WayAt at q rest

  pub BoundAt : Places → Bound → ℕ → List Token → Type 0
  BoundAt at (Be x w m u) n rest =
      IsAt at x (sign s.Colon ∷ type_word w ∷ spell_option m (sign s.Equals ∷ spell_line u rest)) × TypeAt at w (spell_option m (sign s.Equals ∷ spell_line u rest)) × OptionAt at m (sign s.Equals ∷ spell_line u rest) × LineAt at u n rest

  pub ArmsAt : Places → Arms → ℕ → List Token → Type 0
  ArmsAt at (LastArm k xs u) n rest = IsAt at k (spell_names xs (sign s.Arrow ∷ spell_line u rest)) × NamesAt at xs (sign s.Arrow ∷ spell_line u rest) × LineAt at u n rest
  ArmsAt at (NextArm k xs u arms) n rest =
      IsAt at k (spell_names xs (sign s.Arrow ∷ spell_line u (sign s.Semicolon ∷ spell_arms arms rest))) × NamesAt at xs (sign s.Arrow ∷ spell_line u (sign s.Semicolon ∷ spell_arms arms rest))
      × LineAt at u n (sign s.Semicolon ∷ spell_arms arms rest) × ArmsAt at arms n rest

-- Nothing goes on with an operand or an `@`.
pub record Follows (at : Places) (rest : List Token) : Type 0 where
  pub operands : next_is starts_operand rest ≡ false
  pub mark : option_at at rest ≡ Ok (None, rest)
