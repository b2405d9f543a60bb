-- A term's words, one at a time: what may follow is a stack of symbols. Where a word may not stand depends on the words before it
-- alone.
use Rattle.std.specs.Prelude.{ℕ, suc, ◌==◌, Bool, true, false, List, [], ◌∷◌, length, Option, Some, None, is_some}
use Rattle.gib_base.specs.declared.token.Sign.{Sign}
use Rattle.gib_base.specs.declared.token.Sign.TheVariants as s
use Rattle.gib_base.specs.declared.token.Token.TheVariants as t
use Rattle.gib_reads.specs.Readers.{number_of, operator_of}
use Rattle.gib_local_parse.specs.Tree.{Line, In, Given, Pointed, Called, Made, Cased, Chosen, Binding, NewRegion, NewPlace, LetIn, ParIn, PrimIn, ReachIn, Bound, Be, Arms, LastArm, NextArm}
use Rattle.gib_local_parse.specs.Grammar.{starts_operand}
use Rattle.gib_local_parse.specs.Texts.{starts_type}
use Rattle.gib_base.specs.declared.token.Token.{Token}

-- Words by numbers: 60 is a name that begins with a lower-case letter, 61 one with an upper-case letter, 62 a number.
abbrev pub number : Token → ℕ
number (t.Sign a) = number_of a
number (t.Variable x) = 60
number (t.Constructor k) = 61
number (t.Number n) = 62

-- A name that begins with a lower-case letter.
abbrev pub a_name : Token
a_name = t.Variable (record { 0 = 0 })

-- One that begins with an upper-case letter.
abbrev pub a_con : Token
a_con = t.Constructor (record { 0 = 0 })

-- What may follow: one word like this one; one of several kinds; or parts of the grammar.
pub data Symbol : Type 0 where
  One : Token → Symbol
  TypeS : Symbol
  OperandS : Symbol
  OperatorS : Symbol
  OperandsS : Symbol
  NamesS : Symbol
  OptionS : Symbol
  LocationS : Symbol
  WayS : Symbol
  BetweenS : Symbol
  LetS : Symbol
  LetRestS : Symbol
  LetEqualsS : Symbol
  MoreArmsS : Symbol
  TermS : Symbol

-- What is still to come, the next first.
abbrev pub Stack : Type 0
Stack = List Symbol

-- A token that is an operator.
abbrev pub is_operator : Token → Bool
is_operator (t.Sign a) = is_some (operator_of a)
is_operator n = false

-- The side of a `let`: a variable, a colon, a type, a place, `=`, a term.
abbrev pub bound_symbols : Stack → Stack
bound_symbols k = One a_name ∷ One (t.Sign s.Colon) ∷ TypeS ∷ OptionS ∷ One (t.Sign s.Equals) ∷ TermS ∷ k

-- Behind the word that begins a term.
abbrev pub begin_term : Token → Stack → Option Stack
begin_term (t.Sign s.LetRegion) k = Some (One a_name ∷ One (t.Sign s.In) ∷ TermS ∷ k)
begin_term (t.Sign s.LetLocation) k = Some (One a_name ∷ One (t.Sign s.Equals) ∷ LocationS ∷ One (t.Sign s.In) ∷ TermS ∷ k)
begin_term (t.Sign s.Reach) k = Some (One a_name ∷ One (t.Sign s.By) ∷ WayS ∷ One (t.Sign s.In) ∷ TermS ∷ k)
begin_term (t.Sign s.Let) k = Some (LetS ∷ One (t.Sign s.In) ∷ TermS ∷ k)
begin_term (t.Sign s.Give) k = Some (OperandS ∷ k)
begin_term (t.Sign s.Point) k = Some (One a_name ∷ One (t.Sign s.At) ∷ One a_name ∷ k)
begin_term (t.Variable x) k = Some (OperandS ∷ OperandsS ∷ OptionS ∷ k)
begin_term (t.Constructor c) k = Some (One (t.Sign s.At) ∷ One a_name ∷ OperandsS ∷ k)
begin_term (t.Sign s.Case) k = Some (One a_name ∷ One (t.Sign s.Of) ∷ One (t.Sign s.OpenBrace) ∷ One a_con ∷ NamesS ∷ One (t.Sign s.Arrow) ∷ TermS ∷ MoreArmsS ∷ One (t.Sign s.CloseBrace) ∷ k)
begin_term (t.Sign s.If) k = Some (OperandS ∷ One (t.Sign s.Then) ∷ TermS ∷ One (t.Sign s.Else) ∷ TermS ∷ k)
begin_term n k = None

-- What follows the word that begins a location.
abbrev pub begin_location : Token → Stack → Option Stack
begin_location (t.Sign s.Start) k = Some (One a_name ∷ k)
begin_location (t.Sign s.After) k = Some (One a_name ∷ k)
begin_location (t.Variable x) k = Some (One (t.Sign s.Plus) ∷ One a_con ∷ k)
begin_location n k = None

-- What follows the word that begins a way.
abbrev pub begin_way : Token → Stack → Option Stack
begin_way (t.Sign s.Offset) k = Some k
begin_way (t.Sign s.Skip) k = Some (One a_name ∷ k)
begin_way (t.Sign s.End) k = Some (One a_name ∷ k)
begin_way n k = None

-- What follows the word behind `let`.
abbrev pub begin_let : Token → Stack → Option Stack
begin_let (t.Sign s.Par) k = Some (bound_symbols (One (t.Sign s.And) ∷ BetweenS ∷ bound_symbols k))
begin_let (t.Variable x) k = Some (One (t.Sign s.Colon) ∷ TypeS ∷ LetRestS ∷ k)
begin_let n k = None

-- What follows the word behind the type of a side.
abbrev pub begin_rest : Token → Stack → Option Stack
begin_rest (t.Sign s.At) k = Some (One a_name ∷ One (t.Sign s.Equals) ∷ TermS ∷ k)
begin_rest (t.Sign s.Equals) k = Some (LetEqualsS ∷ k)
begin_rest n k = None

-- What follows the word behind the `=` of a binding.
abbrev pub begin_equals : Token → Stack → Option Stack
begin_equals (t.Sign s.Open) k = Some (OperandS ∷ OperatorS ∷ OperandS ∷ One (t.Sign s.Close) ∷ k)
begin_equals n k = begin_term n k

-- A test, and what follows then.
abbrev pub when : Bool → Stack → Option Stack
when true k = Some k
when false k = None

-- Where a part may be missing: what it begins with, or else what stands behind it.
abbrev pub or_skip : Bool → Stack → Option Stack → Option Stack
or_skip true k skip = Some k
or_skip false k skip = skip

-- What may follow behind a word of a number.
abbrev pub advance : Stack → Token → Option Stack
advance [] n = None
advance (One m ∷ k) n = when (number m == number n) k
advance (TypeS ∷ k) n = when (starts_type n) k
advance (OperandS ∷ k) n = when (starts_operand n) k
advance (OperatorS ∷ k) n = when (is_operator n) k
advance (OperandsS ∷ k) n = or_skip (starts_operand n) (OperandsS ∷ k) (advance k n)
advance (NamesS ∷ k) n = or_skip (60 == number n) (NamesS ∷ k) (advance k n)
advance (OptionS ∷ k) n = or_skip (number_of s.At == number n) (One a_name ∷ k) (advance k n)
advance (LocationS ∷ k) n = begin_location n k
advance (WayS ∷ k) n = begin_way n k
advance (BetweenS ∷ k) n = or_skip (number_of s.LetLocation == number n) (One a_name ∷ One (t.Sign s.Equals) ∷ One (t.Sign s.After) ∷ One a_name ∷ One (t.Sign s.In) ∷ k) (advance k n)
advance (LetS ∷ k) n = begin_let n k
advance (LetRestS ∷ k) n = begin_rest n k
advance (LetEqualsS ∷ k) n = begin_equals n k
advance (MoreArmsS ∷ k) n = or_skip (number_of s.Semicolon == number n) (One a_con ∷ NamesS ∷ One (t.Sign s.Arrow) ∷ TermS ∷ MoreArmsS ∷ k) (advance k n)
advance (TermS ∷ k) n = begin_term n k

-- How words go on: to a stack, or to the first that may not stand there, by how many are left from it on.
pub data Goes : Type 0 where
  Stands : Stack → Goes
  Fails : ℕ → Goes

-- One more word.
abbrev pub goes_on : (Stack → Goes) → ℕ → Option Stack → Goes
goes_on more left None = Fails left
goes_on more left (Some k) = more k

-- The words, one after another.
abbrev pub run : List Token → Stack → Goes
run [] k = Stands k
run (w ∷ ws) k = goes_on (run ws) (suc (length ws)) (advance k w)

-- A call has one operand at least.
abbrev mutual
  pub HasOperands : Line → Type 0
  HasOperands (In p b u) = BindingHas b × HasOperands u
  HasOperands (Given p x) = Unit {0}
  HasOperands (Pointed p x m) = Unit {0}
  HasOperands (Called f [] m) = ⊥
  HasOperands (Called f (x ∷ xs) m) = Unit {0}
  HasOperands (Made c m xs) = Unit {0}
  HasOperands (Cased p x arms) = ArmsHave arms
  HasOperands (Chosen p x u v) = HasOperands u × HasOperands v

  pub BindingHas : Binding → Type 0
  BindingHas (NewRegion r) = Unit {0}
  BindingHas (NewPlace l q) = Unit {0}
  BindingHas (LetIn b) = BoundHas b
  BindingHas (ParIn l m r) = BoundHas l × BoundHas r
  BindingHas (PrimIn x a y f z) = Unit {0}
  BindingHas (ReachIn y q) = Unit {0}

  pub BoundHas : Bound → Type 0
  BoundHas (Be x a m u) = HasOperands u

  pub ArmsHave : Arms → Type 0
  ArmsHave (LastArm c xs u) = HasOperands u
  ArmsHave (NextArm c xs u arms) = HasOperands u × ArmsHave arms
