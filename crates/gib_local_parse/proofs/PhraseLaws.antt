-- The laws of the readers of what stands in terms: names, operands, places and signs.
use Rattle.std.proofs.Common.{◌≡◌, ℕ, ◌+◌, ◌<◌, ◌≤◌, ◌^◌, nat_lt, Bool, true, false, List, [], ◌∷◌, Option, Some, None, refl, ap, ◌∙◌, subst}
use Rattle.std.proofs.lemmas.Bool.{ltb-true}
use Rattle.gib_base.specs.declared.Span.{Span}
use Rattle.gib_base.specs.declared.token.Sign.{Sign}
use Rattle.gib_base.specs.declared.token.Sign.TheVariants as s
use Rattle.gib_base.specs.declared.token.Token.{Token}
use Rattle.gib_base.specs.declared.token.Token.TheVariants as t
use Rattle.gib_syntax.specs.declared.tree.Ident.{Ident}
use Rattle.gib_syntax.specs.declared.tree.TypeName.{TypeName}
use Rattle.gib_syntax.specs.declared.tree.TypeName.TheVariants as ty
use Rattle.gib_types.specs.declared.operator.Operator.{Operator}
use Rattle.gib_types.specs.declared.operator.Operator.TheVariants as o
use Rattle.gib_syntax.specs.Spelling.{Places}
use Rattle.gib_reads.specs.Readers.{before, named, then_at, var_at, is_variable, operator_of}
use Rattle.gib_local_parse.specs.Tree.{Mark, Operand, Named, Number, Bit, Location, Start, Plus, After, Way, ByOffset, BySkip, ByEnd}
use Rattle.gib_local_parse.specs.Grammar.{sign, lower, operand_word, type_word, operator_word, spell_mark, spell_option, spell_operands, spell_names, spell_location, spell_way, spell_between, type_at, literal_at, operand_at, starts_operand, operands_at, names_at, mark_from, mark_at, option_at, head_at, location_at, way_at, operator_at, place_between_at, between_at, operator_found}
use Rattle.gib_local_parse.specs.Placed.{IsAt, MarkAt, OptionAt, OperandAt, OperandsAt, NamesAt, TypeAt, LocationAt, WayAt, BetweenAt}
use Rattle.gib_reads.proofs.Tools.{done}
use Rattle.gib_reads.proofs.Signs.{sign_is}
use Rattle.gib_reads.proofs.Laws.{World, Form, Reads, pure_reads, fail_nil, fail_reads, token_reads, choice_nil, choice_reads, weaken, as_reads, then_behind, then_reads, then_sign, var_reads, con_reads, many_reads, write_all, good_all, a_name}
use Rattle.gib_local_parse.proofs.Asked.{IsSmall, AreSmall}

-- ---- what is read

abbrev pub type_name : Places → Form TypeName
type_name at = record { write = λ w l. type_word w ∷ l; fine = λ w. Unit {0}; good = TypeAt at }

abbrev pub operand : Places → Form Operand
operand at = record { write = λ x l. operand_word x ∷ l; fine = IsSmall; good = OperandAt at }

abbrev pub operands : Places → Form (List Operand)
operands at = record { write = spell_operands; fine = AreSmall; good = OperandsAt at }

abbrev pub names : Places → Form (List Ident)
names at = record { write = spell_names; fine = λ xs. Unit {0}; good = NamesAt at }

abbrev pub mark : Places → Form Mark
mark at = record { write = spell_mark; fine = λ m. Unit {0}; good = MarkAt at }

abbrev pub option : Places → Form (Option Mark)
option at = record { write = spell_option; fine = λ m. Unit {0}; good = OptionAt at }

abbrev pub location : Places → Form Location
location at = record { write = spell_location; fine = λ q. Unit {0}; good = LocationAt at }

abbrev pub way : Places → Form Way
way at = record { write = spell_way; fine = λ q. Unit {0}; good = WayAt at }

abbrev pub operator : Form Operator
operator = record { write = λ f l. operator_word f ∷ l; fine = λ f. Unit {0}; good = λ f rest. Unit {0} }

abbrev pub between : Places → Form (Option (Ident × Ident))
between at = record { write = spell_between; fine = λ m. Unit {0}; good = BetweenAt at }

abbrev two_names : Places → Form (Ident × Ident)
two_names at = record {
  write = λ p l. lower p.0 ∷ sign s.Equals ∷ t.Sign s.After ∷ lower p.1 ∷ sign s.In ∷ l;
  fine = λ p. Unit {0};
  good = λ p rest.
      BetweenAt at (Some (p.0, p.1)) rest;
}

-- ---- lists

operands_spelled : (xs : List Operand) (l : List Token) → write_all (λ (x : Operand) (l : List Token). operand_word x ∷ l) xs l ≡ spell_operands xs l
operands_spelled [] l = refl
operands_spelled (x ∷ xs) l = ap (λ (l : List Token). operand_word x ∷ l) (operands_spelled xs l)

operands_good : (at : Places) (xs : List Operand) (l : List Token) → good_all (λ (x : Operand) (l : List Token). operand_word x ∷ l) (OperandAt at) xs l
    → OperandsAt at xs l
operands_good at [] l h = tt
operands_good at (x ∷ xs) l h = (subst (OperandAt at x) (operands_spelled xs l) h.0, operands_good at xs l h.1)

names_spelled : (xs : List Ident) (l : List Token) → write_all (λ (x : Ident) (l : List Token). t.Variable x.name ∷ l) xs l ≡ spell_names xs l
names_spelled [] l = refl
names_spelled (x ∷ xs) l = ap (λ (l : List Token). lower x ∷ l) (names_spelled xs l)

names_good : (at : Places) (xs : List Ident) (l : List Token) → good_all (λ (x : Ident) (l : List Token). t.Variable x.name ∷ l) (IsAt at) xs l
    → NamesAt at xs l
names_good at [] l h = tt
names_good at (x ∷ xs) l h = (subst (IsAt at x) (names_spelled xs l) h.0, names_good at xs l h.1)

-- ---- the plainest

abbrev pub nowhere : Span
nowhere = record { start = 0; end = 0 }

-- Zero.
abbrev pub nothing : Operand
nothing = Number nowhere 0

pub zero_small : 0 < 2 ^ 63
zero_small = ltb-true 0 (2 ^ 63) refl

-- ---- readers

module _ {P : Type 0} {w : World P} where
  pub type_reads : (q ws : List Token) → Reads w 1 (type_name w.text.here) q (λ l. l) (λ at sub. type_at at) ws
  type_reads q [] = fail_nil (λ at sub. type_at at) (sign s.Int ∷ q) (λ at sub. refl) (ty.Whole nowhere, tt, refl)
  type_reads q (t.Sign s.Int ∷ ws) = token_reads (λ at sub. type_at at) (λ z at sub. done (ty.Whole z)) (t.Sign s.Int) ws (λ at sub l. refl)
      (pure_reads (ty.Whole (before w.text.here ws)) ws (λ l. refl) tt refl)
  type_reads q (t.Sign s.Bool ∷ ws) = token_reads (λ at sub. type_at at) (λ z at sub. done (ty.Truth z)) (t.Sign s.Bool) ws (λ at sub l. refl)
      (pure_reads (ty.Truth (before w.text.here ws)) ws (λ l. refl) tt refl)
  type_reads q (t.Constructor k ∷ ws) = token_reads (λ at sub. type_at at) (λ z at sub. done (ty.Declared (record { name = k; span = z })))
      (t.Constructor k) ws (λ at sub l. refl) (pure_reads (ty.Declared (named w.text.here k ws)) ws (λ l. refl) tt refl)
  type_reads q (c ∷ ws) = fail_reads (λ at sub. type_at at) c ws (sign s.Int ∷ q) (λ at sub l. refl) (ty.Whole nowhere, tt, refl)

  literal_reads : (n : ℕ) (q ws : List Token) (v : Bool) → nat_lt n (2 ^ 63) ≡ v → Reads w 1 (operand w.text.here) q (λ l. l) (λ at sub. operand_at at)
      (t.Number n ∷ ws)
  literal_reads n q ws true e =
      token_reads (λ at sub. operand_at at) (λ z at sub. done (Number z n)) (t.Number n) ws (λ at sub l. ap (λ v. literal_at v (before at l) n l) e)
      (let lt = ltb-true n (2 ^ 63) e in pure_reads (Number (before w.text.here ws) n) ws (λ l. refl) lt (refl, lt))
  literal_reads n q ws false e = fail_reads (λ at sub. operand_at at) (t.Number n) ws (t.Number 0 ∷ q)
      (λ at sub l. ap (λ v. literal_at v (before at l) n l) e) (nothing, zero_small, refl)

  pub operand_reads : (q ws : List Token) → Reads w 1 (operand w.text.here) q (λ l. l) (λ at sub. operand_at at) ws
  operand_reads q [] = fail_nil (λ at sub. operand_at at) (t.Number 0 ∷ q) (λ at sub. refl) (nothing, zero_small, refl)
  operand_reads q (t.Variable x ∷ ws) = token_reads (λ at sub. operand_at at) (λ z at sub. done (Named (record { name = x; span = z }))) (t.Variable x) ws
      (λ at sub l. refl) (pure_reads (Named (named w.text.here x ws)) ws (λ l. refl) tt refl)
  operand_reads q (t.Number n ∷ ws) = literal_reads n q ws (nat_lt n (2 ^ 63)) refl
  operand_reads q (t.Sign s.True ∷ ws) = token_reads (λ at sub. operand_at at) (λ z at sub. done (Bit z true)) (t.Sign s.True) ws (λ at sub l. refl)
      (pure_reads (Bit (before w.text.here ws) true) ws (λ l. refl) tt refl)
  operand_reads q (t.Sign s.False ∷ ws) = token_reads (λ at sub. operand_at at) (λ z at sub. done (Bit z false)) (t.Sign s.False) ws (λ at sub l. refl)
      (pure_reads (Bit (before w.text.here ws) false) ws (λ l. refl) tt refl)
  operand_reads q (c ∷ ws) = fail_reads (λ at sub. operand_at at) c ws (t.Number 0 ∷ q) (λ at sub l. refl) (nothing, zero_small, refl)

  pub operands_reads : (q ws : List Token) → Reads w 0 (operands w.text.here) q (λ l. l) (λ at sub. operands_at at) ws
  operands_reads q ws = as_reads operands_spelled (λ xs o. o) (λ xs rest o p. operands_good w.text.here xs rest p)
      (many_reads starts_operand (λ at sub. operand_at at) operand_reads q ws)

  pub names_reads : (q ws : List Token) → Reads w 0 (names w.text.here) q (λ l. l) (λ at sub. names_at at) ws
  names_reads q ws = as_reads names_spelled (λ xs o. tt) (λ xs rest o p. names_good w.text.here xs rest p)
      (many_reads is_variable (λ at sub. var_at at) var_reads q ws)

  mark_from_reads : (z : Span) (q ws : List Token) → z ≡ before w.text.here ws → Reads w 1 (mark w.text.here) q (λ l. t.Sign s.At ∷ l)
      (λ at sub. mark_from at z) ws
  mark_from_reads z q ws ze =
      then_reads (var_reads q ws) (λ x o. (record { sign = z; name = x }, tt, refl)) (λ x r1 e1 o1 p1.
      let made : Mark = record { sign = z; name = x } in
      pure_reads made r1 (λ l. refl) tt (ze ∙ ap (before w.text.here) e1, p1))

  pub mark_reads : (q ws : List Token) → Reads w 1 (mark w.text.here) q (λ l. l) (λ at sub. mark_at at) ws
  mark_reads q [] = fail_nil (λ at sub. mark_at at) (t.Sign s.At ∷ t.Variable a_name.name ∷ q) (λ at sub. refl)
      (record { sign = nowhere; name = a_name }, tt, refl)
  mark_reads q (t.Sign s.At ∷ ws) = token_reads (λ at sub. mark_at at) (λ z at sub. mark_from at z) (t.Sign s.At) ws (λ at sub l. refl)
      (mark_from_reads (before w.text.here ws) q ws refl)
  mark_reads q (c ∷ ws) = fail_reads (λ at sub. mark_at at) c ws (t.Sign s.At ∷ t.Variable a_name.name ∷ q) (λ at sub l. refl)
      (record { sign = nowhere; name = a_name }, tt, refl)

  pub option_reads : (q ws : List Token) → Reads w 0 (option w.text.here) q (λ l. l) (λ at sub. option_at at) ws
  option_reads q [] = choice_nil (λ at sub. option_at at) (λ at sub. done None) (λ at sub. refl) (pure_reads None [] (λ l. refl) tt tt)
  option_reads q (t.Sign s.At ∷ ws) =
      weaken (token_reads (λ at sub. option_at at) (λ z at sub l. then_at (mark_from at z l) (λ m. done (Some m))) (t.Sign s.At) ws (λ at sub l. refl)
      (then_behind (λ l. l) (mark_from_reads (before w.text.here ws) q ws refl) (λ m o. (Some m, tt, refl))
      (λ m r1 e1 o1 p1. pure_reads (Some m) r1 (λ l. refl) tt p1)))
  option_reads q (c ∷ ws) = choice_reads (λ at sub. option_at at) (λ at sub. done None) c ws (λ at sub l. refl) (pure_reads None (c ∷ ws) (λ l. refl) tt tt)

  head_reads : (q ws : List Token) → Reads w 1 (location w.text.here) q (λ l. l) (λ at sub. head_at at) ws
  head_reads q ws =
      then_reads (var_reads (sign s.Plus ∷ t.Constructor a_name.name ∷ q) ws) (λ d o. (Plus d a_name, tt, refl)) (λ d r1 e1 o1 p1.
      then_sign s.Plus (t.Constructor a_name.name ∷ q) (Plus d a_name, tt, refl) (λ u r2 e2.
      then_reads (con_reads q r2) (λ k o. (Plus d k, tt, refl)) (λ k r3 e3 o3 p3.
      pure_reads (Plus d k) r3 (λ l. refl) tt (subst (IsAt w.text.here d) (e2 ∙ ap (λ (l : List Token). sign s.Plus ∷ l) e3) p1, p3))))

  pub location_reads : (q ws : List Token) → Reads w 1 (location w.text.here) q (λ l. l) (λ at sub. location_at at) ws
  location_reads q [] = choice_nil (λ at sub. location_at at) (λ at sub. head_at at) (λ at sub. refl) (head_reads q [])
  location_reads q (t.Sign s.Start ∷ ws) =
      token_reads (λ at sub. location_at at) (λ z at sub l. then_at (var_at at l) (λ x. done (Start x))) (t.Sign s.Start) ws (λ at sub l. refl)
      (then_reads (var_reads q ws) (λ x o. (Start x, tt, refl)) (λ x r1 e1 o1 p1. pure_reads (Start x) r1 (λ l. refl) tt p1))
  location_reads q (t.Sign s.After ∷ ws) =
      token_reads (λ at sub. location_at at) (λ z at sub l. then_at (var_at at l) (λ x. done (After x))) (t.Sign s.After) ws (λ at sub l. refl)
      (then_reads (var_reads q ws) (λ x o. (After x, tt, refl)) (λ x r1 e1 o1 p1. pure_reads (After x) r1 (λ l. refl) tt p1))
  location_reads q (c ∷ ws) = choice_reads (λ at sub. location_at at) (λ at sub. head_at at) c ws (λ at sub l. refl) (head_reads q (c ∷ ws))

  pub way_reads : (q ws : List Token) → Reads w 1 (way w.text.here) q (λ l. l) (λ at sub. way_at at) ws
  way_reads q [] = fail_nil (λ at sub. way_at at) (t.Sign s.Offset ∷ q) (λ at sub. refl) (ByOffset, tt, refl)
  way_reads q (t.Sign s.Offset ∷ ws) = token_reads (λ at sub. way_at at) (λ z at sub. done ByOffset) (t.Sign s.Offset) ws (λ at sub l. refl)
      (pure_reads ByOffset ws (λ l. refl) tt tt)
  way_reads q (t.Sign s.Skip ∷ ws) =
      token_reads (λ at sub. way_at at) (λ z at sub l. then_at (var_at at l) (λ x. done (BySkip x))) (t.Sign s.Skip) ws (λ at sub l. refl)
      (then_reads (var_reads q ws) (λ x o. (BySkip x, tt, refl)) (λ x r1 e1 o1 p1. pure_reads (BySkip x) r1 (λ l. refl) tt p1))
  way_reads q (t.Sign s.End ∷ ws) =
      token_reads (λ at sub. way_at at) (λ z at sub l. then_at (var_at at l) (λ x. done (ByEnd x))) (t.Sign s.End) ws (λ at sub l. refl)
      (then_reads (var_reads q ws) (λ x o. (ByEnd x, tt, refl)) (λ x r1 e1 o1 p1. pure_reads (ByEnd x) r1 (λ l. refl) tt p1))
  way_reads q (c ∷ ws) = fail_reads (λ at sub. way_at at) c ws (t.Sign s.Offset ∷ q) (λ at sub l. refl) (ByOffset, tt, refl)

  found : (v : Option Operator) (a : Sign) (q ws : List Token) → operator_of a ≡ v
      → Reads w 1 operator q (λ l. l) (λ at sub. operator_at) (t.Sign a ∷ ws)
  found None a q ws e =
      fail_reads (λ at sub. operator_at) (t.Sign a) ws (sign s.Plus ∷ q) (λ at sub l. ap (λ v. operator_found v l) e) (o.Add, tt, refl)
  found (Some f) a q ws e =
      token_reads (λ at sub. operator_at) (λ z at sub. done f) (t.Sign a) ws (λ at sub l. ap (λ v. operator_found v l) e)
      (pure_reads f ws (λ l. ap (λ (b : Sign). t.Sign b ∷ l) (sign_is a f e)) tt tt)

  pub operator_reads : (q ws : List Token) → Reads w 1 operator q (λ l. l) (λ at sub. operator_at) ws
  operator_reads q [] = fail_nil (λ at sub. operator_at) (sign s.Plus ∷ q) (λ at sub. refl) (o.Add, tt, refl)
  operator_reads q (t.Sign a ∷ ws) = found (operator_of a) a q ws refl
  operator_reads q (c ∷ ws) = fail_reads (λ at sub. operator_at) c ws (sign s.Plus ∷ q) (λ at sub l. refl) (o.Add, tt, refl)

  place_between_reads : (q ws : List Token) → Reads w 1 (two_names w.text.here) q (λ l. l) (λ at sub. place_between_at at) ws
  place_between_reads q ws =
      let end = sign s.In ∷ q in
      let names = t.Variable a_name.name ∷ end in
      then_reads (var_reads (sign s.Equals ∷ t.Sign s.After ∷ names) ws) (λ l o. ((l, a_name), tt, refl)) (λ l r1 e1 o1 p1.
      then_sign s.Equals (t.Sign s.After ∷ names) ((l, a_name), tt, refl) (λ u r2 e2.
      then_sign s.After names ((l, a_name), tt, refl) (λ u r3 e3.
      then_reads (var_reads end r3) (λ x o. ((l, x), tt, refl)) (λ x r4 e4 o4 p4.
      then_sign s.In q ((l, x), tt, refl) (λ u r5 e5.
      let i : r1 ≡ sign s.Equals ∷ t.Sign s.After ∷ lower x ∷ sign s.In ∷ r5 = e2 ∙ ap (λ (l : List Token). sign s.Equals ∷ l)
      (e3 ∙ ap (λ (l : List Token). t.Sign s.After ∷ l) (e4 ∙ ap (λ (l : List Token). lower x ∷ l) e5)) in
      pure_reads (l, x) r5 (λ l. refl) tt (subst (IsAt w.text.here l) i p1, subst (IsAt w.text.here x) e5 p4))))))

  pub between_reads : (q ws : List Token) → Reads w 0 (between w.text.here) q (λ l. l) (λ at sub. between_at at) ws
  between_reads q [] = choice_nil (λ at sub. between_at at) (λ at sub. done None) (λ at sub. refl) (pure_reads None [] (λ l. refl) tt tt)
  between_reads q (t.Sign s.LetLocation ∷ ws) =
      weaken (token_reads (λ at sub. between_at at) (λ z at sub l. then_at (place_between_at at l) (λ p. done (Some p))) (t.Sign s.LetLocation) ws
      (λ at sub l. refl)
      (then_reads (place_between_reads q ws) (λ p o. (Some p, tt, refl)) (λ p r1 e1 o1 p1. pure_reads (Some p) r1 (λ l. refl) tt p1)))
  between_reads q (c ∷ ws) = choice_reads (λ at sub. between_at at) (λ at sub. done None) c ws (λ at sub l. refl) (pure_reads None (c ∷ ws) (λ l. refl) tt tt)
