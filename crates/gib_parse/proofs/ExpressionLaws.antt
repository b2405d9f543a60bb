-- The laws of the readers of expressions.
use Rattle.std.proofs.Common.{◌≡◌, ◌≢◌, ℕ, suc, ◌≤◌, ◌^◌, Bool, true, false, List, [], ◌∷◌, length, refl, sym, ap, ◌∙◌, subst, arith, Option, Some, None}
use Rattle.std.proofs.lemmas.Bool.{ltb-true}
use Rattle.gib_base.specs.declared.Span.{Span}
use Rattle.gib_base.specs.declared.token.Sign.{Sign}
use Rattle.gib_base.specs.declared.token.Sign.TheVariants as s
use Rattle.gib_base.specs.declared.token.Token.{Token}
use Rattle.gib_base.specs.declared.token.Token.TheVariants as t
use Rattle.gib_syntax.specs.declared.tree.Ident.{Ident}
use Rattle.gib_types.specs.declared.operator.Operator.{Operator}
use Rattle.gib_syntax.specs.GenericTree.{GenericExpression, GenericArguments, GenericArms, GenericVar, GenericNum, GenericBit, GenericParen, GenericOp, GenericCall, GenericMake, GenericLet, GenericPar, GenericIf, GenericCase, GenericTuple, GenericNoArgument, GenericArgument}
use Rattle.gib_syntax.specs.GenericFine.{is_generic_application, is_generic_atom, IsGenericFine, AreGenericFine, AreGenericParts, HasGenericFine}
use Rattle.gib_syntax.specs.Forms.{WrittenTypes, NoType, MoreTypes}
use Rattle.gib_syntax.specs.Spelling.{Places, IsAt, AreAt, AreFurtherAt, AreNamesAt, IsPlaced, ArePlaced, ArePartsPlaced, HavePlaces, AreWrittenAt, spell, spell_arguments, spell_further_parts, spell_arms, spell_variables, spell_further_names, spell_names, spell_operator, spell_type_arguments, levels, levels_arguments, levels_arms}
use Rattle.gib_parse.specs.Reading.{Mode, Any, App, Atom, Parts, before, named, var_at, many, is_variable, is_sign, is_literal, literal_at, starts_atom, ArmTree, arms_of, arm_at, next_arm_at, arms_at, arguments_of, arguments_at, next_name_at, several_names_at, one_name_at, names_bound_at, BoundTree, binding_at, bind_at, par_at, let_at, if_at, case_at, side_at, close_at, open_at, next_part_at, tuple_at, close_any_at, open_any_at, call, called_at, variable_at, make_at, constant_at, atom_at, app_at, any_at, operator_of, operation_at}
use Rattle.gib_reads.proofs.Tools.{done}
use Rattle.gib_reads.proofs.Signs.{sign_is}
use Rattle.gib_reads.proofs.Laws.{World, Form, Reads, pure_reads, fail_nil, fail_reads, token_reads, choice_nil, choice_reads, weaken, as_reads, then_reads, then_sign, var_reads, con_reads, many_reads, write_all, fine_all, good_all, a_name}
use Rattle.gib_parse.proofs.TypeLaws.{type_arguments_reads}

-- ---- what is read: how it is spelled, what the grammar asks of it, its levels and where it stands

abbrev pub IsMode : Mode → GenericExpression → Type 0
IsMode Any e = Unit {0}
IsMode App e = is_generic_application e ≡ true
IsMode Atom e = is_generic_atom e ≡ true

abbrev pub expression : Places → ℕ → Mode → Form GenericExpression
expression at n m = record { write = spell; fine = λ e. IsGenericFine e × IsMode m e; good = λ e rest. (levels e ≤ n) × IsPlaced at e rest }

abbrev arguments : Places → ℕ → Form GenericArguments
arguments at n = record { write = spell_arguments; fine = AreGenericFine; good = λ xs rest. (levels_arguments xs ≤ n) × ArePlaced at xs rest }

abbrev pub variables : Places → Form (List Ident)
variables at = record { write = spell_variables; fine = λ xs. Unit {0}; good = AreAt at }

abbrev pub next_name : Places → Form Ident
next_name at = record { write = λ x l. t.Sign s.Comma ∷ t.Variable x.name ∷ l; fine = λ x. Unit {0}; good = IsAt at }

abbrev further_names : Places → Form (List Ident)
further_names at = record { write = spell_further_names; fine = λ xs. Unit {0}; good = AreFurtherAt at }

abbrev names : Places → Form (List Ident)
names at = record { write = spell_names; fine = λ xs. xs ≢ []; good = AreNamesAt at }

abbrev binding_then : BoundTree → List Token → List Token
binding_then x l = spell_names x.names (t.Sign s.Equals ∷ spell x.value l)

-- A binding carries the spans of its tokens.
abbrev IsBindingAt : Places → BoundTree → List Token → Type 0
IsBindingAt at x rest = AreNamesAt at x.names (t.Sign s.Equals ∷ spell x.value rest) × IsPlaced at x.value rest

abbrev binding : Places → ℕ → Form BoundTree
binding at n = record {
  write = binding_then;
  fine = λ x. (x.names ≢ []) × IsGenericFine x.value;
  good = λ x rest. (levels x.value ≤ n) × IsBindingAt at x rest;
}

abbrev pub next_part : Places → ℕ → Form GenericExpression
next_part at n = record { write = λ e l. t.Sign s.Comma ∷ spell e l; fine = IsGenericFine; good = λ e rest. (levels e ≤ n) × IsPlaced at e rest }

abbrev further_parts : Places → ℕ → Form (List GenericExpression)
further_parts at n = record {
  write = λ xs. spell_further_parts (arguments_of xs);
  fine = λ xs. AreGenericParts (arguments_of xs);
  good = λ xs rest. (levels_arguments (arguments_of xs) ≤ n) × ArePartsPlaced at (arguments_of xs) rest;
}

abbrev pub arm_then : ArmTree → List Token → List Token
arm_then arm l = t.Constructor arm.constructor.name ∷ spell_variables arm.variables (t.Sign s.Arrow ∷ spell arm.body l)

-- An arm carries the spans of its tokens.
abbrev pub IsArmAt : Places → ArmTree → List Token → Type 0
IsArmAt at arm rest = IsAt at arm.constructor (spell_variables arm.variables (t.Sign s.Arrow ∷ spell arm.body rest)) × AreAt at arm.variables
    (t.Sign s.Arrow ∷ spell arm.body rest) × IsPlaced at arm.body rest

abbrev pub arm : Places → ℕ → Form ArmTree
arm at n = record { write = arm_then; fine = λ arm. IsGenericFine arm.body; good = λ arm rest. (levels arm.body ≤ n) × IsArmAt at arm rest }

abbrev pub next_arm : Places → ℕ → Form ArmTree
next_arm at n = record {
  write = λ arm l. t.Sign s.Semicolon ∷ arm_then arm l;
  fine = λ arm. IsGenericFine arm.body;
  good = λ arm rest. (levels arm.body ≤ n) × IsArmAt at arm rest;
}

abbrev arms : Places → ℕ → Form GenericArms
arms at n = record { write = spell_arms; fine = HasGenericFine; good = λ arms rest. (levels_arms arms ≤ n) × HavePlaces at arms rest }

-- ---- lists as the trees have them

variables_spelled : (xs : List Ident) (l : List Token) → write_all (λ (x : Ident) (l : List Token). t.Variable x.name ∷ l) xs l ≡ spell_variables xs l
variables_spelled [] l = refl
variables_spelled (x ∷ xs) l = ap (λ (l : List Token). t.Variable x.name ∷ l) (variables_spelled xs l)

variables_good : (at : Places) (xs : List Ident) (l : List Token) → good_all (λ (x : Ident) (l : List Token). t.Variable x.name ∷ l) (IsAt at) xs l
    → AreAt at xs l
variables_good at [] l h = tt
variables_good at (x ∷ xs) l h = (subst (IsAt at x) (variables_spelled xs l) h.0, variables_good at xs l h.1)

further_spelled : (xs : List Ident) (l : List Token)
    → write_all (λ (x : Ident) (l : List Token). t.Sign s.Comma ∷ t.Variable x.name ∷ l) xs l ≡ spell_further_names xs l
further_spelled [] l = refl
further_spelled (x ∷ xs) l = ap (λ (l : List Token). t.Sign s.Comma ∷ t.Variable x.name ∷ l) (further_spelled xs l)

further_good : (at : Places) (xs : List Ident) (l : List Token)
    → good_all (λ (x : Ident) (l : List Token). t.Sign s.Comma ∷ t.Variable x.name ∷ l) (IsAt at) xs l → AreFurtherAt at xs l
further_good at [] l h = tt
further_good at (x ∷ xs) l h = (subst (IsAt at x) (further_spelled xs l) h.0, further_good at xs l h.1)

arguments_spelled : (xs : List GenericExpression) (l : List Token) → write_all spell xs l ≡ spell_arguments (arguments_of xs) l
arguments_spelled [] l = refl
arguments_spelled (x ∷ xs) l = ap (spell x) (arguments_spelled xs l)

arguments_fine : (xs : List GenericExpression) → fine_all (λ e. IsGenericFine e × IsMode Atom e) xs → AreGenericFine (arguments_of xs)
arguments_fine [] h = tt
arguments_fine (x ∷ xs) h = (h.0.0, h.0.1, arguments_fine xs h.1)

arguments_good : (at : Places) (n : ℕ) (xs : List GenericExpression) (l : List Token)
    → good_all spell (λ e rest. (levels e ≤ n) × IsPlaced at e rest) xs l
    → (levels_arguments (arguments_of xs) ≤ n) × ArePlaced at (arguments_of xs) l
arguments_good at n [] l h = (omega arith, tt)
arguments_good at n (x ∷ xs) l h = let more = arguments_good at n xs l h.1 in
    (omega (arith, h.0.0, more.0), (subst (IsPlaced at x) (arguments_spelled xs l) h.0.1, more.1))

parts_spelled : (xs : List GenericExpression) (l : List Token)
    → write_all (λ (e : GenericExpression) (l : List Token). t.Sign s.Comma ∷ spell e l) xs l ≡ spell_further_parts (arguments_of xs) l
parts_spelled [] l = refl
parts_spelled (x ∷ xs) l = ap (λ (l : List Token). t.Sign s.Comma ∷ spell x l) (parts_spelled xs l)

parts_fine : (xs : List GenericExpression) → fine_all IsGenericFine xs → AreGenericParts (arguments_of xs)
parts_fine [] h = tt
parts_fine (x ∷ xs) h = (h.0, parts_fine xs h.1)

parts_good : (at : Places) (n : ℕ) (xs : List GenericExpression) (l : List Token)
    → good_all (λ (e : GenericExpression) (l : List Token). t.Sign s.Comma ∷ spell e l) (λ e rest. (levels e ≤ n) × IsPlaced at e rest) xs l
    → (levels_arguments (arguments_of xs) ≤ n) × ArePartsPlaced at (arguments_of xs) l
parts_good at n [] l h = (omega arith, tt)
parts_good at n (x ∷ xs) l h = let more = parts_good at n xs l h.1 in (omega (arith, h.0.0, more.0), (subst (IsPlaced at x) (parts_spelled xs l) h.0.1, more.1))

abbrev next_then : ArmTree → List Token → List Token
next_then arm l = t.Sign s.Semicolon ∷ arm_then arm l

arms_spelled : (a : ArmTree) (xs : List ArmTree) (l : List Token) → arm_then a (write_all next_then xs l) ≡ spell_arms (arms_of a xs) l
arms_spelled a [] l = refl
arms_spelled a (x ∷ xs) l = ap (λ (l : List Token). arm_then a (t.Sign s.Semicolon ∷ l)) (arms_spelled x xs l)

arms_fine : (a : ArmTree) (xs : List ArmTree) → IsGenericFine a.body → fine_all (λ (arm : ArmTree). IsGenericFine arm.body) xs → HasGenericFine (arms_of a xs)
arms_fine a [] f h = f
arms_fine a (x ∷ xs) f h = (f, arms_fine x xs h.0 h.1)

arms_good : (at : Places) (n : ℕ) (a : ArmTree) (xs : List ArmTree) (l : List Token) → (levels a.body ≤ n) × IsArmAt at a (write_all next_then xs l)
    → good_all next_then (λ (arm : ArmTree) rest. (levels arm.body ≤ n) × IsArmAt at arm rest) xs l
    → (levels_arms (arms_of a xs) ≤ n) × HavePlaces at (arms_of a xs) l
arms_good at n a [] l g h = g
arms_good at n a (x ∷ xs) l g h =
    let more = arms_good at n x xs l h.0 h.1 in
    let here = subst (IsArmAt at a) (ap (λ (l : List Token). t.Sign s.Semicolon ∷ l) (arms_spelled x xs l)) g.1 in
    (omega (arith, g.0, more.0), (here.0, here.1, here.2, more.1))

-- ---- the plainest trees

unfoldable pub zero_is : GenericExpression
zero_is = GenericNum (record { start = 0; end = 0 }) 0

pub zero_fine : IsGenericFine zero_is
unfolding zero_is
zero_fine = omega arith

pub some_names : (x : Ident) (xs : List Ident) → x ∷ xs ≢ []
some_names x xs e = cc

-- ---- modes

pub atom_is_application : (e : GenericExpression) → is_generic_atom e ≡ true → is_generic_application e ≡ true
atom_is_application (GenericVar x) h = refl
atom_is_application (GenericNum p n) h = refl
atom_is_application (GenericBit p b) h = refl
atom_is_application (GenericParen p e) h = refl
atom_is_application (GenericOp p f a b) h = refl
atom_is_application (GenericCall f ws xs) h = refl
atom_is_application (GenericMake k ws xs) h = refl
atom_is_application (GenericLet p xs a b) h = absurd cc
atom_is_application (GenericPar p xs a ys b c) h = absurd cc
atom_is_application (GenericIf p a b c) h = absurd cc
atom_is_application (GenericCase p x arms) h = absurd cc
atom_is_application (GenericTuple p xs) h = absurd cc

pub atom_mode : (m : Mode) (e : GenericExpression) → is_generic_atom e ≡ true → IsMode m e
atom_mode Any e h = tt
atom_mode App e h = atom_is_application e h
atom_mode Atom e h = h

-- ---- names

module _ {w : World Parts} where
  pub variables_reads : (r ws : List Token) → Reads w 0 (variables w.text.here) r (λ l. l) (λ at sub. many is_variable (var_at at)) ws
  variables_reads r ws = as_reads variables_spelled (λ xs o. tt) (λ xs rest o p. variables_good w.text.here xs rest p)
      (many_reads is_variable (λ at sub. var_at at) var_reads r ws)

  pub next_name_reads : (r ws : List Token) → Reads w 1 (next_name w.text.here) r (λ l. l) (λ at sub. next_name_at at) ws
  unfolding next_name_at
  next_name_reads r ws = then_sign s.Comma (t.Variable a_name.name ∷ r) (a_name, tt, refl)
      (λ u r1 e1. as_reads (λ x l. refl) (λ x o. tt) (λ x rest o p. p) (var_reads r r1))

  further_names_reads : (r ws : List Token) → Reads w 0 (further_names w.text.here) r (λ l. l) (λ at sub. many (is_sign s.Comma) (next_name_at at)) ws
  further_names_reads r ws = as_reads further_spelled (λ xs o. tt) (λ xs rest o p. further_good w.text.here xs rest p)
      (many_reads (is_sign s.Comma) (λ at sub. next_name_at at) next_name_reads r ws)

  several_names_reads : (r ws : List Token) → Reads w 1 (names w.text.here) r (λ l. t.Sign s.Open ∷ l) (λ at sub. several_names_at at) ws
  unfolding several_names_at
  several_names_reads r ws =
      let end = t.Sign s.Close ∷ r in
      then_reads (var_reads (t.Sign s.Comma ∷ t.Variable a_name.name ∷ end) ws) (λ x o. (x ∷ a_name ∷ [], some_names x (a_name ∷ []), refl)) (λ x r1 e1 o1 p1.
      then_reads (next_name_reads end r1) (λ y o. (x ∷ y ∷ [], some_names x (y ∷ []), refl)) (λ y r2 e2 o2 p2.
      then_reads (further_names_reads end r2) (λ ys o. (x ∷ y ∷ ys, some_names x (y ∷ ys), refl)) (λ ys r3 e3 o3 p3.
      then_sign s.Close r (x ∷ y ∷ ys, some_names x (y ∷ ys), refl) (λ u r4 e4.
      let i3 : r2 ≡ spell_further_names ys (t.Sign s.Close ∷ r4) = e3 ∙ ap (spell_further_names ys) e4 in
      let i2 : r1 ≡ spell_further_names (y ∷ ys) (t.Sign s.Close ∷ r4) = e2 ∙ ap (λ (l : List Token). t.Sign s.Comma ∷ t.Variable y.name ∷ l) i3 in
      pure_reads (x ∷ y ∷ ys) r4 (λ l. refl) (some_names x (y ∷ ys))
      (subst (IsAt w.text.here x) i2 p1, (subst (IsAt w.text.here y) i3 p2, subst (AreFurtherAt w.text.here ys) e4 p3))))))

  one_name_reads : (r ws : List Token) → Reads w 1 (names w.text.here) r (λ l. l) (λ at sub. one_name_at at) ws
  unfolding one_name_at
  one_name_reads r ws = then_reads (var_reads r ws) (λ x o. (x ∷ [], some_names x [], refl))
      (λ x r1 e1 o1 p1. pure_reads (x ∷ []) r1 (λ l. refl) (some_names x []) p1)

  pub names_bound_reads : (r ws : List Token) → Reads w 1 (names w.text.here) r (λ l. l) (λ at sub. names_bound_at at) ws
  names_bound_reads r [] = choice_nil (λ at sub. names_bound_at at) (λ at sub. one_name_at at) (λ at sub. refl) (one_name_reads r [])
  names_bound_reads r (t.Sign s.Open ∷ ws) = token_reads (λ at sub. names_bound_at at) (λ z at sub. several_names_at at) (t.Sign s.Open) ws
      (λ at sub l. refl) (several_names_reads r ws)
  names_bound_reads r (c ∷ ws) = choice_reads (λ at sub. names_bound_at at) (λ at sub. one_name_at at) c ws (λ at sub l. refl) (one_name_reads r (c ∷ ws))

-- ---- expressions

-- The parts are read so, of n levels.
abbrev pub PartsRead : World Parts → ℕ → Type 0
PartsRead w n = (m : Mode) (r ws : List Token) → Reads w 1 (expression w.text.here n m) r (λ l. l) (λ at sub. sub m) ws

module _ {w : World Parts} {n : ℕ} (h : PartsRead w n) where
  pub arguments_reads : (r ws : List Token) → Reads w 0 (arguments w.text.here n) r (λ l. l) (λ at sub. arguments_at (sub Atom)) ws
  unfolding arguments_at
  arguments_reads r ws =
      then_reads (many_reads starts_atom (λ at sub. sub Atom) (h Atom) r ws) (λ xs o. (arguments_of xs, arguments_fine xs o, arguments_spelled xs r))
      (λ xs rest e o p.
      pure_reads (arguments_of xs) rest (arguments_spelled xs) (arguments_fine xs o) (arguments_good w.text.here n xs rest p))

  -- ---- arms

  arm_reads : (r ws : List Token) → Reads w 1 (arm w.text.here n) r (λ l. l) (λ at sub. arm_at at (sub Any)) ws
  unfolding arm_at zero_is
  arm_reads r ws =
      let end = t.Sign s.Arrow ∷ spell zero_is r in
      then_reads (con_reads end ws) (λ k o. (record { constructor = k; variables = []; body = zero_is }, zero_fine, refl)) (λ k r1 e1 o1 p1.
      then_reads (variables_reads end r1) (λ xs o. (record { constructor = k; variables = xs; body = zero_is }, zero_fine, refl)) (λ xs r2 e2 o2 p2.
      then_sign s.Arrow (spell zero_is r) (record { constructor = k; variables = xs; body = zero_is }, zero_fine, refl) (λ u r3 e3.
      then_reads (h Any r r3) (λ e o. (record { constructor = k; variables = xs; body = e }, o.0, refl)) (λ e r4 e4 o4 p4.
      let i2 : r2 ≡ t.Sign s.Arrow ∷ spell e r4 = e3 ∙ ap (λ (l : List Token). t.Sign s.Arrow ∷ l) e4 in
      let i1 : r1 ≡ spell_variables xs (t.Sign s.Arrow ∷ spell e r4) = e2 ∙ ap (spell_variables xs) i2 in
      let arm : ArmTree = record { constructor = k; variables = xs; body = e } in
      pure_reads arm r4 (λ l. refl) o4.0 (p4.0, (subst (IsAt w.text.here k) i1 p1, subst (AreAt w.text.here xs) i2 p2, p4.1))))))

  pub next_arm_reads : (r ws : List Token) → Reads w 1 (next_arm w.text.here n) r (λ l. l) (λ at sub. next_arm_at at (sub Any)) ws
  unfolding next_arm_at zero_is
  next_arm_reads r ws =
      then_sign s.Semicolon (arm_then (record { constructor = a_name; variables = []; body = zero_is }) r)
      (record { constructor = a_name; variables = []; body = zero_is }, zero_fine, refl) (λ u r1 e1.
      as_reads (λ x l. refl) (λ x o. o) (λ x rest o p. p) (arm_reads r r1))

  arms_reads : (r ws : List Token) → Reads w 1 (arms w.text.here n) r (λ l. l) (λ at sub. arms_at at (sub Any)) ws
  unfolding arms_at
  arms_reads r ws =
      then_reads (arm_reads r ws) (λ a o. (arms_of a [], o, refl)) (λ a r1 e1 o1 p1.
      then_reads (many_reads (is_sign s.Semicolon) (λ at sub. next_arm_at at (sub Any)) next_arm_reads r r1)
      (λ xs o. (arms_of a xs, arms_fine a xs o1 o, arms_spelled a xs r)) (λ xs r2 e2 o2 p2.
      pure_reads (arms_of a xs) r2 (arms_spelled a xs) (arms_fine a xs o1 o2)
      (arms_good w.text.here n a xs r2 (subst (λ (l : List Token). (levels a.body ≤ n) × IsArmAt w.text.here a l) e2 p1) p2)))

  pub case_reads : (z : Span) (r ws : List Token) → z ≡ before w.text.here ws
      → Reads w 1 (expression w.text.here (suc n) Any) r (λ l. t.Sign s.Case ∷ l) (λ at sub. case_at at sub z) ws
  unfolding case_at zero_is
  case_reads z r ws ze =
      let end = t.Sign s.CloseBrace ∷ r in
      let some = arms_of (record { constructor = a_name; variables = []; body = zero_is }) [] in
      let arms_end = spell_arms some end in
      then_reads (var_reads (t.Sign s.Of ∷ t.Sign s.OpenBrace ∷ arms_end) ws) (λ x o. (GenericCase z x some, (zero_fine, tt), refl)) (λ x r1 e1 o1 p1.
      then_sign s.Of (t.Sign s.OpenBrace ∷ arms_end) (GenericCase z x some, (zero_fine, tt), refl) (λ u r2 e2.
      then_sign s.OpenBrace arms_end (GenericCase z x some, (zero_fine, tt), refl) (λ u r3 e3.
      then_reads (arms_reads end r3) (λ xs o. (GenericCase z x xs, (o, tt), refl)) (λ xs r4 e4 o4 p4.
      then_sign s.CloseBrace r (GenericCase z x xs, (o4, tt), refl) (λ u r5 e5.
      let i1 : r1 ≡ t.Sign s.Of ∷ t.Sign s.OpenBrace ∷ spell_arms xs (t.Sign s.CloseBrace ∷ r5) = e2
      ∙ ap (λ (l : List Token). t.Sign s.Of ∷ l) (e3 ∙ ap (λ (l : List Token). t.Sign s.OpenBrace ∷ l) (e4 ∙ ap (spell_arms xs) e5)) in
      let i0 : ws ≡ t.Variable x.name ∷ t.Sign s.Of ∷ t.Sign s.OpenBrace ∷ spell_arms xs (t.Sign s.CloseBrace ∷ r5) = e1
      ∙ ap (λ (l : List Token). t.Variable x.name ∷ l) i1 in
      pure_reads (GenericCase z x xs) r5 (λ l. refl) (o4, tt)
      (omega (arith, p4.0), (ze ∙ ap (before w.text.here) i0, subst (IsAt w.text.here x) i1 p1, subst (HavePlaces w.text.here xs) e5 p4.1)))))))

  -- ---- bindings

  binding_reads : (r ws : List Token) → Reads w 1 (binding w.text.here n) r (λ l. l) (λ at sub. binding_at at (sub Any)) ws
  unfolding binding_at zero_is
  binding_reads r ws =
      let end = t.Sign s.Equals ∷ spell zero_is r in
      then_reads (names_bound_reads end ws) (λ xs o. (record { names = xs; value = zero_is }, (o, zero_fine), refl)) (λ xs r1 e1 o1 p1.
      then_sign s.Equals (spell zero_is r) (record { names = xs; value = zero_is }, (o1, zero_fine), refl) (λ u r2 e2.
      then_reads (h Any r r2) (λ a o. (record { names = xs; value = a }, (o1, o.0), refl)) (λ a r3 e3 o3 p3.
      let i1 : r1 ≡ t.Sign s.Equals ∷ spell a r3 = e2 ∙ ap (λ (l : List Token). t.Sign s.Equals ∷ l) e3 in
      let x : BoundTree = record { names = xs; value = a } in
      pure_reads x r3 (λ l. refl) (o1, o3.0) (p3.0, (subst (AreNamesAt w.text.here xs) i1 p1, p3.1)))))

  bind_reads : (z : Span) (r ws : List Token) → z ≡ before w.text.here ws
      → Reads w 1 (expression w.text.here (suc n) Any) r (λ l. t.Sign s.Let ∷ l) (λ at sub. bind_at at sub z) ws
  unfolding bind_at zero_is
  bind_reads z r ws ze =
      then_reads (binding_reads (t.Sign s.In ∷ spell zero_is r) ws) (λ x o. (GenericLet z x.names x.value zero_is, ((o.0, o.1, zero_fine), tt), refl)) (λ x r1 e1 o1 p1.
      then_sign s.In (spell zero_is r) (GenericLet z x.names x.value zero_is, ((o1.0, o1.1, zero_fine), tt), refl) (λ u r2 e2.
      then_reads (h Any r r2) (λ b o. (GenericLet z x.names x.value b, ((o1.0, o1.1, o.0), tt), refl)) (λ b r3 e3 o3 p3.
      let i1 : r1 ≡ t.Sign s.In ∷ spell b r3 = e2 ∙ ap (λ (l : List Token). t.Sign s.In ∷ l) e3 in
      let here = subst (IsBindingAt w.text.here x) i1 p1.1 in
      pure_reads (GenericLet z x.names x.value b) r3 (λ l. refl) ((o1.0, o1.1, o3.0), tt)
      (omega (arith, p1.0, p3.0), (ze ∙ ap (before w.text.here) (e1 ∙ ap (binding_then x) i1), here.0, here.1, p3.1)))))

  par_reads : (z : Span) (r ws : List Token) → z ≡ before w.text.here (t.Sign s.Par ∷ ws)
      → Reads w 1 (expression w.text.here (suc n) Any) r (λ l. t.Sign s.Let ∷ t.Sign s.Par ∷ l) (λ at sub. par_at at sub z) ws
  unfolding par_at zero_is
  par_reads z r ws ze =
      let some : BoundTree = record { names = a_name ∷ []; value = zero_is } in
      let one = some_names a_name [] in
      let end2 = t.Sign s.In ∷ spell zero_is r in
      let end1 = t.Sign s.And ∷ binding_then some end2 in
      then_reads (binding_reads end1 ws)
      (λ x o. (GenericPar z x.names x.value some.names zero_is zero_is, ((o.0, one, o.1, zero_fine, zero_fine), tt), refl)) (λ x r1 e1 o1 p1.
      then_sign s.And (binding_then some end2)
      (GenericPar z x.names x.value some.names zero_is zero_is, ((o1.0, one, o1.1, zero_fine, zero_fine), tt), refl) (λ u r2 e2.
      then_reads (binding_reads end2 r2)
      (λ y o. (GenericPar z x.names x.value y.names y.value zero_is, ((o1.0, o.0, o1.1, o.1, zero_fine), tt), refl)) (λ y r3 e3 o3 p3.
      then_sign s.In (spell zero_is r) (GenericPar z x.names x.value y.names y.value zero_is, ((o1.0, o3.0, o1.1, o3.1, zero_fine), tt), refl) (λ u r4 e4.
      then_reads (h Any r r4) (λ c o. (GenericPar z x.names x.value y.names y.value c, ((o1.0, o3.0, o1.1, o3.1, o.0), tt), refl)) (λ c r5 e5 o5 p5.
      let i3 : r3 ≡ t.Sign s.In ∷ spell c r5 = e4 ∙ ap (λ (l : List Token). t.Sign s.In ∷ l) e5 in
      let i1 : r1 ≡ t.Sign s.And ∷ binding_then y (t.Sign s.In ∷ spell c r5) = e2 ∙ ap (λ (l : List Token). t.Sign s.And ∷ l) (e3 ∙ ap (binding_then y) i3) in
      let left = subst (IsBindingAt w.text.here x) i1 p1.1 in
      let right = subst (IsBindingAt w.text.here y) i3 p3.1 in
      pure_reads (GenericPar z x.names x.value y.names y.value c) r5 (λ l. refl) ((o1.0, o3.0, o1.1, o3.1, o5.0), tt) (
        omega (arith, p1.0, p3.0, p5.0),
        (
          ze ∙ ap (λ (l : List Token). w.text.here (suc (suc (length l)))) (e1 ∙ ap (binding_then x) i1),
          left.0,
          left.1,
          right.0,
          right.1,
          p5.1,
        ),
      ))))))

  pub let_reads : (z : Span) (r ws : List Token) → z ≡ before w.text.here ws
      → Reads w 1 (expression w.text.here (suc n) Any) r (λ l. t.Sign s.Let ∷ l) (λ at sub. let_at at sub z) ws
  let_reads z r [] ze = choice_nil (λ at sub. let_at at sub z) (λ at sub. bind_at at sub z) (λ at sub. refl) (bind_reads z r [] ze)
  let_reads z r (t.Sign s.Par ∷ ws) ze = token_reads (λ at sub. let_at at sub z) (λ y at sub. par_at at sub z) (t.Sign s.Par) ws (λ at sub l. refl)
      (par_reads z r ws ze)
  let_reads z r (c ∷ ws) ze = choice_reads (λ at sub. let_at at sub z) (λ at sub. bind_at at sub z) c ws (λ at sub l. refl) (bind_reads z r (c ∷ ws) ze)

  pub if_reads : (z : Span) (r ws : List Token) → z ≡ before w.text.here ws
      → Reads w 1 (expression w.text.here (suc n) Any) r (λ l. t.Sign s.If ∷ l) (λ at sub. if_at sub z) ws
  unfolding if_at zero_is
  if_reads z r ws ze =
      let end2 = t.Sign s.Else ∷ spell zero_is r in
      let end1 = t.Sign s.Then ∷ spell zero_is end2 in
      then_reads (h Any end1 ws) (λ a o. (GenericIf z a zero_is zero_is, ((o.0, zero_fine, zero_fine), tt), refl)) (λ a r1 e1 o1 p1.
      then_sign s.Then (spell zero_is end2) (GenericIf z a zero_is zero_is, ((o1.0, zero_fine, zero_fine), tt), refl) (λ u r2 e2.
      then_reads (h Any end2 r2) (λ b o. (GenericIf z a b zero_is, ((o1.0, o.0, zero_fine), tt), refl)) (λ b r3 e3 o3 p3.
      then_sign s.Else (spell zero_is r) (GenericIf z a b zero_is, ((o1.0, o3.0, zero_fine), tt), refl) (λ u r4 e4.
      then_reads (h Any r r4) (λ c o. (GenericIf z a b c, ((o1.0, o3.0, o.0), tt), refl)) (λ c r5 e5 o5 p5.
      let i3 : r3 ≡ t.Sign s.Else ∷ spell c r5 = e4 ∙ ap (λ (l : List Token). t.Sign s.Else ∷ l) e5 in
      let i1 : r1 ≡ t.Sign s.Then ∷ spell b (t.Sign s.Else ∷ spell c r5) = e2 ∙ ap (λ (l : List Token). t.Sign s.Then ∷ l) (e3 ∙ ap (spell b) i3) in
      pure_reads (GenericIf z a b c) r5 (λ l. refl) ((o1.0, o3.0, o5.0), tt) (
        omega (arith, p1.0, p3.0, p5.0),
        (
          ze ∙ ap (before w.text.here) (e1 ∙ ap (spell a) i1),
          subst (IsPlaced w.text.here a) i1 p1.1,
          subst (IsPlaced w.text.here b) i3 p3.1,
          p5.1,
        ),
      ))))))

  -- ---- parentheses

  -- What is known of the expression behind the parenthesis.
  record First (z : Span) (a : GenericExpression) (ws : List Token) : Type 0 where
    fine : IsGenericFine a
    level : levels a ≤ n
    mark : z ≡ before w.text.here (spell a ws)
    placed : IsPlaced w.text.here a ws

  operation_reads : (v : Bool) (m : Mode) (z : Span) (f : Operator) (a : GenericExpression) (g : Sign) (r ws : List Token)
      → is_generic_application a ≡ v → ((l : List Token) → spell_operator f l ≡ t.Sign g ∷ l)
      → ((sub : Parts) (l : List Token) → close_at sub z a (t.Sign g ∷ l) ≡ side_at (is_generic_application a) sub z f a l)
      → First z a (t.Sign g ∷ ws) → Reads w 1 (expression w.text.here (suc n) m) r (λ l. t.Sign s.Open ∷ spell a l) (λ at sub. close_at sub z a)
      (t.Sign g ∷ ws)
  operation_reads false m z f a g r ws v sign is k =
      fail_reads (λ at sub. close_at sub z a) (t.Sign g) ws (t.Sign s.Close ∷ r) (λ at sub l. is sub l ∙ ap (λ v. side_at v sub z f a l) v)
      (GenericParen z a, (k.fine, atom_mode m (GenericParen z a) refl), refl)
  operation_reads true m z f a g r ws v sign is k =
      let whole : (b : GenericExpression) (l : List Token) → t.Sign s.Open ∷ spell a (t.Sign g ∷ spell b (t.Sign s.Close ∷ l)) ≡ spell
      (GenericOp z f a b) l = λ b l. ap (λ (l : List Token). t.Sign s.Open ∷ spell a l) (sym (sign (spell b (t.Sign s.Close ∷ l)))) in
      token_reads (λ at sub. close_at sub z a) (λ y at sub. side_at true sub z f a) (t.Sign g) ws (λ at sub l. is sub l ∙ ap (λ v. side_at v sub z f a l) v) (
      then_reads (h App (t.Sign s.Close ∷ r) ws)
      (λ b o. (GenericOp z f a b, ((k.fine, o.0, v, o.1), atom_mode m (GenericOp z f a b) refl), whole b r)) (λ b r1 e1 o1 p1.
      then_sign s.Close r (GenericOp z f a b, ((k.fine, o1.0, v, o1.1), atom_mode m (GenericOp z f a b) refl), whole b r) (λ u r2 e2.
      let i : t.Sign g ∷ ws ≡ spell_operator f (spell b (t.Sign s.Close ∷ r2)) = ap (λ (l : List Token). t.Sign g ∷ l) (e1 ∙ ap (spell b) e2)
      ∙ sym (sign (spell b (t.Sign s.Close ∷ r2))) in
      pure_reads (GenericOp z f a b) r2 (whole b) ((k.fine, o1.0, v, o1.1), atom_mode m (GenericOp z f a b) refl) (
        omega (arith, k.level, p1.0),
        (
          k.mark ∙ ap (λ (l : List Token). before w.text.here (spell a l)) i,
          subst (IsPlaced w.text.here a) i k.placed,
          subst (IsPlaced w.text.here b) e2 p1.1,
        ),
      ))))

  sign_reads : (v : Option Operator) (m : Mode) (z : Span) (a : GenericExpression) (g : Sign) (r ws : List Token) → operator_of g ≡ v
      → ((sub : Parts) (l : List Token) → close_at sub z a (t.Sign g ∷ l) ≡ operation_at (operator_of g) sub z a l)
      → First z a (t.Sign g ∷ ws) → Reads w 1 (expression w.text.here (suc n) m) r (λ l. t.Sign s.Open ∷ spell a l) (λ at sub. close_at sub z a)
      (t.Sign g ∷ ws)
  sign_reads None m z a g r ws e is k =
      fail_reads (λ at sub. close_at sub z a) (t.Sign g) ws (t.Sign s.Close ∷ r) (λ at sub l. is sub l ∙ ap (λ v. operation_at v sub z a l) e)
      (GenericParen z a, (k.fine, atom_mode m (GenericParen z a) refl), refl)
  sign_reads (Some f) m z a g r ws e is k =
      operation_reads (is_generic_application a) m z f a g r ws refl (λ l. ap (λ (b : Sign). t.Sign b ∷ l) (sym (sign_is g f e)))
      (λ sub l. is sub l ∙ ap (λ v. operation_at v sub z a l) e) k

  close_reads : (m : Mode) (z : Span) (a : GenericExpression) (r ws : List Token) → First z a ws
      → Reads w 1 (expression w.text.here (suc n) m) r (λ l. t.Sign s.Open ∷ spell a l) (λ at sub. close_at sub z a) ws
  close_reads m z a r [] k = fail_nil (λ at sub. close_at sub z a) (t.Sign s.Close ∷ r) (λ at sub. refl)
      (GenericParen z a, (k.fine, atom_mode m (GenericParen z a) refl), refl)
  close_reads m z a r (t.Sign s.Close ∷ ws) k =
      token_reads (λ at sub. close_at sub z a) (λ y at sub. done (GenericParen z a)) (t.Sign s.Close) ws (λ at sub l. refl)
      (pure_reads (GenericParen z a) ws (λ l. refl) (k.fine, atom_mode m (GenericParen z a) refl) (omega (arith, k.level), (k.mark, k.placed)))
  close_reads m z a r (t.Sign g ∷ ws) k = sign_reads (operator_of g) m z a g r ws refl (λ sub l. refl) k
  close_reads m z a r (c ∷ ws) k = fail_reads (λ at sub. close_at sub z a) c ws (t.Sign s.Close ∷ r) (λ at sub l. refl)
      (GenericParen z a, (k.fine, atom_mode m (GenericParen z a) refl), refl)

  pub open_reads : (m : Mode) (z : Span) (r ws : List Token) → z ≡ before w.text.here ws
      → Reads w 1 (expression w.text.here (suc n) m) r (λ l. t.Sign s.Open ∷ l) (λ at sub. open_at sub z) ws
  unfolding open_at
  open_reads m z r ws ze =
      then_reads (h Any (t.Sign s.Close ∷ r) ws) (λ a o. (GenericParen z a, (o.0, atom_mode m (GenericParen z a) refl), refl)) (λ a r1 e1 o1 p1.
      close_reads m z a r r1 (record { fine = o1.0; level = p1.0; mark = ze ∙ ap (before w.text.here) e1; placed = p1.1 }))

  -- ---- tuples

  pub next_part_reads : (r ws : List Token) → Reads w 1 (next_part w.text.here n) r (λ l. l) (λ at sub. next_part_at (sub Any)) ws
  unfolding next_part_at zero_is
  next_part_reads r ws = then_sign s.Comma (spell zero_is r) (zero_is, zero_fine, refl)
      (λ u r1 e1. as_reads (λ x l. refl) (λ x o. o.0) (λ x rest o p. p) (h Any r r1))

  further_parts_reads : (r ws : List Token) → Reads w 0 (further_parts w.text.here n) r (λ l. l) (λ at sub. many (is_sign s.Comma) (next_part_at (sub Any))) ws
  further_parts_reads r ws = as_reads parts_spelled parts_fine (λ xs rest o p. parts_good w.text.here n xs rest p)
      (many_reads (is_sign s.Comma) (λ at sub. next_part_at (sub Any)) next_part_reads r ws)

  tuple_reads : (z : Span) (a : GenericExpression) (r ws : List Token) → First z a ws
      → Reads w 1 (expression w.text.here (suc n) Any) r (λ l. t.Sign s.Open ∷ spell a l) (λ at sub. tuple_at sub z a) ws
  unfolding tuple_at
  tuple_reads z a r ws k =
      let end = t.Sign s.Close ∷ r in
      then_reads (next_part_reads end ws) (λ b o. (GenericTuple z (arguments_of (a ∷ b ∷ [])), ((k.fine, (o, tt)), tt), refl)) (λ b r1 e1 o1 p1.
      then_reads (further_parts_reads end r1) (λ xs o. (GenericTuple z (arguments_of (a ∷ b ∷ xs)), ((k.fine, (o1, o)), tt), refl)) (λ xs r2 e2 o2 p2.
      then_sign s.Close r (GenericTuple z (arguments_of (a ∷ b ∷ xs)), ((k.fine, (o1, o2)), tt), refl) (λ u r3 e3.
      let i1 : r1 ≡ spell_further_parts (arguments_of xs) (t.Sign s.Close ∷ r3) = e2 ∙ ap (spell_further_parts (arguments_of xs)) e3 in
      let i0 : ws ≡ spell_further_parts (arguments_of (b ∷ xs)) (t.Sign s.Close ∷ r3) = e1 ∙ ap (λ (l : List Token). t.Sign s.Comma ∷ spell b l) i1 in
      pure_reads (GenericTuple z (arguments_of (a ∷ b ∷ xs))) r3 (λ l. refl) ((k.fine, (o1, o2)), tt) (
        omega (arith, k.level, p1.0, p2.0),
        (
          k.mark ∙ ap (λ (l : List Token). before w.text.here (spell a l)) i0,
          (
            subst (IsPlaced w.text.here a) i0 k.placed,
            (subst (IsPlaced w.text.here b) i1 p1.1, subst (ArePartsPlaced w.text.here (arguments_of xs)) e3 p2.1),
          ),
        ),
      ))))

  close_any_reads : (z : Span) (a : GenericExpression) (r ws : List Token) → First z a ws
      → Reads w 1 (expression w.text.here (suc n) Any) r (λ l. t.Sign s.Open ∷ spell a l) (λ at sub. close_any_at sub z a) ws
  close_any_reads z a r [] k = choice_nil (λ at sub. close_any_at sub z a) (λ at sub. close_at sub z a) (λ at sub. refl) (close_reads Any z a r [] k)
  close_any_reads z a r (t.Sign s.Comma ∷ ws) k = choice_reads (λ at sub. close_any_at sub z a) (λ at sub. tuple_at sub z a) (t.Sign s.Comma) ws
      (λ at sub l. refl) (tuple_reads z a r (t.Sign s.Comma ∷ ws) k)
  close_any_reads z a r (c ∷ ws) k = choice_reads (λ at sub. close_any_at sub z a) (λ at sub. close_at sub z a) c ws (λ at sub l. refl)
      (close_reads Any z a r (c ∷ ws) k)

  pub open_any_reads : (z : Span) (r ws : List Token) → z ≡ before w.text.here ws
      → Reads w 1 (expression w.text.here (suc n) Any) r (λ l. t.Sign s.Open ∷ l) (λ at sub. open_any_at sub z) ws
  unfolding open_any_at
  open_any_reads z r ws ze =
      then_reads (h Any (t.Sign s.Close ∷ r) ws) (λ a o. (GenericParen z a, (o.0, tt), refl)) (λ a r1 e1 o1 p1.
      close_any_reads z a r r1 (record { fine = o1.0; level = p1.0; mark = ze ∙ ap (before w.text.here) e1; placed = p1.1 }))

  -- ---- atoms

  literal_reads : (m : Mode) (v : ℕ) (r ws : List Token) (b : Bool) → is_literal v ≡ b
      → Reads w 1 (expression w.text.here (suc n) m) r (λ l. l) (λ at sub. atom_at at sub) (t.Number v ∷ ws)
  unfolding zero_is
  literal_reads m v r ws true e =
      token_reads (λ at sub. atom_at at sub) (λ z at sub. done (GenericNum z v)) (t.Number v) ws (λ at sub l. ap (λ b. literal_at b (before at l) v l) e)
      (pure_reads (GenericNum (before w.text.here ws) v) ws (λ l. refl)
      (ltb-true v (2 ^ 63) e, atom_mode m (GenericNum (before w.text.here ws) v) refl) (omega arith, refl))
  literal_reads m v r ws false e = fail_reads (λ at sub. atom_at at sub) (t.Number v) ws (spell zero_is r)
      (λ at sub l. ap (λ b. literal_at b (before at l) v l) e) (zero_is, (zero_fine, atom_mode m zero_is refl), refl)

  pub constant_reads : (m : Mode) (k : Ident) (r ws : List Token) → IsAt w.text.here k ws
      → Reads w 0 (expression w.text.here (suc n) m) r (λ l. t.Constructor k.name ∷ l) (λ at sub. constant_at at k) ws
  unfolding constant_at
  constant_reads m k r ws ke =
      let made : WrittenTypes → GenericExpression = λ ts. GenericMake k ts GenericNoArgument in
      then_reads (type_arguments_reads r ws) (λ ts o. (made ts, (tt, atom_mode m (made ts) refl), refl)) (λ ts r1 e1 o1 p1.
      pure_reads (made ts) r1 (λ l. refl) (tt, atom_mode m (made ts) refl) (omega arith, (subst (IsAt w.text.here k) e1 ke, p1, tt)))

  pub atom_reads : (m : Mode) (r ws : List Token) → Reads w 1 (expression w.text.here (suc n) m) r (λ l. l) (λ at sub. atom_at at sub) ws
  unfolding zero_is
  atom_reads m r [] = fail_nil (λ at sub. atom_at at sub) (spell zero_is r) (λ at sub. refl) (zero_is, (zero_fine, atom_mode m zero_is refl), refl)
  atom_reads m r (t.Variable x ∷ ws) =
      let a = GenericVar (named w.text.here x ws) in
      token_reads (λ at sub. atom_at at sub) (λ z at sub. done (GenericVar (record { name = x; span = z }))) (t.Variable x) ws (λ at sub l. refl)
      (pure_reads a ws (λ l. refl) (tt, atom_mode m a refl) (omega arith, refl))
  atom_reads m r (t.Constructor x ∷ ws) = token_reads (λ at sub. atom_at at sub) (λ z at sub. constant_at at (record { name = x; span = z }))
      (t.Constructor x) ws (λ at sub l. refl) (constant_reads m (named w.text.here x ws) r ws refl)
  atom_reads m r (t.Number v ∷ ws) = literal_reads m v r ws (is_literal v) refl
  atom_reads m r (t.Sign s.True ∷ ws) =
      let a = GenericBit (before w.text.here ws) true in
      token_reads (λ at sub. atom_at at sub) (λ z at sub. done (GenericBit z true)) (t.Sign s.True) ws (λ at sub l. refl)
      (pure_reads a ws (λ l. refl) (tt, atom_mode m a refl) (omega arith, refl))
  atom_reads m r (t.Sign s.False ∷ ws) =
      let a = GenericBit (before w.text.here ws) false in
      token_reads (λ at sub. atom_at at sub) (λ z at sub. done (GenericBit z false)) (t.Sign s.False) ws (λ at sub l. refl)
      (pure_reads a ws (λ l. refl) (tt, atom_mode m a refl) (omega arith, refl))
  atom_reads m r (t.Sign s.Open ∷ ws) = token_reads (λ at sub. atom_at at sub) (λ z at sub. open_at sub z) (t.Sign s.Open) ws (λ at sub l. refl)
      (open_reads m (before w.text.here ws) r ws refl)
  atom_reads m r (c ∷ ws) = fail_reads (λ at sub. atom_at at sub) c ws (spell zero_is r) (λ at sub l. refl)
      (zero_is, (zero_fine, atom_mode m zero_is refl), refl)

  -- ---- applications

  abbrev pub Applies : Mode → Type 0
  Applies m = (e : GenericExpression) → is_generic_application e ≡ true → IsMode m e

  abbrev call_spelled : (f : Ident) (xs : GenericArguments) (l : List Token) → t.Variable f.name ∷ spell_arguments xs l ≡ spell (call f xs) l
  call_spelled f GenericNoArgument l = refl
  call_spelled f (GenericArgument a xs) l = refl

  call_fine : (m : Mode) → Applies m → (f : Ident) (xs : GenericArguments) → AreGenericFine xs → IsGenericFine (call f xs) × IsMode m (call f xs)
  call_fine m k f GenericNoArgument o = (tt, k (GenericVar f) refl)
  call_fine m k f (GenericArgument a xs) o = (o, k (GenericCall f NoType (GenericArgument a xs)) refl)

  call_good : (f : Ident) (xs : GenericArguments) (rest : List Token) → IsAt w.text.here f (spell_arguments xs rest)
      → (levels_arguments xs ≤ n) × ArePlaced w.text.here xs rest → (levels (call f xs) ≤ suc n) × IsPlaced w.text.here (call f xs) rest
  call_good f GenericNoArgument rest fe p = (omega arith, fe)
  call_good f (GenericArgument a xs) rest fe p = (omega (arith, p.0), (fe, tt, p.1))

  called_reads : (m : Mode) → Applies m → (f : Ident) (ts : WrittenTypes) (r ws : List Token) → IsAt w.text.here f (spell_type_arguments ts ws)
      → AreWrittenAt w.text.here ts (t.Sign s.CloseBracket ∷ ws)
      → Reads w 0 (expression w.text.here (suc n) m) r (λ l. t.Variable f.name ∷ spell_type_arguments ts l) (λ at sub. called_at sub f ts) ws
  unfolding called_at
  called_reads m k f NoType r ws fe pt =
      then_reads (arguments_reads r ws) (λ xs o. (call f xs, call_fine m k f xs o, call_spelled f xs r)) (λ xs r1 e1 o1 p1.
      pure_reads (call f xs) r1 (call_spelled f xs) (call_fine m k f xs o1) (call_good f xs r1 (subst (IsAt w.text.here f) e1 fe) p1))
  called_reads m k f (MoreTypes x ts) r ws fe pt =
      let made : GenericArguments → GenericExpression = GenericCall f (MoreTypes x ts) in
      weaken (then_reads (h Atom r ws)
      (λ a o. (made (GenericArgument a GenericNoArgument), ((o.0, o.1, tt), k (made (GenericArgument a GenericNoArgument)) refl), refl))
      (λ a r1 e1 o1 p1.
      then_reads (arguments_reads r r1) (λ xs o. (made (GenericArgument a xs), ((o1.0, o1.1, o), k (made (GenericArgument a xs)) refl), refl))
      (λ xs r2 e2 o2 p2.
      let i : ws ≡ spell a (spell_arguments xs r2) = e1 ∙ ap (spell a) e2 in
      pure_reads (made (GenericArgument a xs)) r2 (λ l. refl) ((o1.0, o1.1, o2), k (made (GenericArgument a xs)) refl) (
        omega (arith, p1.0, p2.0),
        (
          subst (λ (l : List Token). IsAt w.text.here f (spell_type_arguments (MoreTypes x ts) l)) i fe,
          subst (λ (l : List Token). AreWrittenAt w.text.here (MoreTypes x ts) (t.Sign s.CloseBracket ∷ l)) i pt,
          (subst (IsPlaced w.text.here a) e2 p1.1, p2.1),
        ),
      ))))

  pub variable_reads : (m : Mode) → Applies m → (f : Ident) (r ws : List Token) → IsAt w.text.here f ws
      → Reads w 0 (expression w.text.here (suc n) m) r (λ l. t.Variable f.name ∷ l) (λ at sub. variable_at at sub f) ws
  unfolding variable_at zero_is
  variable_reads m k f r ws fe =
      let one = GenericArgument zero_is GenericNoArgument in
      then_reads (type_arguments_reads (spell zero_is r) ws)
      (λ ts o. (GenericCall f ts one, ((zero_fine, refl, tt), k (GenericCall f ts one) refl), refl)) (λ ts r1 e1 o1 p1.
      called_reads m k f ts r r1 (subst (IsAt w.text.here f) e1 fe) p1)

  pub make_reads : (m : Mode) → Applies m → (c : Ident) (r ws : List Token) → IsAt w.text.here c ws
      → Reads w 0 (expression w.text.here (suc n) m) r (λ l. t.Constructor c.name ∷ l) (λ at sub. make_at at sub c) ws
  unfolding make_at
  make_reads m k c r ws ce =
      then_reads (type_arguments_reads r ws) (λ ts o. (GenericMake c ts GenericNoArgument, (tt, k (GenericMake c ts GenericNoArgument) refl), refl))
      (λ ts r1 e1 o1 p1.
      then_reads (arguments_reads r r1) (λ xs o. (GenericMake c ts xs, (o, k (GenericMake c ts xs) refl), refl)) (λ xs r2 e2 o2 p2.
      pure_reads (GenericMake c ts xs) r2 (λ l. refl) (o2, k (GenericMake c ts xs) refl) (
        omega (arith, p2.0),
        (
          subst (IsAt w.text.here c) (e1 ∙ ap (spell_type_arguments ts) e2) ce,
          subst (λ (l : List Token). AreWrittenAt w.text.here ts (t.Sign s.CloseBracket ∷ l)) e2 p1,
          p2.1,
        ),
      )))

  pub app_reads : (m : Mode) → Applies m → (r ws : List Token) → Reads w 1 (expression w.text.here (suc n) m) r (λ l. l) (λ at sub. app_at at sub) ws
  app_reads m k r [] = choice_nil (λ at sub. app_at at sub) (λ at sub. atom_at at sub) (λ at sub. refl) (atom_reads m r [])
  app_reads m k r (t.Variable x ∷ ws) = token_reads (λ at sub. app_at at sub) (λ z at sub. variable_at at sub (record { name = x; span = z }))
      (t.Variable x) ws (λ at sub l. refl) (variable_reads m k (named w.text.here x ws) r ws refl)
  app_reads m k r (t.Constructor x ∷ ws) = token_reads (λ at sub. app_at at sub) (λ z at sub. make_at at sub (record { name = x; span = z }))
      (t.Constructor x) ws (λ at sub l. refl) (make_reads m k (named w.text.here x ws) r ws refl)
  app_reads m k r (c ∷ ws) = choice_reads (λ at sub. app_at at sub) (λ at sub. atom_at at sub) c ws (λ at sub l. refl) (atom_reads m r (c ∷ ws))

  pub any_reads : (r ws : List Token) → Reads w 1 (expression w.text.here (suc n) Any) r (λ l. l) (λ at sub. any_at at sub) ws
  any_reads r [] = choice_nil (λ at sub. any_at at sub) (λ at sub. app_at at sub) (λ at sub. refl) (app_reads Any (λ e i. tt) r [])
  any_reads r (t.Sign s.Let ∷ ws) = token_reads (λ at sub. any_at at sub) (λ z at sub. let_at at sub z) (t.Sign s.Let) ws (λ at sub l. refl)
      (let_reads (before w.text.here ws) r ws refl)
  any_reads r (t.Sign s.If ∷ ws) = token_reads (λ at sub. any_at at sub) (λ z at sub. if_at sub z) (t.Sign s.If) ws (λ at sub l. refl)
      (if_reads (before w.text.here ws) r ws refl)
  any_reads r (t.Sign s.Case ∷ ws) = token_reads (λ at sub. any_at at sub) (λ z at sub. case_at at sub z) (t.Sign s.Case) ws (λ at sub l. refl)
      (case_reads (before w.text.here ws) r ws refl)
  any_reads r (t.Sign s.Open ∷ ws) = token_reads (λ at sub. any_at at sub) (λ z at sub. open_any_at sub z) (t.Sign s.Open) ws (λ at sub l. refl)
      (open_any_reads (before w.text.here ws) r ws refl)
  any_reads r (c ∷ ws) = choice_reads (λ at sub. any_at at sub) (λ at sub. app_at at sub) c ws (λ at sub l. refl) (app_reads Any (λ e i. tt) r (c ∷ ws))
