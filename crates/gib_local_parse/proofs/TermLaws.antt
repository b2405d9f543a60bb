-- The laws of the readers of terms.
use Rattle.std.proofs.Common.{◌≡◌, ℕ, suc, ◌+◌, ◌<◌, ◌≤◌, ◌^◌, List, [], ◌∷◌, length, None, refl, ap, ◌∙◌, subst}
use Rattle.gib_base.specs.declared.Span.{Span}
use Rattle.gib_base.specs.declared.token.Sign.TheVariants as s
use Rattle.gib_base.specs.declared.token.Token.{Token}
use Rattle.gib_base.specs.declared.token.Token.TheVariants as t
use Rattle.gib_syntax.specs.declared.tree.Ident.{Ident}
use Rattle.gib_syntax.specs.declared.tree.TypeName.{TypeName}
use Rattle.gib_syntax.specs.declared.tree.TypeName.TheVariants as ty
use Rattle.gib_types.specs.declared.operator.Operator.TheVariants as o
use Rattle.gib_syntax.specs.Spelling.{Places}
use Rattle.gib_reads.specs.Readers.{Reader, before, named, then_at, want, var_at, is_sign}
use Rattle.gib_local_parse.specs.Tree.{Mark, Start, ByOffset, Line, In, Given, Pointed, Called, Made, Cased, Chosen, Binding, NewRegion, NewPlace, LetIn, ParIn, PrimIn, ReachIn, Bound, Be, Arms}
use Rattle.gib_local_parse.specs.Grammar.{sign, lower, upper, operand_word, type_word, operator_word, spell_mark, spell_option, spell_operands, spell_names, spell_location, spell_between, spell_line, spell_binding, spell_bound, spell_arms, type_at, bound_from, bound_at, prim_at, side_in_at, let_from, par_at, one_at, let_at, in_at, ArmText, arms_of, arm_at, next_arm_at, arms_at, region_at, new_place_at, reach_at, give_at, point_at, call_at, make_at, case_at, if_at, line_at}
use Rattle.gib_local_parse.specs.Placed.{IsAt, MarkAt, OptionAt, OperandAt, OperandsAt, NamesAt, TypeAt, BetweenAt, LineAt, BindingAt, BoundAt, ArmsAt}
use Rattle.gib_reads.proofs.Tools.{done}
use Rattle.gib_reads.proofs.Laws.{World, Form, IsSpelled, Reads, pure_reads, fail_nil, fail_reads, token_reads, choice_nil, choice_reads, weaken, as_reads, then_behind, then_reads, then_sign, var_reads, con_reads, many_reads, write_all, fine_all, good_all, a_name}
use Rattle.gib_local_parse.proofs.Asked.{LineIn, BindingIn, BoundIn, ArmsIn}
use Rattle.gib_local_parse.proofs.PhraseLaws.{nowhere, nothing, zero_small, type_reads, operand_reads, operands_reads, names_reads, mark_reads, option_reads, location_reads, way_reads, operator_reads, between_reads}

abbrev pub line : Places → ℕ → Form Line
line at n = record { write = spell_line; fine = λ u. LineIn u (suc n); good = λ u rest. LineAt at u n rest }

abbrev pub binding : Places → ℕ → Form Binding
binding at n = record { write = spell_binding; fine = λ b. BindingIn b (suc n); good = λ b rest. BindingAt at b n rest }

abbrev bound : Places → ℕ → Form Bound
bound at n = record { write = spell_bound; fine = λ b. BoundIn b (suc n); good = λ b rest. BoundAt at b n rest }

abbrev arm_then : ArmText → List Token → List Token
arm_then arm l = upper arm.constructor ∷ spell_names arm.variables (sign s.Arrow ∷ spell_line arm.line l)

abbrev ArmIn : Places → ℕ → ArmText → List Token → Type 0
ArmIn at n arm rest = IsAt at arm.constructor (spell_names arm.variables (sign s.Arrow ∷ spell_line arm.line rest)) × NamesAt at arm.variables
    (sign s.Arrow ∷ spell_line arm.line rest) × LineAt at arm.line n rest

abbrev arm : Places → ℕ → Form ArmText
arm at n = record { write = arm_then; fine = λ arm. LineIn arm.line (suc n); good = ArmIn at n }

abbrev next_then : ArmText → List Token → List Token
next_then arm l = sign s.Semicolon ∷ arm_then arm l

abbrev next_arm : Places → ℕ → Form ArmText
next_arm at n = record { write = next_then; fine = λ arm. LineIn arm.line (suc n); good = ArmIn at n }

abbrev arms : Places → ℕ → Form Arms
arms at n = record { write = spell_arms; fine = λ arms. ArmsIn arms (suc n); good = λ arms rest. ArmsAt at arms n rest }

-- ---- arms

arms_spelled : (a : ArmText) (xs : List ArmText) (l : List Token) → arm_then a (write_all next_then xs l) ≡ spell_arms (arms_of a xs) l
arms_spelled a [] l = refl
arms_spelled a (x ∷ xs) l = ap (λ (l : List Token). arm_then a (sign s.Semicolon ∷ l)) (arms_spelled x xs l)

arms_fine : (n : ℕ) (a : ArmText) (xs : List ArmText) → LineIn a.line n → fine_all (λ (arm : ArmText). LineIn arm.line n) xs → ArmsIn (arms_of a xs) n
arms_fine n a [] f h = f
arms_fine n a (x ∷ xs) f h = (f, arms_fine n x xs h.0 h.1)

arms_good : (at : Places) (n : ℕ) (a : ArmText) (xs : List ArmText) (l : List Token) → ArmIn at n a (write_all next_then xs l) → good_all next_then
    (ArmIn at n) xs l → ArmsAt at (arms_of a xs) n l
arms_good at n a [] l g h = g
arms_good at n a (x ∷ xs) l g h =
    let more = arms_good at n x xs l h.0 h.1 in
    let here = subst (ArmIn at n a) (ap (λ (l : List Token). sign s.Semicolon ∷ l) (arms_spelled x xs l)) g in
    (here.0, here.1, here.2, more)

-- The plainest term.
abbrev pub plain : Line
plain = Given nowhere nothing

-- ---- terms

-- Lines are read so, of n levels.
abbrev pub LinesRead : World (Reader Line) → ℕ → Type 0
LinesRead w n = (r ws : List Token) → Reads w 1 (line w.text.here n) r (λ l. l) (λ at sub. sub) ws

-- Behind the equals sign of a `let` without a place: an operation, or a term.
abbrev plain_side : Ident → TypeName → Places → Reader Line → Reader Binding
plain_side x w at sub ws = then_at (then_at (sub ws) (λ u. done (Be x w None u))) (λ b. done (LetIn b))

abbrev behind_equals : Ident → TypeName → Places → Reader Line → Reader Binding
behind_equals x w at sub (t.Sign s.Open ∷ ws) = prim_at at x w ws
behind_equals x w at sub ws = plain_side x w at sub ws

equals_is : (x : Ident) (w : TypeName) (at : Places) (sub : Reader Line) (l : List Token) → let_from at sub x w
    (t.Sign s.Equals ∷ l) ≡ behind_equals x w at sub l
equals_is x w at sub [] = refl
equals_is x w at sub (t.Sign s.Open ∷ l) = refl
equals_is x w at sub (c ∷ l) = refl

module _ {w : World (Reader Line)} {n : ℕ} (h : LinesRead w n) where
  -- A variable and its type stand before these.
  record Typed (x : Ident) (a : TypeName) (ws : List Token) : Type 0 where
    name : IsAt w.text.here x (sign s.Colon ∷ type_word a ∷ ws)
    ty : TypeAt w.text.here a ws

  typed_by : (x : Ident) (a : TypeName) (r q : List Token) → r ≡ q → Typed x a r → Typed x a q
  typed_by x a r q e k = subst (Typed x a) e k

  bound_from_reads : (x : Ident) (a : TypeName) (r ws : List Token) → Typed x a ws → Reads w 0 (bound w.text.here n) r
      (λ l. lower x ∷ sign s.Colon ∷ type_word a ∷ l) (λ at sub. bound_from at sub x a) ws
  bound_from_reads x a r ws k =
      let end = spell_line plain r in
      then_reads (option_reads (sign s.Equals ∷ end) ws) (λ m o. (Be x a m plain, zero_small, refl)) (λ m r1 e1 o1 p1.
      then_sign s.Equals end (Be x a m plain, zero_small, refl) (λ u r2 e2.
      then_reads (h r r2) (λ u o. (Be x a m u, o, refl)) (λ u r3 e3 o3 p3.
      let i1 : r1 ≡ sign s.Equals ∷ spell_line u r3 = e2 ∙ ap (λ (l : List Token). sign s.Equals ∷ l) e3 in
      let k' = typed_by x a ws (spell_option m (sign s.Equals ∷ spell_line u r3)) (e1 ∙ ap (spell_option m) i1) k in
      pure_reads (Be x a m u) r3 (λ l. refl) o3 (k'.name, k'.ty, subst (OptionAt w.text.here m) i1 p1, p3))))

  -- A variable, a colon and a type, and then another reader.
  then_typed : {A : Type 0} {j : ℕ} {F : Form A} {r : List Token} {f : List Token → List Token} {K : Places → Reader Line → Ident → TypeName
      → Reader A} {ws : List Token} (q : List Token) → ((x : Ident) (a : TypeName) → IsSpelled F r (f (lower x ∷ sign s.Colon ∷ type_word a ∷ q)))
      → ((x : Ident) (a : TypeName) (rest : List Token) → ws ≡ lower x ∷ sign s.Colon ∷ type_word a ∷ rest → Typed x a rest → Reads w j F r
      (λ l. f (lower x ∷ sign s.Colon ∷ type_word a ∷ l)) (λ at sub. K at sub x a) rest)
      → Reads w 1 F r f (λ at sub l. then_at (var_at at l) (λ x l. then_at (want s.Colon l) (λ _ l. then_at (type_at at l) (λ a. K at sub x a)))) ws
  then_typed q o c =
      then_reads (var_reads (sign s.Colon ∷ sign s.Int ∷ q) _) (λ x i. o x (ty.Whole nowhere)) (λ x r1 e1 o1 p1.
      then_sign s.Colon (sign s.Int ∷ q) (o x (ty.Whole nowhere)) (λ u r2 e2.
      then_reads (type_reads q r2) (λ a i. o x a) (λ a r3 e3 o3 p3.
      let i1 : r1 ≡ sign s.Colon ∷ type_word a ∷ r3 = e2 ∙ ap (λ (l : List Token). sign s.Colon ∷ l) e3 in
      c x a r3 (e1 ∙ ap (λ (l : List Token). lower x ∷ l) i1) (record { name = subst (IsAt w.text.here x) i1 p1; ty = p3 }))))

  bound_reads : (r ws : List Token) → Reads w 1 (bound w.text.here n) r (λ l. l) (λ at sub. bound_at at sub) ws
  bound_reads r ws = then_typed (sign s.Equals ∷ spell_line plain r) (λ x a. (Be x a None plain, zero_small, refl))
      (λ x a rest e k. bound_from_reads x a r rest k)

  prim_reads : (x : Ident) (a : TypeName) (r ws : List Token) → Typed x a (sign s.Equals ∷ sign s.Open ∷ ws) → Reads w 1 (binding w.text.here n) r
      (λ l. sign s.Let ∷ lower x ∷ sign s.Colon ∷ type_word a ∷ sign s.Equals ∷ sign s.Open ∷ l) (λ at sub. prim_at at x a) ws
  prim_reads x a r ws k =
      let end = sign s.Close ∷ r in
      then_reads (operand_reads (sign s.Plus ∷ t.Number 0 ∷ end) ws) (λ y i. (PrimIn x a y o.Add nothing, (i, zero_small), refl)) (λ y r1 e1 o1 p1.
      then_reads (operator_reads (t.Number 0 ∷ end) r1) (λ f o. (PrimIn x a y f nothing, (o1, zero_small), refl)) (λ f r2 e2 o2 p2.
      then_reads (operand_reads end r2) (λ z o. (PrimIn x a y f z, (o1, o), refl)) (λ z r3 e3 o3 p3.
      then_sign s.Close r (PrimIn x a y f z, (o1, o3), refl) (λ u r4 e4.
      let i2 : r2 ≡ operand_word z ∷ sign s.Close ∷ r4 = e3 ∙ ap (λ (l : List Token). operand_word z ∷ l) e4 in
      let i1 : r1 ≡ operator_word f ∷ operand_word z ∷ sign s.Close ∷ r4 = e2 ∙ ap (λ (l : List Token). operator_word f ∷ l) i2 in
      let k' = subst (λ (l : List Token). Typed x a (sign s.Equals ∷ sign s.Open ∷ l)) (e1 ∙ ap (λ (l : List Token). operand_word y ∷ l) i1) k in
      pure_reads (PrimIn x a y f z) r4 (λ l. refl) (o1, o3) (k'.name, k'.ty, subst (OperandAt w.text.here y) i1 p1, subst (OperandAt w.text.here z) e4 p3)))))

  side_in_reads : (x : Ident) (a : TypeName) (r ws : List Token) → Typed x a ws → Reads w 0 (binding w.text.here n) r
      (λ l. sign s.Let ∷ lower x ∷ sign s.Colon ∷ type_word a ∷ l) (λ at sub. side_in_at at sub x a) ws
  side_in_reads x a r ws k = then_behind (λ l. sign s.Let ∷ l) (bound_from_reads x a r ws k) (λ b o. (LetIn b, o, refl))
      (λ b r1 e1 o1 p1. pure_reads (LetIn b) r1 (λ l. refl) o1 p1)

  plain_reads : (x : Ident) (a : TypeName) (r ws : List Token) → Typed x a (sign s.Equals ∷ ws) → Reads w 1 (binding w.text.here n) r
      (λ l. sign s.Let ∷ lower x ∷ sign s.Colon ∷ type_word a ∷ sign s.Equals ∷ l) (plain_side x a) ws
  plain_reads x a r ws k =
      let side : Reads w 1 (bound w.text.here n) r (λ l. lower x ∷ sign s.Colon ∷ type_word a ∷ sign s.Equals ∷ l)
      (λ at sub l. then_at (sub l) (λ u. done (Be x a None u))) ws =
      then_reads (h r ws) (λ u o. (Be x a None u, o, refl)) (λ u r1 e1 o1 p1.
      let k' = subst (λ (l : List Token). Typed x a (sign s.Equals ∷ l)) e1 k in
      pure_reads (Be x a None u) r1 (λ l. refl) o1 (k'.name, k'.ty, tt, p1)) in
      then_behind (λ l. sign s.Let ∷ l) side (λ b o. (LetIn b, o, refl)) (λ b r1 e1 o1 p1. pure_reads (LetIn b) r1 (λ l. refl) o1 p1)

  behind_equals_reads : (x : Ident) (a : TypeName) (r ws : List Token) → Typed x a (sign s.Equals ∷ ws) → Reads w 1 (binding w.text.here n) r
      (λ l. sign s.Let ∷ lower x ∷ sign s.Colon ∷ type_word a ∷ sign s.Equals ∷ l) (behind_equals x a) ws
  behind_equals_reads x a r [] k = choice_nil (behind_equals x a) (plain_side x a) (λ at sub. refl) (plain_reads x a r [] k)
  behind_equals_reads x a r (t.Sign s.Open ∷ ws) k = token_reads (behind_equals x a) (λ z at sub. prim_at at x a) (t.Sign s.Open) ws (λ at sub l. refl)
      (prim_reads x a r ws k)
  behind_equals_reads x a r (c ∷ ws) k = choice_reads (behind_equals x a) (plain_side x a) c ws (λ at sub l. refl) (plain_reads x a r (c ∷ ws) k)

  let_from_reads : (x : Ident) (a : TypeName) (r ws : List Token) → Typed x a ws → Reads w 0 (binding w.text.here n) r
      (λ l. sign s.Let ∷ lower x ∷ sign s.Colon ∷ type_word a ∷ l) (λ at sub. let_from at sub x a) ws
  let_from_reads x a r [] k = choice_nil (λ at sub. let_from at sub x a) (λ at sub. side_in_at at sub x a) (λ at sub. refl) (side_in_reads x a r [] k)
  let_from_reads x a r (t.Sign s.Equals ∷ ws) k = weaken (token_reads (λ at sub. let_from at sub x a) (λ z. behind_equals x a) (t.Sign s.Equals) ws
      (λ at sub l. equals_is x a at sub l) (behind_equals_reads x a r ws k))
  let_from_reads x a r (c ∷ ws) k = choice_reads (λ at sub. let_from at sub x a) (λ at sub. side_in_at at sub x a) c ws (λ at sub l. refl)
      (side_in_reads x a r (c ∷ ws) k)

  one_reads : (r ws : List Token) → Reads w 1 (binding w.text.here n) r (λ l. sign s.Let ∷ l) (λ at sub. one_at at sub) ws
  one_reads r ws = then_typed (sign s.Equals ∷ spell_line plain r) (λ x a. (LetIn (Be x a None plain), zero_small, refl))
      (λ x a rest e k. let_from_reads x a r rest k)

  par_reads : (r ws : List Token) → Reads w 1 (binding w.text.here n) r (λ l. sign s.Let ∷ sign s.Par ∷ l) (λ at sub. par_at at sub) ws
  par_reads r ws =
      let right = Be a_name (ty.Whole nowhere) None plain in
      let end = spell_bound right r in
      then_reads (bound_reads (sign s.And ∷ end) ws) (λ b o. (ParIn b None right, (o, zero_small), refl)) (λ b r1 e1 o1 p1.
      then_sign s.And end (ParIn b None right, (o1, zero_small), refl) (λ u r2 e2.
      then_reads (between_reads end r2) (λ m o. (ParIn b m right, (o1, zero_small), refl)) (λ m r3 e3 o3 p3.
      then_reads (bound_reads r r3) (λ c o. (ParIn b m c, (o1, o), refl)) (λ c r4 e4 o4 p4.
      let i1 : r1 ≡ sign s.And ∷ spell_between m (spell_bound c r4) = e2 ∙ ap (λ (l : List Token). sign s.And ∷ l) (e3 ∙ ap (spell_between m) e4) in
      pure_reads (ParIn b m c) r4 (λ l. refl) (o1, o4) (
        subst (λ (l : List Token). BoundAt w.text.here b n l) i1 p1,
        subst
            (BetweenAt w.text.here m) e4 p3,
        p4,
      )))))

  pub let_reads : (r ws : List Token) → Reads w 1 (binding w.text.here n) r (λ l. sign s.Let ∷ l) (λ at sub. let_at at sub) ws
  let_reads r [] = choice_nil (λ at sub. let_at at sub) (λ at sub. one_at at sub) (λ at sub. refl) (one_reads r [])
  let_reads r (t.Sign s.Par ∷ ws) = token_reads (λ at sub. let_at at sub) (λ z at sub. par_at at sub) (t.Sign s.Par) ws (λ at sub l. refl) (par_reads r ws)
  let_reads r (c ∷ ws) = choice_reads (λ at sub. let_at at sub) (λ at sub. one_at at sub) c ws (λ at sub l. refl) (one_reads r (c ∷ ws))

  -- ---- arms

  arm_reads : (r ws : List Token) → Reads w 1 (arm w.text.here n) r (λ l. l) (λ at sub. arm_at at sub) ws
  unfolding arm_at
  arm_reads r ws =
      let end = sign s.Arrow ∷ spell_line plain r in
      then_reads (con_reads end ws) (λ k o. (record { constructor = k; variables = []; line = plain }, zero_small, refl)) (λ k r1 e1 o1 p1.
      then_reads (names_reads end r1) (λ xs o. (record { constructor = k; variables = xs; line = plain }, zero_small, refl)) (λ xs r2 e2 o2 p2.
      then_sign s.Arrow (spell_line plain r) (record { constructor = k; variables = xs; line = plain }, zero_small, refl) (λ u r3 e3.
      then_reads (h r r3) (λ u o. (record { constructor = k; variables = xs; line = u }, o, refl)) (λ u r4 e4 o4 p4.
      let i2 : r2 ≡ sign s.Arrow ∷ spell_line u r4 = e3 ∙ ap (λ (l : List Token). sign s.Arrow ∷ l) e4 in
      let i1 : r1 ≡ spell_names xs (sign s.Arrow ∷ spell_line u r4) = e2 ∙ ap (spell_names xs) i2 in
      let made : ArmText = record { constructor = k; variables = xs; line = u } in
      pure_reads made r4 (λ l. refl) o4 (subst (IsAt w.text.here k) i1 p1, subst (NamesAt w.text.here xs) i2 p2, p4)))))

  pub next_arm_reads : (r ws : List Token) → Reads w 1 (next_arm w.text.here n) r (λ l. l) (λ at sub. next_arm_at at sub) ws
  unfolding next_arm_at
  next_arm_reads r ws =
      then_sign s.Semicolon (arm_then (record { constructor = a_name; variables = []; line = plain }) r)
      (record { constructor = a_name; variables = []; line = plain }, zero_small, refl)
      (λ u r1 e1. as_reads (λ x l. refl) (λ x o. o) (λ x rest o p. p) (arm_reads r r1))

  arms_reads : (r ws : List Token) → Reads w 1 (arms w.text.here n) r (λ l. l) (λ at sub. arms_at at sub) ws
  unfolding arms_at
  arms_reads r ws =
      then_reads (arm_reads r ws) (λ a o. (arms_of a [], o, refl)) (λ a r1 e1 o1 p1.
      then_reads (many_reads (is_sign s.Semicolon) (λ at sub. next_arm_at at sub) next_arm_reads r r1)
      (λ xs o. (arms_of a xs, arms_fine (suc n) a xs o1 o, arms_spelled a xs r)) (λ xs r2 e2 o2 p2.
      pure_reads (arms_of a xs) r2 (arms_spelled a xs) (arms_fine (suc n) a xs o1 o2)
      (arms_good w.text.here n a xs r2 (subst (ArmIn w.text.here n a) e2 p1) p2)))

  -- ---- bindings and lines

  pub region_reads : (r ws : List Token) → Reads w 1 (binding w.text.here n) r (λ l. t.Sign s.LetRegion ∷ l) (λ at sub. region_at at) ws
  region_reads r ws = then_reads (var_reads r ws) (λ x o. (NewRegion x, tt, refl)) (λ x r1 e1 o1 p1. pure_reads (NewRegion x) r1 (λ l. refl) tt p1)

  pub new_place_reads : (r ws : List Token) → Reads w 1 (binding w.text.here n) r (λ l. t.Sign s.LetLocation ∷ l) (λ at sub. new_place_at at) ws
  new_place_reads r ws =
      let end = spell_location (Start a_name) r in
      then_reads (var_reads (sign s.Equals ∷ end) ws) (λ l o. (NewPlace l (Start a_name), tt, refl)) (λ l r1 e1 o1 p1.
      then_sign s.Equals end (NewPlace l (Start a_name), tt, refl) (λ u r2 e2.
      then_reads (location_reads r r2) (λ q o. (NewPlace l q, tt, refl)) (λ q r3 e3 o3 p3.
      pure_reads (NewPlace l q) r3 (λ l. refl) tt (subst (IsAt w.text.here l) (e2 ∙ ap (λ (l : List Token). sign s.Equals ∷ l) e3) p1, p3))))

  pub reach_reads : (r ws : List Token) → Reads w 1 (binding w.text.here n) r (λ l. t.Sign s.Reach ∷ l) (λ at sub. reach_at at) ws
  reach_reads r ws =
      then_reads (var_reads (t.Sign s.By ∷ t.Sign s.Offset ∷ r) ws) (λ y o. (ReachIn y ByOffset, tt, refl)) (λ y r1 e1 o1 p1.
      then_sign s.By (t.Sign s.Offset ∷ r) (ReachIn y ByOffset, tt, refl) (λ u r2 e2.
      then_reads (way_reads r r2) (λ q o. (ReachIn y q, tt, refl)) (λ q r3 e3 o3 p3.
      pure_reads (ReachIn y q) r3 (λ l. refl) tt (subst (IsAt w.text.here y) (e2 ∙ ap (λ (l : List Token). t.Sign s.By ∷ l) e3) p1, p3))))

  pub in_reads : {k : ℕ} {R : Places → Reader Line → Reader Binding} (c : Token) (r ws : List Token) → Reads w k (binding w.text.here n)
      (sign s.In ∷ spell_line plain r) (λ l. c ∷ l) R ws
      → Reads w k (line w.text.here (suc n)) r (λ l. c ∷ l) (λ at sub l. in_at sub (before w.text.here ws) (R at sub l)) ws
  in_reads c r ws b =
      let z = before w.text.here ws in
      then_behind (λ l. l) b (λ b o. (In z b plain, (o, zero_small), refl)) (λ b r1 e1 o1 p1.
      then_sign s.In (spell_line plain r) (In z b plain, (o1, zero_small), refl) (λ u r2 e2.
      then_reads (h r r2) (λ u o. (In z b u, (o1, o), refl)) (λ u r3 e3 o3 p3.
      let i : r1 ≡ sign s.In ∷ spell_line u r3 = e2 ∙ ap (λ (l : List Token). sign s.In ∷ l) e3 in
      pure_reads (In z b u) r3 (λ l. refl) (o1, o3) (
        ap (λ (l : List Token). w.text.here (length l)) (e1 ∙ ap (spell_binding b) i),
        subst
            (λ (l : List Token). BindingAt w.text.here b n l) i p1,
        p3,
      ))))

  pub give_reads : (z : Span) (r ws : List Token) → z ≡ before w.text.here ws → Reads w 1 (line w.text.here (suc n)) r (λ l. t.Sign s.Give ∷ l)
      (λ at sub. give_at at z) ws
  give_reads z r ws ze = then_reads (operand_reads r ws) (λ x o. (Given z x, o, refl))
      (λ x r1 e1 o1 p1. pure_reads (Given z x) r1 (λ l. refl) o1 (ze ∙ ap (before w.text.here) e1, p1))

  pub point_reads : (z : Span) (r ws : List Token) → z ≡ before w.text.here ws → Reads w 1 (line w.text.here (suc n)) r (λ l. t.Sign s.Point ∷ l)
      (λ at sub. point_at at z) ws
  point_reads z r ws ze =
      let m' : Mark = record { sign = nowhere; name = a_name } in
      then_reads (var_reads (spell_mark m' r) ws) (λ x o. (Pointed z x m', tt, refl)) (λ x r1 e1 o1 p1.
      then_reads (mark_reads r r1) (λ m o. (Pointed z x m, tt, refl)) (λ m r2 e2 o2 p2.
      pure_reads (Pointed z x m) r2 (λ l. refl) tt (
        ze ∙ ap (before w.text.here) (e1 ∙ ap (λ (l : List Token). lower x ∷ l) e2),
        subst
            (IsAt w.text.here x) e2 p1,
        p2,
      )))

  pub call_reads : (f : Ident) (r ws : List Token) → IsAt w.text.here f ws → Reads w 1 (line w.text.here (suc n)) r (λ l. lower f ∷ l)
      (λ at sub. call_at at f) ws
  call_reads f r ws fe =
      then_reads (operand_reads r ws) (λ x o. (Called f (x ∷ []) None, (o, tt), refl)) (λ x r1 e1 o1 p1.
      then_reads (operands_reads r r1) (λ xs o. (Called f (x ∷ xs) None, (o1, o), refl)) (λ xs r2 e2 o2 p2.
      then_reads (option_reads r r2) (λ m o. (Called f (x ∷ xs) m, (o1, o2), refl)) (λ m r3 e3 o3 p3.
      let i1 : r1 ≡ spell_operands xs (spell_option m r3) = e2 ∙ ap (spell_operands xs) e3 in
      pure_reads (Called f (x ∷ xs) m) r3 (λ l. refl) (o1, o2) (
        subst (IsAt w.text.here f)
            (e1 ∙ ap (λ (l : List Token). operand_word x ∷ l) i1) fe,
        (subst (OperandAt w.text.here x) i1 p1, subst (OperandsAt w.text.here xs) e3 p2),
        p3,
      ))))

  pub make_reads : (k : Ident) (r ws : List Token) → IsAt w.text.here k ws → Reads w 1 (line w.text.here (suc n)) r (λ l. upper k ∷ l)
      (λ at sub. make_at at k) ws
  make_reads k r ws ke =
      then_reads (mark_reads r ws) (λ m o. (Made k m [], tt, refl)) (λ m r1 e1 o1 p1.
      then_reads (operands_reads r r1) (λ xs o. (Made k m xs, o, refl)) (λ xs r2 e2 o2 p2.
      pure_reads (Made k m xs) r2 (λ l. refl) o2 (subst (IsAt w.text.here k) (e1 ∙ ap (spell_mark m) e2) ke, subst (MarkAt w.text.here m) e2 p1, p2)))

  pub case_reads : (z : Span) (r ws : List Token) → z ≡ before w.text.here ws → Reads w 1 (line w.text.here (suc n)) r (λ l. sign s.Case ∷ l)
      (λ at sub. case_at at sub z) ws
  case_reads z r ws ze =
      let end = sign s.CloseBrace ∷ r in
      let some = arms_of (record { constructor = a_name; variables = []; line = plain }) [] in
      let arms_end = spell_arms some end in
      then_reads (var_reads (sign s.Of ∷ sign s.OpenBrace ∷ arms_end) ws) (λ x o. (Cased z x some, zero_small, refl)) (λ x r1 e1 o1 p1.
      then_sign s.Of (sign s.OpenBrace ∷ arms_end) (Cased z x some, zero_small, refl) (λ u r2 e2.
      then_sign s.OpenBrace arms_end (Cased z x some, zero_small, refl) (λ u r3 e3.
      then_reads (arms_reads end r3) (λ xs o. (Cased z x xs, o, refl)) (λ xs r4 e4 o4 p4.
      then_sign s.CloseBrace r (Cased z x xs, o4, refl) (λ u r5 e5.
      let i1 : r1 ≡ sign s.Of ∷ sign s.OpenBrace ∷ spell_arms xs (sign s.CloseBrace ∷ r5) = e2 ∙ ap (λ (l : List Token). sign s.Of ∷ l)
      (e3 ∙ ap (λ (l : List Token). sign s.OpenBrace ∷ l) (e4 ∙ ap (spell_arms xs) e5)) in
      pure_reads (Cased z x xs) r5 (λ l. refl) o4 (
        ze ∙ ap (before w.text.here) (e1 ∙ ap (λ (l : List Token). lower x ∷ l) i1),
        subst
            (IsAt w.text.here x) i1 p1,
        subst (λ (l : List Token). ArmsAt w.text.here xs n l) e5 p4,
      ))))))

  pub if_reads : (z : Span) (r ws : List Token) → z ≡ before w.text.here ws → Reads w 1 (line w.text.here (suc n)) r (λ l. sign s.If ∷ l)
      (λ at sub. if_at at sub z) ws
  if_reads z r ws ze =
      let end = spell_line plain r in
      let more = sign s.Then ∷ spell_line plain (sign s.Else ∷ end) in
      then_reads (operand_reads more ws) (λ x o. (Chosen z x plain plain, (o, zero_small, zero_small), refl)) (λ x r1 e1 o1 p1.
      then_sign s.Then (spell_line plain (sign s.Else ∷ end)) (Chosen z x plain plain, (o1, zero_small, zero_small), refl) (λ u r2 e2.
      then_reads (h (sign s.Else ∷ end) r2) (λ u o. (Chosen z x u plain, (o1, o, zero_small), refl)) (λ u r3 e3 o3 p3.
      then_sign s.Else end (Chosen z x u plain, (o1, o3, zero_small), refl) (λ _ r4 e4.
      then_reads (h r r4) (λ v o. (Chosen z x u v, (o1, o3, o), refl)) (λ v r5 e5 o5 p5.
      let i3 : r3 ≡ sign s.Else ∷ spell_line v r5 = e4 ∙ ap (λ (l : List Token). sign s.Else ∷ l) e5 in
      let i1 : r1 ≡ sign s.Then ∷ spell_line u (sign s.Else ∷ spell_line v r5) = e2 ∙ ap (λ (l : List Token). sign s.Then ∷ l) (e3 ∙ ap (spell_line u) i3) in
      pure_reads (Chosen z x u v) r5 (λ l. refl) (o1, o3, o5) (
        ze ∙ ap (before w.text.here) (e1 ∙ ap (λ (l : List Token). operand_word x ∷ l) i1),
        subst
            (OperandAt w.text.here x) i1 p1,
        subst (λ (l : List Token). LineAt w.text.here u n l) i3 p3,
        p5,
      ))))))

  pub line_reads : (r ws : List Token) → Reads w 1 (line w.text.here (suc n)) r (λ l. l) (λ at sub. line_at at sub) ws
  line_reads r [] = fail_nil (λ at sub. line_at at sub) (spell_line plain r) (λ at sub. refl) (plain, zero_small, refl)
  line_reads r (t.Sign s.LetRegion ∷ ws) = token_reads (λ at sub. line_at at sub) (λ z at sub l. in_at sub z (region_at at l)) (t.Sign s.LetRegion) ws
      (λ at sub l. refl) (in_reads (t.Sign s.LetRegion) r ws (region_reads (sign s.In ∷ spell_line plain r) ws))
  line_reads r (t.Sign s.LetLocation ∷ ws) = token_reads (λ at sub. line_at at sub) (λ z at sub l. in_at sub z (new_place_at at l)) (t.Sign s.LetLocation) ws
      (λ at sub l. refl) (in_reads (t.Sign s.LetLocation) r ws (new_place_reads (sign s.In ∷ spell_line plain r) ws))
  line_reads r (t.Sign s.Reach ∷ ws) = token_reads (λ at sub. line_at at sub) (λ z at sub l. in_at sub z (reach_at at l)) (t.Sign s.Reach) ws
      (λ at sub l. refl) (in_reads (t.Sign s.Reach) r ws (reach_reads (sign s.In ∷ spell_line plain r) ws))
  line_reads r (t.Sign s.Let ∷ ws) = token_reads (λ at sub. line_at at sub) (λ z at sub l. in_at sub z (let_at at sub l)) (t.Sign s.Let) ws (λ at sub l. refl)
      (in_reads (t.Sign s.Let) r ws (let_reads (sign s.In ∷ spell_line plain r) ws))
  line_reads r (t.Sign s.Give ∷ ws) = token_reads (λ at sub. line_at at sub) (λ z at sub. give_at at z) (t.Sign s.Give) ws (λ at sub l. refl)
      (give_reads (before w.text.here ws) r ws refl)
  line_reads r (t.Sign s.Point ∷ ws) = token_reads (λ at sub. line_at at sub) (λ z at sub. point_at at z) (t.Sign s.Point) ws (λ at sub l. refl)
      (point_reads (before w.text.here ws) r ws refl)
  line_reads r (t.Variable f ∷ ws) = token_reads (λ at sub. line_at at sub) (λ z at sub. call_at at (record { name = f; span = z })) (t.Variable f) ws
      (λ at sub l. refl) (call_reads (named w.text.here f ws) r ws refl)
  line_reads r (t.Constructor k ∷ ws) = token_reads (λ at sub. line_at at sub) (λ z at sub. make_at at (record { name = k; span = z })) (t.Constructor k) ws
      (λ at sub l. refl) (make_reads (named w.text.here k ws) r ws refl)
  line_reads r (t.Sign s.Case ∷ ws) = token_reads (λ at sub. line_at at sub) (λ z at sub. case_at at sub z) (t.Sign s.Case) ws (λ at sub l. refl)
      (case_reads (before w.text.here ws) r ws refl)
  line_reads r (t.Sign s.If ∷ ws) = token_reads (λ at sub. line_at at sub) (λ z at sub. if_at at sub z) (t.Sign s.If) ws (λ at sub l. refl)
      (if_reads (before w.text.here ws) r ws refl)
  line_reads r (c ∷ ws) = fail_reads (λ at sub. line_at at sub) c ws (spell_line plain r) (λ at sub l. refl) (plain, zero_small, refl)
