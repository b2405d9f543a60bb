-- What may stand somewhere may stand anywhere: with other spans it has the same words.
use Rattle.std.proofs.Common.{◌≡◌, ◌≢◌, ◌<◌, ◌^◌, ℕ, zero, suc, List, [], ◌∷◌, length, Option, Some, None, refl, ap, ◌∙◌}
use Rattle.std.specs.List.{AllByRecursion}
use Rattle.gib_base.specs.declared.token.Token.{Token}
use Rattle.gib_base.specs.declared.token.Token.TheVariants as t
use Rattle.gib_base.specs.declared.token.Sign.TheVariants as s
use Rattle.gib_syntax.specs.declared.tree.Ident.{Ident}
use Rattle.gib_syntax.specs.declared.tree.TypeName.{TypeName}
use Rattle.gib_syntax.specs.declared.tree.TypeName.TheVariants as ty
use Rattle.gib_types.specs.declared.operator.Operator.{Operator}
use Rattle.gib_syntax.specs.declared.tree.Parameter.{Parameter}
use Rattle.gib_syntax.specs.Fine.{HasConstructor}
use Rattle.gib_syntax.specs.Tree.{ConstructorTree, DataTree}
use Rattle.gib_syntax.specs.Spelling.{Places}
use Rattle.gib_reads.specs.Readers.{before, named}
use Rattle.gib_local_parse.specs.Tree.{Mark, Operand, Named, Number, Bit, Location, Start, Plus, After, Way, ByOffset, BySkip, ByEnd, Line, In, Given, Pointed, Called, Made, Cased, Chosen, Binding, NewRegion, NewPlace, LetIn, ParIn, PrimIn, ReachIn, Bound, Be, Arms, LastArm, NextArm, FunctionText, MainText, LocalTree}
use Rattle.gib_local_parse.specs.Grammar.{sign, lower, upper, operand_word, operator_word, type_word, spell_mark, spell_option, spell_operands, spell_names, spell_location, spell_way, spell_between, spell_line, spell_binding, spell_bound, spell_arms}
use Rattle.gib_local_parse.specs.Placed.{IsAt, MarkAt, OptionAt, OperandAt, OperandsAt, NamesAt, TypeAt, LocationAt, WayAt, BetweenAt, ArgumentsAt, LineAt, BindingAt, BoundAt, ArmsAt}
use Rattle.gib_local_parse.specs.Texts.{spell_list, spell_type, spell_con, spell_constructor, spell_alternative, spell_constructors, spell_data, spell_offsets, spell_parameter, spell_body, spell_function, spell_main, spell_text}
use Rattle.gib_local_parse.specs.PlacedTexts.{ListAt, ConstructorAt, ConstructorsAt, DataAt, OffsetsAt, ParameterAt, ParametersAt, BodyIn, FunctionIn, MainIn, TextIn}
use Rattle.gib_local_parse.proofs.Asked.{IsSmall, AreSmall, AreArguments, LineIn, BindingIn, BoundIn, ArmsIn, IsFunction, IsText}

-- The same words, standing before these.
pub record Again {A : Type 0} (write : A → List Token → List Token) (Stands : A → List Token → Type 0) (a : A) (rest : List Token) : Type 0 where
  pub it : A
  pub same : (l : List Token) → write it l ≡ write a l
  pub stands : Stands it rest

module _ (at : Places) where
  mark_again : (m : Mark) (rest : List Token) → Again spell_mark (MarkAt at) m rest
  mark_again m rest =
      let x = named at m.name.name rest in
      record { it = record { sign = before at (lower x ∷ rest); name = x }; same = λ l. refl; stands = (refl, refl) }

  option_again : (m : Option Mark) (rest : List Token) → Again spell_option (OptionAt at) m rest
  option_again None rest = record { it = None; same = λ l. refl; stands = tt }
  option_again (Some m) rest = let o = mark_again m rest in record { it = Some o.it; same = o.same; stands = o.stands }

  abbrev spell_operand : Operand → List Token → List Token
  spell_operand x l = operand_word x ∷ l

  operand_again : (x : Operand) (rest : List Token) → IsSmall x → Again spell_operand (OperandAt at) x rest
  operand_again (Named x) rest h = record { it = Named (named at x.name rest); same = λ l. refl; stands = refl }
  operand_again (Number p n) rest h = record { it = Number (before at rest) n; same = λ l. refl; stands = (refl, h) }
  operand_again (Bit p b) rest h = record { it = Bit (before at rest) b; same = λ l. refl; stands = refl }

  operands_again : (xs : List Operand) (rest : List Token) → AreSmall xs → Again spell_operands (OperandsAt at) xs rest
  operands_again [] rest h = record { it = []; same = λ l. refl; stands = tt }
  operands_again (x ∷ xs) rest h =
      let m = operands_again xs rest h.1 in
      let o = operand_again x (spell_operands m.it rest) h.0 in
      record {
        it = o.it ∷ m.it;
        same = λ l. o.same (spell_operands m.it l) ∙ ap (λ (k : List Token). operand_word x ∷ k) (m.same l);
        stands = (o.stands, m.stands);
      }

  arguments_again : (xs : List Operand) (rest : List Token) → AreArguments xs → Again spell_operands (ArgumentsAt at) xs rest
  arguments_again [] rest h = absurd h
  arguments_again (x ∷ xs) rest h =
      let m = operands_again xs rest h.1 in
      let o = operand_again x (spell_operands m.it rest) h.0 in
      record {
        it = o.it ∷ m.it;
        same = λ l. o.same (spell_operands m.it l) ∙ ap (λ (k : List Token). operand_word x ∷ k) (m.same l);
        stands = (o.stands, m.stands);
      }

  names_again : (xs : List Ident) (rest : List Token) → Again spell_names (NamesAt at) xs rest
  names_again [] rest = record { it = []; same = λ l. refl; stands = tt }
  names_again (x ∷ xs) rest =
      let m = names_again xs rest in
      record {
        it = named at x.name (spell_names m.it rest) ∷ m.it;
        same = λ l. ap (λ (k : List Token). lower x ∷ k) (m.same l);
        stands = (refl, m.stands);
      }

  type_again : (a : TypeName) (rest : List Token) → Again spell_type (TypeAt at) a rest
  type_again (ty.Whole p) rest = record { it = ty.Whole (before at rest); same = λ l. refl; stands = refl }
  type_again (ty.Truth p) rest = record { it = ty.Truth (before at rest); same = λ l. refl; stands = refl }
  type_again (ty.Declared x) rest = record { it = ty.Declared (named at x.name rest); same = λ l. refl; stands = refl }

  location_again : (q : Location) (rest : List Token) → Again spell_location (LocationAt at) q rest
  location_again (Start r) rest = record { it = Start (named at r.name rest); same = λ l. refl; stands = refl }
  location_again (Plus d k) rest =
      record { it = Plus (named at d.name (sign s.Plus ∷ upper k ∷ rest)) (named at k.name rest); same = λ l. refl; stands = (refl, refl) }
  location_again (After x) rest = record { it = After (named at x.name rest); same = λ l. refl; stands = refl }

  way_again : (q : Way) (rest : List Token) → Again spell_way (WayAt at) q rest
  way_again ByOffset rest = record { it = ByOffset; same = λ l. refl; stands = tt }
  way_again (BySkip z) rest = record { it = BySkip (named at z.name rest); same = λ l. refl; stands = refl }
  way_again (ByEnd z) rest = record { it = ByEnd (named at z.name rest); same = λ l. refl; stands = refl }

  between_again : (m : Option (Ident × Ident)) (rest : List Token) → Again spell_between (BetweenAt at) m rest
  between_again None rest = record { it = None; same = λ l. refl; stands = tt }
  between_again (Some (l, x)) rest =
      let y = named at x.name (sign s.In ∷ rest) in
      record {
        it = Some (named at l.name (sign s.Equals ∷ t.Sign s.After ∷ lower y ∷ sign s.In ∷ rest), y);
        same = λ k. refl;
        stands = (refl, refl);
      }

  -- ---- terms

  abbrev LineAgain : Line → ℕ → List Token → Type 0
  LineAgain u n rest = Again spell_line (λ u rest. LineAt at u n rest) u rest

  mutual
    pub line_again : (u : Line) (n : ℕ) (rest : List Token) → LineIn u n → LineAgain u n rest
    line_again (In p b u) zero rest h = absurd h
    line_again (In p b u) (suc n) rest h =
        let m = line_again u n rest h.1 in
        let o = binding_again b n (sign s.In ∷ spell_line m.it rest) h.0 in
        record {
          it = In (at (length (spell_binding o.it (sign s.In ∷ spell_line m.it rest)))) o.it m.it;
          same = λ l. o.same (sign s.In ∷ spell_line m.it l) ∙ ap (λ (k : List Token). spell_binding b (sign s.In ∷ k)) (m.same l);
          stands = (refl, o.stands, m.stands);
        }
    line_again (Given p x) zero rest h = absurd h
    line_again (Given p x) (suc n) rest h =
        let o = operand_again x rest h in
        record {
          it = Given (at (length (t.Sign s.Give ∷ operand_word o.it ∷ rest))) o.it;
          same = λ l. ap (λ (k : List Token). t.Sign s.Give ∷ k) (o.same l);
          stands = (refl, o.stands);
        }
    line_again (Pointed p x m) zero rest h = absurd h
    line_again (Pointed p x m) (suc n) rest h =
        let o = mark_again m rest in
        let y = named at x.name (spell_mark o.it rest) in
        record {
          it = Pointed (at (length (t.Sign s.Point ∷ lower y ∷ spell_mark o.it rest))) y o.it;
          same = λ l. ap (λ (k : List Token). t.Sign s.Point ∷ lower x ∷ k) (o.same l);
          stands = (refl, refl, o.stands);
        }
    line_again (Called f xs m) zero rest h = absurd h
    line_again (Called f xs m) (suc n) rest h =
        let q = option_again m rest in
        let o = arguments_again xs (spell_option q.it rest) h in
        record {
          it = Called (named at f.name (spell_operands o.it (spell_option q.it rest))) o.it q.it;
          same = λ l. ap (λ (k : List Token). lower f ∷ k) (o.same (spell_option q.it l) ∙ ap (spell_operands xs) (q.same l));
          stands = (refl, o.stands, q.stands);
        }
    line_again (Made k m xs) zero rest h = absurd h
    line_again (Made k m xs) (suc n) rest h =
        let o = operands_again xs rest h in
        let q = mark_again m (spell_operands o.it rest) in
        record {
          it = Made (named at k.name (spell_mark q.it (spell_operands o.it rest))) q.it o.it;
          same = λ l. ap (λ (ws : List Token). upper k ∷ ws) (q.same (spell_operands o.it l) ∙ ap (spell_mark m) (o.same l));
          stands = (refl, q.stands, o.stands);
        }
    line_again (Cased p x arms) zero rest h = absurd h
    line_again (Cased p x arms) (suc n) rest h =
        let o = arms_again arms n (sign s.CloseBrace ∷ rest) h in
        let y = named at x.name (sign s.Of ∷ sign s.OpenBrace ∷ spell_arms o.it (sign s.CloseBrace ∷ rest)) in
        record {
          it = Cased (at (length (sign s.Case ∷ lower y ∷ sign s.Of ∷ sign s.OpenBrace ∷ spell_arms o.it (sign s.CloseBrace ∷ rest)))) y o.it;
          same = λ l. ap (λ (k : List Token). sign s.Case ∷ lower x ∷ sign s.Of ∷ sign s.OpenBrace ∷ k) (o.same (sign s.CloseBrace ∷ l));
          stands = (refl, refl, o.stands);
        }
    line_again (Chosen p x u v) zero rest h = absurd h
    line_again (Chosen p x u v) (suc n) rest h =
        let w = line_again v n rest h.2 in
        let m = line_again u n (sign s.Else ∷ spell_line w.it rest) h.1 in
        let o = operand_again x (sign s.Then ∷ spell_line m.it (sign s.Else ∷ spell_line w.it rest)) h.0 in
        let made : List Token → List Token = λ l. spell_line m.it (sign s.Else ∷ spell_line w.it l) in
        record {
          it = Chosen (at (length (sign s.If ∷ operand_word o.it ∷ sign s.Then ∷ made rest))) o.it m.it w.it;
          same = λ l. ap (λ (k : List Token). sign s.If ∷ k) (o.same (sign s.Then ∷ made l)
              ∙ ap (λ (k : List Token). operand_word x ∷ sign s.Then ∷ k)
              (m.same (sign s.Else ∷ spell_line w.it l) ∙ ap (λ (k : List Token). spell_line u (sign s.Else ∷ k)) (w.same l)));
          stands = (refl, o.stands, m.stands, w.stands);
        }

    binding_again : (b : Binding) (n : ℕ) (rest : List Token) → BindingIn b n → Again spell_binding (λ b rest. BindingAt at b n rest) b rest
    binding_again (NewRegion r) n rest h = record { it = NewRegion (named at r.name rest); same = λ l. refl; stands = refl }
    binding_again (NewPlace l q) n rest h =
        let o = location_again q rest in
        record {
          it = NewPlace (named at l.name (sign s.Equals ∷ spell_location o.it rest)) o.it;
          same = λ k. ap (λ (ws : List Token). t.Sign s.LetLocation ∷ lower l ∷ sign s.Equals ∷ ws) (o.same k);
          stands = (refl, o.stands);
        }
    binding_again (LetIn b) n rest h =
        let o = bound_again b n rest h in
        record { it = LetIn o.it; same = λ l. ap (λ (k : List Token). sign s.Let ∷ k) (o.same l); stands = o.stands }
    binding_again (ParIn l m r) n rest h =
        let q = bound_again r n rest h.1 in
        let o = between_again m (spell_bound q.it rest) in
        let p = bound_again l n (sign s.And ∷ spell_between o.it (spell_bound q.it rest)) h.0 in
        record {
          it = ParIn p.it o.it q.it;
          same = λ k. ap (λ (ws : List Token). sign s.Let ∷ sign s.Par ∷ ws) (p.same (sign s.And ∷ spell_between o.it (spell_bound q.it k))
              ∙ ap (λ (ws : List Token). spell_bound l (sign s.And ∷ ws)) (o.same (spell_bound q.it k) ∙ ap (spell_between m) (q.same k)));
          stands = (p.stands, o.stands, q.stands);
        }
    binding_again (PrimIn x a y f z) n rest h =
        let r = operand_again z (sign s.Close ∷ rest) h.1 in
        let q = operand_again y (operator_word f ∷ operand_word r.it ∷ sign s.Close ∷ rest) h.0 in
        let left : List Token → List Token = λ l. sign s.Equals ∷ sign s.Open ∷ operand_word q.it ∷ operator_word f ∷ operand_word r.it ∷ sign s.Close ∷ l in
        let o = type_again a (left rest) in
        record {
          it = PrimIn (named at x.name (sign s.Colon ∷ type_word o.it ∷ left rest)) o.it q.it f r.it;
          same = λ l. ap (λ (k : List Token). sign s.Let ∷ lower x ∷ sign s.Colon ∷ k) (o.same (left l)
              ∙ ap (λ (k : List Token). type_word a ∷ sign s.Equals ∷ sign s.Open ∷ k) (q.same (operator_word f ∷ operand_word r.it ∷ sign s.Close ∷ l)
              ∙ ap (λ (k : List Token). operand_word y ∷ operator_word f ∷ k) (r.same (sign s.Close ∷ l))));
          stands = (refl, o.stands, q.stands, r.stands);
        }
    binding_again (ReachIn y q) n rest h =
        let o = way_again q rest in
        record {
          it = ReachIn (named at y.name (t.Sign s.By ∷ spell_way o.it rest)) o.it;
          same = λ l. ap (λ (k : List Token). t.Sign s.Reach ∷ lower y ∷ t.Sign s.By ∷ k) (o.same l);
          stands = (refl, o.stands);
        }

    bound_again : (b : Bound) (n : ℕ) (rest : List Token) → BoundIn b n → Again spell_bound (λ b rest. BoundAt at b n rest) b rest
    bound_again (Be x a m u) n rest h =
        let w = line_again u n rest h in
        let q = option_again m (sign s.Equals ∷ spell_line w.it rest) in
        let o = type_again a (spell_option q.it (sign s.Equals ∷ spell_line w.it rest)) in
        record {
          it = Be (named at x.name (sign s.Colon ∷ type_word o.it ∷ spell_option q.it (sign s.Equals ∷ spell_line w.it rest))) o.it q.it w.it;
          same = λ l. ap (λ (k : List Token). lower x ∷ sign s.Colon ∷ k) (o.same (spell_option q.it (sign s.Equals ∷ spell_line w.it l))
              ∙ ap (λ (k : List Token). type_word a ∷ k) (q.same (sign s.Equals ∷ spell_line w.it l)
              ∙ ap (λ (k : List Token). spell_option m (sign s.Equals ∷ k)) (w.same l)));
          stands = (refl, o.stands, q.stands, w.stands);
        }

    arms_again : (arms : Arms) (n : ℕ) (rest : List Token) → ArmsIn arms n → Again spell_arms (λ arms rest. ArmsAt at arms n rest) arms rest
    arms_again (LastArm k xs u) n rest h =
        let w = line_again u n rest h in
        let q = names_again xs (sign s.Arrow ∷ spell_line w.it rest) in
        record {
          it = LastArm (named at k.name (spell_names q.it (sign s.Arrow ∷ spell_line w.it rest))) q.it w.it;
          same = λ l. ap (λ (ws : List Token). upper k ∷ ws) (q.same (sign s.Arrow ∷ spell_line w.it l)
              ∙ ap (λ (ws : List Token). spell_names xs (sign s.Arrow ∷ ws)) (w.same l));
          stands = (refl, q.stands, w.stands);
        }
    arms_again (NextArm k xs u arms) n rest h =
        let r = arms_again arms n rest h.1 in
        let w = line_again u n (sign s.Semicolon ∷ spell_arms r.it rest) h.0 in
        let q = names_again xs (sign s.Arrow ∷ spell_line w.it (sign s.Semicolon ∷ spell_arms r.it rest)) in
        record {
          it = NextArm (named at k.name (spell_names q.it (sign s.Arrow ∷ spell_line w.it (sign s.Semicolon ∷ spell_arms r.it rest)))) q.it w.it r.it;
          same = λ l. ap (λ (ws : List Token). upper k ∷ ws) (q.same (sign s.Arrow ∷ spell_line w.it (sign s.Semicolon ∷ spell_arms r.it l))
              ∙ ap (λ (ws : List Token). spell_names xs (sign s.Arrow ∷ ws)) (w.same (sign s.Semicolon ∷ spell_arms r.it l)
              ∙ ap (λ (ws : List Token). spell_line u (sign s.Semicolon ∷ ws)) (r.same l)));
          stands = (refl, q.stands, w.stands, r.stands);
        }

  -- ---- declarations

  list_again : {A : Type 0} (write : A → List Token → List Token) (Stands : A → List Token → Type 0) (Fine : A → Type 0)
      → ((a : A) (rest : List Token) → Fine a → Again write Stands a rest) → (xs : List A) (rest : List Token) → AllByRecursion Fine xs
      → Again (spell_list write) (ListAt write Stands) xs rest
  list_again write Stands Fine again [] rest h = record { it = []; same = λ l. refl; stands = tt }
  list_again write Stands Fine again (x ∷ xs) rest h =
      let m = list_again write Stands Fine again xs rest h.1 in
      let o = again x (spell_list write m.it rest) h.0 in
      record { it = o.it ∷ m.it; same = λ l. o.same (spell_list write m.it l) ∙ ap (write x) (m.same l); stands = (o.stands, m.stands) }

  abbrev Anything : {A : Type 0} → A → Type 0
  Anything a = Unit {0}

  anything : {A : Type 0} (xs : List A) → AllByRecursion Anything xs
  anything [] = tt
  anything (x ∷ xs) = (tt, anything xs)

  con_again : (k : Ident) (rest : List Token) → Again spell_con (IsAt at) k rest
  con_again k rest = record { it = named at k.name rest; same = λ l. refl; stands = refl }

  constructor_again : (c : ConstructorTree) (rest : List Token) → Again spell_constructor (ConstructorAt at) c rest
  constructor_again c rest =
      let o = list_again spell_type (TypeAt at) Anything (λ a rest h. type_again a rest) c.fields rest (anything c.fields) in
      record {
        it = record { name = named at c.name.name (spell_list spell_type o.it rest); fields = o.it };
        same = λ l. ap (λ (k : List Token). upper c.name ∷ k) (o.same l);
        stands = (refl, o.stands);
      }

  alternative_again : (c : ConstructorTree) (rest : List Token) → Again spell_alternative (ConstructorAt at) c rest
  alternative_again c rest =
      let o = constructor_again c rest in
      record { it = o.it; same = λ l. ap (λ (k : List Token). t.Sign s.Bar ∷ k) (o.same l); stands = o.stands }

  constructors_again : (cs : List ConstructorTree) (rest : List Token) → cs ≢ [] → Again spell_constructors (ConstructorsAt at) cs rest
  constructors_again [] rest h = absurd (h refl)
  constructors_again (c ∷ cs) rest h =
      let m = list_again spell_alternative (ConstructorAt at) Anything (λ c rest h. alternative_again c rest) cs rest (anything cs) in
      let o = constructor_again c (spell_list spell_alternative m.it rest) in
      record {
        it = o.it ∷ m.it;
        same = λ l. o.same (spell_list spell_alternative m.it l) ∙ ap (spell_constructor c) (m.same l);
        stands = (o.stands, m.stands);
      }

  data_again : (d : DataTree) (rest : List Token) → HasConstructor d → Again spell_data (DataAt at) d rest
  data_again d rest h =
      let o = constructors_again d.constructors (t.Sign s.Semicolon ∷ rest) h in
      record {
        it = record { name = named at d.name.name (t.Sign s.Equals ∷ spell_constructors o.it (t.Sign s.Semicolon ∷ rest)); constructors = o.it };
        same = λ l. ap (λ (k : List Token). t.Sign s.Data ∷ upper d.name ∷ t.Sign s.Equals ∷ k) (o.same (t.Sign s.Semicolon ∷ l));
        stands = (refl, o.stands);
      }

  offsets_again : (ks : List Ident) (rest : List Token) → Again spell_offsets (OffsetsAt at) ks rest
  offsets_again [] rest = record { it = []; same = λ l. refl; stands = tt }
  offsets_again (k ∷ ks) rest =
      let end = t.Sign s.Semicolon ∷ rest in
      let o = list_again spell_con (IsAt at) Anything (λ k rest h. con_again k rest) ks end (anything ks) in
      record {
        it = named at k.name (spell_list spell_con o.it end) ∷ o.it;
        same = λ l. ap (λ (ws : List Token). t.Sign s.Offsets ∷ upper k ∷ ws) (o.same (t.Sign s.Semicolon ∷ l));
        stands = (refl, o.stands);
      }

  parameter_again : (q : Parameter) (rest : List Token) → Again spell_parameter (ParameterAt at) q rest
  parameter_again q rest =
      let o = type_again q.ty (t.Sign s.Close ∷ rest) in
      record {
        it = record { name = named at q.name.name (t.Sign s.Colon ∷ type_word o.it ∷ t.Sign s.Close ∷ rest); ty = o.it };
        same = λ l. ap (λ (k : List Token). t.Sign s.Open ∷ lower q.name ∷ t.Sign s.Colon ∷ k) (o.same (t.Sign s.Close ∷ l));
        stands = (refl, o.stands);
      }

  parameters_again : (qs : List Parameter) (rest : List Token) → qs ≢ [] → Again (spell_list spell_parameter) (ParametersAt at) qs rest
  parameters_again [] rest h = absurd (h refl)
  parameters_again (q ∷ qs) rest h =
      let m = list_again spell_parameter (ParameterAt at) Anything (λ q rest h. parameter_again q rest) qs rest (anything qs) in
      let o = parameter_again q (spell_list spell_parameter m.it rest) in
      record {
        it = o.it ∷ m.it;
        same = λ l. o.same (spell_list spell_parameter m.it l) ∙ ap (spell_parameter q) (m.same l);
        stands = (o.stands, m.stands);
      }

  -- A result with its place, and a body.
  record BodyAgain (n : ℕ) (w : TypeName) (m : Option Mark) (u : Line) (rest : List Token) : Type 0 where
    result : TypeName
    place : Option Mark
    body : Line
    same : (l : List Token) → spell_body result place body l ≡ spell_body w m u l
    stands : BodyIn n at result place body rest

  body_again : (n : ℕ) (w : TypeName) (m : Option Mark) (u : Line) (rest : List Token) → LineIn u n → BodyAgain n w m u rest
  body_again n w m u rest h =
      let v = line_again u n (t.Sign s.Semicolon ∷ rest) h in
      let left : List Token → List Token = λ l. t.Sign s.Equals ∷ spell_line v.it (t.Sign s.Semicolon ∷ l) in
      let q = option_again m (left rest) in
      let o = type_again w (spell_option q.it (left rest)) in
      record {
        result = o.it;
        place = q.it;
        body = v.it;
        same = λ l. ap (λ (k : List Token). t.Sign s.Colon ∷ k) (o.same (spell_option q.it (left l))
            ∙ ap (λ (k : List Token). type_word w ∷ k) (q.same (left l)
            ∙ ap (λ (k : List Token). spell_option m (t.Sign s.Equals ∷ k)) (v.same (t.Sign s.Semicolon ∷ l))));
        stands = (o.stands, q.stands, v.stands);
      }

  function_again : (n : ℕ) (f : FunctionText) (rest : List Token) → IsFunction n f → Again spell_function (FunctionIn n at) f rest
  function_again n f rest h =
      let b = body_again n f.result f.place f.body rest h.1 in
      let body : List Token → List Token = spell_body b.result b.place b.body in
      let q = parameters_again f.parameters (body rest) h.0 in
      let x = named at f.name.name (spell_list spell_parameter q.it (body rest)) in
      record {
        it = record { name = x; parameters = q.it; result = b.result; place = b.place; body = b.body };
        same = λ l. ap (λ (k : List Token). t.Sign s.Fun ∷ lower f.name ∷ k) (q.same (body l)
            ∙ ap (spell_list spell_parameter f.parameters) (b.same l));
        stands = (refl, q.stands, b.stands);
      }

  main_again : (n : ℕ) (m : MainText) (rest : List Token) → LineIn m.body n → Again spell_main (MainIn n at) m rest
  main_again n m rest h =
      let b = body_again n m.result m.place m.body rest h in
      let body : List Token → List Token = spell_body b.result b.place b.body in
      let q = parameter_again m.parameter (body rest) in
      record {
        it = record { parameter = q.it; result = b.result; place = b.place; body = b.body };
        same = λ l. ap (λ (k : List Token). t.Sign s.Main ∷ k) (q.same (body l) ∙ ap (spell_parameter m.parameter) (b.same l));
        stands = (q.stands, b.stands);
      }

  -- A text may stand anywhere.
  pub text_again : (n : ℕ) (x : LocalTree) (rest : List Token) → IsText n x → Again spell_text (TextIn n at) x rest
  text_again n x rest h =
      let m = main_again n x.main rest h.main in
      let fs = list_again spell_function (FunctionIn n at) (IsFunction n) (function_again n) x.functions (spell_main m.it rest) h.functions in
      let w2 : List Token → List Token = λ l. spell_list spell_function fs.it (spell_main m.it l) in
      let ks = offsets_again x.offsets (w2 rest) in
      let w1 : List Token → List Token = λ l. spell_offsets ks.it (w2 l) in
      let ds = list_again spell_data (DataAt at) HasConstructor data_again x.datas (w1 rest) h.datas in
      record {
        it = record { datas = ds.it; offsets = ks.it; functions = fs.it; main = m.it };
        same = λ l. ds.same (w1 l) ∙ ap (spell_list spell_data x.datas) (ks.same (w2 l)
            ∙ ap (spell_offsets x.offsets) (fs.same (spell_main m.it l) ∙ ap (spell_list spell_function x.functions) (m.same l)));
        stands = record { datas = ds.stands; offsets = ks.stands; functions = fs.stands; main = m.stands };
      }
