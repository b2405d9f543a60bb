-- The laws of the readers of declarations and texts.
use Rattle.std.proofs.Common.{◌≡◌, ◌≢◌, ℕ, suc, List, [], ◌∷◌, Option, Some, None, refl, sym, ap, ◌∙◌, subst}
use Rattle.std.specs.List.{AllByRecursion}
use Rattle.gib_base.specs.declared.token.Sign.TheVariants as s
use Rattle.gib_base.specs.declared.token.Token.{Token}
use Rattle.gib_base.specs.declared.token.Token.TheVariants as t
use Rattle.gib_syntax.specs.declared.tree.Ident.{Ident}
use Rattle.gib_syntax.specs.declared.tree.TypeName.{TypeName}
use Rattle.gib_syntax.specs.declared.tree.TypeName.TheVariants as ty
use Rattle.gib_syntax.specs.declared.tree.Parameter.{Parameter}
use Rattle.gib_syntax.specs.Fine.{HasConstructor}
use Rattle.gib_syntax.specs.Tree.{ConstructorTree, DataTree}
use Rattle.gib_syntax.specs.Spelling.{Places}
use Rattle.gib_reads.specs.Readers.{Reader, then_at, want, con_at, many, is_sign}
use Rattle.gib_reads.proofs.Tools.{done}
use Rattle.gib_reads.proofs.Laws.{World, Form, Reads, pure_reads, fail_reads, token_reads, choice_nil, choice_reads, weaken, as_reads, then_behind, then_reads, then_sign, var_reads, con_reads, many_reads, write_all, fine_all, good_all, a_name}
use Rattle.gib_local_parse.specs.Tree.{Mark, Line, FunctionText, MainText, LocalTree}
use Rattle.gib_local_parse.specs.Grammar.{lower, upper, type_word, spell_option, spell_line, type_at}
use Rattle.gib_local_parse.specs.Placed.{IsAt, TypeAt, OptionAt, LineAt}
use Rattle.gib_local_parse.specs.Texts.{spell_list, spell_type, spell_con, spell_constructor, spell_alternative, spell_constructors, spell_data, spell_offsets, spell_parameter, spell_body, spell_function, spell_main, spell_text, starts_type, is_constructor, constructor_at, alternative_at, constructors_at, data_at, listed_at, offsets_at, parameter_at, parameters_at, BodyText, body_of, function_of, main_of, text_by, ended}
use Rattle.gib_local_parse.specs.PlacedTexts.{ListAt, ConstructorAt, ConstructorsAt, DataAt, OffsetsAt, ParameterAt, ParametersAt, BodyIn, FunctionIn, MainIn, TextIn}
use Rattle.gib_local_parse.proofs.Asked.{LineIn, IsFunction, IsText}
use Rattle.gib_local_parse.proofs.PhraseLaws.{type_name, nowhere, zero_small, type_reads, option_reads}
use Rattle.gib_local_parse.proofs.TermLaws.{plain, LinesRead}

-- ---- what is read

abbrev listed : {A : Type 0} → (A → List Token → List Token) → (A → List Token → Type 0) → Form (List A)
listed write Stands = record { write = spell_list write; fine = λ xs. Unit {0}; good = ListAt write Stands }

abbrev pub constructor : Places → Form ConstructorTree
constructor at = record { write = spell_constructor; fine = λ c. Unit {0}; good = ConstructorAt at }

abbrev pub alternative : Places → Form ConstructorTree
alternative at = record { write = spell_alternative; fine = λ c. Unit {0}; good = ConstructorAt at }

abbrev constructors : Places → Form (List ConstructorTree)
constructors at = record { write = spell_constructors; fine = λ cs. cs ≢ []; good = ConstructorsAt at }

abbrev pub data_form : Places → Form DataTree
data_form at = record { write = spell_data; fine = HasConstructor; good = DataAt at }

-- Constructors, one at least.
abbrev one_listed : Places → Form (List Ident)
one_listed at = record { write = spell_list spell_con; fine = λ ks. ks ≢ []; good = ListAt spell_con (IsAt at) }

abbrev offsets : Places → Form (List Ident)
offsets at = record { write = spell_offsets; fine = λ ks. Unit {0}; good = OffsetsAt at }

abbrev pub parameter : Places → Form Parameter
parameter at = record { write = spell_parameter; fine = λ q. Unit {0}; good = ParameterAt at }

abbrev parameters : Places → Form (List Parameter)
parameters at = record { write = spell_list spell_parameter; fine = λ qs. qs ≢ []; good = ParametersAt at }

abbrev body : Places → ℕ → Form BodyText
body at n = record {
  write = λ b l. spell_body b.result b.place b.line l;
  fine = λ b. LineIn b.line (suc n);
  good = λ b rest. BodyIn n at b.result b.place b.line rest;
}

abbrev pub function : Places → ℕ → Form FunctionText
function at n = record { write = spell_function; fine = IsFunction (suc n); good = FunctionIn n at }

abbrev main_form : Places → ℕ → Form MainText
main_form at n = record { write = spell_main; fine = λ m. LineIn m.body (suc n); good = MainIn n at }

abbrev text : Places → ℕ → Form LocalTree
text at n = record { write = spell_text; fine = IsText (suc n); good = TextIn n at }

-- A text, with nothing behind it.
abbrev pub whole_form : Places → ℕ → Form LocalTree
whole_form at n = record { write = spell_text; fine = IsText (suc n); good = λ x rest. TextIn n at x rest × (rest ≡ []) }

abbrev datas : Places → Form (List DataTree)
datas at = record { write = spell_list spell_data; fine = AllByRecursion HasConstructor; good = ListAt spell_data (DataAt at) }

abbrev functions : Places → ℕ → Form (List FunctionText)
functions at n = record { write = spell_list spell_function; fine = AllByRecursion (IsFunction (suc n)); good = ListAt spell_function (FunctionIn n at) }

-- ---- lists

module _ {A : Type 0} (write : A → List Token → List Token) where
  list_spelled : (xs : List A) (l : List Token) → write_all write xs l ≡ spell_list write xs l
  list_spelled [] l = refl
  list_spelled (x ∷ xs) l = ap (write x) (list_spelled xs l)

  list_good : (Stands : A → List Token → Type 0) (xs : List A) (l : List Token) → good_all write Stands xs l → ListAt write Stands xs l
  list_good Stands [] l h = tt
  list_good Stands (x ∷ xs) l h = (subst (Stands x) (list_spelled xs l) h.0, list_good Stands xs l h.1)

offsets_spelled : (ks : List Ident) → ks ≢ [] → (l : List Token) → t.Sign s.Offsets ∷ spell_list spell_con ks (t.Sign s.Semicolon ∷ l) ≡ spell_offsets ks l
offsets_spelled [] h l = absurd (h refl)
offsets_spelled (k ∷ ks) h l = refl

offsets_good : (at : Places) (ks : List Ident) (rest : List Token) → ListAt spell_con (IsAt at) ks (t.Sign s.Semicolon ∷ rest) → OffsetsAt at ks rest
offsets_good at [] rest h = tt
offsets_good at (k ∷ ks) rest h = h

pub all_fine : {A : Type 0} (Fine : A → Type 0) (xs : List A) → fine_all Fine xs → AllByRecursion Fine xs
all_fine Fine [] h = tt
all_fine Fine (x ∷ xs) h = (h.0, all_fine Fine xs h.1)

-- ---- the plainest

abbrev a_constructor : ConstructorTree
a_constructor = record { name = a_name; fields = [] }

abbrev a_parameter : Parameter
a_parameter = record { name = a_name; ty = ty.Whole nowhere }

abbrev a_main : MainText
a_main = record { parameter = a_parameter; result = ty.Whole nowhere; place = None; body = plain }

abbrev listed_then : Places → Reader (List Ident)
listed_then at l = then_at (listed_at at l) (λ ks l. then_at (want s.Semicolon l) (λ _. done ks))

-- A list with this first.
some : {A : Type 0} (x : A) (xs : List A) → x ∷ xs ≢ []
some x xs e = cc

-- ---- data declarations

module _ {P : Type 0} {w : World P} where
  types_reads : (r ws : List Token) → Reads w 0 (listed spell_type (TypeAt w.text.here)) r (λ l. l) (λ at sub. many starts_type (type_at at)) ws
  types_reads r ws = as_reads (list_spelled spell_type) (λ xs o. tt) (λ xs rest o p. list_good spell_type (TypeAt w.text.here) xs rest p)
      (many_reads starts_type (λ at sub. type_at at) type_reads r ws)

  constructor_reads : (r ws : List Token) → Reads w 1 (constructor w.text.here) r (λ l. l) (λ at sub. constructor_at at) ws
  unfolding constructor_at
  constructor_reads r ws =
      then_reads (con_reads r ws) (λ k o. (record { name = k; fields = [] }, tt, refl)) (λ k r1 e1 o1 p1.
      then_reads (types_reads r r1) (λ xs o. (record { name = k; fields = xs }, tt, refl)) (λ xs r2 e2 o2 p2.
      let made : ConstructorTree = record { name = k; fields = xs } in
      pure_reads made r2 (λ l. refl) tt (subst (IsAt w.text.here k) e2 p1, p2)))

  pub alternative_reads : (r ws : List Token) → Reads w 1 (alternative w.text.here) r (λ l. l) (λ at sub. alternative_at at) ws
  unfolding alternative_at
  alternative_reads r ws = then_sign s.Bar (spell_constructor a_constructor r) (a_constructor, tt, refl)
      (λ u r1 e1. as_reads (λ c l. refl) (λ c o. tt) (λ c rest o p. p) (constructor_reads r r1))

  constructors_reads : (r ws : List Token) → Reads w 1 (constructors w.text.here) r (λ l. l) (λ at sub. constructors_at at) ws
  unfolding constructors_at
  constructors_reads r ws =
      let more = list_spelled spell_alternative in
      then_reads (constructor_reads r ws) (λ c o. (c ∷ [], some c [], refl)) (λ c r1 e1 o1 p1.
      then_reads (many_reads (is_sign s.Bar) (λ at sub. alternative_at at) alternative_reads r r1)
      (λ cs o. (c ∷ cs, some c cs, ap (spell_constructor c) (more cs r))) (λ cs r2 e2 o2 p2.
      pure_reads (c ∷ cs) r2 (λ l. ap (spell_constructor c) (more cs l)) (some c cs)
      (subst (ConstructorAt w.text.here c) (e2 ∙ more cs r2) p1, list_good spell_alternative (ConstructorAt w.text.here) cs r2 p2)))

  pub data_reads : (r ws : List Token) → Reads w 1 (data_form w.text.here) r (λ l. l) (λ at sub. data_at at) ws
  unfolding data_at
  data_reads r ws =
      let end = t.Sign s.Semicolon ∷ r in
      let one : List ConstructorTree = a_constructor ∷ [] in
      let fine = some a_constructor [] in
      let more = t.Sign s.Equals ∷ spell_constructors one end in
      then_sign s.Data (t.Constructor a_name.name ∷ more) (record { name = a_name; constructors = one }, fine, refl) (λ u r1 e1.
      then_reads (con_reads more r1) (λ d o. (record { name = d; constructors = one }, fine, refl)) (λ d r2 e2 o2 p2.
      then_sign s.Equals (spell_constructors one end) (record { name = d; constructors = one }, fine, refl) (λ u r3 e3.
      then_reads (constructors_reads end r3) (λ cs o. (record { name = d; constructors = cs }, o, refl)) (λ cs r4 e4 o4 p4.
      then_sign s.Semicolon r (record { name = d; constructors = cs }, o4, refl) (λ u r5 e5.
      let i2 : r2 ≡ t.Sign s.Equals ∷ spell_constructors cs (t.Sign s.Semicolon ∷ r5) = e3
      ∙ ap (λ (l : List Token). t.Sign s.Equals ∷ l) (e4 ∙ ap (spell_constructors cs) e5) in
      let made : DataTree = record { name = d; constructors = cs } in
      pure_reads made r5 (λ l. refl) o4 (subst (IsAt w.text.here d) i2 p2, subst (ConstructorsAt w.text.here cs) e5 p4))))))

  -- ---- constructors that store offsets

  listed_reads : (r ws : List Token) → Reads w 1 (one_listed w.text.here) r (λ l. l) (λ at sub. listed_at at) ws
  unfolding listed_at
  listed_reads r ws =
      let more = list_spelled spell_con in
      then_reads (con_reads r ws) (λ k o. (k ∷ [], some k [], refl)) (λ k r1 e1 o1 p1.
      then_reads (many_reads is_constructor (λ at sub. con_at at) con_reads r r1) (λ ks o. (k ∷ ks, some k ks, ap (spell_con k) (more ks r)))
      (λ ks r2 e2 o2 p2.
      pure_reads (k ∷ ks) r2 (λ l. ap (spell_con k) (more ks l)) (some k ks)
      (subst (IsAt w.text.here k) (e2 ∙ more ks r2) p1, list_good spell_con (IsAt w.text.here) ks r2 p2)))

  behind_offsets_reads : (r ws : List Token) → Reads w 1 (offsets w.text.here) r (λ l. t.Sign s.Offsets ∷ l) (λ at sub. listed_then at) ws
  behind_offsets_reads r ws =
      then_reads (listed_reads (t.Sign s.Semicolon ∷ r) ws) (λ ks o. (ks, tt, offsets_spelled ks o r)) (λ ks r1 e1 o1 p1.
      then_sign s.Semicolon r (ks, tt, offsets_spelled ks o1 r) (λ u r2 e2.
      pure_reads ks r2 (offsets_spelled ks o1) tt (offsets_good w.text.here ks r2 (subst (ListAt spell_con (IsAt w.text.here) ks) e2 p1))))

  offsets_reads : (r ws : List Token) → Reads w 0 (offsets w.text.here) r (λ l. l) (λ at sub. offsets_at at) ws
  offsets_reads r [] = choice_nil (λ at sub. offsets_at at) (λ at sub. done []) (λ at sub. refl) (pure_reads [] [] (λ l. refl) tt tt)
  offsets_reads r (t.Sign s.Offsets ∷ ws) =
      weaken (token_reads (λ at sub. offsets_at at) (λ z at sub. listed_then at) (t.Sign s.Offsets) ws (λ at sub l. refl) (behind_offsets_reads r ws))
  offsets_reads r (c ∷ ws) = choice_reads (λ at sub. offsets_at at) (λ at sub. done []) c ws (λ at sub l. refl)
      (pure_reads [] (c ∷ ws) (λ l. refl) tt tt)

  -- ---- parameters

  pub parameter_reads : (r ws : List Token) → Reads w 1 (parameter w.text.here) r (λ l. l) (λ at sub. parameter_at at) ws
  unfolding parameter_at
  parameter_reads r ws =
      let end = t.Sign s.Close ∷ r in
      then_sign s.Open (t.Variable a_name.name ∷ t.Sign s.Colon ∷ t.Sign s.Int ∷ end) (a_parameter, tt, refl) (λ u r1 e1.
      then_reads (var_reads (t.Sign s.Colon ∷ t.Sign s.Int ∷ end) r1) (λ x o. (record { name = x; ty = ty.Whole nowhere }, tt, refl)) (λ x r2 e2 o2 p2.
      then_sign s.Colon (t.Sign s.Int ∷ end) (record { name = x; ty = ty.Whole nowhere }, tt, refl) (λ u r3 e3.
      then_reads (type_reads end r3) (λ a o. (record { name = x; ty = a }, tt, refl)) (λ a r4 e4 o4 p4.
      then_sign s.Close r (record { name = x; ty = a }, tt, refl) (λ u r5 e5.
      let made : Parameter = record { name = x; ty = a } in
      pure_reads made r5 (λ l. refl) tt (
        subst (IsAt w.text.here x) (e3 ∙ ap (λ (l : List Token). t.Sign s.Colon ∷ l) (e4 ∙ ap (λ (l : List Token). type_word a ∷ l) e5)) p2,
        subst (TypeAt w.text.here a) e5 p4,
      ))))))

  parameters_reads : (r ws : List Token) → Reads w 1 (parameters w.text.here) r (λ l. l) (λ at sub. parameters_at at) ws
  unfolding parameters_at
  parameters_reads r ws =
      let more = list_spelled spell_parameter in
      then_reads (parameter_reads r ws) (λ q o. (q ∷ [], some q [], refl)) (λ q r1 e1 o1 p1.
      then_reads (many_reads (is_sign s.Open) (λ at sub. parameter_at at) parameter_reads r r1)
      (λ qs o. (q ∷ qs, some q qs, ap (spell_parameter q) (more qs r))) (λ qs r2 e2 o2 p2.
      pure_reads (q ∷ qs) r2 (λ l. ap (spell_parameter q) (more qs l)) (some q qs)
      (subst (ParameterAt w.text.here q) (e2 ∙ more qs r2) p1, list_good spell_parameter (ParameterAt w.text.here) qs r2 p2)))

-- ---- functions, main and the whole

module _ {w : World (Reader Line)} {n : ℕ} (h : LinesRead w n) where
  body_reads : (r ws : List Token) → Reads w 1 (body w.text.here n) r (λ l. l) body_of ws
  body_reads r ws =
      let end = t.Sign s.Semicolon ∷ r in
      let term = spell_line plain end in
      let zero_body : TypeName → Option Mark → BodyText = λ a m. record { result = a; place = m; line = plain } in
      then_sign s.Colon (t.Sign s.Int ∷ t.Sign s.Equals ∷ term) (zero_body (ty.Whole nowhere) None, zero_small, refl) (λ u r1 e1.
      then_reads (type_reads (t.Sign s.Equals ∷ term) r1) (λ a o. (zero_body a None, zero_small, refl)) (λ a r2 e2 o2 p2.
      then_reads (option_reads (t.Sign s.Equals ∷ term) r2) (λ m o. (zero_body a m, zero_small, refl)) (λ m r3 e3 o3 p3.
      then_sign s.Equals term (zero_body a m, zero_small, refl) (λ u r4 e4.
      then_reads (h end r4) (λ v o. (record { result = a; place = m; line = v }, o, refl)) (λ v r5 e5 o5 p5.
      then_sign s.Semicolon r (record { result = a; place = m; line = v }, o5, refl) (λ u r6 e6.
      let i3 : r3 ≡ t.Sign s.Equals ∷ spell_line v (t.Sign s.Semicolon ∷ r6) = e4 ∙ ap (λ (l : List Token). t.Sign s.Equals ∷ l) (e5 ∙ ap (spell_line v) e6) in
      let made : BodyText = record { result = a; place = m; line = v } in
      pure_reads made r6 (λ l. refl) o5 (
        subst (TypeAt w.text.here a) (e3 ∙ ap (spell_option m) i3) p2,
        subst (OptionAt w.text.here m) i3 p3,
        subst (λ (l : List Token). LineAt w.text.here v n l) e6 p5,
      )))))))

  pub function_reads : (r ws : List Token) → Reads w 1 (function w.text.here n) r (λ l. l) (λ at sub. function_of at (body_of at sub)) ws
  function_reads r ws =
      let one : List Parameter = a_parameter ∷ [] in
      let end = spell_body (ty.Whole nowhere) None plain r in
      let zero_function : Ident → List Parameter → FunctionText =
      λ f qs. record { name = f; parameters = qs; result = ty.Whole nowhere; place = None; body = plain } in
      let more = spell_list spell_parameter one end in
      then_sign s.Fun (t.Variable a_name.name ∷ more) (zero_function a_name one, (some a_parameter [], zero_small), refl) (λ u r1 e1.
      then_reads (var_reads more r1) (λ f o. (zero_function f one, (some a_parameter [], zero_small), refl)) (λ f r2 e2 o2 p2.
      then_reads (parameters_reads end r2) (λ qs o. (zero_function f qs, (o, zero_small), refl)) (λ qs r3 e3 o3 p3.
      then_reads (body_reads r r3)
      (λ b o. (record { name = f; parameters = qs; result = b.result; place = b.place; body = b.line }, (o3, o), refl)) (λ b r4 e4 o4 p4.
      let made : FunctionText = record { name = f; parameters = qs; result = b.result; place = b.place; body = b.line } in
      pure_reads made r4 (λ l. refl) (o3, o4) (
        subst (IsAt w.text.here f) (e3 ∙ ap (spell_list spell_parameter qs) e4) p2,
        subst (ParametersAt w.text.here qs) e4 p3,
        p4,
      )))))

  main_reads : (r ws : List Token) → Reads w 1 (main_form w.text.here n) r (λ l. l) (λ at sub. main_of at (body_of at sub)) ws
  main_reads r ws =
      let end = spell_body (ty.Whole nowhere) None plain r in
      let zero_main : Parameter → MainText = λ q. record { parameter = q; result = ty.Whole nowhere; place = None; body = plain } in
      then_sign s.Main (spell_parameter a_parameter end) (zero_main a_parameter, zero_small, refl) (λ u r1 e1.
      then_reads (parameter_reads end r1) (λ q o. (zero_main q, zero_small, refl)) (λ q r2 e2 o2 p2.
      then_reads (body_reads r r2) (λ b o. (record { parameter = q; result = b.result; place = b.place; body = b.line }, o, refl)) (λ b r3 e3 o3 p3.
      let made : MainText = record { parameter = q; result = b.result; place = b.place; body = b.line } in
      pure_reads made r3 (λ l. refl) o3 (subst (ParameterAt w.text.here q) e3 p2, p3))))

  text_reads : (r ws : List Token)
      → Reads w 0 (text w.text.here n) r (λ l. l) (λ at sub. text_by at (function_of at (body_of at sub)) (main_of at (body_of at sub))) ws
  text_reads r ws =
      let main = spell_main a_main r in
      let zero_text : List DataTree → List Ident → List FunctionText → LocalTree = λ ds ks fs.
      record { datas = ds; offsets = ks; functions = fs; main = a_main } in
      then_reads (as_reads {F = datas w.text.here} (list_spelled spell_data) (λ ds o. all_fine HasConstructor ds o)
      (λ ds rest o p. list_good spell_data (DataAt w.text.here) ds rest p) (many_reads (is_sign s.Data) (λ at sub. data_at at) data_reads main ws))
      (λ ds o. (zero_text ds [] [], record { datas = o; functions = tt; main = zero_small }, refl)) (λ ds r1 e1 o1 p1.
      then_reads (offsets_reads main r1) (λ ks o. (zero_text ds ks [], record { datas = o1; functions = tt; main = zero_small }, refl))
      (λ ks r2 e2 o2 p2.
      then_reads (as_reads {F = functions w.text.here n} (list_spelled spell_function) (λ fs o. all_fine (IsFunction (suc n)) fs o)
      (λ fs rest o p. list_good spell_function (FunctionIn n w.text.here) fs rest p)
      (many_reads (is_sign s.Fun) (λ at sub. function_of at (body_of at sub)) function_reads main r2))
      (λ fs o. (zero_text ds ks fs, record { datas = o1; functions = o; main = zero_small }, refl)) (λ fs r3 e3 o3 p3.
      then_reads (main_reads r r3)
      (λ m o. (record { datas = ds; offsets = ks; functions = fs; main = m }, record { datas = o1; functions = o3; main = o }, refl)) (λ m r4 e4 o4 p4.
      let i2 : r2 ≡ spell_list spell_function fs (spell_main m r4) = e3 ∙ ap (spell_list spell_function fs) e4 in
      let made : LocalTree = record { datas = ds; offsets = ks; functions = fs; main = m } in
      pure_reads made r4 (λ l. refl) (record { datas = o1; functions = o3; main = o4 }) (record {
        datas = subst (ListAt spell_data (DataAt w.text.here) ds) (e2 ∙ ap (spell_offsets ks) i2) p1;
        offsets = subst (OffsetsAt w.text.here ks) i2 p2;
        functions = subst (ListAt spell_function (FunctionIn n w.text.here) fs) e4 p3;
        main = p4;
      })))))

  ended_reads : (x : LocalTree) (ws : List Token) → IsText (suc n) x → TextIn n w.text.here x ws
      → Reads w 0 (whole_form w.text.here n) [] (λ l. spell_text x l) (λ at sub. ended x) ws
  ended_reads x [] o p = choice_nil (λ at sub. ended x) (λ at sub. done x) (λ at sub. refl) (pure_reads x [] (λ l. refl) o (p, refl))
  ended_reads x (c ∷ ws) o p = weaken (fail_reads (λ at sub. ended x) c ws [] (λ at sub l. refl) (x, o, refl))

  pub whole_reads : (ws : List Token)
      → Reads w 0 (whole_form w.text.here n) [] (λ l. l)
      (λ at sub l. then_at (text_by at (function_of at (body_of at sub)) (main_of at (body_of at sub)) l) ended) ws
  whole_reads ws = then_reads (text_reads [] ws) (λ x o. (x, o, refl)) (λ x r1 e1 o1 p1. ended_reads x r1 o1 p1)
