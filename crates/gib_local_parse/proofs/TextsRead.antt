-- A whole text that is spelled so is read.
use Rattle.std.proofs.Common.{◌≡◌, ℕ, zero, suc, ◌<◌, ◌≤◌, Bool, true, false, List, [], ◌∷◌, length, Option, Some, None, Ok, refl, sym, ap, ◌∙◌, arith}
use Rattle.gib_base.specs.declared.token.Sign.TheVariants as s
use Rattle.gib_base.specs.declared.token.Token.{Token}
use Rattle.gib_base.specs.declared.token.Token.TheVariants as t
use Rattle.gib_syntax.specs.declared.tree.Ident.{Ident}
use Rattle.gib_syntax.specs.declared.tree.TypeName.{TypeName}
use Rattle.gib_syntax.specs.declared.tree.TypeName.TheVariants as ty
use Rattle.gib_syntax.specs.declared.tree.Parameter.{Parameter}
use Rattle.gib_syntax.specs.Tree.{ConstructorTree, DataTree}
use Rattle.gib_syntax.specs.Spelling.{Places}
use Rattle.gib_reads.specs.Readers.{Read, Reader, then_at, named, want, next_is, many, many_at, many_step, con_at, is_sign}
use Rattle.gib_local_parse.specs.Tree.{Mark, Line, FunctionText, MainText, LocalTree}
use Rattle.gib_local_parse.specs.Grammar.{upper, type_word, spell_option, spell_line, type_at, option_at, parse}
use Rattle.gib_local_parse.specs.Placed.{IsAt, TypeAt, Follows}
use Rattle.gib_local_parse.specs.Texts.{spell_list, spell_type, spell_con, spell_constructor, spell_alternative, spell_constructors, spell_data, spell_offsets, spell_parameter, spell_body, spell_function, spell_main, spell_text, starts_type, is_constructor, constructor_at, alternative_at, constructors_at, data_at, listed_at, offsets_at, parameter_at, parameters_at, BodyText, body_of, body_at, function_of, function_at, main_of, main_at, text_by, text_at, ended, whole_text, whole_in}
use Rattle.gib_local_parse.specs.PlacedTexts.{ListAt, ConstructorAt, ConstructorsAt, DataAt, OffsetsAt, ParameterAt, ParametersAt, BodyIn, FunctionIn, MainIn, TextIn, TextAt}
use Rattle.gib_reads.proofs.Tools.{done}
use Rattle.gib_reads.proofs.Local.{ok_parts}
use Rattle.gib_local_parse.proofs.Reading.{no_more, name_back, type_back, option_back, line_back}

-- ---- things one after another

-- How one of them is read before what may stand there.
record Reads {A : Type 0} (starts : Token → Bool) (p : Reader A) (spell : A → List Token → List Token) (Stands : A → List Token → Type 0) (Fine : List Token → Type 0) : Type 0 where
  begins : (x : A) (rest : List Token) → next_is starts (spell x rest) ≡ true
  fine : (x : A) (rest : List Token) → Fine (spell x rest)
  back : (x : A) (rest : List Token) → Stands x rest → Fine rest → p (spell x rest) ≡ done x rest
  long : (x : A) (rest : List Token) → length rest < length (spell x rest)

module _ {A : Type 0} (starts : Token → Bool) (p : Reader A) (spell : A → List Token → List Token) (Stands : A → List Token → Type 0) (Fine : List Token → Type 0) (r : Reads starts p spell Stands Fine) where
  list_fine : (xs : List A) (rest : List Token) → Fine rest → Fine (spell_list spell xs rest)
  list_fine [] rest f = f
  list_fine (x ∷ xs) rest f = r.fine x (spell_list spell xs rest)

  list_long : (xs : List A) (rest : List Token) → length xs ≤ length (spell_list spell xs rest)
  list_long [] rest = omega arith
  list_long (x ∷ xs) rest = (let a = list_long xs rest in let c = r.long x (spell_list spell xs rest) in omega (arith, a, c))

  list_from : (xs : List A) (rest : List Token) → ListAt spell Stands xs rest → Fine rest → next_is starts rest ≡ false → (k : ℕ) → length xs ≤ k → many_at k starts p (spell_list spell xs rest) ≡ done xs rest
  unfolding many_at
  list_from [] rest h f e k le = no_more k starts p rest e
  list_from (x ∷ xs) rest h f e zero le = absurd (omega (arith, le))
  list_from (x ∷ xs) rest h f e (suc k) le =
      let left : List Token = spell_list spell xs rest in
      let more : Reader (List A) = many_at k starts p in
      ap (λ v. many_step v p more (spell x left)) (r.begins x left)
      ∙ (ap (λ (z : Read A). then_at z (λ x ts. then_at (more ts) (λ xs ts. Ok (x ∷ xs, ts)))) (r.back x left h.0 (list_fine xs rest f))
      ∙ ap (λ (z : Read (List A)). then_at z (λ xs ts. Ok (x ∷ xs, ts))) (list_from xs rest h.1 f e k (omega (arith, le))))

  list_back : (xs : List A) (rest : List Token) → ListAt spell Stands xs rest → Fine rest → next_is starts rest ≡ false → many starts p (spell_list spell xs rest) ≡ done xs rest
  unfolding many
  list_back xs rest h f e = list_from xs rest h f e (length (spell_list spell xs rest)) (list_long xs rest)

-- Anything may stand behind.
abbrev Any : List Token → Type 0
Any rest = Unit {0}

-- No type stands behind.
abbrev NoType : List Token → Type 0
NoType rest = next_is starts_type rest ≡ false

-- ---- data declarations

type_begins : (w : TypeName) (rest : List Token) → next_is starts_type (spell_type w rest) ≡ true
type_begins (ty.Whole p) rest = refl
type_begins (ty.Truth p) rest = refl
type_begins (ty.Declared x) rest = refl

types_read : (at : Places) → Reads starts_type (type_at at) spell_type (TypeAt at) Any
types_read at = record { begins = type_begins; fine = λ w rest. tt; back = λ w rest h f. type_back at w rest h; long = λ w rest. omega arith }

cons_read : (at : Places) → Reads is_constructor (con_at at) spell_con (IsAt at) Any
cons_read at = record { begins = λ k rest. refl; fine = λ k rest. tt; back = λ k rest h f. ap (λ (x : Ident). done x rest) (name_back at k rest h); long = λ k rest. omega arith }

abbrev constructor_made : Ident → List TypeName → ConstructorTree
constructor_made k fields = record { name = k; fields = fields }

constructor_back : (at : Places) (c : ConstructorTree) (rest : List Token) → ConstructorAt at c rest → NoType rest → constructor_at at (spell_constructor c rest) ≡ done c rest
unfolding constructor_at
constructor_back at c rest h f =
    let ws : List Token = spell_list spell_type c.fields rest in
    let k : Ident = named at c.name.name ws in
    ap (λ (z : Read (List TypeName)). then_at z (λ fields ws. Ok (constructor_made k fields, ws))) (list_back starts_type (type_at at) spell_type (TypeAt at) Any (types_read at) c.fields rest h.1 tt f)
    ∙ (λ i. done (constructor_made (name_back at c.name ws h.0 i) c.fields) rest)

constructor_long : (c : ConstructorTree) (rest : List Token) → length rest < length (spell_constructor c rest)
constructor_long c rest = (let a = types_long c.fields rest in omega (arith, a))
  where
    types_long : (ws : List TypeName) (rest : List Token) → length rest ≤ length (spell_list spell_type ws rest)
    types_long [] rest = omega arith
    types_long (w ∷ ws) rest = (let a = types_long ws rest in omega (arith, a))

alternatives_read : (at : Places) → Reads (is_sign s.Bar) (alternative_at at) spell_alternative (ConstructorAt at) NoType
unfolding alternative_at
alternatives_read at = record { begins = λ c rest. refl; fine = λ c rest. refl; back = back; long = λ c rest. (let a = constructor_long c rest in omega (arith, a)) }
  where
    back : (c : ConstructorTree) (rest : List Token) → ConstructorAt at c rest → NoType rest → alternative_at at (spell_alternative c rest) ≡ done c rest
    back c rest h f = constructor_back at c rest h f

constructors_back : (at : Places) (cs : List ConstructorTree) (rest : List Token) → ConstructorsAt at cs rest → NoType rest → next_is (is_sign s.Bar) rest ≡ false → constructors_at at (spell_constructors cs rest) ≡ done cs rest
unfolding constructors_at
constructors_back at [] rest h f e = absurd h
constructors_back at (c ∷ cs) rest h f e =
    let all = alternatives_read at in
    let left : List Token = spell_list spell_alternative cs rest in
    let more : Reader (List ConstructorTree) = many (is_sign s.Bar) (alternative_at at) in
    ap (λ (z : Read ConstructorTree). then_at z (λ c ws. then_at (more ws) (λ cs ws. Ok (c ∷ cs, ws))))
    (constructor_back at c left h.0 (list_fine (is_sign s.Bar) (alternative_at at) spell_alternative (ConstructorAt at) NoType all cs rest f))
    ∙ ap (λ (z : Read (List ConstructorTree)). then_at z (λ cs ws. Ok (c ∷ cs, ws))) (list_back (is_sign s.Bar) (alternative_at at) spell_alternative (ConstructorAt at) NoType all cs rest h.1 f e)

constructors_long : (cs : List ConstructorTree) (rest : List Token) → length rest ≤ length (spell_constructors cs rest)
constructors_long [] rest = omega arith
constructors_long (c ∷ cs) rest = (let a = constructor_long c (spell_list spell_alternative cs rest) in let d = further cs rest in omega (arith, a, d))
  where
    further : (cs : List ConstructorTree) (rest : List Token) → length rest ≤ length (spell_list spell_alternative cs rest)
    further [] rest = omega arith
    further (c ∷ cs) rest = (let a = constructor_long c (spell_list spell_alternative cs rest) in let d = further cs rest in omega (arith, a, d))

abbrev data_made : Ident → List ConstructorTree → DataTree
data_made k cs = record { name = k; constructors = cs }

data_back : (at : Places) (d : DataTree) (rest : List Token) → DataAt at d rest → data_at at (spell_data d rest) ≡ done d rest
unfolding data_at
data_back at d rest h =
    let ws : List Token = t.Sign s.Equals ∷ spell_constructors d.constructors (t.Sign s.Semicolon ∷ rest) in
    let k : Ident = named at d.name.name ws in
    ap (λ (z : Read (List ConstructorTree)). then_at z (λ cs ws. then_at (want s.Semicolon ws) (λ _ left. Ok (data_made k cs, left)))) (constructors_back at d.constructors (t.Sign s.Semicolon ∷ rest) h.1 refl refl)
    ∙ (λ i. done (data_made (name_back at d.name ws h.0 i) d.constructors) rest)

datas_read : (at : Places) → Reads (is_sign s.Data) (data_at at) spell_data (DataAt at) Any
datas_read at = record {
  begins = λ d rest. refl;
  fine = λ d rest. tt;
  back = λ d rest h f. data_back at d rest h;
  long = λ d rest. (let a = constructors_long d.constructors (t.Sign s.Semicolon ∷ rest) in omega (arith, a));
}

listed_back : (at : Places) (k : Ident) (ks : List Ident) (rest : List Token) → IsAt at k (spell_list spell_con ks (t.Sign s.Semicolon ∷ rest)) → ListAt spell_con (IsAt at) ks (t.Sign s.Semicolon ∷ rest)
    → listed_at at (upper k ∷ spell_list spell_con ks (t.Sign s.Semicolon ∷ rest)) ≡ done (k ∷ ks) (t.Sign s.Semicolon ∷ rest)
unfolding listed_at
listed_back at k ks rest h e =
    let ws : List Token = spell_list spell_con ks (t.Sign s.Semicolon ∷ rest) in
    ap (λ (z : Read (List Ident)). then_at z (λ ks left. Ok (named at k.name ws ∷ ks, left))) (list_back is_constructor (con_at at) spell_con (IsAt at) Any (cons_read at) ks (t.Sign s.Semicolon ∷ rest) e tt refl)
    ∙ (λ i. done (name_back at k ws h i ∷ ks) (t.Sign s.Semicolon ∷ rest))

offsets_back : (at : Places) (ks : List Ident) (rest : List Token) → OffsetsAt at ks rest → offsets_at at rest ≡ done [] rest → offsets_at at (spell_offsets ks rest) ≡ done ks rest
offsets_back at [] rest h e = e
offsets_back at (k ∷ ks) rest h e = ap (λ (z : Read (List Ident)). then_at z (λ ks ws. then_at (want s.Semicolon ws) (λ _ left. Ok (ks, left)))) (listed_back at k ks rest h.0 h.1)

-- ---- functions

abbrev parameter_made : Ident → TypeName → Parameter
parameter_made x w = record { name = x; ty = w }

parameter_back : (at : Places) (q : Parameter) (rest : List Token) → ParameterAt at q rest → parameter_at at (spell_parameter q rest) ≡ done q rest
unfolding parameter_at
parameter_back at q rest h =
    let ws : List Token = t.Sign s.Colon ∷ type_word q.ty ∷ t.Sign s.Close ∷ rest in
    let x : Ident = named at q.name.name ws in
    ap (λ (z : Read TypeName). then_at z (λ w ws. then_at (want s.Close ws) (λ _ left. Ok (parameter_made x w, left)))) (type_back at q.ty (t.Sign s.Close ∷ rest) h.1)
    ∙ (λ i. done (parameter_made (name_back at q.name ws h.0 i) q.ty) rest)

parameters_read : (at : Places) → Reads (is_sign s.Open) (parameter_at at) spell_parameter (ParameterAt at) Any
parameters_read at = record { begins = λ q rest. refl; fine = λ q rest. tt; back = λ q rest h f. parameter_back at q rest h; long = λ q rest. omega arith }

parameters_back : (at : Places) (qs : List Parameter) (rest : List Token) → ParametersAt at qs rest → next_is (is_sign s.Open) rest ≡ false → parameters_at at (spell_list spell_parameter qs rest) ≡ done qs rest
unfolding parameters_at
parameters_back at [] rest h e = absurd h
parameters_back at (q ∷ qs) rest h e =
    let more : Reader (List Parameter) = many (is_sign s.Open) (parameter_at at) in
    ap (λ (z : Read Parameter). then_at z (λ q ws. then_at (more ws) (λ qs ws. Ok (q ∷ qs, ws)))) (parameter_back at q (spell_list spell_parameter qs rest) h.0)
    ∙ ap (λ (z : Read (List Parameter)). then_at z (λ qs ws. Ok (q ∷ qs, ws))) (list_back (is_sign s.Open) (parameter_at at) spell_parameter (ParameterAt at) Any (parameters_read at) qs rest h.1 tt e)

-- Behind a body stands a semicolon.
ended_line : (at : Places) (rest : List Token) → Follows at (t.Sign s.Semicolon ∷ rest)
ended_line at rest = record { operands = refl; mark = refl }

abbrev body_text : TypeName → Option Mark → Line → BodyText
body_text w m u = record { result = w; place = m; line = u }

body_back : (n : ℕ) (at : Places) (w : TypeName) (m : Option Mark) (u : Line) (rest : List Token) → BodyIn n at w m u rest
    → body_of at (parse at n) (spell_body w m u rest) ≡ done (body_text w m u) rest
body_back n at w m u rest h =
    let end : List Token = t.Sign s.Semicolon ∷ rest in
    let ws : List Token = t.Sign s.Equals ∷ spell_line u end in
    ap (λ (z : Read TypeName). then_at z (λ w ws. then_at (option_at at ws) (λ m ws. then_at (want s.Equals ws) (λ _ ws. then_at (parse at n ws) (λ u ws. then_at (want s.Semicolon ws) (λ _ left. Ok (body_text w m u, left))))))) (type_back at w (spell_option m ws) h.0)
    ∙ (ap (λ (z : Read (Option Mark)). then_at z (λ m ws. then_at (want s.Equals ws) (λ _ ws. then_at (parse at n ws) (λ u ws. then_at (want s.Semicolon ws) (λ _ left. Ok (body_text w m u, left)))))) (option_back at m ws h.1 refl)
    ∙ ap (λ (z : Read Line). then_at z (λ u ws. then_at (want s.Semicolon ws) (λ _ left. Ok (body_text w m u, left)))) (line_back at u n end (ended_line at rest) h.2))

functions_read : (n : ℕ) (at : Places) → Reads (is_sign s.Fun) (function_of at (body_of at (parse at n))) spell_function (FunctionIn n at) Any
functions_read n at = record { begins = λ f rest. refl; fine = λ f rest. tt; back = back; long = long }
  where
    back : (f : FunctionText) (rest : List Token) → FunctionIn n at f rest → Any rest
        → function_of at (body_of at (parse at n)) (spell_function f rest) ≡ done f rest
    back f rest h a =
        let end : List Token = spell_body f.result f.place f.body rest in
        let ws : List Token = spell_list spell_parameter f.parameters end in
        let made : Ident → List Parameter → BodyText → FunctionText = λ i qs b. record { name = i; parameters = qs; result = b.result; place = b.place; body = b.line } in
        let i : Ident = named at f.name.name ws in
        ap (λ (z : Read (List Parameter)). then_at z (λ qs ws. then_at (body_of at (parse at n) ws) (λ b left. Ok (made i qs b, left)))) (parameters_back at f.parameters end h.1 refl)
        ∙ (ap (λ (z : Read BodyText). then_at z (λ b left. Ok (made i f.parameters b, left))) (body_back n at f.result f.place f.body rest h.2)
        ∙ (λ j. done (made (name_back at f.name ws h.0 j) f.parameters (body_text f.result f.place f.body)) rest))

    parameters_long : (qs : List Parameter) (rest : List Token) → length rest ≤ length (spell_list spell_parameter qs rest)
    parameters_long [] rest = omega arith
    parameters_long (q ∷ qs) rest = (let a = parameters_long qs rest in omega (arith, a))

    option_long : (m : Option Mark) (rest : List Token) → length rest ≤ length (spell_option m rest)
    option_long None rest = omega arith
    option_long (Some m) rest = omega arith

    long : (f : FunctionText) (rest : List Token) → length rest < length (spell_function f rest)
    long f rest =
        let end : List Token = t.Sign s.Equals ∷ spell_line f.body (t.Sign s.Semicolon ∷ rest) in
        let a = parameters_long f.parameters (spell_body f.result f.place f.body rest) in
        let c = option_long f.place end in
        let d = Rattle.gib_local_parse.proofs.Reading.line_long f.body (t.Sign s.Semicolon ∷ rest) in
        omega (arith, a, c, d)

main_back : (n : ℕ) (at : Places) (m : MainText) (rest : List Token) → MainIn n at m rest
    → main_of at (body_of at (parse at n)) (spell_main m rest) ≡ done m rest
main_back n at m rest h =
    let end : List Token = spell_body m.result m.place m.body rest in
    let made : Parameter → BodyText → MainText = λ q b. record { parameter = q; result = b.result; place = b.place; body = b.line } in
    ap (λ (z : Read Parameter). then_at z (λ q ws. then_at (body_of at (parse at n) ws) (λ b left. Ok (made q b, left)))) (parameter_back at m.parameter end h.0)
    ∙ ap (λ (z : Read BodyText). then_at z (λ b left. Ok (made m.parameter b, left))) (body_back n at m.result m.place m.body rest h.1)

-- ---- whole texts

text_back : (n : ℕ) (at : Places) (x : LocalTree) (rest : List Token) → TextIn n at x rest
    → text_by at (function_of at (body_of at (parse at n))) (main_of at (body_of at (parse at n))) (spell_text x rest) ≡ done x rest
text_back n at x rest h =
    let function : Reader FunctionText = function_of at (body_of at (parse at n)) in
    let main : Reader MainText = main_of at (body_of at (parse at n)) in
    let w3 : List Token = spell_main x.main rest in
    let w2 : List Token = spell_list spell_function x.functions w3 in
    let w1 : List Token = spell_offsets x.offsets w2 in
    let made : List DataTree → List Ident → List FunctionText → MainText → LocalTree = λ ds ks fs m. record { datas = ds; offsets = ks; functions = fs; main = m } in
    let fs : Reader (List FunctionText) = many (is_sign s.Fun) function in
    ap (λ (z : Read (List DataTree)). then_at z (λ ds ws. then_at (offsets_at at ws) (λ ks ws. then_at (fs ws) (λ fs ws. then_at (main ws) (λ m left. Ok (made ds ks fs m, left))))))
    (list_back (is_sign s.Data) (data_at at) spell_data (DataAt at) Any (datas_read at) x.datas w1 h.datas tt (no_data x.offsets x.functions))
    ∙ (ap (λ (z : Read (List Ident)). then_at z (λ ks ws. then_at (fs ws) (λ fs ws. then_at (main ws) (λ m left. Ok (made x.datas ks fs m, left))))) (offsets_back at x.offsets w2 h.offsets (no_offsets x.functions))
    ∙ (ap (λ (z : Read (List FunctionText)). then_at z (λ fs ws. then_at (main ws) (λ m left. Ok (made x.datas x.offsets fs m, left)))) (list_back (is_sign s.Fun) function spell_function (FunctionIn n at) Any (functions_read n at) x.functions w3 h.functions tt refl)
    ∙ ap (λ (z : Read MainText). then_at z (λ m left. Ok (made x.datas x.offsets x.functions m, left))) (main_back n at x.main rest h.main)))
  where
    no_data : (ks : List Ident) (fs : List FunctionText) → next_is (is_sign s.Data) (spell_offsets ks (spell_list spell_function fs (spell_main x.main rest))) ≡ false
    no_data (k ∷ ks) fs = refl
    no_data [] [] = refl
    no_data [] (f ∷ fs) = refl

    no_offsets : (fs : List FunctionText) → offsets_at at (spell_list spell_function fs (spell_main x.main rest)) ≡ done [] (spell_list spell_function fs (spell_main x.main rest))
    no_offsets [] = refl
    no_offsets (f ∷ fs) = refl

-- What a text spells is read as that text.
pub whole_back : (at : Places) (x : LocalTree) → TextAt at x [] → whole_text at (spell_text x []) ≡ done x []
unfolding whole_text text_at function_at main_at body_at
whole_back at x h = ap (λ (z : Read LocalTree). then_at z ended) (text_back 200 at x [] h)

-- In so many levels.
pub text_back_in : (n : ℕ) (at : Places) (x : LocalTree) → TextIn n at x [] → whole_in n at (spell_text x []) ≡ done x []
unfolding whole_in
text_back_in n at x h = ap (λ (z : Read LocalTree). then_at z ended) (text_back n at x [] h)

-- Tokens spell one text at most that stands where they stand.
pub one_text : (at : Places) (x y : LocalTree) → TextAt at x [] → TextAt at y [] → spell_text x [] ≡ spell_text y [] → x ≡ y
one_text at x y h k same = (ok_parts x y [] [] (sym (whole_back at x h) ∙ (ap (λ ws. whole_text at ws) same ∙ whole_back at y k))).0
