-- Where all names of a printed text are names, no several parts are bound or given in its core.
use Rattle.std.proofs.Common.{◌≡◌, ◌<◌, ℕ, Bool, true, false, if◌then◌else◌, refl, List, [], ◌∷◌, ◌++◌, map, Option, Some, None, arith}
use Rattle.std.specs.Prelude.{nat_lt}
use Rattle.std.specs.List.{AllByRecursion, flat_map, list_all}
use Rattle.std.proofs.lemmas.Bool.{ltb-true, and_parts}
use Rattle.gib_base.specs.declared.token.Sign.TheVariants as s
use Rattle.gib_base.specs.declared.token.Token.{Token}
use Rattle.gib_base.specs.declared.Span.{Span}
use Rattle.gib_base.specs.Spelling.{token_text}
use Rattle.gib_types.specs.Table.{Table}
use Rattle.gib_syntax.specs.declared.tree.Ident.{Ident}
use Rattle.gib_syntax.specs.declared.tree.Parameter.{Parameter}
use Rattle.gib_syntax.specs.declared.tree.TypeName.{TypeName}
use Rattle.gib_syntax.specs.Results as results
use Rattle.gib_syntax.specs.Tree.{ConstructorTree, DataTree}
use Rattle.gib_core.specs.declared.atom.Kind.{Kind}
use Rattle.gib_core.specs.declared.atom.Kind.TheVariants.{Here, Region, Scalar}
use Rattle.gib_core.specs.Tree.{Term, Then, Write, Point, CallTerm, Give, CaseTerm, IfTerm, Tuple, Bind, Past, One, Both, Prim, Reach, Side, On, Several, Branches, NoBranch, BranchThen, FunctionTerm, CoreTree}
use Rattle.gib_core.specs.Met.{Destination, Nowhere, Empty, Open, InParts, Body, bodies, result_place}
use Rattle.gib_core.specs.Walk.{Each, EachInBind, EachInSide, EachInBranches, body_of}
use Rattle.gib_types.specs.Operators.{operator_type}
use Rattle.gib_local.specs.Building.{is_flat}
use Rattle.gib_local_parse.specs.Tree.{Line, In, NewPlace, NewRegion, LetIn, ParIn, Bound}
use Rattle.gib_local_parse.specs.declared.tree.Mark.{Mark}
use Rattle.gib_local_parse.specs.declared.tree.Operand.{Operand}
use Rattle.gib_local_parse.specs.declared.tree.Location.{Location}
use Rattle.gib_local_parse.specs.declared.tree.Location.TheVariants.{Start, Plus, After}
use Rattle.gib_local_parse.specs.declared.tree.Way.{Way}
use Rattle.gib_local_parse.specs.declared.tree.Way.TheVariants.{ByOffset, BySkip, ByEnd}
use Rattle.gib_local_parse.specs.Grammar.{sign, lower, upper, operand_word, operator_word, type_word, spell_mark, spell_option, spell_operands, spell_names, spell_location, spell_way, spell_between, spell_line, spell_bound, spell_arms}
use Rattle.gib_local_parse.specs.Texts.{spell_list, spell_type, spell_con, spell_constructor, spell_alternative, spell_constructors, spell_data, spell_offsets, spell_parameter, spell_body, spell_function, spell_main}
use Rattle.gib_local_print.specs.Printing.{Naming, nowhere, no_name, no_text, result_text, ident, named, atom_name, operand, type_text, con_text, way, last_of, side_number, side_mark, side_place, call_mark, mark, before_field, before, are_fields, behind_bind, open_text, par_text, arms_or, text_of, bind_text, side_text, branches_text, function_text, first_given}
use Rattle.gib_local_print.specs.LocatedText.{given, is_name, is_named, spaced, located_tree, located_tokens, located_text}
use Rattle.gib_local_print.specs.HasShape.{IsOne}
use Rattle.gib_local_print.specs.HasForm.{IsSingleEntry, AreSingle}

module _ (names : List (List ℕ)) where
  -- Tokens whose names are names.
  abbrev Named : List Token → Type 0
  Named ws = list_all (is_named names) ws ≡ true

  next : (w : Token) (ws : List Token) → Named (w ∷ ws) → Named ws
  next w ws e = (and_parts (is_named names w) (list_all (is_named names) ws) e).1

  -- Several parts are named by no name.
  none_named : (ws : List Token) → Named (upper no_name ∷ ws) → ⊥
  none_named ws e =
      let first = (and_parts (is_named names (upper no_name)) (list_all (is_named names) ws) e).0 in
      let less : first_given < first_given = ltb-true first_given first_given (and_parts (nat_lt first_given first_given) (is_name true (token_text names (upper no_name))) first).0 in
      absurd (omega (arith, less))

  -- ---- what stands behind a part

  past_operands : (xs : List Operand) (rest : List Token) → Named (spell_operands xs rest) → Named rest
  past_operands [] rest e = e
  past_operands (x ∷ xs) rest e = past_operands xs rest (next (operand_word x) (spell_operands xs rest) e)

  past_names : (xs : List Ident) (rest : List Token) → Named (spell_names xs rest) → Named rest
  past_names [] rest e = e
  past_names (x ∷ xs) rest e = past_names xs rest (next (lower x) (spell_names xs rest) e)

  past_option : (m : Option Mark) (rest : List Token) → Named (spell_option m rest) → Named rest
  past_option None rest e = e
  past_option (Some m) rest e = next (lower m.name) rest e

  past_location : (q : Location) (rest : List Token) → Named (spell_location q rest) → Named rest
  past_location (Start r) rest e = next (lower r) rest e
  past_location (Plus d k) rest e = next (upper k) rest (next (lower d) (sign s.Plus ∷ upper k ∷ rest) e)
  past_location (After x) rest e = next (lower x) rest e

  past_way : (q : Way) (rest : List Token) → Named (spell_way q rest) → Named rest
  past_way ByOffset rest e = e
  past_way (BySkip z) rest e = next (lower z) rest e
  past_way (ByEnd z) rest e = next (lower z) rest e

  past_between : (m : Option (Ident × Ident)) (rest : List Token) → Named (spell_between m rest) → Named rest
  past_between None rest e = e
  past_between (Some (l, x)) rest e = next (lower x) (sign s.In ∷ rest) (next (lower l) (sign s.Equals ∷ sign s.After ∷ lower x ∷ sign s.In ∷ rest) e)

  past_place : (l : Ident) (q : Location) (u : Line) (p : Span) (rest : List Token) → Named (spell_line (In p (NewPlace l q) u) rest) → Named (spell_line u rest)
  past_place l q u p rest e = past_location q (sign s.In ∷ spell_line u rest) (next (lower l) (sign s.Equals ∷ spell_location q (sign s.In ∷ spell_line u rest)) e)

  past_region : (r : Ident) (u : Line) (p : Span) (rest : List Token) → Named (spell_line (In p (NewRegion r) u) rest) → Named (spell_line u rest)
  past_region r u p rest e = next (lower r) (sign s.In ∷ spell_line u rest) e

  past_field : (nm : Naming) (d : Destination) (x : ℕ) (u : Line) (rest : List Token) → Named (spell_line (before_field nm d x u) rest) → Named (spell_line u rest)
  past_field nm Nowhere x u rest e = e
  past_field nm Empty x u rest e = e
  past_field nm (InParts ts) x u rest e = e
  past_field nm (Open h k []) x u rest e = e
  past_field nm (Open h k (y ∷ ys)) x u rest e = past_place (ident (nm.location x)) (After (named nm (last_of y ys))) u nowhere rest e

  past_before : (nm : Naming) (d : Destination) (k : Kind) (x : ℕ) (u : Line) (rest : List Token) → Named (spell_line (before nm d k x u) rest) → Named (spell_line u rest)
  past_before nm d Here x u rest e = past_field nm d x u rest e
  past_before nm d Region x u rest e =
      past_place (ident (nm.location x)) (Start (ident (nm.region x))) u nowhere rest (past_region (ident (nm.region x)) (In nowhere (NewPlace (ident (nm.location x)) (Start (ident (nm.region x)))) u) nowhere rest e)
  past_before nm d Scalar x u rest e = e

  past_open : (nm : Naming) (flat : Bool) (at : ℕ) (h : Rattle.gib_core.specs.declared.atom.Variable.Variable) (k : Ident) (u : Line) (rest : List Token) → Named (spell_line (open_text flat nm at h k u) rest) → Named (spell_line u rest)
  past_open nm true at h k u rest e = e
  past_open nm false at h k u rest e = past_place (ident (nm.location h.0)) (Plus (ident (nm.location at)) k) u nowhere rest e

  no_several : (nm : Naming) (at : ℕ) (u : Line) (rest : List Token) → Named (spell_line (no_text nm at u) rest) → ⊥
  no_several nm at u rest e =
      let place = ident (nm.location at) in
      none_named (sign s.In ∷ spell_line u rest) (next (lower place) (sign s.Plus ∷ upper no_name ∷ sign s.In ∷ spell_line u rest)
      (next (lower (ident (nm.location 0))) (sign s.Equals ∷ lower place ∷ sign s.Plus ∷ upper no_name ∷ sign s.In ∷ spell_line u rest) e))

  -- Two sides, one behind the other.
  record Sides (l r : ℕ → Bound) (rest : List Token) : Type 0 where
    left : ℕ
    right : ℕ
    middle : Option (Ident × Ident)
    are : Named (spell_bound (l left) (sign s.And ∷ spell_between middle (spell_bound (r right) rest)))

  past_sides : (nm : Naming) (b : Bool) (d : Destination) (k : Kind) (x : ℕ) (j : Kind) (y : ℕ) (l r : ℕ → Bound) (u : Line) (rest : List Token) → Named (spell_line (par_text b nm d k x j y l r u) rest) → Sides l r (sign s.In ∷ spell_line u rest)
  past_sides nm true d k x j y l r u rest e =
      let par = In nowhere (ParIn (l (side_number d k x)) (Some (ident (nm.location y), ident (nm.variable x))) (r y)) u in
      record { left = side_number d k x; right = y; middle = Some (ident (nm.location y), ident (nm.variable x)); are = past_before nm d k x par rest e }
  past_sides nm false d k x j y l r u rest e =
      let par = In nowhere (ParIn (l (side_number d k x)) None (r (side_number d j y))) u in
      record { left = side_number d k x; right = side_number d j y; middle = None; are = past_before nm d j y par rest (past_before nm d k x (before nm d j y par) rest e) }

  -- ---- terms

  module _ (nm : Naming) (tb : Table) where
    mutual
      term_single : (t : Term) (d : Destination) (at : ℕ) (rest : List Token) → Named (spell_line (text_of nm tb t d at) rest) → Each IsSingleEntry t × Named rest
      term_single (Then b u) d at rest e =
          let g = bind_single b d at (text_of nm tb u (behind_bind d b) at) rest e in
          let h = term_single u (behind_bind d b) at rest g.1 in
          ((g.0, h.0), h.1)
      term_single (Write g k ss ps) d at rest e =
          let xs = map (operand nm) (Rattle.gib_types.specs.Table.merge (Rattle.gib_types.specs.Table.fields_at tb k.0) ss ps) in
          (tt, past_operands xs rest (past_option (Some (mark nm at)) (spell_operands xs rest) (next (upper (con_text tb k)) (spell_mark (mark nm at) (spell_operands xs rest)) e)))
      term_single (Point x) d at rest e = (tt, past_option (Some (mark nm at)) rest (next (lower (atom_name nm x)) (spell_mark (mark nm at) rest) e))
      term_single (CallTerm f xs) d at rest e =
          let m = call_mark nm d at in
          let ys = map (operand nm) xs in
          (tt, past_option m rest (past_operands ys (spell_option m rest) (next (lower (ident f.0)) (spell_operands ys (spell_option m rest)) e)))
      term_single (Give x) d at rest e = (tt, next (operand_word (operand nm x)) rest e)
      term_single (CaseTerm x bs) d at rest e =
          let arms = arms_or (branches_text nm tb bs d at) in
          let g = branches_single bs d at (sign s.CloseBrace ∷ rest) (next (lower (atom_name nm x)) (sign s.Of ∷ sign s.OpenBrace ∷ spell_arms arms (sign s.CloseBrace ∷ rest)) e) in
          ((tt, g.0), g.1)
      term_single (IfTerm x t u) d at rest e =
          let behind = sign s.Else ∷ spell_line (text_of nm tb u d at) rest in
          let g = term_single t d at behind (next (operand_word (operand nm x)) (sign s.Then ∷ spell_line (text_of nm tb t d at) behind) e) in
          let h = term_single u d at rest g.1 in
          ((tt, (g.0, h.0)), h.1)
      term_single (Tuple ts ss ps) d at rest e = absurd (none_named (spell_mark (mark nm at) rest) e)

      bind_single : (b : Bind) (d : Destination) (at : ℕ) (u : Line) (rest : List Token) → Named (spell_line (bind_text nm tb b d at u) rest) → EachInBind IsSingleEntry b × Named (spell_line u rest)
      bind_single (Past h k) d at u rest e = (tt, past_open nm (is_flat tb k) at h (con_text tb k) u rest e)
      bind_single (One (On k x t v)) d at u rest e =
          side_single (On k x t v) (side_number d k x.0) (sign s.In ∷ spell_line u rest) (past_before nm d k x.0 (In nowhere (LetIn (side_text nm tb (On k x t v) (side_number d k x.0))) u) rest e)
      bind_single (One (Several xs ts v)) d at u rest e = absurd (no_several nm at u rest e)
      bind_single (Both fork (On k x t v) (On j y q w)) d at u rest e =
          let p = past_sides nm (are_fields k j) d k x.0 j y.0 (side_text nm tb (On k x t v)) (side_text nm tb (On j y q w)) u rest e in
          let right = spell_bound (side_text nm tb (On j y q w) p.right) (sign s.In ∷ spell_line u rest) in
          let g = side_single (On k x t v) p.left (sign s.And ∷ spell_between p.middle right) p.are in
          let h = side_single (On j y q w) p.right (sign s.In ∷ spell_line u rest) (past_between p.middle right g.1) in
          ((tt, (g.0, h.0)), h.1)
      bind_single (Both fork (On k x t v) (Several ys ts w)) d at u rest e = absurd (no_several nm at u rest e)
      bind_single (Both fork (Several xs ts v) r) d at u rest e = absurd (no_several nm at u rest e)
      bind_single (Prim x f y z) d at u rest e =
          let after = sign s.In ∷ spell_line u rest in
          let last = sign s.Close ∷ after in
          let two = operator_word f ∷ operand_word (operand nm z) ∷ last in
          let word = type_word (type_text tb (operator_type f)) in (
            tt,
            next (operand_word (operand nm z)) last (next (operator_word f) (operand_word (operand nm z) ∷ last) (next (operand_word (operand nm y)) two
                (next word (sign s.Equals ∷ sign s.Open ∷ operand_word (operand nm y) ∷ two) (next (lower (named nm x)) (sign s.Colon ∷ word ∷ sign s.Equals ∷ sign s.Open ∷ operand_word (operand nm y) ∷ two) e)))),
          )
      bind_single (Reach y by) d at u rest e = (tt, past_way (way nm by) (sign s.In ∷ spell_line u rest) (next (lower (named nm y)) (sign s.By ∷ spell_way (way nm by) (sign s.In ∷ spell_line u rest)) e))

      side_single : (q : Side) (n : ℕ) (rest : List Token) → Named (spell_bound (side_text nm tb q n) rest) → EachInSide IsSingleEntry q × Named rest
      side_single (On k x t v) n rest e =
          let word = type_word (type_text tb t) in
          let m = side_mark nm k n in
          let body = sign s.Equals ∷ spell_line (text_of nm tb v (side_place k) n) rest in
          let g = term_single v (side_place k) n rest (past_option m body (next word (spell_option m body) (next (lower (named nm x)) (sign s.Colon ∷ word ∷ spell_option m body) e))) in
          ((tt, g.0), g.1)
      side_single (Several xs ts v) n rest e =
          let body = sign s.Equals ∷ upper no_name ∷ spell_mark (mark nm n) rest in
          absurd (none_named body (next (lower no_name) (sign s.Colon ∷ upper no_name ∷ body) e))

      branches_single : (bs : Branches) (d : Destination) (at : ℕ) (rest : List Token) → Named (spell_arms (arms_or (branches_text nm tb bs d at)) rest) → EachInBranches IsSingleEntry bs × Named rest
      branches_single NoBranch d at rest e = (tt, next (upper (ident 0)) (sign s.Arrow ∷ sign s.Give ∷ sign s.False ∷ rest) e)
      branches_single (BranchThen k xs t NoBranch) d at rest e =
          let ys = map (named nm) xs in
          let body = sign s.Arrow ∷ spell_line (text_of nm tb t d at) rest in
          let g = term_single t d at rest (past_names ys body (next (upper (con_text tb k)) (spell_names ys body) e)) in
          ((tt, (g.0, tt)), g.1)
      branches_single (BranchThen k xs t (BranchThen j zs u bs)) d at rest e =
          let ys = map (named nm) xs in
          let more = sign s.Semicolon ∷ spell_arms (arms_or (branches_text nm tb (BranchThen j zs u bs) d at)) rest in
          let body = sign s.Arrow ∷ spell_line (text_of nm tb t d at) more in
          let g = term_single t d at more (past_names ys body (next (upper (con_text tb k)) (spell_names ys body) e)) in
          let h = branches_single (BranchThen j zs u bs) d at rest g.1 in
          ((tt, (g.0, h.0)), h.1)

  -- ---- whole texts

  past_list : {A : Type 0} (spell : A → List Token → List Token) → ((x : A) (rest : List Token) → Named (spell x rest) → Named rest) → (xs : List A) (rest : List Token) → Named (spell_list spell xs rest) → Named rest
  past_list spell past [] rest e = e
  past_list spell past (x ∷ xs) rest e = past_list spell past xs rest (past x (spell_list spell xs rest) e)

  past_type : (w : TypeName) (rest : List Token) → Named (spell_type w rest) → Named rest
  past_type w rest e = next (type_word w) rest e

  past_con : (k : Ident) (rest : List Token) → Named (spell_con k rest) → Named rest
  past_con k rest e = next (upper k) rest e

  past_constructor : (c : ConstructorTree) (rest : List Token) → Named (spell_constructor c rest) → Named rest
  past_constructor c rest e = past_list spell_type past_type c.fields rest (next (upper c.name) (spell_list spell_type c.fields rest) e)

  past_constructors : (cs : List ConstructorTree) (rest : List Token) → Named (spell_constructors cs rest) → Named rest
  past_constructors [] rest e = e
  past_constructors (c ∷ cs) rest e = past_list spell_alternative past_constructor cs rest (past_constructor c (spell_list spell_alternative cs rest) e)

  past_data : (d : DataTree) (rest : List Token) → Named (spell_data d rest) → Named rest
  past_data d rest e = past_constructors d.constructors (sign s.Semicolon ∷ rest) (next (upper d.name) (sign s.Equals ∷ spell_constructors d.constructors (sign s.Semicolon ∷ rest)) e)

  past_offsets : (ks : List Ident) (rest : List Token) → Named (spell_offsets ks rest) → Named rest
  past_offsets [] rest e = e
  past_offsets (k ∷ ks) rest e = past_list spell_con past_con ks (sign s.Semicolon ∷ rest) (next (upper k) (spell_list spell_con ks (sign s.Semicolon ∷ rest)) e)

  past_parameter : (q : Parameter) (rest : List Token) → Named (spell_parameter q rest) → Named rest
  past_parameter q rest e = next (type_word q.ty) (sign s.Close ∷ rest) (next (lower q.name) (sign s.Colon ∷ type_word q.ty ∷ sign s.Close ∷ rest) e)

  past_head : (w : TypeName) (place : Option Mark) (u : Line) (rest : List Token) → Named (spell_body w place u rest) → Named (spell_line u (sign s.Semicolon ∷ rest))
  past_head w place u rest e =
      let body = sign s.Equals ∷ spell_line u (sign s.Semicolon ∷ rest) in
      past_option place body (next (type_word w) (spell_option place body) e)

  function_single : (nm : Naming) (tb : Table) (f : FunctionTerm) (rest : List Token) → Named (spell_function (function_text nm tb f) rest) → IsOne f.result × Each IsSingleEntry f.body × Named rest
  function_single nm tb f rest e =
      let g = function_text nm tb f in
      let body = past_list spell_parameter past_parameter g.parameters (spell_body g.result g.place g.body rest) (next (lower g.name) (spell_list spell_parameter g.parameters (spell_body g.result g.place g.body rest)) e) in
      let h = term_single nm tb f.body (result_place f.result) 0 (sign s.Semicolon ∷ rest) (past_head g.result g.place g.body rest body) in
      (one f.result body, h.0, h.1)
    where
      one : (r : results.Results Rattle.gib_types.specs.declared.table.Ty.Ty) → Named (spell_body (result_text tb r) (function_text nm tb f).place (function_text nm tb f).body rest) → IsOne r
      one (results.One t) e = tt
      one (results.Several ts) e = absurd (none_named (spell_option (function_text nm tb f).place (sign s.Equals ∷ spell_line (function_text nm tb f).body (sign s.Semicolon ∷ rest))) e)

  functions_single : (nm : Naming) (tb : Table) (fs : List FunctionTerm) (m : Body) (rest : List Token) → (Named rest → Each IsSingleEntry m.term) → Named (spell_list spell_function (map (function_text nm tb) fs) rest)
      → AllByRecursion (λ (b : Body). Each IsSingleEntry b.term) (map body_of fs ++ m ∷ []) × AllByRecursion (λ (f : FunctionTerm). IsOne f.result) fs
  functions_single nm tb [] m rest main e = ((main e, tt), tt)
  functions_single nm tb (f ∷ fs) m rest main e =
      let g = function_single nm tb f (spell_list spell_function (map (function_text nm tb) fs) rest) e in
      let h = functions_single nm tb fs m rest main g.2 in
      ((g.1, h.0), (g.0, h.1))

  named_single : (core : CoreTree) → list_all (is_named names) (located_tokens core) ≡ true → AreSingle core
  named_single core e =
      let x = located_tree core in
      let tb = core.table in
      let m : Body = record { parameters = core.main.parameter ∷ []; result = results.One core.main.result; term = core.main.body } in
      let main = spell_main x.main [] in
      let functions = spell_list spell_function x.functions main in
      let behind : Named functions = past_offsets x.offsets functions (past_list spell_data past_data x.datas (spell_offsets x.offsets functions) e) in
      let own : Named main → Each IsSingleEntry core.main.body =
      λ h. (term_single given tb core.main.body (result_place (results.One core.main.result)) 0 (sign s.Semicolon ∷ []) (past_head x.main.result x.main.place x.main.body [] (past_parameter x.main.parameter (spell_body x.main.result x.main.place x.main.body []) h))).0 in
      let all = functions_single given tb core.functions m main own behind in
      record { bodies = all.0; results = all.1 }

  shown : (b : Bool) (some text : List ℕ) → (if b then Some some else None) ≡ Some text → b ≡ true
  shown true some text e = refl
  shown false some text e = absurd cc

  -- A core with a text.
  pub text_single : (core : CoreTree) (text : List ℕ) → located_text names core ≡ Some text → AreSingle core
  text_single core text e = named_single core (shown (list_all (is_named names) (located_tokens core)) (flat_map (spaced names) (located_tokens core)) text e)
