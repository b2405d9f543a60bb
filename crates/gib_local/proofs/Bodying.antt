-- Bodies and whole texts, in the words of the rules.
use Rattle.std.proofs.Common.{◌≡◌, ℕ, suc, ◌+◌, ◌-◌, ◌<◌, ◌≤◌, Bool, true, false, cond, List, [], ◌∷◌, ◌++◌, length, map, take, drop, get_or, Option, Some, None, Ok, Err, refl, sym, ap, ◌∙◌, subst, arith, append_assoc}
use Rattle.std.specs.Prelude.{Result, ◌==◌}
use Rattle.std.specs.List.{AllByRecursion}
use Rattle.std.proofs.lemmas.List.{nil_from_length, append-nil, length-map, map-append}
use Rattle.std.proofs.Math.Seq.{take-length}
use Rattle.gib_types.specs.declared.table.Ty.{Ty}
use Rattle.gib_types.specs.declared.table.Ty.TheVariants as y
use Rattle.gib_types.specs.declared.table.ConId.{ConId}
use Rattle.gib_types.specs.Row.{Table}
use Rattle.gib_types.specs.Table.{is_scalar, IsTyBelow}
use Rattle.gib_syntax.specs.declared.tree.Parameter.{Parameter}
use Rattle.gib_syntax.specs.declared.tree.TypeName.{TypeName}
use Rattle.gib_syntax.specs.declared.tree.TypeName.TheVariants as w
use Rattle.gib_syntax.specs.Declarations.{place_of, next_place, type_of_name, type_or, tree_type}
use Rattle.gib_core.specs.declared.node.TermId.{TermId}
use Rattle.gib_core.specs.declared.program.CoreFunction.{CoreFunction}
use Rattle.gib_core.specs.declared.program.CoreResult.{CoreResult}
use Rattle.gib_syntax.specs.Results as results
use Rattle.gib_core.specs.declared.program.CoreMain.{CoreMain}
use Rattle.gib_core.specs.Arena.{Grows, term_of}
use Rattle.gib_core.specs.Parts.{IsResultDeclared, results_of, AreInside, IsDeclared, AreDeclared, IsFunctionInside, core_of, function_term}
use Rattle.gib_core.specs.Tree.{CoreTree, FunctionTerm}
use Rattle.gib_core.proofs.Fronting.{grows_more}
use Rattle.gib_core.proofs.Inside.{functions_more, functions_stay}
use Rattle.gib_local.specs.declared.builder.Builder.{Builder}
use Rattle.gib_loccheck.specs.declared.destination.Destination.TheVariants as d
use Rattle.gib_local.specs.declared.build_fault.BuildFault.{BuildFault}
use Rattle.gib_local.specs.declared.build_fault.BuildFault.TheVariants as f
use Rattle.gib_local_parse.specs.declared.text.FunctionLines.{FunctionLines}
use Rattle.gib_local_parse.specs.Tree.{Line, FunctionText}
use Rattle.gib_local_parse.specs.declared.tree.Mark.{Mark}
use Rattle.gib_local_parse.specs.TextParts.{TextParts, IsFunctionIn, function_text, text_of}
use Rattle.gib_local_parse.specs.LineArena.{tree_of}
use Rattle.gib_local.specs.Building.{AtResult, IsPlace, Placed, Program, Termed, and_then, body, build, build_body, build_core, build_functions, con, no_mark, types_of, with_place, with_variables}
use Rattle.gib_local.specs.Builds.{Builds, Enters, Fails, around_of, passed_of, program_in}
use Rattle.gib_local.specs.Bodied.{BuildsBody, PutsFunction, PutsFunctions, PutsMain, name_of, packed_body, scalar_around, scalar_body}
use Rattle.gib_local.proofs.Adding.{given, fails_for, fails_then, unmarked_fail, unmarked_go}

pub body_for : (b0 b1 : Builder) (result : Result TermId BuildFault) (r s : Placed Termed) → r ≡ s → BuildsBody b0 b1 result s → BuildsBody b0 b1 result r
body_for b0 b1 result r s e h = subst (λ x. BuildsBody b0 b1 result x) (sym e) h

-- The term of a body is a term.
body_of : (b0 b1 : Builder) (result : Result TermId BuildFault) (r : Placed Termed) → Builds b0 b1 result r → BuildsBody b0 b1 result r
body_of b0 b1 (Ok id) r h = record { is = h.is; grows = h.stays.grows; inside = h.inside }
body_of b0 b1 (Err e) r h = h

pub scalar_built : (p : Program) (b0 b1 : Builder) (result : Result TermId BuildFault) (at : Option Mark) (u : Line) → no_mark at (Ok (tt {0})) ≡ Ok (tt {0}) → Builds b0 b1 result (build p u (around_of b0 (record { destination = d.Nowhere; at = AtResult })) (passed_of b0))
    → BuildsBody b0 b1 result (scalar_body p b0 at u)
scalar_built p b0 b1 result at u m h = body_for b0 b1 result (scalar_body p b0 at u) (build p u (scalar_around b0) (passed_of b0)) (unmarked_go at (build p u (scalar_around b0) (passed_of b0)) m) (body_of b0 b1 result (build p u (scalar_around b0) (passed_of b0)) h)

pub scalar_refused : (p : Program) (e : BuildFault) (bd : Builder) (at : Option Mark) (u : Line) → Fails e (no_mark at (Ok (tt {0}))) → Fails e (scalar_body p bd at u)
scalar_refused p e bd at u h = unmarked_fail at e (build p u (scalar_around bd) (passed_of bd)) h

grows_named : (b0 b1 b2 : Builder) (result : Result TermId BuildFault) (r : Placed Termed) → b1.terms ≡ b0.terms → BuildsBody b1 b2 result r → BuildsBody b0 b2 result r
grows_named b0 b1 b2 (Ok id) r e h = record { is = h.is; grows = subst (λ xs. Grows xs b2.terms) e h.grows; inside = h.inside }
grows_named b0 b1 b2 (Err x) r e h = h

pub packed_built : (p : Program) (b0 b1 b2 : Builder) (result : Result TermId BuildFault) (w : TypeName) (m : Mark) (u : Line) → b1 ≡ record b0 { places = with_place m.name (IsPlace AtResult) b0.places }
    → Builds b1 b2 result (build p u (around_of b1 (record { destination = d.Empty; at = AtResult })) (passed_of b1)) → BuildsBody b0 b2 result (packed_body p b0 w (Some m) u)
packed_built p b0 b1 b2 result w m u e h =
    let o = sym e in
    body_for b0 b2 result (packed_body p b0 w (Some m) u) (build p u (around_of b1 (record { destination = d.Empty; at = AtResult })) (passed_of b1)) (λ i. build p u (around_of (o i) (record { destination = d.Empty; at = AtResult })) (passed_of (o i)))
    (grows_named b0 b1 b2 result _ (ap (λ (x : Builder). x.terms) e) (body_of b1 b2 result _ h))

-- What a body begins with.
pub record Begun (b0 b1 : Builder) (qs : List Parameter) : Type 0 where
  pub is : b1 ≡ record b0 { variables = with_variables 0 (map name_of qs) []; places = []; fresh = length qs; unused = [] }

pub begun : (b0 b1 b2 : Builder) (qs : List Parameter) → b1 ≡ record b0 { variables = []; places = []; fresh = 0; unused = [] } → Enters b1 b2 (map name_of qs) → Begun b0 b2 qs
begun b0 b1 b2 qs e h = let same : 0 + length (map name_of qs) ≡ length qs = (let l : length (map name_of qs) ≡ length qs = length-map qs name_of in omega (arith, l)) in record {
  is =
      h
      ∙ ap (λ (x : Builder). record x { variables = with_variables x.fresh (map name_of qs) x.variables; fresh = x.fresh + length (map name_of qs) }) e
      ∙ ap (λ n. record b0 { variables = with_variables 0 (map name_of qs) []; places = []; fresh = n; unused = [] }) same;
}

scalar_whole : (p : Program) (b0 b1 : Builder) (qs : List Parameter) (w : TypeName) (t : Ty) (at : Option Mark) (u : Line) → is_scalar t ≡ true → Begun b0 b1 qs → body true p qs w t at u ≡ scalar_body p b1 at u
scalar_whole p b0 b1 qs w y.Whole at u e h = (λ i. scalar_body p (sym h.is i) at u)
scalar_whole p b0 b1 qs w y.Truth at u e h = (λ i. scalar_body p (sym h.is i) at u)
scalar_whole p b0 b1 qs w (y.Tree t) at u e h = absurd cc

packed_whole : (p : Program) (b0 b1 : Builder) (qs : List Parameter) (w : TypeName) (t : Ty) (at : Option Mark) (u : Line) → is_scalar t ≡ false → Begun b0 b1 qs → body false p qs w t at u ≡ packed_body p b1 w at u
packed_whole p b0 b1 qs w y.Whole at u e h = absurd cc
packed_whole p b0 b1 qs w y.Truth at u e h = absurd cc
packed_whole p b0 b1 qs w (y.Tree t) at u e h = (λ i. packed_body p (sym h.is i) w at u)

-- A body by the type of its result.
pub scalar_begun : (p : Program) (b0 b1 b2 : Builder) (qs : List Parameter) (w : TypeName) (t : Ty) (at : Option Mark) (u : Line) (result : Result TermId BuildFault) → t ≡ type_of_name p.table.types w → is_scalar t ≡ true → Begun b0 b1 qs → BuildsBody b1 b2 result (scalar_body p b1 at u)
    → BuildsBody b0 b2 result (build_body p qs w at u)
scalar_begun p b0 b1 b2 qs w t at u result et e h k =
    let s : is_scalar (type_of_name p.table.types w) ≡ true = ap is_scalar (sym et) ∙ e in
    body_for b0 b2 result (build_body p qs w at u) (scalar_body p b1 at u) (ap (λ x. body x p qs w (type_of_name p.table.types w) at u) s ∙ scalar_whole p b0 b1 qs w (type_of_name p.table.types w) at u s h)
    (grows_named b0 b1 b2 result _ (ap (λ (x : Builder). x.terms) h.is) k)

pub packed_begun : (p : Program) (b0 b1 b2 : Builder) (qs : List Parameter) (w : TypeName) (t : Ty) (at : Option Mark) (u : Line) (result : Result TermId BuildFault) → t ≡ type_of_name p.table.types w → is_scalar t ≡ false → Begun b0 b1 qs → BuildsBody b1 b2 result (packed_body p b1 w at u)
    → BuildsBody b0 b2 result (build_body p qs w at u)
packed_begun p b0 b1 b2 qs w t at u result et e h k =
    let s : is_scalar (type_of_name p.table.types w) ≡ false = ap is_scalar (sym et) ∙ e in
    body_for b0 b2 result (build_body p qs w at u) (packed_body p b1 w at u) (ap (λ x. body x p qs w (type_of_name p.table.types w) at u) s ∙ packed_whole p b0 b1 qs w (type_of_name p.table.types w) at u s h)
    (grows_named b0 b1 b2 result _ (ap (λ (x : Builder). x.terms) h.is) k)

-- functions

-- Functions before those that others make.
abbrev pub with_functions : List FunctionTerm → Placed (List FunctionTerm) → Placed (List FunctionTerm)
with_functions fs (Ok gs) = Ok (fs ++ gs)
with_functions fs (Err p) = Err p

with_none : (r : Placed (List FunctionTerm)) → with_functions [] r ≡ r
with_none (Ok gs) = refl
with_none (Err p) = refl

with_more : (fs : List FunctionTerm) (g : FunctionTerm) (r : Placed (List FunctionTerm)) → with_functions fs (and_then r (λ rest. given (g ∷ rest))) ≡ with_functions (fs ++ g ∷ []) r
with_more fs g (Ok gs) = ap (λ l. Ok l) (sym (append_assoc fs (g ∷ []) gs))
with_more fs g (Err p) = refl

-- What goes on behind a body.
abbrev more_of : Program → FunctionText → Placed (List FunctionTerm) → Termed → Placed (List FunctionTerm)
more_of p t rest s = and_then rest (λ l. given (record { name = t.name.name; parameters = types_of p.table.types t.parameters; result = results.One (type_of_name p.table.types t.result); body = s.term } ∷ l))

-- Some functions were built; with those that are left they are all.
pub record FunctionsSoFar (p : Program) (g : ℕ → Line) (n : ℕ) (old now : Builder) (functions rest : List FunctionLines) (made : List CoreFunction) : Type 0 where
  pub grows : Grows old.terms now.terms
  pub inside : AllByRecursion (IsFunctionInside (length now.terms)) made
  pub declared : AllByRecursion (IsDeclared (length p.table.types)) made
  pub below : AllByRecursion (IsFunctionIn n) rest
  pub is : build_functions p (map (function_text g) functions) ≡ with_functions (map (function_term (term_of now.terms)) made) (build_functions p (map (function_text g) rest))

pub functions_begin : (p : Program) (g : ℕ → Line) (n : ℕ) (old : Builder) (functions : List FunctionLines) (made : List CoreFunction) → AllByRecursion (IsFunctionIn n) functions → made ≡ [] → FunctionsSoFar p g n old old functions functions made
functions_begin p g n old functions made h e = subst (λ l. FunctionsSoFar p g n old old functions functions l) (sym e) (record {
  grows = record { longer = omega arith; same = λ id lt. refl };
  inside = tt;
  declared = tt;
  below = h;
  is = sym (with_none (build_functions p (map (function_text g) functions)));
})

all_last : {A : Type 0} (P : A → Type 0) (xs : List A) (x : A) → AllByRecursion P xs → P x → AllByRecursion P (xs ++ x ∷ [])
all_last P [] x h k = (k, tt)
all_last P (z ∷ xs) x h k = (h.0, all_last P xs x h.1 k)

-- types that are declared

below_next : (n : ℕ) (o : Option ℕ) → IsTyBelow n (type_or (tree_type o)) → IsTyBelow (suc n) (type_or (tree_type (next_place o)))
below_next n None h = tt
below_next n (Some k) h = omega (arith, h)

below_first : (c : Bool) (n : ℕ) (o : Option ℕ) → IsTyBelow (suc n) (type_or (tree_type o)) → IsTyBelow (suc n) (type_or (tree_type (cond c (Some 0) o)))
below_first true n o h = omega arith
below_first false n o h = h

named_below : (types : List ℕ) (x : ℕ) → IsTyBelow (length types) (type_or (tree_type (place_of types x)))
named_below [] x = tt
named_below (z ∷ types) x = below_first (z == x) (length types) (next_place (place_of types x)) (below_next (length types) (place_of types x) (named_below types x))

pub written_below : (types : List ℕ) (q : TypeName) → IsTyBelow (length types) (type_of_name types q)
written_below types (w.Whole p) = tt
written_below types (w.Truth p) = tt
written_below types (w.Declared x) = named_below types x.name.0

pub types_below : (types : List ℕ) (qs : List Parameter) → AllByRecursion (IsTyBelow (length types)) (types_of types qs)
types_below types [] = tt
types_below types (q ∷ qs) = (written_below types q.ty, types_below types qs)

function_declared : (p : Program) (b0 b1 : Builder) (made : CoreFunction) (t : FunctionText) → PutsFunction b0 b1 p made t → IsDeclared (length p.table.types) made
function_declared p b0 b1 made t h = (
  subst (AllByRecursion (IsTyBelow (length p.table.types))) (sym h.parameters) (types_below p.table.types t.parameters),
  subst (λ (r : CoreResult). IsResultDeclared (length p.table.types) (results_of r)) (sym h.result) (written_below p.table.types t.result),
)

front_is : {A : Type 0} (x : A) (rest : List A) → 1 ≤ length rest → x ≡ get_or rest 0 x → rest ≡ x ∷ take (length rest - 1) (drop 1 rest)
front_is x [] le e = absurd (omega (arith, le))
front_is x (z ∷ rest) le e = (λ i. sym e i ∷ rest) ∙ ap (λ l. x ∷ l) (sym ((let n : length (z ∷ rest) - 1 ≡ length rest = omega arith in ap (λ k. take k rest) n) ∙ take-length rest))

pub functions_next : (p : Program) (g : ℕ → Line) (n : ℕ) (old now new : Builder) (functions rest : List FunctionLines) (one : FunctionLines) (made more : List CoreFunction) (x : CoreFunction) → 1 ≤ length rest → one ≡ get_or rest 0 one → FunctionsSoFar p g n old now functions rest made
    → PutsFunction now new p x (function_text g one) → more ≡ made ++ x ∷ [] → FunctionsSoFar p g n old new functions (take (length rest - 1) (drop 1 rest)) more
functions_next p g n old now new functions rest one made more x le at h k m =
    let after = take (length rest - 1) (drop 1 rest) in
    let split : rest ≡ one ∷ after = front_is one rest le at in
    let made_is : function_term (term_of new.terms) x ≡ record { name = one.name.name; parameters = types_of p.table.types one.parameters.items; result = results.One (type_of_name p.table.types one.result); body = term_of new.terms x.body.0 } =
    (λ i. record { name = k.name i; parameters = k.parameters i; result = results_of (k.result i); body = term_of new.terms x.body.0 }) in
    let go = λ (fs : List FunctionTerm). with_functions fs (build_functions p (map (function_text g) after)) in
    subst (λ l. FunctionsSoFar p g n old new functions after l) (sym m) (record {
      grows = grows_more old.terms now.terms new.terms h.grows k.grows;
      inside = all_last (IsFunctionInside (length new.terms)) made x (functions_more (length now.terms) (length new.terms) made k.grows.longer h.inside) k.inside;
      declared = all_last (IsDeclared (length p.table.types)) made x h.declared (function_declared p now new x (function_text g one) k);
      below = (subst (λ l. AllByRecursion (IsFunctionIn n) l) split h.below).1;
      is =
          h.is
          ∙ ap (λ l. with_functions (map (function_term (term_of now.terms)) made) (build_functions p (map (function_text g) l))) split
          ∙ ap (λ r. with_functions (map (function_term (term_of now.terms)) made) (and_then r (more_of p (function_text g one) (build_functions p (map (function_text g) after))))) k.is
          ∙ ap (λ z. with_functions (map (function_term (term_of now.terms)) made) (and_then (build_functions p (map (function_text g) after)) (λ l. given (z ∷ l)))) (sym made_is)
          ∙ with_more (map (function_term (term_of now.terms)) made) (function_term (term_of new.terms) x) (build_functions p (map (function_text g) after))
          ∙ ap (λ l. go (l ++ function_term (term_of new.terms) x ∷ [])) (sym (functions_stay (term_of new.terms) (term_of now.terms) (length now.terms) made h.inside k.grows.same))
          ∙ ap go (sym (map-append (function_term (term_of new.terms)) made (x ∷ [])));
    })

pub functions_fail : (p : Program) (g : ℕ → Line) (n : ℕ) (e : BuildFault) (old now : Builder) (functions rest : List FunctionLines) (one : FunctionLines) (made : List CoreFunction) → 1 ≤ length rest → one ≡ get_or rest 0 one → FunctionsSoFar p g n old now functions rest made
    → Fails e (build_body p one.parameters.items one.result one.place (g one.body.0)) → Fails e (build_functions p (map (function_text g) functions))
functions_fail p g n f.Memory old now functions rest one made le at h k = tt
functions_fail p g n (f.Place q) old now functions rest one made le at h k =
    let after = take (length rest - 1) (drop 1 rest) in
    let split : rest ≡ one ∷ after = front_is one rest le at in
    h.is
    ∙ ap (λ l. with_functions (map (function_term (term_of now.terms)) made) (build_functions p (map (function_text g) l))) split
    ∙ ap (λ r. with_functions (map (function_term (term_of now.terms)) made) (and_then r (more_of p (function_text g one) (build_functions p (map (function_text g) after))))) k

pub functions_end : (p : Program) (g : ℕ → Line) (n : ℕ) (old now : Builder) (functions rest : List FunctionLines) (made : List CoreFunction) → length rest < 1 → FunctionsSoFar p g n old now functions rest made → PutsFunctions old now p made (build_functions p (map (function_text g) functions))
functions_end p g n old now functions rest made lt h = record {
  grows = h.grows;
  inside = h.inside;
  declared = h.declared;
  is =
      h.is
      ∙ ap (λ l. with_functions (map (function_term (term_of now.terms)) made) (build_functions p (map (function_text g) l))) (nil_from_length rest (omega (arith, lt)))
      ∙ ap (λ l. Ok l) (append-nil (map (function_term (term_of now.terms)) made));
}

-- the whole text

pub all_inside : (parts : TextParts) (b0 b1 b2 : Builder) (table : Table) (functions : List CoreFunction) (main : CoreMain) (offsets : List ConId) (r : Placed (List FunctionTerm)) → table ≡ (program_in parts).table → PutsFunctions b0 b1 (program_in parts) functions r → PutsMain b1 b2 (program_in parts) main (text_of parts).main
    → AreInside (record { table = table; terms = b2.terms; functions = functions; main = main; offsets = offsets; marked = true })
all_inside parts b0 b1 b2 table functions main offsets r e h k =
    let types = (program_in parts).table.types in
    let long : length types ≡ length table.types = ap (λ (t : Table). length t.types) (sym e) in record {
      functions = functions_more (length b1.terms) (length b2.terms) functions k.grows.longer h.inside;
      main = k.inside;
      types = subst (λ n. AllByRecursion (IsDeclared n) functions) long h.declared;
      main_types = subst (λ n. AreDeclared n (main.parameter ∷ []) (results.One main.result)) long (
        (subst (IsTyBelow (length types)) (sym k.parameter) (written_below types parts.main.parameter.ty), tt),
        subst (IsTyBelow (length types)) (sym k.result) (written_below types parts.main.result),
      );
    }

-- What goes on behind functions, and behind main.
abbrev whole_of : TextParts → List FunctionTerm → Termed → Placed CoreTree
whole_of parts l m = Ok (record {
  table = (program_in parts).table;
  functions = l;
  main = record { parameter = type_of_name (program_in parts).table.types parts.main.parameter.ty; result = type_of_name (program_in parts).table.types parts.main.result; body = m.term };
  offsets = map (con (program_in parts).table) parts.offsets;
  marked = true;
})

abbrev main_of : TextParts → List FunctionTerm → Placed CoreTree
main_of parts l = and_then (build_body (program_in parts) (parts.main.parameter ∷ []) parts.main.result parts.main.place (tree_of parts.lines parts.main.body.0)) (whole_of parts l)

pub core_made : (parts : TextParts) (b0 b1 b2 : Builder) (table : Table) (functions : List CoreFunction) (main : CoreMain) (offsets : List ConId) → table ≡ (program_in parts).table → PutsFunctions b0 b1 (program_in parts) functions (build_functions (program_in parts) (program_in parts).functions)
    → PutsMain b1 b2 (program_in parts) main (text_of parts).main → offsets ≡ map (con (program_in parts).table) parts.offsets
    → build_core (text_of parts) ≡ Ok (core_of (record { table = table; terms = b2.terms; functions = functions; main = main; offsets = offsets; marked = true }))
unfolding build_core
core_made parts b0 b1 b2 table functions main offsets e h k o =
    let p = program_in parts in
    let fs : map (function_term (term_of b1.terms)) functions ≡ map (function_term (term_of b2.terms)) functions = sym (functions_stay (term_of b2.terms) (term_of b1.terms) (length b1.terms) functions h.inside k.grows.same) in
    ap (λ r. and_then r (main_of parts)) h.is
    ∙ ap (λ r. and_then r (whole_of parts (map (function_term (term_of b1.terms)) functions))) k.is
    ∙ (λ i. Ok (record {
      table = sym e i;
      functions = fs i;
      main = record { parameter = sym k.parameter i; result = sym k.result i; body = term_of b2.terms main.body.0 };
      offsets = sym o i;
      marked = true;
    }))

pub core_functions : (parts : TextParts) (e : BuildFault) → Fails e (build_functions (program_in parts) (program_in parts).functions) → Fails e (build_core (text_of parts))
unfolding build_core
core_functions parts e h = fails_then e (build_functions (program_in parts) (program_in parts).functions) (main_of parts) h

pub core_main : (parts : TextParts) (e : BuildFault) (b0 b1 : Builder) (functions : List CoreFunction) → PutsFunctions b0 b1 (program_in parts) functions (build_functions (program_in parts) (program_in parts).functions)
    → Fails e (build_body (program_in parts) (parts.main.parameter ∷ []) parts.main.result parts.main.place (tree_of parts.lines parts.main.body.0)) → Fails e (build_core (text_of parts))
unfolding build_core
core_main parts e b0 b1 functions h k =
    fails_for e (build_core (text_of parts)) (main_of parts (map (function_term (term_of b1.terms)) functions)) (ap (λ r. and_then r (main_of parts)) h.is)
    (fails_then e (build_body (program_in parts) (parts.main.parameter ∷ []) parts.main.result parts.main.place (tree_of parts.lines parts.main.body.0)) (whole_of parts (map (function_term (term_of b1.terms)) functions)) k)

-- The next function's body is one of the terms.
pub function_here : (n : ℕ) (rest : List FunctionLines) (one : FunctionLines) → 1 ≤ length rest → one ≡ get_or rest 0 one → AllByRecursion (IsFunctionIn n) rest → one.body.0 < n
function_here n [] one le at h = absurd (omega (arith, le))
function_here n (z ∷ rest) one le at h = subst (λ (k : FunctionLines). k.body.0 < n) (sym at) h.0
