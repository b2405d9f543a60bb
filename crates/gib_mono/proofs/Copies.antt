-- What the walk gives is closed.
use Rattle.std.proofs.Common.{◌≡◌, ℕ, zero, suc, ◌+◌, ◌≤◌, Bool, true, false, ◌==◌, if◌then◌else◌, List, [], ◌∷◌, ◌++◌, map, length, Option, Some, None, refl, sym, ap, ◌∙◌, subst, arith}
use Rattle.std.specs.Prelude.{slice_get, nat_lt, Result, Ok, Err}
use Rattle.std.specs.List.{AllByRecursion}
use Rattle.std.proofs.lemmas.Option.{same_Some}
use Rattle.std.proofs.lemmas.Bool.{lt-ltb, or_from, and_from, and_left}
use Rattle.gib_base.specs.declared.Span.{Span}
use Rattle.gib_syntax.specs.declared.tree.Ident.{Ident}
use Rattle.gib_syntax.specs.Declarations.{number_of, place_of, next_place, AreDifferent}
use Rattle.gib_syntax.specs.Forms.{Forms, NoForm}
use Rattle.gib_syntax.specs.GenericTree.{GenericConstructorTree, GenericDataTree, GenericFunctionTree, GenericProgramTree, GenericRow, row_of, rows_of, GenericGlobals, globals_of_generic, generic_named, data_named}
use Rattle.gib_syntax.specs.GenericFine.{HasGenericConstructor}
use Rattle.gib_syntax.specs.GenericTyping.{IsTypedGeneric}
use Rattle.gib_types.specs.SameForm.{same_forms}
use Rattle.gib_mono.specs.Walk.{Ask, Copy, DataOf, FunctionOf, same_copy, is_found, constructors_in, functions_in, add_asks, with_found, walk, copy_asks, copies_asks, main_asks, plain_data, plain_datas, plain_function, plain_functions, plain_copies, copies_of}
use Rattle.gib_mono.specs.Closed.{AreAnswered, IsDeclared, AreApart, IsGood, IsClosed}
use Rattle.gib_mono.proofs.Closing.{asks_go, walk_goes, AreWalked, get_front, goes_on, answered_more, data_own, function_own, Goes}

pub answered_split : (g : GenericGlobals) (found : List Copy) (xs ys : List Ask) → AreAnswered g found (xs ++ ys) → AreAnswered g found xs × AreAnswered g found ys
answered_split g found [] ys h = (tt {0}, h)
answered_split g found (x ∷ xs) ys h = let rest = answered_split g found xs ys h.1 in ((h.0, rest.0), rest.1)

each_answered : (g : GenericGlobals) (found cs : List Copy) (j : ℕ) (c : Copy) → AreAnswered g found (copies_asks g.rows cs) → slice_get cs j ≡ Some c → AreAnswered g found (copy_asks g.rows c)
each_answered g found [] j c h e = absurd cc
each_answered g found (b ∷ bs) zero c h e =
    subst (λ (u : Copy). AreAnswered g found (copy_asks g.rows u)) (same_Some b c e) (answered_split g found (copy_asks g.rows b) (copies_asks g.rows bs) h).0
each_answered g found (b ∷ bs) (suc j) c h e = each_answered g found bs j c (answered_split g found (copy_asks g.rows b) (copies_asks g.rows bs) h).1 e

-- Plain declarations are good

declared_both : (g : GenericGlobals) (xs ys : List Copy) → AllByRecursion (IsDeclared g) xs → AllByRecursion (IsDeclared g) ys → AllByRecursion (IsDeclared g) (xs ++ ys)
declared_both g [] ys h k = k
declared_both g (x ∷ xs) ys h k = (h.0, declared_both g xs ys h.1 k)

plain_declared : (g : GenericGlobals) (d : GenericDataTree) (vs : List Ident) (rest : List Copy) → data_named g.datas (number_of d.name) ≡ Some d → HasGenericConstructor d → AllByRecursion (IsDeclared g) rest → AllByRecursion (IsDeclared g) (plain_data d vs rest)
plain_declared g d [] rest own some h = ((own, some), h)
plain_declared g d (v ∷ vs) rest own some h = h

datas_declared : (g : GenericGlobals) (ds : List GenericDataTree) → AllByRecursion (λ (d : GenericDataTree). data_named g.datas (number_of d.name) ≡ Some d) ds → AllByRecursion HasGenericConstructor ds → AllByRecursion (IsDeclared g) (plain_datas ds)
datas_declared g [] h k = tt {0}
datas_declared g (d ∷ ds) h k = plain_declared g d d.variables (plain_datas ds) h.0 k.0 (datas_declared g ds h.1 k.1)

plain_function_declared : (g : GenericGlobals) (f : GenericFunctionTree) (vs : List Ident) (rest : List Copy) → generic_named g.functions (number_of f.name) ≡ Some f → AllByRecursion (IsDeclared g) rest → AllByRecursion (IsDeclared g) (plain_function f vs rest)
plain_function_declared g f [] rest own h = (own, h)
plain_function_declared g f (v ∷ vs) rest own h = h

functions_declared : (g : GenericGlobals) (fs : List GenericFunctionTree) → AllByRecursion (λ (f : GenericFunctionTree). generic_named g.functions (number_of f.name) ≡ Some f) fs → AllByRecursion (IsDeclared g) (plain_functions fs)
functions_declared g [] h = tt {0}
functions_declared g (f ∷ fs) h = plain_function_declared g f f.variables (plain_functions fs) h.0 (functions_declared g fs h.1)

not_same : (b : Bool) (p : Option ℕ) → (if b then Some 0 else next_place p) ≡ None → (b ≡ false) × (p ≡ None)
not_same true p h = absurd cc
not_same false None h = (refl, refl)
not_same false (Some i) h = absurd cc

-- a function is none of the plain functions of other names
function_out : (fs : List GenericFunctionTree) (f : GenericFunctionTree) (ts : Forms) → place_of (map (λ (h : GenericFunctionTree). number_of h.name) fs) (number_of f.name) ≡ None → is_found (plain_functions fs) (FunctionOf f ts) ≡ false
function_out [] f ts h = refl
function_out (k ∷ fs) f ts h =
    let both = not_same (number_of k.name == number_of f.name) (place_of (map (λ (h : GenericFunctionTree). number_of h.name) fs) (number_of f.name)) h in
    step k.variables both.0 (function_out fs f ts both.1) where
      step : (vs : List Ident) → (number_of k.name == number_of f.name) ≡ false → is_found (plain_functions fs) (FunctionOf f ts) ≡ false → is_found (plain_function k vs (plain_functions fs)) (FunctionOf f ts) ≡ false
      step [] e rest = or_from (same_copy (FunctionOf k NoForm) (FunctionOf f ts)) (is_found (plain_functions fs) (FunctionOf f ts)) (and_left (number_of k.name == number_of f.name) (same_forms NoForm ts) e) rest
      step (v ∷ vs) e rest = rest

-- a type is no function
data_no_function : (fs : List GenericFunctionTree) (d : GenericDataTree) (ts : Forms) → is_found (plain_functions fs) (DataOf d ts) ≡ false
data_no_function [] d ts = refl
data_no_function (k ∷ fs) d ts = step k.variables (data_no_function fs d ts) where
  step : (vs : List Ident) → is_found (plain_functions fs) (DataOf d ts) ≡ false → is_found (plain_function k vs (plain_functions fs)) (DataOf d ts) ≡ false
  step [] rest = rest
  step (v ∷ vs) rest = rest

-- a type is none of the plain types of other names, and no function
data_out : (ds : List GenericDataTree) (fs : List GenericFunctionTree) (d : GenericDataTree) (ts : Forms) → place_of (map (λ (h : GenericDataTree). number_of h.name) ds) (number_of d.name) ≡ None → is_found (plain_datas ds ++ plain_functions fs) (DataOf d ts) ≡ false
data_out [] fs d ts h = data_no_function fs d ts
data_out (k ∷ ds) fs d ts h =
    let both = not_same (number_of k.name == number_of d.name) (place_of (map (λ (h : GenericDataTree). number_of h.name) ds) (number_of d.name)) h in
    step k.variables both.0 (data_out ds fs d ts both.1) where
      step : (vs : List Ident) → (number_of k.name == number_of d.name) ≡ false → is_found (plain_datas ds ++ plain_functions fs) (DataOf d ts) ≡ false → is_found (plain_data k vs (plain_datas ds) ++ plain_functions fs) (DataOf d ts) ≡ false
      step [] e rest = or_from (same_copy (DataOf k NoForm) (DataOf d ts)) (is_found (plain_datas ds ++ plain_functions fs) (DataOf d ts)) (and_left (number_of k.name == number_of d.name) (same_forms NoForm ts) e) rest
      step (v ∷ vs) e rest = rest

functions_apart : (fs : List GenericFunctionTree) → AreDifferent (map (λ (h : GenericFunctionTree). number_of h.name) fs) → AreApart (plain_functions fs)
functions_apart [] h = tt {0}
functions_apart (f ∷ fs) h = step f.variables (function_out fs f NoForm h.0) (functions_apart fs h.1) where
  step : (vs : List Ident) → is_found (plain_functions fs) (FunctionOf f NoForm) ≡ false → AreApart (plain_functions fs) → AreApart (plain_function f vs (plain_functions fs))
  step [] e rest = (e, rest)
  step (v ∷ vs) e rest = rest

plain_apart : (ds : List GenericDataTree) (fs : List GenericFunctionTree) → AreDifferent (map (λ (h : GenericDataTree). number_of h.name) ds) → AreDifferent (map (λ (h : GenericFunctionTree). number_of h.name) fs) → AreApart (plain_datas ds ++ plain_functions fs)
plain_apart [] fs h k = functions_apart fs k
plain_apart (d ∷ ds) fs h k = step d.variables (data_out ds fs d NoForm h.0) (plain_apart ds fs h.1 k) where
  step : (vs : List Ident) → is_found (plain_datas ds ++ plain_functions fs) (DataOf d NoForm) ≡ false → AreApart (plain_datas ds ++ plain_functions fs) → AreApart (plain_data d vs (plain_datas ds) ++ plain_functions fs)
  step [] e rest = (e, rest)
  step (v ∷ vs) e rest = rest

pub length_both : (A : Type 0) (xs ys : List A) → length (xs ++ ys) ≡ length xs + length ys
length_both A [] ys = omega arith
length_both A (x ∷ xs) ys = let rest = length_both A xs ys in omega (arith, rest)

length_map : (d : GenericDataTree) (cs : List GenericConstructorTree) → length (map (row_of d) cs) ≡ length cs
length_map d [] = omega arith
length_map d (c ∷ cs) = let rest = length_map d cs in omega (arith, rest)

functions_few : (fs : List GenericFunctionTree) → (functions_in (plain_functions fs) ≤ length fs) × (constructors_in (plain_functions fs) ≡ 0)
functions_few [] = (omega arith, refl)
functions_few (f ∷ fs) = step f.variables (functions_few fs) where
  step : (vs : List Ident) → (functions_in (plain_functions fs) ≤ length fs) × (constructors_in (plain_functions fs) ≡ 0) → (functions_in (plain_function f vs (plain_functions fs)) ≤ suc (length fs)) × (constructors_in (plain_function f vs (plain_functions fs)) ≡ 0)
  step [] h = let a = h.0 in (omega (arith, a), h.1)
  step (v ∷ vs) h = let a = h.0 in (omega (arith, a), h.1)

plain_few : (ds : List GenericDataTree) (fs : List GenericFunctionTree) → (functions_in (plain_datas ds ++ plain_functions fs) ≤ length fs) × (constructors_in (plain_datas ds ++ plain_functions fs) ≤ length (rows_of ds))
plain_few [] fs = let h = functions_few fs in let e = h.1 in (h.0, omega (arith, e))
plain_few (d ∷ ds) fs =
    let e = length_both GenericRow (map (row_of d) d.constructors) (rows_of ds) in
    let f = length_map d d.constructors in
    step d.variables (plain_few ds fs) (omega (arith, e, f)) where
      step : (vs : List Ident) → (functions_in (plain_datas ds ++ plain_functions fs) ≤ length fs) × (constructors_in (plain_datas ds ++ plain_functions fs) ≤ length (rows_of ds)) →
          length (map (row_of d) d.constructors ++ rows_of ds) ≡ length d.constructors + length (rows_of ds) →
          (functions_in (plain_data d vs (plain_datas ds) ++ plain_functions fs) ≤ length fs) × (constructors_in (plain_data d vs (plain_datas ds) ++ plain_functions fs) ≤ length (map (row_of d) d.constructors ++ rows_of ds))
      step [] h e = let a = h.1 in (h.0, omega (arith, a, e))
      step (v ∷ vs) h e = let a = h.1 in (h.0, omega (arith, a, e))

pub plain_good : (p : GenericProgramTree) → AllByRecursion HasGenericConstructor p.datas → IsTypedGeneric p → IsGood (globals_of_generic p) (plain_copies p)
plain_good p fine typed =
    let few = plain_few p.datas p.functions in
    let a = few.0 in
    let b = few.1 in
    let c = typed.few_constructors in
    let d = typed.few_functions in
    record {
      apart = plain_apart p.datas p.functions typed.types_differ typed.functions_differ;
      declared = declared_both (globals_of_generic p) (plain_datas p.datas) (plain_functions p.functions)
          (datas_declared (globals_of_generic p) p.datas (data_own p.datas p.datas (λ x d e. e) typed.types_differ) fine)
          (functions_declared (globals_of_generic p) p.functions (function_own p.functions p.functions (λ x f e. e) typed.functions_differ));
      few = and_from (nat_lt (constructors_in (plain_copies p)) 201) (nat_lt (functions_in (plain_copies p)) 1001)
          (lt-ltb (constructors_in (plain_copies p)) 201 (omega (arith, b, c))) (lt-ltb (functions_in (plain_copies p)) 1001 (omega (arith, a, d)));
    }

-- The whole walk

pub plain_walked : (p : GenericProgramTree) (next extra : List Copy) → next ≡ plain_copies p ++ extra → AreAnswered (globals_of_generic p) next (copies_asks (rows_of p.datas) (plain_copies p)) → AreWalked (globals_of_generic p) next (length (plain_copies p))
plain_walked p next extra is h j c below at =
    each_answered (globals_of_generic p) next (plain_copies p) j c h (sym (get_front (plain_copies p) extra j below) ∙ ap (λ (u : List Copy). slice_get u j) (sym is) ∙ at)

whole_step : (p : GenericProgramTree) (found : List Copy) (r : Result (List Copy) Span) → AllByRecursion HasGenericConstructor p.datas → IsTypedGeneric p →
    add_asks (globals_of_generic p) (plain_copies p) (copies_asks (globals_of_generic p).rows (plain_copies p) ++ main_asks p) ≡ r →
    with_found r (λ found. walk 1201 (globals_of_generic p) found (length (plain_copies p))) ≡ Ok found → IsClosed p found × Goes (globals_of_generic p) (plain_copies p) found
whole_step p found (Err span) fine typed is e = absurd cc
whole_step p found (Ok middle) fine typed is e =
    let g = globals_of_generic p in
    let first = asks_go g (copies_asks (rows_of p.datas) (plain_copies p) ++ main_asks p) (plain_copies p) middle fine (plain_good p fine typed) is in
    let both = answered_split g middle (copies_asks (rows_of p.datas) (plain_copies p)) (main_asks p) first.1 in
    let rest = walk_goes 1201 g middle found (length (plain_copies p)) fine (omega arith) (first.0).good (plain_walked p middle (first.0).extra (first.0).is both.0) e in (
      record {
        good = (rest.0).good;
        each = rest.1;
        main = subst (λ (u : List Copy). AreAnswered g u (main_asks p)) (sym (rest.0).is) (answered_more g middle (rest.0).extra (main_asks p) both.1);
      },
      goes_on g (plain_copies p) middle found first.0 rest.0,
    )

-- the copies of a typed program are closed, and the plain declarations are the first of them
pub copies_closed : (p : GenericProgramTree) (found : List Copy) → AllByRecursion HasGenericConstructor p.datas → IsTypedGeneric p → copies_of p ≡ Ok found → IsClosed p found × Goes (globals_of_generic p) (plain_copies p) found
copies_closed p found fine typed e =
    whole_step p found (add_asks (globals_of_generic p) (plain_copies p) (copies_asks (globals_of_generic p).rows (plain_copies p) ++ main_asks p)) fine typed refl e
