-- Copies are at types that are among the copies.
use Rattle.std.proofs.Common.{◌≡◌, ℕ, zero, suc, ◌+◌, Bool, true, false, List, [], ◌∷◌, ◌++◌, map, length, Option, Some, None, refl, sym, ap, ◌∙◌, subst, arith, ◌⊎◌, inl, inr, ⊎_elim}
use Rattle.std.specs.Prelude.{slice_get, Result, Ok, Err}
use Rattle.std.specs.List.{AllByRecursion}
use Rattle.std.proofs.lemmas.Option.{same_Some}
use Rattle.gib_base.specs.declared.Span.{Span}
use Rattle.gib_syntax.specs.declared.tree.Ident.{Ident}
use Rattle.gib_syntax.specs.Declarations.{number_of}
use Rattle.gib_syntax.specs.Typing.{Globals}
use Rattle.gib_syntax.specs.Results.{Results, One, map_results}
use Rattle.gib_syntax.specs.Forms.{WrittenType, Form, Forms, WholeForm, TruthForm, VariableForm, DataForm, NoForm, MoreForms, Meant, formed, assign}
use Rattle.gib_syntax.specs.GenericTree.{GenericExpression, GenericConstructorTree, GenericDataTree, GenericParameterTree, GenericFunctionTree, GenericProgramTree, GenericRow, row_of, rows_of, GenericGlobals, globals_of_generic, generic_named, data_named}
use Rattle.gib_syntax.specs.GenericFine.{HasGenericConstructor}
use Rattle.gib_syntax.specs.GenericTyping.{variable_numbers, IsTypedGenericFunction, IsKnownData, IsTypedGeneric}
use Rattle.gib_mono.specs.Copying.{Naming, parameter_scope}
use Rattle.gib_mono.specs.Copied.{Item, IsItem, IsHere, AreHere}
use Rattle.gib_mono.specs.Walk.{Ask, Copy, DataOf, FunctionOf, is_found, are_few, add_few, add_new, add_short, add_ask, with_found, add_asks, walk_one, walk, written_asks, results_asks, types_asks, asks, function_asks, copy_asks, copies_asks, main_asks, data_asked, function_asked, asked, plain_data, plain_datas, plain_function, plain_functions, plain_copies, copies_of, type_items}
use Rattle.gib_types.specs.Form.{has_long}
use Rattle.gib_mono.specs.Closed.{AreAnswered, types_of, IsDeclared, IsGood}
use Rattle.gib_mono.proofs.Closing.{asks_go, AreWalked, one_more, same_ok, data_found, data_own}
use Rattle.gib_mono.proofs.Copies.{answered_split, plain_good, plain_walked}
use Rattle.gib_mono.proofs.Running.{generic_found, body_put}
use Rattle.gib_mono.proofs.Asking.{MeantHere, assign_here, results_types_here, AllAskHere, here_both, RowsDeclared, uses_asked, types_here, constructors_here, parameters_known}

-- Lists

pub get_more_any : (A : Type 0) (xs ys : List A) (i : ℕ) (x : A) → slice_get xs i ≡ Some x → slice_get (xs ++ ys) i ≡ Some x
get_more_any A [] ys i x h = absurd cc
get_more_any A (y ∷ xs) ys zero x h = h
get_more_any A (y ∷ xs) ys (suc i) x h = get_more_any A xs ys i x h

pub get_behind : (A : Type 0) (xs ys : List A) (i : ℕ) (x : A) → slice_get ys i ≡ Some x → slice_get (xs ++ ys) (length xs + i) ≡ Some x
get_behind A [] ys i x h = let e : 0 + i ≡ i = omega arith in ap (slice_get ys) e ∙ h
get_behind A (y ∷ xs) ys i x h = let e : suc (length xs) + i ≡ suc (length xs + i) = omega arith in ap (slice_get (y ∷ (xs ++ ys))) e ∙ get_behind A xs ys i x h

pub get_split : (A : Type 0) (xs ys : List A) (i : ℕ) (x : A) → slice_get (xs ++ ys) i ≡ Some x → (slice_get xs i ≡ Some x) ⊎ ((j : ℕ) × (slice_get ys j ≡ Some x) × (i ≡ length xs + j))
get_split A [] ys i x h = inr (i, h, omega arith)
get_split A (y ∷ xs) ys zero x h = inl h
get_split A (y ∷ xs) ys (suc i) x h =
    ⊎_elim (λ (a : slice_get xs i ≡ Some x). inl a) (λ (b : (j : ℕ) × (slice_get ys j ≡ Some x) × (i ≡ length xs + j)). let e = b.2 in inr (b.0, b.1, omega (arith, e))) (get_split A xs ys i x h)

pub map_found : (A B : Type 0) (f : A → B) (xs : List A) (i : ℕ) (y : B) → slice_get (map f xs) i ≡ Some y → (x : A) × (slice_get xs i ≡ Some x) × (y ≡ f x)
map_found A B f [] i y h = absurd cc
map_found A B f (x ∷ xs) zero y h = (x, refl, sym (same_Some (f x) y h))
map_found A B f (x ∷ xs) (suc i) y h = map_found A B f xs i y h

-- Rows

-- a row is that of a constructor of a declared type
pub record IsRowOf (datas : List GenericDataTree) (row : GenericRow) : Type 0 where
  pub decl : GenericDataTree
  pub place : ℕ
  pub constructor : GenericConstructorTree
  pub own : data_named datas (number_of decl.name) ≡ Some decl
  pub there : slice_get decl.constructors place ≡ Some constructor
  pub is : row ≡ row_of decl constructor

pub row_found : (datas ds : List GenericDataTree) (c : ℕ) (row : GenericRow) → AllByRecursion (λ (d : GenericDataTree). data_named datas (number_of d.name) ≡ Some d) ds → slice_get (rows_of ds) c ≡ Some row → IsRowOf datas row
row_found datas [] c row own h = absurd cc
row_found datas (d ∷ ds) c row own h =
    ⊎_elim (λ (a : slice_get (map (row_of d) d.constructors) c ≡ Some row).
    let k = map_found GenericConstructorTree GenericRow (row_of d) d.constructors c row a in record { decl = d; place = c; constructor = k.0; own = own.0; there = k.1; is = k.2 })
    (λ (b : (j : ℕ) × (slice_get (rows_of ds) j ≡ Some row) × (c ≡ length (map (row_of d) d.constructors) + j)). row_found datas ds b.0 row own.1 b.1)
    (get_split GenericRow (map (row_of d) d.constructors) (rows_of ds) c row h)

pub rows_are : (p : GenericProgramTree) → IsTypedGeneric p → (c : ℕ) (row : GenericRow) → slice_get (rows_of p.datas) c ≡ Some row → IsRowOf p.datas row
rows_are p typed c row h = row_found p.datas p.datas c row (data_own p.datas p.datas (λ x d e. e) typed.types_differ) h

pub rows_declared : (p : GenericProgramTree) → IsTypedGeneric p → RowsDeclared (globals_of_generic p)
rows_declared p typed c row h =
    let r = rows_are p typed c row h in
    (r.decl, subst (λ (u : GenericRow). data_named p.datas u.owner ≡ Some r.decl) (sym r.is) r.own)

-- Types that are here stay so

items_more : (found extra : List Copy) → type_items (found ++ extra) ≡ type_items found ++ type_items extra
items_more [] extra = refl
items_more (DataOf d ts ∷ cs) extra = ap (λ (u : List Item). record { name = number_of d.name; types = ts } ∷ u) (items_more cs extra)
items_more (FunctionOf f ts ∷ cs) extra = items_more cs extra

item_more : (found extra : List Copy) (x : ℕ) (ts : Forms) → IsItem (type_items found) x ts → IsItem (type_items (found ++ extra)) x ts
item_more found extra x ts h =
    (h.0, ap (λ (u : List Item). slice_get u h.0) (items_more found extra) ∙ get_more_any Item (type_items found) (type_items extra) h.0 (record { name = x; types = ts }) h.1)

mutual
  here_more : (found extra : List Copy) (f : Form) → IsHere (type_items found) f → IsHere (type_items (found ++ extra)) f
  here_more found extra WholeForm h = tt {0}
  here_more found extra TruthForm h = tt {0}
  here_more found extra (VariableForm x) h = absurd h
  here_more found extra (DataForm t ts) h = (item_more found extra t ts h.0, all_here_more found extra ts h.1)

  all_here_more : (found extra : List Copy) (fs : Forms) → AreHere (type_items found) fs → AreHere (type_items (found ++ extra)) fs
  all_here_more found extra NoForm h = tt {0}
  all_here_more found extra (MoreForms f fs) h = (here_more found extra f h.0, all_here_more found extra fs h.1)

-- each copy is at types that are here
abbrev pub TypesHere : List Item → List Copy → Type 0
TypesHere items cs = AllByRecursion (λ (c : Copy). AreHere items (types_of c)) cs

types_here_more : (found extra cs : List Copy) → TypesHere (type_items found) cs → TypesHere (type_items (found ++ extra)) cs
types_here_more found extra [] h = tt {0}
types_here_more found extra (c ∷ cs) h = (all_here_more found extra (types_of c) h.0, types_here_more found extra cs h.1)

pub types_here_at : (items : List Item) (cs : List Copy) (i : ℕ) (c : Copy) → TypesHere items cs → slice_get cs i ≡ Some c → AreHere items (types_of c)
types_here_at items [] i c h e = absurd cc
types_here_at items (b ∷ bs) zero c h e = subst (λ (u : Copy). AreHere items (types_of u)) (same_Some b c e) h.0
types_here_at items (b ∷ bs) (suc i) c h e = types_here_at items bs i c h.1 e

pub declared_at : (g : GenericGlobals) (cs : List Copy) (i : ℕ) (c : Copy) → AllByRecursion (IsDeclared g) cs → slice_get cs i ≡ Some c → IsDeclared g c
declared_at g [] i c h e = absurd cc
declared_at g (b ∷ bs) zero c h e = subst (IsDeclared g) (same_Some b c e) h.0
declared_at g (b ∷ bs) (suc i) c h e = declared_at g bs i c h.1 e

-- The uses of a copy are at types that are here

-- any copy will do where only uses are asked after
no_naming : Naming
no_naming = record { types = λ x ts. x; constructors = λ x ts. x; functions = λ x ts. x }

no_globals : Globals
no_globals = record { table = record { types = []; rows = [] }; functions = [] }

function_uses : (p : GenericProgramTree) (found : List Copy) (variables : List Ident) (parameters : List GenericParameterTree) (result : Results WrittenType) (body : GenericExpression) (m : Meant) → IsTypedGeneric p → IsTypedGenericFunction (globals_of_generic p) variables parameters result body →
    MeantHere (type_items found) m → AreAnswered (globals_of_generic p) found (function_asks (rows_of p.datas) m parameters result body) → AllAskHere (type_items found) (function_asks (rows_of p.datas) m parameters result body)
function_uses p found variables parameters result body m typed own here h =
    let g = globals_of_generic p in
    let first = answered_split g found (types_asks m (map (λ (q : GenericParameterTree). q.ty) parameters)) (results_asks m result ++ asks g.rows m body) h in
    let second = answered_split g found (results_asks m result) (asks g.rows m body) first.1 in
    let is = body_put g variables parameters result body m own in
    here_both (type_items found) (types_asks m (map (λ (q : GenericParameterTree). q.ty) parameters)) (results_asks m result ++ asks g.rows m body)
    (types_here g found (variable_numbers variables) m here (map (λ (q : GenericParameterTree). q.ty) parameters) (parameters_known p.datas (variable_numbers variables) parameters own.known) first.0).1
    (here_both (type_items found) (results_asks m result) (asks g.rows m body)
    (results_types_here g found (variable_numbers variables) m here result own.known_result second.0).1
    (uses_asked g no_naming no_globals (λ n. n) found (rows_declared p typed) (variable_numbers variables) m here body (map_results (formed m) result) (parameter_scope m parameters) is.typed second.1).1)

copy_uses : (p : GenericProgramTree) (found : List Copy) (c : Copy) → IsTypedGeneric p → IsDeclared (globals_of_generic p) c → AreHere (type_items found) (types_of c) →
    AreAnswered (globals_of_generic p) found (copy_asks (rows_of p.datas) c) → AllAskHere (type_items found) (copy_asks (rows_of p.datas) c)
copy_uses p found (DataOf d ts) typed own here h =
    (constructors_here (globals_of_generic p) found (variable_numbers d.variables) (assign d.variables ts) (assign_here (type_items found) d.variables ts here) d.constructors
    ((data_found (IsKnownData p.datas) p.datas (number_of d.name) d typed.datas own.0).1) h).1
copy_uses p found (FunctionOf f ts) typed own here h =
    function_uses p found f.variables f.parameters f.result f.body (assign f.variables ts) typed (generic_found (globals_of_generic p) p.functions (number_of f.name) f typed.functions own) (assign_here (type_items found) f.variables ts here) h

copies_uses : (p : GenericProgramTree) (found cs : List Copy) → IsTypedGeneric p → AllByRecursion (IsDeclared (globals_of_generic p)) cs → TypesHere (type_items found) cs →
    AreAnswered (globals_of_generic p) found (copies_asks (rows_of p.datas) cs) → AllAskHere (type_items found) (copies_asks (rows_of p.datas) cs)
copies_uses p found [] typed own here h = tt {0}
copies_uses p found (c ∷ cs) typed own here h =
    let both = answered_split (globals_of_generic p) found (copy_asks (rows_of p.datas) c) (copies_asks (rows_of p.datas) cs) h in
    here_both (type_items found) (copy_asks (rows_of p.datas) c) (copies_asks (rows_of p.datas) cs) (copy_uses p found c typed own.0 here.0 both.0) (copies_uses p found cs typed own.1 here.1 both.1)

-- Copies that are added are at types of uses

asked_types : (items : List Item) (g : GenericGlobals) (b : Bool) (x : ℕ) (ts : Forms) (c : Copy) → asked g b x ts ≡ Some c → AreHere items ts → AreHere items (types_of c)
asked_types items g true x ts c e h = step (generic_named g.functions x) e where
  step : (o : Option GenericFunctionTree) → function_asked o ts ≡ Some c → AreHere items (types_of c)
  step None e = absurd cc
  step (Some f) e = subst (λ (u : Copy). AreHere items (types_of u)) (same_Some (FunctionOf f ts) c e) h
asked_types items g false x ts c e h = step (data_named g.datas x) e where
  step : (o : Option GenericDataTree) → data_asked o ts ≡ Some c → AreHere items (types_of c)
  step None e = absurd cc
  step (Some d) e = subst (λ (u : Copy). AreHere items (types_of u)) (same_Some (DataOf d ts) c e) h

last_here : (items : List Item) (cs : List Copy) (c : Copy) → TypesHere items cs → AreHere items (types_of c) → TypesHere items (cs ++ c ∷ [])
last_here items [] c h k = (k, tt {0})
last_here items (b ∷ bs) c h k = (h.0, last_here items bs c h.1 k)

few_here : (items : List Item) (found next : List Copy) (c : Copy) (span : Span) (b : Bool) → TypesHere items found → AreHere items (types_of c) → add_few found c span b ≡ Ok next → TypesHere items next
few_here items found next c span true h k e = subst (TypesHere items) (same_ok (found ++ c ∷ []) next e) (last_here items found c h k)
few_here items found next c span false h k e = absurd cc

new_here : (items : List Item) (found next : List Copy) (c : Copy) (span : Span) (b : Bool) → TypesHere items found → AreHere items (types_of c) → add_new found c span b ≡ Ok next → TypesHere items next
new_here items found next c span true h k e = subst (TypesHere items) (same_ok found next e) h
new_here items found next c span false h k e = few_here items found next c span (are_few (found ++ c ∷ [])) h k e

short_here : (items : List Item) (found next : List Copy) (o : Option Copy) (span : Span) (b : Bool) → TypesHere items found → ((c : Copy) → o ≡ Some c → AreHere items (types_of c)) → add_short found o span b ≡ Ok next → TypesHere items next
short_here items found next None span true h k e = absurd cc
short_here items found next (Some c) span true h k e = absurd cc
short_here items found next None span false h k e = subst (TypesHere items) (same_ok found next e) h
short_here items found next (Some c) span false h k e = new_here items found next c span (is_found found c) h (k c refl) e

asks_step : (items : List Item) (g : GenericGlobals) (as' : List Ask) (next : List Copy) (r : Result (List Copy) Span) → ((middle : List Copy) → r ≡ Ok middle → TypesHere items middle) →
    ((middle : List Copy) → TypesHere items middle → add_asks g middle as' ≡ Ok next → TypesHere items next) → with_found r (λ u. add_asks g u as') ≡ Ok next → TypesHere items next
asks_step items g as' next (Err span) first rest e = absurd cc
asks_step items g as' next (Ok middle) first rest e = rest middle (first middle refl) e

asks_here : (items : List Item) (g : GenericGlobals) (as' : List Ask) (found next : List Copy) → TypesHere items found → AllAskHere items as' → add_asks g found as' ≡ Ok next → TypesHere items next
asks_here items g [] found next h k e = subst (TypesHere items) (same_ok found next e) h
asks_here items g (a ∷ as') found next h k e =
    asks_step items g as' next (add_ask g found a)
    (λ middle is. short_here items found middle (asked g a.function a.name a.types) a.span (has_long a.types) h (λ c there. asked_types items g a.function a.name a.types c there k.0) is)
    (λ middle here d. asks_here items g as' middle next here k.1 d) e

-- The walk

walk_step_here : (n : ℕ) (p : GenericProgramTree) (found next : List Copy) (i : ℕ) (c : Copy) (r : Result (List Copy) Span) → AllByRecursion HasGenericConstructor p.datas → IsTypedGeneric p → IsGood (globals_of_generic p) found → AreWalked (globals_of_generic p) found i → TypesHere (type_items found) found → slice_get found i ≡ Some c →
    ((middle : List Copy) → IsGood (globals_of_generic p) middle → AreWalked (globals_of_generic p) middle (suc i) → TypesHere (type_items middle) middle → walk n (globals_of_generic p) middle (suc i) ≡ Ok next → TypesHere (type_items next) next) →
    add_asks (globals_of_generic p) found (copy_asks (rows_of p.datas) c) ≡ r → with_found r (λ u. walk n (globals_of_generic p) u (suc i)) ≡ Ok next → TypesHere (type_items next) next
walk_step_here n p found next i c (Err span) fine typed good walked here at go is e = absurd cc
walk_step_here n p found next i c (Ok middle) fine typed good walked here at go is e =
    let g = globals_of_generic p in
    let first = asks_go g (copy_asks (rows_of p.datas) c) found middle fine good is in
    let moved : TypesHere (type_items middle) found = subst (λ (u : List Copy). TypesHere (type_items u) found) (sym (first.0).is) (types_here_more found (first.0).extra found here) in
    let own = declared_at g found i c good.declared at in
    let uses = copy_uses p middle c typed own (types_here_at (type_items middle) found i c moved at) first.1 in
    go middle (first.0).good (one_more g found middle (first.0).extra i c at (first.0).is walked first.1)
    (asks_here (type_items middle) g (copy_asks (rows_of p.datas) c) found middle moved uses is) e

walk_turn_here : (n : ℕ) (p : GenericProgramTree) (found next : List Copy) (i : ℕ) (o : Option Copy) → AllByRecursion HasGenericConstructor p.datas → IsTypedGeneric p → IsGood (globals_of_generic p) found → AreWalked (globals_of_generic p) found i → TypesHere (type_items found) found → slice_get found i ≡ o →
    ((middle : List Copy) → IsGood (globals_of_generic p) middle → AreWalked (globals_of_generic p) middle (suc i) → TypesHere (type_items middle) middle → walk n (globals_of_generic p) middle (suc i) ≡ Ok next → TypesHere (type_items next) next) →
    walk_one (globals_of_generic p) found o (λ u. walk n (globals_of_generic p) u (suc i)) ≡ Ok next → TypesHere (type_items next) next
walk_turn_here n p found next i None fine typed good walked here at go e = subst (λ (u : List Copy). TypesHere (type_items u) u) (same_ok found next e) here
walk_turn_here n p found next i (Some c) fine typed good walked here at go e = walk_step_here n p found next i c (add_asks (globals_of_generic p) found (copy_asks (rows_of p.datas) c)) fine typed good walked here at go refl e

walk_here : (n : ℕ) (p : GenericProgramTree) (found next : List Copy) (i : ℕ) → AllByRecursion HasGenericConstructor p.datas → IsTypedGeneric p → IsGood (globals_of_generic p) found → AreWalked (globals_of_generic p) found i → TypesHere (type_items found) found →
    walk n (globals_of_generic p) found i ≡ Ok next → TypesHere (type_items next) next
walk_here zero p found next i fine typed good walked here e = subst (λ (u : List Copy). TypesHere (type_items u) u) (same_ok found next e) here
walk_here (suc n) p found next i fine typed good walked here e =
    walk_turn_here n p found next i (slice_get found i) fine typed good walked here refl (λ middle k w h d. walk_here n p middle next (suc i) fine typed k w h d) e

-- plain declarations have no types
plain_datas_here : (items : List Item) (ds : List GenericDataTree) (rest : List Copy) → TypesHere items rest → TypesHere items (plain_datas ds ++ rest)
plain_datas_here items [] rest h = h
plain_datas_here items (d ∷ ds) rest h = step d.variables (plain_datas_here items ds rest h) where
  step : (vs : List Ident) → TypesHere items (plain_datas ds ++ rest) → TypesHere items (plain_data d vs (plain_datas ds) ++ rest)
  step [] k = (tt {0}, k)
  step (v ∷ vs) k = k

plain_functions_here : (items : List Item) (fs : List GenericFunctionTree) → TypesHere items (plain_functions fs)
plain_functions_here items [] = tt {0}
plain_functions_here items (f ∷ fs) = step f.variables (plain_functions_here items fs) where
  step : (vs : List Ident) → TypesHere items (plain_functions fs) → TypesHere items (plain_function f vs (plain_functions fs))
  step [] k = (tt {0}, k)
  step (v ∷ vs) k = k

pub nothing_meant : (items : List Item) → MeantHere items (assign [] NoForm)
nothing_meant items x = tt {0}

whole_here : (p : GenericProgramTree) (found : List Copy) (r : Result (List Copy) Span) → AllByRecursion HasGenericConstructor p.datas → IsTypedGeneric p →
    add_asks (globals_of_generic p) (plain_copies p) (copies_asks (globals_of_generic p).rows (plain_copies p) ++ main_asks p) ≡ r →
    with_found r (λ found. walk 1201 (globals_of_generic p) found (length (plain_copies p))) ≡ Ok found → TypesHere (type_items found) found
whole_here p found (Err span) fine typed is e = absurd cc
whole_here p found (Ok middle) fine typed is e =
    let g = globals_of_generic p in
    let good = plain_good p fine typed in
    let first = asks_go g (copies_asks (rows_of p.datas) (plain_copies p) ++ main_asks p) (plain_copies p) middle fine good is in
    let both = answered_split g middle (copies_asks (rows_of p.datas) (plain_copies p)) (main_asks p) first.1 in
    let plain : TypesHere (type_items middle) (plain_copies p) = plain_datas_here (type_items middle) p.datas (plain_functions p.functions) (plain_functions_here (type_items middle) p.functions) in
    let uses = here_both (type_items middle) (copies_asks (rows_of p.datas) (plain_copies p)) (main_asks p) (copies_uses p middle (plain_copies p) typed good.declared plain both.0)
    (function_uses p middle [] (p.main.parameter ∷ []) (One p.main.result) p.main.body (assign [] NoForm) typed typed.main (nothing_meant (type_items middle)) both.1) in
    walk_here 1201 p middle found (length (plain_copies p)) fine typed (first.0).good (plain_walked p middle (first.0).extra (first.0).is both.0)
    (asks_here (type_items middle) g (copies_asks (rows_of p.datas) (plain_copies p) ++ main_asks p) (plain_copies p) middle plain uses is) e

pub copies_here : (p : GenericProgramTree) (found : List Copy) → AllByRecursion HasGenericConstructor p.datas → IsTypedGeneric p → copies_of p ≡ Ok found → TypesHere (type_items found) found
copies_here p found fine typed e =
    whole_here p found (add_asks (globals_of_generic p) (plain_copies p) (copies_asks (globals_of_generic p).rows (plain_copies p) ++ main_asks p)) fine typed refl e
