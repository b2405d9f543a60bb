-- The rules of type declarations, and typing.
use Rattle.std.proofs.Common.{◌≡◌, ℕ, ◌+◌, ◌<◌, ◌≤◌, true, ltb, List, [], ◌∷◌, ◌++◌, map, length, Option, Some, None, Ok, refl, sym, ap, ◌∙◌, subst, arith}
use Rattle.std.proofs.lemmas.Bool.{ltb-true, lt-ltb}
use Rattle.std.proofs.lemmas.List.{append-nil, map-append, length-append, length-map}
use Rattle.std.proofs.lemmas.Option.{slice_get_past}
use Rattle.std.specs.Prelude.{is_none, slice_get}
use Rattle.std.specs.List.{AllByRecursion}
use Rattle.gib_syntax.specs.declared.tree.Ident.{Ident}
use Rattle.gib_syntax.specs.Declarations.{number_of, place_of, AreDifferent}
use Rattle.gib_syntax.specs.Forms.{WrittenType, written_place}
use Rattle.gib_syntax.specs.GenericTree.{GenericConstructorTree, GenericDataTree, GenericParameterTree, GenericFunctionTree, GenericProgramTree, GenericRow, row_of, rows_of}
use Rattle.gib_syntax.specs.GenericTyping.{IsKnownType, variable_numbers, AreTypeVariables, HasKnownGenericFields, IsKnownData}
use Rattle.gib_check.specs.declared.fault.Kind.TheVariants as kind
use Rattle.gib_check.specs.Faults.{and_then, allowed}
use Rattle.gib_check.specs.FirstFault.{new_name, fewer, check_variables, no_ninth, few_fields, check_constructors, check_datas, check_types, check_constructor_fields, check_fields}
use Rattle.gib_check.proofs.Different.{different_push, new_of, snoc, none_short, none_front}
use Rattle.gib_check.proofs.Steps.{Holds, holds_ok, holds_err, then_holds, allowed_holds, known_holds}
use Rattle.gib_check.proofs.Complete.{Yields, yields, yields_ok, then_yields, known_ok}

abbrev pub constructor_number : GenericConstructorTree → ℕ
constructor_number c = number_of c.name

abbrev pub data_number : GenericDataTree → ℕ
data_number d = number_of d.name

abbrev pub function_number : GenericFunctionTree → ℕ
function_number f = number_of f.name

abbrev pub parameter_number : GenericParameterTree → ℕ
parameter_number q = number_of q.name

-- The names of all constructors.
abbrev pub names_in : List GenericDataTree → List ℕ
names_in [] = []
names_in (d ∷ ds) = map constructor_number d.constructors ++ names_in ds

abbrev IsShort : GenericConstructorTree → Type 0
IsShort c = length c.fields ≤ 8

abbrev AreShort : GenericDataTree → Type 0
AreShort d = AllByRecursion IsShort d.constructors

abbrev HasVariables : GenericDataTree → Type 0
HasVariables d = AreTypeVariables d.variables

none_is : (o : Option ℕ) → is_none o ≡ true → o ≡ None
none_is None e = refl
none_is (Some x) e = absurd cc

pub new_name_holds : (names : List ℕ) (x : Ident) → Holds (new_name names x) (λ _. place_of names (number_of x) ≡ None)
new_name_holds names x = record { by = λ u e. none_is (place_of names (number_of x)) ((allowed_holds (is_none (place_of names (number_of x))) kind.Twice x.span (tt {0})).by u e).0 }

pub new_name_ok : (names : List ℕ) (x : Ident) → place_of names (number_of x) ≡ None → new_name names x ≡ Ok (tt {0})
new_name_ok names x h = ap (λ (o : Option ℕ). allowed (is_none o) kind.Twice x.span (tt {0})) h

pub fewer_holds : (most : ℕ) (names : List ℕ) (x : Ident) → Holds (fewer most names x) (λ _. length names < most)
fewer_holds most names x = record { by = λ u e. ltb-true (length names) most ((allowed_holds (ltb (length names) most) kind.Limit x.span (tt {0})).by u e).0 }

pub fewer_ok : (most : ℕ) (names : List ℕ) (x : Ident) → length names < most → fewer most names x ≡ Ok (tt {0})
fewer_ok most names x h = ap (λ b. allowed b kind.Limit x.span (tt {0})) (lt-ltb (length names) most h)

no_ninth_holds : (o : Option WrittenType) → Holds (no_ninth o) (λ _. o ≡ None)
no_ninth_holds None = holds_ok (tt {0}) refl
no_ninth_holds (Some a) = holds_err (record { kind = kind.Limit; span = written_place a })

few_fields_holds : (fields : List WrittenType) → Holds (few_fields fields) (λ _. length fields ≤ 8)
few_fields_holds fields = record { by = λ u e. none_short fields 8 ((no_ninth_holds (slice_get fields 8)).by u e) }

few_fields_ok : (fields : List WrittenType) → length fields ≤ 8 → few_fields fields ≡ Ok (tt {0})
few_fields_ok fields h = ap no_ninth (slice_get_past fields 8 h)

pub long_push : (names : List ℕ) (x : ℕ) → length (names ++ x ∷ []) ≡ length names + 1
long_push names x = length-append names (x ∷ []) ∙ omega arith

-- Type variables.
pub record VariablesHold (names : List ℕ) (vs : List Ident) : Type 0 where
  pub differ : AreDifferent names → AreDifferent (names ++ variable_numbers vs)
  pub few : length names ≤ 8 → length (names ++ variable_numbers vs) ≤ 8

pub variables_hold : (names : List ℕ) (vs : List Ident) → Holds (check_variables names vs) (λ _. VariablesHold names vs)
variables_hold names [] =
    holds_ok (tt {0}) (record {
      differ = λ h. subst AreDifferent (sym (append-nil names)) h;
      few = λ h. subst (λ (z : List ℕ). length z ≤ 8) (sym (append-nil names)) h;
    })
variables_hold names (v ∷ vs) =
    then_holds (new_name_holds names v) (λ _ p. then_holds (fewer_holds 8 names v) (λ _ l.
    record {
      by = λ u e. (let o = (variables_hold (names ++ number_of v ∷ []) vs).by u e in
          let same = sym (snoc names (variable_numbers vs) (number_of v)) in
          record {
            differ = λ d. subst AreDifferent same (o.differ (different_push names (number_of v) d p));
            few = λ d. subst (λ (z : List ℕ). length z ≤ 8) same (o.few (let g = long_push names (number_of v) in omega (arith, g, l)));
          });
    }))

pub are_variables : (vs : List Ident) → VariablesHold [] vs → AreTypeVariables vs
are_variables vs h = (let few = h.few (omega arith) in let long = length-map vs number_of in omega (arith, few, long), h.differ tt)

variables_ok : (names : List ℕ) (vs : List Ident) → AreDifferent (names ++ variable_numbers vs) → length (names ++ variable_numbers vs) ≤ 8 → check_variables names vs ≡ Ok (tt {0})
variables_ok names [] d l = refl
variables_ok names (v ∷ vs) d l =
    let k = length-append names (number_of v ∷ variable_numbers vs) in
    let e = snoc names (variable_numbers vs) (number_of v) in
    let all : Yields (check_variables names (v ∷ vs)) (λ _. Unit {0}) =
    then_yields (yields (tt {0}) (new_name_ok names v (new_of names (variable_numbers vs) (number_of v) d))) (λ _ _.
    then_yields (yields (tt {0}) (fewer_ok 8 names v (omega (arith, k, l)))) (λ _ _.
    record { value = tt {0}; is = variables_ok (names ++ number_of v ∷ []) vs (subst AreDifferent e d) (subst (λ (z : List ℕ). length z ≤ 8) e l); so = tt })) in
    all.is

pub type_variables_ok : (vs : List Ident) → AreTypeVariables vs → check_variables [] vs ≡ Ok (tt {0})
type_variables_ok vs h = variables_ok [] vs h.1 (let long = length-map vs number_of in let few = h.0 in omega (arith, few, long))

-- Constructors of a type.
pub record ConstructorsHold (names : List ℕ) (cs : List GenericConstructorTree) (out : List ℕ) : Type 0 where
  pub is : out ≡ names ++ map constructor_number cs
  pub different : AreDifferent names → AreDifferent out
  pub few : length names ≤ 200 → length out ≤ 200
  pub short : AllByRecursion IsShort cs

constructors_hold : (names : List ℕ) (cs : List GenericConstructorTree) → Holds (check_constructors names cs) (ConstructorsHold names cs)
constructors_hold names [] = holds_ok names (record { is = sym (append-nil names); different = λ h. h; few = λ h. h; short = tt })
constructors_hold names (c ∷ cs) =
    then_holds (fewer_holds 200 names c.name) (λ _ l. then_holds (new_name_holds names c.name) (λ _ p. then_holds (few_fields_holds c.fields) (λ _ q.
    record {
      by = λ out e. (let o = (constructors_hold (names ++ number_of c.name ∷ []) cs).by out e in
          record {
            is = o.is ∙ sym (snoc names (map constructor_number cs) (number_of c.name));
            different = λ h. o.different (different_push names (number_of c.name) h p);
            few = λ h. o.few (let g = long_push names (number_of c.name) in omega (arith, g, l));
            short = (q, o.short);
          });
    })))

constructors_ok : (names : List ℕ) (cs : List GenericConstructorTree) → AreDifferent (names ++ map constructor_number cs) → length (names ++ map constructor_number cs) ≤ 200 → AllByRecursion IsShort cs → Yields (check_constructors names cs) (λ out. out ≡ names ++ map constructor_number cs)
constructors_ok names [] h l s = yields_ok names (sym (append-nil names))
constructors_ok names (c ∷ cs) h l s =
    let k = length-append names (number_of c.name ∷ map constructor_number cs) in
    let e = snoc names (map constructor_number cs) (number_of c.name) in
    then_yields (yields (tt {0}) (fewer_ok 200 names c.name (omega (arith, k, l)))) (λ _ _.
    then_yields (yields (tt {0}) (new_name_ok names c.name (new_of names (map constructor_number cs) (number_of c.name) h))) (λ _ _.
    then_yields (yields (tt {0}) (few_fields_ok c.fields s.0)) (λ _ _.
    let o = constructors_ok (names ++ number_of c.name ∷ []) cs (subst AreDifferent e h) (subst (λ (z : List ℕ). length z ≤ 200) e l) s.1 in
    record { value = o.value; is = o.is; so = o.so ∙ sym e })))

-- Types with their variables and constructors.
pub record DatasHold (types constructors : List ℕ) (ds : List GenericDataTree) : Type 0 where
  pub types_differ : AreDifferent types → AreDifferent (types ++ map data_number ds)
  pub constructors_differ : AreDifferent constructors → AreDifferent (constructors ++ names_in ds)
  pub few : length constructors ≤ 200 → length (constructors ++ names_in ds) ≤ 200
  pub short : AllByRecursion AreShort ds
  pub variables : AllByRecursion HasVariables ds

datas_hold : (types constructors : List ℕ) (ds : List GenericDataTree) → Holds (check_datas types constructors ds) (λ _. DatasHold types constructors ds)
datas_hold types constructors [] =
    holds_ok (tt {0}) (record {
      types_differ = λ h. subst AreDifferent (sym (append-nil types)) h;
      constructors_differ = λ h. subst AreDifferent (sym (append-nil constructors)) h;
      few = λ h. subst (λ (z : List ℕ). length z ≤ 200) (sym (append-nil constructors)) h;
      short = tt;
      variables = tt;
    })
datas_hold types constructors (d ∷ ds) =
    then_holds (new_name_holds types d.name) (λ _ p. then_holds (variables_hold [] d.variables) (λ _ v. then_holds (constructors_hold constructors d.constructors) (λ names c.
    record {
      by = λ u e. (let o = (datas_hold (types ++ number_of d.name ∷ []) names ds).by u e in
          let same : names ++ names_in ds ≡ constructors ++ names_in (d ∷ ds) = ap (λ z. z ++ names_in ds) c.is ∙ Rattle.std.proofs.Common.append_assoc constructors (map constructor_number d.constructors) (names_in ds) in
          record {
            types_differ = λ h. subst AreDifferent (sym (snoc types (map data_number ds) (number_of d.name))) (o.types_differ (different_push types (number_of d.name) h p));
            constructors_differ = λ h. subst AreDifferent same (o.constructors_differ (c.different h));
            few = λ h. subst (λ (z : List ℕ). length z ≤ 200) same (o.few (c.few h));
            short = (c.short, o.short);
            variables = (are_variables d.variables v, o.variables);
          });
    })))

pub different_front : (xs ys : List ℕ) → AreDifferent (xs ++ ys) → AreDifferent xs
different_front [] ys h = tt
different_front (x ∷ xs) ys h = (none_front xs ys x h.0, different_front xs ys h.1)

pub datas_ok : (types constructors : List ℕ) (ds : List GenericDataTree) → AreDifferent (types ++ map data_number ds) → AreDifferent (constructors ++ names_in ds) → length (constructors ++ names_in ds) ≤ 200 → AllByRecursion AreShort ds → AllByRecursion HasVariables ds → check_datas types constructors ds ≡ Ok (tt {0})
datas_ok types constructors [] ht hc l s v = refl
datas_ok types constructors (d ∷ ds) ht hc l s v =
    let mine = map constructor_number d.constructors in
    let split : constructors ++ (mine ++ names_in ds) ≡ (constructors ++ mine) ++ names_in ds = sym (Rattle.std.proofs.Common.append_assoc constructors mine (names_in ds)) in
    let k = length-append (constructors ++ mine) (names_in ds) in
    let l' : length ((constructors ++ mine) ++ names_in ds) ≤ 200 = subst (λ (z : List ℕ). length z ≤ 200) split l in
    let hc' : AreDifferent ((constructors ++ mine) ++ names_in ds) = subst AreDifferent split hc in
    let all : Yields (check_datas types constructors (d ∷ ds)) (λ _. Unit {0}) =
    then_yields (yields (tt {0}) (new_name_ok types d.name (new_of types (map data_number ds) (number_of d.name) ht))) (λ _ _.
    then_yields (yields (tt {0}) (type_variables_ok d.variables v.0)) (λ _ _.
    then_yields (constructors_ok constructors d.constructors (different_front (constructors ++ mine) (names_in ds) hc') (omega (arith, k, l')) s.0) (λ names c.
    record { value = tt {0}; is = datas_ok (types ++ number_of d.name ∷ []) names ds (subst AreDifferent (snoc types (map data_number ds) (number_of d.name)) ht) (subst (λ z. AreDifferent (z ++ names_in ds)) (sym c) hc') (subst (λ (z : List ℕ). length (z ++ names_in ds) ≤ 200) (sym c) l') s.1 v.1; so = tt }))) in
    all.is

-- Field types.
types_hold : (datas : List GenericDataTree) (vars : List ℕ) (fields : List WrittenType) → Holds (check_types datas vars fields) (λ _. AllByRecursion (IsKnownType datas vars) fields)
types_hold datas vars [] = holds_ok (tt {0}) tt
types_hold datas vars (w ∷ fields) = then_holds (known_holds datas vars w) (λ _ p. record { by = λ u e. (p, (types_hold datas vars fields).by u e) })

types_ok : (datas : List GenericDataTree) (vars : List ℕ) (fields : List WrittenType) → AllByRecursion (IsKnownType datas vars) fields → check_types datas vars fields ≡ Ok (tt {0})
types_ok datas vars [] h = refl
types_ok datas vars (w ∷ fields) h = ap (λ z. and_then z (λ _. check_types datas vars fields)) (known_ok datas vars w h.0) ∙ types_ok datas vars fields h.1

abbrev KnownIn : List GenericDataTree → List ℕ → GenericConstructorTree → Type 0
KnownIn datas vars c = AllByRecursion (IsKnownType datas vars) c.fields

constructor_fields_hold : (datas : List GenericDataTree) (vars : List ℕ) (cs : List GenericConstructorTree) → Holds (check_constructor_fields datas vars cs) (λ _. AllByRecursion (KnownIn datas vars) cs)
constructor_fields_hold datas vars [] = holds_ok (tt {0}) tt
constructor_fields_hold datas vars (c ∷ cs) = then_holds (types_hold datas vars c.fields) (λ _ p. record { by = λ u e. (p, (constructor_fields_hold datas vars cs).by u e) })

abbrev KnownAll : List GenericDataTree → GenericDataTree → Type 0
KnownAll datas d = AllByRecursion (KnownIn datas (variable_numbers d.variables)) d.constructors

fields_hold : (datas ds : List GenericDataTree) → Holds (check_fields datas ds) (λ _. AllByRecursion (KnownAll datas) ds)
fields_hold datas [] = holds_ok (tt {0}) tt
fields_hold datas (d ∷ ds) = then_holds (constructor_fields_hold datas (variable_numbers d.variables) d.constructors) (λ _ p. record { by = λ u e. (p, (fields_hold datas ds).by u e) })

constructor_fields_ok : (datas : List GenericDataTree) (vars : List ℕ) (cs : List GenericConstructorTree) → AllByRecursion (HasKnownGenericFields datas vars) cs → check_constructor_fields datas vars cs ≡ Ok (tt {0})
constructor_fields_ok datas vars [] h = refl
constructor_fields_ok datas vars (c ∷ cs) h = ap (λ z. and_then z (λ _. check_constructor_fields datas vars cs)) (types_ok datas vars c.fields h.0.1) ∙ constructor_fields_ok datas vars cs h.1

pub fields_ok : (datas ds : List GenericDataTree) → AllByRecursion (IsKnownData datas) ds → check_fields datas ds ≡ Ok (tt {0})
fields_ok datas [] h = refl
fields_ok datas (d ∷ ds) h = ap (λ z. and_then z (λ _. check_fields datas ds)) (constructor_fields_ok datas (variable_numbers d.variables) d.constructors h.0.1) ∙ fields_ok datas ds h.1

short_of : (datas : List GenericDataTree) (vars : List ℕ) (cs : List GenericConstructorTree) → AllByRecursion (HasKnownGenericFields datas vars) cs → AllByRecursion IsShort cs
short_of datas vars [] h = tt
short_of datas vars (c ∷ cs) h = (h.0.0, short_of datas vars cs h.1)

pub shorts_of : (datas ds : List GenericDataTree) → AllByRecursion (IsKnownData datas) ds → AllByRecursion AreShort ds
shorts_of datas [] h = tt
shorts_of datas (d ∷ ds) h = (short_of datas (variable_numbers d.variables) d.constructors h.0.1, shorts_of datas ds h.1)

pub variables_of : (datas ds : List GenericDataTree) → AllByRecursion (IsKnownData datas) ds → AllByRecursion HasVariables ds
variables_of datas [] h = tt
variables_of datas (d ∷ ds) h = (h.0.0, variables_of datas ds h.1)

join_constructors : (datas : List GenericDataTree) (vars : List ℕ) (cs : List GenericConstructorTree) → AllByRecursion IsShort cs → AllByRecursion (KnownIn datas vars) cs → AllByRecursion (HasKnownGenericFields datas vars) cs
join_constructors datas vars [] h k = tt
join_constructors datas vars (c ∷ cs) h k = ((h.0, k.0), join_constructors datas vars cs h.1 k.1)

join_datas : (datas ds : List GenericDataTree) → AllByRecursion AreShort ds → AllByRecursion HasVariables ds → AllByRecursion (KnownAll datas) ds → AllByRecursion (IsKnownData datas) ds
join_datas datas [] h v k = tt
join_datas datas (d ∷ ds) h v k = ((v.0, join_constructors datas (variable_numbers d.variables) d.constructors h.0 k.0), join_datas datas ds h.1 v.1 k.1)

-- The names of the rows.
abbrev row_number : GenericRow → ℕ
row_number r = r.name

constructor_rows : (d : GenericDataTree) (cs : List GenericConstructorTree) → map row_number (map (row_of d) cs) ≡ map constructor_number cs
constructor_rows d [] = refl
constructor_rows d (c ∷ cs) = ap (λ z. number_of c.name ∷ z) (constructor_rows d cs)

pub names_rows : (ds : List GenericDataTree) → map row_number (rows_of ds) ≡ names_in ds
names_rows [] = refl
names_rows (d ∷ ds) =
    map-append row_number (map (row_of d) d.constructors) (rows_of ds)
    ∙ (λ i. constructor_rows d d.constructors i ++ names_rows ds i)

pub rows_long : (ds : List GenericDataTree) → length (rows_of ds) ≡ length (names_in ds)
rows_long ds = sym (length-map (rows_of ds) row_number) ∙ ap (λ (z : List ℕ). length z) (names_rows ds)

-- What is typed of the data declarations.
pub record DatasTyped (p : GenericProgramTree) : Type 0 where
  pub types_differ : AreDifferent (map data_number p.datas)
  pub constructors_differ : AreDifferent (map row_number (rows_of p.datas))
  pub few : length (rows_of p.datas) ≤ 200
  pub datas : AllByRecursion (IsKnownData p.datas) p.datas

pub datas_typed : (p : GenericProgramTree) → check_datas [] [] p.datas ≡ Ok (tt {0}) → check_fields p.datas p.datas ≡ Ok (tt {0}) → DatasTyped p
datas_typed p e f =
    let h = (datas_hold [] [] p.datas).by (tt {0}) e in
    let k = (fields_hold p.datas p.datas).by (tt {0}) f in
    let long = rows_long p.datas in
    let few = h.few (omega arith) in
    record {
      types_differ = h.types_differ tt;
      constructors_differ = subst AreDifferent (sym (names_rows p.datas)) (h.constructors_differ tt);
      few = omega (arith, long, few);
      datas = join_datas p.datas p.datas h.short h.variables k;
    }
