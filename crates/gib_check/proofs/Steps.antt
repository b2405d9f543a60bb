-- What each rule says where it is kept.
use Rattle.std.proofs.Common.{◌≡◌, ℕ, zero, suc, ◌+◌, ◌<◌, ◌≤◌, ◌==◌, Bool, true, false, eqb, ltb, not, ◌&&◌, ◌||◌, List, [], ◌∷◌, length, Option, Some, None, Ok, Err, refl, sym, ap, ap₂, ◌∙◌, subst, arith}
use Rattle.std.proofs.lemmas.Bool.{eqb-true, eq-eqb, ltb-true, and_parts}
use Rattle.std.proofs.lemmas.List.{length-map}
use Rattle.std.specs.Prelude.{is_some, is_none, slice_get}
use Rattle.std.specs.List.{list_all, AllByRecursion}
use Rattle.gib_base.specs.declared.Span.{Span}
use Rattle.gib_syntax.specs.declared.tree.Ident.{Ident}
use Rattle.gib_syntax.specs.Declarations.{number_of, place_of, AreDifferent}
use Rattle.gib_syntax.specs.Results.{Results, One, Several, as_results}
use Rattle.gib_types.specs.Form.{Form, Forms, WholeForm, TruthForm, VariableForm, DataForm}
use Rattle.gib_types.specs.SameForm.{same_form}
use Rattle.gib_types.proofs.SameForms.{same_form_is}
use Rattle.gib_syntax.specs.Forms.{WrittenType, WrittenTypes, WholeAt, TruthAt, VariableAt, DataAt, NoType, MoreTypes, formed, assign, count_written}
use Rattle.gib_syntax.specs.GenericTree.{GenericDataTree, GenericRow, place_named, data_named, GenericGlobals, GenericFunctionTree}
use Rattle.gib_syntax.specs.GenericTyping.{FormScope, form_in, form_bound, BindsForms, AreNames, IsKnownType, AreKnownTypes, CoversType, field_forms, parameter_forms, result_forms}
use Rattle.gib_check.specs.declared.counts.Counts.{Counts}
use Rattle.gib_check.specs.declared.fault.Fault.{Fault}
use Rattle.gib_check.specs.declared.fault.Kind.{Kind}
use Rattle.gib_check.specs.declared.fault.Kind.TheVariants as kind
use Rattle.gib_check.specs.Faults.{Checked, and_then, allowed, found, FormPart, one_more, new_variable, part_variable, as_many, known, all_known, row_at, row_named, same_lists, same_results, wanted, single_at, all_single, all_wanted, use_types, use_fits, called, made, all_of, declared_type, ArmHead, is_of, are_different, is_there, covers, covered, field_count, fields_if, all_counted, bind_all, parts_for, types_bound, bind_parts, bind_given, bind_sides}

-- What is answered is so.
pub record Holds {A : Type 0} (c : Checked A) (P : A → Type 0) : Type 0 where
  pub by : (x : A) → c ≡ Ok x → P x

abbrev pub given : {A : Type 0} → A → Checked A
given x = Ok x

abbrev pub refused : {A : Type 0} → Fault → Checked A
refused f = Err f

ok_is : {A : Type 0} (x y : A) → given x ≡ given y → x ≡ y
ok_is x y e = cc

pub holds_ok : {A : Type 0} {P : A → Type 0} (x : A) → P x → Holds (given x) P
holds_ok {A = A} {P = P} x p = record { by = λ y e. subst P (ok_is x y e) p }

pub holds_err : {A : Type 0} {P : A → Type 0} (f : Fault) → Holds (refused {A = A} f) P
holds_err {A = A} {P = P} f = record { by = go } where
  go : (y : A) → refused f ≡ given y → P y
  go y e = absurd cc

then_ok : {A B : Type 0} (c : Checked A) (f : A → Checked B) (y : B) → and_then c f ≡ given y → (x : A) × (c ≡ given x) × (f x ≡ given y)
then_ok (Ok x) f y e = (x, refl, e)
then_ok (Err d) f y e = absurd cc

pub then_holds : {A B : Type 0} {c : Checked A} {f : A → Checked B} {P : A → Type 0} {Q : B → Type 0} → Holds c P → ((x : A) → P x → Holds (f x) Q) → Holds (and_then c f) Q
then_holds {c = c} {f = f} h k = record { by = λ y e. let o = then_ok c f y e in (k o.0 (h.by o.0 o.1)).by y o.2 }

pub allowed_holds : {A : Type 0} (b : Bool) (k : Kind) (at : Span) (x : A) → Holds (allowed b k at x) (λ y. (b ≡ true) × (x ≡ y))
allowed_holds true k at x = holds_ok x (refl, refl)
allowed_holds false k at x = holds_err (record { kind = k; span = at })

pub found_holds : {A : Type 0} (o : Option A) (k : Kind) (at : Span) → Holds (found o k at) (λ x. o ≡ Some x)
found_holds (Some x) k at = holds_ok x refl
found_holds None k at = holds_err (record { kind = k; span = at })

pub one_more_holds : (n : Counts) (at : Span) → Holds (one_more n at) (λ m. (n.expressions < 2000) × (record n { expressions = n.expressions + 1 } ≡ m))
one_more_holds n at = record { by = λ m e. let h = (allowed_holds (ltb n.expressions 2000) kind.Limit at (record n { expressions = n.expressions + 1 })).by m e in (ltb-true n.expressions 2000 h.0, h.1) }

none_is : {A : Type 0} (o : Option A) → is_none o ≡ true → o ≡ None
none_is None e = refl
none_is (Some x) e = absurd cc

pub some_is : {A : Type 0} (o : Option A) → is_some o ≡ true → (x : A) × (o ≡ Some x)
some_is None e = absurd cc
some_is (Some x) e = (x, refl)

not_some : {A : Type 0} (o : Option A) → not (is_some o) ≡ true → o ≡ None
not_some None e = refl
not_some (Some x) e = absurd cc

-- The name is not in scope.
abbrev pub IsNew : FormScope → Ident → Type 0
IsNew scope x = form_in scope (number_of x) ≡ None

pub new_variable_holds : (scope : FormScope) (n : Counts) (x : Ident) → Holds (new_variable scope n x) (λ m. IsNew scope x × (n.variables < 200) × (record n { variables = n.variables + 1 } ≡ m))
new_variable_holds scope n x =
    then_holds (allowed_holds (is_none (form_in scope (number_of x))) kind.Twice x.span (tt {0}))
    (λ _ p. record { by = λ m e. let h = (allowed_holds (ltb n.variables 200) kind.Limit x.span (record n { variables = n.variables + 1 })).by m e in (none_is (form_in scope (number_of x)) p.0, ltb-true n.variables 200 h.0, h.1) })

pub as_many_holds : (n due : ℕ) (at : Ident) → Holds (as_many n due at) (λ _. n ≡ due)
as_many_holds n due at = record { by = λ x e. eqb-true n due ((allowed_holds (eqb n due) kind.Count at.span (tt {0})).by x e).0 }

-- A written type without a fault is known.
mutual
  pub known_holds : (datas : List GenericDataTree) (vars : List ℕ) (w : WrittenType) → Holds (known datas vars w) (λ _. IsKnownType datas vars w)
  known_holds datas vars (WholeAt p) = holds_ok (tt {0}) tt
  known_holds datas vars (TruthAt p) = holds_ok (tt {0}) tt
  known_holds datas vars (VariableAt x) = record { by = λ u e. some_is (place_of vars (number_of x)) ((allowed_holds (is_some (place_of vars (number_of x))) kind.Unknown x.span (tt {0})).by u e).0 }
  known_holds datas vars (DataAt p x ws) =
      then_holds (found_holds (data_named datas (number_of x)) kind.Unknown x.span) (λ d q. then_holds (as_many_holds (count_written ws) (length d.variables) x) (λ _ l.
      record { by = λ u e. (d, q, l, (all_known_holds datas vars ws).by u e) }))

  pub all_known_holds : (datas : List GenericDataTree) (vars : List ℕ) (ws : WrittenTypes) → Holds (all_known datas vars ws) (λ _. AreKnownTypes datas vars ws)
  all_known_holds datas vars NoType = holds_ok (tt {0}) tt
  all_known_holds datas vars (MoreTypes w ws) = then_holds (known_holds datas vars w) (λ _ k. record { by = λ u e. (k, (all_known_holds datas vars ws).by u e) })

-- The same types are equal.
pub same_lists_is : (ts us : List Form) → same_lists ts us ≡ true → ts ≡ us
same_lists_is [] [] e = refl
same_lists_is [] (u ∷ us) e = absurd cc
same_lists_is (t ∷ ts) [] e = absurd cc
same_lists_is (t ∷ ts) (u ∷ us) e =
    ap₂ (λ (f : Form) (fs : List Form). f ∷ fs) (same_form_is t u (and_parts (same_form t u) (same_lists ts us) e).0) (same_lists_is ts us (and_parts (same_form t u) (same_lists ts us) e).1)

pub same_results_is : (r q : Results Form) → same_results r q ≡ true → r ≡ q
same_results_is (One t) (One u) e = ap One (same_form_is t u e)
same_results_is (One t) (Several us) e = absurd cc
same_results_is (Several ts) (One u) e = absurd cc
same_results_is (Several ts) (Several us) e = ap Several (same_lists_is ts us e)

pub wanted_holds : (due : Results Form) (part : FormPart) → Holds (wanted due part) (λ _. part.ty ≡ due)
wanted_holds due part = record { by = λ x e. same_results_is part.ty due ((allowed_holds (same_results part.ty due) kind.Shape part.place (tt {0})).by x e).0 }

pub single_holds : (r : Results Form) (at : Span) → Holds (single_at r at) (λ t. r ≡ One t)
single_holds (One t) at = holds_ok t refl
single_holds (Several ts) at = holds_err (record { kind = kind.Shape; span = at })

-- Parts are one thing each, of these types.
abbrev pub PartsAre : List FormPart → List Form → Type 0
PartsAre [] [] = Unit {0}
PartsAre [] (t ∷ ts) = ⊥
PartsAre (part ∷ parts) [] = ⊥
PartsAre (part ∷ parts) (t ∷ ts) = (part.ty ≡ One t) × PartsAre parts ts

pub all_single_holds : (parts : List FormPart) → Holds (all_single parts) (λ ts. PartsAre parts ts)
all_single_holds [] = holds_ok [] tt
all_single_holds (part ∷ parts) = then_holds (single_holds part.ty part.place) (λ t p. then_holds (all_single_holds parts) (λ ts q. holds_ok (t ∷ ts) (p, q)))

-- Parts have these types, as far as both go.
abbrev pub PartsHave : List FormPart → List Form → Type 0
PartsHave [] ts = Unit {0}
PartsHave (part ∷ parts) [] = Unit {0}
PartsHave (part ∷ parts) (t ∷ ts) = (part.ty ≡ One t) × PartsHave parts ts

pub all_wanted_holds : (parts : List FormPart) (ts : List Form) → Holds (all_wanted parts ts) (λ _. PartsHave parts ts)
all_wanted_holds [] ts = holds_ok (tt {0}) tt
all_wanted_holds (part ∷ parts) [] = holds_ok (tt {0}) tt
all_wanted_holds (part ∷ parts) (t ∷ ts) = then_holds (wanted_holds (One t) part) (λ _ p. record { by = λ x e. (p, (all_wanted_holds parts ts).by x e) })

-- What is asked of a use before its arguments.
use_types_holds : (g : GenericGlobals) (vars : List ℕ) (x : Ident) (ws : WrittenTypes) (variables : ℕ) → Holds (use_types g vars x ws variables) (λ _. (count_written ws ≡ variables) × AreKnownTypes g.datas vars ws)
use_types_holds g vars x ws variables = then_holds (as_many_holds (count_written ws) variables x) (λ _ v. record { by = λ u e. (v, (all_known_holds g.datas vars ws).by u e) })

pub use_fits_holds : (g : GenericGlobals) (vars : List ℕ) (x : Ident) (ws : WrittenTypes) (count variables due : ℕ) → Holds (use_fits g vars x ws count variables due) (λ _. (count_written ws ≡ variables) × AreKnownTypes g.datas vars ws × (count ≡ due))
use_fits_holds g vars x ws count variables due = then_holds (use_types_holds g vars x ws variables) (λ _ k. record { by = λ u e. (k.0, k.1, (as_many_holds count due x).by u e) })

-- What a function gives, and a constructor.
pub called_holds : (h : GenericFunctionTree) (ts : Forms) (parts : List FormPart) → Holds (called h ts parts) (λ r. (r ≡ result_forms h ts) × PartsHave parts (parameter_forms h ts))
called_holds h ts parts = then_holds (all_wanted_holds parts (parameter_forms h ts)) (λ _ w. holds_ok (result_forms h ts) (refl, w))

pub made_holds : (row : GenericRow) (ts : Forms) (parts : List FormPart) → Holds (made row ts parts) (λ r. (r ≡ One (DataForm row.owner ts)) × PartsHave parts (field_forms row ts))
made_holds row ts parts = then_holds (all_wanted_holds parts (field_forms row ts)) (λ _ w. holds_ok (One (DataForm row.owner ts)) (refl, w))

-- Each part has the type.
abbrev pub EachHas : Results Form → List FormPart → Type 0
EachHas t [] = Unit {0}
EachHas t (part ∷ parts) = (part.ty ≡ t) × EachHas t parts

pub all_of_holds : (t : Results Form) (parts : List FormPart) → Holds (all_of t parts) (λ _. EachHas t parts)
all_of_holds t [] = holds_ok (tt {0}) tt
all_of_holds t (part ∷ parts) = then_holds (wanted_holds t part) (λ _ p. record { by = λ x e. (p, (all_of_holds t parts).by x e) })

pub declared_type_holds : (s : Form) (x : Ident) → Holds (declared_type s x) (λ t. s ≡ DataForm t.0 t.1)
declared_type_holds WholeForm x = holds_err (record { kind = kind.Shape; span = x.span })
declared_type_holds TruthForm x = holds_err (record { kind = kind.Shape; span = x.span })
declared_type_holds (VariableForm v) x = holds_err (record { kind = kind.Shape; span = x.span })
declared_type_holds (DataForm t ts) x = holds_ok (t, ts) refl

-- A row by its name is one by its place.
pub row_split : (rows : List GenericRow) (o : Option ℕ) (row : GenericRow) → row_at rows o ≡ Some row → (c : ℕ) × (o ≡ Some c) × (slice_get rows c ≡ Some row)
row_split rows None row e = absurd cc
row_split rows (Some c) row e = (c, refl, e)

pub row_join : (rows : List GenericRow) (o : Option ℕ) (c : ℕ) (row : GenericRow) → o ≡ Some c → slice_get rows c ≡ Some row → row_at rows o ≡ Some row
row_join rows o c row e q = ap (row_at rows) e ∙ q

-- The constructor of each arm is declared.
abbrev pub AllDeclared : List GenericRow → List ArmHead → Type 0
AllDeclared rows [] = Unit {0}
AllDeclared rows (h ∷ hs) = ((row : GenericRow) × (row_named rows (number_of h.constructor) ≡ Some row)) × AllDeclared rows hs

-- Each arm has as many variables as fields.
abbrev pub AllCounted : List GenericRow → List ArmHead → Type 0
AllCounted rows [] = Unit {0}
AllCounted rows (h ∷ hs) = (length h.variables ≡ field_count (row_named rows (number_of h.constructor))) × AllCounted rows hs

pub all_counted_holds : (rows : List GenericRow) (hs : List ArmHead) → Holds (all_counted rows hs) (λ _. AllCounted rows hs)
all_counted_holds rows [] = holds_ok (tt {0}) tt
all_counted_holds rows (h ∷ hs) =
    then_holds (as_many_holds (length h.variables) (field_count (row_named rows (number_of h.constructor))) h.constructor)
    (λ _ p. record { by = λ x e. (p, (all_counted_holds rows hs).by x e) })

-- A constructor of the type has the name.
abbrev pub IsOwn : List GenericRow → ℕ → ℕ → Type 0
IsOwn rows t k = (c : ℕ) × (row : GenericRow) × (place_named rows k ≡ Some c) × (slice_get rows c ≡ Some row) × (row.owner ≡ t)

of_is : (ty : ℕ) (o : Option GenericRow) → is_of ty o ≡ true → (row : GenericRow) × (o ≡ Some row) × (row.owner ≡ ty)
of_is ty None e = absurd cc
of_is ty (Some row) e = (row, refl, eqb-true row.owner ty e)

own_is : (rows : List GenericRow) (ty k : ℕ) → is_of ty (row_named rows k) ≡ true → IsOwn rows ty k
own_is rows ty k e = let o = of_is ty (row_named rows k) e in let p = row_split rows (place_named rows k) o.0 o.1 in (p.0, o.0, p.1, p.2, o.2)

own_all : (rows : List GenericRow) (ty : ℕ) (names : List ℕ) → list_all (λ k. is_of ty (row_named rows k)) names ≡ true → AllByRecursion (IsOwn rows ty) names
own_all rows ty [] e = tt
own_all rows ty (k ∷ names) e = (
  own_is rows ty k (and_parts _ (list_all (λ k. is_of ty (row_named rows k)) names) e).0,
  own_all rows ty names (and_parts (is_of ty (row_named rows k)) _ e).1,
)

pub different_is : (names : List ℕ) → are_different names ≡ true → AreDifferent names
different_is [] e = tt
different_is (x ∷ xs) e = (not_some (place_of xs x) (and_parts (not (is_some (place_of xs x))) (are_different xs) e).0, different_is xs (and_parts (not (is_some (place_of xs x))) (are_different xs) e).1)

there_one : (b : Bool) (o : Option ℕ) → (not b || is_some o) ≡ true → b ≡ true → (i : ℕ) × (o ≡ Some i)
there_one true o e t = some_is o e
there_one false o e t = absurd cc

each_there : (ty : ℕ) (names : List ℕ) (rows : List GenericRow) (c : ℕ) (row : GenericRow) → list_all (is_there ty names) rows ≡ true → slice_get rows c ≡ Some row → is_there ty names row ≡ true
each_there ty names [] c row e q = absurd cc
each_there ty names (r ∷ rows) zero row e q =
    let same : r ≡ row = cc in subst (λ z. is_there ty names z ≡ true) same (and_parts (is_there ty names r) (list_all (is_there ty names) rows) e).0
each_there ty names (r ∷ rows) (suc c) row e q = each_there ty names rows c row (and_parts (is_there ty names r) (list_all (is_there ty names) rows) e).1 q

pub covers_is : (rows : List GenericRow) (ty : ℕ) (names : List ℕ) → covers rows ty names ≡ true → CoversType rows ty names
covers_is rows ty names e =
    let own = list_all (λ k. is_of ty (row_named rows k)) names in
    let rest = (and_parts own (are_different names && list_all (is_there ty names) rows) e).1 in
    record {
      own = own_all rows ty names (and_parts own (are_different names && list_all (is_there ty names) rows) e).0;
      each = λ c row q o. there_one (row.owner == ty) (place_of names row.name) (each_there ty names rows c row (and_parts (are_different names) (list_all (is_there ty names) rows) rest).1 q) (eq-eqb row.owner ty o);
      once = different_is names (and_parts (are_different names) (list_all (is_there ty names) rows) rest).0;
    }

pub covered_holds : (rows : List GenericRow) (ty : ℕ) (names : List ℕ) (at : Span) → Holds (covered rows ty names at) (λ _. CoversType rows ty names)
covered_holds rows ty names at = record { by = λ x e. covers_is rows ty names ((allowed_holds (covers rows ty names) kind.Arms at (tt {0})).by x e).0 }

pub fields_long : (o : Option GenericRow) (ts : Forms) → length (fields_if o ts) ≡ field_count o
fields_long None ts = refl
fields_long (Some row) ts = length-map row.fields (formed (assign row.variables ts))

-- Variables were bound, one for each type.
pub record Bound (scope : FormScope) (n : Counts) (xs : List Ident) (ts : List Form) (inner : FormScope) (m : Counts) : Type 0 where
  pub binds : BindsForms scope xs ts inner
  pub variables : m.variables ≡ n.variables + length xs
  pub expressions : m.expressions ≡ n.expressions
  pub few : n.variables ≤ 200 → m.variables ≤ 200

pub bind_all_holds : (scope : FormScope) (n : Counts) (xs : List Ident) (ts : List Form) → length xs ≡ length ts → Holds (bind_all scope n xs ts) (λ r. Bound scope n xs ts r.0 r.1)
bind_all_holds scope n [] [] l = holds_ok (scope, n) (record { binds = refl; variables = omega arith; expressions = refl; few = λ h. h })
bind_all_holds scope n [] (t ∷ ts) l = absurd (omega (arith, l))
bind_all_holds scope n (x ∷ xs) [] l = absurd (omega (arith, l))
bind_all_holds scope n (x ∷ xs) (t ∷ ts) l =
    then_holds (new_variable_holds scope n x) (λ m p.
    record {
      by = λ r e. let o = (bind_all_holds (form_bound x t scope) m xs ts (omega (arith, l))).by r e in
          let v : m.variables ≡ n.variables + 1 = sym (ap (λ (z : Counts). z.variables) p.2) in
          let x' : m.expressions ≡ n.expressions = sym (ap (λ (z : Counts). z.expressions) p.2) in
          record { binds = (p.0, o.binds); variables = (let q = o.variables in omega (arith, q, v)); expressions = o.expressions ∙ x'; few = λ h. o.few (let q = p.1 in omega (arith, q, v)) };
    })

-- The types for the variables of a binding are what its right side gives.
pub record ForNames (xs : List Ident) (r : Results Form) (ts : List Form) : Type 0 where
  pub gives : r ≡ as_results ts
  pub many : length ts ≡ length xs
  pub some : 1 ≤ length xs

as_several : (n : ℕ) (ts : List Form) → length ts ≡ suc (suc n) → Several ts ≡ as_results ts
as_several n [] l = absurd (omega (arith, l))
as_several n (t ∷ []) l = absurd (omega (arith, l))
as_several n (t ∷ u ∷ us) l = refl

pub parts_for_holds : (x : Ident) (x2 : Ident) (xs : List Ident) (part : FormPart) (r : Results Form) → Holds (parts_for (length (x ∷ x2 ∷ xs)) x part r) (λ ts. ForNames (x ∷ x2 ∷ xs) r ts)
parts_for_holds x x2 xs part (One t) = holds_err (record { kind = kind.Shape; span = part.place })
parts_for_holds x x2 xs part (Several ts) =
    then_holds (as_many_holds (length ts) (length (x ∷ x2 ∷ xs)) x) (λ _ l. holds_ok ts (record { gives = as_several (length xs) ts l; many = l; some = omega arith }))

pub types_bound_holds : (xs : List Ident) (part : FormPart) → Holds (types_bound xs part) (λ ts. ForNames xs part.ty ts)
types_bound_holds [] part = holds_err (record { kind = kind.Shape; span = part.place })
types_bound_holds (x ∷ []) part = then_holds (single_holds part.ty part.place) (λ t p. holds_ok (t ∷ []) (record { gives = p; many = refl; some = omega arith }))
types_bound_holds (x ∷ y ∷ ys) part = parts_for_holds x y ys part part.ty

-- One of the variables of a binding behind so many.
pub part_variable_holds : (i : ℕ) (scope : FormScope) (n : Counts) (x : Ident) → Holds (part_variable i scope n x) (λ m. IsNew scope x × (i < 8) × (n.variables < 200) × (record n { variables = n.variables + 1 } ≡ m))
part_variable_holds i scope n x =
    then_holds (allowed_holds (is_none (form_in scope (number_of x))) kind.Twice x.span (tt {0})) (λ _ p. then_holds (allowed_holds (ltb i 8) kind.Limit x.span (tt {0}))
    (λ _ q. record { by = λ m e. let h = (allowed_holds (ltb n.variables 200) kind.Limit x.span (record n { variables = n.variables + 1 })).by m e in (none_is (form_in scope (number_of x)) p.0, ltb-true i 8 q.0, ltb-true n.variables 200 h.0, h.1) }))

-- So for all of them.
pub record PartsBound (i : ℕ) (scope : FormScope) (n : Counts) (xs : List Ident) (ts : List Form) (inner : FormScope) (m : Counts) : Type 0 where
  pub bound : Bound scope n xs ts inner m
  pub eight : i ≤ 8 → i + length xs ≤ 8

pub bind_parts_holds : (i : ℕ) (scope : FormScope) (n : Counts) (xs : List Ident) (ts : List Form) → length ts ≡ length xs → Holds (bind_parts i scope n xs ts) (λ r. PartsBound i scope n xs ts r.0 r.1)
bind_parts_holds i scope n [] [] l = holds_ok (scope, n) (record { bound = record { binds = refl; variables = omega arith; expressions = refl; few = λ h. h }; eight = λ h. omega (arith, h) })
bind_parts_holds i scope n [] (t ∷ ts) l = absurd (omega (arith, l))
bind_parts_holds i scope n (x ∷ xs) [] l = absurd (omega (arith, l))
bind_parts_holds i scope n (x ∷ xs) (t ∷ ts) l =
    then_holds (part_variable_holds i scope n x) (λ m p.
    record {
      by = λ r e. let o = (bind_parts_holds (suc i) (form_bound x t scope) m xs ts (omega (arith, l))).by r e in
          let v : m.variables ≡ n.variables + 1 = sym (ap (λ (z : Counts). z.variables) p.3) in
          let x' : m.expressions ≡ n.expressions = sym (ap (λ (z : Counts). z.expressions) p.3) in
          record {
            bound = record { binds = (p.0, o.bound.binds); variables = (let q = o.bound.variables in omega (arith, q, v)); expressions = o.bound.expressions ∙ x'; few = λ h. o.bound.few (let q = p.2 in omega (arith, q, v)) };
            eight = λ h. (let q = p.1 in let k = o.eight (omega (arith, q)) in omega (arith, k));
          };
    })

-- The variables of a binding were bound to what its right side gives.
pub record BoundToGiven (scope : FormScope) (n : Counts) (xs : List Ident) (r : Results Form) (inner : FormScope) (m : Counts) : Type 0 where
  pub types : List Form
  pub gives : r ≡ as_results types
  pub names : AreNames xs
  pub bound : Bound scope n xs types inner m

given_holds : (scope : FormScope) (n : Counts) (xs : List Ident) (r : Results Form) (ts : List Form) → ForNames xs r ts → Holds (bind_parts 0 scope n xs ts) (λ i. BoundToGiven scope n xs r i.0 i.1)
given_holds scope n xs r ts t =
    record {
      by = λ i e. let o = (bind_parts_holds 0 scope n xs ts t.many).by i e in
          record { types = ts; gives = t.gives; names = (t.some, let l = o.eight (omega arith) in omega (arith, l)); bound = o.bound };
    }

pub bind_given_holds : (scope : FormScope) (n : Counts) (xs : List Ident) (part : FormPart) → Holds (bind_given scope n xs part) (λ i. BoundToGiven scope n xs part.ty i.0 i.1)
bind_given_holds scope n xs part = then_holds (types_bound_holds xs part) (λ ts t. given_holds scope n xs part.ty ts t)

-- So those of two sides.
pub record BothBound (scope : FormScope) (n : Counts) (xs : List Ident) (l : Results Form) (ys : List Ident) (r : Results Form) (inner : FormScope) (m : Counts) : Type 0 where
  pub middle : FormScope × Counts
  pub left : BoundToGiven scope n xs l middle.0 middle.1
  pub right : BoundToGiven middle.0 middle.1 ys r inner m

pub bind_sides_holds : (scope : FormScope) (n : Counts) (xs : List Ident) (left : FormPart) (ys : List Ident) (right : FormPart) → Holds (bind_sides scope n xs left ys right) (λ i. BothBound scope n xs left.ty ys right.ty i.0 i.1)
bind_sides_holds scope n xs left ys right =
    then_holds (types_bound_holds xs left) (λ ts ta. then_holds (types_bound_holds ys right) (λ us tb. then_holds (given_holds scope n xs left.ty ts ta) (λ middle v.
    record { by = λ i e. record { middle = middle; left = v; right = (given_holds middle.0 middle.1 ys right.ty us tb).by i e } })))
