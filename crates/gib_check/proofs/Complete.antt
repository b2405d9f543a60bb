-- What is so is inferred, within the limits.
use Rattle.std.proofs.Common.{◌≡◌, ℕ, suc, ◌+◌, ◌<◌, ◌≤◌, ◌==◌, Bool, true, false, ltb, not, ◌||◌, List, [], ◌∷◌, length, Option, Some, Ok, refl, sym, ap, ◌∙◌, subst, arith}
use Rattle.std.proofs.lemmas.Bool.{eq-eqb, eqb-true, lt-ltb, and_from}
use Rattle.std.proofs.lemmas.List.{length-map}
use Rattle.std.specs.Prelude.{is_some, is_none, slice_get}
use Rattle.std.specs.List.{list_all, AllByRecursion}
use Rattle.gib_base.specs.declared.Span.{Span}
use Rattle.gib_syntax.specs.declared.tree.Ident.{Ident}
use Rattle.gib_syntax.specs.Declarations.{number_of, place_of, AreDifferent}
use Rattle.gib_syntax.specs.Results.{Results, One, Several, as_results}
use Rattle.gib_types.specs.Form.{Form, Forms, WholeForm, TruthForm, DataForm, Meant}
use Rattle.gib_types.specs.SameForm.{same_form}
use Rattle.gib_syntax.specs.Forms.{WrittenType, WrittenTypes, WholeAt, TruthAt, VariableAt, DataAt, NoType, MoreTypes, formed, formed_all, assign, count_written}
use Rattle.gib_syntax.specs.GenericTree.{GenericExpression, GenericArguments, GenericArms, GenericVar, GenericNum, GenericBit, GenericParen, GenericOp, GenericCall, GenericMake, GenericLet, GenericPar, GenericIf, GenericCase, GenericTuple, GenericNoArgument, GenericArgument, GenericLastArm, GenericNextArm, GenericDataTree, GenericRow, GenericGlobals, GenericFunctionTree, GenericParameterTree, place_named, generic_named, data_named}
use Rattle.gib_syntax.specs.GenericTyping.{FormScope, form_in, form_bound, BindsForms, AreNames, operator_form, field_forms, parameter_forms, result_forms, IsKnownType, AreKnownTypes, CoversType, HasForm, HaveForms, ArmsHaveForm, generic_expressions, all_generic_expressions, arm_generic_expressions, generic_bindings, all_generic_bindings, arm_generic_bindings}
use Rattle.gib_check.specs.declared.counts.Counts.{Counts}
use Rattle.gib_check.specs.declared.fault.Kind.{Kind}
use Rattle.gib_check.specs.declared.fault.Kind.TheVariants as kind
use Rattle.gib_check.specs.declared.standing.Standing.{Standing}
use Rattle.gib_check.specs.declared.standing.Standing.TheVariants as standing
use Rattle.gib_check.specs.declared.standing.Standing.TheVariants.{NoTuple}
use Rattle.gib_check.specs.Faults.{Checked, and_then, allowed, found, FormPart, one_more, new_variable, part_variable, as_many, known, all_known, row_named, same_lists, same_results, wanted, single_at, all_single, all_wanted, use_fits, all_of, declared_type, argument_count, ArmHead, heads, head_names, all_declared, is_of, are_different, is_there, covers, field_count, fields_if, all_counted, bind_all, bind_parts, bind_given, bind_sides, parts_for, types_bound, may_stand, standing_for, MayGive, first_type, infer, infer_all, infer_arms, infer_arm, place}
use Rattle.gib_check.proofs.Steps.{PartsAre, EachHas, AllDeclared, AllCounted, IsNew, IsOwn, row_join, given}
use Rattle.gib_check.proofs.States.{part_new}
use Rattle.gib_types.proofs.SameForms.{same_form_own}
use Rattle.gib_check.proofs.Sound.{names-heads, OneArmHas}

-- An answer comes, and it is so.
pub record Yields {A : Type 0} (c : Checked A) (P : A → Type 0) : Type 0 where
  pub value : A
  pub is : c ≡ Ok value
  pub so : P value

pub yields_ok : {A : Type 0} {P : A → Type 0} (x : A) → P x → Yields (given x) P
yields_ok x p = record { value = x; is = refl; so = p }

-- By the equation alone.
pub yields : {A : Type 0} {c : Checked A} (x : A) → c ≡ Ok x → Yields c (λ y. y ≡ x)
yields x e = record { value = x; is = e; so = refl }

pub then_yields : {A B : Type 0} {c : Checked A} {f : A → Checked B} {P : A → Type 0} {Q : B → Type 0} → Yields c P → ((x : A) → P x → Yields (f x) Q) → Yields (and_then c f) Q
then_yields {f = f} h k = let o = k h.value h.so in record { value = o.value; is = ap (λ z. and_then z f) h.is ∙ o.is; so = o.so }

pub one_more_ok : (n : Counts) (at : Span) → n.expressions < 2000 → one_more n at ≡ Ok (record n { expressions = n.expressions + 1 })
one_more_ok n at h = ap (λ b. allowed b kind.Limit at (record n { expressions = n.expressions + 1 })) (lt-ltb n.expressions 2000 h)

pub new_variable_ok : (scope : FormScope) (n : Counts) (x : Ident) → IsNew scope x → n.variables < 200 → new_variable scope n x ≡ Ok (record n { variables = n.variables + 1 })
new_variable_ok scope n x h lt =
    ap (λ (o : Option Form). and_then (allowed (is_none o) kind.Twice x.span (tt {0})) (λ _. allowed (ltb n.variables 200) kind.Limit x.span (record n { variables = n.variables + 1 }))) h
    ∙ (ap (λ b. allowed b kind.Limit x.span (record n { variables = n.variables + 1 })) (lt-ltb n.variables 200 lt))

pub found_ok : {A : Type 0} (o : Option A) (k : Kind) (at : Span) (x : A) → o ≡ Some x → found o k at ≡ Ok x
found_ok o k at x e = ap (λ z. found z k at) e

pub as_many_ok : (n due : ℕ) (at : Ident) → n ≡ due → as_many n due at ≡ Ok (tt {0})
as_many_ok n due at e = ap (λ b. allowed b kind.Count at.span (tt {0})) (eq-eqb n due e)

-- A known written type has no fault.
mutual
  pub known_ok : (datas : List GenericDataTree) (vars : List ℕ) (w : WrittenType) → IsKnownType datas vars w → known datas vars w ≡ Ok (tt {0})
  known_ok datas vars (WholeAt p) h = refl
  known_ok datas vars (TruthAt p) h = refl
  known_ok datas vars (VariableAt x) h = ap (λ (o : Option ℕ). allowed (is_some o) kind.Unknown x.span (tt {0})) h.1
  known_ok datas vars (DataAt p x ws) h =
      ap (λ (z : Checked GenericDataTree). and_then z (λ d. and_then (as_many (count_written ws) (length d.variables) x) (λ _. all_known datas vars ws))) (found_ok (data_named datas (number_of x)) kind.Unknown x.span h.0 h.1)
      ∙ ap (λ z. and_then z (λ _. all_known datas vars ws)) (as_many_ok (count_written ws) (length h.0.variables) x h.2)
      ∙ all_known_ok datas vars ws h.3

  pub all_known_ok : (datas : List GenericDataTree) (vars : List ℕ) (ws : WrittenTypes) → AreKnownTypes datas vars ws → all_known datas vars ws ≡ Ok (tt {0})
  all_known_ok datas vars NoType h = refl
  all_known_ok datas vars (MoreTypes w ws) h = ap (λ z. and_then z (λ _. all_known datas vars ws)) (known_ok datas vars w h.0) ∙ all_known_ok datas vars ws h.1

pub same_lists_own : (ts : List Form) → same_lists ts ts ≡ true
same_lists_own [] = refl
same_lists_own (t ∷ ts) = and_from (same_form t t) (same_lists ts ts) (same_form_own t) (same_lists_own ts)

pub same_results_own : (r : Results Form) → same_results r r ≡ true
same_results_own (One t) = same_form_own t
same_results_own (Several ts) = same_lists_own ts

pub wanted_ok : (due : Results Form) (part : FormPart) → part.ty ≡ due → wanted due part ≡ Ok (tt {0})
wanted_ok due part e = ap (λ b. allowed b kind.Shape part.place (tt {0})) (ap (λ z. same_results z due) e ∙ same_results_own due)

single_ok : (r : Results Form) (at : Span) (t : Form) → r ≡ One t → single_at r at ≡ Ok t
single_ok r at t e = ap (λ z. single_at z at) e

all_single_ok : (parts : List FormPart) (ts : List Form) → PartsAre parts ts → all_single parts ≡ Ok ts
all_single_ok [] [] h = refl
all_single_ok [] (t ∷ ts) h = absurd h
all_single_ok (part ∷ parts) [] h = absurd h
all_single_ok (part ∷ parts) (t ∷ ts) h =
    ap (λ z. and_then z (λ t. and_then (all_single parts) (λ ts. Ok (t ∷ ts)))) (single_ok part.ty part.place t h.0) ∙ ap (λ z. and_then z (λ ts. Ok (t ∷ ts))) (all_single_ok parts ts h.1)

all_wanted_ok : (parts : List FormPart) (ts : List Form) → PartsAre parts ts → all_wanted parts ts ≡ Ok (tt {0})
all_wanted_ok [] [] h = refl
all_wanted_ok [] (t ∷ ts) h = refl
all_wanted_ok (part ∷ parts) [] h = refl
all_wanted_ok (part ∷ parts) (t ∷ ts) h = ap (λ z. and_then z (λ _. all_wanted parts ts)) (wanted_ok (One t) part h.0) ∙ all_wanted_ok parts ts h.1

all_of_ok : (t : Results Form) (parts : List FormPart) → EachHas t parts → all_of t parts ≡ Ok (tt {0})
all_of_ok t [] h = refl
all_of_ok t (part ∷ parts) h = ap (λ z. and_then z (λ _. all_of t parts)) (wanted_ok t part h.0) ∙ all_of_ok t parts h.1

all_declared_ok : (rows : List GenericRow) (hs : List ArmHead) → AllDeclared rows hs → all_declared rows hs ≡ Ok (tt {0})
all_declared_ok rows [] h = refl
all_declared_ok rows (a ∷ hs) h = ap (λ z. and_then z (λ _. all_declared rows hs)) (found_ok (row_named rows (number_of a.constructor)) kind.Unknown a.constructor.span h.0.0 h.0.1) ∙ all_declared_ok rows hs h.1

all_counted_ok : (rows : List GenericRow) (hs : List ArmHead) → AllCounted rows hs → all_counted rows hs ≡ Ok (tt {0})
all_counted_ok rows [] h = refl
all_counted_ok rows (a ∷ hs) h = ap (λ z. and_then z (λ _. all_counted rows hs)) (as_many_ok (length a.variables) (field_count (row_named rows (number_of a.constructor))) a.constructor h.0) ∙ all_counted_ok rows hs h.1

own_ok : (rows : List GenericRow) (ty : ℕ) (names : List ℕ) → AllByRecursion (IsOwn rows ty) names → list_all (λ k. is_of ty (row_named rows k)) names ≡ true
own_ok rows ty [] h = refl
own_ok rows ty (k ∷ names) h =
    and_from (is_of ty (row_named rows k)) (list_all (λ k. is_of ty (row_named rows k)) names)
    (ap (is_of ty) (row_join rows (place_named rows k) h.0.0 h.0.1 h.0.2 h.0.3) ∙ eq-eqb h.0.1.owner ty h.0.4) (own_ok rows ty names h.1)

pub different_ok : (names : List ℕ) → AreDifferent names → are_different names ≡ true
different_ok [] h = refl
different_ok (x ∷ xs) h = and_from (not (is_some (place_of xs x))) (are_different xs) (ap (λ (o : Option ℕ). not (is_some o)) h.0) (different_ok xs h.1)

all_there_ok : (ty : ℕ) (names : List ℕ) (rows : List GenericRow) → ((c : ℕ) (row : GenericRow) → slice_get rows c ≡ Some row → is_there ty names row ≡ true) → list_all (is_there ty names) rows ≡ true
all_there_ok ty names [] h = refl
all_there_ok ty names (r ∷ rows) h = and_from (is_there ty names r) (list_all (is_there ty names) rows) (h 0 r refl) (all_there_ok ty names rows (λ c row e. h (suc c) row e))

there_ok : (o : Option ℕ) (b : Bool) → (b ≡ true → (i : ℕ) × (o ≡ Some i)) → (not b || is_some o) ≡ true
there_ok o false h = refl
there_ok o true h = ap (λ (z : Option ℕ). is_some z) (h refl).1

pub covers_ok : (rows : List GenericRow) (ty : ℕ) (names : List ℕ) → CoversType rows ty names → covers rows ty names ≡ true
covers_ok rows ty names h =
    and_from _ _ (own_ok rows ty names h.own)
    (and_from _ _ (different_ok names h.once)
    (all_there_ok ty names rows (λ c row e. there_ok (place_of names row.name) (row.owner == ty) (λ t. h.each c row e (eqb-true row.owner ty t)))))

-- The rules of counts, as answers.
one_more_yields : (n : Counts) (at : Span) → n.expressions < 2000 → Yields (one_more n at) (λ m. (m.expressions ≡ n.expressions + 1) × (m.variables ≡ n.variables))
one_more_yields n at h = record { value = record n { expressions = n.expressions + 1 }; is = one_more_ok n at h; so = (refl, refl) }

new_variable_yields : (scope : FormScope) (n : Counts) (x : Ident) → IsNew scope x → n.variables < 200 → Yields (new_variable scope n x) (λ m. (m.expressions ≡ n.expressions) × (m.variables ≡ n.variables + 1))
new_variable_yields scope n x h lt = record { value = record n { variables = n.variables + 1 }; is = new_variable_ok scope n x h lt; so = (refl, refl) }

-- The variables come into scope.
pub record BoundTo (n : Counts) (k : ℕ) (inner : FormScope) (r : FormScope × Counts) : Type 0 where
  pub scope : r.0 ≡ inner
  pub expressions : r.1.expressions ≡ n.expressions
  pub variables : r.1.variables ≡ n.variables + k

bind_all_yields : (scope : FormScope) (n : Counts) (xs : List Ident) (ts : List Form) (inner : FormScope) → BindsForms scope xs ts inner → n.variables + length xs ≤ 200 → Yields (bind_all scope n xs ts) (BoundTo n (length xs) inner)
bind_all_yields scope n [] [] inner h le = yields_ok (scope, n) (record { scope = sym h; expressions = refl; variables = omega arith })
bind_all_yields scope n [] (t ∷ ts) inner h le = absurd h
bind_all_yields scope n (x ∷ xs) [] inner h le = absurd h
bind_all_yields scope n (x ∷ xs) (t ∷ ts) inner h le =
    then_yields (new_variable_yields scope n x h.0 (omega (arith, le))) (λ m p. let p0 = p.0 in let p1 = p.1 in
    let o = bind_all_yields (form_bound x t scope) m xs ts inner h.1 (omega (arith, le, p1)) in let oe = o.so.expressions in let ov = o.so.variables in
    record { value = o.value; is = o.is; so = record { scope = o.so.scope; expressions = oe ∙ p0; variables = omega (arith, ov, p1) } })

part_variable_yields : (i : ℕ) (scope : FormScope) (n : Counts) (x : Ident) → IsNew scope x → i < 8 → n.variables < 200 → Yields (part_variable i scope n x) (λ m. (m.expressions ≡ n.expressions) × (m.variables ≡ n.variables + 1))
part_variable_yields i scope n x h l lt = record { value = record n { variables = n.variables + 1 }; is = part_new i scope n x l ∙ new_variable_ok scope n x h lt; so = (refl, refl) }

bind_parts_yields : (i : ℕ) (scope : FormScope) (n : Counts) (xs : List Ident) (ts : List Form) (inner : FormScope) → BindsForms scope xs ts inner → i + length xs ≤ 8 → n.variables + length xs ≤ 200 → Yields (bind_parts i scope n xs ts) (BoundTo n (length xs) inner)
bind_parts_yields i scope n [] [] inner h l le = yields_ok (scope, n) (record { scope = sym h; expressions = refl; variables = omega arith })
bind_parts_yields i scope n [] (t ∷ ts) inner h l le = absurd h
bind_parts_yields i scope n (x ∷ xs) [] inner h l le = absurd h
bind_parts_yields i scope n (x ∷ xs) (t ∷ ts) inner h l le =
    then_yields (part_variable_yields i scope n x h.0 (omega (arith, l)) (omega (arith, le))) (λ m p. let p0 = p.0 in let p1 = p.1 in
    let o = bind_parts_yields (suc i) (form_bound x t scope) m xs ts inner h.1 (omega (arith, l)) (omega (arith, le, p1)) in let oe = o.so.expressions in let ov = o.so.variables in
    record { value = o.value; is = o.is; so = record { scope = o.so.scope; expressions = oe ∙ p0; variables = omega (arith, ov, p1) } })

binds_long : (scope : FormScope) (xs : List Ident) (ts : List Form) (inner : FormScope) → BindsForms scope xs ts inner → length xs ≡ length ts
binds_long scope [] [] inner h = refl
binds_long scope [] (t ∷ ts) inner h = absurd h
binds_long scope (x ∷ xs) [] inner h = absurd h
binds_long scope (x ∷ xs) (t ∷ ts) inner h = let e = binds_long (form_bound x t scope) xs ts inner h.1 in omega (arith, e)

-- The types for the variables of a binding, as a list of as many.
may_bind : (xs : List Ident) (ts : List Form) → length xs ≡ length ts → MayGive (standing_for xs) (as_results ts)
may_bind [] [] l = tt
may_bind [] (t ∷ ts) l = absurd (omega (arith, l))
may_bind (x ∷ []) [] l = absurd (omega (arith, l))
may_bind (x ∷ []) (t ∷ []) l = tt
may_bind (x ∷ []) (t ∷ u ∷ us) l = absurd (omega (arith, l))
may_bind (x ∷ y ∷ ys) [] l = absurd (omega (arith, l))
may_bind (x ∷ y ∷ ys) (t ∷ []) l = absurd (omega (arith, l))
may_bind (x ∷ y ∷ ys) (t ∷ u ∷ us) l = tt

types_bound_ok : (xs : List Ident) (part : FormPart) (ts : List Form) → 1 ≤ length xs → length xs ≡ length ts → part.ty ≡ as_results ts → types_bound xs part ≡ Ok ts
types_bound_ok [] part ts some l e = absurd (omega (arith, some))
types_bound_ok (x ∷ []) part [] some l e = absurd (omega (arith, l))
types_bound_ok (x ∷ []) part (t ∷ []) some l e = ap (λ z. and_then z (λ t. Ok (t ∷ []))) (single_ok part.ty part.place t e)
types_bound_ok (x ∷ []) part (t ∷ u ∷ us) some l e = absurd (omega (arith, l))
types_bound_ok (x ∷ y ∷ ys) part [] some l e = absurd (omega (arith, l))
types_bound_ok (x ∷ y ∷ ys) part (t ∷ []) some l e = absurd (omega (arith, l))
types_bound_ok (x ∷ y ∷ ys) part (t ∷ u ∷ us) some l e =
    ap (parts_for (length (x ∷ y ∷ ys)) x part) e ∙ ap (λ z. and_then z (λ _. Ok (t ∷ u ∷ us))) (as_many_ok (length (t ∷ u ∷ us)) (length (x ∷ y ∷ ys)) x (sym l))

use_fits_ok : (g : GenericGlobals) (vars : List ℕ) (x : Ident) (ws : WrittenTypes) (count variables due : ℕ) → count_written ws ≡ variables → AreKnownTypes g.datas vars ws → count ≡ due → use_fits g vars x ws count variables due ≡ Ok (tt {0})
use_fits_ok g vars x ws count variables due many h long =
    ap (λ z. and_then (and_then z (λ _. all_known g.datas vars ws)) (λ _. as_many count due x)) (as_many_ok (count_written ws) variables x many)
    ∙ ap (λ z. and_then z (λ _. as_many count due x)) (all_known_ok g.datas vars ws h)
    ∙ as_many_ok count due x long

-- The variables of a binding come into scope.
bind_given_yields : (scope : FormScope) (n : Counts) (xs : List Ident) (part : FormPart) (ts : List Form) (inner : FormScope) → AreNames xs → BindsForms scope xs ts inner → part.ty ≡ as_results ts → n.variables + length xs ≤ 200 → Yields (bind_given scope n xs part) (BoundTo n (length xs) inner)
bind_given_yields scope n xs part ts inner few binds e le =
    then_yields (yields ts (types_bound_ok xs part ts few.0 (binds_long scope xs ts inner binds) e)) (λ us q.
    bind_parts_yields 0 scope n xs us inner (subst (λ z. BindsForms scope xs z inner) (sym q) binds) (let l = few.1 in omega (arith, l)) le)

-- So those of two sides.
bind_sides_yields : (scope middle inner : FormScope) (n : Counts) (xs : List Ident) (left : FormPart) (ts : List Form) (ys : List Ident) (right : FormPart) (us : List Form) → AreNames xs → AreNames ys → BindsForms scope xs ts middle → BindsForms middle ys us inner → left.ty ≡ as_results ts → right.ty ≡ as_results us → n.variables + (length xs + length ys) ≤ 200 → Yields (bind_sides scope n xs left ys right) (BoundTo n (length xs + length ys) inner)
bind_sides_yields scope middle inner n xs left ts ys right us few others bx by' ex ey le =
    then_yields (yields ts (types_bound_ok xs left ts few.0 (binds_long scope xs ts middle bx) ex)) (λ vs e.
    then_yields (yields us (types_bound_ok ys right us others.0 (binds_long middle ys us inner by') ey)) (λ ws f.
    then_yields (bind_parts_yields 0 scope n xs vs middle (subst (λ z. BindsForms scope xs z middle) (sym e) bx) (let l = few.1 in omega (arith, l)) (omega (arith, le))) (λ mid q. let q0 = q.expressions in let q1 = q.variables in
    let binds : BindsForms mid.0 ys ws inner = subst (λ z. BindsForms z ys ws inner) (sym q.scope) (subst (λ z. BindsForms middle ys z inner) (sym f) by') in
    let o = bind_parts_yields 0 mid.0 mid.1 ys ws inner binds (let l = others.1 in omega (arith, l)) (omega (arith, le, q1)) in let w0 = o.so.expressions in let w1 = o.so.variables in
    record { value = o.value; is = o.is; so = record { scope = o.so.scope; expressions = omega (arith, q0, w0); variables = omega (arith, q1, w1) } })))

may_stand_ok : (st : Standing) (n : ℕ) (at : Span) (ts : List Form) → MayGive st (Several ts) → n ≡ length ts → may_stand st n at ≡ Ok (tt {0})
may_stand_ok standing.NoTuple n at ts u l = absurd u
may_stand_ok standing.AnyTuple n at ts u l = refl
may_stand_ok (standing.TupleOf due) n at ts u l = ap (λ b. allowed b kind.Count at (tt {0})) (eq-eqb n due (l ∙ u))

have_long : (g : GenericGlobals) (vars : List ℕ) (m : Meant) (scope : FormScope) (xs : GenericArguments) (ts : List Form) → HaveForms g vars m scope xs ts → argument_count xs ≡ length ts
have_long g vars m scope GenericNoArgument [] h = refl
have_long g vars m scope GenericNoArgument (t ∷ ts) h = absurd h
have_long g vars m scope (GenericArgument a xs) [] h = absurd h
have_long g vars m scope (GenericArgument a xs) (t ∷ ts) h = let e = have_long g vars m scope xs ts h.1 in omega (arith, e)

row_there : (g : GenericGlobals) (vars : List ℕ) (m : Meant) (scope : FormScope) (t : ℕ) (ts : Forms) (k : Ident) (xs : List Ident) (e : GenericExpression) (ty : Results Form) (h : OneArmHas g vars m scope t ts k xs e ty) → row_named g.rows (number_of k) ≡ Some h.1
row_there g vars m scope t ts k xs e ty h = row_join g.rows (place_named g.rows (number_of k)) h.0 h.1 h.3 h.4

one_counted : (g : GenericGlobals) (vars : List ℕ) (m : Meant) (scope : FormScope) (t : ℕ) (ts : Forms) (k : Ident) (xs : List Ident) (e : GenericExpression) (ty : Results Form) → OneArmHas g vars m scope t ts k xs e ty → length xs ≡ field_count (row_named g.rows (number_of k))
one_counted g vars m scope t ts k xs e ty h =
    binds_long scope xs (field_forms h.1 ts) h.2 h.6 ∙ length-map h.1.fields (formed (assign h.1.variables ts)) ∙ ap field_count (sym (row_there g vars m scope t ts k xs e ty h))

arms_declared : (g : GenericGlobals) (vars : List ℕ) (m : Meant) (scope : FormScope) (t : ℕ) (ts : Forms) (arms : GenericArms) (ty : Results Form) → ArmsHaveForm g vars m scope t ts arms ty → AllDeclared g.rows (heads arms)
arms_declared g vars m scope t ts (GenericLastArm k xs e) ty h = ((h.1, row_there g vars m scope t ts k xs e ty h), tt)
arms_declared g vars m scope t ts (GenericNextArm k xs e arms) ty h = ((h.0.1, row_there g vars m scope t ts k xs e ty h.0), arms_declared g vars m scope t ts arms ty h.1)

arms_counted : (g : GenericGlobals) (vars : List ℕ) (m : Meant) (scope : FormScope) (t : ℕ) (ts : Forms) (arms : GenericArms) (ty : Results Form) → ArmsHaveForm g vars m scope t ts arms ty → AllCounted g.rows (heads arms)
arms_counted g vars m scope t ts (GenericLastArm k xs e) ty h = (one_counted g vars m scope t ts k xs e ty h, tt)
arms_counted g vars m scope t ts (GenericNextArm k xs e arms) ty h = (one_counted g vars m scope t ts k xs e ty h.0, arms_counted g vars m scope t ts arms ty h.1)

-- An answer of this type, behind so many expressions and variables.
pub record Told (n : Counts) (t : Results Form) (es vs : ℕ) (r : Results Form × Counts) : Type 0 where
  pub type : r.0 ≡ t
  pub expressions : r.1.expressions ≡ n.expressions + es
  pub variables : r.1.variables ≡ n.variables + vs

pub record AllTold (n : Counts) (ts : List Form) (es vs : ℕ) (r : List FormPart × Counts) : Type 0 where
  pub types : PartsAre r.0 ts
  pub expressions : r.1.expressions ≡ n.expressions + es
  pub variables : r.1.variables ≡ n.variables + vs

pub record ArmsTold (n : Counts) (t : Results Form) (es vs : ℕ) (r : List FormPart × Counts) : Type 0 where
  pub each : EachHas t r.0
  pub first : first_type r.0 ≡ t
  pub expressions : r.1.expressions ≡ n.expressions + es
  pub variables : r.1.variables ≡ n.variables + vs

arm_ok : (g : GenericGlobals) (vars : List ℕ) (m : Meant) (st : Standing) (scope : FormScope) (t : ℕ) (ts : Forms) (n : Counts) (k : Ident) (xs : List Ident) (e : GenericExpression) (ty : Results Form) (h : OneArmHas g vars m scope t ts k xs e ty) → ((o : Counts) (within : FormScope) → within ≡ h.2 → o.expressions + generic_expressions e ≤ 2000 → o.variables + generic_bindings e ≤ 200 → Yields (infer g vars m st within o e) (Told o ty (generic_expressions e) (generic_bindings e))) → n.expressions + generic_expressions e ≤ 2000 → n.variables + (length xs + generic_bindings e) ≤ 200 → Yields (infer_arm g.rows ts scope n k xs (λ inner o. infer g vars m st inner o e)) (Told n ty (generic_expressions e) (length xs + generic_bindings e))
arm_ok g vars m st scope t ts n k xs e ty h go le lv =
    let fields : fields_if (row_named g.rows (number_of k)) ts ≡ field_forms h.1 ts = ap (λ z. fields_if z ts) (row_there g vars m scope t ts k xs e ty h) in
    let binds : BindsForms scope xs (fields_if (row_named g.rows (number_of k)) ts) h.2 = subst (λ z. BindsForms scope xs z h.2) (sym fields) h.6 in
    then_yields (bind_all_yields scope n xs (fields_if (row_named g.rows (number_of k)) ts) h.2 binds (omega (arith, lv))) (λ r p. let pe = p.expressions in let pv = p.variables in
    let o = go r.1 r.0 p.scope (omega (arith, pe, le)) (omega (arith, pv, lv)) in let oe = o.so.expressions in let ov = o.so.variables in
    record { value = o.value; is = o.is; so = record { type = o.so.type; expressions = omega (arith, oe, pe); variables = omega (arith, ov, pv) } })

mutual
  pub infer_ok : (g : GenericGlobals) (vars : List ℕ) (m : Meant) (st : Standing) (scope : FormScope) (n : Counts) (e : GenericExpression) (t : Results Form) → HasForm g vars m scope e t → MayGive st t → n.expressions + generic_expressions e ≤ 2000 → n.variables + generic_bindings e ≤ 200 → Yields (infer g vars m st scope n e) (Told n t (generic_expressions e) (generic_bindings e))
  infer_ok g vars m st scope n (GenericVar x) t h u le lv =
      then_yields (one_more_yields n x.span (omega (arith, le))) (λ o p. let p0 = p.0 in let p1 = p.1 in
      then_yields (yields h.0 (found_ok (form_in scope (number_of x)) kind.Unknown x.span h.0 h.2)) (λ s q.
      yields_ok (One s, o) (record { type = ap One q ∙ sym h.1; expressions = p0; variables = omega (arith, p1) })))
  infer_ok g vars m st scope n (GenericNum p v) t h u le lv =
      then_yields (one_more_yields n p (omega (arith, le))) (λ o p. let p0 = p.0 in let p1 = p.1 in
      yields_ok (One WholeForm, o) (record { type = sym h; expressions = p0; variables = omega (arith, p1) }))
  infer_ok g vars m st scope n (GenericBit p b) t h u le lv =
      then_yields (one_more_yields n p (omega (arith, le))) (λ o p. let p0 = p.0 in let p1 = p.1 in
      yields_ok (One TruthForm, o) (record { type = sym h; expressions = p0; variables = omega (arith, p1) }))
  infer_ok g vars m st scope n (GenericParen p e) t h u le lv =
      let o = infer_ok g vars m st scope n e t h u le lv in
      record { value = o.value; is = o.is; so = record { type = o.so.type; expressions = o.so.expressions; variables = o.so.variables } }
  infer_ok g vars m st scope n (GenericOp p f a b) t h u le lv =
      then_yields (one_more_yields n p (omega (arith, le))) (λ o k. let k0 = k.0 in let k1 = k.1 in
      then_yields (infer_ok g vars m NoTuple scope o a (One WholeForm) h.1 tt (omega (arith, le, k0)) (omega (arith, lv, k1))) (λ x sx. let xe = sx.expressions in let xv = sx.variables in
      then_yields (infer_ok g vars m NoTuple scope x.1 b (One WholeForm) h.2 tt (omega (arith, le, k0, xe)) (omega (arith, lv, k1, xv))) (λ y sy. let ye = sy.expressions in let yv = sy.variables in
      then_yields (yields (tt {0}) (wanted_ok (One WholeForm) (record { ty = x.0; place = place a }) sx.type)) (λ _ _.
      then_yields (yields (tt {0}) (wanted_ok (One WholeForm) (record { ty = y.0; place = place b }) sy.type)) (λ _ _.
      yields_ok (One (operator_form f), y.1) (record { type = sym h.0; expressions = omega (arith, k0, xe, ye); variables = omega (arith, k1, xv, yv) }))))))
  infer_ok g vars m st scope n (GenericCall f ws xs) t h u le lv =
      then_yields (one_more_yields n f.span (omega (arith, le))) (λ o k. let k0 = k.0 in let k1 = k.1 in
      then_yields (yields h.0 (found_ok (generic_named g.functions (number_of f)) kind.Unknown f.span h.0 h.1)) (λ d q.
      let have : HaveForms g vars m scope xs (parameter_forms d (formed_all m ws)) = subst (λ z. HaveForms g vars m scope xs (parameter_forms z (formed_all m ws))) (sym q) h.5 in
      let many : count_written ws ≡ length d.variables = subst (λ (z : GenericFunctionTree). count_written ws ≡ length z.variables) (sym q) h.2 in
      let long = length-map d.parameters (λ (q : GenericParameterTree). formed (assign d.variables (formed_all m ws)) q.ty) in
      then_yields (yields (tt {0}) (use_fits_ok g vars f ws (argument_count xs) (length d.variables) (length d.parameters) many h.3 (have_long g vars m scope xs (parameter_forms d (formed_all m ws)) have ∙ long))) (λ _ _.
      then_yields (all_ok g vars m scope o xs (parameter_forms d (formed_all m ws)) have (omega (arith, le, k0)) (omega (arith, lv, k1))) (λ r s. let se = s.expressions in let sv = s.variables in
      then_yields (yields (result_forms d (formed_all m ws)) (ap (λ z. and_then z (λ _. Ok (result_forms d (formed_all m ws)))) (all_wanted_ok r.0 (parameter_forms d (formed_all m ws)) s.types))) (λ v e.
      yields_ok (v, r.1) (record { type = e ∙ ap (λ z. result_forms z (formed_all m ws)) q ∙ sym h.4; expressions = omega (arith, k0, se); variables = omega (arith, k1, sv) }))))))
  infer_ok g vars m st scope n (GenericMake c ws xs) t h u le lv =
      then_yields (one_more_yields n c.span (omega (arith, le))) (λ o p. let k0 = p.0 in let k1 = p.1 in
      then_yields (yields h.1 (found_ok (row_named g.rows (number_of c)) kind.Unknown c.span h.1 (row_join g.rows (place_named g.rows (number_of c)) h.0 h.1 h.2 h.3))) (λ d q.
      let have : HaveForms g vars m scope xs (field_forms d (formed_all m ws)) = subst (λ z. HaveForms g vars m scope xs (field_forms z (formed_all m ws))) (sym q) h.7 in
      let many : count_written ws ≡ length d.variables = subst (λ (z : GenericRow). count_written ws ≡ length z.variables) (sym q) h.4 in
      let long = length-map d.fields (formed (assign d.variables (formed_all m ws))) in
      then_yields (yields (tt {0}) (use_fits_ok g vars c ws (argument_count xs) (length d.variables) (length d.fields) many h.5 (have_long g vars m scope xs (field_forms d (formed_all m ws)) have ∙ long))) (λ _ _.
      then_yields (all_ok g vars m scope o xs (field_forms d (formed_all m ws)) have (omega (arith, le, k0)) (omega (arith, lv, k1))) (λ r s. let se = s.expressions in let sv = s.variables in
      then_yields (yields (One (DataForm d.owner (formed_all m ws))) (ap (λ z. and_then z (λ _. Ok (One (DataForm d.owner (formed_all m ws))))) (all_wanted_ok r.0 (field_forms d (formed_all m ws)) s.types))) (λ v e.
      yields_ok (v, r.1) (record { type = e ∙ ap (λ (z : GenericRow). One (DataForm z.owner (formed_all m ws))) q ∙ sym h.6; expressions = omega (arith, k0, se); variables = omega (arith, k1, sv) }))))))
  infer_ok g vars m st scope n (GenericLet p xs a b) t h u le lv =
      let many = binds_long scope xs h.0 h.1 h.4 in
      then_yields (one_more_yields n p (omega (arith, le))) (λ o k. let k0 = k.0 in let k1 = k.1 in
      then_yields (infer_ok g vars m (standing_for xs) scope o a (as_results h.0) h.3 (may_bind xs h.0 many) (omega (arith, le, k0)) (omega (arith, lv, k1))) (λ s ss. let se = ss.expressions in let sv = ss.variables in
      then_yields (bind_given_yields scope s.1 xs (record { ty = s.0; place = place a }) h.0 h.1 h.2 h.4 ss.type (omega (arith, lv, k1, sv))) (λ inner q. let q0 = q.expressions in let q1 = q.variables in
      let has : HasForm g vars m inner.0 b t = subst (λ z. HasForm g vars m z b t) (sym q.scope) h.5 in
      let i = infer_ok g vars m st inner.0 inner.1 b t has u (omega (arith, le, k0, se, q0)) (omega (arith, lv, k1, sv, q1)) in let oe = i.so.expressions in let ov = i.so.variables in
      record { value = i.value; is = i.is; so = record { type = i.so.type; expressions = omega (arith, k0, se, q0, oe); variables = omega (arith, k1, sv, q1, ov) } })))
  infer_ok g vars m st scope n (GenericPar p xs a ys b c) t h u le lv =
      let many = binds_long scope xs h.0 h.2 h.8 in let others = binds_long h.2 ys h.1 h.3 h.9 in
      then_yields (one_more_yields n p (omega (arith, le))) (λ o k. let k0 = k.0 in let k1 = k.1 in
      then_yields (infer_ok g vars m (standing_for xs) scope o a (as_results h.0) h.6 (may_bind xs h.0 many) (omega (arith, le, k0)) (omega (arith, lv, k1))) (λ s ss. let se = ss.expressions in let sv = ss.variables in
      then_yields (infer_ok g vars m (standing_for ys) scope s.1 b (as_results h.1) h.7 (may_bind ys h.1 others) (omega (arith, le, k0, se)) (omega (arith, lv, k1, sv))) (λ v vv. let ve = vv.expressions in let vv' = vv.variables in
      then_yields (bind_sides_yields scope h.2 h.3 v.1 xs (record { ty = s.0; place = place a }) h.0 ys (record { ty = v.0; place = place b }) h.1 h.4 h.5 h.8 h.9 ss.type vv.type (omega (arith, lv, k1, sv, vv'))) (λ inner q. let q0 = q.expressions in let q1 = q.variables in
      let has : HasForm g vars m inner.0 c t = subst (λ z. HasForm g vars m z c t) (sym q.scope) h.10 in
      let i = infer_ok g vars m st inner.0 inner.1 c t has u (omega (arith, le, k0, se, ve, q0)) (omega (arith, lv, k1, sv, vv', q1)) in let oe = i.so.expressions in let ov = i.so.variables in
      record { value = i.value; is = i.is; so = record { type = i.so.type; expressions = omega (arith, k0, se, ve, q0, oe); variables = omega (arith, k1, sv, vv', q1, ov) } }))))
  infer_ok g vars m st scope n (GenericIf p a b c) t h u le lv =
      then_yields (one_more_yields n p (omega (arith, le))) (λ o k. let k0 = k.0 in let k1 = k.1 in
      then_yields (infer_ok g vars m NoTuple scope o a (One TruthForm) h.0 tt (omega (arith, le, k0)) (omega (arith, lv, k1))) (λ x sx. let xe = sx.expressions in let xv = sx.variables in
      then_yields (infer_ok g vars m st scope x.1 b t h.1 u (omega (arith, le, k0, xe)) (omega (arith, lv, k1, xv))) (λ y sy. let ye = sy.expressions in let yv = sy.variables in
      then_yields (infer_ok g vars m st scope y.1 c t h.2 u (omega (arith, le, k0, xe, ye)) (omega (arith, lv, k1, xv, yv))) (λ z sz. let ze = sz.expressions in let zv = sz.variables in
      then_yields (yields (tt {0}) (wanted_ok (One TruthForm) (record { ty = x.0; place = place a }) sx.type)) (λ _ _.
      then_yields (yields (tt {0}) (wanted_ok y.0 (record { ty = z.0; place = place c }) (sz.type ∙ sym sy.type))) (λ _ _.
      yields_ok (y.0, z.1) (record { type = sy.type; expressions = omega (arith, k0, xe, ye, ze); variables = omega (arith, k1, xv, yv, zv) })))))))
  infer_ok g vars m st scope n (GenericCase p x arms) t h u le lv =
      then_yields (one_more_yields n p (omega (arith, le))) (λ o k. let k0 = k.0 in let k1 = k.1 in
      then_yields (yields (DataForm h.0 h.1) (found_ok (form_in scope (number_of x)) kind.Unknown x.span (DataForm h.0 h.1) h.2)) (λ s q.
      then_yields (yields (h.0, h.1) (ap (λ z. declared_type z x) q)) (λ d w.
      let have : ArmsHaveForm g vars m scope d.0 d.1 arms t = subst (λ (z : ℕ × Forms). ArmsHaveForm g vars m scope z.0 z.1 arms t) (sym w) h.4 in
      let covers' : CoversType g.rows d.0 (head_names (heads arms)) = subst (λ (z : ℕ × Forms). CoversType g.rows z.0 (head_names (heads arms))) (sym w) (subst (λ z. CoversType g.rows h.0 z) (sym (names-heads arms)) h.3) in
      then_yields (yields (tt {0}) (all_declared_ok g.rows (heads arms) (arms_declared g vars m scope d.0 d.1 arms t have))) (λ _ _.
      then_yields (yields (tt {0}) (ap (λ b. allowed b kind.Arms p (tt {0})) (covers_ok g.rows d.0 (head_names (heads arms)) covers'))) (λ _ _.
      then_yields (yields (tt {0}) (all_counted_ok g.rows (heads arms) (arms_counted g vars m scope d.0 d.1 arms t have))) (λ _ _.
      then_yields (arms_ok g vars m st d.0 d.1 scope o arms t have u (omega (arith, le, k0)) (omega (arith, lv, k1))) (λ r i. let oe = i.expressions in let ov = i.variables in
      then_yields (yields (tt {0}) (ap (λ z. all_of z r.0) i.first ∙ all_of_ok t r.0 i.each)) (λ _ _.
      yields_ok (first_type r.0, r.1) (record { type = i.first; expressions = omega (arith, k0, oe); variables = omega (arith, k1, ov) })))))))))
  infer_ok g vars m st scope n (GenericTuple p xs) t h u le lv =
      then_yields (one_more_yields n p (omega (arith, le))) (λ o k. let k0 = k.0 in let k1 = k.1 in
      then_yields (yields (tt {0}) (may_stand_ok st (argument_count xs) p h.0 (subst (MayGive st) h.1 u) (have_long g vars m scope xs h.0 h.2))) (λ _ _.
      then_yields (all_ok g vars m scope o xs h.0 h.2 (omega (arith, le, k0)) (omega (arith, lv, k1))) (λ r s. let se = s.expressions in let sv = s.variables in
      then_yields (yields h.0 (all_single_ok r.0 h.0 s.types)) (λ ts q.
      yields_ok (Several ts, r.1) (record { type = ap Several q ∙ sym h.1; expressions = omega (arith, k0, se); variables = omega (arith, k1, sv) })))))

  pub all_ok : (g : GenericGlobals) (vars : List ℕ) (m : Meant) (scope : FormScope) (n : Counts) (xs : GenericArguments) (ts : List Form) → HaveForms g vars m scope xs ts → n.expressions + all_generic_expressions xs ≤ 2000 → n.variables + all_generic_bindings xs ≤ 200 → Yields (infer_all g vars m scope n xs) (AllTold n ts (all_generic_expressions xs) (all_generic_bindings xs))
  all_ok g vars m scope n GenericNoArgument [] h le lv = yields_ok ([], n) (record { types = tt; expressions = omega arith; variables = omega arith })
  all_ok g vars m scope n GenericNoArgument (t ∷ ts) h le lv = absurd h
  all_ok g vars m scope n (GenericArgument a xs) [] h le lv = absurd h
  all_ok g vars m scope n (GenericArgument a xs) (t ∷ ts) h le lv =
      then_yields (infer_ok g vars m NoTuple scope n a (One t) h.0 tt (omega (arith, le)) (omega (arith, lv))) (λ x sx. let xe = sx.expressions in let xv = sx.variables in
      then_yields (all_ok g vars m scope x.1 xs ts h.1 (omega (arith, le, xe)) (omega (arith, lv, xv))) (λ r s. let se = s.expressions in let sv = s.variables in
      yields_ok (record { ty = x.0; place = place a } ∷ r.0, r.1) (record { types = (sx.type, s.types); expressions = omega (arith, xe, se); variables = omega (arith, xv, sv) })))

  pub arms_ok : (g : GenericGlobals) (vars : List ℕ) (m : Meant) (st : Standing) (t : ℕ) (ts : Forms) (scope : FormScope) (n : Counts) (arms : GenericArms) (ty : Results Form) → ArmsHaveForm g vars m scope t ts arms ty → MayGive st ty → n.expressions + arm_generic_expressions arms ≤ 2000 → n.variables + arm_generic_bindings arms ≤ 200 → Yields (infer_arms g vars m st ts scope n arms) (ArmsTold n ty (arm_generic_expressions arms) (arm_generic_bindings arms))
  arms_ok g vars m st t ts scope n (GenericLastArm k xs e) ty h u le lv =
      then_yields (arm_ok g vars m st scope t ts n k xs e ty h (λ o within q a b. infer_ok g vars m st within o e ty (subst (λ z. HasForm g vars m z e ty) (sym q) h.7) u a b) le lv) (λ x sx.
      yields_ok (record { ty = x.0; place = place e } ∷ [], x.1) (record { each = (sx.type, tt); first = sx.type; expressions = sx.expressions; variables = sx.variables }))
  arms_ok g vars m st t ts scope n (GenericNextArm k xs e arms) ty h u le lv =
      then_yields (arm_ok g vars m st scope t ts n k xs e ty h.0 (λ o within q a b. infer_ok g vars m st within o e ty (subst (λ z. HasForm g vars m z e ty) (sym q) h.0.7) u a b) (omega (arith, le)) (omega (arith, lv))) (λ x sx. let xe = sx.expressions in let xv = sx.variables in
      then_yields (arms_ok g vars m st t ts scope x.1 arms ty h.1 u (omega (arith, le, xe)) (omega (arith, lv, xv))) (λ r s. let se = s.expressions in let sv = s.variables in
      yields_ok (record { ty = x.0; place = place e } ∷ r.0, r.1) (record { each = (sx.type, s.each); first = sx.type; expressions = omega (arith, xe, se); variables = omega (arith, xv, sv) })))
