-- The copy means what the program means, with the copies' constructors read as those that they are copies of.
use Rattle.std.proofs.Common.{◌≡◌, ℕ, ℤ, pos, Bool, true, false, ◌==◌, if◌then◌else◌, List, [], ◌∷◌, ◌++◌, map, Option, Some, None, refl, sym, ap, ◌∙◌, subst}
use Rattle.std.specs.Prelude.{slice_get}
use Rattle.std.specs.List.{AllByRecursion}
use Rattle.std.proofs.lemmas.Option.{same_Some}
use Rattle.std.proofs.lemmas.Bool.{eqb-true, eq-eqb}
use Rattle.gib_base.specs.declared.Span.{Span}
use Rattle.gib_types.specs.declared.table.Ty.{Ty}
use Rattle.gib_types.specs.declared.table.Ty.TheVariants.{Whole, Truth, Tree}
use Rattle.gib_types.specs.Table.{Table, con_at, fields_at, is_scalar, at_fields}
use Rattle.gib_types.specs.Tree.{Datum, whole, truth, con, Data, none, more, data_of, list_of, HasType, HaveTypes}
use Rattle.gib_syntax.specs.declared.tree.Ident.{Ident}
use Rattle.gib_types.specs.declared.operator.Operator.{Operator}
use Rattle.gib_syntax.specs.Declarations.{number_of, AreDifferent, type_of_name, constructor_names, constructor_named}
use Rattle.gib_syntax.specs.Meaning.{Outcome, Gives, Stops, Environment, value_in, bind, bind_results, tuple, with_value, with_values, with_fields, number_in, is_true, is_made_by, parts, operate, is_by_zero, outcome_unless, outcome, made, choose, eval, eval_all, eval_arms, HasResults, OutcomeGives}
use Rattle.gib_syntax.proofs.Soundness.{Agrees, AllHave, CallsHave, place_within, binds_agree, results_agree, data_list, eval_has, all_have}
use Rattle.gib_syntax.specs.Forms.{Form, Forms, WholeForm, TruthForm, VariableForm, DataForm, Meant, formed_all}
use Rattle.gib_syntax.specs.GenericTree.{GenericExpression, GenericArguments, GenericArms, GenericVar, GenericNum, GenericBit, GenericParen, GenericOp, GenericCall, GenericMake, GenericLet, GenericPar, GenericIf, GenericCase, GenericTuple, GenericNoArgument, GenericArgument, GenericLastArm, GenericNextArm, GenericFunctionTree, GenericRow, place_named, generic_named}
use Rattle.gib_syntax.specs.GenericFine.{IsGenericFine, AreGenericParts, AreGenericFine, HasGenericFine}
use Rattle.gib_syntax.specs.Results.{Results, One, Several, map_results, as_results}
use Rattle.gib_syntax.specs.GenericTyping.{FormScope, form_in, BindsForms, operator_form, field_forms, parameter_forms, result_forms, HasForm, HaveForms, ArmsHaveForm}
use Rattle.gib_syntax.proofs.Operators.{either_value}
use Rattle.gib_syntax.specs.GenericMeaning.{kind_of, kinds_at, made_at, meant, meant_all, meant_arms}
use Rattle.gib_mono.specs.Copying.{copy, copy_all, copy_arms, copy_variables, name_of_form, forms_of_all, bound_forms, forms_named, bind_forms}
use Rattle.gib_mono.specs.Copied.{IsItem, IsHere, Setting, plain, IsCopyOf, IsAsked, AreAsked, ArmsAsked, IsCopied, ScopeHere, plain_scope, shown, shown_all, shown_results, shown_outcome, shown_given, shown_environment}
use Rattle.gib_mono.proofs.Scopes.{in_plain, binds_plain, binds_inner, binds_here, forms_is, owner_is, arguments_is, forms_are, bound_is, results_here, all_here, bound_all_here}
use Rattle.gib_mono.proofs.Covering.{own_copy}
use Rattle.gib_mono.proofs.Bindings.{let_eval, par_eval, variable_names}
use Rattle.gib_mono.proofs.Typing.{names_plain, plain_as, copy_has, copies_have}
use Rattle.gib_mono.proofs.Fine.{fine_copied, all_fine_copied}

-- Values and outcomes

value_shown : (base : ℕ → ℕ) (env : Environment) (x : ℕ) → shown base (value_in env x) ≡ value_in (shown_environment base env) x
value_shown base [] x = refl
value_shown base (b ∷ env) x = value_step base (b.0 == x) b.1 (value_in env x) (value_in (shown_environment base env) x) (value_shown base env x) where
  value_step : (base : ℕ → ℕ) (b : Bool) (v w : Datum) (u : Datum) → shown base w ≡ u → shown base (if b then v else w) ≡ (if b then shown base v else u)
  value_step base true v w u h = refl
  value_step base false v w u h = h

pub bind_shown : (base : ℕ → ℕ) (xs : List Ident) (vs : List Datum) (env : Environment) → shown_environment base (bind xs vs env) ≡ bind xs (map (shown base) vs) (shown_environment base env)
bind_shown base [] vs env = refl
bind_shown base (x ∷ xs) [] env = refl
bind_shown base (x ∷ xs) (v ∷ vs) env = bind_shown base xs vs ((number_of x, v) ∷ env)

list_shown : (base : ℕ → ℕ) (vs : Data) → list_of (shown_all base vs) ≡ map (shown base) (list_of vs)
list_shown base none = refl
list_shown base (more v vs) = ap (λ (us : List Datum). shown base v ∷ us) (list_shown base vs)

data_shown : (base : ℕ → ℕ) (vs : List Datum) → shown_all base (data_of vs) ≡ data_of (map (shown base) vs)
data_shown base [] = refl
data_shown base (v ∷ vs) = ap (λ (us : Data). more (shown base v) us) (data_shown base vs)

number_shown : (base : ℕ → ℕ) (v : Datum) → number_in (shown base v) ≡ number_in v
number_shown base (whole z) = refl
number_shown base (truth b) = refl
number_shown base (con k vs) = refl

true_shown : (base : ℕ → ℕ) (v : Datum) → is_true (shown base v) ≡ is_true v
true_shown base (whole z) = refl
true_shown base (truth b) = refl
true_shown base (con k vs) = refl

operate_shown : (base : ℕ → ℕ) (f : Operator) (x y : ℤ) → shown base (operate f x y) ≡ operate f x y
operate_shown base f x y = either_value (λ v. shown base v ≡ v) (λ n. refl) (λ b. refl) f x y

-- an outcome of one thing
pub one_shown : (base : ℕ → ℕ) (f : Form) (o : Outcome) → shown_given base (One f) o ≡ shown_outcome base o
one_shown base f (Gives v) = refl
one_shown base f (Stops why) = refl

unless_shown : (base : ℕ → ℕ) (f : Form) (b : Bool) (v : Datum) → shown base v ≡ v → shown_given base (One f) (outcome_unless b v) ≡ outcome_unless b v
unless_shown base f true v h = refl
unless_shown base f false v h = ap Gives h

operation_shown : (base : ℕ → ℕ) (t : Form) (f : Operator) (x y : ℤ) → shown_given base (One t) (outcome f x y) ≡ outcome f x y
operation_shown base t f x y = unless_shown base t (is_by_zero f y) (operate f x y) (operate_shown base f x y)

with_given_shown : (base : ℕ → ℕ) (table : Table) (first : Results Form) (due : Results Ty) (last : Results Form) (r q : Outcome) (go went : Datum → Outcome) → OutcomeGives table due r → shown_given base first r ≡ q →
    ((v : Datum) → HasResults table v due → shown_given base last (go v) ≡ went (shown_results base first v)) → shown_given base last (with_value r go) ≡ with_value q went
with_given_shown base table first due last (Gives v) q go went h e k = k v h ∙ ap (λ (u : Outcome). with_value u went) e
with_given_shown base table first due last (Stops why) q go went h e k = ap (λ (u : Outcome). with_value u went) e

with_values_shown : (base : ℕ → ℕ) (table : Table) (ts : List Ty) (last : Results Form) (rs : List Outcome) (go went : List Datum → Outcome) → AllHave table ts rs →
    ((vs : List Datum) → HaveTypes table (data_of vs) ts → shown_given base last (go vs) ≡ went (map (shown base) vs)) → shown_given base last (with_values rs go) ≡ with_values (map (shown_outcome base) rs) went
with_values_shown base table [] last [] go went h k = k [] (tt {0})
with_values_shown base table [] last (r ∷ rs) go went h k = absurd h
with_values_shown base table (t ∷ ts) last [] go went h k = absurd h
with_values_shown base table (t ∷ ts) last (Stops why ∷ rs) go went h k = refl
with_values_shown base table (t ∷ ts) last (Gives v ∷ rs) go went h k =
    with_values_shown base table ts last rs (λ vs. go (v ∷ vs)) (λ vs. went (shown base v ∷ vs)) h.1 (λ vs hs. k (v ∷ vs) (h.0, hs))

-- values of any types
any_shown : (base : ℕ → ℕ) (last : Results Form) (rs : List Outcome) (go went : List Datum → Outcome) → ((vs : List Datum) → shown_given base last (go vs) ≡ went (map (shown base) vs)) →
    shown_given base last (with_values rs go) ≡ with_values (map (shown_outcome base) rs) went
any_shown base last [] go went k = k []
any_shown base last (Stops why ∷ rs) go went k = refl
any_shown base last (Gives v ∷ rs) go went k = any_shown base last rs (λ vs. go (v ∷ vs)) (λ vs. went (shown base v ∷ vs)) (λ vs. k (v ∷ vs))

-- Which fields are scalars

scalar_step : (s : Setting) (t : ℕ) (ts : Forms) (d : (i : ℕ) × (plain s (DataForm t ts) ≡ Tree (record { 0 = i }))) → is_scalar (plain s (DataForm t ts)) ≡ false
scalar_step s t ts d = ap is_scalar d.1

scalars_same : (s : Setting) (f : Form) → IsCopied s → IsHere s.types f → is_scalar (plain s f) ≡ is_scalar (kind_of f)
scalars_same s WholeForm copied h = refl
scalars_same s TruthForm copied h = refl
scalars_same s (VariableForm x) copied h = absurd h
scalars_same s (DataForm t ts) copied h = scalar_step s t ts (copied.declared t ts h.0)

take_shown : (base : ℕ → ℕ) (b d : Bool) (r : Outcome) (rs : List Outcome) (qs : List Outcome) → b ≡ d → qs ≡ map (shown_outcome base) rs →
    (if d then shown_outcome base r ∷ qs else qs) ≡ map (shown_outcome base) (if b then r ∷ rs else rs)
take_shown base true d r rs qs e h = rw (sym e) (ap (λ (us : List Outcome). shown_outcome base r ∷ us) h)
take_shown base false d r rs qs e h = rw (sym e) h

leave_shown : (base : ℕ → ℕ) (b d : Bool) (r : Outcome) (rs : List Outcome) (qs : List Outcome) → b ≡ d → qs ≡ map (shown_outcome base) rs →
    (if d then qs else shown_outcome base r ∷ qs) ≡ map (shown_outcome base) (if b then rs else r ∷ rs)
leave_shown base true d r rs qs e h = rw (sym e) h
leave_shown base false d r rs qs e h = rw (sym e) (ap (λ (us : List Outcome). shown_outcome base r ∷ us) h)

fields_shown : (s : Setting) (b : Bool) (fs : List Form) (rs : List Outcome) → IsCopied s → AllByRecursion (IsHere s.types) fs →
    at_fields b (map kind_of fs) (map (shown_outcome s.base) rs) ≡ map (shown_outcome s.base) (at_fields b (map (plain s) fs) rs)
fields_shown s b [] rs copied h = refl
fields_shown s b (f ∷ fs) [] copied h = refl
fields_shown s true (f ∷ fs) (r ∷ rs) copied h =
    take_shown s.base (is_scalar (plain s f)) (is_scalar (kind_of f)) r (at_fields true (map (plain s) fs) rs) (at_fields true (map kind_of fs) (map (shown_outcome s.base) rs))
    (scalars_same s f copied h.0) (fields_shown s true fs rs copied h.1)
fields_shown s false (f ∷ fs) (r ∷ rs) copied h =
    leave_shown s.base (is_scalar (plain s f)) (is_scalar (kind_of f)) r (at_fields false (map (plain s) fs) rs) (at_fields false (map kind_of fs) (map (shown_outcome s.base) rs))
    (scalars_same s f copied h.0) (fields_shown s false fs rs copied h.1)

append_shown : (base : ℕ → ℕ) (rs qs : List Outcome) → map (shown_outcome base) (rs ++ qs) ≡ map (shown_outcome base) rs ++ map (shown_outcome base) qs
append_shown base [] qs = refl
append_shown base (r ∷ rs) qs = ap (λ (us : List Outcome). shown_outcome base r ∷ us) (append_shown base rs qs)

-- fields or parts, scalars first
with_fields_shown : (s : Setting) (last : Results Form) (fs : List Form) (rs : List Outcome) (go went : List Datum → Outcome) → IsCopied s → AllByRecursion (IsHere s.types) fs → ((vs : List Datum) → shown_given s.base last (go vs) ≡ went (map (shown s.base) vs)) →
    shown_given s.base last (with_fields (map (plain s) fs) rs go) ≡ with_fields (map kind_of fs) (map (shown_outcome s.base) rs) went
with_fields_shown s last fs rs go went copied here k =
    any_shown s.base last (at_fields true (map (plain s) fs) rs ++ at_fields false (map (plain s) fs) rs)
    (λ _. with_values rs go) (λ _. with_values (map (shown_outcome s.base) rs) went)
    (λ _. any_shown s.base last rs go went k)
    ∙ ap (λ (qs : List Outcome). with_values qs (λ _. with_values (map (shown_outcome s.base) rs) went))
    (append_shown s.base (at_fields true (map (plain s) fs) rs) (at_fields false (map (plain s) fs) rs)
    ∙ ap (λ (qs : List Outcome). qs ++ map (shown_outcome s.base) (at_fields false (map (plain s) fs) rs)) (sym (fields_shown s true fs rs copied here))
    ∙ ap (λ (qs : List Outcome). at_fields true (map kind_of fs) (map (shown_outcome s.base) rs) ++ qs) (sym (fields_shown s false fs rs copied here)))

-- a constructor
build_shown : (base : ℕ → ℕ) (f : Form) (c d : ℕ) (vs : List Datum) → base d ≡ c → shown_given base (One f) (Gives (con d (data_of vs))) ≡ Gives (con c (data_of (map (shown base) vs)))
build_shown base f c d vs e = ap (λ (n : ℕ). Gives (con n (shown_all base (data_of vs)))) e ∙ ap (λ (us : Data). Gives (con c us)) (data_shown base vs)

make_shown : (s : Setting) (f : Form) (c d : ℕ) (row : GenericRow) (ts : Forms) (k : ℕ) (rs : List Outcome) → IsCopied s → slice_get s.from.rows c ≡ Some row → AllByRecursion (IsHere s.types) (field_forms row ts) → IsCopyOf s c row ts k d →
    shown_given s.base (One f) (made s.to.table (Some d) rs) ≡ made_at s.from.rows (Some c) ts (map (shown_outcome s.base) rs)
make_shown s f c d row ts k rs copied e here is =
    ap (λ (us : List Ty). shown_given s.base (One f) (with_fields us rs (λ vs. Gives (con d (data_of vs))))) is.fields
    ∙ with_fields_shown s (One f) (field_forms row ts) rs (λ vs. Gives (con d (data_of vs))) (λ vs. Gives (con c (data_of vs))) copied here (λ vs. build_shown s.base f c d vs is.shown)
    ∙ ap (λ (u : Option GenericRow). with_fields (kinds_at u ts) (map (shown_outcome s.base) rs) (λ vs. Gives (con c (data_of vs)))) (sym e)

-- parts
parts_shown : (base : ℕ → ℕ) (ts : List Form) (vs : List Datum) → shown_given base (Several ts) (Gives (tuple vs)) ≡ Gives (tuple (map (shown base) vs))
parts_shown base ts vs = ap (λ (us : Data). Gives (con 0 us)) (data_shown base vs)

-- variables for what an expression gives
results_shown : (s : Setting) (xs : List Ident) (fs : List Form) (v : Datum) (scope inner : FormScope) (env : Environment) → BindsForms scope xs fs inner → HasResults s.to.table v (map_results (plain s) (as_results fs)) →
    shown_environment s.base (bind_results xs v env) ≡ bind_results xs (shown_results s.base (as_results fs) v) (shown_environment s.base env)
results_shown s [] fs v scope inner env b h = refl
results_shown s (x ∷ xs) [] v scope inner env b h = absurd b
results_shown s (x ∷ []) (f ∷ []) v scope inner env b h = refl
results_shown s (x ∷ []) (f ∷ g ∷ fs) v scope inner env b h = absurd b.1
results_shown s (x ∷ y ∷ ys) (f ∷ []) v scope inner env b h = absurd b.1
results_shown s (x ∷ y ∷ ys) (f ∷ g ∷ fs) v scope inner env b h =
    subst (λ (w : Datum). shown_environment s.base (bind (x ∷ y ∷ ys) (parts w) env) ≡ bind (x ∷ y ∷ ys) (parts (shown_results s.base (Several (f ∷ g ∷ fs)) w)) (shown_environment s.base env)) (sym h.1)
    (bind_shown s.base (x ∷ y ∷ ys) (list_of h.0) env ∙ ap (λ (us : List Datum). bind (x ∷ y ∷ ys) us (shown_environment s.base env)) (sym (list_shown s.base h.0)))

choose_shown : (base : ℕ → ℕ) (last : Results Form) (b d : Bool) (r s q u : Outcome) → b ≡ d → (b ≡ true → shown_given base last r ≡ q) → (b ≡ false → shown_given base last s ≡ u) → shown_given base last (choose b r s) ≡ choose d q u
choose_shown base last true d r s q u e h k = rw (sym e) (h refl)
choose_shown base last false d r s q u e h k = rw (sym e) (k refl)

-- Calls

-- calls of copies mean what calls mean
abbrev pub CallsShow : Setting → (ℕ → List Datum → Outcome) → (ℕ → Forms → List Datum → Outcome) → Type 0
CallsShow s call calls = (x : ℕ) (h : GenericFunctionTree) (ts : Forms) (vs : List Datum) → generic_named s.from.functions x ≡ Some h → IsItem s.functions x ts →
    HaveTypes s.to.table (data_of vs) (map (plain s) (parameter_forms h ts)) → shown_given s.base (result_forms h ts) (call (s.naming.functions x ts) vs) ≡ calls x ts (map (shown s.base) vs)

-- the arm of a copied constructor is taken where that of the constructor is
same_made : (s : Setting) (t : ℕ) (ts : Forms) (i k : ℕ) (ws : Data) (name c d : ℕ) (row : GenericRow) (p q : Option ℕ) → IsCopied s → IsItem s.types t ts → plain s (DataForm t ts) ≡ Tree (record { 0 = i }) → con_at s.to.table i k ≡ Some k →
    place_named s.from.rows name ≡ Some c → IsCopyOf s c row ts name d → p ≡ Some d → q ≡ Some c →
    is_made_by p (con k ws) ≡ is_made_by q (con (s.base k) (shown_all s.base ws))
same_made s t ts i k ws name c d row p q copied item is there placed own ep eq =
    rw ep (rw eq (same_step (d == k) (c == s.base k)
    (λ h. eq-eqb c (s.base k) (sym own.shown ∙ ap s.base (eqb-true d k h)))
    (λ h. eq-eqb d k (same_number (eqb-true c (s.base k) h))))) where
      same_step : (a b : Bool) → (a ≡ true → b ≡ true) → (b ≡ true → a ≡ true) → a ≡ b
      same_step true b h l = sym (h refl)
      same_step false true h l = l refl
      same_step false false h l = refl

      same_number : c ≡ s.base k → d ≡ k
      same_number e =
          let o = copied.only t ts i k item is there in
          let d' = own_copy s t ts o.0 copied item (o.1, o.2, o.3, o.4, o.5) in
          let here : d'.0 ≡ k = same_Some d'.0 k (sym d'.1.named ∙ o.7) in
          let base : c ≡ o.1 = e ∙ sym (ap s.base here) ∙ d'.1.shown in
          let names : name ≡ o.0 =
          same_Some name o.0 (sym (place_within (map (λ (r : GenericRow). r.name) s.from.rows) name c placed)
          ∙ ap (slice_get (map (λ (r : GenericRow). r.name) s.from.rows)) base ∙ place_within (map (λ (r : GenericRow). r.name) s.from.rows) o.0 o.1 o.3) in
          same_Some d k (sym own.named ∙ ap (λ (n : ℕ). constructor_named s.to.table (s.naming.constructors n ts)) names ∙ o.7)

-- what a copied expression gives has the copied type
pub gives_type : (s : Setting) (copied : IsCopied s) (distinct : AreDifferent (constructor_names s.to.table)) (call : ℕ → List Datum → Outcome) (well : CallsHave s.to call)
    (vars : List ℕ) (m : Meant) (e : GenericExpression) (r : Results Form) (scope : FormScope) (env : Environment) → IsGenericFine e → ScopeHere s scope → IsAsked s m e → HasForm s.from vars m scope e r → Agrees s.to.table (plain_scope s scope) env →
    OutcomeGives s.to.table (map_results (plain s) r) (eval s.to.table call (copy s.from s.naming m scope e) env)
gives_type s copied distinct call well vars m e r scope env fine here asked h agrees =
    eval_has s.to call distinct well (copy s.from s.naming m scope e) (map_results (plain s) r) (plain_scope s scope) env (fine_copied s.from s.naming m scope e fine) agrees (copy_has s copied vars m e r scope here asked h)

-- An expression of a scope means what its copy means.
abbrev pub MeansSame : Setting → (ℕ → List Datum → Outcome) → (ℕ → Forms → List Datum → Outcome) → Meant → GenericExpression → Results Form → Environment → FormScope → Type 0
MeansSame s call calls m e r env scope = shown_given s.base r (eval s.to.table call (copy s.from s.naming m scope e) env) ≡ meant s.from calls m scope e (shown_environment s.base env)

taken : (s : Setting) (d k : ℕ) (p : Option ℕ) (ws : Data) → p ≡ Some d → is_made_by p (con k ws) ≡ true → d ≡ k
taken s d k None ws e h = absurd cc
taken s d k (Some c) ws e h = sym (same_Some c d e) ∙ eqb-true c k h

-- one arm, taken
arm_shown : (s : Setting) (copied : IsCopied s) (vars : List ℕ) (m : Meant) (xs : List Ident) (e : GenericExpression) (ty : Results Form) (scope inner : FormScope) (ts : Forms) (c d k : ℕ) (row : GenericRow) (name : ℕ) (ws : Data) (env : Environment)
    (calls : ℕ → Forms → List Datum → Outcome) (call : ℕ → List Datum → Outcome) →
    ((env : Environment) → Agrees s.to.table (plain_scope s inner) env → MeansSame s call calls m e ty env inner) →
    place_named s.from.rows name ≡ Some c → slice_get s.from.rows c ≡ Some row → BindsForms scope xs (field_forms row ts) inner → IsCopyOf s c row ts name d →
    d ≡ k → HaveTypes s.to.table ws (fields_at s.to.table k) → Agrees s.to.table (plain_scope s scope) env →
    shown_given s.base ty (eval s.to.table call (copy s.from s.naming m (bind_forms xs (forms_named s.from.rows (place_named s.from.rows name) ts) scope) e) (bind xs (list_of ws) env))
    ≡ meant s.from calls m (bind_forms xs (forms_named s.from.rows (place_named s.from.rows name) ts) scope) e (bind xs (parts (con (s.base k) (shown_all s.base ws))) (shown_environment s.base env))
arm_shown s copied vars m xs e ty scope inner ts c d k row name ws env calls call go placed there binds own is typed agrees =
    let fields : fields_at s.to.table k ≡ map (plain s) (field_forms row ts) = ap (fields_at s.to.table) (sym is) ∙ own.fields in
    let inside : bind_forms xs (forms_named s.from.rows (place_named s.from.rows name) ts) scope ≡ inner =
    ap (λ (fs : List Form). bind_forms xs fs scope) (forms_is s.from.rows (place_named s.from.rows name) c row ts placed there) ∙ sym (binds_inner xs (field_forms row ts) scope inner binds) in
    subst (MeansSame s call calls m e ty (bind xs (list_of ws) env)) (sym inside)
    (go (bind xs (list_of ws) env)
    (binds_agree s.to.table xs (map (plain s) (field_forms row ts)) (list_of ws) (plain_scope s scope) (plain_scope s inner) env (binds_plain s xs (field_forms row ts) scope inner binds)
    (subst (λ (us : Data). HaveTypes s.to.table us (map (plain s) (field_forms row ts))) (sym (data_list ws)) (subst (λ (us : List Ty). HaveTypes s.to.table ws us) fields typed)) agrees))
    ∙ ap (λ (u : Environment). meant s.from calls m (bind_forms xs (forms_named s.from.rows (place_named s.from.rows name) ts) scope) e u) (bind_shown s.base xs (list_of ws) env ∙ ap (λ (us : List Datum). bind xs us (shown_environment s.base env)) (sym (list_shown s.base ws)))

-- a case on a value of a declared type is one on a constructor
case_shown : (s : Setting) (m : Meant) (arms : GenericArms) (ty : Results Form) (ts : Forms) (scope : FormScope) (env : Environment) (v : Datum) (i : ℕ) (calls : ℕ → Forms → List Datum → Outcome) (call : ℕ → List Datum → Outcome) → HasType s.to.table v (Tree (record { 0 = i })) →
    ((k : ℕ) (ws : Data) → con_at s.to.table i k ≡ Some k → HaveTypes s.to.table ws (fields_at s.to.table k) →
    shown_given s.base ty (eval_arms s.to.table call (copy_arms s.from s.naming m scope ts arms) (con k ws) env) ≡ meant_arms s.from calls m scope ts arms (shown s.base (con k ws)) (shown_environment s.base env)) →
    shown_given s.base ty (eval_arms s.to.table call (copy_arms s.from s.naming m scope ts arms) v env) ≡ meant_arms s.from calls m scope ts arms (shown s.base v) (shown_environment s.base env)
case_shown s m arms ty ts scope env (whole z) i calls call h go = absurd h
case_shown s m arms ty ts scope env (truth b) i calls call h go = absurd h
case_shown s m arms ty ts scope env (con k ws) i calls call h go = go k ws h.0 h.1

fine_inside : (f : Ident) (ws : Rattle.gib_syntax.specs.Forms.WrittenTypes) (xs : GenericArguments) → IsGenericFine (GenericCall f ws xs) → AreGenericFine xs
fine_inside f ws GenericNoArgument h = absurd h
fine_inside f ws (GenericArgument a xs) h = h

fine_parts : (p : Span) (xs : GenericArguments) → IsGenericFine (GenericTuple p xs) → AreGenericParts xs
fine_parts p GenericNoArgument h = absurd h
fine_parts p (GenericArgument a GenericNoArgument) h = absurd h
fine_parts p (GenericArgument a (GenericArgument b xs)) h = h

out_of_arms : (base : ℕ → ℕ) (r : Results Form) → shown_given base r (Gives (whole (pos 0))) ≡ Gives (whole (pos 0))
out_of_arms base (One f) = refl
out_of_arms base (Several fs) = refl

-- Expressions

mutual
  pub eval_shown : (s : Setting) (copied : IsCopied s) (distinct : AreDifferent (constructor_names s.to.table)) (call : ℕ → List Datum → Outcome) (calls : ℕ → Forms → List Datum → Outcome) (well : CallsHave s.to call) (show : CallsShow s call calls)
      (vars : List ℕ) (m : Meant) (e : GenericExpression) (ty : Results Form) (scope : FormScope) (env : Environment) → IsGenericFine e → ScopeHere s scope → IsAsked s m e → HasForm s.from vars m scope e ty → Agrees s.to.table (plain_scope s scope) env →
      MeansSame s call calls m e ty env scope
  eval_shown s copied distinct call calls well show vars m (GenericVar x) ty scope env fine here asked h agrees =
      ap (λ (r : Results Form). shown_given s.base r (Gives (value_in env (number_of x)))) h.1 ∙ ap Gives (value_shown s.base env (number_of x))
  eval_shown s copied distinct call calls well show vars m (GenericNum p n) ty scope env fine here asked h agrees = ap (λ (r : Results Form). shown_given s.base r (Gives (whole (pos n)))) h
  eval_shown s copied distinct call calls well show vars m (GenericBit p b) ty scope env fine here asked h agrees = ap (λ (r : Results Form). shown_given s.base r (Gives (truth b))) h
  eval_shown s copied distinct call calls well show vars m (GenericParen p e) ty scope env fine here asked h agrees = eval_shown s copied distinct call calls well show vars m e ty scope env fine here asked h agrees
  eval_shown s copied distinct call calls well show vars m (GenericOp p f a b) ty scope env fine here asked h agrees =
      ap (λ (r : Results Form). shown_given s.base r (eval s.to.table call (copy s.from s.naming m scope (GenericOp p f a b)) env)) h.0
      ∙ with_given_shown s.base s.to.table (One WholeForm) (One Whole) (One (operator_form f)) _ _ _ _ (gives_type s copied distinct call well vars m a (One WholeForm) scope env fine.0 here asked.0 h.1 agrees)
      (eval_shown s copied distinct call calls well show vars m a (One WholeForm) scope env fine.0 here asked.0 h.1 agrees)
      (λ x hx. with_given_shown s.base s.to.table (One WholeForm) (One Whole) (One (operator_form f)) _ _ _ _ (gives_type s copied distinct call well vars m b (One WholeForm) scope env fine.1 here asked.1 h.2 agrees)
      (eval_shown s copied distinct call calls well show vars m b (One WholeForm) scope env fine.1 here asked.1 h.2 agrees)
      (λ y hy. operation_shown s.base (operator_form f) f (number_in x) (number_in y)
      ∙ ap (λ (n : ℤ). outcome f n (number_in y)) (sym (number_shown s.base x)) ∙ ap (λ (n : ℤ). outcome f (number_in (shown s.base x)) n) (sym (number_shown s.base y))))
  eval_shown s copied distinct call calls well show vars m (GenericCall f ws xs) ty scope env fine here asked h agrees =
      ap (λ (r : Results Form). shown_given s.base r (eval s.to.table call (copy s.from s.naming m scope (GenericCall f ws xs)) env)) h.4
      ∙ with_values_shown s.base s.to.table (map (plain s) (parameter_forms h.0 (formed_all m ws))) (result_forms h.0 (formed_all m ws)) _ _ _
      (all_have s.to call distinct well (copy_all s.from s.naming m scope xs) (map (plain s) (parameter_forms h.0 (formed_all m ws))) (plain_scope s scope) env (all_fine_copied s.from s.naming m scope xs (fine_inside f ws xs fine)) agrees
      (copies_have s copied vars m xs (parameter_forms h.0 (formed_all m ws)) scope here asked.2 h.5))
      (λ vs hs. show (number_of f) h.0 (formed_all m ws) vs h.1 asked.0 hs)
      ∙ ap (λ (qs : List Outcome). with_values qs (calls (number_of f) (formed_all m ws)))
      (all_shown s copied distinct call calls well show vars m xs (parameter_forms h.0 (formed_all m ws)) scope env (fine_inside f ws xs fine) here asked.2 h.5 agrees)
  eval_shown s copied distinct call calls well show vars m (GenericMake k ws xs) ty scope env fine here asked h agrees =
      let item : IsItem s.types (h.1).owner (formed_all m ws) = subst (λ (n : ℕ). IsItem s.types n (formed_all m ws)) (owner_is s.from.rows (place_named s.from.rows (number_of k)) h.0 h.1 h.2 h.3) asked.0 in
      let c = copied.constructors (number_of k) h.0 h.1 (formed_all m ws) h.2 h.3 item in
      ap (λ (r : Results Form). shown_given s.base r (eval s.to.table call (copy s.from s.naming m scope (GenericMake k ws xs)) env)) h.6
      ∙ ap (λ (p : Option ℕ). shown_given s.base (One (DataForm (h.1).owner (formed_all m ws))) (made s.to.table p (eval_all s.to.table call (copy_all s.from s.naming m scope xs) env))) c.1.named
      ∙ make_shown s (DataForm (h.1).owner (formed_all m ws)) h.0 c.0 h.1 (formed_all m ws) (number_of k) (eval_all s.to.table call (copy_all s.from s.naming m scope xs) env) copied h.3 (copied.fields_here h.0 h.1 (formed_all m ws) h.3 item) c.1
      ∙ ap (λ (p : Option ℕ). made_at s.from.rows p (formed_all m ws) (map (shown_outcome s.base) (eval_all s.to.table call (copy_all s.from s.naming m scope xs) env))) (sym h.2)
      ∙ ap (λ (qs : List Outcome). made_at s.from.rows (place_named s.from.rows (number_of k)) (formed_all m ws) qs)
      (all_shown s copied distinct call calls well show vars m xs (field_forms h.1 (formed_all m ws)) scope env fine here asked.2 h.7 agrees)
  eval_shown s copied distinct call calls well show vars m (GenericLet p xs a b) ty scope env fine here asked h agrees =
      let fs = bound_forms s.from m scope a in
      let forms : fs ≡ h.0 = bound_is s.from vars m a h.0 scope h.3 in
      let all = bound_all_here s h.0 (results_here s copied vars m a (as_results h.0) scope here asked.0 h.3) in
      let inner : bind_forms xs fs scope ≡ h.1 = ap (λ (fs : List Form). bind_forms xs fs scope) forms ∙ sym (binds_inner xs h.0 scope h.1 h.4) in
      ap (shown_given s.base ty) (let_eval s.to.table call p xs (copy_variables s.naming xs fs) (copy s.from s.naming m scope a) (copy s.from s.naming m (bind_forms xs fs scope) b) env (variable_names s.naming xs fs))
      ∙ with_given_shown s.base s.to.table (as_results h.0) (map_results (plain s) (as_results h.0)) ty _ _ _ _ (gives_type s copied distinct call well vars m a (as_results h.0) scope env fine.1 here asked.0 h.3 agrees)
      (eval_shown s copied distinct call calls well show vars m a (as_results h.0) scope env fine.1 here asked.0 h.3 agrees)
      (λ v hv. subst (MeansSame s call calls m b ty (bind_results xs v env)) (sym inner)
      (eval_shown s copied distinct call calls well show vars m b ty h.1 (bind_results xs v env) fine.2 (binds_here s xs h.0 scope h.1 h.4 here all) asked.1 h.5
      (results_agree s.to.table xs (map (plain s) h.0) v (plain_scope s scope) (plain_scope s h.1) env (binds_plain s xs h.0 scope h.1 h.4) (subst (HasResults s.to.table v) (plain_as s h.0) hv) agrees))
      ∙ ap (λ (u : Environment). meant s.from calls m (bind_forms xs fs scope) b u) (results_shown s xs h.0 v scope h.1 env h.4 hv))
  eval_shown s copied distinct call calls well show vars m (GenericPar p xs a ys b c) ty scope env fine here asked h agrees =
      let fs = bound_forms s.from m scope a in
      let gs = bound_forms s.from m scope b in
      let left : fs ≡ h.0 = bound_is s.from vars m a h.0 scope h.6 in
      let right : gs ≡ h.1 = bound_is s.from vars m b h.1 scope h.7 in
      let lefts = bound_all_here s h.0 (results_here s copied vars m a (as_results h.0) scope here asked.0 h.6) in
      let rights = bound_all_here s h.1 (results_here s copied vars m b (as_results h.1) scope here asked.1 h.7) in
      let middle : bind_forms xs fs scope ≡ h.2 = ap (λ (fs : List Form). bind_forms xs fs scope) left ∙ sym (binds_inner xs h.0 scope h.2 h.8) in
      let inner : bind_forms ys gs (bind_forms xs fs scope) ≡ h.3 = ap (bind_forms ys gs) middle ∙ ap (λ (fs : List Form). bind_forms ys fs h.2) right ∙ sym (binds_inner ys h.1 h.2 h.3 h.9) in
      ap (shown_given s.base ty)
      (par_eval s.to.table call p xs ys (copy_variables s.naming xs fs) (copy_variables s.naming ys gs) (copy s.from s.naming m scope a) (copy s.from s.naming m scope b)
      (copy s.from s.naming m (bind_forms ys gs (bind_forms xs fs scope)) c) env (variable_names s.naming xs fs) (variable_names s.naming ys gs))
      ∙ with_given_shown s.base s.to.table (as_results h.0) (map_results (plain s) (as_results h.0)) ty _ _ _ _ (gives_type s copied distinct call well vars m a (as_results h.0) scope env fine.2 here asked.0 h.6 agrees)
      (eval_shown s copied distinct call calls well show vars m a (as_results h.0) scope env fine.2 here asked.0 h.6 agrees)
      (λ v hv. with_given_shown s.base s.to.table (as_results h.1) (map_results (plain s) (as_results h.1)) ty _ _ _ _ (gives_type s copied distinct call well vars m b (as_results h.1) scope env fine.3 here asked.1 h.7 agrees)
      (eval_shown s copied distinct call calls well show vars m b (as_results h.1) scope env fine.3 here asked.1 h.7 agrees)
      (λ w hw. subst (MeansSame s call calls m c ty (bind_results ys w (bind_results xs v env))) (sym inner)
      (eval_shown s copied distinct call calls well show vars m c ty h.3 (bind_results ys w (bind_results xs v env)) fine.4
      (binds_here s ys h.1 h.2 h.3 h.9 (binds_here s xs h.0 scope h.2 h.8 here lefts) rights) asked.2 h.10
      (results_agree s.to.table ys (map (plain s) h.1) w (plain_scope s h.2) (plain_scope s h.3) (bind_results xs v env) (binds_plain s ys h.1 h.2 h.3 h.9) (subst (HasResults s.to.table w) (plain_as s h.1) hw)
      (results_agree s.to.table xs (map (plain s) h.0) v (plain_scope s scope) (plain_scope s h.2) env (binds_plain s xs h.0 scope h.2 h.8) (subst (HasResults s.to.table v) (plain_as s h.0) hv) agrees)))
      ∙ ap (λ (u : Environment). meant s.from calls m (bind_forms ys gs (bind_forms xs fs scope)) c u)
      (results_shown s ys h.1 w h.2 h.3 (bind_results xs v env) h.9 hw ∙ ap (bind_results ys (shown_results s.base (as_results h.1) w)) (results_shown s xs h.0 v scope h.2 env h.8 hv))))
  eval_shown s copied distinct call calls well show vars m (GenericIf p a b c) ty scope env fine here asked h agrees =
      with_given_shown s.base s.to.table (One TruthForm) (One Truth) ty _ _ _ _ (gives_type s copied distinct call well vars m a (One TruthForm) scope env fine.0 here asked.0 h.0 agrees)
      (eval_shown s copied distinct call calls well show vars m a (One TruthForm) scope env fine.0 here asked.0 h.0 agrees)
      (λ v hv. choose_shown s.base ty (is_true v) (is_true (shown s.base v)) _ _ _ _ (sym (true_shown s.base v))
      (λ _. eval_shown s copied distinct call calls well show vars m b ty scope env fine.1 here asked.1 h.1 agrees)
      (λ _. eval_shown s copied distinct call calls well show vars m c ty scope env fine.2 here asked.2 h.2 agrees))
  eval_shown s copied distinct call calls well show vars m (GenericCase p x arms) ty scope env fine here asked h agrees =
      let item : IsItem s.types h.0 h.1 = (here (number_of x) (DataForm h.0 h.1) h.2).0 in
      let d = copied.declared h.0 h.1 item in
      let v = value_in env (number_of x) in
      subst (λ (us : Forms). shown_given s.base ty (eval_arms s.to.table call (copy_arms s.from s.naming m scope us arms) v env) ≡ meant_arms s.from calls m scope us arms (value_in (shown_environment s.base env) (number_of x)) (shown_environment s.base env))
      (sym (arguments_is (form_in scope (number_of x)) h.0 h.1 h.2))
      (case_shown s m arms ty h.1 scope env v d.0 calls call
      (agrees (number_of x) (Tree (record { 0 = d.0 })) (in_plain s scope (number_of x) (DataForm h.0 h.1) h.2 ∙ ap Some d.1))
      (λ k ws there typed. arms_shown s copied distinct call calls well show vars m arms ty scope env h.0 h.1 d.0 k ws fine here item d.1 there typed asked h.4 agrees)
      ∙ ap (λ (u : Datum). meant_arms s.from calls m scope h.1 arms u (shown_environment s.base env)) (value_shown s.base env (number_of x)))
  eval_shown s copied distinct call calls well show vars m (GenericTuple p xs) ty scope env fine here asked h agrees =
      let forms : forms_of_all s.from m scope xs ≡ h.0 = forms_are s.from vars m xs h.0 scope h.2 in
      ap (λ (r : Results Form). shown_given s.base r (eval s.to.table call (copy s.from s.naming m scope (GenericTuple p xs)) env)) h.1
      ∙ subst (λ (fs : List Form). shown_given s.base (Several h.0) (with_fields (map (type_of_name s.to.table.types) (map (name_of_form s.naming p) fs)) (eval_all s.to.table call (copy_all s.from s.naming m scope xs) env) (λ vs. Gives (tuple vs)))
      ≡ with_fields (map kind_of fs) (meant_all s.from calls m scope xs (shown_environment s.base env)) (λ vs. Gives (tuple vs))) (sym forms)
      (ap (λ (us : List Ty). shown_given s.base (Several h.0) (with_fields us (eval_all s.to.table call (copy_all s.from s.naming m scope xs) env) (λ vs. Gives (tuple vs)))) (names_plain s p h.0)
      ∙ with_fields_shown s (Several h.0) h.0 (eval_all s.to.table call (copy_all s.from s.naming m scope xs) env) (λ vs. Gives (tuple vs)) (λ vs. Gives (tuple vs)) copied (all_here s copied vars m xs h.0 scope here asked h.2) (parts_shown s.base h.0)
      ∙ ap (λ (qs : List Outcome). with_fields (map kind_of h.0) qs (λ vs. Gives (tuple vs))) (parts_all_shown s copied distinct call calls well show vars m xs h.0 scope env (fine_parts p xs fine) here asked h.2 agrees))

  arms_shown : (s : Setting) (copied : IsCopied s) (distinct : AreDifferent (constructor_names s.to.table)) (call : ℕ → List Datum → Outcome) (calls : ℕ → Forms → List Datum → Outcome) (well : CallsHave s.to call) (show : CallsShow s call calls)
      (vars : List ℕ) (m : Meant) (arms : GenericArms) (ty : Results Form) (scope : FormScope) (env : Environment) (t : ℕ) (ts : Forms) (i k : ℕ) (ws : Data) →
      HasGenericFine arms → ScopeHere s scope → IsItem s.types t ts → plain s (DataForm t ts) ≡ Tree (record { 0 = i }) → con_at s.to.table i k ≡ Some k → HaveTypes s.to.table ws (fields_at s.to.table k) →
      ArmsAsked s m arms → ArmsHaveForm s.from vars m scope t ts arms ty → Agrees s.to.table (plain_scope s scope) env →
      shown_given s.base ty (eval_arms s.to.table call (copy_arms s.from s.naming m scope ts arms) (con k ws) env) ≡ meant_arms s.from calls m scope ts arms (con (s.base k) (shown_all s.base ws)) (shown_environment s.base env)
  arms_shown s copied distinct call calls well show vars m (GenericLastArm name xs e) ty scope env t ts i k ws fine here item is there typed asked h agrees =
      let d = own_copy s t ts (number_of name) copied item (h.0, h.1, h.3, h.4, h.5) in
      choose_shown s.base ty _ _ _ _ _ _ (same_made s t ts i k ws (number_of name) h.0 d.0 h.1 _ _ copied item is there h.3 d.1 d.1.named h.3)
      (λ hit. arm_shown s copied vars m xs e ty scope h.2 ts h.0 d.0 k h.1 (number_of name) ws env calls call
      (λ env agrees. eval_shown s copied distinct call calls well show vars m e ty h.2 env fine
      (binds_here s xs (field_forms h.1 ts) scope h.2 h.6 here (copied.fields_here h.0 h.1 ts h.4 (subst (λ (n : ℕ). IsItem s.types n ts) (sym h.5) item))) asked h.7 agrees)
      h.3 h.4 h.6 d.1 (taken s d.0 k (constructor_named s.to.table (s.naming.constructors (number_of name) ts)) ws d.1.named hit) typed agrees)
      (λ miss. out_of_arms s.base ty)
  arms_shown s copied distinct call calls well show vars m (GenericNextArm name xs e arms) ty scope env t ts i k ws fine here item is there typed asked h agrees =
      let d = own_copy s t ts (number_of name) copied item (h.0.0, h.0.1, h.0.3, h.0.4, h.0.5) in
      choose_shown s.base ty _ _ _ _ _ _ (same_made s t ts i k ws (number_of name) h.0.0 d.0 h.0.1 _ _ copied item is there h.0.3 d.1 d.1.named h.0.3)
      (λ hit. arm_shown s copied vars m xs e ty scope h.0.2 ts h.0.0 d.0 k h.0.1 (number_of name) ws env calls call
      (λ env agrees. eval_shown s copied distinct call calls well show vars m e ty h.0.2 env fine.0
      (binds_here s xs (field_forms h.0.1 ts) scope h.0.2 h.0.6 here (copied.fields_here h.0.0 h.0.1 ts h.0.4 (subst (λ (n : ℕ). IsItem s.types n ts) (sym h.0.5) item))) asked.0 h.0.7 agrees)
      h.0.3 h.0.4 h.0.6 d.1 (taken s d.0 k (constructor_named s.to.table (s.naming.constructors (number_of name) ts)) ws d.1.named hit) typed agrees)
      (λ miss. arms_shown s copied distinct call calls well show vars m arms ty scope env t ts i k ws fine.1 here item is there typed asked.1 h.1 agrees)

  all_shown : (s : Setting) (copied : IsCopied s) (distinct : AreDifferent (constructor_names s.to.table)) (call : ℕ → List Datum → Outcome) (calls : ℕ → Forms → List Datum → Outcome) (well : CallsHave s.to call) (show : CallsShow s call calls)
      (vars : List ℕ) (m : Meant) (xs : GenericArguments) (fs : List Form) (scope : FormScope) (env : Environment) → AreGenericFine xs → ScopeHere s scope → AreAsked s m xs → HaveForms s.from vars m scope xs fs → Agrees s.to.table (plain_scope s scope) env →
      map (shown_outcome s.base) (eval_all s.to.table call (copy_all s.from s.naming m scope xs) env) ≡ meant_all s.from calls m scope xs (shown_environment s.base env)
  all_shown s copied distinct call calls well show vars m GenericNoArgument fs scope env fine here asked h agrees = refl
  all_shown s copied distinct call calls well show vars m (GenericArgument a xs) [] scope env fine here asked h agrees = absurd h
  all_shown s copied distinct call calls well show vars m (GenericArgument a xs) (f ∷ fs) scope env fine here asked h agrees =
      ap (λ (q : Outcome). q ∷ map (shown_outcome s.base) (eval_all s.to.table call (copy_all s.from s.naming m scope xs) env))
      (sym (one_shown s.base f (eval s.to.table call (copy s.from s.naming m scope a) env)) ∙ eval_shown s copied distinct call calls well show vars m a (One f) scope env fine.0 here asked.0 h.0 agrees)
      ∙ ap (λ (qs : List Outcome). meant s.from calls m scope a (shown_environment s.base env) ∷ qs) (all_shown s copied distinct call calls well show vars m xs fs scope env fine.2 here asked.1 h.1 agrees)

  parts_all_shown : (s : Setting) (copied : IsCopied s) (distinct : AreDifferent (constructor_names s.to.table)) (call : ℕ → List Datum → Outcome) (calls : ℕ → Forms → List Datum → Outcome) (well : CallsHave s.to call) (show : CallsShow s call calls)
      (vars : List ℕ) (m : Meant) (xs : GenericArguments) (fs : List Form) (scope : FormScope) (env : Environment) → AreGenericParts xs → ScopeHere s scope → AreAsked s m xs → HaveForms s.from vars m scope xs fs → Agrees s.to.table (plain_scope s scope) env →
      map (shown_outcome s.base) (eval_all s.to.table call (copy_all s.from s.naming m scope xs) env) ≡ meant_all s.from calls m scope xs (shown_environment s.base env)
  parts_all_shown s copied distinct call calls well show vars m GenericNoArgument fs scope env fine here asked h agrees = refl
  parts_all_shown s copied distinct call calls well show vars m (GenericArgument a xs) [] scope env fine here asked h agrees = absurd h
  parts_all_shown s copied distinct call calls well show vars m (GenericArgument a xs) (f ∷ fs) scope env fine here asked h agrees =
      ap (λ (q : Outcome). q ∷ map (shown_outcome s.base) (eval_all s.to.table call (copy_all s.from s.naming m scope xs) env))
      (sym (one_shown s.base f (eval s.to.table call (copy s.from s.naming m scope a) env)) ∙ eval_shown s copied distinct call calls well show vars m a (One f) scope env fine.0 here asked.0 h.0 agrees)
      ∙ ap (λ (qs : List Outcome). meant s.from calls m scope a (shown_environment s.base env) ∷ qs) (parts_all_shown s copied distinct call calls well show vars m xs fs scope env fine.1 here asked.1 h.1 agrees)
