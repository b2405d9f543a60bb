-- The copy of a typed expression is typed.
use Rattle.std.proofs.Common.{◌≡◌, ℕ, List, [], ◌∷◌, map, Option, Some, None, refl, sym, ap, ap₂, ◌∙◌, subst, arith}
use Rattle.std.specs.List.{AllByRecursion}
use Rattle.gib_base.specs.declared.Span.{Span}
use Rattle.gib_syntax.specs.declared.tree.Ident.{Ident}
use Rattle.gib_types.specs.declared.table.Ty.{Ty}
use Rattle.gib_types.specs.declared.table.Ty.TheVariants.{Whole, Truth, Tree}
use Rattle.gib_syntax.specs.Tree.{Expression, Tuple}
use Rattle.gib_syntax.specs.Results.{Results, One, Several, map_results, as_results}
use Rattle.gib_syntax.specs.Declarations.{number_of, place_of, tree_type, type_or, type_of_name}
use Rattle.gib_syntax.specs.Typing.{Scope, BindsAll, names_of, types_of, IsKnown, HasKnownType, AreVariables, Has, HaveAll, HaveArms}
use Rattle.gib_syntax.specs.Forms.{Form, Forms, WholeForm, TruthForm, VariableForm, DataForm, Meant, formed_all}
use Rattle.gib_syntax.specs.GenericTree.{GenericExpression, GenericArguments, GenericArms, GenericVar, GenericNum, GenericBit, GenericParen, GenericOp, GenericCall, GenericMake, GenericLet, GenericPar, GenericIf, GenericCase, GenericTuple, GenericNoArgument, GenericArgument, GenericLastArm, GenericNextArm, place_named}
use Rattle.gib_syntax.specs.GenericTyping.{AreNames, FormScope, form_in, form_bound, BindsForms, field_forms, parameter_forms, HasForm, HaveForms, ArmsHaveForm}
use Rattle.gib_mono.specs.Bindings.{only_name, let_of, par_of}
use Rattle.gib_mono.specs.Copying.{copy, copy_all, copy_arms, copy_variables, copy_function, name_of_form, forms_of_all, bound_forms, forms_named, bind_forms}
use Rattle.gib_mono.specs.Copied.{IsItem, IsHere, Setting, plain, IsAsked, AreAsked, ArmsAsked, IsCopied, ScopeHere, plain_scope}
use Rattle.gib_mono.proofs.Scopes.{named_plain, in_plain, binds_plain, binds_inner, binds_here, operator_plain, forms_is, owner_is, arguments_is, bound_is, forms_are, results_here, all_here, bound_all_here, parameters_plain, result_plain}
use Rattle.gib_mono.proofs.Bindings.{let_has, par_has, variable_names, variables_long}
use Rattle.gib_mono.proofs.Covering.{own_copy, covers_plain}

-- The variables of a binding of parts in the copy.
pub names_plain : (s : Setting) (p : Span) (fs : List Form) → map (type_of_name s.to.table.types) (map (name_of_form s.naming p) fs) ≡ map (plain s) fs
names_plain s p [] = refl
names_plain s p (f ∷ fs) = ap₂ (λ (t : Ty) (us : List Ty). t ∷ us) (named_plain s.naming s.to.table.types p f) (names_plain s p fs)

no_number : (o : Option ℕ) (i : ℕ) → type_or (tree_type o) ≡ Tree (record { 0 = i }) → (t : Ty) × (tree_type o ≡ Some t)
no_number None i e = absurd (other i e) where
  other : (i : ℕ) → Whole ≡ Tree (record { 0 = i }) → ⊥
  other i e = cc
no_number (Some n) i e = (Tree (record { 0 = n }), refl)

name_known : (s : Setting) → IsCopied s → (p : Span) (f : Form) → IsHere s.types f → IsKnown s.to.table.types (name_of_form s.naming p f)
name_known s copied p WholeForm h = (Whole, refl)
name_known s copied p TruthForm h = (Truth, refl)
name_known s copied p (VariableForm x) h = absurd h
name_known s copied p (DataForm t ts) h = let d = copied.declared t ts h.0 in no_number (place_of s.to.table.types (s.naming.types t ts)) d.0 d.1

names_known : (s : Setting) → IsCopied s → (p : Span) (fs : List Form) → AllByRecursion (IsHere s.types) fs → AllByRecursion (IsKnown s.to.table.types) (map (name_of_form s.naming p) fs)
names_known s copied p [] h = tt {0}
names_known s copied p (f ∷ fs) h = (name_known s copied p f h.0, names_known s copied p fs h.1)

variable_types : (s : Setting) (xs : List Ident) (fs : List Form) (scope inner : FormScope) → BindsForms scope xs fs inner → types_of s.to.table.types (copy_variables s.naming xs fs) ≡ map (plain s) fs
variable_types s [] [] scope inner h = refl
variable_types s [] (f ∷ fs) scope inner h = absurd h
variable_types s (x ∷ xs) [] scope inner h = absurd h
variable_types s (x ∷ xs) (f ∷ fs) scope inner h = ap₂ (λ (t : Ty) (us : List Ty). t ∷ us) (named_plain s.naming s.to.table.types x.span f) (variable_types s xs fs (form_bound x f scope) inner h.1)

variables_all_known : (s : Setting) → IsCopied s → (xs : List Ident) (fs : List Form) (scope inner : FormScope) → BindsForms scope xs fs inner → AllByRecursion (IsHere s.types) fs → AllByRecursion (HasKnownType s.to.table.types) (copy_variables s.naming xs fs)
variables_all_known s copied [] fs scope inner h all = tt {0}
variables_all_known s copied (x ∷ xs) [] scope inner h all = absurd h
variables_all_known s copied (x ∷ xs) (f ∷ fs) scope inner h all = (name_known s copied x.span f all.0, variables_all_known s copied xs fs (form_bound x f scope) inner h.1 all.1)

variables_known : (s : Setting) → IsCopied s → (xs : List Ident) (fs : List Form) (scope inner : FormScope) → AreNames xs → BindsForms scope xs fs inner → AllByRecursion (IsHere s.types) fs → AreVariables s.to.table.types (copy_variables s.naming xs fs)
variables_known s copied xs fs scope inner few h all =
    let e = variables_long s.naming xs fs in let some = few.0 in let eight = few.1 in
    (omega (arith, e, some), omega (arith, e, eight), variables_all_known s copied xs fs scope inner h all)

binds_variables : (s : Setting) (xs : List Ident) (fs : List Form) (scope inner : FormScope) → BindsForms scope xs fs inner → BindsAll (plain_scope s scope) (names_of (copy_variables s.naming xs fs)) (types_of s.to.table.types (copy_variables s.naming xs fs)) (plain_scope s inner)
binds_variables s xs fs scope inner h =
    subst (λ (ys : List Ident). BindsAll (plain_scope s scope) ys (types_of s.to.table.types (copy_variables s.naming xs fs)) (plain_scope s inner)) (sym (variable_names s.naming xs fs))
    (subst (λ (us : List Ty). BindsAll (plain_scope s scope) xs us (plain_scope s inner)) (sym (variable_types s xs fs scope inner h)) (binds_plain s xs fs scope inner h))

pub plain_as : (s : Setting) (fs : List Form) → map_results (plain s) (as_results fs) ≡ as_results (map (plain s) fs)
plain_as s [] = refl
plain_as s (f ∷ []) = refl
plain_as s (f ∷ g ∷ gs) = refl

has_parts : (s : Setting) (xs : List Ident) (fs : List Form) (scope inner : FormScope) (at : Scope) (e : Expression) → BindsForms scope xs fs inner → Has s.to at e (map_results (plain s) (as_results fs)) → Has s.to at e (as_results (types_of s.to.table.types (copy_variables s.naming xs fs)))
has_parts s xs fs scope inner at e h k = subst (Has s.to at e) (plain_as s fs ∙ ap as_results (sym (variable_types s xs fs scope inner h))) k

mutual
  pub copy_has : (s : Setting) (copied : IsCopied s) (vars : List ℕ) (m : Meant) (e : GenericExpression) (ty : Results Form) (scope : FormScope) →
      ScopeHere s scope → IsAsked s m e → HasForm s.from vars m scope e ty → Has s.to (plain_scope s scope) (copy s.from s.naming m scope e) (map_results (plain s) ty)
  copy_has s copied vars m (GenericVar x) ty scope here asked h = (plain s h.0, ap (map_results (plain s)) h.1, in_plain s scope (number_of x) h.0 h.2)
  copy_has s copied vars m (GenericNum p n) ty scope here asked h = ap (map_results (plain s)) h
  copy_has s copied vars m (GenericBit p b) ty scope here asked h = ap (map_results (plain s)) h
  copy_has s copied vars m (GenericParen p e) ty scope here asked h = copy_has s copied vars m e ty scope here asked h
  copy_has s copied vars m (GenericOp p f a b) ty scope here asked h =
      (ap (map_results (plain s)) h.0 ∙ ap One (operator_plain s f), copy_has s copied vars m a (One WholeForm) scope here asked.0 h.1, copy_has s copied vars m b (One WholeForm) scope here asked.1 h.2)
  copy_has s copied vars m (GenericCall f ws xs) ty scope here asked h = (
    copy_function s.from s.naming h.0 (formed_all m ws),
    copied.functions (number_of f) h.0 (formed_all m ws) h.1 asked.0,
    ap (map_results (plain s)) h.4 ∙ sym (result_plain s h.0 (formed_all m ws)),
    subst (λ (us : List Ty). HaveAll s.to (plain_scope s scope) (copy_all s.from s.naming m scope xs) us) (sym (parameters_plain s h.0 (formed_all m ws)))
        (copies_have s copied vars m xs (parameter_forms h.0 (formed_all m ws)) scope here asked.2 h.5),
  )
  copy_has s copied vars m (GenericMake k ws xs) ty scope here asked h =
      let item : IsItem s.types (h.1).owner (formed_all m ws) = subst (λ (n : ℕ). IsItem s.types n (formed_all m ws)) (owner_is s.from.rows (place_named s.from.rows (number_of k)) h.0 h.1 h.2 h.3) asked.0 in
      let c = copied.constructors (number_of k) h.0 h.1 (formed_all m ws) h.2 h.3 item in (
        c.0,
        c.1.named,
        ap (map_results (plain s)) h.6 ∙ ap One (sym c.1.owner),
        subst (λ (us : List Ty). HaveAll s.to (plain_scope s scope) (copy_all s.from s.naming m scope xs) us) (sym c.1.fields)
            (copies_have s copied vars m xs (field_forms h.1 (formed_all m ws)) scope here asked.2 h.7),
      )
  copy_has s copied vars m (GenericLet p xs a b) ty scope here asked h =
      let forms : bound_forms s.from m scope a ≡ h.0 = bound_is s.from vars m a h.0 scope h.3 in
      let all = bound_all_here s h.0 (results_here s copied vars m a (as_results h.0) scope here asked.0 h.3) in
      let inner = binds_inner xs h.0 scope h.1 h.4 in
      subst (λ (fs : List Form). Has s.to (plain_scope s scope) (let_of p (only_name xs) (copy_variables s.naming xs fs) (copy s.from s.naming m scope a) (copy s.from s.naming m (bind_forms xs fs scope) b)) (map_results (plain s) ty)) (sym forms)
      (let_has s.to (plain_scope s scope) p xs (copy_variables s.naming xs h.0) (copy s.from s.naming m scope a) (copy s.from s.naming m (bind_forms xs h.0 scope) b) (map_results (plain s) ty) (variable_names s.naming xs h.0) (
        plain_scope s h.1,
        variables_known s copied xs h.0 scope h.1 h.2 h.4 all,
        has_parts s xs h.0 scope h.1 (plain_scope s scope) (copy s.from s.naming m scope a) h.4 (copy_has s copied vars m a (as_results h.0) scope here asked.0 h.3),
        binds_variables s xs h.0 scope h.1 h.4,
        subst (λ (u : FormScope). Has s.to (plain_scope s h.1) (copy s.from s.naming m u b) (map_results (plain s) ty)) inner (copy_has s copied vars m b ty h.1 (binds_here s xs h.0 scope h.1 h.4 here all) asked.1 h.5),
      ))
  copy_has s copied vars m (GenericPar p xs a ys b c) ty scope here asked h =
      let left : bound_forms s.from m scope a ≡ h.0 = bound_is s.from vars m a h.0 scope h.6 in
      let right : bound_forms s.from m scope b ≡ h.1 = bound_is s.from vars m b h.1 scope h.7 in
      let lefts = bound_all_here s h.0 (results_here s copied vars m a (as_results h.0) scope here asked.0 h.6) in
      let rights = bound_all_here s h.1 (results_here s copied vars m b (as_results h.1) scope here asked.1 h.7) in
      let middle = binds_inner xs h.0 scope h.2 h.8 in
      let inner = binds_inner ys h.1 h.2 h.3 h.9 in
      subst (λ (fs : List Form). Has s.to (plain_scope s scope) (par_of p (only_name xs) (copy_variables s.naming xs fs) (copy s.from s.naming m scope a) (only_name ys) (copy_variables s.naming ys (bound_forms s.from m scope b)) (copy s.from s.naming m scope b) (copy s.from s.naming m (bind_forms ys (bound_forms s.from m scope b) (bind_forms xs fs scope)) c)) (map_results (plain s) ty)) (sym left)
      (subst (λ (fs : List Form). Has s.to (plain_scope s scope) (par_of p (only_name xs) (copy_variables s.naming xs h.0) (copy s.from s.naming m scope a) (only_name ys) (copy_variables s.naming ys fs) (copy s.from s.naming m scope b) (copy s.from s.naming m (bind_forms ys fs (bind_forms xs h.0 scope)) c)) (map_results (plain s) ty)) (sym right)
      (par_has s.to (plain_scope s scope) p xs ys (copy_variables s.naming xs h.0) (copy_variables s.naming ys h.1) (copy s.from s.naming m scope a) (copy s.from s.naming m scope b) (copy s.from s.naming m (bind_forms ys h.1 (bind_forms xs h.0 scope)) c) (map_results (plain s) ty)
      (variable_names s.naming xs h.0) (variable_names s.naming ys h.1) (
        plain_scope s h.2,
        plain_scope s h.3,
        variables_known s copied xs h.0 scope h.2 h.4 h.8 lefts,
        variables_known s copied ys h.1 h.2 h.3 h.5 h.9 rights,
        has_parts s xs h.0 scope h.2 (plain_scope s scope) (copy s.from s.naming m scope a) h.8 (copy_has s copied vars m a (as_results h.0) scope here asked.0 h.6),
        has_parts s ys h.1 h.2 h.3 (plain_scope s scope) (copy s.from s.naming m scope b) h.9 (copy_has s copied vars m b (as_results h.1) scope here asked.1 h.7),
        binds_variables s xs h.0 scope h.2 h.8,
        binds_variables s ys h.1 h.2 h.3 h.9,
        subst (λ (u : FormScope). Has s.to (plain_scope s h.3) (copy s.from s.naming m (bind_forms ys h.1 u) c) (map_results (plain s) ty)) middle
            (subst (λ (u : FormScope). Has s.to (plain_scope s h.3) (copy s.from s.naming m u c) (map_results (plain s) ty)) inner
            (copy_has s copied vars m c ty h.3 (binds_here s ys h.1 h.2 h.3 h.9 (binds_here s xs h.0 scope h.2 h.8 here lefts) rights) asked.2 h.10)),
      )))
  copy_has s copied vars m (GenericIf p a b c) ty scope here asked h =
      (copy_has s copied vars m a (One TruthForm) scope here asked.0 h.0, copy_has s copied vars m b ty scope here asked.1 h.1, copy_has s copied vars m c ty scope here asked.2 h.2)
  copy_has s copied vars m (GenericCase p x arms) ty scope here asked h =
      let item : IsItem s.types h.0 h.1 = (here (number_of x) (DataForm h.0 h.1) h.2).0 in
      let d = copied.declared h.0 h.1 item in
      subst (λ (us : Forms). Has s.to (plain_scope s scope) (Rattle.gib_syntax.specs.Tree.Case p x (copy_arms s.from s.naming m scope us arms)) (map_results (plain s) ty)) (sym (arguments_is (form_in scope (number_of x)) h.0 h.1 h.2)) (
        record { 0 = d.0 },
        in_plain s scope (number_of x) (DataForm h.0 h.1) h.2 ∙ ap Some d.1,
        covers_plain s h.0 h.1 d.0 m scope arms copied item d.1 h.3,
        arms_have_copy s copied vars m arms ty scope h.0 h.1 here item asked h.4,
      )
  copy_has s copied vars m (GenericTuple p xs) ty scope here asked h =
      let forms : forms_of_all s.from m scope xs ≡ h.0 = forms_are s.from vars m xs h.0 scope h.2 in
      let named : map (type_of_name s.to.table.types) (map (name_of_form s.naming p) h.0) ≡ map (plain s) h.0 = names_plain s p h.0 in
      subst (λ (fs : List Form). Has s.to (plain_scope s scope) (Tuple p (map (name_of_form s.naming p) fs) (copy_all s.from s.naming m scope xs)) (map_results (plain s) ty)) (sym forms) (
        ap (map_results (plain s)) h.1 ∙ ap Several (sym named),
        names_known s copied p h.0 (all_here s copied vars m xs h.0 scope here asked h.2),
        subst (HaveAll s.to (plain_scope s scope) (copy_all s.from s.naming m scope xs)) (sym named) (copies_have s copied vars m xs h.0 scope here asked h.2),
      )

  pub copies_have : (s : Setting) (copied : IsCopied s) (vars : List ℕ) (m : Meant) (xs : GenericArguments) (fs : List Form) (scope : FormScope) →
      ScopeHere s scope → AreAsked s m xs → HaveForms s.from vars m scope xs fs → HaveAll s.to (plain_scope s scope) (copy_all s.from s.naming m scope xs) (map (plain s) fs)
  copies_have s copied vars m GenericNoArgument [] scope here asked h = tt {0}
  copies_have s copied vars m GenericNoArgument (f ∷ fs) scope here asked h = absurd h
  copies_have s copied vars m (GenericArgument a xs) [] scope here asked h = absurd h
  copies_have s copied vars m (GenericArgument a xs) (f ∷ fs) scope here asked h = (copy_has s copied vars m a (One f) scope here asked.0 h.0, copies_have s copied vars m xs fs scope here asked.1 h.1)

  arms_have_copy : (s : Setting) (copied : IsCopied s) (vars : List ℕ) (m : Meant) (arms : GenericArms) (ty : Results Form) (scope : FormScope) (t : ℕ) (ts : Forms) →
      ScopeHere s scope → IsItem s.types t ts → ArmsAsked s m arms → ArmsHaveForm s.from vars m scope t ts arms ty → HaveArms s.to (plain_scope s scope) (copy_arms s.from s.naming m scope ts arms) (map_results (plain s) ty)
  arms_have_copy s copied vars m (GenericLastArm k xs e) ty scope t ts here item asked h =
      let d = own_copy s t ts (number_of k) copied item (h.0, h.1, h.3, h.4, h.5) in
      let fields : forms_named s.from.rows (place_named s.from.rows (number_of k)) ts ≡ field_forms h.1 ts = forms_is s.from.rows (place_named s.from.rows (number_of k)) h.0 h.1 ts h.3 h.4 in (
        d.0,
        plain_scope s h.2,
        d.1.named,
        subst (λ (us : List Ty). BindsAll (plain_scope s scope) xs us (plain_scope s h.2)) (sym d.1.fields) (binds_plain s xs (field_forms h.1 ts) scope h.2 h.6),
        subst (λ (u : FormScope). Has s.to (plain_scope s h.2) (copy s.from s.naming m u e) (map_results (plain s) ty)) (binds_inner xs (field_forms h.1 ts) scope h.2 h.6 ∙ ap (λ (fs : List Form). bind_forms xs fs scope) (sym fields))
            (copy_has s copied vars m e ty h.2
            (binds_here s xs (field_forms h.1 ts) scope h.2 h.6 here (copied.fields_here h.0 h.1 ts h.4 (subst (λ (n : ℕ). IsItem s.types n ts) (sym h.5) item))) asked h.7),
      )
  arms_have_copy s copied vars m (GenericNextArm k xs e arms) ty scope t ts here item asked h =
      let d = own_copy s t ts (number_of k) copied item (h.0.0, h.0.1, h.0.3, h.0.4, h.0.5) in
      let fields : forms_named s.from.rows (place_named s.from.rows (number_of k)) ts ≡ field_forms h.0.1 ts = forms_is s.from.rows (place_named s.from.rows (number_of k)) h.0.0 h.0.1 ts h.0.3 h.0.4 in (
        (
          d.0,
          plain_scope s h.0.2,
          d.1.named,
          subst (λ (us : List Ty). BindsAll (plain_scope s scope) xs us (plain_scope s h.0.2)) (sym d.1.fields) (binds_plain s xs (field_forms h.0.1 ts) scope h.0.2 h.0.6),
          subst (λ (u : FormScope). Has s.to (plain_scope s h.0.2) (copy s.from s.naming m u e) (map_results (plain s) ty)) (binds_inner xs (field_forms h.0.1 ts) scope h.0.2 h.0.6 ∙ ap (λ (fs : List Form). bind_forms xs fs scope) (sym fields))
              (copy_has s copied vars m e ty h.0.2
              (binds_here s xs (field_forms h.0.1 ts) scope h.0.2 h.0.6 here (copied.fields_here h.0.0 h.0.1 ts h.0.4 (subst (λ (n : ℕ). IsItem s.types n ts) (sym h.0.5) item))) asked.0 h.0.7),
        ),
        arms_have_copy s copied vars m arms ty scope t ts here item asked.1 h.1,
      )
