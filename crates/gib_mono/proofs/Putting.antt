-- What is typed with opaque type variables is typed with any types put for them.
use Rattle.std.proofs.Common.{◌≡◌, ℕ, Bool, true, false, ◌==◌, if◌then◌else◌, List, [], ◌∷◌, map, Option, Some, None, refl, ap, ◌∙◌, subst}
use Rattle.std.proofs.lemmas.Option.{same_Some}
use Rattle.gib_syntax.specs.declared.tree.Ident.{Ident}
use Rattle.gib_types.specs.declared.operator.Operator.{Operator}
use Rattle.gib_syntax.specs.Declarations.{number_of}
use Rattle.gib_syntax.specs.Results.{Results, One, Several, map_results, as_results}
use Rattle.gib_syntax.specs.Forms.{WrittenType, WrittenTypes, WholeAt, TruthAt, VariableAt, DataAt, NoType, MoreTypes, Form, Forms, WholeForm, TruthForm, DataForm, NoForm, MoreForms, Meant, formed, formed_all, put, put_all, assign}
use Rattle.gib_syntax.specs.GenericTree.{GenericExpression, GenericArguments, GenericArms, GenericVar, GenericNum, GenericBit, GenericParen, GenericOp, GenericCall, GenericMake, GenericLet, GenericPar, GenericIf, GenericCase, GenericTuple, GenericNoArgument, GenericArgument, GenericLastArm, GenericNextArm, GenericParameterTree, GenericGlobals}
use Rattle.gib_syntax.specs.GenericTyping.{FormScope, form_in, form_bound, BindsForms, operator_form, field_forms, parameter_forms, result_forms, HasForm, HaveForms, ArmsHaveForm}
use Rattle.gib_syntax.proofs.Operators.{either_scalar}

-- types put into what an assignment gives
pub put_assign : (r : Meant) (vs : List Ident) (fs : Forms) (x : ℕ) → put r (assign vs fs x) ≡ assign vs (put_all r fs) x
put_assign r [] fs x = refl
put_assign r (v ∷ vs) NoForm x = refl
put_assign r (v ∷ vs) (MoreForms f fs) x = step r (number_of v == x) f (assign vs fs x) (assign vs (put_all r fs) x) (put_assign r vs fs x) where
  step : (r : Meant) (b : Bool) (f g h : Form) → put r g ≡ h → put r (if b then f else g) ≡ (if b then put r f else h)
  step r true f g h e = refl
  step r false f g h e = e

mutual
  pub put_formed : (r m n : Meant) → ((x : ℕ) → put r (m x) ≡ n x) → (w : WrittenType) → put r (formed m w) ≡ formed n w
  put_formed r m n k (WholeAt p) = refl
  put_formed r m n k (TruthAt p) = refl
  put_formed r m n k (VariableAt x) = k (number_of x)
  put_formed r m n k (DataAt p x ws) = ap (DataForm (number_of x)) (put_formed_all r m n k ws)

  pub put_formed_all : (r m n : Meant) → ((x : ℕ) → put r (m x) ≡ n x) → (ws : WrittenTypes) → put_all r (formed_all m ws) ≡ formed_all n ws
  put_formed_all r m n k NoType = refl
  put_formed_all r m n k (MoreTypes w ws) = ap (λ (f : Form). MoreForms f (put_all r (formed_all m ws))) (put_formed r m n k w) ∙ ap (MoreForms (formed n w)) (put_formed_all r m n k ws)

put_fields : (r : Meant) (vs : List Ident) (fs : Forms) (ws : List WrittenType) → map (put r) (map (formed (assign vs fs)) ws) ≡ map (formed (assign vs (put_all r fs))) ws
put_fields r vs fs [] = refl
put_fields r vs fs (w ∷ ws) =
    ap (λ (f : Form). f ∷ map (put r) (map (formed (assign vs fs)) ws)) (put_formed r (assign vs fs) (assign vs (put_all r fs)) (put_assign r vs fs) w)
    ∙ ap (λ (us : List Form). formed (assign vs (put_all r fs)) w ∷ us) (put_fields r vs fs ws)

pub put_parameters : (r m n : Meant) → ((x : ℕ) → put r (m x) ≡ n x) → (qs : List GenericParameterTree) → map (put r) (map (λ (q : GenericParameterTree). formed m q.ty) qs) ≡ map (λ (q : GenericParameterTree). formed n q.ty) qs
put_parameters r m n k [] = refl
put_parameters r m n k (q ∷ qs) =
    ap (λ (f : Form). f ∷ map (put r) (map (λ (q : GenericParameterTree). formed m q.ty) qs)) (put_formed r m n k q.ty)
    ∙ ap (λ (us : List Form). formed n q.ty ∷ us) (put_parameters r m n k qs)

-- a scope with types put
abbrev pub put_scope : Meant → FormScope → FormScope
put_scope r scope = map (λ (b : ℕ × Form). (b.0, put r b.1)) scope

in_put : (r : Meant) (scope : FormScope) (x : ℕ) (g : Form) → form_in scope x ≡ Some g → form_in (put_scope r scope) x ≡ Some (put r g)
in_put r [] x g e = absurd cc
in_put r (b ∷ scope) x g e = step r (b.0 == x) b.1 g (form_in scope x) (form_in (put_scope r scope) x) (in_put r scope x g) e where
  step : (r : Meant) (b : Bool) (f g : Form) (rest other : Option Form) → (rest ≡ Some g → other ≡ Some (put r g)) → (if b then Some f else rest) ≡ Some g → (if b then Some (put r f) else other) ≡ Some (put r g)
  step r true f g rest other k e = ap (λ (u : Form). Some (put r u)) (same_Some f g e)
  step r false f g rest other k e = k e

new_put : (r : Meant) (scope : FormScope) (x : ℕ) → form_in scope x ≡ None → form_in (put_scope r scope) x ≡ None
new_put r [] x e = refl
new_put r (b ∷ scope) x e = step r (b.0 == x) b.1 (form_in scope x) (form_in (put_scope r scope) x) (new_put r scope x) e where
  step : (r : Meant) (b : Bool) (f : Form) (rest other : Option Form) → (rest ≡ None → other ≡ None) → (if b then Some f else rest) ≡ None → (if b then Some (put r f) else other) ≡ None
  step r true f rest other k e = absurd cc
  step r false f rest other k e = k e

pub binds_put : (r : Meant) (xs : List Ident) (fs : List Form) (scope inner : FormScope) → BindsForms scope xs fs inner → BindsForms (put_scope r scope) xs (map (put r) fs) (put_scope r inner)
binds_put r [] [] scope inner h = ap (put_scope r) h
binds_put r [] (f ∷ fs) scope inner h = absurd h
binds_put r (x ∷ xs) [] scope inner h = absurd h
binds_put r (x ∷ xs) (f ∷ fs) scope inner h = (new_put r scope (number_of x) h.0, binds_put r xs fs (form_bound x f scope) inner h.1)

operator_put : (r : Meant) (f : Operator) → put r (operator_form f) ≡ operator_form f
operator_put r f = either_scalar (λ g u. put r g ≡ g) refl refl f

-- types put into what is given
put_as : (r : Meant) (ts : List Form) → map_results (put r) (as_results ts) ≡ as_results (map (put r) ts)
put_as r [] = refl
put_as r (t ∷ []) = refl
put_as r (t ∷ u ∷ us) = refl

put_each : (r m n : Meant) → ((x : ℕ) → put r (m x) ≡ n x) → (ws : List WrittenType) → map (put r) (map (formed m) ws) ≡ map (formed n) ws
put_each r m n k [] = refl
put_each r m n k (w ∷ ws) = ap (λ (f : Form). f ∷ map (put r) (map (formed m) ws)) (put_formed r m n k w) ∙ ap (λ (us : List Form). formed n w ∷ us) (put_each r m n k ws)

pub put_results : (r m n : Meant) → ((x : ℕ) → put r (m x) ≡ n x) → (q : Results WrittenType) → map_results (put r) (map_results (formed m) q) ≡ map_results (formed n) q
put_results r m n k (One w) = ap One (put_formed r m n k w)
put_results r m n k (Several ws) = ap Several (put_each r m n k ws)

mutual
  pub put_has : (g : GenericGlobals) (vars : List ℕ) (r m n : Meant) → ((x : ℕ) → put r (m x) ≡ n x) → (e : GenericExpression) (ty : Results Form) (scope : FormScope) → HasForm g vars m scope e ty → HasForm g vars n (put_scope r scope) e (map_results (put r) ty)
  put_has g vars r m n k (GenericVar x) ty scope h = (put r h.0, ap (map_results (put r)) h.1, in_put r scope (number_of x) h.0 h.2)
  put_has g vars r m n k (GenericNum p v) ty scope h = ap (map_results (put r)) h
  put_has g vars r m n k (GenericBit p b) ty scope h = ap (map_results (put r)) h
  put_has g vars r m n k (GenericParen p e) ty scope h = put_has g vars r m n k e ty scope h
  put_has g vars r m n k (GenericOp p f a b) ty scope h = (ap (map_results (put r)) h.0 ∙ ap One (operator_put r f), put_has g vars r m n k a (One WholeForm) scope h.1, put_has g vars r m n k b (One WholeForm) scope h.2)
  put_has g vars r m n k (GenericCall f ws xs) ty scope h =
      let fs : put_all r (formed_all m ws) ≡ formed_all n ws = put_formed_all r m n k ws in (
        h.0,
        h.1,
        h.2,
        h.3,
        ap (map_results (put r)) h.4 ∙ put_results r (assign (h.0).variables (formed_all m ws)) (assign (h.0).variables (put_all r (formed_all m ws))) (put_assign r (h.0).variables (formed_all m ws)) (h.0).result ∙ ap (result_forms h.0) fs,
        subst (λ (us : List Form). HaveForms g vars n (put_scope r scope) xs us)
            (put_parameters r (assign (h.0).variables (formed_all m ws)) (assign (h.0).variables (put_all r (formed_all m ws))) (put_assign r (h.0).variables (formed_all m ws)) (h.0).parameters ∙ ap (parameter_forms h.0) fs)
            (all_put g vars r m n k xs (parameter_forms h.0 (formed_all m ws)) scope h.5),
      )
  put_has g vars r m n k (GenericMake c ws xs) ty scope h =
      let fs : put_all r (formed_all m ws) ≡ formed_all n ws = put_formed_all r m n k ws in (
        h.0,
        h.1,
        h.2,
        h.3,
        h.4,
        h.5,
        ap (map_results (put r)) h.6 ∙ ap (λ (us : Forms). One (DataForm (h.1).owner us)) fs,
        subst (λ (us : List Form). HaveForms g vars n (put_scope r scope) xs us)
            (put_fields r (h.1).variables (formed_all m ws) (h.1).fields ∙ ap (field_forms h.1) fs)
            (all_put g vars r m n k xs (field_forms h.1 (formed_all m ws)) scope h.7),
      )
  put_has g vars r m n k (GenericLet p xs a b) ty scope h = (
    map (put r) h.0,
    put_scope r h.1,
    h.2,
    subst (HasForm g vars n (put_scope r scope) a) (put_as r h.0) (put_has g vars r m n k a (as_results h.0) scope h.3),
    binds_put r xs h.0 scope h.1 h.4,
    put_has g vars r m n k b ty h.1 h.5,
  )
  put_has g vars r m n k (GenericPar p xs a ys b c) ty scope h = (
    map (put r) h.0,
    map (put r) h.1,
    put_scope r h.2,
    put_scope r h.3,
    h.4,
    h.5,
    subst (HasForm g vars n (put_scope r scope) a) (put_as r h.0) (put_has g vars r m n k a (as_results h.0) scope h.6),
    subst (HasForm g vars n (put_scope r scope) b) (put_as r h.1) (put_has g vars r m n k b (as_results h.1) scope h.7),
    binds_put r xs h.0 scope h.2 h.8,
    binds_put r ys h.1 h.2 h.3 h.9,
    put_has g vars r m n k c ty h.3 h.10,
  )
  put_has g vars r m n k (GenericIf p a b c) ty scope h = (put_has g vars r m n k a (One TruthForm) scope h.0, put_has g vars r m n k b ty scope h.1, put_has g vars r m n k c ty scope h.2)
  put_has g vars r m n k (GenericCase p x arms) ty scope h =
      (h.0, put_all r h.1, in_put r scope (number_of x) (DataForm h.0 h.1) h.2, h.3, arms_put g vars r m n k arms ty scope h.0 h.1 h.4)
  put_has g vars r m n k (GenericTuple p xs) ty scope h = (map (put r) h.0, ap (map_results (put r)) h.1, all_put g vars r m n k xs h.0 scope h.2)

  all_put : (g : GenericGlobals) (vars : List ℕ) (r m n : Meant) → ((x : ℕ) → put r (m x) ≡ n x) → (xs : GenericArguments) (fs : List Form) (scope : FormScope) → HaveForms g vars m scope xs fs → HaveForms g vars n (put_scope r scope) xs (map (put r) fs)
  all_put g vars r m n k GenericNoArgument [] scope h = tt {0}
  all_put g vars r m n k GenericNoArgument (f ∷ fs) scope h = absurd h
  all_put g vars r m n k (GenericArgument a xs) [] scope h = absurd h
  all_put g vars r m n k (GenericArgument a xs) (f ∷ fs) scope h = (put_has g vars r m n k a (One f) scope h.0, all_put g vars r m n k xs fs scope h.1)

  arms_put : (g : GenericGlobals) (vars : List ℕ) (r m n : Meant) → ((x : ℕ) → put r (m x) ≡ n x) → (arms : GenericArms) (ty : Results Form) (scope : FormScope) (t : ℕ) (ts : Forms) → ArmsHaveForm g vars m scope t ts arms ty → ArmsHaveForm g vars n (put_scope r scope) t (put_all r ts) arms (map_results (put r) ty)
  arms_put g vars r m n k (GenericLastArm c xs e) ty scope t ts h = (
    h.0,
    h.1,
    put_scope r h.2,
    h.3,
    h.4,
    h.5,
    subst (λ (us : List Form). BindsForms (put_scope r scope) xs us (put_scope r h.2)) (put_fields r (h.1).variables ts (h.1).fields) (binds_put r xs (field_forms h.1 ts) scope h.2 h.6),
    put_has g vars r m n k e ty h.2 h.7,
  )
  arms_put g vars r m n k (GenericNextArm c xs e arms) ty scope t ts h = (
    (
      h.0.0,
      h.0.1,
      put_scope r h.0.2,
      h.0.3,
      h.0.4,
      h.0.5,
      subst (λ (us : List Form). BindsForms (put_scope r scope) xs us (put_scope r h.0.2)) (put_fields r (h.0.1).variables ts (h.0.1).fields) (binds_put r xs (field_forms h.0.1 ts) scope h.0.2 h.0.6),
      put_has g vars r m n k e ty h.0.2 h.0.7,
    ),
    arms_put g vars r m n k arms ty scope t ts h.1,
  )
