-- What an expression means that has no tuples does not depend on the types of its variables.
use Rattle.std.proofs.Common.{◌≡◌, ℕ, List, ◌∷◌, pos, refl}
use Rattle.gib_types.specs.Form.{form_or}
use Rattle.gib_types.specs.Tree.{Datum, whole}
use Rattle.gib_syntax.specs.Declarations.{number_of}
use Rattle.gib_syntax.specs.Forms.{Forms, Meant, formed_all}
use Rattle.gib_syntax.specs.GenericTree.{GenericExpression, GenericArguments, GenericArms, GenericVar, GenericNum, GenericBit, GenericParen, GenericOp, GenericCall, GenericMake, GenericLet, GenericPar, GenericIf, GenericCase, GenericTuple, GenericNoArgument, GenericArgument, GenericLastArm, GenericNextArm, GenericProgramTree, GenericGlobals, globals_of_generic, place_named}
use Rattle.gib_syntax.specs.GenericTyping.{FormScope, form_in}
use Rattle.gib_syntax.specs.Inferred.{arguments_of, forms_named, bind_forms, bound_forms}
use Rattle.gib_syntax.specs.Meaning.{Outcome, Gives, Environment, value_in, bind, bind_results, with_value, with_values, number_in, is_true, is_made_by, parts, outcome, choose}
use Rattle.gib_syntax.specs.GenericMeaning.{made_at, meant, meant_all, meant_arms, calls_meant, means_generic}
use Rattle.gib_syntax.specs.Single.{IsSingle, AreSingle, HasSingle}

module _ (g : GenericGlobals) (call : ℕ → Forms → List Datum → Outcome) (m : Meant) where
  mutual
    same_meant : (s u : FormScope) (e : GenericExpression) → IsSingle e → (env : Environment) → meant g call m s e env ≡ meant g call m u e env
    same_meant s u (GenericVar x) i env = refl
    same_meant s u (GenericNum p n) i env = refl
    same_meant s u (GenericBit p b) i env = refl
    same_meant s u (GenericParen p e) i env = same_meant s u e i env
    same_meant s u (GenericOp p f a b) i env = (λ k. with_value (same_meant s u a i.0 env k) (λ x. with_value (same_meant s u b i.1 env k) (λ y. outcome f (number_in x) (number_in y))))
    same_meant s u (GenericCall f ws xs) i env = (λ k. with_values (same_all s u xs i env k) (call (number_of f) (formed_all m ws)))
    same_meant s u (GenericMake c ws xs) i env = (λ k. made_at g.rows (place_named g.rows (number_of c)) (formed_all m ws) (same_all s u xs i env k))
    same_meant s u (GenericLet p xs a b) i env =
        let inner : FormScope = bind_forms xs (bound_forms g m s a) s in
        let other : FormScope = bind_forms xs (bound_forms g m u a) u in
        (λ k. with_value (same_meant s u a i.1 env k) (λ v. same_meant inner other b i.2 (bind_results xs v env) k))
    same_meant s u (GenericPar p xs a ys b c) i env =
        let inner : FormScope = bind_forms ys (bound_forms g m s b) (bind_forms xs (bound_forms g m s a) s) in
        let other : FormScope = bind_forms ys (bound_forms g m u b) (bind_forms xs (bound_forms g m u a) u) in
        (λ k. with_value (same_meant s u a i.2 env k) (λ v. with_value (same_meant s u b i.3 env k) (λ w. same_meant inner other c i.4 (bind_results ys w (bind_results xs v env)) k)))
    same_meant s u (GenericIf p a b c) i env = (λ k. with_value (same_meant s u a i.0 env k) (λ v. choose (is_true v) (same_meant s u b i.1 env k) (same_meant s u c i.2 env k)))
    same_meant s u (GenericCase p x arms) i env =
        same_arms s u (arguments_of (form_or (form_in s (number_of x)))) (arguments_of (form_or (form_in u (number_of x)))) arms i (value_in env (number_of x)) env
    same_meant s u (GenericTuple p xs) i env = absurd i

    same_all : (s u : FormScope) (xs : GenericArguments) → AreSingle xs → (env : Environment) → meant_all g call m s xs env ≡ meant_all g call m u xs env
    same_all s u GenericNoArgument i env = refl
    same_all s u (GenericArgument a xs) i env = (λ k. same_meant s u a i.0 env k ∷ same_all s u xs i.1 env k)

    same_arms : (s u : FormScope) (ts us : Forms) (arms : GenericArms) → HasSingle arms → (v : Datum) (env : Environment) → meant_arms g call m s ts arms v env ≡ meant_arms g call m u us arms v env
    same_arms s u ts us (GenericLastArm c xs e) i v env =
        let inner : FormScope = bind_forms xs (forms_named g.rows (place_named g.rows (number_of c)) ts) s in
        let other : FormScope = bind_forms xs (forms_named g.rows (place_named g.rows (number_of c)) us) u in
        (λ k. choose (is_made_by (place_named g.rows (number_of c)) v) (same_meant inner other e i (bind xs (parts v) env) k) (Gives (whole (pos 0))))
    same_arms s u ts us (GenericNextArm c xs e arms) i v env =
        let inner : FormScope = bind_forms xs (forms_named g.rows (place_named g.rows (number_of c)) ts) s in
        let other : FormScope = bind_forms xs (forms_named g.rows (place_named g.rows (number_of c)) us) u in
        (λ k. choose (is_made_by (place_named g.rows (number_of c)) v) (same_meant inner other e i.0 (bind xs (parts v) env) k) (same_arms s u ts us arms i.1 v env k))

pub single_means : (p : GenericProgramTree) (n : ℕ) (m : Meant) (s u : FormScope) (env : Environment) (e : GenericExpression) → IsSingle e → means_generic p n m s env e ≡ means_generic p n m u env e
single_means p n m s u env e i = same_meant (globals_of_generic p) (calls_meant p n) m s u e i env
