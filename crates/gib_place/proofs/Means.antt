-- What a line is laid out as means what the line means.
use Rattle.std.proofs.Common.{◌≡◌, ℕ, ◌≤◌, Bool, true, false, ◌||◌, ◌==◌, if◌then◌else◌, List, [], ◌∷◌, ◌++◌, map, Some, refl, sym, ap, ◌∙◌, arith}
use Rattle.std.specs.Prelude.{pos}
use Rattle.std.proofs.lemmas.Bool.{eq-eqb, both_ways, false_from_ne_true, or_parts}
use Rattle.gib_types.specs.Table.{Table, fields_at}
use Rattle.gib_types.specs.declared.table.ConId.{ConId}
use Rattle.gib_types.specs.Tree.{Datum, whole, con, data_of}
use Rattle.gib_syntax.specs.Meaning.{Outcome, Gives, Stops, Environment, value_in, number_in, outcome, choose, is_made_by, is_true, parts, tuple, with_values}
use Rattle.gib_core.specs.declared.atom.Variable.{Variable}
use Rattle.gib_core.specs.declared.atom.Atom.{Atom}
use Rattle.gib_core.specs.declared.atom.Atom.TheVariants as a
use Rattle.gib_core.specs.declared.atom.Kind.TheVariants.{Region}
use Rattle.gib_core.specs.Tree.{Term, Then, Write, Point, CallTerm, Give, CaseTerm, IfTerm, Tuple, PartTerms, NoPart, PartThen, Bind, Past, One, Both, Prim, Reach, Side, On, Several, Branches, NoBranch, BranchThen, variables_of, prepend}
use Rattle.gib_core.specs.Meaning as core
use Rattle.gib_core.specs.Meaning.{Calls, value, bind_side, merge, Reached, Went, from_there, having, mean, run, mean_side, mean_parts, mean_branches, run_all}
use Rattle.gib_core.specs.Inferring.{as_atoms}
use Rattle.gib_core.specs.Numbering.{binders, bind_binders, side_binders, part_binders, branch_binders}
use Rattle.gib_core.specs.Rules.{is_among}
use Rattle.gib_place.specs.declared.field.Field.{Field}
use Rattle.gib_core.specs.Counting.{count_atom, count_in, count, count_bind, count_side, count_parts, count_branches}
use Rattle.gib_place.specs.Placing.{pointing, Filling, bound_by, bound_in, is_one, are_fields, place_line, place_inner, inner_bind, inner_side, inner_parts, inner_branches, place}
use Rattle.gib_place.proofs.Lays.{Lays, ends, opens, puts, stays, one, left, right, both, variables, fields_lay}
use Rattle.gib_place.proofs.Counts.{occurs, occurs_append, targets, ending_line, filling_line, fields_named, line_by_steps, before_uses, before_binds}
use Rattle.gib_place.proofs.Fitting.{own_count, not_among, is_told, Fit, fit_less, Unused, told, fields_fit, run_unused, scalars_unused}
use Rattle.gib_core.proofs.Along.{same_variable}
use Rattle.gib_core.proofs.Envs.{from_there-and_on}

-- Where variables that are told are left out, environments are the same.
abbrev Agree : (Variable → Bool) → Environment → Environment → Type 0
Agree F env env' = (y : Variable) → F y ≡ false → value_in env' y.0 ≡ value_in env y.0

-- Variables out of lists have the values that they had.
abbrev Keeps : List Variable → List Variable → Environment → Environment → Type 0
Keeps xs ys old new = (y : Variable) → is_among xs y ≡ false → is_among ys y ≡ false → value_in new y.0 ≡ value_in old y.0

agree_more : (F : Variable → Bool) (x : ℕ) (v : Datum) (env env' : Environment) → Agree F env env' → Agree F ((x, v) ∷ env) ((x, v) ∷ env')
agree_more F x v env env' h y o = ap (λ w. if x == y.0 then v else w) (h y o)

value_same : (F : Variable → Bool) (x : Atom) (env env' : Environment) → is_told F x ≡ false → Agree F env env' → value env' x ≡ value env x
value_same F (a.Variable y) env env' o h = h y o
value_same F (a.Whole z) env env' o h = refl
value_same F (a.Truth b) env env' o h = refl

value_free : (F : Variable → Bool) (x : Atom) (env env' : Environment) → ((y : Variable) → F y ≡ true → count_atom y x ≡ 0) → Agree F env env' → value env' x ≡ value env x
value_free F (a.Variable y) env env' o h = h y (false_from_ne_true (F y) (λ m. let e = o y m in let s = own_count y in omega arith))
value_free F (a.Whole z) env env' o h = refl
value_free F (a.Truth b) env env' o h = refl

values_free : (F : Variable → Bool) (xs : List Atom) (env env' : Environment) → ((y : Variable) → F y ≡ true → count_in y xs ≡ 0) → Agree F env env' → map (value env') xs ≡ map (value env) xs
values_free F [] env env' o h = refl
values_free F (x ∷ xs) env env' o h =
    λ i. value_free F x env env' (λ y m. let e = o y m in omega arith) h i ∷ values_free F xs env env' (λ y m. let e = o y m in omega arith) h i

agree_bind : (F : Variable → Bool) (xs : List Variable) (vs : List Datum) (env env' : Environment) → Agree F env env' → Agree F (core.bind xs vs env) (core.bind xs vs env')
agree_bind F [] vs env env' h = h
agree_bind F (x ∷ xs) [] env env' h = agree_bind F xs [] ((x.0, whole (pos 0)) ∷ env) ((x.0, whole (pos 0)) ∷ env') (agree_more F x.0 (whole (pos 0)) env env' h)
agree_bind F (x ∷ xs) (v ∷ vs) env env' h = agree_bind F xs vs ((x.0, v) ∷ env) ((x.0, v) ∷ env') (agree_more F x.0 v env env' h)

agree_side : (F : Variable → Bool) (side : Side) (v : Datum) (env env' : Environment) → Agree F env env' → Agree F (bind_side side v env) (bind_side side v env')
agree_side F (On kind x ty t) v env env' h = agree_more F x.0 v env env' h
agree_side F (Several xs tys t) v env env' h = agree_bind F xs (parts v) env env' h

from_having : (o : Outcome) (f f' : Datum → Reached) (go go' : Environment → Outcome) → ((v : Datum) → from_there (f' v) go' ≡ from_there (f v) go) → from_there (having o f') go' ≡ from_there (having o f) go
from_having (Stops why) f f' go go' h = refl
from_having (Gives v) f f' go go' h = h v

value_past : (x : Variable) (v : Datum) (env : Environment) (y : Variable) → (x.0 == y.0) ≡ false → value_in ((x.0, v) ∷ env) y.0 ≡ value_in env y.0
value_past x v env y e = ap (λ b. if b then v else value_in env y.0) e

value_here : (x : Variable) (v : Datum) (env : Environment) → value_in ((x.0, v) ∷ env) x.0 ≡ v
value_here x v env = ap (λ b. if b then v else value_in env x.0) (eq-eqb x.0 x.0 refl)

keeps_one : (x : Variable) (v : Datum) (env : Environment) → Keeps (x ∷ []) [] env ((x.0, v) ∷ env)
keeps_one x v env y e o = value_past x v env y (or_parts (x.0 == y.0) false e).0

keeps_bind : (xs : List Variable) (vs : List Datum) (env : Environment) → Keeps xs [] env (core.bind xs vs env)
keeps_bind [] vs env y e o = refl
keeps_bind (x ∷ xs) [] env y e o = let p = or_parts (x.0 == y.0) (is_among xs y) e in keeps_bind xs [] ((x.0, whole (pos 0)) ∷ env) y p.1 o ∙ value_past x (whole (pos 0)) env y p.0
keeps_bind (x ∷ xs) (v ∷ vs) env y e o = let p = or_parts (x.0 == y.0) (is_among xs y) e in keeps_bind xs vs ((x.0, v) ∷ env) y p.1 o ∙ value_past x v env y p.0

keeps_side : (side : Side) (v : Datum) (env : Environment) → Keeps (variables_of side) [] env (bind_side side v env)
keeps_side (On kind x ty t) v env = keeps_one x v env
keeps_side (Several xs tys t) v env = keeps_bind xs (parts v) env

keeps_two : (l r : Side) (v w : Datum) (env : Environment) → Keeps (variables_of l ++ variables_of r) [] env (bind_side r w (bind_side l v env))
keeps_two l r v w env y e o = let p = not_among (variables_of l) (variables_of r) y e in keeps_side r w (bind_side l v env) y p.1 o ∙ keeps_side l v env y p.0 o

module _ (tb : Table) (call : Calls) (F : Variable → Bool) where
  -- One binding, and what follows.
  abbrev Follows : Bind → Environment → Environment → (Environment → Outcome) → (Environment → Outcome) → Type 0
  Follows b env env' go go' = (e e' : Environment) → Agree F e e' → Keeps (bound_by b) [] env e → Keeps (bound_by b) [] env' e' → go' e' ≡ go e

  mutual
    pub mean_free : (t : Term) (env env' : Environment) → ((y : Variable) → F y ≡ true → count t y ≡ 0) → Agree F env env' → mean tb call t env' ≡ mean tb call t env
    mean_free (Then b rest) env env' o h =
        run_free b env env' (λ y m. let e = o y m in omega arith) h (λ e. mean tb call rest e) (λ e. mean tb call rest e)
        (λ e e' k p q. mean_free rest e e' (λ y m. let z = o y m in omega arith) k)
    mean_free (Write c k ss ps) env env' o h =
        λ i. Gives (con k.0 (data_of (merge (fields_at tb k.0) (values_free F ss env env' (λ y m. let e = o y m in omega arith) h i) (values_free F ps env env' (λ y m. let e = o y m in omega arith) h i))))
    mean_free (Point x) env env' o h = ap Gives (value_free F x env env' o h)
    mean_free (CallTerm f xs) env env' o h = ap (call f.0) (values_free F xs env env' o h)
    mean_free (Give x) env env' o h = ap Gives (value_free F x env env' o h)
    mean_free (CaseTerm x bs) env env' o h =
        ap (λ v. mean_branches tb call bs v env') (value_free F x env env' (λ y m. let e = o y m in omega arith) h)
        ∙ branches_free bs (value env x) env env' (λ y m. let e = o y m in omega arith) h
    mean_free (IfTerm x t u) env env' o h =
        λ i. choose (is_true (value_free F x env env' (λ y m. let e = o y m in omega arith) h i))
        (mean_free t env env' (λ y m. let e = o y m in omega arith) h i)
        (mean_free u env env' (λ y m. let e = o y m in omega arith) h i)
    mean_free (Tuple tys ss ps) env env' o h =
        λ i. with_values (parts_free ps env env' (λ y m. let e = o y m in omega arith) h i) (λ vs. Gives (tuple (merge tys (values_free F ss env env' (λ y m. let e = o y m in omega arith) h i) vs)))

    side_free : (side : Side) (env env' : Environment) → ((y : Variable) → F y ≡ true → count_side side y ≡ 0) → Agree F env env' → mean_side tb call side env' ≡ mean_side tb call side env
    side_free (On kind x ty t) env env' o h = mean_free t env env' (λ y m. let e = o y m in omega arith) h
    side_free (Several xs tys t) env env' o h = mean_free t env env' (λ y m. let e = o y m in omega arith) h

    parts_free : (ps : PartTerms) (env env' : Environment) → ((y : Variable) → F y ≡ true → count_parts ps y ≡ 0) → Agree F env env' → mean_parts tb call ps env' ≡ mean_parts tb call ps env
    parts_free NoPart env env' o h = refl
    parts_free (PartThen t ps) env env' o h =
        λ i. mean_free t env env' (λ y m. let e = o y m in omega arith) h i ∷ parts_free ps env env' (λ y m. let e = o y m in omega arith) h i

    pub run_free : (b : Bind) (env env' : Environment) → ((y : Variable) → F y ≡ true → count_bind b y ≡ 0) → Agree F env env' → (go go' : Environment → Outcome) → Follows b env env' go go' → from_there (run tb call b env') go' ≡ from_there (run tb call b env) go
    run_free (Past c k) env env' o h go go' f = f env env' h (λ y p q. refl) (λ y p q. refl)
    run_free (One side) env env' o h go go' f =
        ap (λ z. from_there (having z (λ v. Went (bind_side side v env'))) go') (side_free side env env' o h)
        ∙ from_having (mean_side tb call side env) (λ v. Went (bind_side side v env)) (λ v. Went (bind_side side v env')) go go'
        (λ v. f (bind_side side v env) (bind_side side v env') (agree_side F side v env env' h) (keeps_side side v env) (keeps_side side v env'))
    run_free (Both fork l r) env env' o h go go' f =
        ap (λ w. from_there (having w (λ v. having (mean_side tb call r env') (λ w. Went (bind_side r w (bind_side l v env'))))) go') (side_free l env env' (λ y m. let e = o y m in omega arith) h)
        ∙ (ap (λ p. from_there (having (mean_side tb call l env) (λ v. having p (λ w. Went (bind_side r w (bind_side l v env'))))) go') (side_free r env env' (λ y m. let e = o y m in omega arith) h)
        ∙ from_having (mean_side tb call l env) (λ v. having (mean_side tb call r env) (λ w. Went (bind_side r w (bind_side l v env)))) (λ v. having (mean_side tb call r env) (λ w. Went (bind_side r w (bind_side l v env')))) go go'
        (λ v. from_having (mean_side tb call r env) (λ w. Went (bind_side r w (bind_side l v env))) (λ w. Went (bind_side r w (bind_side l v env'))) go go'
        (λ w. f (bind_side r w (bind_side l v env)) (bind_side r w (bind_side l v env')) (agree_side F r w (bind_side l v env) (bind_side l v env') (agree_side F l v env env' h)) (keeps_two l r v w env) (keeps_two l r v w env'))))
    run_free (Prim x f' v w) env env' o h go go' f =
        ap (λ z. from_there (having z (λ u. Went ((x.0, u) ∷ env'))) go')
        (λ i. outcome f' (number_in (value_free F v env env' (λ y m. let e = o y m in omega arith) h i)) (number_in (value_free F w env env' (λ y m. let e = o y m in omega arith) h i)))
        ∙ from_having (outcome f' (number_in (value env v)) (number_in (value env w))) (λ u. Went ((x.0, u) ∷ env)) (λ u. Went ((x.0, u) ∷ env')) go go'
        (λ u. f ((x.0, u) ∷ env) ((x.0, u) ∷ env') (agree_more F x.0 u env env' h) (keeps_one x u env) (keeps_one x u env'))
    run_free (Reach x by) env env' o h go go' f = f env env' h (λ y p q. refl) (λ y p q. refl)

    branches_free : (bs : Branches) (v : Datum) (env env' : Environment) → ((y : Variable) → F y ≡ true → count_branches bs y ≡ 0) → Agree F env env' → mean_branches tb call bs v env' ≡ mean_branches tb call bs v env
    branches_free NoBranch v env env' o h = refl
    branches_free (BranchThen k xs t rest) v env env' o h =
        λ i. choose (is_made_by (Some k.0) v)
        (mean_free t (core.bind xs (parts v) env) (core.bind xs (parts v) env') (λ y m. let e = o y m in omega arith) (agree_bind F xs (parts v) env env' h) i)
        (branches_free rest v env env' (λ y m. let e = o y m in omega arith) h i)

  module _ (once : Variable → Bool) (room : Variable) (made : ConId) where
    abbrev Ends : List Bind → List Field → Environment → Environment → (Environment → List Datum → Outcome) → (Environment → List Datum → Outcome) → Type 0
    Ends bs fs env env' G G' = (e e' : Environment) → Agree F e e' → Keeps (bound_in bs) [] env e → Keeps (bound_in bs) (variables fs) env' e' → (vs : List Datum) → G' e' vs ≡ G e vs

    keeps_then : (b : Bind) (bs : List Bind) (ys : List Variable) (env mid new : Environment) → Keeps (bound_by b) [] env mid → Keeps (bound_in bs) ys mid new → Keeps (bound_in (b ∷ bs)) ys env new
    keeps_then b bs ys env mid new h k y p q = let r = not_among (bound_by b) (bound_in bs) y p in k y r.1 q ∙ h y r.0 refl

    keeps_more : (xs ys : List Variable) (x : Variable) (env new : Environment) → Keeps xs ys env new → Keeps xs (x ∷ ys) env new
    keeps_more xs ys x env new h y p q = h y p (or_parts (x.0 == y.0) (is_among ys y) q).1

    keeps_value : (bs : List Bind) (x : Atom) (env new : Environment) → is_one (bound_in bs) x ≡ false → Keeps (bound_in bs) [] env new → value new x ≡ value env x
    keeps_value bs (a.Variable y) env new o h = h y o refl
    keeps_value bs (a.Whole z) env new o h = refl
    keeps_value bs (a.Truth b) env new o h = refl

    -- The variable of a region that is placed has the value that its field would point to.
    placed_value : (f : Field) (x : Variable) (e e' : Environment) → f.target ≡ a.Variable x → is_told F f.target ≡ false → Agree F e e' → value e' (a.Variable x) ≡ value e f.target
    placed_value f x e e' p o h = h x (sym (ap (is_told F) p) ∙ o) ∙ sym (ap (value e) p)

    pub lays_mean : {o : Bool} {bs : List Bind} {fs : List Field} {cs : List Bind} {xs : List Variable} → Lays once (Past room made) o bs fs cs xs → Unused F bs → Fit F bs fs → (env env' : Environment) → Agree F env env'
        → (G G' : Environment → List Datum → Outcome) → Ends bs fs env env' G G'
        → from_there (run_all tb call cs env') (λ e. G' e (map (value e) (as_atoms xs))) ≡ from_there (run_all tb call bs env) (λ e. G e (map (value e) (targets fs)))
    lays_mean ends u fit env env' h G G' z = z env env' h (λ y p q. refl) (λ y p q. refl) []
    lays_mean (opens l) u fit env env' h G G' z = lays_mean l u fit env env' h G G' z
    lays_mean (puts {bs = bs} {f = f} {fs = fs} {cs = cs} {xs = xs} late l) u fit env env' h G G' z =
        lays_mean l u fit.4 env ((f.variable.0, value env' f.target) ∷ env')
        (λ y o. value_past f.variable (value env' f.target) env' y (false_from_ne_true (f.variable.0 == y.0) (λ s. both_ways (F y) o (ap F (sym (same_variable f.variable y s)) ∙ fit.0))) ∙ h y o)
        (λ e vs. G e (value e f.target ∷ vs)) (λ e vs. G' e (value_in e f.variable.0 ∷ vs))
        (λ e e' k p q vs.
        let same : value_in e' f.variable.0 ≡ value e f.target =
        q f.variable fit.2 fit.3
        ∙ (value_here f.variable (value env' f.target) env'
        ∙ (value_same F f.target env env' fit.1 h
        ∙ sym (keeps_value bs f.target env e late p))) in
        ap (λ v. G' e' (v ∷ vs)) same
        ∙ z e e' k p (λ y r s. let t = or_parts (f.variable.0 == y.0) (is_among (variables fs) y) s in q y r t.1 ∙ value_past f.variable (value env' f.target) env' y t.0) (value e f.target ∷ vs))
    lays_mean (stays {b = b} {bs = bs} {fs = fs} {cs = cs} {xs = xs} l) u fit env env' h G G' z =
        from_there-and_on (run tb call b env') (run_all tb call cs) (λ e. G' e (map (value e) (as_atoms xs)))
        ∙ (run_free b env env' (λ y m. let e = u y m in omega arith) h (λ e. from_there (run_all tb call bs e) (λ e. G e (map (value e) (targets fs)))) (λ e. from_there (run_all tb call cs e) (λ e. G' e (map (value e) (as_atoms xs))))
        (λ e e' k p q. lays_mean l (λ y m. let z = u y m in omega arith) (fit_less F b bs fs fit) e e' k G G'
        (λ d d' g r s vs. z d d' g (keeps_then b bs [] env e d p r) (keeps_then b bs (variables fs) env' e' d' q s) vs))
        ∙ sym (from_there-and_on (run tb call b env) (run_all tb call bs) (λ e. G e (map (value e) (targets fs)))))
    lays_mean (one {x = x} {ty = ty} {t = t} {bs = bs} {f = f} {fs = fs} {cs = cs} {xs = xs} o e l) u fit env env' h G G' z =
        let b : Bind = One (On Region x ty t) in
        from_there-and_on (run tb call b env') (run_all tb call cs) (λ e. G' e (map (value e) (as_atoms (x ∷ xs))))
        ∙ (run_free b env env' (λ y m. let e = u y m in omega arith) h (λ e. from_there (run_all tb call bs e) (λ e. G e (map (value e) (targets (f ∷ fs))))) (λ e. from_there (run_all tb call cs e) (λ e. G' e (map (value e) (as_atoms (x ∷ xs)))))
        (λ d d' k p q. lays_mean l (λ y m. let z = u y m in omega arith) (fit_less F b bs fs fit.4) d d' k (λ e vs. G e (value e f.target ∷ vs)) (λ e vs. G' e (value e (a.Variable x) ∷ vs))
        (λ c c' g r s vs. ap (λ v. G' c' (v ∷ vs)) (placed_value f x c c' e fit.1 g) ∙ z c c' g (keeps_then b bs [] env d c p r) (keeps_more (bound_in (b ∷ bs)) (variables fs) f.variable env' c' (keeps_then b bs (variables fs) env' d' c' q s)) (value c f.target ∷ vs)))
        ∙ sym (from_there-and_on (run tb call b env) (run_all tb call bs) (λ e. G e (map (value e) (targets (f ∷ fs))))))
    lays_mean (left {fork = fork} {x = x} {ty = ty} {t = t} {r = r} {bs = bs} {f = f} {fs = fs} {cs = cs} {xs = xs} o e l) u fit env env' h G G' z =
        let b : Bind = Both fork (On Region x ty t) r in
        from_there-and_on (run tb call b env') (run_all tb call cs) (λ e. G' e (map (value e) (as_atoms (x ∷ xs))))
        ∙ (run_free b env env' (λ y m. let e = u y m in omega arith) h (λ e. from_there (run_all tb call bs e) (λ e. G e (map (value e) (targets (f ∷ fs))))) (λ e. from_there (run_all tb call cs e) (λ e. G' e (map (value e) (as_atoms (x ∷ xs)))))
        (λ d d' k p q. lays_mean l (λ y m. let z = u y m in omega arith) (fit_less F b bs fs fit.4) d d' k (λ e vs. G e (value e f.target ∷ vs)) (λ e vs. G' e (value e (a.Variable x) ∷ vs))
        (λ c c' g r s vs. ap (λ v. G' c' (v ∷ vs)) (placed_value f x c c' e fit.1 g) ∙ z c c' g (keeps_then b bs [] env d c p r) (keeps_more (bound_in (b ∷ bs)) (variables fs) f.variable env' c' (keeps_then b bs (variables fs) env' d' c' q s)) (value c f.target ∷ vs)))
        ∙ sym (from_there-and_on (run tb call b env) (run_all tb call bs) (λ e. G e (map (value e) (targets (f ∷ fs))))))
    lays_mean (right {fork = fork} {l = side} {y = x} {uy = uy} {u = t} {bs = bs} {f = f} {fs = fs} {cs = cs} {xs = xs} o e l) u fit env env' h G G' z =
        let b : Bind = Both fork side (On Region x uy t) in
        from_there-and_on (run tb call b env') (run_all tb call cs) (λ e. G' e (map (value e) (as_atoms (x ∷ xs))))
        ∙ (run_free b env env' (λ y m. let e = u y m in omega arith) h (λ e. from_there (run_all tb call bs e) (λ e. G e (map (value e) (targets (f ∷ fs))))) (λ e. from_there (run_all tb call cs e) (λ e. G' e (map (value e) (as_atoms (x ∷ xs)))))
        (λ d d' k p q. lays_mean l (λ y m. let z = u y m in omega arith) (fit_less F b bs fs fit.4) d d' k (λ e vs. G e (value e f.target ∷ vs)) (λ e vs. G' e (value e (a.Variable x) ∷ vs))
        (λ c c' g r s vs. ap (λ v. G' c' (v ∷ vs)) (placed_value f x c c' e fit.1 g) ∙ z c c' g (keeps_then b bs [] env d c p r) (keeps_more (bound_in (b ∷ bs)) (variables fs) f.variable env' c' (keeps_then b bs (variables fs) env' d' c' q s)) (value c f.target ∷ vs)))
        ∙ sym (from_there-and_on (run tb call b env) (run_all tb call bs) (λ e. G e (map (value e) (targets (f ∷ fs))))))
    lays_mean (both {fork = fork} {x = x} {ty = ty} {t = t} {y = w} {uy = uy} {u = v} {bs = bs} {f = f} {g = n} {fs = fs} {cs = cs} {xs = xs} o e o' e' l) u fit env env' h G G' z =
        let b : Bind = Both fork (On Region x ty t) (On Region w uy v) in
        from_there-and_on (run tb call b env') (run_all tb call cs) (λ e. G' e (map (value e) (as_atoms (x ∷ w ∷ xs))))
        ∙ (run_free b env env' (λ y m. let e = u y m in omega arith) h (λ e. from_there (run_all tb call bs e) (λ e. G e (map (value e) (targets (f ∷ n ∷ fs))))) (λ e. from_there (run_all tb call cs e) (λ e. G' e (map (value e) (as_atoms (x ∷ w ∷ xs)))))
        (λ d d' k p q. lays_mean l (λ y m. let z = u y m in omega arith) (fit_less F b bs fs fit.4.4) d d' k (λ e vs. G e (value e f.target ∷ value e n.target ∷ vs)) (λ e vs. G' e (value e (a.Variable x) ∷ value e (a.Variable w) ∷ vs))
        (λ c c' g r s vs.
        ap (λ v. G' c' (v ∷ value c' (a.Variable w) ∷ vs)) (placed_value f x c c' e fit.1 g)
        ∙ (ap (λ v. G' c' (value c f.target ∷ v ∷ vs)) (placed_value n w c c' e' fit.4.1 g)
        ∙ z c c' g (keeps_then b bs [] env d c p r)
        (keeps_more (bound_in (b ∷ bs)) (variables (n ∷ fs)) f.variable env' c' (keeps_more (bound_in (b ∷ bs)) (variables fs) n.variable env' c' (keeps_then b bs (variables fs) env' d' c' q s)))
        (value c f.target ∷ value c n.target ∷ vs))))
        ∙ sym (from_there-and_on (run tb call b env) (run_all tb call bs) (λ e. G e (map (value e) (targets (f ∷ n ∷ fs))))))

mean_prepend : (tb : Table) (call : Calls) (bs : List Bind) (t : Term) (env : Environment) → mean tb call (prepend bs t) env ≡ from_there (run_all tb call bs env) (λ e. mean tb call t e)
mean_prepend tb call [] t env = refl
mean_prepend tb call (b ∷ bs) t env = (λ i. from_there (run tb call b env) (λ e. mean_prepend tb call bs t e i)) ∙ sym (from_there-and_on (run tb call b env) (run_all tb call bs) (λ e. mean tb call t e))

pub fit_none : (F : Variable → Bool) (bs : List Bind) (fs : List Field) → Fit F bs fs → Fit F [] fs
fit_none F [] fs h = h
fit_none F (b ∷ bs) fs h = fit_none F bs fs (fit_less F b bs fs h)

module _ (tb : Table) (call : Calls) (once : Variable → Bool) where
  abbrev Few : Term → Type 0
  Few t = (y : Variable) → once y ≡ true → count t y ≤ 1

  abbrev Differs : Term → Type 0
  Differs t = (y : ℕ) → occurs (binders t) y ≤ 1

  abbrev MeansIt : Term → Term → Type 0
  MeansIt t u = Few t → Differs t → (env : Environment) → mean tb call u env ≡ mean tb call t env

  laid_means : (l : Filling) (cs : List Bind) (xs : List Variable) → are_fields once l.ending.fields l.ending.packed ≡ true → Lays once (Past l.room l.made) false l.run l.ending.fields cs xs
      → MeansIt (filling_line l) (prepend cs (Write l.ending.head l.ending.con l.ending.scalars (as_atoms xs)))
  laid_means l cs xs named lays few differs env =
      let F = told once l named few differs in
      let fs = l.ending.fields in
      let fit = fields_fit once l named few differs in
      let G : Environment → List Datum → Outcome = λ e vs. Gives (con l.ending.con.0 (data_of (merge (fields_at tb l.ending.con.0) (map (value e) l.ending.scalars) vs))) in
      let same : (e e' : Environment) → Agree F e e' → (vs : List Datum) → G e' vs ≡ G e vs =
      λ e e' k vs. ap (λ ws. Gives (con l.ending.con.0 (data_of (merge (fields_at tb l.ending.con.0) ws vs)))) (values_free F l.ending.scalars e e' (scalars_unused once l named few differs) k) in
      let end : (e : Environment) → mean tb call (ending_line l.ending) e ≡ G e (map (value e) (targets fs)) =
      λ e. mean_prepend tb call (map pointing fs) (Write l.ending.head l.ending.con l.ending.scalars l.ending.packed) e
      ∙ (ap (λ ps. from_there (run_all tb call (map pointing fs) e) (λ d. G d (map (value d) ps))) (fields_named once fs l.ending.packed named)
      ∙ lays_mean tb call F once l.room l.made (fields_lay once (Past l.room l.made) fs) (λ y m. refl) (fit_none F l.run fs fit) e e (λ y o. refl) G G (λ d d' k p q vs. same d d' k vs)) in
      mean_prepend tb call cs (Write l.ending.head l.ending.con l.ending.scalars (as_atoms xs)) env
      ∙ (lays_mean tb call F once l.room l.made lays (run_unused once l named few differs) fit env env (λ y o. refl) G G (λ d d' k p q vs. same d d' k vs)
      ∙ ((λ i. from_there (run_all tb call l.run env) (λ e. sym (end e) i))
      ∙ sym (mean_prepend tb call l.run (Then (Past l.room l.made) (ending_line l.ending)) env)))

  line_means : (t : Term) → MeansIt t (place_line once t)
  line_means t = line_by_steps once MeansIt (λ z f d env. refl) laid_means t

  whole_means : (t : Term) → Few t → Differs t → ((env : Environment) → mean tb call (place_inner once t) env ≡ mean tb call t env) → (env : Environment) → mean tb call (place once t) env ≡ mean tb call t env
  whole_means t few differs h env =
      line_means (place_inner once t) (λ y o. let e = few y o in let f = before_uses once t y in omega arith) (λ y. let e = differs y in let f = before_binds once t y in omega arith) env ∙ h env

  term_means : (t : Term) → Few t → Differs t → (Few t → Differs t → (env : Environment) → mean tb call (place_inner once t) env ≡ mean tb call t env) → (env : Environment) → mean tb call (place once t) env ≡ mean tb call t env
  term_means t few differs h env = whole_means t few differs (h few differs) env

  -- The same variables are bound.
  inner_bound : (side : Side) (v : Datum) (env : Environment) → bind_side (inner_side once side) v env ≡ bind_side side v env
  inner_bound (On kind x ty t) v env = refl
  inner_bound (Several xs tys t) v env = refl

  mutual
    inner_means : (t : Term) → Few t → Differs t → (env : Environment) → mean tb call (place_inner once t) env ≡ mean tb call t env
    inner_means (Then b rest) few differs env =
        λ i. from_there (bind_means b (λ y o. let e = few y o in omega arith) (λ y. let e = differs y in let f = occurs_append (bind_binders b) (binders rest) y in omega arith) env i)
        (λ e. inner_means rest (λ y o. let e = few y o in omega arith) (λ y. let e = differs y in let f = occurs_append (bind_binders b) (binders rest) y in omega arith) e i)
    inner_means (Write h k ss ps) few differs env = refl
    inner_means (Point x) few differs env = refl
    inner_means (CallTerm f xs) few differs env = refl
    inner_means (Give x) few differs env = refl
    inner_means (CaseTerm x bs) few differs env = branches_means bs (λ y o. let e = few y o in omega arith) differs (value env x) env
    inner_means (IfTerm x t u) few differs env =
        λ i. choose (is_true (value env x))
        (term_means t (λ y o. let e = few y o in omega arith) (λ y. let e = differs y in let f = occurs_append (binders t) (binders u) y in omega arith) (λ fw df. inner_means t fw df) env i)
        (term_means u (λ y o. let e = few y o in omega arith) (λ y. let e = differs y in let f = occurs_append (binders t) (binders u) y in omega arith) (λ fw df. inner_means u fw df) env i)
    inner_means (Tuple tys ss ps) few differs env = λ i. with_values (parts_means ps (λ y o. let e = few y o in omega arith) differs env i) (λ vs. Gives (tuple (merge tys (map (value env) ss) vs)))

    side_means : (side : Side) → ((y : Variable) → once y ≡ true → count_side side y ≤ 1) → ((y : ℕ) → occurs (side_binders side) y ≤ 1) → (env : Environment) → mean_side tb call (inner_side once side) env ≡ mean_side tb call side env
    side_means (On kind x ty t) few differs env = term_means t (λ y o. let e = few y o in omega arith) (λ y. let e = differs y in omega arith) (λ fw df. inner_means t fw df) env
    side_means (Several xs tys t) few differs env =
        term_means t (λ y o. let e = few y o in omega arith) (λ y. let e = differs y in let f = occurs_append (map (λ (x : Variable). x.0) xs) (binders t) y in omega arith) (λ fw df. inner_means t fw df) env

    parts_means : (ps : PartTerms) → ((y : Variable) → once y ≡ true → count_parts ps y ≤ 1) → ((y : ℕ) → occurs (part_binders ps) y ≤ 1) → (env : Environment) → mean_parts tb call (inner_parts once ps) env ≡ mean_parts tb call ps env
    parts_means NoPart few differs env = refl
    parts_means (PartThen t ps) few differs env =
        λ i. term_means t (λ y o. let e = few y o in omega arith) (λ y. let e = differs y in let f = occurs_append (binders t) (part_binders ps) y in omega arith) (λ fw df. inner_means t fw df) env i
        ∷ parts_means ps (λ y o. let e = few y o in omega arith) (λ y. let e = differs y in let f = occurs_append (binders t) (part_binders ps) y in omega arith) env i

    bind_means : (b : Bind) → ((y : Variable) → once y ≡ true → count_bind b y ≤ 1) → ((y : ℕ) → occurs (bind_binders b) y ≤ 1) → (env : Environment) → run tb call (inner_bind once b) env ≡ run tb call b env
    bind_means (Past h k) few differs env = refl
    bind_means (One side) few differs env = λ i. having (side_means side few differs env i) (λ v. Went (inner_bound side v env i))
    bind_means (Both fork l r) few differs env =
        λ i. having (side_means l (λ y o. let e = few y o in omega arith) (λ y. let e = differs y in let f = occurs_append (side_binders l) (side_binders r) y in omega arith) env i)
        (λ v. having (side_means r (λ y o. let e = few y o in omega arith) (λ y. let e = differs y in let f = occurs_append (side_binders l) (side_binders r) y in omega arith) env i)
        (λ w. Went ((ap (bind_side (inner_side once r) w) (inner_bound l v env) ∙ inner_bound r w (bind_side l v env)) i)))
    bind_means (Prim x f v w) few differs env = refl
    bind_means (Reach x by) few differs env = refl

    branches_means : (bs : Branches) → ((y : Variable) → once y ≡ true → count_branches bs y ≤ 1) → ((y : ℕ) → occurs (branch_binders bs) y ≤ 1) → (v : Datum) (env : Environment) → mean_branches tb call (inner_branches once bs) v env ≡ mean_branches tb call bs v env
    branches_means NoBranch few differs v env = refl
    branches_means (BranchThen k xs t rest) few differs v env =
        let ns = map (λ (x : Variable). x.0) xs in
        λ i. choose (is_made_by (Some k.0) v)
        (term_means t (λ y o. let e = few y o in omega arith) (λ y. let e = differs y in let f = occurs_append ns (binders t ++ branch_binders rest) y in let g = occurs_append (binders t) (branch_binders rest) y in omega arith) (λ fw df. inner_means t fw df) (core.bind xs (parts v) env) i)
        (branches_means rest (λ y o. let e = few y o in omega arith) (λ y. let e = differs y in let f = occurs_append ns (binders t ++ branch_binders rest) y in let g = occurs_append (binders t) (branch_binders rest) y in omega arith) v env i)

  pub place_means : (t : Term) → Few t → Differs t → (env : Environment) → mean tb call (place once t) env ≡ mean tb call t env
  place_means t few differs env = whole_means t few differs (inner_means t few differs) env
