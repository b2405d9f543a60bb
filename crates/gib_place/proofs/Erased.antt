-- What is left of what a line is laid out as is what is left of the line.
use Rattle.std.proofs.Common.{◌≡◌, ℕ, ◌≤◌, Bool, true, false, ◌==◌, if◌then◌else◌, List, [], ◌∷◌, ◌++◌, map, Option, Some, None, refl, sym, ap, ◌∙◌, arith}
use Rattle.std.proofs.lemmas.Bool.{eq-eqb, both_ways, false_from_ne_true, or_parts}
use Rattle.gib_types.specs.Table.{Table, fields_at, name_at}
use Rattle.gib_types.specs.declared.table.Ty.{Ty}
use Rattle.gib_types.specs.declared.table.ConId.{ConId}
use Rattle.gib_syntax.specs.Tree.{Expression, Arms}
use Rattle.gib_core.specs.declared.atom.Variable.{Variable}
use Rattle.gib_core.specs.declared.atom.Atom.{Atom}
use Rattle.gib_core.specs.declared.atom.Atom.TheVariants as a
use Rattle.gib_core.specs.declared.atom.Kind.{Kind}
use Rattle.gib_core.specs.declared.atom.Kind.TheVariants.{Here, Region, Scalar}
use Rattle.gib_core.specs.Tree.{Term, Then, Write, Point, CallTerm, Give, CaseTerm, IfTerm, Tuple, PartTerms, NoPart, PartThen, Bind, Past, One, Both, Prim, Reach, Side, On, Several, Branches, NoBranch, BranchThen, prepend}
use Rattle.gib_core.specs.Meaning.{merge}
use Rattle.gib_core.specs.Erasing.{ident, nowhere, expression_of, arguments_of, Substitution, put_for, put_in, erase_atom, case_of, arm_before, left_out, let_or_put, type_name, parameters_of, side_parameters, par_of, erase, erase_bind, erase_side, erase_parts, erase_branches}
use Rattle.gib_core.specs.Inferring.{as_atoms}
use Rattle.gib_core.specs.Numbering.{binders, bind_binders, side_binders, part_binders, branch_binders}
use Rattle.gib_core.specs.Rules.{is_among}
use Rattle.gib_place.specs.declared.field.Field.{Field}
use Rattle.gib_core.specs.Counting.{count_atom, count_in, count, count_bind, count_side, count_parts, count_branches}
use Rattle.gib_place.specs.Placing.{pointing, Filling, bound_by, bound_in, is_one, are_fields, place_line, as_bound, placed_inside, place_inner, inner_bind, inner_side, inner_parts, inner_branches, place}
use Rattle.gib_place.proofs.Lays.{Lays, ends, opens, puts, stays, one, left, right, both, variables, fields_lay}
use Rattle.gib_place.proofs.Counts.{occurs, occurs_append, targets, ending_line, filling_line, fields_named, line_by_steps, before_uses, before_binds}
use Rattle.gib_place.proofs.Fitting.{own_count, not_among, is_told, Fit, fit_less, Unused, told, fields_fit, run_unused, scalars_unused}
use Rattle.gib_place.proofs.Means.{fit_none}
use Rattle.gib_core.proofs.Along.{same_variable}
use Rattle.gib_core.proofs.Alike.{alike_left}
use Rattle.gib_core.proofs.Maps.{map_alike}

-- Where variables that are told are left out, the same is put.
abbrev Agree : (Variable → Bool) → Substitution → Substitution → Type 0
Agree F sub sub' = (y : Variable) → F y ≡ false → put_for sub' y ≡ put_for sub y

abbrev Keeps : List Variable → List Variable → Substitution → Substitution → Type 0
Keeps xs ys old new = (y : Variable) → is_among xs y ≡ false → is_among ys y ≡ false → put_for new y ≡ put_for old y

agree_more : (F : Variable → Bool) (x : ℕ) (v : Atom) (sub sub' : Substitution) → Agree F sub sub' → Agree F ((x, v) ∷ sub) ((x, v) ∷ sub')
agree_more F x v sub sub' h y o = ap (λ w. if x == y.0 then v else w) (h y o)

put_same : (F : Variable → Bool) (x : Atom) (sub sub' : Substitution) → is_told F x ≡ false → Agree F sub sub' → put_in sub' x ≡ put_in sub x
put_same F (a.Variable y) sub sub' o h = h y o
put_same F (a.Whole z) sub sub' o h = refl
put_same F (a.Truth b) sub sub' o h = refl

put_free : (F : Variable → Bool) (x : Atom) (sub sub' : Substitution) → ((y : Variable) → F y ≡ true → count_atom y x ≡ 0) → Agree F sub sub' → put_in sub' x ≡ put_in sub x
put_free F (a.Variable y) sub sub' o h = h y (false_from_ne_true (F y) (λ m. let e = o y m in let s = own_count y in omega arith))
put_free F (a.Whole z) sub sub' o h = refl
put_free F (a.Truth b) sub sub' o h = refl

atom_free : (F : Variable → Bool) (x : Atom) (sub sub' : Substitution) → ((y : Variable) → F y ≡ true → count_atom y x ≡ 0) → Agree F sub sub' → erase_atom sub' x ≡ erase_atom sub x
atom_free F x sub sub' o h = ap expression_of (put_free F x sub sub' o h)

atoms_free : (F : Variable → Bool) (xs : List Atom) (sub sub' : Substitution) → ((y : Variable) → F y ≡ true → count_in y xs ≡ 0) → Agree F sub sub' → map (erase_atom sub') xs ≡ map (erase_atom sub) xs
atoms_free F [] sub sub' o h = refl
atoms_free F (x ∷ xs) sub sub' o h =
    λ i. atom_free F x sub sub' (λ y m. let e = o y m in omega arith) h i ∷ atoms_free F xs sub sub' (λ y m. let e = o y m in omega arith) h i

put_past : (x : Variable) (v : Atom) (sub : Substitution) (y : Variable) → (x.0 == y.0) ≡ false → put_for ((x.0, v) ∷ sub) y ≡ put_for sub y
put_past x v sub y e = ap (λ b. if b then v else put_for sub y) e

put_here : (x : Variable) (v : Atom) (sub : Substitution) → put_for ((x.0, v) ∷ sub) x ≡ v
put_here x v sub = ap (λ b. if b then v else put_for sub x) (eq-eqb x.0 x.0 refl)

-- What is left out is used by the term.
abbrev OutFree : (Variable → Bool) → Option Atom → Type 0
OutFree F None = Unit {0}
OutFree F (Some x) = (y : Variable) → F y ≡ true → count_atom y x ≡ 0

out_free : (F : Variable → Bool) (kind : Kind) (t : Term) → ((y : Variable) → F y ≡ true → count t y ≡ 0) → OutFree F (left_out kind t)
out_free F Here (Point x) o = o
out_free F Region (Point x) o = o
out_free F Scalar (Point x) o = tt
out_free F Here (Then b rest) o = tt
out_free F Region (Then b rest) o = tt
out_free F Scalar (Then b rest) o = tt
out_free F Here (Write h k ss ps) o = tt
out_free F Region (Write h k ss ps) o = tt
out_free F Scalar (Write h k ss ps) o = tt
out_free F Here (CallTerm f xs) o = tt
out_free F Region (CallTerm f xs) o = tt
out_free F Scalar (CallTerm f xs) o = tt
out_free F Here (Give x) o = tt
out_free F Region (Give x) o = tt
out_free F Scalar (Give x) o = tt
out_free F Here (CaseTerm x bs) o = tt
out_free F Region (CaseTerm x bs) o = tt
out_free F Scalar (CaseTerm x bs) o = tt
out_free F Here (IfTerm x t u) o = tt
out_free F Region (IfTerm x t u) o = tt
out_free F Scalar (IfTerm x t u) o = tt
out_free F Here (Tuple tys ss ps) o = tt
out_free F Region (Tuple tys ss ps) o = tt
out_free F Scalar (Tuple tys ss ps) o = tt

kinds_same : (t : Term) → left_out Here t ≡ left_out Region t
kinds_same (Then b rest) = refl
kinds_same (Write h k ss ps) = refl
kinds_same (Point x) = refl
kinds_same (CallTerm f xs) = refl
kinds_same (Give x) = refl
kinds_same (CaseTerm x bs) = refl
kinds_same (IfTerm x t u) = refl
kinds_same (Tuple tys ss ps) = refl

abbrev erase_all : Table → List Bind → Substitution → (Substitution → Expression) → Expression
erase_all tb [] sub go = go sub
erase_all tb (b ∷ bs) sub go = erase_bind tb sub b (λ s. erase_all tb bs s go)

erase_prepend : (tb : Table) (bs : List Bind) (t : Term) (sub : Substitution) → erase tb sub (prepend bs t) ≡ erase_all tb bs sub (λ s. erase tb s t)
erase_prepend tb [] t sub = refl
erase_prepend tb (b ∷ bs) t sub = λ i. erase_bind tb sub b (λ s. erase_prepend tb bs t s i)

module _ (tb : Table) (F : Variable → Bool) where
  abbrev Follows : Bind → Substitution → Substitution → (Substitution → Expression) → (Substitution → Expression) → Type 0
  Follows b sub sub' go go' = (e e' : Substitution) → Agree F e e' → Keeps (bound_by b) [] sub e → Keeps (bound_by b) [] sub' e' → go' e' ≡ go e

  let_free : (out : Option Atom) (x : Variable) (e e' : Expression) (sub sub' : Substitution) (go go' : Substitution → Expression) → OutFree F out → e' ≡ e → Agree F sub sub'
      → ((d d' : Substitution) → Agree F d d' → Keeps (x ∷ []) [] sub d → Keeps (x ∷ []) [] sub' d' → go' d' ≡ go d) → let_or_put out x e' sub' go' ≡ let_or_put out x e sub go
  let_free None x e e' sub sub' go go' o same h f = λ i. Rattle.gib_syntax.specs.Tree.Let nowhere (ident x.0) (same i) (f sub sub' h (λ y p q. refl) (λ y p q. refl) i)
  let_free (Some z) x e e' sub sub' go go' o same h f =
      ap (λ v. go' ((x.0, v) ∷ sub')) (put_free F z sub sub' o h)
      ∙ f ((x.0, put_in sub z) ∷ sub) ((x.0, put_in sub z) ∷ sub') (agree_more F x.0 (put_in sub z) sub sub' h)
      (λ y p q. put_past x (put_in sub z) sub y (or_parts (x.0 == y.0) false p).0) (λ y p q. put_past x (put_in sub z) sub' y (or_parts (x.0 == y.0) false p).0)

  mutual
    pub erase_free : (t : Term) (sub sub' : Substitution) → ((y : Variable) → F y ≡ true → count t y ≡ 0) → Agree F sub sub' → erase tb sub' t ≡ erase tb sub t
    erase_free (Then b rest) sub sub' o h =
        bind_free b sub sub' (λ y m. let e = o y m in omega arith) h (λ s. erase tb s rest) (λ s. erase tb s rest)
        (λ e e' k p q. erase_free rest e e' (λ y m. let z = o y m in omega arith) k)
    erase_free (Write c k ss ps) sub sub' o h =
        λ i. Rattle.gib_syntax.specs.Tree.Make (ident (name_at tb k.0)) (arguments_of (merge (fields_at tb k.0) (atoms_free F ss sub sub' (λ y m. let e = o y m in omega arith) h i) (atoms_free F ps sub sub' (λ y m. let e = o y m in omega arith) h i)))
    erase_free (Point x) sub sub' o h = atom_free F x sub sub' o h
    erase_free (CallTerm f xs) sub sub' o h = λ i. Rattle.gib_syntax.specs.Tree.Call (ident f.0) (arguments_of (atoms_free F xs sub sub' o h i))
    erase_free (Give x) sub sub' o h = atom_free F x sub sub' o h
    erase_free (CaseTerm x bs) sub sub' o h =
        λ i. case_of (put_free F x sub sub' (λ y m. let e = o y m in omega arith) h i) (branches_free bs sub sub' (λ y m. let e = o y m in omega arith) h i)
    erase_free (IfTerm x t u) sub sub' o h =
        λ i. Rattle.gib_syntax.specs.Tree.If nowhere (atom_free F x sub sub' (λ y m. let e = o y m in omega arith) h i)
        (erase_free t sub sub' (λ y m. let e = o y m in omega arith) h i)
        (erase_free u sub sub' (λ y m. let e = o y m in omega arith) h i)
    erase_free (Tuple tys ss ps) sub sub' o h =
        λ i. Rattle.gib_syntax.specs.Tree.Tuple nowhere (map (type_name tb) tys)
        (arguments_of (merge tys (atoms_free F ss sub sub' (λ y m. let e = o y m in omega arith) h i) (parts_free ps sub sub' (λ y m. let e = o y m in omega arith) h i)))

    side_free : (side : Side) (sub sub' : Substitution) → ((y : Variable) → F y ≡ true → count_side side y ≡ 0) → Agree F sub sub' → erase_side tb sub' side ≡ erase_side tb sub side
    side_free (On kind x ty t) sub sub' o h = erase_free t sub sub' (λ y m. let e = o y m in omega arith) h
    side_free (Several xs tys t) sub sub' o h = erase_free t sub sub' (λ y m. let e = o y m in omega arith) h

    parts_free : (ps : PartTerms) (sub sub' : Substitution) → ((y : Variable) → F y ≡ true → count_parts ps y ≡ 0) → Agree F sub sub' → erase_parts tb sub' ps ≡ erase_parts tb sub ps
    parts_free NoPart sub sub' o h = refl
    parts_free (PartThen t ps) sub sub' o h =
        λ i. erase_free t sub sub' (λ y m. let e = o y m in omega arith) h i ∷ parts_free ps sub sub' (λ y m. let e = o y m in omega arith) h i

    pub bind_free : (b : Bind) (sub sub' : Substitution) → ((y : Variable) → F y ≡ true → count_bind b y ≡ 0) → Agree F sub sub' → (go go' : Substitution → Expression) → Follows b sub sub' go go' → erase_bind tb sub' b go' ≡ erase_bind tb sub b go
    bind_free (Past c k) sub sub' o h go go' f = f sub sub' h (λ y p q. refl) (λ y p q. refl)
    bind_free (One (On kind x ty t)) sub sub' o h go go' f =
        let free : (y : Variable) → F y ≡ true → count t y ≡ 0 = λ y m. let e = o y m in omega arith in
        let_free (left_out kind t) x (erase tb sub t) (erase tb sub' t) sub sub' go go' (out_free F kind t free) (erase_free t sub sub' free h) h f
    bind_free (One (Several xs tys t)) sub sub' o h go go' f =
        λ i. Rattle.gib_syntax.specs.Tree.LetSeveral nowhere (parameters_of tb xs tys) (erase_free t sub sub' (λ y m. let e = o y m in omega arith) h i) (f sub sub' h (λ y p q. refl) (λ y p q. refl) i)
    bind_free (Both fork l r) sub sub' o h go go' f =
        λ i. par_of tb l (side_free l sub sub' (λ y m. let e = o y m in omega arith) h i) r (side_free r sub sub' (λ y m. let e = o y m in omega arith) h i) (f sub sub' h (λ y p q. refl) (λ y p q. refl) i)
    bind_free (Prim x f' v w) sub sub' o h go go' f =
        λ i. Rattle.gib_syntax.specs.Tree.Let nowhere (ident x.0) (Rattle.gib_syntax.specs.Tree.Op nowhere f' (atom_free F v sub sub' (λ y m. let e = o y m in omega arith) h i) (atom_free F w sub sub' (λ y m. let e = o y m in omega arith) h i))
        (f sub sub' h (λ y p q. refl) (λ y p q. refl) i)
    bind_free (Reach x by) sub sub' o h go go' f = f sub sub' h (λ y p q. refl) (λ y p q. refl)

    branches_free : (bs : Branches) (sub sub' : Substitution) → ((y : Variable) → F y ≡ true → count_branches bs y ≡ 0) → Agree F sub sub' → erase_branches tb sub' bs ≡ erase_branches tb sub bs
    branches_free NoBranch sub sub' o h = refl
    branches_free (BranchThen k xs t rest) sub sub' o h =
        λ i. arm_before (ident (name_at tb k.0)) (map (λ (x : Variable). ident x.0) xs) (erase_free t sub sub' (λ y m. let e = o y m in omega arith) h i) (branches_free rest sub sub' (λ y m. let e = o y m in omega arith) h i)

  module _ (once : Variable → Bool) (room : Variable) (made : ConId) where
    abbrev Ends : List Bind → List Field → Substitution → Substitution → (Substitution → List Atom → Expression) → (Substitution → List Atom → Expression) → Type 0
    Ends bs fs sub sub' G G' = (e e' : Substitution) → Agree F e e' → Keeps (bound_in bs) [] sub e → Keeps (bound_in bs) (variables fs) sub' e' → (vs : List Atom) → G' e' vs ≡ G e vs

    keeps_then : (b : Bind) (bs : List Bind) (ys : List Variable) (sub mid new : Substitution) → Keeps (bound_by b) [] sub mid → Keeps (bound_in bs) ys mid new → Keeps (bound_in (b ∷ bs)) ys sub new
    keeps_then b bs ys sub mid new h k y p q = let r = not_among (bound_by b) (bound_in bs) y p in k y r.1 q ∙ h y r.0 refl

    keeps_more : (xs ys : List Variable) (x : Variable) (sub new : Substitution) → Keeps xs ys sub new → Keeps xs (x ∷ ys) sub new
    keeps_more xs ys x sub new h y p q = h y p (or_parts (x.0 == y.0) (is_among ys y) q).1

    keeps_put : (bs : List Bind) (x : Atom) (sub new : Substitution) → is_one (bound_in bs) x ≡ false → Keeps (bound_in bs) [] sub new → put_in new x ≡ put_in sub x
    keeps_put bs (a.Variable y) sub new o h = h y o refl
    keeps_put bs (a.Whole z) sub new o h = refl
    keeps_put bs (a.Truth b) sub new o h = refl

    placed_put : (f : Field) (x : Variable) (e e' : Substitution) → f.target ≡ a.Variable x → is_told F f.target ≡ false → Agree F e e' → put_in e' (a.Variable x) ≡ put_in e f.target
    placed_put f x e e' p o h = h x (sym (ap (is_told F) p) ∙ o) ∙ sym (ap (put_in e) p)

    -- A binding that is placed, before what follows.
    step : (b b' : Bind) (bs : List Bind) (cs : List Bind) (sub sub' : Substitution) (go go' : Substitution → Expression)
        → ((s : Substitution) (k : Substitution → Expression) → erase_bind tb s b' k ≡ erase_bind tb s b k)
        → ((y : Variable) → F y ≡ true → count_bind b y ≡ 0) → Agree F sub sub'
        → ((e e' : Substitution) → Agree F e e' → Keeps (bound_by b) [] sub e → Keeps (bound_by b) [] sub' e' → erase_all tb cs e' go' ≡ erase_all tb bs e go)
        → erase_all tb (b' ∷ cs) sub' go' ≡ erase_all tb (b ∷ bs) sub go
    step b b' bs cs sub sub' go go' same o h f =
        same sub' (λ s. erase_all tb cs s go') ∙ bind_free b sub sub' o h (λ s. erase_all tb bs s go) (λ s. erase_all tb cs s go') f

    one_same : (x : Variable) (ty : Ty) (t : Term) (s : Substitution) (k : Substitution → Expression) → erase_bind tb s (One (On Here x ty t)) k ≡ erase_bind tb s (One (On Region x ty t)) k
    one_same x ty t s k = ap (λ o. let_or_put o x (erase tb s t) s k) (kinds_same t)

    -- A side of a par is left whatever its kind is.
    left_same : (x : Variable) (ty : Ty) (t : Term) (r : Side) (d e k : Expression) → par_of tb (On Here x ty t) d r e k ≡ par_of tb (On Region x ty t) d r e k
    left_same x ty t (On kind z uy u) d e k = refl
    left_same x ty t (Several zs tys u) d e k = refl

    right_same : (x : Variable) (ty : Ty) (t : Term) (l : Side) (d e k : Expression) → par_of tb l d (On Here x ty t) e k ≡ par_of tb l d (On Region x ty t) e k
    right_same x ty t (On kind z uy u) d e k = refl
    right_same x ty t (Several zs tys u) d e k = refl

    pub lays_erase : {o : Bool} {bs : List Bind} {fs : List Field} {cs : List Bind} {xs : List Variable} → Lays once (Past room made) o bs fs cs xs → Unused F bs → Fit F bs fs → (sub sub' : Substitution) → Agree F sub sub'
        → (G G' : Substitution → List Atom → Expression) → Ends bs fs sub sub' G G'
        → erase_all tb cs sub' (λ e. G' e (map (put_in e) (as_atoms xs))) ≡ erase_all tb bs sub (λ e. G e (map (put_in e) (targets fs)))
    lays_erase ends u fit sub sub' h G G' z = z sub sub' h (λ y p q. refl) (λ y p q. refl) []
    lays_erase (opens l) u fit sub sub' h G G' z = lays_erase l u fit sub sub' h G G' z
    lays_erase (puts {bs = bs} {f = f} {fs = fs} late l) u fit sub sub' h G G' z =
        lays_erase l u fit.4 sub ((f.variable.0, put_in sub' f.target) ∷ sub')
        (λ y o. put_past f.variable (put_in sub' f.target) sub' y (false_from_ne_true (f.variable.0 == y.0) (λ s. both_ways (F y) o (ap F (sym (same_variable f.variable y s)) ∙ fit.0))) ∙ h y o)
        (λ e vs. G e (put_in e f.target ∷ vs)) (λ e vs. G' e (put_for e f.variable ∷ vs))
        (λ e e' k p q vs.
        let same : put_for e' f.variable ≡ put_in e f.target =
        q f.variable fit.2 fit.3
        ∙ (put_here f.variable (put_in sub' f.target) sub'
        ∙ (put_same F f.target sub sub' fit.1 h
        ∙ sym (keeps_put bs f.target sub e late p))) in
        ap (λ v. G' e' (v ∷ vs)) same
        ∙ z e e' k p (λ y r s. let t = or_parts (f.variable.0 == y.0) (is_among (variables fs) y) s in q y r t.1 ∙ put_past f.variable (put_in sub' f.target) sub' y t.0) (put_in e f.target ∷ vs))
    lays_erase (stays {b = b} {bs = bs} {fs = fs} {cs = cs} l) u fit sub sub' h G G' z =
        step b b bs cs sub sub' (λ e. G e (map (put_in e) (targets fs))) (λ e. G' e (map (put_in e) (as_atoms _))) (λ s k. refl) (λ y m. let e = u y m in omega arith) h
        (λ e e' k p q. lays_erase l (λ y m. let z = u y m in omega arith) (fit_less F b bs fs fit) e e' k G G'
        (λ d d' g r s vs. z d d' g (keeps_then b bs [] sub e d p r) (keeps_then b bs (variables fs) sub' e' d' q s) vs))
    lays_erase (one {x = x} {ty = ty} {t = t} {bs = bs} {f = f} {fs = fs} {cs = cs} o e l) u fit sub sub' h G G' z =
        let b : Bind = One (On Region x ty t) in
        step b (One (On Here x ty t)) bs cs sub sub' (λ e. G e (map (put_in e) (targets (f ∷ fs)))) (λ e. G' e (map (put_in e) (as_atoms (x ∷ _)))) (one_same x ty t) (λ y m. let e = u y m in omega arith) h
        (λ d d' k p q. lays_erase l (λ y m. let z = u y m in omega arith) (fit_less F b bs fs fit.4) d d' k (λ e vs. G e (put_in e f.target ∷ vs)) (λ e vs. G' e (put_in e (a.Variable x) ∷ vs))
        (λ c c' g r s vs. ap (λ v. G' c' (v ∷ vs)) (placed_put f x c c' e fit.1 g) ∙ z c c' g (keeps_then b bs [] sub d c p r) (keeps_more (bound_in (b ∷ bs)) (variables fs) f.variable sub' c' (keeps_then b bs (variables fs) sub' d' c' q s)) (put_in c f.target ∷ vs)))
    lays_erase (left {fork = fork} {x = x} {ty = ty} {t = t} {r = r} {bs = bs} {f = f} {fs = fs} {cs = cs} o e l) u fit sub sub' h G G' z =
        let b : Bind = Both fork (On Region x ty t) r in
        step b (Both fork (On Here x ty t) r) bs cs sub sub' (λ e. G e (map (put_in e) (targets (f ∷ fs)))) (λ e. G' e (map (put_in e) (as_atoms (x ∷ _)))) (λ s k. left_same x ty t r (erase tb s t) (erase_side tb s r) (k s)) (λ y m. let e = u y m in omega arith) h
        (λ d d' k p q. lays_erase l (λ y m. let z = u y m in omega arith) (fit_less F b bs fs fit.4) d d' k (λ e vs. G e (put_in e f.target ∷ vs)) (λ e vs. G' e (put_in e (a.Variable x) ∷ vs))
        (λ c c' g r s vs. ap (λ v. G' c' (v ∷ vs)) (placed_put f x c c' e fit.1 g) ∙ z c c' g (keeps_then b bs [] sub d c p r) (keeps_more (bound_in (b ∷ bs)) (variables fs) f.variable sub' c' (keeps_then b bs (variables fs) sub' d' c' q s)) (put_in c f.target ∷ vs)))
    lays_erase (right {fork = fork} {l = side} {y = x} {uy = uy} {u = t} {bs = bs} {f = f} {fs = fs} {cs = cs} o e l) u fit sub sub' h G G' z =
        let b : Bind = Both fork side (On Region x uy t) in
        step b (Both fork side (On Here x uy t)) bs cs sub sub' (λ e. G e (map (put_in e) (targets (f ∷ fs)))) (λ e. G' e (map (put_in e) (as_atoms (x ∷ _)))) (λ s k. right_same x uy t side (erase_side tb s side) (erase tb s t) (k s)) (λ y m. let e = u y m in omega arith) h
        (λ d d' k p q. lays_erase l (λ y m. let z = u y m in omega arith) (fit_less F b bs fs fit.4) d d' k (λ e vs. G e (put_in e f.target ∷ vs)) (λ e vs. G' e (put_in e (a.Variable x) ∷ vs))
        (λ c c' g r s vs. ap (λ v. G' c' (v ∷ vs)) (placed_put f x c c' e fit.1 g) ∙ z c c' g (keeps_then b bs [] sub d c p r) (keeps_more (bound_in (b ∷ bs)) (variables fs) f.variable sub' c' (keeps_then b bs (variables fs) sub' d' c' q s)) (put_in c f.target ∷ vs)))
    lays_erase (both {fork = fork} {x = x} {ty = ty} {t = t} {y = w} {uy = uy} {u = v} {bs = bs} {f = f} {g = n} {fs = fs} {cs = cs} o e o' e' l) u fit sub sub' h G G' z =
        let b : Bind = Both fork (On Region x ty t) (On Region w uy v) in
        step b (Both fork (On Here x ty t) (On Here w uy v)) bs cs sub sub' (λ e. G e (map (put_in e) (targets (f ∷ n ∷ fs)))) (λ e. G' e (map (put_in e) (as_atoms (x ∷ w ∷ _)))) (λ s k. refl) (λ y m. let e = u y m in omega arith) h
        (λ d d' k p q. lays_erase l (λ y m. let z = u y m in omega arith) (fit_less F b bs fs fit.4.4) d d' k (λ e vs. G e (put_in e f.target ∷ put_in e n.target ∷ vs)) (λ e vs. G' e (put_in e (a.Variable x) ∷ put_in e (a.Variable w) ∷ vs))
        (λ c c' g r s vs.
        ap (λ v. G' c' (v ∷ put_in c' (a.Variable w) ∷ vs)) (placed_put f x c c' e fit.1 g)
        ∙ (ap (λ v. G' c' (put_in c f.target ∷ v ∷ vs)) (placed_put n w c c' e' fit.4.1 g)
        ∙ z c c' g (keeps_then b bs [] sub d c p r)
        (keeps_more (bound_in (b ∷ bs)) (variables (n ∷ fs)) f.variable sub' c' (keeps_more (bound_in (b ∷ bs)) (variables fs) n.variable sub' c' (keeps_then b bs (variables fs) sub' d' c' q s)))
        (put_in c f.target ∷ put_in c n.target ∷ vs))))

two_maps : (sub : Substitution) (xs : List Atom) → map (erase_atom sub) xs ≡ map expression_of (map (put_in sub) xs)
two_maps sub [] = refl
two_maps sub (x ∷ xs) = ap (λ l. erase_atom sub x ∷ l) (two_maps sub xs)

-- A line is placed, so it points nowhere where it pointed nowhere.
written_out : (kind : Kind) (bs : List Bind) (h : Variable) (k : ConId) (ss ps : List Atom) → left_out kind (prepend bs (Write h k ss ps)) ≡ None
written_out Here [] h k ss ps = refl
written_out Region [] h k ss ps = refl
written_out Scalar [] h k ss ps = refl
written_out Here (b ∷ bs) h k ss ps = refl
written_out Region (b ∷ bs) h k ss ps = refl
written_out Scalar (b ∷ bs) h k ss ps = refl

then_out : (kind : Kind) (bs : List Bind) (b : Bind) (t : Term) → left_out kind (prepend bs (Then b t)) ≡ None
then_out Here [] b t = refl
then_out Region [] b t = refl
then_out Scalar [] b t = refl
then_out Here (c ∷ bs) b t = refl
then_out Region (c ∷ bs) b t = refl
then_out Scalar (c ∷ bs) b t = refl

place_out : (once : Variable → Bool) (kind : Kind) (t : Term) → left_out kind (place once t) ≡ left_out kind t
place_out once kind t =
    line_by_steps once (λ t u. left_out kind u ≡ left_out kind t) (λ z. refl)
    (λ l cs xs e h. written_out kind cs l.ending.head l.ending.con l.ending.scalars (as_atoms xs) ∙ sym (then_out kind l.run (Past l.room l.made) (ending_line l.ending))) (place_inner once t)
    ∙ alike_left kind (map_alike as_bound (placed_inside once) t)

module _ (tb : Table) (once : Variable → Bool) where
  abbrev Few : Term → Type 0
  Few t = (y : Variable) → once y ≡ true → count t y ≤ 1

  abbrev Differs : Term → Type 0
  Differs t = (y : ℕ) → occurs (binders t) y ≤ 1

  abbrev LeavesIt : Term → Term → Type 0
  LeavesIt t u = Few t → Differs t → (sub : Substitution) → erase tb sub u ≡ erase tb sub t

  laid_leaves : (l : Filling) (cs : List Bind) (xs : List Variable) → are_fields once l.ending.fields l.ending.packed ≡ true → Lays once (Past l.room l.made) false l.run l.ending.fields cs xs
      → LeavesIt (filling_line l) (prepend cs (Write l.ending.head l.ending.con l.ending.scalars (as_atoms xs)))
  laid_leaves l cs xs named lays few differs sub =
      let F = told once l named few differs in
      let fs = l.ending.fields in
      let k = l.ending.con in
      let fit = fields_fit once l named few differs in
      let G : Substitution → List Atom → Expression = λ e vs. Rattle.gib_syntax.specs.Tree.Make (ident (name_at tb k.0)) (arguments_of (merge (fields_at tb k.0) (map (erase_atom e) l.ending.scalars) (map expression_of vs))) in
      let same : (e e' : Substitution) → Agree F e e' → (vs : List Atom) → G e' vs ≡ G e vs =
      λ e e' g vs i. Rattle.gib_syntax.specs.Tree.Make (ident (name_at tb k.0)) (arguments_of (merge (fields_at tb k.0) (atoms_free F l.ending.scalars e e' (scalars_unused once l named few differs) g i) (map expression_of vs))) in
      let written : (s : Substitution) (ps : List Atom) → erase tb s (Write l.ending.head k l.ending.scalars ps) ≡ G s (map (put_in s) ps) =
      λ s ps i. Rattle.gib_syntax.specs.Tree.Make (ident (name_at tb k.0)) (arguments_of (merge (fields_at tb k.0) (map (erase_atom s) l.ending.scalars) (two_maps s ps i))) in
      let end : (s : Substitution) → erase tb s (ending_line l.ending) ≡ G s (map (put_in s) (targets fs)) =
      λ s. erase_prepend tb (map pointing fs) (Write l.ending.head k l.ending.scalars l.ending.packed) s
      ∙ ((λ i. erase_all tb (map pointing fs) s (λ d. written d l.ending.packed i))
      ∙ (ap (λ ps. erase_all tb (map pointing fs) s (λ d. G d (map (put_in d) ps))) (fields_named once fs l.ending.packed named)
      ∙ lays_erase tb F once l.room l.made (fields_lay once (Past l.room l.made) fs) (λ y m. refl) (fit_none F l.run fs fit) s s (λ y o. refl) G G (λ d d' g p q vs. same d d' g vs))) in
      erase_prepend tb cs (Write l.ending.head k l.ending.scalars (as_atoms xs)) sub
      ∙ ((λ i. erase_all tb cs sub (λ d. written d (as_atoms xs) i))
      ∙ (lays_erase tb F once l.room l.made lays (run_unused once l named few differs) fit sub sub (λ y o. refl) G G (λ d d' g p q vs. same d d' g vs)
      ∙ ((λ i. erase_all tb l.run sub (λ d. sym (end d) i))
      ∙ sym (erase_prepend tb l.run (Then (Past l.room l.made) (ending_line l.ending)) sub))))

  line_leaves : (t : Term) → LeavesIt t (place_line once t)
  line_leaves t = line_by_steps once LeavesIt (λ z f d sub. refl) laid_leaves t

  term_leaves : (t : Term) → Few t → Differs t → (Few t → Differs t → (sub : Substitution) → erase tb sub (place_inner once t) ≡ erase tb sub t) → (sub : Substitution) → erase tb sub (place once t) ≡ erase tb sub t
  term_leaves t few differs h sub =
      line_leaves (place_inner once t) (λ y o. let e = few y o in let f = before_uses once t y in omega arith) (λ y. let e = differs y in let f = before_binds once t y in omega arith) sub ∙ h few differs sub

  -- The same variables are bound.
  inner_parameters : (side : Side) → side_parameters tb (inner_side once side) ≡ side_parameters tb side
  inner_parameters (On kind x ty t) = refl
  inner_parameters (Several xs tys t) = refl

  inner_par : (l r : Side) (d e k : Expression) → par_of tb (inner_side once l) d (inner_side once r) e k ≡ par_of tb l d r e k
  inner_par (On kind x ty t) (On other z uy u) d e k = refl
  inner_par (On kind x ty t) (Several zs tys u) d e k = refl
  inner_par (Several xs tys t) r d e k = ap (λ qs. Rattle.gib_syntax.specs.Tree.ParSeveral nowhere (parameters_of tb xs tys) d qs e k) (inner_parameters r)

  mutual
    inner_leaves : (t : Term) → Few t → Differs t → (sub : Substitution) → erase tb sub (place_inner once t) ≡ erase tb sub t
    inner_leaves (Then b rest) few differs sub =
        bind_leaves b (λ y o. let e = few y o in omega arith) (λ y. let e = differs y in let f = occurs_append (bind_binders b) (binders rest) y in omega arith) sub (λ s. erase tb s rest) (λ s. erase tb s (place_inner once rest))
        (λ s. inner_leaves rest (λ y o. let e = few y o in omega arith) (λ y. let e = differs y in let f = occurs_append (bind_binders b) (binders rest) y in omega arith) s)
    inner_leaves (Write h k ss ps) few differs sub = refl
    inner_leaves (Point x) few differs sub = refl
    inner_leaves (CallTerm f xs) few differs sub = refl
    inner_leaves (Give x) few differs sub = refl
    inner_leaves (CaseTerm x bs) few differs sub = ap (case_of (put_in sub x)) (branches_leave bs (λ y o. let e = few y o in omega arith) differs sub)
    inner_leaves (IfTerm x t u) few differs sub =
        λ i. Rattle.gib_syntax.specs.Tree.If nowhere (erase_atom sub x)
        (term_leaves t (λ y o. let e = few y o in omega arith) (λ y. let e = differs y in let f = occurs_append (binders t) (binders u) y in omega arith) (λ fw df. inner_leaves t fw df) sub i)
        (term_leaves u (λ y o. let e = few y o in omega arith) (λ y. let e = differs y in let f = occurs_append (binders t) (binders u) y in omega arith) (λ fw df. inner_leaves u fw df) sub i)
    inner_leaves (Tuple tys ss ps) few differs sub =
        ap (λ es. Rattle.gib_syntax.specs.Tree.Tuple nowhere (map (type_name tb) tys) (arguments_of (merge tys (map (erase_atom sub) ss) es))) (parts_leave ps (λ y o. let e = few y o in omega arith) differs sub)

    side_leaves : (side : Side) → ((y : Variable) → once y ≡ true → count_side side y ≤ 1) → ((y : ℕ) → occurs (side_binders side) y ≤ 1) → (sub : Substitution) → erase_side tb sub (inner_side once side) ≡ erase_side tb sub side
    side_leaves (On kind x ty t) few differs sub = term_leaves t (λ y o. let e = few y o in omega arith) (λ y. let e = differs y in omega arith) (λ fw df. inner_leaves t fw df) sub
    side_leaves (Several xs tys t) few differs sub =
        term_leaves t (λ y o. let e = few y o in omega arith) (λ y. let e = differs y in let f = occurs_append (map (λ (x : Variable). x.0) xs) (binders t) y in omega arith) (λ fw df. inner_leaves t fw df) sub

    parts_leave : (ps : PartTerms) → ((y : Variable) → once y ≡ true → count_parts ps y ≤ 1) → ((y : ℕ) → occurs (part_binders ps) y ≤ 1) → (sub : Substitution) → erase_parts tb sub (inner_parts once ps) ≡ erase_parts tb sub ps
    parts_leave NoPart few differs sub = refl
    parts_leave (PartThen t ps) few differs sub =
        λ i. term_leaves t (λ y o. let e = few y o in omega arith) (λ y. let e = differs y in let f = occurs_append (binders t) (part_binders ps) y in omega arith) (λ fw df. inner_leaves t fw df) sub i
        ∷ parts_leave ps (λ y o. let e = few y o in omega arith) (λ y. let e = differs y in let f = occurs_append (binders t) (part_binders ps) y in omega arith) sub i

    bind_leaves : (b : Bind) → ((y : Variable) → once y ≡ true → count_bind b y ≤ 1) → ((y : ℕ) → occurs (bind_binders b) y ≤ 1) → (sub : Substitution) (k k' : Substitution → Expression) → ((s : Substitution) → k' s ≡ k s) → erase_bind tb sub (inner_bind once b) k' ≡ erase_bind tb sub b k
    bind_leaves (Past h c) few differs sub k k' e = e sub
    bind_leaves (One (On kind x ty t)) few differs sub k k' e =
        λ i. let_or_put (place_out once kind t i) x (term_leaves t (λ y o. let e = few y o in omega arith) (λ y. let e = differs y in omega arith) (λ fw df. inner_leaves t fw df) sub i) sub (λ s. e s i)
    bind_leaves (One (Several xs tys t)) few differs sub k k' e =
        λ i. Rattle.gib_syntax.specs.Tree.LetSeveral nowhere (parameters_of tb xs tys) (side_leaves (Several xs tys t) few differs sub i) (e sub i)
    bind_leaves (Both fork l r) few differs sub k k' e =
        (λ i. par_of tb (inner_side once l) (side_leaves l (λ y o. let e = few y o in omega arith) (λ y. let e = differs y in let f = occurs_append (side_binders l) (side_binders r) y in omega arith) sub i)
        (inner_side once r) (side_leaves r (λ y o. let e = few y o in omega arith) (λ y. let e = differs y in let f = occurs_append (side_binders l) (side_binders r) y in omega arith) sub i) (e sub i))
        ∙ inner_par l r (erase_side tb sub l) (erase_side tb sub r) (k sub)
    bind_leaves (Prim x f v w) few differs sub k k' e = λ i. Rattle.gib_syntax.specs.Tree.Let nowhere (ident x.0) (Rattle.gib_syntax.specs.Tree.Op nowhere f (erase_atom sub v) (erase_atom sub w)) (e sub i)
    bind_leaves (Reach x by) few differs sub k k' e = e sub

    branches_leave : (bs : Branches) → ((y : Variable) → once y ≡ true → count_branches bs y ≤ 1) → ((y : ℕ) → occurs (branch_binders bs) y ≤ 1) → (sub : Substitution) → erase_branches tb sub (inner_branches once bs) ≡ erase_branches tb sub bs
    branches_leave NoBranch few differs sub = refl
    branches_leave (BranchThen k xs t rest) few differs sub =
        let ns = map (λ (x : Variable). x.0) xs in
        λ i. arm_before (ident (name_at tb k.0)) (map (λ (x : Variable). ident x.0) xs)
        (term_leaves t (λ y o. let e = few y o in omega arith) (λ y. let e = differs y in let f = occurs_append ns (binders t ++ branch_binders rest) y in let g = occurs_append (binders t) (branch_binders rest) y in omega arith) (λ fw df. inner_leaves t fw df) sub i)
        (branches_leave rest (λ y o. let e = few y o in omega arith) (λ y. let e = differs y in let f = occurs_append ns (binders t ++ branch_binders rest) y in let g = occurs_append (binders t) (branch_binders rest) y in omega arith) sub i)

  pub place_leaves : (t : Term) → Few t → Differs t → (sub : Substitution) → erase tb sub (place once t) ≡ erase tb sub t
  place_leaves t few differs sub = term_leaves t few differs (λ fw df. inner_leaves t fw df) sub
