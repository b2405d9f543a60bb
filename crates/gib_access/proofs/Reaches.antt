-- To reach the fields of arms changes neither what is left of a core nor its meaning.
use Rattle.std.proofs.Common.{◌≡◌, ℕ, Bool, List, [], ◌∷◌, map, Some, refl, ap, ◌∙◌}
use Rattle.std.specs.List.{AllByRecursion}
use Rattle.gib_types.specs.Table.{Table}
use Rattle.gib_types.specs.Tree.{Datum}
use Rattle.gib_syntax.specs.Tree as source
use Rattle.gib_syntax.specs.Tree.{Expression, DataTree}
use Rattle.gib_syntax.specs.Meaning.{Gives, Environment, tuple, with_values, choose, is_made_by, is_true, parts}
use Rattle.gib_core.specs.declared.atom.Variable.{Variable}
use Rattle.gib_core.specs.declared.atom.AccessMode.{AccessMode}
use Rattle.gib_core.specs.Tree.{Term, Then, Write, Point, CallTerm, Give, CaseTerm, IfTerm, Tuple, PartTerms, NoPart, PartThen, Bind, Past, One, Both, Prim, Reach, Side, On, Several, Branches, NoBranch, BranchThen, prepend, variables_from, CoreTree}
use Rattle.gib_core.specs.declared.atom.Ended.{Ended}
use Rattle.gib_core.specs.Met.{Body, bodies}
use Rattle.gib_core.specs.Meaning as core
use Rattle.gib_core.specs.Meaning.{Calls, value, merge, from_there, having, Went, bind_side, mean, mean_side, mean_parts, run, mean_branches, core_calls, core_run}
use Rattle.gib_core.specs.Erasing.{ident, Substitution, put_in, case_of, arm_before, let_or_put, type_name, parameters_of, par_of, arguments_of, erase, erase_bind, erase_side, erase_parts, erase_branches, erase_core, erase_atom, nowhere}
use Rattle.gib_core.specs.Reaching.{uses, bind_uses, Later, laters, ends_now, not_now, in_par, packed_variables, offsets_by, tells_ends, ended_by, reach, reach_bind, reach_side, reach_parts, reach_branches, reach_core}
use Rattle.gib_core.proofs.Alike.{alike_left}
use Rattle.gib_core.proofs.PastReaches.{ends_past, reaches_past, reach_alike}
use Rattle.gib_core.proofs.Remade.{all_of, MeansSame, remade_erased, remade_calls, remade_run}

module _ (tb : Table) (es : List Ended) where
  -- no `reach` is left
  ends_erased : (sub : Substitution) (used : Variable → Bool) (fs : List Later) (rest : Term) → erase tb sub (prepend (ends_now used fs) rest) ≡ erase tb sub rest
  ends_erased sub used fs rest = ends_past (erase tb sub) (λ y by t. refl) used fs rest

  -- the variables of sides stay, and their types
  par_same : (m : AccessMode) (l r : Side) (d e k : Expression) → par_of tb (reach_side m tb es l) d (reach_side m tb es r) e k ≡ par_of tb l d r e k
  par_same m (On kind x ty t) (On other y uy u) d e k = refl
  par_same m (On kind x ty t) (Several ys uys u) d e k = refl
  par_same m (Several xs tys t) (On other y uy u) d e k = refl
  par_same m (Several xs tys t) (Several ys uys u) d e k = refl

  mutual
    pub reach_erased : (m : AccessMode) (fs : List Later) (t : Term) (sub : Substitution) → erase tb sub (reach m tb es fs t) ≡ erase tb sub t
    reach_erased m fs (Then b rest) sub =
        ends_erased sub (bind_uses b) fs (Then (reach_bind m tb es b) (reach m tb es (not_now (bind_uses b) fs) rest))
        ∙ reach_bind_erased m b sub (λ s. erase tb s (reach m tb es (not_now (bind_uses b) fs) rest)) (λ s. erase tb s rest) (λ s. reach_erased m (not_now (bind_uses b) fs) rest s)
    reach_erased m fs (Write h k ss ps) sub = ends_erased sub (uses (Write h k ss ps)) fs (Write h k ss ps)
    reach_erased m fs (Point x) sub = ends_erased sub (uses (Point x)) fs (Point x)
    reach_erased m fs (CallTerm f xs) sub = ends_erased sub (uses (CallTerm f xs)) fs (CallTerm f xs)
    reach_erased m fs (Give x) sub = ends_erased sub (uses (Give x)) fs (Give x)
    reach_erased m fs (CaseTerm x bs) sub = ends_erased sub (uses (CaseTerm x bs)) fs (CaseTerm x (reach_branches m tb es bs)) ∙ ap (case_of (put_in sub x)) (reach_branches_erased m bs sub)
    reach_erased m fs (IfTerm x t u) sub =
        ends_erased sub (uses (IfTerm x t u)) fs (IfTerm x (reach m tb es [] t) (reach m tb es [] u))
        ∙ (λ i. source.If nowhere (erase_atom sub x) (reach_erased m [] t sub i) (reach_erased m [] u sub i))
    reach_erased m fs (Tuple tys ss ps) sub =
        ends_erased sub (uses (Tuple tys ss ps)) fs (Tuple tys ss (reach_parts m tb es ps))
        ∙ ap (λ xs. source.Tuple nowhere (map (type_name tb) tys) (arguments_of (merge tys (map (erase_atom sub) ss) xs))) (reach_parts_erased m ps sub)

    reach_bind_erased : (m : AccessMode) (b : Bind) (sub : Substitution) (k k' : Substitution → Expression) → ((s : Substitution) → k s ≡ k' s) → erase_bind tb sub (reach_bind m tb es b) k ≡ erase_bind tb sub b k'
    reach_bind_erased m (Past h c) sub k k' e = e sub
    reach_bind_erased m (One (On kind x ty t)) sub k k' e = λ i. let_or_put (alike_left kind (reach_alike m tb es t) i) x (reach_erased m [] t sub i) sub (λ s. e s i)
    reach_bind_erased m (One (Several xs tys t)) sub k k' e = λ i. source.LetSeveral nowhere (parameters_of tb xs tys) (reach_erased m [] t sub i) (e sub i)
    reach_bind_erased m (Both fork l r) sub k k' e =
        par_same (in_par m) l r (erase_side tb sub (reach_side (in_par m) tb es l)) (erase_side tb sub (reach_side (in_par m) tb es r)) (k sub)
        ∙ (λ i. par_of tb l (reach_side_erased (in_par m) l sub i) r (reach_side_erased (in_par m) r sub i) (e sub i))
    reach_bind_erased m (Prim x f y z) sub k k' e = λ i. source.Let nowhere (ident x.0) (source.Op nowhere f (erase_atom sub y) (erase_atom sub z)) (e sub i)
    reach_bind_erased m (Reach y by) sub k k' e = e sub

    reach_side_erased : (m : AccessMode) (s : Side) (sub : Substitution) → erase_side tb sub (reach_side m tb es s) ≡ erase_side tb sub s
    reach_side_erased m (On kind x ty t) sub = reach_erased m [] t sub
    reach_side_erased m (Several xs tys t) sub = reach_erased m [] t sub

    reach_parts_erased : (m : AccessMode) (ps : PartTerms) (sub : Substitution) → erase_parts tb sub (reach_parts m tb es ps) ≡ erase_parts tb sub ps
    reach_parts_erased m NoPart sub = refl
    reach_parts_erased m (PartThen t ps) sub = λ i. reach_erased m [] t sub i ∷ reach_parts_erased m ps sub i

    reach_branches_erased : (m : AccessMode) (bs : Branches) (sub : Substitution) → erase_branches tb sub (reach_branches m tb es bs) ≡ erase_branches tb sub bs
    reach_branches_erased m NoBranch sub = refl
    reach_branches_erased m (BranchThen k xs t rest) sub =
        let ps = packed_variables tb k xs in
        let fs = laters m es t ps in
        λ i. arm_before (ident (Rattle.gib_types.specs.Table.name_at tb k.0)) (map (λ (x : Variable). ident x.0) xs)
        ((reaches_past (erase tb sub) (λ y by u. refl) m es t (reach m tb es fs t) ps ∙ reach_erased m fs t sub) i) (reach_branches_erased m rest sub i)

-- What becomes of a body.
abbrev reached : AccessMode → CoreTree → Body → Term
reached mode c b = reach mode c.table (ended_by mode c) [] b.term

pub core_erased : (mode : AccessMode) (datas : List DataTree) (c : CoreTree) → erase_core datas (reach_core mode c) ≡ erase_core datas c
core_erased mode datas c =
    remade_erased (reached mode c) (offsets_by mode c) (tells_ends mode) datas c
    (all_of (λ (b : Body). erase c.table [] (reached mode c b) ≡ erase c.table [] b.term) (λ b. reach_erased c.table (ended_by mode c) mode [] b.term []) (bodies c))

module _ (tb : Table) (es : List Ended) (call : Calls) where
  ends_mean : (used : Variable → Bool) (fs : List Later) (rest : Term) (env : Environment) → mean tb call (prepend (ends_now used fs) rest) env ≡ mean tb call rest env
  ends_mean used fs rest env = ends_past (λ t. mean tb call t env) (λ y by t. refl) used fs rest

  -- the variables of a side stay
  binds_same : (m : AccessMode) (s : Side) (v : Datum) (env : Environment) → bind_side (reach_side m tb es s) v env ≡ bind_side s v env
  binds_same m (On kind x ty t) v env = refl
  binds_same m (Several xs tys t) v env = refl

  mutual
    pub reach_mean : (m : AccessMode) (fs : List Later) (t : Term) (env : Environment) → mean tb call (reach m tb es fs t) env ≡ mean tb call t env
    reach_mean m fs (Then b rest) env =
        ends_mean (bind_uses b) fs (Then (reach_bind m tb es b) (reach m tb es (not_now (bind_uses b) fs) rest)) env
        ∙ (λ i. from_there (reach_run m b env i) (λ e. reach_mean m (not_now (bind_uses b) fs) rest e i))
    reach_mean m fs (Write h k ss ps) env = ends_mean (uses (Write h k ss ps)) fs (Write h k ss ps) env
    reach_mean m fs (Point x) env = ends_mean (uses (Point x)) fs (Point x) env
    reach_mean m fs (CallTerm f xs) env = ends_mean (uses (CallTerm f xs)) fs (CallTerm f xs) env
    reach_mean m fs (Give x) env = ends_mean (uses (Give x)) fs (Give x) env
    reach_mean m fs (CaseTerm x bs) env = ends_mean (uses (CaseTerm x bs)) fs (CaseTerm x (reach_branches m tb es bs)) env ∙ branches_mean m bs (value env x) env
    reach_mean m fs (IfTerm x t u) env =
        ends_mean (uses (IfTerm x t u)) fs (IfTerm x (reach m tb es [] t) (reach m tb es [] u)) env ∙ (λ i. choose (is_true (value env x)) (reach_mean m [] t env i) (reach_mean m [] u env i))
    reach_mean m fs (Tuple tys ss ps) env =
        ends_mean (uses (Tuple tys ss ps)) fs (Tuple tys ss (reach_parts m tb es ps)) env ∙ ap (λ os. with_values os (λ vs. Gives (tuple (merge tys (map (value env) ss) vs)))) (parts_mean m ps env)

    reach_run : (m : AccessMode) (b : Bind) (env : Environment) → run tb call (reach_bind m tb es b) env ≡ run tb call b env
    reach_run m (Past h c) env = refl
    reach_run m (One s) env = λ i. having (side_mean m s env i) (λ v. Went (binds_same m s v env i))
    reach_run m (Both fork l r) env =
        λ i. having (side_mean (in_par m) l env i) (λ v. having (side_mean (in_par m) r env i) (λ w. Went (binds_same (in_par m) r w (binds_same (in_par m) l v env i) i)))
    reach_run m (Prim x f y z) env = refl
    reach_run m (Reach y by) env = refl

    side_mean : (m : AccessMode) (s : Side) (env : Environment) → mean_side tb call (reach_side m tb es s) env ≡ mean_side tb call s env
    side_mean m (On kind x ty t) env = reach_mean m [] t env
    side_mean m (Several xs tys t) env = reach_mean m [] t env

    parts_mean : (m : AccessMode) (ps : PartTerms) (env : Environment) → mean_parts tb call (reach_parts m tb es ps) env ≡ mean_parts tb call ps env
    parts_mean m NoPart env = refl
    parts_mean m (PartThen t ps) env = λ i. reach_mean m [] t env i ∷ parts_mean m ps env i

    branches_mean : (m : AccessMode) (bs : Branches) (v : Datum) (env : Environment) → mean_branches tb call (reach_branches m tb es bs) v env ≡ mean_branches tb call bs v env
    branches_mean m NoBranch v env = refl
    branches_mean m (BranchThen k xs t rest) v env =
        let ps = packed_variables tb k xs in
        let fs = laters m es t ps in
        λ i. choose (is_made_by (Some k.0) v)
        ((reaches_past (λ u. mean tb call u (core.bind xs (parts v) env)) (λ y by u. refl) m es t (reach m tb es fs t) ps ∙ reach_mean m fs t (core.bind xs (parts v) env)) i)
        (branches_mean m rest v env i)

all_mean : (mode : AccessMode) (c : CoreTree) → AllByRecursion (MeansSame c.table (reached mode c)) (bodies c)
all_mean mode c = all_of (MeansSame c.table (reached mode c)) (λ b call vs. reach_mean c.table (ended_by mode c) call mode [] b.term (core.bind (variables_from 0 b.parameters) vs [])) (bodies c)

pub calls_reached : (mode : AccessMode) (c : CoreTree) (n : ℕ) → core_calls (reach_core mode c) n ≡ core_calls c n
calls_reached mode c n = remade_calls (reached mode c) (offsets_by mode c) (tells_ends mode) c (all_mean mode c) n

pub run_reached : (mode : AccessMode) (c : CoreTree) (depth : ℕ) (v : Datum) → core_run (reach_core mode c) depth v ≡ core_run c depth v
run_reached mode c depth v = remade_run (reached mode c) (offsets_by mode c) (tells_ends mode) c (all_mean mode c) depth v
