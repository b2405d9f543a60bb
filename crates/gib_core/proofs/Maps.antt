-- What terms that are changed place by place keep: what they mean, what is left of them, how they are met, which ends are known in them.
use Rattle.std.proofs.Common.{◌≡◌, Bool, ◌||◌, ◌&&◌, List, ◌∷◌, ◌++◌, map, Option, Some, None, refl, ap, ◌∙◌}
use Rattle.gib_base.specs.declared.name.Name.{Name}
use Rattle.gib_types.specs.Table.{Table, fields_at, name_at}
use Rattle.gib_types.specs.Tree.{Datum}
use Rattle.gib_types.specs.declared.table.Ty.{Ty}
use Rattle.gib_types.specs.Table.{first_type, further_types, tree_types}
use Rattle.gib_syntax.specs.Tree as source
use Rattle.gib_syntax.specs.Tree.{Expression, If, LetSeveral, Let, Op}
use Rattle.gib_syntax.specs.Meaning.{Gives, tuple, with_values, Environment, choose, is_made_by, is_true, parts}
use Rattle.gib_core.specs.declared.atom.Variable.{Variable}
use Rattle.gib_core.specs.declared.atom.Atom.{Atom}
use Rattle.gib_core.specs.declared.atom.Kind.{Kind}
use Rattle.gib_core.specs.Tree.{Term, Then, Write, Point, CallTerm, Give, CaseTerm, IfTerm, Tuple, PartTerms, NoPart, PartThen, Bind, Past, One, Both, Prim, Reach, Side, On, Several, Branches, NoBranch, BranchThen, is_variable}
use Rattle.gib_core.specs.Meaning.{Calls, value, bind, merge, from_there, having, Went, bind_side, mean, mean_side, mean_parts, run, mean_branches}
use Rattle.gib_core.specs.Erasing.{ident, Substitution, put_in, case_of, arm_before, left_out, let_or_put, type_name, parameters_of, par_of, arguments_of, erase, erase_bind, erase_side, erase_parts, erase_branches, erase_atom, nowhere}
use Rattle.gib_core.specs.Ending.{Ended, tells, is_telling, is_known, all_known, lasts_known, last_packed, if_some}
use Rattle.gib_core.specs.Met.{call_too, behind_side, Setting, CaseLine, IfLine, SideLine, ParLine, at, in_side, in_arm, in_branch, left_of, right_of, behind, SeveralLine, TupleLine, PartLine, in_several, in_part, met, met_bind, met_side, met_parts, met_branches}
use Rattle.gib_core.specs.Walk.{Nested, InSide, InArm, InIf, InPart, map_term, map_bind, map_side, map_parts, map_branches}
use Rattle.gib_core.proofs.Walks.{same_arms, same_count}
use Rattle.gib_core.proofs.Alike.{Alike, Lines, Cases, Ifs, Tuples, Same, alike_left, alike_call, alike_tells}

-- The meaning.
module _ (tb : Table) (call : Calls) (f : Bind → Bind) (g : Nested → Term → Term)
    (bound : (b : Bind) (env : Environment) → run tb call (f b) env ≡ run tb call b env) (nested : (s : Nested) (t : Term) (env : Environment) → mean tb call (g s t) env ≡ mean tb call t env) where
  -- the variables of a side stay
  binds_same : (s : Side) (v : Datum) (env : Environment) → bind_side (map_side f g s) v env ≡ bind_side s v env
  binds_same (On kind x ty t) v env = refl
  binds_same (Several xs tys t) v env = refl

  mutual
    pub map_mean : (t : Term) (env : Environment) → mean tb call (map_term f g t) env ≡ mean tb call t env
    map_mean (Then b rest) env = λ i. from_there ((bound (map_bind f g b) env ∙ map_run b env) i) (λ e. map_mean rest e i)
    map_mean (Write h k ss ps) env = refl
    map_mean (Point x) env = refl
    map_mean (CallTerm n xs) env = refl
    map_mean (Give x) env = refl
    map_mean (CaseTerm x bs) env = branches_mean bs (value env x) env
    map_mean (IfTerm x t u) env = λ i. choose (is_true (value env x)) ((nested InIf (map_term f g t) env ∙ map_mean t env) i) ((nested InIf (map_term f g u) env ∙ map_mean u env) i)
    map_mean (Tuple tys ss ps) env = ap (λ os. with_values os (λ vs. Gives (tuple (merge tys (map (value env) ss) vs)))) (parts_mean ps env)

    map_run : (b : Bind) (env : Environment) → run tb call (map_bind f g b) env ≡ run tb call b env
    map_run (Past h c) env = refl
    map_run (One s) env = λ i. having (side_mean s env i) (λ v. Went (binds_same s v env i))
    map_run (Both fork l r) env = λ i. having (side_mean l env i) (λ v. having (side_mean r env i) (λ w. Went (binds_same r w (binds_same l v env i) i)))
    map_run (Prim x o y z) env = refl
    map_run (Reach y by) env = refl

    side_mean : (s : Side) (env : Environment) → mean_side tb call (map_side f g s) env ≡ mean_side tb call s env
    side_mean (On kind x ty t) env = nested InSide (map_term f g t) env ∙ map_mean t env
    side_mean (Several xs tys t) env = nested InSide (map_term f g t) env ∙ map_mean t env

    parts_mean : (ps : PartTerms) (env : Environment) → mean_parts tb call (map_parts f g ps) env ≡ mean_parts tb call ps env
    parts_mean NoPart env = refl
    parts_mean (PartThen t ps) env = λ i. (nested InPart (map_term f g t) env ∙ map_mean t env) i ∷ parts_mean ps env i

    branches_mean : (bs : Branches) (v : Datum) (env : Environment) → mean_branches tb call (map_branches f g bs) v env ≡ mean_branches tb call bs v env
    branches_mean NoBranch v env = refl
    branches_mean (BranchThen k xs t rest) v env =
        λ i. choose (is_made_by (Some k.0) v) ((nested (InArm k xs) (map_term f g t) (bind xs (parts v) env) ∙ map_mean t (bind xs (parts v) env)) i) (branches_mean rest v env i)

-- Such a term is of the same form.
pub map_alike : (f : Bind → Bind) (g : Nested → Term → Term) (t : Term) → Alike (map_term f g t) t
map_alike f g (Then b rest) = Lines
map_alike f g (Write h k ss ps) = Same
map_alike f g (Point x) = Same
map_alike f g (CallTerm n xs) = Same
map_alike f g (Give x) = Same
map_alike f g (CaseTerm x bs) = Cases
map_alike f g (IfTerm x t u) = Ifs
map_alike f g (Tuple tys ss ps) = Tuples

-- What is left.
module _ (tb : Table) (f : Bind → Bind) (g : Nested → Term → Term)
    (bound : (b : Bind) (sub : Substitution) (k : Substitution → Expression) → erase_bind tb sub (f b) k ≡ erase_bind tb sub b k)
    (nested : (s : Nested) (t : Term) (sub : Substitution) → erase tb sub (g s t) ≡ erase tb sub t)
    (left : (kind : Kind) (t : Term) → left_out kind (g InSide t) ≡ left_out kind t) where
  -- the variables of sides stay, and their types
  par_same : (l r : Side) (d e k : Expression) → par_of tb (map_side f g l) d (map_side f g r) e k ≡ par_of tb l d r e k
  par_same (On kind x ty t) (On other y uy u) d e k = refl
  par_same (On kind x ty t) (Several ys tys u) d e k = refl
  par_same (Several xs tys t) (On other y uy u) d e k = refl
  par_same (Several xs tys t) (Several ys uys u) d e k = refl

  mutual
    pub map_erased : (t : Term) (sub : Substitution) → erase tb sub (map_term f g t) ≡ erase tb sub t
    map_erased (Then b rest) sub = bound (map_bind f g b) sub (λ s. erase tb s (map_term f g rest)) ∙ bind_erased b sub (λ s. erase tb s (map_term f g rest)) (λ s. erase tb s rest) (λ s. map_erased rest s)
    map_erased (Write h k ss ps) sub = refl
    map_erased (Point x) sub = refl
    map_erased (CallTerm n xs) sub = refl
    map_erased (Give x) sub = refl
    map_erased (CaseTerm x bs) sub = ap (case_of (put_in sub x)) (branches_erased bs sub)
    map_erased (IfTerm x t u) sub = λ i. If nowhere (erase_atom sub x) ((nested InIf (map_term f g t) sub ∙ map_erased t sub) i) ((nested InIf (map_term f g u) sub ∙ map_erased u sub) i)
    map_erased (Tuple tys ss ps) sub = ap (λ es. source.Tuple nowhere (map (type_name tb) tys) (arguments_of (merge tys (map (erase_atom sub) ss) es))) (parts_erased ps sub)

    bind_erased : (b : Bind) (sub : Substitution) (k k' : Substitution → Expression) → ((s : Substitution) → k s ≡ k' s) → erase_bind tb sub (map_bind f g b) k ≡ erase_bind tb sub b k'
    bind_erased (Past h c) sub k k' e = e sub
    bind_erased (One (On kind x ty t)) sub k k' e =
        λ i. let_or_put ((left kind (map_term f g t) ∙ alike_left kind (map_alike f g t)) i) x ((nested InSide (map_term f g t) sub ∙ map_erased t sub) i) sub (λ s. e s i)
    bind_erased (One (Several xs tys t)) sub k k' e = λ i. LetSeveral nowhere (parameters_of tb xs tys) ((nested InSide (map_term f g t) sub ∙ map_erased t sub) i) (e sub i)
    bind_erased (Both fork l r) sub k k' e =
        par_same l r (erase_side tb sub (map_side f g l)) (erase_side tb sub (map_side f g r)) (k sub) ∙ (λ i. par_of tb l (side_erased l sub i) r (side_erased r sub i) (e sub i))
    bind_erased (Prim x o y z) sub k k' e = λ i. Let nowhere (ident x.0) (Op nowhere o (erase_atom sub y) (erase_atom sub z)) (e sub i)
    bind_erased (Reach y by) sub k k' e = e sub

    side_erased : (s : Side) (sub : Substitution) → erase_side tb sub (map_side f g s) ≡ erase_side tb sub s
    side_erased (On kind x ty t) sub = nested InSide (map_term f g t) sub ∙ map_erased t sub
    side_erased (Several xs tys t) sub = nested InSide (map_term f g t) sub ∙ map_erased t sub

    parts_erased : (ps : PartTerms) (sub : Substitution) → erase_parts tb sub (map_parts f g ps) ≡ erase_parts tb sub ps
    parts_erased NoPart sub = refl
    parts_erased (PartThen t ps) sub = λ i. (nested InPart (map_term f g t) sub ∙ map_erased t sub) i ∷ parts_erased ps sub i

    branches_erased : (bs : Branches) (sub : Substitution) → erase_branches tb sub (map_branches f g bs) ≡ erase_branches tb sub bs
    branches_erased NoBranch sub = refl
    branches_erased (BranchThen k xs t rest) sub =
        λ i. arm_before (ident (name_at tb k.0)) (map (λ (x : Variable). ident x.0) xs) ((nested (InArm k xs) (map_term f g t) sub ∙ map_erased t sub) i) (branches_erased rest sub i)

-- What stands behind a binding stays where its sides are changed.
pub map_behind : (f : Bind → Bind) (g : Nested → Term → Term) → ((t : Term) (cs : List (Name × List Atom)) → call_too (g InSide t) cs ≡ call_too t cs) → (s : Setting) (b : Bind) → behind s (map_bind f g b) ≡ behind s b
map_behind f g called s (Past h k) = refl
map_behind f g called s (One (On kind x ty t)) = λ i. record (behind_side s (On kind x ty t)) { calls = (called (map_term f g t) s.calls ∙ alike_call (map_alike f g t) s.calls) i }
map_behind f g called s (One (Several xs tys t)) = refl
map_behind f g called s (Both fork (On kind x ty t) (On other y uy u)) = refl
map_behind f g called s (Both fork (On kind x ty t) (Several ys tys u)) = refl
map_behind f g called s (Both fork (Several xs tys t) (On other y uy u)) = refl
map_behind f g called s (Both fork (Several xs tys t) (Several ys uys u)) = refl
map_behind f g called s (Prim x o y z) = refl
map_behind f g called s (Reach y by) = refl

-- How lines are met.
module _ (tb : Table) (f : Bind → Bind) (g : Nested → Term → Term)
    (bound : (b : Bind) (s : Setting) → met_bind tb s (f b) ≡ met_bind tb s b) (after : (b : Bind) (s : Setting) → behind s (f b) ≡ behind s b)
    (nested : (p : Nested) (t : Term) (s : Setting) → met tb s (g p t) ≡ met tb s t) (called : (t : Term) (cs : List (Name × List Atom)) → call_too (g InSide t) cs ≡ call_too t cs) where
  left_same : (s : Setting) (r : Side) → left_of s (map_side f g r) ≡ left_of s r
  left_same s (On kind x ty t) = refl
  left_same s (Several xs tys t) = refl

  right_same : (s : Setting) (l : Side) → right_of s (map_side f g l) ≡ right_of s l
  right_same s (On kind x ty t) = refl
  right_same s (Several xs tys t) = refl

  mutual
    pub map_met : (t : Term) (s : Setting) → met tb s (map_term f g t) ≡ met tb s t
    map_met (Then b rest) s =
        (λ i. (bound (map_bind f g b) s ∙ bind_met b s) i ++ met tb ((after (map_bind f g b) s ∙ map_behind f g called s b) i) (map_term f g rest)) ∙ ap (λ l. met_bind tb s b ++ l) (map_met rest (behind s b))
    map_met (Write h k ss ps) s = refl
    map_met (Point x) s = refl
    map_met (CallTerm n xs) s = refl
    map_met (Give x) s = refl
    map_met (CaseTerm x bs) s = λ i. at s (CaseLine x (same_arms f g bs i)) ∷ branches_met bs s i
    map_met (IfTerm x t u) s =
        λ i. at s (IfLine x) ∷ ((nested InIf (map_term f g t) (in_branch s) ∙ map_met t (in_branch s)) i ++ (nested InIf (map_term f g u) (in_branch s) ∙ map_met u (in_branch s)) i)
    map_met (Tuple tys ss ps) s = λ i. at s (TupleLine tys ss (same_count f g ps i)) ∷ parts_met ps (tree_types tys) s i

    bind_met : (b : Bind) (s : Setting) → met_bind tb s (map_bind f g b) ≡ met_bind tb s b
    bind_met (Past h k) s = refl
    bind_met (One x) s = side_met x s
    bind_met (Both fork l r) s =
        λ i. at s ParLine ∷ ((ap (λ u. met_side tb u (map_side f g l)) (left_same s r) ∙ side_met l (left_of s r)) i
        ++ (ap (λ u. met_side tb u (map_side f g r)) (right_same s l) ∙ side_met r (right_of s l)) i)
    bind_met (Prim x o y z) s = refl
    bind_met (Reach y by) s = refl

    side_met : (x : Side) (s : Setting) → met_side tb s (map_side f g x) ≡ met_side tb s x
    side_met (On kind x ty t) s = λ i. at s (SideLine kind x ty) ∷ (nested InSide (map_term f g t) (in_side tb s kind ty) ∙ map_met t (in_side tb s kind ty)) i
    side_met (Several xs tys t) s = λ i. at s (SeveralLine xs tys) ∷ (nested InSide (map_term f g t) (in_several s tys) ∙ map_met t (in_several s tys)) i

    parts_met : (ps : PartTerms) (tys : List Ty) (s : Setting) → met_parts tb s tys (map_parts f g ps) ≡ met_parts tb s tys ps
    parts_met NoPart tys s = refl
    parts_met (PartThen t ps) tys s =
        let inner : Setting = in_part s (first_type tys) in
        λ i. at s PartLine ∷ ((nested InPart (map_term f g t) inner ∙ map_met t inner) i ++ parts_met ps (further_types tys) s i)

    branches_met : (bs : Branches) (s : Setting) → met_branches tb s (map_branches f g bs) ≡ met_branches tb s bs
    branches_met NoBranch s = refl
    branches_met (BranchThen k xs t rest) s = λ i. (nested (InArm k xs) (map_term f g t) (in_arm tb s k xs) ∙ map_met t (in_arm tb s k xs)) i ++ branches_met rest s i

pub same_if : (o : Option Variable) (p q : Variable → Bool) → ((y : Variable) → p y ≡ q y) → if_some o p ≡ if_some o q
same_if None p q h = refl
same_if (Some y) p q h = h y

-- Which ends are known.
module _ (tb : Table) (es : List Ended) (f : Bind → Bind) (g : Nested → Term → Term)
    (bound : (b : Bind) (z : Variable) → is_telling es (f b) z ≡ is_telling es b z) (told : (t : Term) (z : Variable) → tells es (g InSide t) z ≡ tells es t z)
    (nested : (s : Nested) (t : Term) (z : Variable) → is_known tb es (g s t) z ≡ is_known tb es t z) where
  map_telling : (b : Bind) (z : Variable) → is_telling es (map_bind f g b) z ≡ is_telling es b z
  map_telling (Past h k) z = refl
  map_telling (One (On kind x ty t)) z = told (map_term f g t) z ∙ alike_tells (map_alike f g t) es z
  map_telling (One (Several xs tys t)) z = refl
  map_telling (Both fork l r) z = refl
  map_telling (Prim x o y w) z = refl
  map_telling (Reach y by) z = refl

  mutual
    pub map_known : (t : Term) (z : Variable) → is_known tb es (map_term f g t) z ≡ is_known tb es t z
    map_known (Then b rest) z = λ i. (bound (map_bind f g b) z ∙ map_telling b z) i || map_known rest z i
    map_known (Write h k ss ps) z = refl
    map_known (Point x) z = refl
    map_known (CallTerm n xs) z = refl
    map_known (Give x) z = refl
    map_known (CaseTerm x bs) z = λ i. all_known_same bs z i || (is_variable z x && lasts_known_same bs i)
    map_known (IfTerm x t u) z = λ i. (nested InIf (map_term f g t) z ∙ map_known t z) i && (nested InIf (map_term f g u) z ∙ map_known u z) i
    map_known (Tuple tys ss ps) z = refl

    all_known_same : (bs : Branches) (z : Variable) → all_known tb es (map_branches f g bs) z ≡ all_known tb es bs z
    all_known_same NoBranch z = refl
    all_known_same (BranchThen k xs t rest) z = λ i. (nested (InArm k xs) (map_term f g t) z ∙ map_known t z) i && all_known_same rest z i

    lasts_known_same : (bs : Branches) → lasts_known tb es (map_branches f g bs) ≡ lasts_known tb es bs
    lasts_known_same NoBranch = refl
    lasts_known_same (BranchThen k xs t rest) =
        λ i. same_if (last_packed None (fields_at tb k.0) xs) (λ y. is_known tb es (g (InArm k xs) (map_term f g t)) y) (λ y. is_known tb es t y)
        (λ y. nested (InArm k xs) (map_term f g t) y ∙ map_known t y) i && lasts_known_same rest i
