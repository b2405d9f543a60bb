-- To reach fields: what passes over each `reach` says the same of a term whose fields are reached.
use Rattle.std.proofs.Common.{◌≡◌, suc, Bool, true, false, if◌then◌else◌, List, [], ◌∷◌, refl, ap, ◌∙◌}
use Rattle.gib_types.specs.declared.table.ConId.{ConId}
use Rattle.gib_types.specs.Table.{Table}
use Rattle.gib_core.specs.declared.atom.Variable.{Variable}
use Rattle.gib_core.specs.declared.atom.Access.{Access}
use Rattle.gib_core.specs.declared.atom.Access.TheVariants.{Offset, Skip, End}
use Rattle.gib_core.specs.declared.atom.AccessMode.{AccessMode}
use Rattle.gib_core.specs.declared.atom.AccessMode.TheVariants.{Skips, Offsets, Ends}
use Rattle.gib_core.specs.declared.atom.Ended.{Ended}
use Rattle.gib_core.specs.Tree.{Term, Then, Write, Point, CallTerm, Give, CaseTerm, IfTerm, Tuple, PartTerms, NoPart, PartThen, parts_count, Bind, Past, One, Both, Prim, Reach, Side, On, Several, Branches, NoBranch, BranchThen, prepend}
use Rattle.gib_core.specs.Met.{ParLine, SideLine, ReachLine, CaseLine, IfLine, SeveralLine, TupleLine, PartLine, arms_of}
use Rattle.gib_core.specs.Walk.{Entry, AtLine, AtArm, walk, walk_bind, walk_side, walk_parts, walk_branches}
use Rattle.gib_core.specs.Reaching.{uses, uses_any, Later, skips_from, offsets_from, untold_from, reaches, laters, ends_now, not_now, in_par, bind_uses, packed_variables, reach, reach_bind, reach_side, reach_parts, reach_branches}
use Rattle.gib_core.proofs.Alike.{Alike, Lines, Cases, Ifs, Tuples, Same}

-- What passes over each `reach` passes over those that are put before a term.
module _ {X : Type 0} (F : Term → X) (past : (y : Variable) (by : Access) (t : Term) → F (Then (Reach y by) t) ≡ F t) where
  skips_past : (t rest : Term) (z : Variable) (ys : List Variable) → F (prepend (skips_from t z ys) rest) ≡ F rest
  skips_past t rest z [] = refl
  skips_past t rest z (y ∷ ys) = go (uses_any t (y ∷ ys)) (skips_past t rest y ys)
    where
      go : (b : Bool) → F (prepend (skips_from t y ys) rest) ≡ F rest → F (prepend (if b then Reach y (Skip z) ∷ skips_from t y ys else []) rest) ≡ F rest
      go true e = past y (Skip z) (prepend (skips_from t y ys) rest) ∙ e
      go false e = refl

  offsets_past : (t rest : Term) (ys : List Variable) → F (prepend (offsets_from t ys) rest) ≡ F rest
  offsets_past t rest [] = refl
  offsets_past t rest (y ∷ ys) = go (uses t y) (offsets_past t rest ys)
    where
      go : (b : Bool) → F (prepend (offsets_from t ys) rest) ≡ F rest → F (prepend (if b then Reach y Offset ∷ offsets_from t ys else offsets_from t ys) rest) ≡ F rest
      go true e = past y Offset (prepend (offsets_from t ys) rest) ∙ e
      go false e = e

  pub ends_past : (used : Variable → Bool) (fs : List Later) (rest : Term) → F (prepend (ends_now used fs) rest) ≡ F rest
  ends_past used [] rest = refl
  ends_past used (f ∷ fs) rest = go (used f.field) (ends_past used fs rest)
    where
      go : (b : Bool) → F (prepend (ends_now used fs) rest) ≡ F rest → F (prepend (if b then Reach f.field (End f.before) ∷ ends_now used fs else ends_now used fs) rest) ≡ F rest
      go true e = past f.field (End f.before) (prepend (ends_now used fs) rest) ∙ e
      go false e = e

  pub reaches_past : (m : AccessMode) (es : List Ended) (t rest : Term) (xs : List Variable) → F (prepend (reaches m es t xs) rest) ≡ F rest
  reaches_past m es t rest [] = refl
  reaches_past Skips es t rest (z ∷ ys) = skips_past t rest z ys
  reaches_past Offsets es t rest (z ∷ ys) = offsets_past t rest ys
  reaches_past Ends es t rest (z ∷ ys) = offsets_past t rest (untold_from es t z ys)

-- A term whose fields are reached is of the same form, where none is reached by ends in its line.
pub reach_alike : (m : AccessMode) (tb : Table) (es : List Ended) (t : Term) → Alike (reach m tb es [] t) t
reach_alike m tb es (Then b rest) = Lines
reach_alike m tb es (Write h k ss ps) = Same
reach_alike m tb es (Point x) = Same
reach_alike m tb es (CallTerm f xs) = Same
reach_alike m tb es (Give x) = Same
reach_alike m tb es (CaseTerm x bs) = Cases
reach_alike m tb es (IfTerm x t u) = Ifs
reach_alike m tb es (Tuple tys ss ps) = Tuples

-- The heads of arms stay.
pub arms_same : (m : AccessMode) (tb : Table) (es : List Ended) (bs : Branches) → arms_of (reach_branches m tb es bs) ≡ arms_of bs
arms_same m tb es NoBranch = refl
arms_same m tb es (BranchThen k xs t rest) = ap (λ (arms : List (ConId × List Variable)). (k, xs) ∷ arms) (arms_same m tb es rest)

-- There are as many parts.
pub count_same : (m : AccessMode) (tb : Table) (es : List Ended) (ps : PartTerms) → parts_count (reach_parts m tb es ps) ≡ parts_count ps
count_same m tb es NoPart = refl
count_same m tb es (PartThen t ps) = ap suc (count_same m tb es ps)

-- A walk to which a `reach` says nothing is the same once fields are reached.
module _ {A : Type 0} (op : A → A → A) (e : A) (g : Entry → A) (past : (y : Variable) (by : Access) (a : A) → op (g (AtLine (ReachLine y by))) a ≡ a) (tb : Table) (es : List Ended) where
  none_said : (used : Variable → Bool) (fs : List Later) (t : Term) → walk op e g (prepend (ends_now used fs) t) ≡ walk op e g t
  none_said used fs t = ends_past (λ u. walk op e g u) (λ y by u. past y by (walk op e g u)) used fs t

  mutual
    pub reach_walk : (m : AccessMode) (fs : List Later) (t : Term) → walk op e g (reach m tb es fs t) ≡ walk op e g t
    reach_walk m fs (Then b rest) =
        none_said (bind_uses b) fs (Then (reach_bind m tb es b) (reach m tb es (not_now (bind_uses b) fs) rest)) ∙ (λ i. op (bind_walk m b i) (reach_walk m (not_now (bind_uses b) fs) rest i))
    reach_walk m fs (Write h k ss ps) = none_said (uses (Write h k ss ps)) fs (Write h k ss ps)
    reach_walk m fs (Point x) = none_said (uses (Point x)) fs (Point x)
    reach_walk m fs (CallTerm f xs) = none_said (uses (CallTerm f xs)) fs (CallTerm f xs)
    reach_walk m fs (Give x) = none_said (uses (Give x)) fs (Give x)
    reach_walk m fs (CaseTerm x bs) =
        none_said (uses (CaseTerm x bs)) fs (CaseTerm x (reach_branches m tb es bs)) ∙ (λ i. op (g (AtLine (CaseLine x (arms_same m tb es bs i)))) (branches_walk m bs i))
    reach_walk m fs (IfTerm x t u) =
        none_said (uses (IfTerm x t u)) fs (IfTerm x (reach m tb es [] t) (reach m tb es [] u)) ∙ (λ i. op (g (AtLine (IfLine x))) (op (reach_walk m [] t i) (reach_walk m [] u i)))
    reach_walk m fs (Tuple tys ss ps) =
        none_said (uses (Tuple tys ss ps)) fs (Tuple tys ss (reach_parts m tb es ps)) ∙ (λ i. op (g (AtLine (TupleLine tys ss (count_same m tb es ps i)))) (parts_walk m ps i))

    pub bind_walk : (m : AccessMode) (b : Bind) → walk_bind op e g (reach_bind m tb es b) ≡ walk_bind op e g b
    bind_walk m (Past h k) = refl
    bind_walk m (One s) = side_walk m s
    bind_walk m (Both fork l r) = λ i. op (g (AtLine ParLine)) (op (side_walk (in_par m) l i) (side_walk (in_par m) r i))
    bind_walk m (Prim x f y z) = refl
    bind_walk m (Reach y by) = refl

    pub side_walk : (m : AccessMode) (s : Side) → walk_side op e g (reach_side m tb es s) ≡ walk_side op e g s
    side_walk m (On kind x ty t) = λ i. op (g (AtLine (SideLine kind x ty))) (reach_walk m [] t i)
    side_walk m (Several xs tys t) = λ i. op (g (AtLine (SeveralLine xs tys))) (reach_walk m [] t i)

    parts_walk : (m : AccessMode) (ps : PartTerms) → walk_parts op e g (reach_parts m tb es ps) ≡ walk_parts op e g ps
    parts_walk m NoPart = refl
    parts_walk m (PartThen t ps) = λ i. op (g (AtLine PartLine)) (op (reach_walk m [] t i) (parts_walk m ps i))

    branches_walk : (m : AccessMode) (bs : Branches) → walk_branches op e g (reach_branches m tb es bs) ≡ walk_branches op e g bs
    branches_walk m NoBranch = refl
    branches_walk m (BranchThen k xs t rest) =
        let ps = packed_variables tb k xs in
        let fs = laters m es t ps in
        λ i. op (g (AtArm k xs)) (op ((reaches_past (λ u. walk op e g u) (λ y by u. past y by (walk op e g u)) m es t (reach m tb es fs t) ps ∙ reach_walk m fs t) i) (branches_walk m rest i))

  -- with the fields of an arm reached before it
  pub arm_walk : (m : AccessMode) (fs : List Later) (t : Term) (ps : List Variable) → walk op e g (prepend (reaches m es t ps) (reach m tb es fs t)) ≡ walk op e g t
  arm_walk m fs t ps = reaches_past (λ u. walk op e g u) (λ y by u. past y by (walk op e g u)) m es t (reach m tb es fs t) ps ∙ reach_walk m fs t
