-- To reach fields leaves what is known of ends: the ended parameters stay.
use Rattle.std.proofs.Common.{◌≡◌, Bool, ◌||◌, ◌&&◌, List, [], None, refl, ◌∙◌}
use Rattle.gib_types.specs.Table.{Table, fields_at}
use Rattle.gib_core.specs.declared.atom.Variable.{Variable}
use Rattle.gib_core.specs.declared.atom.AccessMode.{AccessMode}
use Rattle.gib_core.specs.Tree.{Term, Then, Write, Point, CallTerm, Give, CaseTerm, IfTerm, Tuple, Bind, Past, One, Both, Prim, Reach, On, Several, Branches, NoBranch, BranchThen, prepend, is_variable, CoreTree}
use Rattle.gib_core.specs.Met.{Body, bodies}
use Rattle.gib_core.specs.Ending.{Ended, is_telling, is_known, all_known, lasts_known, last_packed, ended}
use Rattle.gib_core.specs.Reaching.{uses, Later, reaches, laters, ends_now, not_now, bind_uses, packed_variables, reach, reach_bind, reach_parts, reach_branches, tells_ends, ended_by, offsets_by, reach_core}
use Rattle.gib_core.proofs.Alike.{alike_tells}
use Rattle.gib_core.proofs.Maps.{same_if}
use Rattle.gib_core.proofs.PastReaches.{ends_past, reaches_past, reach_alike}
use Rattle.gib_core.proofs.Remade.{all_of, KnowsSame, remade_ended}

module _ (tb : Table) (es gs : List Ended) where
  pub telling_same : (m : AccessMode) (b : Bind) (z : Variable) → is_telling gs (reach_bind m tb es b) z ≡ is_telling gs b z
  telling_same m (Past h k) z = refl
  telling_same m (One (On kind x ty t)) z = alike_tells (reach_alike m tb es t) gs z
  telling_same m (One (Several xs tys t)) z = refl
  telling_same m (Both fork l r) z = refl
  telling_same m (Prim x f v w) z = refl
  telling_same m (Reach y by) z = refl

  -- no `reach` tells an end
  ends_known : (used : Variable → Bool) (fs : List Later) (t : Term) (z : Variable) → is_known tb gs (prepend (ends_now used fs) t) z ≡ is_known tb gs t z
  ends_known used fs t z = ends_past (λ v. is_known tb gs v z) (λ y by v. refl) used fs t

  reaches_known : (m : AccessMode) (t u : Term) (ps : List Variable) (z : Variable) → is_known tb gs (prepend (reaches m es t ps) u) z ≡ is_known tb gs u z
  reaches_known m t u ps z = reaches_past (λ v. is_known tb gs v z) (λ y by v. refl) m es t u ps

  mutual
    pub known_same : (m : AccessMode) (fs : List Later) (t : Term) (z : Variable) → is_known tb gs (reach m tb es fs t) z ≡ is_known tb gs t z
    known_same m fs (Then b u) z =
        ends_known (bind_uses b) fs (Then (reach_bind m tb es b) (reach m tb es (not_now (bind_uses b) fs) u)) z
        ∙ (λ i. telling_same m b z i || known_same m (not_now (bind_uses b) fs) u z i)
    known_same m fs (Write h k ss ps) z = ends_known (uses (Write h k ss ps)) fs (Write h k ss ps) z
    known_same m fs (Point x) z = ends_known (uses (Point x)) fs (Point x) z
    known_same m fs (CallTerm f xs) z = ends_known (uses (CallTerm f xs)) fs (CallTerm f xs) z
    known_same m fs (Give x) z = ends_known (uses (Give x)) fs (Give x) z
    known_same m fs (CaseTerm x branches) z =
        ends_known (uses (CaseTerm x branches)) fs (CaseTerm x (reach_branches m tb es branches)) z
        ∙ (λ i. all_same m branches z i || (is_variable z x && lasts_same m branches i))
    known_same m fs (IfTerm x t u) z =
        ends_known (uses (IfTerm x t u)) fs (IfTerm x (reach m tb es [] t) (reach m tb es [] u)) z
        ∙ (λ i. known_same m [] t z i && known_same m [] u z i)
    known_same m fs (Tuple tys ss ps) z = ends_known (uses (Tuple tys ss ps)) fs (Tuple tys ss (reach_parts m tb es ps)) z

    all_same : (m : AccessMode) (branches : Branches) (z : Variable) → all_known tb gs (reach_branches m tb es branches) z ≡ all_known tb gs branches z
    all_same m NoBranch z = refl
    all_same m (BranchThen k xs t rest) z =
        let ps = packed_variables tb k xs in
        λ i. (reaches_known m t (reach m tb es (laters m es t ps) t) ps z ∙ known_same m (laters m es t ps) t z) i && all_same m rest z i

    lasts_same : (m : AccessMode) (branches : Branches) → lasts_known tb gs (reach_branches m tb es branches) ≡ lasts_known tb gs branches
    lasts_same m NoBranch = refl
    lasts_same m (BranchThen k xs t rest) =
        let ps = packed_variables tb k xs in
        λ i. same_if (last_packed None (fields_at tb k.0) xs) (λ y. is_known tb gs (prepend (reaches m es t ps) (reach m tb es (laters m es t ps) t)) y) (λ y. is_known tb gs t y)
        (λ y. reaches_known m t (reach m tb es (laters m es t ps) t) ps y ∙ known_same m (laters m es t ps) t y) i && lasts_same m rest i

-- Once its fields are reached, the same parameters of a core are ended.
pub ended_same : (mode : AccessMode) (core : CoreTree) → ended (reach_core mode core) ≡ ended_by mode core
ended_same mode core =
    let h : Body → Term = λ b. reach mode core.table (ended_by mode core) [] b.term in
    remade_ended h (offsets_by mode core) (tells_ends mode) core (all_of (KnowsSame core.table h) (λ b gs z. known_same core.table (ended_by mode core) gs mode [] b.term z) (bodies core))
