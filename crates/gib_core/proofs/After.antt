-- What stands behind a term is told by its entries, whatever the term is met with.
use Rattle.std.proofs.Common.{◌≡◌, List, refl, ap, ◌∙◌}
use Rattle.gib_types.specs.declared.table.Ty.{Ty}
use Rattle.gib_types.specs.Table.{Table, first_type, further_types, tree_types}
use Rattle.gib_core.specs.Tree.{Term, Then, Write, Point, CallTerm, Give, CaseTerm, IfTerm, Tuple, PartTerms, NoPart, PartThen, parts_count, Bind, Past, One, Both, Prim, Reach, Side, On, Several, Branches, NoBranch, BranchThen}
use Rattle.gib_core.specs.Met.{Setting, SideLine, CaseLine, IfLine, SeveralLine, TupleLine, PartLine, behind, in_side, in_several, in_part, in_arm, in_branch, left_of, right_of, arms_of, met, met_bind, met_side, met_parts, met_branches}
use Rattle.gib_core.specs.Rules.{Before, next, next_all}
use Rattle.gib_core.specs.Walk.{Entry, AtLine, AtArm, walk, walk_bind, walk_side, walk_parts, walk_branches}
use Rattle.gib_core.proofs.Along.{next_append}

-- One after the other.
abbrev pub in_turn : {A : Type 0} → (A → A) → (A → A) → A → A
in_turn f g b = g (f b)

-- What stands behind an entry.
abbrev pub step : Table → Entry → Before → Before
step tb (AtLine l) b = next tb b l
step tb (AtArm k xs) b = b

-- What stands behind a term; behind a side.
abbrev pub after : Table → Term → Before → Before
after tb t = walk in_turn (λ b. b) (step tb) t

abbrev pub after_side : Table → Side → Before → Before
after_side tb s = walk_side in_turn (λ b. b) (step tb) s

module _ (tb : Table) where
  mutual
    pub after_is : (t : Term) (s : Setting) (b : Before) → next_all tb b (met tb s t) ≡ after tb t b
    after_is (Then x rest) s b = next_append tb b (met_bind tb s x) (met tb (behind s x) rest) ∙ after_is rest (behind s x) (next_all tb b (met_bind tb s x)) ∙ ap (after tb rest) (bind_after x s b)
    after_is (Write h k ss ps) s b = refl
    after_is (Point x) s b = refl
    after_is (CallTerm f xs) s b = refl
    after_is (Give x) s b = refl
    after_is (CaseTerm x bs) s b = branches_after bs s (next tb b (CaseLine x (arms_of bs)))
    after_is (IfTerm x t u) s b =
        let c = next tb b (IfLine x) in
        next_append tb c (met tb (in_branch s) t) (met tb (in_branch s) u) ∙ after_is u (in_branch s) (next_all tb c (met tb (in_branch s) t)) ∙ ap (after tb u) (after_is t (in_branch s) c)
    after_is (Tuple tys ss ps) s b = parts_after ps (tree_types tys) s (next tb b (TupleLine tys ss (parts_count ps)))

    pub bind_after : (x : Bind) (s : Setting) (b : Before) → next_all tb b (met_bind tb s x) ≡ walk_bind in_turn (λ c. c) (step tb) x b
    bind_after (Past h k) s b = refl
    bind_after (One x) s b = side_after x s b
    bind_after (Both fork l r) s b =
        next_append tb b (met_side tb (left_of s r) l) (met_side tb (right_of s l) r) ∙ side_after r (right_of s l) (next_all tb b (met_side tb (left_of s r) l))
        ∙ ap (after_side tb r) (side_after l (left_of s r) b)
    bind_after (Prim x f y z) s b = refl
    bind_after (Reach y by) s b = refl

    pub side_after : (x : Side) (s : Setting) (b : Before) → next_all tb b (met_side tb s x) ≡ after_side tb x b
    side_after (On kind x ty t) s b = after_is t (in_side tb s kind ty) (next tb b (SideLine kind x ty))
    side_after (Several xs tys t) s b = after_is t (in_several s tys) (next tb b (SeveralLine xs tys))

    pub parts_after : (ps : PartTerms) (tys : List Ty) (s : Setting) (b : Before) → next_all tb b (met_parts tb s tys ps) ≡ walk_parts in_turn (λ c. c) (step tb) ps b
    parts_after NoPart tys s b = refl
    parts_after (PartThen t ps) tys s b =
        let inner : Setting = in_part s (first_type tys) in
        let c = next tb b PartLine in
        next_append tb c (met tb inner t) (met_parts tb s (further_types tys) ps) ∙ parts_after ps (further_types tys) s (next_all tb c (met tb inner t))
        ∙ ap (walk_parts in_turn (λ d. d) (step tb) ps) (after_is t inner c)

    pub branches_after : (bs : Branches) (s : Setting) (b : Before) → next_all tb b (met_branches tb s bs) ≡ walk_branches in_turn (λ c. c) (step tb) bs b
    branches_after NoBranch s b = refl
    branches_after (BranchThen k xs t rest) s b =
        next_append tb b (met tb (in_arm tb s k xs) t) (met_branches tb s rest) ∙ branches_after rest s (next_all tb b (met tb (in_arm tb s k xs) t)) ∙ ap (walk_branches in_turn (λ c. c) (step tb) rest) (after_is t (in_arm tb s k xs) b)
