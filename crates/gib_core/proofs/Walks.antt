-- Laws of the walk on terms.
use Rattle.std.proofs.Common.{◌≡◌, ℕ, suc, List, ◌∷◌, refl, sym, ap, ◌∙◌, subst}
use Rattle.gib_types.specs.declared.table.ConId.{ConId}
use Rattle.gib_core.specs.declared.atom.Variable.{Variable}
use Rattle.gib_core.specs.Tree.{Term, Then, Write, Point, CallTerm, Give, CaseTerm, IfTerm, Tuple, PartTerms, NoPart, PartThen, parts_count, Bind, Past, One, Both, Prim, Reach, Side, On, Several, Branches, NoBranch, BranchThen}
use Rattle.gib_core.specs.Met.{PastLine, SideLine, ParLine, PrimLine, ReachLine, WriteLine, PointLine, CallLine, GiveLine, CaseLine, IfLine, SeveralLine, TupleLine, PartLine, arms_of}
use Rattle.gib_core.specs.Walk.{Entry, AtLine, AtArm, walk, walk_bind, walk_side, walk_parts, walk_branches, Nested, InSide, InArm, InIf, InPart, map_term, map_bind, map_side, map_parts, map_branches}

-- A relation that joins what two walks say: of nothing, of two, and of each entry.
pub record Joins {ℓ ℓ'} {A : Type ℓ} {B : Type ℓ'} (R : A → B → Type 0) (op : A → A → A) (e : A) (g : Entry → A) (op' : B → B → B) (e' : B) (g' : Entry → B) : Type (ℓ ⊔ ℓ') where
  pub none : R e e'
  pub two : (a b : A) (c d : B) → R a c → R b d → R (op a b) (op' c d)
  pub one : (l : Entry) → R (g l) (g' l)

-- So it joins them for whole terms.
mutual
  pub walk_joins {ℓ ℓ'} : {A : Type ℓ} {B : Type ℓ'} {R : A → B → Type 0} {op : A → A → A} {e : A} {g : Entry → A} {op' : B → B → B} {e' : B} {g' : Entry → B}
      → Joins R op e g op' e' g' → (t : Term) → R (walk op e g t) (walk op' e' g' t)
  walk_joins j (Then b rest) = j.two _ _ _ _ (bind_joins j b) (walk_joins j rest)
  walk_joins j (Write h k ss ps) = j.one (AtLine (WriteLine h k ss ps))
  walk_joins j (Point x) = j.one (AtLine (PointLine x))
  walk_joins j (CallTerm f xs) = j.one (AtLine (CallLine f xs))
  walk_joins j (Give x) = j.one (AtLine (GiveLine x))
  walk_joins j (CaseTerm x bs) = j.two _ _ _ _ (j.one (AtLine (CaseLine x (arms_of bs)))) (branches_join j bs)
  walk_joins j (IfTerm x t u) = j.two _ _ _ _ (j.one (AtLine (IfLine x))) (j.two _ _ _ _ (walk_joins j t) (walk_joins j u))
  walk_joins j (Tuple tys ss ps) = j.two _ _ _ _ (j.one (AtLine (TupleLine tys ss (parts_count ps)))) (parts_join j ps)

  pub bind_joins {ℓ ℓ'} : {A : Type ℓ} {B : Type ℓ'} {R : A → B → Type 0} {op : A → A → A} {e : A} {g : Entry → A} {op' : B → B → B} {e' : B} {g' : Entry → B}
      → Joins R op e g op' e' g' → (b : Bind) → R (walk_bind op e g b) (walk_bind op' e' g' b)
  bind_joins j (Past h k) = j.one (AtLine (PastLine h k))
  bind_joins j (One s) = side_joins j s
  bind_joins j (Both fork l r) = j.two _ _ _ _ (j.one (AtLine ParLine)) (j.two _ _ _ _ (side_joins j l) (side_joins j r))
  bind_joins j (Prim x f y z) = j.one (AtLine (PrimLine x f y z))
  bind_joins j (Reach y by) = j.one (AtLine (ReachLine y by))

  pub side_joins {ℓ ℓ'} : {A : Type ℓ} {B : Type ℓ'} {R : A → B → Type 0} {op : A → A → A} {e : A} {g : Entry → A} {op' : B → B → B} {e' : B} {g' : Entry → B}
      → Joins R op e g op' e' g' → (s : Side) → R (walk_side op e g s) (walk_side op' e' g' s)
  side_joins j (On kind x ty t) = j.two _ _ _ _ (j.one (AtLine (SideLine kind x ty))) (walk_joins j t)
  side_joins j (Several xs tys t) = j.two _ _ _ _ (j.one (AtLine (SeveralLine xs tys))) (walk_joins j t)

  pub parts_join {ℓ ℓ'} : {A : Type ℓ} {B : Type ℓ'} {R : A → B → Type 0} {op : A → A → A} {e : A} {g : Entry → A} {op' : B → B → B} {e' : B} {g' : Entry → B}
      → Joins R op e g op' e' g' → (ps : PartTerms) → R (walk_parts op e g ps) (walk_parts op' e' g' ps)
  parts_join j NoPart = j.none
  parts_join j (PartThen t ps) = j.two _ _ _ _ (j.one (AtLine PartLine)) (j.two _ _ _ _ (walk_joins j t) (parts_join j ps))

  pub branches_join {ℓ ℓ'} : {A : Type ℓ} {B : Type ℓ'} {R : A → B → Type 0} {op : A → A → A} {e : A} {g : Entry → A} {op' : B → B → B} {e' : B} {g' : Entry → B}
      → Joins R op e g op' e' g' → (bs : Branches) → R (walk_branches op e g bs) (walk_branches op' e' g' bs)
  branches_join j NoBranch = j.none
  branches_join j (BranchThen k xs t rest) = j.two _ _ _ _ (j.one (AtArm k xs)) (j.two _ _ _ _ (walk_joins j t) (branches_join j rest))

-- A function that keeps how entries are joined goes inside.
pub walk_of : {A B : Type 0} (h : A → B) (op : A → A → A) (e : A) (g : Entry → A) (op' : B → B → B) (e' : B) (g' : Entry → B)
    → h e ≡ e' → ((a b : A) → h (op a b) ≡ op' (h a) (h b)) → ((l : Entry) → h (g l) ≡ g' l) → (t : Term) → h (walk op e g t) ≡ walk op' e' g' t
walk_of h op e g op' e' g' none two one t = walk_joins {R = λ a c. h a ≡ c} {op = op} {e = e} {g = g} {op' = op'} {e' = e'} {g' = g'} (record { none = none; two = λ a b c d p q. two a b ∙ (λ i. op' (p i) (q i)); one = one }) t

-- A relation that a change of terms keeps: binding by binding, and nested term by nested term.
pub record Maps {ℓ} {A : Type ℓ} (R : A → A → Type 0) (op : A → A → A) (e : A) (l : Entry → A) (f : Bind → Bind) (g : Nested → Term → Term) : Type ℓ where
  pub same : (a : A) → R a a
  pub chain : (a b c : A) → R a b → R b c → R a c
  pub two : (a b c d : A) → R a c → R b d → R (op a b) (op c d)
  pub bound : (b : Bind) → R (walk_bind op e l (f b)) (walk_bind op e l b)
  pub nested : (s : Nested) (t : Term) → R (walk op e l (g s t)) (walk op e l t)

-- The heads of arms stay.
pub same_arms : (f : Bind → Bind) (g : Nested → Term → Term) (bs : Branches) → arms_of (map_branches f g bs) ≡ arms_of bs
same_arms f g NoBranch = refl
same_arms f g (BranchThen k xs t rest) = ap (λ l. (k, xs) ∷ l) (same_arms f g rest)

-- There are as many parts.
pub same_count : (f : Bind → Bind) (g : Nested → Term → Term) (ps : PartTerms) → parts_count (map_parts f g ps) ≡ parts_count ps
same_count f g NoPart = refl
same_count f g (PartThen t ps) = ap suc (same_count f g ps)

-- So whole terms keep it.
mutual
  pub map_joins {ℓ} : {A : Type ℓ} (R : A → A → Type 0) (op : A → A → A) (e : A) (l : Entry → A) (f : Bind → Bind) (g : Nested → Term → Term) → Maps R op e l f g → (t : Term) → R (walk op e l (map_term f g t)) (walk op e l t)
  map_joins R op e l f g m (Then b rest) = m.two _ _ _ _ (m.chain _ _ _ (m.bound (map_bind f g b)) (map_bind_joins R op e l f g m b)) (map_joins R op e l f g m rest)
  map_joins R op e l f g m (Write h c ss ps) = m.same _
  map_joins R op e l f g m (Point x) = m.same _
  map_joins R op e l f g m (CallTerm n xs) = m.same _
  map_joins R op e l f g m (Give x) = m.same _
  map_joins R op e l f g m (CaseTerm x bs) =
      m.two _ _ _ _ (subst (λ (arms : List (ConId × List Variable)). R (l (AtLine (CaseLine x arms))) (l (AtLine (CaseLine x (arms_of bs))))) (sym (same_arms f g bs)) (m.same _)) (map_branches_joins R op e l f g m bs)
  map_joins R op e l f g m (IfTerm x t u) =
      m.two _ _ _ _ (m.same _) (m.two _ _ _ _ (m.chain _ _ _ (m.nested InIf (map_term f g t)) (map_joins R op e l f g m t)) (m.chain _ _ _ (m.nested InIf (map_term f g u)) (map_joins R op e l f g m u)))
  map_joins R op e l f g m (Tuple tys ss ps) =
      m.two _ _ _ _ (subst (λ (n : ℕ). R (l (AtLine (TupleLine tys ss n))) (l (AtLine (TupleLine tys ss (parts_count ps))))) (sym (same_count f g ps)) (m.same _)) (map_parts_join R op e l f g m ps)

  pub map_bind_joins {ℓ} : {A : Type ℓ} (R : A → A → Type 0) (op : A → A → A) (e : A) (l : Entry → A) (f : Bind → Bind) (g : Nested → Term → Term) → Maps R op e l f g → (b : Bind) → R (walk_bind op e l (map_bind f g b)) (walk_bind op e l b)
  map_bind_joins R op e l f g m (Past h c) = m.same _
  map_bind_joins R op e l f g m (One s) = map_side_joins R op e l f g m s
  map_bind_joins R op e l f g m (Both fork s r) = m.two _ _ _ _ (m.same _) (m.two _ _ _ _ (map_side_joins R op e l f g m s) (map_side_joins R op e l f g m r))
  map_bind_joins R op e l f g m (Prim x o y z) = m.same _
  map_bind_joins R op e l f g m (Reach y by) = m.same _

  map_side_joins {ℓ} : {A : Type ℓ} (R : A → A → Type 0) (op : A → A → A) (e : A) (l : Entry → A) (f : Bind → Bind) (g : Nested → Term → Term) → Maps R op e l f g → (s : Side) → R (walk_side op e l (map_side f g s)) (walk_side op e l s)
  map_side_joins R op e l f g m (On kind x ty t) = m.two _ _ _ _ (m.same _) (m.chain _ _ _ (m.nested InSide (map_term f g t)) (map_joins R op e l f g m t))
  map_side_joins R op e l f g m (Several xs tys t) = m.two _ _ _ _ (m.same _) (m.chain _ _ _ (m.nested InSide (map_term f g t)) (map_joins R op e l f g m t))

  map_parts_join {ℓ} : {A : Type ℓ} (R : A → A → Type 0) (op : A → A → A) (e : A) (l : Entry → A) (f : Bind → Bind) (g : Nested → Term → Term) → Maps R op e l f g → (ps : PartTerms) → R (walk_parts op e l (map_parts f g ps)) (walk_parts op e l ps)
  map_parts_join R op e l f g m NoPart = m.same _
  map_parts_join R op e l f g m (PartThen t ps) = m.two _ _ _ _ (m.same _) (m.two _ _ _ _ (m.chain _ _ _ (m.nested InPart (map_term f g t)) (map_joins R op e l f g m t)) (map_parts_join R op e l f g m ps))

  map_branches_joins {ℓ} : {A : Type ℓ} (R : A → A → Type 0) (op : A → A → A) (e : A) (l : Entry → A) (f : Bind → Bind) (g : Nested → Term → Term) → Maps R op e l f g → (bs : Branches) → R (walk_branches op e l (map_branches f g bs)) (walk_branches op e l bs)
  map_branches_joins R op e l f g m NoBranch = m.same _
  map_branches_joins R op e l f g m (BranchThen c xs t rest) =
      m.two _ _ _ _ (m.same _) (m.two _ _ _ _ (m.chain _ _ _ (m.nested (InArm c xs) (map_term f g t)) (map_joins R op e l f g m t)) (map_branches_joins R op e l f g m rest))

-- A change of terms keeps what a walk says: binding by binding, and nested term by nested term.
pub record Keeps {A : Type 0} (op : A → A → A) (e : A) (l : Entry → A) (f : Bind → Bind) (g : Nested → Term → Term) : Type 0 where
  pub bound : (b : Bind) → walk_bind op e l (f b) ≡ walk_bind op e l b
  pub nested : (s : Nested) (t : Term) → walk op e l (g s t) ≡ walk op e l t

keeps_maps : {A : Type 0} (op : A → A → A) (e : A) (l : Entry → A) (f : Bind → Bind) (g : Nested → Term → Term) → Keeps op e l f g → Maps (λ (a b : A). a ≡ b) op e l f g
keeps_maps op e l f g k = record { same = λ a. refl; chain = λ a b c p q. p ∙ q; two = λ a b c d p q i. op (p i) (q i); bound = k.bound; nested = k.nested }

pub map_keeps : {A : Type 0} (op : A → A → A) (e : A) (l : Entry → A) (f : Bind → Bind) (g : Nested → Term → Term) → Keeps op e l f g → (t : Term) → walk op e l (map_term f g t) ≡ walk op e l t
map_keeps op e l f g k t = map_joins (λ a b. a ≡ b) op e l f g (keeps_maps op e l f g k) t

pub map_bind_keeps : {A : Type 0} (op : A → A → A) (e : A) (l : Entry → A) (f : Bind → Bind) (g : Nested → Term → Term) → Keeps op e l f g → (b : Bind) → walk_bind op e l (map_bind f g b) ≡ walk_bind op e l b
map_bind_keeps op e l f g k b = map_bind_joins (λ a b. a ≡ b) op e l f g (keeps_maps op e l f g k) b
