-- A core whose fields only have to be reached meets the build rules once they are reached.
use Rattle.std.proofs.Common.{◌≡◌, ⊎_elim, ℕ, suc, true, false, ◌==◌, ◌||◌, List, [], ◌∷◌, ◌++◌, map, None, refl, sym, ◌∙◌, subst, Bool, if◌then◌else◌}
use Rattle.std.specs.List.{AllByRecursion, flat_map}
use Rattle.std.proofs.lemmas.Bool.{both_ways, or_left, or_right, or_cases}
use Rattle.gib_types.specs.declared.table.Ty.{Ty}
use Rattle.gib_types.specs.declared.table.ConId.{ConId}
use Rattle.gib_types.specs.Table.{fields_at, first_type, further_types, tree_types}
use Rattle.gib_syntax.specs.Results as results
use Rattle.gib_syntax.specs.Results.{Results}
use Rattle.gib_core.specs.declared.atom.Variable.{Variable}
use Rattle.gib_core.specs.declared.atom.Atom.{Atom}
use Rattle.gib_core.specs.declared.atom.AccessMode.{AccessMode}
use Rattle.gib_core.specs.declared.atom.AccessMode.TheVariants.{Skips, Offsets, Ends}
use Rattle.gib_core.specs.Tree.{Term, Then, Write, Point, CallTerm, Give, CaseTerm, IfTerm, Tuple, PartTerms, NoPart, PartThen, parts_count, Bind, Past, One, Both, Prim, Reach, Side, On, Several, Branches, NoBranch, BranchThen, prepend, FunctionTerm, CoreTree}
use Rattle.gib_core.specs.Met.{Known, Setting, at, CaseLine, TupleLine, PartLine, known, reached, in_arm, in_branch, in_part, behind, arms_of, met, met_bind, met_parts, met_branches, Body, with_parameters, opening}
use Rattle.gib_core.specs.Reaching.{is_variable, has_variable, uses, Later, not_now, laters, in_par, offset_of, offsets_in, bind_offsets, side_offsets, part_offsets, branch_offsets, all_offsets, bind_uses, parts_use, branches_use, reaches, packed_variables, ended_by, reach, reach_bind, reach_parts, reach_branches, reach_function, reach_core}
use Rattle.gib_core.specs.Ending.{Ended}
use Rattle.gib_core.specs.Rules.{Before, Bound, is_among, is_bound, is_reached, arm_variables, rules, least, next, next_all, bind_parameters, before_body, IsBuilt, AreBuilt}
use Rattle.gib_core.specs.Reachable.{LinesAreReachable, IsReachable, AreReachable}
use Rattle.gib_core.proofs.Along.{reachable_split, among_append, none_split, stays_bound}
use Rattle.gib_core.proofs.Cased.{has, has_arm, reaches_none, case_keeps, uncased}
use Rattle.gib_core.proofs.Offered.{AreListed, listed_left, listed_right, listed_all, listed_par, IsWithin, within_self, within_par}
use Rattle.gib_core.proofs.Awaits.{is_later, but, AreTold, Awaits, awaits_none, told_then, told_end, Stepped, step, waiting, left_there}
use Rattle.gib_core.proofs.EndedSame.{ended_same}
use Rattle.gib_core.proofs.Skipped.{Serves}
use Rattle.gib_core.proofs.PastReaches.{arms_same, count_same}
use Rattle.gib_core.proofs.Onward.{next_same, arm_next, bind_next}
use Rattle.gib_core.proofs.Kept.{scoped, past_kept, prim_kept, write_kept, point_kept, call_kept, give_kept, case_kept, if_kept, tuple_kept}
use Rattle.gib_core.proofs.Suited.{Suits, ArmsSuit, AreFine, IsKept, others_behind, awaits_behind, serves_more, scoped_behind, cased_after, then_built, rest_suits, term_of_side, side_from, both_from, arm_from, rest_arms, first_arm, case_arms}
use Rattle.gib_core.proofs.Outside.{IsOut, out_of}

module _ (mode : AccessMode) (core : CoreTree) where
  abbrev Listed : AccessMode → List ConId → Type 0
  Listed m ks = AreListed m (all_offsets mode core) ks

  abbrev es : List Ended
  es = ended_by mode core

  -- What is used is reached, once the fields that ends reach are.
  served : (used : Variable → Bool) (fs : List Later) (from ks new : List Known) → Stepped used fs ks new → Serves (but used fs) from ks → Serves used from new
  served used fs from ks new q h x u m = go (is_later fs x) refl (λ g. h x g m)
    where
      go : (c : Bool) → is_later fs x ≡ c → ((if c then false else used x) ≡ true → is_reached (known ks x) ≡ true) → is_reached (known new x) ≡ true
      go true l g = q.served x l u
      go false l g = q.more x (g u)

  -- A term of a line, in front of which the fields that it uses first are reached.
  go_on : (used : Variable → Bool) (fs : List Later) (s : Setting) (ks : List Known) (b : Before) (t rest : Term) → Awaits es t s ks fs → AreTold es s used fs
      → ((new : List Known) → Stepped used fs ks new → AreFine mode core b (met core.table (scoped s new) rest))
      → AreFine mode core b (met core.table (scoped s ks) (prepend (Rattle.gib_core.specs.Reaching.ends_now used fs) rest))
  go_on used fs s ks b t rest a told go =
      let same = sym (ended_same mode core) in
      step (reach_core mode core) s b used fs ks rest (subst (λ (gs : List Ended). Rattle.gib_core.proofs.Awaits.AreAwaited gs s ks fs) same a.each) a.apart (subst (λ (gs : List Ended). AreTold gs s used fs) same told) go

  with_serves : (used : Variable → Bool) (fs : List Later) (s : Setting) (ks new : List Known) (b : Before) (ms : List Rattle.gib_core.specs.Met.Met) → Stepped used fs ks new → Suits (but used fs) s ks b ms → Suits used s new b ms
  with_serves used fs s ks new b ms q h = record { serves = served used fs s.scope ks new q h.serves; bound = h.bound; cased = h.cased; differs = h.differs }

  but_left : (fs : List Later) (x : Variable) (a c : Bool) → (if is_later fs x then false else a) ≡ true → (if is_later fs x then false else (a || c)) ≡ true
  but_left fs x a c e = go (is_later fs x) e
    where
      go : (l : Bool) → (if l then false else a) ≡ true → (if l then false else (a || c)) ≡ true
      go true u = u
      go false u = or_left a c u

  -- What the rest of a line uses is reached behind it, but for the fields that are left.
  still_served : (fs : List Later) (used later : Variable → Bool) (from ks new : List Known) → Stepped used fs ks new → Serves (but (λ x. used x || later x) fs) from ks → Serves (but later (not_now used fs)) from new
  still_served fs used later from ks new q h x u n = go (is_later fs x) refl (is_later (not_now used fs) x) refl u (λ g. h x g n)
    where
      go : (c : Bool) → is_later fs x ≡ c → (d : Bool) → is_later (not_now used fs) x ≡ d → (if d then false else later x) ≡ true → ((if c then false else (used x || later x)) ≡ true → is_reached (known ks x) ≡ true) → is_reached (known new x) ≡ true
      go c l true e v g = absurd cc
      go true l false e v g = q.served x l (left_there used fs x l e)
      go false l false e v g = q.more x (g (or_right (used x) (later x) v))

  -- The lines of a binding, and of branches, with their fields reached break no rule.
  abbrev IsKeptBind : AccessMode → Bind → Type 0
  IsKeptBind m bind = (s : Setting) (ks : List Known) (b : Before) → IsOut m s → Suits (bind_uses bind) s ks b (met_bind core.table s bind) → LinesAreReachable core b (met_bind core.table s bind) → AreFine mode core b (met_bind core.table (scoped s ks) (reach_bind m core.table es bind))

  abbrev AreKept : AccessMode → Branches → Type 0
  AreKept m branches = (s : Setting) (ks : List Known) (b : Before) → IsOut m s → Suits (branches_use branches) s ks b (met_branches core.table s branches) → ArmsSuit (arm_variables (arms_of branches)) s b
      → LinesAreReachable core b (met_branches core.table s branches) → AreFine mode core b (met_branches core.table (scoped s ks) (reach_branches m core.table es branches))

  -- A binding, and the rest of the line.
  then_from : (m : AccessMode) (fs : List Later) (bind : Bind) (t : Term) (s : Setting) (ks new : List Known) (b : Before) → IsOut m s → Awaits es (Then bind t) s ks fs
      → Suits (but (uses (Then bind t)) fs) s ks b (met core.table s (Then bind t)) → LinesAreReachable core b (met core.table s (Then bind t)) → Stepped (bind_uses bind) fs ks new
      → IsKeptBind m bind → IsKept mode core m (not_now (bind_uses bind) fs) t
      → AreFine mode core b (met core.table (scoped s new) (Then (reach_bind m core.table es bind) (reach m core.table es (not_now (bind_uses bind) fs) t)))
  then_from m fs bind t s ks new b out a h r q kept_bind kept_rest =
      let xs = met_bind core.table s bind in
      let ys = met core.table (behind s bind) t in
      let rs = reachable_split core b xs ys r in
      let after = next_all core.table b xs in
      let left = not_now (bind_uses bind) fs in
      let serves : Serves (bind_uses bind) s.scope new = served (bind_uses bind) fs s.scope ks new q (λ x u n. h.serves x (but_left fs x (bind_uses bind x) (uses t x) u) n) in
      let first : Suits (bind_uses bind) s new b xs = record {
        serves = serves;
        bound = h.bound;
        cased = h.cased;
        differs = λ x n. (none_split x xs ys (h.differs x n)).0;
      } in
      let rest : Suits (but (uses t) left) s new b (met core.table s (Then bind t)) = record {
        serves = still_served fs (bind_uses bind) (uses t) s.scope ks new q h.serves;
        bound = h.bound;
        cased = h.cased;
        differs = h.differs;
      } in
      then_built mode core b xs (met_bind core.table (scoped s new) (reach_bind m core.table es bind)) (met core.table (behind (scoped s new) (reach_bind m core.table es bind)) (reach m core.table es left t))
      (bind_next core.table es m bind s (scoped s new) b)
      (kept_bind s new b out first rs.0)
      (subst (λ (z : Setting). AreFine mode core after (met core.table z (reach m core.table es left t))) (sym (scoped_behind m core.table es bind s new))
      (kept_rest (behind s bind) (behind (scoped s new) bind).scope after
      (out_of m s (behind s bind) (others_behind bind s) out)
      (awaits_behind core es bind t s ks new b fs rs.0 h.bound serves (waiting es s (bind_uses bind) fs fs ks new q a.each) a.first a.apart)
      (rest_suits core bind t (but (uses t) left) s new b rest rs.0) rs.1))

  case_from : (m : AccessMode) (x : Atom) (branches : Branches) (s : Setting) (ks : List Known) (b : Before) → IsOut m s
      → Suits (uses (CaseTerm x branches)) s ks b (met core.table s (CaseTerm x branches)) → LinesAreReachable core b (met core.table s (CaseTerm x branches)) → AreKept m branches → AreFine mode core b (met core.table (scoped s ks) (CaseTerm x (reach_branches m core.table es branches)))
  case_from m x branches s ks b out h r kept =
      let arms = arms_of branches in
      let line = CaseLine x arms in
      let b' = next core.table b line in
      let ms = met_branches core.table s branches in
      let suits : Suits (branches_use branches) s ks b' ms = record {
        serves = λ y u n. h.serves y (or_right (is_variable y x) (branches_use branches y) u) n;
        bound = λ y n. stays_bound core.table (at s line ∷ []) b y (h.bound y n);
        cased = cased_after core s b (at s line ∷ []) h.bound h.cased (λ y n o c. case_keeps core b s x arms y r.0 o c);
        differs = λ y n. (h.differs y n).1;
      } in
      subst (λ (arms' : List (ConId × List Variable)). (least (rules (reach_core mode core) b (scoped s ks) (CaseLine x arms')) ≡ None) × AreFine mode core (next core.table b (CaseLine x arms')) (met_branches core.table (scoped s ks) (reach_branches m core.table es branches)))
      (sym (arms_same m core.table es branches)) (
        case_kept mode core b s ks x arms (λ y u n. h.serves y (or_left (is_variable y x) (branches_use branches y) u) n) r.0,
        kept s ks b' out suits (case_arms core x arms s b (uses (CaseTerm x branches)) ks ms h r.0) r.1,
      )

  -- The parts of a tuple with their fields reached break no rule.
  abbrev ArePartsKept : AccessMode → PartTerms → Type 0
  ArePartsKept m ps = (tys : List Ty) (s : Setting) (ks : List Known) (b : Before) → IsOut m s → Suits (parts_use ps) s ks b (met_parts core.table s tys ps)
      → LinesAreReachable core b (met_parts core.table s tys ps) → AreFine mode core b (met_parts core.table (scoped s ks) tys (reach_parts m core.table es ps))

  tuple_from : (m : AccessMode) (tys : List Ty) (ss : List Atom) (ps : PartTerms) (s : Setting) (ks : List Known) (b : Before) → IsOut m s
      → Suits (uses (Tuple tys ss ps)) s ks b (met core.table s (Tuple tys ss ps)) → LinesAreReachable core b (met core.table s (Tuple tys ss ps)) → ArePartsKept m ps
      → AreFine mode core b (met core.table (scoped s ks) (Tuple tys ss (reach_parts m core.table es ps)))
  tuple_from m tys ss ps s ks b out h r kept =
      let line = TupleLine tys ss (parts_count ps) in
      let ms = met_parts core.table s (tree_types tys) ps in
      let suits : Suits (parts_use ps) s ks (next core.table b line) ms = record {
        serves = λ y u n. h.serves y (or_right (has_variable y ss) (parts_use ps y) u) n;
        bound = h.bound;
        cased = h.cased;
        differs = λ y n. (h.differs y n).1;
      } in
      subst (λ (n : ℕ). (least (rules (reach_core mode core) b (scoped s ks) (TupleLine tys ss n)) ≡ None) × AreFine mode core (next core.table b (TupleLine tys ss n)) (met_parts core.table (scoped s ks) (tree_types tys) (reach_parts m core.table es ps)))
      (sym (count_same m core.table es ps)) (
        tuple_kept mode core b s ks tys ss (parts_count ps) (λ y u n. h.serves y (or_left (has_variable y ss) (parts_use ps y) u) n) r.0,
        kept (tree_types tys) s ks (next core.table b line) out suits r.1,
      )

  if_from : (m : AccessMode) (x : Atom) (t u : Term) (s : Setting) (ks : List Known) (b : Before) → IsOut m s
      → Suits (uses (IfTerm x t u)) s ks b (met core.table s (IfTerm x t u)) → LinesAreReachable core b (met core.table s (IfTerm x t u)) → IsKept mode core m [] t → IsKept mode core m [] u
      → AreFine mode core b (met core.table (scoped s ks) (IfTerm x (reach m core.table es [] t) (reach m core.table es [] u)))
  if_from m x t u s ks b out h r kept kept' =
      let inner = in_branch s in
      let xs = met core.table inner t in
      let ys = met core.table inner u in
      let rs = reachable_split core b xs ys r.1 in
      let after = next_all core.table b xs in
      let first : Suits (uses t) inner ks b xs = record {
        serves = λ y v n. h.serves y (or_right (is_variable y x) (uses t y || uses u y) (or_left (uses t y) (uses u y) v)) n;
        bound = h.bound;
        cased = h.cased;
        differs = λ y n. (none_split y xs ys (h.differs y n).1).0;
      } in
      let second : Suits (uses u) inner ks after ys = record {
        serves = λ y v n. h.serves y (or_right (is_variable y x) (uses t y || uses u y) (or_right (uses t y) (uses u y) v)) n;
        bound = λ y n. stays_bound core.table xs b y (h.bound y n);
        cased = cased_after core inner b xs h.bound h.cased (λ y n o c. uncased core y t inner b rs.0 n o c);
        differs = λ y n. (none_split y xs ys (h.differs y n).1).1;
      } in (
        if_kept mode core b s ks x (λ y v n. h.serves y (or_left (is_variable y x) (uses t y || uses u y) v) n) r.0,
        then_built mode core b xs (met core.table (scoped inner ks) (reach m core.table es [] t)) (met core.table (scoped inner ks) (reach m core.table es [] u))
            (next_same core.table es m [] t inner (scoped inner ks) b)
            (kept inner ks b (out_of m s inner refl out) (awaits_none es t inner ks) first rs.0)
            (kept' inner ks after (out_of m s inner refl out) (awaits_none es u inner ks) second rs.1),
      )

  mutual
    built : (m : AccessMode) → IsWithin mode m → (fs : List Later) (t : Term) → Listed m (offsets_in m core.table es t) → IsKept mode core m fs t
    built m w fs (Then bind t) l s ks b out a h r =
        go_on (bind_uses bind) fs s ks b (Then bind t) (Then (reach_bind m core.table es bind) (reach m core.table es (not_now (bind_uses bind) fs) t)) a (told_then es s bind t fs a.first) (λ new q.
        then_from m fs bind t s ks new b out a h r q
        (bind_built m w bind (listed_left m (all_offsets mode core) (bind_offsets m core.table es bind) (offsets_in m core.table es t) l))
        (built m w (not_now (bind_uses bind) fs) t (listed_right m (all_offsets mode core) (bind_offsets m core.table es bind) (offsets_in m core.table es t) l)))
    built m w fs (Write c k ss ps) l s ks b out a h r =
        let t = Write c k ss ps in
        go_on (uses t) fs s ks b t t a (told_end es s t (uses t) fs (λ told z y. refl) a.first) (λ new q. (write_kept mode core b s new c k ss ps (served (uses t) fs s.scope ks new q h.serves) r.0, tt))
    built m w fs (Point x) l s ks b out a h r =
        let t = Point x in
        go_on (uses t) fs s ks b t t a (told_end es s t (uses t) fs (λ told z y. refl) a.first) (λ new q. (point_kept mode core b s new x (served (uses t) fs s.scope ks new q h.serves) r.0, tt))
    built m w fs (CallTerm f xs) l s ks b out a h r =
        let t = CallTerm f xs in
        go_on (uses t) fs s ks b t t a (told_end es s t (uses t) fs (λ told z y. refl) a.first) (λ new q. (call_kept mode core b s new f xs (served (uses t) fs s.scope ks new q h.serves) r.0, tt))
    built m w fs (Give x) l s ks b out a h r =
        let t = Give x in
        go_on (uses t) fs s ks b t t a (told_end es s t (uses t) fs (λ told z y. refl) a.first) (λ new q. (give_kept mode core b s new x (served (uses t) fs s.scope ks new q h.serves) r.0, tt))
    built m w fs (CaseTerm x branches) l s ks b out a h r =
        let t = CaseTerm x branches in
        go_on (uses t) fs s ks b t (CaseTerm x (reach_branches m core.table es branches)) a (told_end es s t (uses t) fs (λ told z y. refl) a.first) (λ new q.
        case_from m x branches s new b out (with_serves (uses t) fs s ks new b (met core.table s t) q h) r (branches_built m w branches l))
    built m w fs (IfTerm x t u) l s ks b out a h r =
        let v = IfTerm x t u in
        go_on (uses v) fs s ks b v (IfTerm x (reach m core.table es [] t) (reach m core.table es [] u)) a (told_end es s v (uses v) fs (λ told z y. refl) a.first) (λ new q.
        if_from m x t u s new b out (with_serves (uses v) fs s ks new b (met core.table s v) q h) r
        (built m w [] t (listed_left m (all_offsets mode core) (offsets_in m core.table es t) (offsets_in m core.table es u) l))
        (built m w [] u (listed_right m (all_offsets mode core) (offsets_in m core.table es t) (offsets_in m core.table es u) l)))
    built m w fs (Tuple tys ss ps) l s ks b out a h r =
        let t = Tuple tys ss ps in
        go_on (uses t) fs s ks b t (Tuple tys ss (reach_parts m core.table es ps)) a (told_end es s t (uses t) fs (λ told z y. refl) a.first) (λ new q.
        tuple_from m tys ss ps s new b out (with_serves (uses t) fs s ks new b (met core.table s t) q h) r (parts_built m w ps l))

    bind_built : (m : AccessMode) → IsWithin mode m → (bind : Bind) → Listed m (bind_offsets m core.table es bind) → IsKeptBind m bind
    bind_built m w (Past c k) l s ks b out h r = (past_kept mode core b s ks c k r.0, tt)
    bind_built m w (One x) l s ks b out h r = side_from mode core m x s ks b h r out (side_built m w x l)
    bind_built m w (Both fork x y) l s ks b out h r =
        let n = in_par m in
        let l' = listed_par m (all_offsets mode core) (side_offsets n core.table es x ++ side_offsets n core.table es y) l in
        both_from mode core m fork x y s ks b h r
        (side_built n (within_par mode m w) x (listed_left n (all_offsets mode core) (side_offsets n core.table es x) (side_offsets n core.table es y) l'))
        (side_built n (within_par mode m w) y (listed_right n (all_offsets mode core) (side_offsets n core.table es x) (side_offsets n core.table es y) l'))
    bind_built m w (Prim x f v z) l s ks b out h r = (prim_kept mode core b s ks x f v z h.serves r.0, tt)
    bind_built m w (Reach y by) l s ks b out h r = absurd (reaches_none core b s y by r.0)

    side_built : (m : AccessMode) → IsWithin mode m → (x : Side) → Listed m (side_offsets m core.table es x) → IsKept mode core m [] (term_of_side mode core x)
    side_built m w (On kind x ty t) l = built m w [] t l
    side_built m w (Several xs tys t) l = built m w [] t l

    parts_built : (m : AccessMode) → IsWithin mode m → (ps : PartTerms) → Listed m (part_offsets m core.table es ps) → ArePartsKept m ps
    parts_built m w NoPart l tys s ks b out h r = tt
    parts_built m w (PartThen t ps) l tys s ks b out h r =
        let inner = in_part s (first_type tys) in
        let b' = next core.table b PartLine in
        let xs = met core.table inner t in
        let ys = met_parts core.table s (further_types tys) ps in
        let rs = reachable_split core b' xs ys r.1 in
        let after = next_all core.table b' xs in
        let first : Suits (uses t) inner ks b' xs = record {
          serves = λ y v n. h.serves y (or_left (uses t y) (parts_use ps y) v) n;
          bound = h.bound;
          cased = h.cased;
          differs = λ y n. (none_split y xs ys (h.differs y n).1).0;
        } in
        let second : Suits (parts_use ps) s ks after ys = record {
          serves = λ y v n. h.serves y (or_right (uses t y) (parts_use ps y) v) n;
          bound = λ y n. stays_bound core.table xs b' y (h.bound y n);
          cased = cased_after core inner b' xs h.bound h.cased (λ y n o c. uncased core y t inner b' rs.0 n o c);
          differs = λ y n. (none_split y xs ys (h.differs y n).1).1;
        } in (
          refl,
          then_built mode core b' xs (met core.table (scoped inner ks) (reach m core.table es [] t)) (met_parts core.table (scoped s ks) (further_types tys) (reach_parts m core.table es ps))
              (next_same core.table es m [] t inner (scoped inner ks) b')
              (built m w [] t (listed_left m (all_offsets mode core) (offsets_in m core.table es t) (part_offsets m core.table es ps) l) inner ks b' (out_of m s inner refl out) (awaits_none es t inner ks) first rs.0)
              (parts_built m w ps (listed_right m (all_offsets mode core) (offsets_in m core.table es t) (part_offsets m core.table es ps) l) (further_types tys) s ks after out second rs.1),
        )

    branches_built : (m : AccessMode) → IsWithin mode m → (branches : Branches) → Listed m (branch_offsets m core.table es branches) → AreKept m branches
    branches_built m w NoBranch l s ks b out h arms r = tt
    branches_built m w (BranchThen k vs t rest) l s ks b out h arms r =
        let inner = in_arm core.table s k vs in
        let xs = met core.table inner t in
        let ys = met_branches core.table s rest in
        let rs = reachable_split core b xs ys r in
        let after = next_all core.table b xs in
        let ps = packed_variables core.table k vs in
        let fs = laters m es t ps in
        let own = offset_of m es k t ps in
        let inner_offsets = offsets_in m core.table es t in
        let rest_offsets = branch_offsets m core.table es rest in
        let further = listed_right m (all_offsets mode core) own (inner_offsets ++ rest_offsets) l in
        let wider : (y : Variable) → has inner.scope y ≡ true → is_bound b.bound y ≡ true = λ y n. ⊎_elim (λ a. arms.bound y (among_append vs (arm_variables (arms_of rest)) y ∙ or_left (is_among vs y) (is_among (arm_variables (arms_of rest)) y) a)) (h.bound y)
        (or_cases (is_among vs y) (has s.scope y) (sym (has_arm k vs (fields_at core.table k.0) None s.scope y) ∙ n)) in
        let first : Suits (uses t) s ks b xs = record {
          serves = λ y u n. h.serves y (or_left (uses t y) (branches_use rest y) u) n;
          bound = h.bound;
          cased = h.cased;
          differs = λ y n. (none_split y xs ys (h.differs y n)).0;
        } in
        let second : Suits (branches_use rest) s ks after ys = record {
          serves = λ y u n. h.serves y (or_right (uses t y) (branches_use rest y) u) n;
          bound = λ y n. stays_bound core.table xs b y (h.bound y n);
          cased = cased_after core inner b xs wider h.cased (λ y n o c. uncased core y t inner b rs.0 n o c);
          differs = λ y n. (none_split y xs ys (h.differs y n)).1;
        } in
        then_built mode core b xs (met core.table (in_arm core.table (scoped s ks) k vs) (prepend (reaches m es t ps) (reach m core.table es fs t))) (met_branches core.table (scoped s ks) (reach_branches m core.table es rest))
        (arm_next core.table es m fs t ps inner (in_arm core.table (scoped s ks) k vs) b)
        (arm_from mode core m w k vs t s ks b out first (first_arm vs (arm_variables (arms_of rest)) s b arms) rs.0 (listed_left m (all_offsets mode core) own (inner_offsets ++ rest_offsets) l)
        (built m w fs t (listed_left m (all_offsets mode core) inner_offsets rest_offsets further)))
        (branches_built m w rest (listed_right m (all_offsets mode core) inner_offsets rest_offsets further) s ks after out second (rest_arms core k vs t (arm_variables (arms_of rest)) s b arms rs.0) rs.1)

-- Parameters are reached, and bound.

parameters_reached : (n : ℕ) (types : List Ty) (ks : List Known) → ((y : Variable) → has ks y ≡ true → is_reached (known ks y) ≡ true) → (y : Variable) → has (with_parameters n types ks) y ≡ true → is_reached (known (with_parameters n types ks) y) ≡ true
parameters_reached n [] ks h = h
parameters_reached n (t ∷ types) ks h =
    let x : Variable = record { 0 = n } in
    parameters_reached (suc n) types (reached x ∷ ks) (λ y m. serves_more (λ _. true) x ks ks (λ v u g. h v g) y refl m)

parameters_bound : (n : ℕ) (types : List Ty) (ks : List Known) (bound : List Bound) → ((y : Variable) → has ks y ≡ true → is_bound bound y ≡ true) → (y : Variable) → has (with_parameters n types ks) y ≡ true → is_bound (bind_parameters n types bound) y ≡ true
parameters_bound n [] ks bound h = h
parameters_bound n (t ∷ types) ks bound h =
    let x : Variable = record { 0 = n } in
    parameters_bound (suc n) types (reached x ∷ ks) (record { variable = x; ty = t } ∷ bound)
    (λ y m. ⊎_elim (λ same. or_left (n == y.0) (is_bound bound y) same) (λ g. or_right (n == y.0) (is_bound bound y) (h y g)) (or_cases (n == y.0) (has ks y) m))

-- The body of a function.
abbrev body_of : FunctionTerm → Body
body_of f = record { parameters = f.parameters; result = f.result; term = f.body }

out_start : (m : AccessMode) (b : Body) → IsOut m (opening b)
out_start Skips b = tt
out_start Offsets b = tt
out_start Ends b = refl

module _ (mode : AccessMode) (core : CoreTree) where
  body_built : (types : List Ty) (result : Results Ty) (t : Term) → AreListed mode (all_offsets mode core) (offsets_in mode core.table (ended_by mode core) t) → IsReachable core (record { parameters = types; result = result; term = t }) → IsBuilt (reach_core mode core) (record { parameters = types; result = result; term = reach mode core.table (ended_by mode core) [] t })
  body_built types result t listed h =
      let body : Body = record { parameters = types; result = result; term = t } in
      let s = opening body in
      built mode core mode (within_self mode) [] t listed s s.scope (before_body body) (out_start mode body) (awaits_none (ended_by mode core) t s s.scope) (record {
        serves = λ y u m. parameters_reached 0 types [] (λ v g. absurd (both_ways false refl g)) y m;
        bound = parameters_bound 0 types [] [] (λ v g. absurd (both_ways false refl g));
        cased = λ y m. absurd (both_ways false refl m);
        differs = λ y m. absurd (both_ways false refl m);
      }) h

  bodies_built : (fs : List FunctionTerm) (main main' : Body) → AreListed mode (all_offsets mode core) (flat_map (λ (f : FunctionTerm). offsets_in mode core.table (ended_by mode core) f.body) fs) → (IsReachable core main → IsBuilt (reach_core mode core) main')
      → AllByRecursion (IsReachable core) (map body_of fs ++ main ∷ []) → AllByRecursion (IsBuilt (reach_core mode core)) (map body_of (map (reach_function mode core.table (ended_by mode core)) fs) ++ main' ∷ [])
  bodies_built [] main main' listed last h = (last h.0, tt)
  bodies_built (f ∷ fs) main main' listed last h =
      let own = offsets_in mode core.table (ended_by mode core) f.body in
      let others = flat_map (λ (g : FunctionTerm). offsets_in mode core.table (ended_by mode core) g.body) fs in (
        body_built f.parameters f.result f.body (listed_left mode (all_offsets mode core) own others listed) h.0,
        bodies_built fs main main' (listed_right mode (all_offsets mode core) own others listed) last h.1,
      )

  pub core_built : AreReachable core → AreBuilt (reach_core mode core)
  core_built h =
      let all = all_offsets mode core in
      let functions = flat_map (λ (f : FunctionTerm). offsets_in mode core.table (ended_by mode core) f.body) core.functions in
      let main = offsets_in mode core.table (ended_by mode core) core.main.body in
      bodies_built core.functions
      (record { parameters = core.main.parameter ∷ []; result = results.One core.main.result; term = core.main.body })
      (record { parameters = core.main.parameter ∷ []; result = results.One core.main.result; term = reach mode core.table (ended_by mode core) [] core.main.body })
      (listed_left mode all functions main (listed_all mode all))
      (body_built (core.main.parameter ∷ []) (results.One core.main.result) core.main.body (listed_right mode all functions main (listed_all mode all))) h
