-- Offsets are stored exactly where an arm reads one.
use Rattle.std.proofs.Common.{◌≡◌, Bool, true, false, ◌||◌, if◌then◌else◌, List, [], ◌∷◌, ◌++◌, map, Option, refl, sym, ap, ◌∙◌}
use Rattle.std.specs.List.{flat_map, AllByRecursion}
use Rattle.std.proofs.lemmas.Bool.{both_ways}
use Rattle.gib_types.specs.declared.table.ConId.{ConId}
use Rattle.gib_types.specs.declared.table.Ty.{Ty}
use Rattle.gib_types.specs.Table.{first_type, further_types, tree_types}
use Rattle.gib_syntax.specs.Results as results
use Rattle.gib_core.specs.declared.atom.Variable.{Variable}
use Rattle.gib_core.specs.declared.atom.Access.TheVariants.{Offset, Skip, End}
use Rattle.gib_core.specs.declared.atom.AccessMode.{AccessMode}
use Rattle.gib_core.specs.declared.atom.AccessMode.TheVariants.{Skips, Offsets, Ends}
use Rattle.gib_core.specs.declared.atom.Ended.{Ended}
use Rattle.gib_core.specs.Tree.{Term, Then, Write, Point, CallTerm, Give, CaseTerm, IfTerm, Tuple, PartTerms, NoPart, PartThen, Bind, Past, One, Both, Prim, Reach, Side, On, Several, Branches, NoBranch, BranchThen, prepend, FunctionTerm, CoreTree}
use Rattle.gib_core.specs.Met.{Setting, Met, Body, left_of, right_of, behind, in_side, in_several, in_part, in_arm, in_branch, met, met_bind, met_side, met_parts, met_branches}
use Rattle.gib_core.specs.Rules.{Before}
use Rattle.gib_core.specs.Reachable.{LinesAreReachable, IsReachable, AreReachable}
use Rattle.gib_core.specs.Reaching.{Later, uses, bind_uses, uses_any, skips_from, offsets_from, untold, untold_from, reaches, ends_now, not_now, laters, in_par, packed_variables, reach, reach_bind, reach_side, reach_parts, reach_branches, reach_function, reach_core, offset_of, offsets_in, bind_offsets, side_offsets, part_offsets, branch_offsets, ended_by, all_offsets, offsets_by}
use Rattle.gib_core.proofs.Along.{reachable_split}
use Rattle.gib_core.proofs.Cased.{reaches_none}
use Rattle.gib_access.specs.Stored.{is_by_offset, line_reads, read_in, bind_read, side_read, parts_read, branch_read, read_core}

-- With walks in its place no offset is stored.
abbrev by_mode : AccessMode → List ConId → List ConId
by_mode Skips ks = []
by_mode Offsets ks = ks
by_mode Ends ks = ks

both : (m : AccessMode) (xs ys : List ConId) → by_mode m xs ++ by_mode m ys ≡ by_mode m (xs ++ ys)
both Skips xs ys = refl
both Offsets xs ys = refl
both Ends xs ys = refl

none_of : (m : AccessMode) → [] ≡ by_mode m []
none_of Skips = refl
none_of Offsets = refl
none_of Ends = refl

same_in_par : (m : AccessMode) (xs : List ConId) → by_mode (in_par m) xs ≡ by_mode m xs
same_in_par Skips xs = refl
same_in_par Offsets xs = refl
same_in_par Ends xs = refl

-- Reaching by ends and walks reads none.
reads_ends : (used : Variable → Bool) (fs : List Later) (t : Term) → line_reads (prepend (ends_now used fs) t) ≡ line_reads t
reads_ends used [] t = refl
reads_ends used (f ∷ fs) t = go (used f.field) (reads_ends used fs t)
  where
    go : (c : Bool) → line_reads (prepend (ends_now used fs) t) ≡ line_reads t → line_reads (prepend (if c then Reach f.field (End f.before) ∷ ends_now used fs else ends_now used fs) t) ≡ line_reads t
    go true r = r
    go false r = r

in_ends : (used : Variable → Bool) (fs : List Later) (t : Term) → read_in (prepend (ends_now used fs) t) ≡ read_in t
in_ends used [] t = refl
in_ends used (f ∷ fs) t = go (used f.field) (in_ends used fs t)
  where
    go : (c : Bool) → read_in (prepend (ends_now used fs) t) ≡ read_in t → read_in (prepend (if c then Reach f.field (End f.before) ∷ ends_now used fs else ends_now used fs) t) ≡ read_in t
    go true r = r
    go false r = r

reads_skips : (t u : Term) (z : Variable) (ys : List Variable) → line_reads (prepend (skips_from t z ys) u) ≡ line_reads u
reads_skips t u z [] = refl
reads_skips t u z (y ∷ ys) = go (uses_any t (y ∷ ys)) (reads_skips t u y ys)
  where
    go : (c : Bool) → line_reads (prepend (skips_from t y ys) u) ≡ line_reads u → line_reads (prepend (if c then Reach y (Skip z) ∷ skips_from t y ys else []) u) ≡ line_reads u
    go true r = r
    go false r = refl

in_skips : (t u : Term) (z : Variable) (ys : List Variable) → read_in (prepend (skips_from t z ys) u) ≡ read_in u
in_skips t u z [] = refl
in_skips t u z (y ∷ ys) = go (uses_any t (y ∷ ys)) (in_skips t u y ys)
  where
    go : (c : Bool) → read_in (prepend (skips_from t y ys) u) ≡ read_in u → read_in (prepend (if c then Reach y (Skip z) ∷ skips_from t y ys else []) u) ≡ read_in u
    go true r = r
    go false r = refl

-- Reaching by offsets reads one where a field is used.
reads_offsets : (t u : Term) (ys : List Variable) → line_reads u ≡ false → line_reads (prepend (offsets_from t ys) u) ≡ uses_any t ys
reads_offsets t u [] e = e
reads_offsets t u (y ∷ ys) e = go (uses t y) (reads_offsets t u ys e)
  where
    go : (c : Bool) → line_reads (prepend (offsets_from t ys) u) ≡ uses_any t ys → line_reads (prepend (if c then Reach y Offset ∷ offsets_from t ys else offsets_from t ys) u) ≡ (c || uses_any t ys)
    go true r = refl
    go false r = r

in_offsets : (t u : Term) (ys : List Variable) → read_in (prepend (offsets_from t ys) u) ≡ read_in u
in_offsets t u [] = refl
in_offsets t u (y ∷ ys) = go (uses t y) (in_offsets t u ys)
  where
    go : (c : Bool) → read_in (prepend (offsets_from t ys) u) ≡ read_in u → read_in (prepend (if c then Reach y Offset ∷ offsets_from t ys else offsets_from t ys) u) ≡ read_in u
    go true r = r
    go false r = r

in_reaches : (m : AccessMode) (es : List Ended) (t u : Term) (ps : List Variable) → read_in (prepend (reaches m es t ps) u) ≡ read_in u
in_reaches m es t u [] = refl
in_reaches Skips es t u (z ∷ ys) = in_skips t u z ys
in_reaches Offsets es t u (z ∷ ys) = in_offsets t u ys
in_reaches Ends es t u (z ∷ ys) = in_offsets t u (untold_from es t z ys)

-- An arm reads one exactly where its constructor is listed for it.
arm_reads : (m : AccessMode) (es : List Ended) (k : ConId) (t u : Term) (ps : List Variable) → line_reads u ≡ false → (if line_reads (prepend (reaches m es t ps) u) then k ∷ [] else []) ≡ by_mode m (offset_of m es k t ps)
arm_reads Skips es k t u [] e = ap (λ (c : Bool). if c then k ∷ [] else []) e
arm_reads Skips es k t u (z ∷ ys) e = ap (λ (c : Bool). if c then k ∷ [] else []) (reads_skips t u z ys ∙ e)
arm_reads Offsets es k t u [] e = ap (λ (c : Bool). if c then k ∷ [] else []) e
arm_reads Offsets es k t u (z ∷ ys) e = ap (λ (c : Bool). if c then k ∷ [] else []) (reads_offsets t u ys e)
arm_reads Ends es k t u [] e = ap (λ (c : Bool). if c then k ∷ [] else []) e
arm_reads Ends es k t u (z ∷ ys) e = ap (λ (c : Bool). if c then k ∷ [] else []) (reads_offsets t u (untold_from es t z ys) e)

module _ (core : CoreTree) where
  -- A core whose fields are not reached reaches none.
  bind_none : (m : AccessMode) (es : List Ended) (bind : Bind) (s : Setting) (b : Before) → LinesAreReachable core b (met_bind core.table s bind) → is_by_offset (reach_bind m core.table es bind) ≡ false
  bind_none m es (Past h k) s b r = refl
  bind_none m es (One side) s b r = refl
  bind_none m es (Both fork left right) s b r = refl
  bind_none m es (Prim x f y z) s b r = refl
  bind_none m es (Reach y by) s b r = absurd (reaches_none core b s y by r.0)

  line_none : (m : AccessMode) (es : List Ended) (fs : List Later) (t : Term) (s : Setting) (b : Before) → LinesAreReachable core b (met core.table s t) → line_reads (reach m core.table es fs t) ≡ false
  line_none m es fs (Then bind t) s b r =
      let rs = reachable_split core b (met_bind core.table s bind) (met core.table (behind s bind) t) r in
      reads_ends (bind_uses bind) fs (Then (reach_bind m core.table es bind) (reach m core.table es (not_now (bind_uses bind) fs) t))
      ∙ (λ i. bind_none m es bind s b rs.0 i || line_none m es (not_now (bind_uses bind) fs) t (behind s bind) _ rs.1 i)
  line_none m es fs (Write h k ss ps) s b r = reads_ends (uses (Write h k ss ps)) fs (Write h k ss ps)
  line_none m es fs (Point x) s b r = reads_ends (uses (Point x)) fs (Point x)
  line_none m es fs (CallTerm f xs) s b r = reads_ends (uses (CallTerm f xs)) fs (CallTerm f xs)
  line_none m es fs (Give x) s b r = reads_ends (uses (Give x)) fs (Give x)
  line_none m es fs (CaseTerm x bs) s b r = reads_ends (uses (CaseTerm x bs)) fs (CaseTerm x (reach_branches m core.table es bs))
  line_none m es fs (IfTerm x t u) s b r = reads_ends (uses (IfTerm x t u)) fs (IfTerm x (reach m core.table es [] t) (reach m core.table es [] u))
  line_none m es fs (Tuple tys ss ps) s b r = reads_ends (uses (Tuple tys ss ps)) fs (Tuple tys ss (reach_parts m core.table es ps))

  mutual
    term_read : (m : AccessMode) (es : List Ended) (fs : List Later) (t : Term) (s : Setting) (b : Before) → LinesAreReachable core b (met core.table s t) → read_in (reach m core.table es fs t) ≡ by_mode m (offsets_in m core.table es t)
    term_read m es fs (Then bind t) s b r =
        let rs = reachable_split core b (met_bind core.table s bind) (met core.table (behind s bind) t) r in
        in_ends (bind_uses bind) fs (Then (reach_bind m core.table es bind) (reach m core.table es (not_now (bind_uses bind) fs) t))
        ∙ (λ i. bind_is_read m es bind s b rs.0 i ++ term_read m es (not_now (bind_uses bind) fs) t (behind s bind) _ rs.1 i)
        ∙ both m (bind_offsets m core.table es bind) (offsets_in m core.table es t)
    term_read m es fs (Write h k ss ps) s b r = in_ends (uses (Write h k ss ps)) fs (Write h k ss ps) ∙ none_of m
    term_read m es fs (Point x) s b r = in_ends (uses (Point x)) fs (Point x) ∙ none_of m
    term_read m es fs (CallTerm f xs) s b r = in_ends (uses (CallTerm f xs)) fs (CallTerm f xs) ∙ none_of m
    term_read m es fs (Give x) s b r = in_ends (uses (Give x)) fs (Give x) ∙ none_of m
    term_read m es fs (CaseTerm x bs) s b r = in_ends (uses (CaseTerm x bs)) fs (CaseTerm x (reach_branches m core.table es bs)) ∙ branches_are_read m es bs s _ r.1
    term_read m es fs (IfTerm x t u) s b r =
        let rs = reachable_split core b (met core.table (in_branch s) t) (met core.table (in_branch s) u) r.1 in
        in_ends (uses (IfTerm x t u)) fs (IfTerm x (reach m core.table es [] t) (reach m core.table es [] u))
        ∙ (λ i. term_read m es [] t (in_branch s) b rs.0 i ++ term_read m es [] u (in_branch s) _ rs.1 i)
        ∙ both m (offsets_in m core.table es t) (offsets_in m core.table es u)
    term_read m es fs (Tuple tys ss ps) s b r =
        in_ends (uses (Tuple tys ss ps)) fs (Tuple tys ss (reach_parts m core.table es ps)) ∙ parts_are_read m es ps (tree_types tys) s _ r.1

    bind_is_read : (m : AccessMode) (es : List Ended) (bind : Bind) (s : Setting) (b : Before) → LinesAreReachable core b (met_bind core.table s bind) → bind_read (reach_bind m core.table es bind) ≡ by_mode m (bind_offsets m core.table es bind)
    bind_is_read m es (Past h k) s b r = none_of m
    bind_is_read m es (One side) s b r = side_is_read m es side s b r
    bind_is_read m es (Both fork left right) s b r =
        let rs = reachable_split core b (met_side core.table (left_of s right) left) (met_side core.table (right_of s left) right) r.1 in
        (λ i. side_is_read (in_par m) es left (left_of s right) b rs.0 i ++ side_is_read (in_par m) es right (right_of s left) _ rs.1 i)
        ∙ both (in_par m) (side_offsets (in_par m) core.table es left) (side_offsets (in_par m) core.table es right)
        ∙ same_in_par m (side_offsets (in_par m) core.table es left ++ side_offsets (in_par m) core.table es right)
    bind_is_read m es (Prim x f y z) s b r = none_of m
    bind_is_read m es (Reach y by) s b r = none_of m

    side_is_read : (m : AccessMode) (es : List Ended) (side : Side) (s : Setting) (b : Before) → LinesAreReachable core b (met_side core.table s side) → side_read (reach_side m core.table es side) ≡ by_mode m (side_offsets m core.table es side)
    side_is_read m es (On kind x ty t) s b r = term_read m es [] t (in_side core.table s kind ty) _ r.1
    side_is_read m es (Several xs tys t) s b r = term_read m es [] t (in_several s tys) _ r.1

    parts_are_read : (m : AccessMode) (es : List Ended) (ps : PartTerms) (tys : List Ty) (s : Setting) (b : Before) → LinesAreReachable core b (met_parts core.table s tys ps) → parts_read (reach_parts m core.table es ps) ≡ by_mode m (part_offsets m core.table es ps)
    parts_are_read m es NoPart tys s b r = none_of m
    parts_are_read m es (PartThen t ps) tys s b r =
        let rs = reachable_split core b (met core.table (in_part s (first_type tys)) t) (met_parts core.table s (further_types tys) ps) r.1 in
        (λ i. term_read m es [] t (in_part s (first_type tys)) b rs.0 i ++ parts_are_read m es ps (further_types tys) s _ rs.1 i)
        ∙ both m (offsets_in m core.table es t) (part_offsets m core.table es ps)

    branches_are_read : (m : AccessMode) (es : List Ended) (bs : Branches) (s : Setting) (b : Before) → LinesAreReachable core b (met_branches core.table s bs) → branch_read (reach_branches m core.table es bs) ≡ by_mode m (branch_offsets m core.table es bs)
    branches_are_read m es NoBranch s b r = none_of m
    branches_are_read m es (BranchThen k xs t rest) s b r =
        let ps = packed_variables core.table k xs in
        let rs = reachable_split core b (met core.table (in_arm core.table s k xs) t) (met_branches core.table s rest) r in
        let u = reach m core.table es (laters m es t ps) t in
        let own = offset_of m es k t ps in
        let inner = offsets_in m core.table es t in
        let others = branch_offsets m core.table es rest in
        (λ i. arm_reads m es k t u ps (line_none m es (laters m es t ps) t (in_arm core.table s k xs) b rs.0) i
        ++ ((in_reaches m es t u ps ∙ term_read m es (laters m es t ps) t (in_arm core.table s k xs) b rs.0) i ++ branches_are_read m es rest s _ rs.1 i))
        ∙ ap (λ (z : List ConId). by_mode m own ++ z) (both m inner others) ∙ both m own (inner ++ others)

  functions_read : (m : AccessMode) (es : List Ended) (fs : List FunctionTerm) (ms : List Body)
      → AllByRecursion (IsReachable core) (map (λ (f : FunctionTerm). record { parameters = f.parameters; result = f.result; term = f.body }) fs ++ ms)
      → (flat_map (λ (f : FunctionTerm). read_in f.body) (map (reach_function m core.table es) fs) ≡ by_mode m (flat_map (λ (f : FunctionTerm). offsets_in m core.table es f.body) fs)) × AllByRecursion (IsReachable core) ms
  functions_read m es [] ms h = (none_of m, h)
  functions_read m es (f ∷ fs) ms h =
      let r = functions_read m es fs ms h.1 in
      ((λ i. term_read m es [] f.body _ _ h.0 i ++ r.0 i) ∙ both m (offsets_in m core.table es f.body) (flat_map (λ (g : FunctionTerm). offsets_in m core.table es g.body) fs), r.1)

listed : (m : AccessMode) (core : CoreTree) → offsets_by m core ≡ by_mode m (all_offsets m core)
listed Skips core = refl
listed Offsets core = refl
listed Ends core = refl

pub stored_where_read : (m : AccessMode) (core : CoreTree) → AreReachable core → (reach_core m core).offsets ≡ read_core (reach_core m core)
stored_where_read m core h =
    let es = ended_by m core in
    let r = functions_read core m es core.functions (record { parameters = core.main.parameter ∷ []; result = results.One core.main.result; term = core.main.body } ∷ []) h in
    listed m core
    ∙ sym (both m (flat_map (λ (f : FunctionTerm). offsets_in m core.table es f.body) core.functions) (offsets_in m core.table es core.main.body))
    ∙ (λ i. sym r.0 i ++ sym (term_read core m es [] core.main.body _ _ r.1.0) i)
