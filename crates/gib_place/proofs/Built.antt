-- A core that only has to have its fields reached is one still, once its fields are placed.
use Rattle.std.proofs.Common.{◌≡◌, ◌⊎◌, inl, inr, ⊎_elim, ℕ, suc, ◌+◌, ◌<◌, ◌≤◌, Bool, true, false, ◌||◌, ◌==◌, if◌then◌else◌, List, [], ◌∷◌, ◌++◌, map, length, None, refl, sym, ap, ◌∙◌, subst, arith}
use Rattle.std.proofs.lemmas.Bool.{eqb-true, or_cases, or_left, or_right}
use Rattle.gib_types.specs.declared.table.Ty.{Ty}
use Rattle.gib_types.specs.declared.table.Ty.TheVariants.{Whole, Truth, Tree}
use Rattle.gib_types.specs.declared.table.ConId.{ConId}
use Rattle.gib_types.specs.Table.{fields_at, tree_types, first_type, further_types}
use Rattle.gib_core.specs.declared.atom.Variable.{Variable}
use Rattle.gib_core.specs.declared.atom.Atom.{Atom}
use Rattle.gib_core.specs.declared.atom.Kind.{Kind}
use Rattle.gib_core.specs.declared.scope.Known.{Known}
use Rattle.gib_core.specs.declared.scope.Bound.{Bound}
use Rattle.gib_core.specs.Tree.{Term, Then, Write, Point, CallTerm, Give, CaseTerm, IfTerm, Tuple, PartTerms, NoPart, PartThen, Bind, Past, One, Both, Prim, Reach, Side, On, Several, Branches, NoBranch, BranchThen, prepend, CoreTree}
use Rattle.gib_syntax.specs.Results as results
use Rattle.gib_syntax.specs.Typing.{one_type}
use Rattle.gib_core.specs.Inferring.{as_atoms, numbers_from}
use Rattle.gib_core.specs.Numbering.{binders, bind_binders, side_binders, part_binders, IsNumbered, AreNumbered}
use Rattle.gib_base.specs.declared.name.Name.{Name}
use Rattle.gib_core.specs.Met.{call_too, Setting, Line, PastLine, SideLine, ParLine, PrimLine, ReachLine, WriteLine, PointLine, CallLine, GiveLine, CaseLine, IfLine, SeveralLine, TupleLine, PartLine, Met, reached, in_side, in_several, in_part, behind, left_of, right_of, in_arm, in_branch, arms_of, met, met_bind, met_side, met_parts, met_branches, with_parameters, result_place, Body, bodies, opening}
use Rattle.gib_core.specs.Rules.{Before, is_among, arm_variables, rules, least, next, next_all, bind_parameters, before_body}
use Rattle.gib_core.specs.Reachable.{all_reached, LinesAreReachable, IsReachable, AreReachable}
use Rattle.gib_place.specs.declared.field.Field.{Field}
use Rattle.gib_core.specs.Counting.{count, count_bind, count_side, count_parts, count_branches, is_once}
use Rattle.gib_place.specs.Placing.{pointing, place_line, as_bound, placed_inside, place_inner, inner_bind, inner_side, inner_parts, inner_branches, place, place_body}
use Rattle.gib_place.specs.Renaming.{Renaming, rename}
use Rattle.gib_place.specs.Numbering.{place_in, variables_in, number_anew, place_anew, place_core}
use Rattle.gib_core.proofs.Walks.{Keeps, same_arms, same_count, map_keeps, map_bind_keeps}
use Rattle.gib_core.proofs.After.{in_turn}
use Rattle.gib_core.proofs.Maps.{map_behind}
use Rattle.gib_core.proofs.Remade.{all_both, remade_so, same_call}
use Rattle.gib_core.proofs.Along.{reachable_split, reachable_append}
use Rattle.gib_core.proofs.Cased.{has, has_arm, in_side_scope, reaches_none}
use Rattle.gib_place.proofs.Lays.{Lays, ends, opens, puts, stays, one, left, right, both}
use Rattle.gib_place.proofs.Counts.{occurs, occurs_append, line_by_steps, ending_line, before_uses, before_binds, place_binds}
use Rattle.gib_place.proofs.Positions.{place_tells}
use Rattle.gib_place.proofs.Lines.{setting_by, before_lines_by, reachable_renamed, parameters_by, bound_parameters_by}
use Rattle.gib_place.proofs.Wider.{nums, times, times_among, branch_terms, branch_occurs, case_nums, entry_casing, casing, casing_bind, casing_side, case_counts, casing_counts, bind_casing_counts, gains_all, gains_term, cased_after, bind_cased_after, side_cased_after}
use Rattle.gib_place.proofs.Weaken.{Ahead, ahead_less, ahead_first, Like, LikeSides, same_one, same_several, ahead_term, ahead_side, ahead_bound, ahead_two, ahead_behind, wider_term, wider_side, wider_parts, wider_branches}
use Rattle.gib_place.proofs.Scopes.{Scoped, Room}
use Rattle.gib_place.proofs.Ended.{Uses, KeepsIt, line_keeps}
use Rattle.gib_place.proofs.Cores.{body_differs, parameters_stay}

-- Cases stay in their order.
abbrev casing_all : List Bind → List Variable → List Variable
casing_all [] c = c
casing_all (b ∷ bs) c = casing_all bs (casing_bind b c)

casing_prepend : (bs : List Bind) (t : Term) (c : List Variable) → casing (prepend bs t) c ≡ casing t (casing_all bs c)
casing_prepend [] t c = refl
casing_prepend (b ∷ bs) t c = casing_prepend bs t (casing_bind b c)

fields_casing : (fs : List Field) (c : List Variable) → casing_all (map pointing fs) c ≡ c
fields_casing [] c = refl
fields_casing (f ∷ fs) c = fields_casing fs c

lays_casing : {once : Variable → Bool} {h : Variable} {k : ConId} {o : Bool} {bs : List Bind} {fs : List Field} {cs : List Bind} {xs : List Variable} → Lays once (Past h k) o bs fs cs xs → (c : List Variable) → casing_all cs c ≡ casing_all bs c
lays_casing ends c = refl
lays_casing (opens l) c = lays_casing l c
lays_casing (puts late l) c = lays_casing l c
lays_casing (stays {b = b} l) c = lays_casing l (casing_bind b c)
lays_casing (one {t = t} u g l) c = lays_casing l (casing t c)
lays_casing (left {t = t} {r = r} u g l) c = lays_casing l (casing_side r (casing t c))
lays_casing (right {l = s} {u = t} u g l) c = lays_casing l (casing t (casing_side s c))
lays_casing (both {t = t} {u = v} u g u' g' l) c = lays_casing l (casing v (casing t c))

line_casing : (once : Variable → Bool) (t : Term) (c : List Variable) → casing (place_line once t) c ≡ casing t c
line_casing once t = line_by_steps once (λ t u. (c : List Variable) → casing u c ≡ casing t c) (λ z c. refl)
    (λ l cs xs named lays c.
    casing_prepend cs (Write l.ending.head l.ending.con l.ending.scalars (as_atoms xs)) c
    ∙ (lays_casing lays c
    ∙ (sym (casing_prepend (map pointing l.ending.fields) (Write l.ending.head l.ending.con l.ending.scalars l.ending.packed) (casing_all l.run c) ∙ fields_casing l.ending.fields (casing_all l.run c))
    ∙ sym (casing_prepend l.run (Then (Past l.room l.made) (ending_line l.ending)) c)))) t

-- The calls that stand before: a call is placed as it is, and a line ends in no other one.
call_written : (bs : List Bind) (h : Variable) (k : ConId) (ss ps : List Atom) (cs : List (Name × List Atom)) → call_too (prepend bs (Write h k ss ps)) cs ≡ cs
call_written [] h k ss ps cs = refl
call_written (b ∷ bs) h k ss ps cs = refl

call_bound : (bs : List Bind) (b : Bind) (u : Term) (cs : List (Name × List Atom)) → call_too (prepend bs (Then b u)) cs ≡ cs
call_bound [] b u cs = refl
call_bound (x ∷ bs) b u cs = refl

line_call : (once : Variable → Bool) (t : Term) (cs : List (Name × List Atom)) → call_too (place_line once t) cs ≡ call_too t cs
line_call once t = line_by_steps once (λ t u. (cs : List (Name × List Atom)) → call_too u cs ≡ call_too t cs) (λ z cs. refl)
    (λ l cs xs named lays ks. call_written cs l.ending.head l.ending.con l.ending.scalars (as_atoms xs) ks ∙ sym (call_bound l.run (Past l.room l.made) (ending_line l.ending) ks)) t

module _ (once : Variable → Bool) where
  casing_keeps : Keeps in_turn (λ c. c) entry_casing as_bound (placed_inside once)
  casing_keeps = record { bound = λ b. refl; nested = λ s t i c. line_casing once t c i }

  bind_casing : (b : Bind) (c : List Variable) → casing_bind (inner_bind once b) c ≡ casing_bind b c
  bind_casing b c = λ i. map_bind_keeps in_turn (λ d. d) entry_casing as_bound (placed_inside once) casing_keeps b i c

  place_casing : (t : Term) (c : List Variable) → casing (place once t) c ≡ casing t c
  place_casing t c = line_casing once (place_inner once t) c ∙ (λ i. map_keeps in_turn (λ d. d) entry_casing as_bound (placed_inside once) casing_keeps t i c)

  arms_placed : (bs : Branches) → arms_of (inner_branches once bs) ≡ arms_of bs
  arms_placed bs = same_arms as_bound (placed_inside once) bs

  terms_placed : (bs : Branches) (y : ℕ) → occurs (branch_terms (inner_branches once bs)) y ≤ occurs (branch_terms bs) y
  terms_placed NoBranch y = omega arith
  terms_placed (BranchThen k xs t rest) y =
      let p = place_binds once t y in let q = terms_placed rest y in
      let m = occurs_append (binders (place once t)) (branch_terms (inner_branches once rest)) y in let n = occurs_append (binders t) (branch_terms rest) y in omega arith

  side_binds : (side : Side) (y : ℕ) → occurs (side_binders (inner_side once side)) y ≤ occurs (side_binders side) y
  side_binds (On kind x ty t) y = let p = place_binds once t y in omega arith
  side_binds (Several xs tys t) y =
      let ns = map (λ (x : Variable). x.0) xs in
      let p = place_binds once t y in let m = occurs_append ns (binders (place once t)) y in let n = occurs_append ns (binders t) y in omega arith

  parts_bind : (ps : PartTerms) (y : ℕ) → occurs (part_binders (inner_parts once ps)) y ≤ occurs (part_binders ps) y
  parts_bind NoPart y = omega arith
  parts_bind (PartThen t ps) y =
      let p = place_binds once t y in let q = parts_bind ps y in
      let m = occurs_append (binders (place once t)) (part_binders (inner_parts once ps)) y in let n = occurs_append (binders t) (part_binders ps) y in omega arith

  -- The sides of a par stand beside the same variables.
  left_placed : (r : Side) (s : Setting) → left_of s (inner_side once r) ≡ left_of s r
  left_placed (On kind x ty t) s = refl
  left_placed (Several xs tys t) s = refl

  right_placed : (l : Side) (s : Setting) → right_of s (inner_side once l) ≡ right_of s l
  right_placed (On kind x ty t) s = refl
  right_placed (Several xs tys t) s = refl

  behind_placed : (s : Setting) (b : Bind) → behind s (inner_bind once b) ≡ behind s b
  behind_placed s b = map_behind as_bound (placed_inside once) (λ t cs. line_call once t cs) s b

module _ (core : CoreTree) (once : Variable → Bool) where
  abbrev R : Before → List Met → Type 0
  R b ms = LinesAreReachable core b ms

  line_of : (t : Term) (s : Setting) (b : Before) → Scoped s.scope b → Room b (binders t) → Uses core once b t → R b (met core.table s (place_inner once t)) → R b (met core.table s (place once t))
  line_of t s b sc ro us r =
      line_keeps core once (place_inner once t) s b sc (λ y. let p = before_binds once t y in let q = ro y in omega arith) (λ y o. let p = before_uses once t y in let q = us y o in omega arith) r

  whole_of : (t : Term) → KeepsIt core once t (place_inner once t) → KeepsIt core once t (place once t)
  whole_of t h s b sc ro us r = line_of t s b sc ro us (h s b sc ro us r)

  like : (t : Term) → Like t (place once t)
  like t = record { binds = place_binds once t; cases = place_casing once t }

  likes : (side : Side) → LikeSides side (inner_side once side)
  likes (On kind x ty t) = same_one (like t)
  likes (Several xs tys t) = same_several (like t)

  -- What is met twice with the same in scope.
  again : {from : List Known} {b : Before} {xs : List ℕ} → Scoped from b → Room b xs → Ahead from b from b xs
  again sc ro = record { wider = record { scope = λ y m. m; types = λ y m. refl; cased = refl }; scoped = sc; room = ro; room' = ro }

  -- Behind a binding whose terms were placed, the same is in scope with the same types.
  bind_again : (bd : Bind) (xs : List ℕ) (s : Setting) (b : Before) → Ahead s.scope b s.scope b (bind_binders bd ++ xs) → R b (met_bind core.table s bd)
      → Ahead (behind s bd).scope (next_all core.table b (met_bind core.table s bd)) (behind s bd).scope (next_all core.table b (met_bind core.table s (inner_bind once bd))) xs
  bind_again (Past h k) xs s b a r = ahead_behind core (Past h k) xs s b s.scope b a r
  bind_again (One side) xs s b a r = ahead_bound core.table side (inner_side once side) xs s s (likes side) a
  bind_again (Both fork l rt) xs s b a r =
      let l' = inner_side once l in
      let rt' = inner_side once rt in
      ahead_two core l l' rt rt' xs (left_of s rt) (right_of s l) (left_of s rt') (right_of s l') (likes l) (likes rt) a
  bind_again (Prim x f v w) xs s b a r = ahead_behind core (Prim x f v w) xs s b s.scope b a r
  bind_again (Reach x by) xs s b a r = absurd (reaches_none core b s x by r.0)

  in_scope : (s : Setting) (kind : Kind) (ty : Ty) (b : Before) (x : Variable) → Scoped s.scope b → Scoped (in_side core.table s kind ty).scope (next core.table b (SideLine kind x ty))
  in_scope s kind ty b x sc y m = let k = sc y (ap (λ (ks : List Known). has ks y) (sym (in_side_scope core.table s kind ty)) ∙ m) in omega arith

  several_scope : (s : Setting) (xs : List Variable) (tys : List Ty) (b : Before) → Scoped s.scope b → Scoped s.scope (next core.table b (SeveralLine xs tys))
  several_scope s xs tys b sc y m = let k = sc y m in let g = (gains_all xs tys b).counts y.0 in omega arith

  mutual
    inner_keeps : (t : Term) → KeepsIt core once t (place_inner once t)
    inner_keeps (Then bd rest) s b sc ro us r =
        let xs = met_bind core.table s bd in
        let b1 = next_all core.table b xs in
        let bd' = inner_bind once bd in
        let xs' = met_bind core.table s bd' in
        let rs = reachable_split core b xs (met core.table (behind s bd) rest) r in
        let a = again sc ro in
        let n = bind_again bd (binders rest) s b a rs.0 in
        let there = inner_keeps rest (behind s bd) b1 n.scoped n.room
        (λ y o. let u = us y o in let m = ap (λ c. times c y.0) (bind_cased_after core.table bd s b) in let p = bind_casing_counts bd b.cased y in omega arith) rs.1 in
        reachable_append core b xs' (met core.table (behind s bd') (place_inner once rest))
        (bind_keeps bd s b sc (ahead_first (bind_binders bd) (binders rest) a).room (λ y o. let u = us y o in omega arith) rs.0)
        (subst (λ (z : Setting). R (next_all core.table b xs') (met core.table z (place_inner once rest))) (sym (behind_placed once s bd))
        (wider_term core (place_inner once rest) (behind s bd) b1 (behind s bd).scope (next_all core.table b xs') (ahead_less n (before_binds once rest)) there))
    inner_keeps (Write h k ss ps) s b sc ro us r = r
    inner_keeps (Point x) s b sc ro us r = r
    inner_keeps (CallTerm f xs) s b sc ro us r = r
    inner_keeps (Give x) s b sc ro us r = r
    inner_keeps (CaseTerm x bs) s b sc ro us r =
        subst (λ (arms : List (ConId × List Variable)). (least (rules core b (all_reached s) (CaseLine x arms)) ≡ None) × R (next core.table b (CaseLine x arms)) (met_branches core.table s (inner_branches once bs))) (sym (arms_placed once bs)) (
          r.0,
          branches_keep bs s (next core.table b (CaseLine x (arms_of bs)))
              (λ y m. let q = case_nums core.table x (arms_of bs) b y.0 in ⊎_elim (λ n. let k = times_among (arm_variables (arms_of bs)) y n in omega arith) (λ n. let k = sc y n in omega arith) m)
              (λ y. let q = branch_occurs bs y in let o = ro y in let e = case_nums core.table x (arms_of bs) b y in omega arith)
              (λ y o. let u = us y o in let p = case_counts x (arms_of bs) b.cased y in omega arith) r.1,
        )
    inner_keeps (IfTerm x t u) s b sc ro us r =
        let si = in_branch s in
        let xs = met core.table si t in
        let xs' = met core.table si (place once t) in
        let rs = reachable_split core b xs (met core.table si u) r.1 in
        let b1 = next_all core.table b xs in
        let a = again sc ro in
        let n = ahead_term core.table t (place once t) (binders u) si si (like t) a in (
          r.0,
          reachable_append core b xs' (met core.table si (place once u))
              (whole_of t (λ s1 b2 c1 r1 u1 h. inner_keeps t s1 b2 c1 r1 u1 h) si b sc (ahead_first (binders t) (binders u) a).room (λ y o. let z = us y o in omega arith) rs.0)
              (wider_term core (place once u) si b1 s.scope (next_all core.table b xs') (ahead_less n (place_binds once u))
              (whole_of u (λ s1 b2 c1 r1 u1 h. inner_keeps u s1 b2 c1 r1 u1 h) si b1 n.scoped n.room
              (λ y o. let z = us y o in let m = ap (λ c. times c y.0) (cased_after core.table t si b) in let p = casing_counts t b.cased y in omega arith) rs.1)),
        )
    inner_keeps (Tuple tys ss ps) s b sc ro us r =
        subst (λ (n : ℕ). (least (rules core b (all_reached s) (TupleLine tys ss n)) ≡ None) × R (next core.table b (TupleLine tys ss n)) (met_parts core.table s (tree_types tys) (inner_parts once ps))) (sym (same_count as_bound (placed_inside once) ps))
        (r.0, parts_keep ps (tree_types tys) s b sc ro (λ y o. let u = us y o in omega arith) r.1)

    parts_keep : (ps : PartTerms) (tys : List Ty) (s : Setting) (b : Before) → Scoped s.scope b → Room b (part_binders ps) → ((y : Variable) → once y ≡ true → times b.cased y.0 + count_parts ps y ≤ 1)
        → R b (met_parts core.table s tys ps) → R b (met_parts core.table s tys (inner_parts once ps))
    parts_keep NoPart tys s b sc ro us r = tt
    parts_keep (PartThen t ps) tys s b sc ro us r =
        let si = in_part s (first_type tys) in
        let xs = met core.table si t in
        let xs' = met core.table si (place once t) in
        let rs = reachable_split core b xs (met_parts core.table s (further_types tys) ps) r.1 in
        let b1 = next_all core.table b xs in
        let a = again sc ro in
        let n = ahead_term core.table t (place once t) (part_binders ps) si si (like t) a in (
          refl,
          reachable_append core b xs' (met_parts core.table s (further_types tys) (inner_parts once ps))
              (whole_of t (λ s1 b2 c1 r1 u1 h. inner_keeps t s1 b2 c1 r1 u1 h) si b sc (ahead_first (binders t) (part_binders ps) a).room (λ y o. let z = us y o in omega arith) rs.0)
              (wider_parts core (inner_parts once ps) (further_types tys) s b1 s.scope (next_all core.table b xs') (ahead_less n (parts_bind once ps))
              (parts_keep ps (further_types tys) s b1 n.scoped n.room
              (λ y o. let z = us y o in let m = ap (λ c. times c y.0) (cased_after core.table t si b) in let p = casing_counts t b.cased y in omega arith) rs.1)),
        )

    side_keeps : (side : Side) (s : Setting) (b : Before) → Scoped s.scope b → Room b (side_binders side) → ((y : Variable) → once y ≡ true → times b.cased y.0 + count_side side y ≤ 1) → R b (met_side core.table s side) → R b (met_side core.table s (inner_side once side))
    side_keeps (On kind x ty t) s b sc ro us r = (
      r.0,
      whole_of t (λ s1 b2 c1 r1 u1 h. inner_keeps t s1 b2 c1 r1 u1 h) (in_side core.table s kind ty) (next core.table b (SideLine kind x ty)) (in_scope s kind ty b x sc) (λ y. let o = ro y in omega arith) (λ y o. let v = us y o in omega arith) r.1,
    )
    side_keeps (Several xs tys t) s b sc ro us r = (
      r.0,
      whole_of t (λ s1 b2 c1 r1 u1 h. inner_keeps t s1 b2 c1 r1 u1 h) (in_several s tys) (next core.table b (SeveralLine xs tys)) (several_scope s xs tys b sc)
          (λ y. let o = ro y in let e = occurs_append (map (λ (x : Variable). x.0) xs) (binders t) y in let g = (gains_all xs tys b).counts y in omega arith) (λ y o. let v = us y o in omega arith) r.1,
    )

    bind_keeps : (bd : Bind) (s : Setting) (b : Before) → Scoped s.scope b → Room b (bind_binders bd) → ((y : Variable) → once y ≡ true → times b.cased y.0 + count_bind bd y ≤ 1) → R b (met_bind core.table s bd) → R b (met_bind core.table s (inner_bind once bd))
    bind_keeps (Past h k) s b sc ro us r = r
    bind_keeps (One side) s b sc ro us r = side_keeps side s b sc ro us r
    bind_keeps (Both fork l rt) s b sc ro us r =
        let l' = inner_side once l in
        let rt' = inner_side once rt in
        let sl = left_of s rt in
        let sr = right_of s l in
        let L = met_side core.table sl l in
        let L' = met_side core.table sl l' in
        let rs = reachable_split core b L (met_side core.table sr rt) r.1 in
        let a = again sc ro in
        let n = ahead_side core.table l l' (side_binders rt) sl sl (likes l) a in (
          refl,
          subst (λ (z : Setting). R b (met_side core.table z l' ++ met_side core.table (right_of s l') rt')) (sym (left_placed once rt s))
              (subst (λ (z : Setting). R b (L' ++ met_side core.table z rt')) (sym (right_placed once l s))
              (reachable_append core b L' (met_side core.table sr rt')
              (side_keeps l sl b sc (ahead_first (side_binders l) (side_binders rt) a).room (λ y o. let v = us y o in omega arith) rs.0)
              (wider_side core rt' sr (next_all core.table b L) s.scope (next_all core.table b L') (ahead_less n (side_binds once rt))
              (side_keeps rt sr (next_all core.table b L) n.scoped n.room
              (λ y o. let v = us y o in let m = ap (λ c. times c y.0) (side_cased_after core.table l sl b) in let p = bind_casing_counts (One l) b.cased y in omega arith) rs.1)))),
        )
    bind_keeps (Prim x f v w) s b sc ro us r = r
    bind_keeps (Reach x by) s b sc ro us r = r

    branches_keep : (bs : Branches) (s : Setting) (b : Before) → ((y : Variable) → (is_among (arm_variables (arms_of bs)) y ≡ true) ⊎ (has s.scope y ≡ true) → 1 ≤ occurs (nums b.bound) y.0) → Room b (branch_terms bs)
        → ((y : Variable) → once y ≡ true → times b.cased y.0 + count_branches bs y ≤ 1) → R b (met_branches core.table s bs) → R b (met_branches core.table s (inner_branches once bs))
    branches_keep NoBranch s b sc ro us r = tt
    branches_keep (BranchThen k vs t rest) s b sc ro us r =
        let types = fields_at core.table k.0 in
        let si = in_arm core.table s k vs in
        let t' = place once t in
        let xs = met core.table si t in
        let xs' = met core.table si t' in
        let rest' = inner_branches once rest in
        let rs = reachable_split core b xs (met_branches core.table s rest) r in
        let b1 = next_all core.table b xs in
        let later = arm_variables (arms_of rest) in
        let q : (y : ℕ) → occurs (binders t ++ branch_terms rest) y ≡ occurs (binders t) y + occurs (branch_terms rest) y = λ y. occurs_append (binders t) (branch_terms rest) y in
        let inside : (y : Variable) → has si.scope y ≡ true → (is_among (vs ++ later) y ≡ true) ⊎ (has s.scope y ≡ true) =
        λ y m. ⊎_elim (λ n. inl (Rattle.gib_core.proofs.Along.among_append vs later y ∙ or_left (is_among vs y) (is_among later y) n)) (λ n. inr n) (or_cases (is_among vs y) (has s.scope y) (sym (has_arm k vs types None s.scope y) ∙ m)) in
        let further : (y : Variable) → (is_among later y ≡ true) ⊎ (has s.scope y ≡ true) → (is_among (vs ++ later) y ≡ true) ⊎ (has s.scope y ≡ true) =
        λ y m. ⊎_elim (λ n. inl (Rattle.gib_core.proofs.Along.among_append vs later y ∙ or_right (is_among vs y) (is_among later y) n)) (λ n. inr n) m in
        let sci : Scoped si.scope b = λ y m. sc y (inside y m) in
        let room_t : Room b (binders t) = λ y. let e = q y in let o = ro y in omega arith in
        let us_t : Uses core once b t = λ y o. let z = us y o in omega arith in
        let sc1 : (y : Variable) → (is_among later y ≡ true) ⊎ (has s.scope y ≡ true) → 1 ≤ occurs (nums b1.bound) y.0 = λ y m. let z = sc y (further y m) in let n = (gains_term core.table t si b).counts y.0 in omega arith in
        let same_arms = ap arm_variables (arms_placed once rest) in
        let back : (y : Variable) → (is_among (arm_variables (arms_of rest')) y ≡ true) ⊎ (has s.scope y ≡ true) → (is_among later y ≡ true) ⊎ (has s.scope y ≡ true) =
        λ y m. ⊎_elim (λ n. inl (sym (ap (λ l. is_among l y) same_arms) ∙ n)) (λ n. inr n) m in
        reachable_append core b xs' (met_branches core.table s rest')
        (line_of t si b sci room_t us_t (inner_keeps t si b sci room_t us_t rs.0))
        (wider_branches core rest' s b1 s.scope (next_all core.table b xs') (λ y m. m)
        (λ y m.
        let e = q y.0 in let o = ro y.0 in let z = sc y (further y (back y m)) in let p = place_binds once t y.0 in
        (gains_term core.table t' si b).types y (omega arith) ∙ sym ((gains_term core.table t si b).types y (omega arith)))
        (cased_after core.table t' si b ∙ (place_casing once t b.cased ∙ sym (cased_after core.table t si b)))
        (λ y m. sc1 y (back y m))
        (λ y. let e = q y in let o = ro y in let n = (gains_term core.table t si b).counts y in let p = terms_placed once rest y in omega arith)
        (λ y. let e = q y in let o = ro y in let n = (gains_term core.table t' si b).counts y in let p = terms_placed once rest y in let v = place_binds once t y in omega arith)
        (branches_keep rest s b1 sc1 (λ y. let e = q y in let o = ro y in let n = (gains_term core.table t si b).counts y in omega arith)
        (λ y o. let z = us y o in let n = ap (λ c. times c y.0) (cased_after core.table t si b) in let p = casing_counts t b.cased y in omega arith) rs.1))

  pub place_keeps : (t : Term) → KeepsIt core once t (place once t)
  place_keeps t s b sc ro us r = line_of t s b sc ro us (inner_keeps t s b sc ro us r)

module _ (core : CoreTree) where
  -- A line breaks no rule: none reaches a field, so what calls tell is not asked.
  line_placed : (b : Before) (s : Setting) (line : Line) → least (rules core b (all_reached s) line) ≡ None → least (rules (place_core core) b (all_reached s) line) ≡ None
  line_placed b s (PastLine h k) e = e
  line_placed b s (SideLine kind x ty) e = e
  line_placed b s ParLine e = e
  line_placed b s (PrimLine x f y z) e = e
  line_placed b s (ReachLine y by) e = absurd (reaches_none core b s y by e)
  line_placed b s (WriteLine h k ss ps) e = e
  line_placed b s (PointLine x) e = e
  line_placed b s (CallLine f xs) e = ap least (same_call place_anew core b (all_reached s) f xs) ∙ e
  line_placed b s (GiveLine x) e = e
  line_placed b s (CaseLine x arms) e = e
  line_placed b s (IfLine x) e = e
  line_placed b s (SeveralLine xs tys) e = e
  line_placed b s (TupleLine tys ss packed) e = e
  line_placed b s PartLine e = e

  lines_placed : (b : Before) (ms : List Met) → LinesAreReachable core b ms → LinesAreReachable (place_core core) b ms
  lines_placed b [] h = tt
  lines_placed b (m ∷ ms) h = (line_placed b m.with m.line h.0, lines_placed (next core.table b m.line) ms h.1)

  params_nums : (n : ℕ) (ps : List Ty) (bs : List Bound) (y : ℕ) → occurs (nums (bind_parameters n ps bs)) y ≡ occurs (numbers_from n (length ps)) y + occurs (nums bs) y
  params_nums n [] bs y = omega arith
  params_nums n (p ∷ ps) bs y = let e = params_nums (suc n) ps (record { variable = record { 0 = n }; ty = p } ∷ bs) y in omega arith

  params_scoped : (n : ℕ) (ps : List Ty) (ks : List Known) (bs : List Bound) → ((y : Variable) → has ks y ≡ true → 1 ≤ occurs (nums bs) y.0) → (y : Variable) → has (with_parameters n ps ks) y ≡ true → 1 ≤ occurs (nums (bind_parameters n ps bs)) y.0
  params_scoped n [] ks bs h = h
  params_scoped n (p ∷ ps) ks bs h = params_scoped (suc n) ps (reached (record { 0 = n }) ∷ ks) (record { variable = record { 0 = n }; ty = p } ∷ bs) (λ y m. go (n == y.0) y m)
    where
      go : (c : Bool) (y : Variable) → (c || has ks y) ≡ true → 1 ≤ (if c then 1 else 0) + occurs (nums bs) y.0
      go true y m = omega arith
      go false y m = let k = h y m in omega arith

  result_by : (r : Renaming) (res : results.Results Ty) (s : Setting) → s.destination ≡ result_place res → (setting_by r s).destination ≡ result_place res
  result_by r (results.One Whole) s e = ap (λ d. (setting_by r (record s { destination = d })).destination) e
  result_by r (results.One Truth) s e = ap (λ d. (setting_by r (record s { destination = d })).destination) e
  result_by r (results.One (Tree t)) s e = ap (λ d. (setting_by r (record s { destination = d })).destination) e
  result_by r (results.Several tys) s e = ap (λ d. (setting_by r (record s { destination = d })).destination) e

  body_reachable : (ps : List Ty) (res : results.Results Ty) (t : Term) → IsNumbered (record { parameters = ps; result = res; term = t }) → IsReachable core (record { parameters = ps; result = res; term = t })
      → IsReachable (place_core core) (record { parameters = ps; result = res; term = number_anew (length ps) (place_body t) })
  body_reachable ps res t numbered h =
      let body : Body = record { parameters = ps; result = res; term = t } in
      let by = place_in (variables_in (length ps) (place_body t)) in
      let once = is_once t in
      let s = opening body in
      let b = before_body body in
      let stay : (i : ℕ) → i < length ps → by (0 + i) ≡ 0 + i = λ i lt. let e : 0 + i ≡ i = omega arith in ap by e ∙ (parameters_stay ps res t numbered i lt ∙ sym e) in
      let placed = place_keeps core once t s b (params_scoped 0 ps [] [] (λ y m. absurd cc))
      (λ y. let e = params_nums 0 ps [] y in let d = body_differs ps res t numbered y in omega arith)
      (λ y o. let same : count t y ≡ 1 = eqb-true (count t y) 1 o in omega arith) h in
      let renamed = reachable_renamed by (place_tells (variables_in (length ps) (place_body t))) core b s (place_body t) placed in
      let same_b : before_lines_by by b ≡ b = λ i. record { bound = bound_parameters_by by 0 ps [] stay i; cased = [] } in
      let same_s : setting_by by s ≡ s = λ i. record { destination = result_by by res s refl i; due = one_type res; scope = parameters_by by 0 ps [] stay i; others = []; whole = false; calls = [] } in
      lines_placed b (met core.table s (number_anew (length ps) (place_body t)))
      (subst (λ (z : Before). LinesAreReachable core z (met core.table s (rename by (place_body t)))) same_b
      (subst (λ (z : Setting). LinesAreReachable core (before_lines_by by b) (met core.table z (rename by (place_body t)))) same_s renamed))

pub core_reachable : (core : CoreTree) → AreNumbered core → AreReachable core → AreReachable (place_core core)
core_reachable core n h =
    remade_so place_anew core.offsets core.marked (λ (b : Body). IsNumbered b × IsReachable core b) (IsReachable (place_core core))
    (λ b k. body_reachable core b.parameters b.result b.term k.0 k.1) core (all_both IsNumbered (IsReachable core) (bodies core) n h)
