-- What lines that break no rule do not use, and which variables a case was on.
use Rattle.std.proofs.Common.{◌≡◌, ℕ, ◌==◌, Bool, true, false, ◌||◌, ◌&&◌, not, List, [], ◌∷◌, ◌++◌, refl, sym, ap, ◌∙◌, subst}
use Rattle.std.proofs.lemmas.Bool.{eqb-true, eq-eqb, or_right, both_ways, or_left, or_from, or_parts}
use Rattle.gib_types.specs.declared.table.Ty.{Ty}
use Rattle.gib_types.specs.declared.table.Ty.TheVariants.{Truth}
use Rattle.gib_types.specs.declared.table.ConId.{ConId}
use Rattle.gib_types.specs.Table.{Table, first_type, further_types, tree_types}
use Rattle.gib_core.specs.declared.atom.Variable.{Variable}
use Rattle.gib_core.specs.declared.atom.Atom.{Atom}
use Rattle.gib_core.specs.declared.atom.Atom.TheVariants as a
use Rattle.gib_core.specs.declared.atom.Kind.{Kind}
use Rattle.gib_core.specs.declared.atom.Kind.TheVariants.{Here, Region, Scalar}
use Rattle.gib_core.specs.Tree.{Term, Then, Write, Point, CallTerm, Give, CaseTerm, IfTerm, Tuple, PartTerms, NoPart, PartThen, parts_count, Bind, Past, One, Both, Prim, Reach, Side, On, Several, Branches, NoBranch, BranchThen, variables_of, CoreTree}
use Rattle.gib_core.specs.Meaning.{function_at}
use Rattle.gib_core.specs.Reaching.{is_variable, has_variable, uses, bind_uses, side_uses, parts_use, branches_use}
use Rattle.gib_core.specs.Met.{Line, CaseLine, ParLine, SideLine, PrimLine, IfLine, SeveralLine, TupleLine, PartLine, Setting, at, behind, in_side, in_several, in_part, in_arm, in_branch, left_of, right_of, arms_of, met, met_bind, met_side, met_parts, met_branches, behind_side}
use Rattle.gib_core.specs.Rules.{Before, is_among, next, next_all, cases_on, LinesAreBuilt, any_other, is_other, all_usable, may_write, are_scalars, is_empty, is_usable, has_type, gives_packed, call_fits, is_nowhere, are_parts, is_in_parts}
use Rattle.gib_core.specs.Fits.{entry_cased, cased, is_of}
use Rattle.gib_core.specs.Walk.{Entry, AtLine, AtArm}
use Rattle.gib_core.proofs.Walks.{walk_joins}
use Rattle.gib_core.proofs.After.{in_turn, step, after_is}
use Rattle.gib_core.proofs.Facts.{Test, holds, fails, test, same_variable, least_none}
use Rattle.gib_core.proofs.Later.{case_facts, prim_facts, built_apart}

-- No atom is another side's variable.

unused_by : (s : Setting) (x y : Variable) → is_among s.others x ≡ true → is_among s.others y ≡ false → Test (y.0 == x.0) → y.0 == x.0 ≡ false
unused_by s x y o e (fails ne) = ne
unused_by s x y o e (holds eq) = absurd (both_ways (is_among s.others y) e (ap (is_among s.others) (same_variable y x eq) ∙ o))

one_unused : (s : Setting) (x : Variable) (y : Atom) → is_among s.others x ≡ true → is_other s y ≡ false → is_variable x y ≡ false
one_unused s x (a.Whole z) o e = refl
one_unused s x (a.Truth b) o e = refl
one_unused s x (a.Variable y) o e = unused_by s x y o e (test (y.0 == x.0))

any_unused : (s : Setting) (x : Variable) (ys : List Atom) → is_among s.others x ≡ true → any_other s ys ≡ false → has_variable x ys ≡ false
any_unused s x [] o e = refl
any_unused s x (y ∷ ys) o e =
    let h = or_parts (is_other s y) (any_other s ys) e in
    or_from (is_variable x y) (has_variable x ys) (one_unused s x y o h.0) (any_unused s x ys o h.1)

any_first : (s : Setting) (x : Variable) (ys zs : List Atom) → is_among s.others x ≡ true → any_other s (ys ++ zs) ≡ false → has_variable x ys ≡ false
any_first s x [] zs o e = refl
any_first s x (y ∷ ys) zs o e =
    let h = or_parts (is_other s y) (any_other s (ys ++ zs)) e in
    or_from (is_variable x y) (has_variable x ys) (one_unused s x y o h.0) (any_first s x ys zs o h.1)

any_second : (s : Setting) (x : Variable) (ys zs : List Atom) → is_among s.others x ≡ true → any_other s (ys ++ zs) ≡ false → has_variable x zs ≡ false
any_second s x [] zs o e = any_unused s x zs o e
any_second s x (y ∷ ys) zs o e = any_second s x ys zs o (or_parts (is_other s y) (any_other s (ys ++ zs)) e).1

-- Settings of nested terms have the others.

others_side : (s : Setting) (l : Side) (x : Variable) → is_among s.others x ≡ true → is_among (behind_side s l).others x ≡ true
others_side s (On kind y ty t) x o = o
others_side s (Several xs tys t) x o = o

others_behind : (s : Setting) (b : Bind) (x : Variable) → is_among s.others x ≡ true → is_among (behind s b).others x ≡ true
others_behind s (Past h k) x o = o
others_behind s (One l) x o = others_side s l x o
others_behind s (Both fork l r) x o = others_side (behind_side s l) r x (others_side s l x o)
others_behind s (Prim y f v w) x o = o
others_behind s (Reach y by) x o = o

others_inside : (table : Table) (s : Setting) (kind : Kind) (ty : Ty) (x : Variable) → is_among s.others x ≡ true → is_among (in_side table s kind ty).others x ≡ true
others_inside table s Here ty x o = o
others_inside table s Region ty x o = o
others_inside table s Scalar ty x o = o

among_more : (xs ys : List Variable) (x : Variable) → is_among ys x ≡ true → is_among (xs ++ ys) x ≡ true
among_more [] ys x o = o
among_more (y ∷ xs) ys x o = or_right (y.0 == x.0) (is_among (xs ++ ys) x) (among_more xs ys x o)

others_right : (s : Setting) (l : Side) (x : Variable) → is_among s.others x ≡ true → is_among (right_of s l).others x ≡ true
others_right s (On kind y ty t) x o = or_right (y.0 == x.0) (is_among s.others x) o
others_right s (Several xs tys t) x o = among_more xs s.others x o

-- Terms.

mutual
  pub unused : (core : CoreTree) (t : Term) (b : Before) (s : Setting) (x : Variable) → is_among s.others x ≡ true → LinesAreBuilt core b (met core.table s t) → uses t x ≡ false
  unused core (Then k rest) b s x o h =
      let parts = built_apart core b (met_bind core.table s k) (met core.table (behind s k) rest) h in
      or_from (bind_uses k x) (uses rest x) (bind_unused core k b s x o parts.0) (unused core rest (next_all core.table b (met_bind core.table s k)) (behind s k) x (others_behind s k x o) parts.1)
  unused core (Write h k ss ps) b s x o e =
      let four = (least_none 4 (any_other s (ss ++ ps)) ((5, not (may_write core.table b s.destination h k ps)) ∷ (8, not (all_usable s (ss ++ ps))) ∷ (9, not (are_scalars core.table b s.destination ss)) ∷ []) e.0).0 in
      or_from (has_variable x ss) (has_variable x ps) (any_first s x ss ps o four) (any_second s x ss ps o four)
  unused core (Point y) b s x o e =
      one_unused s x y o (least_none 4 (is_other s y) ((6, not (is_empty s.destination)) ∷ (8, not (is_usable s y)) ∷ (9, not (has_type b y s.due)) ∷ []) e.0).0
  unused core (CallTerm f ys) b s x o e =
      any_unused s x ys o (least_none 4 (any_other s ys) ((6, gives_packed (function_at core.functions f.0) && not (is_empty s.destination)) ∷ (8, not (all_usable s ys)) ∷ (9, not (call_fits b s ys (function_at core.functions f.0))) ∷ []) e.0).0
  unused core (Give y) b s x o e =
      one_unused s x y o (least_none 4 (is_other s y) ((8, not (is_usable s y)) ∷ (9, not (is_nowhere s.destination && has_type b y s.due)) ∷ []) e.0).0
  unused core (CaseTerm y bs) b s x o e =
      or_from (is_variable x y) (branches_use bs x) (one_unused s x y o (case_facts core b s y (arms_of bs) e.0).apart) (branches_unused core bs (next core.table b (CaseLine y (arms_of bs))) s x o e.1)
  unused core (IfTerm y t u) b s x o e =
      let c = next core.table b (IfLine y) in
      let parts = built_apart core c (met core.table (in_branch s) t) (met core.table (in_branch s) u) e.1 in
      or_from (is_variable x y) (uses t x || uses u x)
      (one_unused s x y o (least_none 4 (is_other s y) ((8, not (is_usable s y)) ∷ (9, not (has_type b y Truth)) ∷ []) e.0).0)
      (or_from (uses t x) (uses u x) (unused core t c (in_branch s) x o parts.0) (unused core u (next_all core.table c (met core.table (in_branch s) t)) (in_branch s) x o parts.1))
  unused core (Tuple tys ss ps) b s x o e =
      or_from (has_variable x ss) (parts_use ps x)
      (any_unused s x ss o (least_none 4 (any_other s ss) ((8, not (all_usable s ss)) ∷ (9, not (are_parts core.table b s.destination tys ss (parts_count ps))) ∷ (10, not (is_in_parts s.destination)) ∷ []) e.0).0)
      (parts_unused core ps (tree_types tys) b s x o e.1)

  bind_unused : (core : CoreTree) (k : Bind) (b : Before) (s : Setting) (x : Variable) → is_among s.others x ≡ true → LinesAreBuilt core b (met_bind core.table s k) → bind_uses k x ≡ false
  bind_unused core (Past h k) b s x o e = refl
  bind_unused core (One side) b s x o e = side_unused core side b s x o e
  bind_unused core (Both fork l r) b s x o e =
      let c = next core.table b ParLine in
      let parts = built_apart core c (met_side core.table (left_of s r) l) (met_side core.table (right_of s l) r) e.1 in
      or_from (side_uses l x) (side_uses r x)
      (side_unused core l c (left_of s r) x (among_more (variables_of r) s.others x o) parts.0)
      (side_unused core r (next_all core.table c (met_side core.table (left_of s r) l)) (right_of s l) x (others_right s l x o) parts.1)
  bind_unused core (Prim y f v w) b s x o e =
      let h = or_parts (is_other s v) (is_other s w || false) (prim_facts core b s y f v w e.0).apart in
      or_from (is_variable x v) (is_variable x w) (one_unused s x v o h.0) (one_unused s x w o (or_parts (is_other s w) false h.1).0)
  bind_unused core (Reach y by) b s x o e = refl

  pub side_unused : (core : CoreTree) (side : Side) (b : Before) (s : Setting) (x : Variable) → is_among s.others x ≡ true → LinesAreBuilt core b (met_side core.table s side) → side_uses side x ≡ false
  side_unused core (On kind y ty t) b s x o e =
      unused core t (next core.table b (SideLine kind y ty)) (in_side core.table s kind ty) x (others_inside core.table s kind ty x o) e.1
  side_unused core (Several xs tys t) b s x o e = unused core t (next core.table b (SeveralLine xs tys)) (in_several s tys) x o e.1

  parts_unused : (core : CoreTree) (ps : PartTerms) (tys : List Ty) (b : Before) (s : Setting) (x : Variable) → is_among s.others x ≡ true → LinesAreBuilt core b (met_parts core.table s tys ps) → parts_use ps x ≡ false
  parts_unused core NoPart tys b s x o e = refl
  parts_unused core (PartThen t ps) tys b s x o e =
      let inner = in_part s (first_type tys) in
      let c = next core.table b PartLine in
      let parts = built_apart core c (met core.table inner t) (met_parts core.table s (further_types tys) ps) e.1 in
      or_from (uses t x) (parts_use ps x) (unused core t c inner x o parts.0) (parts_unused core ps (further_types tys) (next_all core.table c (met core.table inner t)) s x o parts.1)

  branches_unused : (core : CoreTree) (bs : Branches) (b : Before) (s : Setting) (x : Variable) → is_among s.others x ≡ true → LinesAreBuilt core b (met_branches core.table s bs) → branches_use bs x ≡ false
  branches_unused core NoBranch b s x o e = refl
  branches_unused core (BranchThen k ys t bs) b s x o e =
      let parts = built_apart core b (met core.table (in_arm core.table s k ys) t) (met_branches core.table s bs) e in
      or_from (uses t x) (branches_use bs x) (unused core t b (in_arm core.table s k ys) x o parts.0)
      (branches_unused core bs (next_all core.table b (met core.table (in_arm core.table s k ys) t)) s x o parts.1)

-- Variables that a case was on stand before.

cased_kept : (line : Line) (cs : List Variable) (y : Variable) → is_among cs y ≡ true → is_among (cases_on line cs) y ≡ true
cased_kept (CaseLine (a.Variable x) arms) cs y h = or_right (x.0 == y.0) (is_among cs y) h
cased_kept (CaseLine (a.Whole z) arms) cs y h = h
cased_kept (CaseLine (a.Truth z) arms) cs y h = h
cased_kept (Rattle.gib_core.specs.Met.PastLine q k) cs y h = h
cased_kept (SideLine kind x ty) cs y h = h
cased_kept ParLine cs y h = h
cased_kept (PrimLine x f v w) cs y h = h
cased_kept (Rattle.gib_core.specs.Met.ReachLine x by) cs y h = h
cased_kept (Rattle.gib_core.specs.Met.WriteLine q k ss ps) cs y h = h
cased_kept (Rattle.gib_core.specs.Met.PointLine x) cs y h = h
cased_kept (Rattle.gib_core.specs.Met.CallLine f xs) cs y h = h
cased_kept (Rattle.gib_core.specs.Met.GiveLine x) cs y h = h
cased_kept (IfLine x) cs y h = h
cased_kept (SeveralLine xs tys) cs y h = h
cased_kept (TupleLine tys ss packed) cs y h = h
cased_kept PartLine cs y h = h

-- Which of two.
pub data Either (p q : Bool) : Type 0 where
  left : p ≡ true → Either p q
  right : q ≡ true → Either p q

pub either : (p q : Bool) → p || q ≡ true → Either p q
either true q e = left refl
either false q e = right e

turned : (m n : ℕ) → m == n ≡ true → n == m ≡ true
turned m n e = let h : n ≡ m = sym (eqb-true m n e) in eq-eqb n m h

subject_cased : (x : Atom) (arms : List (ConId × List Variable)) (cs : List Variable) (q : Variable) → is_of x q.0 ≡ true → is_among (cases_on (CaseLine x arms) cs) q ≡ true
subject_cased (a.Whole z) arms cs q e = absurd cc
subject_cased (a.Truth z) arms cs q e = absurd cc
subject_cased (a.Variable x) arms cs q e = or_left (x.0 == q.0) (is_among cs q) (turned q.0 x.0 e)

-- What an entry or a term does where a case is on the variable: the variable stands behind it; and what stood before still does.
record Marks (q : Variable) (found : Bool) (go : Before → Before) : Type 0 where
  pub here : found ≡ true → (b : Before) → is_among (go b).cased q ≡ true
  pub kept : (b : Before) → is_among b.cased q ≡ true → is_among (go b).cased q ≡ true

entry_marks : (table : Table) (q : Variable) (l : Entry) → entry_cased q.0 l ≡ true → (b : Before) → is_among (step table l b).cased q ≡ true
entry_marks table q (AtLine (CaseLine x arms)) e b = subject_cased x arms b.cased q e
entry_marks table q (AtLine (Rattle.gib_core.specs.Met.PastLine h k)) e b = absurd cc
entry_marks table q (AtLine (SideLine kind x ty)) e b = absurd cc
entry_marks table q (AtLine ParLine) e b = absurd cc
entry_marks table q (AtLine (PrimLine x f v w)) e b = absurd cc
entry_marks table q (AtLine (Rattle.gib_core.specs.Met.ReachLine x by)) e b = absurd cc
entry_marks table q (AtLine (Rattle.gib_core.specs.Met.WriteLine h k ss ps)) e b = absurd cc
entry_marks table q (AtLine (Rattle.gib_core.specs.Met.PointLine x)) e b = absurd cc
entry_marks table q (AtLine (Rattle.gib_core.specs.Met.CallLine f xs)) e b = absurd cc
entry_marks table q (AtLine (Rattle.gib_core.specs.Met.GiveLine x)) e b = absurd cc
entry_marks table q (AtLine (IfLine x)) e b = absurd cc
entry_marks table q (AtLine (SeveralLine xs tys)) e b = absurd cc
entry_marks table q (AtLine (TupleLine tys ss packed)) e b = absurd cc
entry_marks table q (AtLine PartLine) e b = absurd cc
entry_marks table q (AtArm k xs) e b = absurd cc

entry_keeps : (table : Table) (q : Variable) (l : Entry) (b : Before) → is_among b.cased q ≡ true → is_among (step table l b).cased q ≡ true
entry_keeps table q (AtLine l) b h = cased_kept l b.cased q h
entry_keeps table q (AtArm k xs) b h = h

two_marks : (q : Variable) (f g : Bool) (go go' : Before → Before) → Marks q f go → Marks q g go' → Marks q (f || g) (in_turn go go')
two_marks q f g go go' m n = record {
  here = λ e b. elim (either f g e) [
    | left h ↦ n.kept (go b) (m.here h b)
    | right h ↦ n.here h (go b)
  ];
  kept = λ b h. n.kept (go b) (m.kept b h);
}

-- A variable that a term has a case on stands behind it.
pub cased_before : (table : Table) (t : Term) (b : Before) (s : Setting) (q : Variable) → cased t q.0 ≡ true → is_among (next_all table b (met table s t)).cased q ≡ true
cased_before table t b s q e =
    let marks = walk_joins {R = Marks q} {op = (◌||◌)} {e = false} {g = entry_cased q.0} {op' = in_turn} {e' = λ c. c} {g' = step table}
    (record { none = record { here = λ n c. absurd cc; kept = λ c h. h }; two = λ f g go go' m n. two_marks q f g go go' m n; one = λ l. record { here = entry_marks table q l; kept = entry_keeps table q l } }) t in
    subst (λ (c : Before). is_among c.cased q ≡ true) (sym (after_is table t s b)) (marks.here e b)
