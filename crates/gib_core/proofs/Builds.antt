-- Each term that meets the build rules fits.
use Rattle.std.proofs.Common.{◌≡◌, ℕ, ◌<◌, ◌≤◌, ◌==◌, true, false, ◌||◌, ◌&&◌, not, if◌then◌else◌, List, [], ◌∷◌, ◌++◌, map, length, Some, None, refl, sym, ap, ◌∙◌, subst}
use Rattle.std.proofs.lemmas.Bool.{not-true, or_left, not-false, and_parts}
use Rattle.gib_types.specs.declared.table.Ty.{Ty}
use Rattle.gib_types.specs.declared.table.Ty.TheVariants.{Whole, Truth, Tree}
use Rattle.gib_types.specs.Table.{fields_at, con_at, scalar_types, tree_types, IsTable}
use Rattle.gib_syntax.specs.Meaning.{is_scalar}
use Rattle.gib_types.specs.Operators.{operator_type}
use Rattle.gib_core.specs.declared.atom.Variable.{Variable}
use Rattle.gib_core.specs.declared.atom.Atom.{Atom}
use Rattle.gib_core.specs.declared.atom.Atom.TheVariants as a
use Rattle.gib_core.specs.declared.atom.Kind.TheVariants.{Here, Region, Scalar}
use Rattle.gib_core.specs.declared.atom.Access.TheVariants.{Offset, Skip, End}
use Rattle.gib_core.specs.Tree.{Term, Then, Write, Point, CallTerm, Give, CaseTerm, IfTerm, Tuple, PartTerms, NoPart, PartThen, parts_count, Bind, Past, One, Both, Prim, Reach, Side, On, Several, Branches, NoBranch, BranchThen, CoreTree}
use Rattle.gib_core.specs.Numbering.{binders, bind_binders, side_binders, part_binders, branch_binders}
use Rattle.gib_core.specs.Met.{Nowhere, Empty, Open, InParts, Setting, PastLine, SideLine, ParLine, PrimLine, CaseLine, SeveralLine, known, reached, field_due, stands_behind, in_side, in_several, in_part, behind, left_of, right_of, in_arm, in_branch, arms_of, met, met_bind, met_side, met_parts, met_branches}
use Rattle.gib_core.specs.Rules.{Before, is_among, is_bound, type_bound, next, next_all, LinesAreBuilt, has_room, same_type, is_empty, is_nowhere, is_of_type, is_usable, all_usable, is_other, any_other, has_type, may_write, are_scalars, by_access, one_tells, is_outside, is_reached, type_of, arm_variables, are_parts, is_in_parts}
use Rattle.gib_core.specs.Fits as f
use Rattle.gib_core.specs.Fits.{Absent, Held, Placed, AtHead, Field, Scope, put, loosen, cased, Dest, packed_due, more, AtomsFit, arm_scope, Line, Needs, Inner, none_of, new_line, arm_line, side_tells, bound_scope, hold_all, Fits, PartsFit, BindFits, SideFits, AloneFits, BranchesFit}
use Rattle.gib_core.specs.Ending.{Within, within_par, ended, is_known, all_known, lasts_known, last_packed, if_some}
use Rattle.gib_core.proofs.Owing.{Owes, Tells, MayTell, BindsSome, side_line, bind_line, owes_leaf, owes_call, owes_if, owes_arm, owes_side, owes_none, owes_behind, tells_new, tells_inner, tells_behind, left_may, right_may}
use Rattle.gib_core.specs.Walk.{EachInBind, EachInSide, EachInParts, EachInBranches}
use Rattle.gib_core.specs.Literals.{LiteralsFit, EntryLiterals}
use Rattle.gib_core.proofs.Facts.{least2, least3, least4, same_type_is, is_type_is, same_variable, itself, test}
use Rattle.gib_core.proofs.Later.{have_on, later_on, bound_arms, fresh_arms, line_later, lines_later, built_apart, its_type, prim_facts, case_facts, ArmsHaveTypes, arms_have_on, typed_bound}
use Rattle.gib_core.proofs.Unused.{cased_before}
use Rattle.gib_core.proofs.Vars.{named, Tracked, Vars, vars_on, vars_later, vars_hold, vars_scope, tracked_later, put_elsewhere, known_bound, vars_at, tracked_cased}
use Rattle.gib_core.proofs.Dests.{IsDest, Keeps, dest_kept, tracked_as, atom_fits, atoms_fit, usable_first, tree_fits, con_there}
use Rattle.gib_core.proofs.Entering.{AllBelow, below_apart, ArmsAreNew, arms_new, new_same, enter}
use Rattle.gib_core.proofs.Severals.{bound_vars}
use Rattle.gib_core.proofs.Covering.{covers, arms_below}
use Rattle.gib_core.proofs.Fitted.{IsPart, is_part, behind_part, keep_later, SideDone, absent_loose, bind_sort, placed_own, scalar_own, packed_type, due_parts, call_in_place, scalar_call_fits, empty_place, no_place, write_fits}
use Rattle.gib_core.proofs.Along.{next_append}
use Rattle.gib_core.proofs.Orders.{parts_facts}
use Rattle.gib_core.proofs.BuiltFacts.{After, AfterBind, AfterLeft, ArePaired, alone_scalar, behind_of, both_left, due_there, field_reached, goes, here_facts, keep_reached, later_typed, one_left, one_of, operator_scalar, paired, reach_facts, reach_vars, reached_known, right_start, scalar_due, scalar_side, scalar_vars, several_start, side_apart, side_some, suc_same, truth_fits, unbound_apart}

mutual
  pub term_fits : (core : CoreTree) (n : ℕ) → IsTable core.table → (ns : Needs) (t : Term) (b : Before) (s : Setting) (sc : Scope) (d : Dest) (ln : Line) → Owes core ns t ln → Tells core s ln → IsPart s t → AllBelow n (binders t) → LiteralsFit t
      → Vars n b s.scope sc → IsDest core.table b sc s.destination s.due d → LinesAreBuilt core b (met core.table s t) → Fits core ns t sc d ln
  term_fits core n is ns (Then k rest) b s sc d ln owes tells part below lits v e h =
      let parts = built_apart core b (met_bind core.table s k) (met core.table (behind s k) rest) h in
      let low = below_apart n (bind_binders k) (binders rest) below in
      bind_fits core n is k b s sc d ln tells (AfterBind ns rest) low.0 lits.0 v e parts.0
      (λ tc d' v' e'. term_fits core n is ns rest (next_all core.table b (met_bind core.table s k)) (behind s k) tc d' (bind_line core k ln) (owes_behind core ns k rest ln owes) (tells_behind core s k ln tells) (is_part (behind s k) rest (behind_part s k)) low.1 lits.1 v' e' parts.1)
  term_fits core n is ns (Write q k ss ps) b s sc d ln owes tells part below lits v e h =
      let r = least4 4 5 8 9 (any_other s (ss ++ ps)) (not (may_write core.table b s.destination q k ps)) (not (all_usable s (ss ++ ps))) (not (are_scalars core.table b s.destination ss)) h.0 in
      write_fits core n b s sc d s.destination q k ss ps ns ln (owes_leaf core ns (Write q k ss ps) ln refl (λ z. refl) owes) (not-false (may_write core.table b s.destination q k ps) r.1) (not-false (are_scalars core.table b s.destination ss) r.3)
      (usable_first s ss ps (not-false (all_usable s (ss ++ ps)) r.2)) lits v e
  term_fits core n is ns (Point x) b s sc d ln owes tells part below lits v e h =
      let r = least4 4 6 8 9 (is_other s x) (not (is_empty s.destination)) (not (is_usable s x)) (not (has_type b x s.due)) h.0 in
      let place = empty_place core.table b sc s.destination s.due d (not-false (is_empty s.destination) r.1) e in
      let typed : type_of b x ≡ Some (Tree place.0) = is_type_is (type_of b x) s.due (not-false (has_type b x s.due) r.3) ∙ ap Some place.1 in
      (place.0.0, place.2, tree_fits n b s sc x place.0 (not-false (is_usable s x) r.2) typed v, owes_leaf core ns (Point x) ln refl (λ z. refl) owes)
  term_fits core n is ns (CallTerm g xs) b s sc d ln owes tells part below lits v e h =
      let fit = call_in_place core n b s sc d g xs part h lits v e in
      (fit.0, fit.1, owes_call core ns g xs ln owes)
  term_fits core n is ns (Give x) b s sc d ln owes tells part below lits v e h =
      let r = least3 4 8 9 (is_other s x) (not (is_usable s x)) (not (is_nowhere s.destination && has_type b x s.due)) h.0 in
      let both = and_parts (is_nowhere s.destination) (has_type b x s.due) (not-false (is_nowhere s.destination && has_type b x s.due) r.2) in
      let place = no_place core.table b sc s.destination s.due d both.0 e in
      (s.due, place.1, place.0, atom_fits n b s sc x s.due (not-false (is_usable s x) r.1) both.1 lits v, owes_leaf core ns (Give x) ln refl (λ z. refl) owes)
  term_fits core n is ns (CaseTerm (a.Variable x) bs) b s sc d ln owes tells part below lits v e h =
      let facts = case_facts core b s (a.Variable x) (arms_of bs) h.0 in
      let cover = covers core.table (type_bound b.bound x) bs is facts.covers in
      let own = tracked_as n b s.scope sc x (Tree cover.ty) facts.usable cover.typed v in
      let c = next core.table b (CaseLine (a.Variable x) (arms_of bs)) in
      let later = line_later core b s (CaseLine (a.Variable x) (arms_of bs)) h.0 in
      let fresh = fresh_arms (arm_variables (arms_of bs)) b.bound facts.new in
      let types = (bound_arms core.table (arms_of bs) b.bound fresh).1 in
      let own' = keep_later b c sc later x.0 (Tree cover.ty) own in
      let among : is_among c.cased x ≡ true = or_left (x.0 == x.0) (is_among b.cased x) (itself x.0) in
      let tc = put sc x.0 (AtHead cover.ty.0) in
      let keep : Keeps c sc c tc = λ y ty k. tracked_cased c sc x.0 cover.ty y ty own' among k in
      let v' = vars_at n c s.scope sc x.0 (AtHead cover.ty.0) (known_bound c sc x.0 true None (Tree cover.ty, own'))
      (λ k f. reached_known c tc x.0 k s.scope x facts.usable f (Tree cover.ty, keep x.0 (Tree cover.ty) own')) (vars_on n b c s.scope sc later v) in
      let e' = dest_kept core.table c c sc tc s.destination s.due d keep (dest_kept core.table b c sc sc s.destination s.due d (keep_later b c sc later) e) in
      let absent : (z : ℕ) → is_bound b.bound (named z) ≡ false → z < n → tc z ≡ Absent =
      λ z no lt. put_elsewhere sc x.0 z (AtHead cover.ty.0) (unbound_apart b.bound x z (typed_bound b.bound x (Tree cover.ty) cover.typed) no (test (z == x.0))) ∙ v.new z no lt in
      let new = arms_new n core.table (arms_of bs) tc (is_bound b.bound) fresh absent (arms_below n bs below) cover.long in
      (cover.ty.0, record { variable = x; atom = refl; sort = own.usable.0 }, cover.each, branches_fit core n is ns bs bs x ln owes (λ q i. i) (λ i. i) c s tc d tells below lits.1 v' e' types new h.1)
  term_fits core n is ns (CaseTerm (a.Whole z) bs) b s sc d ln owes tells part below lits v e h = (let c = (case_facts core b s (a.Whole z) (arms_of bs) h.0).covers in absurd cc)
  term_fits core n is ns (CaseTerm (a.Truth z) bs) b s sc d ln owes tells part below lits v e h = (let c = (case_facts core b s (a.Truth z) (arms_of bs) h.0).covers in absurd cc)
  term_fits core n is ns (IfTerm x t u) b s sc d ln owes tells part below lits v e h =
      let r = least3 4 8 9 (is_other s x) (not (is_usable s x)) (not (has_type b x Truth)) h.0 in
      let typed = not-false (has_type b x Truth) r.2 in
      let lines = met core.table (in_branch s) t in
      let parts = built_apart core b lines (met core.table (in_branch s) u) h.1 in
      let low = below_apart n (binders t) (binders u) below in
      let c = next_all core.table b lines in
      let later = lines_later core b lines parts.0 in (
        truth_fits n b s sc x (not-false (is_usable s x) r.1) typed v,
        term_fits core n is ns t b (in_branch s) sc d ln (owes_if core ns x t u ln owes).0 (tells_inner core s (in_branch s) ln ln refl refl refl tells) (is_part (in_branch s) t refl) low.0 lits.1.0 v e parts.0,
        term_fits core n is ns u c (in_branch s) sc d ln (owes_if core ns x t u ln owes).1 (tells_inner core s (in_branch s) ln ln refl refl refl tells) (is_part (in_branch s) u refl) low.1 lits.1.1 (vars_on n b c s.scope sc later v) (dest_kept core.table b c sc sc s.destination s.due d (keep_later b c sc later) e) parts.1,
      )
  term_fits core n is ns (Tuple tys ss ps) b s sc d ln owes tells part below lits v e h =
      let r = least4 4 8 9 10 (any_other s ss) (not (all_usable s ss)) (not (are_parts core.table b s.destination tys ss (parts_count ps))) (not (is_in_parts s.destination)) h.0 in
      let facts = parts_facts core.table b s.destination tys ss (parts_count ps) (not-false (is_in_parts s.destination) r.3) (not-false (are_parts core.table b s.destination tys ss (parts_count ps)) r.2) in
      let lines = met_parts core.table s (tree_types tys) ps in
      let c = next_all core.table b lines in (
        due_parts core.table b sc s.destination s.due d tys facts.due e,
        parts_fit core n is ln.within ps (tree_types tys) (packed_due tys) b s sc tells.par below lits.1 v h.1 (paired tys) facts.count ss (scalar_types tys)
            (λ tc v'. atoms_fit n c s tc ss (scalar_types tys) (not-false (all_usable s ss) r.1) (later_typed b c ss (scalar_types tys) (lines_later core b lines h.1) facts.scalars) lits.0 v'),
        owes_leaf core ns (Tuple tys ss ps) ln refl (λ z. refl) owes,
      )

  parts_fit : (core : CoreTree) (n : ℕ) → IsTable core.table → (w : Within) (ps : PartTerms) (ts : List Ty) (dues : List ℕ) (b : Before) (s : Setting) (sc : Scope) → MayTell s w → AllBelow n (part_binders ps) → EachInParts EntryLiterals ps
      → Vars n b s.scope sc → LinesAreBuilt core b (met_parts core.table s ts ps) → ArePaired ts dues → parts_count ps ≡ length ts → (ss : List Atom) (us : List Ty)
      → ((tc : Scope) → Vars n (next_all core.table b (met_parts core.table s ts ps)) s.scope tc → AtomsFit tc ss us) → PartsFit core w ps dues sc (λ tc. AtomsFit tc ss us)
  parts_fit core n is w NoPart [] [] b s sc may below lits v h pair count ss us on = on sc v
  parts_fit core n is w NoPart [] (u ∷ dues) b s sc may below lits v h pair count ss us on = absurd pair
  parts_fit core n is w NoPart (t ∷ ts) dues b s sc may below lits v h pair count ss us on = absurd cc
  parts_fit core n is w (PartThen u ps) [] dues b s sc may below lits v h pair count ss us on = absurd cc
  parts_fit core n is w (PartThen u ps) (Whole ∷ ts) dues b s sc may below lits v h pair count ss us on = absurd pair
  parts_fit core n is w (PartThen u ps) (Truth ∷ ts) dues b s sc may below lits v h pair count ss us on = absurd pair
  parts_fit core n is w (PartThen u ps) (Tree t ∷ ts) [] b s sc may below lits v h pair count ss us on = absurd pair
  parts_fit core n is w (PartThen u ps) (Tree t ∷ ts) (q ∷ dues) b s sc may below lits v h pair count ss us on =
      let inner = in_part s (Tree t) in
      let lines = met core.table inner u in
      let rest = met_parts core.table s ts ps in
      let parts = built_apart core b lines rest h.1 in
      let low = below_apart n (binders u) (part_binders ps) below in
      let c = next_all core.table b lines in
      let later = lines_later core b lines parts.0 in
      let more' : length ts ≡ parts_count ps = suc_same (parts_count ps) (length ts) count in (
        term_fits core n is (Inner none_of) u b inner sc (f.Empty q) (new_line w) (owes_none core w u) (tells_new core inner w refl may) (is_part inner u refl) low.0 lits.1.0 v (t, refl, ap f.Empty (sym pair.0)) parts.0,
        parts_fit core n is w ps ts dues c s (loosen (cased u) sc) may low.1 lits.1.1 (vars_later n b c s.scope sc (cased u) later (λ z i. cased_before core.table u b inner (named z) i) v) parts.1 pair.1 (sym more') ss us
            (λ tc v'. on tc (subst (λ (z : Before). Vars n z s.scope tc) (sym (next_append core.table b lines rest)) v')),
      )

  bind_fits : (core : CoreTree) (n : ℕ) → IsTable core.table → (k : Bind) (b : Before) (s : Setting) (sc : Scope) (d : Dest) (ln : Line) → Tells core s ln → (go : After) → AllBelow n (bind_binders k) → EachInBind EntryLiterals k
      → Vars n b s.scope sc → IsDest core.table b sc s.destination s.due d → LinesAreBuilt core b (met_bind core.table s k)
      → ((tc : Scope) (d' : Dest) → Vars n (next_all core.table b (met_bind core.table s k)) (behind s k).scope tc → IsDest core.table (next_all core.table b (met_bind core.table s k)) tc (behind s k).destination (behind s k).due d' → goes core go tc d' (bind_line core k ln))
      → BindFits core k sc d ln (goes core go)
  bind_fits core n is (Past q k) b s sc d ln tells go below lits v e h on =
      let r = least2 1 8 (not (is_empty s.destination && is_of_type core.table k s.due)) (is_bound b.bound q) h.0 in
      let both = and_parts (is_empty s.destination) (is_of_type core.table k s.due) (not-false (is_empty s.destination && is_of_type core.table k s.due) r.0) in
      let place = empty_place core.table b sc s.destination s.due d both.0 e in
      let con : con_at core.table place.0.0 k.0 ≡ Some k.0 = con_there core.table place.0.0 k.0 (subst (λ ty. is_of_type core.table k ty ≡ true) place.1 both.1) in
      let absent = v.new q.0 r.1 below.0 in
      let line = PastLine q k in
      let c = next core.table b line in
      let later = line_later core b s line h.0 in
      let bound : is_bound c.bound q ≡ true = or_left (q.0 == q.0) (is_bound b.bound q) (itself q.0) in (
        place.0.0,
        place.2,
        con,
        absent,
        on (put sc q.0 Held) (f.Open place.0.0 q.0 k.0 [] (packed_due (fields_at core.table k.0))) (vars_hold n c s.scope sc q.0 Held absent bound (vars_on n b c s.scope sc later v))
            (place.0, place.1, record { dest = refl; stand = tt }),
      )
  bind_fits core n is (One side) b s sc d ln tells go below lits v e h on =
      side_fits core n is ln.within side b s sc d ln tells.par go below lits v e h
      (λ tc d' dn. let there = one_left core n b s side sc (next_all core.table b (met_side core.table s side)) tc d' dn in on tc d' there.0 there.1)
  bind_fits core n is (Both false l r) b s sc d ln tells go below lits v e h on =
      let c = next core.table b ParLine in
      let ls = left_of s r in
      let rs = right_of s l in
      let lines = met_side core.table ls l in
      let parts = built_apart core c lines (met_side core.table rs r) h.1 in
      let low = below_apart n (side_binders l) (side_binders r) below in
      let m = next_all core.table c lines in
      let z = next_all core.table m (met_side core.table rs r) in
      let all : z ≡ next_all core.table c (lines ++ met_side core.table rs r) = sym (next_append core.table c lines (met_side core.table rs r)) in (
        side_apart core l r m s parts.1,
        side_fits core n is (within_par ln.within) l c ls sc d ln (left_may s r (within_par ln.within) (side_some core r m rs parts.1)) (AfterLeft (λ ln'. within_par ln.within) r go) low.0 lits.1.0 v e parts.0
            (λ tc d' dl. let start = right_start core n c s l r sc m tc d' dl in side_fits core n is (within_par ln.within) r m rs tc d' (side_line (within_par ln.within) core l ln) (right_may s l (within_par ln.within) (side_some core l c ls parts.0)) go low.1 lits.1.1 start.0 start.1 parts.1
            (λ uc d'' dr.
            let P : Before → Type 0 = λ y. Vars n y (behind s (Both false l r)).scope uc × IsDest core.table y uc (behind s (Both false l r)).destination (behind s (Both false l r)).due d'' in
            let there = subst P all (both_left core n c s false l r sc m tc d' z uc d'' dl dr) in
            on uc d'' there.0 there.1)),
      )
  bind_fits core n is (Both true l r) b s sc d ln tells go below lits v e h on =
      let c = next core.table b ParLine in
      let ls = left_of s r in
      let rs = right_of s l in
      let lines = met_side core.table ls l in
      let parts = built_apart core c lines (met_side core.table rs r) h.1 in
      let low = below_apart n (side_binders l) (side_binders r) below in
      let m = next_all core.table c lines in
      let z = next_all core.table m (met_side core.table rs r) in
      let all : z ≡ next_all core.table c (lines ++ met_side core.table rs r) = sym (next_append core.table c lines (met_side core.table rs r)) in (
        side_apart core l r m s parts.1,
        alone_fits core n is (within_par ln.within) r m s l (side_some core l c ls parts.0) sc low.1 lits.1.1 (vars_on n b m s.scope sc (later_on b c m (line_later core b s ParLine h.0) (lines_later core c lines parts.0)) v) parts.1,
        side_fits core n is (within_par ln.within) l c ls sc d ln (left_may s r (within_par ln.within) (side_some core r m rs parts.1)) (AfterLeft (λ ln'. within_par ln'.within) r go) low.0 lits.1.0 v e parts.0
            (λ tc d' dl. let start = right_start core n c s l r sc m tc d' dl in side_fits core n is (within_par (side_line (within_par ln.within) core l ln).within) r m rs tc d' (side_line (within_par ln.within) core l ln) (right_may s l (within_par (side_line (within_par ln.within) core l ln).within) (side_some core l c ls parts.0)) go low.1 lits.1.1 start.0 start.1 parts.1
            (λ uc d'' dr.
            let P : Before → Type 0 = λ y. Vars n y (behind s (Both true l r)).scope uc × IsDest core.table y uc (behind s (Both true l r)).destination (behind s (Both true l r)).due d'' in
            let there = subst P all (both_left core n c s true l r sc m tc d' z uc d'' dl dr) in
            on uc d'' there.0 there.1)),
      )
  bind_fits core n is (Prim x g y z) b s sc d ln tells go below lits v e h on =
      let facts = prim_facts core b s x g y z h.0 in
      let us = and_parts (is_usable s y) (is_usable s z && true) facts.usable in
      let uz = and_parts (is_usable s z) true us.1 in
      let tys = and_parts (has_type b y Whole) (has_type b z Whole && true) facts.typed in
      let tz = and_parts (has_type b z Whole) true tys.1 in
      let c = next core.table b (PrimLine x g y z) in
      let later = line_later core b s (PrimLine x g y z) h.0 in
      let bound : is_bound c.bound x ≡ true = or_left (x.0 == x.0) (is_bound b.bound x) (itself x.0) in
      let m = bind_sort n b c s.scope sc (λ q. false) x (f.Scalar (operator_type g)) later (λ q w. absurd cc) facts.new below.0 bound v in
      let own = scalar_own c sc x (operator_type g) (operator_scalar g) (its_type b.bound x (operator_type g)) in
      let tc = put sc x.0 (f.Scalar (operator_type g)) in (
        v.new x.0 facts.new below.0,
        atom_fits n b s sc y Whole us.0 tys.0 lits.0 v,
        atom_fits n b s sc z Whole uz.0 tz.0 lits.1 v,
        on tc d (vars_scope n c s.scope tc (reached x) (operator_type g, own) m.vars) (dest_kept core.table b c sc tc s.destination s.due d m.keep e),
      )
  bind_fits core n is (Reach y Offset) b s sc d ln tells go below lits v e h on =
      let facts = reach_facts core b s y Offset h.0 in
      let k = facts.unreached in
      let back = behind_of b sc y.0 k.reached k.behind facts.not_yet (v.knows y.0 k facts.found) in
      let fd = back.2 in
      let listed = one_of core back.0.constructor core.offsets (subst (λ w. by_access core b s w Offset ≡ true) back.1 facts.access) in
      let tc = put sc y.0 (Placed fd.ty.0) in (
        fd.ty.0,
        back.0.before.0,
        fd.tree,
        back.0.constructor.0,
        fd.place,
        fd.sort,
        listed,
        on tc d (reach_vars n b s sc y k fd.ty tc facts.found (field_reached n b s.scope sc k y fd.ty facts.found fd.typed v))
            (dest_kept core.table b b sc tc s.destination s.due d (keep_reached b sc y.0 fd.ty.0 back.0.before.0 fd.tree back.0.constructor.0 fd.place (Placed fd.ty.0) fd.sort) e),
      )
  bind_fits core n is (Reach y (Skip z)) b s sc d ln tells go below lits v e h on =
      let facts = reach_facts core b s y (Skip z) h.0 in
      let k = facts.unreached in
      let back = behind_of b sc y.0 k.reached k.behind facts.not_yet (v.knows y.0 k facts.found) in
      let fd = back.2 in
      let by = subst (λ w. by_access core b s w (Skip z) ≡ true) back.1 facts.access in
      let p = and_parts (back.0.before.0 == z.0) (is_reached (known s.scope z) && not (is_among b.cased z)) by in
      let q = and_parts (is_reached (known s.scope z)) (not (is_among b.cased z)) p.1 in
      let same = same_variable back.0.before z p.0 in
      let ztyped : type_bound b.bound z ≡ Some (Tree fd.before) = subst (λ w. type_bound b.bound w ≡ Some (Tree fd.before)) same fd.before_typed in
      let ztracked = tracked_as n b s.scope sc z (Tree fd.before) q.0 ztyped v in
      let placed = ztracked.usable.1 (not-true (is_among b.cased z) q.1) in
      let sort = subst (λ (w : Variable). sc y.0 ≡ Field fd.ty.0 w.0 fd.tree back.0.constructor.0 fd.place) same fd.sort in
      let tc = put sc y.0 (Placed fd.ty.0) in (
        fd.ty.0,
        fd.tree,
        back.0.constructor.0,
        fd.place,
        fd.before.0,
        sort,
        placed,
        on tc d (reach_vars n b s sc y k fd.ty tc facts.found (field_reached n b s.scope sc k y fd.ty facts.found fd.typed v))
            (dest_kept core.table b b sc tc s.destination s.due d (keep_reached b sc y.0 fd.ty.0 back.0.before.0 fd.tree back.0.constructor.0 fd.place (Placed fd.ty.0) fd.sort) e),
      )
  bind_fits core n is (Reach y (End z)) b s sc d ln tells go below lits v e h on =
      let facts = reach_facts core b s y (End z) h.0 in
      let k = facts.unreached in
      let back = behind_of b sc y.0 k.reached k.behind facts.not_yet (v.knows y.0 k facts.found) in
      let fd = back.2 in
      let by = subst (λ w. by_access core b s w (End z) ≡ true) back.1 facts.access in
      let p = and_parts (back.0.before.0 == z.0) (is_reached (known s.scope z) && (is_outside s.others && one_tells (ended core) s.calls z)) by in
      let q = and_parts (is_reached (known s.scope z)) (is_outside s.others && one_tells (ended core) s.calls z) p.1 in
      let w = and_parts (is_outside s.others) (one_tells (ended core) s.calls z) q.1 in
      let same = same_variable back.0.before z p.0 in
      let ztyped : type_bound b.bound z ≡ Some (Tree fd.before) = subst (λ w. type_bound b.bound w ≡ Some (Tree fd.before)) same fd.before_typed in
      let ztracked = tracked_as n b s.scope sc z (Tree fd.before) q.0 ztyped v in
      let sort = subst (λ (w : Variable). sc y.0 ≡ Field fd.ty.0 w.0 fd.tree back.0.constructor.0 fd.place) same fd.sort in
      let tc = put sc y.0 (Placed fd.ty.0) in (
        fd.ty.0,
        fd.tree,
        back.0.constructor.0,
        fd.place,
        fd.before.0,
        sort,
        ztracked.usable.0,
        on tc d (reach_vars n b s sc y k fd.ty tc facts.found (field_reached n b s.scope sc k y fd.ty facts.found fd.typed v))
            (dest_kept core.table b b sc tc s.destination s.due d (keep_reached b sc y.0 fd.ty.0 back.0.before.0 fd.tree back.0.constructor.0 fd.place (Placed fd.ty.0) fd.sort) e),
        tells.told z w.0 w.1,
      )

  side_fits : (core : CoreTree) (n : ℕ) → IsTable core.table → (w : Within) (side : Side) (b : Before) (s : Setting) (sc : Scope) (d : Dest) (ln : Line) → MayTell s w → (go : After) → AllBelow n (side_binders side) → EachInSide EntryLiterals side
      → Vars n b s.scope sc → IsDest core.table b sc s.destination s.due d → LinesAreBuilt core b (met_side core.table s side)
      → ((tc : Scope) (d' : Dest) → SideDone core n b s side sc (next_all core.table b (met_side core.table s side)) tc d' → goes core go tc d' (side_line w core side ln))
      → SideFits core w side sc d ln (goes core go)
  side_fits core n is w (On Here x ty t) b s sc d ln may go below lits v e h on =
      let r = least3 2 8 9 (not (has_room core.table s.destination)) (is_bound b.bound x) (not (same_type ty (field_due core.table s.destination))) h.0 in
      let facts = here_facts core b s sc x ty d s.destination refl (not-false (has_room core.table s.destination) r.0) (not-false (same_type ty (field_due core.table s.destination)) r.2) e in
      let line = SideLine Here x ty in
      let m = next core.table b line in
      let inner = in_side core.table s Here ty in
      let lines = met core.table inner t in
      let c = next_all core.table m lines in
      let l1 = line_later core b s line h.0 in
      let l2 = lines_later core m lines h.1 in
      let absent = v.new x.0 r.1 below.0 in
      let bound : is_bound m.bound x ≡ true = or_left (x.0 == x.0) (is_bound b.bound x) (itself x.0) in
      let typed : type_bound c.bound x ≡ Some (Tree facts.tree) = l2.bound.types x (Tree facts.tree) (its_type b.bound x ty ∙ ap Some facts.typed) in
      let z = bind_sort n b c s.scope sc (cased t) x (Placed facts.tree.0) (later_on b m c l1 l2) (λ q m'. cased_before core.table t m inner (named q) m') r.1 below.0 (typed_bound c.bound x (Tree facts.tree) typed) v in
      let tc = put (loosen (cased t) sc) x.0 (Placed facts.tree.0) in
      let own = placed_own c (loosen (cased t) sc) x facts.tree typed in (
        facts.tree.0,
        facts.typed,
        facts.is,
        absent,
        term_fits core n is (Inner (side_tells w core t)) t m inner (put sc x.0 Held) (f.Empty facts.tree.0) (new_line w) (owes_side core w t) (tells_new core inner w refl may) (is_part inner t refl) below.1 lits.1 (vars_hold n m s.scope sc x.0 Held absent bound (vars_on n b m s.scope sc l1 v)) (facts.tree, facts.due, refl) h.1,
        on tc (more d x.0) (record { vars = z.vars; keep = z.keep; own = (subst (λ u. Tracked c tc x.0 u) (sym facts.typed) own, tt); dest = facts.after c tc z.keep own }),
      )
  side_fits core n is w (On Region x ty t) b s sc d ln may go below lits v e h on =
      let r = least2 3 8 (is_scalar ty) (is_bound b.bound x) h.0 in
      let packed = packed_type ty r.0 in
      let line = SideLine Region x ty in
      let m = next core.table b line in
      let inner = in_side core.table s Region ty in
      let lines = met core.table inner t in
      let c = next_all core.table m lines in
      let l1 = line_later core b s line h.0 in
      let l2 = lines_later core m lines h.1 in
      let absent = v.new x.0 r.1 below.0 in
      let bound : is_bound m.bound x ≡ true = or_left (x.0 == x.0) (is_bound b.bound x) (itself x.0) in
      let typed : type_bound c.bound x ≡ Some (Tree packed.0) = l2.bound.types x (Tree packed.0) (its_type b.bound x ty ∙ ap Some packed.1) in
      let z = bind_sort n b c s.scope sc (cased t) x (Placed packed.0.0) (later_on b m c l1 l2) (λ q m'. cased_before core.table t m inner (named q) m') r.1 below.0 (typed_bound c.bound x (Tree packed.0) typed) v in
      let tc = put (loosen (cased t) sc) x.0 (Placed packed.0.0) in
      let own = placed_own c (loosen (cased t) sc) x packed.0 typed in (
        packed.0.0,
        packed.1,
        absent,
        term_fits core n is (Inner (side_tells w core t)) t m inner (put sc x.0 Held) (f.Empty packed.0.0) (new_line w) (owes_side core w t) (tells_new core inner w refl may) (is_part inner t refl) below.1 lits.1 (vars_hold n m s.scope sc x.0 Held absent bound (vars_on n b m s.scope sc l1 v)) (packed.0, packed.1, refl) h.1,
        on tc d (record { vars = z.vars; keep = z.keep; own = (subst (λ u. Tracked c tc x.0 u) (sym packed.1) own, tt); dest = dest_kept core.table b c sc tc s.destination s.due d z.keep e }),
      )
  side_fits core n is w (On Scalar x ty (CallTerm g xs)) b s sc d ln may go below lits v e h on =
      let line = SideLine Scalar x ty in
      let l1 = line_later core b s line h.0 in
      let m = next core.table b line in
      scalar_side core n w x ty (CallTerm g xs) b s sc d ln go below v e h on (scalar_call_fits core n m (in_side core.table s Scalar ty) sc g xs refl h.1 lits.1 (vars_on n b m s.scope sc l1 v))
  side_fits core n is w (On Scalar x ty (Then k t)) b s sc d ln may go below lits v e h on =
      scalar_side core n w x ty (Then k t) b s sc d ln go below v e h on (term_fits core n is (Inner (side_tells w core (Then k t))) (Then k t) (next core.table b (SideLine Scalar x ty)) (in_side core.table s Scalar ty) sc (f.Nowhere ty) (new_line w) (owes_side core w (Then k t)) (tells_new core (in_side core.table s Scalar ty) w refl may) tt below.1 lits.1 (scalar_vars core n b s sc x ty (Then k t) h v) (scalar_due core b s x ty (Then k t) h, refl) h.1)
  side_fits core n is w (On Scalar x ty (Write q k ss ps)) b s sc d ln may go below lits v e h on =
      scalar_side core n w x ty (Write q k ss ps) b s sc d ln go below v e h on (term_fits core n is (Inner (side_tells w core (Write q k ss ps))) (Write q k ss ps) (next core.table b (SideLine Scalar x ty)) (in_side core.table s Scalar ty) sc (f.Nowhere ty) (new_line w) (owes_side core w (Write q k ss ps)) (tells_new core (in_side core.table s Scalar ty) w refl may) tt below.1 lits.1 (scalar_vars core n b s sc x ty (Write q k ss ps) h v) (scalar_due core b s x ty (Write q k ss ps) h, refl) h.1)
  side_fits core n is w (On Scalar x ty (Point y)) b s sc d ln may go below lits v e h on =
      scalar_side core n w x ty (Point y) b s sc d ln go below v e h on (term_fits core n is (Inner (side_tells w core (Point y))) (Point y) (next core.table b (SideLine Scalar x ty)) (in_side core.table s Scalar ty) sc (f.Nowhere ty) (new_line w) (owes_side core w (Point y)) (tells_new core (in_side core.table s Scalar ty) w refl may) tt below.1 lits.1 (scalar_vars core n b s sc x ty (Point y) h v) (scalar_due core b s x ty (Point y) h, refl) h.1)
  side_fits core n is w (On Scalar x ty (Give y)) b s sc d ln may go below lits v e h on =
      scalar_side core n w x ty (Give y) b s sc d ln go below v e h on (term_fits core n is (Inner (side_tells w core (Give y))) (Give y) (next core.table b (SideLine Scalar x ty)) (in_side core.table s Scalar ty) sc (f.Nowhere ty) (new_line w) (owes_side core w (Give y)) (tells_new core (in_side core.table s Scalar ty) w refl may) tt below.1 lits.1 (scalar_vars core n b s sc x ty (Give y) h v) (scalar_due core b s x ty (Give y) h, refl) h.1)
  side_fits core n is w (On Scalar x ty (CaseTerm y bs)) b s sc d ln may go below lits v e h on =
      scalar_side core n w x ty (CaseTerm y bs) b s sc d ln go below v e h on (term_fits core n is (Inner (side_tells w core (CaseTerm y bs))) (CaseTerm y bs) (next core.table b (SideLine Scalar x ty)) (in_side core.table s Scalar ty) sc (f.Nowhere ty) (new_line w) (owes_side core w (CaseTerm y bs)) (tells_new core (in_side core.table s Scalar ty) w refl may) tt below.1 lits.1 (scalar_vars core n b s sc x ty (CaseTerm y bs) h v) (scalar_due core b s x ty (CaseTerm y bs) h, refl) h.1)
  side_fits core n is w (On Scalar x ty (IfTerm y t u)) b s sc d ln may go below lits v e h on =
      scalar_side core n w x ty (IfTerm y t u) b s sc d ln go below v e h on (term_fits core n is (Inner (side_tells w core (IfTerm y t u))) (IfTerm y t u) (next core.table b (SideLine Scalar x ty)) (in_side core.table s Scalar ty) sc (f.Nowhere ty) (new_line w) (owes_side core w (IfTerm y t u)) (tells_new core (in_side core.table s Scalar ty) w refl may) tt below.1 lits.1 (scalar_vars core n b s sc x ty (IfTerm y t u) h v) (scalar_due core b s x ty (IfTerm y t u) h, refl) h.1)
  side_fits core n is w (On Scalar x ty (Tuple tys ss ps)) b s sc d ln may go below lits v e h on =
      scalar_side core n w x ty (Tuple tys ss ps) b s sc d ln go below v e h on (term_fits core n is (Inner (side_tells w core (Tuple tys ss ps))) (Tuple tys ss ps) (next core.table b (SideLine Scalar x ty)) (in_side core.table s Scalar ty) sc (f.Nowhere ty) (new_line w) (owes_side core w (Tuple tys ss ps)) (tells_new core (in_side core.table s Scalar ty) w refl may) tt below.1 lits.1 (scalar_vars core n b s sc x ty (Tuple tys ss ps) h v) (scalar_due core b s x ty (Tuple tys ss ps) h, refl) h.1)
  side_fits core n is w (Several xs tys t) b s sc d ln may go below lits v e h on =
      let low = below_apart n (map (λ (x : Variable). x.0) xs) (binders t) below in
      let start = several_start core n b s s sc xs tys low.0 v h.0 in
      let m = next core.table b (SeveralLine xs tys) in
      let inner = in_several s tys in
      let lines = met core.table inner t in
      let c = next_all core.table m lines in
      let l2 = lines_later core m lines h.1 in
      let later = later_on b m c (line_later core b s (SeveralLine xs tys) h.0) l2 in
      let cases : (q : ℕ) → cased t q ≡ true → is_among c.cased (named q) ≡ true = λ q i. cased_before core.table t m inner (named q) i in
      let base = vars_later n b c s.scope sc (cased t) later cases v in
      let absent = new_same tys xs sc (loosen (cased t) sc) (λ z i. ap (f.loosen_one (cased t z)) i ∙ absent_loose (cased t z)) start.new in
      let done' = bound_vars n c s.scope tys xs (loosen (cased t) sc) absent (have_on xs tys m.bound c.bound l2.bound start.types) base in
      let tc = bound_scope tys xs (loosen (cased t) sc) in
      let keep : Keeps b sc c tc = λ y ty k. done'.keep y ty (tracked_later b c sc (cased t) y ty later cases k) in (
        start.few,
        start.new,
        term_fits core n is (Inner none_of) t m inner (hold_all xs sc) (f.InParts tys) (new_line w) (owes_none core w t) (tells_new core inner w refl may) (is_part inner t refl) low.1 lits.1 start.held refl h.1,
        on tc d (record { vars = done'.vars; keep = keep; own = done'.own; dest = dest_kept core.table b c sc tc s.destination s.due d keep e }),
      )

  -- The right side of a par by itself, in the scope before the par: what the left side bound stands before it, and its
  -- variable is not in scope.
  alone_fits : (core : CoreTree) (n : ℕ) → IsTable core.table → (w : Within) (r : Side) (b : Before) (s : Setting) (l : Side) → BindsSome l → (sc : Scope) → AllBelow n (side_binders r) → EachInSide EntryLiterals r
      → Vars n b s.scope sc → LinesAreBuilt core b (met_side core.table (right_of s l) r) → AloneFits core w r sc
  alone_fits core n is w (On Here x ty t) b s l some sc below lits v h =
      let d = stands_behind l s.destination in
      let rs = right_of s l in
      let r = least3 2 8 9 (not (has_room core.table d)) (is_bound b.bound x) (not (same_type ty (field_due core.table d))) h.0 in
      let typed = same_type_is ty (field_due core.table d) (not-false (same_type ty (field_due core.table d)) r.2) in
      let due = due_there core d (not-false (has_room core.table d) r.0) in
      let m = next core.table b (SideLine Here x ty) in
      let absent = v.new x.0 r.1 below.0 in
      let bound : is_bound m.bound x ≡ true = or_left (x.0 == x.0) (is_bound b.bound x) (itself x.0) in
      let inner = in_side core.table rs Here ty in (
        due.0.0,
        typed ∙ due.1,
        absent,
        term_fits core n is (Inner none_of) t m inner (put sc x.0 Held) (f.Empty due.0.0) (new_line w) (owes_none core w t) (tells_new core inner w refl (right_may s l w some)) (is_part inner t refl) below.1 lits.1 (vars_hold n m s.scope sc x.0 Held absent bound (vars_on n b m s.scope sc (line_later core b rs (SideLine Here x ty) h.0) v)) (due.0, due.1, refl) h.1,
      )
  alone_fits core n is w (On Region x ty t) b s l some sc below lits v h =
      let rs = right_of s l in
      let r = least2 3 8 (is_scalar ty) (is_bound b.bound x) h.0 in
      let packed = packed_type ty r.0 in
      let m = next core.table b (SideLine Region x ty) in
      let absent = v.new x.0 r.1 below.0 in
      let bound : is_bound m.bound x ≡ true = or_left (x.0 == x.0) (is_bound b.bound x) (itself x.0) in
      let inner = in_side core.table rs Region ty in (
        packed.0.0,
        packed.1,
        absent,
        term_fits core n is (Inner (side_tells w core t)) t m inner (put sc x.0 Held) (f.Empty packed.0.0) (new_line w) (owes_side core w t) (tells_new core inner w refl (right_may s l w some)) (is_part inner t refl) below.1 lits.1 (vars_hold n m s.scope sc x.0 Held absent bound (vars_on n b m s.scope sc (line_later core b rs (SideLine Region x ty) h.0) v)) (packed.0, packed.1, refl) h.1,
      )
  alone_fits core n is w (On Scalar x ty (CallTerm g xs)) b s l some sc below lits v h =
      let rs = right_of s l in
      let m = next core.table b (SideLine Scalar x ty) in
      alone_scalar core n w x ty (CallTerm g xs) b rs sc below v h (scalar_call_fits core n m (in_side core.table rs Scalar ty) sc g xs refl h.1 lits.1 (vars_on n b m s.scope sc (line_later core b rs (SideLine Scalar x ty) h.0) v))
  alone_fits core n is w (On Scalar x ty (Then k t)) b s l some sc below lits v h =
      let rs = right_of s l in
      alone_scalar core n w x ty (Then k t) b rs sc below v h (term_fits core n is (Inner (side_tells w core (Then k t))) (Then k t) (next core.table b (SideLine Scalar x ty)) (in_side core.table rs Scalar ty) sc (f.Nowhere ty) (new_line w) (owes_side core w (Then k t)) (tells_new core (in_side core.table rs Scalar ty) w refl (right_may s l w some)) tt below.1 lits.1 (scalar_vars core n b rs sc x ty (Then k t) h v) (scalar_due core b rs x ty (Then k t) h, refl) h.1)
  alone_fits core n is w (On Scalar x ty (Write q k ss ps)) b s l some sc below lits v h =
      let rs = right_of s l in
      alone_scalar core n w x ty (Write q k ss ps) b rs sc below v h (term_fits core n is (Inner (side_tells w core (Write q k ss ps))) (Write q k ss ps) (next core.table b (SideLine Scalar x ty)) (in_side core.table rs Scalar ty) sc (f.Nowhere ty) (new_line w) (owes_side core w (Write q k ss ps)) (tells_new core (in_side core.table rs Scalar ty) w refl (right_may s l w some)) tt below.1 lits.1 (scalar_vars core n b rs sc x ty (Write q k ss ps) h v) (scalar_due core b rs x ty (Write q k ss ps) h, refl) h.1)
  alone_fits core n is w (On Scalar x ty (Point y)) b s l some sc below lits v h =
      let rs = right_of s l in
      alone_scalar core n w x ty (Point y) b rs sc below v h (term_fits core n is (Inner (side_tells w core (Point y))) (Point y) (next core.table b (SideLine Scalar x ty)) (in_side core.table rs Scalar ty) sc (f.Nowhere ty) (new_line w) (owes_side core w (Point y)) (tells_new core (in_side core.table rs Scalar ty) w refl (right_may s l w some)) tt below.1 lits.1 (scalar_vars core n b rs sc x ty (Point y) h v) (scalar_due core b rs x ty (Point y) h, refl) h.1)
  alone_fits core n is w (On Scalar x ty (Give y)) b s l some sc below lits v h =
      let rs = right_of s l in
      alone_scalar core n w x ty (Give y) b rs sc below v h (term_fits core n is (Inner (side_tells w core (Give y))) (Give y) (next core.table b (SideLine Scalar x ty)) (in_side core.table rs Scalar ty) sc (f.Nowhere ty) (new_line w) (owes_side core w (Give y)) (tells_new core (in_side core.table rs Scalar ty) w refl (right_may s l w some)) tt below.1 lits.1 (scalar_vars core n b rs sc x ty (Give y) h v) (scalar_due core b rs x ty (Give y) h, refl) h.1)
  alone_fits core n is w (On Scalar x ty (CaseTerm y bs)) b s l some sc below lits v h =
      let rs = right_of s l in
      alone_scalar core n w x ty (CaseTerm y bs) b rs sc below v h (term_fits core n is (Inner (side_tells w core (CaseTerm y bs))) (CaseTerm y bs) (next core.table b (SideLine Scalar x ty)) (in_side core.table rs Scalar ty) sc (f.Nowhere ty) (new_line w) (owes_side core w (CaseTerm y bs)) (tells_new core (in_side core.table rs Scalar ty) w refl (right_may s l w some)) tt below.1 lits.1 (scalar_vars core n b rs sc x ty (CaseTerm y bs) h v) (scalar_due core b rs x ty (CaseTerm y bs) h, refl) h.1)
  alone_fits core n is w (On Scalar x ty (IfTerm y t u)) b s l some sc below lits v h =
      let rs = right_of s l in
      alone_scalar core n w x ty (IfTerm y t u) b rs sc below v h (term_fits core n is (Inner (side_tells w core (IfTerm y t u))) (IfTerm y t u) (next core.table b (SideLine Scalar x ty)) (in_side core.table rs Scalar ty) sc (f.Nowhere ty) (new_line w) (owes_side core w (IfTerm y t u)) (tells_new core (in_side core.table rs Scalar ty) w refl (right_may s l w some)) tt below.1 lits.1 (scalar_vars core n b rs sc x ty (IfTerm y t u) h v) (scalar_due core b rs x ty (IfTerm y t u) h, refl) h.1)
  alone_fits core n is w (On Scalar x ty (Tuple tys ss ps)) b s l some sc below lits v h =
      let rs = right_of s l in
      alone_scalar core n w x ty (Tuple tys ss ps) b rs sc below v h (term_fits core n is (Inner (side_tells w core (Tuple tys ss ps))) (Tuple tys ss ps) (next core.table b (SideLine Scalar x ty)) (in_side core.table rs Scalar ty) sc (f.Nowhere ty) (new_line w) (owes_side core w (Tuple tys ss ps)) (tells_new core (in_side core.table rs Scalar ty) w refl (right_may s l w some)) tt below.1 lits.1 (scalar_vars core n b rs sc x ty (Tuple tys ss ps) h v) (scalar_due core b rs x ty (Tuple tys ss ps) h, refl) h.1)
  alone_fits core n is w (Several xs tys t) b s l some sc below lits v h =
      let low = below_apart n (map (λ (x : Variable). x.0) xs) (binders t) below in
      let rs = right_of s l in
      let start = several_start core n b s rs sc xs tys low.0 v h.0 in
      let inner = in_several rs tys in (
        start.few,
        start.new,
        term_fits core n is (Inner none_of) t (next core.table b (SeveralLine xs tys)) inner (hold_all xs sc) (f.InParts tys) (new_line w) (owes_none core w t) (tells_new core inner w refl (right_may s l w some)) (is_part inner t refl) low.1 lits.1 start.held refl h.1,
      )

  branches_fit : (core : CoreTree) (n : ℕ) → IsTable core.table → (ns : Needs) (whole bs : Branches) (x : Variable) (ln : Line) → Owes core ns (CaseTerm (a.Variable x) whole) ln
      → ((q : ℕ) → all_known core.table (ended core) whole (named q) ≡ true → all_known core.table (ended core) bs (named q) ≡ true) → (lasts_known core.table (ended core) whole ≡ true → lasts_known core.table (ended core) bs ≡ true)
      → (b : Before) (s : Setting) (sc : Scope) (d : Dest) → Tells core s ln → AllBelow n (branch_binders bs) → EachInBranches EntryLiterals bs
      → Vars n b s.scope sc → IsDest core.table b sc s.destination s.due d → ArmsHaveTypes core.table (arms_of bs) b.bound → ArmsAreNew core.table sc (arms_of bs) → LinesAreBuilt core b (met_branches core.table s bs)
      → BranchesFit core ns bs x.0 sc d ln
  branches_fit core n is ns whole NoBranch x ln owes all lasts b s sc d tells below lits v e types new h = tt
  branches_fit core n is ns whole (BranchThen k ys t bs) x ln owes all lasts b s sc d tells below lits v e types new h =
      let inner = in_arm core.table s k ys in
      let lines = met core.table inner t in
      let parts = built_apart core b lines (met_branches core.table s bs) h in
      let low = below_apart n (map (λ (y : Variable). y.0) ys) (binders t ++ branch_binders bs) below in
      let lower = below_apart n (binders t) (branch_binders bs) low.1 in
      let arm = enter n b s.scope sc x.0 1 k None (fields_at core.table k.0) ys new.0 types.0 tt v in
      let tc = arm_scope x.0 k.0 1 None (fields_at core.table k.0) ys sc in
      let c = next_all core.table b lines in
      let last = if_some (last_packed None (fields_at core.table k.0) ys) (λ z. is_known core.table (ended core) t z) in
      let here : (q : ℕ) → all_known core.table (ended core) whole (named q) ≡ true → (is_known core.table (ended core) t (named q) ≡ true) × (all_known core.table (ended core) bs (named q) ≡ true) =
      λ q i. and_parts (is_known core.table (ended core) t (named q)) (all_known core.table (ended core) bs (named q)) (all q i) in
      let there : lasts_known core.table (ended core) whole ≡ true → (last ≡ true) × (lasts_known core.table (ended core) bs ≡ true) = λ i. and_parts last (lasts_known core.table (ended core) bs) (lasts i) in
      let later = lines_later core b lines parts.0 in (
        new.0,
        term_fits core n is ns t b inner tc d (arm_line core x.0 k ys t ln) (owes_arm core ns x whole k ys t ln (λ q i. (here q i).0) (λ i. (there i).0) owes) (tells_inner core s inner ln (arm_line core x.0 k ys t ln) refl refl refl tells)
            (is_part inner t refl) lower.0 lits.1.0 arm.vars (dest_kept core.table b b sc tc s.destination s.due d arm.keep e) parts.0,
        branches_fit core n is ns whole bs x ln owes (λ q i. (here q i).1) (λ i. (there i).1) c s sc d tells lower.1 lits.1.1 (vars_on n b c s.scope sc later v) (dest_kept core.table b c sc sc s.destination s.due d (keep_later b c sc later) e)
            (arms_have_on core.table (arms_of bs) b.bound c.bound later.bound types.1) new.1 parts.1,
      )
