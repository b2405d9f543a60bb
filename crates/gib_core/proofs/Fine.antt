-- A machine can run the code of a core of which each body fits.
use Rattle.std.proofs.Common.{◌≡◌, ℕ, suc, ◌+◌, ◌<◌, ◌≤◌, ◌^◌, Bool, true, false, if◌then◌else◌, nat_lt, List, [], ◌∷◌, ◌++◌, map, length, slice_get, Option, Some, None, refl, sym, ap, subst, ◌∙◌, arith}
use Rattle.std.proofs.lemmas.Bool.Decides.{nat_tests}
use Rattle.std.proofs.lemmas.List.{length-append}
use Rattle.std.proofs.lemmas.Option.{slice_get_within, same_Some}
use Rattle.std.specs.List.{AllByRecursion}
use Rattle.gib_base.specs.declared.name.Name.{Name}
use Rattle.gib_types.specs.declared.table.Ty.{Ty}
use Rattle.gib_types.specs.declared.table.Ty.TheVariants.{Whole, Truth, Tree}
use Rattle.gib_types.specs.Layout.{LaidOut, layout_at}
use Rattle.gib_types.specs.Table.{Row, Table, IsTable, scalar_types, fields_at, fields_of, con_at, if_owned}
use Rattle.gib_code.specs.declared.instruction.Arm.{Arm}
use Rattle.gib_code.specs.declared.instruction.Entry.{Entry}
use Rattle.gib_code.specs.declared.instruction.Operand.{Operand}
use Rattle.gib_code.specs.Instruction.{Instruction, Return, Give, GiveParts, Jump, Got, IsFine}
use Rattle.gib_code.specs.Program.{CodeTree, IsAt, AreAt, none, one_more, Runs}
use Rattle.gib_core.specs.declared.atom.Atom.{Atom}
use Rattle.gib_core.specs.declared.atom.Access.{Access}
use Rattle.gib_core.specs.declared.atom.Access.TheVariants as by
use Rattle.gib_core.specs.declared.atom.Kind.TheVariants as kind
use Rattle.gib_core.specs.declared.atom.Variable.{Variable}
use Rattle.gib_core.specs.Fits.{Scope, Dest, Nowhere, Empty, Open, InParts, AtHead, Line, Needs, Inner, none_of, new_line, side_tells, hold_all, loosen, cased, AtomsFit, Fits, PartsFit, BindFits, SideFits, BranchesFit, CallFits, OwnFits, MainFits, AllFit, EachFits, more, packed_due, dest_of, by_call, put}
use Rattle.gib_core.specs.Ending.{Ended, Within, within_par, ended, has_ended}
use Rattle.gib_core.specs.declared.atom.Atom.TheVariants as a
use Rattle.gib_core.specs.Low as low
use Rattle.gib_core.specs.Low.{Low, LowParts, LowArms, LowBind, LowSide, LowFunctions, LeafAt, IsLowered, IsNoCall, End, Returns, To, ToParts, Over, Field, laid_of, slots_of, arm_opening, scalar_reads, first_reach, over_all, got_from, gots, giving, ending, moves, giving_parts, takes_parts, call_ending, begin_all, done_all, packed_slots, operands, reaching}
use Rattle.gib_core.specs.Numbering.{binders}
use Rattle.gib_syntax.specs.Results as results
use Rattle.gib_syntax.specs.Results.{Results}
use Rattle.gib_core.specs.Tree as t
use Rattle.gib_core.specs.Tree.{Term, CoreTree, Side, FunctionTerm, var}

-- The instructions from a label up to another one are fine.
record Fine (code : CodeTree) (a z : ℕ) : Type 0 where
  pub fine : (q : ℕ) (j : Instruction) → a ≤ q → q < z → IsAt code q j → IsFine j

fine_none : {code : CodeTree} {a : ℕ} → Fine code a a
fine_none = record { fine = λ q j x y e. absurd (omega (arith, x, y)) }

fine_join : {code : CodeTree} {a m z : ℕ} → Fine code a m → Fine code m z → Fine code a z
fine_join {code} {a} {m} {z} f g = record { fine = λ q j x y e. go q j x y e (nat_lt q m) refl }
  where
    go : (q : ℕ) (j : Instruction) → a ≤ q → q < z → IsAt code q j → (b : Bool) → nat_lt q m ≡ b → IsFine j
    go q j x y e true r = f.fine q j x (grind (arith, nat_tests)) e
    go q j x y e false r = g.fine q j (grind (arith, nat_tests)) y e

fine_one : {code : CodeTree} {a : ℕ} {j : Instruction} → IsAt code a j → IsFine j → Fine code a (a + 1)
fine_one {code} {a} {j} at f = record {
  fine = λ q l x y e.
      let r : q ≡ a = omega (arith, x, y) in
      subst IsFine (same_Some _ _ (sym at ∙ ap (λ (n : ℕ). slice_get code.instructions n) (sym r) ∙ e)) f;
}

abbrev AreFine : List Instruction → Type 0
AreFine [] = Unit {0}
AreFine (j ∷ js) = IsFine j × AreFine js

fine_list : {code : CodeTree} {a z : ℕ} {js : List Instruction} → AreAt code a js z → AreFine js → Fine code a z
fine_list none f = fine_none
fine_list (one_more at more) f = fine_join (fine_one at f.0) (fine_list more f.1)

fine_append : (js ls : List Instruction) → AreFine js → AreFine ls → AreFine (js ++ ls)
fine_append [] ls f g = g
fine_append (j ∷ js) ls f g = (f.0, fine_append js ls f.1 g)

fine_overs : (os : List Over) → AreFine (over_all os)
fine_overs [] = tt
fine_overs (o ∷ os) = (tt, fine_overs os)

fine_ending : (e : End) → AreFine (ending e)
fine_ending (Returns os) = fine_append (over_all os) (Return ∷ []) (fine_overs os) (tt, tt)
fine_ending (To l d) = (tt, tt)
fine_ending (ToParts l ds) = (tt, tt)

fine_giving : (s : Operand) (e : End) → AreFine (giving s e)
fine_giving s (Returns os) = fine_append (over_all os) (Give s ∷ []) (fine_overs os) (tt, tt)
fine_giving s (To l d) = (tt, (tt, tt))
fine_giving s (ToParts l ds) = (tt, tt)

fine_moves : (ds : List ℕ) (ss : List Operand) → AreFine (moves ds ss)
fine_moves [] ss = tt
fine_moves (d ∷ ds) [] = tt
fine_moves (d ∷ ds) (s ∷ ss) = (tt, fine_moves ds ss)

fine_parts : (ss : List Operand) (e : End) → AreFine (giving_parts ss e)
fine_parts ss (Returns os) = fine_append (over_all os) (GiveParts ss ∷ []) (fine_overs os) (tt, tt)
fine_parts ss (To l d) = (tt, tt)
fine_parts ss (ToParts l ds) = fine_append (moves ds ss) (Jump l ∷ []) (fine_moves ds ss) (tt, tt)

fine_takes : (i : ℕ) (ds : List ℕ) → AreFine (takes_parts i ds)
fine_takes i [] = tt
fine_takes i (d ∷ ds) = (tt, fine_takes (suc i) ds)

fine_calls : (e : End) → AreFine (call_ending e)
fine_calls (Returns os) = fine_append (over_all os) (Return ∷ []) (fine_overs os) (tt, tt)
fine_calls (To l d) = (tt, tt)
fine_calls (ToParts l ds) = fine_append (takes_parts 0 ds) (Jump l ∷ []) (fine_takes 0 ds) (tt, tt)

fine_begins : (xs : List ℕ) → AreFine (begin_all xs)
fine_begins [] = tt
fine_begins (x ∷ xs) = (tt, fine_begins xs)

fine_dones : (xs : List ℕ) → AreFine (done_all xs)
fine_dones [] = tt
fine_dones (x ∷ xs) = (tt, fine_dones xs)

fine_got : (es : List Ended) (f k : ℕ) (xs : List Atom) → AreFine (got_from es f k xs)
fine_got es f k [] = tt
fine_got es f k (a.Variable z ∷ xs) = go (has_ended es f k) (fine_got es f (suc k) xs)
  where
    go : (b : Bool) → AreFine (got_from es f (suc k) xs) → AreFine (if b then Got z.0 k ∷ got_from es f (suc k) xs else got_from es f (suc k) xs)
    go true h = (tt, h)
    go false h = h
fine_got es f k (a.Whole z ∷ xs) = fine_got es f (suc k) xs
fine_got es f k (a.Truth b ∷ xs) = fine_got es f (suc k) xs

fine_gots : (w : Within) (core : CoreTree) (f : ℕ) (xs : List Atom) → AreFine (gots w core f xs)
fine_gots w core f xs = go w.par
  where
    go : (b : Bool) → AreFine (if b then [] else got_from (ended core) f 0 xs)
    go true = tt
    go false = fine_got (ended core) f 0 xs

fine_leaf : {code : CodeTree} {must : Bool} {x size many m n : ℕ} → LeafAt code must x size many m n → Fine code m n
fine_leaf (low.no_leaf f) = fine_none
fine_leaf (low.leaf m n at) = fine_one at tt

fine_reads : (x p : ℕ) (ts : List Ty) (ys : List Variable) → AreFine (scalar_reads x p ts ys)
fine_reads x p [] ys = tt
fine_reads x p (u ∷ ts) [] = tt
fine_reads x p (Whole ∷ ts) (y ∷ ys) = (tt, fine_reads x (p + 8) ts ys)
fine_reads x p (Truth ∷ ts) (y ∷ ys) = (tt, fine_reads x (p + 1) ts ys)
fine_reads x p (Tree u ∷ ts) (y ∷ ys) = fine_reads x p ts ys

fine_first : (x n : ℕ) (ts : List Ty) (ys : List Variable) → AreFine (first_reach x n ts ys)
fine_first x n [] ys = tt
fine_first x n (u ∷ ts) [] = tt
fine_first x n (Whole ∷ ts) (y ∷ ys) = fine_first x n ts ys
fine_first x n (Truth ∷ ts) (y ∷ ys) = fine_first x n ts ys
fine_first x n (Tree u ∷ ts) (y ∷ ys) = (tt, tt)

fine_opening : (laid : LaidOut) (x k : ℕ) (ys : List Variable) → AreFine (arm_opening laid x k ys)
fine_opening laid x k ys =
    fine_append (scalar_reads x (1 + (layout_at laid.table laid.with_offsets k).offsets) (fields_at laid.table k) ys) (first_reach x (layout_at laid.table laid.with_offsets k).head (fields_at laid.table k) ys)
    (fine_reads x (1 + (layout_at laid.table laid.with_offsets k).offsets) (fields_at laid.table k) ys) (fine_first x (layout_at laid.table laid.with_offsets k).head (fields_at laid.table k) ys)

fine_reaching : (fs : List Field) (y : Variable) (access : Access) → IsFine (reaching fs y access)
fine_reaching fs y by.Offset = tt
fine_reaching fs y (by.Skip z) = tt
fine_reaching fs y (by.End z) = tt

-- An open head has as many fields as its constructor.
abbrev IsOpen : Dest → Type 0
IsOpen (Nowhere ty) = Unit {0}
IsOpen (Empty s) = Unit {0}
IsOpen (Open s h k xs dues) = (k < 256) × (length xs + length dues ≤ 8)
IsOpen (InParts tys) = Unit {0}

one_further : (d : Dest) (x : ℕ) → IsOpen d → IsOpen (more d x)
one_further (Nowhere ty) x o = tt
one_further (Empty s) x o = tt
one_further (InParts tys) x o = tt
one_further (Open s h k xs []) x o = o
one_further (Open s h k xs (u ∷ dues)) x o = (o.0, let e = length-append xs (x ∷ []) in let l = o.1 in omega (arith, e, l))

result_open : (r : Results Ty) → IsOpen (dest_of r)
result_open (results.One Whole) = tt
result_open (results.One Truth) = tt
result_open (results.One (Tree s)) = tt
result_open (results.Several tys) = tt

few_due : (ts : List Ty) → length (packed_due ts) ≤ length ts
few_due [] = omega arith
few_due (Whole ∷ ts) = let h = few_due ts in omega (arith, h)
few_due (Truth ∷ ts) = let h = few_due ts in omega (arith, h)
few_due (Tree u ∷ ts) = let h = few_due ts in omega (arith, h)

pub few_fields : (table : Table) → IsTable table → (k : ℕ) → length (fields_at table k) ≤ 8
few_fields table t k = go (slice_get table.rows k) refl
  where
    go : (o : Option Row) → slice_get table.rows k ≡ o → length (fields_of o) ≤ 8
    go None e = omega arith
    go (Some row) e = (t.rows k row e).few

con_within : (table : Table) (s k : ℕ) → con_at table s k ≡ Some k → k < length table.rows
con_within table s k e = go (slice_get table.rows k) refl e
  where
    go : (o : Option Row) → slice_get table.rows k ≡ o → if_owned s k o ≡ Some k → k < length table.rows
    go None p q = absurd cc
    go (Some row) p q = slice_get_within table.rows k row p

slots_length : (xs : List ℕ) → length (slots_of (map var xs)) ≡ length xs
slots_length [] = refl
slots_length (x ∷ xs) = ap suc (slots_length xs)

-- Where a line goes on behind a binding.
abbrev GoesOn : (Scope → Dest → Line → Type 0) → Type 0
GoesOn P = (sc : Scope) × (d : Dest) × (ln : Line) × IsOpen d × P sc d ln

abbrev pub anywhere : Scope → Dest → Line → Type 0
anywhere sc d ln = Unit {0}

pub side_alone : (core : CoreTree) (w : Within) (s : Side) (sc : Scope) (d : Dest) (ln : Line) (P : Scope → Dest → Line → Type 0) → SideFits core w s sc d ln P → SideFits core w s sc d ln anywhere
side_alone core w (t.On kind.Here x ty u) sc d ln P f = (f.0, f.1, f.2, f.3, f.4, tt)
side_alone core w (t.On kind.Region x ty u) sc d ln P f = (f.0, f.1, f.2, f.3, tt)
side_alone core w (t.On kind.Scalar x ty u) sc d ln P f = (f.0, f.1, f.2, tt)
side_alone core w (t.Several xs tys u) sc d ln P f = (f.0, f.1, f.2, tt)

side_goes : (core : CoreTree) (w : Within) (s : Side) (sc : Scope) (d : Dest) (ln : Line) (P : Scope → Dest → Line → Type 0) → IsOpen d → SideFits core w s sc d ln P → GoesOn P
side_goes core w (t.On kind.Here x ty u) sc d ln P o f = (_, _, _, one_further d x.0 o, f.5)
side_goes core w (t.On kind.Region x ty u) sc d ln P o f = (_, d, _, o, f.4)
side_goes core w (t.On kind.Scalar x ty u) sc d ln P o f = (_, d, _, o, f.3)
side_goes core w (t.Several xs tys u) sc d ln P o f = (_, d, _, o, f.3)

side_both : (core : CoreTree) (w : Within) (v : Line → Within) (l r : Side) (sc : Scope) (d : Dest) (ln : Line) (P : Scope → Dest → Line → Type 0) → SideFits core w l sc d ln (λ sc' d' ln'. SideFits core (v ln') r sc' d' ln' P)
    → SideFits core w l sc d ln (λ sc' d' ln'. SideFits core (v ln') r sc' d' ln' anywhere)
side_both core w v (t.On kind.Here x ty u) r sc d ln P f = (f.0, f.1, f.2, f.3, f.4, side_alone core _ r _ _ _ P f.5)
side_both core w v (t.On kind.Region x ty u) r sc d ln P f = (f.0, f.1, f.2, f.3, side_alone core _ r _ _ _ P f.4)
side_both core w v (t.On kind.Scalar x ty u) r sc d ln P f = (f.0, f.1, f.2, side_alone core _ r _ _ _ P f.3)
side_both core w v (t.Several xs tys u) r sc d ln P f = (f.0, f.1, f.2, side_alone core _ r _ _ _ P f.3)

pub bind_alone : (core : CoreTree) (b : t.Bind) (sc : Scope) (d : Dest) (ln : Line) (P : Scope → Dest → Line → Type 0) → BindFits core b sc d ln P → BindFits core b sc d ln anywhere
bind_alone core (t.Past h k) sc d ln P f = (f.0, f.1, f.2, f.3, tt)
bind_alone core (t.One s) sc d ln P f = side_alone core ln.within s sc d ln P f
bind_alone core (t.Both false l r) sc d ln P f = (f.0, side_both core (within_par ln.within) (λ ln'. within_par ln.within) l r sc d ln P f.1)
bind_alone core (t.Both true l r) sc d ln P f = (f.0, f.1, side_both core (within_par ln.within) (λ ln'. within_par ln'.within) l r sc d ln P f.2)
bind_alone core (t.Prim x g y z) sc d ln P f = (f.0, f.1, f.2, tt)
bind_alone core (t.Reach y by.Offset) sc d ln P f = (f.0, f.1, f.2, f.3, f.4, f.5, f.6, tt)
bind_alone core (t.Reach y (by.Skip z)) sc d ln P f = (f.0, f.1, f.2, f.3, f.4, f.5, f.6, tt)
bind_alone core (t.Reach y (by.End z)) sc d ln P f = (f.0, f.1, f.2, f.3, f.4, f.5, f.6, tt, f.8)

bind_goes : (core : CoreTree) (is : IsTable core.table) (b : t.Bind) (sc : Scope) (d : Dest) (ln : Line) (P : Scope → Dest → Line → Type 0) → IsOpen d → BindFits core b sc d ln P → GoesOn P
bind_goes core is (t.Past h c) sc d ln P o f =
    let w = con_within core.table f.0 c.0 f.2 in
    let n = is.few in
    let l = few_due (fields_at core.table c.0) in
    let m = few_fields core.table is c.0 in
    (_, _, _, (omega (arith, w, n), omega (arith, l, m)), f.4)
bind_goes core is (t.One s) sc d ln P o f = side_goes core ln.within s sc d ln P o f
bind_goes core is (t.Both false l r) sc d ln P o f =
    let w = within_par ln.within in
    let x = side_goes core w l sc d ln (λ sc' d' ln'. SideFits core w r sc' d' ln' P) o f.1 in
    side_goes core w r x.0 x.1 x.2 P x.3 x.4
bind_goes core is (t.Both true l r) sc d ln P o f =
    let x = side_goes core (within_par ln.within) l sc d ln (λ sc' d' ln'. SideFits core (within_par ln'.within) r sc' d' ln' P) o f.2 in
    side_goes core (within_par x.2.within) r x.0 x.1 x.2 P x.3 x.4
bind_goes core is (t.Prim x g y z) sc d ln P o f = (_, d, _, o, f.3)
bind_goes core is (t.Reach y by.Offset) sc d ln P o f = (_, d, _, o, f.7)
bind_goes core is (t.Reach y (by.Skip z)) sc d ln P o f = (_, d, _, o, f.7)
bind_goes core is (t.Reach y (by.End z)) sc d ln P o f = (_, d, _, o, f.7)

pub no_call : (A : Type 0) (B : Name → List Atom → Type 0) (u : Term) → IsNoCall u → by_call u A B → A
no_call A B (t.Then b u) n h = h
no_call A B (t.Write x k ss ps) n h = h
no_call A B (t.Point x) n h = h
no_call A B (t.CallTerm f xs) n h = absurd n
no_call A B (t.Give x) n h = h
no_call A B (t.CaseTerm x bs) n h = h
no_call A B (t.IfTerm x u v) n h = h
no_call A B (t.Tuple tys ss ps) n h = h

module _ (core : CoreTree) (code : CodeTree) (is : IsTable core.table) where
  mutual
    term_fine : {w : Within} {fs : List Field} {a z : ℕ} {u : Term} {e : End} → Low core code w fs a u e z → (ns : Needs) (sc : Scope) (d : Dest) (ln : Line) → IsOpen d → Fits core ns u sc d ln → Fine code a z
    term_fine (low.write {ps = ps} {e = e} ar) ns sc d ln o f =
        let p = subst IsOpen f.2 o in
        let l = slots_length f.1 in
        let m = ap (λ (q : List Atom). length (slots_of q)) f.3 in
        let n = p.1 in
        fine_list ar ((p.0, omega (arith, l, m, n)), fine_ending e)
    term_fine (low.point {e = e} ar) ns sc d ln o f = fine_list ar (tt, fine_ending e)
    term_fine (low.call {w = w} {f = g} {xs = xs} {e = e} ar) ns sc d ln o f = fine_list ar (tt, fine_append (gots w core g.0 xs) (call_ending e) (fine_gots w core g.0 xs) (fine_calls e))
    term_fine (low.give ar) ns sc d ln o f = fine_list ar (fine_giving _ _)
    term_fine (low.branch at lu lv) ns sc d ln o f = fine_join (fine_one at tt) (fine_join (term_fine lu ns sc d ln o f.1) (term_fine lv ns sc d ln o f.2))
    term_fine (low.case at la) ns sc d ln o f = fine_join (fine_one at tt) (arms_fine la ns f.1.variable.0 (put sc f.1.variable.0 (AtHead f.0)) d ln o f.3)
    term_fine (low.binding {b = b} {u = u} lb lu) ns sc d ln o f =
        let r = bind_goes core is b sc d ln (λ sc' d' ln'. Fits core ns u sc' d' ln') o f in
        fine_join (bind_fine lb sc d ln o (bind_alone core b sc d ln (λ sc' d' ln'. Fits core ns u sc' d' ln') f)) (term_fine lu ns r.0 r.1 r.2 r.3 r.4)
    term_fine (low.tuple {tys = tys} {ss = ss} {e = e} lp ar) ns sc d ln o f =
        fine_join (parts_fine lp ln.within (packed_due tys) sc ss (scalar_types tys) f.1) (fine_list ar (fine_parts (operands ss) e))

    parts_fine : {w : Within} {fs : List Field} {a i k z : ℕ} {ps : t.PartTerms} → LowParts core code w fs a i k ps z → (v : Within) (dues : List ℕ) (sc : Scope) (ss : List Atom) (us : List Ty) → PartsFit core v ps dues sc (λ tc. AtomsFit tc ss us) → Fine code a z
    parts_fine low.no_part v dues sc ss us f = fine_none
    parts_fine (low.part at lt out rest) v [] sc ss us f = absurd f
    parts_fine (low.part {u = u} at lt out rest) v (s ∷ dues) sc ss us f =
        fine_join (fine_one at tt) (fine_join (term_fine lt (Inner none_of) sc (Empty s) (new_line v) tt f.0) (fine_join (fine_one out tt) (parts_fine rest v dues (loosen (cased u) sc) ss us f.1)))

    arms_fine : {w : Within} {fs : List Field} {x a z : ℕ} {arms : List Arm} {bs : t.Branches} {e : End} → LowArms core code w fs x a arms bs e z → (ns : Needs) (y : ℕ) (sc : Scope) (d : Dest) (ln : Line) → IsOpen d → BranchesFit core ns bs y sc d ln → Fine code a z
    arms_fine low.no_arm ns y sc d ln o f = fine_none
    arms_fine (low.arm {x = x} {c = c} {ys = ys} op lf lo rest) ns y sc d ln o f =
        fine_join (fine_list op (fine_opening (laid_of core) x c.0 ys)) (fine_join (fine_leaf lf) (fine_join (term_fine lo ns _ d _ o f.1) (arms_fine rest ns y sc d ln o f.2)))

    bind_fine : {w : Within} {fs : List Field} {a m : ℕ} {b : t.Bind} → LowBind core code w fs a b m → (sc : Scope) (d : Dest) (ln : Line) → IsOpen d → BindFits core b sc d ln anywhere → Fine code a m
    bind_fine (low.past at) sc d ln o f = fine_one at tt
    bind_fine (low.one ls) sc d ln o f = side_fine ls ln.within sc d ln o f
    bind_fine (low.in_turn {l = l} {r = r} ll lr) sc d ln o f =
        let v = within_par ln.within in
        let x = side_goes core v l sc d ln (λ sc' d' ln'. SideFits core v r sc' d' ln' anywhere) o f.1 in
        fine_join (side_fine ll v sc d ln o (side_alone core v l sc d ln (λ sc' d' ln'. SideFits core v r sc' d' ln' anywhere) f.1)) (side_fine lr v x.0 x.1 x.2 x.3 x.4)
    bind_fine (low.forked {l = l} {r = r} at ll ej lr eb) sc d ln o f =
        let x = side_goes core (within_par ln.within) l sc d ln (λ sc' d' ln'. SideFits core (within_par ln'.within) r sc' d' ln' anywhere) o f.2 in
        fine_join (fine_one at tt) (fine_join (side_fine ll (within_par ln.within) sc d ln o (side_alone core (within_par ln.within) l sc d ln (λ sc' d' ln'. SideFits core (within_par ln'.within) r sc' d' ln' anywhere) f.2))
        (fine_join (fine_one ej tt) (fine_join (side_fine lr (within_par x.2.within) x.0 x.1 x.2 x.3 x.4) (fine_one eb tt))))
    bind_fine (low.prim at) sc d ln o f = fine_one at tt
    bind_fine (low.reach {fs = fs} {y = y} {access = access} at) sc d ln o f = fine_one at (fine_reaching fs y access)

    side_fine : {w : Within} {fs : List Field} {a m : ℕ} {s : Side} → LowSide core code w fs a s m → (v : Within) (sc : Scope) (d : Dest) (ln : Line) → IsOpen d → SideFits core v s sc d ln anywhere → Fine code a m
    side_fine (low.here at lt) v sc d ln o f = fine_join (fine_one at tt) (term_fine lt _ _ (Empty f.0) _ tt f.4)
    side_fine (low.region at lt dn) v sc d ln o f = fine_join (fine_one at tt) (fine_join (term_fine lt _ _ (Empty f.0) _ tt f.3) (fine_one dn tt))
    side_fine (low.scalar_call {w = w} {f = g} {xs = xs} at) v sc d ln o f = fine_list at (tt, fine_gots w core g.0 xs)
    side_fine (low.scalar {ty = ty} {u = u} nc lt) v sc d ln o f =
        term_fine lt (Inner (side_tells v core u)) sc (Nowhere ty) (new_line v) tt (no_call (Fits core (Inner (side_tells v core u)) u sc (Nowhere ty) (new_line v)) (λ g xs. CallFits core sc g xs (results.One ty)) u nc f.2)
    side_fine (low.several {xs = xs} {tys = tys} {u = u} bg lt dn) v sc d ln o f =
        fine_join (fine_list bg (fine_begins (packed_slots tys xs))) (fine_join (term_fine lt (Inner none_of) (hold_all xs sc) (InParts tys) (new_line v) tt f.2) (fine_list dn (fine_dones (packed_slots tys xs))))

  functions_fine : (a : ℕ) (gs : List FunctionTerm) (es : List Entry) → LowFunctions core code a gs es → AllByRecursion (λ (g : FunctionTerm). OwnFits core g (length g.parameters + length (binders g.body))) gs
      → MainFits core (1 + length (binders core.main.body)) → Fine code a (length code.instructions)
  functions_fine a _ _ (low.main nm rs st sl lo) f m = term_fine lo _ _ _ _ (result_open (results.One core.main.result)) m.fits
  functions_fine a _ _ (low.function {z = z} {g = g} {gs = gs} {es = es} nm rs st sl lo later) f m = fine_join (term_fine lo _ _ _ _ (result_open g.result) f.0.fits) (functions_fine z gs es later f.1 m)

pub code_runs : (core : CoreTree) (code : CodeTree) → IsLowered core code → AllFit core → EachFits core → length code.instructions < 2 ^ 32 → Runs code
code_runs core code lo fits each few = record {
  few = few;
  fine = λ a j e. (functions_fine core code fits.table 0 core.functions code.functions lo.functions each fits.main).fine a j (omega arith) (slice_get_within code.instructions a j e) e;
}
