-- The code that is made of a core is its code.
use Rattle.std.proofs.Common.{◌≡◌, ℕ, zero, suc, ◌+◌, ◌==◌, Bool, true, false, cond, List, [], ◌∷◌, ◌++◌, length, map, refl, sym, ap, ◌∙◌, subst, arith}
use Rattle.std.proofs.lemmas.List.{length-map, append_assoc}
use Rattle.gib_types.specs.declared.table.Ty.{Ty}
use Rattle.gib_types.specs.declared.table.Ty.TheVariants as ty
use Rattle.gib_types.specs.Table.{fields_at}
use Rattle.gib_types.specs.declared.table.ConId.{ConId}
use Rattle.gib_types.specs.Layout.{layout_at, head_size, packed_count}
use Rattle.gib_code.specs.declared.instruction.Operand.{Operand}
use Rattle.gib_code.specs.declared.instruction.Arm.{Arm}
use Rattle.gib_code.specs.Instruction as i
use Rattle.gib_code.specs.Instruction.{Instruction}
use Rattle.gib_code.specs.Program.{CodeTree, IsAt, AreAt}
use Rattle.gib_core.specs.declared.atom.Variable.{Variable}
use Rattle.gib_core.specs.declared.atom.Access.{Access}
use Rattle.gib_core.specs.declared.atom.Access.TheVariants as access
use Rattle.gib_core.specs.declared.atom.Access.TheVariants.{Offset, Skip}
use Rattle.gib_core.specs.declared.atom.Atom.{Atom}
use Rattle.gib_core.specs.declared.atom.Ended.{Ended}
use Rattle.gib_core.specs.declared.atom.Atom.TheVariants as atom
use Rattle.gib_core.specs.Ending.{Within, within_par, within_function, within_main, has_ended}
use Rattle.gib_core.specs.Ending.{ended as ended_of}
use Rattle.gib_core.specs.declared.atom.Kind.TheVariants.{Here, Region, Scalar}
use Rattle.gib_core.specs.Tree.{Term, Then, Write, Point, CallTerm, Give, CaseTerm, IfTerm, Tuple, PartTerms, NoPart, PartThen, parts_count, Bind, Past, One, Both, Prim, Reach, Side, On, Several, Branches, NoBranch, BranchThen, FunctionTerm, CoreTree}
use Rattle.gib_core.specs.Low as low
use Rattle.gib_core.specs.Low.{laid_of, operand, operands, slot_of, slots_of, function_number, Field, with_fields, scalar_reads, first_reach, arm_opening, Over, over_all, End, Returns, To, ToParts, ending, call_ending, giving, moves, giving_parts, takes_parts, packed_slots, scalar_slots, begin_all, done_all, side_kind, side_slots, side_type, got_from, gots, arm_end, LeafAt, reaching, IsNoCall, Low, LowParts, LowArms, LowBind, LowSide, LowFunctions, IsLowered}
use Rattle.gib_lower.specs.Lowering.{leaf_end, leaf_of, lowered, lowered_parts, lowered_bind, lowered_side, lowered_branches, lowered_functions, label_in, arm_in, numbered, begun, entry_in, lower_program}
use Rattle.gib_lower.proofs.Standing.{Stands, at_first, behind, next, counted, label_at, IsNumbered, is_at, are_at}

-- An end, with its label as the number of an instruction.
abbrev pub end_in : ℕ → End → End
end_in n (Returns os) = Returns os
end_in n (To l d) = To (label_in n l) d
end_in n (ToParts l ds) = ToParts (label_in n l) ds

-- Instructions without labels stay.

map_over : (n : ℕ) (xs ys : List Instruction) → map (numbered n) (xs ++ ys) ≡ map (numbered n) xs ++ map (numbered n) ys
map_over n [] ys = refl
map_over n (x ∷ xs) ys = ap (λ l. numbered n x ∷ l) (map_over n xs ys)

together : (n : ℕ) (xs ys new : List Instruction) → map (numbered n) xs ≡ xs → map (numbered n) ys ≡ new → map (numbered n) (xs ++ ys) ≡ xs ++ new
together n xs ys new e f = map_over n xs ys ∙ ap (λ l. l ++ map (numbered n) ys) e ∙ ap (λ l. xs ++ l) f

overs_stay : (n : ℕ) (os : List Over) → map (numbered n) (over_all os) ≡ over_all os
overs_stay n [] = refl
overs_stay n (o ∷ os) = ap (λ l. i.OverEnd o.tree o.field ∷ l) (overs_stay n os)

ending_stays : (n : ℕ) (e : End) → map (numbered n) (ending e) ≡ ending (end_in n e)
ending_stays n (Returns os) = together n (over_all os) (i.Return ∷ []) (i.Return ∷ []) (overs_stay n os) refl
ending_stays n (To l d) = refl
ending_stays n (ToParts l ds) = refl

giving_stays : (n : ℕ) (v : Operand) (e : End) → map (numbered n) (giving v e) ≡ giving v (end_in n e)
giving_stays n v (Returns os) = together n (over_all os) (i.Give v ∷ []) (i.Give v ∷ []) (overs_stay n os) refl
giving_stays n v (To l d) = refl
giving_stays n v (ToParts l ds) = refl

-- What moves several parts stays.

moves_stay : (n : ℕ) (ds : List ℕ) (ss : List Operand) → map (numbered n) (moves ds ss) ≡ moves ds ss
moves_stay n [] ss = refl
moves_stay n (d ∷ ds) [] = refl
moves_stay n (d ∷ ds) (s ∷ ss) = ap (λ l. i.Move d s ∷ l) (moves_stay n ds ss)

takes_stay : (n k : ℕ) (ds : List ℕ) → map (numbered n) (takes_parts k ds) ≡ takes_parts k ds
takes_stay n k [] = refl
takes_stay n k (d ∷ ds) = ap (λ l. i.Part d k ∷ l) (takes_stay n (suc k) ds)

begins_stay : (n : ℕ) (xs : List ℕ) → map (numbered n) (begin_all xs) ≡ begin_all xs
begins_stay n [] = refl
begins_stay n (x ∷ xs) = ap (λ l. i.Begin x ∷ l) (begins_stay n xs)

dones_stay : (n : ℕ) (xs : List ℕ) → map (numbered n) (done_all xs) ≡ done_all xs
dones_stay n [] = refl
dones_stay n (x ∷ xs) = ap (λ l. i.Done ∷ l) (dones_stay n xs)

giving_parts_stays : (n : ℕ) (ss : List Operand) (e : End) → map (numbered n) (giving_parts ss e) ≡ giving_parts ss (end_in n e)
giving_parts_stays n ss (Returns os) = together n (over_all os) (i.GiveParts ss ∷ []) (i.GiveParts ss ∷ []) (overs_stay n os) refl
giving_parts_stays n ss (To l d) = refl
giving_parts_stays n ss (ToParts l ds) = together n (moves ds ss) (i.Jump l ∷ []) (i.Jump (label_in n l) ∷ []) (moves_stay n ds ss) refl

call_ending_stays : (n : ℕ) (e : End) → map (numbered n) (call_ending e) ≡ call_ending (end_in n e)
call_ending_stays n (Returns os) = ending_stays n (Returns os)
call_ending_stays n (To l d) = refl
call_ending_stays n (ToParts l ds) = together n (takes_parts 0 ds) (i.Jump l ∷ []) (i.Jump (label_in n l) ∷ []) (takes_stay n 0 ds) refl

-- What is told behind a call stays.
one_stays : (b : Bool) (n z k : ℕ) (l : List Instruction) → map (numbered n) l ≡ l → map (numbered n) (cond b (i.Got z k ∷ l) l) ≡ cond b (i.Got z k ∷ l) l
one_stays true n z k l e = ap (λ q. i.Got z k ∷ q) e
one_stays false n z k l e = e

from_stays : (n : ℕ) (es : List Ended) (f k : ℕ) (xs : List Atom) → map (numbered n) (got_from es f k xs) ≡ got_from es f k xs
from_stays n es f k [] = refl
from_stays n es f k (atom.Variable z ∷ xs) = one_stays (has_ended es f k) n z.0 k (got_from es f (suc k) xs) (from_stays n es f (suc k) xs)
from_stays n es f k (atom.Whole z ∷ xs) = from_stays n es f (suc k) xs
from_stays n es f k (atom.Truth b ∷ xs) = from_stays n es f (suc k) xs

in_par : (b : Bool) (n : ℕ) (l : List Instruction) → map (numbered n) l ≡ l → map (numbered n) (cond b [] l) ≡ cond b [] l
in_par true n l e = refl
in_par false n l e = e

gots_stay : (n : ℕ) (w : Within) (core : CoreTree) (f : ℕ) (xs : List Atom) → map (numbered n) (gots w core f xs) ≡ gots w core f xs
gots_stay n w core f xs = in_par w.par n (got_from (ended_of core) f 0 xs) (from_stays n (ended_of core) f 0 xs)

-- The end of an arm has no label of its own.
arm_end_in : (n : ℕ) (w : Within) (core : CoreTree) (x : ℕ) (c : ConId) (ys : List Variable) (u : Term) (e : End) → end_in n (arm_end w core x c ys u e) ≡ arm_end w core x c ys u (end_in n e)
arm_end_in n w core x c ys u (Returns os) = refl
arm_end_in n w core x c ys u (To l d) = refl
arm_end_in n w core x c ys u (ToParts l ds) = refl

-- An arm without packed fields.
leaf_at : (code : CodeTree) (whole rest : List Instruction) (must : Bool) (x size many l : ℕ) → IsNumbered code whole → Stands whole l (leaf_end must x size many ++ rest) → LeafAt code must x size many l (l + length (leaf_end must x size many))
leaf_at code whole rest false x size many l num s = let e : l ≡ l + 0 = omega arith in subst (λ z. LeafAt code false x size many l z) e (low.no_leaf (λ m z. absurd cc))
leaf_at code whole rest true x size zero l num s = low.leaf refl refl (is_at code whole rest l (i.LeafEnd x size) num s)
leaf_at code whole rest true x size (suc many) l num s =
    let h : suc many ≡ 0 → ⊥ = λ z. absurd (omega (arith, z)) in
    let t : suc many == 0 ≡ false = grind (arith, h) in
    let e : l ≡ l + 0 = omega arith in
    subst (λ b. LeafAt code true x size (suc many) l (l + length (cond b (i.LeafEnd x size ∷ []) []))) (sym t) (subst (λ z. LeafAt code true x size (suc many) l z) e (low.no_leaf (λ m z. h z)))

reaching_stays : (n : ℕ) (fs : List Field) (y : Variable) (by : Access) → numbered n (reaching fs y by) ≡ reaching fs y by
reaching_stays n fs y Offset = refl
reaching_stays n fs y (Skip z) = refl
reaching_stays n fs y (access.End z) = refl

reads_stay : (n x p : ℕ) (ts : List Ty) (ys : List Variable) (rest new : List Instruction) → map (numbered n) rest ≡ new → map (numbered n) (scalar_reads x p ts ys ++ rest) ≡ scalar_reads x p ts ys ++ new
reads_stay n x p [] ys rest new e = e
reads_stay n x p (ty.Whole ∷ ts) [] rest new e = e
reads_stay n x p (ty.Truth ∷ ts) [] rest new e = e
reads_stay n x p (ty.Tree t ∷ ts) [] rest new e = e
reads_stay n x p (ty.Whole ∷ ts) (y ∷ ys) rest new e = ap (λ l. i.Whole y.0 x p ∷ l) (reads_stay n x (p + 8) ts ys rest new e)
reads_stay n x p (ty.Truth ∷ ts) (y ∷ ys) rest new e = ap (λ l. i.Truth y.0 x p ∷ l) (reads_stay n x (p + 1) ts ys rest new e)
reads_stay n x p (ty.Tree t ∷ ts) (y ∷ ys) rest new e = reads_stay n x p ts ys rest new e

first_stays : (n x size : ℕ) (ts : List Ty) (ys : List Variable) → map (numbered n) (first_reach x size ts ys) ≡ first_reach x size ts ys
first_stays n x size [] ys = refl
first_stays n x size (ty.Whole ∷ ts) [] = refl
first_stays n x size (ty.Truth ∷ ts) [] = refl
first_stays n x size (ty.Tree t ∷ ts) [] = refl
first_stays n x size (ty.Whole ∷ ts) (y ∷ ys) = first_stays n x size ts ys
first_stays n x size (ty.Truth ∷ ts) (y ∷ ys) = first_stays n x size ts ys
first_stays n x size (ty.Tree t ∷ ts) (y ∷ ys) = refl

opening_stays : (core : CoreTree) (n x k : ℕ) (ys : List Variable) → map (numbered n) (arm_opening (laid_of core) x k ys) ≡ arm_opening (laid_of core) x k ys
opening_stays core n x k ys =
    let laid = layout_at (laid_of core).table (laid_of core).with_offsets k in
    let first = first_reach x laid.head (fields_at core.table k) ys in
    reads_stay n x (1 + laid.offsets) (fields_at core.table k) ys first first (first_stays n x laid.head (fields_at core.table k) ys)

-- What was found of code that stands somewhere: its relation, up to where the rest stands.

pub record Lowers (core : CoreTree) (code : CodeTree) (whole : List Instruction) (w : Within) (fs : List Field) (a : ℕ) (t : Term) (e : End) (rest : List Instruction) : Type 0 where
  pub up_to : ℕ
  pub is : Low core code w fs a t (end_in (length whole) e) up_to
  pub after : Stands whole up_to rest

pub record LowersBind (core : CoreTree) (code : CodeTree) (whole : List Instruction) (w : Within) (fs : List Field) (a : ℕ) (b : Bind) (rest : List Instruction) : Type 0 where
  pub up_to : ℕ
  pub is : LowBind core code w fs a b up_to
  pub after : Stands whole up_to rest

pub record LowersSide (core : CoreTree) (code : CodeTree) (whole : List Instruction) (w : Within) (fs : List Field) (a : ℕ) (s : Side) (rest : List Instruction) : Type 0 where
  pub up_to : ℕ
  pub is : LowSide core code w fs a s up_to
  pub after : Stands whole up_to rest

pub record LowersArms (core : CoreTree) (code : CodeTree) (whole : List Instruction) (w : Within) (fs : List Field) (x a : ℕ) (arms : List Arm) (bs : Branches) (e : End) (rest : List Instruction) : Type 0 where
  pub up_to : ℕ
  pub is : LowArms core code w fs x a (map (arm_in (length whole)) arms) bs (end_in (length whole) e) up_to
  pub after : Stands whole up_to rest

pub record LowersParts (core : CoreTree) (code : CodeTree) (whole : List Instruction) (w : Within) (fs : List Field) (a k count : ℕ) (ps : PartTerms) (rest : List Instruction) : Type 0 where
  pub up_to : ℕ
  pub is : LowParts core code w fs a k count ps up_to
  pub after : Stands whole up_to rest

-- An instruction without a label, and an end.
with_end : (code : CodeTree) (whole rest : List Instruction) (a : ℕ) (x : Instruction) (e : End) → IsNumbered code whole
    → Stands whole a (x ∷ (ending e ++ rest)) → numbered (length whole) x ≡ x → AreAt code a (x ∷ ending (end_in (length whole) e)) (a + length (x ∷ ending e))
with_end code whole rest a x e num s same =
    let f = ending_stays (length whole) e in
    subst (λ l. AreAt code a l (a + length (x ∷ ending e))) (λ j. same j ∷ f j) (are_at code whole (x ∷ ending e) rest a num s)

-- The right side of a `scalar` that is no call.
scalar_side : (core : CoreTree) (code : CodeTree) (whole : List Instruction) (w : Within) (fs : List Field) (a : ℕ) (x : Variable) (ty : Ty) (t : Term) (rest : List Instruction) → IsNoCall t
    → Lowers core code whole w fs a t (To (length rest) x.0) rest → LowersSide core code whole w fs a (On Scalar x ty t) rest
scalar_side core code whole w fs a x ty t rest single h =
    record { up_to = h.up_to; is = low.scalar single (subst (λ l. Low core code w fs a t (To l x.0) h.up_to) (label_at whole rest h.up_to h.after) h.is); after = h.after }

-- A fork, where both sides are known.
fork_bind : (core : CoreTree) (code : CodeTree) (whole : List Instruction) (w : Within) (fs : List Field) (a : ℕ) (l r : Side) (rest : List Instruction) → IsNumbered code whole
    → Stands whole a (lowered_bind core w fs (Both true l r) rest)
    → (hl : LowersSide core code whole (within_par w) fs (a + 1) l (i.Join ∷ lowered_side core (within_par w) fs r (i.Back ∷ rest)))
    → LowersSide core code whole (within_par w) fs (hl.up_to + 1) r (i.Back ∷ rest)
    → LowersBind core code whole w fs a (Both true l r) rest
fork_bind core code whole w fs a l r rest num s hl hr =
    let n = length whole in
    let right = lowered_side core (within_par w) fs r (i.Back ∷ rest) in
    let left = lowered_side core (within_par w) fs l (i.Join ∷ right) in
    let at = is_at code whole left a (i.Fork (length right) (length rest) (side_kind r) (side_slots r) (side_type r)) num s in
    let after = next whole rest hr.up_to i.Back hr.after in
    let r_at = label_at whole right (hl.up_to + 1) (next whole right hl.up_to i.Join hl.after) in
    let j_at = label_at whole rest (hr.up_to + 1) after in
    let at_r = subst (λ m. IsAt code a (i.Fork m (label_in n (length rest)) (side_kind r) (side_slots r) (side_type r))) r_at at in
    record {
      up_to = hr.up_to + 1;
      is = low.forked (subst (λ m. IsAt code a (i.Fork (hl.up_to + 1) m (side_kind r) (side_slots r) (side_type r))) j_at at_r) hl.is (is_at code whole right hl.up_to i.Join num hl.after) hr.is (is_at code whole rest hr.up_to i.Back num hr.after);
      after = after;
    }

-- The left side begins behind the fork.
fork_left : (core : CoreTree) (whole : List Instruction) (w : Within) (fs : List Field) (a : ℕ) (l r : Side) (rest : List Instruction) → Stands whole a (lowered_bind core w fs (Both true l r) rest)
    → Stands whole (a + 1) (lowered_side core (within_par w) fs l (i.Join ∷ lowered_side core (within_par w) fs r (i.Back ∷ rest)))
fork_left core whole w fs a l r rest s =
    let right = lowered_side core (within_par w) fs r (i.Back ∷ rest) in
    next whole (lowered_side core (within_par w) fs l (i.Join ∷ right)) a (i.Fork (length right) (length rest) (side_kind r) (side_slots r) (side_type r)) s

mutual
  pub low_term : (core : CoreTree) (code : CodeTree) (whole : List Instruction) → IsNumbered code whole → (t : Term) (w : Within) (fs : List Field) (a : ℕ) (e : End) (rest : List Instruction)
      → Stands whole a (lowered core w fs t e rest) → Lowers core code whole w fs a t e rest
  low_term core code whole num (Then b t) w fs a e rest s =
      let hb = low_bind core code whole num b w fs a (lowered core w fs t e rest) s in
      let ht = low_term core code whole num t w fs hb.up_to e rest hb.after in
      record { up_to = ht.up_to; is = low.binding hb.is ht.is; after = ht.after }
  low_term core code whole num (Write h k ss ps) w fs a e rest s =
      let x = i.Fill h.0 k.0 (operands ss) (slots_of ps) in
      record { up_to = a + length (x ∷ ending e); is = low.write (with_end code whole rest a x e num s refl); after = behind whole (x ∷ ending e) rest a s }
  low_term core code whole num (Point y) w fs a e rest s =
      let x = i.Point (slot_of y) in
      record { up_to = a + length (x ∷ ending e); is = low.point (with_end code whole rest a x e num s refl); after = behind whole (x ∷ ending e) rest a s }
  low_term core code whole num (CallTerm g xs) w fs a e rest s =
      let x = i.Call (function_number core.functions g.0) (operands xs) in
      let told = gots w core g.0 xs in
      let all = x ∷ (told ++ call_ending e) in
      let at_all = subst (λ l. Stands whole a (x ∷ l)) (sym (append_assoc told (call_ending e) rest)) s in
      let same = ap (λ l. x ∷ l) (together (length whole) told (call_ending e) (call_ending (end_in (length whole) e)) (gots_stay (length whole) w core g.0 xs) (call_ending_stays (length whole) e)) in
      record {
        up_to = a + length all;
        is = low.call (subst (λ l. AreAt code a l (a + length all)) same (are_at code whole all rest a num at_all));
        after = behind whole all rest a at_all;
      }
  low_term core code whole num (Give y) w fs a e rest s =
      let xs = giving (operand y) e in
      let h = are_at code whole xs rest a num s in
      record {
        up_to = a + length xs;
        is = low.give (subst (λ l. AreAt code a l (a + length xs)) (giving_stays (length whole) (operand y) e) h);
        after = behind whole xs rest a s;
      }
  low_term core code whole num (CaseTerm y bs) w fs a e rest s =
      let arms = lowered_branches core w fs (slot_of y) bs e rest in
      let x = i.Switch (slot_of y) arms.arms in
      let h = low_arms core code whole num bs w fs (slot_of y) (a + 1) e rest (next whole arms.code a x s) in
      record { up_to = h.up_to; is = low.case (is_at code whole arms.code a x num s) h.is; after = h.after }
  low_term core code whole num (IfTerm y t u) w fs a e rest s =
      let other = lowered core w fs u e rest in
      let x = i.Unless (operand y) (length other) in
      let ht = low_term core code whole num t w fs (a + 1) e other (next whole (lowered core w fs t e other) a x s) in
      let hu = low_term core code whole num u w fs ht.up_to e rest ht.after in
      let at = is_at code whole (lowered core w fs t e other) a x num s in
      record {
        up_to = hu.up_to;
        is = low.branch (subst (λ l. IsAt code a (i.Unless (operand y) l)) (label_at whole other ht.up_to ht.after) at) ht.is hu.is;
        after = hu.after;
      }
  low_term core code whole num (Tuple tys ss ps) w fs a e rest s =
      let xs = giving_parts (operands ss) e in
      let hp = low_parts core code whole num ps w fs a 0 (parts_count ps) (xs ++ rest) s in
      let h = are_at code whole xs rest hp.up_to num hp.after in
      record {
        up_to = hp.up_to + length xs;
        is = low.tuple hp.is (subst (λ l. AreAt code hp.up_to l (hp.up_to + length xs)) (giving_parts_stays (length whole) (operands ss) e) h);
        after = behind whole xs rest hp.up_to hp.after;
      }

  low_parts : (core : CoreTree) (code : CodeTree) (whole : List Instruction) → IsNumbered code whole → (ps : PartTerms) (w : Within) (fs : List Field) (a k count : ℕ) (rest : List Instruction)
      → Stands whole a (lowered_parts core w fs k count ps rest) → LowersParts core code whole w fs a k count ps rest
  low_parts core code whole num NoPart w fs a k count rest s = record { up_to = a; is = low.no_part; after = s }
  low_parts core code whole num (PartThen t ps) w fs a k count rest s =
      let others = lowered_parts core w fs (suc k) count ps rest in
      let finish = i.Out k count ∷ others in
      let body = lowered core w fs t (To (length finish) 0) finish in
      let ht = low_term core code whole num t w fs (a + 1) (To (length finish) 0) finish (next whole body a (i.Into k count) s) in
      let hs = low_parts core code whole num ps w fs (ht.up_to + 1) (suc k) count rest (next whole others ht.up_to (i.Out k count) ht.after) in
      let term = subst (λ l. Low core code w fs (a + 1) t (To l 0) ht.up_to) (label_at whole finish ht.up_to ht.after) ht.is in
      record {
        up_to = hs.up_to;
        is = low.part (is_at code whole body a (i.Into k count) num s) term (is_at code whole others ht.up_to (i.Out k count) num ht.after) hs.is;
        after = hs.after;
      }

  low_bind : (core : CoreTree) (code : CodeTree) (whole : List Instruction) → IsNumbered code whole → (b : Bind) (w : Within) (fs : List Field) (a : ℕ) (rest : List Instruction)
      → Stands whole a (lowered_bind core w fs b rest) → LowersBind core code whole w fs a b rest
  low_bind core code whole num (Past h k) w fs a rest s =
      let x = i.Past h.0 k.0 in
      record { up_to = a + 1; is = low.past (is_at code whole rest a x num s); after = next whole rest a x s }
  low_bind core code whole num (One side) w fs a rest s =
      let h = low_side core code whole num side w fs a rest s in
      record { up_to = h.up_to; is = low.one h.is; after = h.after }
  low_bind core code whole num (Both false l r) w fs a rest s =
      let hl = low_side core code whole num l (within_par w) fs a (lowered_side core (within_par w) fs r rest) s in
      let hr = low_side core code whole num r (within_par w) fs hl.up_to rest hl.after in
      record { up_to = hr.up_to; is = low.in_turn hl.is hr.is; after = hr.after }
  low_bind core code whole num (Both true l r) w fs a rest s =
      let right = lowered_side core (within_par w) fs r (i.Back ∷ rest) in
      let hl = low_side core code whole num l (within_par w) fs (a + 1) (i.Join ∷ right) (fork_left core whole w fs a l r rest s) in
      let hr = low_side core code whole num r (within_par w) fs (hl.up_to + 1) (i.Back ∷ rest) (next whole right hl.up_to i.Join hl.after) in
      fork_bind core code whole w fs a l r rest num s hl hr
  low_bind core code whole num (Prim y g v z) w fs a rest s =
      let x = i.Operate y.0 g (operand v) (operand z) in
      record { up_to = a + 1; is = low.prim (is_at code whole rest a x num s); after = next whole rest a x s }
  low_bind core code whole num (Reach y by) w fs a rest s =
      let x = reaching fs y by in
      record {
        up_to = a + 1;
        is = low.reach (subst (λ z. IsAt code a z) (reaching_stays (length whole) fs y by) (is_at code whole rest a x num s));
        after = next whole rest a x s;
      }

  low_side : (core : CoreTree) (code : CodeTree) (whole : List Instruction) → IsNumbered code whole → (side : Side) (w : Within) (fs : List Field) (a : ℕ) (rest : List Instruction)
      → Stands whole a (lowered_side core w fs side rest) → LowersSide core code whole w fs a side rest
  low_side core code whole num (On Here x ty t) w fs a rest s =
      let e = To (length rest) 0 in
      let body = lowered core w fs t e rest in
      let h = low_term core code whole num t w fs (a + 1) e rest (next whole body a (i.Here x.0) s) in
      record {
        up_to = h.up_to;
        is = low.here (is_at code whole body a (i.Here x.0) num s) (subst (λ l. Low core code w fs (a + 1) t (To l 0) h.up_to) (label_at whole rest h.up_to h.after) h.is);
        after = h.after;
      }
  low_side core code whole num (On Region x ty t) w fs a rest s =
      let finish = i.Done ∷ rest in
      let e = To (length finish) 0 in
      let body = lowered core w fs t e finish in
      let h = low_term core code whole num t w fs (a + 1) e finish (next whole body a (i.Begin x.0) s) in
      record {
        up_to = h.up_to + 1;
        is = low.region (is_at code whole body a (i.Begin x.0) num s) (subst (λ l. Low core code w fs (a + 1) t (To l 0) h.up_to) (label_at whole finish h.up_to h.after) h.is) (is_at code whole rest h.up_to i.Done num h.after);
        after = next whole rest h.up_to i.Done h.after;
      }
  low_side core code whole num (On Scalar x ty (CallTerm g xs)) w fs a rest s =
      let y = i.CallScalar x.0 (function_number core.functions g.0) (operands xs) in
      let all = y ∷ gots w core g.0 xs in
      record {
        up_to = a + length all;
        is = low.scalar_call (subst (λ l. AreAt code a l (a + length all)) (ap (λ l. y ∷ l) (gots_stay (length whole) w core g.0 xs)) (are_at code whole all rest a num s));
        after = behind whole all rest a s;
      }
  low_side core code whole num (On Scalar x ty (Then b t)) w fs a rest s =
      scalar_side core code whole w fs a x ty (Then b t) rest tt (low_term core code whole num (Then b t) w fs a (To (length rest) x.0) rest s)
  low_side core code whole num (On Scalar x ty (Write h k ss ps)) w fs a rest s =
      scalar_side core code whole w fs a x ty (Write h k ss ps) rest tt (low_term core code whole num (Write h k ss ps) w fs a (To (length rest) x.0) rest s)
  low_side core code whole num (On Scalar x ty (Point y)) w fs a rest s =
      scalar_side core code whole w fs a x ty (Point y) rest tt (low_term core code whole num (Point y) w fs a (To (length rest) x.0) rest s)
  low_side core code whole num (On Scalar x ty (Give y)) w fs a rest s =
      scalar_side core code whole w fs a x ty (Give y) rest tt (low_term core code whole num (Give y) w fs a (To (length rest) x.0) rest s)
  low_side core code whole num (On Scalar x ty (CaseTerm y bs)) w fs a rest s =
      scalar_side core code whole w fs a x ty (CaseTerm y bs) rest tt (low_term core code whole num (CaseTerm y bs) w fs a (To (length rest) x.0) rest s)
  low_side core code whole num (On Scalar x ty (IfTerm y t u)) w fs a rest s =
      scalar_side core code whole w fs a x ty (IfTerm y t u) rest tt (low_term core code whole num (IfTerm y t u) w fs a (To (length rest) x.0) rest s)
  low_side core code whole num (On Scalar x ty (Tuple tys ss ps)) w fs a rest s =
      scalar_side core code whole w fs a x ty (Tuple tys ss ps) rest tt (low_term core code whole num (Tuple tys ss ps) w fs a (To (length rest) x.0) rest s)
  low_side core code whole num (Several xs tys t) w fs a rest s =
      let n = length whole in
      let packed = packed_slots tys xs in
      let begins = begin_all packed in
      let finish = done_all packed ++ rest in
      let e = ToParts (length finish) (scalar_slots tys xs) in
      let body = lowered core w fs t e finish in
      let b = a + length begins in
      let h = low_term core code whole num t w fs b e finish (behind whole begins body a s) in
      let z = h.up_to + length (done_all packed) in
      let begun = subst (λ q. AreAt code a q b) (begins_stay n packed) (are_at code whole begins body a num s) in
      let term = subst (λ l. Low core code w fs b t (ToParts l (scalar_slots tys xs)) h.up_to) (label_at whole finish h.up_to h.after) h.is in
      let finished = subst (λ q. AreAt code h.up_to q z) (dones_stay n packed) (are_at code whole (done_all packed) rest h.up_to num h.after) in
      record { up_to = z; is = low.several begun term finished; after = behind whole (done_all packed) rest h.up_to h.after }

  low_arms : (core : CoreTree) (code : CodeTree) (whole : List Instruction) → IsNumbered code whole → (bs : Branches) (w : Within) (fs : List Field) (x a : ℕ) (e : End) (rest : List Instruction)
      → Stands whole a (lowered_branches core w fs x bs e rest).code → LowersArms core code whole w fs x a (lowered_branches core w fs x bs e rest).arms bs e rest
  low_arms core code whole num NoBranch w fs x a e rest s = record { up_to = a; is = low.no_arm; after = s }
  low_arms core code whole num (BranchThen k ys t bs) w fs x a e rest s =
      let others = lowered_branches core w fs x bs e rest in
      let opening = arm_opening (laid_of core) x k.0 ys in
      let leaf = leaf_of core w x k in
      let inner = with_fields x (fields_at core.table k.0) ys fs in
      let last = arm_end w core x k ys t e in
      let body = lowered core w inner t last others.code in
      let m = a + length opening in
      let l = m + length leaf in
      let leaf_stands = behind whole opening (leaf ++ body) a s in
      let ht = low_term core code whole num t w inner l last others.code (behind whole leaf body m leaf_stands) in
      let hs = low_arms core code whole num bs w fs x ht.up_to e rest ht.after in
      let n = length whole in
      let opened = subst (λ q. AreAt code a q m) (opening_stays core n x k.0 ys) (are_at code whole opening (leaf ++ body) a num s) in
      let leafed = leaf_at code whole body w.ends x (head_size (laid_of core) k.0) (packed_count (fields_at core.table k.0)) m num leaf_stands in
      let term = subst (λ q. Low core code w inner l t q ht.up_to) (arm_end_in n w core x k ys t e) ht.is in
      let P : ℕ → Type 0 = λ q. LowArms core code w fs x a (record { constructor = k.0; label = q } ∷ map (arm_in n) others.arms) (BranchThen k ys t bs) (end_in n e) hs.up_to in
      record {
        up_to = hs.up_to;
        is = subst P (sym (label_at whole (opening ++ (leaf ++ body)) a s)) (low.arm opened leafed term hs.is);
        after = hs.after;
      }

-- Functions.

low_functions : (core : CoreTree) (code : CodeTree) (whole : List Instruction) → IsNumbered code whole → (gs : List FunctionTerm) (a : ℕ)
    → Stands whole a (lowered_functions core gs) → LowFunctions core code a gs (map (entry_in (length whole)) (begun core gs))
low_functions core code whole num [] a s =
    let h = low_term core code whole num core.main.body (within_main core) [] a (Returns []) [] s in
    let all : h.up_to ≡ length code.instructions = let c = counted whole [] h.up_to h.after in omega (arith, c, ap length num.is, length-map whole (numbered (length whole))) in
    low.main refl refl (label_at whole (lowered_functions core []) a s) refl (subst (λ z. Low core code (within_main core) [] a core.main.body (Returns []) z) all h.is)
low_functions core code whole num (g ∷ gs) a s =
    let h = low_term core code whole num g.body (within_function core g) [] a (Returns []) (lowered_functions core gs) s in
    low.function refl refl (label_at whole (lowered_functions core (g ∷ gs)) a s) refl h.is (low_functions core code whole num gs h.up_to h.after)

pub is_lowered : (core : CoreTree) → IsLowered core (lower_program core)
is_lowered core =
    let whole = lowered_functions core core.functions in
    record { laid = refl; functions = low_functions core (lower_program core) whole (record { is = refl }) core.functions 0 (at_first whole) }
