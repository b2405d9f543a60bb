-- A body has no more regions and `par`s open at a time than its code says.
use Rattle.std.proofs.Common.{length, Bool, true, false, cond, ◌≡◌, ℕ, zero, suc, ◌+◌, ◌-◌, ◌≤◌, List, [], ◌∷◌, ◌++◌, Some, refl, ap, ◌∙◌, arith}
use Rattle.std.specs.Prelude.{slice_get}
use Rattle.std.proofs.lemmas.Option.{same_Some, none-some}
use Rattle.gib_types.specs.declared.table.Ty.{Ty}
use Rattle.gib_types.specs.declared.table.Ty.TheVariants.{Whole, Truth, Tree}
use Rattle.gib_types.specs.Table.{fields_at}
use Rattle.gib_types.specs.Layout.{LaidOut}
use Rattle.gib_core.specs.declared.atom.Access.{Access}
use Rattle.gib_core.specs.declared.atom.Access.TheVariants as by
use Rattle.gib_core.specs.declared.atom.Variable.{Variable}
use Rattle.gib_core.specs.Tree.{Term, Bind, Side, Branches, PartTerms, CoreTree}
use Rattle.gib_code.specs.declared.instruction.Arm.{Arm}
use Rattle.gib_code.specs.declared.instruction.Operand.{Operand}
use Rattle.gib_code.specs.Instruction.{Instruction}
use Rattle.gib_code.specs.Program.{CodeTree, IsAt, AreAt, none, one_more}
use Rattle.gib_core.specs.declared.atom.Atom.{Atom}
use Rattle.gib_core.specs.Low as low
use Rattle.gib_core.specs.declared.atom.Ended.{Ended}
use Rattle.gib_core.specs.Ending.{Within, within_par, ended, has_ended}
use Rattle.gib_core.specs.declared.atom.Atom.{Atom}
use Rattle.gib_core.specs.declared.atom.Atom.TheVariants as atom
use Rattle.gib_code.specs.Instruction as i
use Rattle.gib_core.specs.Low.{Low, LowArms, LowBind, LowParts, LowSide, End, Returns, To, ToParts, Field, begin_all, call_ending, done_all, ending, giving, giving_parts, moves, packed_slots, scalar_slots, takes_parts, reaching, scalar_reads, first_reach, arm_opening, laid_of, with_fields}
use Rattle.gib_machine.specs.State.{open_behind, nesting_from, nesting}
use Rattle.gib_weave.specs.Continuing.{nest, bind_nest, side_nest, parts_nest, branches_nest}

-- How many are open at a place of these instructions, before which n are.
abbrev open_at : ℕ → ℕ → List Instruction → ℕ
open_at zero n is = n
open_at (suc a) n [] = n
open_at (suc a) n (i ∷ is) = open_at a (open_behind n i) is

most_open : (a n : ℕ) (is : List Instruction) → open_at a n is ≤ nesting_from n is
most_open zero n [] = omega arith
most_open zero n (i ∷ is) = omega arith
most_open (suc a) n [] = omega arith
most_open (suc a) n (i ∷ is) = let h = most_open a (open_behind n i) is in omega (arith, h)

goes_behind : (a n : ℕ) (is : List Instruction) (i : Instruction) → slice_get is a ≡ Some i → open_at (suc a) n is ≡ open_behind (open_at a n is) i
goes_behind zero n [] i e = absurd (none-some _ e)
goes_behind zero n (x ∷ is) i e = ap (λ (q : Instruction). open_behind n q) (same_Some _ _ e)
goes_behind (suc a) n [] i e = absurd (none-some _ e)
goes_behind (suc a) n (x ∷ is) i e = goes_behind a (open_behind n x) is i e

-- Instructions that open and close nothing.
abbrev IsPlain : Instruction → Type 0
IsPlain i = (n : ℕ) → open_behind n i ≡ n

abbrev ArePlain : List Instruction → Type 0
ArePlain [] = Unit {0}
ArePlain (i ∷ is) = IsPlain i × ArePlain is

plain_append : (is js : List Instruction) → ArePlain is → ArePlain js → ArePlain (is ++ js)
plain_append [] js p q = q
plain_append (i ∷ is) js p q = (p.0, plain_append is js p.1 q)

plain_overs : (os : List low.Over) (is : List Instruction) → ArePlain is → ArePlain (low.over_all os ++ is)
plain_overs [] is p = p
plain_overs (o ∷ os) is p = ((λ n. refl), plain_overs os is p)

plain_ending : (e : End) → ArePlain (ending e)
plain_ending (Returns os) = plain_overs os (i.Return ∷ []) ((λ n. refl), tt)
plain_ending (To l d) = ((λ n. refl), tt)
plain_ending (ToParts l ds) = ((λ n. refl), tt)

plain_gots : (es : List Ended) (f k : ℕ) (xs : List Atom) → ArePlain (low.got_from es f k xs)
plain_gots es f k [] = tt
plain_gots es f k (atom.Variable z ∷ xs) = by (has_ended es f k) (plain_gots es f (suc k) xs)
  where
    by : (b : Bool) → ArePlain (low.got_from es f (suc k) xs) → ArePlain (cond b (i.Got z.0 k ∷ low.got_from es f (suc k) xs) (low.got_from es f (suc k) xs))
    by true r = ((λ n. refl), r)
    by false r = r
plain_gots es f k (atom.Whole z ∷ xs) = plain_gots es f (suc k) xs
plain_gots es f k (atom.Truth b ∷ xs) = plain_gots es f (suc k) xs

plain_all_gots : (w : Within) (core : CoreTree) (f : ℕ) (xs : List Atom) → ArePlain (low.gots w core f xs)
plain_all_gots w core f xs = by w.par
  where
    by : (b : Bool) → ArePlain (cond b [] (low.got_from (ended core) f 0 xs))
    by true = tt
    by false = plain_gots (ended core) f 0 xs

plain_giving : (s : Operand) (e : End) → ArePlain (giving s e)
plain_giving s (Returns os) = plain_overs os (i.Give s ∷ []) ((λ n. refl), tt)
plain_giving s (To l d) = ((λ n. refl), ((λ n. refl), tt))
plain_giving s (ToParts l ds) = ((λ n. refl), tt)

plain_moves : (ds : List ℕ) (ss : List Operand) → ArePlain (moves ds ss)
plain_moves [] ss = tt
plain_moves (d ∷ ds) [] = tt
plain_moves (d ∷ ds) (s ∷ ss) = ((λ n. refl), plain_moves ds ss)

plain_gives : (ss : List Operand) (e : End) → ArePlain (giving_parts ss e)
plain_gives ss (Returns os) = plain_overs os (i.GiveParts ss ∷ []) ((λ n. refl), tt)
plain_gives ss (To l d) = ((λ n. refl), tt)
plain_gives ss (ToParts l ds) = plain_append (moves ds ss) _ (plain_moves ds ss) ((λ n. refl), tt)

plain_takes : (i : ℕ) (ds : List ℕ) → ArePlain (takes_parts i ds)
plain_takes i [] = tt
plain_takes i (d ∷ ds) = ((λ n. refl), plain_takes (suc i) ds)

plain_calls : (e : End) → ArePlain (call_ending e)
plain_calls (Returns os) = plain_overs os (i.Return ∷ []) ((λ n. refl), tt)
plain_calls (To l d) = ((λ n. refl), tt)
plain_calls (ToParts l ds) = plain_append (takes_parts 0 ds) _ (plain_takes 0 ds) ((λ n. refl), tt)

plain_reaching : (fs : List Field) (y : Variable) (access : Access) → IsPlain (reaching fs y access)
plain_reaching fs y by.Offset = λ n. refl
plain_reaching fs y (by.Skip z) = λ n. refl
plain_reaching fs y (by.End z) = λ n. refl

plain_reads : (x p : ℕ) (ts : List Ty) (ys : List Variable) → ArePlain (scalar_reads x p ts ys)
plain_reads x p [] ys = tt
plain_reads x p (t ∷ ts) [] = tt
plain_reads x p (Whole ∷ ts) (y ∷ ys) = ((λ n. refl), plain_reads x (p + 8) ts ys)
plain_reads x p (Truth ∷ ts) (y ∷ ys) = ((λ n. refl), plain_reads x (p + 1) ts ys)
plain_reads x p (Tree t ∷ ts) (y ∷ ys) = plain_reads x p ts ys

plain_first : (x size : ℕ) (ts : List Ty) (ys : List Variable) → ArePlain (first_reach x size ts ys)
plain_first x size [] ys = tt
plain_first x size (t ∷ ts) [] = tt
plain_first x size (Whole ∷ ts) (y ∷ ys) = plain_first x size ts ys
plain_first x size (Truth ∷ ts) (y ∷ ys) = plain_first x size ts ys
plain_first x size (Tree t ∷ ts) (y ∷ ys) = ((λ n. refl), tt)

plain_opening : (laid : LaidOut) (x k : ℕ) (ys : List Variable) → ArePlain (arm_opening laid x k ys)
plain_opening laid x k ys = plain_append _ _ (plain_reads x _ (fields_at laid.table k) ys) (plain_first x _ (fields_at laid.table k) ys)

module _ (core : CoreTree) (code : CodeTree) where
  -- How many are open at a label.
  abbrev opened : ℕ → ℕ
  opened a = open_at a 0 code.instructions

  one_step : (a : ℕ) (i : Instruction) → IsAt code a i → opened (a + 1) ≡ open_behind (opened a) i
  one_step a i e = ap (λ (q : ℕ). open_at q 0 code.instructions) (let k : a + 1 ≡ suc a = omega arith in k) ∙ goes_behind a 0 code.instructions i e

  one_plain : (a : ℕ) (i : Instruction) → IsAt code a i → IsPlain i → opened (a + 1) ≡ opened a
  one_plain a i e p = one_step a i e ∙ p (opened a)

  plain : (a : ℕ) (is : List Instruction) (z : ℕ) → AreAt code a is z → ArePlain is → opened z ≡ opened a
  plain a _ _ none p = refl
  plain a _ z (one_more {i = i} {is = is} e r) p = plain (a + 1) is z r p.1 ∙ one_plain a i e p.0

  -- Code from a to z closes what it opens, and has no more than n open at a time.
  record Level (a z n : ℕ) : Type 0 where
    pub back : opened z ≡ opened a
    pub below : opened a + n ≤ nesting code

  leaf_plain : {must : Bool} {x size many l m : ℕ} → low.LeafAt code must x size many l m → opened m ≡ opened l
  leaf_plain (low.no_leaf never) = refl
  leaf_plain {l = l} (low.leaf mst h e) = one_plain l _ e (λ n. refl)

  begun_many : (a : ℕ) (xs : List ℕ) (z : ℕ) → AreAt code a (begin_all xs) z → opened z ≡ length xs + opened a
  begun_many a [] _ none = omega arith
  begun_many a (x ∷ xs) z (one_more e r) = let i = begun_many (a + 1) xs z r in let f = one_step a _ e in omega (arith, i, f)

  ended_many : (a : ℕ) (xs : List ℕ) (z : ℕ) → AreAt code a (done_all xs) z → opened z ≡ opened a - length xs
  ended_many a [] _ none = omega arith
  ended_many a (x ∷ xs) z (one_more e r) = let i = ended_many (a + 1) xs z r in let f = one_step a _ e in omega (arith, i, f)

  simple : (a z : ℕ) → opened z ≡ opened a → Level a z 0
  simple a z e = record { back = e; below = let h = most_open a 0 code.instructions in omega (arith, h) }

  mutual
    level : (w : Within) (fs : List Field) (a : ℕ) (t : Term) (e : End) (z : ℕ) → Low core code w fs a t e z → Level a z (nest t)
    level w fs a _ e z (low.write h) = simple a z (plain a _ z h ((λ n. refl), plain_ending e))
    level w fs a _ e z (low.point h) = simple a z (plain a _ z h ((λ n. refl), plain_ending e))
    level w fs a _ e z (low.call {f = f} {xs = xs} h) = simple a z (plain a _ z h ((λ n. refl), plain_append _ _ (plain_all_gots w core f.0 xs) (plain_calls e)))
    level w fs a _ e z (low.give {x = x} h) = simple a z (plain a _ z h (plain_giving (low.operand x) e))
    level w fs a _ e z (low.branch {l = l} {u = u} {v = v} h lu lv) =
        let s = one_plain a _ h (λ n. refl) in
        let i = level w fs (a + 1) u e l lu in
        let j = level w fs l v e z lv in
        let p = i.below in
        let q = j.below in
        let r = i.back in
        record { back = j.back ∙ (r ∙ s); below = omega (arith, p, q, r, s) }
    level w fs a _ e z (low.case {x = x} {bs = bs} {arms = arms} h la) =
        let s = one_plain a _ h (λ n. refl) in
        let i = arms_level w fs (low.slot_of x) (a + 1) arms bs e z la in
        let p = i.below in
        record { back = i.back ∙ s; below = omega (arith, p, s) }
    level w fs a _ e z (low.binding {m = m} {b = b} {u = u} lb lu) =
        let i = bind_level w fs a b m lb in
        let j = level w fs m u e z lu in
        let p = i.below in
        let q = j.below in
        let r = i.back in
        record { back = j.back ∙ r; below = omega (arith, p, q, r) }
    level w fs a _ e z (low.tuple {m = m} {ss = ss} {ps = ps} lp g) =
        let i = parts_level w fs a _ _ ps m lp in
        record { back = plain m _ z g (plain_gives _ e) ∙ i.back; below = i.below }

    parts_level : (w : Within) (fs : List Field) (a i k : ℕ) (ps : PartTerms) (z : ℕ) → LowParts core code w fs a i k ps z → Level a z (parts_nest ps)
    parts_level w fs a i k _ _ low.no_part = simple a a refl
    parts_level w fs a i k _ z (low.part {m = m} {u = u} {ps = ps} hi lu ho lp) =
        let s = one_plain a _ hi (λ n. refl) in
        let j = level w fs (a + 1) u (To m 0) m lu in
        let t = one_plain m _ ho (λ n. refl) in
        let r = parts_level w fs (m + 1) (suc i) k ps z lp in
        let p = j.below in
        let q = r.below in
        let b = j.back in
        record { back = r.back ∙ t ∙ b ∙ s; below = omega (arith, p, q, b, s, t) }

    arms_level : (w : Within) (fs : List Field) (x a : ℕ) (arms : List Arm) (bs : Branches) (e : End) (z : ℕ) → LowArms core code w fs x a arms bs e z → Level a z (branches_nest bs)
    arms_level w fs x a _ _ e _ low.no_arm = simple a a refl
    arms_level w fs x a _ _ e z (low.arm {m = m} {n = n'} {l = l} {c = c} {ys = ys} {u = u} {bs = bs} {arms = arms} h lf lu others) =
        let s = leaf_plain lf ∙ plain a _ m h (plain_opening (laid_of core) x c.0 ys) in
        let i = level w (with_fields x (fields_at core.table c.0) ys fs) n' u (low.arm_end w core x c ys u e) l lu in
        let j = arms_level w fs x l arms bs e z others in
        let p = i.below in
        let q = j.below in
        let r = i.back in
        record { back = j.back ∙ (r ∙ s); below = omega (arith, p, q, r, s) }

    bind_level : (w : Within) (fs : List Field) (a : ℕ) (b : Bind) (z : ℕ) → LowBind core code w fs a b z → Level a z (bind_nest b)
    bind_level w fs a _ _ (low.past h) = simple a (a + 1) (one_plain a _ h (λ n. refl))
    bind_level w fs a _ z (low.one {s = s} ls) = side_level w fs a s z ls
    bind_level w fs a _ z (low.in_turn {m = m} {l = l} {r = r} ll lr) =
        let i = side_level (within_par w) fs a l m ll in
        let j = side_level (within_par w) fs m r z lr in
        let p = i.below in
        let q = j.below in
        let k = i.back in
        record { back = j.back ∙ k; below = omega (arith, p, q, k) }
    bind_level w fs a _ _ (low.forked {m = m} {z = z} {l = l} {r = r} hf ll hj lr hb) =
        let f : opened (a + 1) ≡ suc (opened a) = one_step a _ hf in
        let i = side_level (within_par w) fs (a + 1) l m ll in
        let g = one_plain m _ hj (λ n. refl) in
        let j = side_level (within_par w) fs (m + 1) r z lr in
        let b : opened (z + 1) ≡ opened z - 1 = one_step z _ hb in
        let p = i.below in
        let q = j.below in
        let o = i.back in
        let s = j.back in
        record { back = omega (arith, f, o, g, s, b); below = omega (arith, p, q, o, f, g) }
    bind_level w fs a _ _ (low.prim h) = simple a (a + 1) (one_plain a _ h (λ n. refl))
    bind_level w fs a _ _ (low.reach {y = y} {access = access} h) = simple a (a + 1) (one_plain a _ h (plain_reaching fs y access))

    side_level : (w : Within) (fs : List Field) (a : ℕ) (s : Side) (z : ℕ) → LowSide core code w fs a s z → Level a z (side_nest s)
    side_level w fs a _ z (low.here {u = u} h lu) =
        let s = one_plain a _ h (λ n. refl) in
        let i = level w fs (a + 1) u (To z 0) z lu in
        let p = i.below in
        record { back = i.back ∙ s; below = omega (arith, p, s) }
    side_level w fs a _ _ (low.region {z = z} {u = u} hb lu hd) =
        let f : opened (a + 1) ≡ suc (opened a) = one_step a _ hb in
        let i = level w fs (a + 1) u (To z 0) z lu in
        let g : opened (z + 1) ≡ opened z - 1 = one_step z _ hd in
        let p = i.below in
        let r = i.back in
        record { back = omega (arith, f, r, g); below = omega (arith, p, f) }
    side_level w fs a _ z (low.scalar_call {f = f} {xs = xs} h) = simple a z (plain a _ z h ((λ n. refl), plain_all_gots w core f.0 xs))
    side_level w fs a _ z (low.scalar {x = x} {u = u} o lu) = level w fs a u (To z x.0) z lu
    side_level w fs a _ z (low.several {b = b} {l = l} {xs = xs} {tys = tys} {u = u} hb lu hd) =
        let f = begun_many a (packed_slots tys xs) b hb in
        let i = level w fs b u (ToParts l (scalar_slots tys xs)) l lu in
        let g = ended_many l (packed_slots tys xs) z hd in
        let p = i.below in
        let r = i.back in
        record { back = omega (arith, f, g, r); below = omega (arith, f, p) }

  -- So a term has, wherever its code stands.
  pub nests_within : (w : Within) (fs : List Field) (a : ℕ) (t : Term) (e : End) (z : ℕ) → Low core code w fs a t e z → nest t ≤ nesting code
  nests_within w fs a t e z lo = let h = (level w fs a t e z lo).below in omega (arith, h)
