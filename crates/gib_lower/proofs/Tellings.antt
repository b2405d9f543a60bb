-- What tells ends.
use Rattle.std.proofs.Common.{◌≡◌, ℕ, suc, ◌+◌, ◌-◌, ◌==◌, Bool, true, false, cond, not, ◌&&◌, List, [], ◌∷◌, ◌++◌, ◌≤◌, length, reverse, take, drop, slice_index_or, refl, sym, ap, subst, ◌∙◌, arith}
use Rattle.std.proofs.lemmas.List.{append_assoc, reverse-append}
use Rattle.std.specs.Prelude.{Option, Some, None}
use Rattle.std.proofs.Math.Nat.{sub_self}
use Rattle.std.proofs.Math.Seq.{take-length}
use Rattle.gib_types.specs.declared.table.ConId.{ConId}
use Rattle.gib_types.specs.Table.{fields_at}
use Rattle.gib_code.specs.Instruction as i
use Rattle.gib_code.specs.Instruction.{Instruction}
use Rattle.gib_core.specs.declared.atom.Variable.{Variable}
use Rattle.gib_core.specs.declared.atom.Atom.{Atom}
use Rattle.gib_core.specs.declared.atom.Ended.{Ended}
use Rattle.gib_core.specs.declared.atom.Atom.TheVariants as a
use Rattle.gib_core.specs.Tree.{Term, CoreTree}
use Rattle.gib_core.specs.Ending.{Within, has_ended, ended, last_packed, if_some, is_known}
use Rattle.gib_core.specs.Low.{Over, over_all, got_from, with_over, arm_overs}
use Rattle.gib_lower.specs.Lowering.{leaf_end, got_one}

-- One more argument of a call.
got_split : (es : List Ended) (f k : ℕ) (x : Atom) (xs : List Atom) → got_from es f k (x ∷ xs) ≡ got_one es f k x ++ got_from es f (suc k) xs
got_split es f k (a.Variable z) xs = by_test (has_ended es f k)
  where
    by_test : (b : Bool) → cond b (i.Got z.0 k ∷ got_from es f (suc k) xs) (got_from es f (suc k) xs) ≡ cond b (i.Got z.0 k ∷ []) [] ++ got_from es f (suc k) xs
    by_test true = refl
    by_test false = refl
got_split es f k (a.Whole z) xs = refl
got_split es f k (a.Truth b) xs = refl

pub got_next : (es : List Ended) (f k next : ℕ) (x : Atom) (xs : List Atom) (old new all : List Instruction) → old ++ got_from es f k (x ∷ xs) ≡ all → new ≡ old ++ got_one es f k x → next ≡ k + 1 → new ++ got_from es f next xs ≡ all
got_next es f k next x xs old new all e g h =
    let n : next ≡ suc k = omega (arith, h) in
    ap (λ l. l ++ got_from es f next xs) g ∙ ap (λ m. (old ++ got_one es f k x) ++ got_from es f m xs) n
    ∙ append_assoc old (got_one es f k x) (got_from es f (suc k) xs) ∙ ap (λ l. old ++ l) (sym (got_split es f k x xs)) ∙ e

-- Other instructions stand before the last one: ends are told.
pub before_end : (xs : List Instruction) (x : Instruction) (old mid new : List Instruction) → mid ≡ x ∷ old → new ≡ xs ++ mid → new ≡ (xs ++ x ∷ []) ++ old
before_end xs x old mid new e g = g ∙ ap (λ l. xs ++ l) e ∙ sym (append_assoc xs (x ∷ []) old)

-- One more end is told, before those of the trees around.
over_append : (os ps : List Over) → over_all (os ++ ps) ≡ over_all os ++ over_all ps
over_append [] ps = refl
over_append (o ∷ os) ps = ap (λ l. i.OverEnd o.tree o.field ∷ l) (over_append os ps)

pub over_next : (xs : List Over) (o d : Over) (now new all : List Instruction) → 1 ≤ length xs → o ≡ slice_index_or xs 0 d → over_all (reverse xs) ++ now ≡ all
    → new ≡ i.OverEnd o.tree o.field ∷ now → over_all (reverse (take (length xs - 1) (drop 1 xs))) ++ new ≡ all
over_next [] o d now new all le is h e = absurd (omega (arith, le))
over_next (x ∷ after) o d now new all le is h e =
    let os = reverse after in
    let n : length (x ∷ after) - 1 ≡ length after = omega arith in
    ap (λ k. over_all (reverse (take k after)) ++ new) n ∙ ap (λ l. over_all (reverse l) ++ new) (take-length after)
    ∙ ap (λ l. over_all os ++ l) (e ∙ ap (λ (y : Over). i.OverEnd y.tree y.field ∷ now) is)
    ∙ sym (ap (λ l. over_all l ++ now) (reverse-append (x ∷ []) after) ∙ ap (λ l. l ++ now) (over_append os (x ∷ [])) ∙ append_assoc (over_all os) (over_all (x ∷ [])) now)
    ∙ h

-- An arm without packed fields.
pub leaf_unmarked : (must : Bool) (x size many : ℕ) (old : List Instruction) → must ≡ false → old ≡ leaf_end must x size many ++ old
leaf_unmarked must x size many old e = ap (λ b. leaf_end b x size many ++ old) (sym e)

pub leaf_packed : (must : Bool) (x size many : ℕ) (old : List Instruction) → (many ≡ 0 → ⊥) → old ≡ leaf_end must x size many ++ old
leaf_packed true x size many old h =
    let t : many == 0 ≡ false = grind (arith, h) in
    subst (λ b. old ≡ cond b (i.LeafEnd x size ∷ []) [] ++ old) (sym t) refl
leaf_packed false x size many old h = refl

pub leaf_is : (must : Bool) (x size many : ℕ) (old new : List Instruction) → must ≡ true → many ≡ 0 → new ≡ i.LeafEnd x size ∷ old → new ≡ leaf_end must x size many ++ old
leaf_is must x size many old new e f g = g ∙ sym (ap (λ b. leaf_end b x size many ++ old) e ∙ ap (λ n. leaf_end true x size n ++ old) f)

-- Whether an arm's tree is told its end.
and_false : (b : Bool) → b && false ≡ false
and_false true = refl
and_false false = refl

with_false : (x : ℕ) (o : Option Variable) (os : List Over) → with_over x o false os ≡ os
with_false x None os = refl
with_false x (Some y) os = refl

module _ (w : Within) (core : CoreTree) (x : ℕ) (c : ConId) (ys : List Variable) (u : Term) (os : List Over) where
  abbrev last : Option Variable
  last = last_packed None (fields_at core.table c.0) ys

  abbrev known : Variable → Bool
  known z = is_known core.table (ended core) u z

  pub over_unmarked : w.ends ≡ false → arm_overs w core x c ys u os ≡ os
  over_unmarked e = ap (λ b. with_over x last (b && (not w.par && if_some last known)) os) e ∙ with_false x last os

  pub over_in_par : w.par ≡ true → arm_overs w core x c ys u os ≡ os
  over_in_par e =
      ap (λ b. with_over x last (w.ends && (not b && if_some last known)) os) e
      ∙ ap (λ b. with_over x last b os) (and_false w.ends) ∙ with_false x last os

  pub over_unpacked : last_packed None (fields_at core.table c.0) ys ≡ None → arm_overs w core x c ys u os ≡ os
  over_unpacked e = ap (λ o. with_over x o (w.ends && (not w.par && if_some o known)) os) e

  pub over_unknown : (y : Variable) → last_packed None (fields_at core.table c.0) ys ≡ Some y → is_known core.table (ended core) u y ≡ false → arm_overs w core x c ys u os ≡ os
  over_unknown y e k =
      ap (λ o. with_over x o (w.ends && (not w.par && if_some o known)) os) e
      ∙ ap (λ b. with_over x (Some y) (w.ends && (not w.par && b)) os) k
      ∙ ap (λ b. with_over x (Some y) (w.ends && b) os) (and_false (not w.par))
      ∙ ap (λ b. with_over x (Some y) b os) (and_false w.ends)

  pub over_known : (y : Variable) → w.ends ≡ true → w.par ≡ false → last_packed None (fields_at core.table c.0) ys ≡ Some y → is_known core.table (ended core) u y ≡ true
      → arm_overs w core x c ys u os ≡ record { tree = x; field = y.0 } ∷ os
  over_known y m p e k =
      ap (λ o. with_over x o (w.ends && (not w.par && if_some o known)) os) e
      ∙ ap (λ b. with_over x (Some y) (w.ends && (not w.par && b)) os) k
      ∙ ap (λ b. with_over x (Some y) (w.ends && (not b && true)) os) p
      ∙ ap (λ b. with_over x (Some y) (b && true) os) m

-- What came is left again.
pub one_left : (o : Over) (old new : List Over) → new ≡ o ∷ old → drop (length new - length old) new ≡ old
one_left o old new e = ap (λ l. drop (length l - length old) l) e ∙ ap (λ n. drop n (o ∷ old)) (less (length old))
  where
    less : (n : ℕ) → suc n - n ≡ 1
    less n = omega arith

pub none_left : (old : List Over) → drop (length old - length old) old ≡ old
none_left old = ap (λ n. drop n old) (sub_self (length old))
