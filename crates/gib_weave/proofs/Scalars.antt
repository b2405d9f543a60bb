-- Scalars as words, and the bytes of heads.
use Rattle.std.proofs.Common.{◌≡◌, ℕ, ℤ, ◌%◌, Bool, true, false, List, [], ◌∷◌, ◌++◌, map, int_lt, int_rem, int_div, pos, FitsSigned, refl, sym, ap, subst, ◌∙◌}
use Rattle.std.specs.Int.{w64, cast_signed, cast_unsigned, to_le_bytes, int_wrapping_add, int_wrapping_sub, int_wrapping_mul, int_wrapping_div}
use Rattle.std.specs.Ordering.{int_eq}
use Rattle.std.proofs.lemmas.Int.{to_z-of_z, wrapping_add_is, wrapping_sub_is, wrapping_mul_is, SFits-int_wrap}
use lib.Signed.{mag_rem}
use mir.ValLaws.{sfits_le}
use borrow.Author.Gap.{read_sfits}
use Rattle.gib_packed.proofs.HeadLemmas.{Dec-no_scalar}
use Rattle.gib_types.specs.declared.table.Ty.{Ty}
use Rattle.gib_types.specs.declared.table.Ty.TheVariants.{Whole, Truth, Tree}
use Rattle.gib_types.specs.Table.{scalar_types}
use Rattle.gib_types.specs.Layout.{LaidOut}
use Rattle.gib_types.specs.Tree.{Datum, more, data_of}
use Rattle.gib_types.specs.declared.operator.Operator.{Operator}
use Rattle.gib_types.specs.declared.operator.Operator.TheVariants as o
use Rattle.gib_syntax.specs.Meaning.{is_scalar, value_in, operate, is_by_zero}
use Rattle.gib_types.specs.Operators.{operator_type}
use Rattle.gib_mem.specs.Memory.{Store}
use Rattle.gib_packed.specs.Scalars.{bit, scalar, scalars}
use Rattle.gib_packed.specs.Head.{offset_bytes, addresses}
use Rattle.gib_packed.specs.Decoding as d
use Rattle.gib_packed.specs.Decoding.{Dec, Decs}
use Rattle.gib_core.specs.declared.atom.Atom.{Atom}
use Rattle.gib_core.specs.declared.atom.Atom.TheVariants as a
use Rattle.gib_core.specs.Tree.{var}
use Rattle.gib_core.specs.Meaning.{value, merge}
use Rattle.gib_core.specs.Low.{operand, operands, slots_of, truth_word}
use Rattle.gib_machine.specs.State.{Slots, slot, word, words}
use Rattle.gib_machine.specs.Machine.{word_bytes, scalar_bytes, operated, traps}
use Rattle.gib_core.specs.Fits.{Sort, AtomFits, AtomsFit, packed_due, ArePlaced, FurtherPlaced}
use Rattle.gib_weave.specs.Environment.{Ctx, IsScalar, Has, HasAll, Fields, field}

same_word : (b : Bool) → truth_word b ≡ bit b
same_word false = refl
same_word true = refl

-- the word of an atom is its value
pub scalar_word : (laid : LaidOut) (s : Store) (sl : Slots) (c : Ctx) (x : Atom) (ty : Ty) → is_scalar ty ≡ true → HasAll laid s sl c → AtomFits c.scope x ty → IsScalar ty (word sl (operand x)) (value c.env x)
scalar_word laid s sl c (a.Variable x) Whole t h e = subst (λ (so : Sort). Has laid s c so (slot sl x.0) (value_in c.env x.0) (c.pl x.0) (c.hd x.0)) e (h.has x.0)
scalar_word laid s sl c (a.Variable x) Truth t h e = subst (λ (so : Sort). Has laid s c so (slot sl x.0) (value_in c.env x.0) (c.pl x.0) (c.hd x.0)) e (h.has x.0)
scalar_word laid s sl c (a.Variable x) (Tree u) t h e = absurd cc
scalar_word laid s sl c (a.Whole z) Whole t h e = (z, refl, e, refl)
scalar_word laid s sl c (a.Whole z) Truth t h e = absurd e
scalar_word laid s sl c (a.Whole z) (Tree u) t h e = absurd e
scalar_word laid s sl c (a.Truth b) Whole t h e = absurd e
scalar_word laid s sl c (a.Truth b) Truth t h e = (b, refl, same_word b)
scalar_word laid s sl c (a.Truth b) (Tree u) t h e = absurd e

small_bit : (b : Bool) → bit b % 256 ≡ bit b
small_bit false = refl
small_bit true = refl

-- its bytes are those of its value
pub word_scalar : (ty : Ty) (w : ℕ) (v : Datum) → IsScalar ty w v → word_bytes ty w ≡ scalar v
word_scalar Whole w v h = ap (to_le_bytes w64) h.3 ∙ sym (ap scalar h.1)
word_scalar Truth w v h = ap (λ (q : ℕ). q % 256 ∷ []) h.2 ∙ ap (λ (q : ℕ). q ∷ []) (small_bit h.0) ∙ sym (ap scalar h.1)
word_scalar (Tree t) w v h = absurd h

-- Operations.

-- a word as the number that it is
signed : (z : ℤ) (w : ℕ) → FitsSigned w64 z → w ≡ cast_unsigned w64 z → cast_signed w64 w ≡ z
signed z w f e = ap (cast_signed w64) e ∙ to_z-of_z w64 z f

-- what is left of a division fits
rem_fits : (x y : ℤ) → FitsSigned w64 x → FitsSigned w64 (int_rem x y)
rem_fits x y f = sfits_le (mag_rem x y) f

pub operated_is : (f : Operator) (x y : ℤ) (a b : ℕ) → FitsSigned w64 x → FitsSigned w64 y → a ≡ cast_unsigned w64 x → b ≡ cast_unsigned w64 y → IsScalar (operator_type f) (operated f a b) (operate f x y)
operated_is o.Add x y a b p q e g = (int_wrapping_add w64 x y, refl, subst (λ (z : ℤ). FitsSigned w64 z) (sym (wrapping_add_is w64 x y p q)) (SFits-int_wrap w64 _), ap (λ (z : ℤ). cast_unsigned w64 (int_wrapping_add w64 z (cast_signed w64 b))) (signed x a p e) ∙ ap (λ (z : ℤ). cast_unsigned w64 (int_wrapping_add w64 x z)) (signed y b q g))
operated_is o.Subtract x y a b p q e g = (int_wrapping_sub w64 x y, refl, subst (λ (z : ℤ). FitsSigned w64 z) (sym (wrapping_sub_is w64 x y p q)) (SFits-int_wrap w64 _), ap (λ (z : ℤ). cast_unsigned w64 (int_wrapping_sub w64 z (cast_signed w64 b))) (signed x a p e) ∙ ap (λ (z : ℤ). cast_unsigned w64 (int_wrapping_sub w64 x z)) (signed y b q g))
operated_is o.Multiply x y a b p q e g = (int_wrapping_mul w64 x y, refl, subst (λ (z : ℤ). FitsSigned w64 z) (sym (wrapping_mul_is w64 x y p q)) (SFits-int_wrap w64 _), ap (λ (z : ℤ). cast_unsigned w64 (int_wrapping_mul w64 z (cast_signed w64 b))) (signed x a p e) ∙ ap (λ (z : ℤ). cast_unsigned w64 (int_wrapping_mul w64 x z)) (signed y b q g))
operated_is o.Equal x y a b p q e g = (int_eq x y, refl, ap (λ (z : ℤ). bit (int_eq z (cast_signed w64 b))) (signed x a p e) ∙ ap (λ (z : ℤ). bit (int_eq x z)) (signed y b q g))
operated_is o.Less x y a b p q e g = (int_lt x y, refl, ap (λ (z : ℤ). bit (int_lt z (cast_signed w64 b))) (signed x a p e) ∙ ap (λ (z : ℤ). bit (int_lt x z)) (signed y b q g))
operated_is o.Quotient x y a b p q e g = (int_wrapping_div w64 x y, refl, read_sfits w64 (cast_unsigned w64 (int_div x y)), ap (λ (z : ℤ). cast_unsigned w64 (int_wrapping_div w64 z (cast_signed w64 b))) (signed x a p e) ∙ ap (λ (z : ℤ). cast_unsigned w64 (int_wrapping_div w64 x z)) (signed y b q g))
operated_is o.Remainder x y a b p q e g = (int_rem x y, refl, rem_fits x y p, ap (λ (z : ℤ). cast_unsigned w64 (int_rem z (cast_signed w64 b))) (signed x a p e) ∙ ap (λ (z : ℤ). cast_unsigned w64 (int_rem x z)) (signed y b q g))

-- the machine divides by 0 where the meaning does
pub traps_are : (f : Operator) (y : ℤ) (b : ℕ) → FitsSigned w64 y → b ≡ cast_unsigned w64 y → traps f b ≡ is_by_zero f y
traps_are o.Add y b q g = refl
traps_are o.Subtract y b q g = refl
traps_are o.Multiply y b q g = refl
traps_are o.Equal y b q g = refl
traps_are o.Less y b q g = refl
traps_are o.Quotient y b q g = ap (λ (z : ℤ). int_eq z (pos 0)) (signed y b q g)
traps_are o.Remainder y b q g = ap (λ (z : ℤ). int_eq z (pos 0)) (signed y b q g)

-- Heads.

cons_nil : {t : ℕ} {ts : List ℕ} → t ∷ ts ≡ [] → ⊥
cons_nil e = absurd cc

nil_cons : {t : ℕ} {ts : List ℕ} → [] ≡ t ∷ ts → ⊥
nil_cons e = absurd cc

pub first_of : ℕ → List ℕ → ℕ
first_of x [] = x
first_of x (y ∷ ys) = y

cons_first : (t u : ℕ) (ts us : List ℕ) → t ∷ ts ≡ u ∷ us → t ≡ u
cons_first t u ts us e = cc

cons_rest : (t u : ℕ) (ts us : List ℕ) → t ∷ ts ≡ u ∷ us → ts ≡ us
cons_rest t u ts us e = cc

-- the scalars and the fields that stand are the fields of a constructor
pub merged : (laid : LaidOut) (s : Store) (sl : Slots) (c : Ctx) → HasAll laid s sl c → (ts : List Ty) (ss : List Atom) (xs tys : List ℕ) (at z : ℕ) → AtomsFit c.scope ss (scalar_types ts) → tys ≡ packed_due ts → Fields laid s c at xs tys z
    → Decs laid s at ts (data_of (merge ts (map (value c.env) ss) (map (value c.env) (map var xs)))) (map c.pl xs) z
merged laid s sl c h [] ss _ _ at z e g Rattle.gib_weave.specs.Environment.none = d.done
merged laid s sl c h [] ss _ _ at z e g (field t p dec f) = absurd (cons_nil g)
merged laid s sl c h (Whole ∷ ts) [] xs tys at z e g f = absurd e
merged laid s sl c h (Whole ∷ ts) (x ∷ ss) xs tys at z e g f =
    let w = scalar_word laid s sl c x Whole refl h e.0 in
    let rest = merged laid s sl c h ts ss xs tys at z e.1 g f in
    subst (λ (v : Datum). Decs laid s at (Whole ∷ ts) (more v (data_of (merge ts (map (value c.env) ss) (map (value c.env) (map var xs))))) (map c.pl xs) z) (sym w.1) (d.whole_field w.2 rest)
merged laid s sl c h (Truth ∷ ts) [] xs tys at z e g f = absurd e
merged laid s sl c h (Truth ∷ ts) (x ∷ ss) xs tys at z e g f =
    let w = scalar_word laid s sl c x Truth refl h e.0 in
    let rest = merged laid s sl c h ts ss xs tys at z e.1 g f in
    subst (λ (v : Datum). Decs laid s at (Truth ∷ ts) (more v (data_of (merge ts (map (value c.env) ss) (map (value c.env) (map var xs))))) (map c.pl xs) z) (sym w.1) (d.truth_field rest)
merged laid s sl c h (Tree t ∷ ts) ss _ _ at z e g Rattle.gib_weave.specs.Environment.none = absurd (nil_cons g)
merged laid s sl c h (Tree t ∷ ts) ss _ _ at z e g (field {x = x} {y = y} {t = u} {xs = xs} {ts = us} th p dec f) =
    let rest = merged laid s sl c h ts ss xs us y z e (cons_rest u t.0 us (packed_due ts) g) f in
    let dec' : Dec laid s at t.0 (value_in c.env x) y = subst (λ (q : ℕ). Dec laid s at q (value_in c.env x) y) (cons_first u t.0 us (packed_due ts) g) dec in
    subst (λ (q : ℕ). Decs laid s at (Tree t ∷ ts) (more (value_in c.env x) (data_of (merge ts (map (value c.env) ss) (map (value c.env) (map var xs))))) (q ∷ map c.pl xs) z) (sym p) (d.tree_field dec' rest)

-- the scalars' bytes
pub merged_bytes : (laid : LaidOut) (s : Store) (sl : Slots) (c : Ctx) → HasAll laid s sl c → (ts : List Ty) (ss : List Atom) (xs tys : List ℕ) (at z : ℕ) → AtomsFit c.scope ss (scalar_types ts) → tys ≡ packed_due ts → Fields laid s c at xs tys z
    → scalar_bytes (scalar_types ts) (words sl (operands ss)) ≡ scalars (data_of (merge ts (map (value c.env) ss) (map (value c.env) (map var xs))))
merged_bytes laid s sl c h [] ss xs tys at z e g f = refl
merged_bytes laid s sl c h (Whole ∷ ts) [] xs tys at z e g f = absurd e
merged_bytes laid s sl c h (Whole ∷ ts) (x ∷ ss) xs tys at z e g f =
    let w = scalar_word laid s sl c x Whole refl h e.0 in
    ap (λ (q : List ℕ). q ++ scalar_bytes (scalar_types ts) (words sl (operands ss))) (word_scalar Whole (word sl (operand x)) (value c.env x) w) ∙ ap (λ (q : List ℕ). scalar (value c.env x) ++ q) (merged_bytes laid s sl c h ts ss xs tys at z e.1 g f)
merged_bytes laid s sl c h (Truth ∷ ts) [] xs tys at z e g f = absurd e
merged_bytes laid s sl c h (Truth ∷ ts) (x ∷ ss) xs tys at z e g f =
    let w = scalar_word laid s sl c x Truth refl h e.0 in
    ap (λ (q : List ℕ). q ++ scalar_bytes (scalar_types ts) (words sl (operands ss))) (word_scalar Truth (word sl (operand x)) (value c.env x) w) ∙ ap (λ (q : List ℕ). scalar (value c.env x) ++ q) (merged_bytes laid s sl c h ts ss xs tys at z e.1 g f)
merged_bytes laid s sl c h (Tree t ∷ ts) ss _ _ at z e g Rattle.gib_weave.specs.Environment.none = absurd (nil_cons g)
merged_bytes laid s sl c h (Tree t ∷ ts) ss _ _ at z e g (field {x = x} {y = y} {t = u} {xs = xs} {ts = us} th p dec f) =
    merged_bytes laid s sl c h ts ss xs us y z e (cons_rest u t.0 us (packed_due ts) g) f
    ∙ sym (ap (λ (q : List ℕ). q ++ scalars (data_of (merge ts (map (value c.env) ss) (map (value c.env) (map var xs))))) (Dec-no_scalar dec))

-- the slots of the fields past the first are their places
slot_places : (laid : LaidOut) (s : Store) (sl : Slots) (c : Ctx) → HasAll laid s sl c → (xs : List ℕ) → ArePlaced c.scope xs → map (slot sl) xs ≡ map c.pl xs
slot_places laid s sl c h [] p = refl
slot_places laid s sl c h (x ∷ xs) p =
    let e : slot sl x ≡ c.pl x = (subst (λ (so : Sort). Has laid s c so (slot sl x) (value_in c.env x) (c.pl x) (c.hd x)) p.0.1 (h.has x)).same in
    ap (λ (q : ℕ). q ∷ map (slot sl) xs) e ∙ ap (λ (q : List ℕ). c.pl x ∷ q) (slot_places laid s sl c h xs p.1)

pub offset_places : (laid : LaidOut) (s : Store) (sl : Slots) (c : Ctx) → HasAll laid s sl c → (b : Bool) (xs : List ℕ) → FurtherPlaced c.scope xs → offset_bytes b (map (slot sl) xs) ≡ offset_bytes b (map c.pl xs)
offset_places laid s sl c h false xs p = refl
offset_places laid s sl c h true [] p = refl
offset_places laid s sl c h true (x ∷ xs) p = ap addresses (slot_places laid s sl c h xs p)

pub slots_var : (sl : Slots) (xs : List ℕ) → map (slot sl) (slots_of (map var xs)) ≡ map (slot sl) xs
slots_var sl [] = refl
slots_var sl (x ∷ xs) = ap (λ (q : List ℕ). slot sl x ∷ q) (slots_var sl xs)
