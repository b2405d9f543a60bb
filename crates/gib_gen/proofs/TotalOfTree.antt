-- The numbers of a value that is a tree: how many, and their sum.
use Rattle.std.proofs.Common.{◌≡◌, ℕ, ◌+◌, ◌%◌, ◌^◌, ◌<◌, List, [], ◌∷◌, ◌++◌, length, refl, sym, ap, ◌∙◌, arith, append-nil, length-append}
use Rattle.std.specs.Prelude.{ℤ, ◌+ℤ◌, FitsSigned}
use Rattle.std.specs.Int.{w64, cast_signed, cast_unsigned, int_wrap}
use Rattle.std.proofs.lemmas.Int.{to_z-of_z, of_z-to_z, int_wrap_fits, int_wrap-add_left, int_wrap-add_right, wrapping_add-bits}
use Rattle.std.proofs.Math.Facts.{Fits-lt-pow, Fits-of_z}
use Rattle.std.proofs.Math.Nat.{mod-lt}
use Rattle.gib_types.specs.declared.table.Ty.{Ty}
use Rattle.gib_types.specs.declared.table.Ty.TheVariants as ty
use Rattle.gib_types.specs.Table.{Table}
use Rattle.gib_types.specs.Tree.{Datum, whole, none, more, HasType, HaveTypes}
use Rattle.gib_print.specs.Numbers.{numbers, count_of, sum_of, total_of}
use Rattle.gib_gen.specs.NumberTree.{NumberTree, Leaf, Node, value_of, leaves, sum, tree_type}

-- each number in the leaves fits in 64 bits
abbrev AllFit : NumberTree → Type 0
AllFit (Leaf z) = FitsSigned w64 z
AllFit (Node l r) = AllFit l × AllFit r

field_fits : (table : Table) (z : ℤ) (ts : List Ty) → HaveTypes table (more (whole z) none) ts → FitsSigned w64 z
field_fits table z [] h = absurd h
field_fits table z (ty.Whole ∷ ts) h = h.0
field_fits table z (ty.Truth ∷ ts) h = absurd h.0
field_fits table z (ty.Tree t ∷ ts) h = absurd h.0

two_fields : (table : Table) (v w : Datum) (ts : List Ty) → HaveTypes table (more v (more w none)) ts → ((t : Ty) × HasType table v t) × ((u : Ty) × HasType table w u)
two_fields table v w [] h = absurd h
two_fields table v w (t ∷ []) h = absurd h.1
two_fields table v w (t ∷ (u ∷ ts)) h = ((t, h.0), (u, h.1.0))

tree_fits : (table : Table) (t : NumberTree) (ty : Ty) → HasType table (value_of t) ty → AllFit t
tree_fits table (Leaf z) ty.Whole h = absurd h
tree_fits table (Leaf z) ty.Truth h = absurd h
tree_fits table (Leaf z) (ty.Tree u) h = field_fits table z _ h.1
tree_fits table (Node l r) ty.Whole h = absurd h
tree_fits table (Node l r) ty.Truth h = absurd h
tree_fits table (Node l r) (ty.Tree u) h =
    let both = two_fields table (value_of l) (value_of r) _ h.1 in
    (tree_fits table l both.0.0 both.0.1, tree_fits table r both.1.0 both.1.1)

many : (t : NumberTree) → length (numbers (value_of t)) ≡ leaves t
many (Leaf z) = refl
many (Node l r) =
    let a = numbers (value_of l) in
    let b = numbers (value_of r) in
    omega (arith, length-append a (b ++ []), length-append b [], many l, many r)

sum_of_both : (xs ys : List ℤ) → sum_of (xs ++ ys) ≡ sum_of xs + sum_of ys
sum_of_both [] ys = omega arith
sum_of_both (x ∷ xs) ys = omega (arith, sum_of_both xs ys)

summed : (t : NumberTree) → AllFit t → total_of (numbers (value_of t)) ≡ int_wrap w64 (sum t)
summed (Leaf z) f =
    let small : cast_unsigned w64 z < 2 ^ 64 = Fits-lt-pow (Fits-of_z f) in
    let bits : (cast_unsigned w64 z + 0) % 2 ^ 64 ≡ cast_unsigned w64 z = omega (arith, small) in
    ap (cast_signed w64) bits ∙ to_z-of_z w64 z f ∙ sym (int_wrap_fits w64 z f)
summed (Node l r) f =
    let a = sum_of (numbers (value_of l)) in
    let b = sum_of (numbers (value_of r)) in
    let all : sum_of (numbers (value_of l) ++ (numbers (value_of r) ++ [])) ≡ a + b =
    sum_of_both (numbers (value_of l)) (numbers (value_of r) ++ []) ∙ ap (λ (zs : List ℤ). a + sum_of zs) (append-nil (numbers (value_of r))) in
    let m = a % 2 ^ 64 in
    let n = b % 2 ^ 64 in
    let p : m < 2 ^ 64 = mod-lt a (omega arith) in
    let q : n < 2 ^ 64 = mod-lt b (omega arith) in
    let bits : (a + b) % 2 ^ 64 ≡ (m + n) % 2 ^ 64 = omega arith in
    ap (λ (k : ℕ). cast_signed w64 (k % 2 ^ 64)) all ∙ ap (cast_signed w64) bits ∙ wrapping_add-bits w64 m n p q
    ∙ (λ i. int_wrap w64 (summed l f.0 i +ℤ summed r f.1 i))
    ∙ int_wrap-add_left w64 (sum l) (int_wrap w64 (sum r)) ∙ int_wrap-add_right w64 (sum l) (sum r)

-- A total is as the code keeps it.
pub total_kept : (zs : List ℤ) → cast_signed w64 (cast_unsigned w64 (total_of zs)) ≡ total_of zs
total_kept zs = ap (cast_signed w64) (of_z-to_z w64 (sum_of zs % 2 ^ 64) (mod-lt (sum_of zs) (omega arith)))

-- What is counted and summed of the numbers of a tree is of its leaves.
pub counted : (t : NumberTree) → count_of (numbers (value_of t)) ≡ leaves t % 2 ^ 64
counted t = ap (λ (n : ℕ). n % 2 ^ 64) (many t)

pub totalled : (table : Table) (t : NumberTree) → HasType table (value_of t) tree_type → total_of (numbers (value_of t)) ≡ int_wrap w64 (sum t)
totalled table t h = summed t (tree_fits table t tree_type h)
