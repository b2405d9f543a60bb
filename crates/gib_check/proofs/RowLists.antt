-- Rows, one after another.
use Rattle.std.proofs.Common.{◌≡◌, ◌-◌, ◌≤◌, Bool, true, false, ◌&&◌, List, [], ◌∷◌, map, length, take, drop, get_or, sym, ap, ◌∙◌, arith}
use Rattle.std.proofs.Math.Seq.{take-length}
use Rattle.std.specs.List.{list_all}
use Rattle.gib_syntax.specs.GenericTree.{GenericRow}
use Rattle.gib_check.specs.declared.named.RowDecl.{RowDecl}

pub rest-is : {A : Type 0} (x : A) (xs : List A) → take (length (x ∷ xs) - 1) xs ≡ xs
rest-is x xs = let n : length (x ∷ xs) - 1 ≡ length xs = omega arith in ap (λ k. take k xs) n ∙ take-length xs

pub row_failed : (P : GenericRow → Bool) (f : RowDecl → GenericRow) (rest : List RowDecl) (d : RowDecl) (b all : Bool) → 1 ≤ length rest → b ≡ P (f (get_or rest 0 d)) → b ≡ false → all ≡ list_all P (map f rest) → false ≡ all
row_failed P f [] d b all l e t h = absurd (omega (arith, l))
row_failed P f (r ∷ rest) d b all l e t h = sym (h ∙ ap (λ z. z && list_all P (map f rest)) (sym e ∙ t))

pub row_passed : (P : GenericRow → Bool) (f : RowDecl → GenericRow) (rest : List RowDecl) (d : RowDecl) (b all : Bool) → 1 ≤ length rest → b ≡ P (f (get_or rest 0 d)) → b ≡ true → all ≡ list_all P (map f rest) → all ≡ list_all P (map f (take (length rest - 1) (drop 1 rest)))
row_passed P f [] d b all l e t h = absurd (omega (arith, l))
row_passed P f (r ∷ rest) d b all l e t h =
    h ∙ ap (λ z. z && list_all P (map f rest)) (sym e ∙ t) ∙ ap (λ z. list_all P (map f z)) (sym (rest-is r rest))
