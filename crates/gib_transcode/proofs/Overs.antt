-- Bytes that are put over others.
use Rattle.std.proofs.Common.{◌≡◌, ◌≤◌, ◌+◌, ℕ, zero, suc, List, [], ◌∷◌, ◌++◌, length, take, drop, refl, sym, ap, ◌∙◌, arith}
use Rattle.std.proofs.Math.ListN.{drop_of_length-le}
use Rattle.std.proofs.lemmas.List.{append-nil, take_all}
use Rattle.gib_transcode.specs.Rooms.{over}

pub over_length : (place : ℕ) (bs out : List ℕ) → length (over place bs out) ≡ length out
over_length place [] out = refl
over_length place (b ∷ bs) [] = refl
over_length zero (b ∷ bs) (o ∷ out) = ap suc (over_length zero bs out)
over_length (suc place) (b ∷ bs) (o ∷ out) = ap suc (over_length place (b ∷ bs) out)

-- what stands behind is not touched
pub over_append : (place : ℕ) (bs out more : List ℕ) → place + length bs ≤ length out → over place bs (out ++ more) ≡ over place bs out ++ more
over_append place [] out more le = refl
over_append place (b ∷ bs) [] more le = absurd (omega (arith, le))
over_append zero (b ∷ bs) (o ∷ out) more le = ap (λ (l : List ℕ). b ∷ l) (over_append zero bs out more (omega (arith, le)))
over_append (suc place) (b ∷ bs) (o ∷ out) more le = ap (λ (l : List ℕ). o ∷ l) (over_append place (b ∷ bs) out more (omega (arith, le)))

-- bytes put one after another are put together
pub over_over : (place n : ℕ) (xs bs out : List ℕ) → n ≡ place + length xs → over n bs (over place xs out) ≡ over place (xs ++ bs) out
over_over place n xs [] out e = ap (λ (l : List ℕ). over place l out) (sym (append-nil xs))
over_over place n [] (b ∷ bs) out e = ap (λ (m : ℕ). over m (b ∷ bs) out) (let same : n ≡ place = omega (arith, e) in same)
over_over place zero (x ∷ xs) (b ∷ bs) out e = absurd (omega (arith, e))
over_over place (suc n) (x ∷ xs) (b ∷ bs) [] e = refl
over_over zero (suc n) (x ∷ xs) (b ∷ bs) (o ∷ out) e = ap (λ (l : List ℕ). x ∷ l) (over_over zero n xs (b ∷ bs) out (omega (arith, e)))
over_over (suc place) (suc n) (x ∷ xs) (b ∷ bs) (o ∷ out) e = ap (λ (l : List ℕ). o ∷ l) (over_over place n (x ∷ xs) (b ∷ bs) out (omega (arith, e)))

over_all : (bs zs : List ℕ) → length bs ≡ length zs → over zero bs zs ≡ bs
over_all [] [] e = refl
over_all [] (z ∷ zs) e = absurd (omega (arith, e))
over_all (b ∷ bs) [] e = absurd (omega (arith, e))
over_all (b ∷ bs) (z ∷ zs) e = ap (λ (l : List ℕ). b ∷ l) (over_all bs zs (omega (arith, e)))

-- room behind a byte is filled
pub over_room : (out : List ℕ) (k : ℕ) (bs zs : List ℕ) → length bs ≡ length zs → over (suc (length out)) bs (out ++ k ∷ zs) ≡ out ++ k ∷ bs
over_room out k [] [] e = refl
over_room out k [] (z ∷ zs) e = absurd (omega (arith, e))
over_room out k (b ∷ bs) [] e = absurd (omega (arith, e))
over_room [] k (b ∷ bs) (z ∷ zs) e = ap (λ (l : List ℕ). k ∷ l) (over_all (b ∷ bs) (z ∷ zs) e)
over_room (o ∷ out) k (b ∷ bs) (z ∷ zs) e = ap (λ (l : List ℕ). o ∷ l) (over_room out k (b ∷ bs) (z ∷ zs) e)

over_front : (k : ℕ) (bs out : List ℕ) → k ≡ length bs → length bs ≤ length out → bs ++ drop k out ≡ over zero bs out
over_front k [] out e le = ap (λ (m : ℕ). drop m out) (let same : k ≡ 0 = omega (arith, e) in same)
over_front zero (b ∷ bs) out e le = absurd (omega (arith, e))
over_front (suc k) (b ∷ bs) [] e le = absurd (omega (arith, le))
over_front (suc k) (b ∷ bs) (o ∷ out) e le = ap (λ (l : List ℕ). b ∷ l) (over_front k bs out (omega (arith, e)) (omega (arith, le)))

-- as slices have it
pub over_is : (place k : ℕ) (bs out : List ℕ) → k ≡ length bs → place + length bs ≤ length out → take place out ++ (bs ++ drop k (drop place out)) ≡ over place bs out
over_is zero k bs out e le = over_front k bs out e (omega (arith, le))
over_is (suc place) k [] [] e le = ap (λ (m : ℕ). drop m []) (let same : k ≡ 0 = omega (arith, e) in same)
over_is (suc place) k (b ∷ bs) [] e le = absurd (omega (arith, le))
over_is (suc place) k [] (o ∷ out) e le = ap (λ (l : List ℕ). o ∷ l) (over_is place k [] out e (omega (arith, le)))
over_is (suc place) k (b ∷ bs) (o ∷ out) e le = ap (λ (l : List ℕ). o ∷ l) (over_is place k (b ∷ bs) out e (omega (arith, le)))

-- what was written over a vector's cells is written over its items
pub written_back : (place : ℕ) (bs items cells new : List ℕ) (count : ℕ) → new ≡ over place bs cells → cells ≡ items → count ≡ length items
    → take count (new ++ drop (length new) items) ≡ over place bs items
written_back place bs items cells new count put same size =
    let is : new ≡ over place bs items = put ∙ ap (λ (l : List ℕ). over place bs l) same in
    let long : length new ≡ length items = ap length is ∙ over_length place bs items in
    let nil : drop (length new) items ≡ [] = drop_of_length-le items {i = length new} (omega (arith, long)) in
    ap (λ (l : List ℕ). take count (new ++ l)) nil ∙ ap (λ (l : List ℕ). take count l) (append-nil new) ∙ take_all count new (omega (arith, long, size)) ∙ is
