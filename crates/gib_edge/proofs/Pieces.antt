-- Bytes that are put piece by piece.
use Rattle.std.proofs.Common.{inl, inr, ◌*◌, ◌/◌, ◌%◌, ◌<◌, ◌≡◌, ℕ, zero, suc, ◌+◌, ◌-◌, ◌≤◌, List, [], ◌∷◌, ◌++◌, Option, Some, None, Result, Ok, Err, take, drop, length, refl, sym, ap, ◌∙◌, arith, append_assoc, subst}
use Rattle.std.specs.Prelude.{OnErr, ◌⊎◌}
use Rattle.std.proofs.Math.Logic.{⊎_elim}
use Rattle.std.proofs.Math.Nat.{eq-or-lt_of_le}
use Rattle.std.proofs.lemmas.List.{take_all, length-drop}
use Rattle.std.specs.Io.KnownBytes as known
use Rattle.gib_edge.specs.Causes.{Appends, AppendsPart, Rose, HasPut, PutsWhole, PutsPieces}
use Rattle.gib_edge.specs.Views.{SinkView}

pub take-split : (n m : ℕ) (bs : List ℕ) → n ≤ m → take n bs ++ take (m - n) (drop n bs) ≡ take m bs
take-split zero m bs le = let e : m - zero ≡ m = omega arith in ap (λ k. take k bs) e
take-split (suc n) zero bs le = absurd (omega arith)
take-split (suc n) (suc m) [] le = nothing (suc m - suc n)
  where
    nothing : (k : ℕ) → (let xs : List ℕ = [] in xs) ++ take k [] ≡ []
    nothing zero = refl
    nothing (suc k) = refl
take-split (suc n) (suc m) (b ∷ bs) le =
    let e : suc m - suc n ≡ m - n = omega arith in
    ap (λ k. b ∷ (take n bs ++ take k (drop n bs))) e ∙ ap (λ cs. b ∷ cs) (take-split n m bs (omega arith))

-- so far, and one more piece
pub appends_more : (first mid last : Option (List ℕ)) (bs : List ℕ) (n m : ℕ) → n ≤ m → Appends first mid (take n bs) → Appends mid last (take (m - n) (drop n bs)) → Appends first last (take m bs)
appends_more None mid last bs n m le a b = tt
appends_more (Some before) None last bs n m le a b = absurd (cc)
appends_more (Some before) (Some now) last bs n m le a b =
    let e : now ≡ before ++ take n bs = cc in
    b ∙ ap Some (ap (λ x. x ++ take (m - n) (drop n bs)) e ∙ append_assoc before (take n bs) (take (m - n) (drop n bs)) ∙ ap (λ x. before ++ x) (take-split n m bs le))

take-take_min : (k j : ℕ) (bs : List ℕ) → (i : ℕ) × (take k (take j bs) ≡ take i bs)
take-take_min zero j bs = (0, refl)
take-take_min (suc k) zero bs = (0, refl)
take-take_min (suc k) (suc j) [] = (0, refl)
take-take_min (suc k) (suc j) (b ∷ bs) = let r = take-take_min k j bs in (suc r.0, ap (λ cs. b ∷ cs) r.1)

-- so far, and a part of one more piece
pub appends_part : (first mid last : Option (List ℕ)) (bs : List ℕ) (n m : ℕ) → n ≤ length bs → Appends first mid (take n bs) → AppendsPart mid last (take (m - n) (drop n bs)) → AppendsPart first last bs
appends_part None mid last bs n m le a b = tt
appends_part (Some before) None last bs n m le a b = absurd (cc)
appends_part (Some before) (Some now) last bs n m le a b =
    let e : now ≡ before ++ take n bs = cc in
    let t = take-take_min b.0 (m - n) (drop n bs) in
    let s : n + t.0 - n ≡ t.0 = omega arith in
    (n + t.0, b.1 ∙ ap Some (ap (λ x. x ++ take b.0 (take (m - n) (drop n bs))) e ∙ append_assoc before (take n bs) (take b.0 (take (m - n) (drop n bs))) ∙ ap (λ x. before ++ (take n bs ++ x)) (t.1 ∙ ap (λ k. take k (drop n bs)) (sym s)) ∙ ap (λ x. before ++ x) (take-split n (n + t.0) bs (omega arith))))

pub appends_none : (o : Option (List ℕ)) → Appends o o []
appends_none None = tt
appends_none (Some bs) = ap Some (sym (append-nil bs))
  where
    append-nil : (xs : List ℕ) → xs ++ [] ≡ xs
    append-nil [] = refl
    append-nil (x ∷ xs) = ap (λ ys. x ∷ ys) (append-nil xs)

pub rose_since : (a b c : ℕ) → a ≤ b → Rose b c → Rose a c
rose_since a b c le (inl r) = inl (omega arith)
rose_since a b c le (inr r) = inr r

-- a whole piece more
pub whole_more : (before now next : SinkView) (count : ℕ) → PutsWhole before now count → HasPut now next 4096 → PutsWhole before next (count + 1)
whole_more before now next count so_far more =
    let one = more.whole refl in
    record { puts = omega (arith, so_far.puts, more.puts); whole = omega (arith, so_far.whole, one) }

-- behind whole pieces a last one, which may be whole too
pub last_more : (before now next : SinkView) (count bytes : ℕ) → PutsWhole before now count → 0 < bytes → bytes ≤ 4096 → HasPut now next bytes → PutsPieces before next (4096 * count + bytes)
last_more before now next count bytes so_far some few more = record {
  puts = omega (arith, so_far.puts, more.puts, some, few);
  whole = ⊎_elim
      (λ (full : bytes ≡ 4096). let one = more.whole full in omega (arith, so_far.whole, one, full))
      (λ (short : bytes < 4096). let same = more.other (λ e. omega arith) in omega (arith, so_far.whole, same, short))
      (eq-or-lt_of_le few);
  last = λ any. more.last ∙ (omega (arith, some, few));
}

-- What was put up to a place: all but the last piece are whole, and the last one is, or it ends all.
pub record Put (at len : ℕ) (before now : SinkView) : Type 0 where
  pub pieces : PutsPieces before now at
  pub aligned : (at % 4096 ≡ 0) ⊎ (at ≡ len)

pub put_none : (len : ℕ) (sink : SinkView) → Put 0 len sink sink
put_none len sink = record { pieces = record { puts = omega arith; whole = omega arith; last = λ none. omega arith }; aligned = inl refl }

-- where whole pieces end
whole_of : (before now : SinkView) (at : ℕ) → at % 4096 ≡ 0 → PutsPieces before now at → PutsWhole before now (at / 4096)
whole_of before now at even put = record { puts = omega (arith, even, put.puts); whole = put.whole }

-- the next piece, whether it fails or not
pub put_next : (at end' len : ℕ) (before now next : SinkView) → at < len → at < end' → end' ≤ at + 4096 → Put at len before now → HasPut now next (end' - at) → PutsPieces before next end'
put_next at end' len before now next lt some few put more = go put.aligned
  where
    go : (at % 4096 ≡ 0) ⊎ (at ≡ len) → PutsPieces before next end'
    go (inr all) = absurd (omega arith)
    go (inl even) =
        let e : 4096 * (at / 4096) + (end' - at) ≡ end' = omega (arith, even, some) in
        subst (PutsPieces before next) e (last_more before now next (at / 4096) (end' - at) (whole_of before now at even put.pieces) (omega arith) (omega arith) more)

pub put_more : (at end' len : ℕ) (before now next : SinkView) → at < len → (end' ≡ len) × (len - at < 4096) ⊎ (end' ≡ at + 4096) → Put at len before now → HasPut now next (end' - at) → Put end' len before next
put_more at end' len before now next lt to put more = go to put.aligned
  where
    go : (end' ≡ len) × (len - at < 4096) ⊎ (end' ≡ at + 4096) → (at % 4096 ≡ 0) ⊎ (at ≡ len) → Put end' len before next
    go (inl last) even = record { pieces = put_next at end' len before now next lt (omega (arith, last.0)) (omega (arith, last.0, last.1)) put more; aligned = inr last.0 }
    go (inr full) (inr all) = absurd (omega arith)
    go (inr full) (inl even) = record { pieces = put_next at end' len before now next lt (omega arith) (omega arith) put more; aligned = inl (omega (arith, full, even)) }

pub on_err : {T E X : Type 0} (r : Result T E) → X → OnErr r X
on_err (Ok t) x = tt
on_err (Err e) x = x

-- what is left, as a slice reads it
rest : (at : ℕ) (bs : List ℕ) → take (length bs - at) (drop at bs) ≡ drop at bs
rest at bs = let n : length (drop at bs) ≡ length bs - at = length-drop at bs in take_all (length bs - at) (drop at bs) (omega arith)

-- so far, and what a writer that tells its bytes took of the rest
pub appends_next : (first mid last : Option (List ℕ)) (bs : List ℕ) (at count : ℕ) → Appends first mid (take at bs) → known.Appends mid last (take count (take (length bs - at) (drop at bs))) → Appends first last (take (at + count) bs)
appends_next first mid last bs at count so_far next =
    let e : at + count - at ≡ count = omega arith in
    let piece : take (at + count - at) (drop at bs) ≡ take count (take (length bs - at) (drop at bs)) = ap (λ k. take k (drop at bs)) e ∙ ap (λ xs. take count xs) (sym (rest at bs)) in
    appends_more first mid last bs at (at + count) (omega arith) so_far (subst (λ xs. Appends mid last xs) (sym piece) (told_appends mid last (take count (take (length bs - at) (drop at bs))) next))
  where
    told_appends : (old new : Option (List ℕ)) (bs : List ℕ) → known.Appends old new bs → Appends old new bs
    told_appends None new bs h = tt
    told_appends (Some xs) None bs h = absurd h
    told_appends (Some xs) (Some ys) bs h = ap Some h

-- a part of the rest ends within the whole
pub next_within : (bs : List ℕ) (at count : ℕ) → at ≤ length bs → count ≤ length (take (length bs - at) (drop at bs)) → at + count ≤ length bs
next_within bs at count le bound =
    let n : length (take (length bs - at) (drop at bs)) ≡ length bs - at = ap length (rest at bs) ∙ length-drop at bs in omega arith
