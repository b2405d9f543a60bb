-- Tokens cut at one of them, with others behind it.
use Rattle.std.proofs.Common.{◌≡◌, ℕ, suc, ◌+◌, ◌<◌, ◌≤◌, ◌-◌, List, [], ◌∷◌, ◌++◌, length, take, drop, refl, sym, ap, ◌∙◌, arith, length-append, append_assoc, ◌⊎◌, inl, inr}
use Rattle.std.proofs.lemmas.List.{take_at, take-append-drop, take-take}
use Rattle.std.proofs.lemmas.Bool.{cases_lt}
use Rattle.gib_base.specs.declared.token.Token.{Token}
use Rattle.gib_syntax.specs.Spelling.{Places}

-- The places of a text in which other tokens follow.
abbrev pub moved : Places → List Token → List Token → Places
moved at after more k = at ((k + length after) - length more)

pub moved_is : (at : Places) (after more : List Token) (k : ℕ) → moved at after more (k + length more) ≡ at (k + length after)
moved_is at after more k = let e : (k + length more + length after) - length more ≡ k + length after = omega arith in ap at e

-- The token behind which so many are left.
abbrev pub Splits : List Token → ℕ → Type 0
Splits ts k = (front : List Token) × (tok : Token) × (xs : List Token) × (ts ≡ front ++ tok ∷ xs) × (length xs ≡ k)

pub split_at : (ts : List Token) (k : ℕ) → k < length ts → Splits ts k
split_at [] k lt = absurd (omega arith)
split_at (c ∷ ts) k lt = go (split_at ts k) (cases_lt k (length ts)) where
  go : (k < length ts → Splits ts k) → (k < length ts) ⊎ (length ts ≤ k) → Splits (c ∷ ts) k
  go again (inl lt') = let r = again lt' in (c ∷ r.0, r.1, r.2, ap (λ l. c ∷ l) r.3, r.4)
  go again (inr le) = ([], c, ts, refl, omega arith)

pub front_of : (front : List Token) (tok : Token) (xs more : List Token)
    → take (length (front ++ tok ∷ xs) - length xs) (front ++ tok ∷ xs) ++ more ≡ front ++ tok ∷ more
front_of front tok xs more =
    let grouped : front ++ tok ∷ xs ≡ (front ++ tok ∷ []) ++ xs = sym (append_assoc front (tok ∷ []) xs) in
    let len : length (front ++ tok ∷ []) ≡ length (front ++ tok ∷ xs) - length xs =
    omega (arith, length-append front (tok ∷ []), length-append front (tok ∷ xs)) in
    ap (λ l. take (length (front ++ tok ∷ xs) - length xs) l ++ more) grouped
    ∙ ap (λ l. l ++ more) (take_at (front ++ tok ∷ []) xs (length (front ++ tok ∷ xs) - length xs) len)
    ∙ append_assoc front (tok ∷ []) more

-- What follows fewer of the tokens, where this follows more of them.
abbrev pub following : List Token → ℕ → ℕ → List Token → List Token
following ts j k more = drop (length ts - k) (take (length ts - j) ts) ++ more

pub fewer_tokens : (ts : List Token) (j k : ℕ) → j ≤ k → (more : List Token)
    → take (length ts - k) ts ++ following ts j k more ≡ take (length ts - j) ts ++ more
fewer_tokens ts j k le more =
    let shorter : length ts - k ≤ length ts - j = omega arith in
    let part = take (length ts - j) ts in
    let cut : take (length ts - k) part ≡ take (length ts - k) ts = take-take (length ts - k) (length ts - j) ts shorter in
    sym (append_assoc (take (length ts - k) ts) (drop (length ts - k) part) more)
    ∙ ap (λ (l : List Token). (l ++ drop (length ts - k) part) ++ more) (sym cut)
    ∙ ap (λ (l : List Token). l ++ more) (take-append-drop (length ts - k) part)

-- Two numbers of which none is below the other are one.
pub neither_below : (j k : ℕ) → (j < k → ⊥) → (k < j → ⊥) → j ≡ k
neither_below j k h i = go (cases_lt j k) (cases_lt k j) where
  go : (j < k) ⊎ (k ≤ j) → (k < j) ⊎ (j ≤ k) → j ≡ k
  go (inl lt) other = absurd (h lt)
  go (inr le) (inl lt) = absurd (i lt)
  go (inr le) (inr other) = omega arith
