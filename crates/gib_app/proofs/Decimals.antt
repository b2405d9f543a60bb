-- A number's text, one digit at a time from the last.
use Rattle.std.proofs.Common.{◌≡◌, ◌∙◌, ℕ, ◌+◌, ◌/◌, ◌%◌, ◌^◌, ◌<◌, ◌≤◌, List, [], ◌∷◌, ◌++◌, length, sym, ap, arith, append_assoc, length-append}
use Rattle.std.specs.Fmt.{decimal}
use Rattle.std.proofs.lemmas.Fmt.{decimal_step, decimal_digit}

-- the next digit was written before those that stand
pub next_digit : (n : ℕ) (before now all : List ℕ) → 10 ≤ n → n < 2 ^ 64 → now ≡ (48 + n % 10) ∷ before → decimal n ++ before ≡ all → decimal (n / 10) ++ now ≡ all
next_digit n before now all low high e h =
    rw e (sym (append_assoc (decimal (n / 10)) ((48 + n % 10) ∷ []) before) ∙ ap (λ d. d ++ before) (sym (decimal_step n low high)) ∙ h)

pub next_length : (n at : ℕ) → 10 ≤ n → n < 2 ^ 64 → length (decimal n) ≤ at → length (decimal (n / 10)) + 1 ≤ at
next_length n at low high le =
    let split = ap length (decimal_step n low high) ∙ length-append (decimal (n / 10)) ((48 + n % 10) ∷ []) in
    omega (arith, le, split)

pub last_digit : (n : ℕ) (before now all : List ℕ) → n < 10 → now ≡ (48 + n) ∷ before → decimal n ++ before ≡ all → now ≡ all
last_digit n before now all low e h = e ∙ ap (λ d. d ++ before) (sym (decimal_digit n low)) ∙ h

pub last_length : (n at : ℕ) → n < 10 → length (decimal n) ≤ at → 1 ≤ at
last_length n at low le = let one = ap length (decimal_digit n low) in omega (arith, le, one)
