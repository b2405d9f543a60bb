-- Numbers whose digits are read one after another, and constructors by their numbers among their type's.
use Rattle.std.proofs.Common.{◌≡◌, ◌<◌, ◌≤◌, ◌+◌, ◌*◌, ◌/◌, ◌%◌, ℕ, List, [], ◌∷◌, ◌++◌, length, Some, sym, ap, subst, ◌∙◌, arith, append_assoc}
use Rattle.std.specs.Prelude.{◌↔◌}
use Rattle.std.specs.Fmt.{decimal}
use Rattle.std.proofs.lemmas.Fmt.{decimal_step, decimal_digit}
use Rattle.gib_types.specs.Table.{Table, con_at, first_at, count_at}

-- the first digit
pub first_digit : (text later : List ℕ) (d : ℕ) → text ≡ (48 + d) ∷ later → d < 10 → text ≡ decimal d ++ later
first_digit text later d is lt = is ∙ ap (λ (l : List ℕ). l ++ later) (sym (decimal_digit d lt))

-- a number begins with its first digit
pub starts : (text later : List ℕ) (d : ℕ) → text ≡ (48 + d) ∷ later → d < 10 → 0 < d → (0 < d) × (length later ≤ length text) × (text ≡ decimal d ++ later)
starts text later d is lt some = (some, omega (arith, ap length is), first_digit text later d is lt)

-- one digit more
next_digit : (n d : ℕ) (text later : List ℕ) → 0 < n → n ≤ 1844674407370955160 → d < 10 → text ≡ decimal n ++ ((48 + d) ∷ later) → text ≡ decimal (10 * n + d) ++ later
next_digit n d text later some le lt e =
    let m = 10 * n + d in
    let front : m / 10 ≡ n = omega (arith, lt) in
    let last : 48 + m % 10 ≡ 48 + d = omega (arith, lt) in
    let step : decimal m ≡ decimal n ++ (48 + d) ∷ [] =
    decimal_step m (omega (arith, some)) (omega (arith, le, lt)) ∙ ap (λ (x : ℕ). decimal x ++ (48 + m % 10) ∷ []) front ∙ ap (λ (x : ℕ). decimal n ++ x ∷ []) last in
    e ∙ sym (append_assoc (decimal n) ((48 + d) ∷ []) later) ∙ ap (λ (l : List ℕ). l ++ later) (sym step)

-- and goes on with another one
pub goes_on : (text rest later : List ℕ) (n d : ℕ) → (0 < n) × (length rest ≤ length text) × (text ≡ decimal n ++ rest) → n ≤ 1844674407370955160 → rest ≡ (48 + d) ∷ later → d < 10
    → (0 < 10 * n + d) × (length later ≤ length text) × (text ≡ decimal (10 * n + d) ++ later)
goes_on text rest later n d (some, le, so) most is lt =
    (omega (arith, some), omega (arith, le, ap length is), next_digit n d text later some most lt (so ∙ ap (λ (l : List ℕ). decimal n ++ l) is))

-- the constructors of a type stand together
pub nth_own : (table : Table) (ty first n : ℕ) → ((ty con : ℕ) → (con_at table ty con ≡ Some con) ↔ ((first_at table ty ≤ con) × (con < first_at table ty + count_at table ty)))
    → first ≡ first_at table ty → n < count_at table ty → con_at table ty (first + n) ≡ Some (first + n)
nth_own table ty first n together is lt = (together ty (first + n)).1 (omega (arith, is), omega (arith, is, lt))
