-- Single bytes of a list of bytes in a store.
use Rattle.std.proofs.Common.{◌≡◌, ℕ, zero, suc, ◌+◌, ◌<◌, List, length, get_or, set, ◌≢◌, below_more, get_or-set_other, get_or-set_same, subst, arith}
use Rattle.gib_mem.specs.Memory.{Store, Holds, byte, none, more}

pub Holds-at : {s : Store} {a : ℕ} {bs : List ℕ} → Holds s a bs → (i : ℕ) → i < length bs → s (a + i) ≡ byte (get_or bs i 0)
Holds-at none i lt = absurd (omega arith)
Holds-at {s = s} {a = a} (more {b = b} e h) zero lt = let z : a ≡ a + 0 = omega arith in subst (λ (x : ℕ). s x ≡ byte b) z e
Holds-at {s = s} {a = a} (more {b = b} {bs = bs} e h) (suc i) lt =
    let z : a + 1 + i ≡ a + suc i = omega arith in
    subst (λ (x : ℕ). s x ≡ byte (get_or bs i 0)) z (Holds-at h i (omega arith))

-- one more byte of a list that is read
pub read_step : (bs xs : List ℕ) (i r : ℕ) → i < length xs → ((j : ℕ) → j < i → get_or xs j 0 ≡ get_or bs j 0) → r ≡ get_or bs i 0
    → (j : ℕ) → j < i + 1 → get_or (set xs i r) j 0 ≡ get_or bs j 0
read_step bs xs i r lt below here = below_more _ _
    (λ k h. let ne : k ≢ i = omega arith in rw get_or-set_other (below k h))
    (rw get_or-set_same here)
