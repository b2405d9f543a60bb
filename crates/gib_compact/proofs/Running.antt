-- A run of heads, as far as it was passed.
use Rattle.std.proofs.Common.{◌≡◌, ℕ, zero, suc, ◌+◌, ◌-◌, ◌<◌, List, [], ◌∷◌, ◌++◌, length, reverse, get_or, refl, sym, ap, subst, subst₂, ◌∙◌, arith, append_assoc, length-append}
use Rattle.gib_types.specs.Layout.{LaidOut, layout_at, head_size, packed_at}
use Rattle.gib_mem.specs.Memory.{Store, Holds, byte, none, more}
use Rattle.gib_file.specs.Packed.{tree}
use Rattle.gib_compact.specs.declared.walk.Back.{Back}
use Rattle.gib_compact.specs.declared.walk.Walk.{Walk}
use Rattle.gib_compact.specs.Left.{Left, IsLeft, Runs}
use Rattle.gib_compact.proofs.LeftLemmas.{append_small, next_value, head_opens}

-- From a up to e stand the first bytes of the rest, and behind them n values are due from e on, and then those of the ways back.
pub record Running (laid : LaidOut) (s : Store) (a e n : ℕ) (bs : List Back) (rest : List ℕ) : Type 0 where
  pub bytes : List ℕ
  pub later : List ℕ
  pub holds : Holds s a bytes
  pub long : a + length bytes ≡ e
  pub small_bytes : (i : ℕ) → get_or bytes i 0 < 256
  pub left : Left laid s e n bs later
  pub whole : rest ≡ bytes ++ later

pub running_start : {laid : LaidOut} {s : Store} {a n : ℕ} {bs : List Back} {rest : List ℕ} → Left laid s a n bs rest → Running laid s a a n bs rest
running_start l = record { bytes = []; later = _; holds = none; long = omega arith; small_bytes = λ i. omega arith; left = l; whole = refl }

-- bytes behind those that stand before them
behind : {s : Store} (a : ℕ) (xs : List ℕ) {ys : List ℕ} → Holds s a xs → Holds s (a + length xs) ys → Holds s a (xs ++ ys)
behind {s = s} a [] {ys = ys} h k = let e : a + length {A = ℕ} [] ≡ a = omega arith in subst (λ (q : ℕ). Holds s q ys) e k
behind {s = s} a (x ∷ xs) {ys = ys} (more e h) k =
    let q : a + length (x ∷ xs) ≡ a + 1 + length xs = omega arith in
    more e (behind (a + 1) xs h (subst (λ (r : ℕ). Holds s r ys) q k))

-- a head's bytes are small
head_small : (k : ℕ) (xs : List ℕ) → k < 254 → ((i : ℕ) → get_or xs i 0 < 256) → (i : ℕ) → get_or (k ∷ xs) i 0 < 256
head_small k xs lt h zero = omega (arith, lt)
head_small k xs lt h (suc i) = h i

-- the next head, which has no offsets
pub running_more : {laid : LaidOut} {s : Store} {a e n : ℕ} {bs : List Back} {rest : List ℕ} (k : ℕ) → 0 < n → s e ≡ byte k → k < 254 → (layout_at laid.table laid.with_offsets k).offsets ≡ 0 → Running laid s a e n bs rest
    → Running laid s a (e + head_size laid k) (packed_at laid k + (n - 1)) bs rest
running_more {laid = laid} {s = s} {a = a} {e = e} k some tag small flat r =
    let v = next_value some r.left in
    let o = head_opens k v.stands tag small v.left in
    let at : e + 1 + (layout_at laid.table laid.with_offsets k).offsets ≡ e + 1 = omega (arith, flat) in
    let scalars : Holds s (e + 1) o.scalars = subst (λ (q : ℕ). Holds s q o.scalars) at o.is.holds in
    let bytes = k ∷ o.scalars in
    record {
      bytes = r.bytes ++ bytes;
      later = o.later;
      holds = behind a r.bytes r.holds (subst (λ (q : ℕ). Holds s q bytes) (sym r.long) (more tag scalars));
      long = let n = length-append r.bytes bytes in omega (arith, n, r.long, o.is.long, flat);
      small_bytes = append_small r.bytes bytes r.small_bytes (head_small k o.scalars small o.is.small_bytes);
      left = o.left;
      whole = r.whole ∙ ap (λ (x : List ℕ). r.bytes ++ x) (v.whole ∙ o.whole) ∙ sym (append_assoc r.bytes bytes o.later);
    }

-- no head was passed
pub runs_none : {laid : LaidOut} {s : Store} {w : Walk} {rest : List ℕ} (a : ℕ) → IsLeft laid s w rest → Runs laid s a 0 w rest
runs_none a l = record { bytes = []; later = _; holds = none; long = refl; small_bytes = λ i. omega arith; left = l; whole = refl }

pub nothing_passed : {laid : LaidOut} {s : Store} {a n : ℕ} {w : Walk} {rest : List ℕ} → n ≡ 0 → Runs laid s a n w rest → IsLeft laid s w rest
nothing_passed {laid = laid} {s = s} {w = w} {rest = rest} e r = go r.bytes (r.long ∙ e) r.whole
  where
    go : (bytes : List ℕ) → length bytes ≡ 0 → rest ≡ bytes ++ r.later → IsLeft laid s w rest
    go [] n is = subst (λ (x : List ℕ). IsLeft laid s w x) (sym is) r.left
    go (b ∷ bytes) n is = absurd (omega (arith, n))

-- the run as far as it goes
pub running_end : {laid : LaidOut} {s : Store} {a e n : ℕ} {rest : List ℕ} (new : Walk) → new.at ≡ e → new.due ≡ n → Running laid s a e n (reverse new.back.items) rest → Runs laid s a (e - a) new rest
running_end {laid = laid} {s = s} new at due r = record {
  bytes = r.bytes;
  later = r.later;
  holds = r.holds;
  long = omega (arith, r.long);
  small_bytes = r.small_bytes;
  left = subst₂ (λ (x y : ℕ). Left laid s x y (reverse new.back.items) r.later) (sym at) (sym due) r.left;
  whole = r.whole;
}
