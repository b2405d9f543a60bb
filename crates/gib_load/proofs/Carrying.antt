-- Bytes of a payload that wait behind those of a stream.
use Rattle.std.proofs.Common.{◌≡◌, ℕ, ◌+◌, ◌-◌, ◌*◌, ◌<◌, ◌≤◌, List, ◌++◌, length, take, drop, sym, ap, ◌∙◌, arith, inl, inr}
use Rattle.std.proofs.Math.Seq.{take-add}
use Rattle.std.proofs.lemmas.List.{take-append-drop}
use Rattle.std.proofs.lemmas.Bool.Decides.{leb_tells}
use Rattle.gib_mem.specs.Memory.{Memory, Owned, IsBounded, after_puts}
use Rattle.gib_mem.proofs.Parts.{take_long, drop_long, dropped_on, puts_append}
use Rattle.gib_mem.proofs.Puts.{puts_past, puts_before, puts_drawn, puts_limit}
use Rattle.gib_region.specs.Stream.{streamed}
use Rattle.gib_region.proofs.Bounds.{fresh_there}
use Rattle.gib_region.proofs.Waiting.{streamed_bounded}
use Rattle.gib_load.specs.Runs.{untaken, carried, Carries}
use Rattle.gib_load.specs.declared.run.Run.{Run}
use Rattle.gib_load.proofs.Parts.{tag_long}

-- so many bytes wait
pub untaken_long : (payload : List ℕ) (from to : ℕ) → to ≤ length payload → length (take (to - from) (drop from payload)) ≡ to - from
untaken_long payload from to le = let d = drop_long from payload in take_long (to - from) (drop from payload) (omega (arith, d, le))

-- none wait
pub none_taken : (m : Memory) (at from to : ℕ) (payload : List ℕ) → from ≡ to → after_puts m at (take (to - from) (drop from payload)) ≡ m
none_taken m at from to payload e = ap (λ (n : ℕ). after_puts m at (take n (drop from payload))) (let z : to - from ≡ 0 = omega (arith, e) in z)

-- one item more waits
one_more : (payload : List ℕ) (from to n : ℕ) → from ≤ to → take (to + n - from) (drop from payload) ≡ take (to - from) (drop from payload) ++ take n (drop to payload)
one_more payload from to n le =
    ap (λ (k : ℕ). take k (drop from payload)) (let e : to + n - from ≡ (to - from) + n = omega (arith, le) in e)
    ∙ take-add (to - from) n (drop from payload)
    ∙ ap (λ (l : List ℕ). take (to - from) (drop from payload) ++ take n l) (dropped_on payload from (to - from) ∙ ap (λ (k : ℕ). drop k payload) (let e : from + (to - from) ≡ to = omega (arith, le) in e))

-- and is put in two parts
pub put_more : (m : Memory) (payload : List ℕ) (start at from to n gaps : ℕ) → from ≤ to → to + n ≤ length payload → at ≡ start + (to - from) → 0 < n → gaps ≡ 0
    → after_puts m start (take (to + n - from) (drop from payload))
    ≡ after_puts (after_puts (after_puts m start (take (to - from) (drop from payload))) at (take 1 (take n (drop to payload)))) (at + 1 + 8 * gaps) (drop 1 (take n (drop to payload)))
put_more m payload start at from to n gaps le fit is some none =
    let before = take (to - from) (drop from payload) in
    let item = take n (drop to payload) in
    let long = untaken_long payload from to (omega (arith, fit)) in
    let d = drop_long to payload in
    let k = take_long n (drop to payload) (omega (arith, d, fit)) in
    let one = tag_long (take n (drop to payload)) (omega (arith, k, some)) in
    ap (after_puts m start) (one_more payload from to n le)
    ∙ sym (puts_append m start before item)
    ∙ ap (λ (q : ℕ). after_puts (after_puts m start before) q item) (let e : start + length (take (to - from) (drop from payload)) ≡ at = omega (arith, long, is) in e)
    ∙ ap (after_puts (after_puts m start before) at) (sym (take-append-drop 1 item))
    ∙ sym (puts_append (after_puts m start before) at (take 1 item) (drop 1 item))
    ∙ ap (λ (q : ℕ). after_puts (after_puts (after_puts m start before) at (take 1 item)) q (drop 1 item)) (let e : at + length (take 1 (take n (drop to payload))) ≡ at + 1 + 8 * gaps = omega (arith, one, none) in e)

-- what waits with it is fresh
pub owned_more : (m : Memory) (payload : List ℕ) (start at from to n k : ℕ) → to ≤ length payload → from ≤ to → at ≡ start + (to - from) → Owned m.cells start (to - from)
    → Owned (after_puts m start (take (to - from) (drop from payload))).cells at (n + k) → Owned m.cells start (to + n - from)
owned_more m payload start at from to n k fit le is o more = let long = untaken_long payload from to fit in record {
  all = λ q x y. elim (leb_tells at q) [
    | inl high ↦ (let z = high.1 in sym (puts_past m start (take (to - from) (drop from payload)) q (omega (arith, long, z, is))) ∙ more.all q z (omega (arith, y, is, le)))
    | inr low ↦ (let z = low.1 in o.all q x (omega (arith, z, is)))
  ];
}

puts_bounded : (m : Memory) (at : ℕ) (bs : List ℕ) → IsBounded m → Owned m.cells at (length bs) → IsBounded (after_puts m at bs)
puts_bounded m at bs b o = let d = puts_drawn m at bs in let l = puts_limit m at bs in record {
  above = λ q h. elim (leb_tells at q) [
    | inl high ↦ elim (leb_tells (at + length bs) q) [
      | inl past ↦ puts_past m at bs q past.1 ∙ b.above q (omega (arith, d, h))
      | inr inside ↦ absurd (fresh_there (sym (o.all q high.1 inside.1) ∙ b.above q (omega (arith, d, h))))
    ]
    | inr low ↦ puts_before m at bs q low.1 ∙ b.above q (omega (arith, d, h))
  ];
  order = let x = b.order in omega (arith, d, l, x);
  small = let x = b.small in omega (arith, l, x);
}

-- what waits lies in chunks that are drawn
pub carried_bounded : (m : Memory) (payload : List ℕ) (r : Run) → IsBounded m → Carries m payload r → IsBounded (carried m payload r)
carried_bounded m payload r b c =
    let long = untaken_long payload r.from r.to c.within in
    puts_bounded (streamed m r.stream) r.stream.at (untaken payload r) (streamed_bounded m r.stream b c.may) (record { all = λ q x y. c.owned.all q x (omega (arith, y, long)) })
