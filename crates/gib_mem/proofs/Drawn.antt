-- A chunk that is drawn: the vector gets its items, and the store its fresh addresses.
use Rattle.std.proofs.Common.{◌≡◌, ◌+◌, ◌*◌, ◌-◌, ◌<◌, ◌≤◌, ◌++◌, ◌∙◌, ℕ, Bool, true, false, List, Option, None, Some, length, nat_lt, ap, sym, arith, cond, inl, inr}
use Rattle.std.specs.Prelude.{slice_get, replicate}
use Rattle.std.proofs.lemmas.Bool.Decides.{nat_tests, leb_tells}
use Rattle.std.proofs.lemmas.List.{get_or_append_left, get_or-append_right, get_or-replicate, length-append, length-replicate}
use Rattle.std.proofs.lemmas.Option.{slice_get-get_or}
use Rattle.gib_mem.specs.Memory.{absent, open_chunk, after_draw, sole}
use Rattle.gib_mem.specs.Plain.{IsPlain, cell_of, plain_cells, plain_memory}
use Rattle.gib_mem.proofs.Puts.{open_before, open_in, open_past}

-- below the chunks drawn stand the items
inside : (bytes : List (Option ℕ)) (drawn q : ℕ) → q < 4096 * drawn → plain_cells bytes drawn q ≡ cell_of (slice_get bytes q)
inside bytes drawn q lt = let e : nat_lt q (4096 * drawn) ≡ true = grind (arith, nat_tests) in ap (λ (b : Bool). cond b (cell_of (slice_get bytes q)) absent) e

-- above them stands nothing
outside : (bytes : List (Option ℕ)) (drawn q : ℕ) → 4096 * drawn ≤ q → plain_cells bytes drawn q ≡ absent
outside bytes drawn q le = let e : nat_lt q (4096 * drawn) ≡ false = grind (arith, nat_tests) in ap (λ (b : Bool). cond b (cell_of (slice_get bytes q)) absent) e

-- an item of the first list
in_first : (xs ys : List (Option ℕ)) (q : ℕ) → q < length xs → slice_get (xs ++ ys) q ≡ slice_get xs q
in_first xs ys q lt =
    let long = length-append xs ys in
    slice_get-get_or (xs ++ ys) q None (omega (arith, long, lt)) ∙ (ap Some (get_or_append_left xs ys None q lt) ∙ sym (slice_get-get_or xs q None lt))

-- an item behind it, where all are not put
in_second : (xs : List (Option ℕ)) (n q : ℕ) → length xs ≤ q → q < length xs + n → slice_get (xs ++ replicate n None) q ≡ Some None
in_second xs n q le lt =
    let long = length-append xs (replicate {A = Option ℕ} n None) in
    let more = length-replicate {A = Option ℕ} n None in
    slice_get-get_or (xs ++ replicate n None) q None (omega (arith, long, more, lt))
    ∙ ap Some (get_or-append_right xs (replicate n None) (length xs) q None (λ i. length xs) le ∙ get_or-replicate n (q - length xs) None None (omega (arith, le, lt)))

at_address : (bytes : List (Option ℕ)) (drawn n q : ℕ) → length bytes ≡ 4096 * drawn → n ≡ 4096 → plain_cells (bytes ++ replicate n None) (drawn + 1) q ≡ open_chunk (plain_cells bytes drawn) drawn q
at_address bytes drawn n q long e = elim (leb_tells (4096 * drawn) q) [
  | inl high ↦ elim (leb_tells (4096 * drawn + 4096) q) [
    | inl past ↦ outside (bytes ++ replicate n None) (drawn + 1) q (omega (arith, past.1)) ∙ (sym (outside bytes drawn q high.1) ∙ sym (open_past (plain_cells bytes drawn) drawn q past.1))
    | inr here ↦ inside (bytes ++ replicate n None) (drawn + 1) q (omega (arith, here.1)) ∙ (ap cell_of (in_second bytes n q (omega (arith, long, high.1)) (omega (arith, long, here.1, e))) ∙ sym (open_in (plain_cells bytes drawn) drawn q high.1 here.1))
  ]
  | inr low ↦ inside (bytes ++ replicate n None) (drawn + 1) q (omega (arith, low.1)) ∙ (ap cell_of (in_first bytes (replicate n None) q (omega (arith, long, low.1))) ∙ (sym (inside bytes drawn q low.1) ∙ sym (open_before (plain_cells bytes drawn) drawn q low.1)))
]

-- with the items of one chunk more, one chunk more is drawn
pub chunk_drawn : (bytes : List (Option ℕ)) (drawn limit n : ℕ) → IsPlain bytes drawn limit → n ≡ 4096 → plain_memory (bytes ++ replicate n None) (drawn + 1) limit ≡ after_draw (plain_memory bytes drawn limit) drawn
chunk_drawn bytes drawn limit n p e = λ i. record { cells = λ q. at_address bytes drawn n q p.long e i; drawn = drawn + 1; share = drawn + 1; limit = limit; alone = true; holder = sole }
