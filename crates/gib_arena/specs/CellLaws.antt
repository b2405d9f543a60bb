-- Laws of what stands at each address for a pass.
use Rattle.std.proofs.Common.{◌≡◌, ℕ, ◌*◌, ◌/◌, ◌<◌, ◌≤◌, cond, eqb, true, false, eq-eqb, ne_eqb, Bool, List, [], ◌∷◌, refl, ap, ◌∙◌, arith, ◌⊎◌, inl, inr, ⊎_elim}
use Rattle.std.specs.Prelude.{Option, Some, None}
use Rattle.std.proofs.lemmas.Bool.{lt-ltb, le-ltb}
use mathlib.Core.Logic.{dite}
use native.Mathlib.Decide.{dec_le, ℕ_discrete}
use Rattle.gib_mem.specs.Memory.{Cell, absent, fresh}
use Rattle.gib_arena.specs.declared.view.Holding.{Holding}
use Rattle.gib_arena.specs.Sums.{times}
use Rattle.gib_arena.specs.Bytes.{chunk_of, Has, byte_at, IsOwned, IsSound}
use Rattle.gib_arena.specs.Cells.{byte_or, cells_of}

pub option_cases : (o : Option ℕ) → (o ≡ None) ⊎ ((b : ℕ) × (o ≡ Some b))
option_cases None = inl refl
option_cases (Some b) = inr (b, refl)

pub byte_has : (l : List (ℕ × ℕ)) (a b : ℕ) → byte_at l a ≡ Some b → Has l a b
byte_has [] a b e = let q : None ≡ Some b = e in cc
byte_has (x ∷ xs) a b e = dite (ℕ_discrete x.0 a)
    (λ s. let t : eqb x.0 a ≡ true = eq-eqb x.0 a s in let e' : Some x.1 ≡ Some b = rw t at e in inl (s, cc))
    (λ ne. let t : eqb x.0 a ≡ false = ne_eqb x.0 a ne in let e' : byte_at xs a ≡ Some b = rw t at e in inr (byte_has xs a b e'))

-- What stands at an address of an own chunk: the byte that was put there, or a place to put one.
abbrev pub own_cell : Holding → ℕ → Cell
own_cell h a = byte_or fresh (byte_at h.own a)

-- What stands at an address of another's chunk: the byte that was learned, or nothing that may be touched.
abbrev pub learned_cell : Holding → ℕ → Cell
learned_cell h a = byte_or absent (byte_at h.learned a)

pub cell_owned : (h : Holding) (a : ℕ) → IsOwned h (chunk_of a) → cells_of h a ≡ own_cell h a
cell_owned h a o = ap (λ (b : Bool). cond b (own_cell h a) (learned_cell h a)) (lt-ltb 0 (times (chunk_of a) h.chunks) o)

pub cell_other : (h : Holding) (a : ℕ) → times (chunk_of a) h.chunks ≡ 0 → cells_of h a ≡ learned_cell h a
cell_other h a z = ap (λ (b : Bool). cond b (own_cell h a) (learned_cell h a)) (le-ltb 0 (times (chunk_of a) h.chunks) (omega arith))

pub cell_cases : (h : Holding) (a : ℕ) → (IsOwned h (chunk_of a) × (cells_of h a ≡ own_cell h a)) ⊎ ((times (chunk_of a) h.chunks ≡ 0) × (cells_of h a ≡ learned_cell h a))
cell_cases h a = dite (dec_le 1 (times (chunk_of a) h.chunks)) (λ l. inl (l, cell_owned h a l)) (λ l. let z : times (chunk_of a) h.chunks ≡ 0 = omega arith in inr (z, cell_other h a z))

-- Nothing stands in chunks that were not seen.
pub bounded : (limit : ℕ) (h : Holding) → IsSound limit h → (a : ℕ) → 4096 * h.seen ≤ a → cells_of h a ≡ absent
bounded limit h s a l = ⊎_elim
    (λ (t : IsOwned h (chunk_of a) × (cells_of h a ≡ own_cell h a)). let k : a / 4096 < h.seen = s.own_seen (chunk_of a) t.0 in absurd (omega arith))
    (λ (t : (times (chunk_of a) h.chunks ≡ 0) × (cells_of h a ≡ learned_cell h a)). ⊎_elim
    (λ none. t.1 ∙ ap (byte_or absent) none)
    (λ (u : (b : ℕ) × (byte_at h.learned a ≡ Some b)). let k = s.learned_seen a u.0 (byte_has h.learned a u.0 u.1) in absurd (omega arith)) (option_cases (byte_at h.learned a)))
    (cell_cases h a)
