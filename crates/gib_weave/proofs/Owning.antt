-- A task needs no more of its own than what is fresh.
use Rattle.std.proofs.Common.{◌≡◌, ℕ, zero, suc, ◌+◌, ◌*◌, ◌<◌, ◌≤◌, List, [], ◌∷◌, cond, inl, inr, refl, sym, ◌∙◌, arith}
use Rattle.gib_mem.specs.Memory.{fresh, byte, Store, set_cell, open_chunk}
use Rattle.gib_core.specs.Tree.{CoreTree}
use Rattle.gib_code.specs.Program.{CodeTree}
use Rattle.gib_machine.specs.State.{State, Open as OpenRegion}
use Rattle.gib_weave.specs.Owing.{Owed}
use Rattle.gib_weave.specs.Paying.{Share}
use Rattle.gib_weave.specs.Places.{Apart, Owned, put_all, within, with_chunk}
use Rattle.gib_weave.specs.Sound.{InMemory, Safe, Rests, Moves, rests, counts, moves, at_term, unwinds, over, silent, get, puts, draws, ended}
use Rattle.gib_weave.proofs.Basics.{by_test}
use Rattle.gib_weave.proofs.Places.{IsSided, zero_or_one, open-outside}
use Rattle.gib_weave.proofs.Cells.{byte_fresh}

-- What is fresh and was the task's own still is its own.
pub record StillOwns (own more : Owned) (s : Store) : Type 0 where
  pub kept : (q : ℕ) → s q ≡ fresh → 0 < own q → 0 < more q

-- What was the task's own is its own.
pub owns_all : (own more : Owned) (s : Store) → ((q : ℕ) → own q ≤ more q) → StillOwns own more s
owns_all own more s h = record { kept = λ q f o. let i = h q in omega (arith, i, o) }

owns_put : (own more : Owned) (s : Store) (a b : ℕ) → StillOwns own more s → StillOwns own more (set_cell s a (byte b))
owns_put own more s a b k = record { kept = λ q. by_test q a (λ t. cond t (byte b) (s q) ≡ fresh → 0 < own q → 0 < more q) (λ e f h. absurd (byte_fresh f)) (λ e f h. k.kept q f h) }

owns_puts : (own more : Owned) (s : Store) (a : ℕ) (bs : List ℕ) → StillOwns own more s → StillOwns own more (put_all s a bs)
owns_puts own more s a [] k = k
owns_puts own more s a (b ∷ bs) k = owns_puts own more (set_cell s a (byte b)) (a + 1) bs (owns_put own more s a b k)

owns_open : (own more : Owned) (s : Store) (c : ℕ) → StillOwns own more s → StillOwns (with_chunk own c) (with_chunk more c) (open_chunk s c)
owns_open own more s c k = record { kept = λ q f h. go q f h (zero_or_one (4096 * c) 4096 q) }
  where
    go : (q : ℕ) → open_chunk s c q ≡ fresh → 0 < own q + within (4096 * c) 4096 q → IsSided (4096 * c) 4096 q → 0 < more q + within (4096 * c) 4096 q
    go q f h (inl z) = let i = k.kept q (sym (open-outside s c q z) ∙ f) (omega (arith, h, z)) in omega (arith, i)
    go q f h (inr i) = omega (arith, i.0)

owns_apart : (own more : Owned) (s : Store) (n : ℕ → ℕ) → StillOwns own more s → Apart own s n → Apart more s n
owns_apart own more s n k a = record { mine = λ q. go q (n q) refl; once = a.once; fresh = a.fresh }
  where
    go : (q i : ℕ) → n q ≡ i → n q ≤ more q
    go q zero e = omega (arith, e)
    go q (suc i) e = let one = a.once q in let mine = a.mine q in let f = k.kept q (a.fresh q (omega (arith, e))) (omega (arith, e, mine)) in omega (arith, one, f)

owned_memory : {heads : ℕ → ℕ} {rs : List OpenRegion} {ts : List ℕ} (own more : Owned) (s : Store) → StillOwns own more s → InMemory own s heads rs ts → InMemory more s heads rs ts
owned_memory own more s k at = record { places = owns_apart own more s _ k at.places; rooms = at.rooms; tail_rooms = at.tail_rooms; small = at.small }

module _ (core : CoreTree) (code : CodeTree) (owed : Owed) where
  rests_owned : (own more : Owned) (sh : Share) (s : Store) (m : State) → StillOwns own more s → Rests core code owed own sh s m → Rests core code owed more sh s m
  rests_owned own more sh s m o (over {a = a} e d h) = over e d h
  rests_owned own more sh s m o (unwinds h) = unwinds h
  rests_owned own more sh s m o (at_term {u = t} {c = c} {k = k} at) = at_term {u = t} {c = c} {k = k} record {
    ready = at.ready;
    group = at.group;
    low = at.low;
    fits = at.fits;
    line = at.line;
    memory = owned_memory own more s o at.memory;
    ties = at.ties;
    owes = at.owes;
    counted = at.counted;
    room = at.room;
  }

  mutual
    pub safe_owned : (own more : Owned) (sh : Share) (s : Store) (m : State) → Safe core code owed own sh s m → StillOwns own more s → Safe core code owed more sh s m
    safe_owned own more sh s m (rests h) o = rests (rests_owned own more sh s m o h)
    safe_owned own more sh s m (counts {sh' = sh'} p h) o = counts p (safe_owned own more sh' s m h o)
    safe_owned own more sh s m (moves h) o = moves (moves_owned own more sh s m h o)

    moves_owned : (own more : Owned) (sh : Share) (s : Store) (m : State) → Moves core code owed own sh s m → StillOwns own more s → Moves core code owed more sh s m
    moves_owned own more sh s m (silent {m' = m'} e h) o = silent e (safe_owned own more sh s m' h o)
    moves_owned own more sh s m (get {x = x} {k = k} e i h) o = get e i (safe_owned own more sh s (k x) h o)
    moves_owned own more sh s m (puts {m' = m'} {a = a} {b = b} {bs = bs} e f h) o =
        puts e (record { mine = λ q l i. o.kept q (f.all q l i) (f.mine q l i); all = f.all }) (safe_owned own more sh (put_all s a (b ∷ bs)) m' h (owns_puts own more s a (b ∷ bs) o))
    moves_owned own more sh s m (draws {k = k} sh' e d h) o = draws sh' e d (λ c new. safe_owned (with_chunk own c) (with_chunk more c) (sh' c) (open_chunk s c) (k c) (h c new) (owns_open own more s c o))
    moves_owned own more sh s m (ended {a = a} e d h) o = ended e d h
