-- Tags and numbers are read, and values skipped.
use Rattle.std.proofs.Common.{◌≡◌, ℕ, suc, ◌+◌, ◌*◌, ◌<◌, ◌≤◌, ◌^◌, Bool, true, false, List, [], ◌∷◌, cond, eqb, nat_lt, nat_le, ◌%◌, slice_get, Some, refl, sym, ap, subst, ◌∙◌, arith, slice_set, get_or, length}
use Rattle.std.specs.Int.{w64, from_le_bytes}
use Rattle.std.proofs.lemmas.Bool.Decides.{nat_tests}
use Rattle.gib_types.specs.Table.{fields_at, con_at}
use Rattle.gib_types.specs.Layout.{LaidOut, packed_count, head_size}
use Rattle.gib_types.specs.Tree.{Datum, con, Data}
use Rattle.gib_mem.specs.Memory.{Store, absent, byte, Holds, none, more}
use Rattle.gib_packed.specs.Head.{head_bytes}
use Rattle.gib_packed.specs.Decoding as d
use Rattle.gib_packed.specs.Decoding.{Points, Dec, Decs}
use Rattle.gib_packed.proofs.Spans as sp
use Rattle.gib_packed.proofs.Spans.{Span, Spans}
use Rattle.gib_packed.proofs.SpanLemmas.{Dec-span, Span-height}
use Rattle.gib_core.specs.Tree.{CoreTree}
use Rattle.gib_code.specs.declared.instruction.Arm.{Arm}
use Rattle.gib_code.specs.Program.{CodeTree}
use Rattle.gib_machine.specs.State.{State, Get, Ready, Looking, Following, SkipTurn, doing, slide, tell}
use Rattle.gib_machine.specs.Machine.{next, looked, skip_on, skipped, label_of, arms_of, passes}
use Rattle.gib_weave.specs.Owing.{Owed}
use Rattle.gib_weave.proofs.Numbers.{follows_number, turns_number}
use Rattle.std.proofs.lemmas.List.{length-set}
use Rattle.std.proofs.Math.Nat.{le-max_left, le-max_right}
use Rattle.gib_weave.proofs.EndWords.{Walked, no_walk, walk_redirect, walk_indirect}
use Rattle.gib_weave.specs.Paying.{Share}
use Rattle.gib_weave.specs.Places.{Owned, IsSmall}
use Rattle.gib_weave.specs.Sound.{Safe, moves, Moves, get}
use Rattle.gib_weave.proofs.Cells.{one_byte}
use Rattle.gib_packed.proofs.HoldsLemmas.{Holds-rest, Holds-first}

pub known_below : {s : Store} {a b : ℕ} → IsSmall s → s a ≡ byte b → a < 2 ^ 44
known_below {s} {a} {b} m e = go (nat_le (2 ^ 44) a) refl
  where
    no : absent ≡ byte b → ⊥
    no h = absurd cc

    go : (t : Bool) → nat_le (2 ^ 44) a ≡ t → a < 2 ^ 44
    go true h = absurd (no (sym (m.small a (grind (arith, nat_tests))) ∙ e))
    go false h = grind (arith, nat_tests)

pub known_small : {s : Store} {a b : ℕ} → IsSmall s → s a ≡ byte b → a < 2 ^ 64
known_small m e = let h = known_below m e in omega (arith, h)

-- a value stands below 2 ^ 64
pub dec_small : {laid : LaidOut} {s : Store} {a t z : ℕ} {v : Datum} → IsSmall s → Dec laid s a t v z → a < 2 ^ 64
dec_small m (d.redirect p e) = known_small m (Holds-first p.bytes)
dec_small m (d.indirect p e f) = known_small m (Holds-first p.bytes)
dec_small m (d.head k o h ds) = known_small m (Holds-first h)

module _ (core : CoreTree) (code : CodeTree) (owed : Owed) (own : Owned) (sh : Share) where
  -- a tag or a truth is read: one byte
  pub get_one : {s : Store} {m : State} {a b : ℕ} {k : ℕ → State} → next code m ≡ Get a 0 k → s a ≡ byte b → Safe core code owed own sh s (k b) → Moves core code owed own sh s m
  get_one {s} {m} {a} {b} {k} e h g = get e (b ∷ [], more h none, refl, (let q : b ≡ from_le_bytes w64 (b ∷ []) = omega arith in q)) g

  -- what comes at a head: it may be where the look began, or that is no head
  pub record Heads (s : Store) (m : State) (x : ℕ) (arms : List Arm) (t start : ℕ) (v : Datum) : Type 0 where
    pub at_head : (es : List ℕ) (a k z : ℕ) (vs : Data) (places : List ℕ) → Walked code.laid s t start a v m.words.ends es x → v ≡ con k vs → k < 254 → con_at code.laid.table t k ≡ Some k → Holds s a (head_bytes code.laid k places vs)
        → Decs code.laid s (a + head_size code.laid k) (fields_at code.laid.table k) vs places z → ((tag : ℕ) → s start ≡ byte tag → tag < 254 → a ≡ start)
        → Safe core code owed own sh s (record m { words = record { vars = slice_set m.words.vars x a; ends = es }; ip = label_of arms k; doing = Ready })

  -- the tag at a place, and what follows it
  pub record Looks (s : Store) (m : State) (x : ℕ) (arms : List Arm) (a : ℕ) : Type 0 where
    pub tag : ℕ
    pub known : s a ≡ byte tag
    pub goes : Safe core code owed own sh s (looked m x arms a tag)

  goes_to : (s : Store) (m : State) (x : ℕ) (arms : List Arm) (a tag b : ℕ) → arms_of (slice_get code.instructions m.ip) ≡ arms → Points s a tag b → Looks s m x arms b → Safe core code owed own sh s (doing m (Following x (a + 1) 0 7))
  goes_to s m x arms a tag b q pt l = follows_number core code owed own sh s b pt.fits m x (a + 1) (Holds-rest pt.bytes)
      (moves (get_one (ap (λ (r : List Arm). Get b 0 (looked (doing m (Looking x b)) x r b)) q) l.known l.goes))

  -- where the look began there is no head
  not_head : (s : Store) (start tag a : ℕ) → s start ≡ byte tag → 254 ≤ tag → (tag' : ℕ) → s start ≡ byte tag' → tag' < 254 → a ≡ start
  not_head s start tag a e big tag' e' lt = let f : tag ≡ tag' = one_byte (sym e ∙ e') in absurd (omega (arith, f, lt, big))

  looked_head : (s : Store) (m : State) (x : ℕ) (arms : List Arm) (a k : ℕ) → k < 254 → Safe core code owed own sh s (record m { words = slide m.words x a; ip = label_of arms k; doing = Ready }) → Safe core code owed own sh s (looked m x arms a k)
  looked_head s m x arms a k lt g =
      let e : nat_lt k 254 ≡ true = grind (arith, nat_tests) in
      subst (λ (b : Bool). Safe core code owed own sh s (cond b (record m { words = slide m.words x a; ip = label_of arms k; doing = Ready }) (passes (doing m (Following x (a + 1) 0 7)) x a (eqb k 254)))) (sym e) g

  pub looks : (s : Store) (m : State) (x : ℕ) (arms : List Arm) (a t z : ℕ) (v : Datum) → x < length m.words.ends → arms_of (slice_get code.instructions m.ip) ≡ arms → Dec code.laid s a t v z → Heads s m x arms t a v → Looks s m x arms a
  looks s m x arms a t z v lt q (d.redirect {b = b} pt dec) h = record {
    tag = 255;
    known = Holds-first pt.bytes;
    goes = goes_to s m x arms a 255 b q pt (looks s m x arms b t z v lt q dec (record { at_head = λ es a' k z' vs places w ev sm kc hb ds at_start. h.at_head es a' k z' vs places (walk_redirect pt w) ev sm kc hb ds (not_head s a 255 a' (Holds-first pt.bytes) (omega arith)) }));
  }
  looks s m x arms a t z v lt q (d.indirect {b = b} {y = y} pt dec e) h = record {
    tag = 254;
    known = Holds-first pt.bytes;
    goes = goes_to s (passes m x a true) x arms a 254 b q pt (looks s (passes m x a true) x arms b t y v (let i = length-set m.words.ends x (tell (get_or m.words.ends x 0) (a + 9)) in omega (arith, lt, i)) q dec
        (record { at_head = λ es a' k z' vs places w ev sm kc hb ds at_start. h.at_head es a' k z' vs places (walk_indirect lt pt dec w) ev sm kc hb ds (not_head s a 254 a' (Holds-first pt.bytes) (omega arith)) }));
  }
  looks s m x arms a t z v lt q (d.head {k = k} {vs = vs} {places = places} sm kc hb ds) h = record { tag = k; known = Holds-first hb; goes = looked_head s m x arms a k sm (h.at_head m.words.ends a k z vs places (no_walk m.words.ends x) refl sm kc hb ds (λ tag e lt. refl)) }

  -- Skipping.

  pub record SkipLooks (s : Store) (m : State) (y a n : ℕ) : Type 0 where
    pub tag : ℕ
    pub known : s a ≡ byte tag
    pub goes : Safe core code owed own sh s (skipped code.laid m y a n tag)

  skip_get : (s : Store) (m : State) (y a n : ℕ) → SkipLooks s m y a n → Safe core code owed own sh s (skip_on m y a (suc n))
  skip_get s m y a n l = moves (get_one refl l.known l.goes)

  skipped_head : (s : Store) (m : State) (y a n k : ℕ) → k < 254 → packed_count (fields_at code.laid.table k) + n < 2 ^ 64 → Safe core code owed own sh s (skip_on m y (a + head_size code.laid k) (packed_count (fields_at code.laid.table k) + n)) → Safe core code owed own sh s (skipped code.laid m y a n k)
  skipped_head s m y a n k lt fits g =
      let c = packed_count (fields_at code.laid.table k) + n in
      let e : eqb k 255 ≡ false = grind (arith, nat_tests) in
      let f : eqb k 254 ≡ false = grind (arith, nat_tests) in
      let q : c % 2 ^ 64 ≡ c = omega (arith, fits) in
      subst (λ (b : Bool). Safe core code owed own sh s (cond b (doing m (SkipTurn y n (a + 1) 0 7)) (cond (eqb k 254) (skip_on m y (a + 9) n) (skip_on m y (a + head_size code.laid k) (c % 2 ^ 64))))) (sym e)
      (subst (λ (b : Bool). Safe core code owed own sh s (cond b (skip_on m y (a + 9) n) (skip_on m y (a + head_size code.laid k) (c % 2 ^ 64)))) (sym f)
      (subst (λ (r : ℕ). Safe core code owed own sh s (skip_on m y (a + head_size code.laid k) r)) (sym q) g))

  module _ (few : (k : ℕ) → packed_count (fields_at code.laid.table k) ≤ 8) where
    mutual
      -- what stands there is skipped; so many values at most are due
      skip_span : (s : Store) (m : State) (y h a z n : ℕ) → Span code.laid s h a z → n + 8 * h < 2 ^ 64 → Safe core code owed own sh s (skip_on m y z n) → SkipLooks s m y a n
      skip_span s m y _ a z n (sp.redirect {h = h} {b = b} pt dec) lt g = record {
        tag = 255;
        known = Holds-first pt.bytes;
        goes = turns_number core code owed own sh s b pt.fits m y n (a + 1) (Holds-rest pt.bytes) (skip_get s m y b n (skip_span s m y h b z n dec (omega (arith, lt)) g));
      }
      skip_span s m y _ a z n (sp.indirect pt dec e) lt g = record { tag = 254; known = Holds-first pt.bytes; goes = subst (λ (q : ℕ). Safe core code owed own sh s (skip_on m y q n)) e g }
      skip_span s m y _ a z n (sp.head {h = h} {k = k} sm kc known ds) lt g =
          let i = few k in
          record { tag = k; known = known; goes = skipped_head s m y a n k sm (omega (arith, i, lt)) (skip_spans s m y h (a + head_size code.laid k) (packed_count (fields_at code.laid.table k)) z n ds (omega (arith, i, lt)) g) }

      skip_spans : (s : Store) (m : State) (y h a c z n : ℕ) → Spans code.laid s h a c z → (c + n) + 8 * h < 2 ^ 64 → Safe core code owed own sh s (skip_on m y z n) → Safe core code owed own sh s (skip_on m y a (c + n))
      skip_spans s m y _ a _ z n sp.done lt g = let e : 0 + n ≡ n = omega arith in subst (λ (q : ℕ). Safe core code owed own sh s (skip_on m y a q)) (sym e) g
      skip_spans s m y _ a _ z n (sp.next {g = g'} {h = h} {y = mid} {n = c} dec ds) lt g =
          let e : suc c + n ≡ suc (c + n) = omega arith in
          let l = le-max_left g' h in
          let r = le-max_right g' h in
          subst (λ (q : ℕ). Safe core code owed own sh s (skip_on m y a q)) (sym e)
          (skip_get s m y a (c + n) (skip_span s m y g' a mid (c + n) dec (omega (arith, lt, l)) (skip_spans s m y h mid c z n ds (omega (arith, lt, r)) g)))

    -- a value is skipped
    pub skip_looks : (s : Store) (m : State) (y a t z : ℕ) (v : Datum) → Dec code.laid s a t v z → IsSmall s → Safe core code owed own sh s (skip_on m y z 0) → SkipLooks s m y a 0
    skip_looks s m y a t z v dec sm g =
        let r = Dec-span dec in
        let h = Span-height {bound = 2 ^ 44} (record { below = λ q b e. known_below sm e }) r.1 in
        skip_span s m y r.0 a z 0 r.1 (omega (arith, h)) g
