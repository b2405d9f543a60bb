-- With one level more, reading goes past the token that was nested too deep, and what was read or refused stays.
use Rattle.std.proofs.Common.{◌≡◌, ℕ, zero, suc, ◌+◌, ◌-◌, ◌<◌, ◌≤◌, Bool, true, false, List, [], ◌∷◌, length, Ok, Err, refl, sym, ap, ◌∙◌, subst, arith, ◌⊎◌, inl, inr}
use Rattle.gib_base.specs.declared.token.Token.{Token}
use Rattle.gib_reads.specs.Readers.{At, Nested, Read, Reader, then_at, next_is, many_step, many_at, many}
use Rattle.gib_reads.proofs.Tools.{done, failed}
use Rattle.gib_reads.proofs.Local.{Kind, Refused, Deep, fault, fail_ok, fault_within, at_is_nested, ok_parts, then_done, then_failed, Within}

-- What a reader with more levels does, beside one with fewer.
pub record Past {A : Type 0} (p q : Reader A) (ws : List Token) : Type 0 where
  pub ok : (a : A) (rest : List Token) → p ws ≡ done a rest → q ws ≡ done a rest
  pub refused : (j : ℕ) → p ws ≡ failed (At j) → q ws ≡ failed (At j)
  pub sunk_bad : (j : ℕ) (c : Kind) (k : ℕ) → p ws ≡ failed (Nested j) → q ws ≡ failed (fault c k) → k < j
  pub sunk_ok : (j : ℕ) (a : A) (rest : List Token) → p ws ≡ failed (Nested j) → q ws ≡ done a rest → length rest < j
  pub ok_within : (a : A) (rest : List Token) → q ws ≡ done a rest → length rest ≤ length ws
  pub bad_within : (c : Kind) (k : ℕ) → q ws ≡ failed (fault c k) → k ≤ length ws

pub pure_past : {A : Type 0} (a : A) (ws : List Token) → Past (done a) (done a) ws
pure_past a ws = record {
  ok = λ b rest e. e;
  refused = λ j e. e;
  sunk_bad = λ j c k e f. absurd (fail_ok (Nested j) a ws (sym e));
  sunk_ok = λ j b rest e f. absurd (fail_ok (Nested j) a ws (sym e));
  ok_within = λ b rest e. let l : length ws ≡ length rest = ap length (ok_parts a b ws rest e).1 in omega arith;
  bad_within = λ c k e. absurd (fail_ok (fault c k) a ws (sym e));
}

refuse : {A : Type 0} → Reader A
refuse ws = failed (At (length ws))

refuse_past : {A : Type 0} (ws : List Token) → Past {A = A} refuse refuse ws
unfolding refuse
refuse_past {A = A} ws = record {
  ok = λ b rest e. e;
  refused = λ j e. e;
  sunk_bad = λ j c k e f. absurd (at_is_nested {A = A} (length ws) j e);
  sunk_ok = λ j b rest e f. absurd (at_is_nested {A = A} (length ws) j e);
  ok_within = λ b rest e. absurd (fail_ok (At (length ws)) b rest e);
  bad_within = λ c k e. let l = fault_within {A = A} Refused c (length ws) k e in omega arith;
}

pub past_by : {A : Type 0} (p q p' q' : Reader A) (ws : List Token) → p ws ≡ p' ws → q ws ≡ q' ws → Past p' q' ws → Past p q ws
past_by p q p' q' ws e f h = record {
  ok = λ a rest g. f ∙ h.ok a rest (sym e ∙ g);
  refused = λ j g. f ∙ h.refused j (sym e ∙ g);
  sunk_bad = λ j c k g i. h.sunk_bad j c k (sym e ∙ g) (sym f ∙ i);
  sunk_ok = λ j a rest g i. h.sunk_ok j a rest (sym e ∙ g) (sym f ∙ i);
  ok_within = λ a rest g. h.ok_within a rest (sym f ∙ g);
  bad_within = λ c k g. h.bad_within c k (sym f ∙ g);
}

pub past_takes : {A : Type 0} (p q p' q' : Reader A) (c : Token) (ws : List Token) → p (c ∷ ws) ≡ p' ws → q (c ∷ ws) ≡ q' ws → Past p' q' ws → Past p q (c ∷ ws)
past_takes p q p' q' c ws e f h = record {
  ok = λ a rest g. f ∙ h.ok a rest (sym e ∙ g);
  refused = λ j g. f ∙ h.refused j (sym e ∙ g);
  sunk_bad = λ j c k g i. h.sunk_bad j c k (sym e ∙ g) (sym f ∙ i);
  sunk_ok = λ j a rest g i. h.sunk_ok j a rest (sym e ∙ g) (sym f ∙ i);
  ok_within = λ a rest g. let l = h.ok_within a rest (sym f ∙ g) in omega arith;
  bad_within = λ c k g. let l = h.bad_within c k (sym f ∙ g) in omega arith;
}

pub past_refuses : {A : Type 0} (p q : Reader A) (ws : List Token) → p ws ≡ failed (At (length ws)) → q ws ≡ failed (At (length ws)) → Past p q ws
unfolding refuse
past_refuses p q ws e f = past_by p q refuse refuse ws e f (refuse_past ws)

-- One reader, and then another.

abbrev Next : {A B : Type 0} → Reader A → (A → Reader B) → (A → Reader B) → List Token → Type 0
Next {A = A} q f g ws = (a : A) (rest : List Token) → q ws ≡ done a rest → Past (f a) (g a) rest

next_refused : {A B : Type 0} (p q : Reader A) (f g : A → Reader B) (ws : List Token) → Past p q ws → Next q f g ws → (j : ℕ)
    → (p ws ≡ failed (At j)) ⊎ ((a : A) × (rest : List Token) × (p ws ≡ done a rest) × (f a rest ≡ failed (At j))) → then_at (q ws) g ≡ failed (At j)
next_refused p q f g ws h k j (inl e) = ap (λ r. then_at r g) (h.refused j e)
next_refused p q f g ws h k j (inr o) = let e = h.ok o.0 o.1 o.2 in ap (λ r. then_at r g) e ∙ (k o.0 o.1 e).refused j o.3

next_bad : {A B : Type 0} (p q : Reader A) (f g : A → Reader B) (ws : List Token) → Past p q ws → Next q f g ws → (j : ℕ) (c : Kind) (m : ℕ)
    → p ws ≡ failed (Nested j)
    → (q ws ≡ failed (fault c m)) ⊎ ((a : A) × (rest : List Token) × (q ws ≡ done a rest) × (g a rest ≡ failed (fault c m))) → m < j
next_bad p q f g ws h k j c m e (inl i) = h.sunk_bad j c m e i
next_bad p q f g ws h k j c m e (inr o) = let l = h.sunk_ok j o.0 o.1 e o.2 in let w = (k o.0 o.1 o.2).bad_within c m o.3 in omega arith

next_sunk_bad : {A B : Type 0} (p q : Reader A) (f g : A → Reader B) (ws : List Token) → Past p q ws → Next q f g ws → (j : ℕ) (c : Kind) (m : ℕ)
    → then_at (q ws) g ≡ failed (fault c m)
    → (p ws ≡ failed (Nested j)) ⊎ ((a : A) × (rest : List Token) × (p ws ≡ done a rest) × (f a rest ≡ failed (Nested j))) → m < j
next_sunk_bad p q f g ws h k j c m i (inl e) = next_bad p q f g ws h k j c m e (then_failed (q ws) g (fault c m) i)
next_sunk_bad p q f g ws h k j c m i (inr o) = let e = h.ok o.0 o.1 o.2 in (k o.0 o.1 e).sunk_bad j c m o.3 (sym (ap (λ r. then_at r g) e) ∙ i)

next_sunk_ok : {A B : Type 0} (p q : Reader A) (f g : A → Reader B) (ws : List Token) → Past p q ws → Next q f g ws
    → (j : ℕ) (b : B) (left : List Token) → then_at (q ws) g ≡ done b left
    → (p ws ≡ failed (Nested j)) ⊎ ((a : A) × (rest : List Token) × (p ws ≡ done a rest) × (f a rest ≡ failed (Nested j))) → length left < j
next_sunk_ok p q f g ws h k j b left i (inl e) =
    let o = then_done (q ws) g b left i in
    let l = h.sunk_ok j o.0 o.1 e o.2 in let w = (k o.0 o.1 o.2).ok_within b left o.3 in omega arith
next_sunk_ok p q f g ws h k j b left i (inr o) = let e = h.ok o.0 o.1 o.2 in (k o.0 o.1 e).sunk_ok j b left o.3 (sym (ap (λ r. then_at r g) e) ∙ i)

next_within : {A B : Type 0} (p q : Reader A) (f g : A → Reader B) (ws : List Token) → Past p q ws → Next q f g ws → (c : Kind) (m : ℕ)
    → (q ws ≡ failed (fault c m)) ⊎ ((a : A) × (rest : List Token) × (q ws ≡ done a rest) × (g a rest ≡ failed (fault c m))) → m ≤ length ws
next_within p q f g ws h k c m (inl e) = h.bad_within c m e
next_within p q f g ws h k c m (inr o) = let l = h.ok_within o.0 o.1 o.2 in let w = (k o.0 o.1 o.2).bad_within c m o.3 in omega arith

pub then_past : {A B : Type 0} {p q : Reader A} {f g : A → Reader B} {ws : List Token} → Past p q ws
    → ((a : A) (rest : List Token) → q ws ≡ done a rest → Past (f a) (g a) rest) → Past (λ l. then_at (p l) f) (λ l. then_at (q l) g) ws
then_past {p = p} {q = q} {f = f} {g = g} {ws = ws} h k = record {
  ok = λ b left e. let o = then_done (p ws) f b left e in let i = h.ok o.0 o.1 o.2 in ap (λ r. then_at r g) i ∙ (k o.0 o.1 i).ok b left o.3;
  refused = λ j e. next_refused p q f g ws h k j (then_failed (p ws) f (At j) e);
  sunk_bad = λ j c m e i. next_sunk_bad p q f g ws h k j c m i (then_failed (p ws) f (Nested j) e);
  sunk_ok = λ j b left e i. next_sunk_ok p q f g ws h k j b left i (then_failed (p ws) f (Nested j) e);
  ok_within = λ b left e. let o = then_done (q ws) g b left e in let l = h.ok_within o.0 o.1 o.2 in let m = (k o.0 o.1 o.2).ok_within b left o.3 in omega arith;
  bad_within = λ c m e. next_within p q f g ws h k c m (then_failed (q ws) g (fault c m) e);
}

-- ---- one after another

many_step_past : {A : Type 0} (v : Bool) (p q : Reader A) (ps qs : Reader (List A)) (ws : List Token) → Past p q ws
    → ((a : A) (rest : List Token) → q ws ≡ done a rest → Past ps qs rest) → Past (many_step v p ps) (many_step v q qs) ws
many_step_past {A = A} false p q ps qs ws h k = let nothing : List A = [] in pure_past nothing ws
many_step_past true p q ps qs ws h k = then_past h (λ a rest e. then_past (k a rest e) (λ more left f. pure_past (a ∷ more) left))

abbrev many_here : {A : Type 0} → (Token → Bool) → Reader A → Reader (List A) → Reader (List A)
many_here starts p q l = many_step (next_is starts l) p q l

many_here_past : {A : Type 0} (starts : Token → Bool) (p q : Reader A) (ps qs : Reader (List A)) (ws : List Token) → Past p q ws
    → ((a : A) (rest : List Token) → q ws ≡ done a rest → Past ps qs rest) → Past (many_here starts p ps) (many_here starts q qs) ws
many_here_past starts p q ps qs ws h k =
    past_by (many_here starts p ps) (many_here starts q qs) (many_step (next_is starts ws) p ps) (many_step (next_is starts ws) q qs) ws refl refl
    (many_step_past (next_is starts ws) p q ps qs ws h k)

many_at_past : {A : Type 0} (n : ℕ) (starts : Token → Bool) (p q : Reader A) → ((ws : List Token) → Past p q ws) → (ws : List Token)
    → Past (many_at n starts p) (many_at n starts q) ws
unfolding many_at
many_at_past {A = A} zero starts p q h ws = let nothing : List A = [] in
    past_by (many_at zero starts p) (many_at zero starts q) (done nothing) (done nothing) ws refl refl (pure_past nothing ws)
many_at_past (suc n) starts p q h ws =
    past_by (many_at (suc n) starts p) (many_at (suc n) starts q) (many_here starts p (many_at n starts p))
    (many_here starts q (many_at n starts q)) ws refl refl
    (many_here_past starts p q (many_at n starts p) (many_at n starts q) ws (h ws) (λ a rest e. many_at_past n starts p q h rest))

pub many_within : {A : Type 0} (n : ℕ) (starts : Token → Bool) (p q : Reader A) → ((ws : List Token) → Past p q ws) → (ws : List Token)
    → Within (many_at n starts q) ws
many_within n starts p q h ws = let o = many_at_past n starts p q h ws in record { ok = o.ok_within; bad = o.bad_within }

pub many_past : {A : Type 0} (starts : Token → Bool) (p q : Reader A) → ((ws : List Token) → Past p q ws) → (ws : List Token)
    → Past (many starts p) (many starts q) ws
unfolding many
many_past starts p q h ws = past_by (many starts p) (many starts q) (many_at (length ws) starts p) (many_at (length ws) starts q) ws refl refl
    (many_at_past (length ws) starts p q h ws)

-- ---- more levels than one

-- A fault stands, or reading ended, behind the token from which so many are left.
pub record Further {A : Type 0} (j : ℕ) (r : Read A) : Type 0 where
  pub ok : (a : A) (rest : List Token) → r ≡ done a rest → length rest < j
  pub bad : (c : Kind) (k : ℕ) → r ≡ failed (fault c k) → k < j

-- Readers by their levels.
module _ {A : Type 0} (R : ℕ → Reader A) (past : (n : ℕ) (ws : List Token) → Past (R n) (R (suc n)) ws) (ws : List Token) where
  stays_from : (r : Read A) → ((n : ℕ) → R n ws ≡ r → R (suc n) ws ≡ r) → (n d m : ℕ) → m ≡ d + n → R n ws ≡ r → R m ws ≡ r
  stays_from r step n zero m is e = let same_level : m ≡ n = omega arith in ap (λ l. R l ws) same_level ∙ e
  stays_from r step n (suc d) m is e =
      let next : m ≡ suc (d + n) = omega arith in
      ap (λ l. R l ws) next ∙ step (d + n) (stays_from r step n d (d + n) refl e)

  -- What is read is read in more levels.
  pub read_stays : (n m : ℕ) (a : A) (rest : List Token) → n ≤ m → R n ws ≡ done a rest → R m ws ≡ done a rest
  read_stays n m a rest le e = stays_from (done a rest) (λ l. (past l ws).ok a rest) n (m - n) m (omega arith) e

  -- What is refused is refused in more levels.
  pub refused_stays : (n m j : ℕ) → n ≤ m → R n ws ≡ failed (At j) → R m ws ≡ failed (At j)
  refused_stays n m j le e = stays_from (failed (At j)) (λ l. (past l ws).refused j) n (m - n) m (omega arith) e

  further_next : (n j : ℕ) → Further j (R n ws) → (r : Read A) → R n ws ≡ r → Further j (R (suc n) ws)
  further_next n j h (Ok x) e =
      let f = (past n ws).ok x.0 x.1 e in
      record { ok = λ a rest g. h.ok a rest (e ∙ sym f ∙ g); bad = λ c k g. h.bad c k (e ∙ sym f ∙ g) }
  further_next n j h (Err (At i)) e =
      let f = (past n ws).refused i e in
      record { ok = λ a rest g. h.ok a rest (e ∙ sym f ∙ g); bad = λ c k g. h.bad c k (e ∙ sym f ∙ g) }
  further_next n j h (Err (Nested i)) e =
      let lt = h.bad Deep i e in
      record {
        ok = λ a rest g. let more = (past n ws).sunk_ok i a rest e g in omega arith;
        bad = λ c k g. let more = (past n ws).sunk_bad i c k e g in omega arith;
      }

  further_from : (n j d m : ℕ) → m ≡ suc (d + n) → R n ws ≡ failed (Nested j) → Further j (R m ws)
  further_from n j zero m is e =
      let next : m ≡ suc n = omega arith in
      subst (λ (l : ℕ). Further j (R l ws)) (sym next) (record { ok = λ a rest g. (past n ws).sunk_ok j a rest e g; bad = λ c k g. (past n ws).sunk_bad j c k e g })
  further_from n j (suc d) m is e =
      let next : m ≡ suc (suc (d + n)) = omega arith in
      let l : ℕ = suc (d + n) in
      subst (λ (l : ℕ). Further j (R l ws)) (sym next) (further_next l j (further_from n j d l refl e) (R l ws) refl)

  -- In more levels reading goes past the token that was nested too deep.
  pub goes_further : (n m j : ℕ) → n < m → R n ws ≡ failed (Nested j) → Further j (R m ws)
  goes_further n m j lt e = further_from n j (m - suc n) m (omega arith) e
