-- A fault is found at its token: whatever follows that token, it is found there.
use Rattle.std.proofs.Common.{◌≡◌, ℕ, zero, suc, ◌+◌, ◌-◌, ◌<◌, ◌≤◌, Bool, true, false, List, [], ◌∷◌, length, Ok, Err, refl, sym, ap, ◌∙◌, subst, arith, ◌++◌, ◌⊎◌, inl, inr, length-append}
use Rattle.std.proofs.lemmas.Bool.{cases_lt}
use Rattle.gib_base.specs.declared.Span.{Span}
use Rattle.gib_base.specs.declared.token.Token.{Token}
use Rattle.gib_syntax.specs.Spelling.{Places}
use Rattle.gib_reads.specs.Readers.{Fault, At, Nested, Read, Reader, then_at, before, next_is, many_step, many_at, many}
use Rattle.gib_reads.proofs.Tools.{done, failed}

-- The kinds of faults.
pub data Kind : Type 0 where
  Refused : Kind
  Deep : Kind

abbrev pub fault : Kind → ℕ → Fault
fault Refused j = At j
fault Deep j = Nested j

pub fail_ok : {A : Type 0} (f : Fault) (a : A) (rest : List Token) → failed f ≡ done a rest → ⊥
fail_ok f a rest e = cc

pub at_is : {A : Type 0} (j k : ℕ) → failed {A = A} (At j) ≡ failed (At k) → j ≡ k
at_is j k e = cc

pub nested_is : {A : Type 0} (j k : ℕ) → failed {A = A} (Nested j) ≡ failed (Nested k) → j ≡ k
nested_is j k e = cc

pub at_is_nested : {A : Type 0} (j k : ℕ) → failed {A = A} (At j) ≡ failed (Nested k) → ⊥
at_is_nested j k e = cc

pub fault_within : {A : Type 0} (b c : Kind) (j k : ℕ) → failed {A = A} (fault b j) ≡ failed (fault c k) → j ≡ k
fault_within {A = A} Refused Refused j k e = at_is {A = A} j k e
fault_within {A = A} Refused Deep j k e = absurd (at_is_nested {A = A} j k e)
fault_within {A = A} Deep Refused j k e = absurd (at_is_nested {A = A} k j (sym e))
fault_within {A = A} Deep Deep j k e = nested_is {A = A} j k e

fault_moved : {A : Type 0} (b c : Kind) (j k l : ℕ) → failed {A = A} (fault b j) ≡ failed (fault c k) → failed {A = A} (fault b l) ≡ failed (fault c l)
fault_moved {A = A} Refused Refused j k l e = refl
fault_moved {A = A} Refused Deep j k l e = absurd (at_is_nested {A = A} j k e)
fault_moved {A = A} Deep Refused j k l e = absurd (at_is_nested {A = A} k j (sym e))
fault_moved {A = A} Deep Deep j k l e = refl

pair : {A : Type 0} → A → List Token → A × List Token
pair a l = (a, l)

pub ok_parts : {A : Type 0} (a b : A) (l m : List Token) → done a l ≡ done b m → (a ≡ b) × (l ≡ m)
ok_parts {A = A} a b l m e = (ap (λ (x : A × List Token). x.0) (whole (a, l) (b, m) e), ap (λ (x : A × List Token). x.1) (whole (a, l) (b, m) e)) where
  whole : (x y : A × List Token) → done x.0 x.1 ≡ done y.0 y.1 → x ≡ y
  whole x y e = cc

pub then_done : {A B : Type 0} (r : Read A) (f : A → Reader B) (b : B) (left : List Token) → then_at r f ≡ done b left
    → (a : A) × (rest : List Token) × (r ≡ done a rest) × (f a rest ≡ done b left)
then_done (Ok x) f b left e = (x.0, x.1, refl, e)
then_done (Err d) f b left e = absurd (fail_ok d b left e)

pub then_failed : {A B : Type 0} (r : Read A) (f : A → Reader B) (d : Fault) → then_at r f ≡ failed d
    → (r ≡ failed d) ⊎ ((a : A) × (rest : List Token) × (r ≡ done a rest) × (f a rest ≡ failed d))
then_failed (Ok x) f d e = inr (x.0, x.1, refl, e)
then_failed (Err c) f d e = inl (let same : c ≡ d = cc in ap (λ (g : Fault). failed g) same)

-- A sum that computes by its second part.
abbrev plus : ℕ → ℕ → ℕ
plus n zero = n
plus n (suc g) = suc (plus n g)

plus_is : (n g : ℕ) → plus n g ≡ n + g
plus_is n zero = omega arith
plus_is n (suc g) = omega (arith, plus_is n g)

-- What is left is no more than what there was.
pub record Within {A : Type 0} (p : Reader A) (ws : List Token) : Type 0 where
  pub ok : (a : A) (rest : List Token) → p ws ≡ done a rest → length rest ≤ length ws
  pub bad : (c : Kind) (j : ℕ) → p ws ≡ failed (fault c j) → j ≤ length ws

-- The tokens differ behind the token tok: there xs follow, here ys. The places of the ones before it are the same.
module _ (tok : Token) (xs ys : List Token) (at at' : Places) (shift : (k : ℕ) → at' (k + length ys) ≡ at (k + length xs)) where
  -- Two lists that agree up to the token tok.
  pub record Twins (ws vs : List Token) : Type 0 where
    pub front : List Token
    pub here : ws ≡ front ++ tok ∷ xs
    pub there : vs ≡ front ++ tok ∷ ys

  -- What a reader does as long as it has not gone past tok.
  pub record LocalAt {A : Type 0} (p p' : Reader A) (ws : List Token) : Type 0 where
    pub ok_within : (a : A) (rest : List Token) → p ws ≡ done a rest → length rest ≤ length ws
    pub bad_within : (c : Kind) (j : ℕ) → p ws ≡ failed (fault c j) → j ≤ length ws
    pub ok_same : (vs : List Token) → Twins ws vs → (a : A) (rest : List Token) → p ws ≡ done a rest → suc (length xs) ≤ length rest
        → (left : List Token) × (p' vs ≡ done a left) × Twins rest left
    pub bad_same : (vs : List Token) → Twins ws vs → (c : Kind) → p ws ≡ failed (fault c (suc (length xs))) → p' vs ≡ failed (fault c (suc (length ys)))

  twins_nil : (front vs : List Token) → [] ≡ front ++ tok ∷ xs → ⊥
  twins_nil [] vs e = cc
  twins_nil (c ∷ front) vs e = cc

  no_twins : (vs : List Token) → Twins [] vs → ⊥
  no_twins vs w = twins_nil w.front vs w.here

  -- Behind the first token: tok was it, or the rests are twins.
  abbrev Behind : Token → List Token → List Token → Type 0
  Behind h tl vs = ((vs ≡ h ∷ ys) × (tl ≡ xs)) ⊎ ((l : List Token) × (vs ≡ h ∷ l) × Twins tl l)

  behind_from : (front : List Token) (h : Token) (tl vs : List Token) → h ∷ tl ≡ front ++ tok ∷ xs → vs ≡ front ++ tok ∷ ys → Behind h tl vs
  behind_from [] h tl vs e f = let same_head : h ≡ tok = cc in let same_tail : tl ≡ xs = cc in inl (f ∙ ap (λ c. c ∷ ys) (sym same_head), same_tail)
  behind_from (c ∷ front) h tl vs e f =
      let same_head : h ≡ c = cc in let same_tail : tl ≡ front ++ tok ∷ xs = cc in
      inr (front ++ tok ∷ ys, f ∙ ap (λ d. d ∷ (front ++ tok ∷ ys)) (sym same_head), record { front = front; here = same_tail; there = refl })

  behind : (h : Token) (tl vs : List Token) → Twins (h ∷ tl) vs → Behind h tl vs
  behind h tl vs w = behind_from w.front h tl vs w.here w.there

  twin_before : (ws vs : List Token) → Twins ws vs → before at' vs ≡ before at ws
  twin_before ws vs w =
      let m = length w.front in
      let here : suc (suc m) + length xs ≡ suc (length ws) = omega (arith, ap length w.here, length-append w.front (tok ∷ xs)) in
      let there : suc (length vs) ≡ suc (suc m) + length ys = omega (arith, ap length w.there, length-append w.front (tok ∷ ys)) in
      ap at' there ∙ shift (suc (suc m)) ∙ ap at here

  pub pure_local : {A : Type 0} (a : A) (ws : List Token) → LocalAt (done a) (done a) ws
  pure_local {A = A} a ws = record {
    ok_within = λ b rest e. let l : length ws ≡ length rest = ap length (ok_parts a b ws rest e).1 in omega arith;
    bad_within = λ c j e. absurd (fail_ok (fault c j) a ws (sym e));
    ok_same = λ vs w b rest e le. let o = ok_parts a b ws rest e in (vs, ap (λ (c : A). done c vs) o.0, subst (λ (l : List Token). Twins l vs) o.1 w);
    bad_same = λ vs w c e. absurd (fail_ok (fault c (suc (length xs))) a ws (sym e));
  }

  pub fail_at : {A : Type 0} → Kind → Reader A
  fail_at c ws = failed (fault c (length ws))

  first_fault : (front ws vs : List Token) → ws ≡ front ++ tok ∷ xs → vs ≡ front ++ tok ∷ ys → length ws ≡ suc (length xs) → length vs ≡ suc (length ys)
  first_fault [] ws vs e f l = ap length f
  first_fault (c ∷ front) ws vs e f l = absurd (omega (arith, ap length e, length-append front (tok ∷ xs)))

  pub fail_local : {A : Type 0} (b : Kind) (ws : List Token) → LocalAt {A = A} (fail_at b) (fail_at b) ws
  unfolding fail_at
  fail_local {A = A} b ws = record {
    ok_within = λ a rest e. absurd (fail_ok (fault b (length ws)) a rest e);
    bad_within = λ c j e. let l = fault_within {A = A} b c (length ws) j e in omega arith;
    ok_same = λ vs w a rest e le. absurd (fail_ok (fault b (length ws)) a rest e);
    bad_same = λ vs w c e.
        let l = first_fault w.front ws vs w.here w.there (fault_within {A = A} b c (length ws) (suc (length xs)) e) in
        ap (λ (k : ℕ). failed (fault b k)) l ∙ fault_moved {A = A} b c (length ws) (suc (length xs)) (suc (length ys)) e;
  }

  -- A reader that does here what another does.
  pub local_by : {A : Type 0} (p p' q q' : Reader A) (ws : List Token) → p ws ≡ q ws → ((vs : List Token) → Twins ws vs → p' vs ≡ q' vs)
      → LocalAt q q' ws → LocalAt p p' ws
  local_by p p' q q' ws e same h = record {
    ok_within = λ a rest f. h.ok_within a rest (sym e ∙ f);
    bad_within = λ c j f. h.bad_within c j (sym e ∙ f);
    ok_same = λ vs w a rest f le. let o = h.ok_same vs w a rest (sym e ∙ f) le in (o.0, same vs w ∙ o.1, o.2);
    bad_same = λ vs w c f. same vs w ∙ h.bad_same vs w c (sym e ∙ f);
  }

  pub local_nil : {A : Type 0} (p p' q q' : Reader A) → p [] ≡ q [] → LocalAt q q' [] → LocalAt p p' []
  local_nil p p' q q' e h = local_by p p' q q' [] e (λ vs w. absurd (no_twins vs w)) h

  keeps_at : {A : Type 0} (p q : Reader A) (h : Token) (tl vs : List Token) → ((l : List Token) → p (h ∷ l) ≡ q (h ∷ l)) → Behind h tl vs → p vs ≡ q vs
  keeps_at p q h tl vs e (inl b) = ap p b.0 ∙ e ys ∙ ap q (sym b.0)
  keeps_at p q h tl vs e (inr b) = ap p b.1 ∙ e b.0 ∙ ap q (sym b.1)

  -- A reader that, at this first token, does what another does.
  pub keeps : {A : Type 0} (p p' q q' : Reader A) (h : Token) (tl : List Token) → ((l : List Token) → p (h ∷ l) ≡ q (h ∷ l))
      → ((l : List Token) → p' (h ∷ l) ≡ q' (h ∷ l)) → LocalAt q q' (h ∷ tl) → LocalAt p p' (h ∷ tl)
  keeps p p' q q' h tl e e' = local_by p p' q q' (h ∷ tl) (e tl) (λ vs w. keeps_at p' q' h tl vs e' (behind h tl vs w))

  takes_ok : {A : Type 0} (p p' q q' : Reader A) (h : Token) (tl vs : List Token) → ((l : List Token) → p (h ∷ l) ≡ q l)
      → ((l : List Token) → p' (h ∷ l) ≡ q' l) → LocalAt q q' tl → Behind h tl vs → (a : A) (rest : List Token) → p (h ∷ tl) ≡ done a rest
      → suc (length xs) ≤ length rest → (left : List Token) × (p' vs ≡ done a left) × Twins rest left
  takes_ok p p' q q' h tl vs e e' g (inl b) a rest f le = absurd (let m = g.ok_within a rest (sym (e tl) ∙ f) in omega (arith, ap length b.1))
  takes_ok p p' q q' h tl vs e e' g (inr b) a rest f le = let o = g.ok_same b.0 b.2 a rest (sym (e tl) ∙ f) le in (o.0, ap p' b.1 ∙ e' b.0 ∙ o.1, o.2)

  takes_bad : {A : Type 0} (p p' q q' : Reader A) (h : Token) (tl vs : List Token) → ((l : List Token) → p (h ∷ l) ≡ q l)
      → ((l : List Token) → p' (h ∷ l) ≡ q' l) → LocalAt q q' tl → Behind h tl vs → (c : Kind) → p (h ∷ tl) ≡ failed (fault c (suc (length xs)))
      → p' vs ≡ failed (fault c (suc (length ys)))
  takes_bad p p' q q' h tl vs e e' g (inl b) c f = absurd (let m = g.bad_within c (suc (length xs)) (sym (e tl) ∙ f) in omega (arith, ap length b.1))
  takes_bad p p' q q' h tl vs e e' g (inr b) c f = ap p' b.1 ∙ e' b.0 ∙ g.bad_same b.0 b.2 c (sym (e tl) ∙ f)

  -- A reader that takes this first token and goes on.
  pub takes : {A : Type 0} (p p' q q' : Reader A) (h : Token) (tl : List Token) → ((l : List Token) → p (h ∷ l) ≡ q l)
      → ((l : List Token) → p' (h ∷ l) ≡ q' l) → LocalAt q q' tl → LocalAt p p' (h ∷ tl)
  takes p p' q q' h tl e e' g = record {
    ok_within = λ a rest f. let m = g.ok_within a rest (sym (e tl) ∙ f) in omega arith;
    bad_within = λ c j f. let m = g.bad_within c j (sym (e tl) ∙ f) in omega arith;
    ok_same = λ vs w a rest f le. takes_ok p p' q q' h tl vs e e' g (behind h tl vs w) a rest f le;
    bad_same = λ vs w c f. takes_bad p p' q q' h tl vs e e' g (behind h tl vs w) c f;
  }

  -- A reader that marks the token before.
  marks : {A : Type 0} (f f' : Span → Reader A) (ws : List Token) → LocalAt (f (before at ws)) (f' (before at ws)) ws
      → LocalAt (λ l. f (before at l) l) (λ l. f' (before at' l) l) ws
  marks f f' ws h = record {
    ok_within = λ a rest e. h.ok_within a rest e;
    bad_within = λ c j e. h.bad_within c j e;
    ok_same = λ vs w a rest e le. let o = h.ok_same vs w a rest e le in (o.0, ap (λ z. f' z vs) (twin_before ws vs w) ∙ o.1, o.2);
    bad_same = λ vs w c e. ap (λ z. f' z vs) (twin_before ws vs w) ∙ h.bad_same vs w c e;
  }

  pub takes_marked : {A : Type 0} (p p' : Reader A) (f f' : Span → Reader A) (h : Token) (tl : List Token)
      → ((l : List Token) → p (h ∷ l) ≡ f (before at l) l) → ((l : List Token) → p' (h ∷ l) ≡ f' (before at' l) l)
      → LocalAt (f (before at tl)) (f' (before at tl)) tl → LocalAt p p' (h ∷ tl)
  takes_marked p p' f f' h tl e e' k = takes p p' (λ l. f (before at l) l) (λ l. f' (before at' l) l) h tl e e' (marks f f' tl k)

  abbrev both : {A B : Type 0} → Reader A → (A → Reader B) → Reader B
  both p f ws = then_at (p ws) f

  both_bad : {A B : Type 0} (p p' : Reader A) (f f' : A → Reader B) (ws vs : List Token) → LocalAt p p' ws
      → ((a : A) (rest : List Token) → p ws ≡ done a rest → LocalAt (f a) (f' a) rest) → Twins ws vs → (c : Kind)
      → (p ws ≡ failed (fault c (suc (length xs)))) ⊎ ((a : A) × (rest : List Token) × (p ws ≡ done a rest)
      × (f a rest ≡ failed (fault c (suc (length xs))))) → both p' f' vs ≡ failed (fault c (suc (length ys)))
  both_bad p p' f f' ws vs h k w c (inl e) = ap (λ r. then_at r f') (h.bad_same vs w c e)
  both_bad p p' f f' ws vs h k w c (inr o) =
      let g = k o.0 o.1 o.2 in
      let le = g.bad_within c (suc (length xs)) o.3 in
      let m = h.ok_same vs w o.0 o.1 o.2 le in
      ap (λ r. then_at r f') m.1 ∙ g.bad_same m.0 m.2 c o.3

  both_within : {A B : Type 0} (p p' : Reader A) (f f' : A → Reader B) (ws : List Token) → LocalAt p p' ws
      → ((a : A) (rest : List Token) → p ws ≡ done a rest → LocalAt (f a) (f' a) rest) → (c : Kind) (j : ℕ)
      → (p ws ≡ failed (fault c j)) ⊎ ((a : A) × (rest : List Token) × (p ws ≡ done a rest) × (f a rest ≡ failed (fault c j))) → j ≤ length ws
  both_within p p' f f' ws h k c j (inl e) = h.bad_within c j e
  both_within p p' f f' ws h k c j (inr o) = let m = h.ok_within o.0 o.1 o.2 in let l = (k o.0 o.1 o.2).bad_within c j o.3 in omega arith

  -- One reader, and then another.
  pub then_local : {A B : Type 0} {p p' : Reader A} {f f' : A → Reader B} {ws : List Token} → LocalAt p p' ws
      → ((a : A) (rest : List Token) → p ws ≡ done a rest → LocalAt (f a) (f' a) rest) → LocalAt (λ l. then_at (p l) f) (λ l. then_at (p' l) f') ws
  then_local {p = p} {p' = p'} {f = f} {f' = f'} {ws = ws} h k = record {
    ok_within = λ b left e. let o = then_done (p ws) f b left e in let m = h.ok_within o.0 o.1 o.2 in let n = (k o.0 o.1 o.2).ok_within b left o.3 in
        omega arith;
    bad_within = λ c j e. both_within p p' f f' ws h k c j (then_failed (p ws) f (fault c j) e);
    ok_same = λ vs w b left e le.
        let o = then_done (p ws) f b left e in
        let g = k o.0 o.1 o.2 in
        let n = g.ok_within b left o.3 in
        let m = h.ok_same vs w o.0 o.1 o.2 (omega arith) in
        let r = g.ok_same m.0 m.2 b left o.3 le in
        (r.0, ap (λ r. then_at r f') m.1 ∙ r.1, r.2);
    bad_same = λ vs w c e. both_bad p p' f f' ws vs h k w c (then_failed (p ws) f (fault c (suc (length xs))) e);
  }

  pub nil_fails : {A : Type 0} (p p' : Reader A) → p [] ≡ failed (At 0) → LocalAt p p' []
  unfolding fail_at
  nil_fails p p' e = local_nil p p' (fail_at Refused) (fail_at Refused) e (fail_local Refused [])

  abbrev pub FailsAt : {A : Type 0} → Reader A → Token → Type 0
  FailsAt p h = (l : List Token) → p (h ∷ l) ≡ failed (At (suc (length l)))

  pub head_fails : {A : Type 0} (p p' : Reader A) (h : Token) (tl : List Token) → FailsAt p h → FailsAt p' h → LocalAt p p' (h ∷ tl)
  unfolding fail_at
  head_fails p p' h tl e e' = keeps p p' (fail_at Refused) (fail_at Refused) h tl e e' (fail_local Refused (h ∷ tl))

  pub head_sinks : {A : Type 0} (p p' : Reader A) (h : Token) (tl : List Token) → ((l : List Token) → p (h ∷ l) ≡ failed (Nested (suc (length l))))
      → ((l : List Token) → p' (h ∷ l) ≡ failed (Nested (suc (length l)))) → LocalAt p p' (h ∷ tl)
  unfolding fail_at
  head_sinks p p' h tl e e' = keeps p p' (fail_at Deep) (fail_at Deep) h tl e e' (fail_local Deep (h ∷ tl))

  -- ---- one after another

  many_step_local : {A : Type 0} (v : Bool) (p p' : Reader A) (q q' : Reader (List A)) (ws : List Token) → LocalAt p p' ws
      → ((a : A) (rest : List Token) → p ws ≡ done a rest → LocalAt q q' rest) → LocalAt (many_step v p q) (many_step v p' q') ws
  many_step_local {A = A} false p p' q q' ws h k = let nothing : List A = [] in pure_local nothing ws
  many_step_local true p p' q q' ws h k = then_local h (λ a rest e. then_local (k a rest e) (λ more left f. pure_local (a ∷ more) left))

  abbrev many_here : {A : Type 0} → (Token → Bool) → Reader A → Reader (List A) → Reader (List A)
  many_here starts p q l = many_step (next_is starts l) p q l

  many_here_local : {A : Type 0} (starts : Token → Bool) (p p' : Reader A) (q q' : Reader (List A)) (ws : List Token) → LocalAt p p' ws
      → ((a : A) (rest : List Token) → p ws ≡ done a rest → LocalAt q q' rest) → LocalAt (many_here starts p q) (many_here starts p' q') ws
  many_here_local {A = A} starts p p' q q' [] h k = let nothing : List A = [] in
      local_nil (many_here starts p q) (many_here starts p' q') (done nothing) (done nothing) refl (pure_local nothing [])
  many_here_local starts p p' q q' (x ∷ ws) h k =
      keeps (many_here starts p q) (many_here starts p' q') (many_step (starts x) p q) (many_step (starts x) p' q') x ws (λ l. refl) (λ l. refl)
      (many_step_local (starts x) p p' q q' (x ∷ ws) h k)

  twin_long : (ws vs : List Token) → Twins ws vs → (length vs + length xs ≡ length ws + length ys) × (length xs < length ws)
  twin_long ws vs w = (
    omega (arith, ap length w.here, ap length w.there, length-append w.front (tok ∷ xs), length-append w.front (tok ∷ ys)),
    omega (arith, ap length w.here, length-append w.front (tok ∷ xs)),
  )

  -- Too short a list to have the token.
  short_local : {A : Type 0} (p p' : Reader A) (ws : List Token) → Within p ws → length ws ≤ length xs → LocalAt p p' ws
  short_local p p' ws h le = record {
    ok_within = h.ok;
    bad_within = h.bad;
    ok_same = λ vs w a rest e lt. absurd (let o = twin_long ws vs w in omega (arith, o.1));
    bad_same = λ vs w c e. absurd (let o = twin_long ws vs w in omega (arith, o.1));
  }

  module _ {A : Type 0} (starts : Token → Bool) (p p' : Reader A) (h : (ws : List Token) → LocalAt p p' ws)
      (sh : (ws : List Token) (a : A) (rest : List Token) → p ws ≡ done a rest → length rest < length ws)
      (win : (n : ℕ) (ws : List Token) → Within (many_at n starts p) ws) where
    many_local_upto : (g : ℕ) (ws : List Token) → length ws ≤ suc (plus (length xs) g)
        → LocalAt (many_at (suc (plus (length xs) g)) starts p) (many_at (suc (plus (length ys) g)) starts p') ws
    unfolding many_at
    many_local_upto zero ws le =
        local_by (many_at (suc (length xs)) starts p) (many_at (suc (length ys)) starts p') (many_here starts p (many_at (length xs) starts p))
        (many_here starts p' (many_at (length ys) starts p')) ws refl (λ vs w. refl)
        (many_here_local starts p p' (many_at (length xs) starts p) (many_at (length ys) starts p') ws (h ws) (λ a rest e. let lt = sh ws a rest e in
        short_local (many_at (length xs) starts p) (many_at (length ys) starts p') rest (win (length xs) rest) (omega arith)))
    many_local_upto (suc g) ws le =
        let m = plus (length xs) g in
        let n = plus (length ys) g in
        local_by (many_at (suc (suc m)) starts p) (many_at (suc (suc n)) starts p') (many_here starts p (many_at (suc m) starts p))
        (many_here starts p' (many_at (suc n) starts p')) ws refl (λ vs w. refl)
        (many_here_local starts p p' (many_at (suc m) starts p) (many_at (suc n) starts p') ws (h ws) (λ a rest e. let lt = sh ws a rest e in
        many_local_upto g rest (omega arith)))

    many_cases : (ws : List Token) → (length xs < length ws) ⊎ (length ws ≤ length xs) → LocalAt (many starts p) (many starts p') ws
    unfolding many
    many_cases ws (inl lt) =
        let g : ℕ = length ws - suc (length xs) in
        let m = plus (length xs) g in
        let n = plus (length ys) g in
        let long : suc m ≡ length ws = omega (arith, plus_is (length xs) g) in
        local_by (many starts p) (many starts p') (many_at (suc m) starts p) (many_at (suc n) starts p') ws
        (ap (λ (n : ℕ). many_at n starts p ws) (sym long)) (λ vs w. let o = twin_long ws vs w in
        let e : length vs ≡ suc n = omega (arith, o.0, plus_is (length ys) g) in ap (λ (n : ℕ). many_at n starts p' vs) e)
        (many_local_upto g ws (omega arith))
    many_cases ws (inr le) =
        local_by (many starts p) (many starts p') (many_at (length ws) starts p) (many starts p') ws refl (λ vs w. refl)
        (short_local (many_at (length ws) starts p) (many starts p') ws (win (length ws) ws) le)

    pub many_local : (ws : List Token) → LocalAt (many starts p) (many starts p') ws
    many_local ws = many_cases ws (cases_lt (length xs) (length ws))
