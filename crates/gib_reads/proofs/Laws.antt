-- The laws of a reader, all at once.
use Rattle.std.proofs.Common.{◌≡◌, ℕ, zero, suc, ◌+◌, ◌-◌, ◌<◌, ◌≤◌, Bool, true, false, List, [], ◌∷◌, ◌++◌, length, take, refl, sym, ap, ◌∙◌, subst, arith, ◌⊎◌, inl, inr, length-append}
use Rattle.std.proofs.lemmas.List.{take_at}
use Rattle.gib_base.specs.declared.Span.{Span}
use Rattle.gib_base.specs.declared.token.Sign.{Sign}
use Rattle.gib_base.specs.declared.token.Token.{Token}
use Rattle.gib_base.specs.declared.token.Token.TheVariants as t
use Rattle.gib_syntax.specs.declared.tree.Ident.{Ident}
use Rattle.gib_syntax.specs.Spelling.{Places, IsAt}
use Rattle.gib_reads.specs.Readers.{At, Reader, then_at, want, want_if, same, before, named, var_at, con_at, next_is, many_step, many_at, many}
use Rattle.gib_reads.proofs.Signs.{same_is}
use Rattle.gib_reads.proofs.Tools.{done, failed, Holds}
use Rattle.gib_reads.proofs.Local.{fail_ok, at_is, ok_parts, then_done, then_failed, LocalAt, pure_local, local_nil, keeps, takes_marked, then_local, nil_fails, head_fails, many_local}
use Rattle.gib_reads.proofs.Past.{Past, pure_past, past_by, past_takes, past_refuses, then_past, many_past, many_within}

-- ---- what is told

-- Two lists that go on differently behind a token, and how places are told in each.
pub record Text : Type 0 where
  pub tok : Token
  pub after : List Token
  pub more : List Token
  pub here : Places
  pub there : Places
  pub shift : (k : ℕ) → there (k + length more) ≡ here (k + length after)

-- How the parts are read: in the first list, there with one level more, and in the second list with as many.
pub record World (S : Type 0) : Type 0 where
  pub text : Text
  pub low : S
  pub high : S
  pub moved : S

-- How something is spelled, what the grammar asks of it, and what else is told of it before what follows.
pub record Form (A : Type 0) : Type 1 where
  pub write : A → List Token → List Token
  pub fine : A → Type 0
  pub good : A → List Token → Type 0

-- The lists that spell one, with what comes behind.
abbrev pub IsSpelled : {A : Type 0} → Form A → List Token → List Token → Type 0
IsSpelled {A = A} F r vs = (a : A) × F.fine a × (vs ≡ F.write a r)

-- The lists agree up to where j tokens of the first are left.
pub record Agrees (j : ℕ) (ws vs : List Token) : Type 0 where
  pub front : List Token
  pub rest : List Token
  pub more : List Token
  pub here : ws ≡ front ++ rest
  pub there : vs ≡ front ++ more
  pub left : length rest ≡ j

-- This was read, of k tokens at least; with what stands before, f, these tokens spell it.
pub record Taken {A : Type 0} (k : ℕ) (F : Form A) (f : List Token → List Token) (ws : List Token) (a : A) (rest : List Token) : Type 0 where
  pub before : List Token → List Token
  pub was : ws ≡ before rest
  pub agrees : (j : ℕ) (x y : List Token) → Agrees j x y → Agrees j (before x) (before y)
  pub takes : k + length rest ≤ length ws
  pub spelled : (l : List Token) → f (before l) ≡ F.write a l
  pub fine : F.fine a
  pub good : F.good a rest

-- What is read is spelled so; and where a token is refused, with other tokens from there on all is spelled, before r.
pub record Told {A : Type 0} (k : ℕ) (F : Form A) (r : List Token) (f : List Token → List Token) (p : Reader A) (ws : List Token) : Type 0 where
  pub taken : (a : A) (rest : List Token) → p ws ≡ done a rest → Taken k F f ws a rest
  pub begins : (j : ℕ) → p ws ≡ failed (At j) → (vs : List Token) × Agrees j ws vs × IsSpelled F r (f vs)

-- All laws of a reader, which is given by places and by how the parts are read.
pub record Reads {A P : Type 0} (w : World P) (k : ℕ) (F : Form A) (r : List Token) (f : List Token → List Token) (R : Places → P → Reader A)
    (ws : List Token) : Type 0 where
  pub past : Past (R w.text.here w.low) (R w.text.here w.high) ws
  pub local : LocalAt w.text.tok w.text.after w.text.more w.text.here w.text.there w.text.shift (R w.text.here w.high) (R w.text.there w.moved) ws
  pub told : Told k F r f (R w.text.here w.high) ws

-- ---- lists that agree

agrees_now : (ws vs : List Token) → Agrees (length ws) ws vs
agrees_now ws vs = record { front = []; rest = ws; more = vs; here = refl; there = refl; left = refl }

agrees_cons : (h : Token) (j : ℕ) (ws vs : List Token) → Agrees j ws vs → Agrees j (h ∷ ws) (h ∷ vs)
agrees_cons h j ws vs a = record {
  front = h ∷ a.front;
  rest = a.rest;
  more = a.more;
  here = ap (λ l. h ∷ l) a.here;
  there = ap (λ l. h ∷ l) a.there;
  left = a.left;
}

agrees_by : (j : ℕ) (x x' y y' : List Token) → x ≡ x' → y ≡ y' → Agrees j x y → Agrees j x' y'
agrees_by j x x' y y' e f a = subst (λ (l : List Token). Agrees j l y') e (subst (λ (l : List Token). Agrees j x l) f a)

-- ---- one reader

pure_taken : {A : Type 0} {F : Form A} {f : List Token → List Token} (a : A) (ws : List Token) → ((l : List Token) → f l ≡ F.write a l) → F.fine a
    → F.good a ws → Taken 0 F f ws a ws
pure_taken a ws sp fine good = record { before = λ l. l; was = refl; agrees = λ j x y o. o; takes = omega arith; spelled = sp; fine = fine; good = good }

pub pure_told : {A : Type 0} {F : Form A} {r : List Token} {f : List Token → List Token} (a : A) (ws : List Token)
    → ((l : List Token) → f l ≡ F.write a l) → F.fine a → F.good a ws → Told 0 F r f (done a) ws
pure_told {F = F} {f = f} a ws sp fine good = record {
  taken = λ b rest e. let o = ok_parts a b ws rest e in
      subst (λ (l : List Token). Taken 0 F f ws b l) o.1 (subst (λ v. Taken 0 F f ws v ws) o.0 (pure_taken a ws sp fine good));
  begins = λ j e. absurd (fail_ok (At j) a ws (sym e));
}

pub told_by : {A : Type 0} {k : ℕ} {F : Form A} {r : List Token} {f : List Token → List Token} (p q : Reader A) (ws : List Token) → p ws ≡ q ws
    → Told k F r f q ws → Told k F r f p ws
told_by p q ws e h = record { taken = λ a rest g. h.taken a rest (sym e ∙ g); begins = λ j g. h.begins j (sym e ∙ g) }

pub told_fail : {A : Type 0} {F : Form A} {r : List Token} {f : List Token → List Token} (p : Reader A) (ws vs : List Token)
    → p ws ≡ failed (At (length ws)) → IsSpelled F r (f vs) → Told 1 F r f p ws
told_fail {A = A} p ws vs e o = record {
  taken = λ a rest g. absurd (fail_ok (At (length ws)) a rest (sym e ∙ g));
  begins = λ j g. (vs, subst (λ (k : ℕ). Agrees k ws vs) (at_is {A = A} (length ws) j (sym e ∙ g)) (agrees_now ws vs), o);
}

pub told_never : {A : Type 0} {k : ℕ} {F : Form A} {r : List Token} {f : List Token → List Token} (p : Reader A) (ws : List Token)
    → ((a : A) (rest : List Token) → p ws ≡ done a rest → ⊥) → ((j : ℕ) → p ws ≡ failed (At j) → ⊥) → Told k F r f p ws
told_never p ws h k = record { taken = λ a rest e. absurd (h a rest e); begins = λ j e. absurd (k j e) }

told_token : {A : Type 0} {k : ℕ} {F : Form A} {r : List Token} {f : List Token → List Token} (p q : Reader A) (c : Token) (ws : List Token)
    → p (c ∷ ws) ≡ q ws → Told k F r (λ l. f (c ∷ l)) q ws → Told 1 F r f p (c ∷ ws)
told_token p q c ws e h = record {
  taken = λ a rest g.
      let o = h.taken a rest (sym e ∙ g) in
      record {
        before = λ l. c ∷ o.before l;
        was = ap (λ l. c ∷ l) o.was;
        agrees = λ j x y m. agrees_cons c j (o.before x) (o.before y) (o.agrees j x y m);
        takes = (let le = o.takes in omega arith);
        spelled = o.spelled;
        fine = o.fine;
        good = o.good;
      };
  begins = λ j g. let o = h.begins j (sym e ∙ g) in (c ∷ o.0, agrees_cons c j ws o.0 o.1, o.2);
}

told_weaken : {A : Type 0} {k : ℕ} {F : Form A} {r : List Token} {f : List Token → List Token} {p : Reader A} {ws : List Token} → Told k F r f p ws
    → Told 0 F r f p ws
told_weaken h = record {
  taken = λ a rest e.
      let o = h.taken a rest e in
      record {
        before = o.before;
        was = o.was;
        agrees = o.agrees;
        takes = (let le = o.takes in omega arith);
        spelled = o.spelled;
        fine = o.fine;
        good = o.good;
      };
  begins = h.begins;
}

-- ---- one reader, and then another

module _ {A B : Type 0} {k j : ℕ} {F : Form A} {G : Form B} {q r : List Token} {f : List Token → List Token} {p : Reader A} {g : A → Reader B}
    {ws : List Token} (c : List Token → List Token) (h : Told k F q f p ws) (o : (a : A) → F.fine a → IsSpelled G r (c (F.write a q)))
    (n : (a : A) (rest : List Token) → p ws ≡ done a rest → Told j G r (λ l. c (F.write a l)) (g a) rest) where
  then_taken : (b : B) (left : List Token) → then_at (p ws) g ≡ done b left → Taken k G (λ l. c (f l)) ws b left
  then_taken b left e =
      let i = then_done (p ws) g b left e in
      let u = h.taken i.0 i.1 i.2 in
      let m = (n i.0 i.1 i.2).taken b left i.3 in
      record {
        before = λ l. u.before (m.before l);
        was = u.was ∙ ap u.before m.was;
        agrees = λ i x y a. u.agrees i (m.before x) (m.before y) (m.agrees i x y a);
        takes = (let le = u.takes in let le' = m.takes in omega arith);
        spelled = λ l. ap c (u.spelled (m.before l)) ∙ m.spelled l;
        fine = m.fine;
        good = m.good;
      }

  then_begins : (i : ℕ) → (p ws ≡ failed (At i)) ⊎ ((a : A) × (rest : List Token) × (p ws ≡ done a rest) × (g a rest ≡ failed (At i)))
      → (vs : List Token) × Agrees i ws vs × IsSpelled G r (c (f vs))
  then_begins i (inl e) = let d = h.begins i e in (d.0, d.1, subst (λ (l : List Token). IsSpelled G r (c l)) (sym d.2.2) (o d.2.0 d.2.1))
  then_begins i (inr d) =
      let u = h.taken d.0 d.1 d.2 in
      let m = (n d.0 d.1 d.2).begins i d.3 in (
        u.before m.0,
        agrees_by i (u.before d.1) ws (u.before m.0) (u.before m.0) (sym u.was) refl (u.agrees i d.1 m.0 m.1),
        subst (λ (l : List Token). IsSpelled G r (c l)) (sym (u.spelled m.0)) m.2,
      )

  then_told : Told k G r (λ l. c (f l)) (λ l. then_at (p l) g) ws
  then_told = record { taken = then_taken; begins = λ i e. then_begins i (then_failed (p ws) g (At i) e) }

-- ---- all laws at once

module _ {A : Type 0} {P : Type 0} {w : World P} {F : Form A} {r : List Token} {f : List Token → List Token} where
  pub pure_reads : (a : A) (ws : List Token) → ((l : List Token) → f l ≡ F.write a l) → F.fine a → F.good a ws → Reads w 0 F r f (λ at sub. done a) ws
  pure_reads a ws sp fine good = record {
    past = pure_past a ws;
    local = pure_local w.text.tok w.text.after w.text.more w.text.here w.text.there w.text.shift a ws;
    told = pure_told a ws sp fine good;
  }

  pub fail_nil : (R : Places → P → Reader A) (vs : List Token) → ((at : Places) (sub : P) → R at sub [] ≡ failed (At 0)) → IsSpelled F r (f vs)
      → Reads w 1 F r f R []
  fail_nil R vs e o = record {
    past = past_refuses (R w.text.here w.low) (R w.text.here w.high) [] (e w.text.here w.low) (e w.text.here w.high);
    local = nil_fails w.text.tok w.text.after w.text.more w.text.here w.text.there w.text.shift (R w.text.here w.high) (R w.text.there w.moved)
        (e w.text.here w.high);
    told = told_fail (R w.text.here w.high) [] vs (e w.text.here w.high) o;
  }

  -- The first token is refused: such tokens in its place spell one.
  pub fail_reads : (R : Places → P → Reader A) (c : Token) (ws vs : List Token)
      → ((at : Places) (sub : P) (l : List Token) → R at sub (c ∷ l) ≡ failed (At (suc (length l)))) → IsSpelled F r (f vs)
      → Reads w 1 F r f R (c ∷ ws)
  fail_reads R c ws vs e o = record {
    past = past_refuses (R w.text.here w.low) (R w.text.here w.high) (c ∷ ws) (e w.text.here w.low ws) (e w.text.here w.high ws);
    local = head_fails w.text.tok w.text.after w.text.more w.text.here w.text.there w.text.shift (R w.text.here w.high) (R w.text.there w.moved) c ws
        (e w.text.here w.high) (e w.text.there w.moved);
    told = told_fail (R w.text.here w.high) (c ∷ ws) vs (e w.text.here w.high ws) o;
  }

  -- The first token is taken, maybe with its place.
  pub token_reads : {k : ℕ} (R : Places → P → Reader A) (S : Span → Places → P → Reader A) (c : Token) (ws : List Token)
      → ((at : Places) (sub : P) (l : List Token) → R at sub (c ∷ l) ≡ S (before at l) at sub l)
      → Reads w k F r (λ l. f (c ∷ l)) (S (before w.text.here ws)) ws → Reads w 1 F r f R (c ∷ ws)
  token_reads R S c ws e h =
      let z = before w.text.here ws in
      record {
        past = past_takes (R w.text.here w.low) (R w.text.here w.high) (S z w.text.here w.low) (S z w.text.here w.high) c ws (e w.text.here w.low ws)
            (e w.text.here w.high ws) h.past;
        local = takes_marked w.text.tok w.text.after w.text.more w.text.here w.text.there w.text.shift (R w.text.here w.high)
            (R w.text.there w.moved) (λ z. S z w.text.here w.high) (λ z. S z w.text.there w.moved) c ws (e w.text.here w.high)
            (e w.text.there w.moved) h.local;
        told = told_token (R w.text.here w.high) (S z w.text.here w.high) c ws (e w.text.here w.high ws) h.told;
      }

  pub choice_nil : {k : ℕ} (R S : Places → P → Reader A) → ((at : Places) (sub : P) → R at sub [] ≡ S at sub []) → Reads w k F r f S [] → Reads w k F r f R []
  choice_nil R S e h = record {
    past = past_by (R w.text.here w.low) (R w.text.here w.high) (S w.text.here w.low) (S w.text.here w.high) [] (e w.text.here w.low)
        (e w.text.here w.high) h.past;
    local = local_nil w.text.tok w.text.after w.text.more w.text.here w.text.there w.text.shift (R w.text.here w.high) (R w.text.there w.moved)
        (S w.text.here w.high) (S w.text.there w.moved) (e w.text.here w.high) h.local;
    told = told_by (R w.text.here w.high) (S w.text.here w.high) [] (e w.text.here w.high) h.told;
  }

  -- The first token is left to another reader.
  pub choice_reads : {k : ℕ} (R S : Places → P → Reader A) (c : Token) (ws : List Token)
      → ((at : Places) (sub : P) (l : List Token) → R at sub (c ∷ l) ≡ S at sub (c ∷ l)) → Reads w k F r f S (c ∷ ws) → Reads w k F r f R (c ∷ ws)
  choice_reads R S c ws e h = record {
    past = past_by (R w.text.here w.low) (R w.text.here w.high) (S w.text.here w.low) (S w.text.here w.high) (c ∷ ws) (e w.text.here w.low ws)
        (e w.text.here w.high ws) h.past;
    local = keeps w.text.tok w.text.after w.text.more w.text.here w.text.there w.text.shift (R w.text.here w.high) (R w.text.there w.moved)
        (S w.text.here w.high) (S w.text.there w.moved) c ws (e w.text.here w.high) (e w.text.there w.moved) h.local;
    told = told_by (R w.text.here w.high) (S w.text.here w.high) (c ∷ ws) (e w.text.here w.high ws) h.told;
  }

  pub weaken : {k : ℕ} {R : Places → P → Reader A} {ws : List Token} → Reads w k F r f R ws → Reads w 0 F r f R ws
  weaken h = record { past = h.past; local = h.local; told = told_weaken h.told }

  -- The same behind what is the same.
  pub behind_reads : {k : ℕ} {g : List Token → List Token} {R : Places → P → Reader A} {ws : List Token} → ((l : List Token) → g l ≡ f l)
      → Reads w k F r g R ws → Reads w k F r f R ws
  behind_reads alike h = record {
    past = h.past;
    local = h.local;
    told = record {
      taken = λ a rest e.
          let o = h.told.taken a rest e in
          record {
            before = o.before;
            was = o.was;
            agrees = o.agrees;
            takes = o.takes;
            spelled = λ l. sym (alike (o.before l)) ∙ o.spelled l;
            fine = o.fine;
            good = o.good;
          };
      begins = λ j e. let o = h.told.begins j e in (o.0, o.1, (o.2.0, o.2.1, sym (alike o.0) ∙ o.2.2));
    };
  }

  -- What another form tells, behind these tokens.
  pub as_reads : {k : ℕ} {G : Form A} {R : Places → P → Reader A} {ws : List Token} → ((a : A) (l : List Token) → f (G.write a l) ≡ F.write a l)
      → ((a : A) → G.fine a → F.fine a) → ((a : A) (rest : List Token) → G.fine a → G.good a rest → F.good a rest)
      → Reads w k G r (λ l. l) R ws → Reads w k F r f R ws
  as_reads alike fine good h = record {
    past = h.past;
    local = h.local;
    told = record {
      taken = λ a rest e.
          let o = h.told.taken a rest e in
          record {
            before = o.before;
            was = o.was;
            agrees = o.agrees;
            takes = o.takes;
            spelled = λ l. ap f (o.spelled l) ∙ alike a l;
            fine = fine a o.fine;
            good = good a rest o.fine o.good;
          };
      begins = λ j e. let o = h.told.begins j e in (o.0, o.1, (o.2.0, fine o.2.0 o.2.1, ap f o.2.2 ∙ alike o.2.0 r));
    };
  }

-- One reader, which reads on behind some tokens, and then another.
pub then_behind : {A B : Type 0} {P : Type 0} {w : World P} {k j : ℕ} {F : Form A} {G : Form B} {q r : List Token} {g : List Token
    → List Token} {R : Places → P → Reader B} {K : Places → P → B → Reader A} {ws : List Token} (c : List Token → List Token) → Reads w k G q g R ws
    → ((b : B) → G.fine b → IsSpelled F r (c (G.write b q)))
    → ((b : B) (rest : List Token) → g ws ≡ G.write b rest → G.fine b → G.good b rest
    → Reads w j F r (λ l. c (G.write b l)) (λ at sub. K at sub b) rest)
    → Reads w k F r (λ l. c (g l)) (λ at sub l. then_at (R at sub l) (K at sub)) ws
then_behind {B = B} {w = w} {j = j} {F = F} {G = G} {r = r} {g = g} {R = R} {K = K} {ws = ws} c h o n =
    let next : (b : B) (rest : List Token) → R w.text.here w.high ws ≡ done b rest → Reads w j F r (λ l. c (G.write b l))
    (λ at sub. K at sub b) rest = λ b rest e. let u = h.told.taken b rest e in n b rest (ap g u.was ∙ u.spelled rest) u.fine u.good in
    record {
      past = then_past h.past (λ b rest e. (next b rest e).past);
      local = then_local w.text.tok w.text.after w.text.more w.text.here w.text.there w.text.shift h.local (λ b rest e. (next b rest e).local);
      told = then_told c h.told o (λ b rest e. (next b rest e).told);
    }

-- One reader, and then another: what of the first is read spells with q behind it some of the whole, and behind what was read the second goes on.
pub then_reads : {A B : Type 0} {P : Type 0} {w : World P} {k j : ℕ} {F : Form A} {G : Form B} {q r : List Token} {f : List Token
    → List Token} {R : Places → P → Reader B} {K : Places → P → B → Reader A} {ws : List Token} → Reads w k G q (λ l. l) R ws
    → ((b : B) → G.fine b → IsSpelled F r (f (G.write b q)))
    → ((b : B) (rest : List Token) → ws ≡ G.write b rest → G.fine b → G.good b rest
    → Reads w j F r (λ l. f (G.write b l)) (λ at sub. K at sub b) rest) → Reads w k F r f (λ at sub l. then_at (R at sub l) (K at sub)) ws
then_reads {f = f} h o n = then_behind f h o n

-- ---- signs and names

abbrev pub sign : Sign → Form (Unit {0})
sign a = record { write = λ u l. t.Sign a ∷ l; fine = λ u. Unit {0}; good = λ u rest. Unit {0} }

abbrev pub variable : Places → Form Ident
variable at = record { write = λ x l. t.Variable x.name ∷ l; fine = λ x. Unit {0}; good = λ x rest. IsAt at x rest }

abbrev pub constructor : Places → Form Ident
constructor at = record { write = λ x l. t.Constructor x.name ∷ l; fine = λ x. Unit {0}; good = λ x rest. IsAt at x rest }

-- The plainest name.
abbrev pub a_name : Ident
a_name = record { name = record { 0 = 0 }; span = record { start = 0; end = 0 } }

module _ {P : Type 0} {w : World P} where
  want_head : (a b : Sign) (q ws : List Token) (v : Bool) → same a b ≡ v → Reads w 1 (sign a) q (λ l. l) (λ at sub. want a) (t.Sign b ∷ ws)
  want_head a b q ws true e =
      token_reads (λ at sub. want a) (λ z at sub. done (tt {0})) (t.Sign b) ws (λ at sub l. ap (λ x. want_if x l) e)
      (pure_reads (tt {0}) ws (λ l. ap (λ c. t.Sign c ∷ l) (sym (same_is a b e))) tt tt)
  want_head a b q ws false e = fail_reads (λ at sub. want a) (t.Sign b) ws (t.Sign a ∷ q) (λ at sub l. ap (λ x. want_if x l) e) (tt, tt, refl)

  pub want_reads : (a : Sign) (q ws : List Token) → Reads w 1 (sign a) q (λ l. l) (λ at sub. want a) ws
  want_reads a q [] = fail_nil (λ at sub. want a) (t.Sign a ∷ q) (λ at sub. refl) (tt, tt, refl)
  want_reads a q (t.Sign b ∷ ws) = want_head a b q ws (same a b) refl
  want_reads a q (c ∷ ws) = fail_reads (λ at sub. want a) c ws (t.Sign a ∷ q) (λ at sub l. refl) (tt, tt, refl)

  pub var_reads : (q ws : List Token) → Reads w 1 (variable w.text.here) q (λ l. l) (λ at sub. var_at at) ws
  var_reads q [] = fail_nil (λ at sub. var_at at) (t.Variable a_name.name ∷ q) (λ at sub. refl) (a_name, tt, refl)
  var_reads q (t.Variable x ∷ ws) = token_reads (λ at sub. var_at at) (λ z at sub. done (let y : Ident = record { name = x; span = z } in y))
      (t.Variable x) ws (λ at sub l. refl) (pure_reads (named w.text.here x ws) ws (λ l. refl) tt refl)
  var_reads q (c ∷ ws) = fail_reads (λ at sub. var_at at) c ws (t.Variable a_name.name ∷ q) (λ at sub l. refl) (a_name, tt, refl)

  pub con_reads : (q ws : List Token) → Reads w 1 (constructor w.text.here) q (λ l. l) (λ at sub. con_at at) ws
  con_reads q [] = fail_nil (λ at sub. con_at at) (t.Constructor a_name.name ∷ q) (λ at sub. refl) (a_name, tt, refl)
  con_reads q (t.Constructor x ∷ ws) = token_reads (λ at sub. con_at at) (λ z at sub. done (let y : Ident = record { name = x; span = z } in y))
      (t.Constructor x) ws (λ at sub l. refl) (pure_reads (named w.text.here x ws) ws (λ l. refl) tt refl)
  con_reads q (c ∷ ws) = fail_reads (λ at sub. con_at at) c ws (t.Constructor a_name.name ∷ q) (λ at sub l. refl) (a_name, tt, refl)

  -- A sign, and then another reader.
  pub then_sign : {A : Type 0} {j : ℕ} {F : Form A} {r : List Token} {f : List Token → List Token} {K : Places → P → Unit {0}
      → Reader A} {ws : List Token} (a : Sign) (q : List Token) → IsSpelled F r (f (t.Sign a ∷ q))
      → ((u : Unit {0}) (rest : List Token) → ws ≡ t.Sign a ∷ rest → Reads w j F r (λ l. f (t.Sign a ∷ l)) (λ at sub. K at sub u) rest)
      → Reads w 1 F r f (λ at sub l. then_at (want a l) (K at sub)) ws
  then_sign {ws = ws} a q o n = then_reads (want_reads a q ws) (λ u i. o) (λ u rest e i g. n u rest e)

-- ---- one after another

abbrev pub write_all : {A : Type 0} → (A → List Token → List Token) → List A → List Token → List Token
write_all write [] l = l
write_all write (x ∷ xs) l = write x (write_all write xs l)

abbrev pub fine_all : {A : Type 0} → (A → Type 0) → List A → Type 0
fine_all fine [] = Unit {0}
fine_all fine (x ∷ xs) = fine x × fine_all fine xs

abbrev pub good_all : {A : Type 0} → (A → List Token → List Token) → (A → List Token → Type 0) → List A → List Token → Type 0
good_all write good [] rest = Unit {0}
good_all write good (x ∷ xs) rest = good x (write_all write xs rest) × good_all write good xs rest

abbrev pub several : {A : Type 0} → Form A → Form (List A)
several F = record { write = write_all F.write; fine = fine_all F.fine; good = good_all F.write F.good }

module _ {A : Type 0} {F : Form A} (starts : Token → Bool) (p : Reader A) (h : (q ws : List Token) → Told 1 F q (λ l. l) p ws) where
  step_told : (v : Bool) (r : List Token) (ps : Reader (List A)) → ((ws : List Token) → Told 0 (several F) r (λ l. l) ps ws) → (ws : List Token)
      → Told 0 (several F) r (λ l. l) (many_step v p ps) ws
  step_told false r ps k ws = let nothing : List A = [] in pure_told nothing ws (λ l. refl) tt tt
  step_told true r ps k ws =
      told_weaken (then_told (λ l. l) (h r ws) (λ a o. (a ∷ [], (o, tt), refl)) (λ a rest e.
      let u = (h r ws).taken a rest e in
      then_told (λ l. F.write a l) (k rest) (λ xs o. (a ∷ xs, (u.fine, o), refl)) (λ xs left e2.
      let v = (k rest).taken xs left e2 in
      pure_told (a ∷ xs) left (λ l. refl) (u.fine, v.fine) (subst (F.good a) (v.was ∙ v.spelled left) u.good, v.good))))

  many_at_told : (n : ℕ) (r ws : List Token) → Told 0 (several F) r (λ l. l) (many_at n starts p) ws
  unfolding many_at
  many_at_told zero r ws = let nothing : List A = [] in told_by (many_at zero starts p) (done nothing) ws refl (pure_told nothing ws (λ l. refl) tt tt)
  many_at_told (suc n) r ws = told_by (many_at (suc n) starts p) (many_step (next_is starts ws) p (many_at n starts p)) ws refl
      (step_told (next_is starts ws) r (many_at n starts p) (many_at_told n r) ws)

pub many_reads : {A : Type 0} {P : Type 0} {w : World P} {F : Form A} (starts : Token → Bool) (R : Places → P → Reader A)
    → ((q ws : List Token) → Reads w 1 F q (λ l. l) R ws) → (r ws : List Token)
    → Reads w 0 (several F) r (λ l. l) (λ at sub. many starts (R at sub)) ws
unfolding many
many_reads {w = w} starts R h r ws =
    let p = R w.text.here w.high in
    record {
      past = many_past starts (R w.text.here w.low) p (λ l. (h [] l).past) ws;
      local = many_local w.text.tok w.text.after w.text.more w.text.here w.text.there w.text.shift starts p (R w.text.there w.moved)
          (λ l. (h [] l).local) (λ l a rest e. let o = ((h [] l).told.taken a rest e).takes in omega arith)
          (λ n l. many_within n starts (R w.text.here w.low) p (λ l. (h [] l).past) l) ws;
      told = told_by (many starts p) (many_at (length ws) starts p) ws refl (many_at_told starts p (λ q l. (h q l).told) (length ws) r ws);
    }

-- ---- what follows at once

-- A text by itself.
abbrev pub alone : Places → Text
alone at = record { tok = t.Number 0; after = []; more = []; here = at; there = at; shift = λ k. refl }

-- Tokens are taken.
pub shrinks : {A : Type 0} {F : Form A} {r : List Token} {f : List Token → List Token} {p : Reader A} {ws : List Token} → Told 1 F r f p ws
    → Holds (p ws) (λ _ rest. length rest < length ws)
shrinks h = record { by = λ a rest e. let le = (h.taken a rest e).takes in omega arith }

-- What agrees up to where j tokens are left begins with the tokens before.
pub agrees_begin : (j : ℕ) (ws vs : List Token) → Agrees j ws vs → (more : List Token) × (vs ≡ take (length ws - j) ws ++ more)
agrees_begin j ws vs a =
    let len : length a.front ≡ length ws - j = omega (arith, ap length a.here, length-append a.front a.rest, a.left) in
    let cut : take (length ws - j) ws ≡ a.front = ap (take (length ws - j)) a.here ∙ take_at a.front a.rest (length ws - j) len in
    (a.more, a.there ∙ ap (λ l. l ++ a.more) (sym cut))
