-- Where expressions past the last level begin.
use Rattle.std.proofs.Common.{◌≡◌, ℕ, zero, suc, ◌+◌, ◌<◌, ◌≤◌, ◌-◌, List, [], ◌∷◌, ◌++◌, length, take, drop, Ok, Err, refl, sym, ap, ◌∙◌, subst, arith, length-append, append_assoc, ◌⊎◌, inl, inr}
use Rattle.std.proofs.lemmas.List.{take-append-drop, take-take}
use Rattle.std.proofs.lemmas.Bool.{cases_lt}
use Rattle.gib_base.specs.declared.token.Token.{Token}
use Rattle.gib_syntax.specs.GenericTree.{GenericProgramTree}
use Rattle.gib_syntax.specs.Spelling.{Places, Derives}
use Rattle.gib_parse.specs.Reading.{At, Nested, Read, whole_in}
use Rattle.gib_parse.specs.Nesting.{below_program}
use Rattle.gib_parse.specs.Blaming.{Begun, NoneBefore, BegunWith, Sinks}
use Rattle.gib_reads.proofs.Tools.{failed}
use Rattle.gib_parse.proofs.Come.{Comes, Came, Sank}
use Rattle.gib_reads.proofs.Local.{Deep, at_is_nested}
use Rattle.gib_reads.proofs.Cuts.{moved, Splits, split_at, following, fewer_tokens}
use Rattle.gib_parse.proofs.ProgramSettle.{settle_program}
use Rattle.gib_parse.proofs.WholeLaws.{whole_local, whole_past, nested_goes_past, whole_begun}
use Rattle.gib_parse.proofs.Whole.{whole_reads, derived_comes, whole_within, whole_deep}

-- ---- some program begins so

-- A program that begins with more of the tokens begins with fewer.
pub fewer_derive : (ts : List Token) (j k : ℕ) → j ≤ k → (p : GenericProgramTree) (more : List Token) → Derives (take (length ts - j) ts ++ more) p
    → Derives (take (length ts - k) ts ++ following ts j k more) p
fewer_derive ts j k le p more d = subst (λ (l : List Token). Derives l p) (sym (fewer_tokens ts j k le more)) d

fewer : (ts : List Token) (j k : ℕ) → j ≤ k → Begun ts j → Begun ts k
fewer ts j k le b = (b.0, following ts j k b.1, fewer_derive ts j k le b.0 b.1 b.2)

-- A program begins with whatever stands at its front.
front_begun : (ts : List Token) (k : ℕ) (p : GenericProgramTree) → Derives ts p → Begun ts k
front_begun ts k p d = (p, drop (length ts - k) ts, subst (λ (l : List Token). Derives l p) (sym (take-append-drop (length ts - k) ts)) d)

never_at_end : (n : ℕ) (at : Places) (ts : List Token) → whole_in n at ts ≡ failed (Nested 0) → ⊥
never_at_end n at ts e = go (whole_in (suc n) at ts) refl where
  go : (r : Read GenericProgramTree) → whole_in (suc n) at ts ≡ r → ⊥
  go (Ok x) f = let lt = (whole_past at n ts).sunk_ok 0 x.0 x.1 e f in omega arith
  go (Err bad) f = let lt = nested_goes_past n at ts 0 bad e f in omega arith

begun_by : (n : ℕ) (at : Places) (ts : List Token) (k : ℕ) → whole_in n at ts ≡ failed (Nested (suc k)) → ((j : ℕ) → j < k → whole_in (suc n) at ts ≡ failed (Nested (suc j)) → Begun ts j) → (r : Read GenericProgramTree) → whole_in (suc n) at ts ≡ r → Begun ts k
begun_by n at ts k e again (Ok x) f = front_begun ts k x.0 (whole_reads (suc n) at ts x.0 x.1 f).derived
begun_by n at ts k e again (Err (At j)) f = let lt = nested_goes_past n at ts (suc k) (At j) e f in fewer ts j k (omega arith) (whole_begun at (suc n) ts j f)
begun_by n at ts k e again (Err (Nested zero)) f = absurd (never_at_end (suc n) at ts f)
begun_by n at ts k e again (Err (Nested (suc j))) f = let lt = nested_goes_past n at ts (suc k) (Nested (suc j)) e f in fewer ts j k (omega arith) (again j (omega arith) f)

begun_upto : (b n : ℕ) (at : Places) (ts : List Token) (k : ℕ) → k ≤ b → whole_in n at ts ≡ failed (Nested (suc k)) → Begun ts k
begun_upto zero n at ts k le e = begun_by n at ts k e (λ j lt f. absurd (omega arith)) (whole_in (suc n) at ts) refl
begun_upto (suc b) n at ts k le e = begun_by n at ts k e (λ j lt f. begun_upto b (suc n) at ts j (omega arith) f) (whole_in (suc n) at ts) refl

-- Some program begins with the tokens up to and including the one that is nested too deep.
pub whole_begun_with : (n : ℕ) (at : Places) (ts : List Token) (k : ℕ) → whole_in n at ts ≡ failed (Nested k) → BegunWith ts k
whole_begun_with n at ts zero e = absurd (never_at_end n at ts e)
whole_begun_with n at ts (suc k) e = begun_upto k n at ts k (omega arith) e

-- ---- each program that begins so

-- The token begins the first expression past the last level.
pub whole_sinks : (at : Places) (ts : List Token) (k : ℕ) → whole_in 200 at ts ≡ failed (Nested k) → Sinks ts k
whole_sinks at ts zero e = absurd (never_at_end 200 at ts e)
whole_sinks at ts (suc k) e = λ g more d. whole_deep 200 at ts k e g more d

-- The places of a text in which other tokens follow a part.
moved_is : (at : Places) (part after more : List Token) (i : ℕ) → at (i + length (part ++ after)) ≡ moved at after more (i + length (part ++ more))
moved_is at part after more i =
    let e : (i + length (part ++ more) + length after) - length more ≡ i + length (part ++ after) = omega (arith, length-append part more, length-append part after) in
    ap at (sym e)

-- A fault past the last level is found at its token, whatever follows.
same_fault : (l : ℕ) (at : Places) (front part : List Token) (tok : Token) (after more : List Token)
    → whole_in l (moved at after more) (front ++ tok ∷ (part ++ more)) ≡ failed (Nested (suc (length (part ++ more)))) → whole_in l at (front ++ tok ∷ (part ++ after)) ≡ failed (Nested (suc (length (part ++ after))))
same_fault l at front part tok after more e =
    (whole_local tok (part ++ more) (part ++ after) (moved at after more) at (moved_is at part after more) l (front ++ tok ∷ (part ++ more))).bad_same (front ++ tok ∷ (part ++ after)) (record { front = front; here = refl; there = refl }) Deep e

found_before : (l : ℕ) (at : Places) (front after more : List Token) (j k : ℕ) → whole_in l at (front ++ after) ≡ failed (At k) → whole_in l (moved at after more) (front ++ more) ≡ failed (Nested (suc j)) → length more ≤ j → ⊥
found_before l at front after more j k e f le = go (split_at front (j - length more) (let w = whole_within l (moved at after more) Deep (front ++ more) (suc j) f in omega (arith, length-append front more))) where
  go : Splits front (j - length more) → ⊥
  go r =
      let first = r.0 in let tok = r.1 in let part = r.2 in
      let there : front ++ more ≡ first ++ tok ∷ (part ++ more) = ap (λ (x : List Token). x ++ more) r.3 ∙ append_assoc first (tok ∷ part) more in
      let here : front ++ after ≡ first ++ tok ∷ (part ++ after) = ap (λ (x : List Token). x ++ after) r.3 ∙ append_assoc first (tok ∷ part) after in
      let count : suc j ≡ suc (length (part ++ more)) = omega (arith, length-append part more, r.4) in
      let sunk : whole_in l (moved at after more) (first ++ tok ∷ (part ++ more)) ≡ failed (Nested (suc (length (part ++ more)))) = ap (whole_in l (moved at after more)) (sym there) ∙ f ∙ ap (λ (n : ℕ). failed (Nested n)) count in
      at_is_nested {A = GenericProgramTree} k (suc (length (part ++ after))) (sym e ∙ ap (whole_in l at) here ∙ same_fault l at first part tok after more sunk)

floats_by : (l : ℕ) (at : Places) (front after more : List Token) (k : ℕ) (met : List ℕ) (a : GenericProgramTree) (rest : List Token) → whole_in l at (front ++ after) ≡ failed (At k) → Comes met (whole_in l (moved at after more) (front ++ more)) a rest → NoneBefore (length more) met
floats_by l at front after more k met a rest e (Came f m) = subst (λ (x : List ℕ). NoneBefore (length more) x) (sym m) tt
floats_by l at front after more k met a rest e (Sank j others f m) = subst (λ (x : List ℕ). NoneBefore (length more) x) (sym m) (go (cases_lt j (length more))) where
  go : (j < length more) ⊎ (length more ≤ j) → suc j ≤ length more
  go (inl lt) = omega arith
  go (inr le) = absurd (found_before l at front after more j k e f le)

-- No expression past the last level begins before a refused token.
pub whole_floats : (l : ℕ) (at : Places) (ts : List Token) (k : ℕ) → whole_in l at ts ≡ failed (At k) → (g : GenericProgramTree) (more : List Token) → Derives (take (length ts - k) ts ++ more) g → NoneBefore (length more) (below_program l g)
whole_floats l at ts k e g more d =
    let front = take (length ts - k) ts in
    let after = drop (length ts - k) ts in
    let here : whole_in l at (front ++ after) ≡ failed (At k) = ap (whole_in l at) (take-append-drop (length ts - k) ts) ∙ e in
    floats_by l at front after more k (below_program l g) (settle_program (moved at after more) g) [] here (derived_comes l (moved at after more) (front ++ more) g d)
