-- A text is refused at one line, and then it is no journal's.
use Rattle.std.proofs.Common.{◌≡◌, ℕ, ◌<◌, List, [], ◌∷◌, ◌++◌, length, sym, ap, ◌∙◌, subst, refl, append_assoc, arith, inl, inr}
use Rattle.std.proofs.lemmas.Bool.Decides.{leb_tells}
use Rattle.std.specs.List.{flat_map}
use Rattle.gib_locked.specs.JournalText.{fed, lines_text}
use Rattle.gib_locked.specs.JournalReading.{IsRefusedAt}
use Rattle.gib_locked.proofs.LineTexts.{halves}
use Rattle.gib_locked.proofs.JournalLines.{AreLines, front_are, journal_are}

-- Of two cuts of a text into lines and a rest, the shorter one's rest begins with the next line of the other.
record Longer (b c : List (List ℕ)) (r s : List ℕ) : Type 0 where
  pub next : List ℕ
  pub more : List (List ℕ)
  pub lines_are : c ≡ b ++ next ∷ more
  pub rest_is : r ≡ next ++ 10 ∷ (flat_map fed more ++ s)

fed_then : (l : List ℕ) (c : List (List ℕ)) (s : List ℕ) → flat_map fed (l ∷ c) ++ s ≡ l ++ 10 ∷ (flat_map fed c ++ s)
fed_then l c s = append_assoc (fed l) (flat_map fed c) s ∙ append_assoc l (10 ∷ []) (flat_map fed c ++ s)

longer : (b c : List (List ℕ)) (r s : List ℕ) → AreLines b → AreLines c → flat_map fed b ++ r ≡ flat_map fed c ++ s → length b < length c → Longer b c r s
longer [] [] r s f g e lt = absurd (omega (arith, lt))
longer [] (l ∷ c) r s f g e lt = record { next = l; more = c; lines_are = refl; rest_is = e ∙ fed_then l c s }
longer (b ∷ bs) [] r s f g e lt = absurd (omega (arith, lt))
longer (b ∷ bs) (l ∷ c) r s f g e lt =
    let h = halves 10 b l (flat_map fed bs ++ r) (flat_map fed c ++ s) f.0 g.0 (sym (fed_then b bs r) ∙ (e ∙ fed_then l c s)) in
    let m = longer bs c r s f.1 g.1 h.1 (omega (arith, lt)) in
    record { next = m.next; more = m.more; lines_are = ap (λ x. x ∷ c) (sym h.0) ∙ ap (λ xs. b ∷ xs) m.lines_are; rest_is = m.rest_is }

lines_of : (text : List ℕ) (n : ℕ) (h : IsRefusedAt text n) → AreLines h.before
lines_of text n h = front_are h.before h.can.more (subst AreLines h.can.begin (journal_are h.can.settings h.can.lines h.can.are))

-- The lines up to a refused one are the first of no journal's.
not_earlier : (text : List ℕ) (n m : ℕ) (h : IsRefusedAt text n) (k : IsRefusedAt text m) → length h.before < length k.before → ⊥
not_earlier text n m h k lt =
    let l = longer h.before k.before h.rest k.rest (lines_of text n h) (lines_of text m k) (sym h.cut ∙ k.cut) lt in
    let are : lines_text k.can.settings k.can.lines ≡ h.before ++ l.next ∷ (l.more ++ k.can.more) =
    k.can.begin ∙ (ap (λ ls. ls ++ k.can.more) l.lines_are ∙ append_assoc h.before (l.next ∷ l.more) k.can.more) in
    h.cannot k.can.settings k.can.lines l.next (l.more ++ k.can.more) (flat_map fed l.more ++ k.rest) k.can.are are l.rest_is

pub one_refusal : (text : List ℕ) (n m : ℕ) → IsRefusedAt text n → IsRefusedAt text m → n ≡ m
one_refusal text n m h k = elim (leb_tells (length h.before) (length k.before)) [
  | inl few ↦ elim (leb_tells (length k.before) (length h.before)) [
    | inl many ↦ (let a = few.1 in let b = many.1 in let c = h.number_is in let d = k.number_is in omega (arith, a, b, c, d))
    | inr lt ↦ absurd (not_earlier text n m h k lt.1)
  ]
  | inr lt ↦ absurd (not_earlier text m n k h lt.1)
]
