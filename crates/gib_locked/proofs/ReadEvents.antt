-- What reading the lines of events finds.
use Rattle.std.proofs.Common.{◌≡◌, ◌⊎◌, inl, inr, ℕ, ◌+◌, List, [], ◌∷◌, ◌++◌, true, length, map, sym, refl, ap, ◌∙◌, subst, append_assoc}
use Rattle.std.specs.Prelude.{codes}
use Rattle.std.specs.List.{flat_map}
use Rattle.std.proofs.lemmas.Grind.{flat_map-append}
use Rattle.std.proofs.lemmas.List.{append-nil, nil_from_length}
use Rattle.gib_locked.specs.Cuts.{IsCut, lacks}
use Rattle.gib_locked.specs.declared.journal.Line.{Line}
use Rattle.gib_locked.specs.Lines.{are_lines}
use Rattle.gib_locked.specs.JournalText.{events_text, fed, line_text}
use Rattle.gib_locked.specs.JournalReading.{IsBehindAt, IsStuckAt}
use Rattle.gib_locked.proofs.LineTexts.{halves, has_lacks}
use Rattle.gib_locked.proofs.JournalLines.{line_lacks}
use Rattle.gib_locked.proofs.NextLines.{last_is_line}

end_cut : (text rest front behind : List ℕ) (ls : List Line) → text ≡ flat_map fed (map line_text ls) ++ rest → IsCut 10 rest front behind → front ≡ codes "end" → text ≡ flat_map fed (events_text ls) ++ behind
end_cut text rest front behind ls is c e =
    let a : List ℕ = flat_map fed (map line_text ls) in let z : List ℕ = fed (codes "end") in
    is ∙ (ap (λ r. a ++ r) (c.text_is ∙ ap (λ f. f ++ 10 ∷ behind) e)
    ∙ sym (ap (λ x. x ++ behind) (flat_map-append fed (map line_text ls) (codes "end" ∷ [])) ∙ append_assoc a z behind))

pub behind_end : (text rest front behind : List ℕ) (ls : List Line) (n : ℕ) → are_lines ls ≡ true → text ≡ flat_map fed (map line_text ls) ++ rest → IsCut 10 rest front behind → front ≡ codes "end" → (behind ≡ [] → ⊥) → n ≡ length ls
    → IsStuckAt text (n + 4) ⊎ IsBehindAt text (n + 4)
behind_end text rest front behind ls n are is c e some len = inr (record { lines = ls; rest = behind; are = are; cut = end_cut text rest front behind ls is c e; number_is = ap (λ k. k + 4) len; some = some })

pub all_read : (text rest front behind : List ℕ) (ls : List Line) → text ≡ flat_map fed (map line_text ls) ++ rest → IsCut 10 rest front behind → front ≡ codes "end" → length behind ≡ 0 → text ≡ flat_map fed (events_text ls)
all_read text rest front behind ls is c e none = end_cut text rest front behind ls is c e ∙ (ap (λ b. flat_map fed (events_text ls) ++ b) (nil_from_length behind none) ∙ append-nil (flat_map fed (events_text ls)))

pub stuck_there : (text rest front behind : List ℕ) (ls : List Line) (n : ℕ) → are_lines ls ≡ true → text ≡ flat_map fed (map line_text ls) ++ rest → IsCut 10 rest front behind → (front ≡ codes "end" → ⊥)
    → ((l : Line) → are_lines (ls ++ l ∷ []) ≡ true → front ≡ line_text l → ⊥) → n ≡ length ls → IsStuckAt text (n + 3) ⊎ IsBehindAt text (n + 3)
stuck_there text rest front behind ls n are is c other none len = inl (record {
  lines = ls;
  rest = rest;
  are = are;
  cut = is;
  number_is = ap (λ k. k + 3) len;
  not_last = λ more e. other (halves 10 front (codes "end") behind more c.without refl (sym c.text_is ∙ e)).0;
  not_event = λ l more f e. none l f (halves 10 front (line_text l) behind more c.without (line_lacks l (last_is_line ls l f)) (sym c.text_is ∙ e)).0;
})

pub stuck_at_end : (text rest : List ℕ) (ls : List Line) (n : ℕ) → are_lines ls ≡ true → text ≡ flat_map fed (map line_text ls) ++ rest → lacks 10 rest ≡ true → n ≡ length ls → IsStuckAt text (n + 3) ⊎ IsBehindAt text (n + 3)
stuck_at_end text rest ls n are is none len = inl (record {
  lines = ls;
  rest = rest;
  are = are;
  cut = is;
  number_is = ap (λ k. k + 3) len;
  not_last = λ more e. has_lacks 10 (codes "end") more (subst (λ xs. lacks 10 xs ≡ true) e none);
  not_event = λ l more f e. has_lacks 10 (line_text l) more (subst (λ xs. lacks 10 xs ≡ true) e none);
})
