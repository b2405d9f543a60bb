-- The line that may stand behind others.
use Rattle.std.proofs.Common.{true≢false, ◌≡◌, ℕ, suc, ◌-◌, List, [], ◌∷◌, ◌++◌, Bool, true, false, ◌&&◌, length, Option, Some, None, slice_get, sym, refl, ap, ◌∙◌, subst, arith}
use Rattle.std.proofs.lemmas.Option.{none-some}
use Rattle.std.proofs.lemmas.Bool.{and_parts}
use Rattle.gib_locked.specs.declared.journal.Line.{Line}
use Rattle.gib_locked.specs.Lines.{are_lines, first_may_follow, is_line, may_follow}
use Rattle.gib_locked.specs.JournalText.{line_text}
use Rattle.gib_locked.proofs.LineTexts.{line_is_one}

both_true : (a b c : Bool) → a ≡ true → c ≡ true → (a && (b && (c && (true && true)))) ≡ b
both_true true true true p q = refl
both_true true false c p q = refl
both_true true true false p q = q
both_true false b c p q = absurd (true≢false (sym p))

abbrev known : Line → Option Line → Line
known l None = l
known l (Some k) = k

under : (a b c d : Bool) → a ≡ true → b ≡ true → c ≡ d → (a && (b && c)) ≡ d
under a b c d p q e = rw (p, q) e

pub next_by_last : (ls : List Line) (last line : Line) → Some last ≡ slice_get ls (length ls - 1) → are_lines ls ≡ true → is_line line ≡ true → are_lines (ls ++ line ∷ []) ≡ may_follow last line
next_by_last [] last line e are is = absurd (none-some _ (sym e))
next_by_last (l ∷ []) last line e are is = both_true (is_line l) (may_follow l line) (is_line line) (and_parts (is_line l) true are).0 is ∙ ap (λ k. may_follow k line) (sym (ap (known l) e))
next_by_last (l ∷ k ∷ ls) last line e are is =
    let n : length (l ∷ k ∷ ls) - 1 ≡ suc (length (k ∷ ls) - 1) = omega arith in
    let t = (and_parts (is_line l) (may_follow l k && are_lines (k ∷ ls)) are).1 in
    under (is_line l) (may_follow l k) (are_lines (k ∷ ls ++ line ∷ [])) (may_follow last line) (and_parts (is_line l) (may_follow l k && are_lines (k ∷ ls)) are).0 (and_parts (may_follow l k) (are_lines (k ∷ ls)) t).0
    (next_by_last (k ∷ ls) last line (subst (λ m. Some last ≡ slice_get (l ∷ k ∷ ls) m) n e) (and_parts (may_follow l k) (are_lines (k ∷ ls)) t).1 is)

pub last_is_line : (ls : List Line) (l : Line) → are_lines (ls ++ l ∷ []) ≡ true → is_line l ≡ true
last_is_line [] l h = (and_parts (is_line l) true h).0
last_is_line (k ∷ ls) l h = last_is_line ls l (and_parts (first_may_follow k (ls ++ l ∷ [])) (are_lines (ls ++ l ∷ [])) (and_parts (is_line k) (first_may_follow k (ls ++ l ∷ []) && are_lines (ls ++ l ∷ [])) h).1).1

pub no_line_no_next : (ls : List Line) (text : List ℕ) (l : Line) → ((k : Line) → is_line k ≡ true → text ≡ line_text k → ⊥) → are_lines (ls ++ l ∷ []) ≡ true → text ≡ line_text l → ⊥
no_line_no_next ls text l none are is = none l (last_is_line ls l are) is

pub other_next : (ls : List Line) (text : List ℕ) (k l : Line) → is_line k ≡ true → text ≡ line_text k → are_lines (ls ++ k ∷ []) ≡ false → are_lines (ls ++ l ∷ []) ≡ true → text ≡ line_text l → ⊥
other_next ls text k l f e wrong are is = true≢false (sym are ∙ (ap (λ m. are_lines (ls ++ m ∷ [])) (sym (line_is_one k l f (last_is_line ls l are) (sym e ∙ is))) ∙ wrong))
