-- A journal that is one event longer.
use Rattle.std.proofs.lemmas.Option.{none-some}
use Rattle.std.proofs.Common.{◌≡◌, ℕ, ◌+◌, ◌<◌, ◌≤◌, List, [], ◌∷◌, ◌++◌, replicate, Bool, true, false, not, ◌&&◌, ◌||◌, sym, refl, ap, ◌∙◌, subst, append_assoc, arith}
use Rattle.std.specs.Prelude.{◌==◌, nat_lt, nat_le}
use Rattle.std.proofs.lemmas.List.{append-nil, replicate-append-replicate}
use Rattle.std.proofs.lemmas.Bool.Decides.{nat_tests}
use Rattle.gib_weave.specs.declared.event.Event.{Event as TaskEvent}
use Rattle.gib_weave.specs.declared.event.Event.TheVariants as event
use Rattle.gib_weave.specs.Applied.{event_of}
use Rattle.gib_weave.specs.Weave.{Step}
use Rattle.gib_locked.specs.declared.journal.Line.{Line}
use Rattle.gib_locked.specs.declared.journal.Line.TheVariants.{Steps, Forks, Steals, Takes, Finishes, Joins}
use Rattle.std.specs.Prelude.{Some, None, if◌then◌else◌}
use Rattle.std.proofs.lemmas.Bool.{and_parts, and_from}
use Rattle.gib_locked.specs.Lines.{longer, counted, counted_out, line_of, is_line, is_task, may_follow, first_may_follow, are_lines, most, IsLonger}
use Rattle.gib_locked.proofs.NextLines.{last_is_line}

pub counted_append : (ls ks : List Line) → counted_out (ls ++ ks) ≡ counted_out ls ++ counted_out ks
counted_append [] ks = refl
counted_append (l ∷ ls) ks = ap (λ es. counted l ++ es) (counted_append ls ks) ∙ sym (append_assoc (counted l) (counted_out ls) (counted_out ks))

one : (e : TaskEvent) → counted_out (line_of e ∷ []) ≡ event_of e ∷ []
one (event.Step t) = refl
one (event.Fork t) = refl
one (event.Steal t) = refl
one (event.Take t) = refl
one (event.Finish t) = refl
one (event.Join t) = refl

pub counted_line : (ls : List Line) (e : TaskEvent) → counted_out (ls ++ line_of e ∷ []) ≡ counted_out ls ++ event_of e ∷ []
counted_line ls e = counted_append ls (line_of e ∷ []) ∙ ap (λ es. counted_out ls ++ es) (one e)

pub counted_longer : (ls : List Line) (last line : Line) (e : TaskEvent) → IsLonger last e line → counted_out (ls ++ line ∷ []) ≡ counted_out (ls ++ last ∷ []) ++ event_of e ∷ []
counted_longer ls last line e h =
    let n = h.count in let s = Step h.task in
    let tail : (k : ℕ) → counted_out (Steps h.task k ∷ []) ≡ replicate k s = λ k. append-nil (replicate k s) in
    let a : counted_out (ls ++ line ∷ []) ≡ counted_out ls ++ replicate (n + 1) s = counted_append ls (line ∷ []) ∙ (ap (λ l. counted_out ls ++ counted_out (l ∷ [])) h.line_is ∙ ap (λ es. counted_out ls ++ es) (tail (n + 1))) in
    let b : counted_out (ls ++ last ∷ []) ≡ counted_out ls ++ replicate n s = counted_append ls (last ∷ []) ∙ (ap (λ l. counted_out ls ++ counted_out (l ∷ [])) h.last_is ∙ ap (λ es. counted_out ls ++ es) (tail n)) in
    a ∙ (ap (λ es. counted_out ls ++ es) (sym (replicate-append-replicate n 1 s)) ∙ (sym (append_assoc (counted_out ls) (replicate n s) (s ∷ [])) ∙ (ap (λ es. es ++ s ∷ []) (sym b) ∙ ap (λ x. counted_out (ls ++ last ∷ []) ++ x ∷ []) (sym (ap event_of h.event_is)))))

-- The first line of a list that ends otherwise.
first_same : (k : Line) (ls : List Line) (l m : Line) → (may_follow k l ≡ true → may_follow k m ≡ true) → first_may_follow k (ls ++ l ∷ []) ≡ true → first_may_follow k (ls ++ m ∷ []) ≡ true
first_same k [] l m f e = f e
first_same k (j ∷ ls) l m f e = e

pub replaced : (ls : List Line) (l m : Line) → is_line m ≡ true → ((k : Line) → may_follow k l ≡ true → may_follow k m ≡ true) → are_lines (ls ++ l ∷ []) ≡ true → are_lines (ls ++ m ∷ []) ≡ true
replaced [] l m is f e = and_from _ _ is refl
replaced (k ∷ ls) l m is f e =
    let a = (and_parts (is_line k) (first_may_follow k (ls ++ l ∷ []) && are_lines (ls ++ l ∷ [])) e).0 in
    let b = (and_parts (is_line k) (first_may_follow k (ls ++ l ∷ []) && are_lines (ls ++ l ∷ [])) e).1 in
    let c = (and_parts (first_may_follow k (ls ++ l ∷ [])) (are_lines (ls ++ l ∷ [])) b).0 in
    let d = (and_parts (first_may_follow k (ls ++ l ∷ [])) (are_lines (ls ++ l ∷ [])) b).1 in
    and_from _ _ a (and_from _ _ (first_same k ls l m (f k) c) (replaced ls l m is f d))

first_longer : (k : Line) (ls : List Line) (l m : Line) → first_may_follow k (ls ++ l ∷ []) ≡ true → first_may_follow k ((ls ++ l ∷ []) ++ m ∷ []) ≡ true
first_longer k [] l m e = e
first_longer k (j ∷ ls) l m e = e

pub extended : (ls : List Line) (l m : Line) → is_line m ≡ true → may_follow l m ≡ true → are_lines (ls ++ l ∷ []) ≡ true → are_lines ((ls ++ l ∷ []) ++ m ∷ []) ≡ true
extended [] l m is f e = and_from _ _ (and_parts (is_line l) true e).0 (and_from _ _ f (and_from _ _ is refl))
extended (k ∷ ls) l m is f e =
    let a = (and_parts (is_line k) (first_may_follow k (ls ++ l ∷ []) && are_lines (ls ++ l ∷ [])) e).0 in
    let b = (and_parts (is_line k) (first_may_follow k (ls ++ l ∷ []) && are_lines (ls ++ l ∷ [])) e).1 in
    let c = (and_parts (first_may_follow k (ls ++ l ∷ [])) (are_lines (ls ++ l ∷ [])) b).0 in
    let d = (and_parts (first_may_follow k (ls ++ l ∷ [])) (are_lines (ls ++ l ∷ [])) b).1 in
    and_from _ _ a (and_from _ _ (first_longer k ls l m c) (extended ls l m is f d))

pub first_line : (e : TaskEvent) → is_line (line_of e) ≡ true → are_lines (line_of e ∷ []) ≡ true
first_line e is = and_from _ _ is refl

pub next_line : (ls : List Line) (l : Line) (e : TaskEvent) → is_line (line_of e) ≡ true → may_follow l (line_of e) ≡ true → are_lines (ls ++ l ∷ []) ≡ true → are_lines ((ls ++ l ∷ []) ++ line_of e ∷ []) ≡ true
next_line ls l e is = extended ls l (line_of e) is

-- What may stand before a line of steps may stand before a longer one.
before_longer : (k : Line) (t n m : ℕ) → may_follow k (Steps t n) ≡ true → may_follow k (Steps t m) ≡ true
before_longer (Steps u j) t n m e = e
before_longer (Forks u) t n m e = refl
before_longer (Steals u) t n m e = refl
before_longer (Takes u) t n m e = refl
before_longer (Finishes u) t n m e = refl
before_longer (Joins u) t n m e = refl

longer_is_line : (t n : ℕ) → is_line (Steps t n) ≡ true → n < most → is_line (Steps t (n + 1)) ≡ true
longer_is_line t n is room = and_from (is_task t) (nat_lt 0 (n + 1) && nat_le (n + 1) most) (and_parts (is_task t) (nat_lt 0 n && nat_le n most) is).0 (grind (arith, nat_tests))

pub longer_line : (ls : List Line) (last line : Line) (e : TaskEvent) → IsLonger last e line → are_lines (ls ++ last ∷ []) ≡ true → are_lines (ls ++ line ∷ []) ≡ true
longer_line ls last line e h are = subst (λ m. are_lines (ls ++ m ∷ []) ≡ true) (sym h.line_is)
    (replaced ls (Steps h.task h.count) (Steps h.task (h.count + 1)) (longer_is_line h.task h.count (last_is_line ls (Steps h.task h.count) (subst (λ m. are_lines (ls ++ m ∷ []) ≡ true) h.last_is are)) h.room) (λ k. before_longer k h.task h.count (h.count + 1)) (subst (λ m. are_lines (ls ++ m ∷ []) ≡ true) h.last_is are))

longer_steps : (t n u : ℕ) (line : Line) (a b : Bool) → (t == u) ≡ a → nat_lt n most ≡ b → (if a && b then Some (Steps t (n + 1)) else None) ≡ Some line → IsLonger (Steps t n) (event.Step u) line
longer_steps t n u line true true p q e = let tu : t ≡ u = grind (arith, nat_tests) in record { task = t; count = n; last_is = refl; event_is = ap event.Step (sym tu); room = grind (arith, nat_tests); line_is = (let same : Steps t (n + 1) ≡ line = cc in sym same) }
longer_steps t n u line true false p q e = absurd (none-some _ e)
longer_steps t n u line false b p q e = absurd (none-some _ e)

other_steps : (t n u : ℕ) (a b : Bool) → (t == u) ≡ a → nat_lt n most ≡ b → n ≤ most → (if a && b then Some (Steps t (n + 1)) else None) ≡ None → may_follow (Steps t n) (Steps u 1) ≡ true
other_steps t n u true true p q le e = absurd (none-some _ (sym e))
other_steps t n u true false p q le e = grind (arith, nat_tests)
other_steps t n u false b p q le e = ap (λ x. not x || (n == most)) p

pub is_longer : (last : Line) (e : TaskEvent) (line : Line) → longer last e ≡ Some line → IsLonger last e line
is_longer (Steps t n) (event.Step u) line h = longer_steps t n u line (t == u) (nat_lt n most) refl refl h
is_longer (Steps t n) (event.Fork u) line h = absurd (none-some _ h)
is_longer (Steps t n) (event.Steal u) line h = absurd (none-some _ h)
is_longer (Steps t n) (event.Take u) line h = absurd (none-some _ h)
is_longer (Steps t n) (event.Finish u) line h = absurd (none-some _ h)
is_longer (Steps t n) (event.Join u) line h = absurd (none-some _ h)
is_longer (Forks t) e line h = absurd (none-some _ h)
is_longer (Steals t) e line h = absurd (none-some _ h)
is_longer (Takes t) e line h = absurd (none-some _ h)
is_longer (Finishes t) e line h = absurd (none-some _ h)
is_longer (Joins t) e line h = absurd (none-some _ h)

at_most : (t n : ℕ) → is_line (Steps t n) ≡ true → n ≤ most
at_most t n h = let b = (and_parts (nat_lt 0 n) (nat_le n most) (and_parts (is_task t) (nat_lt 0 n && nat_le n most) h).1).1 in grind (arith, nat_tests)

pub is_other : (ls : List Line) (last : Line) (e : TaskEvent) → are_lines (ls ++ last ∷ []) ≡ true → longer last e ≡ None → may_follow last (line_of e) ≡ true
is_other ls (Steps t n) (event.Step u) are h = other_steps t n u (t == u) (nat_lt n most) refl refl (at_most t n (last_is_line ls (Steps t n) are)) h
is_other ls (Steps t n) (event.Fork u) are h = refl
is_other ls (Steps t n) (event.Steal u) are h = refl
is_other ls (Steps t n) (event.Take u) are h = refl
is_other ls (Steps t n) (event.Finish u) are h = refl
is_other ls (Steps t n) (event.Join u) are h = refl
is_other ls (Forks t) e are h = refl
is_other ls (Steals t) e are h = refl
is_other ls (Takes t) e are h = refl
is_other ls (Finishes t) e are h = refl
is_other ls (Joins t) e are h = refl
