-- The lines of journals, and what begins like them.
use Rattle.std.proofs.Common.{◌≡◌, ◌⊎◌, inl, inr, ℕ, ◌^◌, ◌<◌, List, [], ◌∷◌, ◌++◌, Bool, true, false, not, ◌&&◌, length, map, sym, refl, ap, ◌∙◌, subst, append_assoc, arith}
use Rattle.std.specs.Prelude.{◌==◌, if◌then◌else◌, codes, slice_index}
use Rattle.std.specs.List.{flat_map}
use Rattle.std.specs.Fmt.{decimal}
use Rattle.std.proofs.Math.Bool.{Bool-set}
use Rattle.std.proofs.lemmas.Bool.{and_parts, and_from}
use Rattle.gib_types.specs.declared.access.FieldAccess.{FieldAccess}
use Rattle.gib_types.specs.declared.access.FieldAccess.TheVariants.{Ends, Skips}
use Rattle.gib_locked.specs.Cuts.{lacks}
use Rattle.gib_locked.specs.Limits.{are_settings}
use Rattle.gib_locked.specs.declared.journal.Line.{Line}
use Rattle.gib_locked.specs.declared.journal.Line.TheVariants.{Steps, Forks, Steals, Takes, Finishes, Joins}
use Rattle.gib_locked.specs.declared.settings.Settings.{Settings}
use Rattle.gib_locked.specs.Lines.{are_lines, first_may_follow, is_line}
use Rattle.gib_locked.specs.JournalText.{access_text, events_text, fed, line_text, lines_text, numbers_text, settings_text, word_text}
use Rattle.gib_locked.proofs.LineTexts.{count_fits, halves, has_lacks, line_is_one, number_lacks, steps_count, steps_task, task_fits}
use Rattle.gib_locked.proofs.HeadTexts.{are_small, first_is, second_is, third_is}

-- Texts without a byte, one after the other.
lack_both : (byte : ℕ) (a b : List ℕ) → lacks byte a ≡ true → lacks byte b ≡ true → lacks byte (a ++ b) ≡ true
lack_both byte [] b h k = k
lack_both byte (x ∷ a) b h k = and_from (not (x == byte)) (lacks byte (a ++ b)) (and_parts (not (x == byte)) (lacks byte a) h).0 (lack_both byte a b (and_parts (not (x == byte)) (lacks byte a) h).1 k)

one_number : (n : ℕ) → n < 2 ^ 64 → lacks 10 (decimal n) ≡ true
one_number n h = number_lacks 10 n (omega arith) h

-- No line has a line feed in it.
pub line_lacks : (l : Line) → is_line l ≡ true → lacks 10 (line_text l) ≡ true
line_lacks (Steps t n) h = lack_both 10 (decimal t) (32 ∷ decimal n) (one_number t (task_fits t (steps_task t n h))) (one_number n (count_fits n (steps_count t n h)))
line_lacks (Forks t) h = one_number t (task_fits t h)
line_lacks (Steals t) h = one_number t (task_fits t h)
line_lacks (Takes t) h = one_number t (task_fits t h)
line_lacks (Finishes t) h = one_number t (task_fits t h)
line_lacks (Joins t) h = one_number t (task_fits t h)

access_lacks : (access : FieldAccess) → lacks 10 (access_text access) ≡ true
access_lacks Ends = refl
access_lacks Skips = refl

pub settings_lacks : (s : Settings) → lacks 10 (settings_text s) ≡ true
settings_lacks s =
    lack_both 10 (decimal s.depth) (codes " chunks " ++ (decimal s.chunks ++ (codes " fork " ++ (decimal s.fork ++ 32 ∷ access_text s.access)))) (one_number s.depth (are_small s).depth)
    (lack_both 10 (decimal s.chunks) (codes " fork " ++ (decimal s.fork ++ 32 ∷ access_text s.access)) (one_number s.chunks (are_small s).chunks)
    (lack_both 10 (decimal s.fork) (32 ∷ access_text s.access) (one_number s.fork (are_small s).fork) (access_lacks s.access)))

-- None of the lines has a line feed in it.
abbrev pub AreLines : List (List ℕ) → Type 0
AreLines [] = Unit {0}
AreLines (l ∷ ls) = (lacks 10 l ≡ true) × AreLines ls

events_are : (ls : List Line) → are_lines ls ≡ true → AreLines (events_text ls)
events_are [] h = (refl, tt)
events_are (l ∷ ls) h = (line_lacks l (and_parts (is_line l) (first_may_follow l ls && are_lines ls) h).0, events_are ls (and_parts (first_may_follow l ls) (are_lines ls) (and_parts (is_line l) (first_may_follow l ls && are_lines ls) h).1).1)

pub journal_are : (s : Settings) (ls : List Line) → are_lines ls ≡ true → AreLines (lines_text s ls)
journal_are s ls h = (refl, (settings_lacks s, events_are ls h))

pub front_are : (a b : List (List ℕ)) → AreLines (a ++ b) → AreLines a
front_are [] b h = tt
front_are (l ∷ a) b h = (h.0, front_are a b h.1)

-- Where a text begins with some lines, and is lines as a whole, the lines begin with those.
pub record Rest (before lines : List (List ℕ)) (rest : List ℕ) : Type 0 where
  pub more : List (List ℕ)
  pub lines_are : lines ≡ before ++ more
  pub rest_is : rest ≡ flat_map fed more

fed_more : (b : List ℕ) (more : List ℕ) → fed b ++ more ≡ b ++ 10 ∷ more
fed_more b more = append_assoc b (10 ∷ []) more

fed_some : (b more : List ℕ) → [] ≡ fed b ++ more → ⊥
fed_some [] more e = omega (arith, ap length e)
fed_some (x ∷ b) more e = omega (arith, ap length e)

pub rest_of : (before lines : List (List ℕ)) (rest : List ℕ) → AreLines before → AreLines lines → flat_map fed before ++ rest ≡ flat_map fed lines → Rest before lines rest
rest_of [] lines rest f g e = record { more = lines; lines_are = refl; rest_is = e }
rest_of (b ∷ before) [] rest f g e = absurd (fed_some b (flat_map fed before ++ rest) (sym e ∙ append_assoc (fed b) (flat_map fed before) rest))
rest_of (b ∷ before) (l ∷ lines) rest f g e =
    let h = halves 10 b l (flat_map fed before ++ rest) (flat_map fed lines) f.0 g.0 (sym (fed_more b (flat_map fed before ++ rest)) ∙ (sym (append_assoc (fed b) (flat_map fed before) rest) ∙ (e ∙ fed_more l (flat_map fed lines)))) in
    let r = rest_of before lines rest f.1 g.1 h.1 in
    record { more = r.more; lines_are = ap (λ x. x ∷ lines) (sym h.0) ∙ ap (λ xs. b ∷ xs) r.lines_are; rest_is = r.rest_is }

pub no_more : (more : List (List ℕ)) → [] ≡ flat_map fed more → more ≡ []
no_more [] e = refl
no_more (l ∷ more) e = absurd (fed_some l (flat_map fed more) e)

-- The last line is no event's.
pub no_end : (l : Line) → codes "end" ≡ line_text l → ⊥
no_end l e = has_lacks 32 (word_text l) (numbers_text l) (subst (λ xs. lacks 32 xs ≡ true) e refl)

abbrev first_of : List (List ℕ) → List ℕ
first_of [] = []
first_of (x ∷ xs) = x

abbrev others_of : List (List ℕ) → List (List ℕ)
others_of [] = []
others_of (x ∷ xs) = xs

-- Behind the lines of some events stands the last line, or that of an event that may stand there.
pub comes_next : (ls ks : List Line) (next : List ℕ) (more : List (List ℕ)) → are_lines ls ≡ true → are_lines ks ≡ true → events_text ks ≡ map line_text ls ++ next ∷ more
    → ((next ≡ codes "end") × (more ≡ [])) ⊎ ((k : Line) × (js : List Line) × (ks ≡ ls ++ k ∷ js) × (next ≡ line_text k))
comes_next [] [] next more f g e = inl (sym (ap first_of e), sym (ap others_of e))
comes_next [] (k ∷ ks) next more f g e = inr (k, ks, refl, sym (ap first_of e))
comes_next (l ∷ ls) [] next more f g e = absurd (no_end l (ap first_of e))
comes_next (l ∷ ls) (k ∷ ks) next more f g e =
    let same : k ≡ l = line_is_one k l (and_parts (is_line k) (first_may_follow k ks && are_lines ks) g).0 (and_parts (is_line l) (first_may_follow l ls && are_lines ls) f).0 (ap first_of e) in
    step same (comes_next ls ks next more (and_parts (first_may_follow l ls) (are_lines ls) (and_parts (is_line l) (first_may_follow l ls && are_lines ls) f).1).1 (and_parts (first_may_follow k ks) (are_lines ks) (and_parts (is_line k) (first_may_follow k ks && are_lines ks) g).1).1 (ap others_of e))
  where
    step : k ≡ l → ((next ≡ codes "end") × (more ≡ [])) ⊎ ((j : Line) × (js : List Line) × (ks ≡ ls ++ j ∷ js) × (next ≡ line_text j)) → ((next ≡ codes "end") × (more ≡ [])) ⊎ ((j : Line) × (js : List Line) × (k ∷ ks ≡ (l ∷ ls) ++ j ∷ js) × (next ≡ line_text j))
    step same (inl h) = inl h
    step same (inr (j, js, h, n)) = inr (j, js, ap (λ x. x ∷ ks) same ∙ ap (λ xs. l ∷ xs) h, n)

-- What may stand in front of more lines may stand alone.
pub front_may : (ls ks : List Line) (k : Line) → are_lines (ls ++ k ∷ ks) ≡ true → are_lines (ls ++ k ∷ []) ≡ true
front_may [] ks k h = is_one (is_line k) (and_parts (is_line k) (first_may_follow k ks && are_lines ks) h).0
  where
    is_one : (a : Bool) → a ≡ true → (a && (true && true)) ≡ true
    is_one true p = refl
    is_one false p = p
front_may (l ∷ ls) ks k h =
    let t = (and_parts (is_line l) (first_may_follow l (ls ++ k ∷ ks) && are_lines (ls ++ k ∷ ks)) h).1 in
    all_three (is_line l) (first_may_follow l (ls ++ k ∷ [])) (are_lines (ls ++ k ∷ [])) (and_parts (is_line l) (first_may_follow l (ls ++ k ∷ ks) && are_lines (ls ++ k ∷ ks)) h).0
    (sym (first_same ls) ∙ (and_parts (first_may_follow l (ls ++ k ∷ ks)) (are_lines (ls ++ k ∷ ks)) t).0) (front_may ls ks k (and_parts (first_may_follow l (ls ++ k ∷ ks)) (are_lines (ls ++ k ∷ ks)) t).1)
  where
    first_same : (js : List Line) → first_may_follow l (js ++ k ∷ ks) ≡ first_may_follow l (js ++ k ∷ [])
    first_same [] = refl
    first_same (j ∷ js) = refl

    all_three : (a b c : Bool) → a ≡ true → b ≡ true → c ≡ true → (a && (b && c)) ≡ true
    all_three true true c p q r = r
    all_three true false c p q r = q
    all_three false b c p q r = p

-- Lines of events are of one list.
pub events_are_one : (ls ks : List Line) → are_lines ls ≡ true → are_lines ks ≡ true → events_text ls ≡ events_text ks → ls ≡ ks
events_are_one [] [] f g e = refl
events_are_one [] (k ∷ ks) f g e = absurd (no_end k (ap first_of e))
events_are_one (l ∷ ls) [] f g e = absurd (no_end l (sym (ap first_of e)))
events_are_one (l ∷ ls) (k ∷ ks) f g e =
    let same : l ≡ k = line_is_one l k (and_parts (is_line l) (first_may_follow l ls && are_lines ls) f).0 (and_parts (is_line k) (first_may_follow k ks && are_lines ks) g).0 (ap first_of e) in
    ap (λ x. x ∷ ls) same ∙ ap (λ xs. k ∷ xs) (events_are_one ls ks (and_parts (first_may_follow l ls) (are_lines ls) (and_parts (is_line l) (first_may_follow l ls && are_lines ls) f).1).1 (and_parts (first_may_follow k ks) (are_lines ks) (and_parts (is_line k) (first_may_follow k ks && are_lines ks) g).1).1 (ap others_of e))

abbrev access_in : List ℕ → FieldAccess
access_in xs = if slice_index xs 6 == 49 then Skips else Ends

access_is_one : (a b : FieldAccess) → access_text a ≡ access_text b → a ≡ b
access_is_one Ends Ends e = refl
access_is_one Skips Skips e = refl
access_is_one Ends Skips e = ap access_in e
access_is_one Skips Ends e = ap access_in e

abbrev made : (d c f : ℕ) (k : FieldAccess) → are_settings d c f ≡ true → Settings
made d c f k p = record { depth = d; chunks = c; fork = f; access = k; within = p }

same_settings : (d c f d' c' f' : ℕ) (k k' : FieldAccess) (p : are_settings d c f ≡ true) (q : are_settings d' c' f' ≡ true) → d ≡ d' → c ≡ c' → f ≡ f' → k ≡ k' → made d c f k p ≡ made d' c' f' k' q
same_settings d c f d' c' f' k k' p q ed ec ef ek =
    subst (λ k''. made d c f k p ≡ made d' c' f' k'' q) ek
    (subst (λ f''. (r : are_settings d' c' f'' ≡ true) → made d c f k p ≡ made d' c' f'' k r) ef
    (subst (λ c''. (r : are_settings d' c'' f ≡ true) → made d c f k p ≡ made d' c'' f k r) ec
    (subst (λ d''. (r : are_settings d'' c f ≡ true) → made d c f k p ≡ made d'' c f k r) ed (λ r. ap (made d c f k) (Bool-set _ _ p r)))) q)

-- What a weave was started with is told by its line.
pub settings_are_one : (s t : Settings) → settings_text s ≡ settings_text t → s ≡ t
settings_are_one s t e =
    let a = first_is (settings_text s) _ s.depth t (are_small s).depth refl e in
    let b = second_is (settings_text s) _ _ s.depth s.chunks t (are_small s).depth (are_small s).chunks refl refl e in
    let c = third_is (settings_text s) _ _ _ s.depth s.chunks s.fork t (are_small s).depth (are_small s).chunks (are_small s).fork refl refl refl e in
    same_settings s.depth s.chunks s.fork t.depth t.chunks t.fork s.access t.access s.within t.within a.0 b.0 c.0 (access_is_one s.access t.access c.1)
