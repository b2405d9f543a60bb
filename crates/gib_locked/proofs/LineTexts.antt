-- Lines and their texts.
use Rattle.std.proofs.Common.{true≢false, ◌≡◌, ℕ, ◌<◌, ◌^◌, List, [], ◌∷◌, ◌++◌, Bool, true, false, not, ◌&&◌, sym, refl, ap, ◌∙◌, subst, arith}
use Rattle.std.specs.Prelude.{◌==◌, codes, nat_lt, nat_le, if◌then◌else◌}
use Rattle.std.specs.Str.Parse.{digits_value}
use Rattle.std.specs.Char.{is_ascii_digit}
use Rattle.std.specs.Str.{all_ascii_digits}
use Rattle.std.specs.Fmt.{decimal}
use Rattle.std.proofs.lemmas.Fmt.{decimal_injective, digits_decimal, digits_value-decimal}
use Rattle.std.proofs.lemmas.Bool.Decides.{nat_tests}
use Rattle.std.proofs.lemmas.Bool.{and_parts, not-true}
use Rattle.gib_locked.specs.Cuts.{IsCut, lacks}
use Rattle.gib_locked.specs.declared.journal.Line.{Line}
use Rattle.gib_locked.specs.declared.journal.Line.TheVariants.{Steps, Forks, Steals, Takes, Finishes, Joins}
use Rattle.gib_locked.specs.Lines.{is_line, is_task, most}
use Rattle.gib_locked.specs.JournalText.{line_text, numbers_text, word_text}
use Rattle.gib_locked.proofs.Numbers.{own}

abbrev head : List ℕ → ℕ
head [] = 0
head (x ∷ xs) = x

abbrev tail : List ℕ → List ℕ
tail [] = []
tail (x ∷ xs) = xs

not_first : (byte x : ℕ) (rest : Bool) → x ≡ byte → (not (x == byte) && rest) ≡ true → ⊥
not_first byte x rest e h = let n : (x == byte) ≡ false = not-true (x == byte) (and_parts (not (x == byte)) rest h).0 in grind (arith, nat_tests)

-- What stands before and behind the first of a byte is one.
pub halves : (byte : ℕ) (a b r s : List ℕ) → lacks byte a ≡ true → lacks byte b ≡ true → a ++ byte ∷ r ≡ b ++ byte ∷ s → (a ≡ b) × (r ≡ s)
halves byte [] [] r s f g e = (refl, ap tail e)
halves byte [] (y ∷ b) r s f g e = absurd (not_first byte y (lacks byte b) (sym (ap head e)) g)
halves byte (x ∷ a) [] r s f g e = absurd (not_first byte x (lacks byte a) (ap head e) f)
halves byte (x ∷ a) (y ∷ b) r s f g e = let h = halves byte a b r s (and_parts (not (x == byte)) (lacks byte a) f).1 (and_parts (not (y == byte)) (lacks byte b) g).1 (ap tail e) in
    (ap (λ z. z ∷ a) (ap head e) ∙ ap (λ zs. y ∷ zs) h.0, h.1)

-- A text of digits lacks what is no digit.
digits_lack : (byte : ℕ) (bs : List ℕ) → byte < 48 → all_ascii_digits bs ≡ true → lacks byte bs ≡ true
digits_lack byte [] small h = refl
digits_lack byte (b ∷ bs) small h =
    let d : is_ascii_digit b ≡ true = (and_parts (is_ascii_digit b) (all_ascii_digits bs) h).0 in
    let other : (b == byte) ≡ false = grind (arith, nat_tests) in
    rw other (digits_lack byte bs small (and_parts (is_ascii_digit b) (all_ascii_digits bs) h).1)

pub number_lacks : (byte n : ℕ) → byte < 48 → n < 2 ^ 64 → lacks byte (decimal n) ≡ true
number_lacks byte n small fits = digits_lack byte (decimal n) small (digits_decimal own n fits)

-- A word of a line has no space and no line feed.
pub word_lacks : (l : Line) → lacks 32 (word_text l) ≡ true
word_lacks (Steps t n) = refl
word_lacks (Forks t) = refl
word_lacks (Steals t) = refl
word_lacks (Takes t) = refl
word_lacks (Finishes t) = refl
word_lacks (Joins t) = refl

pub task_fits : (t : ℕ) → is_task t ≡ true → t < 2 ^ 64
task_fits t h = grind (arith, nat_tests)

pub count_fits : (n : ℕ) → (nat_lt 0 n && nat_le n most) ≡ true → n < 2 ^ 64
count_fits n h = let b = (and_parts (nat_lt 0 n) (nat_le n most) h).1 in grind (arith, nat_tests)

pub steps_task : (t n : ℕ) → is_line (Steps t n) ≡ true → is_task t ≡ true
steps_task t n h = (and_parts (is_task t) (nat_lt 0 n && nat_le n most) h).0

pub steps_count : (t n : ℕ) → is_line (Steps t n) ≡ true → (nat_lt 0 n && nat_le n most) ≡ true
steps_count t n h = (and_parts (is_task t) (nat_lt 0 n && nat_le n most) h).1

-- Where a text is cut at a space, and is the text of a line, the word stands before it and the numbers behind.
pub cut_line : (text front rest : List ℕ) (l : Line) → IsCut 32 text front rest → text ≡ line_text l → (front ≡ word_text l) × (rest ≡ numbers_text l)
cut_line text front rest l c is = halves 32 front (word_text l) rest (numbers_text l) c.without (word_lacks l) (sym c.text_is ∙ is)

pub has_lacks : (byte : ℕ) (a r : List ℕ) → lacks byte (a ++ byte ∷ r) ≡ true → ⊥
has_lacks byte [] r h = not_first byte byte (lacks byte r) refl h
has_lacks byte (x ∷ a) r h = has_lacks byte a r (and_parts (not (x == byte)) (lacks byte (a ++ byte ∷ r)) h).1

-- A text without a space is no line's.
pub no_space_no_line : (text : List ℕ) (l : Line) → lacks 32 text ≡ true → text ≡ line_text l → ⊥
no_space_no_line text l h is = has_lacks 32 (word_text l) (numbers_text l) (subst (λ xs. lacks 32 xs ≡ true) is h)

-- The line that a word and numbers are of.

abbrev fourth : List ℕ → ℕ
fourth (a ∷ b ∷ c ∷ d ∷ xs) = d
fourth xs = 0

abbrev before : List ℕ → List ℕ
before [] = []
before (x ∷ xs) = if x == 32 then [] else x ∷ before xs

abbrev behind : List ℕ → List ℕ
behind [] = []
behind (x ∷ xs) = if x == 32 then xs else behind xs

before_is : (a r : List ℕ) → lacks 32 a ≡ true → before (a ++ 32 ∷ r) ≡ a
before_is [] r h = refl
before_is (x ∷ a) r h = let n : (x == 32) ≡ false = not-true (x == 32) (and_parts (not (x == 32)) (lacks 32 a) h).0 in rw n (ap (λ xs. x ∷ xs) (before_is a r (and_parts (not (x == 32)) (lacks 32 a) h).1))

behind_is : (a r : List ℕ) → lacks 32 a ≡ true → behind (a ++ 32 ∷ r) ≡ r
behind_is [] r h = refl
behind_is (x ∷ a) r h = let n : (x == 32) ≡ false = not-true (x == 32) (and_parts (not (x == 32)) (lacks 32 a) h).0 in rw n (behind_is a r (and_parts (not (x == 32)) (lacks 32 a) h).1)

abbrev value : List ℕ → ℕ
value ds = digits_value 10 ds

value_of : (n : ℕ) → n < 2 ^ 64 → value (decimal n) ≡ n
value_of n h = digits_value-decimal own n h

abbrev line_by : ℕ → List ℕ → Line
line_by c ns = if c == 112 then Steps (value (before ns)) (value (behind ns)) else if c == 107 then Forks (value ns) else if c == 97 then Steals (value ns) else if c == 101 then Takes (value ns) else if c == 105 then Finishes (value ns) else Joins (value ns)

line_is_by : (l : Line) → is_line l ≡ true → line_by (fourth (word_text l)) (numbers_text l) ≡ l
line_is_by (Steps t n) h =
    let no = number_lacks 32 t (omega arith) (task_fits t (steps_task t n h)) in
    ap (λ ds. Steps (value ds) (value (behind (decimal t ++ 32 ∷ decimal n)))) (before_is (decimal t) (decimal n) no)
    ∙ (ap (λ ds. Steps (value (decimal t)) (value ds)) (behind_is (decimal t) (decimal n) no)
    ∙ (ap (λ u. Steps u (value (decimal n))) (value_of t (task_fits t (steps_task t n h))) ∙ ap (Steps t) (value_of n (count_fits n (steps_count t n h)))))
line_is_by (Forks t) h = ap Forks (value_of t (task_fits t h))
line_is_by (Steals t) h = ap Steals (value_of t (task_fits t h))
line_is_by (Takes t) h = ap Takes (value_of t (task_fits t h))
line_is_by (Finishes t) h = ap Finishes (value_of t (task_fits t h))
line_is_by (Joins t) h = ap Joins (value_of t (task_fits t h))

-- Different lines have different texts.
pub line_is_one : (k l : Line) → is_line k ≡ true → is_line l ≡ true → line_text k ≡ line_text l → k ≡ l
line_is_one k l f g e =
    let h = halves 32 (word_text k) (word_text l) (numbers_text k) (numbers_text l) (word_lacks k) (word_lacks l) e in
    sym (line_is_by k f) ∙ (ap (λ w. line_by (fourth w) (numbers_text k)) h.0 ∙ (ap (λ ns. line_by (fourth (word_text l)) ns) h.1 ∙ line_is_by l g))

-- What reading a line finds.

pub too_large : (text : List ℕ) (n t : ℕ) → n < 2 ^ 64 → 4294967295 < n → text ≡ decimal n → is_task t ≡ true → text ≡ decimal t → ⊥
too_large text n t fits large is h e = let same : n ≡ t = decimal_injective n t fits (task_fits t h) (sym is ∙ e) in let small : t < 2 ^ 32 = grind (arith, nat_tests) in omega (arith, same, small, large)

pub no_steps : (text : List ℕ) (t n : ℕ) → lacks 32 text ≡ true → text ≡ numbers_text (Steps t n) → ⊥
no_steps text t n h is = has_lacks 32 (decimal t) (decimal n) (subst (λ xs. lacks 32 xs ≡ true) is h)

pub cut_steps : (text front rest : List ℕ) (t n : ℕ) → IsCut 32 text front rest → is_line (Steps t n) ≡ true → text ≡ numbers_text (Steps t n) → (front ≡ decimal t) × (rest ≡ decimal n)
cut_steps text front rest t n c h is = halves 32 front (decimal t) rest (decimal n) c.without (number_lacks 32 t (omega arith) (task_fits t (steps_task t n h))) (sym c.text_is ∙ is)

pub no_count : (text front rest : List ℕ) (count t n : ℕ) → IsCut 32 text front rest → count < 2 ^ 64 → rest ≡ decimal count → (nat_lt 0 count && nat_le count most) ≡ false → is_line (Steps t n) ≡ true → text ≡ numbers_text (Steps t n) → ⊥
no_count text front rest count t n c fits is wrong h e =
    let same : count ≡ n = decimal_injective count n fits (count_fits n (steps_count t n h)) (sym is ∙ (cut_steps text front rest t n c h e).1) in
    true≢false (sym (steps_count t n h) ∙ (ap (λ k. nat_lt 0 k && nat_le k most) (sym same) ∙ wrong))

pub zero_is_none : (count : ℕ) → count ≡ 0 → (nat_lt 0 count && nat_le count most) ≡ false
zero_is_none count e = ap (λ k. nat_lt 0 k && nat_le k most) e

pub many_is_none : (count : ℕ) → most < count → (nat_lt 0 count && nat_le count most) ≡ false
many_is_none count h = let a : nat_lt 0 count ≡ true = grind (arith, nat_tests) in let b : nat_le count most ≡ false = grind (arith, nat_tests) in rw (a, b) refl

-- A line whose word is not `step` has the number of a task behind its word.
pub no_task_no_line : (text front rest : List ℕ) (l : Line) → IsCut 32 text front rest → (front ≡ codes "step" → ⊥) → ((t : ℕ) → is_task t ≡ true → rest ≡ decimal t → ⊥) → is_line l ≡ true → text ≡ line_text l → ⊥
no_task_no_line text front rest (Steps t n) c other none h is = other (cut_line text front rest (Steps t n) c is).0
no_task_no_line text front rest (Forks t) c other none h is = none t h (cut_line text front rest (Forks t) c is).1
no_task_no_line text front rest (Steals t) c other none h is = none t h (cut_line text front rest (Steals t) c is).1
no_task_no_line text front rest (Takes t) c other none h is = none t h (cut_line text front rest (Takes t) c is).1
no_task_no_line text front rest (Finishes t) c other none h is = none t h (cut_line text front rest (Finishes t) c is).1
no_task_no_line text front rest (Joins t) c other none h is = none t h (cut_line text front rest (Joins t) c is).1
