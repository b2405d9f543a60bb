-- What is found at the front is the longest piece.
use Rattle.std.proofs.Common.{◌≡◌, ℕ, zero, suc, ◌+◌, ◌<◌, ◌≤◌, Bool, true, false, cond, eqb, List, [], ◌∷◌, length, take, refl, ◌∙◌, subst, arith}
use Rattle.std.specs.List.{prefix_len, list_all}
use Rattle.std.specs.Char.{is_ascii_digit}
use Rattle.gib_base.specs.declared.token.Dialect.{Dialect}
use Rattle.gib_base.specs.Piece.{is_name_byte, is_comment_byte, is_nil, Class, Blank, Letter, Digit, Dash, Equal, Single, Other, class_by, ends_dash, ends_equal, ends, is_piece_by, IsLongest, IsStuck}
use Rattle.gib_lex.specs.Reading.{dash_len, equal_len, more_of, begins, longest}

-- the first k bytes pass the test, and no more of them
record Reaches (f : List ℕ → Bool) (rest : List ℕ) (k : ℕ) : Type 0 where
  within : k ≤ length rest
  passes : f (take k rest) ≡ true
  fails : (m : ℕ) → k < m → m ≤ length rest → f (take m rest) ≡ false

nil_reaches : (rest : List ℕ) → Reaches is_nil rest 0
nil_reaches rest = record { within = omega arith; passes = refl; fails = fails rest } where
  fails : (rest : List ℕ) (m : ℕ) → 0 < m → m ≤ length rest → is_nil (take m rest) ≡ false
  fails [] m lt le = absurd (omega arith)
  fails (b ∷ rest) zero lt le = absurd (omega arith)
  fails (b ∷ rest) (suc m) lt le = refl

more_reaches : (p : ℕ → Bool) (b k : ℕ) (rest : List ℕ) → p b ≡ true → Reaches (list_all p) rest k → Reaches (list_all p) (b ∷ rest) (suc k)
more_reaches p b k rest e h = record {
  within = omega (arith, h.within);
  passes = rw (e, h.passes) refl;
  fails = fails;
} where
  fails : (m : ℕ) → suc k < m → m ≤ length (b ∷ rest) → list_all p (take m (b ∷ rest)) ≡ false
  fails zero lt le = absurd (omega arith)
  fails (suc m) lt le = rw (e, h.fails m (omega arith) (omega arith)) refl

none_reaches : (p : ℕ → Bool) (b : ℕ) (rest : List ℕ) → p b ≡ false → Reaches (list_all p) (b ∷ rest) 0
none_reaches p b rest e = record { within = omega arith; passes = refl; fails = fails } where
  fails : (m : ℕ) → 0 < m → m ≤ length (b ∷ rest) → list_all p (take m (b ∷ rest)) ≡ false
  fails zero lt le = absurd (omega arith)
  fails (suc m) lt le = rw e refl

run_at : (p : ℕ → Bool) (b : ℕ) (t : Bool) (rest : List ℕ) → p b ≡ t → Reaches (list_all p) rest (prefix_len p rest) → Reaches (list_all p) (b ∷ rest) (cond t (1 + prefix_len p rest) 0)
run_at p b true rest e h =
    let one : suc (prefix_len p rest) ≡ 1 + prefix_len p rest = omega arith in
    subst (Reaches (list_all p) (b ∷ rest)) one (more_reaches p b (prefix_len p rest) rest e h)
run_at p b false rest e h = none_reaches p b rest e

run_reaches : (p : ℕ → Bool) (rest : List ℕ) → Reaches (list_all p) rest (prefix_len p rest)
run_reaches p [] = record { within = omega arith; passes = refl; fails = λ m lt le. absurd (omega arith) }
run_reaches p (b ∷ rest) = run_at p b (p b) rest refl (run_reaches p rest)

-- a test that looks at the first byte and then goes on by another test
then_reaches : (f g : List ℕ → Bool) (b k : ℕ) (rest : List ℕ) → ((r : List ℕ) → f (b ∷ r) ≡ g r) → Reaches g rest k → Reaches f (b ∷ rest) (suc k)
then_reaches f g b k rest e h = record { within = omega (arith, h.within); passes = e (take k rest) ∙ h.passes; fails = fails } where
  fails : (m : ℕ) → suc k < m → m ≤ length (b ∷ rest) → f (take m (b ∷ rest)) ≡ false
  fails zero lt le = absurd (omega arith)
  fails (suc m) lt le = e (take m rest) ∙ h.fails m (omega arith) (omega arith)

-- a test that passes with nothing, and fails behind this byte
stops_reaches : (f : List ℕ → Bool) (b : ℕ) (rest : List ℕ) → f [] ≡ true → ((r : List ℕ) → f (b ∷ r) ≡ false) → Reaches f (b ∷ rest) 0
stops_reaches f b rest start e = record { within = omega arith; passes = start; fails = fails } where
  fails : (m : ℕ) → 0 < m → m ≤ length (b ∷ rest) → f (take m (b ∷ rest)) ≡ false
  fails zero lt le = absurd (omega arith)
  fails (suc m) lt le = e (take m rest)

empty_reaches : (f : List ℕ → Bool) → f [] ≡ true → Reaches f [] 0
empty_reaches f e = record { within = omega arith; passes = e; fails = λ m lt le. absurd (omega arith) }

dash_at : (b : ℕ) (rest : List ℕ) (gt dash : Bool) → eqb b 62 ≡ gt → eqb b 45 ≡ dash → Reaches ends_dash (b ∷ rest) (cond gt 1 (cond dash (suc (prefix_len is_comment_byte rest)) 0))
dash_at b rest true dash e f = then_reaches ends_dash is_nil b 0 rest (λ r. rw e refl) (nil_reaches rest)
dash_at b rest false true e f = then_reaches ends_dash (list_all is_comment_byte) b _ rest (λ r. rw (e, f) refl) (run_reaches is_comment_byte rest)
dash_at b rest false false e f = stops_reaches ends_dash b rest refl (λ r. rw (e, f) refl)

dash_reaches : (rest : List ℕ) → Reaches ends_dash rest (dash_len rest)
dash_reaches [] = empty_reaches ends_dash refl
dash_reaches (b ∷ rest) = dash_at b rest (eqb b 62) (eqb b 45) refl refl

equal_at : (b : ℕ) (rest : List ℕ) (same : Bool) → eqb b 61 ≡ same → Reaches ends_equal (b ∷ rest) (cond same 1 0)
equal_at b rest true e = then_reaches ends_equal is_nil b 0 rest (λ r. rw e refl) (nil_reaches rest)
equal_at b rest false e = stops_reaches ends_equal b rest refl (λ r. rw e refl)

equal_reaches : (rest : List ℕ) → Reaches ends_equal rest (equal_len rest)
equal_reaches [] = empty_reaches ends_equal refl
equal_reaches (b ∷ rest) = equal_at b rest (eqb b 61) refl

class_reaches : (c : Class) (rest : List ℕ) → begins c ≡ true → Reaches (ends c) rest (more_of c rest)
class_reaches Blank rest e = nil_reaches rest
class_reaches Letter rest e = run_reaches is_name_byte rest
class_reaches Digit rest e = run_reaches is_ascii_digit rest
class_reaches Dash rest e = dash_reaches rest
class_reaches Equal rest e = equal_reaches rest
class_reaches Single rest e = nil_reaches rest
class_reaches Other rest e = absurd cc

longest_from : (dialect : Dialect) (b : ℕ) (rest : List ℕ) (t : Bool) → begins (class_by dialect b) ≡ t → 0 < cond t (suc (more_of (class_by dialect b) rest)) 0 → IsLongest dialect (b ∷ rest) (cond t (suc (more_of (class_by dialect b) rest)) 0)
longest_from dialect b rest true e lt =
    let h = then_reaches (is_piece_by dialect) (ends (class_by dialect b)) b (more_of (class_by dialect b) rest) rest (λ r. refl) (class_reaches (class_by dialect b) rest e) in
    record { within = h.within; piece = h.passes; longest = h.fails }
longest_from dialect b rest false e lt = absurd (omega arith)

pub longest_is : (dialect : Dialect) (bytes : List ℕ) → 0 < longest dialect bytes → IsLongest dialect bytes (longest dialect bytes)
longest_is dialect [] lt = absurd (omega arith)
longest_is dialect (b ∷ rest) lt = longest_from dialect b rest (begins (class_by dialect b)) refl lt

other_stuck : (c : Class) (rest : List ℕ) → begins c ≡ false → ends c rest ≡ false
other_stuck Blank rest e = absurd cc
other_stuck Letter rest e = absurd cc
other_stuck Digit rest e = absurd cc
other_stuck Dash rest e = absurd cc
other_stuck Equal rest e = absurd cc
other_stuck Single rest e = absurd cc
other_stuck Other rest e = refl

stuck_from : (dialect : Dialect) (b : ℕ) (rest : List ℕ) (t : Bool) → begins (class_by dialect b) ≡ t → cond t (suc (more_of (class_by dialect b) rest)) 0 ≡ 0 → IsStuck dialect (b ∷ rest)
stuck_from dialect b rest true e z = absurd (omega arith)
stuck_from dialect b rest false e z = all where
  all : (m : ℕ) → m ≤ length (b ∷ rest) → is_piece_by dialect (take m (b ∷ rest)) ≡ false
  all zero le = refl
  all (suc m) le = other_stuck (class_by dialect b) (take m rest) e

pub stuck_is : (dialect : Dialect) (bytes : List ℕ) → longest dialect bytes ≡ 0 → IsStuck dialect bytes
stuck_is dialect [] z = λ m le. stuck m le where
  stuck : (m : ℕ) → m ≤ 0 → is_piece_by dialect (take m []) ≡ false
  stuck zero le = refl
  stuck (suc m) le = absurd (omega arith)
stuck_is dialect (b ∷ rest) z = stuck_from dialect b rest (begins (class_by dialect b)) refl z
