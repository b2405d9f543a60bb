-- A walk as far as it has come.
use Rattle.std.proofs.Common.{◌≡◌, ℕ, ◌+◌, ◌<◌, ◌≤◌, List, [], ◌++◌, length, refl, sym, ap, ◌∙◌, arith, append_assoc, append-nil, length-append}
use Rattle.gib_types.specs.Layout.{LaidOut}
use Rattle.gib_mem.specs.Memory.{Store}
use Rattle.gib_compact.specs.declared.walk.Walk.{Walk}
use Rattle.gib_compact.specs.Left.{IsLeft, Passes, Puts}

-- These bytes were passed, and the others are left: together they are all.
pub record Walked (laid : LaidOut) (s : Store) (w : Walk) (front all : List ℕ) : Type 0 where
  pub rest : List ℕ
  pub left : IsLeft laid s w rest
  pub whole : front ++ rest ≡ all

pub walked_start : {laid : LaidOut} {s : Store} (w : Walk) (all : List ℕ) → IsLeft laid s w all → Walked laid s w [] all
walked_start w all l = record { rest = all; left = l; whole = refl }

pub walked_due : {laid : LaidOut} {s : Store} {old : Walk} {front all : List ℕ} (new : Walk) → ((rest : List ℕ) → IsLeft laid s old rest → IsLeft laid s new rest) → Walked laid s old front all → Walked laid s new front all
walked_due new keep w = record { rest = w.rest; left = keep w.rest w.left; whole = w.whole }

-- so many bytes more were passed
pub walked_on : {laid : LaidOut} {s : Store} {old : Walk} {front all : List ℕ} (new : Walk) (bytes : List ℕ) {later : List ℕ} (w : Walked laid s old front all) → IsLeft laid s new later → w.rest ≡ bytes ++ later → Walked laid s new (front ++ bytes) all
walked_on {front = front} new bytes {later = later} w l e = record { rest = later; left = l; whole = append_assoc front bytes later ∙ ap (λ (x : List ℕ). front ++ x) (sym e) ∙ w.whole }

pub walked_end : {laid : LaidOut} {s : Store} {w : Walk} {front all : List ℕ} → ((rest : List ℕ) → IsLeft laid s w rest → rest ≡ []) → Walked laid s w front all → front ≡ all
walked_end {front = front} end w = sym (append-nil front) ∙ ap (λ (x : List ℕ). front ++ x) (sym (end w.rest w.left)) ∙ w.whole

-- ---- counted

-- So many bytes were passed.
pub record Counted (laid : LaidOut) (s : Store) (w : Walk) (count : ℕ) (all : List ℕ) : Type 0 where
  pub front : List ℕ
  pub long : length front ≡ count
  pub walked : Walked laid s w front all

pub counted_start : {laid : LaidOut} {s : Store} (w : Walk) (all : List ℕ) → IsLeft laid s w all → Counted laid s w 0 all
counted_start w all l = record { front = []; long = refl; walked = walked_start w all l }

pub counted_due : {laid : LaidOut} {s : Store} {old : Walk} {count : ℕ} {all : List ℕ} (new : Walk) → ((rest : List ℕ) → IsLeft laid s old rest → IsLeft laid s new rest) → Counted laid s old count all → Counted laid s new count all
counted_due new keep c = record { front = c.front; long = c.long; walked = walked_due new keep c.walked }

pub counted_below : {laid : LaidOut} {s : Store} {w : Walk} {count : ℕ} {all : List ℕ} → Counted laid s w count all → count ≤ length all
counted_below c = omega (arith, c.long, length-append c.front c.walked.rest, ap length c.walked.whole)

pub counted_next : {laid : LaidOut} {s : Store} {old new : Walk} {count more : ℕ} {all : List ℕ} → ((rest : List ℕ) → IsLeft laid s old rest → Passes laid s more new rest) → Counted laid s old count all → Counted laid s new (count + more) all
counted_next {new = new} next c =
    let p = next c.walked.rest c.walked.left in
    record { front = c.front ++ p.bytes; long = omega (arith, c.long, p.long, length-append c.front p.bytes); walked = walked_on new p.bytes c.walked p.left p.whole }

-- what comes next is no longer than what is left of all
pub counted_more : {laid : LaidOut} {s : Store} {old new : Walk} {count more : ℕ} {all : List ℕ} → ((rest : List ℕ) → IsLeft laid s old rest → Passes laid s more new rest) → Counted laid s old count all → count + more ≤ length all
counted_more next c = counted_below (counted_next next c)

pub counted_end : {laid : LaidOut} {s : Store} {w : Walk} {count : ℕ} {all : List ℕ} → ((rest : List ℕ) → IsLeft laid s w rest → rest ≡ []) → Counted laid s w count all → length all ≡ count
counted_end end c = ap length (sym (walked_end end c.walked)) ∙ c.long

-- ---- written

-- What was passed was written, and so many bytes of the most are left.
pub record Written (laid : LaidOut) (s : Store) (w : Walk) (most left : ℕ) (old new all : List ℕ) : Type 0 where
  pub front : List ℕ
  pub out : new ≡ old ++ front
  pub walked : Walked laid s w front all
  pub count : length front + left ≡ most

pub written_start : {laid : LaidOut} {s : Store} (w : Walk) (old all : List ℕ) (most : ℕ) → IsLeft laid s w all → Written laid s w most most old old all
written_start w old all most l = record { front = []; out = sym (append-nil old); walked = walked_start w all l; count = omega arith }

pub written_due : {laid : LaidOut} {s : Store} {old : Walk} {most left : ℕ} {before now all : List ℕ} (new : Walk) → ((rest : List ℕ) → IsLeft laid s old rest → IsLeft laid s new rest) → Written laid s old most left before now all → Written laid s new most left before now all
written_due new keep w = record { front = w.front; out = w.out; walked = walked_due new keep w.walked; count = w.count }

pub written_next : {laid : LaidOut} {s : Store} {old new : Walk} {most left few : ℕ} {before now out all : List ℕ} → ((rest : List ℕ) → IsLeft laid s old rest → Puts laid s new left few now out rest) → Written laid s old most left before now all
    → Written laid s new most few before out all
written_next {new = new} {before = before} next w =
    let p = next w.walked.rest w.walked.left in
    record {
      front = w.front ++ p.bytes;
      out = p.out ∙ ap (λ (x : List ℕ). x ++ p.bytes) w.out ∙ append_assoc before w.front p.bytes;
      walked = walked_on new p.bytes w.walked p.left p.whole;
      count = omega (arith, w.count, p.count, length-append w.front p.bytes);
    }

-- what is left is too long
pub written_long : {laid : LaidOut} {s : Store} {w : Walk} {most left : ℕ} {before now all : List ℕ} → ((rest : List ℕ) → IsLeft laid s w rest → left < length rest) → Written laid s w most left before now all → most < length all
written_long long w = omega (arith, w.count, long w.walked.rest w.walked.left, length-append w.front w.walked.rest, ap length w.walked.whole)

-- all was written
pub written_end : {laid : LaidOut} {s : Store} {w : Walk} {most left : ℕ} {before now all : List ℕ} → ((rest : List ℕ) → IsLeft laid s w rest → rest ≡ []) → Written laid s w most left before now all → (now ≡ before ++ all) × (length all ≤ most)
written_end {before = before} end w =
    let whole = walked_end end w.walked in
    let n = ap length whole in
    (w.out ∙ ap (λ (x : List ℕ). before ++ x) whole, omega (arith, n, w.count))
