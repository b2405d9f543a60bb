-- Places of names in a list.
use Rattle.std.proofs.Common.{◌≡◌, ℕ, ◌+◌, true, false, cond, eqb, List, ◌∷◌, map, length, Option, Some, None, refl, sym, ap, ◌∙◌, arith}
use Rattle.gib_base.specs.declared.name.Name.{Name}
use Rattle.gib_syntax.specs.Declarations.{place_of, next_place}
use Rattle.gib_check.specs.Answers.{number}

-- A place so much further.
abbrev pub further : ℕ → Option ℕ → Option ℕ
further n None = None
further n (Some m) = Some (n + m)

-- So many of the names were passed.
pub record Searched (names rest : List Name) (x n : ℕ) : Type 0 where
  pub passed : n + length rest ≡ length names
  pub place : place_of (map number names) x ≡ further n (place_of (map number rest) x)

further-next : (n : ℕ) (o : Option ℕ) → further n (next_place o) ≡ further (n + 1) o
further-next n None = refl
further-next n (Some m) = ap Some (omega arith)

further-zero : (o : Option ℕ) → o ≡ further 0 o
further-zero None = refl
further-zero (Some m) = ap Some (omega arith)

pub searched_start : (names : List Name) (x : ℕ) → Searched names names x 0
searched_start names x = record { passed = omega arith; place = further-zero (place_of (map number names) x) }

pub searched_more : (names after : List Name) (first : Name) (x n : ℕ) → Searched names (first ∷ after) x n → eqb first.0 x ≡ false → Searched names after x (n + 1)
searched_more names after first x n h e = record {
  passed = (let p = h.passed in omega arith);
  place = h.place ∙ ap (λ b. further n (cond b (Some 0) (next_place (place_of (map number after) x)))) e ∙ further-next n (place_of (map number after) x);
}

pub searched_found : (names after : List Name) (first : Name) (x n : ℕ) → Searched names (first ∷ after) x n → eqb first.0 x ≡ true → Some n ≡ place_of (map number names) x
searched_found names after first x n h e =
    sym (h.place ∙ ap (λ b. further n (cond b (Some 0) (next_place (place_of (map number after) x)))) e ∙ ap Some (omega arith))
