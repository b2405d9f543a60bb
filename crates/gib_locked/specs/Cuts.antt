-- Texts that are cut at a byte.
use Rattle.std.specs.Prelude.{◌≡◌, ℕ, List, [], ◌∷◌, ◌++◌, Bool, true, not, ◌&&◌, ◌==◌}

-- The byte stands nowhere in the text.
abbrev pub lacks : ℕ → List ℕ → Bool
lacks byte [] = true
lacks byte (b ∷ bs) = not (b == byte) && lacks byte bs

-- The front reaches to the first such byte, and the rest is behind it.
pub record IsCut (byte : ℕ) (text front rest : List ℕ) : Type 0 where
  pub text_is : text ≡ front ++ byte ∷ rest
  pub without : lacks byte front ≡ true
