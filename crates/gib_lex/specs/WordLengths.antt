-- Words by how many letters they have.
use Rattle.std.specs.Prelude.{ℕ, ◌==◌, if◌then◌else◌, List, [], ◌∷◌, length}
use Rattle.gib_base.specs.declared.token.Sign.{Sign}
use Rattle.gib_base.specs.Spelling.{sign_text}

-- Those of some words that have so many letters.
abbrev pub of_length : ℕ → List Sign → List Sign
of_length n [] = []
of_length n (s ∷ signs) = if length (sign_text s) == n then s ∷ of_length n signs else of_length n signs
