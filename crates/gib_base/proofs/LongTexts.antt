-- Where types stand behind a name, a bracket stands in its long text.
use Rattle.std.proofs.Common.{◌≡◌, ℕ, ◌==◌, List, [], ◌∷◌, ◌++◌, length, false, ap, eq-eqb}
use Rattle.gib_base.specs.declared.texts.Copied.{Copied}
use Rattle.gib_base.specs.declared.texts.TextPiece.{TextPiece}
use Rattle.gib_base.specs.Texts.{piece_text, pieces_text, short_of, long_of, IsBracketed, HasBracket}

pub long_bracket : (names : List (List ℕ)) (c : Copied) (n : ℕ) → n ≡ length c.types.items → (n == 0) ≡ false → IsBracketed c.types.items → HasBracket (long_of names c)
long_bracket names c n counted some h = go c.types.items counted h
  where
    go : (ps : List TextPiece) → n ≡ length ps → IsBracketed ps → HasBracket (short_of names c ++ pieces_text names ps)
    go [] counted h = absurd (let m = eq-eqb n 0 counted in cc)
    go (p ∷ ps) counted h = (short_of names c, pieces_text names ps, ap (λ (q : TextPiece). short_of names c ++ (piece_text names q ++ pieces_text names ps)) h)
