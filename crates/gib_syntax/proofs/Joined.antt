-- Texts of tokens, one token more.
use Rattle.std.proofs.Common.{◌≡◌, ◌+◌, ◌<◌, ◌≤◌, ℕ, zero, suc, List, [], ◌∷◌, ◌++◌, length, map, take, get_or, refl, sym, ap, ◌∙◌, append_assoc, arith}
use Rattle.std.specs.List.{join_with_byte}
use Rattle.std.proofs.lemmas.List.{map_more}
use Rattle.gib_base.specs.declared.token.Token.{Token}
use Rattle.gib_base.specs.Spelling.{token_text, tokens_text}

joined-more : (xs : List (List ℕ)) (x y : List ℕ) → join_with_byte 32 ((x ∷ xs) ++ y ∷ []) ≡ join_with_byte 32 (x ∷ xs) ++ 32 ∷ y
joined-more [] x y = refl
joined-more (z ∷ zs) x y =
    ap (λ (l : List ℕ). x ++ 32 ∷ l) (joined-more zs z y) ∙ sym (append_assoc x (32 ∷ join_with_byte 32 (z ∷ zs)) (32 ∷ y))

-- The text of one token more: a space and the token's text, where there is a token before it.
pub tokens_text-more : (names : List (List ℕ)) (tokens : List Token) (i : ℕ) (d : Token) → 1 ≤ i → i < length tokens
    → (tokens_text names (take i tokens) ++ 32 ∷ []) ++ token_text names (get_or tokens i d) ≡ tokens_text names (take (i + 1) tokens)
tokens_text-more names [] i d le lt = absurd (omega arith)
tokens_text-more names (t ∷ ts) zero d le lt = absurd (omega arith)
tokens_text-more names (t ∷ ts) (suc k) d le lt =
    let f = λ (u : Token). token_text names u in
    let y = token_text names (get_or (t ∷ ts) (suc k) d) in
    append_assoc (tokens_text names (t ∷ take k ts)) (32 ∷ []) y
    ∙ sym (joined-more (map f (take k ts)) (f t) y)
    ∙ sym (ap (λ (l : List (List ℕ)). join_with_byte 32 l) (map_more f (t ∷ ts) (suc k) d lt))
