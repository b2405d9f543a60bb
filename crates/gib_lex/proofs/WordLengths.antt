-- A word is looked for among those of the text's length.
use Rattle.std.proofs.Common.{◌≡◌, ℕ, Bool, true, false, cond, List, [], ◌∷◌, length, refl, sym, ap, ◌∙◌, eqb, Option, Some, None}
use Rattle.std.specs.Str.{bytes_eq}
use Rattle.std.proofs.lemmas.Slice.Eq.{bytes_eq-Decides}
use Rattle.std.proofs.lemmas.Bool.{eqb-false, ne_eqb}
use Rattle.gib_base.specs.declared.token.Sign.{Sign}
use Rattle.gib_base.specs.Spelling.{words, word_among, sign_text}
use Rattle.gib_lex.specs.WordLengths.{of_length}

-- a text of another length is another word
other : (text word : List ℕ) (n : ℕ) → length text ≡ n → eqb (length word) n ≡ false → bytes_eq text word ≡ true → ⊥
other text word n e f g = eqb-false (length word) n f (ap length (sym ((bytes_eq-Decides text word).0 g)) ∙ e)

pub among_length : (n : ℕ) (text : List ℕ) (signs : List Sign) → length text ≡ n → word_among signs text ≡ word_among (of_length n signs) text
among_length n text [] e = refl
among_length n text (s ∷ signs) e = by (eqb (length (sign_text s)) n) refl (bytes_eq text (sign_text s)) refl (among_length n text signs e) where
  by : (t : Bool) → eqb (length (sign_text s)) n ≡ t → (b : Bool) → bytes_eq text (sign_text s) ≡ b → word_among signs text ≡ word_among (of_length n signs) text
      → cond (bytes_eq text (sign_text s)) (Some s) (word_among signs text) ≡ word_among (cond t (s ∷ of_length n signs) (of_length n signs)) text
  by true f b g h = ap (cond (bytes_eq text (sign_text s)) (Some s)) h
  by false f true g h = absurd (other text (sign_text s) n e f g)
  by false f false g h = rw g h

-- no word has fewer than two letters, or more than five
none_so_long : (n : ℕ) → (n ≡ 2 → ⊥) → (n ≡ 3 → ⊥) → (n ≡ 4 → ⊥) → (n ≡ 5 → ⊥) → of_length n words ≡ []
none_so_long n a b c d = rw (ne_eqb 2 n (λ e. a (sym e)), ne_eqb 3 n (λ e. b (sym e)), ne_eqb 4 n (λ e. c (sym e)), ne_eqb 5 n (λ e. d (sym e))) refl

pub no_word : (text : List ℕ) → (length text ≡ 2 → ⊥) → (length text ≡ 3 → ⊥) → (length text ≡ 4 → ⊥) → (length text ≡ 5 → ⊥) → word_among words text ≡ None
no_word text a b c d = among_length (length text) text words refl ∙ ap (λ (signs : List Sign). word_among signs text) (none_so_long (length text) a b c d)
