-- A text with a line feed behind it makes what the text makes.
use Rattle.std.proofs.Common.{◌≡◌, ℕ, zero, suc, ◌+◌, ◌<◌, ◌≤◌, Bool, true, false, ◌&&◌, ◌==◌, if◌then◌else◌, List, [], ◌∷◌, ◌++◌, length, take, drop, refl, sym, ap, ◌∙◌, subst, arith, length-append, length-drop, ⊎_elim}
use Rattle.std.specs.List.{list_all, AllByRecursion}
use Rattle.std.proofs.str.Laws.{order}
use Rattle.std.proofs.Math.Seq.{drop-append_seam}
use Rattle.std.proofs.lemmas.List.{drop-append-le, take-append-le}
use Rattle.gib_base.specs.Piece.{Class, Blank, Letter, Digit, Dash, Equal, Single, Other, class_of, is_nil, ends_dash, ends_equal, ends, is_piece, is_name_byte, is_comment_byte, IsLongest}
use Rattle.gib_base.specs.Spelling.{piece_of}
use Rattle.gib_base.specs.declared.token.Dialect.TheVariants as dialect
use Rattle.gib_base.specs.Lexed.{Lexed, Part, AreLongest, part_at, parts_of, IsNotBig, IsLexedTo, IsLexed}
use Rattle.gib_lex.proofs.Cuts.{longest_at}
use Rattle.gib_lex.proofs.Steps.{held_so_far, step_none}
use Rattle.std.specs.Char.{is_ascii_digit}

-- Nothing but a blank ends with a line feed.
all_false : (test : ℕ → Bool) → test 10 ≡ false → (bytes : List ℕ) → list_all test (bytes ++ 10 ∷ []) ≡ false
all_false test e [] = ap (λ (b : Bool). b && true) e
all_false test e (b ∷ bytes) = both (test b) (all_false test e bytes)
  where
    both : (c : Bool) → list_all test (bytes ++ 10 ∷ []) ≡ false → c && list_all test (bytes ++ 10 ∷ []) ≡ false
    both true h = h
    both false h = refl

not_nil : (bytes : List ℕ) → is_nil (bytes ++ 10 ∷ []) ≡ false
not_nil [] = refl
not_nil (b ∷ bytes) = refl

not_dash : (bytes : List ℕ) → ends_dash (bytes ++ 10 ∷ []) ≡ false
not_dash [] = refl
not_dash (b ∷ bytes) = choice (b == 62) (b == 45) (not_nil bytes) (all_false is_comment_byte refl bytes)
  where
    choice : (c d : Bool) → is_nil (bytes ++ 10 ∷ []) ≡ false → list_all is_comment_byte (bytes ++ 10 ∷ []) ≡ false
        → (if c then is_nil (bytes ++ 10 ∷ []) else (if d then list_all is_comment_byte (bytes ++ 10 ∷ []) else false)) ≡ false
    choice true d x y = x
    choice false true x y = y
    choice false false x y = refl

not_equal : (bytes : List ℕ) → ends_equal (bytes ++ 10 ∷ []) ≡ false
not_equal [] = refl
not_equal (b ∷ bytes) = choice (b == 61) (not_nil bytes)
  where
    choice : (c : Bool) → is_nil (bytes ++ 10 ∷ []) ≡ false → (if c then is_nil (bytes ++ 10 ∷ []) else false) ≡ false
    choice true x = x
    choice false x = refl

not_ended : (class : Class) (bytes : List ℕ) → ends class (bytes ++ 10 ∷ []) ≡ false
not_ended Blank bytes = not_nil bytes
not_ended Letter bytes = all_false is_name_byte refl bytes
not_ended Digit bytes = all_false is_ascii_digit refl bytes
not_ended Dash bytes = not_dash bytes
not_ended Equal bytes = not_equal bytes
not_ended Single bytes = not_nil bytes
not_ended Other bytes = refl

no_piece : (bytes : List ℕ) → 0 < length bytes → is_piece (bytes ++ 10 ∷ []) ≡ false
no_piece [] lt = absurd (omega arith)
no_piece (b ∷ bytes) lt = not_ended (class_of b) bytes

some_piece : (bytes : List ℕ) (n : ℕ) → is_piece (take n bytes) ≡ true → 0 < length bytes
some_piece [] zero e = absurd cc
some_piece [] (suc n) e = absurd cc
some_piece (b ∷ bytes) n e = omega arith

take_whole : (bytes : List ℕ) (n : ℕ) → length bytes < n → n ≤ length bytes + 1 → take n (bytes ++ 10 ∷ []) ≡ bytes ++ 10 ∷ []
take_whole [] zero a b = absurd (omega arith)
take_whole [] (suc zero) a b = refl
take_whole [] (suc (suc n)) a b = absurd (omega arith)
take_whole (x ∷ bytes) zero a b = absurd (omega arith)
take_whole (x ∷ bytes) (suc n) a b = ap (λ (l : List ℕ). x ∷ l) (take_whole bytes n (omega arith) (omega arith))

longest_fed : (bytes : List ℕ) (n : ℕ) → IsLongest dialect.Source bytes n → IsLongest dialect.Source (bytes ++ 10 ∷ []) n
longest_fed bytes n h =
    let fed = bytes ++ 10 ∷ [] in
    let long : length fed ≡ length bytes + 1 = length-append bytes (10 ∷ []) in
    record {
      within = omega (arith, long, h.within);
      piece = ap is_piece (take-append-le n bytes (10 ∷ []) h.within) ∙ h.piece;
      longest = λ m lt le. ⊎_elim
          (λ (out : length bytes < m). ap is_piece (take_whole bytes m out (omega (arith, long, le))) ∙ no_piece bytes (some_piece bytes n h.piece))
          (λ (inside : m ≤ length bytes). ap is_piece (take-append-le m bytes (10 ∷ []) inside) ∙ h.longest m lt inside)
          (order (length bytes) m);
    }

-- The same cut, and the same parts.
record IsFed (bytes : List ℕ) (from : ℕ) (ns : List ℕ) (to : ℕ) : Type 0 where
  cut : AreLongest dialect.Source (bytes ++ 10 ∷ []) from ns to
  parts : parts_of (bytes ++ 10 ∷ []) from ns ≡ parts_of bytes from ns

fed_cut : (bytes : List ℕ) (from : ℕ) (ns : List ℕ) (to : ℕ) → from ≤ length bytes → AreLongest dialect.Source bytes from ns to → IsFed bytes from ns to
fed_cut bytes from [] to le h = record { cut = h; parts = refl }
fed_cut bytes from (n ∷ ns) to le h =
    let within : from + n ≤ length bytes = omega (arith, le, h.0.within, length-drop from bytes) in
    let rest = fed_cut bytes (from + n) ns to within h.1 in
    let here : drop from (bytes ++ 10 ∷ []) ≡ drop from bytes ++ 10 ∷ [] = drop-append-le from bytes (10 ∷ []) le in
    let text : take n (drop from (bytes ++ 10 ∷ [])) ≡ take n (drop from bytes) = ap (take n) here ∙ take-append-le n (drop from bytes) (10 ∷ []) h.0.within in
    record {
      cut = (subst (λ (l : List ℕ). IsLongest dialect.Source l n) (sym here) (longest_fed (drop from bytes) n h.0), rest.cut);
      parts = λ i. record { start = from; text = text i } ∷ rest.parts i;
    }

fed_to : (bytes : List ℕ) (l : Lexed) → IsLexed bytes l → IsLexedTo dialect.Source (bytes ++ 10 ∷ []) (length bytes) l
fed_to bytes l h =
    let fed = fed_cut bytes 0 h.lengths (length bytes) (omega arith) h.cut in
    record {
      lengths = h.lengths;
      cut = fed.cut;
      fits = subst (AllByRecursion (λ (p : Part). IsNotBig (piece_of p.text))) (sym fed.parts) h.fits;
      names = h.names ∙ ap (Rattle.gib_base.specs.Lexed.names_with dialect.Source []) (sym fed.parts);
      tokens = h.tokens ∙ ap (Rattle.std.specs.List.flat_map (Rattle.gib_base.specs.Lexed.token_at dialect.Source l.names)) (sym fed.parts);
      spans = h.spans ∙ ap (Rattle.std.specs.List.flat_map (Rattle.gib_base.specs.Lexed.span_at dialect.Source)) (sym fed.parts);
      len = h.len;
    }

-- With the line feed the whole text is lexed: a blank makes nothing.
pub fed_lexed : (bytes : List ℕ) (l : Lexed) → IsLexed bytes l → IsLexed (bytes ++ 10 ∷ []) (record { names = l.names; tokens = l.tokens; spans = l.spans; len = length bytes + 1 })
fed_lexed bytes l h =
    let fed = bytes ++ 10 ∷ [] in
    let at = length bytes in
    let left : drop at fed ≡ 10 ∷ [] = drop-append_seam bytes (10 ∷ []) in
    let so_far : IsLexedTo dialect.Source fed at (held_so_far l.names l.tokens l.spans at) =
    subst (λ (n : ℕ). IsLexedTo dialect.Source fed at (held_so_far l.names l.tokens l.spans n)) h.len (fed_to bytes l h) in
    let long : IsLongest dialect.Source (drop at fed) 1 = longest_at dialect.Source fed (10 ∷ []) at 1 (sym left) refl (λ z. omega arith) in
    let here : 10 ∷ [] ≡ take 1 (drop at fed) = sym (ap (take 1) left) in
    subst (λ (n : ℕ). IsLexedTo dialect.Source fed n (held_so_far l.names l.tokens l.spans (at + 1))) (sym (length-append bytes (10 ∷ [])))
    (step_none dialect.Source fed (10 ∷ []) at 1 l.names l.names l.tokens l.spans so_far long here refl refl tt)
