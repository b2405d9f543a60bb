-- How tokens that are written are read.
use Rattle.std.proofs.Common.{◌≡◌, ℕ, zero, suc, ◌+◌, ◌-◌, ◌*◌, ◌/◌, ◌%◌, ◌^◌, ◌<◌, ◌≤◌, Bool, true, false, cond, ltb, ◌&&◌, List, [], ◌∷◌, ◌++◌, length, refl, sym, ap, ◌∙◌, subst, arith, true≢false, eqb, Option, Some, None, slice_get, unwrap_or}
use Rattle.std.specs.List.{list_all, prefix_len, AllByRecursion}
use Rattle.std.specs.Option.{option_or}
use Rattle.std.specs.Str.{bytes_eq}
use Rattle.std.specs.Char.{is_ascii_digit}
use Rattle.std.specs.Fmt.{decimal}
use Rattle.std.proofs.lemmas.Fmt.{decimal_by_steps}
use Rattle.std.proofs.lemmas.Bool.{eqb-true, lt-ltb}
use Rattle.gib_base.specs.declared.token.Dialect.{Dialect}
use Rattle.gib_base.specs.declared.token.Dialect.TheVariants.{Source, Located}
use Rattle.gib_base.specs.declared.name.Name.{Name}
use Rattle.gib_base.specs.declared.token.Sign.{Sign}
use Rattle.gib_base.specs.declared.token.Sign.TheVariants as sign
use Rattle.gib_base.specs.declared.token.Token.{Token}
use Rattle.gib_base.specs.declared.token.Token.TheVariants as token
use Rattle.gib_base.specs.declared.token.Piece.{Piece}
use Rattle.gib_base.specs.declared.token.Piece.TheVariants as kinds
use Rattle.gib_base.specs.Names.{number_of}
use Rattle.gib_base.specs.Piece.{is_piece_by, is_name_byte, Class, Blank, Letter, Digit, Dash, Equal, Single, Other, class_by, ends}
use Rattle.gib_base.specs.Spelling.{IsSignOf, is_plain, words, word_among, word_by, single_of, name_piece, sign_text, piece_by, piece_of_class, number_piece, dash_piece, equal_piece, value_from, token_text}
use Rattle.gib_base.specs.Lexed.{IsNotBig, name_in, token_in}
use Rattle.gib_lex.specs.Reading.{more_of, begins, longest}
use Rattle.gib_base.specs.Printing.{IsNameOf, IsWritableIn, name_used, renumbered}

-- what stands behind a written token: nothing, or a space and more
abbrev pub tail : Option (List ℕ) → List ℕ
tail None = []
tail (Some r) = 32 ∷ r

-- how one token is read
pub record IsRead (dialect : Dialect) (names : List (List ℕ)) (t : Token) : Type 0 where
  pub name : name_in (piece_by dialect (token_text names t)) (token_text names t) ≡ name_used names t
  pub token : (new : List (List ℕ)) → token_in (piece_by dialect (token_text names t)) (number_of new (token_text names t)) ≡ renumbered names new t ∷ []
  pub fits : IsNotBig (piece_by dialect (token_text names t))
  pub longest : (o : Option (List ℕ)) → longest dialect (token_text names t ++ tail o) ≡ length (token_text names t)
  pub some : 0 < length (token_text names t)

-- words and signs

sign_piece : (dialect : Dialect) (s : Sign) → IsSignOf dialect s → piece_by dialect (sign_text s) ≡ kinds.Sign s
sign_piece dialect sign.Data h = refl
sign_piece dialect sign.Fun h = refl
sign_piece dialect sign.Main h = refl
sign_piece dialect sign.Let h = refl
sign_piece dialect sign.Par h = refl
sign_piece dialect sign.And h = refl
sign_piece dialect sign.In h = refl
sign_piece dialect sign.If h = refl
sign_piece dialect sign.Then h = refl
sign_piece dialect sign.Else h = refl
sign_piece dialect sign.Case h = refl
sign_piece dialect sign.Of h = refl
sign_piece dialect sign.True h = refl
sign_piece dialect sign.False h = refl
sign_piece dialect sign.Int h = refl
sign_piece dialect sign.Bool h = refl
sign_piece dialect sign.Quotient h = refl
sign_piece dialect sign.Remainder h = refl
sign_piece dialect sign.Equals h = refl
sign_piece dialect sign.Bar h = refl
sign_piece dialect sign.Semicolon h = refl
sign_piece dialect sign.Open h = refl
sign_piece dialect sign.Close h = refl
sign_piece dialect sign.Colon h = refl
sign_piece dialect sign.OpenBrace h = refl
sign_piece dialect sign.CloseBrace h = refl
sign_piece dialect sign.OpenBracket h = refl
sign_piece dialect sign.CloseBracket h = refl
sign_piece dialect sign.Arrow h = refl
sign_piece dialect sign.Plus h = refl
sign_piece dialect sign.Minus h = refl
sign_piece dialect sign.Times h = refl
sign_piece dialect sign.Same h = refl
sign_piece dialect sign.Less h = refl
sign_piece dialect sign.Comma h = refl
sign_piece Source sign.At h = absurd (true≢false (sym h))
sign_piece Located sign.At h = refl
sign_piece Source sign.Offsets h = absurd (true≢false (sym h))
sign_piece Located sign.Offsets h = refl
sign_piece Source sign.LetRegion h = absurd (true≢false (sym h))
sign_piece Located sign.LetRegion h = refl
sign_piece Source sign.LetLocation h = absurd (true≢false (sym h))
sign_piece Located sign.LetLocation h = refl
sign_piece Source sign.Reach h = absurd (true≢false (sym h))
sign_piece Located sign.Reach h = refl
sign_piece Source sign.By h = absurd (true≢false (sym h))
sign_piece Located sign.By h = refl
sign_piece Source sign.Offset h = absurd (true≢false (sym h))
sign_piece Located sign.Offset h = refl
sign_piece Source sign.Skip h = absurd (true≢false (sym h))
sign_piece Located sign.Skip h = refl
sign_piece Source sign.End h = absurd (true≢false (sym h))
sign_piece Located sign.End h = refl
sign_piece Source sign.Give h = absurd (true≢false (sym h))
sign_piece Located sign.Give h = refl
sign_piece Source sign.Point h = absurd (true≢false (sym h))
sign_piece Located sign.Point h = refl
sign_piece Source sign.Start h = absurd (true≢false (sym h))
sign_piece Located sign.Start h = refl
sign_piece Source sign.After h = absurd (true≢false (sym h))
sign_piece Located sign.After h = refl

sign_longest : (dialect : Dialect) (s : Sign) → IsSignOf dialect s → (o : Option (List ℕ)) → longest dialect (sign_text s ++ tail o) ≡ length (sign_text s)
sign_longest dialect sign.Data h None = refl
sign_longest dialect sign.Data h (Some r) = refl
sign_longest dialect sign.Fun h None = refl
sign_longest dialect sign.Fun h (Some r) = refl
sign_longest dialect sign.Main h None = refl
sign_longest dialect sign.Main h (Some r) = refl
sign_longest dialect sign.Let h None = refl
sign_longest dialect sign.Let h (Some r) = refl
sign_longest dialect sign.Par h None = refl
sign_longest dialect sign.Par h (Some r) = refl
sign_longest dialect sign.And h None = refl
sign_longest dialect sign.And h (Some r) = refl
sign_longest dialect sign.In h None = refl
sign_longest dialect sign.In h (Some r) = refl
sign_longest dialect sign.If h None = refl
sign_longest dialect sign.If h (Some r) = refl
sign_longest dialect sign.Then h None = refl
sign_longest dialect sign.Then h (Some r) = refl
sign_longest dialect sign.Else h None = refl
sign_longest dialect sign.Else h (Some r) = refl
sign_longest dialect sign.Case h None = refl
sign_longest dialect sign.Case h (Some r) = refl
sign_longest dialect sign.Of h None = refl
sign_longest dialect sign.Of h (Some r) = refl
sign_longest dialect sign.True h None = refl
sign_longest dialect sign.True h (Some r) = refl
sign_longest dialect sign.False h None = refl
sign_longest dialect sign.False h (Some r) = refl
sign_longest dialect sign.Int h None = refl
sign_longest dialect sign.Int h (Some r) = refl
sign_longest dialect sign.Bool h None = refl
sign_longest dialect sign.Bool h (Some r) = refl
sign_longest dialect sign.Quotient h None = refl
sign_longest dialect sign.Quotient h (Some r) = refl
sign_longest dialect sign.Remainder h None = refl
sign_longest dialect sign.Remainder h (Some r) = refl
sign_longest dialect sign.Equals h None = refl
sign_longest dialect sign.Equals h (Some r) = refl
sign_longest dialect sign.Bar h None = refl
sign_longest dialect sign.Bar h (Some r) = refl
sign_longest dialect sign.Semicolon h None = refl
sign_longest dialect sign.Semicolon h (Some r) = refl
sign_longest dialect sign.Open h None = refl
sign_longest dialect sign.Open h (Some r) = refl
sign_longest dialect sign.Close h None = refl
sign_longest dialect sign.Close h (Some r) = refl
sign_longest dialect sign.Colon h None = refl
sign_longest dialect sign.Colon h (Some r) = refl
sign_longest dialect sign.OpenBrace h None = refl
sign_longest dialect sign.OpenBrace h (Some r) = refl
sign_longest dialect sign.CloseBrace h None = refl
sign_longest dialect sign.CloseBrace h (Some r) = refl
sign_longest dialect sign.OpenBracket h None = refl
sign_longest dialect sign.OpenBracket h (Some r) = refl
sign_longest dialect sign.CloseBracket h None = refl
sign_longest dialect sign.CloseBracket h (Some r) = refl
sign_longest dialect sign.Arrow h None = refl
sign_longest dialect sign.Arrow h (Some r) = refl
sign_longest dialect sign.Plus h None = refl
sign_longest dialect sign.Plus h (Some r) = refl
sign_longest dialect sign.Minus h None = refl
sign_longest dialect sign.Minus h (Some r) = refl
sign_longest dialect sign.Times h None = refl
sign_longest dialect sign.Times h (Some r) = refl
sign_longest dialect sign.Same h None = refl
sign_longest dialect sign.Same h (Some r) = refl
sign_longest dialect sign.Less h None = refl
sign_longest dialect sign.Less h (Some r) = refl
sign_longest dialect sign.Comma h None = refl
sign_longest dialect sign.Comma h (Some r) = refl
sign_longest Source sign.At h o = absurd (true≢false (sym h))
sign_longest Located sign.At h None = refl
sign_longest Located sign.At h (Some r) = refl
sign_longest dialect sign.Offsets h None = refl
sign_longest dialect sign.Offsets h (Some r) = refl
sign_longest dialect sign.LetRegion h None = refl
sign_longest dialect sign.LetRegion h (Some r) = refl
sign_longest dialect sign.LetLocation h None = refl
sign_longest dialect sign.LetLocation h (Some r) = refl
sign_longest dialect sign.Reach h None = refl
sign_longest dialect sign.Reach h (Some r) = refl
sign_longest dialect sign.By h None = refl
sign_longest dialect sign.By h (Some r) = refl
sign_longest dialect sign.Offset h None = refl
sign_longest dialect sign.Offset h (Some r) = refl
sign_longest dialect sign.Skip h None = refl
sign_longest dialect sign.Skip h (Some r) = refl
sign_longest dialect sign.End h None = refl
sign_longest dialect sign.End h (Some r) = refl
sign_longest dialect sign.Give h None = refl
sign_longest dialect sign.Give h (Some r) = refl
sign_longest dialect sign.Point h None = refl
sign_longest dialect sign.Point h (Some r) = refl
sign_longest dialect sign.Start h None = refl
sign_longest dialect sign.Start h (Some r) = refl
sign_longest dialect sign.After h None = refl
sign_longest dialect sign.After h (Some r) = refl

sign_some : (s : Sign) → 0 < length (sign_text s)
sign_some sign.Data = omega arith
sign_some sign.Fun = omega arith
sign_some sign.Main = omega arith
sign_some sign.Let = omega arith
sign_some sign.Par = omega arith
sign_some sign.And = omega arith
sign_some sign.In = omega arith
sign_some sign.If = omega arith
sign_some sign.Then = omega arith
sign_some sign.Else = omega arith
sign_some sign.Case = omega arith
sign_some sign.Of = omega arith
sign_some sign.True = omega arith
sign_some sign.False = omega arith
sign_some sign.Int = omega arith
sign_some sign.Bool = omega arith
sign_some sign.Quotient = omega arith
sign_some sign.Remainder = omega arith
sign_some sign.Equals = omega arith
sign_some sign.Bar = omega arith
sign_some sign.Semicolon = omega arith
sign_some sign.Open = omega arith
sign_some sign.Close = omega arith
sign_some sign.Colon = omega arith
sign_some sign.OpenBrace = omega arith
sign_some sign.CloseBrace = omega arith
sign_some sign.OpenBracket = omega arith
sign_some sign.CloseBracket = omega arith
sign_some sign.Arrow = omega arith
sign_some sign.Plus = omega arith
sign_some sign.Minus = omega arith
sign_some sign.Times = omega arith
sign_some sign.Same = omega arith
sign_some sign.Less = omega arith
sign_some sign.Comma = omega arith
sign_some sign.At = omega arith
sign_some sign.Offsets = omega arith
sign_some sign.LetRegion = omega arith
sign_some sign.LetLocation = omega arith
sign_some sign.Reach = omega arith
sign_some sign.By = omega arith
sign_some sign.Offset = omega arith
sign_some sign.Skip = omega arith
sign_some sign.End = omega arith
sign_some sign.Give = omega arith
sign_some sign.Point = omega arith
sign_some sign.Start = omega arith
sign_some sign.After = omega arith

sign_read : (dialect : Dialect) (names : List (List ℕ)) (s : Sign) → IsSignOf dialect s → IsRead dialect names (token.Sign s)
sign_read dialect names s h = record {
  name = ap (λ (p : Piece). name_in p (sign_text s)) (sign_piece dialect s h);
  token = λ new. ap (λ (p : Piece). token_in p (number_of new (sign_text s))) (sign_piece dialect s h);
  fits = subst IsNotBig (sym (sign_piece dialect s h)) tt;
  longest = sign_longest dialect s h;
  some = sign_some s;
}

-- the sign of a piece is one of the dialect's

same_sign : (x s : Sign) → is_plain x ≡ true → kinds.Sign x ≡ kinds.Sign s → is_plain s ≡ true
same_sign x s h e = let same : x ≡ s = cc in subst (λ (y : Sign). is_plain y ≡ true) same h

among_plain : (signs : List Sign) (text : List ℕ) (s : Sign) → AllByRecursion (λ (x : Sign). is_plain x ≡ true) signs → word_among signs text ≡ Some s → is_plain s ≡ true
among_plain [] text s all e = absurd cc
among_plain (x ∷ signs) text s all e = by (bytes_eq text (sign_text x)) refl e (among_plain signs text s all.1) where
  by : (t : Bool) → bytes_eq text (sign_text x) ≡ t → cond t (Some x) (word_among signs text) ≡ Some s → (word_among signs text ≡ Some s → is_plain s ≡ true) → is_plain s ≡ true
  by true f g h = let same : x ≡ s = cc in subst (λ (y : Sign). is_plain y ≡ true) same all.0
  by false f g h = h g

word_plain : (text : List ℕ) (s : Sign) → word_by Source text ≡ Some s → is_plain s ≡ true
word_plain text s e = by (word_among words text) refl e where
  by : (o : Option Sign) → word_among words text ≡ o → option_or o None ≡ Some s → is_plain s ≡ true
  by None f g = absurd cc
  by (Some x) f g = among_plain words text s (refl, (refl, (refl, (refl, (refl, (refl, (refl, (refl, (refl, (refl, (refl, (refl, (refl, (refl, (refl, (refl, (refl, (refl, tt)))))))))))))))))) (f ∙ g)

name_plain : (b : ℕ) (o : Option Sign) (s : Sign) → ((x : Sign) → o ≡ Some x → is_plain x ≡ true) → name_piece b o ≡ kinds.Sign s → is_plain s ≡ true
name_plain b None s h e = by (ltb b 91) e where
  by : (t : Bool) → cond t kinds.Constructor kinds.Variable ≡ kinds.Sign s → is_plain s ≡ true
  by true f = absurd cc
  by false f = absurd cc
name_plain b (Some x) s h e = same_sign x s (h x refl) e

number_no_sign : (n : ℕ) (s : Sign) → number_piece n ≡ kinds.Sign s → ⊥
number_no_sign n s e = by (ltb n (2 ^ 63)) e where
  by : (t : Bool) → cond t (kinds.Number n) kinds.TooBig ≡ kinds.Sign s → ⊥
  by true f = cc
  by false f = cc

dash_plain : (rest : List ℕ) (s : Sign) → dash_piece rest ≡ kinds.Sign s → is_plain s ≡ true
dash_plain [] s e = same_sign sign.Minus s refl e
dash_plain (b ∷ rest) s e = by (eqb b 62) e where
  by : (t : Bool) → cond t (kinds.Sign sign.Arrow) kinds.Gap ≡ kinds.Sign s → is_plain s ≡ true
  by true f = same_sign sign.Arrow s refl f
  by false f = absurd cc

equal_plain : (rest : List ℕ) (s : Sign) → equal_piece rest ≡ kinds.Sign s → is_plain s ≡ true
equal_plain [] s e = same_sign sign.Equals s refl e
equal_plain (b ∷ rest) s e = same_sign sign.Same s refl e

-- of two signs one
either_plain : (t : Bool) (x y : Sign) → is_plain x ≡ true → is_plain y ≡ true → is_plain (cond t x y) ≡ true
either_plain true x y e f = e
either_plain false x y e f = f

-- no single sign of a program is `@`
no_at : (b : ℕ) → class_by Source b ≡ Single → eqb b 64 ≡ false
no_at b e = by (eqb b 64) refl where
  by : (t : Bool) → eqb b 64 ≡ t → t ≡ false
  by true f = let there : class_by Source 64 ≡ Single = subst (λ (k : ℕ). class_by Source k ≡ Single) (eqb-true b 64 f) e in absurd cc
  by false f = refl

single_plain : (b : ℕ) → class_by Source b ≡ Single → is_plain (single_of b) ≡ true
single_plain b e =
    let last : is_plain (cond (eqb b 64) sign.At (cond (eqb b 44) sign.Comma sign.Less)) ≡ true =
    ap (λ (t : Bool). is_plain (cond t sign.At (cond (eqb b 44) sign.Comma sign.Less))) (no_at b e) ∙ either_plain (eqb b 44) _ _ refl refl in
    either_plain (eqb b 124) _ _ refl (either_plain (eqb b 59) _ _ refl (either_plain (eqb b 40) _ _ refl (either_plain (eqb b 41) _ _ refl (either_plain (eqb b 58) _ _ refl
    (either_plain (eqb b 123) _ _ refl (either_plain (eqb b 125) _ _ refl (either_plain (eqb b 43) _ _ refl (either_plain (eqb b 42) _ _ refl (either_plain (eqb b 91) _ _ refl (either_plain (eqb b 93) _ _ refl last))))))))))

sign_in : (c : Class) (b : ℕ) (rest : List ℕ) (s : Sign) → class_by Source b ≡ c → piece_of_class Source c b rest ≡ kinds.Sign s → is_plain s ≡ true
sign_in Blank b rest s f e = absurd cc
sign_in Letter b rest s f e = name_plain b (word_by Source (b ∷ rest)) s (word_plain (b ∷ rest)) e
sign_in Digit b rest s f e = absurd (number_no_sign (value_from 0 (b ∷ rest)) s e)
sign_in Dash b rest s f e = dash_plain rest s e
sign_in Equal b rest s f e = equal_plain rest s e
sign_in Single b rest s f e = same_sign (single_of b) s (single_plain b f) e
sign_in Other b rest s f e = absurd cc

pub sign_of_dialect : (dialect : Dialect) (text : List ℕ) (s : Sign) → piece_by dialect text ≡ kinds.Sign s → IsSignOf dialect s
sign_of_dialect Source [] s e = absurd cc
sign_of_dialect Source (b ∷ rest) s e = sign_in (class_by Source b) b rest s refl e
sign_of_dialect Located text s e = tt

-- runs: names and numbers

prefix-all : (p : ℕ → Bool) (xs r : List ℕ) → list_all p xs ≡ true → prefix_len p r ≡ 0 → prefix_len p (xs ++ r) ≡ length xs
prefix-all p [] r e z = z
prefix-all p (x ∷ xs) r e z = by (p x) refl e (prefix-all p xs r) where
  by : (b : Bool) → p x ≡ b → (b && list_all p xs) ≡ true → (list_all p xs ≡ true → prefix_len p r ≡ 0 → prefix_len p (xs ++ r) ≡ length xs) → prefix_len p (x ∷ (xs ++ r)) ≡ length (x ∷ xs)
  by true f g h = rw (f, h g z) (omega arith)
  by false f g h = absurd (true≢false (sym g))

name_ends : (o : Option (List ℕ)) → prefix_len is_name_byte (tail o) ≡ 0
name_ends None = refl
name_ends (Some r) = refl

digit_ends : (o : Option (List ℕ)) → prefix_len is_ascii_digit (tail o) ≡ 0
digit_ends None = refl
digit_ends (Some r) = refl

longest_in : (dialect : Dialect) (c : Class) (b : ℕ) (rest : List ℕ) → class_by dialect b ≡ c → begins c ≡ true → longest dialect (b ∷ rest) ≡ suc (more_of c rest)
longest_in dialect c b rest e f = ap (λ (k : Class). cond (begins k) (suc (more_of k rest)) 0) e ∙ rw f refl

letters_longest : (dialect : Dialect) (b : ℕ) (rest : List ℕ) → class_by dialect b ≡ Letter → list_all is_name_byte rest ≡ true → (o : Option (List ℕ)) → longest dialect ((b ∷ rest) ++ tail o) ≡ length (b ∷ rest)
letters_longest dialect b rest e f o = longest_in dialect Letter b (rest ++ tail o) e refl ∙ ap suc (prefix-all is_name_byte rest (tail o) f (name_ends o))

digits_longest : (dialect : Dialect) (b : ℕ) (rest : List ℕ) → class_by dialect b ≡ Digit → list_all is_ascii_digit rest ≡ true → (o : Option (List ℕ)) → longest dialect ((b ∷ rest) ++ tail o) ≡ length (b ∷ rest)
digits_longest dialect b rest e f o = longest_in dialect Digit b (rest ++ tail o) e refl ∙ ap suc (prefix-all is_ascii_digit rest (tail o) f (digit_ends o))

-- a number

digit_class : (dialect : Dialect) (k : ℕ) → k < 10 → class_by dialect (48 + k) ≡ Digit
digit_class dialect zero lt = refl
digit_class dialect (suc zero) lt = refl
digit_class dialect (suc (suc zero)) lt = refl
digit_class dialect (suc (suc (suc zero))) lt = refl
digit_class dialect (suc (suc (suc (suc zero)))) lt = refl
digit_class dialect (suc (suc (suc (suc (suc zero))))) lt = refl
digit_class dialect (suc (suc (suc (suc (suc (suc zero)))))) lt = refl
digit_class dialect (suc (suc (suc (suc (suc (suc (suc zero))))))) lt = refl
digit_class dialect (suc (suc (suc (suc (suc (suc (suc (suc zero)))))))) lt = refl
digit_class dialect (suc (suc (suc (suc (suc (suc (suc (suc (suc zero))))))))) lt = refl
digit_class dialect (suc (suc (suc (suc (suc (suc (suc (suc (suc (suc k)))))))))) lt = absurd (omega arith)

digit_is : (k : ℕ) → k < 10 → is_ascii_digit (48 + k) ≡ true
digit_is zero lt = refl
digit_is (suc zero) lt = refl
digit_is (suc (suc zero)) lt = refl
digit_is (suc (suc (suc zero))) lt = refl
digit_is (suc (suc (suc (suc zero)))) lt = refl
digit_is (suc (suc (suc (suc (suc zero))))) lt = refl
digit_is (suc (suc (suc (suc (suc (suc zero)))))) lt = refl
digit_is (suc (suc (suc (suc (suc (suc (suc zero))))))) lt = refl
digit_is (suc (suc (suc (suc (suc (suc (suc (suc zero)))))))) lt = refl
digit_is (suc (suc (suc (suc (suc (suc (suc (suc (suc zero))))))))) lt = refl
digit_is (suc (suc (suc (suc (suc (suc (suc (suc (suc (suc k)))))))))) lt = absurd (omega arith)

-- digits that stand for a number
record AreDigits (dialect : Dialect) (n : ℕ) (ds : List ℕ) : Type 0 where
  first : ℕ
  rest : List ℕ
  is : ds ≡ first ∷ rest
  class : class_by dialect first ≡ Digit
  all : list_all is_ascii_digit rest ≡ true
  value : value_from 0 ds ≡ n

one_digit : (dialect : Dialect) (n : ℕ) → n < 10 → AreDigits dialect n ((48 + n) ∷ [])
one_digit dialect n lt = record { first = 48 + n; rest = []; is = refl; class = digit_class dialect n lt; all = refl; value = omega arith }

all-push : (xs : List ℕ) (d : ℕ) → list_all is_ascii_digit xs ≡ true → is_ascii_digit d ≡ true → list_all is_ascii_digit (xs ++ d ∷ []) ≡ true
all-push [] d e f = rw f refl
all-push (x ∷ xs) d e f = by (is_ascii_digit x) e (λ g. all-push xs d g f) where
  by : (b : Bool) → (b && list_all is_ascii_digit xs) ≡ true → (list_all is_ascii_digit xs ≡ true → list_all is_ascii_digit (xs ++ d ∷ []) ≡ true) → (b && list_all is_ascii_digit (xs ++ d ∷ [])) ≡ true
  by true g h = h g
  by false g h = absurd (true≢false (sym g))

value_from-push : (n : ℕ) (xs : List ℕ) (d : ℕ) → value_from n (xs ++ d ∷ []) ≡ 10 * value_from n xs + (d - 48)
value_from-push n [] d = refl
value_from-push n (x ∷ xs) d = value_from-push (10 * n + (x - 48)) xs d

more_digits : (dialect : Dialect) (n : ℕ) (ds : List ℕ) → 10 ≤ n → AreDigits dialect (n / 10) ds → AreDigits dialect n (ds ++ (48 + n % 10) ∷ [])
more_digits dialect n ds le h =
    let small : n % 10 < 10 = omega arith in
    record {
      first = h.first;
      rest = h.rest ++ (48 + n % 10) ∷ [];
      is = ap (λ (l : List ℕ). l ++ (48 + n % 10) ∷ []) h.is;
      class = h.class;
      all = all-push h.rest (48 + n % 10) h.all (digit_is (n % 10) small);
      value = value_from-push 0 ds (48 + n % 10) ∙ omega (arith, h.value);
    }

decimal_digits : (dialect : Dialect) (n : ℕ) → n < 2 ^ 64 → AreDigits dialect n (decimal n)
decimal_digits dialect n lt = decimal_by_steps (AreDigits dialect) (one_digit dialect) (more_digits dialect) n lt

number_read : (dialect : Dialect) (names : List (List ℕ)) (n : ℕ) → n < 2 ^ 63 → IsRead dialect names (token.Number n)
number_read dialect names n lt =
    let h = decimal_digits dialect n (omega arith) in
    let class : piece_by dialect (h.first ∷ h.rest) ≡ number_piece (value_from 0 (h.first ∷ h.rest)) = ap (λ (c : Class). piece_of_class dialect c h.first h.rest) h.class in
    let value : value_from 0 (h.first ∷ h.rest) ≡ n = ap (value_from 0) (sym h.is) ∙ h.value in
    let small : number_piece n ≡ kinds.Number n = rw (lt-ltb n (2 ^ 63) lt) refl in
    let is : piece_by dialect (decimal n) ≡ kinds.Number n = ap (piece_by dialect) h.is ∙ class ∙ ap number_piece value ∙ small in
    let long : (o : Option (List ℕ)) → longest dialect (decimal n ++ tail o) ≡ length (decimal n) =
    λ o. ap (λ (l : List ℕ). longest dialect (l ++ tail o)) h.is ∙ digits_longest dialect h.first h.rest h.class h.all o ∙ sym (ap length h.is) in
    record {
      name = ap (λ (p : Piece). name_in p (decimal n)) is;
      token = λ new. ap (λ (p : Piece). token_in p (number_of new (decimal n))) is;
      fits = subst IsNotBig (sym is) tt;
      longest = long;
      some = omega (arith, ap length h.is);
    }

-- a name

abbrev is_name_kind : Piece → Bool
is_name_kind kinds.Gap = false
is_name_kind (kinds.Sign s) = false
is_name_kind kinds.Variable = true
is_name_kind kinds.Constructor = true
is_name_kind (kinds.Number n) = false
is_name_kind kinds.TooBig = false

number_no_name : (v : ℕ) → is_name_kind (number_piece v) ≡ false
number_no_name v = by (ltb v (2 ^ 63)) where
  by : (b : Bool) → is_name_kind (cond b (kinds.Number v) kinds.TooBig) ≡ false
  by true = refl
  by false = refl

dash_no_name : (rest : List ℕ) → is_name_kind (dash_piece rest) ≡ false
dash_no_name [] = refl
dash_no_name (b ∷ rest) = by (eqb b 62) where
  by : (t : Bool) → is_name_kind (cond t (kinds.Sign sign.Arrow) kinds.Gap) ≡ false
  by true = refl
  by false = refl

equal_no_name : (rest : List ℕ) → is_name_kind (equal_piece rest) ≡ false
equal_no_name [] = refl
equal_no_name (b ∷ rest) = refl

is_letter : (dialect : Dialect) (c : Class) (b : ℕ) (rest : List ℕ) → is_name_kind (piece_of_class dialect c b rest) ≡ true → c ≡ Letter
is_letter dialect Blank b rest e = absurd (true≢false (sym e))
is_letter dialect Letter b rest e = refl
is_letter dialect Digit b rest e = absurd (true≢false (sym e ∙ number_no_name (value_from 0 (b ∷ rest))))
is_letter dialect Dash b rest e = absurd (true≢false (sym e ∙ dash_no_name rest))
is_letter dialect Equal b rest e = absurd (true≢false (sym e ∙ equal_no_name rest))
is_letter dialect Single b rest e = absurd (true≢false (sym e))
is_letter dialect Other b rest e = absurd (true≢false (sym e))

name_longest : (dialect : Dialect) (text : List ℕ) → is_piece_by dialect text ≡ true → is_name_kind (piece_by dialect text) ≡ true → (o : Option (List ℕ)) → longest dialect (text ++ tail o) ≡ length text
name_longest dialect [] e f o = absurd (true≢false (sym e))
name_longest dialect (b ∷ rest) e f o =
    let class : class_by dialect b ≡ Letter = is_letter dialect (class_by dialect b) b rest f in
    letters_longest dialect b rest class (ap (λ (c : Class). ends c rest) (sym class) ∙ e) o

name_some : (dialect : Dialect) (text : List ℕ) → is_piece_by dialect text ≡ true → 0 < length text
name_some dialect [] e = absurd (true≢false (sym e))
name_some dialect (b ∷ rest) e = omega arith

text_of : (dialect : Dialect) (names : List (List ℕ)) (kind : Piece) (x : ℕ) (h : IsNameOf dialect names kind x) → unwrap_or (slice_get names x) [] ≡ h.text
text_of dialect names kind x h = ap (λ (o : Option (List ℕ)). unwrap_or o []) h.held

variable_read : (dialect : Dialect) (names : List (List ℕ)) (x : Name) → IsNameOf dialect names kinds.Variable x.0 → IsRead dialect names (token.Variable x)
variable_read dialect names x h =
    let text = token_text names (token.Variable x) in
    let same : text ≡ h.text = text_of dialect names kinds.Variable x.0 h in
    let is : piece_by dialect text ≡ kinds.Variable = ap (piece_by dialect) same ∙ h.is_so in
    let whole : is_piece_by dialect text ≡ true = ap (is_piece_by dialect) same ∙ h.whole in
    record {
      name = ap (λ (p : Piece). name_in p text) is;
      token = λ new. ap (λ (p : Piece). token_in p (number_of new text)) is;
      fits = subst IsNotBig (sym is) tt;
      longest = name_longest dialect text whole (ap is_name_kind is);
      some = name_some dialect text whole;
    }

constructor_read : (dialect : Dialect) (names : List (List ℕ)) (x : Name) → IsNameOf dialect names kinds.Constructor x.0 → IsRead dialect names (token.Constructor x)
constructor_read dialect names x h =
    let text = token_text names (token.Constructor x) in
    let same : text ≡ h.text = text_of dialect names kinds.Constructor x.0 h in
    let is : piece_by dialect text ≡ kinds.Constructor = ap (piece_by dialect) same ∙ h.is_so in
    let whole : is_piece_by dialect text ≡ true = ap (is_piece_by dialect) same ∙ h.whole in
    record {
      name = ap (λ (p : Piece). name_in p text) is;
      token = λ new. ap (λ (p : Piece). token_in p (number_of new text)) is;
      fits = subst IsNotBig (sym is) tt;
      longest = name_longest dialect text whole (ap is_name_kind is);
      some = name_some dialect text whole;
    }

pub writable_read : (dialect : Dialect) (names : List (List ℕ)) (t : Token) → IsWritableIn dialect names t → IsRead dialect names t
writable_read dialect names (token.Variable x) h = variable_read dialect names x h
writable_read dialect names (token.Constructor x) h = constructor_read dialect names x h
writable_read dialect names (token.Number n) h = number_read dialect names n h
writable_read dialect names (token.Sign s) h = sign_read dialect names s h
