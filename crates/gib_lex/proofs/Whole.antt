-- What the tokens of every text keep.
use Rattle.std.proofs.Common.{◌≡◌, ℕ, zero, suc, ◌+◌, ◌<◌, ◌≤◌, ◌^◌, Bool, true, false, ltb, List, [], ◌∷◌, ◌++◌, length, take, drop, refl, sym, ap, ◌∙◌, subst, arith, length-append, length-take, ◌==◌, if◌then◌else◌, Option, Some, None, nat_lt}
use Rattle.std.specs.List.{flat_map, AllByRecursion}
use Rattle.std.proofs.lemmas.Bool.{ltb-true}
use Rattle.gib_base.specs.declared.token.Dialect.{Dialect}
use Rattle.gib_base.specs.declared.Span.{Span}
use Rattle.gib_base.specs.declared.token.Token.{Token}
use Rattle.gib_base.specs.declared.token.Sign.{Sign}
use Rattle.gib_base.specs.declared.token.Sign.TheVariants as sign
use Rattle.gib_base.specs.declared.token.Piece.{Piece}
use Rattle.gib_base.specs.declared.token.Piece.TheVariants as piece
use Rattle.gib_base.specs.Names.{number_of}
use Rattle.gib_base.specs.Piece.{IsLongest, Class, Blank, Letter, Digit, Dash, Equal, Single, Other, class_by}
use Rattle.gib_base.specs.Spelling.{piece_by, piece_of_class, name_piece, number_piece, dash_piece, equal_piece, value_from, word_by}
use Rattle.gib_base.specs.Lexed.{Lexed, Part, AreLongest, part_at, parts_of, name_in, name_by, token_in, token_at, span_in, span_at, IsLexedIn, AreInOrder, IsTokenOf, AreTokens}
use Rattle.gib_base.proofs.Held.{held_place}
use Rattle.gib_lex.proofs.Numbers.{AreHeld, AreHeld_front, AreHeld_back}
use Rattle.gib_lex.proofs.Cuts.{held_names}

-- each token has a span

same_here : (q : Piece) (number : ℕ) (span : Span) → length (span_in q span) ≡ length (token_in q number)
same_here piece.Gap number span = refl
same_here (piece.Sign s) number span = refl
same_here piece.Variable number span = refl
same_here piece.Constructor number span = refl
same_here (piece.Number n) number span = refl
same_here piece.TooBig number span = refl

same_length : (dialect : Dialect) (parts : List Part) (names : List (List ℕ)) → length (flat_map (span_at dialect) parts) ≡ length (flat_map (token_at dialect names) parts)
same_length dialect [] names = refl
same_length dialect (p ∷ parts) names =
    let here : length (span_at dialect p) ≡ length (token_at dialect names p) = same_here (piece_by dialect p.text) _ _ in
    omega (arith, here, same_length dialect parts names, length-append (span_at dialect p) (flat_map (span_at dialect) parts), length-append (token_at dialect names p) (flat_map (token_at dialect names) parts))

-- spans stand in order

in_order_from : (a b : ℕ) (spans : List Span) (to : ℕ) → a ≤ b → AreInOrder b spans to → AreInOrder a spans to
in_order_from a b [] to le h = omega arith
in_order_from a b (s ∷ spans) to le h = (omega (arith, h.0), h.1, h.2)

in_order_here : (q : Piece) (span : Span) (from to : ℕ) (spans : List Span) → from ≤ span.start → span.start < span.end → AreInOrder span.end spans to → AreInOrder from (span_in q span ++ spans) to
in_order_here piece.Gap span from to spans a b h = in_order_from from span.end spans to (omega arith) h
in_order_here (piece.Sign s) span from to spans a b h = (a, b, h)
in_order_here piece.Variable span from to spans a b h = (a, b, h)
in_order_here piece.Constructor span from to spans a b h = (a, b, h)
in_order_here (piece.Number n) span from to spans a b h = (a, b, h)
in_order_here piece.TooBig span from to spans a b h = in_order_from from span.end spans to (omega arith) h

some_bytes : (dialect : Dialect) (bytes : List ℕ) (n : ℕ) → IsLongest dialect bytes n → 0 < n
some_bytes dialect bytes zero l = absurd (let e = l.piece in cc)
some_bytes dialect bytes (suc n) l = omega arith

pub part_length : (dialect : Dialect) (bytes : List ℕ) (from n : ℕ) → IsLongest dialect (drop from bytes) n → length (take n (drop from bytes)) ≡ n
part_length dialect bytes from n l = omega (arith, length-take n (drop from bytes), l.within)

in_order : (dialect : Dialect) (bytes : List ℕ) (from : ℕ) (ns : List ℕ) (to : ℕ) → AreLongest dialect bytes from ns to → AreInOrder from (flat_map (span_at dialect) (parts_of bytes from ns)) to
in_order dialect bytes from [] to h = omega arith
in_order dialect bytes from (n ∷ ns) to h =
    let size = part_length dialect bytes from n h.0 in
    let rest = in_order dialect bytes (from + n) ns to h.1 in
    let P : ℕ → Type 0 = λ k. AreInOrder (from + k) (flat_map (span_at dialect) (parts_of bytes (from + n) ns)) to in
    let p = part_at bytes from n in
    in_order_here (piece_by dialect p.text) (record { start = from; end = from + length p.text }) from to (flat_map (span_at dialect) (parts_of bytes (from + n) ns)) (omega arith) (omega (arith, size, some_bytes dialect (drop from bytes) n h.0)) (subst P (sym size) rest)

-- a number piece is a literal

literal : (n m : ℕ) (t : Bool) → ltb n (2 ^ 63) ≡ t → number_piece n ≡ piece.Number m → m < 2 ^ 63
literal n m true e f =
    let g : number_piece n ≡ piece.Number n = rw e refl in
    let same : n ≡ m = (let h = sym g ∙ f in cc) in
    let lt = ltb-true n (2 ^ 63) e in
    subst (λ (k : ℕ). k < 2 ^ 63) same lt
literal n m false e f = absurd (let g : number_piece n ≡ piece.TooBig = rw e refl in let h = sym g ∙ f in cc)

name_is_no_number : (b m : ℕ) (o : Option Sign) → name_piece b o ≡ piece.Number m → ⊥
name_is_no_number b m None e = by (nat_lt b 91) e where
  by : (t : Bool) → (if t then piece.Constructor else piece.Variable) ≡ piece.Number m → ⊥
  by true f = cc
  by false f = cc
name_is_no_number b m (Some s) e = cc

dash_is_no_number : (rest : List ℕ) (m : ℕ) → dash_piece rest ≡ piece.Number m → ⊥
dash_is_no_number [] m e = cc
dash_is_no_number (b ∷ rest) m e = by (b == 62) e where
  by : (t : Bool) → (if t then piece.Sign sign.Arrow else piece.Gap) ≡ piece.Number m → ⊥
  by true f = cc
  by false f = cc

equal_is_no_number : (rest : List ℕ) (m : ℕ) → equal_piece rest ≡ piece.Number m → ⊥
equal_is_no_number [] m e = cc
equal_is_no_number (b ∷ rest) m e = cc

literal_in : (dialect : Dialect) (c : Class) (b : ℕ) (rest : List ℕ) (m : ℕ) → piece_of_class dialect c b rest ≡ piece.Number m → m < 2 ^ 63
literal_in dialect Blank b rest m e = absurd cc
literal_in dialect Letter b rest m e = absurd (name_is_no_number b m (word_by dialect (b ∷ rest)) e)
literal_in dialect Digit b rest m e = literal (value_from 0 (b ∷ rest)) m (ltb (value_from 0 (b ∷ rest)) (2 ^ 63)) refl e
literal_in dialect Dash b rest m e = absurd (dash_is_no_number rest m e)
literal_in dialect Equal b rest m e = absurd (equal_is_no_number rest m e)
literal_in dialect Single b rest m e = absurd cc
literal_in dialect Other b rest m e = absurd cc

pub is_literal : (dialect : Dialect) (text : List ℕ) (m : ℕ) → piece_by dialect text ≡ piece.Number m → m < 2 ^ 63
is_literal dialect [] m e = absurd cc
is_literal dialect (b ∷ rest) m e = literal_in dialect (class_by dialect b) b rest m e

-- names of tokens are held

token_below : (q : Piece) (names : List (List ℕ)) (text : List ℕ) → AreHeld names (name_in q text) → ((m : ℕ) → q ≡ piece.Number m → m < 2 ^ 63) → AllByRecursion (IsTokenOf (length names)) (token_in q (number_of names text))
token_below piece.Gap names text h lit = tt
token_below (piece.Sign s) names text h lit = (tt, tt)
token_below piece.Variable names text h lit = (held_place names text h.0, tt)
token_below piece.Constructor names text h lit = (held_place names text h.0, tt)
token_below (piece.Number n) names text h lit = (lit n refl, tt)
token_below piece.TooBig names text h lit = tt

all-append : (count : ℕ) (ts us : List Token) → AllByRecursion (IsTokenOf count) ts → AllByRecursion (IsTokenOf count) us → AllByRecursion (IsTokenOf count) (ts ++ us)
all-append count [] us a b = b
all-append count (t ∷ ts) us a b = (a.0, all-append count ts us a.1 b)

tokens_below : (dialect : Dialect) (parts : List Part) (names : List (List ℕ)) → AreHeld names (flat_map (name_by dialect) parts) → AllByRecursion (IsTokenOf (length names)) (flat_map (token_at dialect names) parts)
tokens_below dialect [] names h = tt
tokens_below dialect (p ∷ parts) names h =
    all-append (length names) (token_at dialect names p) (flat_map (token_at dialect names) parts)
    (token_below (piece_by dialect p.text) names p.text (AreHeld_front names (name_by dialect p) (flat_map (name_by dialect) parts) h) (is_literal dialect p.text))
    (tokens_below dialect parts names (AreHeld_back names (name_by dialect p) (flat_map (name_by dialect) parts) h))

pub AreTokens_lexed : (dialect : Dialect) (bytes : List ℕ) (l : Lexed) → IsLexedIn dialect bytes l → length bytes ≤ 1048576 → length l.names ≤ 65535 → AreTokens l
AreTokens_lexed dialect bytes l h short few =
    let parts = parts_of bytes 0 h.lengths in
    let held : AreHeld l.names (flat_map (name_by dialect) parts) = subst (λ (names : List (List ℕ)). AreHeld names (flat_map (name_by dialect) parts)) (sym h.names) (held_names dialect parts) in
    let ends : AreInOrder 0 (flat_map (span_at dialect) parts) l.len = subst (AreInOrder 0 (flat_map (span_at dialect) parts)) (sym h.len) (in_order dialect bytes 0 h.lengths (length bytes) h.cut) in
    record {
      same = ap length h.spans ∙ same_length dialect parts l.names ∙ sym (ap length h.tokens);
      order = subst (λ (s : List Span). AreInOrder 0 s l.len) (sym h.spans) ends;
      below = subst (AllByRecursion (IsTokenOf (length l.names))) (sym h.tokens) (tokens_below dialect parts l.names held);
      short = omega (arith, h.len);
      few = few;
      source = (dialect, bytes, h);
    }
