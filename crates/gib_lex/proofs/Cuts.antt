-- One more piece, and that there is one cut.
use Rattle.std.proofs.Common.{◌≡◌, ℕ, zero, suc, ◌+◌, ◌<◌, true, List, [], ◌∷◌, ◌++◌, length, take, drop, fold, refl, sym, ap, ◌∙◌, subst, arith, length-drop, ⊎_elim}
use Rattle.std.specs.List.{flat_map, AllByRecursion}
use Rattle.std.proofs.str.Laws.{order}
use Rattle.std.proofs.lemmas.List.{append-nil}
use Rattle.std.proofs.lemmas.List.Concat.{flat_map-append}
use Rattle.std.proofs.lemmas.List.Sums.{fold-append}
use Rattle.gib_base.specs.declared.token.Dialect.{Dialect}
use Rattle.gib_base.specs.declared.token.Piece.{Piece}
use Rattle.gib_base.specs.declared.token.Piece.TheVariants as piece
use Rattle.gib_base.specs.Names.{number_of, with_name}
use Rattle.gib_base.specs.Piece.{is_piece_by, IsLongest, IsStuck}
use Rattle.gib_base.specs.Spelling.{piece_by}
use Rattle.gib_base.specs.Lexed.{Lexed, Part, AreLongest, part_at, parts_of, IsNotBig, name_in, name_by, names_with, token_in, token_at, span_at, IsLexedTo, IsLexedIn}
use Rattle.gib_lex.specs.Faults.{IsStuckIn, IsBigIn, HasTooManyNamesIn}
use Rattle.gib_lex.specs.Reading.{longest}
use Rattle.gib_lex.proofs.Runs.{longest_is}
use Rattle.gib_lex.proofs.Numbers.{AreHeld, AreHeld_all, AreHeld_front, AreHeld_back, number-fold, number_itself, length-fold}

-- a cut goes on

AreLongest_more : (dialect : Dialect) (bytes : List ℕ) (from : ℕ) (ns : List ℕ) (to n : ℕ) → AreLongest dialect bytes from ns to → IsLongest dialect (drop to bytes) n → AreLongest dialect bytes from (ns ++ n ∷ []) (to + n)
AreLongest_more dialect bytes from [] to n h l =
    let P : ℕ → Type 0 = λ f. IsLongest dialect (drop f bytes) n × (f + n ≡ to + n) in
    subst P (sym h) (l, refl)
AreLongest_more dialect bytes from (m ∷ ns) to n h l = (h.0, AreLongest_more dialect bytes (from + m) ns to n h.1 l)

parts_of_more : (dialect : Dialect) (bytes : List ℕ) (from : ℕ) (ns : List ℕ) (to n : ℕ) → AreLongest dialect bytes from ns to → parts_of bytes from (ns ++ n ∷ []) ≡ parts_of bytes from ns ++ part_at bytes to n ∷ []
parts_of_more dialect bytes from [] to n h = ap (λ (f : ℕ). part_at bytes f n ∷ []) h
parts_of_more dialect bytes from (m ∷ ns) to n h = ap (λ (ps : List Part). part_at bytes from m ∷ ps) (parts_of_more dialect bytes (from + m) ns to n h.1)

-- the parts before one more, and this one
module _ (dialect : Dialect) (parts : List Part) (p : Part) where
  names_more : (names : List (List ℕ)) → names_with dialect names (parts ++ p ∷ []) ≡ names_with dialect (names_with dialect names parts) (p ∷ [])
  names_more names =
      ap (fold with_name names) (flat_map-append (name_by dialect) parts (p ∷ [])) ∙ fold-append with_name names (flat_map (name_by dialect) parts) (flat_map (name_by dialect) (p ∷ []))

  fits_more : AllByRecursion (λ (q : Part). IsNotBig (piece_by dialect q.text)) parts → IsNotBig (piece_by dialect p.text) → AllByRecursion (λ (q : Part). IsNotBig (piece_by dialect q.text)) (parts ++ p ∷ [])
  fits_more h b = go parts h where
    go : (ps : List Part) → AllByRecursion (λ (q : Part). IsNotBig (piece_by dialect q.text)) ps → AllByRecursion (λ (q : Part). IsNotBig (piece_by dialect q.text)) (ps ++ p ∷ [])
    go [] h = (b, tt)
    go (q ∷ ps) h = (h.0, go ps h.1)

-- names of parts are held once all are in

pub held_names : (dialect : Dialect) (parts : List Part) → AreHeld (names_with dialect [] parts) (flat_map (name_by dialect) parts)
held_names dialect parts = AreHeld_all [] (flat_map (name_by dialect) parts)

-- with more names the tokens stay

token_kept : (q : Piece) (names xs : List (List ℕ)) (text : List ℕ) → AreHeld names (name_in q text) → token_in q (number_of (fold with_name names xs) text) ≡ token_in q (number_of names text)
token_kept piece.Gap names xs text h = refl
token_kept (piece.Sign s) names xs text h = refl
token_kept piece.Variable names xs text h = ap (token_in piece.Variable) (number-fold names xs text h.0)
token_kept piece.Constructor names xs text h = ap (token_in piece.Constructor) (number-fold names xs text h.0)
token_kept (piece.Number n) names xs text h = refl
token_kept piece.TooBig names xs text h = refl

tokens_kept : (dialect : Dialect) (parts : List Part) (names xs : List (List ℕ)) → AreHeld names (flat_map (name_by dialect) parts) → flat_map (token_at dialect (fold with_name names xs)) parts ≡ flat_map (token_at dialect names) parts
tokens_kept dialect [] names xs h = refl
tokens_kept dialect (p ∷ parts) names xs h =
    let here = token_kept (piece_by dialect p.text) names xs p.text (AreHeld_front names (name_by dialect p) (flat_map (name_by dialect) parts) h) in
    let rest = tokens_kept dialect parts names xs (AreHeld_back names (name_by dialect p) (flat_map (name_by dialect) parts) h) in
    λ i. here i ++ rest i

-- a new name's token has the number that it got

token_new : (q : Piece) (names : List (List ℕ)) (text : List ℕ) → token_in q (number_of (fold with_name names (name_in q text ++ [])) text) ≡ token_in q (number_of names text)
token_new piece.Gap names text = refl
token_new (piece.Sign s) names text = refl
token_new piece.Variable names text = ap (token_in piece.Variable) (number_itself names text)
token_new piece.Constructor names text = ap (token_in piece.Constructor) (number_itself names text)
token_new (piece.Number n) names text = refl
token_new piece.TooBig names text = refl

-- what is lexed with one more piece
abbrev pub more : Dialect → List ℕ → ℕ → ℕ → Lexed → Lexed
more dialect bytes to n l = record {
  names = names_with dialect l.names (part_at bytes to n ∷ []);
  tokens = l.tokens ++ token_at dialect l.names (part_at bytes to n);
  spans = l.spans ++ span_at dialect (part_at bytes to n);
  len = to + n;
}

pub IsLexedTo_more : (dialect : Dialect) (bytes : List ℕ) (to n : ℕ) (l : Lexed) → IsLexedTo dialect bytes to l → IsLongest dialect (drop to bytes) n → IsNotBig (piece_by dialect (take n (drop to bytes))) → IsLexedTo dialect bytes (to + n) (more dialect bytes to n l)
IsLexedTo_more dialect bytes to n l h long fits =
    let p = part_at bytes to n in
    let parts = parts_of bytes 0 h.lengths in
    let all = parts_of bytes 0 (h.lengths ++ n ∷ []) in
    let e : all ≡ parts ++ p ∷ [] = parts_of_more dialect bytes 0 h.lengths to n h.cut in
    let after = names_with dialect l.names (p ∷ []) in
    let held : AreHeld l.names (flat_map (name_by dialect) parts) = subst (λ (names : List (List ℕ)). AreHeld names (flat_map (name_by dialect) parts)) (sym h.names) (held_names dialect parts) in
    let names : after ≡ names_with dialect [] all = ap (λ (ns : List (List ℕ)). names_with dialect ns (p ∷ [])) h.names ∙ sym (names_more dialect parts p []) ∙ ap (names_with dialect []) (sym e) in
    let before : l.tokens ≡ flat_map (token_at dialect after) parts = h.tokens ∙ sym (tokens_kept dialect parts l.names (flat_map (name_by dialect) (p ∷ [])) held) in
    let here : token_at dialect l.names p ≡ token_at dialect after p ++ [] = sym (token_new (piece_by dialect p.text) l.names p.text) ∙ sym (append-nil (token_at dialect after p)) in
    let tokens : l.tokens ++ token_at dialect l.names p ≡ flat_map (token_at dialect after) all = (λ i. before i ++ here i) ∙ sym (flat_map-append (token_at dialect after) parts (p ∷ [])) ∙ ap (flat_map (token_at dialect after)) (sym e) in
    let spans : l.spans ++ span_at dialect p ≡ flat_map (span_at dialect) all = (λ i. h.spans i ++ sym (append-nil (span_at dialect p)) i) ∙ sym (flat_map-append (span_at dialect) parts (p ∷ [])) ∙ ap (flat_map (span_at dialect)) (sym e) in
    record {
      lengths = h.lengths ++ n ∷ [];
      cut = AreLongest_more dialect bytes 0 h.lengths to n h.cut long;
      fits = subst (AllByRecursion (λ (q : Part). IsNotBig (piece_by dialect q.text))) (sym e) (fits_more dialect parts p h.fits fits);
      names = names;
      tokens = tokens;
      spans = spans;
      len = refl;
    }

pub IsLexedTo_start : (dialect : Dialect) (bytes : List ℕ) → IsLexedTo dialect bytes 0 (record { names = []; tokens = []; spans = []; len = 0 })
IsLexedTo_start dialect bytes = record { lengths = []; cut = refl; fits = tt; names = refl; tokens = refl; spans = refl; len = refl }

-- two longest pieces are one
pub longest_same : (dialect : Dialect) (bytes : List ℕ) (m n : ℕ) → IsLongest dialect bytes m → IsLongest dialect bytes n → m ≡ n
longest_same dialect bytes m n a b =
    ⊎_elim
    (λ lt. absurd (let e = a.longest n lt b.within in let f = b.piece in cc))
    (λ le. ⊎_elim (λ lt. absurd (let e = b.longest m lt a.within in let f = a.piece in cc)) (λ le'. omega arith) (order n m))
    (order m n)

no_piece : (dialect : Dialect) (bs : List ℕ) (n : ℕ) → length bs ≡ 0 → is_piece_by dialect (take n bs) ≡ true → ⊥
no_piece dialect [] zero e p = cc
no_piece dialect [] (suc n) e p = cc
no_piece dialect (b ∷ bs) n e p = omega arith

nothing_longest : (dialect : Dialect) (bytes : List ℕ) (from n : ℕ) → from ≡ length bytes → IsLongest dialect (drop from bytes) n → ⊥
nothing_longest dialect bytes from n e l = no_piece dialect (drop from bytes) n (omega (arith, length-drop from bytes)) l.piece

-- what is cut to the end goes through each place that a cut comes to
pub rest_of : (dialect : Dialect) (bytes : List ℕ) (from : ℕ) (ns : List ℕ) (to : ℕ) (ms : List ℕ) → AreLongest dialect bytes from ns to → AreLongest dialect bytes from ms (length bytes) → (ls : List ℕ) × AreLongest dialect bytes to ls (length bytes) × (ms ≡ ns ++ ls)
rest_of dialect bytes from [] to ms a b = let P : ℕ → Type 0 = λ f. AreLongest dialect bytes f ms (length bytes) in (ms, subst P a b, refl)
rest_of dialect bytes from (n ∷ ns) to [] a b = absurd (nothing_longest dialect bytes from n b a.0)
rest_of dialect bytes from (n ∷ ns) to (m ∷ ms) a b =
    let same = longest_same dialect (drop from bytes) m n b.0 a.0 in
    let P : ℕ → Type 0 = λ k. AreLongest dialect bytes (from + k) ms (length bytes) in
    let r = rest_of dialect bytes (from + n) ns to ms a.1 (subst P same b.1) in
    (r.0, r.1, λ i. same i ∷ r.2 i)

ends_here : (dialect : Dialect) (bytes ls : List ℕ) → AreLongest dialect bytes (length bytes) ls (length bytes) → ls ≡ []
ends_here dialect bytes [] a = refl
ends_here dialect bytes (l ∷ ls) a = absurd (let e = rest_of dialect bytes (length bytes) (l ∷ ls) (length bytes) [] a refl in cc)

-- the bytes are cut in one way
one_cut : (dialect : Dialect) (bytes ns ms : List ℕ) → AreLongest dialect bytes 0 ns (length bytes) → AreLongest dialect bytes 0 ms (length bytes) → ms ≡ ns
one_cut dialect bytes ns ms a b =
    let r = rest_of dialect bytes 0 ns (length bytes) ms a b in
    r.2 ∙ ap (λ (l : List ℕ). ns ++ l) (ends_here dialect bytes r.0 r.1) ∙ append-nil ns

-- and make one thing
pub one_reading : (dialect : Dialect) (bytes : List ℕ) (l m : Lexed) → IsLexedIn dialect bytes l → IsLexedIn dialect bytes m → l ≡ m
one_reading dialect bytes l m a b =
    let e : b.lengths ≡ a.lengths = one_cut dialect bytes a.lengths b.lengths a.cut b.cut in
    let names : l.names ≡ m.names = a.names ∙ sym (ap (λ (ns : List ℕ). names_with dialect [] (parts_of bytes 0 ns)) e) ∙ sym b.names in
    let tokens : l.tokens ≡ m.tokens = a.tokens ∙ (λ i. flat_map (token_at dialect (names i)) (parts_of bytes 0 (sym e i))) ∙ sym b.tokens in
    let spans : l.spans ≡ m.spans = a.spans ∙ sym (ap (λ (ns : List ℕ). flat_map (span_at dialect) (parts_of bytes 0 ns)) e) ∙ sym b.spans in
    let len : l.len ≡ m.len = a.len ∙ sym b.len in
    λ i. record { names = names i; tokens = tokens i; spans = spans i; len = len i }

stuck_ends : (dialect : Dialect) (bytes : List ℕ) (place : ℕ) (ls : List ℕ) → place < length bytes → IsStuck dialect (drop place bytes) → AreLongest dialect bytes place ls (length bytes) → ⊥
stuck_ends dialect bytes place [] lt s a = omega arith
stuck_ends dialect bytes place (l ∷ ls) lt s a = let e = s l a.0.within in let f = a.0.piece in cc

pub stuck_lexes_nothing : (dialect : Dialect) (bytes : List ℕ) (place : ℕ) (l : Lexed) → IsStuckIn dialect bytes place → IsLexedIn dialect bytes l → ⊥
stuck_lexes_nothing dialect bytes place l s b =
    let r = rest_of dialect bytes 0 s.front.lengths place b.lengths s.front.cut b.cut in stuck_ends dialect bytes place r.0 s.inside s.stuck r.1

pub parts_of-append : (dialect : Dialect) (bytes : List ℕ) (from : ℕ) (ns : List ℕ) (to : ℕ) (ls : List ℕ) → AreLongest dialect bytes from ns to → parts_of bytes from (ns ++ ls) ≡ parts_of bytes from ns ++ parts_of bytes to ls
parts_of-append dialect bytes from [] to ls h = ap (λ (f : ℕ). parts_of bytes f ls) h
parts_of-append dialect bytes from (n ∷ ns) to ls h = ap (λ (ps : List Part). part_at bytes from n ∷ ps) (parts_of-append dialect bytes (from + n) ns to ls h.1)

pub fits_back : (dialect : Dialect) (ps qs : List Part) → AllByRecursion (λ (q : Part). IsNotBig (piece_by dialect q.text)) (ps ++ qs) → AllByRecursion (λ (q : Part). IsNotBig (piece_by dialect q.text)) qs
fits_back dialect [] qs h = h
fits_back dialect (p ∷ ps) qs h = fits_back dialect ps qs h.1

big_ends : (dialect : Dialect) (bytes : List ℕ) (place n : ℕ) (ls : List ℕ) → IsLongest dialect (drop place bytes) n → piece_by dialect (take n (drop place bytes)) ≡ piece.TooBig → AreLongest dialect bytes place ls (length bytes)
    → AllByRecursion (λ (q : Part). IsNotBig (piece_by dialect q.text)) (parts_of bytes place ls) → ⊥
big_ends dialect bytes place n [] l b a fits = nothing_longest dialect bytes place n a l
big_ends dialect bytes place n (m ∷ ms) l b a fits =
    let same = longest_same dialect (drop place bytes) m n a.0 l in
    let P : ℕ → Type 0 = λ k. IsNotBig (piece_by dialect (take k (drop place bytes))) in
    subst IsNotBig b (subst P same fits.0)

pub big_lexes_nothing : (dialect : Dialect) (bytes : List ℕ) (place : ℕ) (l : Lexed) → IsBigIn dialect bytes place → IsLexedIn dialect bytes l → ⊥
big_lexes_nothing dialect bytes place l s b =
    let r = rest_of dialect bytes 0 s.front.lengths place b.lengths s.front.cut b.cut in
    let e : parts_of bytes 0 b.lengths ≡ parts_of bytes 0 s.front.lengths ++ parts_of bytes place r.0 = ap (parts_of bytes 0) r.2 ∙ parts_of-append dialect bytes 0 s.front.lengths place r.0 s.front.cut in
    let fits = fits_back dialect (parts_of bytes 0 s.front.lengths) (parts_of bytes place r.0) (subst (AllByRecursion (λ (q : Part). IsNotBig (piece_by dialect q.text))) e b.fits) in
    big_ends dialect bytes place s.size r.0 s.longest s.big r.1 fits

pub names_with-append : (dialect : Dialect) (names : List (List ℕ)) (ps qs : List Part) → names_with dialect names (ps ++ qs) ≡ names_with dialect (names_with dialect names ps) qs
names_with-append dialect names ps qs = ap (fold with_name names) (flat_map-append (name_by dialect) ps qs) ∙ fold-append with_name names (flat_map (name_by dialect) ps) (flat_map (name_by dialect) qs)

many_end : (dialect : Dialect) (bytes : List ℕ) (place n : ℕ) (ls : List ℕ) (names : List (List ℕ)) → IsLongest dialect (drop place bytes) n → 65535 < length (names_with dialect names (part_at bytes place n ∷ [])) → AreLongest dialect bytes place ls (length bytes)
    → 65535 < length (names_with dialect names (parts_of bytes place ls))
many_end dialect bytes place n [] names l lt a = absurd (nothing_longest dialect bytes place n a l)
many_end dialect bytes place n (m ∷ ms) names l lt a =
    let same = longest_same dialect (drop place bytes) m n a.0 l in
    let P : ℕ → Type 0 = λ k. 65535 < length (names_with dialect names (part_at bytes place k ∷ [])) in
    let here = subst P (sym same) lt in
    let rest = parts_of bytes (place + m) ms in
    let e = names_with-append dialect names (part_at bytes place m ∷ []) rest in
    let grown = length-fold (names_with dialect names (part_at bytes place m ∷ [])) (flat_map (name_by dialect) rest) in
    omega (arith, here, grown, ap length e)

-- where there are too many names, what the text makes has too many
pub many_names : (dialect : Dialect) (bytes : List ℕ) (l : Lexed) → HasTooManyNamesIn dialect bytes → IsLexedIn dialect bytes l → 65535 < length l.names
many_names dialect bytes l s b =
    let r = rest_of dialect bytes 0 s.front.lengths s.place b.lengths s.front.cut b.cut in
    let front = parts_of bytes 0 s.front.lengths in
    let e : parts_of bytes 0 b.lengths ≡ front ++ parts_of bytes s.place r.0 = ap (parts_of bytes 0) r.2 ∙ parts_of-append dialect bytes 0 s.front.lengths s.place r.0 s.front.cut in
    let names : l.names ≡ names_with dialect s.before.names (parts_of bytes s.place r.0) =
    b.names ∙ ap (names_with dialect []) e ∙ names_with-append dialect [] front (parts_of bytes s.place r.0) ∙ ap (λ (ns : List (List ℕ)). names_with dialect ns (parts_of bytes s.place r.0)) (sym s.front.names) in
    let P : List (List ℕ) → Type 0 = λ ns. 65535 < length ns in
    subst P (sym names) (many_end dialect bytes s.place s.size r.0 s.before.names s.longest s.many r.1)

-- for the code

pub longest_at : (dialect : Dialect) (bytes rest : List ℕ) (at n : ℕ) → rest ≡ drop at bytes → n ≡ longest dialect rest → (n ≡ 0 → ⊥) → IsLongest dialect (drop at bytes) n
longest_at dialect bytes rest at n e f ne =
    let g : n ≡ longest dialect (drop at bytes) = f ∙ ap (longest dialect) e in
    subst (IsLongest dialect (drop at bytes)) (sym g) (longest_is dialect (drop at bytes) (omega arith))

pub text_here : (bytes rest text : List ℕ) (at n : ℕ) → rest ≡ drop at bytes → text ≡ take n rest → text ≡ take n (drop at bytes)
text_here bytes rest text at n e f = f ∙ ap (take n) e
