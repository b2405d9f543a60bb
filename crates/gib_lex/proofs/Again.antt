-- Tokens that are written are read again.
use Rattle.std.proofs.Common.{◌≡◌, ℕ, ◌+◌, ◌≤◌, true, List, [], ◌∷◌, ◌++◌, length, take, drop, fold, map, refl, sym, ap, ◌∙◌, subst, arith, append_assoc, length-append, length-drop, Option, Some, None, slice_get, unwrap_or}
use Rattle.std.specs.List.{flat_map, AllByRecursion}
use Rattle.std.proofs.Math.Seq.{take-append_seam, drop-append_seam}
use Rattle.std.proofs.lemmas.List.{append-nil, drop-drop, map-append}
use Rattle.std.proofs.lemmas.List.Concat.{flat_map-append}
use Rattle.std.proofs.lemmas.List.Sums.{fold-append}
use Rattle.gib_base.specs.declared.token.Dialect.{Dialect}
use Rattle.gib_base.specs.declared.token.Dialect.TheVariants.{Source}
use Rattle.gib_base.specs.declared.Span.{Span}
use Rattle.gib_base.specs.declared.token.Token.{Token}
use Rattle.gib_base.specs.declared.token.Token.TheVariants as token
use Rattle.gib_base.specs.declared.token.Piece.{Piece}
use Rattle.gib_base.specs.declared.token.Piece.TheVariants as kinds
use Rattle.gib_base.specs.Names.{holds, number_of, with_name}
use Rattle.gib_base.specs.Piece.{is_piece_by, IsLongest}
use Rattle.gib_base.specs.Spelling.{piece_by, token_text, tokens_text}
use Rattle.gib_base.specs.Lexed.{Lexed, Part, AreLongest, part_at, parts_of, name_in, name_by, token_in, token_at, IsLexedTo, IsLexed, IsLexedIn}
use Rattle.gib_base.proofs.Held.{held_text}
use Rattle.gib_base.specs.Printing.{IsWritable, IsWritableIn, name_used, names_used, renumbered, IsReadAgain, IsReadAgainIn}
use Rattle.gib_lex.proofs.Numbers.{holds_itself, number_itself, number-fold, AreHeld, AreHeld_front, AreHeld_back}
use Rattle.gib_lex.proofs.Cuts.{IsLexedTo_start, longest_at, held_names, one_reading}
use Rattle.gib_lex.proofs.Whole.{is_literal}
use Rattle.gib_lex.proofs.Steps.{held_so_far, step_none, step_some}
use Rattle.gib_lex.proofs.Written.{tail, IsRead, writable_read, sign_of_dialect}

-- a token's number stays when more names come
renumbered_kept : (names new xs : List (List ℕ)) (t : Token) → renumbered names (fold with_name (fold with_name new (name_used names t)) xs) t ≡ renumbered names new t
renumbered_kept names new xs (token.Variable x) =
    let text = token_text names (token.Variable x) in
    ap (λ (k : ℕ). token.Variable (record { 0 = k })) (number-fold (with_name new text) xs text (holds_itself new text) ∙ number_itself new text)
renumbered_kept names new xs (token.Constructor x) =
    let text = token_text names (token.Constructor x) in
    ap (λ (k : ℕ). token.Constructor (record { 0 = k })) (number-fold (with_name new text) xs text (holds_itself new text) ∙ number_itself new text)
renumbered_kept names new xs (token.Number n) = refl
renumbered_kept names new xs (token.Sign s) = refl

-- what is left behind the first bytes
drop_more : (bytes xs rest : List ℕ) (at : ℕ) → drop at bytes ≡ xs ++ rest → drop (at + length xs) bytes ≡ rest
drop_more bytes xs rest at e = sym (drop-drop (length xs) at bytes) ∙ ap (drop (length xs)) e ∙ drop-append_seam xs rest

-- one token
module _ (dialect : Dialect) (names : List (List ℕ)) (bytes : List ℕ) (at : ℕ) (new : List (List ℕ)) (tokens : List Token) (spans : List Span) (t : Token) (o : Option (List ℕ)) (r : IsRead dialect names t)
    (h : IsLexedTo dialect bytes at (held_so_far new tokens spans at)) (e : drop at bytes ≡ token_text names t ++ tail o) where
  token_step : IsLexedTo dialect bytes (at + length (token_text names t)) (held_so_far (fold with_name new (name_used names t)) (tokens ++ renumbered names new t ∷ []) (spans ++ (record { start = at; end = at + length (token_text names t) }) ∷ []) (at + length (token_text names t)))
  token_step =
      let text = token_text names t in
      let n = length text in
      let some = r.some in
      let long : IsLongest dialect (drop at bytes) n = longest_at dialect bytes (text ++ tail o) at n (sym e) (sym (r.longest o)) (λ z. omega arith) in
      let here : text ≡ take n (drop at bytes) = sym (ap (take n) e ∙ take-append_seam text (tail o)) in
      step_some dialect bytes text at n new (fold with_name new (name_used names t)) tokens spans h long here (renumbered names new t) (sym (r.token new)) (ap (fold with_name new) (sym r.name)) r.fits

  token_rest : drop (at + length (token_text names t)) bytes ≡ tail o
  token_rest = drop_more bytes (token_text names t) (tail o) at e

-- one space
module _ (dialect : Dialect) (bytes : List ℕ) (at : ℕ) (new : List (List ℕ)) (tokens : List Token) (spans : List Span) (rest : List ℕ)
    (h : IsLexedTo dialect bytes at (held_so_far new tokens spans at)) (e : drop at bytes ≡ 32 ∷ rest) where
  space_step : IsLexedTo dialect bytes (at + 1) (held_so_far new tokens spans (at + 1))
  space_step =
      let long : IsLongest dialect (drop at bytes) 1 = longest_at dialect bytes (32 ∷ rest) at 1 (sym e) refl (λ z. omega arith) in
      let here : 32 ∷ [] ≡ take 1 (drop at bytes) = sym (ap (take 1) e) in
      step_none dialect bytes (32 ∷ []) at 1 new new tokens spans h long here refl refl tt

  space_rest : drop (at + 1) bytes ≡ rest
  space_rest = drop_more bytes (32 ∷ []) rest at e

-- what is made from a place on
abbrev after : List (List ℕ) → List (List ℕ) → List Token → List (List ℕ)
after names new ts = fold with_name new (flat_map (name_used names) ts)

abbrev Made : Dialect → List (List ℕ) → List Token → List ℕ → List (List ℕ) → List Token → Type 0
Made dialect names ts bytes new tokens = (spans : List Span) × IsLexedTo dialect bytes (length bytes) (held_so_far (after names new ts) (tokens ++ map (renumbered names (after names new ts)) ts) spans (length bytes))

made_more : (dialect : Dialect) (names : List (List ℕ)) (t : Token) (ts : List Token) (bytes : List ℕ) (new : List (List ℕ)) (tokens : List Token)
    → Made dialect names ts bytes (fold with_name new (name_used names t)) (tokens ++ renumbered names new t ∷ []) → Made dialect names (t ∷ ts) bytes new tokens
made_more dialect names t ts bytes new tokens m =
    let first = fold with_name new (name_used names t) in
    let last = after names first ts in
    let e : after names new (t ∷ ts) ≡ last = fold-append with_name new (name_used names t) (flat_map (name_used names) ts) in
    let kept : renumbered names last t ≡ renumbered names new t = renumbered_kept names new (flat_map (name_used names) ts) t in
    let all : (tokens ++ renumbered names new t ∷ []) ++ map (renumbered names last) ts ≡ tokens ++ map (renumbered names (after names new (t ∷ ts))) (t ∷ ts) =
    append_assoc tokens (renumbered names new t ∷ []) (map (renumbered names last) ts)
    ∙ ap (λ (u : Token). tokens ++ u ∷ map (renumbered names last) ts) (sym kept)
    ∙ ap (λ (f : List (List ℕ)). tokens ++ map (renumbered names f) (t ∷ ts)) (sym e) in
    (m.0, subst (IsLexedTo dialect bytes (length bytes)) (λ i. held_so_far (sym e i) (all i) m.0 (length bytes)) m.1)

at_end : (bytes : List ℕ) (at : ℕ) → at ≤ length bytes → drop at bytes ≡ [] → at ≡ length bytes
at_end bytes at le e = omega (arith, length-drop at bytes, ap length e)

ended : (dialect : Dialect) (names : List (List ℕ)) (bytes : List ℕ) (at : ℕ) (new : List (List ℕ)) (tokens : List Token) (spans : List Span) → IsLexedTo dialect bytes at (held_so_far new tokens spans at) → at ≤ length bytes → drop at bytes ≡ [] → Made dialect names [] bytes new tokens
ended dialect names bytes at new tokens spans h le e =
    let end = at_end bytes at le e in
    let moved = subst (λ (k : ℕ). IsLexedTo dialect bytes k (held_so_far new tokens spans k)) end h in
    (spans, subst (λ (ts : List Token). IsLexedTo dialect bytes (length bytes) (held_so_far new ts spans (length bytes))) (sym (append-nil tokens)) moved)

run : (dialect : Dialect) (names : List (List ℕ)) (ts : List Token) (bytes : List ℕ) (at : ℕ) (new : List (List ℕ)) (tokens : List Token) (spans : List Span) → IsLexedTo dialect bytes at (held_so_far new tokens spans at) → at ≤ length bytes
    → drop at bytes ≡ tokens_text names ts → AllByRecursion (IsWritableIn dialect names) ts → Made dialect names ts bytes new tokens
run dialect names [] bytes at new tokens spans h le e w = ended dialect names bytes at new tokens spans h le e
run dialect names (t ∷ []) bytes at new tokens spans h le e w =
    let text = token_text names t in
    let r = writable_read dialect names t w.0 in
    let f : drop at bytes ≡ text ++ tail None = e ∙ sym (append-nil text) in
    let read = token_step dialect names bytes at new tokens spans t None r h f in
    let rest = token_rest dialect names bytes at new tokens spans t None r h f in
    let within : at + length text ≤ length bytes = omega (arith, length-drop at bytes, ap length e) in
    made_more dialect names t [] bytes new tokens (ended dialect names bytes (at + length text) (fold with_name new (name_used names t)) (tokens ++ renumbered names new t ∷ []) (spans ++ (record { start = at; end = at + length text }) ∷ []) read within rest)
run dialect names (t ∷ u ∷ ts) bytes at new tokens spans h le e w =
    let text = token_text names t in
    let r = writable_read dialect names t w.0 in
    let o = Some (tokens_text names (u ∷ ts)) in
    let next = at + length text in
    let first = fold with_name new (name_used names t) in
    let so_far = tokens ++ renumbered names new t ∷ [] in
    let ss = spans ++ (record { start = at; end = at + length text }) ∷ [] in
    let read = token_step dialect names bytes at new tokens spans t o r h e in
    let rest = token_rest dialect names bytes at new tokens spans t o r h e in
    let space = space_step dialect bytes next first so_far ss (tokens_text names (u ∷ ts)) read rest in
    let left = space_rest dialect bytes next first so_far ss (tokens_text names (u ∷ ts)) read rest in
    let within : next + 1 ≤ length bytes = omega (arith, length-drop at bytes, ap length e, length-append text (32 ∷ tokens_text names (u ∷ ts))) in
    made_more dialect names t (u ∷ ts) bytes new tokens (run dialect names (u ∷ ts) bytes (next + 1) first so_far ss space within left w.1)

-- tokens that can be written are read again
pub read_again_in : (dialect : Dialect) (names : List (List ℕ)) (tokens : List Token) → AllByRecursion (IsWritableIn dialect names) tokens → (l : Lexed) × IsReadAgainIn dialect names tokens l
read_again_in dialect names tokens w =
    let bytes = tokens_text names tokens in
    let m = run dialect names tokens bytes 0 [] [] [] (IsLexedTo_start dialect bytes) (omega arith) refl w in
    (held_so_far (after names [] tokens) (map (renumbered names (after names [] tokens)) tokens) m.0 (length bytes), record { lexed = m.1; used = refl; same = refl })

-- the tokens of a text can be written

all-append : (dialect : Dialect) (names : List (List ℕ)) (ts us : List Token) → AllByRecursion (IsWritableIn dialect names) ts → AllByRecursion (IsWritableIn dialect names) us → AllByRecursion (IsWritableIn dialect names) (ts ++ us)
all-append dialect names [] us a b = b
all-append dialect names (t ∷ ts) us a b = (a.0, all-append dialect names ts us a.1 b)

writable_in : (dialect : Dialect) (q : Piece) (names : List (List ℕ)) (text : List ℕ) → piece_by dialect text ≡ q → is_piece_by dialect text ≡ true → AreHeld names (name_in q text) → AllByRecursion (IsWritableIn dialect names) (token_in q (number_of names text))
writable_in dialect kinds.Gap names text e w h = tt
writable_in dialect (kinds.Sign s) names text e w h = (sign_of_dialect dialect text s e, tt)
writable_in dialect kinds.Variable names text e w h = (record { text = text; held = held_text names text h.0; whole = w; is_so = e }, tt)
writable_in dialect kinds.Constructor names text e w h = (record { text = text; held = held_text names text h.0; whole = w; is_so = e }, tt)
writable_in dialect (kinds.Number n) names text e w h = (is_literal dialect text n e, tt)
writable_in dialect kinds.TooBig names text e w h = tt

writable_parts : (dialect : Dialect) (bytes : List ℕ) (from : ℕ) (ns : List ℕ) (to : ℕ) (names : List (List ℕ)) → AreLongest dialect bytes from ns to → AreHeld names (flat_map (name_by dialect) (parts_of bytes from ns)) → AllByRecursion (IsWritableIn dialect names) (flat_map (token_at dialect names) (parts_of bytes from ns))
writable_parts dialect bytes from [] to names a h = tt
writable_parts dialect bytes from (n ∷ ns) to names a h =
    let p = part_at bytes from n in
    let rest = parts_of bytes (from + n) ns in
    all-append dialect names (token_at dialect names p) (flat_map (token_at dialect names) rest)
    (writable_in dialect (piece_by dialect p.text) names p.text refl a.0.piece (AreHeld_front names (name_by dialect p) (flat_map (name_by dialect) rest) h))
    (writable_parts dialect bytes (from + n) ns to names a.1 (AreHeld_back names (name_by dialect p) (flat_map (name_by dialect) rest) h))

-- and they use its names

text_held : (names : List (List ℕ)) (text : List ℕ) → holds names text ≡ true → unwrap_or (slice_get names (number_of names text)) [] ≡ text
text_held names text h = ap (λ (o : Option (List ℕ)). unwrap_or o []) (held_text names text h)

used_in : (q : Piece) (names : List (List ℕ)) (text : List ℕ) → AreHeld names (name_in q text) → flat_map (name_used names) (token_in q (number_of names text)) ≡ name_in q text
used_in kinds.Gap names text h = refl
used_in (kinds.Sign s) names text h = refl
used_in kinds.Variable names text h = ap (λ (t : List ℕ). t ∷ []) (text_held names text h.0)
used_in kinds.Constructor names text h = ap (λ (t : List ℕ). t ∷ []) (text_held names text h.0)
used_in (kinds.Number n) names text h = refl
used_in kinds.TooBig names text h = refl

used_parts : (dialect : Dialect) (parts : List Part) (names : List (List ℕ)) → AreHeld names (flat_map (name_by dialect) parts) → flat_map (name_used names) (flat_map (token_at dialect names) parts) ≡ flat_map (name_by dialect) parts
used_parts dialect [] names h = refl
used_parts dialect (p ∷ parts) names h =
    let here = used_in (piece_by dialect p.text) names p.text (AreHeld_front names (name_by dialect p) (flat_map (name_by dialect) parts) h) in
    let rest = used_parts dialect parts names (AreHeld_back names (name_by dialect p) (flat_map (name_by dialect) parts) h) in
    flat_map-append (name_used names) (token_at dialect names p) (flat_map (token_at dialect names) parts) ∙ (λ i. here i ++ rest i)

-- by the numbers that they have

same_in : (q : Piece) (names : List (List ℕ)) (text : List ℕ) → AreHeld names (name_in q text) → map (renumbered names names) (token_in q (number_of names text)) ≡ token_in q (number_of names text)
same_in kinds.Gap names text h = refl
same_in (kinds.Sign s) names text h = refl
same_in kinds.Variable names text h = ap (λ (t : List ℕ). token_in kinds.Variable (number_of names t)) (text_held names text h.0)
same_in kinds.Constructor names text h = ap (λ (t : List ℕ). token_in kinds.Constructor (number_of names t)) (text_held names text h.0)
same_in (kinds.Number n) names text h = refl
same_in kinds.TooBig names text h = refl

same_parts : (dialect : Dialect) (parts : List Part) (names : List (List ℕ)) → AreHeld names (flat_map (name_by dialect) parts) → map (renumbered names names) (flat_map (token_at dialect names) parts) ≡ flat_map (token_at dialect names) parts
same_parts dialect [] names h = refl
same_parts dialect (p ∷ parts) names h =
    let here = same_in (piece_by dialect p.text) names p.text (AreHeld_front names (name_by dialect p) (flat_map (name_by dialect) parts) h) in
    let rest = same_parts dialect parts names (AreHeld_back names (name_by dialect p) (flat_map (name_by dialect) parts) h) in
    map-append (renumbered names names) (token_at dialect names p) (flat_map (token_at dialect names) parts) ∙ (λ i. here i ++ rest i)

held_all : (dialect : Dialect) (bytes : List ℕ) (l : Lexed) (h : IsLexedIn dialect bytes l) → AreHeld l.names (flat_map (name_by dialect) (parts_of bytes 0 h.lengths))
held_all dialect bytes l h =
    let parts = parts_of bytes 0 h.lengths in
    subst (λ (names : List (List ℕ)). AreHeld names (flat_map (name_by dialect) parts)) (sym h.names) (held_names dialect parts)

pub all_writable_in : (dialect : Dialect) (bytes : List ℕ) (l : Lexed) → IsLexedIn dialect bytes l → AllByRecursion (IsWritableIn dialect l.names) l.tokens
all_writable_in dialect bytes l h = subst (AllByRecursion (IsWritableIn dialect l.names)) (sym h.tokens) (writable_parts dialect bytes 0 h.lengths (length bytes) l.names h.cut (held_all dialect bytes l h))

-- what a text makes, written and read again, is the same names and tokens
pub same_again_in : (dialect : Dialect) (bytes : List ℕ) (l m : Lexed) → IsLexedIn dialect bytes l → IsLexedIn dialect (tokens_text l.names l.tokens) m → (m.names ≡ l.names) × (m.tokens ≡ l.tokens)
same_again_in dialect bytes l m h k =
    let parts = parts_of bytes 0 h.lengths in
    let held = held_all dialect bytes l h in
    let r = read_again_in dialect l.names l.tokens (all_writable_in dialect bytes l h) in
    let n = r.0 in
    let one : m ≡ n = one_reading dialect (tokens_text l.names l.tokens) m n k r.1.lexed in
    let used : names_used l.names l.tokens ≡ l.names = ap (λ (ts : List Token). names_used l.names ts) h.tokens ∙ ap (fold with_name []) (used_parts dialect parts l.names held) ∙ sym h.names in
    let names : n.names ≡ l.names = r.1.used ∙ used in
    let tokens : n.tokens ≡ l.tokens = r.1.same ∙ ap (λ (ns : List (List ℕ)). map (renumbered l.names ns) l.tokens) names ∙ ap (map (renumbered l.names l.names)) h.tokens ∙ same_parts dialect parts l.names held ∙ sym h.tokens in
    (ap (λ (x : Lexed). x.names) one ∙ names, ap (λ (x : Lexed). x.tokens) one ∙ tokens)

-- the same of programs

pub read_again : (names : List (List ℕ)) (tokens : List Token) → AllByRecursion (IsWritable names) tokens → (l : Lexed) × IsReadAgain names tokens l
read_again = read_again_in Source

pub all_writable : (bytes : List ℕ) (l : Lexed) → IsLexed bytes l → AllByRecursion (IsWritable l.names) l.tokens
all_writable = all_writable_in Source

pub same_again : (bytes : List ℕ) (l m : Lexed) → IsLexed bytes l → IsLexed (tokens_text l.names l.tokens) m → (m.names ≡ l.names) × (m.tokens ≡ l.tokens)
same_again = same_again_in Source
