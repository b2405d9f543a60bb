-- The laws of reading LoCal terms, on every level.
use Rattle.std.proofs.Common.{◌≡◌, ℕ, zero, suc, ◌≤◌, Bool, true, false, List, [], ◌∷◌, length, refl, sym, ap, ◌∙◌, arith}
use Rattle.gib_base.specs.declared.token.Sign.TheVariants as s
use Rattle.gib_base.specs.declared.token.Token.{Token}
use Rattle.gib_base.specs.declared.token.Token.TheVariants as t
use Rattle.gib_reads.specs.Readers.{At, Nested, Reader, before, named, next_is}
use Rattle.gib_local_parse.specs.Tree.{Line}
use Rattle.gib_local_parse.specs.Grammar.{spell_line, line_at, starts_term, no_level, parse}
use Rattle.gib_reads.proofs.Tools.{done, failed}
use Rattle.gib_reads.proofs.Local.{Kind, Refused, Deep, fault, fail_ok, fault_within, nested_is, at_is_nested, LocalAt, local_by, nil_fails, head_fails, head_sinks}
use Rattle.gib_reads.proofs.Past.{Past, past_by, past_refuses}
use Rattle.gib_reads.proofs.Laws.{Text, World, Told, told_by, told_fail, told_never}
use Rattle.gib_local_parse.proofs.PhraseLaws.{zero_small}
use Rattle.gib_local_parse.proofs.TermLaws.{line, plain, LinesRead, line_reads, in_reads, region_reads, new_place_reads, reach_reads, let_reads, give_reads, point_reads, call_reads, make_reads, case_reads, if_reads}

-- Reading terms of so many levels.
abbrev pub world : Text → ℕ → World (Reader Line)
world x n = record { text = x; low = parse x.here n; high = parse x.here (suc n); moved = parse x.there (suc n) }

unfoldable pub sunk : Reader Line
sunk ws = failed (Nested (suc (length ws)))

-- Reading none.
abbrev pub below : Text → World (Reader Line)
below x = record { text = x; low = sunk; high = parse x.here 0; moved = parse x.there 0 }

none_within : (v : Bool) (ws : List Token) (c : Kind) (k : ℕ) → no_level v ws ≡ failed (fault c k) → k ≤ length ws
none_within true ws c k e = let i = fault_within {A = Line} Deep c (length ws) k e in omega arith
none_within false ws c k e = let i = fault_within {A = Line} Refused c (length ws) k e in omega arith

none_ok : (v : Bool) (ws : List Token) (a : Line) (rest : List Token) → no_level v ws ≡ done a rest → ⊥
none_ok true ws a rest e = fail_ok (Nested (length ws)) a rest e
none_ok false ws a rest e = fail_ok (At (length ws)) a rest e

module _ (x : Text) where
  none_past : (ws : List Token) → Past sunk (parse x.here 0) ws
  unfolding parse sunk
  none_past ws = record {
    ok = λ a rest e. absurd (fail_ok (Nested (suc (length ws))) a rest e);
    refused = λ j e. absurd (at_is_nested {A = Line} j (suc (length ws)) (sym e));
    sunk_bad = λ j c k e f. let i = nested_is {A = Line} (suc (length ws)) j e in let le = none_within (next_is starts_term ws) ws c k f in omega arith;
    sunk_ok = λ j a rest e f. absurd (none_ok (next_is starts_term ws) ws a rest f);
    ok_within = λ a rest e. absurd (none_ok (next_is starts_term ws) ws a rest e);
    bad_within = λ c k e. none_within (next_is starts_term ws) ws c k e;
  }

  none_head : (c : Token) (ws : List Token) (v : Bool) → starts_term c ≡ v → LocalAt x.tok x.after x.more x.here x.there x.shift (parse x.here 0)
      (parse x.there 0) (c ∷ ws)
  unfolding parse
  none_head c ws true e = head_sinks x.tok x.after x.more x.here x.there x.shift (parse x.here 0) (parse x.there 0) c ws (λ l. ap (λ v. no_level v (c ∷ l)) e)
      (λ l. ap (λ v. no_level v (c ∷ l)) e)
  none_head c ws false e = head_fails x.tok x.after x.more x.here x.there x.shift (parse x.here 0) (parse x.there 0) c ws
      (λ l. ap (λ v. no_level v (c ∷ l)) e) (λ l. ap (λ v. no_level v (c ∷ l)) e)

  none_local : (ws : List Token) → LocalAt x.tok x.after x.more x.here x.there x.shift (parse x.here 0) (parse x.there 0) ws
  unfolding parse
  none_local [] = nil_fails x.tok x.after x.more x.here x.there x.shift (parse x.here 0) (parse x.there 0) refl
  none_local (c ∷ ws) = none_head c ws (starts_term c) refl

  none_told : (r ws : List Token) (v : Bool) → Told 1 (line x.here 0) r (λ l. l) (no_level v) ws
  none_told r ws true = told_never (no_level true) ws (λ a rest e. none_ok true ws a rest e) (λ j e. at_is_nested {A = Line} j (length ws) (sym e))
  none_told r ws false = told_fail (no_level false) ws (spell_line plain r) refl (plain, zero_small, refl)

  pub none_reads : LinesRead (below x) 0
  unfolding parse
  none_reads r ws = record {
    past = none_past ws;
    local = none_local ws;
    told = told_by (parse x.here 0) (no_level (next_is starts_term ws)) ws refl
        (none_told r ws (next_is starts_term ws));
  }

  -- ---- the first level

  abbrev none : Reader Line
  none = parse x.here 0

  refuses : (c : Token) (ws : List Token) → starts_term c ≡ false → line_at x.here none (c ∷ ws) ≡ failed (At (suc (length ws)))
  refuses (t.Sign s.LetRegion) ws e = absurd cc
  refuses (t.Sign s.LetLocation) ws e = absurd cc
  refuses (t.Sign s.Reach) ws e = absurd cc
  refuses (t.Sign s.Give) ws e = absurd cc
  refuses (t.Sign s.Point) ws e = absurd cc
  refuses (t.Sign s.Let) ws e = absurd cc
  refuses (t.Sign s.Case) ws e = absurd cc
  refuses (t.Sign s.If) ws e = absurd cc
  refuses (t.Variable y) ws e = absurd cc
  refuses (t.Constructor y) ws e = absurd cc
  refuses c ws e = refl

  -- The first token is taken.
  takes : (c : Token) (ws : List Token) → starts_term c ≡ true → (b : Kind) (k : ℕ) → line_at x.here none (c ∷ ws) ≡ failed (fault b k) → k ≤ length ws
  takes (t.Sign s.LetRegion) ws e = (in_reads none_reads (t.Sign s.LetRegion) [] ws
      (region_reads none_reads (t.Sign s.In ∷ spell_line plain []) ws)).past.bad_within
  takes (t.Sign s.LetLocation) ws e = (in_reads none_reads (t.Sign s.LetLocation) [] ws
      (new_place_reads none_reads (t.Sign s.In ∷ spell_line plain []) ws)).past.bad_within
  takes (t.Sign s.Reach) ws e = (in_reads none_reads (t.Sign s.Reach) [] ws (reach_reads none_reads (t.Sign s.In ∷ spell_line plain []) ws)).past.bad_within
  takes (t.Sign s.Let) ws e = (in_reads none_reads (t.Sign s.Let) [] ws (let_reads none_reads (t.Sign s.In ∷ spell_line plain []) ws)).past.bad_within
  takes (t.Sign s.Give) ws e = (give_reads none_reads (before x.here ws) [] ws refl).past.bad_within
  takes (t.Sign s.Point) ws e = (point_reads none_reads (before x.here ws) [] ws refl).past.bad_within
  takes (t.Sign s.Case) ws e = (case_reads none_reads (before x.here ws) [] ws refl).past.bad_within
  takes (t.Sign s.If) ws e = (if_reads none_reads (before x.here ws) [] ws refl).past.bad_within
  takes (t.Variable y) ws e = (call_reads none_reads (named x.here y ws) [] ws refl).past.bad_within
  takes (t.Constructor y) ws e = (make_reads none_reads (named x.here y ws) [] ws refl).past.bad_within
  takes c ws e = absurd cc

  first_past : (c : Token) (ws : List Token) (v : Bool) → starts_term c ≡ v → Past (parse x.here 0) (parse x.here 1) (c ∷ ws)
  unfolding parse
  first_past c ws false e = past_refuses (parse x.here 0) (parse x.here 1) (c ∷ ws) (ap (λ v. no_level v (c ∷ ws)) e) (refuses c ws e)
  first_past c ws true e =
      let is : parse x.here 0 (c ∷ ws) ≡ failed (Nested (suc (length ws))) = ap (λ v. no_level v (c ∷ ws)) e in
      let h = line_reads none_reads [] (c ∷ ws) in
      record {
        ok = λ a rest f. absurd (fail_ok (Nested (suc (length ws))) a rest (sym is ∙ f));
        refused = λ j f. absurd (at_is_nested {A = Line} j (suc (length ws)) (sym f ∙ is));
        sunk_bad = λ j b k f i. let l = nested_is {A = Line} (suc (length ws)) j (sym is ∙ f) in let w = takes c ws e b k i in omega arith;
        sunk_ok = λ j a rest f i. let l = nested_is {A = Line} (suc (length ws)) j (sym is ∙ f) in let w = (h.told.taken a rest i).takes in omega arith;
        ok_within = h.past.ok_within;
        bad_within = h.past.bad_within;
      }

  zero_past : (ws : List Token) → Past (parse x.here 0) (parse x.here 1) ws
  unfolding parse
  zero_past [] = past_refuses (parse x.here 0) (parse x.here 1) [] refl refl
  zero_past (c ∷ ws) = first_past c ws (starts_term c) refl

  zero_reads : LinesRead (world x 0) 1
  unfolding parse
  zero_reads r ws = let h = line_reads none_reads r ws in record {
    past = zero_past ws;
    local = local_by x.tok x.after x.more x.here x.there x.shift
        (parse x.here 1) (parse x.there 1) (line_at x.here (parse x.here 0)) (line_at x.there (parse x.there 0)) ws refl (λ vs v. refl) h.local;
    told = told_by
        (parse x.here 1) (line_at x.here (parse x.here 0)) ws refl h.told;
  }

  raised : (n : ℕ) → LinesRead (world x n) (suc n) → LinesRead (world x (suc n)) (suc (suc n))
  unfolding parse
  raised n h r ws =
      let k = line_reads h r ws in
      record {
        past = past_by (parse x.here (suc n)) (parse x.here (suc (suc n))) (line_at x.here (parse x.here n))
            (line_at x.here (parse x.here (suc n))) ws refl refl k.past;
        local = local_by x.tok x.after x.more x.here x.there x.shift (parse x.here (suc (suc n))) (parse x.there (suc (suc n)))
            (line_at x.here (parse x.here (suc n))) (line_at x.there (parse x.there (suc n))) ws refl (λ vs v. refl) k.local;
        told = told_by (parse x.here (suc (suc n))) (line_at x.here (parse x.here (suc n))) ws refl k.told;
      }

  pub parse_reads : (n : ℕ) → LinesRead (world x n) (suc n)
  parse_reads zero = zero_reads
  parse_reads (suc n) = raised n (parse_reads n)

-- Reading on one level less than n; below the first level all is too deep.
abbrev pub lower : Text → ℕ → Reader Line
lower x zero = sunk
lower x (suc n) = parse x.here n

abbrev pub level : Text → ℕ → World (Reader Line)
level x n = record { text = x; low = lower x n; high = parse x.here n; moved = parse x.there n }

pub level_reads : (x : Text) (n : ℕ) → LinesRead (level x n) n
level_reads x zero = none_reads x
level_reads x (suc n) = parse_reads x n
