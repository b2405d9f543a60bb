-- The laws of reading expressions, on every level.
use Rattle.std.proofs.Common.{◌≡◌, ℕ, zero, suc, ◌≤◌, Bool, true, false, List, [], ◌∷◌, length, refl, sym, ap, ◌∙◌, arith}
use Rattle.gib_base.specs.declared.token.Sign.TheVariants as s
use Rattle.gib_base.specs.declared.token.Token.{Token}
use Rattle.gib_base.specs.declared.token.Token.TheVariants as t
use Rattle.gib_syntax.specs.GenericTree.{GenericExpression, GenericVar, GenericNum, GenericBit}
use Rattle.gib_syntax.specs.Spelling.{spell}
use Rattle.gib_parse.specs.Reading.{At, Nested, Mode, Any, App, Atom, Read, Parts, before, named, next_is, literal_at, starts_atom, starts, atom_at, app_at, any_at, step, no_level, parse}
use Rattle.gib_reads.proofs.Tools.{done, failed}
use Rattle.gib_reads.proofs.Local.{Kind, Refused, Deep, fault, fail_ok, fault_within, nested_is, at_is_nested, LocalAt, local_by, nil_fails, head_fails, head_sinks}
use Rattle.gib_reads.proofs.Past.{Past, past_by, past_refuses}
use Rattle.gib_reads.proofs.Laws.{Text, World, Told, Reads, told_by, told_fail, told_never}
use Rattle.gib_parse.proofs.ExpressionLaws.{expression, PartsRead, zero_is, zero_fine, atom_mode, let_reads, if_reads, case_reads, open_reads, open_any_reads, variable_reads, make_reads, constant_reads, atom_reads, app_reads, any_reads}

-- Reading expressions of so many levels.
abbrev pub world : Text → ℕ → World Parts
world x n = record { text = x; low = parse x.here n; high = parse x.here (suc n); moved = parse x.there (suc n) }

unfoldable pub sunk : Parts
sunk m ws = failed (Nested (suc (length ws)))

-- Reading none.
abbrev pub below : Text → World Parts
below x = record { text = x; low = sunk; high = parse x.here 0; moved = parse x.there 0 }

step_reads : {w : World Parts} {n : ℕ} → PartsRead w n → (m : Mode) (r ws : List Token)
    → Reads w 1 (expression w.text.here (suc n) m) r (λ l. l) (λ at sub. step at sub m) ws
step_reads h Any r ws = any_reads h r ws
step_reads h App r ws = app_reads h App (λ e i. i) r ws
step_reads h Atom r ws = atom_reads h Atom r ws

-- ---- no level

none_within : (v : Bool) (ws : List Token) (c : Kind) (k : ℕ) → no_level v ws ≡ failed (fault c k) → k ≤ length ws
none_within true ws c k e = let i = fault_within {A = GenericExpression} Deep c (length ws) k e in omega arith
none_within false ws c k e = let i = fault_within {A = GenericExpression} Refused c (length ws) k e in omega arith

none_ok : (v : Bool) (ws : List Token) (a : GenericExpression) (rest : List Token) → no_level v ws ≡ done a rest → ⊥
none_ok true ws a rest e = fail_ok (Nested (length ws)) a rest e
none_ok false ws a rest e = fail_ok (At (length ws)) a rest e

module _ (x : Text) where
  none_past : (m : Mode) (ws : List Token) → Past (sunk m) (parse x.here 0 m) ws
  unfolding parse sunk
  none_past m ws = record {
    ok = λ a rest e. absurd (fail_ok (Nested (suc (length ws))) a rest e);
    refused = λ j e. absurd (at_is_nested {A = GenericExpression} j (suc (length ws)) (sym e));
    sunk_bad = λ j c k e f. let i = nested_is {A = GenericExpression} (suc (length ws)) j e in
        let le = none_within (next_is (starts m) ws) ws c k f in omega arith;
    sunk_ok = λ j a rest e f. absurd (none_ok (next_is (starts m) ws) ws a rest f);
    ok_within = λ a rest e. absurd (none_ok (next_is (starts m) ws) ws a rest e);
    bad_within = λ c k e. none_within (next_is (starts m) ws) ws c k e;
  }

  none_head : (m : Mode) (c : Token) (ws : List Token) (v : Bool) → starts m c ≡ v
      → LocalAt x.tok x.after x.more x.here x.there x.shift (parse x.here 0 m) (parse x.there 0 m) (c ∷ ws)
  unfolding parse
  none_head m c ws true e = head_sinks x.tok x.after x.more x.here x.there x.shift (parse x.here 0 m) (parse x.there 0 m) c ws
      (λ l. ap (λ v. no_level v (c ∷ l)) e) (λ l. ap (λ v. no_level v (c ∷ l)) e)
  none_head m c ws false e = head_fails x.tok x.after x.more x.here x.there x.shift (parse x.here 0 m) (parse x.there 0 m) c ws
      (λ l. ap (λ v. no_level v (c ∷ l)) e) (λ l. ap (λ v. no_level v (c ∷ l)) e)

  none_local : (m : Mode) (ws : List Token) → LocalAt x.tok x.after x.more x.here x.there x.shift (parse x.here 0 m) (parse x.there 0 m) ws
  unfolding parse
  none_local m [] = nil_fails x.tok x.after x.more x.here x.there x.shift (parse x.here 0 m) (parse x.there 0 m) refl
  none_local m (c ∷ ws) = none_head m c ws (starts m c) refl

  none_told : (m : Mode) (r ws : List Token) (v : Bool) → Told 1 (expression x.here 0 m) r (λ l. l) (no_level v) ws
  unfolding zero_is
  none_told m r ws true = told_never (no_level true) ws (λ a rest e. none_ok true ws a rest e)
      (λ j e. at_is_nested {A = GenericExpression} j (length ws) (sym e))
  none_told m r ws false = told_fail (no_level false) ws (spell zero_is r) refl (zero_is, (zero_fine, atom_mode m zero_is refl), refl)

  pub none_reads : PartsRead (below x) 0
  unfolding parse
  none_reads m r ws = record {
    past = none_past m ws;
    local = none_local m ws;
    told = told_by (parse x.here 0 m) (no_level (next_is (starts m) ws)) ws refl (none_told m r ws (next_is (starts m) ws));
  }

  -- ---- the first level

  abbrev none : Parts
  none = parse x.here 0

  atom_refuses : (c : Token) (ws : List Token) → starts_atom c ≡ false → atom_at x.here none (c ∷ ws) ≡ failed (At (suc (length ws)))
  atom_refuses (t.Variable y) ws e = absurd cc
  atom_refuses (t.Constructor y) ws e = absurd cc
  atom_refuses (t.Number v) ws e = ap (λ b. literal_at b (before x.here ws) v ws) e
  atom_refuses (t.Sign s.True) ws e = absurd cc
  atom_refuses (t.Sign s.False) ws e = absurd cc
  atom_refuses (t.Sign s.Open) ws e = absurd cc
  atom_refuses (t.Sign g) ws e = refl

  app_refuses : (c : Token) (ws : List Token) → starts_atom c ≡ false → app_at x.here none (c ∷ ws) ≡ failed (At (suc (length ws)))
  app_refuses (t.Variable y) ws e = absurd cc
  app_refuses (t.Constructor y) ws e = absurd cc
  app_refuses (t.Number v) ws e = atom_refuses (t.Number v) ws e
  app_refuses (t.Sign g) ws e = atom_refuses (t.Sign g) ws e

  any_refuses : (c : Token) (ws : List Token) → starts Any c ≡ false → any_at x.here none (c ∷ ws) ≡ failed (At (suc (length ws)))
  any_refuses (t.Sign s.Let) ws e = absurd cc
  any_refuses (t.Sign s.If) ws e = absurd cc
  any_refuses (t.Sign s.Case) ws e = absurd cc
  any_refuses (t.Sign s.Open) ws e = absurd cc
  any_refuses c ws e = app_refuses c ws e

  step_refuses : (m : Mode) (c : Token) (ws : List Token) → starts m c ≡ false → step x.here none m (c ∷ ws) ≡ failed (At (suc (length ws)))
  step_refuses Any c ws e = any_refuses c ws e
  step_refuses App c ws e = app_refuses c ws e
  step_refuses Atom c ws e = atom_refuses c ws e

  step_refuses_none : (m : Mode) → step x.here none m [] ≡ failed (At 0)
  step_refuses_none Any = refl
  step_refuses_none App = refl
  step_refuses_none Atom = refl

  -- The first token is taken.
  abbrev Takes : Read GenericExpression → List Token → Type 0
  Takes r ws = (c : Kind) (k : ℕ) → r ≡ failed (fault c k) → k ≤ length ws

  takes_done : (e : GenericExpression) (ws : List Token) → Takes (done e ws) ws
  takes_done e ws c k f = absurd (fail_ok (fault c k) e ws (sym f))

  atom_takes : (c : Token) (ws : List Token) → starts_atom c ≡ true → Takes (atom_at x.here none (c ∷ ws)) ws
  atom_takes (t.Variable y) ws e = takes_done (GenericVar (named x.here y ws)) ws
  atom_takes (t.Constructor y) ws e = (constant_reads none_reads Atom (named x.here y ws) [] ws refl).past.bad_within
  atom_takes (t.Number v) ws e = λ c k f. takes_done (GenericNum (before x.here ws) v) ws c k (sym (ap (λ b. literal_at b (before x.here ws) v ws) e) ∙ f)
  atom_takes (t.Sign s.True) ws e = takes_done (GenericBit (before x.here ws) true) ws
  atom_takes (t.Sign s.False) ws e = takes_done (GenericBit (before x.here ws) false) ws
  atom_takes (t.Sign s.Open) ws e = (open_reads none_reads Atom (before x.here ws) [] ws refl).past.bad_within
  atom_takes (t.Sign g) ws e = absurd cc

  app_takes : (c : Token) (ws : List Token) → starts_atom c ≡ true → Takes (app_at x.here none (c ∷ ws)) ws
  app_takes (t.Variable y) ws e = (variable_reads none_reads App (λ e i. i) (named x.here y ws) [] ws refl).past.bad_within
  app_takes (t.Constructor y) ws e = (make_reads none_reads App (λ e i. i) (named x.here y ws) [] ws refl).past.bad_within
  app_takes (t.Number v) ws e = atom_takes (t.Number v) ws e
  app_takes (t.Sign g) ws e = atom_takes (t.Sign g) ws e

  any_takes : (c : Token) (ws : List Token) → starts Any c ≡ true → Takes (any_at x.here none (c ∷ ws)) ws
  any_takes (t.Sign s.Let) ws e = (let_reads none_reads (before x.here ws) [] ws refl).past.bad_within
  any_takes (t.Sign s.If) ws e = (if_reads none_reads (before x.here ws) [] ws refl).past.bad_within
  any_takes (t.Sign s.Case) ws e = (case_reads none_reads (before x.here ws) [] ws refl).past.bad_within
  any_takes (t.Sign s.Open) ws e = (open_any_reads none_reads (before x.here ws) [] ws refl).past.bad_within
  any_takes c ws e = app_takes c ws e

  step_takes : (m : Mode) (c : Token) (ws : List Token) → starts m c ≡ true → Takes (step x.here none m (c ∷ ws)) ws
  step_takes Any c ws e = any_takes c ws e
  step_takes App c ws e = app_takes c ws e
  step_takes Atom c ws e = atom_takes c ws e

  first_past : (m : Mode) (c : Token) (ws : List Token) (v : Bool) → starts m c ≡ v → Past (parse x.here 0 m) (parse x.here 1 m) (c ∷ ws)
  unfolding parse
  first_past m c ws false e = past_refuses (parse x.here 0 m) (parse x.here 1 m) (c ∷ ws) (ap (λ v. no_level v (c ∷ ws)) e) (step_refuses m c ws e)
  first_past m c ws true e =
      let is : parse x.here 0 m (c ∷ ws) ≡ failed (Nested (suc (length ws))) = ap (λ v. no_level v (c ∷ ws)) e in
      let h = step_reads none_reads m [] (c ∷ ws) in
      record {
        ok = λ a rest f. absurd (fail_ok (Nested (suc (length ws))) a rest (sym is ∙ f));
        refused = λ j f. absurd (at_is_nested {A = GenericExpression} j (suc (length ws)) (sym f ∙ is));
        sunk_bad = λ j b k f i. let l = nested_is {A = GenericExpression} (suc (length ws)) j (sym is ∙ f) in let w = step_takes m c ws e b k i in omega arith;
        sunk_ok = λ j a rest f i. let l = nested_is {A = GenericExpression} (suc (length ws)) j (sym is ∙ f) in
            let w = (h.told.taken a rest i).takes in omega arith;
        ok_within = h.past.ok_within;
        bad_within = h.past.bad_within;
      }

  zero_past : (m : Mode) (ws : List Token) → Past (parse x.here 0 m) (parse x.here 1 m) ws
  unfolding parse
  zero_past m [] = past_refuses (parse x.here 0 m) (parse x.here 1 m) [] refl (step_refuses_none m)
  zero_past m (c ∷ ws) = first_past m c ws (starts m c) refl

  zero_reads : PartsRead (world x 0) 1
  unfolding parse
  zero_reads m r ws = let h = step_reads none_reads m r ws in
      record {
        past = zero_past m ws;
        local = local_by x.tok x.after x.more x.here x.there x.shift (parse x.here 1 m) (parse x.there 1 m)
            (step x.here (parse x.here 0) m) (step x.there (parse x.there 0) m) ws refl (λ vs v. refl) h.local;
        told = told_by (parse x.here 1 m) (step x.here (parse x.here 0) m) ws refl h.told;
      }

  -- ---- every level

  raised : (n : ℕ) → PartsRead (world x n) (suc n) → PartsRead (world x (suc n)) (suc (suc n))
  unfolding parse
  raised n h m r ws =
      let k = step_reads h m r ws in
      record {
        past = past_by (parse x.here (suc n) m) (parse x.here (suc (suc n)) m) (step x.here (parse x.here n) m)
            (step x.here (parse x.here (suc n)) m) ws refl refl k.past;
        local = local_by x.tok x.after x.more x.here x.there x.shift (parse x.here (suc (suc n)) m) (parse x.there (suc (suc n)) m)
            (step x.here (parse x.here (suc n)) m) (step x.there (parse x.there (suc n)) m) ws refl (λ vs v. refl) k.local;
        told = told_by (parse x.here (suc (suc n)) m) (step x.here (parse x.here (suc n)) m) ws refl k.told;
      }

  pub parse_reads : (n : ℕ) → PartsRead (world x n) (suc n)
  parse_reads zero = zero_reads
  parse_reads (suc n) = raised n (parse_reads n)
