-- The laws of the readers of types.
use Rattle.std.proofs.Common.{◌≡◌, ℕ, List, [], ◌∷◌, ◌++◌, length, refl, sym, ap, ◌∙◌, subst}
use Rattle.gib_base.specs.declared.Span.{Span}
use Rattle.gib_base.specs.declared.token.Sign.TheVariants as s
use Rattle.gib_base.specs.declared.token.Token.{Token}
use Rattle.gib_base.specs.declared.token.Token.TheVariants as t
use Rattle.gib_syntax.specs.declared.tree.Ident.{Ident}
use Rattle.gib_syntax.specs.Forms.{WrittenType, WrittenTypes, WholeAt, TruthAt, VariableAt, DataAt, NoType, MoreTypes}
use Rattle.gib_syntax.specs.Words.{all_types}
use Rattle.gib_syntax.specs.Spelling.{Places, IsAt, spell_type, spell_written, spell_types, spell_type_arguments, IsTypeAt, AreWrittenAt, AreTypesAt}
use Rattle.gib_parse.specs.Reading.{before, named, starts_type, Opened, opened_at, inside, type_at, bracket_at, type_arguments_at}
use Rattle.gib_reads.proofs.Tools.{done}
use Rattle.gib_reads.proofs.Laws.{World, Form, Reads, pure_reads, fail_nil, fail_reads, token_reads, choice_nil, choice_reads, weaken, behind_reads, then_reads, then_sign, many_reads, write_all, good_all, a_name}

-- ---- lists of types

pub types_spelled : (xs : List WrittenType) (rest : List Token) → spell_types xs rest ≡ spell_written (all_types xs) rest
types_spelled [] rest = refl
types_spelled (x ∷ xs) rest = ap (spell_type x) (types_spelled xs rest)

pub types_more : (xs : List WrittenType) (a : WrittenType) (rest : List Token) → spell_types (xs ++ a ∷ []) rest ≡ spell_types xs (spell_type a rest)
types_more [] a rest = refl
types_more (x ∷ xs) a rest = ap (spell_type x) (types_more xs a rest)

pub types_placed : (at : Places) (xs : List WrittenType) (rest : List Token) → AreTypesAt at xs rest → AreWrittenAt at (all_types xs) rest
types_placed at [] rest h = tt
types_placed at (x ∷ xs) rest h = (subst (IsTypeAt at x) (types_spelled xs rest) h.0, types_placed at xs rest h.1)

types_at_more : (at : Places) (xs : List WrittenType) (a : WrittenType) (rest : List Token) → AreTypesAt at xs (spell_type a rest)
    → IsTypeAt at a rest → AreTypesAt at (xs ++ a ∷ []) rest
types_at_more at [] a rest h k = (k, tt)
types_at_more at (x ∷ xs) a rest h k = (subst (IsTypeAt at x) (sym (types_more xs a rest)) h.0, types_at_more at xs a rest h.1 k)

-- ---- what stands open

-- The tokens of one that is not closed, and then the rest.
abbrev pub begun : Ident → List WrittenType → List Token → List Token
begun k xs rest = t.Sign s.Open ∷ t.Constructor k.name ∷ spell_types xs rest

-- The tokens of those that are not closed, the innermost first, and then the rest.
abbrev pub outer : List Opened → List Token → List Token
outer [] rest = rest
outer (o ∷ os) rest = outer os (begun o.name o.arguments rest)

-- One that is not closed carries the spans of its tokens.
abbrev pub IsOpenAt : Places → Span → Ident → List WrittenType → List Token → Type 0
IsOpenAt at p k xs rest = (p ≡ at (length (begun k xs rest))) × IsAt at k (spell_types xs rest) × AreTypesAt at xs rest

-- All of them do.
abbrev pub AreOpenAt : Places → List Opened → List Token → Type 0
AreOpenAt at [] rest = Unit {0}
AreOpenAt at (o ∷ os) rest = IsOpenAt at o.place o.name o.arguments rest × AreOpenAt at os (begun o.name o.arguments rest)

pub begun_more : (k : Ident) (xs : List WrittenType) (a : WrittenType) (rest : List Token) → begun k (xs ++ a ∷ []) rest ≡ begun k xs (spell_type a rest)
begun_more k xs a rest = ap (λ (l : List Token). t.Sign s.Open ∷ t.Constructor k.name ∷ l) (types_more xs a rest)

open_more : (at : Places) (p : Span) (k : Ident) (xs : List WrittenType) (a : WrittenType) (rest : List Token)
    → IsOpenAt at p k xs (spell_type a rest) → IsTypeAt at a rest → IsOpenAt at p k (xs ++ a ∷ []) rest
open_more at p k xs a rest h placed = (
  h.0 ∙ ap (λ (l : List Token). at (length l)) (sym (begun_more k xs a rest)),
  subst (IsAt at k) (sym (types_more xs a rest)) h.1,
  types_at_more at xs a rest h.2 placed,
)

others_more : (at : Places) (k : Ident) (xs : List WrittenType) (os : List Opened) (a : WrittenType) (rest : List Token)
    → AreOpenAt at os (begun k xs (spell_type a rest)) → AreOpenAt at os (begun k (xs ++ a ∷ []) rest)
others_more at k xs os a rest h = subst (AreOpenAt at os) (sym (begun_more k xs a rest)) h

-- ---- one that is closed

pub closed_spelled : (p : Span) (k : Ident) (x : WrittenType) (xs : List WrittenType) (rest : List Token)
    → begun k (x ∷ xs) (t.Sign s.Close ∷ rest) ≡ spell_type (DataAt p k (all_types (x ∷ xs))) rest
closed_spelled p k x xs rest = ap (λ (l : List Token). t.Sign s.Open ∷ t.Constructor k.name ∷ spell_type x l) (types_spelled xs (t.Sign s.Close ∷ rest))

closed_placed : (at : Places) (p : Span) (k : Ident) (x : WrittenType) (xs : List WrittenType) (rest : List Token)
    → IsOpenAt at p k (x ∷ xs) (t.Sign s.Close ∷ rest) → IsTypeAt at (DataAt p k (all_types (x ∷ xs))) rest
closed_placed at p k x xs rest h =
    let same = types_spelled xs (t.Sign s.Close ∷ rest) in (
      h.0 ∙ ap (λ (l : List Token). at (length l)) (closed_spelled p k x xs rest),
      subst (λ (l : List Token). IsAt at k (spell_type x l)) same h.1,
      subst (IsTypeAt at x) same h.2.0,
      types_placed at xs (t.Sign s.Close ∷ rest) h.2.1,
    )

-- ---- what stands open can be closed

abbrev nowhere : Span
nowhere = record { start = 0; end = 0 }

abbrev TypeThen : List Token → List Token → Type 0
TypeThen r vs = (x : WrittenType) × Unit {0} × (vs ≡ spell_type x r)

abbrev closing : List Opened → List Token → List Token
closing [] r = r
closing (o ∷ os) r = t.Sign s.Close ∷ closing os r

closed_more : (k : Ident) (xs : List WrittenType) (a : WrittenType) (r : List Token)
    → begun k xs (spell_type a (t.Sign s.Close ∷ r)) ≡ spell_type (DataAt nowhere k (all_types (xs ++ a ∷ []))) r
closed_more k [] a r = closed_spelled nowhere k a [] r
closed_more k (x ∷ xs) a r = sym (begun_more k (x ∷ xs) a (t.Sign s.Close ∷ r)) ∙ closed_spelled nowhere k x (xs ++ a ∷ []) r

all_closed : (os : List Opened) (k : Ident) (xs : List WrittenType) (a : WrittenType) (r : List Token)
    → TypeThen r (outer os (begun k xs (spell_type a (t.Sign s.Close ∷ closing os r))))
all_closed [] k xs a r = (DataAt nowhere k (all_types (xs ++ a ∷ [])), tt, closed_more k xs a r)
all_closed (o ∷ os) k xs a r =
    let more = all_closed os o.name o.arguments (DataAt nowhere k (all_types (xs ++ a ∷ []))) r in
    (more.0, tt, ap (λ (l : List Token). outer os (begun o.name o.arguments l)) (closed_more k xs a (t.Sign s.Close ∷ closing os r)) ∙ more.2)

abbrev end_of : List Opened → List Token → List Token
end_of os r = t.Sign s.Int ∷ t.Sign s.Close ∷ closing os r

ended : (os : List Opened) (k : Ident) (xs : List WrittenType) (r : List Token) → TypeThen r (outer os (begun k xs (end_of os r)))
ended os k xs r = all_closed os k xs (WholeAt nowhere) r

-- ---- types one after another

all_written : (xs : List WrittenType) (rest : List Token) → write_all spell_type xs rest ≡ spell_written (all_types xs) rest
all_written [] rest = refl
all_written (x ∷ xs) rest = ap (spell_type x) (all_written xs rest)

all_placed : (at : Places) (xs : List WrittenType) (rest : List Token) → good_all spell_type (IsTypeAt at) xs rest → AreWrittenAt at (all_types xs) rest
all_placed at [] rest h = tt
all_placed at (x ∷ xs) rest h = (subst (IsTypeAt at x) (all_written xs rest) h.0, all_placed at xs rest h.1)

behind : (x : WrittenType) (xs : List WrittenType) (rest : List Token)
    → t.Sign s.OpenBracket ∷ spell_type x (write_all spell_type xs rest) ≡ t.Sign s.OpenBracket ∷ spell_type x (spell_written (all_types xs) rest)
behind x xs rest = ap (λ (l : List Token). t.Sign s.OpenBracket ∷ spell_type x l) (all_written xs rest)

-- ---- the readers

abbrev pub type : Places → Form WrittenType
type at = record { write = spell_type; fine = λ a. Unit {0}; good = IsTypeAt at }

abbrev pub type_arguments : Places → Form WrittenTypes
type_arguments at = record { write = spell_type_arguments; fine = λ a. Unit {0}; good = λ ws rest. AreWrittenAt at ws (t.Sign s.CloseBracket ∷ rest) }

module _ {P : Type 0} {w : World P} where
  -- One argument more.
  more_reads : {n : ℕ} (p : Span) (k : Ident) (xs : List WrittenType) (os : List Opened) (a : WrittenType) (r ws : List Token)
      → (IsOpenAt w.text.here p k (xs ++ a ∷ []) ws → AreOpenAt w.text.here os (begun k (xs ++ a ∷ []) ws)
      → Reads w n (type w.text.here) r (λ l. outer os (begun k (xs ++ a ∷ []) l)) (λ at sub. inside at p k (xs ++ a ∷ []) os) ws)
      → IsTypeAt w.text.here a ws → IsOpenAt w.text.here p k xs (spell_type a ws) → AreOpenAt w.text.here os (begun k xs (spell_type a ws))
      → Reads w n (type w.text.here) r (λ l. outer os (begun k xs (spell_type a l))) (λ at sub. inside at p k (xs ++ a ∷ []) os) ws
  more_reads p k xs os a r ws go placed h hs = behind_reads (λ l. ap (outer os) (begun_more k xs a l))
      (go (open_more w.text.here p k xs a ws h placed) (others_more w.text.here k xs os a ws hs))

  mutual
    opened_reads : (p : Span) (os : List Opened) (r ws : List Token) → p ≡ before w.text.here ws → AreOpenAt w.text.here os (t.Sign s.Open ∷ ws)
        → Reads w 1 (type w.text.here) r (λ l. outer os (t.Sign s.Open ∷ l)) (λ at sub. opened_at at p os) ws
    opened_reads p os r [] h hs = fail_nil (λ at sub. opened_at at p os) (t.Constructor a_name.name ∷ end_of os r) (λ at sub. refl) (ended os a_name [] r)
    opened_reads p os r (t.Constructor x ∷ ws) h hs =
        token_reads (λ at sub. opened_at at p os) (λ z at sub. inside at p (record { name = x; span = z }) [] os) (t.Constructor x) ws
        (λ at sub l. refl) (inside_reads p (named w.text.here x ws) [] os r ws (h, refl, tt) hs)
    opened_reads p os r (c ∷ ws) h hs = fail_reads (λ at sub. opened_at at p os) c ws (t.Constructor a_name.name ∷ end_of os r) (λ at sub l. refl)
        (ended os a_name [] r)

    pub inside_reads : (p : Span) (k : Ident) (xs : List WrittenType) (os : List Opened) (r ws : List Token) → IsOpenAt w.text.here p k xs ws
        → AreOpenAt w.text.here os (begun k xs ws) → Reads w 1 (type w.text.here) r (λ l. outer os (begun k xs l)) (λ at sub. inside at p k xs os) ws
    inside_reads p k xs os r [] h hs = fail_nil (λ at sub. inside at p k xs os) (end_of os r) (λ at sub. refl) (ended os k xs r)
    inside_reads p k xs os r (t.Sign s.Int ∷ ws) h hs =
        token_reads (λ at sub. inside at p k xs os) (λ z at sub. inside at p k (xs ++ WholeAt z ∷ []) os) (t.Sign s.Int) ws (λ at sub l. refl)
        (let a = WholeAt (before w.text.here ws) in more_reads p k xs os a r ws (inside_reads p k (xs ++ a ∷ []) os r ws) refl h hs)
    inside_reads p k xs os r (t.Sign s.Bool ∷ ws) h hs =
        token_reads (λ at sub. inside at p k xs os) (λ z at sub. inside at p k (xs ++ TruthAt z ∷ []) os) (t.Sign s.Bool) ws (λ at sub l. refl)
        (let a = TruthAt (before w.text.here ws) in more_reads p k xs os a r ws (inside_reads p k (xs ++ a ∷ []) os r ws) refl h hs)
    inside_reads p k xs os r (t.Variable x ∷ ws) h hs =
        token_reads (λ at sub. inside at p k xs os) (λ z at sub. inside at p k (xs ++ VariableAt (record { name = x; span = z }) ∷ []) os)
        (t.Variable x) ws (λ at sub l. refl) (let a = VariableAt (named w.text.here x ws) in
        more_reads p k xs os a r ws (inside_reads p k (xs ++ a ∷ []) os r ws) refl h hs)
    inside_reads p k xs os r (t.Constructor x ∷ ws) h hs =
        token_reads (λ at sub. inside at p k xs os) (λ z at sub. inside at p k (xs ++ DataAt z (record { name = x; span = z }) NoType ∷ []) os)
        (t.Constructor x) ws (λ at sub l. refl)
        (let a = DataAt (before w.text.here ws) (named w.text.here x ws) NoType in
        more_reads p k xs os a r ws (inside_reads p k (xs ++ a ∷ []) os r ws) (refl, refl) h hs)
    inside_reads p k xs os r (t.Sign s.Open ∷ ws) h hs =
        token_reads (λ at sub. inside at p k xs os) (λ z at sub. opened_at at z (record { place = p; name = k; arguments = xs } ∷ os))
        (t.Sign s.Open) ws (λ at sub l. refl)
        (opened_reads (before w.text.here ws) (record { place = p; name = k; arguments = xs } ∷ os) r ws refl (h, hs))
    inside_reads p k [] os r (t.Sign s.Close ∷ ws) h hs = fail_reads (λ at sub. inside at p k [] os) (t.Sign s.Close) ws (end_of os r)
        (λ at sub l. refl) (ended os k [] r)
    inside_reads p k (x ∷ xs) [] r (t.Sign s.Close ∷ ws) h hs =
        let a = DataAt p k (all_types (x ∷ xs)) in
        token_reads (λ at sub. inside at p k (x ∷ xs) []) (λ z at sub. done a) (t.Sign s.Close) ws (λ at sub l. refl)
        (pure_reads a ws (λ l. closed_spelled p k x xs l) tt (closed_placed w.text.here p k x xs ws h))
    inside_reads p k (x ∷ xs) (o ∷ os) r (t.Sign s.Close ∷ ws) h hs =
        let a = DataAt p k (all_types (x ∷ xs)) in
        let same = closed_spelled p k x xs ws in
        token_reads (λ at sub. inside at p k (x ∷ xs) (o ∷ os)) (λ z at sub. inside at o.place o.name (o.arguments ++ a ∷ []) os) (t.Sign s.Close) ws
        (λ at sub l. refl)
        (behind_reads (λ l. ap (λ (m : List Token). outer os (begun o.name o.arguments m)) (sym (closed_spelled p k x xs l)))
        (more_reads o.place o.name o.arguments os a r ws (inside_reads o.place o.name (o.arguments ++ a ∷ []) os r ws)
        (closed_placed w.text.here p k x xs ws h) (subst (IsOpenAt w.text.here o.place o.name o.arguments) same hs.0)
        (subst (λ (l : List Token). AreOpenAt w.text.here os (begun o.name o.arguments l)) same hs.1)))
    inside_reads p k xs os r (c ∷ ws) h hs = fail_reads (λ at sub. inside at p k xs os) c ws (end_of os r) (λ at sub l. refl) (ended os k xs r)

  pub type_reads : (r ws : List Token) → Reads w 1 (type w.text.here) r (λ l. l) (λ at sub. type_at at) ws
  type_reads r [] = fail_nil (λ at sub. type_at at) (t.Sign s.Int ∷ r) (λ at sub. refl) (WholeAt nowhere, tt, refl)
  type_reads r (t.Sign s.Int ∷ ws) = token_reads (λ at sub. type_at at) (λ z at sub. done (WholeAt z)) (t.Sign s.Int) ws (λ at sub l. refl)
      (pure_reads (WholeAt (before w.text.here ws)) ws (λ l. refl) tt refl)
  type_reads r (t.Sign s.Bool ∷ ws) = token_reads (λ at sub. type_at at) (λ z at sub. done (TruthAt z)) (t.Sign s.Bool) ws (λ at sub l. refl)
      (pure_reads (TruthAt (before w.text.here ws)) ws (λ l. refl) tt refl)
  type_reads r (t.Variable x ∷ ws) = token_reads (λ at sub. type_at at) (λ z at sub. done (VariableAt (record { name = x; span = z })))
      (t.Variable x) ws (λ at sub l. refl) (pure_reads (VariableAt (named w.text.here x ws)) ws (λ l. refl) tt refl)
  type_reads r (t.Constructor x ∷ ws) =
      token_reads (λ at sub. type_at at) (λ z at sub. done (DataAt z (record { name = x; span = z }) NoType)) (t.Constructor x) ws (λ at sub l. refl)
      (pure_reads (DataAt (before w.text.here ws) (named w.text.here x ws) NoType) ws (λ l. refl) tt (refl, refl))
  type_reads r (t.Sign s.Open ∷ ws) = token_reads (λ at sub. type_at at) (λ z at sub. opened_at at z []) (t.Sign s.Open) ws (λ at sub l. refl)
      (opened_reads (before w.text.here ws) [] r ws refl tt)
  type_reads r (c ∷ ws) = fail_reads (λ at sub. type_at at) c ws (t.Sign s.Int ∷ r) (λ at sub l. refl) (WholeAt nowhere, tt, refl)

  bracket_reads : (r ws : List Token) → Reads w 1 (type_arguments w.text.here) r (λ l. t.Sign s.OpenBracket ∷ l) (λ at sub. bracket_at at) ws
  unfolding bracket_at
  bracket_reads r ws =
      let end = t.Sign s.CloseBracket ∷ r in
      then_reads (type_reads end ws) (λ x o. (MoreTypes x NoType, tt, refl)) (λ x r1 e1 o1 p1.
      then_reads (many_reads starts_type (λ at sub. type_at at) type_reads end r1) (λ xs o. (all_types (x ∷ xs), tt, behind x xs end)) (λ xs r2 e2 o2 p2.
      then_sign s.CloseBracket r (all_types (x ∷ xs), tt, behind x xs end) (λ u r3 e3.
      let rest : r1 ≡ spell_written (all_types xs) (t.Sign s.CloseBracket ∷ r3) = e2 ∙ ap (write_all spell_type xs) e3
      ∙ all_written xs (t.Sign s.CloseBracket ∷ r3) in
      pure_reads (all_types (x ∷ xs)) r3 (λ l. behind x xs (t.Sign s.CloseBracket ∷ l)) tt (
        subst (IsTypeAt w.text.here x) rest p1,
        all_placed w.text.here xs (t.Sign s.CloseBracket ∷ r3)
            (subst (good_all spell_type (IsTypeAt w.text.here) xs) e3 p2),
      ))))

  pub type_arguments_reads : (r ws : List Token) → Reads w 0 (type_arguments w.text.here) r (λ l. l) (λ at sub. type_arguments_at at) ws
  type_arguments_reads r [] = choice_nil (λ at sub. type_arguments_at at) (λ at sub. done NoType) (λ at sub. refl) (pure_reads NoType [] (λ l. refl) tt tt)
  type_arguments_reads r (t.Sign s.OpenBracket ∷ ws) =
      weaken (token_reads (λ at sub. type_arguments_at at) (λ z at sub. bracket_at at) (t.Sign s.OpenBracket) ws (λ at sub l. refl)
      (bracket_reads r ws))
  type_arguments_reads r (c ∷ ws) = choice_reads (λ at sub. type_arguments_at at) (λ at sub. done NoType) c ws (λ at sub l. refl)
      (pure_reads NoType (c ∷ ws) (λ l. refl) tt tt)
