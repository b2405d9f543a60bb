-- Types in parentheses, as far as they were read.
use Rattle.std.proofs.Common.{◌≡◌, ℕ, zero, suc, ◌<◌, ◌≤◌, ◌+◌, Bool, true, false, List, [], ◌∷◌, ◌++◌, length, Ok, Err, refl, sym, ap, ◌∙◌, subst, arith, length-append, append_assoc}
use Rattle.std.specs.Prelude.{slice_set, Result, IfOk, IfErr}
use Rattle.std.specs.List.{AllByRecursion}
use Rattle.std.proofs.lemmas.List.{append-nil}
use Rattle.gib_base.specs.declared.Span.{Span}
use Rattle.gib_base.specs.declared.token.Sign.TheVariants as s
use Rattle.gib_base.specs.declared.token.Token.{Token}
use Rattle.gib_base.specs.declared.token.Token.TheVariants as t
use Rattle.gib_syntax.specs.declared.tree.Ident.{Ident}
use Rattle.gib_syntax.specs.declared.written.Word.{Word}
use Rattle.gib_syntax.specs.declared.written.Word.TheVariants as w
use Rattle.gib_syntax.specs.Forms.{WrittenType, WrittenTypes, WholeAt, TruthAt, VariableAt, DataAt, NoType, count_written}
use Rattle.gib_syntax.specs.Spelling.{Places}
use Rattle.gib_syntax.specs.Words.{words_of, words_in, all_types, first_type, stack_of, run_words, type_in, types_in, IsRunIn, IsTypeRun, IsTypesRun}
use Rattle.gib_reads.specs.declared.stop.Stop.{Stop}
use Rattle.gib_reads.specs.declared.stop.Stop.TheVariants as stop
use Rattle.gib_parse.specs.declared.types.Next.TheVariants as next
use Rattle.gib_parse.specs.declared.types.OpenType.{OpenType}
use Rattle.gib_base.specs.declared.name.Name.{Name}
use Rattle.gib_syntax.specs.declared.written.Run.{Run}
use Rattle.gib_syntax.proofs.Reading.{read_one, read_all, read_list}
use Rattle.gib_parse.specs.Reading.{At, Read, Reader, then_at, want, before, named, next_is, many, starts_type, Opened, inside, type_at, bracket_at}
use Rattle.gib_parse.specs.Parsing.{Fails, Follows, FailsHere, ReadsWords, ReadsAllWords}
use Rattle.gib_parse.specs.OpenTypes.{TypeState, IsPlaceBelow, AreThere, open_type, counted, unclosed, IsKept, AreKept, InType, AfterToken}
use Rattle.gib_reads.proofs.Tools.{done, failed}
use Rattle.gib_parse.proofs.WholeLaws.{type_shrinks}
use Rattle.gib_reads.proofs.SoFar.{SoFar, none_yet, one_more, all_read, one_fails, shorter}

-- ---- words of listed types

pub words_more : (xs : List WrittenType) (a : WrittenType) → words_in (all_types (xs ++ a ∷ [])) ≡ words_in (all_types xs) ++ words_of a
words_more [] a = append-nil (words_of a)
words_more (x ∷ xs) a = ap (λ l. words_of x ++ l) (words_more xs a) ∙ sym (append_assoc (words_of x) (words_in (all_types xs)) (words_of a))

count_is : (xs : List WrittenType) → count_written (all_types xs) ≡ length xs
count_is [] = refl
count_is (x ∷ xs) = ap suc (count_is xs)

-- One argument more behind an open word.
argument_words : (front : List Word) (d : Word) (xs : List WrittenType) (a : WrittenType) → (front ++ (d ∷ words_in (all_types xs))) ++ words_of a ≡ front ++ (d ∷ words_in (all_types (xs ++ a ∷ [])))
argument_words front d xs a = append_assoc front (d ∷ words_in (all_types xs)) (words_of a) ∙ ap (λ l. front ++ (d ∷ l)) (sym (words_more xs a))

set_middle : (xs ys : List Word) (y z : Word) → slice_set (xs ++ y ∷ ys) (length xs) z ≡ xs ++ z ∷ ys
set_middle [] ys y z = refl
set_middle (x ∷ xs) ys y z = ap (λ l. x ∷ l) (set_middle xs ys y z)

length_more : (xs : List WrittenType) (a : WrittenType) (n : ℕ) → n ≡ length xs → n + 1 ≡ length (xs ++ a ∷ [])
length_more xs a n e = omega (arith, e, length-append xs (a ∷ []))

kept_more : (words : List Word) (ty : OpenType) (o : Opened) (a : WrittenType) → IsKept words ty o → IsKept words (counted ty) (record { place = o.place; name = o.name; arguments = o.arguments ++ a ∷ [] })
kept_more words ty o a k = record { place = k.place; span = k.span; name = k.name; count = length_more o.arguments a ty.arguments k.count }

-- ---- the steps

module _ (at : Places) (all : Read WrittenType) (base : List Word) where
  pub type_opens : (p : Span) (k : Ident) (ts : List Token) → all ≡ inside at p k [] [] ts → InType at all base (record { words = base ++ w.Data p k 0 ∷ []; here = open_type base p k; outer = [] }) ts
  type_opens p k ts e = record { innermost = record { place = p; name = k; arguments = [] }; others = []; here = record { place = refl; span = refl; name = refl; count = refl }; outer = tt; words = refl; read = e }

  pub word_goes : (st : TypeState) (ts rest : List Token) (x : Word) → Follows at ts (next.Word x) rest → InType at all base st ts → InType at all base (record { words = st.words ++ x ∷ []; here = counted st.here; outer = st.outer }) rest
  word_goes st ts rest x f i =
      let o = i.innermost in
      let a = f.0 in
      record {
        innermost = record { place = o.place; name = o.name; arguments = o.arguments ++ a ∷ [] };
        others = i.others;
        here = kept_more (unclosed base i.others) st.here o a i.here;
        outer = i.outer;
        words = ap (λ l. l ++ x ∷ []) i.words ∙ ap (λ l. unclosed base (o ∷ i.others) ++ l) (sym f.1) ∙ argument_words (unclosed base i.others) (w.Data o.place o.name 0) o.arguments a;
        read = i.read ∙ f.3 o.place o.name o.arguments i.others;
      }

  pub open_goes : (st : TypeState) (ts rest : List Token) (q : Span) (d : Ident) → Follows at ts (next.Open q d) rest → InType at all base st ts
      → InType at all base (record { words = st.words ++ w.Data q d 0 ∷ []; here = open_type st.words q d; outer = st.here ∷ st.outer }) rest
  open_goes st ts rest q d f i =
      let o = i.innermost in
      record {
        innermost = record { place = q; name = d; arguments = [] };
        others = o ∷ i.others;
        here = record { place = ap length i.words; span = refl; name = refl; count = refl };
        outer = (i.here, i.outer);
        words = ap (λ l. l ++ w.Data q d 0 ∷ []) i.words;
        read = i.read ∙ f.1 o.place o.name o.arguments i.others;
      }

  -- The words once the innermost type is closed.
  closed_words : (st : TypeState) (ts : List Token) (i : InType at all base st ts) → slice_set st.words st.here.place (w.Data st.here.span st.here.name st.here.arguments)
      ≡ unclosed base i.others ++ words_of (DataAt i.innermost.place i.innermost.name (all_types i.innermost.arguments))
  closed_words st ts i =
      let o = i.innermost in
      let front = unclosed base i.others in
      let d = w.Data st.here.span st.here.name st.here.arguments in
      let same : d ≡ w.Data o.place o.name (count_written (all_types o.arguments)) = let counts = i.here.count ∙ sym (count_is o.arguments) in (λ k. w.Data (i.here.span k) (i.here.name k) (counts k)) in
      ap (λ l. slice_set l st.here.place d) i.words
      ∙ ap (λ n. slice_set (front ++ (w.Data o.place o.name 0 ∷ words_in (all_types o.arguments))) n d) i.here.place
      ∙ set_middle front (words_in (all_types o.arguments)) (w.Data o.place o.name 0) d
      ∙ ap (λ x. front ++ (x ∷ words_in (all_types o.arguments))) same

  some_arguments : (xs : List WrittenType) → (length xs ≡ 0 → ⊥) → (x : WrittenType) × (more : List WrittenType) × (xs ≡ x ∷ more)
  some_arguments [] ne = absurd (ne refl)
  some_arguments (x ∷ xs) ne = (x, xs, refl)

  -- Reading goes on so, behind the closing parenthesis.
  closes_whole : (p : Span) (k : Ident) (xs : List WrittenType) (rest : List Token) → (length xs ≡ 0 → ⊥) → inside at p k xs [] (t.Sign s.Close ∷ rest) ≡ done (DataAt p k (all_types xs)) rest
  closes_whole p k [] rest ne = absurd (ne refl)
  closes_whole p k (x ∷ xs) rest ne = refl

  closes_one : (p : Span) (k : Ident) (xs : List WrittenType) (o : Opened) (os : List Opened) (rest : List Token) → (length xs ≡ 0 → ⊥)
      → inside at p k xs (o ∷ os) (t.Sign s.Close ∷ rest) ≡ inside at o.place o.name (o.arguments ++ DataAt p k (all_types xs) ∷ []) os rest
  closes_one p k [] o os rest ne = absurd (ne refl)
  closes_one p k (x ∷ xs) o os rest ne = refl

  closes_none : (p : Span) (k : Ident) (xs : List WrittenType) (os : List Opened) (rest : List Token) → length xs ≡ 0 → inside at p k xs os (t.Sign s.Close ∷ rest) ≡ failed (At (suc (length rest)))
  closes_none p k [] os rest e = refl
  closes_none p k (x ∷ xs) os rest e = absurd (omega (arith, e))

  pub close_fails : (st : TypeState) (ts rest : List Token) (left : ℕ) → ts ≡ t.Sign s.Close ∷ rest → InType at all base st ts → st.here.arguments ≡ 0 → length ts ≡ left → all ≡ failed (At left)
  close_fails st ts rest left e i none len =
      let o = i.innermost in
      i.read ∙ ap (inside at o.place o.name o.arguments i.others) e ∙ closes_none o.place o.name o.arguments i.others rest (sym i.here.count ∙ none) ∙ ap (λ (n : ℕ). failed (At n)) (sym (ap length e) ∙ len)

  whole_from : (st : TypeState) (ts rest : List Token) (tys : List OpenType) (os : List Opened) (i : InType at all base st ts) → ts ≡ t.Sign s.Close ∷ rest → (st.here.arguments ≡ 0 → ⊥) → tys ≡ [] → AreKept base tys os → os ≡ i.others
      → ReadsWords all base (slice_set st.words st.here.place (w.Data st.here.span st.here.name st.here.arguments)) rest
  whole_from st ts rest [] [] i e some none h same =
      let o = i.innermost in
      record {
        ty = DataAt o.place o.name (all_types o.arguments);
        words = closed_words st ts i ∙ ap (λ (l : List Opened). unclosed base l ++ words_of (DataAt o.place o.name (all_types o.arguments))) (sym same);
        is_read =
            i.read ∙ ap (inside at o.place o.name o.arguments i.others) e ∙ ap (λ (l : List Opened). inside at o.place o.name o.arguments l (t.Sign s.Close ∷ rest)) (sym same)
            ∙ closes_whole o.place o.name o.arguments rest (λ z. some (i.here.count ∙ z));
      }
  whole_from st ts rest [] (o ∷ os) i e some none h same = absurd h
  whole_from st ts rest (ty ∷ tys) os i e some none h same = absurd cc

  pub close_whole : (st : TypeState) (ts rest : List Token) → ts ≡ t.Sign s.Close ∷ rest → InType at all base st ts → (st.here.arguments ≡ 0 → ⊥) → st.outer ≡ [] → ReadsWords all base (slice_set st.words st.here.place (w.Data st.here.span st.here.name st.here.arguments)) rest
  close_whole st ts rest e i some none = whole_from st ts rest st.outer i.others i e some none i.outer refl

  one_from : (st : TypeState) (ts rest : List Token) (tys : List OpenType) (os : List Opened) (above : OpenType) (left : List OpenType) (i : InType at all base st ts) → ts ≡ t.Sign s.Close ∷ rest → (st.here.arguments ≡ 0 → ⊥) → tys ≡ above ∷ left → AreKept base tys os → os ≡ i.others
      → InType at all base (record { words = slice_set st.words st.here.place (w.Data st.here.span st.here.name st.here.arguments); here = counted above; outer = left }) rest
  one_from st ts rest [] os above left i e some is h same = absurd cc
  one_from st ts rest (ty ∷ tys) [] above left i e some is h same = absurd h
  one_from st ts rest (ty ∷ tys) (q ∷ os) above left i e some is h same =
      let o = i.innermost in
      let d = DataAt o.place o.name (all_types o.arguments) in
      let first : ty ≡ above = cc in
      let others : tys ≡ left = cc in
      record {
        innermost = record { place = q.place; name = q.name; arguments = q.arguments ++ d ∷ [] };
        others = os;
        here = kept_more (unclosed base os) above q d (subst (λ (x : OpenType). IsKept (unclosed base os) x q) first h.0);
        outer = subst (λ (l : List OpenType). AreKept base l os) others h.1;
        words = closed_words st ts i ∙ ap (λ (l : List Opened). unclosed base l ++ words_of d) (sym same) ∙ argument_words (unclosed base os) (w.Data q.place q.name 0) q.arguments d;
        read =
            i.read ∙ ap (inside at o.place o.name o.arguments i.others) e ∙ ap (λ (l : List Opened). inside at o.place o.name o.arguments l (t.Sign s.Close ∷ rest)) (sym same)
            ∙ closes_one o.place o.name o.arguments q os rest (λ z. some (i.here.count ∙ z));
      }

  pub close_one : (st : TypeState) (ts rest : List Token) (above : OpenType) (left : List OpenType) → ts ≡ t.Sign s.Close ∷ rest → InType at all base st ts → (st.here.arguments ≡ 0 → ⊥) → st.outer ≡ above ∷ left
      → InType at all base (record { words = slice_set st.words st.here.place (w.Data st.here.span st.here.name st.here.arguments); here = counted above; outer = left }) rest
  close_one st ts rest above left e i some is = one_from st ts rest st.outer i.others above left i e some is i.outer refl

  -- A fault inside is one of all.
  pub fails_inside : (st : TypeState) (ts : List Token) (e : Stop) → FailsHere at ts e → InType at all base st ts → Fails e all
  fails_inside st ts e f i = let o = i.innermost in subst (λ (r : Read WrittenType). Fails e r) (sym i.read) (f.within o.place o.name o.arguments i.others)

-- ---- what the calls answer

module _ (at : Places) (all : Read WrittenType) (base : List Word) (ts rest : List Token) where
  pub take_word : (r : Result Bool Stop) (old new : TypeState) (x : Word) → IfOk r (λ closed. (closed ≡ false) × (new ≡ record { words = old.words ++ x ∷ []; here = counted old.here; outer = old.outer })) → Follows at ts (next.Word x) rest → InType at all base old ts
      → IfOk r (λ closed. AfterToken closed at all base new rest)
  take_word (Ok b) old new x h f i =
      subst (λ (v : Bool). AfterToken v at all base new rest) (sym h.0) (subst (λ (s : TypeState). InType at all base s rest) (sym h.1) (word_goes at all base old ts rest x f i))
  take_word (Err e) old new x h f i = tt

  pub take_open : (r : Result Bool Stop) (old new : TypeState) (q : Span) (d : Ident) → IfOk r (λ closed. (closed ≡ false) × (new ≡ record { words = old.words ++ w.Data q d 0 ∷ []; here = open_type old.words q d; outer = old.here ∷ old.outer }))
      → Follows at ts (next.Open q d) rest → InType at all base old ts → IfOk r (λ closed. AfterToken closed at all base new rest)
  take_open (Ok b) old new q d h f i =
      subst (λ (v : Bool). AfterToken v at all base new rest) (sym h.0) (subst (λ (s : TypeState). InType at all base s rest) (sym h.1) (open_goes at all base old ts rest q d f i))
  take_open (Err e) old new q d h f i = tt

pub memory_fails : (all : Read WrittenType) (r : Result Bool Stop) → IfErr r (λ e. e ≡ stop.Memory) → IfErr r (λ e. Fails e all)
memory_fails all (Ok b) h = tt
memory_fails all (Err e) h = subst (λ (x : Stop). Fails x all) (sym h) tt

-- Reading goes on while the outermost type is open.
pub still_open : (at : Places) (all : Read WrittenType) (base : List Word) (closed : Bool) (s : TypeState) (ts : List Token) → closed ≡ false → AfterToken closed at all base s ts → InType at all base s ts
still_open at all base closed s ts e h = subst (λ (v : Bool). AfterToken v at all base s ts) e h

pub all_closed : (at : Places) (all : Read WrittenType) (base : List Word) (closed : Bool) (s : TypeState) (ts : List Token) → closed ≡ true → AfterToken closed at all base s ts → ReadsWords all base s.words ts
all_closed at all base closed s ts e h = subst (λ (v : Bool). AfterToken v at all base s ts) e h

below_more : (n m : ℕ) (tys : List OpenType) → n ≤ m → AllByRecursion (IsPlaceBelow n) tys → AllByRecursion (IsPlaceBelow m) tys
below_more n m [] le h = tt
below_more n m (ty ∷ tys) le h = (let l = h.0 in omega arith, below_more n m tys le h.1)

-- ---- what stands next

follows_by : (at : Places) (ts us rest : List Token) (x y : Word) → ts ≡ us → x ≡ y → Follows at us (next.Word x) rest → Follows at ts (next.Word y) rest
follows_by at ts us rest x y e f h = subst (λ (l : List Token). Follows at l (next.Word y) rest) (sym e) (subst (λ (v : Word). Follows at us (next.Word v) rest) f h)

pub follows_data : (at : Places) (k : Name) (ts rest : List Token) (p : Span) (x : Ident) → ts ≡ t.Constructor k ∷ rest → p ≡ at (length ts) → x ≡ record { name = k; span = at (length ts) } → Follows at ts (next.Word (w.Data p x 0)) rest
follows_data at k ts rest p x e ep ex =
    let span : at (suc (length rest)) ≡ p = ap (λ (l : List Token). at (length l)) (sym e) ∙ sym ep in
    let name : named at k rest ≡ x = (λ i. record { name = k; span = at (length (sym e i)) }) ∙ sym ex in
    follows_by at ts (t.Constructor k ∷ rest) rest (w.Data (before at rest) (named at k rest) 0) (w.Data p x 0) e (λ i. w.Data (span i) (name i) 0)
    (DataAt (before at rest) (named at k rest) NoType, refl, refl, λ q d xs os. refl)

pub follows_variable : (at : Places) (k : Name) (ts rest : List Token) (x : Ident) → ts ≡ t.Variable k ∷ rest → x ≡ record { name = k; span = at (length ts) } → Follows at ts (next.Word (w.Variable x)) rest
follows_variable at k ts rest x e ex =
    let name : named at k rest ≡ x = (λ i. record { name = k; span = at (length (sym e i)) }) ∙ sym ex in
    follows_by at ts (t.Variable k ∷ rest) rest (w.Variable (named at k rest)) (w.Variable x) e (λ i. w.Variable (name i)) (VariableAt (named at k rest), refl, refl, λ q d xs os. refl)

pub follows_whole : (at : Places) (ts rest : List Token) (p : Span) → ts ≡ t.Sign s.Int ∷ rest → p ≡ at (length ts) → Follows at ts (next.Word (w.Whole p)) rest
follows_whole at ts rest p e ep =
    let span : at (suc (length rest)) ≡ p = ap (λ (l : List Token). at (length l)) (sym e) ∙ sym ep in
    follows_by at ts (t.Sign s.Int ∷ rest) rest (w.Whole (before at rest)) (w.Whole p) e (λ i. w.Whole (span i)) (WholeAt (before at rest), refl, refl, λ q d xs os. refl)

pub follows_truth : (at : Places) (ts rest : List Token) (p : Span) → ts ≡ t.Sign s.Bool ∷ rest → p ≡ at (length ts) → Follows at ts (next.Word (w.Truth p)) rest
follows_truth at ts rest p e ep =
    let span : at (suc (length rest)) ≡ p = ap (λ (l : List Token). at (length l)) (sym e) ∙ sym ep in
    follows_by at ts (t.Sign s.Bool ∷ rest) rest (w.Truth (before at rest)) (w.Truth p) e (λ i. w.Truth (span i)) (TruthAt (before at rest), refl, refl, λ q d xs os. refl)

-- ---- runs of the arena

pub type_read : (read : Read WrittenType) (rest : List Token) (base words all : List Word) (run : Run) → base ≡ [] → ReadsWords read base words rest → run_words all run ≡ words → read ≡ done (type_in all run) rest
type_read read rest base words all run none r e =
    r.is_read ∙ ap (λ (a : WrittenType). done a rest) (sym (ap (λ ws. first_type (stack_of ws)) (e ∙ r.words ∙ ap (λ l. l ++ words_of r.ty) none) ∙ read_one r.ty))

pub type_kept : (read : Read WrittenType) (rest : List Token) (base words all : List Word) (run : Run) → base ≡ [] → ReadsWords read base words rest → run_words all run ≡ words → IsRunIn all run → IsTypeRun all run
type_kept read rest base words all run none r e i = (i, r.ty, e ∙ r.words ∙ ap (λ l. l ++ words_of r.ty) none)

-- A declared type without arguments.
pub declared_kept : (all : List Word) (run : Run) (x : Ident) → run_words all run ≡ w.Data x.span x 0 ∷ [] → IsRunIn all run → IsTypeRun all run
declared_kept all run x e i = (i, DataAt x.span x NoType, e)

pub declared_read : (all : List Word) (run : Run) (x : Ident) → run_words all run ≡ w.Data x.span x 0 ∷ [] → type_in all run ≡ DataAt x.span x NoType
declared_read all run x e = ap (λ ws. first_type (stack_of ws)) e ∙ read_one (DataAt x.span x NoType)

pub one_read : (at : Places) (ts rest : List Token) (base words all : List Word) (run : Run) → base ≡ [] → ReadsWords (type_at at ts) base words rest → run_words all run ≡ words → type_at at ts ≡ done (type_in all run) rest
one_read at ts rest base words all run none r e = type_read (type_at at ts) rest base words all run none r e

pub types_read : (at : Places) (ts rest : List Token) (base words all : List Word) (run : Run) → base ≡ [] → ReadsAllWords (many starts_type (type_at at) ts) base words rest → run_words all run ≡ words → many starts_type (type_at at) ts ≡ done (stack_of (run_words all run)) rest
types_read at ts rest base words all run none r e =
    r.is_read ∙ ap (λ (xs : List WrittenType). done xs rest) (sym (ap stack_of (e ∙ r.words ∙ ap (λ l. l ++ words_in (all_types r.types)) none) ∙ read_list r.types))

-- The words of one type and of more.
both_words : (ty : WrittenType) (types : List WrittenType) (base first words : List Word) → base ≡ [] → first ≡ base ++ words_of ty → words ≡ first ++ words_in (all_types types) → words ≡ words_in (all_types (ty ∷ types))
both_words ty types base first words none e f = f ∙ ap (λ l. l ++ words_in (all_types types)) (e ∙ ap (λ l. l ++ words_of ty) none)

pub bracket_read : (at : Places) (ts r1 r2 r3 : List Token) (base first words all : List Word) (run : Run) → base ≡ [] → ReadsWords (type_at at ts) base first r1 → ReadsAllWords (many starts_type (type_at at) r1) first words r2 → want s.CloseBracket r2 ≡ done (tt {0}) r3 → run_words all run ≡ words
    → bracket_at at ts ≡ done (types_in all run) r3
unfolding bracket_at
bracket_read at ts r1 r2 r3 base first words all run none a b c e =
    let same : types_in all run ≡ all_types (a.ty ∷ b.types) = ap (λ ws. all_types (stack_of ws)) (e ∙ both_words a.ty b.types base first words none a.words b.words) ∙ read_all (all_types (a.ty ∷ b.types)) in
    rw (a.is_read, b.is_read, c) (ap (λ (xs : WrittenTypes). done xs r3) (sym same))

pub bracket_kept : (at : Places) (ts r1 r2 : List Token) (base first words all : List Word) (run : Run) → base ≡ [] → ReadsWords (type_at at ts) base first r1 → ReadsAllWords (many starts_type (type_at at) r1) first words r2 → run_words all run ≡ words → IsRunIn all run → IsTypesRun all run
bracket_kept at ts r1 r2 base first words all run none a b e i = (i, all_types (a.ty ∷ b.types), e ∙ both_words a.ty b.types base first words none a.words b.words)

pub then_fails : {A B : Type 0} (r : Read A) (f : A → Reader B) (e : Stop) → Fails e r → Fails e (then_at r f)
then_fails r f stop.Memory h = tt
then_fails r f (stop.At k) h = ap (λ x. then_at x f) h
then_fails r f (stop.Nested k) h = ap (λ x. then_at x f) h

pub bracket_fails_first : (at : Places) (ts : List Token) (e : Stop) → Fails e (type_at at ts) → Fails e (bracket_at at ts)
unfolding bracket_at
bracket_fails_first at ts e f = then_fails (type_at at ts) (λ x ts. then_at (many starts_type (type_at at) ts) (λ xs ts. then_at (want s.CloseBracket ts) (λ _ ts. Ok (all_types (x ∷ xs), ts)))) e f

pub bracket_fails_more : (at : Places) (ts r1 : List Token) (base first : List Word) (e : Stop) → ReadsWords (type_at at ts) base first r1 → Fails e (many starts_type (type_at at) r1) → Fails e (bracket_at at ts)
unfolding bracket_at
bracket_fails_more at ts r1 base first e a f =
    subst (λ (r : Read WrittenTypes). Fails e r) (sym (ap (λ (r : Read WrittenType). then_at r (λ x ts. then_at (many starts_type (type_at at) ts) (λ xs ts. then_at (want s.CloseBracket ts) (λ _ ts. Ok (all_types (x ∷ xs), ts))))) a.is_read))
    (then_fails (many starts_type (type_at at) r1) (λ xs ts. then_at (want s.CloseBracket ts) (λ _ ts. Ok (all_types (a.ty ∷ xs), ts))) e f)

pub bracket_fails_last : (at : Places) (ts r1 r2 : List Token) (base first words : List Word) (e : Stop) → ReadsWords (type_at at ts) base first r1 → ReadsAllWords (many starts_type (type_at at) r1) first words r2 → Fails e (want s.CloseBracket r2) → Fails e (bracket_at at ts)
unfolding bracket_at
bracket_fails_last at ts r1 r2 base first words e a b f =
    subst (λ (r : Read WrittenTypes). Fails e r)
    (sym (ap (λ (r : Read WrittenType). then_at r (λ x ts. then_at (many starts_type (type_at at) ts) (λ xs ts. then_at (want s.CloseBracket ts) (λ _ ts. Ok (all_types (x ∷ xs), ts))))) a.is_read
    ∙ ap (λ (r : Read (List WrittenType)). then_at r (λ xs ts. then_at (want s.CloseBracket ts) (λ _ ts. Ok (all_types (a.ty ∷ xs), ts)))) b.is_read))
    (then_fails (want s.CloseBracket r2) (λ _ ts. Ok (all_types (a.ty ∷ b.types), ts)) e f)

pub set_length : (xs : List Word) (i : ℕ) (x : Word) → length (slice_set xs i x) ≡ length xs
set_length [] zero x = refl
set_length [] (suc i) x = refl
set_length (y ∷ xs) zero x = refl
set_length (y ∷ xs) (suc i) x = ap suc (set_length xs i x)

-- Closing keeps the words of all that are open there.
pub there_closed : (words : List Word) (i : ℕ) (x : Word) (here above : OpenType) (outer left : List OpenType) → outer ≡ left → AreThere (record { words = words; here = here; outer = outer }) → AreThere (record { words = slice_set words i x; here = here; outer = left })
there_closed words i x here above outer left e h =
    let len = set_length words i x in
    record { here = (let l = h.here in omega arith); outer = subst (λ (l : List OpenType). AllByRecursion (IsPlaceBelow (length (slice_set words i x))) l) e (below_more (length words) (length (slice_set words i x)) outer (omega arith) h.outer) }

-- ---- places

pub there_more : (words more : List Word) (here : OpenType) (outer : List OpenType) → AreThere (record { words = words; here = here; outer = outer }) → AreThere (record { words = words ++ more; here = here; outer = outer })
there_more words more here outer h =
    let len = length-append words more in
    record { here = (let l = h.here in omega arith); outer = below_more (length words) (length (words ++ more)) outer (omega arith) h.outer }

pub there_opens : (words : List Word) (here : OpenType) (outer : List OpenType) (p : Span) (k : Ident) (x : Word) → AreThere (record { words = words; here = here; outer = outer })
    → AreThere (record { words = words ++ x ∷ []; here = open_type words p k; outer = here ∷ outer })
there_opens words here outer p k x h =
    let len = length-append words (x ∷ []) in
    let more = there_more words (x ∷ []) here outer h in
    record { here = omega arith; outer = (more.here, more.outer) }

pub there_word : (words : List Word) (x : Word) (here more : OpenType) (outer : List OpenType) → more ≡ counted here → AreThere (record { words = words; here = here; outer = outer }) → AreThere (record { words = words ++ x ∷ []; here = more; outer = outer })
there_word words x here more outer e h =
    let place : more.place ≡ here.place = ap (λ (o : OpenType). o.place) e in
    let longer = there_more words (x ∷ []) here outer h in
    record { here = (let l = longer.here in omega arith); outer = longer.outer }

pub there_kept : (words : List Word) (x : Word) (here : OpenType) (outer left : List OpenType) → left ≡ outer → AreThere (record { words = words; here = here; outer = outer }) → AreThere (record { words = words ++ x ∷ []; here = here; outer = left })
there_kept words x here outer left e h =
    let longer = there_more words (x ∷ []) here outer h in
    record { here = longer.here; outer = subst (λ (l : List OpenType). AllByRecursion (IsPlaceBelow (length (words ++ x ∷ []))) l) (sym e) longer.outer }

pub there_within : (words : List Word) (x : Word) (here : OpenType) (outer more : List OpenType) (p : Span) (k : Ident) → more ≡ here ∷ outer → AreThere (record { words = words; here = here; outer = outer })
    → AreThere (record { words = words ++ x ∷ []; here = open_type words p k; outer = more })
there_within words x here outer more p k e h =
    let opened = there_opens words here outer p k x h in
    record { here = opened.here; outer = subst (λ (l : List OpenType). AllByRecursion (IsPlaceBelow (length (words ++ x ∷ []))) l) (sym e) opened.outer }

pub there_pops : (words : List Word) (here above : OpenType) (outer left : List OpenType) → outer ≡ above ∷ left → AreThere (record { words = words; here = here; outer = outer }) → AreThere (record { words = words; here = above; outer = left })
there_pops words here above outer left e h = let both = subst (λ (l : List OpenType). AllByRecursion (IsPlaceBelow (length words)) l) e h.outer in record { here = both.0; outer = both.1 }

-- ---- types one after another

-- These types were read, and their words stand behind the others.
pub record TypesSoFar (all : Read (List WrittenType)) (at : Places) (base words : List Word) (rest : List Token) : Type 0 where
  pub types : List WrittenType
  pub words_are : words ≡ base ++ words_in (all_types types)
  pub read : SoFar all starts_type (type_at at) rest types

pub types_start : (at : Places) (base : List Word) (tokens : List Token) → TypesSoFar (many starts_type (type_at at) tokens) at base base tokens
types_start at base tokens = record { types = []; words_are = sym (append-nil base); read = none_yet starts_type (type_at at) tokens }

pub types_more : (all : Read (List WrittenType)) (at : Places) (base words more : List Word) (rest after : List Token) → TypesSoFar all at base words rest → next_is starts_type rest ≡ true → ReadsWords (type_at at rest) words more after → TypesSoFar all at base more after
types_more all at base words more rest after so e r = record {
  types = so.types ++ r.ty ∷ [];
  words_are = r.words ∙ ap (λ l. l ++ words_of r.ty) so.words_are ∙ append_assoc base (words_in (all_types so.types)) (words_of r.ty) ∙ ap (λ l. base ++ l) (sym (words_more so.types r.ty));
  read = one_more all starts_type (type_at at) (type_shrinks at) rest after so.types r.ty so.read e r.is_read;
}

pub types_done : (all : Read (List WrittenType)) (at : Places) (base words : List Word) (rest : List Token) → TypesSoFar all at base words rest → next_is starts_type rest ≡ false → ReadsAllWords all base words rest
types_done all at base words rest so e = record { types = so.types; words = so.words_are; is_read = all_read all starts_type (type_at at) rest so.types so.read e }

pub types_fail : (all : Read (List WrittenType)) (at : Places) (base words : List Word) (rest : List Token) (e : Stop) → TypesSoFar all at base words rest → next_is starts_type rest ≡ true → Fails e (type_at at rest) → Fails e all
types_fail all at base words rest e so b f = one_fails all starts_type (type_at at) (type_shrinks at) rest so.types e so.read b f

pub type_shorter : (at : Places) (base words : List Word) (rest after : List Token) → ReadsWords (type_at at rest) base words after → length after < length rest
type_shorter at base words rest after r = shorter (type_at at) (type_shrinks at) rest after r.ty r.is_read
