-- The lines of a type's description, from its table.
use Rattle.std.proofs.Common.{◌≡◌, ℕ, zero, suc, ◌+◌, ◌<◌, ◌≤◌, Bool, true, false, List, [], ◌∷◌, ◌++◌, length, map, Option, Some, None, refl, sym, ap, ◌∙◌, arith, inl}
use Rattle.std.specs.Prelude.{codes, slice_get}
use Rattle.std.specs.Fmt.{decimal}
use Rattle.std.specs.List.{AllByRecursion}
use Rattle.gib_types.specs.declared.table.Ty.{Ty}
use Rattle.gib_types.specs.declared.table.Ty.TheVariants.{Whole, Truth, Tree}
use Rattle.gib_types.specs.Table.{Table, Row, IsTyBelow, fields_at, fields_of, first_at, count_at, numbers_from, constructors_of}
use Rattle.gib_types.proofs.Owners.{together, tag_back}
use Rattle.gib_value.specs.Text.{con_text}
use Rattle.gib_file.specs.Describing.{type_text, type_word, field_words, con_words, more_words, cons_words, data_line, data_lines}
use Rattle.gib_file.specs.Named.{IsName, AreNamed}
use Rattle.gib_file.specs.Told.{ToldCon, ToldType, told_con, told_type, told_types}
use Rattle.gib_file.proofs.SchemaText.{fields_text, con_line, more_text, cons_text, line_text, lines_text, AreTexts, IsCon, AreCons, IsLine, AreLines}

module _ (table : Table) (names : List (List ℕ)) where
  -- ---- their text is the description

  fields_are : (ts : List Ty) → field_words table names ts ≡ fields_text (map (type_word table names) ts)
  fields_are [] = refl
  fields_are (t ∷ ts) = ap (λ (l : List ℕ). 32 ∷ (type_word table names t ++ l)) (fields_are ts)

  con_is : (k : ℕ) → con_words table names k ≡ con_line (told_con table names k)
  con_is k = ap (λ (l : List ℕ). con_text table names k ++ 58 ∷ (decimal k ++ l)) (fields_are (fields_at table k))

  more_are : (ks : List ℕ) → more_words table names ks ≡ more_text (map (told_con table names) ks)
  more_are [] = refl
  more_are (k ∷ ks) = λ i. codes " | " ++ (con_is k i ++ more_are ks i)

  cons_are : (ks : List ℕ) → cons_words table names ks ≡ cons_text (map (told_con table names) ks)
  cons_are [] = refl
  cons_are (k ∷ ks) = λ i. con_is k i ++ more_are ks i

  line_is : (t : ℕ) → data_line table names t ≡ line_text (told_type table names t)
  line_is t = ap (λ (l : List ℕ). codes "data " ++ (type_text table names t ++ (codes " = " ++ (l ++ 10 ∷ [])))) (cons_are (constructors_of table t))

  pub lines_are : (t : ℕ) (ms : List Bool) → data_lines table names t ms ≡ lines_text (told_types table names t ms)
  lines_are t [] = refl
  lines_are t (true ∷ ms) = λ i. line_is t i ++ lines_are (suc t) ms i
  lines_are t (false ∷ ms) = lines_are (suc t) ms

  -- ---- they are lines of texts

  module _ (h : AreNamed table names) where
    pub word_is : (t : Ty) → IsTyBelow (length table.types) t → IsName (type_word table names t)
    word_is Whole lt = (refl, inl (refl, inl (refl, tt)))
    word_is Truth lt = (refl, inl (refl, inl (refl, inl (refl, tt))))
    word_is (Tree t) lt = (h.types t.0 lt).named

    words_are : (ts : List Ty) → AllByRecursion (IsTyBelow (length table.types)) ts → AreTexts (map (type_word table names) ts)
    words_are [] k = tt
    words_are (t ∷ ts) k = (word_is t k.0, words_are ts k.1)

    pub fields_below : (k : ℕ) → AllByRecursion (IsTyBelow (length table.types)) (fields_at table k)
    fields_below k = go (slice_get table.rows k) refl
      where
        go : (o : Option Row) → slice_get table.rows k ≡ o → AllByRecursion (IsTyBelow (length table.types)) (fields_of o)
        go None e = tt
        go (Some row) e = (h.declared.rows k row e).known

    con_ok : (k : ℕ) → k < length table.rows → IsCon (told_con table names k)
    con_ok k lt = record {
      named = h.constructors k lt;
      short = omega (arith, lt, h.declared.few);
      typed = words_are (fields_at table k) (fields_below k);
    }

    cons_ok : (k n : ℕ) → k + n ≤ length table.rows → AreCons (map (told_con table names) (numbers_from k n))
    cons_ok k zero le = tt
    cons_ok k (suc n) le = (con_ok k (omega (arith, le)), cons_ok (suc k) n (omega (arith, le)))

    -- the constructors of a type are rows
    rows_end : (t n : ℕ) → count_at table t ≡ n → AreCons (map (told_con table names) (numbers_from (first_at table t) n))
    rows_end t zero e = tt
    rows_end t (suc n) e =
        let last = first_at table t + n in
        let own = (together table t last h.declared).1 (omega arith, omega (arith, e)) in
        cons_ok (first_at table t) (suc n) (omega (arith, (tag_back table t last last own).1))

    line_ok : (t : ℕ) → t < length table.types → IsLine (told_type table names t)
    line_ok t lt = record { named = (h.types t lt).named; made = rows_end t (count_at table t) refl }

    pub lines_ok : (t : ℕ) (ms : List Bool) → t + length ms ≤ length table.types → AreLines (told_types table names t ms)
    lines_ok t [] le = tt
    lines_ok t (true ∷ ms) le = (line_ok t (omega (arith, le)), lines_ok (suc t) ms (omega (arith, le)))
    lines_ok t (false ∷ ms) le = lines_ok (suc t) ms (omega (arith, le))

  -- ---- members

  -- a line stands among lines
  abbrev pub IsAmong : ToldType → List ToldType → Type 0
  IsAmong l ls = (t : ℕ) × (slice_get ls t ≡ Some l)

  -- so does the line of each type that is marked
  pub marked_line : (t : ℕ) (ms : List Bool) (u : ℕ) → slice_get ms u ≡ Some true → IsAmong (told_type table names (t + u)) (told_types table names t ms)
  marked_line t [] u e = absurd cc
  marked_line t (true ∷ ms) zero e = (0, ap (λ (n : ℕ). Some (told_type table names n)) (let z : t ≡ t + 0 = omega arith in z))
  marked_line t (false ∷ ms) zero e = absurd (let no : ◌≡◌ {A = Option Bool} (Some false) (Some true) = e in cc)
  marked_line t (true ∷ ms) (suc u) e =
      let rest = marked_line (suc t) ms u e in
      (suc rest.0, rest.1 ∙ ap (λ (n : ℕ). Some (told_type table names n)) (let z : suc t + u ≡ t + suc u = omega arith in z))
  marked_line t (false ∷ ms) (suc u) e =
      let rest = marked_line (suc t) ms u e in
      (rest.0, rest.1 ∙ ap (λ (n : ℕ). Some (told_type table names n)) (let z : suc t + u ≡ t + suc u = omega arith in z))

  -- each line that stands there is that of a type that is marked
  pub record IsMarkedLine (t : ℕ) (ms : List Bool) (l : ToldType) : Type 0 where
    pub type : ℕ
    pub marked : slice_get ms type ≡ Some true
    pub is : l ≡ told_type table names (t + type)

  further : (t : ℕ) (m : Bool) (ms : List Bool) (l : ToldType) → IsMarkedLine (suc t) ms l → IsMarkedLine t (m ∷ ms) l
  further t m ms l h = record { type = suc h.type; marked = h.marked; is = h.is ∙ ap (told_type table names) (let z : suc t + h.type ≡ t + suc h.type = omega arith in z) }

  pub line_marked : (t : ℕ) (ms : List Bool) (l : ToldType) → IsAmong l (told_types table names t ms) → IsMarkedLine t ms l
  line_marked t [] l h = absurd (let no = h.1 in cc)
  line_marked t (true ∷ ms) l (zero, e) = record { type = 0; marked = refl; is = let same : told_type table names t ≡ l = cc in sym same ∙ ap (told_type table names) (let z : t ≡ t + 0 = omega arith in z) }
  line_marked t (true ∷ ms) l (suc u, e) = further t true ms l (line_marked (suc t) ms l (u, e))
  line_marked t (false ∷ ms) l h = further t false ms l (line_marked (suc t) ms l h)

  -- the constructors of a type have their lines there, and no other lines do
  pub con_among : (k n i : ℕ) → i < n → slice_get (map (told_con table names) (numbers_from k n)) i ≡ Some (told_con table names (k + i))
  con_among k zero i lt = absurd (omega (arith, lt))
  con_among k (suc n) zero lt = ap (λ (x : ℕ). Some (told_con table names x)) (let z : k ≡ k + 0 = omega arith in z)
  con_among k (suc n) (suc i) lt = con_among (suc k) n i (omega (arith, lt)) ∙ ap (λ (x : ℕ). Some (told_con table names x)) (let z : suc k + i ≡ k + suc i = omega arith in z)

  pub record IsNumbered (k n : ℕ) (c : ToldCon) : Type 0 where
    pub con : ℕ
    pub from : k ≤ con
    pub to : con < k + n
    pub is : c ≡ told_con table names con

  pub con_numbered : (k n i : ℕ) (c : ToldCon) → slice_get (map (told_con table names) (numbers_from k n)) i ≡ Some c → IsNumbered k n c
  con_numbered k zero i c e = absurd cc
  con_numbered k (suc n) zero c e = record { con = k; from = omega arith; to = omega arith; is = let same : told_con table names k ≡ c = cc in sym same }
  con_numbered k (suc n) (suc i) c e =
      let rest = con_numbered (suc k) n i c e in
      record { con = rest.con; from = omega (arith, rest.from); to = omega (arith, rest.to); is = rest.is }
