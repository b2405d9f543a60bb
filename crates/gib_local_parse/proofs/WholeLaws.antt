-- What else is asked of the readers, from their laws.
use Rattle.std.proofs.Common.{◌≡◌, ℕ, zero, suc, ◌+◌, ◌-◌, ◌<◌, ◌≤◌, List, [], ◌∷◌, ◌++◌, length, take, drop, Ok, Err, refl, sym, ap, ◌∙◌, subst, arith}
use Rattle.std.specs.List.{AllByRecursion}
use Rattle.std.proofs.lemmas.List.{take-append-drop}
use Rattle.gib_base.specs.declared.token.Sign.TheVariants as s
use Rattle.gib_base.specs.declared.token.Token.{Token}
use Rattle.gib_syntax.specs.Fine.{HasConstructor}
use Rattle.gib_syntax.specs.Tree.{DataTree}
use Rattle.gib_syntax.specs.Spelling.{Places}
use Rattle.gib_reads.specs.Readers.{Fault, At, Nested, left_of, Read, Reader, con_at, is_sign, many}
use Rattle.gib_reads.proofs.Tools.{done, failed}
use Rattle.gib_reads.proofs.Many.{Shrinks}
use Rattle.gib_reads.proofs.Local.{Kind, Refused, Deep, fault, fail_ok, LocalAt}
use Rattle.gib_reads.proofs.Past.{Past, Further, read_stays, refused_stays, goes_further}
use Rattle.gib_reads.proofs.Laws.{Told, con_reads, many_reads, alone, shrinks, agrees_begin}
use Rattle.gib_reads.proofs.Cuts.{moved, moved_is, Splits, split_at, front_of, following, fewer_tokens, neither_below}
use Rattle.gib_local_parse.specs.Tree.{Line, LocalTree}
use Rattle.gib_local_parse.specs.Grammar.{type_at, operand_at, next_arm_at, parse}
use Rattle.gib_local_parse.specs.Texts.{spell_text, alternative_at, data_at, parameter_at, body_at, function_at, main_at, text_at, whole_text, whole_in}
use Rattle.gib_local_parse.specs.PlacedTexts.{TextIn, TextAt}
use Rattle.gib_local_parse.specs.Refused.{BlamesIn, Blames, Begun, IsFirstBlamed, left_behind}
use Rattle.gib_local_parse.proofs.Asked.{text_asked}
use Rattle.gib_local_parse.proofs.Anywhere.{text_again}
use Rattle.gib_local_parse.proofs.TextsRead.{text_back_in}
use Rattle.gib_local_parse.proofs.PhraseLaws.{type_reads, operand_reads}
use Rattle.gib_local_parse.proofs.TermLaws.{next_arm_reads}
use Rattle.gib_local_parse.proofs.LevelLaws.{parse_reads, level, level_reads}
use Rattle.gib_local_parse.proofs.TextLaws.{whole_form, alternative_reads, data_reads, all_fine, parameter_reads, function_reads, whole_reads}

-- ---- tokens are taken

module _ (at : Places) where
  pub parse_shrinks : (n : ℕ) → Shrinks (parse at n)
  parse_shrinks n ts = shrinks (level_reads (alone at) n [] ts).told

  pub next_shrinks : (n : ℕ) → Shrinks (next_arm_at at (parse at n))
  next_shrinks n ts = shrinks (next_arm_reads (level_reads (alone at) n) [] ts).told

  pub operand_shrinks : Shrinks (operand_at at)
  operand_shrinks ts = shrinks (operand_reads {w = level (alone at) 0} [] ts).told

  pub type_shrinks : Shrinks (type_at at)
  type_shrinks ts = shrinks (type_reads {w = level (alone at) 0} [] ts).told

  pub con_shrinks : Shrinks (con_at at)
  con_shrinks ts = shrinks (con_reads {w = level (alone at) 0} [] ts).told

  pub alternative_shrinks : Shrinks (alternative_at at)
  alternative_shrinks ts = shrinks (alternative_reads {w = level (alone at) 0} [] ts).told

  pub data_shrinks : Shrinks (data_at at)
  data_shrinks ts = shrinks (data_reads {w = level (alone at) 0} [] ts).told

  pub parameter_shrinks : Shrinks (parameter_at at)
  parameter_shrinks ts = shrinks (parameter_reads {w = level (alone at) 0} [] ts).told

  pub function_shrinks : Shrinks (function_at at)
  unfolding function_at body_at
  function_shrinks ts = shrinks (function_reads (level_reads (alone at) 200) [] ts).told

-- ---- what is read

-- Each data declaration that is read has a constructor.
pub have_constructors : (at : Places) (ts rest : List Token) (ds : List DataTree) → many (is_sign s.Data) (data_at at) ts ≡ done ds rest
    → AllByRecursion HasConstructor ds
have_constructors at ts rest ds e =
    all_fine HasConstructor ds ((many_reads {w = level (alone at) 0} (is_sign s.Data) (λ at sub. data_at at) data_reads [] ts).told.taken ds rest e).fine

told_whole : (n : ℕ) (at : Places) (ws : List Token) → Told 0 (whole_form at n) [] (λ l. l) (whole_in n at) ws
unfolding whole_in
told_whole n at ws = (whole_reads (level_reads (alone at) n) ws).told

whole_is : (at : Places) (ws : List Token) → whole_text at ws ≡ whole_in 200 at ws
unfolding whole_in whole_text text_at function_at main_at body_at
whole_is at ws = refl

-- What is read as a text is spelled so, and stands there; no token is left.
pub read_sound : (at : Places) (ts : List Token) (x : LocalTree) (rest : List Token) → whole_text at ts ≡ done x rest
    → (spell_text x [] ≡ ts) × TextAt at x [] × (rest ≡ [])
read_sound at ts x rest e =
    let o = (told_whole 200 at ts).taken x rest (sym (whole_is at ts) ∙ e) in
    let none : rest ≡ [] = o.good.1 in
    (sym (o.was ∙ o.spelled rest ∙ ap (spell_text x) none), subst (TextAt at x) none o.good.0, none)

-- ---- more levels

parse_past : (at : Places) (n : ℕ) (ws : List Token) → Past (parse at n) (parse at (suc n)) ws
parse_past at n ws = (parse_reads (alone at) n [] ws).past

pub more_read : (at : Places) (n m : ℕ) (ts : List Token) (u : Line) (rest : List Token) → n < m → parse at n ts ≡ done u rest → parse at m ts ≡ done u rest
more_read at n m ts u rest lt e = read_stays (parse at) (parse_past at) ts n m u rest (omega arith) e

pub more_refused : (at : Places) (n m : ℕ) (ts : List Token) (left : ℕ) → n < m → parse at n ts ≡ failed (At left) → parse at m ts ≡ failed (At left)
more_refused at n m ts left lt e = refused_stays (parse at) (parse_past at) ts n m left (omega arith) e

behind_further : {A : Type 0} (j : ℕ) (r q : Read A) → r ≡ q → Further j r → left_behind q < j
behind_further j r (Ok x) e h = h.ok x.0 x.1 e
behind_further j r (Err (At k)) e h = h.bad Refused k e
behind_further j r (Err (Nested k)) e h = h.bad Deep k e

pub more_nested : (at : Places) (n m : ℕ) (ts : List Token) (left : ℕ) → n < m → parse at n ts ≡ failed (Nested left) → left_behind (parse at m ts) < left
more_nested at n m ts left lt e = behind_further left (parse at m ts) (parse at m ts) refl (goes_further (parse at) (parse_past at) ts n m left lt e)

module _ (at : Places) where
  abbrev whole_at : ℕ → Reader LocalTree
  whole_at n = whole_in n at

  whole_past : (n : ℕ) (ws : List Token) → Past (whole_at n) (whole_at (suc n)) ws
  unfolding whole_in
  whole_past n ws = (whole_reads (parse_reads (alone at) n) ws).past

-- ---- what is refused

whole_local : (tok : Token) (xs ys : List Token) (at at' : Places) (shift : (k : ℕ) → at' (k + length ys) ≡ at (k + length xs)) (n : ℕ)
    (ws : List Token) → LocalAt tok xs ys at at' shift (whole_in n at) (whole_in n at') ws
unfolding whole_in
whole_local tok xs ys at at' shift n ws =
    (whole_reads (level_reads (record { tok = tok; after = xs; more = ys; here = at; there = at'; shift = shift }) n) ws).local

-- A text of no more levels than are read, wherever it stands: some text is read of its words.
is_read : (n m : ℕ) (at to : Places) (x : LocalTree) (ts : List Token) → m ≤ n → TextIn m to x [] → spell_text x [] ≡ ts
    → (y : LocalTree) × (whole_in n at ts ≡ done y [])
is_read n m at to x ts le h e =
    let y = text_again at m x [] (text_asked m to x [] h) in
    let back = read_stays (whole_at at) (whole_past at) (spell_text y.it []) m n y.it [] le (text_back_in m at y.it y.stands) in
    (y.it, ap (whole_in n at) (sym (y.same [] ∙ e)) ∙ back)

fault_here : (n m : ℕ) (at : Places) (c : Kind) (front : List Token) (tok : Token) (xs more : List Token) → m ≤ n
    → whole_in n at (front ++ tok ∷ xs) ≡ failed (fault c (suc (length xs))) → (to : Places) (x : LocalTree) → TextIn m to x []
    → spell_text x [] ≡ front ++ tok ∷ more → ⊥
fault_here n m at c front tok xs more le e to x h same =
    let at' = moved at xs more in
    let there = (whole_local tok xs more at at' (moved_is at xs more) n (front ++ tok ∷ xs)).bad_same (front ++ tok ∷ more)
    (record { front = front; here = refl; there = refl }) c e in
    let y = is_read n m at' to x (front ++ tok ∷ more) le h same in
    fail_ok (fault c (suc (length more))) y.0 [] (sym there ∙ y.1)

fault_split : (n m : ℕ) (at : Places) (c : Kind) (k : ℕ) (ts : List Token) → m ≤ n → whole_in n at ts ≡ failed (fault c (suc k)) → Splits ts k
    → BlamesIn m ts (suc k)
fault_split n m at c k ts le e r to x more h same =
    let front = r.0 in let tok = r.1 in let xs = r.2 in
    let here : whole_in n at (front ++ tok ∷ xs) ≡ failed (fault c (suc (length xs))) =
    ap (whole_in n at) (sym r.3) ∙ e ∙ ap (λ (n : ℕ). failed (fault c (suc n))) (sym r.4) in
    let cut : take (length ts - k) ts ++ more ≡ front ++ tok ∷ more =
    ap (λ (v : List Token). take (length v - k) v ++ more) r.3
    ∙ ap (λ (n : ℕ). take (length (front ++ tok ∷ xs) - n) (front ++ tok ∷ xs) ++ more) (sym r.4) ∙ front_of front tok xs more in
    fault_here n m at c front tok xs more le here to x h (same ∙ cut)

blames : (n m : ℕ) (at : Places) (c : Kind) (k : ℕ) (ts : List Token) → m ≤ n → whole_in n at ts ≡ failed (fault c k) → BlamesIn m ts k
blames n m at c zero ts le e = λ to x h same. let y = is_read n m at to x ts le h same in fail_ok (fault c 0) y.0 [] (sym e ∙ y.1)
blames n m at c (suc k) ts le e =
    let text = alone at in
    let within = (whole_local text.tok [] [] at at text.shift n ts).bad_within c (suc k) e in
    fault_split n m at c k ts le e (split_at ts k (omega arith))

-- What is refused is no text's, whatever follows.
pub blamed : (at : Places) (ts : List Token) (f : Fault) → whole_text at ts ≡ failed f → Blames ts (left_of f)
blamed at ts (At k) e = blames 200 200 at Refused k ts (omega arith) (sym (whole_is at ts) ∙ e)
blamed at ts (Nested k) e = blames 200 200 at Deep k ts (omega arith) (sym (whole_is at ts) ∙ e)

-- ---- the first token that is refused

begun : (n : ℕ) (at : Places) (ts : List Token) (j : ℕ) → whole_in n at ts ≡ failed (At j) → Begun ts j
begun n at ts j e =
    let o = (told_whole n at ts).begins j e in
    let cut = agrees_begin j ts o.0 o.1 in
    let y = text_again at (suc n) o.2.0 [] o.2.1 in
    record { levels = suc n; at = at; tree = y.it; more = cut.0; placed = y.stands; spelled = y.same [] ∙ sym o.2.2 ∙ cut.1 }

-- A token that is refused is the first that is, in however many levels.
pub first_blamed : (at : Places) (ts : List Token) (left : ℕ) → whole_text at ts ≡ failed (At left) → IsFirstBlamed ts left
first_blamed at ts left e =
    let here = sym (whole_is at ts) ∙ e in
    record {
      blamed = λ m. blames (m + 200) m at Refused left ts (omega arith)
          (refused_stays (whole_at at) (whole_past at) ts 200 (m + 200) left (omega arith) here);
      first = begun 200 at ts left here;
    }

blamed_earlier : (ts : List Token) (j k : ℕ) → j < k → IsFirstBlamed ts j → IsFirstBlamed ts k → ⊥
blamed_earlier ts j zero lt h i = omega arith
blamed_earlier ts j (suc k) lt h i =
    let b = h.first in
    i.blamed b.levels b.at b.tree (following ts j k b.more) b.placed (b.spelled ∙ sym (fewer_tokens ts j k (omega arith) b.more))

pub one_blamed : (ts : List Token) (j k : ℕ) → IsFirstBlamed ts j → IsFirstBlamed ts k → j ≡ k
one_blamed ts j k h i = neither_below j k (λ lt. blamed_earlier ts j k lt h i) (λ lt. blamed_earlier ts k j lt i h)

-- A text has none.
pub text_has_none : (n : ℕ) (at : Places) (x : LocalTree) (left : ℕ) → TextIn n at x [] → IsFirstBlamed (spell_text x []) left → ⊥
text_has_none n at x zero h i = i.blamed n at x h refl
text_has_none n at x (suc k) h i =
    let ts = spell_text x [] in
    i.blamed n at x (drop (length ts - k) ts) h (sym (take-append-drop (length ts - k) ts))
