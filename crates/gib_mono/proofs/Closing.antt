-- The walk ends with copies of which each has all that it asks for.
use Rattle.std.proofs.Common.{◌≡◌, ◌≢◌, ℕ, zero, suc, ◌+◌, ◌≤◌, ◌<◌, Bool, true, false, ◌==◌, ◌&&◌, ◌||◌, if◌then◌else◌, List, [], ◌∷◌, ◌++◌, map, length, Option, Some, None, refl, sym, ap, ◌∙◌, subst, arith, append_assoc, ◌⊎◌, inl, inr, ⊎_elim}
use Rattle.std.specs.Prelude.{slice_get, nat_lt, Result, Ok, Err}
use Rattle.std.specs.List.{AllByRecursion}
use Rattle.std.proofs.lemmas.Option.{same_Some}
use Rattle.std.proofs.lemmas.Bool.{ltb-true, eqb-true, eq-eqb, or_parts, or_from, or_left, or_right, and_from, and_parts}
use Rattle.gib_base.specs.declared.Span.{Span}
use Rattle.gib_syntax.specs.Declarations.{number_of, place_of, next_place, AreDifferent}
use Rattle.gib_syntax.specs.Forms.{Form, Forms, WholeForm, TruthForm, VariableForm, DataForm, NoForm, MoreForms}
use Rattle.gib_syntax.specs.GenericTree.{GenericConstructorTree, GenericDataTree, GenericFunctionTree, GenericGlobals, generic_named, data_named}
use Rattle.gib_syntax.specs.GenericFine.{HasGenericConstructor}
use Rattle.gib_types.specs.SameForm.{same_forms}
use Rattle.gib_types.proofs.SameForms.{same_forms_are, same_forms_own}
use Rattle.gib_mono.specs.Walk.{Ask, Copy, DataOf, FunctionOf, data_asked, function_asked, asked, same_copy, is_found, constructors_in, functions_in, are_few, add_few, add_new, add_short, add_ask, with_found, add_asks, walk_one, walk, copy_asks}
use Rattle.gib_types.specs.Form.{has_long}
use Rattle.gib_mono.specs.Closed.{IsThere, AreAnswered, IsDeclared, AreApart, IsGood}

-- Types that are the same

pub parts_same : (x y : ℕ) (fs gs : Forms) → x ≡ y → fs ≡ gs → ((x == y) && same_forms fs gs) ≡ true
parts_same x y fs gs e h = and_from (x == y) (same_forms fs gs) (eq-eqb x y e) (subst (λ (us : Forms). same_forms fs us ≡ true) h (same_forms_own fs))

pub copy_turned : (b c : Copy) → same_copy b c ≡ true → same_copy c b ≡ true
copy_turned (DataOf d ts) (DataOf e us) h =
    let both = and_parts (number_of d.name == number_of e.name) (same_forms ts us) h in
    parts_same (number_of e.name) (number_of d.name) us ts (sym (eqb-true (number_of d.name) (number_of e.name) both.0)) (sym (same_forms_are ts us both.1))
copy_turned (DataOf d ts) (FunctionOf f us) h = h
copy_turned (FunctionOf f ts) (DataOf d us) h = h
copy_turned (FunctionOf f ts) (FunctionOf h us) k =
    let both = and_parts (number_of f.name == number_of h.name) (same_forms ts us) k in
    parts_same (number_of h.name) (number_of f.name) us ts (sym (eqb-true (number_of f.name) (number_of h.name) both.0)) (sym (same_forms_are ts us both.1))

copy_own : (c : Copy) → same_copy c c ≡ true
copy_own (DataOf d ts) = parts_same (number_of d.name) (number_of d.name) ts ts refl refl
copy_own (FunctionOf f ts) = parts_same (number_of f.name) (number_of f.name) ts ts refl refl

-- Lists

found_more : (found extra : List Copy) (c : Copy) → is_found found c ≡ true → is_found (found ++ extra) c ≡ true
found_more [] extra c h = absurd cc
found_more (b ∷ bs) extra c h = step (same_copy b c) (is_found bs c) (is_found (bs ++ extra) c) (found_more bs extra c) h where
  step : (x y z : Bool) → (y ≡ true → z ≡ true) → (x || y) ≡ true → (x || z) ≡ true
  step true y z k h = refl
  step false y z k h = k h

found_last : (found : List Copy) (c : Copy) → is_found (found ++ c ∷ []) c ≡ true
found_last [] c = or_left (same_copy c c) false (copy_own c)
found_last (b ∷ bs) c = or_right (same_copy b c) (is_found (bs ++ c ∷ []) c) (found_last bs c)

there_more : (found extra : List Copy) (o : Option Copy) → IsThere found o → IsThere (found ++ extra) o
there_more found extra None h = tt {0}
there_more found extra (Some c) h = found_more found extra c h

pub answered_more : (g : GenericGlobals) (found extra : List Copy) (asks : List Ask) → AreAnswered g found asks → AreAnswered g (found ++ extra) asks
answered_more g found extra [] h = tt {0}
answered_more g found extra (a ∷ as') h = ((h.0.0, there_more found extra (asked g a.function a.name a.types) h.0.1), answered_more g found extra as' h.1)

not_found_last : (bs : List Copy) (b c : Copy) → is_found bs b ≡ false → same_copy c b ≡ false → is_found (bs ++ c ∷ []) b ≡ false
not_found_last [] b c h k = or_from (same_copy c b) false k refl
not_found_last (d ∷ bs) b c h k =
    let both = or_parts (same_copy d b) (is_found bs b) h in
    or_from (same_copy d b) (is_found (bs ++ c ∷ []) b) both.0 (not_found_last bs b c both.1 k)

not_turned : (b c : Copy) → same_copy b c ≡ false → same_copy c b ≡ false
not_turned b c h = step (same_copy c b) (copy_turned c b) where
  crossed : (x : Bool) → x ≡ true → x ≡ false → ⊥
  crossed true e f = cc
  crossed false e f = cc

  step : (x : Bool) → (x ≡ true → same_copy b c ≡ true) → x ≡ false
  step true k = absurd (crossed (same_copy b c) (k refl) h)
  step false k = refl

apart_last : (found : List Copy) (c : Copy) → AreApart found → is_found found c ≡ false → AreApart (found ++ c ∷ [])
apart_last [] c h k = (refl, tt {0})
apart_last (b ∷ bs) c h k =
    let both = or_parts (same_copy b c) (is_found bs c) k in
    (not_found_last bs b c h.0 (not_turned b c both.0), apart_last bs c h.1 both.1)

declared_last : (g : GenericGlobals) (found : List Copy) (c : Copy) → AllByRecursion (IsDeclared g) found → IsDeclared g c → AllByRecursion (IsDeclared g) (found ++ c ∷ [])
declared_last g [] c h k = (k, tt {0})
declared_last g (b ∷ bs) c h k = (h.0, declared_last g bs c h.1 k)

-- One use

pub same_ok : (a b : List Copy) → (let r : Result (List Copy) Span = Ok a in r) ≡ Ok b → a ≡ b
same_ok a b e = ap (open_ok a) e where
  open_ok : List Copy → Result (List Copy) Span → List Copy
  open_ok d (Ok found) = found
  open_ok d (Err span) = d

-- from good copies to more good ones
pub record Goes (g : GenericGlobals) (found next : List Copy) : Type 0 where
  pub extra : List Copy
  pub is : next ≡ found ++ extra
  pub good : IsGood g next

goes_same : (g : GenericGlobals) (found next : List Copy) → IsGood g found → found ≡ next → Goes g found next
goes_same g found next good e = record { extra = []; is = sym e ∙ sym (append_nothing found); good = subst (IsGood g) e good } where
  append_nothing : (xs : List Copy) → xs ++ [] ≡ xs
  append_nothing [] = refl
  append_nothing (x ∷ xs) = ap (λ (ys : List Copy). x ∷ ys) (append_nothing xs)

few_goes : (g : GenericGlobals) (found next : List Copy) (c : Copy) (span : Span) (b : Bool) → are_few (found ++ c ∷ []) ≡ b → IsGood g found → IsDeclared g c → is_found found c ≡ false →
    add_few found c span b ≡ Ok next → Goes g found next × (is_found next c ≡ true)
few_goes g found next c span true few good own out e =
    let is : found ++ c ∷ [] ≡ next = same_ok (found ++ c ∷ []) next e in (
      record { extra = c ∷ []; is = sym is; good = subst (IsGood g) is (record { apart = apart_last found c good.apart out; declared = declared_last g found c good.declared own; few = few }) },
      subst (λ (u : List Copy). is_found u c ≡ true) is (found_last found c),
    )
few_goes g found next c span false few good own out e = absurd cc

new_goes : (g : GenericGlobals) (found next : List Copy) (c : Copy) (span : Span) (b : Bool) → is_found found c ≡ b → IsGood g found → IsDeclared g c → add_new found c span b ≡ Ok next → Goes g found next × (is_found next c ≡ true)
new_goes g found next c span true there good own e = (goes_same g found next good (same_ok found next e), subst (λ (u : List Copy). is_found u c ≡ true) (same_ok found next e) there)
new_goes g found next c span false out good own e = few_goes g found next c span (are_few (found ++ c ∷ [])) refl good own out e

-- what is asked for is declared
abbrev pub IsDeclaredThere : GenericGlobals → Option Copy → Type 0
IsDeclaredThere g None = Unit {0}
IsDeclaredThere g (Some c) = IsDeclared g c

short_goes : (g : GenericGlobals) (found next : List Copy) (o : Option Copy) (span : Span) (b : Bool) → IsGood g found → IsDeclaredThere g o → add_short found o span b ≡ Ok next → Goes g found next × (b ≡ false) × IsThere next o
short_goes g found next o span true good own e = absurd (never found next o span e) where
  never : (found next : List Copy) (o : Option Copy) (span : Span) → add_short found o span true ≡ Ok next → ⊥
  never found next None span e = cc
  never found next (Some c) span e = cc
short_goes g found next None span false good own e = (goes_same g found next good (same_ok found next e), refl, tt {0})
short_goes g found next (Some c) span false good own e =
    let step = new_goes g found next c span (is_found found c) refl good own e in
    (step.0, refl, step.1)

-- a declaration that a name finds has that name
pub data_has_name : (ds : List GenericDataTree) (x : ℕ) (d : GenericDataTree) → data_named ds x ≡ Some d → number_of d.name ≡ x
data_has_name [] x d e = absurd cc
data_has_name (c ∷ ds) x d e = step (number_of c.name == x) c d (data_named ds x) x (eqb-true (number_of c.name) x) (data_has_name ds x d) e where
  step : (b : Bool) (c d : GenericDataTree) (rest : Option GenericDataTree) (x : ℕ) → (b ≡ true → number_of c.name ≡ x) → (rest ≡ Some d → number_of d.name ≡ x) → (if b then Some c else rest) ≡ Some d → number_of d.name ≡ x
  step true c d rest x is go e = ap (λ (u : GenericDataTree). number_of u.name) (sym (same_Some c d e)) ∙ is refl
  step false c d rest x is go e = go e

pub function_has_name : (fs : List GenericFunctionTree) (x : ℕ) (f : GenericFunctionTree) → generic_named fs x ≡ Some f → number_of f.name ≡ x
function_has_name [] x f e = absurd cc
function_has_name (c ∷ fs) x f e = step (number_of c.name == x) c f (generic_named fs x) x (eqb-true (number_of c.name) x) (function_has_name fs x f) e where
  step : (b : Bool) (c d : GenericFunctionTree) (rest : Option GenericFunctionTree) (x : ℕ) → (b ≡ true → number_of c.name ≡ x) → (rest ≡ Some d → number_of d.name ≡ x) → (if b then Some c else rest) ≡ Some d → number_of d.name ≡ x
  step true c d rest x is go e = ap (λ (u : GenericFunctionTree). number_of u.name) (sym (same_Some c d e)) ∙ is refl
  step false c d rest x is go e = go e

pub data_found : (P : GenericDataTree → Type 0) (ds : List GenericDataTree) (x : ℕ) (d : GenericDataTree) → AllByRecursion P ds → data_named ds x ≡ Some d → P d
data_found P [] x d all e = absurd cc
data_found P (c ∷ ds) x d all e = step (number_of c.name == x) c d (data_named ds x) all.0 (λ k. data_found P ds x d all.1 k) e where
  step : (b : Bool) (c d : GenericDataTree) (rest : Option GenericDataTree) → P c → (rest ≡ Some d → P d) → (if b then Some c else rest) ≡ Some d → P d
  step true c d rest here go e = subst P (same_Some c d e) here
  step false c d rest here go e = go e

asked_data : (g : GenericGlobals) (x : ℕ) (ts : Forms) (o : Option GenericDataTree) → data_named g.datas x ≡ o → AllByRecursion HasGenericConstructor g.datas → IsDeclaredThere g (data_asked o ts)
asked_data g x ts None e fine = tt {0}
asked_data g x ts (Some d) e fine = (ap (data_named g.datas) (data_has_name g.datas x d e) ∙ e, data_found HasGenericConstructor g.datas x d fine e)

asked_function : (g : GenericGlobals) (x : ℕ) (ts : Forms) (o : Option GenericFunctionTree) → generic_named g.functions x ≡ o → IsDeclaredThere g (function_asked o ts)
asked_function g x ts None e = tt {0}
asked_function g x ts (Some f) e = ap (generic_named g.functions) (function_has_name g.functions x f e) ∙ e

asked_declared : (g : GenericGlobals) (b : Bool) (x : ℕ) (ts : Forms) → AllByRecursion HasGenericConstructor g.datas → IsDeclaredThere g (asked g b x ts)
asked_declared g true x ts fine = asked_function g x ts (generic_named g.functions x) refl
asked_declared g false x ts fine = asked_data g x ts (data_named g.datas x) refl fine

-- Uses, one after another

pub goes_on : (g : GenericGlobals) (found middle next : List Copy) → Goes g found middle → Goes g middle next → Goes g found next
goes_on g found middle next a b =
    record { extra = a.extra ++ b.extra; is = b.is ∙ ap (λ (u : List Copy). u ++ b.extra) a.is ∙ append_assoc found a.extra b.extra; good = b.good }

pub asks_go : (g : GenericGlobals) (asks : List Ask) (found next : List Copy) → AllByRecursion HasGenericConstructor g.datas → IsGood g found → add_asks g found asks ≡ Ok next → Goes g found next × AreAnswered g next asks
asks_go g [] found next fine good e = (goes_same g found next good (same_ok found next e), tt {0})
asks_go g (a ∷ as') found next fine good e =
    step g a as' found next (add_ask g found a) refl good fine (λ middle k. asks_go g as' middle next fine k) e where
      step : (g : GenericGlobals) (a : Ask) (as' : List Ask) (found next : List Copy) (r : Result (List Copy) Span) → add_ask g found a ≡ r → IsGood g found → AllByRecursion HasGenericConstructor g.datas →
          ((middle : List Copy) → IsGood g middle → add_asks g middle as' ≡ Ok next → Goes g middle next × AreAnswered g next as') → with_found r (λ u. add_asks g u as') ≡ Ok next → Goes g found next × AreAnswered g next (a ∷ as')
      step g a as' found next (Err span) is good fine go e = absurd cc
      step g a as' found next (Ok middle) is good fine go e =
          let first = short_goes g found middle (asked g a.function a.name a.types) a.span (has_long a.types) good (asked_declared g a.function a.name a.types fine) is in
          let rest = go middle (first.0).good e in (
            goes_on g found middle next first.0 rest.0,
            ((first.1, subst (λ (u : List Copy). IsThere u (asked g a.function a.name a.types)) (sym (rest.0).is) (there_more middle (rest.0).extra (asked g a.function a.name a.types) first.2)), rest.1),
          )

-- The walk

-- the copies before a place have all that they ask for
abbrev pub AreWalked : GenericGlobals → List Copy → ℕ → Type 0
AreWalked g found i = (j : ℕ) (c : Copy) → j < i → slice_get found j ≡ Some c → AreAnswered g found (copy_asks g.rows c)

few_bound : (g : GenericGlobals) (found : List Copy) → AllByRecursion (IsDeclared g) found → length found ≤ constructors_in found + functions_in found
few_bound g [] h = omega arith
few_bound g (DataOf d ts ∷ cs) h =
    let rest = few_bound g cs h.1 in
    let one = some d.constructors (h.0).1 in
    omega arith where
      some : (cs : List GenericConstructorTree) → cs ≢ [] → 1 ≤ length cs
      some [] h = absurd (h refl)
      some (c ∷ cs) h = omega arith
few_bound g (FunctionOf f ts ∷ cs) h = let rest = few_bound g cs h.1 in omega arith

few_length : (g : GenericGlobals) (found : List Copy) → IsGood g found → length found ≤ 1200
few_length g found good =
    let both = and_parts (nat_lt (constructors_in found) 201) (nat_lt (functions_in found) 1001) good.few in
    let a = ltb-true (constructors_in found) 201 both.0 in
    let b = ltb-true (functions_in found) 1001 both.1 in
    let c = few_bound g found good.declared in
    omega (arith, a, b, c)

pub some_short : (found : List Copy) (j : ℕ) (c : Copy) → slice_get found j ≡ Some c → j < length found
some_short [] j c e = absurd cc
some_short (b ∷ bs) zero c e = omega arith
some_short (b ∷ bs) (suc j) c e = let rest = some_short bs j c e in omega (arith, rest)

below_or_at : (j i : ℕ) → j < suc i → (j < i) ⊎ (j ≡ i)
below_or_at zero zero h = inr refl
below_or_at zero (suc i) h = inl (omega arith)
below_or_at (suc j) zero h = absurd (omega (arith, h))
below_or_at (suc j) (suc i) h = ⊎_elim (λ (a : j < i). inl (omega (arith, a))) (λ (e : j ≡ i). inr (ap suc e)) (below_or_at j i (omega (arith, h)))

pub get_front : (found extra : List Copy) (j : ℕ) → j < length found → slice_get (found ++ extra) j ≡ slice_get found j
get_front [] extra j h = absurd (omega (arith, h))
get_front (b ∷ bs) extra zero h = refl
get_front (b ∷ bs) extra (suc j) h = get_front bs extra j (omega (arith, h))

-- one copy more was walked
pub one_more : (g : GenericGlobals) (found next extra : List Copy) (i : ℕ) (c : Copy) → slice_get found i ≡ Some c → next ≡ found ++ extra → AreWalked g found i → AreAnswered g next (copy_asks g.rows c) → AreWalked g next (suc i)
one_more g found next extra i c at is before now j d below there =
    let short = some_short found i c at in
    let mine : j ≤ i = omega (arith, below) in
    let old : slice_get found j ≡ Some d = sym (get_front found extra j (omega (arith, short, mine))) ∙ ap (λ (u : List Copy). slice_get u j) (sym is) ∙ there in
    ⊎_elim (λ (lower : j < i). subst (λ (u : List Copy). AreAnswered g u (copy_asks g.rows d)) (sym is) (answered_more g found extra (copy_asks g.rows d) (before j d lower old)))
    (λ (e : j ≡ i). subst (λ (u : Copy). AreAnswered g next (copy_asks g.rows u)) (same_Some c d (sym at ∙ ap (slice_get found) (sym e) ∙ old)) now)
    (below_or_at j i below)

none_past : (found : List Copy) (i j : ℕ) (d : Copy) → slice_get found i ≡ None → slice_get found j ≡ Some d → j < i
none_past [] i j d h k = absurd cc
none_past (b ∷ bs) zero j d h k = absurd cc
none_past (b ∷ bs) (suc i) zero d h k = omega arith
none_past (b ∷ bs) (suc i) (suc j) d h k = let rest = none_past bs i j d h k in omega (arith, rest)

-- each copy has all that it asks for
abbrev pub AllWalked : GenericGlobals → List Copy → Type 0
AllWalked g next = (j : ℕ) (c : Copy) → slice_get next j ≡ Some c → AreAnswered g next (copy_asks g.rows c)

walk_step : (n : ℕ) (g : GenericGlobals) (found next : List Copy) (i : ℕ) (c : Copy) (r : Result (List Copy) Span) → AllByRecursion HasGenericConstructor g.datas → IsGood g found → AreWalked g found i → slice_get found i ≡ Some c →
    ((middle : List Copy) → IsGood g middle → AreWalked g middle (suc i) → walk n g middle (suc i) ≡ Ok next → Goes g middle next × AllWalked g next) →
    add_asks g found (copy_asks g.rows c) ≡ r → with_found r (λ u. walk n g u (suc i)) ≡ Ok next → Goes g found next × AllWalked g next
walk_step n g found next i c (Err span) fine good walked at go is e = absurd cc
walk_step n g found next i c (Ok middle) fine good walked at go is e =
    let first = asks_go g (copy_asks g.rows c) found middle fine good is in
    let rest = go middle (first.0).good (one_more g found middle (first.0).extra i c at (first.0).is walked first.1) e in
    (goes_on g found middle next first.0 rest.0, rest.1)

walk_turn : (n : ℕ) (g : GenericGlobals) (found next : List Copy) (i : ℕ) (o : Option Copy) → AllByRecursion HasGenericConstructor g.datas → IsGood g found → AreWalked g found i → slice_get found i ≡ o →
    ((middle : List Copy) → IsGood g middle → AreWalked g middle (suc i) → walk n g middle (suc i) ≡ Ok next → Goes g middle next × AllWalked g next) →
    walk_one g found o (λ u. walk n g u (suc i)) ≡ Ok next → Goes g found next × AllWalked g next
walk_turn n g found next i None fine good walked at go e =
    let is : found ≡ next = same_ok found next e in
    (goes_same g found next good is, subst (AllWalked g) is (λ j c there. walked j c (none_past found i j c at there) there))
walk_turn n g found next i (Some c) fine good walked at go e = walk_step n g found next i c (add_asks g found (copy_asks g.rows c)) fine good walked at go refl e

pub walk_goes : (n : ℕ) (g : GenericGlobals) (found next : List Copy) (i : ℕ) → AllByRecursion HasGenericConstructor g.datas → 1201 ≤ n + i → IsGood g found → AreWalked g found i → walk n g found i ≡ Ok next → Goes g found next × AllWalked g next
walk_goes zero g found next i fine enough good walked e =
    let few = few_length g found good in
    let is : found ≡ next = same_ok found next e in
    (goes_same g found next good is, subst (AllWalked g) is (λ j c at. let short = some_short found j c at in walked j c (omega (arith, few, short, enough)) at))
walk_goes (suc n) g found next i fine enough good walked e =
    walk_turn n g found next i (slice_get found i) fine good walked refl (λ middle k w d. walk_goes n g middle next (suc i) fine (omega (arith, enough)) k w d) e

-- Plain declarations

place_none : (ds : List GenericDataTree) (x : ℕ) → place_of (map (λ (d : GenericDataTree). number_of d.name) ds) x ≡ None → data_named ds x ≡ None
place_none [] x h = refl
place_none (d ∷ ds) x h = step (number_of d.name == x) d (data_named ds x) (place_of (map (λ (d : GenericDataTree). number_of d.name) ds) x) (place_none ds x) h where
  step : (b : Bool) (d : GenericDataTree) (rest : Option GenericDataTree) (p : Option ℕ) → (p ≡ None → rest ≡ None) → (if b then Some 0 else next_place p) ≡ None → (if b then Some d else rest) ≡ None
  step true d rest p k h = absurd cc
  step false d rest None k h = k refl
  step false d rest (Some i) k h = absurd cc

-- where names differ, each declaration is the one of its name
pub data_own : (all ds : List GenericDataTree) → ((x : ℕ) (d : GenericDataTree) → data_named ds x ≡ Some d → data_named all x ≡ Some d) → AreDifferent (map (λ (d : GenericDataTree). number_of d.name) ds) → AllByRecursion (λ (d : GenericDataTree). data_named all (number_of d.name) ≡ Some d) ds
data_own all [] k h = tt {0}
data_own all (d ∷ ds) k h = (
  k (number_of d.name) d (rw (eq-eqb (number_of d.name) (number_of d.name) refl) refl),
  data_own all ds (λ x e there. k x e (later d ds x e (number_of d.name == x) (eqb-true (number_of d.name) x) h.0 there)) h.1,
) where
  both : (o : Option GenericDataTree) (e : GenericDataTree) → o ≡ None → o ≡ Some e → ⊥
  both None e h k = cc
  both (Some d) e h k = cc

  later : (d : GenericDataTree) (ds : List GenericDataTree) (x : ℕ) (e : GenericDataTree) (b : Bool) → (b ≡ true → number_of d.name ≡ x) → place_of (map (λ (d : GenericDataTree). number_of d.name) ds) (number_of d.name) ≡ None → data_named ds x ≡ Some e → (if b then Some d else data_named ds x) ≡ Some e
  later d ds x e true is out there = absurd (both (data_named ds x) e (place_none ds x (subst (λ (n : ℕ). place_of (map (λ (d : GenericDataTree). number_of d.name) ds) n ≡ None) (is refl) out)) there)
  later d ds x e false is out there = there

function_none : (fs : List GenericFunctionTree) (x : ℕ) → place_of (map (λ (f : GenericFunctionTree). number_of f.name) fs) x ≡ None → generic_named fs x ≡ None
function_none [] x h = refl
function_none (f ∷ fs) x h = step (number_of f.name == x) f (generic_named fs x) (place_of (map (λ (f : GenericFunctionTree). number_of f.name) fs) x) (function_none fs x) h where
  step : (b : Bool) (f : GenericFunctionTree) (rest : Option GenericFunctionTree) (p : Option ℕ) → (p ≡ None → rest ≡ None) → (if b then Some 0 else next_place p) ≡ None → (if b then Some f else rest) ≡ None
  step true f rest p k h = absurd cc
  step false f rest None k h = k refl
  step false f rest (Some i) k h = absurd cc

pub function_own : (all fs : List GenericFunctionTree) → ((x : ℕ) (f : GenericFunctionTree) → generic_named fs x ≡ Some f → generic_named all x ≡ Some f) → AreDifferent (map (λ (f : GenericFunctionTree). number_of f.name) fs) → AllByRecursion (λ (f : GenericFunctionTree). generic_named all (number_of f.name) ≡ Some f) fs
function_own all [] k h = tt {0}
function_own all (f ∷ fs) k h = (
  k (number_of f.name) f (rw (eq-eqb (number_of f.name) (number_of f.name) refl) refl),
  function_own all fs (λ x e there. k x e (later f fs x e (number_of f.name == x) (eqb-true (number_of f.name) x) h.0 there)) h.1,
) where
  both : (o : Option GenericFunctionTree) (e : GenericFunctionTree) → o ≡ None → o ≡ Some e → ⊥
  both None e h k = cc
  both (Some d) e h k = cc

  later : (f : GenericFunctionTree) (fs : List GenericFunctionTree) (x : ℕ) (e : GenericFunctionTree) (b : Bool) → (b ≡ true → number_of f.name ≡ x) → place_of (map (λ (f : GenericFunctionTree). number_of f.name) fs) (number_of f.name) ≡ None → generic_named fs x ≡ Some e → (if b then Some f else generic_named fs x) ≡ Some e
  later f fs x e true is out there = absurd (both (generic_named fs x) e (function_none fs x (subst (λ (n : ℕ). place_of (map (λ (f : GenericFunctionTree). number_of f.name) fs) n ≡ None) (is refl) out)) there)
  later f fs x e false is out there = there
