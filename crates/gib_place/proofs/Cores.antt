-- Whole cores: what is placed means what was given, and is numbered.
use Rattle.std.proofs.Common.{◌≡◌, ℕ, zero, suc, ◌+◌, ◌<◌, ◌≤◌, Bool, true, false, ◌||◌, ◌==◌, if◌then◌else◌, List, [], ◌∷◌, map, length, refl, sym, ap, ◌∙◌, arith, ⊎_elim}
use Rattle.std.specs.List.{AllByRecursion}
use Rattle.std.proofs.str.Laws.{order}
use Rattle.std.proofs.lemmas.Bool.{eqb-true, eq-eqb, false_from_ne_true}
use Rattle.gib_types.specs.declared.table.Ty.{Ty}
use Rattle.gib_types.specs.Table.{Table}
use Rattle.gib_types.specs.Tree.{Datum}
use Rattle.gib_syntax.specs.Meaning.{Environment}
use Rattle.gib_core.specs.declared.atom.Variable.{Variable}
use Rattle.gib_core.specs.Tree.{Term, variables_from, CoreTree, Results}
use Rattle.gib_core.specs.Meaning.{Calls, bind, mean, core_calls, core_run}
use Rattle.gib_core.specs.Inferring.{numbers_from}
use Rattle.gib_core.specs.Numbering.{binders, IsNumbered, AreNumbered}
use Rattle.gib_core.specs.Met.{bodies}
use Rattle.gib_core.specs.Counting.{count, is_once}
use Rattle.gib_place.specs.Placing.{place_body}
use Rattle.gib_place.specs.Renaming.{Renaming, rename_variable, rename, rename_environment}
use Rattle.gib_place.specs.Numbering.{place_in, variables_in, number_anew, place_anew, place_core}
use Rattle.gib_core.proofs.Remade.{all_so, MeansSame, remade_so, remade_calls, remade_run}
use Rattle.gib_place.proofs.Positions.{place_tells, in_list, Differ, places_behind, first_stay}
use Rattle.gib_place.proofs.Renames.{bind_renamed, binders_renamed, mean_renamed}
use Rattle.gib_place.proofs.Counts.{occurs, occurs_append, place_binds}
use Rattle.gib_place.proofs.Means.{place_means}

none_below : (n m y : ℕ) → y < n → occurs (numbers_from n m) y ≡ 0
none_below n zero y h = refl
none_below n (suc m) y h =
    let differs : (n == y) ≡ false = false_from_ne_true (n == y) (λ e. let same : n ≡ y = eqb-true n y e in omega arith) in
    ap (λ (b : Bool). (if b then 1 else 0) + occurs (numbers_from (suc n) m) y) differs ∙ (let e = none_below (suc n) m y (omega arith) in omega arith)

none_above : (n m y : ℕ) → n + m ≤ y → occurs (numbers_from n m) y ≡ 0
none_above n zero y h = refl
none_above n (suc m) y h =
    let differs : (n == y) ≡ false = false_from_ne_true (n == y) (λ e. let same : n ≡ y = eqb-true n y e in omega arith) in
    ap (λ (b : Bool). (if b then 1 else 0) + occurs (numbers_from (suc n) m) y) differs ∙ (let e = none_above (suc n) m y (omega arith) in omega arith)

most_one : (n m y : ℕ) → occurs (numbers_from n m) y ≤ 1
most_one n zero y = omega arith
most_one n (suc m) y = go (n == y) refl (most_one (suc n) m y)
  where
    go : (b : Bool) → (n == y) ≡ b → occurs (numbers_from (suc n) m) y ≤ 1 → (if b then 1 else 0) + occurs (numbers_from (suc n) m) y ≤ 1
    go true p h = let same : n ≡ y = eqb-true n y p in let e = none_below (suc n) m y (omega arith) in omega arith
    go false p h = omega arith

both_one : (n m y : ℕ) → occurs (numbers_from 0 n) y + occurs (numbers_from n m) y ≤ 1
both_one n m y =
    ⊎_elim
    (λ less. let e = none_below n m y less in let f = most_one 0 n y in omega arith)
    (λ more. let e = none_above 0 n y (omega arith) in let f = most_one n m y in omega arith)
    (order y n)

in_occurs : (xs : List ℕ) (x : ℕ) → in_list xs x ≡ true → 1 ≤ occurs xs x
in_occurs [] x e = absurd cc
in_occurs (y ∷ xs) x e = go (y == x) e (in_occurs xs x)
  where
    go : (b : Bool) → (b || in_list xs x) ≡ true → (in_list xs x ≡ true → 1 ≤ occurs xs x) → 1 ≤ (if b then 1 else 0) + occurs xs x
    go true e h = omega arith
    go false e h = let k = h e in omega arith

differ_of : (xs : List ℕ) → ((y : ℕ) → occurs xs y ≤ 1) → Differ xs
differ_of [] h = tt
differ_of (x ∷ xs) h = (
  false_from_ne_true (in_list xs x) (λ e. let k = in_occurs xs x e in let m = h x in let s = own x in omega arith),
  differ_of xs (λ y. let m = h y in omega arith),
)
  where
    own : (x : ℕ) → (if x == x then 1 else 0) ≡ (suc zero)
    own x = ap (λ (b : Bool). if b then (suc zero) else zero) (eq-eqb x x refl)

from_length : (n m : ℕ) → length (numbers_from n m) ≡ m
from_length n zero = refl
from_length n (suc m) = ap suc (from_length (suc n) m)

map_length : (f : ℕ → ℕ) (xs : List ℕ) → length (map f xs) ≡ length xs
map_length f [] = refl
map_length f (x ∷ xs) = ap suc (map_length f xs)

-- A body that is numbered.
module _ (ps : List Ty) (result : Results Ty) (t : Term) (numbered : IsNumbered (record { parameters = ps; result = result; term = t })) where
  abbrev placed : Term
  placed = place_body t

  abbrev by : Renaming
  by = place_in (variables_in (length ps) placed)

  pub body_differs : (y : ℕ) → occurs (numbers_from 0 (length ps)) y + occurs (binders t) y ≤ 1
  body_differs y = let e = ap (λ xs. occurs xs y) numbered in let m = both_one (length ps) (length (binders t)) y in omega arith

  pub placed_differs : (y : ℕ) → occurs (variables_in (length ps) placed) y ≤ 1
  placed_differs y =
      let e = occurs_append (numbers_from 0 (length ps)) (binders placed) y in
      let m = body_differs y in
      let p = place_binds (is_once t) t y in
      omega arith

  pub parameters_stay : (i : ℕ) → i < length ps → by i ≡ i
  parameters_stay i h = let e : i ≡ 0 + i = omega arith in ap by e ∙ first_stay 0 (length ps) (binders placed) i h

  pub body_numbered : IsNumbered (record { parameters = ps; result = result; term = number_anew (length ps) placed })
  body_numbered =
      let at = places_behind (numbers_from 0 (length ps)) (binders placed) (differ_of (variables_in (length ps) placed) placed_differs) in
      binders_renamed by placed
      ∙ (at
      ∙ (λ i. numbers_from (from_length 0 (length ps) i) ((sym (map_length by (binders placed)) ∙ ap length (sym (binders_renamed by placed))) i)))

  few : (y : Variable) → is_once t y ≡ true → count t y ≤ 1
  few y e = let same : count t y ≡ 1 = eqb-true (count t y) 1 e in omega arith

  pub body_means : (tb : Table) (call : Calls) (env : Environment) → rename_environment by env ≡ env → mean tb call (number_anew (length ps) placed) env ≡ mean tb call t env
  body_means tb call env e =
      ap (mean tb call (rename by placed)) (sym e)
      ∙ (mean_renamed by (place_tells (variables_in (length ps) placed)) tb call placed env
      ∙ place_means tb call (is_once t) t few (λ y. let m = body_differs y in omega arith) env)

variables_stay : (r : Renaming) (n : ℕ) (ps : List Ty) → ((i : ℕ) → i < length ps → r (n + i) ≡ n + i) → map (rename_variable r) (variables_from n ps) ≡ variables_from n ps
variables_stay r n [] h = refl
variables_stay r n (p ∷ ps) h =
    let e : n + 0 ≡ n = omega arith in
    λ i. record { 0 = (sym (ap r e) ∙ (h 0 (omega arith) ∙ e)) i }
    ∷ variables_stay r (n + 1) ps (λ j lt. let d : n + 1 + j ≡ n + suc j = omega arith in ap r d ∙ (h (suc j) (omega arith) ∙ sym d)) i

arguments_stay : (r : Renaming) (ps : List Ty) (vs : List Datum) → ((i : ℕ) → i < length ps → r i ≡ i) → rename_environment r (bind (variables_from 0 ps) vs []) ≡ bind (variables_from 0 ps) vs []
arguments_stay r ps vs h =
    sym (bind_renamed r (variables_from 0 ps) vs [])
    ∙ ap (λ xs. bind xs vs []) (variables_stay r 0 ps (λ i lt. let e : 0 + i ≡ i = omega arith in ap r e ∙ (h i lt ∙ sym e)))

-- Whole cores.
all_mean : (c : CoreTree) → AreNumbered c → AllByRecursion (MeansSame c.table place_anew) (bodies c)
all_mean c all =
    all_so IsNumbered (MeansSame c.table place_anew)
    (λ b numbered call vs. body_means b.parameters b.result b.term numbered c.table call (bind (variables_from 0 b.parameters) vs [])
    (arguments_stay (place_in (variables_in (length b.parameters) (place_body b.term))) b.parameters vs (parameters_stay b.parameters b.result b.term numbered))) (bodies c) all

pub calls_placed : (c : CoreTree) → AreNumbered c → (n : ℕ) → core_calls (place_core c) n ≡ core_calls c n
calls_placed c all n = remade_calls place_anew c.offsets c.marked c (all_mean c all) n

pub run_placed : (c : CoreTree) → AreNumbered c → (depth : ℕ) (v : Datum) → core_run (place_core c) depth v ≡ core_run c depth v
run_placed c all depth v = remade_run place_anew c.offsets c.marked c (all_mean c all) depth v

pub core_numbered : (c : CoreTree) → AreNumbered c → AreNumbered (place_core c)
core_numbered c h = remade_so place_anew c.offsets c.marked IsNumbered IsNumbered (λ b n. body_numbered b.parameters b.result b.term n) c h
