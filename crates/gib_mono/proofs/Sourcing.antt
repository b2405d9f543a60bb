-- Where a program's names are declared.
use Rattle.std.proofs.Common.{◌≡◌, ℕ, zero, suc, ◌+◌, ◌<◌, ◌≤◌, ◌==◌, Bool, true, false, if◌then◌else◌, List, [], ◌∷◌, ◌++◌, length, map, Option, Some, None, slice_get, get_or, refl, sym, ap, ap₂, ◌∙◌, arith, subst, append-nil, append_assoc}
use Rattle.std.specs.Prelude.{MatchOption}
use Rattle.std.proofs.lemmas.Bool.{eq-eqb}
use Rattle.gib_syntax.specs.declared.program.GenericConstructor.{GenericConstructor}
use Rattle.std.specs.List.{AllByRecursion}
use Rattle.std.proofs.lemmas.List.{map-append, length-map, length_push, length-append}
use Rattle.std.proofs.lemmas.Option.{same_Some, slice_get_within}
use Rattle.gib_syntax.specs.declared.program.GenericData.{GenericData}
use Rattle.gib_syntax.specs.declared.program.GenericFunction.{GenericFunction}
use Rattle.gib_syntax.specs.declared.written.Word.{Word}
use Rattle.gib_syntax.specs.Declarations.{number_of, place_of, next_place}
use Rattle.gib_syntax.specs.GenericTree.{GenericConstructorTree, GenericDataTree, GenericFunctionTree, GenericRow, row_of, rows_of, data_named, generic_named, place_named}
use Rattle.gib_syntax.specs.GenericParts.{GenericParts, constructor_in, data_in, function_in, IsFunctionInside}
use Rattle.gib_mono.specs.Copying.{owner_named, owner_at_row}
use Rattle.gib_syntax.specs.Declarations.{AreDifferent}
use Rattle.gib_syntax.specs.GenericTree.{GenericProgramTree, globals_of_generic}
use Rattle.gib_syntax.specs.GenericTyping.{IsTypedGeneric}
use Rattle.gib_mono.specs.Found.{AreDeclarations}
use Rattle.gib_check.specs.Faults.{row_at}
use Rattle.gib_mono.specs.Sources.{globals_in, data_number, function_number}
use Rattle.gib_check.proofs.RowRules.{get_map}

-- places of names

pub data_place : (ds : List GenericDataTree) (x : ℕ) (o : Option ℕ) → o ≡ place_of (map data_number ds) x → MatchOption o (data_named ds x ≡ None) (λ i. (d : GenericDataTree) × (slice_get ds i ≡ Some d) × (data_named ds x ≡ Some d))
data_place [] x o e = rw e refl
data_place (d ∷ ds) x o e = by (number_of d.name == x) refl (place_of (map data_number ds) x) refl o e (data_place ds x (place_of (map data_number ds) x) refl) where
  by : (b : Bool) → (number_of d.name == x) ≡ b → (q : Option ℕ) → place_of (map data_number ds) x ≡ q → (o : Option ℕ) → o ≡ (if b then Some 0 else next_place q) → MatchOption q (data_named ds x ≡ None) (λ i. (h : GenericDataTree) × (slice_get ds i ≡ Some h) × (data_named ds x ≡ Some h))
      → MatchOption o ((if b then Some d else data_named ds x) ≡ None) (λ i. (h : GenericDataTree) × (slice_get (d ∷ ds) i ≡ Some h) × ((if b then Some d else data_named ds x) ≡ Some h))
  by true f q g o e h = rw e (d, refl, refl)
  by false f None g o e h = rw e h
  by false f (Some i) g o e h = rw e h

pub function_place : (fs : List GenericFunctionTree) (x : ℕ) (o : Option ℕ) → o ≡ place_of (map function_number fs) x → MatchOption o (generic_named fs x ≡ None) (λ i. (f : GenericFunctionTree) × (slice_get fs i ≡ Some f) × (generic_named fs x ≡ Some f))
function_place [] x o e = rw e refl
function_place (f ∷ fs) x o e = by (number_of f.name == x) refl (place_of (map function_number fs) x) refl o e (function_place fs x (place_of (map function_number fs) x) refl) where
  by : (b : Bool) → (number_of f.name == x) ≡ b → (q : Option ℕ) → place_of (map function_number fs) x ≡ q → (o : Option ℕ) → o ≡ (if b then Some 0 else next_place q) → MatchOption q (generic_named fs x ≡ None) (λ i. (h : GenericFunctionTree) × (slice_get fs i ≡ Some h) × (generic_named fs x ≡ Some h))
      → MatchOption o ((if b then Some f else generic_named fs x) ≡ None) (λ i. (h : GenericFunctionTree) × (slice_get (f ∷ fs) i ≡ Some h) × ((if b then Some f else generic_named fs x) ≡ Some h))
  by true g q k o e h = rw e (f, refl, refl)
  by false g None k o e h = rw e h
  by false g (Some i) k o e h = rw e h

-- a type has no more constructors than there are

pub data_few : (ds : List GenericDataTree) (i : ℕ) (d : GenericDataTree) → slice_get ds i ≡ Some d → length d.constructors ≤ length (rows_of ds)
data_few [] i d e = absurd cc
data_few (x ∷ ds) zero d e =
    let a = length-append (map (row_of x) x.constructors) (rows_of ds) in
    let b = length-map x.constructors (row_of x) in
    let c : length x.constructors ≡ length d.constructors = ap (λ (o : Option GenericDataTree). count o) e in
    omega (arith, a, b, c) where
      count : Option GenericDataTree → ℕ
      count None = 0
      count (Some y) = length y.constructors
data_few (x ∷ ds) (suc i) d e =
    let a = length-append (map (row_of x) x.constructors) (rows_of ds) in
    let l = data_few ds i d e in
    omega (arith, a, l)

pub data_counted : (words : List Word) (ds : List GenericData) (i : ℕ) (decl : GenericData) (n : ℕ) (d : GenericDataTree) → slice_get ds i ≡ Some decl → n ≡ length decl.constructors.items → slice_get (map (data_in words) ds) i ≡ Some d → length d.constructors ≡ n
data_counted words ds i decl n d e f h =
    ap (λ (x : GenericDataTree). length x.constructors) (sym (same_Some (data_in words decl) d (sym (get_map (data_in words) ds i decl e) ∙ h))) ∙ length-map decl.constructors.items (constructor_in words) ∙ sym f

pub constructors_few : (words : List Word) (ds : List GenericData) (i : ℕ) (decl : GenericData) (n : ℕ) → slice_get ds i ≡ Some decl → n ≡ length decl.constructors.items → length (rows_of (map (data_in words) ds)) ≤ 200 → n ≤ 200
constructors_few words ds i decl n e f l =
    let m = data_few (map (data_in words) ds) i (data_in words decl) (get_map (data_in words) ds i decl e) in
    let k = length-map decl.constructors.items (constructor_in words) in
    omega (arith, l, m, k, f)

-- the type's name of the constructor of a name
pub owner_row : (rows : List GenericRow) (o : Option ℕ) → owner_at_row (row_at rows o) ≡ owner_named rows o
owner_row rows None = refl
owner_row rows (Some c) = refl

pub there_is : {A : Type 0} (xs : List A) (i : ℕ) (x : A) → i < length xs → x ≡ get_or xs i x → slice_get xs i ≡ Some x
there_is [] i x l e = absurd (omega (arith, l))
there_is (y ∷ xs) zero x l e = ap Some (sym e)
there_is (y ∷ xs) (suc i) x l e = there_is xs i x (omega (arith, l)) e

-- names of declarations differ

not_there : {A : Type 0} (f : A → ℕ) (xs : List A) (i : ℕ) (x : A) (n : ℕ) → place_of (map f xs) n ≡ None → slice_get xs i ≡ Some x → f x ≡ n → ⊥
not_there f [] i x n h e g = cc
not_there f (y ∷ xs) i x n h e g = by (f y == n) refl (place_of (map f xs) n) refl h i e (λ q j d. not_there f xs j x n q d g) where
  by : (b : Bool) → (f y == n) ≡ b → (o : Option ℕ) → place_of (map f xs) n ≡ o → (if b then Some 0 else next_place o) ≡ None → (j : ℕ) → slice_get (y ∷ xs) j ≡ Some x → (place_of (map f xs) n ≡ None → (k : ℕ) → slice_get xs k ≡ Some x → ⊥) → ⊥
  by true k o q r j d go = cc
  by false k None q r zero d go =
      let s : (f y == n) ≡ true = eq-eqb (f y) n (ap f (same_Some y x d) ∙ g) in
      false_true (sym k ∙ s) where
        false_true : false ≡ true → ⊥
        false_true z = cc
  by false k None q r (suc j) d go = go q j d
  by false k (Some m) q r j d go = cc

pub one_place : {A : Type 0} (f : A → ℕ) (xs : List A) (i j : ℕ) (x y : A) → AreDifferent (map f xs) → slice_get xs i ≡ Some x → slice_get xs j ≡ Some y → f x ≡ f y → i ≡ j
one_place f [] i j x y h a b e = absurd cc
one_place f (z ∷ xs) zero zero x y h a b e = refl
one_place f (z ∷ xs) zero (suc j) x y h a b e = absurd (not_there f xs j y (f z) h.0 b (sym e ∙ ap f (sym (same_Some z x a))))
one_place f (z ∷ xs) (suc i) zero x y h a b e = absurd (not_there f xs i x (f z) h.0 a (e ∙ ap f (sym (same_Some z y b))))
one_place f (z ∷ xs) (suc i) (suc j) x y h a b e = ap suc (one_place f xs i j x y h.1 a b e)

pub declarations : (p : GenericProgramTree) → IsTypedGeneric p → AreDeclarations (globals_of_generic p)
declarations p typed = record {
  datas = λ i j d e a b n. one_place data_number p.datas i j d e typed.types_differ a b n;
  functions = λ i j f h a b n. one_place function_number p.functions i j f h typed.functions_differ a b n;
}

pub within_datas : (ds : List GenericData) (p : GenericParts) (i : ℕ) → ds ≡ p.datas → i < length (globals_in p).datas → i < length ds
within_datas ds p i e l =
    let m = length-map p.datas (data_in p.exprs.words) in
    let n = ap length e in
    omega (arith, l, m, n)

pub data_variables : (p : GenericParts) (place : ℕ) (decl : GenericData) (d : GenericDataTree) → slice_get p.datas place ≡ Some decl → slice_get (globals_in p).datas place ≡ Some d → d.variables ≡ decl.variables.items
data_variables p place decl d e f = ap (λ (x : GenericDataTree). x.variables) (same_Some d (data_in p.exprs.words decl) (sym f ∙ get_map (data_in p.exprs.words) p.datas place decl e))

pub function_variables : (p : GenericParts) (place : ℕ) (decl : GenericFunction) (f : GenericFunctionTree) → slice_get p.functions place ≡ Some decl → slice_get (globals_in p).functions place ≡ Some f → f.variables ≡ decl.variables.items
function_variables p place decl f e g = ap (λ (x : GenericFunctionTree). x.variables) (same_Some f (function_in p.exprs decl) (sym g ∙ get_map (function_in p.exprs) p.functions place decl e))

pub within_functions : (fs : List GenericFunction) (p : GenericParts) (i : ℕ) → fs ≡ p.functions → i < length (globals_in p).functions → i < length fs
within_functions fs p i e l =
    let m = length-map p.functions (function_in p.exprs) in
    let n = ap length e in
    omega (arith, l, m, n)

pub function_inside : (p : GenericParts) (i : ℕ) (f : GenericFunction) → AllByRecursion (IsFunctionInside p.exprs) p.functions → slice_get p.functions i ≡ Some f → IsFunctionInside p.exprs f
function_inside p i f h e = by p.functions i h e where
  by : (fs : List GenericFunction) (j : ℕ) → AllByRecursion (IsFunctionInside p.exprs) fs → slice_get fs j ≡ Some f → IsFunctionInside p.exprs f
  by [] j g q = absurd cc
  by (x ∷ fs) zero g q = subst (IsFunctionInside p.exprs) (same_Some x f q) g.0
  by (x ∷ fs) (suc j) g q = by fs j g.1 q

pub count_datas : (p : GenericParts) → length (globals_in p).datas ≡ length p.datas
count_datas p = length-map p.datas (data_in p.exprs.words)

pub count_functions : (p : GenericParts) → length (globals_in p).functions ≡ length p.functions
count_functions p = length-map p.functions (function_in p.exprs)
