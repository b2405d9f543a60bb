-- What the fields of a line that fills a head owe to how often variables are used and bound.
use Rattle.std.proofs.Common.{◌≡◌, ℕ, ◌+◌, ◌≤◌, Bool, true, false, ◌||◌, ◌==◌, if◌then◌else◌, List, [], ◌∷◌, ◌++◌, map, refl, sym, ap, ◌∙◌, arith}
use Rattle.std.proofs.lemmas.Bool.{eq-eqb, false_from_ne_true, or_parts}
use Rattle.std.proofs.lemmas.List.{map-append}
use Rattle.gib_core.specs.declared.atom.Variable.{Variable}
use Rattle.gib_core.specs.declared.atom.Atom.{Atom}
use Rattle.gib_core.specs.declared.atom.Atom.TheVariants as a
use Rattle.gib_core.specs.Tree.{Bind, Past, One, Both, Prim, Reach, Side, On, Several, variables_of}
use Rattle.gib_core.specs.Inferring.{as_atoms}
use Rattle.gib_core.specs.Numbering.{binders, bind_binders, side_binders}
use Rattle.gib_core.specs.Rules.{is_among}
use Rattle.gib_place.specs.declared.field.Field.{Field}
use Rattle.gib_core.specs.Counting.{count_atom, count_in, count}
use Rattle.gib_place.specs.Placing.{Filling, bound_by, bound_in, are_fields}
use Rattle.gib_place.proofs.Lays.{variables}
use Rattle.gib_place.proofs.Counts.{occurs, occurs_append, count_all, binders_all, targets, filling_line, fields_named, fields_once, counted, not_counted, count_line, occurs_line}
use Rattle.gib_place.proofs.Wider.{times_among}
use Rattle.gib_core.proofs.Along.{among_append}

pub not_among : (xs ys : List Variable) (y : Variable) → is_among (xs ++ ys) y ≡ false → (is_among xs y ≡ false) × (is_among ys y ≡ false)
not_among xs ys y e = or_parts (is_among xs y) (is_among ys y) (sym (among_append xs ys y) ∙ e)

-- An atom is one of the variables that are told.
abbrev pub is_told : (Variable → Bool) → Atom → Bool
is_told F (a.Variable y) = F y
is_told F (a.Whole z) = false
is_told F (a.Truth b) = false

-- Fields of a line: their variables are told, their values are not; none is bound in the run, or is another one's.
abbrev pub Fit : (Variable → Bool) → List Bind → List Field → Type 0
Fit F bs [] = Unit {0}
Fit F bs (f ∷ fs) = (F f.variable ≡ true) × (is_told F f.target ≡ false) × (is_among (bound_in bs) f.variable ≡ false) × (is_among (variables fs) f.variable ≡ false) × Fit F bs fs

pub fit_less : (F : Variable → Bool) (b : Bind) (bs : List Bind) (fs : List Field) → Fit F (b ∷ bs) fs → Fit F bs fs
fit_less F b bs [] h = tt
fit_less F b bs (f ∷ fs) h = (h.0, h.1, (not_among (bound_by b) (bound_in bs) f.variable h.2).1, h.3, fit_less F b bs fs h.4)

-- Variables that are told are not used in the run.
abbrev pub Unused : (Variable → Bool) → List Bind → Type 0
Unused F bs = (y : Variable) → F y ≡ true → count_all bs y ≡ 0

pub own_count : (y : Variable) → count_atom y (a.Variable y) ≡ 1
own_count y = ap (λ (b : Bool). if b then 1 else 0) (eq-eqb y.0 y.0 refl)

told_counted : (F : Variable → Bool) (x : Atom) → ((y : Variable) → F y ≡ true → count_atom y x ≡ 0) → is_told F x ≡ false
told_counted F (a.Variable y) h = false_from_ne_true (F y) (λ m. let e = h y m in let s = own_count y in omega arith)
told_counted F (a.Whole z) h = refl
told_counted F (a.Truth b) h = refl

side_occurs : (s : Side) (y : ℕ) → occurs (map (λ (x : Variable). x.0) (variables_of s)) y ≤ occurs (side_binders s) y
side_occurs (On kind x ty t) y = omega arith
side_occurs (Several xs tys t) y = let m = occurs_append (map (λ (x : Variable). x.0) xs) (binders t) y in omega arith

bound_occurs : (b : Bind) (y : ℕ) → occurs (map (λ (x : Variable). x.0) (bound_by b)) y ≤ occurs (bind_binders b) y
bound_occurs (Past h k) y = omega arith
bound_occurs (One s) y = let p = side_occurs s y in omega arith
bound_occurs (Both fork l r) y =
    let p = side_occurs l y in let q = side_occurs r y in
    let m = occurs_append (side_binders l) (side_binders r) y in
    let e = ap (λ zs. occurs zs y) (map-append (λ (x : Variable). x.0) (variables_of l) (variables_of r)) in
    let n = occurs_append (map (λ (x : Variable). x.0) (variables_of l)) (map (λ (x : Variable). x.0) (variables_of r)) y in
    omega arith
bound_occurs (Prim x f v w) y = omega arith
bound_occurs (Reach x by) y = omega arith

all_occurs : (bs : List Bind) (y : ℕ) → occurs (map (λ (x : Variable). x.0) (bound_in bs)) y ≤ occurs (binders_all bs) y
all_occurs [] y = omega arith
all_occurs (b ∷ bs) y =
    let p = bound_occurs b y in let q = all_occurs bs y in
    let m = ap (λ l. occurs l y) (map-append (λ (x : Variable). x.0) (bound_by b) (bound_in bs)) in
    let n = occurs_append (map (λ (x : Variable). x.0) (bound_by b)) (map (λ (x : Variable). x.0) (bound_in bs)) y in
    let w = occurs_append (bind_binders b) (binders_all bs) y in
    omega arith

fits : (F : Variable → Bool) (bs : List Bind) (fs : List Field) → ((y : Variable) → is_among (variables fs) y ≡ true → F y ≡ true) → ((y : Variable) → F y ≡ true → count_in y (targets fs) ≡ 0)
    → ((y : Variable) → F y ≡ true → count_in y (as_atoms (variables fs)) ≤ 1) → ((y : Variable) → F y ≡ true → is_among (bound_in bs) y ≡ false) → Fit F bs fs
fits F bs [] told out once free = tt
fits F bs (f ∷ fs) told out once free =
    let mine : F f.variable ≡ true = told f.variable (ap (λ b. b || is_among (variables fs) f.variable) (eq-eqb f.variable.0 f.variable.0 refl)) in (
      mine,
      told_counted F f.target (λ y m. let e = out y m in omega arith),
      free f.variable mine,
      not_counted (variables fs) f.variable (let e = once f.variable mine in let s = own_count f.variable in omega arith),
      fits F bs fs (λ y m. told y (let e = f.variable.0 == y.0 in later e m)) (λ y m. let e = out y m in omega arith) (λ y m. let e = once y m in omega arith) free,
    )
  where
    later : (b : Bool) {c : Bool} → c ≡ true → (b || c) ≡ true
    later true e = refl
    later false e = e

-- A line that fills a head, in a body that uses and binds its variables so often.
module _ (once : Variable → Bool) (l : Filling) (named : are_fields once l.ending.fields l.ending.packed ≡ true)
    (few : (y : Variable) → once y ≡ true → count (filling_line l) y ≤ 1) (differ : (y : ℕ) → occurs (binders (filling_line l)) y ≤ 1) where
  abbrev pub told : Variable → Bool
  told y = is_among (variables l.ending.fields) y

  record Spent (y : Variable) : Type 0 where
    pub run : count_all l.run y ≡ 0
    pub targets : count_in y (targets l.ending.fields) ≡ 0
    pub scalars : count_in y l.ending.scalars ≡ 0
    pub own : count_in y (as_atoms (variables l.ending.fields)) ≤ 1

  spent : (y : Variable) → told y ≡ true → Spent y
  spent y m =
      let p = count_line l y in
      let q = few y (fields_once once l.ending.fields l.ending.packed named y m) in
      let n = ap (count_in y) (fields_named once l.ending.fields l.ending.packed named) in
      let c = counted (variables l.ending.fields) y m in
      record { run = omega arith; targets = omega arith; scalars = omega arith; own = omega arith }

  unbound : (y : Variable) → told y ≡ true → is_among (bound_in l.run) y ≡ false
  unbound y m =
      false_from_ne_true (is_among (bound_in l.run) y) (λ h.
      let p = occurs_line l y.0 in let q = differ y.0 in
      let v = times_among (variables l.ending.fields) y m in
      let w = times_among (bound_in l.run) y h in
      let z = all_occurs l.run y.0 in
      omega arith)

  pub fields_fit : Fit told l.run l.ending.fields
  fields_fit = fits told l.run l.ending.fields (λ y m. m) (λ y m. (spent y m).targets) (λ y m. (spent y m).own) unbound

  pub run_unused : Unused told l.run
  run_unused y m = (spent y m).run

  pub scalars_unused : (y : Variable) → told y ≡ true → count_in y l.ending.scalars ≡ 0
  scalars_unused y m = (spent y m).scalars
