-- How often variables are used and bound in a line and in what it is laid out as.
use Rattle.std.proofs.Common.{◌≡◌, ℕ, ◌+◌, ◌≤◌, Bool, true, false, ◌&&◌, ◌||◌, ◌==◌, if◌then◌else◌, List, [], ◌∷◌, ◌++◌, map, Option, Some, None, refl, sym, ap, subst, arith}
use Rattle.std.proofs.lemmas.Bool.{false_from_ne_true, and_parts}
use Rattle.gib_types.specs.declared.table.ConId.{ConId}
use Rattle.gib_core.specs.declared.atom.Variable.{Variable}
use Rattle.gib_core.specs.declared.atom.Atom.{Atom}
use Rattle.gib_core.specs.declared.atom.Kind.TheVariants.{Here, Region, Scalar}
use Rattle.gib_core.specs.Tree.{Term, Then, Write, Point, CallTerm, Give, CaseTerm, IfTerm, Tuple, Bind, Past, One, Both, Prim, Reach, On, Several, prepend}
use Rattle.gib_core.specs.Inferring.{as_atoms}
use Rattle.gib_core.specs.Numbering.{numbers_in, binders, bind_binders, side_binders}
use Rattle.gib_core.proofs.Walks.{Maps, map_joins}
use Rattle.gib_core.specs.Reaching.{is_variable}
use Rattle.gib_core.specs.Rules.{is_among}
use Rattle.gib_place.specs.declared.field.Field.{Field}
use Rattle.gib_core.specs.Counting.{count_atom, count_in, entry_counts, count, count_bind}
use Rattle.gib_place.specs.Placing.{pointing, Ending, Filling, field_first, binding_first, room_first, ending_of, filling_of, lay, are_fields, laid_line, fill, place_line, as_bound, placed_inside, place_inner, place}
use Rattle.gib_place.proofs.Lays.{Lays, ends, opens, puts, stays, one, left, right, both, variables, is_that, lay_lays}
use Rattle.gib_core.proofs.Along.{same_variable}

-- How often a number is in a list.
abbrev pub occurs : List ℕ → ℕ → ℕ
occurs [] y = 0
occurs (x ∷ xs) y = (if x == y then 1 else 0) + occurs xs y

pub occurs_append : (xs ys : List ℕ) (y : ℕ) → occurs (xs ++ ys) y ≡ occurs xs y + occurs ys y
occurs_append [] ys y = omega arith
occurs_append (x ∷ xs) ys y = let e = occurs_append xs ys y in omega arith

-- Of bindings.
abbrev pub count_all : List Bind → Variable → ℕ
count_all [] y = 0
count_all (b ∷ bs) y = count_bind b y + count_all bs y

abbrev pub binders_all : List Bind → List ℕ
binders_all [] = []
binders_all (b ∷ bs) = bind_binders b ++ binders_all bs

abbrev pub targets : List Field → List Atom
targets fs = map (λ (f : Field). f.target) fs

pub count_prepend : (bs : List Bind) (t : Term) (y : Variable) → count (prepend bs t) y ≡ count_all bs y + count t y
count_prepend [] t y = omega arith
count_prepend (b ∷ bs) t y = let e = count_prepend bs t y in omega arith

pub occurs_prepend : (bs : List Bind) (t : Term) (y : ℕ) → occurs (binders (prepend bs t)) y ≡ occurs (binders_all bs) y + occurs (binders t) y
occurs_prepend [] t y = omega arith
occurs_prepend (b ∷ bs) t y =
    let e = occurs_prepend bs t y in
    let p = occurs_append (bind_binders b) (binders (prepend bs t)) y in
    let q = occurs_append (bind_binders b) (binders_all bs) y in
    omega arith

-- A line that fills a head is what it was read from.
abbrev pub ending_line : Ending → Term
ending_line e = prepend (map pointing e.fields) (Write e.head e.con e.scalars e.packed)

abbrev pub filling_line : Filling → Term
filling_line l = prepend l.run (Then (Past l.room l.made) (ending_line l.ending))

abbrev IsEnding : Term → Option Ending → Type 0
IsEnding t None = Unit {0}
IsEnding t (Some e) = t ≡ ending_line e

abbrev pub IsFilling : Term → Option Filling → Type 0
IsFilling t None = Unit {0}
IsFilling t (Some l) = t ≡ filling_line l

field_more : (f : Field) (t : Term) (e : Option Ending) → IsEnding t e → IsEnding (Then (pointing f) t) (field_first f e)
field_more f t None h = tt
field_more f t (Some e) h = ap (λ z. Then (pointing f) z) h

is_ending : (t : Term) → IsEnding t (ending_of t)
is_ending (Write h k ss ps) = refl
is_ending (Point x) = tt
is_ending (CallTerm f xs) = tt
is_ending (Give x) = tt
is_ending (CaseTerm x bs) = tt
is_ending (IfTerm x t u) = tt
is_ending (Tuple tys ss ps) = tt
is_ending (Then (Past h k) rest) = tt
is_ending (Then (Both fork l r) rest) = tt
is_ending (Then (Prim x f y z) rest) = tt
is_ending (Then (Reach y by) rest) = tt
is_ending (Then (One (On Region x ty t)) rest) = tt
is_ending (Then (One (On Scalar x ty t)) rest) = tt
is_ending (Then (One (Several xs tys t)) rest) = tt
is_ending (Then (One (On Here x ty (Then b t))) rest) = tt
is_ending (Then (One (On Here x ty (Write h k ss ps))) rest) = tt
is_ending (Then (One (On Here x ty (CallTerm f xs))) rest) = tt
is_ending (Then (One (On Here x ty (Give y))) rest) = tt
is_ending (Then (One (On Here x ty (CaseTerm y bs))) rest) = tt
is_ending (Then (One (On Here x ty (IfTerm y t u))) rest) = tt
is_ending (Then (One (On Here x ty (Tuple tys ss ps))) rest) = tt
is_ending (Then (One (On Here x ty (Point y))) rest) = field_more (record { variable = x; ty = ty; target = y }) rest (ending_of rest) (is_ending rest)

room_more : (h : Variable) (k : ConId) (t : Term) (e : Option Ending) → IsEnding t e → IsFilling (Then (Past h k) t) (room_first h k e)
room_more h k t None p = tt
room_more h k t (Some e) p = ap (λ z. Then (Past h k) z) p

binding_more : (b : Bind) (t : Term) (l : Option Filling) → IsFilling t l → IsFilling (Then b t) (binding_first b l)
binding_more b t None h = tt
binding_more b t (Some l) h = ap (λ z. Then b z) h

pub is_filling : (t : Term) → IsFilling t (filling_of t)
is_filling (Write h k ss ps) = tt
is_filling (Point x) = tt
is_filling (CallTerm f xs) = tt
is_filling (Give x) = tt
is_filling (CaseTerm x bs) = tt
is_filling (IfTerm x t u) = tt
is_filling (Tuple tys ss ps) = tt
is_filling (Then (Past h k) rest) = room_more h k rest (ending_of rest) (is_ending rest)
is_filling (Then (One s) rest) = binding_more (One s) rest (filling_of rest) (is_filling rest)
is_filling (Then (Both fork l r) rest) = binding_more (Both fork l r) rest (filling_of rest) (is_filling rest)
is_filling (Then (Prim x f y z) rest) = binding_more (Prim x f y z) rest (filling_of rest) (is_filling rest)
is_filling (Then (Reach y by) rest) = binding_more (Reach y by) rest (filling_of rest) (is_filling rest)

-- What a line becomes, by the steps in which its run is laid: a law of all lines that fill a head.
module _ (once : Variable → Bool) (P : Term → Term → Type 0) (stay : (t : Term) → P t t)
    (laid : (l : Filling) (cs : List Bind) (xs : List Variable) → are_fields once l.ending.fields l.ending.packed ≡ true → Lays once (Past l.room l.made) false l.run l.ending.fields cs xs
    → P (filling_line l) (prepend cs (Write l.ending.head l.ending.con l.ending.scalars (as_atoms xs)))) where
  filled : (t : Term) (l : Option Filling) → IsFilling t l → P t (fill once t l)
  filled t None h = stay t
  filled t (Some l) h = go (are_fields once l.ending.fields l.ending.packed) refl
    where
      go : (b : Bool) → are_fields once l.ending.fields l.ending.packed ≡ b → P t (if b then laid_line l.ending (lay once l.run (Past l.room l.made ∷ []) l.ending.fields) else t)
      go true e = subst (λ (z : Term). P z (laid_line l.ending (lay once l.run (Past l.room l.made ∷ []) l.ending.fields))) (sym h)
          (laid l (lay once l.run (Past l.room l.made ∷ []) l.ending.fields).binds (lay once l.run (Past l.room l.made ∷ []) l.ending.fields).standing e (lay_lays once (Past l.room l.made) l.run false l.ending.fields))
      go false e = stay t

  pub line_by_steps : (t : Term) → P t (place_line once t)
  line_by_steps t = filled t (filling_of t) (is_filling t)

-- The fields of a line, by their variables.
pub fields_named : (once : Variable → Bool) (fs : List Field) (ps : List Atom) → are_fields once fs ps ≡ true → ps ≡ as_atoms (variables fs)
fields_named once [] [] e = refl
fields_named once [] (y ∷ ys) e = absurd cc
fields_named once (f ∷ fs) [] e = absurd cc
fields_named once (f ∷ fs) (y ∷ ys) e =
    let h = and_parts (is_variable f.variable y && once f.variable) (are_fields once fs ys) e in
    let k = and_parts (is_variable f.variable y) (once f.variable) h.0 in
    λ i. is_that f.variable y k.0 i ∷ fields_named once fs ys h.1 i

pub fields_once : (once : Variable → Bool) (fs : List Field) (ps : List Atom) → are_fields once fs ps ≡ true → (y : Variable) → is_among (variables fs) y ≡ true → once y ≡ true
fields_once once [] ps e y m = absurd cc
fields_once once (f ∷ fs) [] e y m = absurd cc
fields_once once (f ∷ fs) (p ∷ ps) e y m =
    let h = and_parts (is_variable f.variable p && once f.variable) (are_fields once fs ps) e in
    let k = and_parts (is_variable f.variable p) (once f.variable) h.0 in
    go (f.variable.0 == y.0) refl m k.1 (fields_once once fs ps h.1 y)
  where
    go : (b : Bool) → (f.variable.0 == y.0) ≡ b → (b || is_among (variables fs) y) ≡ true → once f.variable ≡ true → (is_among (variables fs) y ≡ true → once y ≡ true) → once y ≡ true
    go true q m o more = subst (λ (z : Variable). once z ≡ true) (same_variable f.variable y q) o
    go false q m o more = more m

-- The variable of one is counted there.
pub counted : (xs : List Variable) (y : Variable) → is_among xs y ≡ true → 1 ≤ count_in y (as_atoms xs)
counted [] y m = absurd cc
counted (x ∷ xs) y m = go (x.0 == y.0) m (counted xs y)
  where
    go : (b : Bool) → (b || is_among xs y) ≡ true → (is_among xs y ≡ true → 1 ≤ count_in y (as_atoms xs)) → 1 ≤ (if b then 1 else 0) + count_in y (as_atoms xs)
    go true m h = omega arith
    go false m h = let k = h m in omega arith

pub not_counted : (xs : List Variable) (y : Variable) → count_in y (as_atoms xs) ≡ 0 → is_among xs y ≡ false
not_counted xs y e = false_from_ne_true (is_among xs y) (λ m. let k = counted xs y m in omega arith)

module _ (once : Variable → Bool) (h : Variable) (k : ConId) where
  -- No variable is used more often than before.
  pub lays_count : {o : Bool} {bs : List Bind} {fs : List Field} {cs : List Bind} {xs : List Variable} → Lays once (Past h k) o bs fs cs xs → (y : Variable)
      → count_all cs y + count_in y (as_atoms xs) ≤ count_all bs y + (count_in y (targets fs) + count_in y (as_atoms (variables fs)))
  lays_count ends y = omega arith
  lays_count (opens l) y = let k = lays_count l y in omega arith
  lays_count (puts e l) y = let k = lays_count l y in omega arith
  lays_count (stays l) y = let k = lays_count l y in omega arith
  lays_count (one o e l) y = let k = lays_count l y in let z = ap (count_atom y) e in omega arith
  lays_count (left o e l) y = let k = lays_count l y in let z = ap (count_atom y) e in omega arith
  lays_count (right o e l) y = let k = lays_count l y in let z = ap (count_atom y) e in omega arith
  lays_count (both o e p d l) y = let k = lays_count l y in let z = ap (count_atom y) e in let w = ap (count_atom y) d in omega arith

  abbrev room_binders : Bool → List ℕ
  room_binders true = []
  room_binders false = h.0 ∷ []

  -- Nor is it bound more often.
  pub lays_occurs : {o : Bool} {bs : List Bind} {fs : List Field} {cs : List Bind} {xs : List Variable} → Lays once (Past h k) o bs fs cs xs → (y : ℕ)
      → occurs (binders_all cs) y ≤ occurs (room_binders o) y + (occurs (binders_all bs) y + occurs (map (λ (x : Variable). x.0) (variables fs)) y)
  lays_occurs ends y = omega arith
  lays_occurs (opens l) y = let k = lays_occurs l y in omega arith
  lays_occurs (puts e l) y = let k = lays_occurs l y in omega arith
  lays_occurs (stays {b = b} {bs = bs} {cs = cs} l) y = let k = lays_occurs l y in let p = occurs_append (bind_binders b) (binders_all bs) y in let q = occurs_append (bind_binders b) (binders_all cs) y in omega arith
  lays_occurs (one {x = x} {t = t} {bs = bs} {cs = cs} o e l) y =
      let k = lays_occurs l y in let p = occurs_append (x.0 ∷ binders t) (binders_all bs) y in let q = occurs_append (x.0 ∷ binders t) (binders_all cs) y in omega arith
  lays_occurs (left {x = x} {t = t} {r = r} {bs = bs} {cs = cs} o e l) y =
      let k = lays_occurs l y in let p = occurs_append ((x.0 ∷ binders t) ++ side_binders r) (binders_all bs) y in let q = occurs_append ((x.0 ∷ binders t) ++ side_binders r) (binders_all cs) y in omega arith
  lays_occurs (right {l = s} {y = x} {u = u} {bs = bs} {cs = cs} o e l) y =
      let k = lays_occurs l y in let p = occurs_append (side_binders s ++ x.0 ∷ binders u) (binders_all bs) y in let q = occurs_append (side_binders s ++ x.0 ∷ binders u) (binders_all cs) y in omega arith
  lays_occurs (both {x = x} {t = t} {y = z} {u = u} {bs = bs} {cs = cs} o e p d l) y =
      let k = lays_occurs l y in let p = occurs_append ((x.0 ∷ binders t) ++ z.0 ∷ binders u) (binders_all bs) y in let q = occurs_append ((x.0 ∷ binders t) ++ z.0 ∷ binders u) (binders_all cs) y in omega arith

-- A line's own counts.
count_fields : (fs : List Field) (y : Variable) → count_all (map pointing fs) y ≡ count_in y (targets fs)
count_fields [] y = refl
count_fields (f ∷ fs) y = let e = count_fields fs y in omega arith

occurs_fields : (fs : List Field) (y : ℕ) → occurs (binders_all (map pointing fs)) y ≡ occurs (map (λ (x : Variable). x.0) (variables fs)) y
occurs_fields [] y = refl
occurs_fields (f ∷ fs) y = let e = occurs_fields fs y in omega arith

pub count_line : (l : Filling) (y : Variable) → count (filling_line l) y ≡ count_all l.run y + (count_in y (targets l.ending.fields) + (count_in y l.ending.scalars + count_in y l.ending.packed))
count_line l y =
    let e = l.ending in
    let p = count_prepend l.run (Then (Past l.room l.made) (ending_line e)) y in
    let q = count_prepend (map pointing e.fields) (Write e.head e.con e.scalars e.packed) y in
    let r = count_fields e.fields y in
    omega arith

pub occurs_line : (l : Filling) (y : ℕ) → occurs (binders (filling_line l)) y ≡ occurs (binders_all l.run) y + (occurs (l.room.0 ∷ []) y + occurs (map (λ (x : Variable). x.0) (variables l.ending.fields)) y)
occurs_line l y =
    let e = l.ending in
    let p = occurs_prepend l.run (Then (Past l.room l.made) (ending_line e)) y in
    let q = occurs_prepend (map pointing e.fields) (Write e.head e.con e.scalars e.packed) y in
    let r = occurs_fields e.fields y in
    omega arith

-- What a line becomes uses and binds no variable more often.
record Fewer (t u : Term) : Type 0 where
  pub uses : (y : Variable) → count u y ≤ count t y
  pub binds : (y : ℕ) → occurs (binders u) y ≤ occurs (binders t) y

line_fewer : (once : Variable → Bool) (t : Term) → Fewer t (place_line once t)
line_fewer once t = line_by_steps once Fewer (λ z. record { uses = λ y. omega arith; binds = λ y. omega arith }) (λ l cs xs fit h. record {
  uses = λ y.
      let p = count_line l y in
      let q = count_prepend cs (Write l.ending.head l.ending.con l.ending.scalars (as_atoms xs)) y in
      let r = lays_count once l.room l.made h y in
      let n = ap (count_in y) (fields_named once l.ending.fields l.ending.packed fit) in
      omega arith;
  binds = λ y.
      let p = occurs_line l y in
      let q = occurs_prepend cs (Write l.ending.head l.ending.con l.ending.scalars (as_atoms xs)) y in
      let r = lays_occurs once l.room l.made h y in
      omega arith;
}) t

module _ (once : Variable → Bool) where
  -- So do all lines that are nested in a term.
  less_used : (y : Variable) → Maps (λ (m n : ℕ). m ≤ n) (◌+◌) 0 (entry_counts y) as_bound (placed_inside once)
  less_used y = record {
    same = λ m. omega arith;
    chain = λ k m n p q. omega arith;
    two = λ k m n o p q. omega arith;
    bound = λ b. omega arith;
    nested = λ s t. (line_fewer once t).uses y;
  }

  less_bound : (y : ℕ) → Maps (λ (xs ys : List ℕ). occurs xs y ≤ occurs ys y) (◌++◌) [] numbers_in as_bound (placed_inside once)
  less_bound y = record {
    same = λ xs. omega arith;
    chain = λ xs ys zs p q. omega arith;
    two = λ xs ys zs ws p q. let m = occurs_append xs ys y in let n = occurs_append zs ws y in omega arith;
    bound = λ b. omega arith;
    nested = λ s t. (line_fewer once t).binds y;
  }

  -- Before its own line is placed.
  pub before_uses : (t : Term) (y : Variable) → count (place_inner once t) y ≤ count t y
  before_uses t y = map_joins (λ (m n : ℕ). m ≤ n) (◌+◌) 0 (entry_counts y) as_bound (placed_inside once) (less_used y) t

  pub before_binds : (t : Term) (y : ℕ) → occurs (binders (place_inner once t)) y ≤ occurs (binders t) y
  before_binds t y = map_joins (λ (xs ys : List ℕ). occurs xs y ≤ occurs ys y) (◌++◌) [] numbers_in as_bound (placed_inside once) (less_bound y) t

  pub place_binds : (t : Term) (y : ℕ) → occurs (binders (place once t)) y ≤ occurs (binders t) y
  place_binds t y = let p = before_binds t y in let m = (line_fewer once (place_inner once t)).binds y in omega arith
