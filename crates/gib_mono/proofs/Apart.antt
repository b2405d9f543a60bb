-- Names of copies are different.
use Rattle.std.proofs.Common.{◌≡◌, ℕ, zero, suc, Bool, true, false, ◌==◌, if◌then◌else◌, List, [], ◌∷◌, ◌++◌, map, Some, refl, sym, ap, ◌∙◌, subst}
use Rattle.std.specs.Prelude.{slice_get}
use Rattle.std.specs.Option.{option_map}
use Rattle.std.specs.List.{AllByRecursion}
use Rattle.std.proofs.lemmas.Option.{same_Some, slice_get-map}
use Rattle.std.proofs.lemmas.Bool.{eqb-true, eq-eqb, both_ways}
use Rattle.gib_syntax.specs.Tree.{FunctionTree}
use Rattle.gib_syntax.specs.Declarations.{number_of, place_of, AreDifferent, function_named}
use Rattle.gib_syntax.specs.Forms.{Forms}
use Rattle.gib_syntax.specs.GenericTree.{GenericConstructorTree, GenericDataTree, GenericProgramTree, GenericRow, row_of, rows_of, GenericGlobals, globals_of_generic, generic_named, data_named}
use Rattle.gib_syntax.specs.GenericTyping.{IsTypedGeneric}
use Rattle.gib_mono.specs.Copying.{Naming}
use Rattle.gib_mono.specs.Copied.{Item}
use Rattle.gib_mono.specs.Walk.{Copy, DataOf, FunctionOf, is_found, DataCopy, FunctionCopy, datas_in, function_copies, Made, made_of, made_from, IsNaming}
use Rattle.gib_mono.specs.Closed.{AreApart, IsDeclared}
use Rattle.gib_mono.proofs.Here.{map_found}
use Rattle.gib_mono.proofs.Tables.{absent_from, place_some, none_some, different_both, different_back, map_both, made_found, data_in_found, function_in_found, rows_at, one_row}
use Rattle.gib_check.proofs.DataRules.{different_front}

-- the numbers of names of copies
abbrev pub type_key : Naming → DataCopy → ℕ
type_key nm c = nm.types (number_of c.decl.name) c.types

abbrev pub function_key : Naming → FunctionCopy → ℕ
function_key nm c = nm.functions (number_of c.function.name) c.types

abbrev pub constructor_key : Naming → Made → ℕ
constructor_key nm m = nm.constructors (number_of m.constructor.name) m.copy.types

-- a naming of more copies is one of fewer
naming_tail : (nm : Naming) (names : List Item) (c : Copy) (cs : List Copy) → IsNaming nm names (c ∷ cs) → IsNaming nm names cs
naming_tail nm names (DataOf d ts) cs h =
    record {
      types = λ i c e. h.types (suc i) c e;
      constructors = λ i j c k e f. h.constructors (suc i) j c k e f;
      functions = h.functions;
      types_apart = h.types_apart;
      constructors_apart = h.constructors_apart;
      functions_apart = h.functions_apart;
    }
naming_tail nm names (FunctionOf f ts) cs h =
    record {
      types = h.types;
      constructors = h.constructors;
      functions = λ i c e. h.functions (suc i) c e;
      types_apart = h.types_apart;
      constructors_apart = h.constructors_apart;
      functions_apart = h.functions_apart;
    }

pub data_declared : (g : GenericGlobals) (found : List Copy) (i : ℕ) (c : DataCopy) → AllByRecursion (IsDeclared g) found → slice_get (datas_in found) i ≡ Some c → data_named g.datas (number_of c.decl.name) ≡ Some c.decl
data_declared g [] i c h e = absurd cc
data_declared g (DataOf d ts ∷ cs) zero c h e = subst (λ (u : DataCopy). data_named g.datas (number_of u.decl.name) ≡ Some u.decl) (same_Some (record { decl = d; types = ts }) c e) h.0.0
data_declared g (DataOf d ts ∷ cs) (suc i) c h e = data_declared g cs i c h.1 e
data_declared g (FunctionOf f ts ∷ cs) i c h e = data_declared g cs i c h.1 e

pub function_declared : (g : GenericGlobals) (found : List Copy) (i : ℕ) (c : FunctionCopy) → AllByRecursion (IsDeclared g) found → slice_get (function_copies found) i ≡ Some c → generic_named g.functions (number_of c.function.name) ≡ Some c.function
function_declared g [] i c h e = absurd cc
function_declared g (DataOf d ts ∷ cs) i c h e = function_declared g cs i c h.1 e
function_declared g (FunctionOf f ts ∷ cs) zero c h e = subst (λ (u : FunctionCopy). generic_named g.functions (number_of u.function.name) ≡ Some u.function) (same_Some (record { function = f; types = ts }) c e) h.0
function_declared g (FunctionOf f ts ∷ cs) (suc i) c h e = function_declared g cs i c h.1 e

-- Types

pub types_different : (nm : Naming) (names : List Item) (found : List Copy) → IsNaming nm names found → AreApart found → AreDifferent (map (type_key nm) (datas_in found))
types_different nm names [] is h = tt {0}
types_different nm names (DataOf d ts ∷ cs) is h = (
  absent_from (map (type_key nm) (datas_in cs)) (nm.types (number_of d.name) ts) (λ i e.
      let c = map_found DataCopy ℕ (type_key nm) (datas_in cs) i (nm.types (number_of d.name) ts) e in
      let a = is.types 0 (record { decl = d; types = ts }) refl in
      let b = is.types (suc i) c.0 c.1 in
      let same = is.types_apart a.0 b.0 (record { name = number_of d.name; types = ts }) (record { name = number_of (c.0).decl.name; types = (c.0).types }) a.1 b.1 c.2 in
      both_ways (is_found cs (DataOf d ts)) h.0 (data_in_found cs i c.0 d ts c.1 (ap (λ (u : Item). u.name) (sym same)) (ap (λ (u : Item). u.types) (sym same)))),
  types_different nm names cs (naming_tail nm names (DataOf d ts) cs is) h.1,
)
types_different nm names (FunctionOf f ts ∷ cs) is h = types_different nm names cs (naming_tail nm names (FunctionOf f ts) cs is) h.1

pub functions_different : (nm : Naming) (names : List Item) (found : List Copy) → IsNaming nm names found → AreApart found → AreDifferent (map (function_key nm) (function_copies found))
functions_different nm names [] is h = tt {0}
functions_different nm names (DataOf d ts ∷ cs) is h = functions_different nm names cs (naming_tail nm names (DataOf d ts) cs is) h.1
functions_different nm names (FunctionOf f ts ∷ cs) is h = (
  absent_from (map (function_key nm) (function_copies cs)) (nm.functions (number_of f.name) ts) (λ i e.
      let c = map_found FunctionCopy ℕ (function_key nm) (function_copies cs) i (nm.functions (number_of f.name) ts) e in
      let a = is.functions 0 (record { function = f; types = ts }) refl in
      let b = is.functions (suc i) c.0 c.1 in
      let same = is.functions_apart a.0 b.0 (record { name = number_of f.name; types = ts }) (record { name = number_of (c.0).function.name; types = (c.0).types }) a.1 b.1 c.2 in
      both_ways (is_found cs (FunctionOf f ts)) h.0 (function_in_found cs i c.0 f ts c.1 (ap (λ (u : Item). u.name) (sym same)) (ap (λ (u : Item). u.types) (sym same)))),
  functions_different nm names cs (naming_tail nm names (FunctionOf f ts) cs is) h.1,
)

-- Constructors

own_names : (d : GenericDataTree) (ks : List GenericConstructorTree) → map (λ (r : GenericRow). r.name) (map (row_of d) ks) ≡ map (λ (k : GenericConstructorTree). number_of k.name) ks
own_names d [] = refl
own_names d (k ∷ ks) = ap (λ (ns : List ℕ). number_of k.name ∷ ns) (own_names d ks)

own_different : (ds : List GenericDataTree) (x : ℕ) (d : GenericDataTree) → data_named ds x ≡ Some d → AreDifferent (map (λ (r : GenericRow). r.name) (rows_of ds)) → AreDifferent (map (λ (k : GenericConstructorTree). number_of k.name) d.constructors)
own_different [] x d e h = absurd cc
own_different (b ∷ ds) x d e h =
    let split : AreDifferent (map (λ (r : GenericRow). r.name) (map (row_of b) b.constructors) ++ map (λ (r : GenericRow). r.name) (rows_of ds)) =
    subst AreDifferent (map_both GenericRow ℕ (λ (r : GenericRow). r.name) (map (row_of b) b.constructors) (rows_of ds)) h in
    step (number_of b.name == x) e (different_front (map (λ (r : GenericRow). r.name) (map (row_of b) b.constructors)) (map (λ (r : GenericRow). r.name) (rows_of ds)) split)
    (λ f. own_different ds x d f (different_back (map (λ (r : GenericRow). r.name) (map (row_of b) b.constructors)) (map (λ (r : GenericRow). r.name) (rows_of ds)) split)) where
      step : (t : Bool) → (if t then Some b else data_named ds x) ≡ Some d → AreDifferent (map (λ (r : GenericRow). r.name) (map (row_of b) b.constructors)) →
          (data_named ds x ≡ Some d → AreDifferent (map (λ (k : GenericConstructorTree). number_of k.name) d.constructors)) → AreDifferent (map (λ (k : GenericConstructorTree). number_of k.name) d.constructors)
      step true f mine go = subst (λ (u : GenericDataTree). AreDifferent (map (λ (k : GenericConstructorTree). number_of k.name) u.constructors)) (same_Some b d f) (subst AreDifferent (own_names b b.constructors) mine)
      step false f mine go = go f

keys_are : (nm : Naming) (n : ℕ) (c : DataCopy) (ks : List GenericConstructorTree) → map (constructor_key nm) (map (made_of n c) ks) ≡ map (λ (k : GenericConstructorTree). nm.constructors (number_of k.name) c.types) ks
keys_are nm n c [] = refl
keys_are nm n c (k ∷ ks) = ap (λ (ns : List ℕ). nm.constructors (number_of k.name) c.types ∷ ns) (keys_are nm n c ks)

front_different : (nm : Naming) (names : List Item) (found : List Copy) (ts : Forms) (ks : List GenericConstructorTree) → IsNaming nm names found →
    ((j : ℕ) (k : GenericConstructorTree) → slice_get ks j ≡ Some k → (n : ℕ) × (slice_get names n ≡ Some (record { name = number_of k.name; types = ts }))) →
    AreDifferent (map (λ (k : GenericConstructorTree). number_of k.name) ks) → AreDifferent (map (λ (k : GenericConstructorTree). nm.constructors (number_of k.name) ts) ks)
front_different nm names found ts [] is here h = tt {0}
front_different nm names found ts (k ∷ ks) is here h = (
  absent_from (map (λ (k : GenericConstructorTree). nm.constructors (number_of k.name) ts) ks) (nm.constructors (number_of k.name) ts) (λ i e.
      let c = map_found GenericConstructorTree ℕ (λ (k : GenericConstructorTree). nm.constructors (number_of k.name) ts) ks i (nm.constructors (number_of k.name) ts) e in
      let a = here 0 k refl in
      let b = here (suc i) c.0 c.1 in
      let same = is.constructors_apart a.0 b.0 (record { name = number_of k.name; types = ts }) (record { name = number_of (c.0).name; types = ts }) a.1 b.1 c.2 in
      let again = place_some (map (λ (k : GenericConstructorTree). number_of k.name) ks) (number_of k.name) i (slice_get-map (λ (k : GenericConstructorTree). number_of k.name) ks i ∙ ap (option_map (λ (k : GenericConstructorTree). number_of k.name)) c.1 ∙ ap (λ (u : Item). Some u.name) (sym same)) in
      none_some (place_of (map (λ (k : GenericConstructorTree). number_of k.name) ks) (number_of k.name)) again.0 again.1 h.0),
  front_different nm names found ts ks is (λ j c e. here (suc j) c e) h.1,
)

pub constructors_different : (p : GenericProgramTree) (nm : Naming) (names : List Item) (found : List Copy) (n : ℕ) → IsTypedGeneric p → IsNaming nm names found → AreApart found → AllByRecursion (IsDeclared (globals_of_generic p)) found →
    AreDifferent (map (constructor_key nm) (made_from n (datas_in found)))
constructors_different p nm names [] n typed is h own = tt {0}
constructors_different p nm names (DataOf d ts ∷ cs) n typed is h own =
    let c : DataCopy = record { decl = d; types = ts } in
    subst AreDifferent (sym (map_both Made ℕ (constructor_key nm) (map (made_of n c) d.constructors) (made_from (suc n) (datas_in cs))))
    (different_both (map (constructor_key nm) (map (made_of n c) d.constructors)) (map (constructor_key nm) (made_from (suc n) (datas_in cs)))
    (subst AreDifferent (sym (keys_are nm n c d.constructors))
    (front_different nm names (DataOf d ts ∷ cs) ts d.constructors is (λ j k e. is.constructors 0 j c k refl e) (own_different p.datas (number_of d.name) d own.0.0 typed.constructors_differ)))
    (constructors_different p nm names cs (suc n) typed (naming_tail nm names (DataOf d ts) cs is) h.1 own.1)
    (λ i j x e f.
    let k = map_found GenericConstructorTree ℕ (λ (k : GenericConstructorTree). nm.constructors (number_of k.name) ts) d.constructors i x (subst (λ (u : List ℕ). slice_get u i ≡ Some x) (keys_are nm n c d.constructors) e) in
    let m = map_found Made ℕ (constructor_key nm) (made_from (suc n) (datas_in cs)) j x f in
    let made = made_found (suc n) (datas_in cs) j m.0 m.1 in
    let a = is.constructors 0 i c k.0 refl k.1 in
    let b = is.constructors (suc made.index) made.place (m.0).copy (m.0).constructor made.copied made.there in
    let same = is.constructors_apart a.0 b.0 (record { name = number_of (k.0).name; types = ts }) (record { name = number_of (m.0).constructor.name; types = (m.0).copy.types }) a.1 b.1 (sym k.2 ∙ m.2) in
    let mine = rows_at p d i k.0 own.0.0 k.1 in
    let other = rows_at p (m.0).copy.decl made.place (m.0).constructor (data_declared (globals_of_generic p) cs made.index (m.0).copy own.1 made.copied) made.there in
    let place : mine.0 ≡ other.0 = one_row p typed mine.0 other.0 (row_of d k.0) (row_of (m.0).copy.decl (m.0).constructor) mine.1 other.1 (ap (λ (u : Item). u.name) same) in
    let row : row_of d k.0 ≡ row_of (m.0).copy.decl (m.0).constructor = same_Some (row_of d k.0) (row_of (m.0).copy.decl (m.0).constructor) (sym mine.1 ∙ ap (slice_get (rows_of p.datas)) place ∙ other.1) in
    both_ways (is_found cs (DataOf d ts)) h.0 (data_in_found cs made.index (m.0).copy d ts made.copied (ap (λ (u : GenericRow). u.owner) (sym row)) (ap (λ (u : Item). u.types) (sym same)))))
constructors_different p nm names (FunctionOf f ts ∷ cs) n typed is h own = constructors_different p nm names cs n typed (naming_tail nm names (FunctionOf f ts) cs is) h.1 own.1

-- a function is found by its name where names are different
pub function_at : (fs : List FunctionTree) (i : ℕ) (f : FunctionTree) → AreDifferent (map (λ (f : FunctionTree). number_of f.name) fs) → slice_get fs i ≡ Some f → function_named fs (number_of f.name) ≡ Some f
function_at [] i f h e = absurd cc
function_at (b ∷ fs) zero f h e =
    let is : b ≡ f = same_Some b f e in
    rw (eq-eqb (number_of b.name) (number_of f.name) (ap (λ (u : FunctionTree). number_of u.name) is)) e
function_at (b ∷ fs) (suc i) f h e = step (number_of b.name == number_of f.name) (eqb-true (number_of b.name) (number_of f.name)) (function_at fs i f h.1 e) where
  step : (t : Bool) → (t ≡ true → number_of b.name ≡ number_of f.name) → function_named fs (number_of f.name) ≡ Some f → (if t then Some b else function_named fs (number_of f.name)) ≡ Some f
  step false is go = go
  step true is go =
      let again = place_some (map (λ (f : FunctionTree). number_of f.name) fs) (number_of b.name) i (slice_get-map (λ (f : FunctionTree). number_of f.name) fs i ∙ ap (option_map (λ (f : FunctionTree). number_of f.name)) e ∙ ap Some (sym (is refl))) in
      absurd (none_some (place_of (map (λ (f : FunctionTree). number_of f.name) fs) (number_of b.name)) again.0 again.1 h.0)
