-- Copies have the names of declarations.
use Rattle.std.proofs.Common.{◌≡◌, ℕ, zero, suc, ◌<◌, List, [], ◌∷◌, ◌++◌, map, Bool, true, false, ◌==◌, if◌then◌else◌, Some, Ok, subst}
use Rattle.std.specs.List.{AllByRecursion}
use Rattle.std.proofs.lemmas.Option.{same_Some}
use Rattle.gib_syntax.specs.Declarations.{number_of}
use Rattle.gib_syntax.specs.Forms.{Forms}
use Rattle.gib_syntax.specs.GenericTree.{GenericConstructorTree, GenericDataTree, GenericFunctionTree, GenericProgramTree, globals_of_generic, generic_named}
use Rattle.gib_syntax.specs.GenericFine.{HasGenericConstructor}
use Rattle.gib_syntax.specs.GenericTyping.{IsTypedGeneric}
use Rattle.gib_mono.specs.Copied.{Item}
use Rattle.gib_mono.specs.Walk.{Copy, DataOf, FunctionOf, copies_of}
use Rattle.gib_mono.specs.Closed.{IsDeclared}
use Rattle.gib_mono.specs.Naming.{entry, copy_entries, listed_entries, is_entry, with_entry, with_entries, entries, AreBelow, AreItemsBelow, AreNamedBelow}
use Rattle.gib_mono.proofs.Closing.{data_found}
use Rattle.gib_mono.proofs.Copies.{copies_closed}

-- what holds of all functions holds of the one that a name finds
function_holds : (P : GenericFunctionTree → Type 0) (fs : List GenericFunctionTree) (x : ℕ) (f : GenericFunctionTree) → AllByRecursion P fs → generic_named fs x ≡ Some f → P f
function_holds P [] x f h e = absurd cc
function_holds P (b ∷ fs) x f h e = step (number_of b.name == x) e (λ g. function_holds P fs x f h.1 g) where
  step : (t : Bool) → (if t then Some b else generic_named fs x) ≡ Some f → (generic_named fs x ≡ Some f → P f) → P f
  step true g go = subst P (same_Some b f g) h.0
  step false g go = go g

module _ (p : GenericProgramTree) (base : ℕ) (is : AreNamedBelow base p) where
  abbrev B : Item → Type 0
  B i = i.name < base

  all_both : (xs ys : List Item) → AllByRecursion B xs → AllByRecursion B ys → AllByRecursion B (xs ++ ys)
  all_both [] ys h k = k
  all_both (x ∷ xs) ys h k = (h.0, all_both xs ys h.1 k)

  own_constructors : (ts : Forms) (ks : List GenericConstructorTree) → AllByRecursion (λ (k : GenericConstructorTree). number_of k.name < base) ks → AllByRecursion B (map (λ (k : GenericConstructorTree). entry (number_of k.name) ts) ks)
  own_constructors ts [] h = tt {0}
  own_constructors ts (k ∷ ks) h = (h.0, own_constructors ts ks h.1)

  own : (c : Copy) → IsDeclared (globals_of_generic p) c → AllByRecursion B (copy_entries c)
  own (DataOf d ts) h = (
    data_found (λ (d : GenericDataTree). number_of d.name < base) p.datas (number_of d.name) d is.types h.0,
    own_constructors ts d.constructors
        (data_found (λ (d : GenericDataTree). AllByRecursion (λ (k : GenericConstructorTree). number_of k.name < base) d.constructors) p.datas (number_of d.name) d is.constructors h.0),
  )
  own (FunctionOf f ts) h = (function_holds (λ (f : GenericFunctionTree). number_of f.name < base) p.functions (number_of f.name) f is.functions h, tt {0})

  listed : (found : List Copy) → AllByRecursion (IsDeclared (globals_of_generic p)) found → AllByRecursion B (listed_entries found)
  listed [] h = tt {0}
  listed (c ∷ cs) h = all_both (copy_entries c) (listed_entries cs) (own c h.0) (listed cs h.1)

  with_one : (items : List Item) (i : Item) → AllByRecursion B items → B i → AllByRecursion B (with_entry items i)
  with_one items i h k = step (is_entry items i) where
    step : (b : Bool) → AllByRecursion B (if b then items else items ++ i ∷ [])
    step true = h
    step false = all_both items (i ∷ []) h (k, tt {0})

  with_all : (items js : List Item) → AllByRecursion B items → AllByRecursion B js → AllByRecursion B (with_entries items js)
  with_all items [] h k = h
  with_all items (j ∷ js) h k = with_all (with_entry items j) js (with_one items j h k.0) k.1

  all_at : (items : List Item) → AllByRecursion B items → AreItemsBelow base items
  all_at [] h n i e = absurd cc
  all_at (x ∷ items) h zero i e = subst B (same_Some x i e) h.0
  all_at (x ∷ items) h (suc n) i e = all_at items h.1 n i e

  pub declared_below : (found : List Copy) → AllByRecursion (IsDeclared (globals_of_generic p)) found → AreBelow base found
  declared_below found h = all_at (entries found) (with_all [] (listed_entries found) (tt {0}) (listed found h))

-- the names of copies are below what those of all declarations are
pub copies_below : (p : GenericProgramTree) (base : ℕ) (found : List Copy) → AreNamedBelow base p → IsTypedGeneric p → AllByRecursion HasGenericConstructor p.datas → copies_of p ≡ Ok found → AreBelow base found
copies_below p base found is typed fine e = declared_below p base is found (copies_closed p found fine typed e).0.good.declared
