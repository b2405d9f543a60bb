-- How copies are named: by a list of names with types.
use Rattle.std.specs.Prelude.{◌≡◌, ◌<◌, ℕ, suc, ◌+◌, ◌==◌, ◌&&◌, ◌||◌, Bool, false, if◌then◌else◌, List, [], ◌∷◌, ◌++◌, map, slice_get, Some}
use Rattle.std.specs.List.{AllByRecursion}
use Rattle.gib_syntax.specs.Declarations.{number_of}
use Rattle.gib_syntax.specs.Forms.{Forms, NoForm, MoreForms}
use Rattle.gib_syntax.specs.GenericTree.{GenericConstructorTree, GenericDataTree, GenericFunctionTree, GenericProgramTree}
use Rattle.gib_mono.specs.Copying.{Naming}
use Rattle.gib_mono.specs.Copied.{Item}
use Rattle.gib_types.specs.SameForm.{same_forms}
use Rattle.gib_mono.specs.Walk.{Copy, DataOf, FunctionOf}

-- A name with types.
abbrev pub entry : ℕ → Forms → Item
entry x ts = record { name = x; types = ts }

-- The names that a copy brings: its own, and of a type those of its constructors.
abbrev pub copy_entries : Copy → List Item
copy_entries (DataOf d ts) = entry (number_of d.name) ts ∷ map (λ (k : GenericConstructorTree). entry (number_of k.name) ts) d.constructors
copy_entries (FunctionOf f ts) = entry (number_of f.name) ts ∷ []

-- Those of all copies, in their order. A type and a constructor may share a name.
abbrev pub listed_entries : List Copy → List Item
listed_entries [] = []
listed_entries (c ∷ cs) = copy_entries c ++ listed_entries cs

-- The name with these types is among these.
abbrev pub is_entry : List Item → Item → Bool
is_entry [] i = false
is_entry (j ∷ js) i = ((j.name == i.name) && same_forms j.types i.types) || is_entry js i

-- With one more, where it is none of these.
abbrev pub with_entry : List Item → Item → List Item
with_entry items i = if is_entry items i then items else items ++ i ∷ []

-- With more of them, one after another.
abbrev pub with_entries : List Item → List Item → List Item
with_entries items [] = items
with_entries items (i ∷ is) = with_entries (with_entry items i) is

-- The names of copies, each once, in the order in which they first come.
abbrev pub entries : List Copy → List Item
entries found = with_entries [] (listed_entries found)

-- The place of the entry that is a name with these types; behind all where none is.
abbrev pub entry_place : List Item → ℕ → Forms → ℕ
entry_place [] x ts = 0
entry_place (i ∷ is) x ts = if (i.name == x) && same_forms i.types ts then 0 else suc (entry_place is x ts)

-- The number of a name with types: without types the name's own; else behind those of all names of the source.
abbrev pub number_with : ℕ → List Item → ℕ → Forms → ℕ
number_with base names x NoForm = x
number_with base names x (MoreForms t ts) = base + entry_place names x (MoreForms t ts)

-- The naming of these.
abbrev pub naming_of : ℕ → List Item → Naming
naming_of base names = record { types = number_with base names; constructors = number_with base names; functions = number_with base names }

-- All names of copies are below a number, as those of a source are below their count.
abbrev pub AreBelow : ℕ → List Copy → Type 0
AreBelow base found = (n : ℕ) (i : Item) → slice_get (entries found) n ≡ Some i → i.name < base

-- The names of all items are below a number.
abbrev pub AreItemsBelow : ℕ → List Item → Type 0
AreItemsBelow base items = (n : ℕ) (i : Item) → slice_get items n ≡ Some i → i.name < base

-- The names of a program's types, constructors and functions are.
pub record AreNamedBelow (base : ℕ) (p : GenericProgramTree) : Type 0 where
  pub types : AllByRecursion (λ (d : GenericDataTree). number_of d.name < base) p.datas
  pub constructors : AllByRecursion (λ (d : GenericDataTree). AllByRecursion (λ (k : GenericConstructorTree). number_of k.name < base) d.constructors) p.datas
  pub functions : AllByRecursion (λ (f : GenericFunctionTree). number_of f.name < base) p.functions
