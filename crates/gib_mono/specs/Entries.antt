-- Names of copies as the code keeps them.
use Rattle.std.specs.Prelude.{ℕ, suc, ◌==◌, ◌&&◌, ◌||◌, Bool, false, List, [], ◌∷◌, ◌++◌, if◌then◌else◌, map}
use Rattle.std.specs.List.{AllByRecursion}
use Rattle.gib_types.specs.Form.{Form}
use Rattle.gib_types.specs.declared.types.TypeNode.{TypeNode}
use Rattle.gib_types.specs.Types.{forms_at, forms_of, AreBelow}
use Rattle.gib_mono.specs.declared.entries.Entry.{Entry}
use Rattle.gib_mono.specs.Copied.{Item}
use Rattle.gib_mono.specs.Found.{same_ids}

-- Equal names with equal numbers of types.
abbrev pub same_key : Entry → Entry → Bool
same_key a b = (a.name == b.name) && same_ids a.types.items b.types.items

-- It is one of these.
abbrev pub has_key : List Entry → Entry → Bool
has_key [] e = false
has_key (k ∷ ks) e = same_key e k || has_key ks e

-- With one more, where it is none of these.
abbrev pub with_key : List Entry → Entry → List Entry
with_key ks e = if has_key ks e then ks else ks ++ e ∷ []

-- The place of one; behind all where it is none of them.
abbrev pub place_in : List Entry → Entry → ℕ
place_in [] e = 0
place_in (k ∷ ks) e = if same_key e k then 0 else suc (place_in ks e)

-- The name with types, where numbers stand for these types.
abbrev pub item_of : List Form → Entry → Item
item_of fs e = record { name = e.name; types = forms_at fs e.types.items }

-- Names with types as the code keeps them: the types that were met, and the names with types by their numbers.
pub record NumberedItems : Type 0 where
  pub types : List TypeNode
  pub entries : List Entry

-- The names with types that are kept.
abbrev pub items_of : NumberedItems → List Item
items_of n = map (item_of (forms_of n.types)) n.entries

-- All numbers of types are below a number.
abbrev pub AreEntriesBelow : ℕ → List Entry → Type 0
AreEntriesBelow n es = AllByRecursion (λ (e : Entry). AreBelow n e.types.items) es
