-- What types are read in.
use Rattle.std.specs.Prelude.{◌≡◌, ℕ, ◌≤◌, ◌<◌, List, [], ◌∷◌, length, map}
use Rattle.std.specs.List.{AllByRecursion}
use Rattle.gib_types.specs.declared.types.TypeId.{TypeId}
use Rattle.gib_types.specs.declared.types.TypeNode.{TypeNode}
use Rattle.gib_types.specs.Form.{Form, Forms, Meant}
use Rattle.gib_types.specs.Types.{form_at, forms_at, forms_of, AreBelow, GrowsTo}
use Rattle.gib_syntax.specs.declared.tree.Ident.{Ident}
use Rattle.gib_syntax.specs.declared.written.Word.{Word}
use Rattle.gib_syntax.specs.Forms.{formed, assign, written_place}
use Rattle.gib_syntax.specs.Words.{stack_of}
use Rattle.gib_syntax.specs.GenericTyping.{FormScope}
use Rattle.gib_mono.specs.declared.reading.Reading.{Reading}
use Rattle.gib_mono.specs.declared.scene.InScope.{InScope}
use Rattle.gib_mono.specs.declared.entries.Entry.{Entry}
use Rattle.gib_mono.specs.Copied.{Item}
use Rattle.gib_mono.specs.Naming.{with_entry}
use Rattle.gib_mono.specs.Entries.{item_of, AreEntriesBelow}
use Rattle.gib_mono.specs.Walk.{types_asks}
use Rattle.gib_mono.specs.Reading.{listed, use_ask, IsReadBelow}

-- The types that were met, what type variables stand for, the variables in scope, the newest one last, and the names of copies.
pub record Scenery : Type 0 where
  pub types : List TypeNode
  pub variables : List Ident
  pub meant : List TypeId
  pub scope : List InScope
  pub entries : List Entry

-- All of them stand for types that were met.
abbrev pub AreInScopeBelow : ℕ → List InScope → Type 0
AreInScopeBelow n bs = AllByRecursion (λ (b : InScope). b.ty.0 < n) bs

-- All numbers of types are below how many were met.
pub record IsScenery (k : Scenery) : Type 0 where
  pub meant : AreBelow (length k.types) k.meant
  pub scope : AreInScopeBelow (length k.types) k.scope
  pub entries : AreEntriesBelow (length k.types) k.entries

-- The types by their numbers.
abbrev pub forms : Scenery → List Form
forms k = forms_of k.types

-- What type variables stand for.
abbrev pub meaning : Scenery → Meant
meaning k = assign k.variables (forms_at (forms k) k.meant)

-- The variables in scope, the newest one first.
abbrev pub scope_onto : List Form → List InScope → FormScope → FormScope
scope_onto fs [] scope = scope
scope_onto fs (b ∷ bs) scope = scope_onto fs bs ((b.name, form_at fs b.ty.0) ∷ scope)

-- The scope that is kept.
abbrev pub scope_in : Scenery → FormScope
scope_in k = scope_onto (forms k) k.scope []

-- The names of copies.
abbrev pub names_in : Scenery → List Item
names_in k = map (item_of (forms k)) k.entries

-- More types were met, and nothing else changed.
pub record Keeps (old new : Scenery) : Type 0 where
  pub grows : GrowsTo (forms old) (forms new)
  pub longer : length old.types ≤ length new.types
  pub meaning : meaning new ≡ meaning old
  pub scope : scope_in new ≡ scope_in old
  pub names : names_in new ≡ names_in old
  pub kept : new.scope ≡ old.scope

-- A type has a number.
pub record MakesIn (old new : Scenery) (id : TypeId) (f : Form) : Type 0 where
  pub keeps : Keeps old new
  pub below : id.0 < length new.types
  pub form : form_at (forms new) id.0 ≡ f

-- One more name of a copy came.
pub record NamesIn (old new : Scenery) (name : ℕ) (types : Forms) : Type 0 where
  pub types_same : new.types ≡ old.types
  pub names : names_in new ≡ with_entry (names_in old) (record { name = name; types = types })

-- Words were read where type variables stand for these types.
pub record ReadsIn (old new : Scenery) (m : Meant) (words : List Word) (r : Reading) : Type 0 where
  pub keeps : Keeps old new
  pub below : IsReadBelow (length new.types) r
  pub types : listed (forms new) r.types ≡ map (formed m) (stack_of words)
  pub places : r.places ≡ map written_place (stack_of words)
  pub uses : map (use_ask (forms new)) r.uses ≡ types_asks m (stack_of words)
