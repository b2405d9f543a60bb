-- What types are read in.
use Rattle.std.specs.Prelude.{◌≡◌, ◌≤◌, List, length, map}
use Rattle.gib_types.specs.declared.types.TypeId.{TypeId}
use Rattle.gib_types.specs.declared.types.TypeNode.{TypeNode}
use Rattle.gib_types.specs.Form.{Form, Meant}
use Rattle.gib_types.specs.Types.{forms_at, forms_of, AreBelow, GrowsTo}
use Rattle.gib_syntax.specs.declared.tree.Ident.{Ident}
use Rattle.gib_syntax.specs.declared.written.Word.{Word}
use Rattle.gib_syntax.specs.Forms.{formed, assign}
use Rattle.gib_syntax.specs.Words.{stack_of}
use Rattle.gib_mono.specs.declared.reading.Reading.{Reading}
use Rattle.gib_mono.specs.Walk.{types_asks}
use Rattle.gib_mono.specs.Reading.{listed, use_ask, IsReadBelow}

-- The types that were met, and what type variables stand for.
pub record Known : Type 0 where
  pub types : List TypeNode
  pub variables : List Ident
  pub meant : List TypeId

-- They stand for types that were met.
pub record IsKnown (k : Known) : Type 0 where
  pub meant : AreBelow (length k.types) k.meant

-- The types by their numbers.
abbrev pub forms : Known → List Form
forms k = forms_of k.types

-- What type variables stand for.
abbrev pub meaning : Known → Meant
meaning k = assign k.variables (forms_at (forms k) k.meant)

-- More types were met, and nothing else changed.
pub record Keeps (old new : Known) : Type 0 where
  pub grows : GrowsTo (forms old) (forms new)
  pub longer : length old.types ≤ length new.types
  pub meaning : meaning new ≡ meaning old

-- Words were read where type variables stand for these types.
pub record ReadsIn (old new : Known) (m : Meant) (words : List Word) (r : Reading) : Type 0 where
  pub keeps : Keeps old new
  pub below : IsReadBelow (length new.types) r
  pub types : listed (forms new) r.types ≡ map (formed m) (stack_of words)
  pub uses : map (use_ask (forms new)) r.uses ≡ types_asks m (stack_of words)
