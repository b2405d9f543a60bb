-- What is left of a value whose text is read and whose bytes are made.
use Rattle.std.specs.Prelude.{◌≡◌, ◌≤◌, ◌+◌, ℕ, List, [], ◌∷◌, ◌++◌, length, drop, reverse}
use Rattle.gib_types.specs.declared.table.Ty.{Ty}
use Rattle.gib_types.specs.Table.{Table, fields_at}
use Rattle.gib_types.specs.Tree.{Datum, Data, none, more, HaveTypes}
use Rattle.gib_value.specs.Text.{spell_fields}
use Rattle.gib_value.specs.Reading.{IsTextOf}
use Rattle.gib_file.specs.Packed.{packed, scalars, trees}
use Rattle.gib_transcode.specs.Rooms.{room, over}
use Rattle.gib_transcode.specs.declared.opened.Open.{Open}

-- The types of fields that are due, and the place where the next scalar among them is put.
pub record Left : Type 0 where
  pub types : List Ty
  pub place : ℕ

-- What is left of a constructor that is open.
abbrev pub left_of : Table → Open → Left
left_of table o = record { types = drop o.next (fields_at table o.con.0); place = o.place }

-- What is left of each constructor that is open, the innermost one first.
abbrev pub due_of : Table → List Open → List Left
due_of table [] = []
due_of table (o ∷ outer) = left_of table o ∷ due_of table outer

-- Values for all fields that are due.
abbrev pub AreDue : Table → List Left → List Data → Type 0
AreDue table [] [] = Unit {0}
AreDue table [] (ws ∷ vs) = ⊥
AreDue table (f ∷ due) [] = ⊥
AreDue table (f ∷ due) (ws ∷ vs) = HaveTypes table ws f.types × AreDue table due vs

-- Their text: the fields of each constructor, and its parenthesis.
abbrev pub due_text : Table → List (List ℕ) → List Data → List ℕ
due_text table names [] = []
due_text table names (ws ∷ vs) = spell_fields table names ws (due_text table names vs)

-- The bytes that are there, with those of the scalars that are due at their places.
abbrev pub filled : List Left → List Data → List ℕ → List ℕ
filled [] vs out = out
filled (f ∷ due) [] out = out
filled (f ∷ due) (ws ∷ vs) out = filled due vs (over f.place (scalars ws) out)

-- The bytes of all packed fields that are due.
abbrev pub due_trees : List Data → List ℕ
due_trees [] = []
due_trees (ws ∷ vs) = trees ws ++ due_trees vs

-- There is room for all scalars that are due.
abbrev pub HaveRoom : ℕ → List Left → Type 0
HaveRoom count [] = Unit {0}
HaveRoom count (f ∷ due) = (f.place + length (room f.types) ≤ count) × HaveRoom count due

-- Whatever values are due of which this is the text: with them the whole text is that of a value of the type, and the value's
-- bytes are those that were put and theirs.
pub record Goes (table : Table) (names : List (List ℕ)) (ty : Ty) (all : List ℕ) (due : List Left) (rest out : List ℕ) : Type 0 where
  pub roomy : HaveRoom (length out) due
  pub ends : (vs : List Data) → AreDue table due vs → rest ≡ due_text table names vs
      → (v : Datum) × IsTextOf table names ty v all × (packed v ≡ filled due vs out ++ due_trees vs)

-- So the rest of a text goes on, where these constructors are open, the innermost one apart from the others.
pub record Walks (table : Table) (names : List (List ℕ)) (ty : Ty) (all : List ℕ) (top : Open) (outer : List Open) (rest out : List ℕ) : Type 0 where
  pub goes : Goes table names ty all (due_of table (top ∷ reverse outer)) rest out
