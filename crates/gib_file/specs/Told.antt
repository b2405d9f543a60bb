-- What a description tells of types, apart from how it is written.
use Rattle.std.specs.Prelude.{◌≡◌, ℕ, suc, Bool, true, false, List, [], ◌∷◌, map}
use Rattle.gib_types.specs.declared.table.Ty.{Ty}
use Rattle.gib_types.specs.Table.{Table, fields_at, constructors_of}
use Rattle.gib_value.specs.Text.{con_text}
use Rattle.gib_file.specs.Describing.{type_text, type_word, Describes}

-- A constructor: its name, its tag, and the names of its fields' types.
pub record ToldCon : Type 0 where
  pub name : List ℕ
  pub tag : ℕ
  pub fields : List (List ℕ)

-- A declared type: its name and its constructors.
pub record ToldType : Type 0 where
  pub name : List ℕ
  pub cons : List ToldCon

-- The constructor of a number.
abbrev pub told_con : Table → List (List ℕ) → ℕ → ToldCon
told_con table names k = record { name = con_text table names k; tag = k; fields = map (type_word table names) (fields_at table k) }

-- The declared type of a number.
abbrev pub told_type : Table → List (List ℕ) → ℕ → ToldType
told_type table names t = record { name = type_text table names t; cons = map (told_con table names) (constructors_of table t) }

-- Those that are marked, in their order, where the first mark is that of type t.
abbrev pub told_types : Table → List (List ℕ) → ℕ → List Bool → List ToldType
told_types table names t [] = []
told_types table names t (true ∷ marks) = told_type table names t ∷ told_types table names (suc t) marks
told_types table names t (false ∷ marks) = told_types table names (suc t) marks

-- Two types have one name, and what they reach is told alike: as many declared types (in a copied program, copies), in one order, each
-- with the same name, and with the same constructors: names, tags and fields.
abbrev pub AreToldAlike : {table other : Table} {names others : List (List ℕ)} {ty of' : Ty} {a b : List ℕ}
    → Describes table names ty a → Describes other others of' b → Type 0
AreToldAlike {table} {other} {names} {others} {ty} {of'} d e =
    (type_word table names ty ≡ type_word other others of') × (told_types table names 0 d.marks ≡ told_types other others 0 e.marks)
