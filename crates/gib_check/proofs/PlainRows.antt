-- The rows of a typed program.
use Rattle.std.proofs.Common.{◌≡◌, ℕ, suc, ◌≤◌, List, [], ◌∷◌, ◌++◌, map, length, refl, sym, ap, ◌∙◌}
use Rattle.std.proofs.lemmas.List.{map-append, length-map}
use Rattle.std.specs.List.{AllByRecursion}
use Rattle.gib_types.specs.Table.{Row}
use Rattle.gib_syntax.specs.Tree.{ConstructorTree, DataTree, ProgramTree}
use Rattle.gib_syntax.specs.Declarations.{number_of, AreDifferent, type_names, row_in, rows_from, table_of_program}
use Rattle.gib_syntax.specs.Typing.{HasKnownConstructors}

abbrev pub constructor_number : ConstructorTree → ℕ
constructor_number c = number_of c.name

abbrev pub data_number : DataTree → ℕ
data_number d = number_of d.name

-- The names of all constructors.
abbrev pub names_in : List DataTree → List ℕ
names_in [] = []
names_in (d ∷ ds) = map constructor_number d.constructors ++ names_in ds

-- The names of the rows.
abbrev row_name : Row → ℕ
row_name r = r.name

constructor_rows : (types : List ℕ) (owner : ℕ) (cs : List ConstructorTree) → map row_name (map (row_in types owner) cs) ≡ map constructor_number cs
constructor_rows types owner [] = refl
constructor_rows types owner (c ∷ cs) = ap (λ z. number_of c.name ∷ z) (constructor_rows types owner cs)

pub names_rows : (types : List ℕ) (owner : ℕ) (ds : List DataTree) → map row_name (rows_from types owner ds) ≡ names_in ds
names_rows types owner [] = refl
names_rows types owner (d ∷ ds) =
    map-append row_name (map (row_in types owner) d.constructors) (rows_from types (suc owner) ds)
    ∙ (λ i. constructor_rows types owner d.constructors i ++ names_rows types (suc owner) ds i)

pub rows_long : (types : List ℕ) (ds : List DataTree) → length (rows_from types 0 ds) ≡ length (names_in ds)
rows_long types ds = sym (length-map (rows_from types 0 ds) row_name) ∙ ap (λ (z : List ℕ). length z) (names_rows types 0 ds)

-- What is typed of the data declarations.
pub record DatasTyped (p : ProgramTree) : Type 0 where
  pub types_differ : AreDifferent (type_names p)
  pub constructors_differ : AreDifferent (map row_name (table_of_program p).rows)
  pub few : length (table_of_program p).rows ≤ 200
  pub fields : AllByRecursion (HasKnownConstructors (type_names p)) p.datas
