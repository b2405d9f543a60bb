-- What is due in a value text that is read.
use Rattle.gib_types.specs.declared.table.TyId.{TyId}
use Rattle.gib_types.specs.declared.table.ConId.{ConId}
use Rattle.gib_types.specs.declared.table.Ty.{Ty}
use Rattle.gib_value.specs.declared.todo.Wanted.{Wanted}
use Rattle.gib_value.specs.declared.todo.Wanted.TheVariants as wanted

-- What may be due next: a value of a type, the name of a constructor of a type, one with fields, the space before
-- a field, or the parenthesis that ends a constructor.
pub data Due : Type 0 where
  Value : Ty → Due
  Name : TyId → Due
  Space : Due
  Close : ConId → Due

-- The same by the code's name.
abbrev pub due_of : Wanted → Due
due_of (wanted.Value t) = Value t
due_of (wanted.Name t) = Name t
due_of wanted.Space = Space
due_of (wanted.Close k) = Close k
