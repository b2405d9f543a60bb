-- What the laws speak of.
use Rattle.std.specs.Prelude.{◌≡◌, ℕ, List, Some}
use Rattle.gib_types.specs.declared.table.Ty.{Ty}
use Rattle.gib_types.specs.Table.{Table, is_scalar}
use Rattle.gib_types.specs.Form.{form_or}
use Rattle.gib_types.specs.Tree.{HasType}
use Rattle.gib_syntax.specs.Typing.{Scope, type_in, globals_of}
use Rattle.gib_syntax.specs.Meaning.{Environment, value_in}
use Rattle.gib_syntax.specs.GenericTyping.{FormScope, form_in}
use Rattle.gib_syntax.specs.GenericMeaning.{kind_of}
use Rattle.gib_syntax.specs.GenericTree.{GenericProgramTree, rows_of, globals_of_generic}
use Rattle.gib_mono.specs.Copying.{Naming}
use Rattle.gib_mono.specs.Copied.{Setting}
use Rattle.gib_mono.specs.Walk.{Copy, copied_program, type_items, function_items, base_of}

-- A program, its copy, and what was asked for.
abbrev pub set_of : GenericProgramTree → Naming → List Copy → Setting
set_of p nm found = record {
  from = globals_of_generic p;
  naming = nm;
  to = globals_of (copied_program p nm found);
  base = base_of (rows_of p.datas) found;
  types = type_items found;
  functions = function_items found;
}

-- Each variable in scope has a value of its type.
abbrev pub Agree : Table → Scope → Environment → Type 0
Agree table scope env = (x : ℕ) (t : Ty) → type_in scope x ≡ Some t → HasType table (value_in env x) t

-- Each variable in scope is a scalar where the other scope says that it is one, and only there.
abbrev pub SameScalars : Scope → FormScope → Type 0
SameScalars scope forms = (x : ℕ) (t : Ty) → type_in scope x ≡ Some t → is_scalar (kind_of (form_or (form_in forms x))) ≡ is_scalar t
