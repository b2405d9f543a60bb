-- Types with type variables, as they are written and what they mean.
use Rattle.std.specs.Prelude.{ℕ, zero, suc, ◌==◌, if◌then◌else◌, List, [], ◌∷◌}
use Rattle.gib_base.specs.declared.Span.{Span}
pub use Rattle.gib_types.specs.Form.{Form, Forms, WholeForm, TruthForm, VariableForm, DataForm, NoForm, MoreForms, Meant, put, put_all, count_forms}
use Rattle.gib_syntax.specs.declared.tree.Ident.{Ident}
use Rattle.gib_syntax.specs.Declarations.{number_of}

-- A type as it is written: `Int`, `Bool`, a type variable, or a declared type with its arguments. The span of a
-- declared one is that of its first token, its name's or the opening parenthesis'.
mutual
  pub data WrittenType : Type 0 where
    WholeAt : Span → WrittenType
    TruthAt : Span → WrittenType
    VariableAt : Ident → WrittenType
    DataAt : Span → Ident → WrittenTypes → WrittenType

  pub data WrittenTypes : Type 0 where
    NoType : WrittenTypes
    MoreTypes : WrittenType → WrittenTypes → WrittenTypes

-- The type that is written, with types for its variables.
abbrev mutual
  pub formed : Meant → WrittenType → Form
  formed m (WholeAt p) = WholeForm
  formed m (TruthAt p) = TruthForm
  formed m (VariableAt x) = m (number_of x)
  formed m (DataAt p x ws) = DataForm (number_of x) (formed_all m ws)

  pub formed_all : Meant → WrittenTypes → Forms
  formed_all m NoType = NoForm
  formed_all m (MoreTypes w ws) = MoreForms (formed m w) (formed_all m ws)

-- The variables of a declaration stand for these types. Any other name, which typing excludes, stands for `Int`: so types can be
-- put into an assignment without a condition on it.
abbrev pub assign : List Ident → Forms → Meant
assign [] fs x = WholeForm
assign (v ∷ vs) NoForm x = WholeForm
assign (v ∷ vs) (MoreForms f fs) x = if number_of v == x then f else assign vs fs x

-- How many types are written.
abbrev pub count_written : WrittenTypes → ℕ
count_written NoType = zero
count_written (MoreTypes w ws) = suc (count_written ws)

-- Where a type is written.
abbrev pub written_place : WrittenType → Span
written_place (WholeAt p) = p
written_place (TruthAt p) = p
written_place (VariableAt x) = x.span
written_place (DataAt p x ws) = p
