-- Types with type variables, as they mean: type variables and declared types stand by the numbers of their names.
use Rattle.std.specs.Prelude.{ℕ, zero, suc, ◌+◌, ◌||◌, nat_lt, Bool, false, Option, Some, None}

-- A type: `Int`, `Bool`, a type variable, or a declared type with its arguments.
mutual
  pub data Form : Type 0 where
    WholeForm : Form
    TruthForm : Form
    VariableForm : ℕ → Form
    DataForm : ℕ → Forms → Form

  pub data Forms : Type 0 where
    NoForm : Forms
    MoreForms : Form → Forms → Forms

-- Types that stand for type variables.
abbrev pub Meant : Type 0
Meant = ℕ → Form

-- A type with types put for its variables.
abbrev mutual
  pub put : Meant → Form → Form
  put m WholeForm = WholeForm
  put m TruthForm = TruthForm
  put m (VariableForm x) = m x
  put m (DataForm t fs) = DataForm t (put_all m fs)

  pub put_all : Meant → Forms → Forms
  put_all m NoForm = NoForm
  put_all m (MoreForms f fs) = MoreForms (put m f) (put_all m fs)

-- How many types there are.
abbrev pub count_forms : Forms → ℕ
count_forms NoForm = zero
count_forms (MoreForms f fs) = suc (count_forms fs)

-- A type, `Int` where there is none.
abbrev pub form_or : Option Form → Form
form_or None = WholeForm
form_or (Some f) = f

-- How many words a type is, written out: `Int`, `Bool` and names of types.
abbrev mutual
  pub words : Form → ℕ
  words WholeForm = 1
  words TruthForm = 1
  words (VariableForm x) = 1
  words (DataForm t ts) = all_words ts + 1

  pub all_words : Forms → ℕ
  all_words NoForm = 0
  all_words (MoreForms f fs) = words f + all_words fs

-- One of the types has more than 64 words.
abbrev pub has_long : Forms → Bool
has_long NoForm = false
has_long (MoreForms f fs) = nat_lt 64 (words f) || has_long fs
