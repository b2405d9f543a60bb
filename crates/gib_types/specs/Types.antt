-- Types by numbers: each stands behind its arguments, and each once.
use Rattle.std.specs.Prelude.{◌≡◌, ℕ, ◌<◌, ◌≤◌, ◌++◌, nat_lt, if◌then◌else◌, List, [], ◌∷◌, length, slice_get, Option, Some, None}
use Rattle.std.specs.List.{AllByRecursion}
use Rattle.gib_types.specs.declared.types.TypeId.{TypeId}
use Rattle.gib_types.specs.declared.types.TypeNode.{TypeNode}
use Rattle.gib_types.specs.declared.types.TypeNode.TheVariants as t
use Rattle.gib_types.specs.Form.{Form, Forms, WholeForm, TruthForm, VariableForm, DataForm, NoForm, MoreForms}
use Rattle.gib_types.specs.Form.{form_or}
use Rattle.gib_types.specs.Form.{words}

-- The type of a number among these; past the end `Int`.
abbrev pub form_at : List Form → ℕ → Form
form_at fs i = form_or (slice_get fs i)

-- Types of these numbers.
abbrev pub forms_at : List Form → List TypeId → Forms
forms_at fs [] = NoForm
forms_at fs (i ∷ is) = MoreForms (form_at fs i.0) (forms_at fs is)

-- The type that a node is, where numbers stand for these types.
abbrev pub form_from : List Form → TypeNode → Form
form_from fs t.Whole = WholeForm
form_from fs t.Truth = TruthForm
form_from fs (t.Variable x) = VariableForm x
form_from fs (t.Data x is) = DataForm x (forms_at fs is.items)

-- Numbers are below a number.
abbrev pub AreBelow : ℕ → List TypeId → Type 0
AreBelow n is = AllByRecursion (λ (i : TypeId). i.0 < n) is

-- The arguments of a node are.
abbrev pub ArgumentsBelow : ℕ → TypeNode → Type 0
ArgumentsBelow n t.Whole = Unit {0}
ArgumentsBelow n t.Truth = Unit {0}
ArgumentsBelow n (t.Variable x) = Unit {0}
ArgumentsBelow n (t.Data x is) = AreBelow n is.items

-- The types that nodes are, each over those before it.
abbrev pub forms_onto : List Form → List TypeNode → List Form
forms_onto fs [] = fs
forms_onto fs (n ∷ ns) = forms_onto (fs ++ form_from fs n ∷ []) ns

-- The types that a table's nodes are, by their numbers.
abbrev pub forms_of : List TypeNode → List Form
forms_of ns = forms_onto [] ns

-- No type stands twice.
pub record AreOnce (fs : List Form) : Type 0 where
  pub once : (i j : ℕ) (f : Form) → slice_get fs i ≡ Some f → slice_get fs j ≡ Some f → i ≡ j

-- The type is none of these.
pub record IsNew (fs : List Form) (f : Form) : Type 0 where
  pub absent : (i : ℕ) → slice_get fs i ≡ Some f → ⊥

-- More types stand behind those that were there.
pub record GrowsTo (old new : List Form) : Type 0 where
  pub more : List Form
  pub is : new ≡ old ++ more

-- The words of a type, 65 where there are more.
abbrev pub cut : ℕ → ℕ
cut n = if nat_lt n 65 then n else 65

-- The words of what may be no type, cut likewise.
abbrev pub short_words : Option Form → Option ℕ
short_words None = None
short_words (Some f) = Some (cut (words f))

-- What nodes always are.
pub record AreTypes (ns : List TypeNode) (counts : List ℕ) : Type 0 where
  pub few : length ns ≤ 4294967296
  pub many : length (forms_of ns) ≡ length ns
  pub counted : length counts ≡ length ns
  pub below : (i : ℕ) (n : TypeNode) → slice_get ns i ≡ Some n → ArgumentsBelow i n
  pub forms : (i : ℕ) (n : TypeNode) → slice_get ns i ≡ Some n → slice_get (forms_of ns) i ≡ Some (form_from (forms_of ns) n)
  pub once : AreOnce (forms_of ns)
  pub short : (i : ℕ) → i < length ns → slice_get counts i ≡ short_words (slice_get (forms_of ns) i)
