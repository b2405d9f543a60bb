-- How copies are shown. Names have texts by their numbers; behind those of the source stand those of the names with types.
use Rattle.std.specs.Prelude.{ℕ, List, [], ◌∷◌, ◌++◌, map, codes, slice_get, unwrap_or}
use Rattle.gib_syntax.specs.Forms.{Form, Forms, WholeForm, TruthForm, VariableForm, DataForm, NoForm, MoreForms}
use Rattle.gib_mono.specs.Copied.{Item}

-- The text of a name of the source.
abbrev pub source_text : List (List ℕ) → ℕ → List ℕ
source_text names x = unwrap_or (slice_get names x) []

abbrev mutual
  -- A name with types: `map[Int Bool]`; a type among them that is itself a copy stands under its copy's name. The brackets are 91
  -- and 93, one space (32) stands between two types.
  pub long_text : List (List ℕ) → ℕ → Forms → List ℕ
  long_text names x NoForm = source_text names x
  long_text names x (MoreForms t ts) = source_text names x ++ 91 ∷ (form_text names t ++ further_text names ts)

  -- A type as it stands among the arguments of another.
  pub form_text : List (List ℕ) → Form → List ℕ
  form_text names WholeForm = codes "Int"
  form_text names TruthForm = codes "Bool"
  form_text names (VariableForm x) = []
  form_text names (DataForm t NoForm) = source_text names t
  form_text names (DataForm t (MoreForms u us)) = source_text names t ++ 91 ∷ (form_text names u ++ further_text names us)

  -- The arguments behind the first, and the bracket that ends them.
  pub further_text : List (List ℕ) → Forms → List ℕ
  further_text names NoForm = 93 ∷ []
  further_text names (MoreForms t ts) = 32 ∷ (form_text names t ++ further_text names ts)

-- The text of a copy's name in cores, code and descriptions.
abbrev pub long_name : List (List ℕ) → Item → List ℕ
long_name names i = long_text names i.name i.types

-- In values it is the part before the bracket.
abbrev pub short_name : List (List ℕ) → Item → List ℕ
short_name names i = source_text names i.name

-- The texts of cores, code and descriptions.
abbrev pub long_texts : List (List ℕ) → List Item → List (List ℕ)
long_texts names items = names ++ map (long_name names) items

-- The texts of values.
abbrev pub short_texts : List (List ℕ) → List Item → List (List ℕ)
short_texts names items = names ++ map (short_name names) items
