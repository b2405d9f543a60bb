-- Runs of words read as types and uses, from the last word to the first.
use Rattle.std.specs.Prelude.{◌≡◌, ℕ, ◌≤◌, false, List, [], ◌∷◌, length, map, drop}
use Rattle.std.specs.List.{AllByRecursion}
use Rattle.gib_base.specs.declared.Span.{Span}
use Rattle.gib_types.specs.declared.types.TypeNode.{TypeNode}
use Rattle.gib_types.specs.Form.{Form, WholeForm, TruthForm, DataForm, Meant}
use Rattle.gib_types.specs.Types.{forms_at, forms_of, AreBelow, GrowsTo}
use Rattle.gib_syntax.specs.declared.tree.Ident.{Ident}
use Rattle.gib_syntax.specs.declared.written.Word.{Word}
use Rattle.gib_syntax.specs.declared.written.Word.TheVariants as w
use Rattle.gib_syntax.specs.Declarations.{number_of}
use Rattle.gib_syntax.specs.Forms.{formed, written_place}
use Rattle.gib_syntax.specs.Words.{stack_of}
use Rattle.gib_mono.specs.declared.reading.Use.{Use}
use Rattle.gib_mono.specs.declared.reading.Reading.{Reading}
use Rattle.gib_mono.specs.Walk.{Ask, types_asks}
pub use Rattle.gib_check.specs.Judging.{listed}
pub use Rattle.gib_check.specs.ReadingSteps.{taken_forms}

-- What was read: the types that are no arguments yet, where they are written, and the uses.
pub record Read : Type 0 where
  pub types : List Form
  pub places : List Span
  pub asks : List Ask

-- Nothing was read.
abbrev pub nothing_read : Read
nothing_read = record { types = []; places = []; asks = [] }

-- A type is read that has no arguments.
abbrev pub put_form : Form → Span → Read → Read
put_form f p r = record { types = f ∷ r.types; places = p ∷ r.places; asks = r.asks }

-- The name of a declared type is read, behind its arguments.
abbrev pub read_data : Span → Ident → ℕ → Read → Read
read_data p x n r = record {
  types = DataForm (number_of x) (taken_forms n r.types) ∷ drop n r.types;
  places = p ∷ drop n r.places;
  asks = record { function = false; name = number_of x; types = taken_forms n r.types; span = x.span } ∷ r.asks;
}

-- One word, read before those behind it.
abbrev pub read_one : Meant → Word → Read → Read
read_one m (w.Whole p) r = put_form WholeForm p r
read_one m (w.Truth p) r = put_form TruthForm p r
read_one m (w.Variable x) r = put_form (m (number_of x)) x.span r
read_one m (w.Data p x n) r = read_data p x n r

-- Words, read from the last one to the first.
abbrev pub read_words : Meant → List Word → Read → Read
read_words m [] r = r
read_words m (x ∷ xs) r = read_one m x (read_words m xs r)

-- A use, where numbers stand for these types.
abbrev pub use_ask : List Form → Use → Ask
use_ask fs u = record { function = false; name = u.name.0; types = forms_at fs u.types.items; span = u.span }

-- What numbers stand for.
abbrev pub read_of : List Form → Reading → Read
read_of fs r = record { types = listed fs r.types; places = r.places; asks = map (use_ask fs) r.uses }

-- All numbers of types are below a number.
abbrev pub AreUsesBelow : ℕ → List Use → Type 0
AreUsesBelow n us = AllByRecursion (λ (u : Use). AreBelow n u.types.items) us

-- All numbers that were read are below a number.
abbrev pub IsReadBelow : ℕ → Reading → Type 0
IsReadBelow n r = AreBelow n r.types × AreUsesBelow n r.uses

-- A step of reading was made.
pub record ReadsOn (old new : List TypeNode) (before after : Reading) (step : Read → Read) : Type 0 where
  pub grows : GrowsTo (forms_of old) (forms_of new)
  pub longer : length old ≤ length new
  pub below : IsReadBelow (length new) after
  pub read : read_of (forms_of new) after ≡ step (read_of (forms_of old) before)

-- The words were read.
pub record HasRead (old new : List TypeNode) (m : Meant) (words : List Word) (r : Reading) : Type 0 where
  pub grows : GrowsTo (forms_of old) (forms_of new)
  pub longer : length old ≤ length new
  pub below : IsReadBelow (length new) r
  pub types : listed (forms_of new) r.types ≡ map (formed m) (stack_of words)
  pub places : r.places ≡ map written_place (stack_of words)
  pub uses : map (use_ask (forms_of new)) r.uses ≡ types_asks m (stack_of words)
