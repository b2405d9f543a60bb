-- Types that runs of words spell. A run is read from its last word to its first, with a stack.
use Rattle.std.specs.Prelude.{◌≡◌, ℕ, zero, suc, ◌-◌, ◌≤◌, List, [], ◌∷◌, ◌++◌, length, take, drop}
use Rattle.gib_syntax.specs.declared.written.Word.{Word}
use Rattle.gib_syntax.specs.declared.written.Word.TheVariants as w
use Rattle.gib_syntax.specs.declared.written.Run.{Run}
use Rattle.gib_syntax.specs.Forms.{WrittenType, WrittenTypes, WholeAt, TruthAt, VariableAt, DataAt, NoType, MoreTypes, count_written}

-- So many types from the top of the stack.
abbrev pub taken : ℕ → List WrittenType → WrittenTypes
taken zero st = NoType
taken (suc n) [] = NoType
taken (suc n) (x ∷ st) = MoreTypes x (taken n st)

-- What so many types leave.
abbrev pub left : ℕ → List WrittenType → List WrittenType
left zero st = st
left (suc n) [] = []
left (suc n) (x ∷ st) = left n st

-- One word, read before those behind it.
abbrev pub read_word : Word → List WrittenType → List WrittenType
read_word (w.Whole p) st = WholeAt p ∷ st
read_word (w.Truth p) st = TruthAt p ∷ st
read_word (w.Variable x) st = VariableAt x ∷ st
read_word (w.Data p x n) st = DataAt p x (taken n st) ∷ left n st

-- The types that words are, the first one on top.
abbrev pub stack_of : List Word → List WrittenType
stack_of [] = []
stack_of (x ∷ xs) = read_word x (stack_of xs)

-- All types on the stack.
abbrev pub all_types : List WrittenType → WrittenTypes
all_types [] = NoType
all_types (x ∷ xs) = MoreTypes x (all_types xs)

-- The type on top, `Int` where there is none.
abbrev pub first_type : List WrittenType → WrittenType
first_type [] = WholeAt (record { start = 0; end = 0 })
first_type (x ∷ xs) = x

-- The words of a run.
abbrev pub run_words : List Word → Run → List Word
run_words words run = take (run.end - run.start) (drop run.start words)

-- The words of the run are there.
abbrev pub IsRunIn : List Word → Run → Type 0
IsRunIn words run = (run.start ≤ run.end) × (run.end ≤ length words)

-- The types that they are.
abbrev pub types_in : List Word → Run → WrittenTypes
types_in words run = all_types (stack_of (run_words words run))

-- The one type that they are.
abbrev pub type_in : List Word → Run → WrittenType
type_in words run = first_type (stack_of (run_words words run))

-- The words of a type, and of several.
abbrev mutual
  pub words_of : WrittenType → List Word
  words_of (WholeAt p) = w.Whole p ∷ []
  words_of (TruthAt p) = w.Truth p ∷ []
  words_of (VariableAt x) = w.Variable x ∷ []
  words_of (DataAt p x ws) = w.Data p x (count_written ws) ∷ words_in ws

  pub words_in : WrittenTypes → List Word
  words_in NoType = []
  words_in (MoreTypes x xs) = words_of x ++ words_in xs

-- The words of the run are there, and are those of types.
abbrev pub IsTypesRun : List Word → Run → Type 0
IsTypesRun words run = IsRunIn words run × (xs : WrittenTypes) × (run_words words run ≡ words_in xs)

-- They are those of one type.
abbrev pub IsTypeRun : List Word → Run → Type 0
IsTypeRun words run = IsRunIn words run × (x : WrittenType) × (run_words words run ≡ words_of x)
