-- The names of written types, word by word.
use Rattle.std.specs.Prelude.{ℕ, is_some, List, [], ◌∷◌, length, Ok}
use Rattle.gib_syntax.specs.declared.written.Word.{Word}
use Rattle.gib_syntax.specs.declared.written.Word.TheVariants as w
use Rattle.gib_syntax.specs.Declarations.{number_of, place_of}
use Rattle.gib_syntax.specs.GenericTree.{GenericDataTree, data_named}
use Rattle.gib_check.specs.declared.fault.Kind.TheVariants as kind
use Rattle.gib_check.specs.Faults.{Checked, and_then, allowed, found, as_many}

-- One word.
abbrev pub known_word : List GenericDataTree → List ℕ → Word → Checked (Unit {0})
known_word datas vars (w.Whole p) = Ok (tt {0})
known_word datas vars (w.Truth p) = Ok (tt {0})
known_word datas vars (w.Variable x) = allowed (is_some (place_of vars (number_of x))) kind.Unknown x.span (tt {0})
known_word datas vars (w.Data p x n) = and_then (found (data_named datas (number_of x)) kind.Unknown x.span) (λ d. as_many n (length d.variables) x)

-- Words from left to right.
abbrev pub known_words : List GenericDataTree → List ℕ → List Word → Checked (Unit {0})
known_words datas vars [] = Ok (tt {0})
known_words datas vars (x ∷ xs) = and_then (known_word datas vars x) (λ _. known_words datas vars xs)
