-- The pass that numbers variables anew, in the order in which the text binds them, and the whole pass: bodies are placed, and
-- then their variables are numbered.
use Rattle.std.specs.Prelude.{ℕ, suc, ◌==◌, if◌then◌else◌, List, [], ◌∷◌, ◌++◌, length}
use Rattle.gib_core.specs.Tree.{Term, CoreTree}
use Rattle.gib_core.specs.Met.{Body}
use Rattle.gib_core.specs.Walk.{with_bodies}
use Rattle.gib_core.specs.Inferring.{numbers_from}
use Rattle.gib_core.specs.Numbering.{binders}
use Rattle.gib_place.specs.Placing.{place_body}
use Rattle.gib_place.specs.Renaming.{Renaming, rename}

-- The place of a number in a list; a number that is not there comes behind them all.
abbrev pub place_in : List ℕ → Renaming
place_in [] x = x
place_in (y ∷ ys) x = if y == x then 0 else suc (place_in ys x)

-- The variables of a body with so many parameters, in the order of the text.
abbrev pub variables_in : ℕ → Term → List ℕ
variables_in parameters t = numbers_from 0 parameters ++ binders t

-- A body whose variables are numbered in the order of the text.
abbrev pub number_anew : ℕ → Term → Term
number_anew parameters t = rename (place_in (variables_in parameters t)) t

-- A body that is placed, with its variables numbered.
abbrev pub place_anew : Body → Term
place_anew b = number_anew (length b.parameters) (place_body b.term)

-- A core whose bodies are placed, with its variables numbered in the order of the text.
abbrev pub place_core : CoreTree → CoreTree
place_core core = with_bodies place_anew core
