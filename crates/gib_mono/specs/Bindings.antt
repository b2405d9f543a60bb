-- The bindings of a program without type parameters, in which one of a single name is a form of its own.
use Rattle.std.specs.Prelude.{List, [], ◌∷◌, Option, Some, None}
use Rattle.gib_base.specs.declared.Span.{Span}
use Rattle.gib_syntax.specs.declared.tree.Ident.{Ident}
use Rattle.gib_syntax.specs.declared.tree.Parameter.{Parameter}
use Rattle.gib_syntax.specs.Tree.{Expression, Let, Par, LetSeveral, ParSeveral}

-- The name of a binding that has one.
abbrev pub only_name : List Ident → Option Ident
only_name [] = None
only_name (x ∷ []) = Some x
only_name (x ∷ y ∷ ys) = None

-- A binding of this name, or else of these variables.
abbrev pub let_of : Span → Option Ident → List Parameter → Expression → Expression → Expression
let_of p None qs a b = LetSeveral p qs a b
let_of p (Some x) qs a b = Let p x a b

-- Two sides, each of one name, or else of these variables.
abbrev pub par_of : Span → Option Ident → List Parameter → Expression → Option Ident → List Parameter → Expression → Expression → Expression
par_of p None qs a y rs b c = ParSeveral p qs a rs b c
par_of p (Some x) qs a None rs b c = ParSeveral p qs a rs b c
par_of p (Some x) qs a (Some y) rs b c = Par p x a y b c
