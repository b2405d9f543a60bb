-- A small text, for examples.
use Rattle.std.specs.Prelude.{ℕ, ◌+◌, true, List, [], ◌∷◌, Some}
use Rattle.gib_base.specs.declared.Span.{Span}
use Rattle.gib_types.specs.declared.table.Ty.TheVariants.{Whole, Tree}
use Rattle.gib_types.specs.Row.{Table}
use Rattle.gib_syntax.specs.declared.tree.Ident.{Ident}
use Rattle.gib_syntax.specs.declared.tree.TypeName.{TypeName}
use Rattle.gib_syntax.specs.declared.tree.TypeName.TheVariants as ty
use Rattle.gib_syntax.specs.Tree.{DataTree}
use Rattle.gib_syntax.specs.Results as results
use Rattle.gib_core.specs.declared.atom.Variable.{Variable}
use Rattle.gib_core.specs.declared.atom.Kind.TheVariants.{Here}
use Rattle.gib_core.specs.Tree.{Term, Then, Write, Point, CallTerm, Past, One, On, var, CoreTree}
use Rattle.gib_local_parse.specs.Tree.{Line, In, Pointed, Called, Made, NewRegion, NewPlace, LetIn, Be, LocalTree}
use Rattle.gib_local_parse.specs.declared.tree.Mark.{Mark}
use Rattle.gib_local_parse.specs.declared.tree.Operand.TheVariants.{Named}
use Rattle.gib_local_parse.specs.declared.tree.Location.TheVariants.{Start, Plus, After}

-- The span of the token of a number.
abbrev pub span : ℕ → Span
span n = record { start = n; end = n }

-- A name, by its number and that of its token.
abbrev pub name : ℕ → ℕ → Ident
name x n = record { name = record { 0 = x }; span = span n }

-- An `@` at a token, and the name behind it.
abbrev pub mark : ℕ → ℕ → Mark
mark x n = record { sign = span n; name = name x (n + 1) }

-- The type `Tree`.
abbrev pub tree : ℕ → TypeName
tree n = ty.Declared (name 0 n)

-- data Tree = Leaf Int | Node Tree Tree
abbrev pub datas : List DataTree
datas = record {
  name = name 0 1;
  constructors =
      record { name = name 1 3; fields = ty.Whole (span 4) ∷ [] }
      ∷ record { name = name 2 6; fields = tree 7 ∷ tree 8 ∷ [] } ∷ [];
} ∷ []

-- `fun twice (t : Tree) : Tree @ d = ..`, with this behind the two fields; `main (t : Tree) : Tree @ d = twice t @ d`. The
-- names: 3 twice, 4 t, 5 d, 6 a, 7 x, 8 b, 9 y, 10 r.
abbrev pub text : Line → LocalTree
text line = record {
  datas = datas;
  offsets = [];
  functions = record { name = name 3 10; parameters = record { name = name 4 12; ty = tree 14 } ∷ []; result = tree 17; place = Some (mark 5 18); body = line } ∷ [];
  main = record { parameter = record { name = name 4 90; ty = tree 92 }; result = tree 95; place = Some (mark 5 96); body = Called (name 3 99) (Named (name 4 100) ∷ []) (Some (mark 5 101)) };
}

-- letloc a = d + Node in let x : Tree @ a = point t @ a in letloc b = after x in let y : Tree @ b = point t @ b in ..
abbrev pub fields : Line → Line
fields rest =
    In (span 20) (NewPlace (name 6 21) (Plus (name 5 23) (name 2 25)))
    (In (span 27) (LetIn (Be (name 7 28) (tree 30) (Some (mark 6 31)) (Pointed (span 34) (name 4 35) (mark 6 36))))
    (In (span 39) (NewPlace (name 8 40) (After (name 7 43)))
    (In (span 45) (LetIn (Be (name 9 46) (tree 48) (Some (mark 8 49)) (Pointed (span 52) (name 4 53) (mark 8 54)))) rest)))

-- Node @ d x y
abbrev pub made : ℕ → ℕ → ℕ → Line
made d x y = Made (name 2 57) (mark d 58) (Named (name x 60) ∷ Named (name y 61) ∷ [])

-- letregion r in letloc a = start r in let x : Tree @ a = point t @ a in point x @ d, and then the same location again
abbrev pub boxed : Line
boxed =
    In (span 20) (NewRegion (name 10 21))
    (In (span 23) (NewPlace (name 6 24) (Start (name 10 27)))
    (In (span 29) (LetIn (Be (name 7 30) (tree 32) (Some (mark 6 33)) (Pointed (span 36) (name 4 37) (mark 6 38))))
    (In (span 41) (LetIn (Be (name 9 42) (tree 44) (Some (mark 6 45)) (Pointed (span 48) (name 4 49) (mark 6 50))))
    (Pointed (span 53) (name 7 54) (mark 5 55)))))

-- The table of these types.
abbrev pub table : Table
table = record { types = 0 ∷ []; rows = record { name = 1; owner = 0; fields = Whole ∷ [] } ∷ record { name = 2; owner = 0; fields = Tree (record { 0 = 0 }) ∷ Tree (record { 0 = 0 }) ∷ [] } ∷ [] }

-- The variable of a number.
abbrev pub v : ℕ → Variable
v n = record { 0 = n }

-- The core of the text, with this term in the function.
abbrev pub core : Term → CoreTree
core t = record {
  table = table;
  functions = record { name = record { 0 = 3 }; parameters = Tree (record { 0 = 0 }) ∷ []; result = results.One (Tree (record { 0 = 0 })); body = t } ∷ [];
  main = record { parameter = Tree (record { 0 = 0 }); result = Tree (record { 0 = 0 }); body = CallTerm (record { 0 = 3 }) (var 0 ∷ []) };
  offsets = [];
  marked = true;
}

-- Two fields, and then the head is filled by these.
abbrev pub filled : ℕ → ℕ → Term
filled x y =
    Then (Past (v 1) (record { 0 = 1 }))
    (Then (One (On Here (v 2) (Tree (record { 0 = 0 })) (Point (var 0))))
    (Then (One (On Here (v 3) (Tree (record { 0 = 0 })) (Point (var 0))))
    (Write (v 1) (record { 0 = 1 }) [] (var x ∷ var y ∷ []))))
