-- A LoCal text as the code keeps it, and the tree that it is.
use Rattle.std.specs.Prelude.{ℕ, ◌<◌, List, map, length}
use Rattle.std.specs.List.{AllByRecursion}
use Rattle.gib_syntax.specs.declared.tree.Ident.{Ident}
use Rattle.gib_syntax.specs.declared.tree.DataDecl.{DataDecl}
use Rattle.gib_syntax.specs.Fine.{HasConstructor}
use Rattle.gib_syntax.specs.Parts.{data_tree}
use Rattle.gib_local_parse.specs.declared.lines.LineNode.{LineNode}
use Rattle.gib_local_parse.specs.declared.text.FunctionLines.{FunctionLines}
use Rattle.gib_local_parse.specs.declared.text.MainLines.{MainLines}
use Rattle.gib_local_parse.specs.Tree.{Line, FunctionText, MainText, LocalTree}
use Rattle.gib_local_parse.specs.LineArena.{Grows, tree_of}

-- The terms of all bodies, and the declarations.
pub record TextParts : Type 0 where
  pub lines : List LineNode
  pub datas : List DataDecl
  pub offsets : List Ident
  pub functions : List FunctionLines
  pub main : MainLines

-- The body of a function is one of so many terms.
abbrev pub IsFunctionIn : ℕ → FunctionLines → Type 0
IsFunctionIn n f = f.body.0 < n

-- Each body is one of the terms, and each data declaration has a constructor.
pub record AreInside (parts : TextParts) : Type 0 where
  pub functions : AllByRecursion (IsFunctionIn (length parts.lines)) parts.functions
  pub main : parts.main.body.0 < length parts.lines
  pub constructors : AllByRecursion HasConstructor (map data_tree parts.datas)

-- A function as a tree, where terms have these trees.
abbrev pub function_text : (ℕ → Line) → FunctionLines → FunctionText
function_text f d = record { name = d.name; parameters = d.parameters.items; result = d.result; place = d.place; body = f d.body.0 }

-- Main as a tree, where terms have these trees.
abbrev pub main_text : (ℕ → Line) → MainLines → MainText
main_text f m = record { parameter = m.parameter; result = m.result; place = m.place; body = f m.body.0 }

-- Functions were read: their bodies stand here, and the terms that were there stay.
pub record ReadsFunctions (old new : List LineNode) (fs : List FunctionLines) : Type 0 where
  pub grows : Grows old new
  pub inside : AllByRecursion (IsFunctionIn (length new)) fs

-- The tree of a text.
abbrev pub text_of : TextParts → LocalTree
text_of parts = record {
  datas = map data_tree parts.datas;
  offsets = parts.offsets;
  functions = map (function_text (tree_of parts.lines)) parts.functions;
  main = main_text (tree_of parts.lines) parts.main;
}
