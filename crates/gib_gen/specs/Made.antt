-- What is made of a number and of levels: the text of a program, and a tree of numbers that is its input.
use Rattle.std.specs.Prelude.{◌≡◌, ◌<◌, ◌≤◌, ℕ, zero, suc, pos, ◌+◌, ◌*◌, ◌%◌, ◌^◌, List, [], ◌∷◌, ◌++◌, length, codes}
use Rattle.std.specs.Fmt.{decimal}
use Rattle.gib_base.specs.Lexed.{Lexed}
use Rattle.gib_types.specs.Tree.{Datum, HasType}
use Rattle.gib_syntax.specs.Tree.{ProgramTree}
use Rattle.gib_syntax.specs.Source.{Spells}
use Rattle.gib_syntax.specs.Plain.{generic_of}
use Rattle.gib_syntax.specs.Declarations.{table_of_program, input_type, output_type}
use Rattle.gib_syntax.specs.Typing.{IsTypedProgram}
use Rattle.gib_syntax.specs.Meaning.{Gives, Stops, Deep, run}
use Rattle.gib_file.specs.Packed.{packed}
use Rattle.gib_file.specs.Framed.{header, File1}
use Rattle.gib_gen.specs.NumberTree.{NumberTree, Leaf, Node, value_of, tree_type, height, worked}

-- The text before the literal.
abbrev pub front : List ℕ
front = codes "data Tree = Leaf Int | Node Tree Tree ; fun work ( t : Tree ) : Tree = case t of { Leaf n -> Leaf ( ( n * 3 ) + "

-- The text behind the literal; 10 is the line feed.
abbrev pub back : List ℕ
back = codes " ) ; Node l r -> let par a = work l and b = work r in Node a b } ; main ( t : Tree ) : Tree = work t ;" ++ 10 ∷ []

-- The text of the program with a literal: one space between two tokens, and one line feed at the end.
abbrev pub source_text : ℕ → List ℕ
source_text literal = front ++ (decimal literal ++ back)

-- The number that follows a number.
abbrev pub next : ℕ → ℕ
next x = (1103515245 * x + 12345) % 2 ^ 31

-- A tree, and the number in its last leaf.
pub record Grown : Type 0 where
  pub tree : NumberTree
  pub last : ℕ

-- A node of a tree and of what grows from its last number.
abbrev pub beside : Grown → (ℕ → Grown) → Grown
beside left go = record { tree = Node left.tree (go left.last).tree; last = (go left.last).last }

-- The full tree of so many levels below its root; its leaves hold the numbers that follow one another from a number on.
abbrev pub grown : ℕ → ℕ → Grown
grown zero x = record { tree = Leaf (pos (next x)); last = next x }
grown (suc levels) x = beside (grown levels x) (grown levels)

-- The packed bytes of a tree.
abbrev pub packed_tree : NumberTree → List ℕ
packed_tree t = packed (value_of t)

-- The packed file of a tree.
abbrev pub file_of : NumberTree → List ℕ
file_of t = header (length (packed_tree t)) ++ packed_tree t

-- The text is that of a typed program without type parameters, and the bytes are the packed file of the tree as its input. The values of both its types
-- are the trees of numbers. Within a depth that is greater than the height of a tree it gives what is made of it with the literal,
-- and within any other none.
pub record IsProgramWith (literal : ℕ) (source input : List ℕ) (t : NumberTree) : Type 0 where
  pub lexed : Lexed
  pub program : ProgramTree
  pub spells : Spells source lexed (generic_of program)
  pub typed : IsTypedProgram program
  pub file : File1 (table_of_program program) (input_type program) (value_of t) input
  pub takes : input_type program ≡ tree_type
  pub gives : output_type program ≡ tree_type
  pub trees : (v : Datum) → HasType (table_of_program program) v tree_type → (u : NumberTree) × (v ≡ value_of u)
  pub works : (u : NumberTree) (depth : ℕ) → height u < depth → run program depth (value_of u) ≡ Gives (value_of (worked literal u))
  pub ends : (u : NumberTree) (depth : ℕ) → depth ≤ height u → run program depth (value_of u) ≡ Stops Deep
