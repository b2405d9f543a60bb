-- Which program a source text spells.
use Rattle.std.specs.Prelude.{ℕ, ◌≤◌, List, length}
use Rattle.gib_base.specs.Lexed.{Lexed, IsLexed}
use Rattle.gib_syntax.specs.GenericTree.{GenericProgramTree}
use Rattle.gib_syntax.specs.Spelling.{Derives, IsPlacedProgram, places_of, levels_program}

-- The text spells the program, with these tokens: it is lexed into them, they are those of the program by
-- the grammar, and each name, type and expression carries the span of its first token; the text has at most
-- 1,048,576 bytes and 65,535 names, and expressions are nested at most 200 levels deep.
pub record Spells (text : List ℕ) (lexed : Lexed) (p : GenericProgramTree) : Type 0 where
  pub is_lexed : IsLexed text lexed
  pub derived : Derives lexed.tokens p
  pub placed : IsPlacedProgram (places_of lexed.spans) p
  pub short : length text ≤ 1048576
  pub few_names : length lexed.names ≤ 65535
  pub shallow : levels_program p ≤ 200
