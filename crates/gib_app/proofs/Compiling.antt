-- From tokens to a program and its copy.
use Rattle.std.proofs.Common.{◌≡◌, ◌≤◌, ℕ, List, length, refl, arith}
use Rattle.gib_base.specs.Lexed.{Lexed, IsLexed, AreTokens}
use Rattle.gib_base.specs.Texts.{TextsView}
use Rattle.gib_syntax.specs.Tree.{ProgramTree}
use Rattle.gib_syntax.specs.GenericTree.{GenericProgramTree}
use Rattle.gib_syntax.specs.GenericTyping.{IsTypedGeneric}
use Rattle.gib_syntax.specs.Spelling.{Derives, IsPlacedProgram, places_of, levels_program}
use Rattle.gib_syntax.specs.Source.{Spells}
use Rattle.gib_check.specs.Refusals.{IsMemory}
use Rattle.gib_check.specs.declared.fault.TypeFault.{TypeFault}
use Rattle.gib_check.specs.declared.fault.TypeFault.TheVariants as typing
use Rattle.gib_app.specs.declared.stop.Stop.TheVariants.{Memory}
use Rattle.gib_app.specs.PassFaults.{check_stop}
use Rattle.gib_app.specs.Running.{IsCopy, IsProgram}

-- what is parsed of the tokens of a text is spelled by it
pub spells : (source : List ℕ) (l : Lexed) (g : GenericProgramTree) → IsLexed source l → AreTokens l → Derives l.tokens g → IsPlacedProgram (places_of l.spans) g → levels_program g ≤ 200 → Spells source l g
spells source l g lexed known derived placed shallow = record {
  is_lexed = lexed;
  derived = derived;
  placed = placed;
  short = let e = lexed.len in let s = known.short in omega (arith, e, s);
  few_names = known.few;
  shallow = shallow;
}

-- want of memory is told as such
pub memory_stops : (fault : TypeFault) → IsMemory fault → check_stop fault ≡ Memory
memory_stops typing.Memory h = refl
memory_stops (typing.Broken fault) h = absurd h

-- with its copy it is a program
pub is_program : (source : List ℕ) (l : Lexed) (g : GenericProgramTree) (p : ProgramTree) (t : TextsView) → Spells source l g → IsTypedGeneric g → IsCopy g l.names p t → IsProgram source t p
is_program source l g p t spelled typed copy = record { lexed = l; generic = g; spelled = spelled; typed = typed; copy = copy }
