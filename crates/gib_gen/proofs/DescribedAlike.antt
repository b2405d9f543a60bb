-- Programs whose inputs have one description.
use Rattle.std.proofs.Common.{◌↔◌, ℕ, List}
use Rattle.gib_base.specs.Lexed.{Lexed}
use Rattle.gib_types.specs.Tree.{Datum}
use Rattle.gib_syntax.specs.Tree.{ProgramTree}
use Rattle.gib_syntax.specs.Source.{Spells}
use Rattle.gib_syntax.specs.Plain.{generic_of}
use Rattle.gib_syntax.specs.Declarations.{table_of_program, input_type}
use Rattle.gib_syntax.specs.Typing.{IsTypedProgram}
use Rattle.gib_file.specs.Packed.{Packed}
use Rattle.gib_file.specs.Framed.{File2}
use Rattle.gib_file.specs.Describing.{Describes}
use Rattle.gib_file.proofs.SameTypes.{packed_law, files_law}
use Rattle.gib_gen.proofs.Named.{named, input_below}

pub same_bytes : (text other : List ℕ) (l m : Lexed) (p q : ProgramTree) (description : List ℕ) → Spells text l (generic_of p) → IsTypedProgram p → Spells other m (generic_of q) → IsTypedProgram q
    → Describes (table_of_program p) l.names (input_type p) description → Describes (table_of_program q) m.names (input_type q) description
    → (v : Datum) (bytes : List ℕ) → Packed (table_of_program p) (input_type p) v bytes ↔ Packed (table_of_program q) (input_type q) v bytes
same_bytes text other l m p q description s t r u d e v bytes =
    packed_law (table_of_program p) (table_of_program q) l.names m.names (input_type p) (input_type q) description (named text l p s t) (named other m q r u) (input_below p t) (input_below q u) d e v bytes

pub same_files : (text other : List ℕ) (l m : Lexed) (p q : ProgramTree) (description : List ℕ) → Spells text l (generic_of p) → IsTypedProgram p → Spells other m (generic_of q) → IsTypedProgram q
    → Describes (table_of_program p) l.names (input_type p) description → Describes (table_of_program q) m.names (input_type q) description
    → (v : Datum) (bytes : List ℕ) → File2 (table_of_program p) l.names (input_type p) v bytes ↔ File2 (table_of_program q) m.names (input_type q) v bytes
same_files text other l m p q description s t r u d e v bytes =
    files_law (table_of_program p) (table_of_program q) l.names m.names (input_type p) (input_type q) description (named text l p s t) (named other m q r u) (input_below p t) (input_below q u) d e v bytes
