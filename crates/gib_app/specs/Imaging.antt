-- A run's image and its text, which are both made before one of them goes out.
use Rattle.gib_base.specs.Texts.{TextsView}
use Rattle.std.specs.Prelude.{◌≡◌, ℕ, List, Bool, Option, Some}
use Rattle.gib_edge.specs.Views.{SinkView}
use Rattle.gib_types.specs.Layout.{LaidOut}
use Rattle.gib_types.specs.Tree.{Datum}
use Rattle.gib_mem.specs.Memory.{Memory}
use Rattle.gib_packed.specs.declared.root.Root.{Root}
use Rattle.gib_syntax.specs.Tree.{ProgramTree}
use Rattle.gib_syntax.specs.Declarations.{output_type}
use Rattle.gib_app.specs.declared.buffer.Buffer.{Buffer}
use Rattle.gib_app.specs.declared.made.End.{End as KeptEnd}
use Rattle.gib_app.specs.declared.made.End.TheVariants as ends
use Rattle.gib_app.specs.Replaying.{IsImageFile}
use Rattle.gib_app.specs.Running.{text_line}

-- What is told of a buffer.
abbrev pub buffered : Buffer → SinkView
buffered b = record { taken = Some b.bytes.items; faults = b.faults; puts = b.pieces.puts; whole = b.pieces.whole; last = b.pieces.last }

-- The end prints the text of a value, and the file is the image of a memory in which that value stands for the root; or there is none,
-- where none is asked for.
abbrev pub IsShownWith : (image : Bool) → LaidOut → Memory → Root → ProgramTree → TextsView → Datum → Option (List ℕ) → KeptEnd → Type 0
IsShownWith image laid memory place p names v file (ends.Prints text) =
    IsImageFile image laid (output_type p) memory place v file × (text.items ≡ text_line p names v)
IsShownWith image laid memory place p names v file (ends.Value value) = ⊥
IsShownWith image laid memory place p names v file (ends.NoValue reason) = ⊥
