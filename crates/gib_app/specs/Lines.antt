-- What the line of a call says.
use Rattle.std.specs.Prelude.{◌≡◌, ℕ, ◌≤◌, List, [], ◌∷◌, ◌++◌, codes}
use Rattle.std.specs.Fmt.{decimal}
use Rattle.gib_types.specs.declared.reason.Reason.{Reason}
use Rattle.gib_types.specs.declared.reason.Reason.TheVariants as reason
use Rattle.gib_edge.specs.Causes.{Rose, Appends, AppendsPart}
use Rattle.gib_edge.specs.Views.{SinkView}
use Rattle.gib_check.specs.declared.fault.Kind.{Kind}
use Rattle.gib_check.specs.declared.fault.Kind.TheVariants as rule
use Rattle.gib_file.specs.declared.fault.HeadFault.{HeadFault}
use Rattle.gib_file.specs.declared.fault.HeadFault.TheVariants as header
use Rattle.gib_app.specs.declared.answer.Detail.{Detail}
use Rattle.gib_app.specs.declared.answer.Detail.TheVariants.{Nothing, Number, AtTerm, Bytes, Name}
use Rattle.gib_app.specs.declared.answer.Said.{Said}
use Rattle.gib_app.specs.declared.source_fault.SourceFault.{SourceFault}
use Rattle.gib_app.specs.declared.source_fault.SourceFault.TheVariants as source
use Rattle.gib_app.specs.declared.input_fault.InputFault.{InputFault}
use Rattle.gib_app.specs.declared.input_fault.InputFault.TheVariants as input
use Rattle.gib_app.specs.declared.input_fault.ImageFault.{ImageFault}
use Rattle.gib_app.specs.declared.input_fault.ImageFault.TheVariants as image
use Rattle.gib_app.specs.declared.input_fault.JournalFault.{JournalFault}
use Rattle.gib_app.specs.declared.input_fault.JournalFault.TheVariants as journal
use Rattle.gib_app.specs.declared.input_fault.PackedFault.{PackedFault}
use Rattle.gib_app.specs.declared.input_fault.PackedFault.TheVariants as packed

-- A line: `gib: `, what is said, and a line feed.
abbrev pub line : List ℕ → List ℕ
line said = codes "gib: " ++ said ++ 10 ∷ []

-- These bytes were put on a sink, or a front of them where its count rose. The count never falls. Where there are no bytes, nothing
-- was put, and no empty piece either.
pub record IsPut (before now : SinkView) (said : List ℕ) : Type 0 where
  pub later : before.faults ≤ now.faults
  pub none : said ≡ [] → now ≡ before
  pub whole : (Rose before.faults now.faults → ⊥) → Appends before.taken now.taken said
  pub part : AppendsPart before.taken now.taken said

-- What stands before a place.
abbrev pub at_place : List ℕ
at_place = codes " at "

-- What is said of a broken rule of typing, before its place.
abbrev pub rule_text : Kind → List ℕ
rule_text rule.Unknown = codes "unknown name" ++ at_place
rule_text rule.Twice = codes "name bound twice" ++ at_place
rule_text rule.Shape = codes "wrong type" ++ at_place
rule_text rule.Arms = codes "wrong arms" ++ at_place
rule_text rule.Count = codes "wrong count" ++ at_place
rule_text rule.Limit = codes "over a limit" ++ at_place

-- What is said of a source that is no program.
abbrev pub source_text : SourceFault → List ℕ
source_text source.Long = codes "source: longer than 1048576 bytes"
source_text (source.BadCharacter place) = codes "source: bad character at " ++ decimal place
source_text (source.BigNumber place) = codes "source: number too large at " ++ decimal place
source_text source.ManyNames = codes "source: more than 65535 names"
source_text (source.Syntax place) = codes "source: syntax at " ++ decimal place
source_text (source.Nested place) = codes "source: nested too deep at " ++ decimal place
source_text (source.Broken kind place) = codes "source: " ++ rule_text kind ++ decimal place
source_text (source.OverLimit place) = codes "source: over a limit at " ++ decimal place
source_text (source.Misplaced place) = codes "source: wrong place at " ++ decimal place
source_text (source.BreaksRule n term) = codes "source: location rule " ++ (decimal n ++ (codes " at term " ++ decimal term))

-- What is said of a program that means no value.
abbrev pub reason_text : Reason → List ℕ
reason_text reason.Deep = codes "depth"
reason_text reason.Trap = codes "division by zero"

-- What is said of the header of a packed file.
abbrev pub header_text : HeadFault → List ℕ
header_text header.Magic = codes "not a packed file"
header_text (header.Version v) = codes "version " ++ decimal v
header_text header.Reserved = codes "reserved bytes"
header_text header.Length = codes "wrong length"

-- What is said of a file that is no packed one.
abbrev pub packed_text : PackedFault → List ℕ
packed_text (packed.Header fault) = header_text fault
packed_text (packed.Types place) = codes "other types at " ++ decimal place
packed_text (packed.Short place) = codes "short at " ++ decimal place
packed_text (packed.Tag place) = codes "bad tag at " ++ decimal place
packed_text (packed.Truth place) = codes "bad truth value at " ++ decimal place
packed_text (packed.Trailing place) = codes "trailing bytes at " ++ decimal place

-- What is said of a file that is no image.
abbrev pub image_text : ImageFault → List ℕ
image_text image.Header = codes "bad image header"
image_text (image.Item at) = codes "bad image at " ++ decimal at
image_text image.Long = codes "image too long"

-- What is said of a journal that is refused.
abbrev pub journal_text : JournalFault → List ℕ
journal_text (journal.Line n) = codes "bad journal at line " ++ decimal n
journal_text (journal.NotEnabled n) = codes "event not enabled at line " ++ decimal n
journal_text journal.NotEnded = codes "journal not ended"

-- What is said of inputs that are refused.
abbrev pub input_text : InputFault → List ℕ
input_text (input.Long most) = codes "input: longer than " ++ decimal most ++ codes " bytes"
input_text (input.Packed fault) = codes "input: " ++ packed_text fault
input_text (input.Image fault) = codes "input: " ++ image_text fault
input_text (input.Text place) = codes "input: bad text at " ++ decimal place
input_text (input.Journal fault) = codes "input: " ++ journal_text fault

-- Words, and what stands behind them.
abbrev pub with_detail : List ℕ → Detail → List ℕ
with_detail words Nothing = words
with_detail words (Number n) = words ++ decimal n
with_detail words (AtTerm n term) = words ++ (decimal n ++ (codes " at term " ++ decimal term))
with_detail words (Bytes n) = words ++ (decimal n ++ codes " bytes")
with_detail words (Name name) = words ++ name.now

-- What the code keeps of what is said.
abbrev pub said_text : Said → List ℕ
said_text said = with_detail said.words.now said.detail
