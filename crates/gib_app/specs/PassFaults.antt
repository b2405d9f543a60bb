-- Why a call stops, by the fault of a pass.
use Rattle.gib_lex.specs.declared.fault.LexFault.{LexFault}
use Rattle.gib_lex.specs.declared.fault.LexFault.TheVariants as lexing
use Rattle.gib_parse.specs.declared.fault.ParseFault.{ParseFault}
use Rattle.gib_parse.specs.declared.fault.ParseFault.TheVariants as parsing
use Rattle.gib_check.specs.declared.fault.TypeFault.{TypeFault}
use Rattle.gib_check.specs.declared.fault.TypeFault.TheVariants as typing
use Rattle.gib_local.specs.declared.fault.LocalFault.{LocalFault}
use Rattle.gib_local.specs.declared.fault.LocalFault.TheVariants as locating
use Rattle.gib_mono.specs.declared.found.MonoFault.{MonoFault}
use Rattle.gib_mono.specs.declared.found.MonoFault.TheVariants as copying
use Rattle.gib_file.specs.declared.fault.SchemaFault.{SchemaFault}
use Rattle.gib_file.specs.declared.fault.SchemaFault.TheVariants as schema
use Rattle.gib_file.specs.declared.fault.PackFault.{PackFault}
use Rattle.gib_file.specs.declared.fault.PackFault.TheVariants as payload
use Rattle.gib_app.specs.declared.source_fault.SourceFault.TheVariants as source
use Rattle.gib_app.specs.declared.input_fault.InputFault.TheVariants as input
use Rattle.gib_print.specs.declared.image_fault.ImageFault.{ImageFault as ReadFault}
use Rattle.gib_print.specs.declared.image_fault.ImageFault.TheVariants as reading
use Rattle.gib_app.specs.declared.input_fault.ImageFault.TheVariants as image
use Rattle.gib_app.specs.declared.input_fault.PackedFault.{PackedFault}
use Rattle.gib_app.specs.declared.input_fault.PackedFault.TheVariants as packed
use Rattle.gib_app.specs.declared.stop.Stop.{Stop}
use Rattle.gib_app.specs.declared.stop.Stop.TheVariants.{Source, Input, Memory}

-- A fault of lexing.
abbrev pub lex_stop : LexFault → Stop
lex_stop lexing.Memory = Memory
lex_stop lexing.Long = Source source.Long
lex_stop (lexing.At place) = Source (source.BadCharacter place)
lex_stop (lexing.Big place) = Source (source.BigNumber place)
lex_stop lexing.Many = Source source.ManyNames

-- A fault of parsing.
abbrev pub parse_stop : ParseFault → Stop
parse_stop parsing.Memory = Memory
parse_stop (parsing.At place) = Source (source.Syntax place)
parse_stop (parsing.Nested place) = Source (source.Nested place)

-- A fault of the check.
abbrev pub check_stop : TypeFault → Stop
check_stop typing.Memory = Memory
check_stop (typing.Broken fault) = Source (source.Broken fault.kind fault.span.start)

-- A use over a limit on copies.
abbrev pub copy_stop : MonoFault → Stop
copy_stop copying.Memory = Memory
copy_stop (copying.Limit span) = Source (source.OverLimit span.start)

-- A fault of a text that writes its places out.
abbrev pub local_stop : LocalFault → Stop
local_stop locating.Memory = Memory
local_stop locating.Long = Source source.Long
local_stop (locating.At place) = Source (source.BadCharacter place)
local_stop (locating.Big place) = Source (source.BigNumber place)
local_stop locating.Many = Source source.ManyNames
local_stop (locating.Syntax place) = Source (source.Syntax place)
local_stop (locating.Nested place) = Source (source.Nested place)
local_stop (locating.Broken fault) = Source (source.Broken fault.kind fault.span.start)
local_stop (locating.Place place) = Source (source.Misplaced place)
local_stop (locating.Rule rule term) = Source (source.BreaksRule rule term)

-- A second file that is no packed file.
abbrev pub packed_stop : PackedFault → Stop
packed_stop fault = Input (input.Packed fault)

-- A fault of what a packed file says of its types.
abbrev pub schema_stop : SchemaFault → Stop
schema_stop schema.Memory = Memory
schema_stop (schema.At place) = packed_stop (packed.Types place)

-- A fault of a packed file's payload.
abbrev pub payload_stop : PackFault → Stop
payload_stop payload.Memory = Memory
payload_stop (payload.Short place) = packed_stop (packed.Short place)
payload_stop (payload.Tag place) = packed_stop (packed.Tag place)
payload_stop (payload.Truth place) = packed_stop (packed.Truth place)
payload_stop (payload.Trailing place) = packed_stop (packed.Trailing place)

-- A fault of reading an image.
abbrev pub image_stop : ReadFault → Stop
image_stop reading.Memory = Memory
image_stop reading.Head = Input (input.Image image.Header)
image_stop (reading.Bad at) = Input (input.Image (image.Item at))
image_stop reading.Long = Input (input.Image image.Long)
