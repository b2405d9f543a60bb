-- Which calls of the shelf the words ask for.
use Rattle.std.specs.Prelude.{ℕ, ◌+◌, List, [], ◌∷◌, ◌++◌, map, Option, Some, None}
use Rattle.std.specs.Option.{option_map_or}
use Rattle.gib_edge.specs.Views.{Call, ReadOf, WriteOf}
use Rattle.gib_words.specs.Plan.{Document, BuiltIn, Named, Write, Plan}
use Rattle.gib_words.specs.Words.{asked}
use Rattle.gib_app.specs.Formats.{Input, inputs_of}

-- The read of a document that may have so many bytes: one more is asked for, so that a longer file is seen.
abbrev pub read_calls : Document → ℕ → List Call
read_calls (BuiltIn bytes) most = []
read_calls (Named name) most = ReadOf name (most + 1) ∷ []

-- The reads of inputs, in their order.
abbrev pub input_calls : List Input → List Call
input_calls [] = []
input_calls (input ∷ rest) = read_calls input.document input.most ++ input_calls rest

-- The write of a file.
abbrev pub write_calls : Option (List ℕ) → List Call
write_calls None = []
write_calls (Some name) = WriteOf name ∷ []

-- The writes that are made first.
abbrev pub first_calls : List Write → List Call
first_calls writes = map (λ write. WriteOf write.name) writes

-- The reads of a plan.
abbrev pub reads_of : Plan → List Call
reads_of plan = read_calls plan.source 1048576 ++ input_calls (inputs_of plan)

-- The writes of what its job makes.
abbrev pub job_calls : Plan → List Call
job_calls plan = write_calls plan.target ++ write_calls plan.pack

-- All calls of a plan: the first writes, then the read of its source and those of its inputs, then the writes of what its job makes.
abbrev pub calls_of : Plan → List Call
calls_of plan = first_calls plan.first ++ (reads_of plan ++ job_calls plan)

-- The calls that the words ask for.
abbrev pub calls_asked : List (List ℕ) → List Call
calls_asked words = option_map_or calls_of (asked words) []
