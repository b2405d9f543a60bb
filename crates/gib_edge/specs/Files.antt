-- Files in memory: each is a name and its bytes.
use Rattle.std.specs.Prelude.{ℕ, List, [], ◌∷◌, Option, Some, None, if◌then◌else◌, Vec, String, string_bytes, bytes_eq, filter, not}
use Rattle.std.specs.declared.alloc.Global.{Global}
use Rattle.gib_edge.specs.Views.{Held, Missing, Has}

-- What the first file of a name holds.
abbrev pub held : List (String Global × Vec ℕ Global) → List ℕ → Option (List ℕ)
held [] name = None
held (file ∷ files) name = if bytes_eq (string_bytes file.0) name then Some file.1.items else held files name

-- The files of other names.
abbrev pub others : List ℕ → List (String Global × Vec ℕ Global) → List (String Global × Vec ℕ Global)
others name files = filter (λ file. not (bytes_eq (string_bytes file.0) name)) files

-- What is told of a name by what its first file holds.
abbrev pub held_or_missing : Option (List ℕ) → Held
held_or_missing None = Missing
held_or_missing (Some bytes) = Has bytes
