-- The text of a journal.
use Rattle.std.specs.Prelude.{ℕ, List, [], ◌∷◌, ◌++◌, map, codes}
use Rattle.std.specs.List.{flat_map}
use Rattle.std.specs.Fmt.{decimal}
use Rattle.gib_types.specs.declared.access.FieldAccess.{FieldAccess}
use Rattle.gib_types.specs.declared.access.FieldAccess.TheVariants.{Ends, Skips}
use Rattle.gib_locked.specs.declared.settings.Settings.{Settings}
use Rattle.gib_locked.specs.declared.journal.Line.{Line}
use Rattle.gib_locked.specs.declared.journal.Line.TheVariants.{Steps, Forks, Steals, Takes, Finishes, Joins}

-- The word of an event.
abbrev pub word_text : Line → List ℕ
word_text (Steps t n) = codes "step"
word_text (Forks t) = codes "fork"
word_text (Steals t) = codes "steal"
word_text (Takes t) = codes "take"
word_text (Finishes t) = codes "finish"
word_text (Joins t) = codes "join"

-- The number of its task; of steps also how many.
abbrev pub numbers_text : Line → List ℕ
numbers_text (Steps t n) = decimal t ++ 32 ∷ decimal n
numbers_text (Forks t) = decimal t
numbers_text (Steals t) = decimal t
numbers_text (Takes t) = decimal t
numbers_text (Finishes t) = decimal t
numbers_text (Joins t) = decimal t

-- An event line: the word, a space (32), the numbers.
abbrev pub line_text : Line → List ℕ
line_text l = word_text l ++ 32 ∷ numbers_text l

-- How fields are reached: 1 where by walks over the fields before.
abbrev pub access_text : FieldAccess → List ℕ
access_text Ends = codes "skips 0"
access_text Skips = codes "skips 1"

-- The line of what the weave was started with.
abbrev pub settings_text : Settings → List ℕ
settings_text s = codes "depth " ++ (decimal s.depth ++ (codes " chunks " ++ (decimal s.chunks ++ (codes " fork " ++ (decimal s.fork ++ 32 ∷ access_text s.access)))))

-- The lines behind the first two: the events', and the last one.
abbrev pub events_text : List Line → List (List ℕ)
events_text ls = map line_text ls ++ codes "end" ∷ []

-- The lines of a journal.
abbrev pub lines_text : Settings → List Line → List (List ℕ)
lines_text s ls = codes "gibj 3" ∷ settings_text s ∷ events_text ls

-- A line with its line feed (10).
abbrev pub fed : List ℕ → List ℕ
fed line = line ++ 10 ∷ []

-- The text of a journal: each line ends with a line feed.
abbrev pub journal_text : Settings → List Line → List ℕ
journal_text s ls = flat_map fed (lines_text s ls)
