-- What reading a journal answers: the journal, or the first line that is of none.
use Rattle.std.specs.Prelude.{◌≡◌, ◌⊎◌, ℕ, ◌+◌, List, [], ◌∷◌, ◌++◌, length, map, codes, true, Result, Ok, Err}
use Rattle.std.specs.List.{flat_map}
use Rattle.gib_locked.specs.declared.settings.Settings.{Settings}
use Rattle.gib_locked.specs.declared.journal.Line.{Line}
use Rattle.gib_locked.specs.declared.journal.Journal.{Journal}
use Rattle.gib_locked.specs.declared.journal.Lines.{Lines}
use Rattle.gib_locked.specs.declared.journal_fault.JournalFault.{JournalFault}
use Rattle.gib_locked.specs.declared.journal_fault.JournalFault.TheVariants as fault
use Rattle.gib_locked.specs.Lines.{are_lines}
use Rattle.gib_locked.specs.JournalText.{events_text, fed, journal_text, line_text, lines_text}

-- The lines of some journal begin with these.
pub record CanStand (before : List (List ℕ)) : Type 0 where
  pub settings : Settings
  pub lines : List Line
  pub more : List (List ℕ)
  pub are : are_lines lines ≡ true
  pub begin : lines_text settings lines ≡ before ++ more

-- The text is refused at the line of a number, from 1 on: the lines before can stand; with the next line, which has its line feed, the
-- lines of no journal begin; and they are not all lines of a journal, with nothing behind.
pub record IsRefusedAt (text : List ℕ) (number : ℕ) : Type 0 where
  pub before : List (List ℕ)
  pub rest : List ℕ
  pub cut : text ≡ flat_map fed before ++ rest
  pub number_is : number ≡ length before + 1
  pub can : CanStand before
  pub cannot : (s : Settings) (ls : List Line) (next : List ℕ) (more : List (List ℕ)) (behind : List ℕ) → are_lines ls ≡ true
      → lines_text s ls ≡ before ++ next ∷ more → rest ≡ next ++ 10 ∷ behind → ⊥
  pub not_all : (s : Settings) (ls : List Line) → are_lines ls ≡ true → lines_text s ls ≡ before → rest ≡ [] → ⊥

-- What is read is the journal whose text this is; else the line is the first that cannot stand.
abbrev pub ReadsTo : List ℕ → Result Journal JournalFault → Type 0
ReadsTo text (Ok j) = text ≡ journal_text j.settings j.lines.all.items
ReadsTo text (Err fault.Memory) = Unit {0}
ReadsTo text (Err (fault.Line n)) = IsRefusedAt text n

-- Behind the first two lines reading stops at the line of a number, where neither the last line nor an event line that may stand next is.
pub record IsStuckAt (text : List ℕ) (number : ℕ) : Type 0 where
  pub lines : List Line
  pub rest : List ℕ
  pub are : are_lines lines ≡ true
  pub cut : text ≡ flat_map fed (map line_text lines) ++ rest
  pub number_is : number ≡ length lines + 3
  pub not_last : (behind : List ℕ) → rest ≡ codes "end" ++ 10 ∷ behind → ⊥
  pub not_event : (l : Line) (behind : List ℕ) → are_lines (lines ++ l ∷ []) ≡ true → rest ≡ line_text l ++ 10 ∷ behind → ⊥

-- Or at the first line behind the last one.
pub record IsBehindAt (text : List ℕ) (number : ℕ) : Type 0 where
  pub lines : List Line
  pub rest : List ℕ
  pub are : are_lines lines ≡ true
  pub cut : text ≡ flat_map fed (events_text lines) ++ rest
  pub number_is : number ≡ length lines + 4
  pub some : rest ≡ [] → ⊥

-- What reading the lines behind the first two answers.
abbrev pub EventsReadTo : List ℕ → Result Lines JournalFault → Type 0
EventsReadTo text (Ok ls) = text ≡ flat_map fed (events_text ls.all.items)
EventsReadTo text (Err fault.Memory) = Unit {0}
EventsReadTo text (Err (fault.Line n)) = IsStuckAt text n ⊎ IsBehindAt text n
