-- The lines of a journal, and the events that they count out.
use Rattle.std.specs.Prelude.{◌≡◌, ℕ, ◌+◌, ◌<◌, ◌^◌, List, [], ◌∷◌, ◌++◌, replicate, Bool, true, not, ◌&&◌, ◌||◌, ◌==◌, nat_lt, nat_le, if◌then◌else◌, Option, Some, None}
use Rattle.gib_weave.specs.declared.event.Event.{Event as TaskEvent}
use Rattle.gib_weave.specs.declared.event.Event.TheVariants as event
use Rattle.gib_weave.specs.Weave.{Event, Step, Fork, Steal, Take, Finish, Join}
use Rattle.gib_locked.specs.declared.journal.Line.{Line}
use Rattle.gib_locked.specs.declared.journal.Line.TheVariants.{Steps, Forks, Steals, Takes, Finishes, Joins}

-- The events of a line: so many steps of one task, or one other event.
abbrev pub counted : Line → List Event
counted (Steps t n) = replicate n (Step t)
counted (Forks t) = Fork t ∷ []
counted (Steals t) = Steal t ∷ []
counted (Takes t) = Take t ∷ []
counted (Finishes t) = Finish t ∷ []
counted (Joins t) = Join t ∷ []

-- Each line's events, in order.
abbrev pub counted_out : List Line → List Event
counted_out [] = []
counted_out (l ∷ ls) = counted l ++ counted_out ls

-- The most steps of one line.
abbrev pub most : ℕ
most = 9223372036854775807

-- The line of one event.
abbrev pub line_of : TaskEvent → Line
line_of (event.Step t) = Steps t 1
line_of (event.Fork t) = Forks t
line_of (event.Steal t) = Steals t
line_of (event.Take t) = Takes t
line_of (event.Finish t) = Finishes t
line_of (event.Join t) = Joins t

-- The number is one of a task.
abbrev pub is_task : ℕ → Bool
is_task t = nat_lt t (2 ^ 32)

-- A line that a journal may have: one of steps has one step at least, and no more than the greatest number.
abbrev pub is_line : Line → Bool
is_line (Steps t n) = is_task t && (nat_lt 0 n && nat_le n most)
is_line (Forks t) = is_task t
is_line (Steals t) = is_task t
is_line (Takes t) = is_task t
is_line (Finishes t) = is_task t
is_line (Joins t) = is_task t

-- The second line may stand directly behind the first: not steps of one task, unless the first has the greatest number.
abbrev pub may_follow : Line → Line → Bool
may_follow (Steps t n) (Steps u m) = not (t == u) || (n == most)
may_follow l k = true

-- The first of the lines may stand directly behind this one.
abbrev pub first_may_follow : Line → List Line → Bool
first_may_follow l [] = true
first_may_follow l (k ∷ ks) = may_follow l k

-- The lines that a journal may have.
abbrev pub are_lines : List Line → Bool
are_lines [] = true
are_lines (l ∷ ls) = is_line l && (first_may_follow l ls && are_lines ls)

-- The line with one step more, where the event is a step of its task and the line has room.
abbrev pub longer : Line → TaskEvent → Option Line
longer (Steps t n) (event.Step u) = if (t == u) && nat_lt n most then Some (Steps t (n + 1)) else None
longer l e = None

-- The line with one step more of its task.
pub record IsLonger (last : Line) (e : TaskEvent) (line : Line) : Type 0 where
  pub task : ℕ
  pub count : ℕ
  pub last_is : last ≡ Steps task count
  pub event_is : e ≡ event.Step task
  pub room : count < most
  pub line_is : line ≡ Steps task (count + 1)
