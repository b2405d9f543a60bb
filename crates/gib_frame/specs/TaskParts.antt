-- A task.
use Rattle.std.specs.Prelude.{◌≡◌, []}
use Rattle.gib_code.specs.declared.answer.Side.{Side}
use Rattle.gib_core.specs.LoweredParts.{LoweredParts}
use Rattle.gib_machine.specs.State.{widest}
use Rattle.gib_machine.specs.Frames.{FitsFrame}
use Rattle.gib_machine.specs.Starting.{waiting_of}
use Rattle.gib_arena.specs.declared.memory.Arena.{Arena}
use Rattle.gib_arena.specs.declared.memory.Pass.{Pass}
use Rattle.gib_arena.specs.Passes.{view, cells, IsOf}
use Rattle.gib_frame.specs.declared.due.Due.{Due}
use Rattle.gib_frame.specs.Answers.{Owes, drawn_by}

-- What its frame was made for, the arena and the code, the side and the pass.
pub record TaskParts : Type 0 where
  pub due : Due
  pub arena : Arena
  pub lowered : LoweredParts
  pub side : Side
  pub pass : Pass

-- They are those of the frame, the pass drew nothing and nothing is split off it, a frame of the code has room for the side's words and ends,
-- and the side owes something.
pub record IsTask (t : TaskParts) : Type 0 where
  pub own : IsOf t.arena t.pass
  pub none_out : (view t.pass).branch.out ≡ []
  pub none_drawn : drawn_by t.pass ≡ 0
  pub lowered : t.due.lowered.value ≡ t.lowered
  pub side : t.due.side.value ≡ t.side
  pub pass : t.due.pass.value ≡ t.pass
  pub fits : FitsFrame (widest t.lowered.code.functions) (waiting_of t.side).words
  pub owes : Owes t.lowered (cells t.pass) t.side
