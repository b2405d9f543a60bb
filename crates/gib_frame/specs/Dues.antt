-- What the two ends of a frame were made for.
use Rattle.std.specs.Arc.{arc_value}
use Rattle.gib_frame.specs.declared.due.Due.{Due}
use Rattle.gib_frame.specs.declared.ends.Cell.{Cell}
use Rattle.gib_frame.specs.declared.ends.Frame.{Frame}
use Rattle.gib_frame.specs.declared.ends.Reply.{Reply}

-- What the slot of a cell is for.
abbrev pub cell_due : Cell → Due
cell_due c = c.table.shared.key

-- What a frame was made for.
abbrev pub frame_due : Frame → Due
frame_due f = cell_due (arc_value f.cell)

-- What the other end was made for.
abbrev pub reply_due : Reply → Due
reply_due r = cell_due (arc_value r.cell)
