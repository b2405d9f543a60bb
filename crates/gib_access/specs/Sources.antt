-- What the walk reads, as the way in which it reaches fields.
use Rattle.gib_access.specs.declared.source.Source.{Source}
use Rattle.gib_access.specs.Made.{Way}

-- The mode, the types and the ended parameters.
abbrev pub way_of : Source → Way
way_of s = record { mode = s.mode; table = s.types.now; ended = s.ended.now }
