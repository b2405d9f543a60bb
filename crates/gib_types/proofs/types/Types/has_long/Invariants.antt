use Rattle.std.proofs.Common.{◌≡◌, drop}
use Rattle.gib_types.specs.Types.{forms_of, forms_at}
use Rattle.gib_types.specs.Form.{has_long}
use Rattle.gib_types.proofs.types.Types.has_long.Given as goal

-- the arguments so far are short
abbrev pub invariant-loop-argument : goal.invariant-loop-argument
invariant-loop-argument l = has_long (forms_at (forms_of l.fn.self) l.fn.arguments) ≡ has_long (forms_at (forms_of l.fn.self) (drop l.argument-index l.fn.arguments))
