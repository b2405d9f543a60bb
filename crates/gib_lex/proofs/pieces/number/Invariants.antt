use Rattle.std.proofs.Common.{◌≡◌, drop}
use Rattle.gib_base.specs.Spelling.{value_from}
use Rattle.gib_lex.proofs.pieces.number.Given as goal

abbrev pub invariant-loop-b : goal.invariant-loop-b
invariant-loop-b l = value_from 0 l.text ≡ value_from l.value (drop l.b-index l.text)
