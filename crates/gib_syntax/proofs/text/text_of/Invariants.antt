use Rattle.std.proofs.Common.{◌≡◌, take}
use Rattle.gib_base.specs.Spelling.{tokens_text}
use Rattle.gib_syntax.proofs.text.text_of.Given as goal

abbrev pub invariant-loop-i : goal.invariant-loop-i
invariant-loop-i l = l.out.items ≡ tokens_text l.names (take l.i l.tokens)
