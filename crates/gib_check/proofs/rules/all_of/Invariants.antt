use Rattle.std.proofs.Common.{◌≡◌, length}
use Rattle.gib_check.specs.Faults as rule
use Rattle.gib_check.specs.Judging.{forms_given, parts_in, ArePartsMet}
use Rattle.gib_check.proofs.rules.all_of.Given as goal

abbrev pub invariant-parts : goal.invariant-parts
invariant-parts l =
    (rule.all_of (forms_given l.state l.due) (parts_in l.state l.parts) ≡ rule.all_of (forms_given l.state l.due) (parts_in l.state l.rest)) × ArePartsMet l.state l.rest

abbrev pub decreases-parts : goal.decreases-parts
decreases-parts l = length l.rest
