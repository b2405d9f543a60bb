use Rattle.std.proofs.Common.{refl}
use Rattle.gib_weave.proofs.Journals.{stolen_end, stolen_is_legal, taken_end, taken_is_legal, place_end, in_place_is_legal}
use Rattle.gib_weave.proofs.weave_law.the_worked_journals_are_legal.Goals as goal

pub returns-clause-stolen : goal.returns-clause-stolen
returns-clause-stolen c = (stolen_end, stolen_is_legal, refl, refl, refl, refl, refl, refl)

pub returns-clause-taken : goal.returns-clause-taken
returns-clause-taken c = (taken_end, taken_is_legal, refl, refl, refl)

pub returns-clause-in_place : goal.returns-clause-in_place
returns-clause-in_place c = (place_end, in_place_is_legal, refl, refl, refl)
