use Rattle.gib_local_print.proofs.KeptNaturals.{core_natural, passes_natural}
use Rattle.gib_local_print.proofs.law.passes_make_no_negative_literal.Goals as goal

pub returns-clause-none : goal.returns-clause-none
returns-clause-none c core h = core_natural core h

pub returns-clause-kept : goal.returns-clause-kept
returns-clause-kept c mode core h = passes_natural mode core h
