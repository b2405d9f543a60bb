use Rattle.gib_local_print.specs.LocatedText.{first_given, given, datas_of}
use Rattle.gib_local_print.proofs.law.located_core_is_made.Goals as goal

pub returns-clause-built : goal.returns-clause-built
returns-clause-built c = λ core is sg ty num nat sh off built.
    c.built_core_is_made.ensures given (datas_of core.table) core (c.given_names_are_apart.ensures first_given) is (c.declarations_are_the_tables.ensures given core is) sg ty num nat sh off built
