use Rattle.gib_local.proofs.Telling.{unread, deep}
use Rattle.gib_local.proofs.making.of_reading.Goals as goal

pub returns-in-At : goal.returns-in-At
returns-in-At c = λ l stop e h. unread l stop c.args.fault c.in-At.place e h c.in-At.is

pub returns-in-Nested : goal.returns-in-Nested
returns-in-Nested c = λ l stop e h. deep l stop c.args.fault c.in-Nested.place e h c.in-Nested.is
