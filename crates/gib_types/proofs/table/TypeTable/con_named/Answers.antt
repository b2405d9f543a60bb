use Rattle.std.proofs.Common.{sym, ◌∙◌}
use Rattle.gib_types.proofs.Indexes.{name_found, name_absent}
use Rattle.gib_types.proofs.table.TypeTable.con_named.Goals as goal

pub returns-in-Some : goal.returns-in-Some
returns-in-Some c = name_found _ _ c.self.inside.firsts.items c.self.inside.places _ _ c.self.view_is c.self.invariant (sym c.get.ensures ∙ c.in-Some.is)

pub returns-in-None : goal.returns-in-None
returns-in-None c = λ con n. name_absent _ _ c.self.inside.firsts.items c.self.inside.places _ con c.self.view_is c.self.invariant (sym c.get.ensures ∙ c.in-None.is) n
