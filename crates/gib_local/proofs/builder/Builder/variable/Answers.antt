use Rattle.std.proofs.Common.{ℕ, sym, ap, ◌∙◌}
use Rattle.std.specs.Prelude.{unwrap_or}
use Rattle.gib_core.specs.declared.atom.Variable.{Variable}
use Rattle.gib_local.proofs.Scoping.{variable_is}
use Rattle.gib_local.proofs.builder.Builder.variable.Goals as goal

abbrev numbered : ℕ → Variable
numbered n = record { 0 = n }

pub returns-in-Some : goal.returns-in-Some
returns-in-Some c = ap numbered (ap (λ o. unwrap_or o 0) (sym c.in-Some.is) ∙ variable_is c.args.self.now.variables c.args.x.name.0 c.find.result c.find.ensures)

pub returns-in-None : goal.returns-in-None
returns-in-None c = ap numbered (ap (λ o. unwrap_or o 0) (sym c.in-None.is) ∙ variable_is c.args.self.now.variables c.args.x.name.0 c.find.result c.find.ensures)
