use Rattle.std.proofs.Common.{ap, sym, ◌∙◌}
use Rattle.gib_local.specs.Naming.{check_text}
use Rattle.gib_local_parse.specs.TextParts.{TextParts, text_of}
use Rattle.gib_local.proofs.DeclaredTables.{text_table}
use Rattle.gib_local.proofs.names.check_names.Goals as goal

pub returns-clause-table : goal.returns-clause-table
returns-clause-table c = λ h. text_table (text_of c.args.text) (ap (λ (z : TextParts). check_text (text_of z)) (sym c.in_ok-known.ensures) ∙ c.in_ok-check_all.ensures) h
