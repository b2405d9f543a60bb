use Rattle.std.proofs.Common.{true, false, ◌≡◌, rules, sym, ap, ◌∙◌, subst}
use Rattle.gib_core.specs.declared.atom.Variable.{Variable}
use Rattle.gib_local.specs.Building.{AtNext, between, is_last}
use Rattle.gib_local.specs.Builds.{around_of, destination_of, program_in}
use Rattle.gib_local.proofs.Joining.{between_due, between_named, between_undue}
use Rattle.gib_local.proofs.steps.between.Goals as goal

pub returns-then-not-is_last : goal.returns-then-not-is_last
returns-then-not-is_last c =
    let off : c.is_last.result ≡ false = search rules in
    between_undue (program_in c.args.source.now).table (around_of c.args.builder.now c.args.goal.now) c.args.name c.args.variable.0 (destination_of c.args.goal.now.destination) c.args.place c.in-Some.named c.beside-last.result c.in-Some.is c.beside-last.ensures (sym c.is_last.ensures ∙ off)

pub returns : goal.returns
returns c =
    let on : c.is_last.result ≡ true = search rules in
    between_named c.args.builder.now c.name.new.self c.args.goal.now c.in-Some.named.0 (AtNext c.beside-last.result.0) _ c.in_ok-name.ensures
    (between_due (program_in c.args.source.now).table (around_of c.args.builder.now c.args.goal.now) c.args.name c.args.variable.0 (destination_of c.args.goal.now.destination) c.args.place c.in-Some.named c.beside-last.result c.in-Some.is c.beside-last.ensures (sym c.is_last.ensures ∙ on))
