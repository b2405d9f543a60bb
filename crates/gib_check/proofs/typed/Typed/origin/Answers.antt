use Rattle.std.proofs.Common.{ap, ◌∙◌}
use Rattle.gib_check.proofs.Knowing.{facts_at}
use Rattle.gib_syntax.specs.Arena.{tree_of}
use Rattle.gib_syntax.specs.Parts.{program_of}
use Rattle.gib_syntax.specs.Typing.{globals_of}
use Rattle.gib_check.specs.Origins.{type_from}
use Rattle.gib_check.proofs.Had.{had_from}
use Rattle.gib_check.proofs.typed.Typed.origin.Goals as goal

pub returns-clause-value : goal.returns-clause-value
returns-clause-value c = (facts_at c.self.inside.declared c.args.self.now c.self.inside.facts.items c.args.id.0 c.index.result.now c.self.invariant c.self.view_is c.requires c.index.ensures).origin_is

pub returns-clause-typed : goal.returns-clause-typed
returns-clause-typed c = λ scope ty h.
    ap (λ z. type_from scope z) (returns-clause-value c)
    ∙ had_from (globals_of (program_of c.args.self.now)) scope (tree_of c.args.self.now.exprs c.args.id.0) ty h
