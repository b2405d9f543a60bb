use Rattle.std.proofs.Common.{ℕ, ◌<◌, List, length, subst}
use Rattle.gib_core.specs.declared.node.Node.{Node}
use Rattle.gib_core.specs.Arena.{term_of}
use Rattle.gib_core.specs.Literals.{LiteralsFit}
use Rattle.gib_core.proofs.LiteralTerms.{core_fits}
use Rattle.gib_core.proofs.program.Core.literals_fit.Goals as goal

-- src/program.rt
pub returns : goal.returns
returns c =
    let P : List Node → Type 0 = λ ns. (id : ℕ) → id < length ns → LiteralsFit (term_of ns id) in
    core_fits c.args.self.now c.terms.ensures.inside (subst P c.terms.ensures.value c.all_literals.ensures)
