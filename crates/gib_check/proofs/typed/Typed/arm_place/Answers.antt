use Rattle.std.proofs.Common.{◌∙◌, ap, subst}
use Rattle.gib_syntax.specs.Arena.{tree_of}
use Rattle.gib_syntax.specs.Parts.{Parts, program_of}
use Rattle.gib_syntax.specs.Declarations.{table_of_program}
use Rattle.gib_syntax.specs.Typing.{IsTypedProgram}
use Rattle.gib_check.specs.ArmPlaces.{case_names, place_named}
use Rattle.gib_check.proofs.ArmNames.{place_by_name}
use Rattle.gib_check.proofs.Knowing.{facts_at, names_of_case}
use Rattle.gib_check.proofs.typed.Typed.arm_place.Goals as goal

pub returns-clause-first : goal.returns-clause-first
returns-clause-first c = c.place.ensures ∙ (facts_at c.self.inside.declared c.args.self.now c.self.inside.facts.items c.args.id.0 c.index.result.now c.self.invariant c.self.view_is c.requires c.index.ensures).places c.args.con.0

pub returns-clause-named : goal.returns-clause-named
returns-clause-named c = λ lt.
    let typed = subst (λ (p : Parts). IsTypedProgram (program_of p)) c.self.view_is c.self.invariant.typed in
    returns-clause-first c ∙ place_by_name (table_of_program (program_of c.args.self.now)) (case_names (tree_of c.args.self.now.exprs c.args.id.0)) c.args.con.0 typed.constructors_differ lt

pub returns-clause-arms : goal.returns-clause-arms
returns-clause-arms c = λ arms span x e.
    let table = table_of_program (program_of c.args.self.now) in
    returns-clause-first c ∙ ap (λ z. place_named table z c.args.con.0) (ap case_names e ∙ names_of_case (tree_of c.args.self.now.exprs) arms span x)
