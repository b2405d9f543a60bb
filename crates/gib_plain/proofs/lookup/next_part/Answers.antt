use Rattle.std.proofs.Common.{◌≤◌, ◌∙◌, [], ap, sym, subst, refl, arith, drop, length}
use Rattle.std.proofs.lemmas.List.{drop_all}
use Rattle.gib_syntax.specs.Tree.{Expression}
use Rattle.gib_syntax.specs.Arena.{tree_of}
use Rattle.gib_syntax.specs.Parts.{Parts, program_of}
use Rattle.gib_syntax.specs.Declarations.{table_of_program}
use Rattle.gib_plain.specs.Running.{IsNext, first_parts}
use Rattle.gib_syntax.proofs.Layers.{tree-past}
use Rattle.gib_plain.proofs.Names.{opened}
use Rattle.gib_plain.proofs.lookup.next_part.Goals as goal

pub returns-then-id-len : goal.returns-then-id-len
returns-then-id-len c =
    let nodes = c.args.typed.now.exprs in
    let le : length nodes ≤ c.args.id.0 = omega (arith, c.len.ensures, ap length c.exprs-exprs.ensures.value, ap (λ (p : Parts). length p.exprs) c.program.ensures.value) in
    ap (λ (t : Expression). drop c.args.at (first_parts (table_of_program (program_of c.args.typed.now)) t)) (tree-past nodes c.args.id.0 le) ∙ drop_all c.args.at [] (omega arith)

pub returns : goal.returns
returns c =
    let nodes = c.args.typed.now.exprs in
    let tree = opened nodes c.exprs-exprs.result.now c.args.id.0 _ _ (c.exprs-exprs.ensures.value ∙ ap (λ (p : Parts). p.exprs) c.program.ensures.value) c.node.ensures.0 refl in
    subst (λ (t : Expression). IsNext (tree_of nodes) (table_of_program (program_of c.args.typed.now)) t c.args.at c.next_at.result) (sym tree) (c.next_at.ensures (tree_of nodes))
