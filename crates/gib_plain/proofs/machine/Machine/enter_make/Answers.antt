use Rattle.std.proofs.Common.{◌≡◌, ◌∙◌, ap, Some}
use Rattle.gib_base.specs.declared.name.Name.{Name}
use Rattle.gib_syntax.specs.Tree.{Make}
use Rattle.gib_syntax.specs.Parts.{program_of}
use Rattle.gib_syntax.specs.Declarations.{number_of, constructor_named, table_of_program}
use Rattle.gib_plain.specs.Running.{code_of}
use Rattle.gib_plain.proofs.Steps.{goes_begin, on_ok}
use Rattle.gib_plain.proofs.machine.Machine.enter_make.Goals as goal

pub returns-in-Some : goal.returns-in-Some
returns-in-Some c =
    on_ok c.begin.result
    (λ h. λ xs ident here tree same.
    let table = table_of_program (program_of c.args.typed.now) in
    let found : constructor_named table (number_of ident) ≡ Some c.in-Some.field-0.0 = ap (λ (n : Name). constructor_named table n.0) same ∙ c.in-Some.ensures.named in
    goes_begin (code_of c.args.typed.now) c.args.self.now c.begin.new.self c.args.id.0 (Make ident xs) here tree (c.in-Some.field-0.0, found) h)
    c.begin.ensures
