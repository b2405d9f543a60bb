use Rattle.std.proofs.Common.{ap, length}
use Rattle.gib_syntax.specs.Declarations.{number_of, place_of}
use Rattle.gib_syntax.specs.Forms.{count_written}
use Rattle.gib_syntax.specs.GenericTree.{GenericDataTree, generic_named}
use Rattle.gib_syntax.specs.GenericTyping.{form_in}
use Rattle.std.specs.Prelude.{Option}
use Rattle.gib_check.specs.declared.fault.Kind.TheVariants as kind
use Rattle.gib_check.specs.Faults.{and_then, found, as_many, all_known, row_named}
use Rattle.gib_check.proofs.KindLaws.{found_broken, some_broken}
use Rattle.gib_check.proofs.kinds.unknown.Goals as goal

pub returns-clause-variable : goal.returns-clause-variable
returns-clause-variable c = λ scope x. found_broken (form_in scope (number_of x)) kind.Unknown x.span

pub returns-clause-function : goal.returns-clause-function
returns-clause-function c = λ functions f. found_broken (generic_named functions (number_of f)) kind.Unknown f.span

pub returns-clause-constructor : goal.returns-clause-constructor
returns-clause-constructor c = λ rows k. found_broken (row_named rows (number_of k)) kind.Unknown k.span

pub returns-clause-type_variable : goal.returns-clause-type_variable
returns-clause-type_variable c = λ datas vars x. some_broken (place_of vars (number_of x)) kind.Unknown x.span

pub returns-clause-declared : goal.returns-clause-declared
returns-clause-declared c = λ datas vars p x ws e. ap (λ (o : Option GenericDataTree). and_then (found o kind.Unknown x.span) (λ d. and_then (as_many (count_written ws) (length d.variables) x) (λ _. all_known datas vars ws))) e
