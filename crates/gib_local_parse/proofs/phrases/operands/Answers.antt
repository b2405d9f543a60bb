use Rattle.std.proofs.Common.{List, ap, ◌∙◌, subst}
use Rattle.gib_local_parse.specs.Sources.{places_in}
use Rattle.gib_reads.specs.Readers.{Read, many}
use Rattle.gib_reads.specs.Answers.{Gives, with_front}
use Rattle.gib_reads.proofs.SoFar.{front_none}
use Rattle.gib_local_parse.specs.Tree.{Operand}
use Rattle.gib_local_parse.specs.Grammar.{starts_operand, operand_at}
use Rattle.gib_local_parse.proofs.phrases.operands.Goals as goal

pub returns : goal.returns
returns c =
    let P : Read (List Operand) → Type 0 = λ r. Gives (λ x. (x.0.items, x.1.now)) c.further_operands.result r in
    let read = many starts_operand (operand_at (places_in c.args.source.now)) c.args.tokens.now in
    subst P (ap (λ (l : List Operand). with_front l read) c.new.ensures.items ∙ front_none read) c.further_operands.ensures
