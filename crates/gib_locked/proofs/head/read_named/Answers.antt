use Rattle.std.proofs.Common.{◌≡◌, rules}
use Rattle.gib_locked.proofs.HeadTexts.{no_space, word_first, no_second, number_second}
use Rattle.gib_locked.proofs.head.read_named.Goals as goal

pub returns-in_default : goal.returns-in_default
returns-in_default c = λ n rest small is. no_space c.args.text.now c.args.word.now n rest c.in_default.ensures is

pub returns-then-ne : goal.returns-then-ne
returns-then-ne c = λ n rest small is.
    let other : c.in-Some.parts.front.now ≡ c.args.word.now → ⊥ = search rules in
    other (word_first c.args.text.now c.in-Some.parts.front.now c.in-Some.parts.rest.now c.args.word.now n rest c.requires c.in-Some.ensures is).0

pub returns-in_default-cut : goal.returns-in_default-cut
returns-in_default-cut c = λ n rest small is. no_second c.args.text.now c.in-Some.parts.front.now c.in-Some.parts.rest.now c.args.word.now n rest c.requires c.in-Some.ensures c.in_default-cut.ensures is

pub returns-in_default-read_number : goal.returns-in_default-read_number
returns-in_default-read_number c = λ n rest small is. c.in_default-read_number.ensures n small (number_second c.args.text.now c.in-Some.parts.front.now c.in-Some.parts.rest.now c.in-Some-cut.behind.front.now c.in-Some-cut.behind.rest.now c.args.word.now n rest c.requires c.in-Some.ensures c.in-Some-cut.ensures small is)
