use Rattle.std.proofs.Common.{ℕ, List, [], ◌∷◌, ◌++◌, ◌-◌, ◌≤◌, ◌+◌, length, take, drop, ap, ◌∙◌, arith, length-take-le}
use Rattle.std.specs.Int.{w64, from_le_bytes}
use Rattle.std.proofs.lemmas.List.{length-drop}
use Rattle.gib_print.proofs.InPlaceLemmas.{eight_until, eight_before, eight_over}
use Rattle.gib_print.proofs.packed_mem.PackedMemMem.get_word.Goals as goal

pub last_word-requires : goal.last_word-requires
last_word-requires c =
    let m = c.args.self.now in
    let until = eight_until m.behind m.bytes.now c.args.at c.requires in
    let long = length-drop c.args.at m.bytes.now in
    length-take-le (length m.bytes.now - c.args.at) (drop c.args.at m.bytes.now) (omega (arith, long)) ∙ omega (arith, until, c.if-front-lt8.true)

pub returns-then-front-lt8-clause-value : goal.returns-then-front-lt8-clause-value
returns-then-front-lt8-clause-value c =
    let m = c.args.self.now in
    let until = eight_until m.behind m.bytes.now c.args.at c.requires in
    λ bs h n. c.last_word.ensures
    ∙ ap (λ (b : ℕ). from_le_bytes w64 (take (length m.bytes.now - c.args.at) (drop c.args.at m.bytes.now) ++ b ∷ [])) c.byte_behind.ensures
    ∙ ap (from_le_bytes w64) (eight_over m.behind m.bytes.now c.args.at bs (omega (arith, until, c.if-front-lt8.true)) h n)

pub returns-else-front-lt8-clause-value : goal.returns-else-front-lt8-clause-value
returns-else-front-lt8-clause-value c =
    let m = c.args.self.now in
    λ bs h n. c.word_in.ensures ∙ ap (from_le_bytes w64) (eight_before m.behind m.bytes.now c.args.at bs (omega (arith, c.if-front-lt8.false)) h n)
