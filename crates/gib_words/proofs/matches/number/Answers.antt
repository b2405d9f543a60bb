use Rattle.std.specs.Str.Parse.{ExplainsUnsignedError, HasUnsignedDigitsIfOk, ParsesUnsigned}
use Rattle.clap.specs.Matches.{found_of}
use Rattle.gib_words.proofs.Numbers.{one_number}
use Rattle.gib_words.proofs.matches.number.Goals as goal

pub returns : goal.returns
returns c = one_number _ (λ bs r. ParsesUnsigned 32 10 bs r × ExplainsUnsignedError 10 bs r × HasUnsignedDigitsIfOk bs r)
    (found_of c.args.matches.now) c.args.id.now _ (λ t x g. g.0) c.get_one.ensures.none c.get_one.ensures.value
