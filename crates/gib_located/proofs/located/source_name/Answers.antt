use Rattle.std.proofs.Common.{Global}
use Rattle.std.specs.Prelude.{string_bytes}
use Rattle.gib_located.proofs.TwoWords.{two_words}
use Rattle.gib_located.proofs.located.source_name.Goals as goal

pub returns-in-len2 : goal.returns-in-len2
returns-in-len2 c =
    let found = two_words (string_bytes {Z = Global}) c.args.words.now c.name-item.result c.in-len2.len_at_least c.in-len2.len_below c.name-item.is in
    (found.0, rw c.as_str.ensures.value found.1)
