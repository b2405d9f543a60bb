use Rattle.gib_gen.proofs.Named.{named, all_differ, types_are_words, constructors_are_words, input_below, output_below}
use Rattle.gib_gen.proofs.described.programs_are_named.Goals as goal

pub returns : goal.returns
returns c = record { names = named; texts = all_differ; types = types_are_words; constructors = constructors_are_words; input = input_below; output = output_below }
