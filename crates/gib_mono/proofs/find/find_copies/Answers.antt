use Rattle.gib_mono.specs.Contexts.{forms}
use Rattle.gib_mono.specs.Sources.{globals_in}
use Rattle.gib_mono.proofs.Finding.{start_at}
use Rattle.gib_mono.proofs.find.find_copies.Goals as goal

pub search_copies-requires : goal.search_copies-requires
search_copies-requires c = start_at (globals_in c.args.source.now) (forms c.new.result) c.new-2.result c.new-2.ensures
