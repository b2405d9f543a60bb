use Rattle.std.proofs.Common.{refl}
use Rattle.gib_mono.specs.Sources.{globals_in}
use Rattle.gib_mono.proofs.Seeking.{if_ok, types_asked}
use Rattle.gib_mono.proofs.search.ask_types.Goals as goal

pub returns : goal.returns
returns c =
    if_ok _ _ c.ask_uses.result (λ u h. types_asked (globals_in c.args.source.now) c.args.search.now (record { alloc = c.args.search.now.alloc; context = c.read.new.self; found = c.args.search.now.found; limit = c.args.search.now.limit }) c.ask_uses.new.search
    c.args.words.now c.in_ok-reading.reading c.in_ok-reading.ensures refl refl h) c.ask_uses.ensures
