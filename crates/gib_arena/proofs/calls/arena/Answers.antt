use Rattle.std.proofs.Common.{◌+◌, ◌*◌, arith, ◌∙◌}
use Rattle.gib_arena.proofs.Keeps.{opens_zeros}
use Rattle.gib_arena.proofs.calls.arena.Goals as goal

pub of_words-requires : goal.of_words-requires
of_words-requires c = let e = c.in_ok-words.ensures in opens_zeros c.args.chunks c.as_slice.result.now (c.args.chunks * 512 + 1) (c.as_slice.ensures.value ∙ e.items_if_clones_equal (λ y p. p)) (omega arith)
