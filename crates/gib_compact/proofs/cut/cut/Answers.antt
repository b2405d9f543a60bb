use Rattle.std.proofs.Common.{List, refl, sym, subst}
use Rattle.gib_file.specs.Packed.{tree}
use Rattle.gib_compact.specs.declared.piece.Piece.{Piece}
use Rattle.gib_compact.specs.Cut.{Cut}
use Rattle.gib_compact.proofs.CutLemmas.{one_part}
use Rattle.gib_compact.proofs.cut.cut.Goals as goal

pub levels-init : goal.levels-init
levels-init g c = record {
  same = refl;
  cut = λ t v z d. subst (λ (x : List Piece). Cut c.args.layouts.now (g.M.Mem.view c.args.mem.now).cells x (tree v)) (sym c.in_ok-pieces.ensures.items) (one_part d);
}
