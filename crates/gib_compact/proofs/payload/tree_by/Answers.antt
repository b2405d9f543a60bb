use Rattle.std.proofs.Common.{◌≡◌, ℕ, List, sym, subst}
use Rattle.std.specs.Prelude.{Result, Ok, IfOk}
use Rattle.std.specs.Global.{Vec}
use Rattle.std.specs.declared.alloc.AllocError.{AllocError}
use Rattle.gib_file.specs.Packed.{tree}
use Rattle.gib_mem.specs.Memory.{Store}
use Rattle.gib_types.specs.Layout.{LaidOut}
use Rattle.gib_compact.specs.Cut.{Cut}
use Rattle.gib_compact.specs.declared.piece.Piece.{Piece}
use Rattle.gib_compact.proofs.BackLemmas.{back_on}
use Rattle.gib_compact.proofs.payload.tree_by.Goals as goal

-- the pieces that came are those bytes
cut_of : {laid : LaidOut} {s : Store} {r : Result (Vec Piece) AllocError} {pieces : Vec Piece} {xs : List Piece} {bytes : List ℕ} → r ≡ Ok pieces → xs ≡ pieces.items
    → IfOk r (λ p. Cut laid s p.items bytes) → Cut laid s xs bytes
cut_of {laid = laid} {s = s} {bytes = bytes} is e cut =
    subst (λ (ys : List Piece). Cut laid s ys bytes) (sym e) (subst (λ (q : Result (Vec Piece) AllocError). IfOk q (λ p. Cut laid s p.items bytes)) is cut)

pub pieces_by-requires-clause-cut : goal.pieces_by-requires-clause-cut
pieces_by-requires-clause-cut g c κs within =
    let r = c.requires.value in
    (tree r.1, cut_of c.in-Ok.is c.deref.ensures.value (c.cut_alone-pieces.ensures.cut r.0 r.1 r.2 r.3))

pub returns-in-Ok-clause-out : goal.returns-in-Ok-clause-out
returns-in-Ok-clause-out g c = λ t v z d. c.pieces_by.ensures.out (tree v) (cut_of c.in-Ok.is c.deref.ensures.value (c.cut_alone-pieces.ensures.cut t v z d))

pub returns-in-Ok-clause-long : goal.returns-in-Ok-clause-long
returns-in-Ok-clause-long g c = λ t v z d e. c.pieces_by.ensures.long (tree v) (cut_of c.in-Ok.is c.deref.ensures.value (c.cut_alone-pieces.ensures.cut t v z d)) e

pub returns-in-Ok-clause-back : goal.returns-in-Ok-clause-back
returns-in-Ok-clause-back g c = back_on c.args.packing.arena.now c.args.pass c.cut_alone-pieces.result.1 c.pieces_by.result.1 c.cut_alone-pieces.ensures.back c.pieces_by.ensures.back
