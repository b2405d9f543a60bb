use Rattle.std.proofs.Common.{sym, subst}
use Rattle.std.specs.Prelude.{OnOk}
use Rattle.gib_types.specs.Table.{Table}
use Rattle.gib_print.specs.Framing.{printed_text}
use Rattle.gib_print.specs.Piece.{piece_text}
use Rattle.gib_print.specs.Sending.{Sent}
use Rattle.gib_print.specs.declared.piece.Piece.TheVariants as p
use Rattle.gib_print.specs.declared.turn.Printed.{Printed}
use Rattle.gib_print.proofs.item.put_turn.Goals as goal

pub returns-in-Front : goal.returns-in-Front
returns-in-Front g c =
    let names = c.args.printing.names.now.short in
    subst (λ (x : Printed). OnOk c.put_piece.result (Sent (g.O.Sink.view c.args.sink.now) (g.O.Sink.view c.put_piece.new.sink) c.args.waiting.now c.put_piece.new.waiting (printed_text c.args.printing.layouts.now.table names x))) (sym c.in-Front.is)
    (subst (λ (t : Table). OnOk c.put_piece.result (Sent (g.O.Sink.view c.args.sink.now) (g.O.Sink.view c.put_piece.new.sink) c.args.waiting.now c.put_piece.new.waiting (piece_text t names (p.Field c.in-Front.con)))) c.types-types.ensures c.put_piece.ensures.done)
