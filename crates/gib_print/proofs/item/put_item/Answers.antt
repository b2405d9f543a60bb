use Rattle.std.proofs.Common.{◌∙◌, sym, ap}
use Rattle.gib_types.specs.Table.{Table}
use Rattle.gib_print.specs.Piece.{piece_text}
use Rattle.gib_print.specs.declared.piece.Piece.TheVariants as p
use Rattle.gib_print.proofs.CutLemmas.{first_is, turn_is, part_is, line_is, sent_as}
use Rattle.gib_print.proofs.SentLemmas.{ok_then, sent_then}
use Rattle.gib_print.proofs.item.put_item.Goals as goal

pub returns-in_ok-put_piece-in-First-clause-done : goal.returns-in_ok-put_piece-in-First-clause-done
returns-in_ok-put_piece-in-First-clause-done g c = λ bytes is.
    sent_as ((first_is c.in-First.is is).1 ∙ ap (λ (t : Table). piece_text t c.args.printing.names.now.short (p.First c.in-First.con)) (sym c.types-types.ensures)) c.in_ok-put_piece-in-First.ensures.done

pub returns-in_ok-put_turn-in-Turn-clause-done : goal.returns-in_ok-put_turn-in-Turn-clause-done
returns-in_ok-put_turn-in-Turn-clause-done g c = λ bytes is. sent_as (turn_is c.in-Turn.is is).1 c.in_ok-put_turn-in-Turn.ensures

pub walk_once-requires-clause-value : goal.walk_once-requires-clause-value
walk_once-requires-clause-value g c =
    let q = part_is c.in-Part.is c.requires.is.1 in
    (q.0, q.1, q.2, q.3)

pub returns-in_ok-put_byte-in-Part-clause-done : goal.returns-in_ok-put_byte-in-Part-clause-done
returns-in_ok-put_byte-in-Part-clause-done g c = λ bytes is.
    let q = part_is c.in-Part.is is in
    ok_then c.walk_once.result (λ sent. sent_as q.4 (sent_then c.in_ok-put_byte-in-Part.ensures.done sent)) (c.walk_once.ensures.done q.0 q.1 q.2 q.3)

pub returns-in_ok-put_byte-in-Line-clause-done : goal.returns-in_ok-put_byte-in-Line-clause-done
returns-in_ok-put_byte-in-Line-clause-done g c = λ bytes is. sent_as (line_is c.in-Line.is is) c.in_ok-put_byte-in-Line.ensures.done
