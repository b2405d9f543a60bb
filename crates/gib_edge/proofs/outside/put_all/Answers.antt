use Rattle.std.proofs.Common.{◌∙◌, ◌≡◌, ◌-◌, ◌<◌, ◌≤◌, ◌+◌, arith, drop, length, inl, inr, subst, take}
use Rattle.std.proofs.lemmas.List.{length-take, length-drop}
use Rattle.gib_edge.specs.Causes.{HasPut}
use Rattle.gib_edge.proofs.Pieces.{appends_more, appends_part, on_err, put_more, put_next}
use Rattle.gib_edge.proofs.outside.put_all.Goals as goal
use Rattle.gib_edge.proofs.outside.put_all.Goals.{then-bytes-at-lt-PIECE_BYTES, else-bytes-at-lt-PIECE_BYTES}

pub returns-in_err-put-clause-part : goal.returns-in_err-put-clause-part
returns-in_err-put-clause-part g c =
    let part = appends_part (g.O.Sink.view c.args.out.now).taken (g.O.Sink.view c.loop-at.out).taken (g.O.Sink.view c.put.new.self).taken c.args.bytes.now c.loop-at.at c.if-bytes-at-lt-PIECE_BYTES.end c.loop-at.invariant.within c.loop-at.invariant.taken c.in_err-put.ensures.part in
    on_err c.from_residual.result part

pub returns-in_err-put-clause-some : goal.returns-in_err-put-clause-some
returns-in_err-put-clause-some g c =
    let before = g.O.Sink.view c.args.out.now in
    let now' = g.O.Sink.view c.loop-at.out in
    let next = g.O.Sink.view c.put.new.self in
    let to : (c.loop-at.at < c.if-bytes-at-lt-PIECE_BYTES.end) × (c.if-bytes-at-lt-PIECE_BYTES.end ≤ c.loop-at.at + 4096) × (c.if-bytes-at-lt-PIECE_BYTES.end ≤ length c.args.bytes.now) =
    elim c.if-bytes-at-lt-PIECE_BYTES.branch [ then-bytes-at-lt-PIECE_BYTES w ↦ ((omega arith), (omega arith), (omega arith)) | else-bytes-at-lt-PIECE_BYTES w ↦ ((omega arith), (omega arith), (omega arith)) ] in
    let cut = length-take (c.if-bytes-at-lt-PIECE_BYTES.end - c.loop-at.at) (drop c.loop-at.at c.args.bytes.now) in
    let left = length-drop c.loop-at.at c.args.bytes.now in
    let size : length (take (c.if-bytes-at-lt-PIECE_BYTES.end - c.loop-at.at) (drop c.loop-at.at c.args.bytes.now)) ≡ c.if-bytes-at-lt-PIECE_BYTES.end - c.loop-at.at = omega (arith, cut, left, to.2) in
    let more = subst (HasPut now' next) size c.in_err-put.ensures.called in
    on_err c.from_residual.result (record {
      front = c.if-bytes-at-lt-PIECE_BYTES.end;
      within = to.2;
      puts = put_next c.loop-at.at c.if-bytes-at-lt-PIECE_BYTES.end (length c.args.bytes.now) before now' next c.loop-at-test.true to.0 to.1 c.loop-at.invariant.pieces more;
    })

pub loop-at-preserved : goal.loop-at-preserved
loop-at-preserved g c =
    let le : c.loop-at.at ≤ c.if-bytes-at-lt-PIECE_BYTES.end = elim c.if-bytes-at-lt-PIECE_BYTES.branch [ then-bytes-at-lt-PIECE_BYTES w ↦ omega arith | else-bytes-at-lt-PIECE_BYTES w ↦ omega arith ] in
    let within : c.if-bytes-at-lt-PIECE_BYTES.end ≤ length c.args.bytes.now = elim c.if-bytes-at-lt-PIECE_BYTES.branch [ then-bytes-at-lt-PIECE_BYTES w ↦ omega arith | else-bytes-at-lt-PIECE_BYTES w ↦ omega arith ] in
    let cut = length-take (c.if-bytes-at-lt-PIECE_BYTES.end - c.loop-at.at) (drop c.loop-at.at c.args.bytes.now) in
    let left = length-drop c.loop-at.at c.args.bytes.now in
    let size : length (take (c.if-bytes-at-lt-PIECE_BYTES.end - c.loop-at.at) (drop c.loop-at.at c.args.bytes.now)) ≡ c.if-bytes-at-lt-PIECE_BYTES.end - c.loop-at.at = omega (arith, cut, left, within) in
    record {
      within = within;
      taken = appends_more (g.O.Sink.view c.args.out.now).taken (g.O.Sink.view c.loop-at.out).taken (g.O.Sink.view c.put.new.self).taken c.args.bytes.now c.loop-at.at c.if-bytes-at-lt-PIECE_BYTES.end le c.loop-at.invariant.taken c.in_ok-put.ensures.ok;
      same = c.in_ok-put.ensures.cause.quiet ∙ c.loop-at.invariant.same;
      pieces = put_more c.loop-at.at c.if-bytes-at-lt-PIECE_BYTES.end (length c.args.bytes.now) (g.O.Sink.view c.args.out.now) (g.O.Sink.view c.loop-at.out) (g.O.Sink.view c.put.new.self) c.loop-at-test.true
          (elim c.if-bytes-at-lt-PIECE_BYTES.branch [ then-bytes-at-lt-PIECE_BYTES w ↦ inl ((omega arith), (omega arith)) | else-bytes-at-lt-PIECE_BYTES w ↦ inr (omega arith) ])
          c.loop-at.invariant.pieces (subst (HasPut (g.O.Sink.view c.loop-at.out) (g.O.Sink.view c.put.new.self)) size c.in_ok-put.ensures.called);
    }
