use Rattle.std.proofs.Common.{◌-◌, ◌<◌, ◌++◌, length, get_or, sym, ap, subst, ◌∙◌, arith, length-append}
use Rattle.gib_mem.specs.Memory.{Memory}
use Rattle.gib_compact.specs.declared.piece.Piece.{Piece}
use Rattle.gib_compact.specs.declared.piece.Piece.TheVariants as p
use Rattle.gib_compact.specs.Counts.{IsCount}
use Rattle.gib_compact.specs.Cut.{IsPiece}
use Rattle.gib_compact.proofs.PieceLemmas.{passes_one, passed_all}
use Rattle.gib_compact.proofs.pieces.count_pieces.Goals as goal

-- what stands at no place of a list
abbrev nothing : Piece
nothing = p.Head (record { at = 0; con = record { 0 = 0 } })

pub count_one-requires-clause-is : goal.count_one-requires-clause-is
count_one-requires-clause-is g c =
    let r = c.requires.cut in
    let q = c.pieces.invariant.passed r.0 r.1 in
    let o = passes_one c.args.pieces.now c.pieces.i nothing q.front r.0 c.pieces-test.true q.passed in
    (o.bytes, subst (λ (m : Memory). IsPiece c.args.packing.layouts.now m.cells (get_or c.args.pieces.now c.pieces.i nothing) o.bytes) (sym c.pieces.invariant.same) o.is)

pub returns-in-None-clause-count : goal.returns-in-None-clause-count
returns-in-None-clause-count g c = λ bytes l.
    let q = c.pieces.invariant.passed bytes l in
    let o = passes_one c.args.pieces.now c.pieces.i nothing q.front bytes c.pieces-test.true q.passed in
    let is = subst (λ (m : Memory). IsPiece c.args.packing.layouts.now m.cells (get_or c.args.pieces.now c.pieces.i nothing) o.bytes) (sym c.pieces.invariant.same) o.is in
    let n : c.args.packing.most - c.pieces.bytes < length o.bytes = subst (IsCount (length o.bytes) (c.args.packing.most - c.pieces.bytes)) c.in-None.is (c.in_ok-count_one.ensures.count o.bytes is) in
    omega (arith, n, o.few, q.long, c.pieces.invariant.few)

pub overflow_add-bytes : goal.overflow_add-bytes
overflow_add-bytes g c =
    let r = c.requires.cut in
    let q = c.pieces.invariant.passed r.0 r.1 in
    let o = passes_one c.args.pieces.now c.pieces.i nothing q.front r.0 c.pieces-test.true q.passed in
    let is = subst (λ (m : Memory). IsPiece c.args.packing.layouts.now m.cells (get_or c.args.pieces.now c.pieces.i nothing) o.bytes) (sym c.pieces.invariant.same) o.is in
    let n = subst (IsCount (length o.bytes) (c.args.packing.most - c.pieces.bytes)) c.in-Some.is (c.in_ok-count_one.ensures.count o.bytes is) in
    omega (arith, n.1, c.pieces.invariant.few, c.requires.most)

pub pieces-preserved : goal.pieces-preserved
pieces-preserved g c =
    let r = c.requires.cut in
    let same = c.pieces.invariant.same in
    let w = c.pieces.invariant.passed r.0 r.1 in
    let v = passes_one c.args.pieces.now c.pieces.i nothing w.front r.0 c.pieces-test.true w.passed in
    let there = subst (λ (m : Memory). IsPiece c.args.packing.layouts.now m.cells (get_or c.args.pieces.now c.pieces.i nothing) v.bytes) (sym same) v.is in
    let m = subst (IsCount (length v.bytes) (c.args.packing.most - c.pieces.bytes)) c.in-Some.is (c.in_ok-count_one.ensures.count v.bytes there) in
    record {
      same = c.count_one.ensures.same ∙ same;
      within = omega (arith, c.pieces-test.true);
      few = omega (arith, m.1, c.pieces.invariant.few);
      passed = λ bytes l.
          let q = c.pieces.invariant.passed bytes l in
          let o = passes_one c.args.pieces.now c.pieces.i nothing q.front bytes c.pieces-test.true q.passed in
          let is = subst (λ (m : Memory). IsPiece c.args.packing.layouts.now m.cells (get_or c.args.pieces.now c.pieces.i nothing) o.bytes) (sym same) o.is in
          let n = subst (IsCount (length o.bytes) (c.args.packing.most - c.pieces.bytes)) c.in-Some.is (c.in_ok-count_one.ensures.count o.bytes is) in
          record { front = q.front ++ o.bytes; long = omega (arith, n.0, q.long, length-append q.front o.bytes); passed = o.goes };
    }

pub returns-clause-count : goal.returns-clause-count
returns-clause-count g c = λ bytes l.
    let q = c.pieces.invariant.passed bytes l in
    let e = passed_all c.args.pieces.now (omega (arith, c.pieces-test.false, c.pieces.invariant.within)) q.passed in
    (ap length (sym e) ∙ q.long, c.pieces.invariant.few)
