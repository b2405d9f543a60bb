use Rattle.std.proofs.Common.{List, get_or, refl, sym, subst, ◌∙◌, arith}
use Rattle.gib_mem.specs.Memory.{Memory}
use Rattle.gib_compact.specs.declared.piece.Piece.{Piece}
use Rattle.gib_compact.specs.declared.piece.Piece.TheVariants as p
use Rattle.gib_compact.specs.Cut.{IsPiece, Adds}
use Rattle.gib_compact.proofs.CutLemmas.{Refined, refined_start, refined_at, refined_over}
use Rattle.gib_compact.proofs.cut.refine.Goals as goal

-- what stands at no place of a list
abbrev nothing : Piece
nothing = p.Head (record { at = 0; con = record { 0 = 0 } })

pub pieces-init : goal.pieces-init
pieces-init g c = record {
  same = refl;
  within = omega arith;
  refined = λ bytes l. subst (λ (x : List Piece). Refined c.args.layouts.now (g.M.Mem.view c.args.mem.now).cells x c.args.pieces.now bytes) (sym c.new-out.ensures.items) (refined_start c.args.pieces.now bytes l);
}

pub refine_one-requires : goal.refine_one-requires
refine_one-requires g c =
    let r = refined_at c.args.pieces.now c.pieces.i nothing c.pieces-test.true (c.pieces.invariant.refined c.requires.0 c.requires.1) in
    (r.bytes, subst (λ (m : Memory). IsPiece c.args.layouts.now m.cells (get_or c.args.pieces.now c.pieces.i nothing) r.bytes) (sym c.pieces.invariant.same) r.is)

pub pieces-preserved : goal.pieces-preserved
pieces-preserved g c = record {
  same = c.refine_one.ensures.same ∙ c.pieces.invariant.same;
  within = omega (arith, c.pieces-test.true);
  refined = λ bytes l.
      let laid = c.args.layouts.now in
      let same = c.pieces.invariant.same in
      let r = refined_at c.args.pieces.now c.pieces.i nothing c.pieces-test.true (c.pieces.invariant.refined bytes l) in
      let a = c.in_ok-refine_one.ensures.adds r.bytes (subst (λ (m : Memory). IsPiece laid m.cells (get_or c.args.pieces.now c.pieces.i nothing) r.bytes) (sym same) r.is) in
      r.goes c.refine_one.new.out.items (subst (λ (m : Memory). Adds laid m.cells c.pieces.out.items c.refine_one.new.out.items r.bytes) same a);
}

pub returns-clause-cut : goal.returns-clause-cut
returns-clause-cut g c = λ bytes l. refined_over c.args.pieces.now c.pieces.i (omega (arith, c.pieces-test.false, c.pieces.invariant.within)) (c.pieces.invariant.refined bytes l)
