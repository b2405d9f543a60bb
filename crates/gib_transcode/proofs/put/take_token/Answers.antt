use Rattle.std.proofs.Common.{IfSome, sym, subst}
use Rattle.gib_types.specs.declared.table.Ty.{Ty}
use Rattle.gib_types.specs.declared.table.Ty.TheVariants.{Tree}
use Rattle.gib_transcode.specs.Fronts.{Reads}
use Rattle.gib_transcode.proofs.Walking.{if_some}
use Rattle.gib_transcode.proofs.put.take_token.Goals as goal

pub returns-in-Whole : goal.returns-in-Whole
returns-in-Whole c =
    subst (λ (t : Ty). IfSome c.take_whole.result (λ took. Reads c.args.types.now c.args.names.now.short t c.args.place c.args.text.now took.1.now c.args.out.now.items c.take_whole.new.out.items took.0))
    (sym c.in-Whole.is) (c.take_whole.ensures c.args.types.now c.args.names.now.short)

pub returns-in-Truth : goal.returns-in-Truth
returns-in-Truth c =
    subst (λ (t : Ty). IfSome c.take_truth.result (λ took. Reads c.args.types.now c.args.names.now.short t c.args.place c.args.text.now took.1.now c.args.out.now.items c.take_truth.new.out.items took.0))
    (sym c.in-Truth.is) (c.take_truth.ensures c.args.types.now c.args.names.now.short)

pub returns-in-Some : goal.returns-in-Some
returns-in-Some c =
    subst (λ (t : Ty). Reads c.args.types.now c.args.names.now.short t c.args.place c.args.text.now c.in-Some.later.now c.args.out.now.items c.take_bare.new.out.items c.args.place) (sym c.in-Tree.is)
    (if_some _ _ (λ x. Reads c.args.types.now c.args.names.now.short (Tree c.in-Tree.of) c.args.place c.args.text.now x.now c.args.out.now.items c.take_bare.new.out.items c.args.place)
    (c.in_ok-took-in-Tree.ensures c.args.place) c.in-Some.is)
