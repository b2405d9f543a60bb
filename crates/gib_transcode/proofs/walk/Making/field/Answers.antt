use Rattle.std.proofs.Common.{arith, ◌<◌, ◌+◌, List, length, sym, subst, refl}
use Rattle.gib_types.specs.declared.table.Ty.{Ty}
use Rattle.gib_transcode.specs.Fronts.{Enters, Reads}
use Rattle.gib_transcode.proofs.Walking.{if_some, walks_reads, walks_enters}
use Rattle.gib_transcode.proofs.walk.Making.field.Goals as goal

pub returns-in_default-clause-goes : goal.returns-in_default-clause-goes
returns-in_default-clause-goes c = λ ty all w.
    let top = c.args.top in
    let lt = subst (λ (l : List Ty). top.next < length l) (sym c.fields.ensures) c.requires.next in
    let r = if_some _ _ (λ x. Reads c.args.types.now c.args.names.now.short _ top.place c.args.later.now x.1.now c.args.self.now.out.items c.take_token.new.out.items x.0) c.in_ok-took.ensures c.in-Some-took.is in
    walks_reads w c.fields.ensures lt refl r

pub returns-clause-goes : goal.returns-clause-goes
returns-clause-goes c = λ ty all w.
    let top = c.args.top in
    let lt = subst (λ (l : List Ty). top.next < length l) (sym c.fields.ensures) c.requires.next in
    let e = if_some _ _ (λ x. Enters c.args.types.now c.args.names.now.short _ x.0.0 c.in-Some.inner.now x.1.now c.args.self.now.out.items c.enter.new.out.items) c.in_ok-entered.ensures c.in-Some-entered.is in
    walks_enters w c.in-Some.ensures c.fields.ensures lt refl e c.in_ok-push.ensures.items (omega (arith, c.len-place.ensures, c.args.self.now.out.ok))
