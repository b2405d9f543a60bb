use Rattle.std.proofs.Common.{ℕ, List, subst, arith}
use Rattle.std.proofs.lemmas.List.{nil_from_length}
use Rattle.gib_transcode.specs.Going.{Walks}
use Rattle.gib_transcode.proofs.Walking.{if_some, walks_shuts, walks_end}
use Rattle.gib_transcode.proofs.walk.payload_of.Goals as goal

pub bytes-preserved-then-top-fields : goal.bytes-preserved-then-top-fields
bytes-preserved-then-top-fields c =
    let table = c.args.types.now in
    let names = c.args.names.now.short in
    let walks = subst (λ (r : List ℕ). Walks table names c.args.ty c.args.text.now c.bytes.top c.bytes.making.outer.items r c.bytes.making.out.items) c.in-Some-behind_byte.ensures c.bytes.invariant in
    if_some _ _ (λ t. Walks table names c.args.ty c.args.text.now t.0 c.field.new.self.outer.items t.1.now c.field.new.self.out.items)
    (c.in_ok-took.ensures.goes c.args.ty c.args.text.now walks) c.in-Some-took.is

pub returns-in_default-pop : goal.returns-in_default-pop
returns-in_default-pop c =
    walks_end c.bytes.invariant c.in-Some-behind_byte-2.ensures c.fields.ensures (omega (arith, c.if-top-fields.false))
    (nil_from_length c.bytes.making.outer.items (omega (arith, c.in_default-pop.ensures.cases.0, c.bytes.making.outer.ok)))
    (c.is_over.ensures c.if-not-is_over.false)

pub bytes-preserved : goal.bytes-preserved
bytes-preserved c = walks_shuts c.bytes.invariant c.in-Some-behind_byte-2.ensures c.fields.ensures (omega (arith, c.if-top-fields.false)) c.in-Some-pop.ensures.items
