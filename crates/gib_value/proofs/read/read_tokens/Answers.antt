use Rattle.std.proofs.Common.{arith}
use Rattle.gib_value.specs.Due.{due_of}
use Rattle.gib_value.proofs.ReadLoop.{reads_begin, reads_turn, refused_turn, refused_end, read_end}
use Rattle.gib_value.proofs.read.read_tokens.Goals as goal

pub wanted-init : goal.wanted-init
wanted-init c = reads_begin c.args.context.now.types.now c.args.context.now.names.now.short c.args.ty c.args.text.now _ _ _ _ c.new.ensures c.new-2.ensures.items c.in_ok-put.ensures c.new-3.ensures

pub returns-then-not-branch : goal.returns-then-not-branch
returns-then-not-branch c =
    refused_turn c.args.context.now.types.now c.args.context.now.names.now.short c.args.ty c.args.text.now c.split_at.result.1.now c.wanted.at c.token_len-len.result c.wanted.reader.heap c.wanted.reader.done.items (due_of c.in-Some.next)
    c.wanted.reader.wanted c.pop.new.self c.split_at-in-Some.result.0.now
    c.wanted.invariant c.in-Some.ensures c.split_at.ensures.back c.token_len-len.ensures.value c.split_at-in-Some.ensures.front (c.in_ok-take.ensures.no c.if-not-branch.true)

pub wanted-preserved : goal.wanted-preserved
wanted-preserved c =
    reads_turn c.args.context.now.types.now c.args.context.now.names.now.short c.args.ty c.args.text.now c.split_at.result.1.now c.wanted.at c.token_len-len.result c.wanted.reader.heap c.take.new.self.heap c.wanted.reader.done.items c.take.new.self.done.items (due_of c.in-Some.next)
    c.wanted.reader.wanted c.pop.new.self c.take.new.self.wanted c.split_at-in-Some.result.0.now
    c.wanted.invariant c.in-Some.ensures c.split_at.ensures.back c.token_len-len.ensures.value c.if-len-eq0.false c.token_len-len.ensures.bound c.split_at-in-Some.ensures.front (c.in_ok-take.ensures.yes c.if-not-branch.false)

pub returns-then-at-text : goal.returns-then-at-text
returns-then-at-text c =
    refused_end c.args.context.now.types.now c.args.context.now.names.now.short c.args.ty c.args.text.now c.wanted.at c.wanted.reader.heap c.wanted.reader.done.items c.wanted.reader.wanted c.wanted.invariant c.in_default.ensures (omega arith)

pub returns : goal.returns
returns c =
    read_end c.args.context.now.types.now c.args.context.now.names.now.short c.args.ty c.args.text.now c.wanted.at c.wanted.reader.heap c.wanted.reader.done.items c.pop-2.new.self.items c.in-Some-pop.root c.wanted.reader.wanted c.from_parts.result c.wanted.invariant
    c.in_default.ensures (omega arith) c.in-Some-pop.ensures.items c.from_parts.ensures
