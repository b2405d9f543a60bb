use Rattle.gib_value.proofs.WriteLemmas.{wrote_con}
use Rattle.gib_value.proofs.write.Writer.push_node.Goals as goal

pub returns-in_ok-push_con-in-Con-clause-text : goal.returns-in_ok-push_con-in-Con-clause-text
returns-in_ok-push_con-in-Con-clause-text c =
    (wrote_con c.args.context.now.types.now c.args.context.now.names.now.short c.args.heap.now c.args.node c.in-Con.con c.in-Con.count c.in-Con.first c.fields.result.now _ _ _ _ c.in-Con.is c.requires.tags c.requires.due
    c.fields.ensures.values c.fields.ensures.within c.fields.ensures.count (λ e. absurd (c.if-count-eq0.false e)) c.in_ok-push_con-in-Con.ensures.text c.in_ok-push_con-in-Con.ensures.due).same

pub returns-in_ok-push_con-in-Con-clause-due : goal.returns-in_ok-push_con-in-Con-clause-due
returns-in_ok-push_con-in-Con-clause-due c =
    (wrote_con c.args.context.now.types.now c.args.context.now.names.now.short c.args.heap.now c.args.node c.in-Con.con c.in-Con.count c.in-Con.first c.fields.result.now _ _ c.args.self.now.out.items c.push_con.new.self.out.items c.in-Con.is c.requires.tags c.requires.due
    c.fields.ensures.values c.fields.ensures.within c.fields.ensures.count (λ e. absurd (c.if-count-eq0.false e)) c.in_ok-push_con-in-Con.ensures.text c.in_ok-push_con-in-Con.ensures.due).fine

pub returns-in_ok-push_con-in-Con-clause-less : goal.returns-in_ok-push_con-in-Con-clause-less
returns-in_ok-push_con-in-Con-clause-less c =
    (wrote_con c.args.context.now.types.now c.args.context.now.names.now.short c.args.heap.now c.args.node c.in-Con.con c.in-Con.count c.in-Con.first c.fields.result.now _ _ c.args.self.now.out.items c.push_con.new.self.out.items c.in-Con.is c.requires.tags c.requires.due
    c.fields.ensures.values c.fields.ensures.within c.fields.ensures.count (λ e. absurd (c.if-count-eq0.false e)) c.in_ok-push_con-in-Con.ensures.text c.in_ok-push_con-in-Con.ensures.due).less
