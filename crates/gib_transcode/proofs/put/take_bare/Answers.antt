use Rattle.std.proofs.Common.{ℕ, ap, ◌++◌, ◌∷◌, [], ◌∙◌}
use Rattle.gib_transcode.proofs.Goings.{bare_reads}
use Rattle.gib_transcode.proofs.put.take_bare.Goals as goal

pub returns : goal.returns
returns c = λ place.
    bare_reads c.args.types.now c.args.names.now.short c.args.of c.in-Some.con.0 place c.args.text.now c.in-Some.later.now c.args.out.now.items c.push.new.self.items c.in-Some.ensures.own (c.is_bare.ensures c.if-not-is_bare.false) c.in-Some.ensures.name c.in-Some.ensures.shorter
    (c.in_ok-push.ensures.items ∙ ap (λ (k : ℕ). c.args.out.now.items ++ k ∷ []) c.tag_of.ensures)
