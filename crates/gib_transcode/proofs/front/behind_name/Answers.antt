use Rattle.std.proofs.Common.{ℕ, ◌++◌, List, sym, ap, ◌∙◌}
use Rattle.gib_value.proofs.ReadNames.{named_text}
use Rattle.gib_transcode.proofs.front.behind_name.Goals as goal

pub returns-then-is_past_name-clause-is : goal.returns-then-is_past_name-clause-is
returns-then-is_past_name-clause-is c =
    c.in-Some.ensures.is ∙ ap (λ (l : List ℕ). l ++ c.in-Some.behind.now) (named_text c.args.types.now c.args.names.now.short c.short.result.now _ c.args.con.0 c.short.ensures (sym c.name_of.ensures))
