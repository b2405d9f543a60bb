use Rattle.std.proofs.Common.{◌≡◌, ℕ, Some, subst, sym, ◌∙◌, rules}
use Rattle.gib_types.specs.Table.{con_at}
use Rattle.gib_types.proofs.Owners.{tag_there}
use Rattle.gib_value.proofs.ReadNames.{named_text}
use Rattle.gib_value.proofs.read.is_named.Goals as goal

pub returns-then-owner-ty-clause-yes : goal.returns-then-owner-ty-clause-yes
returns-then-owner-ty-clause-yes c = λ e.
    let Own : ℕ → Type 0 = λ t. con_at c.args.types.now t c.args.con.0 ≡ Some c.args.con.0 in
    (subst Own (sym c.owner.ensures ∙ c.if-owner-ty.true) (tag_there c.args.types.now c.args.con.0 c.requires.con), search rules)
