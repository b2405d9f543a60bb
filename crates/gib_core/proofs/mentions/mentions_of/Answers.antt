use Rattle.std.proofs.Common.{◌∙◌, ◌++◌, ap}
use Rattle.gib_core.specs.Arena.{term_of}
use Rattle.gib_core.specs.Mentioned.{mentions, binders_in, uses_in}
use Rattle.gib_core.proofs.Mentioning.{term_binds, term_uses}
use Rattle.gib_core.proofs.mentions.mentions_of.Goals as goal

pub returns-clause-binders : goal.returns-clause-binders
returns-clause-binders c =
    let t = term_of c.args.terms.now c.args.id.0 in
    ap binders_in (c.in_ok-list_term.ensures ∙ ap (λ ms. ms ++ mentions t) c.new-mentions.ensures.items) ∙ term_binds t

pub returns-clause-uses : goal.returns-clause-uses
returns-clause-uses c = λ x.
    let t = term_of c.args.terms.now c.args.id.0 in
    ap (λ ms. uses_in ms x) (c.in_ok-list_term.ensures ∙ ap (λ ms. ms ++ mentions t) c.new-mentions.ensures.items) ∙ term_uses t x
