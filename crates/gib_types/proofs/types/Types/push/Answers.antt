use Rattle.std.proofs.Common.{◌≡◌, ◌<◌, arith, ◌++◌, ◌∷◌, [], length, ap, sym, subst, ◌∙◌}
use Rattle.gib_types.specs.Types.{forms_of, form_from, ArgumentsBelow, IsNew, cut}
use Rattle.gib_types.specs.Form.{words}
use Rattle.gib_types.proofs.Once.{AreTypes-push}
use Rattle.gib_types.proofs.Same.{inserted}
use Rattle.gib_types.proofs.types.Types.push.Goals as goal

room : (c : goal.In-Ok-insert_full) → length c.self.inside.nodes.keys < 4294967296
room c = let e = c.in-Ok.ensures.0 in let l = c.len.ensures.len in omega (arith, e, l)

pub invariant_of-self-in-Ok-insert_full : goal.invariant_of-self-in-Ok-insert_full
invariant_of-self-in-Ok-insert_full c =
    let same = c.self.view_is in
    let below = subst (λ ns. ArgumentsBelow (length ns) c.args.node) (sym same) c.requires.below in
    let new = subst (λ ns. IsNew (forms_of ns) (form_from (forms_of ns) c.args.node)) (sym same) c.requires.new in
    let kept = c.in-Ok-insert_full.ensures.keys ∙ inserted c.self.inside.nodes.keys c.self.inside.words.items c.args.node c.self.invariant new in
    let items = c.in_ok-push.ensures.items in
    let count = subst (λ ns. c.count-words.result ≡ cut (words (form_from (forms_of ns) c.args.node))) (sym same) c.count-words.ensures in
    rw (kept, items) (AreTypes-push c.self.inside.nodes.keys c.self.inside.words.items c.args.node c.count-words.result c.self.invariant below (room c) new count)

pub returns-clause-grown : goal.returns-clause-grown
returns-clause-grown c =
    let same = c.self.view_is in
    let new = subst (λ ns. IsNew (forms_of ns) (form_from (forms_of ns) c.args.node)) (sym same) c.requires.new in
    c.in-Ok-insert_full.ensures.keys ∙ inserted c.self.inside.nodes.keys c.self.inside.words.items c.args.node c.self.invariant new ∙ ap (λ ns. ns ++ c.args.node ∷ []) same
