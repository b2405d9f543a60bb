use Rattle.std.proofs.Common.{[], ◌∷◌, ◌++◌, ℕ, List, ap, ◌∙◌, append_assoc}
use Rattle.gib_print.proofs.image_walk.put_head.Goals as goal

pub returns : goal.returns
returns c =
    c.in_ok-extend_from_slice.ensures.items
    ∙ ap (λ (l : List ℕ). l ++ c.args.scalars.now) c.in_ok-push.ensures.items
    ∙ append_assoc c.args.packed.now.items (c.args.tag ∷ []) c.args.scalars.now
