use Rattle.gib_place.proofs.Making.{made_passed}
use Rattle.gib_place.proofs.Programs.{body_made}
use Rattle.gib_place.proofs.bodies.place_body.Goals as goal

pub returns : goal.returns
returns c =
    made_passed c.copy_term.result _ _ (λ t. body_made c.args.terms.now c.place_term.new.scratch.terms c.args.made.now c.copy_term.new.into c.new-scratch.result.terms c.args.id c.in_ok-placed.placed t c.in_ok-once.once c.in_ok-numbers.numbers c.args.parameters
    c.in_ok-once.ensures c.in_ok-placed.ensures c.in_ok-numbers.ensures) c.copy_term.ensures
