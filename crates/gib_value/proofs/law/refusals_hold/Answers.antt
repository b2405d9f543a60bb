use Rattle.gib_value.proofs.Agree.{Known, not_refused, one_place, no_text_begins}
use Rattle.gib_value.proofs.law.refusals_hold.Goals as goal

pub returns : goal.returns
returns c =
    let known : Known c.args.types.now c.args.names.now.short = record { words = c.requires.words; apart = c.requires.apart } in
    record {
      no_text = λ t bytes place v r is. not_refused c.args.types.now c.args.names.now.short known t v bytes place is r;
      one_place = λ t bytes p q a b. one_place c.args.types.now c.args.names.now.short known t bytes p q a b;
      no_front = λ t bytes place r lt v rest h cut. no_text_begins c.args.types.now c.args.names.now.short known t bytes place r lt v rest h cut;
    }
