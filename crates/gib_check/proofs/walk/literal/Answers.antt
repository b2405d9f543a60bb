use Rattle.gib_check.proofs.Growing.{advances_on, same_advance, keeps_advance}
use Rattle.gib_check.proofs.Answering.{literal_ok}
use Rattle.gib_check.proofs.walk.literal.Goals as goal

pub returns-clause-read : goal.returns-clause-read
returns-clause-read c = λ fs. literal_ok c.args.state.now c.one_more.new.self c.put.new.self c.args.at fs c.args.node c.in_ok-id.id c.requires c.in_ok-one_more.ensures.counts c.in_ok-id.ensures.met.form c.put.ensures.keeps.counts

pub returns-clause-met : goal.returns-clause-met
returns-clause-met c = record {
  advances = advances_on c.args.state.now c.one_more.new.self c.put.new.self (same_advance c.args.state.now c.one_more.new.self c.one_more.ensures.types c.one_more.ensures.parts) (keeps_advance c.one_more.new.self c.put.new.self c.put.ensures.keeps);
  here = c.in_ok-id.ensures.met.below;
}
