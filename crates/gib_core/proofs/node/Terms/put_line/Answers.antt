use Rattle.gib_core.proofs.Fronting.{line_made}
use Rattle.gib_core.proofs.node.Terms.put_line.Goals as goal

pub returns-clause-term : goal.returns-clause-term
returns-clause-term c = line_made c.args.self.now c.put.new.self c.put_before.new.self c.args.bindings.items c.in_ok-end.end c.in_ok-line.line c.args.end c.requires.bindings c.in_ok-end.ensures.made c.in_ok-line.ensures.term
