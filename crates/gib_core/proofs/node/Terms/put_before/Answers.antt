use Rattle.std.proofs.Common.{subst, List}
use Rattle.gib_core.specs.declared.node.Binding.{Binding}
use Rattle.gib_core.proofs.Fronting.{Fronts, fronts_more}
use Rattle.gib_core.proofs.node.Terms.put_before.Goals as goal

pub bindings-preserved : goal.bindings-preserved
bindings-preserved c = fronts_more c.args.self.now c.bindings.self c.put.new.self c.args.bindings.items c.pop.new.self.items c.in-Some.binding c.args.rest c.bindings.term c.in_ok-term.term (subst (λ (z : List Binding). Fronts c.args.self.now c.bindings.self c.args.bindings.items z c.args.rest c.bindings.term) c.in-Some.ensures.items c.bindings.invariant) c.in_ok-term.ensures.made
