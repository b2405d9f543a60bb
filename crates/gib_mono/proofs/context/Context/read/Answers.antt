use Rattle.gib_mono.proofs.Known.{known_more, reads_view}
use Rattle.gib_mono.proofs.Seeking.{if_ok}
use Rattle.gib_mono.proofs.context.Context.read.Goals as goal

pub invariant_of-self : goal.invariant_of-self
invariant_of-self c = known_more (record { types = c.self.inside.types; variables = c.self.inside.variables.items; meant = c.self.inside.meant.items }) c.read.new.types c.self.invariant c.read.ensures.longer

pub returns : goal.returns
returns c =
    if_ok _ _ c.read.result (λ r h. reads_view (record { types = c.self.inside.types; variables = c.self.inside.variables.items; meant = c.self.inside.meant.items }) c.args.self.now c.read.new.types c.deref.result.now c.deref-2.result.now c.args.words.now r c.self.view_is c.self.invariant
    c.deref.ensures.value c.deref-2.ensures.value h) c.read.ensures.read
