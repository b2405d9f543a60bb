use Rattle.gib_local.specs.Building.{atom}
use Rattle.gib_local.specs.Builds.{around_of}
use Rattle.gib_local.proofs.Scoping.{atoms_next, atoms_end}
use Rattle.gib_local.proofs.builder.Builder.atoms.Goals as goal

pub values-preserved : goal.values-preserved
values-preserved c = λ g. atoms_next (atom (around_of c.args.self.now g)) c.args.values.now c.values.rest.now _ c.values.atoms.items c.push.new.self.items c.in_ok-atom.atom c.in-len1-up.len_at_least (c.values.invariant g) (c.in_ok-atom.ensures g) c.in_ok-push.ensures.items

pub returns : goal.returns
returns c = λ g. atoms_end (atom (around_of c.args.self.now g)) c.args.values.now c.values.rest.now c.values.atoms.items c.in_default.len_below (c.values.invariant g)
