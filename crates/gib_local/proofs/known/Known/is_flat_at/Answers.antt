use Rattle.std.proofs.Common.{ap, ◌∙◌, map}
use Rattle.gib_local.specs.Knowing.{kept_flat}
use Rattle.gib_local.proofs.KnownNames.{got_row, no_row, flat_here, flat_nowhere}
use Rattle.gib_local.proofs.known.Known.is_flat_at.Goals as goal

pub returns-in-Some : goal.returns-in-Some
returns-in-Some c =
    flat_here c.self.inside.text c.args.self.now c.deref.result.now c.args.number c.in-Some.row.now c.self.view_is (ap (map kept_flat) c.deref.ensures.value ∙ c.self.invariant.flats_are)
    (got_row c.deref.result.now c.args.number c.get.result c.in-Some.row c.get.ensures.lookup.0 c.get.ensures.lookup.1 c.in-Some.is)

pub returns-in-None : goal.returns-in-None
returns-in-None c =
    flat_nowhere c.self.inside.text c.args.self.now c.deref.result.now c.args.number c.self.view_is (ap (map kept_flat) c.deref.ensures.value ∙ c.self.invariant.flats_are)
    (no_row c.deref.result.now c.args.number c.get.result c.get.ensures.lookup.0 c.in-None.is)
