use Rattle.std.proofs.Common.{arith, List, ap, subst, sym, ◌∙◌, count_by, nat_lt}
use Rattle.std.proofs.lemmas.List.{length-map}
use Rattle.gib_base.specs.declared.name.Name.{Name}
use Rattle.gib_types.specs.declared.table.Constructor.{Constructor}
use Rattle.gib_types.specs.Row.{table_of}
use Rattle.gib_types.specs.Index.{NamesDiffer, ArePlacesOf}
use Rattle.gib_types.proofs.Owners.{types_few}
use Rattle.gib_types.proofs.Indexes.{names_differ, indexed}
use Rattle.gib_types.proofs.table.TypeTable.make.Goals as goal

pub list_firsts-requires-clause-types : goal.list_firsts-requires-clause-types
list_firsts-requires-clause-types c = let few = types_few (table_of c.args.types.items c.args.constructors.items) c.requires in omega (arith, length-map c.args.types.items (λ (n : Name). n.0))

pub list_places-requires-clause-differ : goal.list_places-requires-clause-differ
list_places-requires-clause-differ c = subst NamesDiffer (sym c.deref-2.ensures.value) (names_differ c.args.types.items c.args.constructors.items c.requires)

pub invariant_of-result : goal.invariant_of-result
invariant_of-result c =
    indexed c.args.types.items c.args.constructors.items c.in_ok-firsts.firsts.items c.in_ok-places.places c.requires
    (λ ty lt. c.in_ok-firsts.ensures.each ty (omega arith) ∙ ap (λ (l : List Constructor). count_by (λ (d : Constructor). nat_lt d.owner.0 ty) l) c.deref.ensures.value)
    (let long = c.in_ok-firsts.ensures.long in omega arith)
    (let stand : ArePlacesOf c.deref-2.result.now c.in_ok-places.places = c.in_ok-places.ensures in subst (λ (l : List Constructor). ArePlacesOf l c.in_ok-places.places) c.deref-2.ensures.value stand)
