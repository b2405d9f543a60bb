use Rattle.std.proofs.Common.{false, refl, sym, ap, ◌∙◌, subst, arith}
use Rattle.std.proofs.lemmas.Option.{slice_get_within}
use Rattle.gib_types.specs.Types.{forms_at, AreBelow}
use Rattle.gib_mono.specs.declared.found.CopyKey.TheVariants as k
use Rattle.gib_mono.specs.Contexts.{forms}
use Rattle.gib_mono.specs.Searching.{AddsKey}
use Rattle.gib_mono.specs.Sources.{globals_in}
use Rattle.gib_mono.specs.Walk.{DataOf, data_asked}
use Rattle.gib_mono.proofs.Seeking.{if_ok, key_asked}
use Rattle.gib_mono.proofs.search.ask_type.Goals as goal
use Rattle.gib_check.proofs.Growing.{many}

pub returns-then-is_over : goal.returns-then-is_over
returns-then-is_over c = c.is_over.ensures.over c.if-is_over.true (globals_in c.args.source.now) false

pub constructors_of-constructors-requires : goal.constructors_of-constructors-requires
constructors_of-constructors-requires c = let t = c.in-Some.ensures.place in slice_get_within (globals_in c.args.source.now).datas c.in-Some.place t.0 t.1

pub returns : goal.returns
returns c =
    let g = globals_in c.args.source.now in
    let fs = forms c.args.search.now.context in
    let ids = c.args.used.types in
    let t = c.in-Some.ensures.place in
    let goes = c.is_over.ensures.short c.if-is_over.false in
    if_ok _ _ c.add.result (λ u adds. key_asked g c.args.search.now c.add.new.search (k.Data c.in-Some.place ids) c.constructors_of-constructors.result c.args.used.span _ (DataOf t.0 (forms_at fs ids.items)) c.type_place.ensures.declared
    goes.once (subst (λ n. AreBelow n ids.items) (sym (many c.args.search.now.context.types)) c.requires)
    (ap (λ o. data_asked o (forms_at fs ids.items)) t.1) (ap (λ o. data_asked o (forms_at fs ids.items)) t.2)
    (let e = c.constructors_of-constructors.ensures.count t.0 t.1 in omega (arith, e)) goes.short refl (ap (λ s. s.limit) (sym goes.same) ∙ goes.on)
    (subst (λ s. AddsKey s c.add.new.search (k.Data c.in-Some.place ids) c.constructors_of-constructors.result c.args.used.span) goes.same adds)) c.add.ensures
