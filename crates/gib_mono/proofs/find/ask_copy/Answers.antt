use Rattle.std.proofs.Common.{Some, slice_get, refl, ap, ◌∙◌, subst}
use Rattle.gib_types.specs.Types.{forms_at, AreBelow}
use Rattle.gib_mono.specs.declared.found.CopyKey.TheVariants as k
use Rattle.gib_mono.specs.Contexts.{forms}
use Rattle.gib_mono.specs.Found.{AreAlike}
use Rattle.gib_mono.specs.Sources.{globals_in}
use Rattle.gib_mono.specs.Walk.{DataOf, FunctionOf}
use Rattle.gib_mono.proofs.Finding.{key_known, data_there, function_there, copy_all}
use Rattle.gib_mono.proofs.Seeking.{if_ok}
use Rattle.gib_mono.proofs.find.ask_copy.Goals as goal
use Rattle.gib_check.proofs.Growing.{many}

pub ask_data_copy-requires-clause-place : goal.ask_data_copy-requires-clause-place
ask_data_copy-requires-clause-place c =
    let g = globals_in c.args.source.now in
    let e = c.in_ok-key.ensures in
    let q = key_known g c.args.search.now c.requires.open.found c.args.place e.0 (k.Data c.in-Data.declared c.in-Data.types) c.requires.open.at e.1 (subst (AreAlike e.0) c.in-Data.is e.2) in
    (data_there g (forms c.args.search.now.context) c.in-Data.declared (slice_get g.datas c.in-Data.declared) (forms_at (forms c.args.search.now.context) c.in-Data.types.items) q.copy refl q.is).3

pub ask_data_copy-requires-clause-below : goal.ask_data_copy-requires-clause-below
ask_data_copy-requires-clause-below c =
    let g = globals_in c.args.source.now in
    let e = c.in_ok-key.ensures in
    let q = key_known g c.args.search.now c.requires.open.found c.args.place e.0 (k.Data c.in-Data.declared c.in-Data.types) c.requires.open.at e.1 (subst (AreAlike e.0) c.in-Data.is e.2) in
    subst (λ n. AreBelow n c.in-Data.types.items) (many c.args.search.now.context.types) q.below

pub returns-in-Data : goal.returns-in-Data
returns-in-Data c = λ found d at there.
    let g = globals_in c.args.source.now in
    let e = c.in_ok-key.ensures in
    let q = key_known g c.args.search.now found c.args.place e.0 (k.Data c.in-Data.declared c.in-Data.types) at e.1 (subst (AreAlike e.0) c.in-Data.is e.2) in
    let h = data_there g (forms c.args.search.now.context) c.in-Data.declared (slice_get g.datas c.in-Data.declared) (forms_at (forms c.args.search.now.context) c.in-Data.types.items) q.copy refl q.is in
    if_ok _ _ c.ask_data_copy.result (λ u a. copy_all g c.args.search.now c.ask_data_copy.new.search c.args.place found d (DataOf h.0 (forms_at (forms c.args.search.now.context) c.in-Data.types.items)) there (q.there ∙ ap Some h.2) a) (c.ask_data_copy.ensures h.0 h.1)

pub ask_function_copy-requires-clause-place : goal.ask_function_copy-requires-clause-place
ask_function_copy-requires-clause-place c =
    let g = globals_in c.args.source.now in
    let e = c.in_ok-key.ensures in
    let q = key_known g c.args.search.now c.requires.open.found c.args.place e.0 (k.Function c.in-Function.declared c.in-Function.types) c.requires.open.at e.1 (subst (AreAlike e.0) c.in-Function.is e.2) in
    (function_there g (forms c.args.search.now.context) c.in-Function.declared (slice_get g.functions c.in-Function.declared) (forms_at (forms c.args.search.now.context) c.in-Function.types.items) q.copy refl q.is).3

pub ask_function_copy-requires-clause-below : goal.ask_function_copy-requires-clause-below
ask_function_copy-requires-clause-below c =
    let g = globals_in c.args.source.now in
    let e = c.in_ok-key.ensures in
    let q = key_known g c.args.search.now c.requires.open.found c.args.place e.0 (k.Function c.in-Function.declared c.in-Function.types) c.requires.open.at e.1 (subst (AreAlike e.0) c.in-Function.is e.2) in
    subst (λ n. AreBelow n c.in-Function.types.items) (many c.args.search.now.context.types) q.below

pub returns-in-Function : goal.returns-in-Function
returns-in-Function c = λ found d at there.
    let g = globals_in c.args.source.now in
    let e = c.in_ok-key.ensures in
    let q = key_known g c.args.search.now found c.args.place e.0 (k.Function c.in-Function.declared c.in-Function.types) at e.1 (subst (AreAlike e.0) c.in-Function.is e.2) in
    let h = function_there g (forms c.args.search.now.context) c.in-Function.declared (slice_get g.functions c.in-Function.declared) (forms_at (forms c.args.search.now.context) c.in-Function.types.items) q.copy refl q.is in
    if_ok _ _ c.ask_function_copy.result (λ u a. copy_all g c.args.search.now c.ask_function_copy.new.search c.args.place found d (FunctionOf h.0 (forms_at (forms c.args.search.now.context) c.in-Function.types.items)) there (q.there ∙ ap Some h.2) a) (c.ask_function_copy.ensures h.0 h.1)
