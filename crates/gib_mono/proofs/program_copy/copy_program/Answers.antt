use Rattle.std.proofs.Common.{[], refl, sym, ap, ◌∙◌, subst}
use Rattle.gib_syntax.specs.Parts.{Parts, program_of}
use Rattle.gib_syntax.specs.Typing.{IsTypedProgram}
use Rattle.gib_mono.specs.Entries.{items_of}
use Rattle.gib_mono.specs.Scenes.{Scenery}
use Rattle.gib_mono.proofs.Ending.{ends, keys_there}
use Rattle.gib_mono.proofs.program_copy.copy_program.Goals as goal

pub copy_keys-requires : goal.copy_keys-requires
copy_keys-requires c =
    keys_there c.args.source.now c.args.asked (record { alloc = c.args.alloc; scene = c.new-scene.result; parts = c.new.result; base = c.args.base; exprs = c.new-2.result }) c.keys.result.now c.keys.ensures
    (ap (λ (k : Scenery). k.types) c.new-scene.ensures ∙ c.into_types.ensures) c.requires.finds

pub new-program-requires : goal.new-program-requires
new-program-requires c =
    let all = ends c.args.source.now c.args.asked c.args.base (record { alloc = c.args.alloc; scene = c.new-scene.result; parts = c.new.result; base = c.args.base; exprs = c.new-2.result }) c.in_ok-parts.ensures.named c.in_ok-parts.ensures.put c.copy_keys.new.copier c.keys.result.now c.keys.result.now c.in_ok-parts.parts.declared.datas.items
    c.in_ok-parts.parts.declared.functions.items c.in_ok-parts.parts.main c.requires.finds c.requires.below c.program-program.ensures.typed c.program-program.ensures.inside.constructors
    (c.new-scene.ensures ∙ ap (λ ns. record { types = ns; variables = []; meant = []; scope = []; entries = [] }) c.into_types.ensures) refl c.keys.ensures c.keys.ensures c.in_ok-parts.ensures.enters c.in_ok-parts.ensures.declares c.in_ok-parts.ensures.ends in
    all.inside

pub returns : goal.returns
returns c =
    let all = ends c.args.source.now c.args.asked c.args.base (record { alloc = c.args.alloc; scene = c.new-scene.result; parts = c.new.result; base = c.args.base; exprs = c.new-2.result }) c.in_ok-parts.ensures.named c.in_ok-parts.ensures.put c.copy_keys.new.copier c.keys.result.now c.keys.result.now c.in_ok-parts.parts.declared.datas.items
    c.in_ok-parts.parts.declared.functions.items c.in_ok-parts.parts.main c.requires.finds c.requires.below c.program-program.ensures.typed c.program-program.ensures.inside.constructors
    (c.new-scene.ensures ∙ ap (λ ns. record { types = ns; variables = []; meant = []; scope = []; entries = [] }) c.into_types.ensures) refl c.keys.ensures c.keys.ensures c.in_ok-parts.ensures.enters c.in_ok-parts.ensures.declares c.in_ok-parts.ensures.ends in
    (subst (λ (p : Parts). IsTypedProgram (program_of p)) (sym c.new-program.ensures) all.typed, (all.found, all.are, ap program_of c.new-program.ensures ∙ all.program, ap items_of c.into_copies-copies.ensures ∙ all.names))
