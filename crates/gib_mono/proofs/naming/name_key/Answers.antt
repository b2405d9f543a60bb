use Rattle.std.proofs.Common.{length}
use Rattle.gib_mono.specs.Scenes.{forms}
use Rattle.gib_mono.specs.Sources.{globals_in}
use Rattle.gib_mono.proofs.Named.{key_of_data, key_of_function, data_listed, function_listed}
use Rattle.gib_mono.proofs.Seeking.{if_ok}
use Rattle.gib_mono.proofs.naming.name_key.Goals as goal

pub returns-in-Data : goal.returns-in-Data
returns-in-Data c =
    let key = key_of_data (globals_in c.args.source.now) (forms c.args.copier.now.scene) (length c.args.copier.now.scene.types) c.in-Data.place c.in-Data.types c.deref.result.now c.args.key.now c.in-Data.is c.deref.ensures.value c.requires in
    if_ok _ _ c.name_data.result (λ u h. data_listed (globals_in c.args.source.now) c.args.copier.now c.name_data.new.copier c.in-Data.place c.deref.result.now c.args.key.now key h) (c.name_data.ensures key.decl key.there)

pub returns-in-Function : goal.returns-in-Function
returns-in-Function c =
    let key = key_of_function (globals_in c.args.source.now) (forms c.args.copier.now.scene) (length c.args.copier.now.scene.types) c.in-Function.place c.in-Function.types c.deref-in-Function.result.now c.args.key.now c.in-Function.is c.deref-in-Function.ensures.value c.requires in
    if_ok _ _ c.name_function.result (λ u h. function_listed (globals_in c.args.source.now) c.args.copier.now c.name_function.new.copier c.in-Function.place c.deref-in-Function.result.now c.args.key.now key h) (c.name_function.ensures key.decl key.there)
