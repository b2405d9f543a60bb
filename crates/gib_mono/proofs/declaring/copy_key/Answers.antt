use Rattle.std.proofs.Common.{[], ◌∷◌, length}
use Rattle.gib_types.specs.Types.{forms_at}
use Rattle.gib_mono.specs.Declaring.{copies_from}
use Rattle.gib_mono.specs.Scenes.{forms}
use Rattle.gib_mono.specs.Sources.{globals_in}
use Rattle.gib_mono.proofs.Declarations.{data_declared, function_declared}
use Rattle.gib_mono.proofs.Named.{key_of_data, key_of_function}
use Rattle.gib_mono.proofs.declaring.copy_key.Goals as goal

pub returns-in_ok-push-in-Data : goal.returns-in_ok-push-in-Data
returns-in_ok-push-in-Data c =
    let key = key_of_data (globals_in c.args.source.now) (forms c.args.copier.now.scene) (length c.args.copier.now.scene.types) c.in-Data.place c.in-Data.types c.deref.result.now c.args.key.now c.in-Data.is c.deref.ensures.value c.requires in
    data_declared (globals_in c.args.source.now) c.args.copier.now c.copy_data.new.copier c.args.declared.now.datas.items c.push.new.self.items c.args.declared.now.functions.items c.in_ok-data-in-Data.data key.decl (forms_at (forms c.args.copier.now.scene) c.deref.result.now)
    (copies_from (globals_in c.args.source.now) (forms c.args.copier.now.scene) (c.args.key.now ∷ [])) (c.in_ok-data-in-Data.ensures key.decl key.there) c.in_ok-push-in-Data.ensures.items key.is

pub returns-in_ok-push-in-Function : goal.returns-in_ok-push-in-Function
returns-in_ok-push-in-Function c =
    let key = key_of_function (globals_in c.args.source.now) (forms c.args.copier.now.scene) (length c.args.copier.now.scene.types) c.in-Function.place c.in-Function.types c.deref-in-Function.result.now c.args.key.now c.in-Function.is c.deref-in-Function.ensures.value c.requires in
    function_declared (globals_in c.args.source.now) c.args.copier.now c.copy_function.new.copier c.args.declared.now.datas.items c.args.declared.now.functions.items c.push-in-Function.new.self.items c.in_ok-function-in-Function.function key.decl (forms_at (forms c.args.copier.now.scene) c.deref-in-Function.result.now)
    (copies_from (globals_in c.args.source.now) (forms c.args.copier.now.scene) (c.args.key.now ∷ [])) (c.in_ok-function-in-Function.ensures key.decl key.there) c.in_ok-push-in-Function.ensures.items key.is
