use Rattle.std.proofs.Common.{refl}
use Rattle.gib_types.specs.Types.{forms_at}
use Rattle.gib_mono.specs.Scenes.{forms}
use Rattle.gib_mono.proofs.Seeking.{if_ok}
use Rattle.gib_mono.proofs.Meeting.{no_result, result_met}
use Rattle.gib_mono.proofs.copier.Copier.meet_result.Goals as goal

pub returns-in_default : goal.returns-in_default
returns-in_default c = no_result c.args.source.now c.args.self.now c.meet.new.self c.in_ok-ty.ty c.args.f.0 (forms_at (forms c.args.self.now.scene) c.args.types.now) c.in_default.ensures.place c.in_ok-ty.ensures

pub returns : goal.returns
returns c =
    let named = c.in-Some.ensures.place in
    if_ok _ _ c.meet_results.result
    (λ given g. result_met c.args.source.now c.args.self.now c.meet_results.new.self given c.in-Some.place c.args.f.0 named.0 c.function_decl-function.result.now c.deref.result.now (forms_at (forms c.args.self.now.scene) c.args.types.now) _
    named.1 named.2 c.function_decl-function.ensures.at c.deref.ensures.value refl g)
    c.meet_results.ensures
