use Rattle.std.proofs.Common.{◌≡◌, length, sym, subst, arith, Some, slice_get}
use Rattle.gib_types.specs.Types.{forms_of, form_from, ArgumentsBelow, IsNew}
use Rattle.gib_types.proofs.Same.{known_form, known_new, known_place}
use Rattle.gib_types.proofs.Put.{put_form, put_grown}
use Rattle.gib_types.proofs.types.Types.put.Goals as goal

pub overflow_cast-result : goal.overflow_cast-result
overflow_cast-result c =
    let l = known_place c.self.inside.nodes.keys c.self.inside.words.items c.args.node c.in-Some.index c.self.invariant (sym c.in-Some.ensures.index) in
    let few = c.self.invariant.few in
    omega (arith, l, few)

pub push-requires-clause-new : goal.push-requires-clause-new
push-requires-clause-new c =
    let same = c.self.view_is in
    let below = subst (λ ns. ArgumentsBelow (length ns) c.args.node) (sym same) c.requires in
    subst (λ ns. IsNew (forms_of ns) (form_from (forms_of ns) c.args.node)) same
    (known_new c.self.inside.nodes.keys c.self.inside.words.items c.args.node c.self.invariant below (sym c.in-None.ensures.index))

pub returns-in-Some-clause-form : goal.returns-in-Some-clause-form
returns-in-Some-clause-form c =
    subst (λ ns. slice_get (forms_of ns) c.in-Some.index ≡ Some (form_from (forms_of ns) c.args.node)) c.self.view_is
    (known_form c.self.inside.nodes.keys c.self.inside.words.items c.args.node c.in-Some.index c.self.invariant (sym c.in-Some.ensures.index))

pub returns-in-None-clause-form : goal.returns-in-None-clause-form
returns-in-None-clause-form c = put_form c.args.self.now c.push.new.self c.args.node c.push.result (subst (λ ns. length (forms_of ns) ≡ length ns) c.self.view_is c.self.invariant.many) c.push.ensures.number c.push.ensures.grown

pub returns-in-None-clause-grown : goal.returns-in-None-clause-grown
returns-in-None-clause-grown c = put_grown c.args.self.now c.push.new.self c.args.node c.push.result c.push.ensures.grown c.push.ensures.same
