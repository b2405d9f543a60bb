use Rattle.std.proofs.Common.{◌≡◌, true, false, Bool, List, map, sym, ap, ◌∙◌}
use Rattle.gib_types.specs.Row.{Table}
use Rattle.gib_types.specs.declared.table.ConId.{ConId}
use Rattle.gib_core.specs.declared.atom.Atom.{Atom}
use Rattle.gib_local.specs.Building.{atom, con, is_flat}
use Rattle.gib_local.specs.Building as rule
use Rattle.gib_local.specs.Builds.{around_of, passed_of, program_in, reserved, filled_due}
use Rattle.gib_local.proofs.Adding.{builds_for, make_flat, make_open}
use Rattle.gib_local.proofs.steps.make.Goals as goal

pub returns-then-is_flat : goal.returns-then-is_flat
returns-then-is_flat c =
    let tb = (program_in c.args.source.now).table in
    let h = around_of c.args.builder.now c.args.goal.now in
    let v = passed_of c.args.builder.now in
    let k = con tb c.args.k in
    let l = c.constructor-constructor.result in
    let xs = map (atom h) c.args.values.now in
    let flat : is_flat tb k ≡ true = ap (λ (m : ConId). is_flat tb m) (sym c.constructor-constructor.ensures) ∙ ap (λ (t : Table). is_flat t l) (sym c.table.ensures) ∙ sym c.is_flat.ensures ∙ c.if-is_flat.true in
    builds_for c.args.builder.now c.reserved.new.builder c.reserved.result (rule.make (is_flat tb k) tb h v k c.args.mark xs) (reserved tb v l c.deref.result.now)
    (make_flat (is_flat tb k) tb h v k c.args.mark xs flat c.in_ok-aims.ensures
    ∙ ap (λ (m : ConId). reserved tb v m xs) (sym c.constructor-constructor.ensures)
    ∙ ap (λ (m : List Atom). reserved tb v l m) (sym (c.deref.ensures.value ∙ c.in_ok-arguments.ensures c.args.goal.now)))
    c.reserved.ensures

pub returns : goal.returns
returns c =
    let tb = (program_in c.args.source.now).table in
    let h = around_of c.args.builder.now c.args.goal.now in
    let v = passed_of c.args.builder.now in
    let k = con tb c.args.k in
    let l = c.constructor-constructor.result in
    let xs = map (atom h) c.args.values.now in
    let flat : is_flat tb k ≡ false = ap (λ (m : ConId). is_flat tb m) (sym c.constructor-constructor.ensures) ∙ ap (λ (t : Table). is_flat t l) (sym c.table.ensures) ∙ sym c.is_flat.ensures ∙ c.if-is_flat.false in
    builds_for c.args.builder.now c.filled.new.builder c.filled.result (rule.make (is_flat tb k) tb h v k c.args.mark xs) (filled_due tb h v l c.args.mark c.deref-else-is_flat.result.now)
    (make_open (is_flat tb k) tb h v k c.args.mark xs flat c.in_ok-aims.ensures
    ∙ ap (λ (m : ConId). filled_due tb h v m c.args.mark xs) (sym c.constructor-constructor.ensures)
    ∙ ap (λ (m : List Atom). filled_due tb h v l c.args.mark m) (sym (c.deref-else-is_flat.ensures.value ∙ c.in_ok-arguments.ensures c.args.goal.now)))
    c.filled.ensures
