use Rattle.std.proofs.Common.{rules, sym, ap, ◌∙◌, subst, arith, ◌∷◌}
use Rattle.std.specs.Prelude.{Some, Option}
use Rattle.atomic_table.specs.Table.{rest}
use Rattle.gib_frame.specs.declared.due.Given.{Given}
use Rattle.gib_frame.specs.declared.ends.Cell.{Cell}
use Rattle.gib_frame.specs.Slot.{Fits}
use Rattle.gib_frame.proofs.SlotKeeps.{sits, takes_it, gives_it}
use Rattle.gib_frame.proofs.frame.put_answer.Goals as goal

pub load_new_seat-word-requires : goal.load_new_seat-word-requires
load_new_seat-word-requires g c = (search rules, sits _ _)

pub compare_exchange-requires : goal.compare_exchange-requires
compare_exchange-requires g c = (search rules, search rules, takes_it _ _ _ _ _ (ap (λ m. m.1) c.turns.invariant.1 ∙ c.load_new_seat-word.ensures.1) (λ e. omega arith))

pub store-requires : goal.store-requires
store-requires g c = let x = c.compare_exchange.ensures.2 in let t = x.1 c.if-compare_exchange-eq-FREE.true in let e = c.exchange.ensures in
    let y : Option Given = Some (record { ending = c.args.ending; pass = c.args.pass }) in
    let v = ap (λ m. m.0) e.3 ∙ (x.0 ∙ (ap (λ m. m.0) c.turns.invariant.1 ∙ c.load_new_seat-word.ensures.2)) in
    let held = ap (λ m. m.1) e.3 ∙ ap (λ l. (0, y) ∷ rest l) t.1 in
    let k = c.deref.ensures in
    (search rules, search rules, gives_it _ _ _ _ _ y held (subst (λ d. Fits d y) (sym v) (subst (λ (z : Cell). Fits z.table.shared.key y) (sym k) (c.requires))) c.deref.result.now.sized.1)
