use Rattle.std.proofs.Common.{rules, ap, ◌∙◌, arith, ◌∷◌}
use Rattle.std.specs.Prelude.{None}
use Rattle.atomic_table.specs.Table.{rest}
use Rattle.gib_frame.proofs.SlotKeeps.{sits, takes_it, gives_it}
use Rattle.gib_frame.proofs.frame.wait_answer.Goals as goal

pub load_new_seat-word-requires : goal.load_new_seat-word-requires
load_new_seat-word-requires g c = (search rules, sits _ _)

pub compare_exchange-requires : goal.compare_exchange-requires
compare_exchange-requires g c = (search rules, search rules, takes_it _ _ _ _ _ (ap (λ m. m.1) c.turns.invariant.1 ∙ c.load_new_seat-word.ensures.1) (λ e. omega arith))

pub store-requires : goal.store-requires
store-requires g c = let x = c.compare_exchange.ensures.2 in let t = x.1 c.if-compare_exchange-eq-PRESENT.true in let e = c.exchange-old.ensures in
    let held = ap (λ m. m.1) e.3 ∙ ap (λ l. (0, None) ∷ rest l) t.1 in
    (search rules, search rules, gives_it _ _ _ _ _ None held tt c.deref.result.now.sized.1)
