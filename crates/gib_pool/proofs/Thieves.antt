-- Whose forks the workers of a run steal, as they are told.
use Rattle.std.proofs.Common.{◌≡◌, ◌≢◌, ℕ, zero, suc, ◌+◌, ◌<◌, ◌%◌, List, [], ◌∷◌, ◌++◌, map, length, get_or, slice_get, slice_set, Option, Some, None, refl, ap, sym, subst, ◌∙◌, arith}
use Rattle.std.proofs.lemmas.List.{map_push}
use Rattle.crossbeam_deque.specs.Handles.{worker_deque, stealer_deque}
use Rattle.gib_pool.specs.declared.stealer.Stealer.{Stealer}
use Rattle.gib_pool.specs.declared.worker.Worker.{Worker}
use Rattle.gib_pool.specs.Victims.{Deque, deques, steals_from, victims, listed, in_turn}

-- A worker with other stealers has the same forks.
pub same_deques : (ws : List Worker) (p : ℕ) (d w : Worker) → worker_deque w.forks ≡ worker_deque (get_or ws p d).forks → deques (slice_set ws p w) ≡ deques ws
same_deques [] p d w e = refl
same_deques (x ∷ ws) zero d w e = ap (λ (h : Deque). h ∷ deques ws) e
same_deques (x ∷ ws) (suc p) d w e = ap (λ (t : List Deque). worker_deque x.forks ∷ t) (same_deques ws p d w e)

victims_set : (ws : List Worker) (p : ℕ) (w : Worker) → p < length ws → victims (slice_set ws p w) p ≡ steals_from (Some w)
victims_set [] p w lt = absurd (omega (arith, lt))
victims_set (x ∷ ws) zero w lt = refl
victims_set (x ∷ ws) (suc p) w lt = victims_set ws p w (omega (arith, lt))

pub other_victims : (ws : List Worker) (p q : ℕ) (w : Worker) → q ≢ p → victims (slice_set ws p w) q ≡ victims ws q
other_victims [] p q w ne = refl
other_victims (x ∷ ws) zero zero w ne = absurd (ne refl)
other_victims (x ∷ ws) zero (suc q) w ne = refl
other_victims (x ∷ ws) (suc p) zero w ne = refl
other_victims (x ∷ ws) (suc p) (suc q) w ne = other_victims ws p q w (λ e. ne (ap suc e))

deque_there : (ws : List Worker) (p : ℕ) (d : Worker) → p < length ws → listed (slice_get (deques ws) p) ≡ worker_deque (get_or ws p d).forks ∷ []
deque_there [] p d lt = absurd (omega (arith, lt))
deque_there (x ∷ ws) zero d lt = refl
deque_there (x ∷ ws) (suc p) d lt = deque_there ws p d (omega (arith, lt))

victims_there : (ws : List Worker) (p : ℕ) (d : Worker) → p < length ws → victims ws p ≡ steals_from (Some (get_or ws p d))
victims_there [] p d lt = absurd (omega (arith, lt))
victims_there (x ∷ ws) zero d lt = refl
victims_there (x ∷ ws) (suc p) d lt = victims_there ws p d (omega (arith, lt))

-- A stealer more is of one worker more.
pub more_victims : (ws : List Worker) (p q : ℕ) (d e w : Worker) (s : Stealer) → p < length ws → q < length ws → stealer_deque s.forks ≡ worker_deque (get_or ws q e).forks
    → w.stealers.items ≡ (get_or ws p d).stealers.items ++ s ∷ [] → victims (slice_set ws p w) p ≡ victims ws p ++ listed (slice_get (deques ws) q)
more_victims ws p q d e w s here there of more =
    let f : Stealer → Deque = λ (x : Stealer). stealer_deque x.forks in
    victims_set ws p w here ∙ (ap (map f) more ∙ (map_push f (get_or ws p d).stealers.items s
    ∙ (ap (λ (x : Deque). map f (get_or ws p d).stealers.items ++ x ∷ []) of
    ∙ (ap (λ (xs : List Deque). xs ++ worker_deque (get_or ws q e).forks ∷ []) (sym (victims_there ws p d here))
    ∙ ap (λ (xs : List Deque). victims ws p ++ xs) (sym (deque_there ws q e there))))))

-- A new worker steals from nobody.
pub none_more : (ws : List Worker) (w : Worker) (q : ℕ) → ((k : ℕ) → victims ws k ≡ []) → w.stealers.items ≡ [] → victims (ws ++ w ∷ []) q ≡ []
none_more [] w zero all is = ap (map (λ (x : Stealer). stealer_deque x.forks)) is
none_more [] w (suc q) all is = refl
none_more (x ∷ ws) w zero all is = all zero
none_more (x ∷ ws) w (suc q) all is = none_more ws w q (λ k. all (suc k)) is
