-- A worker goes on from a fork and from a join.
use Rattle.std.proofs.Common.{◌≡◌, ℕ, ◌+◌, List, [], ◌∷◌, sym, subst, ◌∙◌}
use Rattle.std.specs.Prelude.{Option, Some, None, IfSome}
use Rattle.gib_mem.specs.Memory.{Store}
use Rattle.gib_core.specs.LoweredParts.{LoweredParts}
use Rattle.gib_code.specs.declared.answer.Answer.{Answer}
use Rattle.gib_types.specs.declared.reason.Reason.{Reason}
use Rattle.gib_machine.specs.State.{State}
use Rattle.gib_machine.specs.Sides.{Waiting, unwinding, takes, joins}
use Rattle.gib_weave.specs.Owing.{Debt}
use Rattle.gib_frame.specs.declared.due.Due.{Due}
use Rattle.gib_frame.specs.declared.ends.Frame.{Frame}
use Rattle.gib_frame.specs.Answers.{ArePaid}
use Rattle.gib_frame.specs.Dues.{frame_due}
use Rattle.gib_pool.specs.Frames.{due_maybe}
use Rattle.gib_pool.specs.Turn.{Works, Pays, Wider, IsFor, WorksOn, WorksBack, Tells}
use Rattle.gib_pool.proofs.Paid.{pays_joined}
use Rattle.gib_pool.proofs.Turns.{wider_keeps}

module _ (l : LoweredParts) (d : Debt) where
  pub goes_left : (s r : Store) (n k : ℕ) (lent : List (Option Due)) (m left m' : State) (right : Waiting) (x : Option Frame) → WorksOn l d s n lent m left right → IfSome x (λ f. IsFor l s right (frame_due f)) → m' ≡ left → k ≡ n → Wider s r
      → Works l d r k m' (due_maybe x ∷ lent)
  goes_left s r n k lent m left m' right None w i e z h = subst (λ (x : State). Works l d r k x (None ∷ lent)) (sym e) (subst (λ (j : ℕ). Works l d r j left (None ∷ lent)) (sym z) (wider_keeps l d s r n left (None ∷ lent) h w.refused))
  goes_left s r n k lent m left m' right (Some f) w i e z h =
      subst (λ (x : State). Works l d r k x (Some (frame_due f) ∷ lent)) (sym e) (subst (λ (j : ℕ). Works l d r j left (Some (frame_due f) ∷ lent)) (sym z) (wider_keeps l d s r n left (Some (frame_due f) ∷ lent) h (w.made (frame_due f) i)))

  head_is : {A : Type 0} {x y : A} {xs ys : List A} → x ∷ xs ≡ y ∷ ys → x ≡ y
  head_is e = cc

  tail_is : {A : Type 0} {x y : A} {xs ys : List A} → x ∷ xs ≡ y ∷ ys → xs ≡ ys
  tail_is e = cc

  nil_cons : {A : Type 0} {x : A} {xs : List A} → [] ≡ x ∷ xs → ⊥
  nil_cons e = absurd cc

  pub some_left : (s : Store) (n : ℕ) (lent : List (Option Due)) (m : State) → WorksBack l d s n lent m → lent ≡ [] → ⊥
  some_left s n lent m w e = nil_cons (sym e ∙ w.are)

  so : (s : Store) (n k : ℕ) (m m' : State) (es os : List (Option Due)) → m' ≡ m → k ≡ n → os ≡ es → Works l d s n m os → Works l d s k m' es
  so s n k m m' es os e z o w = subst (λ (x : State). Works l d s k x es) (sym e) (subst (λ (j : ℕ). Works l d s j m es) (sym z) (subst (Works l d s n m) o w))

  pub takes_back : (s : Store) (n k : ℕ) (lent es : List (Option Due)) (x : Option Due) (m m' : State) → WorksBack l d s n lent m → lent ≡ x ∷ es → k ≡ n → m' ≡ takes m → Works l d s k m' es
  takes_back s n k lent es x m m' w e z is = so s n k (takes m) m' es w.others is z (tail_is (sym w.are ∙ e)) w.take

  pub answers_back : (s : Store) (n k drew : ℕ) (lent es : List (Option Due)) (e : Due) (a : Answer) (m m' : State) → WorksBack l d s n lent m → lent ≡ Some e ∷ es → k ≡ n + drew → Tells e drew s a → m' ≡ joins m a → Works l d s k m' es
  answers_back s n k drew lent es e a m m' w are z t is = so s (n + drew) k (joins m a) m' es w.others is z (tail_is (sym w.are ∙ are)) (w.join e a drew (head_is (sym w.are ∙ are)) t)

  pub unwinds_back : (s : Store) (n k drew : ℕ) (lent es : List (Option Due)) (e : Due) (why : Reason) (m m' : State) → WorksBack l d s n lent m → lent ≡ Some e ∷ es → k ≡ n + drew → ArePaid e drew → unwinding m.doing ≡ Some why → m' ≡ takes m → Works l d s k m' es
  unwinds_back s n k drew lent es e why m m' w are z t out is = so s (n + drew) k (takes m) m' es w.others is z (tail_is (sym w.are ∙ are)) (w.unwind e why drew (head_is (sym w.are ∙ are)) out t)

  -- Who leaves the task has paid, with what was drawn for the newest side.
  pub pays_back : (s : Store) (n k drew : ℕ) (lent es : List (Option Due)) (e : Due) (m : State) → WorksBack l d s n lent m → lent ≡ Some e ∷ es → k ≡ n + drew → ArePaid e drew → Pays l d.most k es
  pays_back s n k drew lent es e m w are z t = subst (λ (j : ℕ). Pays l d.most j es) (sym z) (pays_joined l d.most n drew e es (subst (Pays l d.most n) are w.pays) t)
