-- A weave stays one.
use Rattle.std.proofs.Common.{◌≡◌, ℕ, ◌^◌, Bool, true, false, cond, ◌&&◌, List, zero, suc, length, refl, sym, ap, subst, ◌∙◌}
use Rattle.std.specs.Prelude.{Result, Ok, Err, Option, Some, None, IfSome, IfNone, nat_lt}
use Rattle.std.proofs.lemmas.Option.{none-some, same_Some}
use Rattle.gib_types.specs.declared.table.Ty.{Ty}
use Rattle.gib_types.specs.Tree.{Datum}
use Rattle.gib_syntax.specs.Meaning.{Outcome}
use Rattle.gib_core.specs.Cost.{Cost}
use Rattle.gib_mem.specs.Memory.{Memory, IsBounded}
use Rattle.gib_packed.specs.declared.root.Root.{Root}
use Rattle.gib_core.specs.Fits.{AllFit}
use Rattle.gib_core.specs.Low.{IsLowered}
use Rattle.gib_core.specs.LoweredParts.{LoweredParts}
use Rattle.gib_core.specs.Meaning.{core_run}
use Rattle.gib_core.specs.Parts.{core_of}
use Rattle.gib_code.specs.declared.answer.Answer.{Answer}
use Rattle.gib_code.specs.Program.{CodeTree, Runs}
use Rattle.gib_weave.specs.declared.event.Event.{Event as TaskEvent}
use Rattle.gib_weave.specs.declared.task.WeaveFault.{WeaveFault}
use Rattle.gib_weave.specs.declared.task.WeaveFault.TheVariants as fault
use Rattle.gib_weave.specs.Applied.{Applied, CanGo, HaveWidth, can_steal_from, event_of, picked_of}
use Rattle.gib_weave.specs.Paying.{whole_of}
use Rattle.gib_weave.specs.Running.{IsStart, word_of}
use Rattle.gib_weave.specs.Weave.{Weave, Event, Stage, Running, Finished, Joined, Enabled, IsFinished, IsOf, IsSteal, IsThere, Sound, Steal, is_running, or_else, pick, pick_below, pick_of, pick_steal, steal_below, task, weave_start}
use Rattle.gib_weave.specs.Woven.{IsMeant, IsSoundOn, IsWoven}
use Rattle.gib_weave.proofs.Events.{event_keeps}
use Rattle.gib_weave.proofs.Going.{can_go, widths_kept}
use Rattle.gib_weave.proofs.Picks.{pick_of_enabled, enabled_pick_of, pick_steal_enabled, pick_steal_none}
use Rattle.gib_weave.proofs.Progress.{picks, root_answers, starts_sound}
use Rattle.gib_weave.proofs.RootEnds.{argument}
use Rattle.gib_weave.proofs.Starts.{lowered_bodies, lowered_main}

module _ (l : LoweredParts) (code : CodeTree) (same : code ≡ l.code) (low : IsLowered (core_of l.core) l.code) (fit : AllFit (core_of l.core)) (runs : Runs l.code) where
  -- calls on its tasks may be made
  pub woven_can_go : (v : Weave) → IsWoven l v → CanGo code v
  woven_can_go v h = subst (λ (c : CodeTree). CanGo c v) (sym same) (can_go (core_of l.core) l.code (lowered_bodies (core_of l.core) l.code low fit) h.ty h.outcome h.whole v runs h.sound h.widths)

  -- an event leaves it sound for what it was
  pub sound_stays : (ty : Ty) (o : Outcome) (whole : Cost) (v v' : Weave) (e : Event) (r : Result (Unit {0}) WeaveFault) → Sound (core_of l.core) l.code ty o whole v → Applied code v e v' r → Sound (core_of l.core) l.code ty o whole v'
  sound_stays ty o whole v v' e r h a = go r (subst (λ (c : CodeTree). Applied c v e v' r) same a)
    where
      stays : v' ≡ v → Sound (core_of l.core) l.code ty o whole v'
      stays q = subst (Sound (core_of l.core) l.code ty o whole) (sym q) h

      go : (q : Result (Unit {0}) WeaveFault) → Applied l.code v e v' q → Sound (core_of l.core) l.code ty o whole v'
      go (Ok u) n = event_keeps (core_of l.core) l.code (lowered_bodies (core_of l.core) l.code low fit) ty o whole v v' e h n
      go (Err fault.NotNow) n = stays n.0
      go (Err fault.Full) n = stays n.0
      go (Err fault.Memory) n = stays n.0

  width_stays : (v v' : Weave) (e : Event) (r : Result (Unit {0}) WeaveFault) → HaveWidth l.code v.tasks → Applied code v e v' r → HaveWidth l.code v'.tasks
  width_stays v v' e r h a = go r (subst (λ (c : CodeTree). Applied c v e v' r) same a)
    where
      stays : v' ≡ v → HaveWidth l.code v'.tasks
      stays q = subst (λ (w : Weave). HaveWidth l.code w.tasks) (sym q) h

      go : (q : Result (Unit {0}) WeaveFault) → Applied l.code v e v' q → HaveWidth l.code v'.tasks
      go (Ok u) n = widths_kept l.code v h e v' n
      go (Err fault.NotNow) n = stays n.0
      go (Err fault.Full) n = stays n.0
      go (Err fault.Memory) n = stays n.0

  -- so it leaves a weave
  pub woven_stays : (v v' : Weave) (e : Event) (r : Result (Unit {0}) WeaveFault) → IsWoven l v → Applied code v e v' r → IsWoven l v'
  woven_stays v v' e r h a = record { ty = h.ty; outcome = h.outcome; whole = h.whole; sound = sound_stays h.ty h.outcome h.whole v v' e r h.sound a; widths = width_stays v v' e r h.widths a }

-- The start of one.
module _ (l : LoweredParts) (low : IsLowered (core_of l.core) l.code) (fit : AllFit (core_of l.core)) (m : Memory) (bd : IsBounded m) (al : m.alone ≡ true) (root : Root) (depth level : ℕ) (tails : List ℕ) (v : Weave)
    (e : v ≡ weave_start (core_of l.core) l.code m (word_of root) depth level tails) where
  pub start_sound : (d : Datum) → IsStart l root tails m d → Sound (core_of l.core) l.code (core_of l.core).main.result (core_run (core_of l.core) depth d) (whole_of (core_of l.core) depth level d) v
  start_sound d s = subst (Sound (core_of l.core) l.code (core_of l.core).main.result (core_run (core_of l.core) depth d) (whole_of (core_of l.core) depth level d)) (sym e)
      (starts_sound (core_of l.core) l.code (lowered_main (core_of l.core) l.code low fit) m (word_of root) depth level d tails (argument l.code.laid m.cells root (core_of l.core).main.parameter d s.stands) s.owned bd al s.loaded)

  one_width : HaveWidth l.code v.tasks
  one_width = subst (λ (q : Weave). HaveWidth l.code q.tasks) (sym e) first
    where
      first : HaveWidth l.code (weave_start (core_of l.core) l.code m (word_of root) depth level tails).tasks
      first zero h = refl
      first (suc i) h = absurd cc

  pub start_woven : (d : Datum) → IsStart l root tails m d → IsWoven l v
  start_woven d s = record {
    ty = (core_of l.core).main.result;
    outcome = core_run (core_of l.core) depth d;
    whole = whole_of (core_of l.core) depth level d;
    sound = start_sound d s;
    widths = one_width;
  }

-- What is picked.

module _ (code : CodeTree) (v : Weave) where
  below_enabled : (n : ℕ) (e : Event) → pick_below code v n ≡ Some e → Enabled code v e
  below_enabled zero e h = absurd (none-some e h)
  below_enabled (suc n) e h = go (pick_of code v n) refl h (λ g. below_enabled n e g)
    where
      go : (o : Option Event) → pick_of code v n ≡ o → or_else o (pick_below code v n) ≡ Some e → (pick_below code v n ≡ Some e → Enabled code v e) → Enabled code v e
      go None f g rec = rec g
      go (Some d) f g rec = subst (Enabled code v) (same_Some d e g) (pick_of_enabled code v n d f).0

  pub picked_enabled : (o : Option TaskEvent) → picked_of o ≡ pick code v → IfSome o (λ e. Enabled code v (event_of e))
  picked_enabled None h = tt
  picked_enabled (Some e) h = below_enabled (length v.tasks) (event_of e) (sym h)

  pub picked_of_enabled : (i : ℕ) (o : Option TaskEvent) → picked_of o ≡ pick_of code v i → IfSome o (λ e. Enabled code v (event_of e) × IsOf i (event_of e))
  picked_of_enabled i None h = tt
  picked_of_enabled i (Some e) h = pick_of_enabled code v i (event_of e) (sym h)

  pub none_of : (i : ℕ) (o : Option TaskEvent) → picked_of o ≡ pick_of code v i → IfNone o ((e : Event) → Enabled code v e → IsOf i e → ⊥)
  none_of i None h = λ e en f. none-some e (h ∙ enabled_pick_of code v i e en f)
  none_of i (Some e) h = tt

  steal_is : (n : ℕ) (e : Event) → steal_below v n ≡ Some e → IsSteal e
  steal_is zero e h = absurd (none-some e h)
  steal_is (suc n) e h = go (can_steal_from (task v.tasks n)) h (λ g. steal_is n e g)
    where
      go : (b : Bool) → cond b (Some (Steal n)) (steal_below v n) ≡ Some e → (steal_below v n ≡ Some e → IsSteal e) → IsSteal e
      go true g rec = subst IsSteal (same_Some (Steal n) e g) tt
      go false g rec = rec g

  picked_steal : (e : Event) → pick_steal v ≡ Some e → IsSteal e
  picked_steal e h = go (is_running (task v.tasks 0).stage && nat_lt (length v.tasks) (2 ^ 32)) h
    where
      go : (b : Bool) → cond b (steal_below v (length v.tasks)) None ≡ Some e → IsSteal e
      go true g = steal_is (length v.tasks) e g
      go false g = absurd (none-some e g)

  pub picked_steal_enabled : (o : Option TaskEvent) → picked_of o ≡ pick_steal v → IfSome o (λ e. Enabled code v (event_of e) × IsSteal (event_of e))
  picked_steal_enabled None h = tt
  picked_steal_enabled (Some e) h = (pick_steal_enabled code v (event_of e) (sym h), picked_steal (event_of e) (sym h))

  pub no_steal : (o : Option TaskEvent) → picked_of o ≡ pick_steal v → IfNone o ((i : ℕ) → Enabled code v (Steal i) → ⊥)
  no_steal None h = λ i en. pick_steal_none code v i (sym h) en
  no_steal (Some e) h = tt

-- None is picked of a weave only once its root has ended.
pub none_picked : (l : LoweredParts) (code : CodeTree) (v : Weave) (o : Option TaskEvent) → code ≡ l.code → IsLowered (core_of l.core) l.code → AllFit (core_of l.core) → IsWoven l v → picked_of o ≡ pick code v → IfNone o (IsFinished (task v.tasks 0).stage)
none_picked l code v (Some e) same low fit h p = tt
none_picked l code v None same low fit h p = go (task v.tasks 0).stage refl h.sound.root
  where
    none : None ≡ pick l.code v
    none = p ∙ ap (λ (c : CodeTree). pick c v) same

    go : (g : Stage) → (task v.tasks 0).stage ≡ g → IsThere g → IsFinished g
    go Running e t = let q = picks (core_of l.core) l.code (lowered_bodies (core_of l.core) l.code low fit) h.ty h.outcome h.whole v h.sound e in absurd (none-some q.0 (none ∙ q.1))
    go (Finished a) e t = tt
    go Joined e t = t

-- What its root has ended with is what the core means.
pub ended_means : (l : LoweredParts) (v : Weave) (o : Option Answer) → IfSome o (λ a. (task v.tasks 0).stage ≡ Finished a) → IfSome o (λ a. (depth level : ℕ) (d : Datum) → IsSoundOn l depth level d v → IsMeant l depth d v a)
ended_means l v None h = tt
ended_means l v (Some a) h = λ depth level d s. root_answers (core_of l.core) l.code (core_of l.core).main.result (core_run (core_of l.core) depth d) (whole_of (core_of l.core) depth level d) v s a h
