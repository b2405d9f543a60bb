-- What writes leave, one after another.
use Rattle.std.proofs.Common.{◌≡◌, ◌≢◌, ◌∙◌, ◌≤◌, refl, sym, subst, ap, ℕ, zero, suc, List, [], ◌∷◌, take, Bool, true, false, cond, Some, bytes_eq, inl, inr, arith}
use Rattle.std.proofs.lemmas.Slice.Eq.{bytes_eq-Decides}
use Rattle.gib_edge.specs.Causes.{Rose, told, IsUntold, Appends, AppendsPart}
use Rattle.gib_edge.specs.Views.{Held, ShelfView, WriteOf}
use Rattle.gib_app.specs.declared.stop.Stop.{Stop}
use Rattle.gib_app.specs.declared.stop.Stop.TheVariants.{Usage, Source, Unread, Input, NoValue, Memory, Unwritten, Unput}
use Rattle.gib_words.specs.Plan.{Write, Files}
use Rattle.gib_app.specs.Writes.{with_write, after, AreMade, IsStuckIn, IsNamedIn}
use Rattle.gib_app.specs.Calls.{first_calls}
use Rattle.gib_app.specs.Ending.{StaysAfter}
use Rattle.gib_app.specs.FirstWrites.{HasWritten, HasStuck}
use Rattle.gib_app.specs.Stopping.{answer_for}
use Rattle.gib_app.specs.Stops.{StopsBy}
use Rattle.gib_app.proofs.Calling.{added_none, added_some, added_two, added_part, added_front}
use Rattle.gib_app.proofs.Writing.{made_from, write_made}

-- ---- Names that are not written

other_write : (tells : Bool) (kept : Files) (w : Write) (name : List ℕ) → (w.name ≡ name → ⊥) → with_write tells kept w name ≡ kept name
other_write tells kept w name apart = go (bytes_eq w.name name) refl
  where
    go : (b : Bool) → bytes_eq w.name name ≡ b → cond b (told tells w.bytes) (kept name) ≡ kept name
    go true e = absurd (apart ((bytes_eq-Decides w.name name).0 e))
    go false e = refl

pub others_after : (tells : Bool) (kept : Files) (writes : List Write) (name : List ℕ) → (IsNamedIn writes name → ⊥) → after tells kept writes name ≡ kept name
others_after tells kept [] name no' = refl
others_after tells kept (w ∷ ws) name no' = others_after tells (with_write tells kept w) ws name (λ i. no' (inr i)) ∙ other_write tells kept w name (λ e. no' (inl e))

-- ---- What a write that failed leaves, where what was before is told otherwise

pub stuck_from : (tells : Bool) (f g : Files) (writes : List Write) (a b now : ShelfView) (name : List ℕ) → ((other : List ℕ) → g other ≡ f other) → ((other : List ℕ) → b.writes other ≡ a.writes other)
    → IsStuckIn tells g writes b now name → IsStuckIn tells f writes a now name
stuck_from tells f g [] a b now name e q h = h
stuck_from tells f g (w ∷ ws) a b now name e q (inl h) =
    let R : ℕ → Type 0 = λ n. Rose n (now.writes name) in
    inl (h.0, record { others = λ other apart. h.1.others other apart ∙ e other; untold = h.1.untold; rose = subst R (q name) h.1.rose })
stuck_from tells f g (w ∷ ws) a b now name e q (inr h) =
    inr
    (stuck_from tells (with_write tells f w) (with_write tells g w) ws a b now name
    (λ other. ap (λ (x : Held). cond (bytes_eq w.name other) (told tells w.bytes) x) (e other)) q h)

-- ---- None, and one

pub none_written : (tells : Bool) (s : ShelfView) → HasWritten tells s s []
none_written tells s = record { made = λ name. refl; reads = λ name. refl; counts = λ name. refl; called = added_none s.calls }

pub none_made : (tells : Bool) (s : ShelfView) (writes : List Write) → HasStuck tells s s writes Memory
none_made tells s writes = record {
  cause = tt {0};
  others = λ name no'. refl;
  front = (0, λ name. refl);
  reads = λ name. refl;
  later = λ name. omega arith;
  counts = λ other name. refl;
  once = added_some s.calls (first_calls writes);
}

module _ (tells : Bool) (before now : ShelfView) (name bytes : List ℕ) (reads : (other : List ℕ) → now.reads other ≡ before.reads other) where
  abbrev one : List Write
  one = record { name = name; bytes = bytes } ∷ []

  pub one_written : now.kept name ≡ told tells bytes → ((other : List ℕ) → other ≢ name → now.kept other ≡ before.kept other) → ((other : List ℕ) → now.writes other ≡ before.writes other)
      → Appends before.calls now.calls (WriteOf name ∷ []) → HasWritten tells before now one
  one_written here others counts called = record {
    made = write_made tells before.kept now.kept (Some bytes) (Some name) name bytes refl refl here others;
    reads = reads;
    counts = counts;
    called = called;
  }

  pub memory_stuck : ((other : List ℕ) → now.kept other ≡ before.kept other) → ((other : List ℕ) → now.writes other ≡ before.writes other) → ((other : List ℕ) → before.writes other ≤ now.writes other)
      → AppendsPart before.calls now.calls (WriteOf name ∷ []) → HasStuck tells before now one Memory
  memory_stuck same counts later once = record {
    cause = tt {0};
    others = λ other no'. same other;
    front = (0, same);
    reads = reads;
    later = later;
    counts = λ apart other. counts other;
    once = once;
  }

  pub write_stuck : (stop : Stop) → StopsBy (λ fault. ⊥) (λ file. ⊥) (λ fault. ⊥) (λ reason. ⊥) (λ file. file ≡ name) stop → (stop ≡ Memory → ⊥) → IsUntold (now.kept name)
      → ((other : List ℕ) → other ≢ name → now.kept other ≡ before.kept other) → Rose (before.writes name) (now.writes name) → ((other : List ℕ) → before.writes other ≤ now.writes other)
      → AppendsPart before.calls now.calls (WriteOf name ∷ []) → HasStuck tells before now one stop
  write_stuck Usage is some untold others rose later once = absurd is
  write_stuck (Source fault) is some untold others rose later once = absurd is
  write_stuck (Unread file) is some untold others rose later once = absurd is
  write_stuck (Input fault) is some untold others rose later once = absurd is
  write_stuck (NoValue reason) is some untold others rose later once = absurd is
  write_stuck Memory is some untold others rose later once = absurd (some refl)
  write_stuck (Unwritten file) is some untold others rose later once = record {
    cause = let S : List ℕ → Type 0 = λ n. IsStuckIn tells before.kept one before now n in subst S (sym is) (inl (refl, record { others = others; untold = untold; rose = rose }));
    others = λ other no'. others other (λ e. no' (inl (sym e)));
    front = tt;
    reads = reads;
    later = later;
    counts = λ apart. absurd (apart refl);
    once = once;
  }
  write_stuck Unput is some untold others rose later once = absurd is

-- ---- One, and then others

abbrev nothing : List Write
nothing = []

take_none : (n : ℕ) → take n nothing ≡ nothing
take_none zero = refl
take_none (suc n) = refl

abbrev pub Cause : Bool → Files → List Write → ShelfView → ShelfView → Stop → Type 0
Cause tells kept writes before now = StopsBy (λ fault. ⊥) (λ name. ⊥) (λ fault. ⊥) (λ reason. ⊥) (λ name. IsStuckIn tells kept writes before now name)

module _ (tells : Bool) (before mid now : ShelfView) (w : Write) (ws : List Write) where
  then_cause : HasWritten tells before mid (w ∷ []) → (stop : Stop) → Cause tells mid.kept ws mid now stop → Cause tells before.kept (w ∷ ws) before now stop
  then_cause h Usage c = c
  then_cause h (Source fault) c = c
  then_cause h (Unread name) c = c
  then_cause h (Input fault) c = c
  then_cause h (NoValue reason) c = c
  then_cause h Memory c = c
  then_cause h (Unwritten name) c = inr (stuck_from tells (with_write tells before.kept w) mid.kept ws before mid now name.now h.made h.counts c)
  then_cause h Unput c = c

  then_front : HasWritten tells before mid (w ∷ []) → (stop : Stop) → Cause tells mid.kept ws mid now stop → StaysAfter tells ws mid.kept now.kept (answer_for stop).status
      → StaysAfter tells (w ∷ ws) before.kept now.kept (answer_for stop).status
  then_front h Usage c f = absurd c
  then_front h (Source fault) c f = absurd c
  then_front h (Unread name) c f = absurd c
  then_front h (Input fault) c f = absurd c
  then_front h (NoValue reason) c f = absurd c
  then_front h Memory c f = (suc f.0, made_from tells (with_write tells before.kept w) mid.kept now.kept (take f.0 ws) h.made f.1)
  then_front h (Unwritten name) c f = tt
  then_front h Unput c f = absurd c

  pub then_written : HasWritten tells before mid (w ∷ []) → HasWritten tells mid now ws → HasWritten tells before now (w ∷ ws)
  then_written h k = record {
    made = made_from tells (with_write tells before.kept w) mid.kept now.kept ws h.made k.made;
    reads = λ name. k.reads name ∙ h.reads name;
    counts = λ name. k.counts name ∙ h.counts name;
    called = added_two before.calls mid.calls now.calls (WriteOf w.name ∷ []) (first_calls ws) h.called k.called;
  }

  pub then_stuck : (stop : Stop) → HasWritten tells before mid (w ∷ []) → HasStuck tells mid now ws stop → HasStuck tells before now (w ∷ ws) stop
  then_stuck stop h k = record {
    cause = then_cause h stop k.cause;
    others = λ name no'. k.others name (λ i. no' (inr i)) ∙ h.made name ∙ other_write tells before.kept w name (λ e. no' (inl e));
    front = then_front h stop k.cause k.front;
    reads = λ name. k.reads name ∙ h.reads name;
    later = λ name. let L : ℕ → Type 0 = λ n. n ≤ now.writes name in subst L (h.counts name) (k.later name);
    counts = λ apart name. k.counts apart name ∙ h.counts name;
    once = added_part before.calls mid.calls now.calls (WriteOf w.name ∷ []) (first_calls ws) h.called k.once;
  }

module _ (tells : Bool) (before now : ShelfView) (w : Write) (ws : List Write) where
  only : (name : List ℕ) → IsStuckIn tells before.kept (w ∷ []) before now name → IsStuckIn tells before.kept (w ∷ ws) before now name
  only name (inl h) = inl h
  only name (inr h) = absurd h

  first_cause : (stop : Stop) → Cause tells before.kept (w ∷ []) before now stop → Cause tells before.kept (w ∷ ws) before now stop
  first_cause Usage c = c
  first_cause (Source fault) c = c
  first_cause (Unread name) c = c
  first_cause (Input fault) c = c
  first_cause (NoValue reason) c = c
  first_cause Memory c = c
  first_cause (Unwritten name) c = only name.now c
  first_cause Unput c = c

  front_of_one : (n : ℕ) → AreMade tells before.kept now.kept (take n (w ∷ [])) → (m : ℕ) × AreMade tells before.kept now.kept (take m (w ∷ ws))
  front_of_one zero h = (0, h)
  front_of_one (suc n) h = (1, let P : List Write → Type 0 = λ rest. AreMade tells before.kept now.kept (w ∷ rest) in subst P (take_none n) h)

  first_front : (stop : Stop) → Cause tells before.kept (w ∷ []) before now stop → StaysAfter tells (w ∷ []) before.kept now.kept (answer_for stop).status
      → StaysAfter tells (w ∷ ws) before.kept now.kept (answer_for stop).status
  first_front Usage c f = absurd c
  first_front (Source fault) c f = absurd c
  first_front (Unread name) c f = absurd c
  first_front (Input fault) c f = absurd c
  first_front (NoValue reason) c f = absurd c
  first_front Memory c f = front_of_one f.0 f.1
  first_front (Unwritten name) c f = tt
  first_front Unput c f = absurd c

  one_named : (name : List ℕ) → IsNamedIn (w ∷ []) name → IsNamedIn (w ∷ ws) name
  one_named name (inl e) = inl e
  one_named name (inr h) = absurd h

  pub first_stuck : (stop : Stop) → HasStuck tells before now (w ∷ []) stop → HasStuck tells before now (w ∷ ws) stop
  first_stuck stop k = record {
    cause = first_cause stop k.cause;
    others = λ name no'. k.others name (λ i. no' (one_named name i));
    front = first_front stop k.cause k.front;
    reads = k.reads;
    later = k.later;
    counts = k.counts;
    once = added_front before.calls now.calls (WriteOf w.name ∷ []) (first_calls ws) k.once;
  }

-- The first of several writes stands, where no other has its name.
pub written_first : (tells : Bool) (kept now : Files) (name bytes : List ℕ) (ws : List Write) → (IsNamedIn ws name → ⊥) → AreMade tells kept now (record { name = name; bytes = bytes } ∷ ws) → now name ≡ told tells bytes
written_first tells kept now name bytes ws no' h =
    h name ∙ others_after tells (with_write tells kept (record { name = name; bytes = bytes })) ws name no' ∙ ap (λ (b : Bool). cond b (told tells bytes) (kept name)) ((bytes_eq-Decides name name).1 refl)
