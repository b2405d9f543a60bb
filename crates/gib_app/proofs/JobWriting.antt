-- What the writes of a job leave: that of its file, and then that of the packed file of its result.
use Rattle.std.proofs.Common.{◌≡◌, ◌∙◌, ◌≤◌, refl, sym, subst, ap, ℕ, zero, suc, List, [], ◌∷◌, ◌++◌, take, Bool, Option, Some, None, ◌⊎◌, inl, inr}
use Rattle.gib_edge.specs.Causes.{Appends, AppendsPart}
use Rattle.gib_edge.specs.Views.{Call, ShelfView, WriteOf}
use Rattle.gib_app.specs.declared.stop.Stop.{Stop}
use Rattle.gib_app.specs.declared.stop.Stop.TheVariants.{Usage, Source, Unread, Input, NoValue, Memory, Unwritten, Unput}
use Rattle.gib_words.specs.Plan.{Write, Plan, Files}
use Rattle.gib_app.specs.Writes.{AreMade, IsNamedIn, writes_of, job_writes}
use Rattle.gib_app.specs.Calls.{first_calls, write_calls, job_calls}
use Rattle.gib_app.specs.Ending.{StaysAfter}
use Rattle.gib_app.specs.FirstWrites.{HasWritten, HasStuck}
use Rattle.gib_app.specs.Performing.{AreOrdered, IsHalfway}
use Rattle.gib_app.specs.Stopping.{answer_for}
use Rattle.gib_app.proofs.Calling.{added_two, added_part, added_front, added_whole}
use Rattle.gib_app.proofs.FirstWriting.{Cause, stuck_from, then_written, then_stuck, first_stuck}
use Rattle.gib_app.proofs.Writing.{made_from, stays_from}

-- ---- Nothing was written, and then these

module _ (tells : Bool) (before mid now : ShelfView) (h : HasWritten tells before mid []) (ws : List Write) where
  written_on : HasWritten tells mid now ws → HasWritten tells before now ws
  written_on k = record {
    made = made_from tells before.kept mid.kept now.kept ws h.made k.made;
    reads = λ name. k.reads name ∙ h.reads name;
    counts = λ name. k.counts name ∙ h.counts name;
    called = added_two before.calls mid.calls now.calls [] (first_calls ws) h.called k.called;
  }

  cause_on : (stop : Stop) → Cause tells mid.kept ws mid now stop → Cause tells before.kept ws before now stop
  cause_on Usage c = c
  cause_on (Source fault) c = c
  cause_on (Unread name) c = c
  cause_on (Input fault) c = c
  cause_on (NoValue reason) c = c
  cause_on Memory c = c
  cause_on (Unwritten name) c = stuck_from tells before.kept mid.kept ws before mid now name.now h.made h.counts c
  cause_on Unput c = c

  stuck_on : (stop : Stop) → HasStuck tells mid now ws stop → HasStuck tells before now ws stop
  stuck_on stop k = record {
    cause = cause_on stop k.cause;
    others = λ name no'. k.others name no' ∙ h.made name;
    front = stays_from tells ws before.kept mid.kept now.kept (answer_for stop).status h.made k.front;
    reads = λ name. k.reads name ∙ h.reads name;
    later = λ name. let L : ℕ → Type 0 = λ n. n ≤ now.writes name in subst L (h.counts name) (k.later name);
    counts = λ apart name. k.counts apart name ∙ h.counts name;
    once = added_part before.calls mid.calls now.calls [] (first_calls ws) h.called k.once;
  }

-- No write was made, which fails by want of memory alone.
none_stuck : (tells : Bool) (before now : ShelfView) (ws : List Write) (stop : Stop) → HasStuck tells before now [] stop → HasStuck tells before now ws stop
none_stuck tells before now ws Usage k = absurd k.cause
none_stuck tells before now ws (Source fault) k = absurd k.cause
none_stuck tells before now ws (Unread name) k = absurd k.cause
none_stuck tells before now ws (Input fault) k = absurd k.cause
none_stuck tells before now ws (NoValue reason) k = absurd k.cause
none_stuck tells before now ws Memory k = record {
  cause = tt {0};
  others = λ name no'. k.others name (λ i. i);
  front = (0, λ name. k.others name (λ i. i));
  reads = k.reads;
  later = k.later;
  counts = k.counts;
  once = added_front before.calls now.calls [] (first_calls ws) k.once;
}
none_stuck tells before now ws (Unwritten name) k = absurd k.cause
none_stuck tells before now ws Unput k = absurd k.cause

-- ---- One or none, and then others

pub both_written : (tells : Bool) (before mid now : ShelfView) (file target : Option (List ℕ)) (ws : List Write) → HasWritten tells before mid (writes_of file target) → HasWritten tells mid now ws → HasWritten tells before now (writes_of file target ++ ws)
both_written tells before mid now None target ws h k = written_on tells before mid now h ws k
both_written tells before mid now (Some bytes) None ws h k = written_on tells before mid now h ws k
both_written tells before mid now (Some bytes) (Some name) ws h k = then_written tells before mid now (record { name = name; bytes = bytes }) ws h k

pub second_stuck : (tells : Bool) (before mid now : ShelfView) (file target : Option (List ℕ)) (ws : List Write) (stop : Stop) → HasWritten tells before mid (writes_of file target) → HasStuck tells mid now ws stop →
    HasStuck tells before now (writes_of file target ++ ws) stop
second_stuck tells before mid now None target ws stop h k = stuck_on tells before mid now h ws stop k
second_stuck tells before mid now (Some bytes) None ws stop h k = stuck_on tells before mid now h ws stop k
second_stuck tells before mid now (Some bytes) (Some name) ws stop h k = then_stuck tells before mid now (record { name = name; bytes = bytes }) ws stop h k

pub one_stuck : (tells : Bool) (before now : ShelfView) (file target : Option (List ℕ)) (ws : List Write) (stop : Stop) → HasStuck tells before now (writes_of file target) stop → HasStuck tells before now (writes_of file target ++ ws) stop
one_stuck tells before now None target ws stop k = none_stuck tells before now ws stop k
one_stuck tells before now (Some bytes) None ws stop k = none_stuck tells before now ws stop k
one_stuck tells before now (Some bytes) (Some name) ws stop k = first_stuck tells before now (record { name = name; bytes = bytes }) ws stop k

-- ---- Memory ran out for the second one: the first one stands, if there is one, and nothing else was written

none_kept : (tells : Bool) (mid now : Files) (n : ℕ) → AreMade tells mid now (take n []) → (name : List ℕ) → now name ≡ mid name
none_kept tells mid now zero h = h
none_kept tells mid now (suc n) h = h

module _ (tells : Bool) (before mid now : Files) (r : Plan) (packed : Option (List ℕ)) (pack behind : List ℕ) (asks : r.pack ≡ Some pack) (second : packed ≡ Some behind) (same : (name : List ℕ) → now name ≡ mid name) where
  between : (file target : Option (List ℕ)) → r.target ≡ target → AreMade tells before mid (writes_of file target) → StaysAfter tells [] before now (answer_for Memory).status ⊎ IsHalfway tells before now r file packed (answer_for Memory).status
  between None target named h = inl (0, λ name. same name ∙ h name)
  between (Some bytes) None named h = inl (0, λ name. same name ∙ h name)
  between (Some bytes) (Some name) named h =
      inr (record { is = refl; name = name; named = named; pack = pack; asks = asks; bytes = bytes; first = refl; behind = behind; second = second; made = λ other. same other ∙ h other })

pub stays_or_between : (tells : Bool) (before mid now : ShelfView) (r : Plan) (file packed : Option (List ℕ)) → ((pack : List ℕ) × (r.pack ≡ Some pack)) → ((behind : List ℕ) × (packed ≡ Some behind)) →
    AreMade tells before.kept mid.kept (writes_of file r.target) → (stop : Stop) → HasStuck tells mid now (writes_of packed r.pack) stop → StaysAfter tells [] mid.kept now.kept (answer_for stop).status →
    StaysAfter tells [] before.kept now.kept (answer_for stop).status ⊎ IsHalfway tells before.kept now.kept r file packed (answer_for stop).status
stays_or_between tells before mid now r file packed asks second h Usage k s = absurd k.cause
stays_or_between tells before mid now r file packed asks second h (Source fault) k s = absurd k.cause
stays_or_between tells before mid now r file packed asks second h (Unread name) k s = absurd k.cause
stays_or_between tells before mid now r file packed asks second h (Input fault) k s = absurd k.cause
stays_or_between tells before mid now r file packed asks second h (NoValue reason) k s = absurd k.cause
stays_or_between tells before mid now r file packed asks second h Memory k s =
    between tells before.kept mid.kept now.kept r packed asks.0 second.0 asks.1 second.1 (none_kept tells mid.kept now.kept s.0 s.1) file r.target refl h
stays_or_between tells before mid now r file packed asks second h (Unwritten name) k s = inl tt
stays_or_between tells before mid now r file packed asks second h Unput k s = absurd k.cause

-- ---- The names of these writes, and their calls

pub one_named : (file target : Option (List ℕ)) (name : List ℕ) → IsNamedIn (writes_of file target) name → target ≡ Some name
one_named None target name h = absurd h
one_named (Some bytes) None name h = absurd h
one_named (Some bytes) (Some other) name (inl e) = ap Some e
one_named (Some bytes) (Some other) name (inr h) = absurd h

pub named_of_two : (xs ys : List Write) (name : List ℕ) → IsNamedIn (xs ++ ys) name → IsNamedIn xs name ⊎ IsNamedIn ys name
named_of_two [] ys name h = inr h
named_of_two (x ∷ xs) ys name (inl e) = inl (inl e)
named_of_two (x ∷ xs) ys name (inr h) = elim (named_of_two xs ys name h) [
  | inl i ↦ inl (inr i)
  | inr i ↦ inr i
]

pub job_named : (r : Plan) (file packed : Option (List ℕ)) (name : List ℕ) → IsNamedIn (job_writes r file packed) name → (r.target ≡ Some name) ⊎ (r.pack ≡ Some name)
job_named r file packed name h = elim (named_of_two (writes_of file r.target) (writes_of packed r.pack) name h) [
  | inl i ↦ inl (one_named file r.target name i)
  | inr i ↦ inr (one_named packed r.pack name i)
]

-- a front of a front
take_take : {X : Type 0} (n m : ℕ) (ys : List X) → (k : ℕ) × (take n (take m ys) ≡ take k ys)
take_take zero m ys = (0, refl)
take_take (suc n) zero ys = (0, refl)
take_take (suc n) (suc m) [] = (0, refl)
take_take (suc n) (suc m) (y ∷ ys) = let r = take_take n m ys in (suc r.0, ap (λ zs. y ∷ zs) r.1)

pub part_of_front : {X : Type 0} (a b : Option (List X)) (xs ys : List X) → (n : ℕ) → xs ≡ take n ys → AppendsPart a b xs → AppendsPart a b ys
part_of_front None b xs ys n e h = tt {0}
part_of_front (Some l) b xs ys n e h =
    let r = take_take h.0 n ys in
    (r.0, h.1 ∙ ap (λ zs. Some (l ++ take h.0 zs)) e ∙ ap (λ zs. Some (l ++ zs)) r.1)

last_front : (packed pack : Option (List ℕ)) → (n : ℕ) × (first_calls (writes_of packed pack) ≡ take n (write_calls pack))
last_front None pack = (0, refl)
last_front (Some bytes) None = (0, refl)
last_front (Some bytes) (Some name) = (1, refl)

both_front : (file target packed pack : Option (List ℕ)) → ((name : List ℕ) → target ≡ Some name → file ≡ None → packed ≡ None) → (n : ℕ) × (first_calls (writes_of file target ++ writes_of packed pack) ≡ take n (write_calls target ++ write_calls pack))
both_front None None packed pack ordered = last_front packed pack
both_front (Some bytes) None packed pack ordered = last_front packed pack
both_front None (Some name) packed pack ordered = (0, ap (λ (q : Option (List ℕ)). first_calls (writes_of q pack)) (ordered name refl refl))
both_front (Some bytes) (Some name) packed pack ordered = let r = last_front packed pack in (suc r.0, ap (λ (zs : List Call). WriteOf name ∷ zs) r.1)

pub job_part : (a b : Option (List Call)) (r : Plan) (file packed : Option (List ℕ)) → AreOrdered r file packed → AppendsPart a b (first_calls (job_writes r file packed)) → AppendsPart a b (job_calls r)
job_part a b r file packed ordered h =
    let front = both_front file r.target packed r.pack ordered in
    part_of_front a b (first_calls (job_writes r file packed)) (job_calls r) front.0 front.1 h

pub job_whole : (a b : Option (List Call)) (r : Plan) (file packed : Option (List ℕ)) → AreOrdered r file packed → Appends a b (first_calls (job_writes r file packed)) → AppendsPart a b (job_calls r)
job_whole a b r file packed ordered h = job_part a b r file packed ordered (added_whole a b (first_calls (job_writes r file packed)) h)
