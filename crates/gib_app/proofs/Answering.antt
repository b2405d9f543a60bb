-- From what was performed to what a call answers, and what stays with it.
use Rattle.gib_base.specs.Texts.{TextsView}
use Rattle.std.proofs.Common.{◌≡◌, ◌∙◌, refl, ap, inl, inr, ℕ, List, [], length, Option, Some, None, MatchOption, subst, subst₂, sym, Bool, arith}
use Rattle.std.specs.Prelude.{⊤}
use Rattle.std.specs.Option.{option_map_or}
use Rattle.gib_edge.specs.Causes.{Appends, AppendsPart, PutsPieces, PutsSomePieces, Rose}
use Rattle.gib_edge.specs.Views.{ShelfView, SinkView}
use Rattle.gib_app.specs.declared.status.Status.{Status}
use Rattle.gib_app.specs.declared.status.Status.TheVariants as status
use Rattle.gib_app.specs.declared.stop.Stop.{Stop}
use Rattle.gib_app.specs.declared.stop.Stop.TheVariants.{Usage, Source, Unread, Input, Memory, Unwritten, Unput}
use Rattle.gib_app.specs.declared.stop.Stop.TheVariants.{NoValue as Stopped}
use Rattle.gib_app.specs.declared.made.End.{End as KeptEnd}
use Rattle.gib_app.specs.declared.made.End.TheVariants as ends
use Rattle.gib_app.specs.declared.made.Reason.{Reason}
use Rattle.gib_app.specs.declared.made.Valued.{Valued}
use Rattle.gib_app.specs.Kept.{EndsByBoth, IsTextOf}
use Rattle.gib_words.specs.Plan.{Write, Plan, Files, Contents}
use Rattle.gib_words.specs.Words.{asked}
use Rattle.gib_app.specs.Running.{Program}
use Rattle.gib_app.specs.Writes.{at_reading, AreMade, job_writes, IsTarget}
use Rattle.gib_app.specs.Jobs.{End, Prints, DoesAll}
use Rattle.gib_app.specs.Calls.{calls_asked}
use Rattle.gib_app.specs.Causes.{OnBoth, IsMade, EndsWithout}
use Rattle.gib_app.specs.Ending.{IsBetween, IsNoTarget, first_asked, StaysAfter, FilesStay, OutStays}
use Rattle.gib_app.specs.Stops.{IsStop}
use Rattle.gib_app.specs.Stopping.{answer_for}
use Rattle.gib_script.specs.Script.{World}
use Rattle.gib_app.specs.Performing.{IsPerformed, IsUnperformed, OthersStay, StaysBy, StopFiles, IsCallStop, StaysWith, IsAnswered, IsUnanswered}
use Rattle.gib_app.proofs.CallCauses.{Front, Whole}
use Rattle.gib_app.proofs.Calling.{added_some, calls_are_asked}
use Rattle.gib_app.proofs.FirstWriting.{others_after}
use Rattle.gib_app.proofs.Fitting.{is_made}
use Rattle.gib_app.proofs.JobWriting.{job_named}
use Rattle.gib_app.proofs.Performing.{asked_of, map_both}
use Rattle.gib_app.proofs.Writing.{all_stay, valueless_stay}

-- ---- What stays of an output

pub same_out : (before now : SinkView) (ended : Status) → now ≡ before → OutStays before now ended
same_out before now ended e = record { quiet = λ other. ap (λ (out : SinkView). out.faults) e; same = λ other unwritten. e }

pub done_out : (before now : SinkView) → now.faults ≡ before.faults → OutStays before now status.Done
done_out before now e = record { quiet = λ other. e; same = λ other. absurd (other refl) }

pub unput_out : (before now : SinkView) → OutStays before now status.WriteFault
unput_out before now = record { quiet = λ other. absurd (other refl); same = λ done' other. absurd (other refl) }

-- ---- Nothing was done

quiet_counts : (before now : ShelfView) (ended : Status) → ((name : List ℕ) → now.reads name ≡ before.reads name) → ((name : List ℕ) → now.writes name ≡ before.writes name) → StaysBy before now ended
quiet_counts before now ended reads writes = record {
  reads_later = λ name. let e = reads name in omega (arith, e);
  reads = λ other name. reads name;
  writes_later = λ name. let e = writes name in omega (arith, e);
  writes = λ other name. writes name;
}

none_first : (words : List (List ℕ)) → asked words ≡ None → first_asked words ≡ []
none_first words e = ap (λ (o : Option Plan). option_map_or (λ (plan : Plan). plan.first) o []) e

module _ (tells : Bool) (words : List (List ℕ)) (w : World) where
  still : (ended : Status) → StaysAfter tells (first_asked words) w.shelf.kept w.shelf.kept ended → StaysWith tells words w w ended
  still ended h = record {
    files = record { others = λ name no'. refl; same = inl h };
    counts = quiet_counts w.shelf w.shelf ended (λ name. refl) (λ name. refl);
    out = same_out w.out w.out ended refl;
    calls = added_some w.shelf.calls (calls_asked words);
  }

  pub no_memory : IsUnanswered tells words w w Memory
  no_memory = record { cause = tt {0}; stays = still status.Memory (0, λ name. refl) }

  pub not_taken : asked words ≡ None → IsUnanswered tells words w w Usage
  not_taken e = record {
    cause = e;
    stays = still status.Usage (let P : List Write → Type 0 = AreMade tells w.shelf.kept w.shelf.kept in subst P (sym (none_first words e)) (λ name. refl));
  }

-- ---- A job was done, or not, that the words ask for

no_target : (o : Option Plan) (r : Plan) (P : Plan → Type 0) → o ≡ Some r → MatchOption o ⊤ P → P r
no_target o r P e h = let Q : Option Plan → Type 0 = λ x. MatchOption x ⊤ P in subst Q e h

first_is : (words : List (List ℕ)) (r : Plan) → asked words ≡ Some r → first_asked words ≡ r.first
first_is words r e = ap (λ (o : Option Plan). option_map_or (λ (plan : Plan). plan.first) o []) e

module _ (tells : Bool) (words : List (List ℕ)) (r : Plan) (is : asked words ≡ Some r) where
  others_stay : (before now : Files) → OthersStay r before now → (name : List ℕ) → IsNoTarget words name → now name ≡ before name
  others_stay before now h name no' = h name (no_target (asked words) r (λ plan. IsTarget plan name → ⊥) is no')

  first_stays : (before now : Files) (ended : Status) → OthersStay r before now → StaysAfter tells r.first before now ended → FilesStay tells words before now ended
  first_stays before now ended others h = record {
    others = others_stay before now others;
    same = inl (let P : List Write → Type 0 = λ first. StaysAfter tells first before now ended in subst P (sym (first_is words r is)) h);
  }

  stopped_files : (before now : Files) (stop : Stop) → OthersStay r before now → StopFiles tells r before now stop → FilesStay tells words before now (answer_for stop).status
  stopped_files before now stop others (inl h) = first_stays before now (answer_for stop).status others h
  stopped_files before now stop others (inr h) = record {
    others = others_stay before now others;
    same = inr (asked_of (asked words) r (λ plan. IsBetween tells (at_reading tells before plan) now plan (answer_for stop).status) is h);
  }

  call_stop : (before now : ShelfView) (out : SinkView) (stop : Stop) → IsStop tells before now r stop → IsCallStop tells words (record { shelf = before; out = out }) (record { shelf = now; out = out }) stop
  call_stop before now out Usage h = absurd h
  call_stop before now out (Source fault) h = asked_of (asked words) r (λ plan. IsStop tells before now plan (Source fault)) is h
  call_stop before now out (Unread name) h = asked_of (asked words) r (λ plan. IsStop tells before now plan (Unread name)) is h
  call_stop before now out (Input fault) h = asked_of (asked words) r (λ plan. IsStop tells before now plan (Input fault)) is h
  call_stop before now out (Stopped reason) h = absurd h
  call_stop before now out Memory h = tt {0}
  call_stop before now out (Unwritten name) h = (asked_of (asked words) r (λ plan. IsStop tells before now plan (Unwritten name)) is h, refl)
  call_stop before now out Unput h = absurd h

  -- nothing was made, or written
  pub unperformed : (before now : ShelfView) (out : SinkView) (stop : Stop) → IsUnperformed tells before now r stop → IsUnanswered tells words (record { shelf = before; out = out }) (record { shelf = now; out = out }) stop
  unperformed before now out stop h = record {
    cause = call_stop before now out stop h.cause;
    stays = record {
      files = stopped_files before.kept now.kept stop h.others h.files;
      counts = h.counts;
      out = same_out out out (answer_for stop).status refl;
      calls = calls_are_asked words r before.calls now.calls is h.once;
    };
  }

  -- ---- The job was done

  performed_others : (before now : ShelfView) (e : KeptEnd) → IsPerformed tells before now r e → OthersStay r before.kept now.kept
  performed_others before now e h name no' =
      h.written name ∙ others_after tells (at_reading tells before.kept r) (job_writes r h.file h.packed) name (λ i. no' (inr (job_named r h.file h.packed name i)))
      ∙ others_after tells before.kept r.first name (λ i. no' (inl i))

  performed_stays : (before now : World) (e : KeptEnd) (ended : Status) → IsPerformed tells before.shelf now.shelf r e → StaysAfter tells r.first before.shelf.kept now.shelf.kept ended → OutStays before.out now.out ended → StaysWith tells words before now ended
  performed_stays before now e ended h first out = record {
    files = first_stays before.shelf.kept now.shelf.kept ended (performed_others before.shelf now.shelf e h) first;
    counts = quiet_counts before.shelf now.shelf ended h.reads h.writes;
    out = out;
    calls = calls_are_asked words r before.shelf.calls now.shelf.calls is h.once;
  }

  -- it ends without a value
  pub valueless : (before now : ShelfView) (out : SinkView) (reason : Reason) → IsPerformed tells before now r (ends.NoValue reason) → IsUnanswered tells words (record { shelf = before; out = out }) (record { shelf = now; out = out }) (Stopped reason)
  valueless before now out reason h = record {
    cause =
        asked_of (asked words) r (λ plan. OnBoth (at_reading tells before.kept plan) plan (EndsWithout tells before now reason plan)) is
        (map_both (at_reading tells before.kept r) r (λ p names given. EndsByBoth h.file h.packed (ends.NoValue reason) (DoesAll r.job r.options p names given)) (EndsWithout tells before now reason r)
        (λ p names given k. record { file = h.file; packed = h.packed; does = k.0; packs = k.1; written = h.written }) h.is_done);
    stays = performed_stays (record { shelf = before; out = out }) (record { shelf = now; out = out }) (ends.NoValue reason) (answer_for (Stopped reason)).status h
        (valueless_stay tells r.first before.kept now.kept reason) (same_out out out (answer_for (Stopped reason)).status refl);
  }

  module _ (before now : World) where
    made_of : (e : KeptEnd) (T : Plan → Program → TextsView → Contents → Type 0) (h : IsPerformed tells before.shelf now.shelf r e)
        → ((p : Program) (names : TextsView) (given : Contents) → EndsByBoth h.file h.packed e (DoesAll r.job r.options p names given) → T r p names given)
        → MatchOption (asked words) ⊥ (λ plan. OnBoth (at_reading tells before.shelf.kept plan) plan (T plan))
    made_of e T h give =
        asked_of (asked words) r (λ plan. OnBoth (at_reading tells before.shelf.kept plan) plan (T plan)) is
        (map_both (at_reading tells before.shelf.kept r) r (λ p names given. EndsByBoth h.file h.packed e (DoesAll r.job r.options p names given)) (T r) give h.is_done)

    made : (p : Program) (names : TextsView) (given : Contents) (text : List ℕ) (e : KeptEnd) (h : IsPerformed tells before.shelf now.shelf r e) → DoesAll r.job r.options p names given h.file h.packed (Prints text) → IsMade tells before.shelf.kept now.shelf.kept r p names given text
    made p names given text e h d = is_made tells words before.shelf.kept now.shelf.kept r p names given text h.file h.packed is d h.written

    -- it ends with a text
    module _ (e : KeptEnd) (text : List ℕ) (reads : (file packed : Option (List ℕ)) (P : Option (List ℕ) → Option (List ℕ) → End → Type 0) → EndsByBoth file packed e P → P file packed (Prints text)) (h : IsPerformed tells before.shelf now.shelf r e) where
      pub text_put : Appends before.out.taken now.out.taken text → PutsPieces before.out now.out (length text) → now.out.faults ≡ before.out.faults → IsAnswered tells words before now
      text_put put pieces quiet = record {
        printed = made_of e (Whole tells before.shelf now.shelf before.out now.out) h (λ p names given k. (text, made p names given text e h (reads h.file h.packed (DoesAll r.job r.options p names given) k), put, pieces));
        stays = performed_stays before now e status.Done h tt (done_out before.out now.out quiet);
      }

      pub text_unput : AppendsPart before.out.taken now.out.taken text → PutsSomePieces before.out now.out (length text) → Rose before.out.faults now.out.faults → IsUnanswered tells words before now Unput
      text_unput put pieces rose = record {
        cause = (made_of e (Front tells before.shelf now.shelf before.out now.out) h (λ p names given k. (text, made p names given text e h (reads h.file h.packed (DoesAll r.job r.options p names given) k), put, pieces)), rose, h.writes);
        stays = performed_stays before now e status.WriteFault h tt (unput_out before.out now.out);
      }

    -- it ends with a value in region memory, which goes with no file
    module _ (value : Valued) (h : IsPerformed tells before.shelf now.shelf r (ends.Value value)) where
      pub value_put : ((text : List ℕ) → IsTextOf value text → Appends before.out.taken now.out.taken text × PutsPieces before.out now.out (length text)) → now.out.faults ≡ before.out.faults → IsAnswered tells words before now
      value_put put quiet = record {
        printed = made_of (ends.Value value) (Whole tells before.shelf now.shelf before.out now.out) h (λ p names given k. let taken = put k.2 k.3 in (k.2, made p names given k.2 (ends.Value value) h k.4, taken.0, taken.1));
        stays = performed_stays before now (ends.Value value) status.Done h tt (done_out before.out now.out quiet);
      }

      pub value_unput : ((text : List ℕ) → IsTextOf value text → AppendsPart before.out.taken now.out.taken text × PutsSomePieces before.out now.out (length text)) → Rose before.out.faults now.out.faults → IsUnanswered tells words before now Unput
      value_unput put rose = record {
        cause = (made_of (ends.Value value) (Front tells before.shelf now.shelf before.out now.out) h (λ p names given k. let taken = put k.2 k.3 in (k.2, made p names given k.2 (ends.Value value) h k.4, taken.0, taken.1)), rose, h.writes);
        stays = performed_stays before now (ends.Value value) status.WriteFault h tt (unput_out before.out now.out);
      }

      first_alone : AreMade tells before.shelf.kept now.shelf.kept r.first
      first_alone =
          let k = h.is_done.holds.holds in
          let P : Option (List ℕ) → Option (List ℕ) → Type 0 = λ f g. AreMade tells (at_reading tells before.shelf.kept r) now.shelf.kept (job_writes r f g) in
          subst₂ P k.0 k.1 h.written

      pub value_not_put : now.out ≡ before.out → IsUnanswered tells words before now Memory
      value_not_put same = record {
        cause = tt {0};
        stays = performed_stays before now (ends.Value value) status.Memory h (all_stay tells r.first before.shelf.kept now.shelf.kept status.Memory first_alone) (same_out before.out now.out status.Memory same);
      }

-- The text of a value that was made.
pub value_text : (tells : Bool) (before now : ShelfView) (r : Plan) (value : Valued) → IsPerformed tells before now r (ends.Value value) → (text : List ℕ) × IsTextOf value text
value_text tells before now r value h = let k = h.is_done.holds.holds in (k.2, k.3)
