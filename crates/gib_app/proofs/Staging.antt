-- A plan's first writes, and then what is made and written.
use Rattle.std.proofs.Common.{◌≡◌, ◌∙◌, ◌++◌, ◌⊎◌, ℕ, List, [], ◌∷◌, Bool, inl, inr, Option, Some, arith}
use Rattle.gib_edge.specs.Causes.{AppendsPart}
use Rattle.gib_edge.specs.Views.{ShelfView}
use Rattle.gib_app.specs.declared.made.End.{End as KeptEnd}
use Rattle.gib_app.specs.declared.stop.Stop.{Stop}
use Rattle.gib_words.specs.Plan.{Plan}
use Rattle.gib_words.specs.Words.{asked}
use Rattle.gib_app.specs.Writes.{at_reading, job_writes}
use Rattle.gib_app.specs.Calls.{first_calls, reads_of, job_calls, calls_of}
use Rattle.gib_app.specs.Ending.{StaysAfter, MakesBoth}
use Rattle.gib_app.specs.FirstWrites.{HasWritten, HasStuck}
use Rattle.gib_app.specs.Jobs.{DoesAll}
use Rattle.gib_app.specs.Kept.{EndsByBoth}
use Rattle.gib_app.specs.Performing.{AreOrdered, IsDone, IsHalfway, IsPerformed, IsUnperformed, StopFiles}
use Rattle.gib_app.specs.Readings.{HasRead, HasStopped}
use Rattle.gib_app.specs.Stopping.{answer_for}
use Rattle.gib_app.specs.Stops.{IsMakeStop, IsStop}
use Rattle.gib_app.proofs.Calling.{added_front, added_part}
use Rattle.gib_app.proofs.FirstWriting.{Cause, others_after}
use Rattle.gib_app.proofs.Fitting.{are_ordered, both_end}
use Rattle.gib_app.proofs.JobWriting.{job_named, job_part, job_whole}
use Rattle.gib_app.proofs.Making.{both_from, make_stop}
use Rattle.gib_app.proofs.Performing.{map_both, write_stop}
use Rattle.gib_app.proofs.StopMaps.{never, stops_map}
use Rattle.gib_app.proofs.Writing.{all_stay, first_stay, made_from}

-- ---- The first writes failed

module _ (tells : Bool) (before now : ShelfView) (r : Plan) (stop : Stop) (k : HasStuck tells before now r.first stop) where
  stuck_is_stop : (why : Stop) → Cause tells before.kept r.first before now why → IsStop tells before now r why
  stuck_is_stop why c = stops_map _ _ _ _ _ _ _ _ _ _ why c (never _) (never _) (never _) (never _) (λ name u. inl u)

  pub first_unwritten : IsUnperformed tells before now r stop
  first_unwritten = record {
    cause = stuck_is_stop stop k.cause;
    others = λ name no'. k.others name (λ i. no' (inl i));
    files = inl k.front;
    counts = record {
      reads_later = λ name. let e = k.reads name in omega (arith, e);
      reads = λ other name. k.reads name;
      writes_later = k.later;
      writes = k.counts;
    };
    once = added_front before.calls now.calls (first_calls r.first) (reads_of r ++ job_calls r) k.once;
  }

-- ---- The first writes were made, and nothing else was

module _ (tells : Bool) (before start now : ShelfView) (r : Plan) (stop : Stop) (w : HasWritten tells before start r.first) (h : HasStopped start now (reads_of r) stop) where
  at_start : (name : List ℕ) → now.kept name ≡ at_reading tells before.kept r name
  at_start name = h.same name ∙ w.made name

  pub unmade : IsMakeStop start now r stop → IsUnperformed tells before now r stop
  unmade cause = record {
    cause = make_stop tells before start now r w.made w.reads stop cause;
    others = λ name no'. at_start name ∙ others_after tells before.kept r.first name (λ i. no' (inl i));
    files = inl (all_stay tells r.first before.kept now.kept (answer_for stop).status at_start);
    counts = record {
      reads_later = λ name. let e = w.reads name in let f = h.later name in omega (arith, e, f);
      reads = λ other name. h.reads other name ∙ w.reads name;
      writes_later = λ name. let e = w.counts name in let f = h.writes name in omega (arith, e, f);
      writes = λ other name. h.writes name ∙ w.counts name;
    };
    once = added_part before.calls start.calls now.calls (first_calls r.first) (reads_of r ++ job_calls r) w.called
        (added_front start.calls now.calls (reads_of r) (job_calls r) h.once);
  }

-- ---- What was made is written, or not

module _ (tells : Bool) (before start mid now : ShelfView) (r : Plan) (asks : (words : List (List ℕ)) × (asked words ≡ Some r)) (w : HasWritten tells before start r.first) (h : HasRead start mid (reads_of r)) (file packed : Option (List ℕ)) (e : KeptEnd) (is : IsDone start.kept r file packed e) where
  from_start : (name : List ℕ) → mid.kept name ≡ at_reading tells before.kept r name
  from_start name = h.same name ∙ w.made name

  done_at : IsDone (at_reading tells before.kept r) r file packed e
  done_at = both_from (at_reading tells before.kept r) start.kept r (λ p names given. EndsByBoth file packed e (DoesAll r.job r.options p names given)) w.made is

  ordered : AreOrdered r file packed
  ordered = are_ordered start.kept r file packed e asks is

  called : AppendsPart mid.calls now.calls (job_calls r) → AppendsPart before.calls now.calls (calls_of r)
  called k =
      added_part before.calls start.calls now.calls (first_calls r.first) (reads_of r ++ job_calls r) w.called
      (added_part start.calls mid.calls now.calls (reads_of r) (job_calls r) h.called k)

  pub performed : HasWritten tells mid now (job_writes r file packed) → IsPerformed tells before now r e
  performed k = record {
    file = file;
    packed = packed;
    is_done = done_at;
    written = made_from tells (at_reading tells before.kept r) mid.kept now.kept (job_writes r file packed) from_start k.made;
    reads = λ name. k.reads name ∙ h.reads name ∙ w.reads name;
    writes = λ name. k.counts name ∙ h.writes name ∙ w.counts name;
    once = called (job_whole mid.calls now.calls r file packed ordered k.called);
  }

  unwritten_files : (stop : Stop) → StaysAfter tells [] mid.kept now.kept (answer_for stop).status ⊎ IsHalfway tells mid.kept now.kept r file packed (answer_for stop).status → StopFiles tells r before.kept now.kept stop
  unwritten_files stop (inl k) = inl (first_stay tells before.kept mid.kept now.kept r.first (answer_for stop).status from_start k)
  unwritten_files stop (inr k) =
      inr (record {
        is = k.is;
        name = k.name;
        named = k.named;
        pack = k.pack;
        asks = k.asks;
        bytes = k.bytes;
        both = map_both (at_reading tells before.kept r) r (λ p names given. EndsByBoth file packed e (DoesAll r.job r.options p names given)) (MakesBoth k.bytes r)
            (λ p names given d. let x = both_end file packed e k.bytes k.behind (DoesAll r.job r.options p names given) k.first k.second d in (k.behind, x.0, x.1)) done_at;
        made = made_from tells (at_reading tells before.kept r) mid.kept now.kept (record { name = k.name; bytes = k.bytes } ∷ []) from_start k.made;
      })

  pub unwritten : (stop : Stop) → HasStuck tells mid now (job_writes r file packed) stop
      → StaysAfter tells [] mid.kept now.kept (answer_for stop).status ⊎ IsHalfway tells mid.kept now.kept r file packed (answer_for stop).status → IsUnperformed tells before now r stop
  unwritten stop k files = record {
    cause = write_stop tells before mid now r file packed e from_start (λ name. h.writes name ∙ w.counts name) done_at stop k.cause;
    others = λ name no'. k.others name (λ i. no' (inr (job_named r file packed name i))) ∙ from_start name ∙ others_after tells before.kept r.first name (λ i. no' (inl i));
    files = unwritten_files stop files;
    counts = record {
      reads_later = λ name. let a = w.reads name in let b = h.reads name in let c = k.reads name in omega (arith, a, b, c);
      reads = λ other name. k.reads name ∙ h.reads name ∙ w.reads name;
      writes_later = λ name. let a = w.counts name in let b = h.writes name in let c = k.later name in omega (arith, a, b, c);
      writes = λ other name. k.counts other name ∙ h.writes name ∙ w.counts name;
    };
    once = called (job_part mid.calls now.calls r file packed ordered k.once);
  }
