-- What a call leaves, whose calls follow its script.
use Rattle.std.proofs.Common.{◌≡◌, ◌∙◌, refl, ap, ℕ, ◌≤◌, List, [], ◌∷◌, Bool, Result, Ok, Err}
use Rattle.gib_edge.specs.Causes.{AppendsPart}
use Rattle.gib_edge.specs.Views.{ShelfView, SinkView}
use Rattle.gib_script.specs.Shapes.{Calls, OnlyReads, PutsLast, KeepsFiles, IsCounted}
use Rattle.gib_script.proofs.Counting.{counted}
use Rattle.gib_script.proofs.Keeping.{called, keeps_files, nothing_put}
use Rattle.gib_app.specs.Ending.{ReadsStay, OutStays}
use Rattle.gib_app.specs.declared.status.Status.{Status}
use Rattle.gib_located.specs.declared.located.Fault.{Fault}
use Rattle.gib_located.specs.LocatedSource.{located_calls}
use Rattle.gib_located.proofs.Scripted.{world}
use Rattle.gib_located.specs.LocatedScript.{answer_script, located_script, status_for, IsRun}

-- ---- The shape of the script

answer_calls : (r : Result (List ℕ) Fault) → Calls (answer_script r) []
answer_calls (Ok text) = tt
answer_calls (Err fault) = tt

answer_reads : (r : Result (List ℕ) Fault) → OnlyReads (answer_script r)
answer_reads (Ok text) = tt
answer_reads (Err fault) = tt

answer_last : (r : Result (List ℕ) Fault) → PutsLast (answer_script r)
answer_last (Ok text) = tt
answer_last (Err fault) = tt

script_calls : (words : List (List ℕ)) → Calls (located_script words) (located_calls words)
script_calls [] = tt
script_calls (program ∷ []) = tt
script_calls (program ∷ name ∷ []) = ([], refl, λ source r h. answer_calls r)
script_calls (program ∷ name ∷ further ∷ rest) = tt

script_reads : (words : List (List ℕ)) → OnlyReads (located_script words)
script_reads [] = tt
script_reads (program ∷ []) = tt
script_reads (program ∷ name ∷ []) = λ source r h. answer_reads r
script_reads (program ∷ name ∷ further ∷ rest) = tt

script_last : (words : List (List ℕ)) → PutsLast (located_script words)
script_last [] = tt
script_last (program ∷ []) = tt
script_last (program ∷ name ∷ []) = λ source r h. answer_last r
script_last (program ∷ name ∷ further ∷ rest) = tt

-- ---- What it leaves

module _ {tells : Bool} {words : List (List ℕ)} {before now : ShelfView} {out_before out_now : SinkView} {end : Status} (run : IsRun tells words before now out_before out_now end) where
  counts : IsCounted (world before out_before) (world now out_now) run.result
  counts = counted tells (located_script words) (world before out_before) (world now out_now) run.result run.follows

  files : KeepsFiles (world before out_before) (world now out_now)
  files = keeps_files tells (located_script words) (world before out_before) (world now out_now) run.result (script_reads words) run.follows

  pub same : (name : List ℕ) → now.kept name ≡ before.kept name
  same = files.same

  pub writes : (name : List ℕ) → now.writes name ≡ before.writes name
  writes = files.writes

  pub reads_later : (name : List ℕ) → before.reads name ≤ now.reads name
  reads_later = counts.reads_later

  pub reads : ReadsStay before.reads now.reads end
  reads = λ other. counts.reads (λ name e. other (run.ends ∙ ap status_for e))

  pub quiet : OutStays out_before out_now end
  quiet = record {
    quiet = λ other. counts.faults (λ e. other (run.ends ∙ ap status_for e));
    same = λ first other. nothing_put tells (located_script words) (world before out_before) (world now out_now) run.result (script_last words) run.follows (λ x e. first (run.ends ∙ ap status_for e)) (λ e. other (run.ends ∙ ap status_for e));
  }

  pub calls : AppendsPart before.calls now.calls (located_calls words)
  calls = called tells (located_script words) (located_calls words) (world before out_before) (world now out_now) run.result (script_calls words) run.follows
