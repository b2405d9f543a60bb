-- The script of a call that prints the core of a source as LoCal text.
use Rattle.std.specs.Prelude.{◌≡◌, ℕ, List, [], ◌∷◌, Bool, Some, Result, Ok, Err, Vec}
use Rattle.std.specs.declared.alloc.Global.{Global}
use Rattle.gib_edge.specs.Views.{ShelfView, SinkView}
use Rattle.gib_script.specs.Script.{Script, Return, Fail, Choose, Read, Put, Halt, Failed, NoRead, NoWrite, NoPut, NoMemory, Follows, and_then}
use Rattle.gib_app.specs.declared.status.Status.{Status}
use Rattle.gib_app.specs.declared.status.Status.TheVariants as status
use Rattle.gib_app.specs.declared.stop.Stop.TheVariants.{Usage, Source, Unread, Input, NoValue, Memory, Unwritten, Unput}
use Rattle.gib_located.specs.declared.located.Fault.{Fault}
use Rattle.gib_located.specs.declared.located.Fault.TheVariants as f
use Rattle.gib_located.specs.LocatedSource.{HasCoreText, IsFault, answer_for_fault}

-- Reads a source: one byte more than it may have.
abbrev pub read_script : List ℕ → Script Fault (List ℕ)
read_script name = Read name 1048577 (λ source. Return source)

-- What comes of a source: the text of its core, or why there is none.
abbrev pub ComesOf : List ℕ → Result (List ℕ) Fault → Type 0
ComesOf source (Ok text) = HasCoreText source (Some text)
ComesOf source (Err fault) = IsFault source fault

-- Puts the text, or fails.
abbrev pub answer_script : Result (List ℕ) Fault → Script Fault (Unit {0})
answer_script (Ok text) = Put text (Return (tt {0}))
answer_script (Err fault) = Fail fault

-- Answers what comes of a source.
abbrev pub text_script : List ℕ → Script Fault (Unit {0})
text_script source = Choose (Result (List ℕ) Fault) (ComesOf source) answer_script

-- The whole call: where the words name one file, it is read, and what comes of it is answered.
abbrev pub located_script : List (List ℕ) → Script Fault (Unit {0})
located_script [] = Fail (f.Stopped Usage)
located_script (program ∷ []) = Fail (f.Stopped Usage)
located_script (program ∷ name ∷ []) = and_then (read_script name) text_script
located_script (program ∷ name ∷ further ∷ rest) = Fail (f.Stopped Usage)

-- Why the script halts where a call has this fault.
abbrev pub halt_for : Fault → Halt Fault
halt_for (f.Stopped Usage) = Failed (f.Stopped Usage)
halt_for (f.Stopped (Source fault)) = Failed (f.Stopped (Source fault))
halt_for (f.Stopped (Unread name)) = NoRead name.now
halt_for (f.Stopped (Input fault)) = Failed (f.Stopped (Input fault))
halt_for (f.Stopped (NoValue reason)) = Failed (f.Stopped (NoValue reason))
halt_for (f.Stopped Memory) = NoMemory
halt_for (f.Stopped (Unwritten name)) = NoWrite name.now
halt_for (f.Stopped Unput) = NoPut
halt_for f.NoText = Failed f.NoText

-- How the script of a read ends, by its result.
abbrev pub read_ended : Result (Vec ℕ Global) Fault → Result (List ℕ) (Halt Fault)
read_ended (Ok source) = Ok source.items
read_ended (Err fault) = Err (halt_for fault)

-- How the whole script ends, by the result of the call.
abbrev pub ended : Result (Unit {0}) Fault → Result (Unit {0}) (Halt Fault)
ended (Ok x) = Ok (tt {0})
ended (Err fault) = Err (halt_for fault)

-- The status that tells how the script ended.
abbrev pub status_for : Result (Unit {0}) (Halt Fault) → Status
status_for (Ok x) = status.Done
status_for (Err (Failed fault)) = (answer_for_fault fault).status
status_for (Err (NoRead name)) = status.ReadFault
status_for (Err (NoWrite name)) = status.WriteFault
status_for (Err NoPut) = status.WriteFault
status_for (Err NoMemory) = status.Memory

-- The calls follow the script of the words, which ends so.
abbrev pub Runs : Bool → List (List ℕ) → (before now : ShelfView) → (out_before out_now : SinkView) → Result (Unit {0}) (Halt Fault) → Type 0
Runs tells words before now out_before out_now result =
    Follows tells (located_script words) (record { shelf = before; out = out_before }) (record { shelf = now; out = out_now }) result

-- The calls follow the script of the words, and the status tells how it ended.
pub record IsRun (tells : Bool) (words : List (List ℕ)) (before now : ShelfView) (out_before out_now : SinkView) (end : Status) : Type 0 where
  pub result : Result (Unit {0}) (Halt Fault)
  pub follows : Runs tells words before now out_before out_now result
  pub ends : end ≡ status_for result
