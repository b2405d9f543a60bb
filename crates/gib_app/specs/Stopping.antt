-- What a call answers to a stop: its status, and what its line says.
use Rattle.std.specs.Prelude.{ℕ, List, ◌++◌, codes}
use Rattle.gib_app.specs.declared.answer.Answer.{Answer as KeptAnswer}
use Rattle.gib_app.specs.declared.made.Reason.TheVariants as reason
use Rattle.gib_app.specs.declared.status.Status.{Status}
use Rattle.gib_app.specs.declared.status.Status.TheVariants as status
use Rattle.gib_app.specs.declared.stop.Stop.{Stop}
use Rattle.gib_app.specs.declared.stop.Stop.TheVariants.{Usage, Source, Unread, Input, NoValue, Memory, Unwritten, Unput}
use Rattle.gib_app.specs.Lines.{said_text, source_text, reason_text, input_text}

-- A status, and what is said.
pub record Answer : Type 0 where
  pub status : Status
  pub said : List ℕ

-- The answer to each stop.
abbrev pub answer_for : Stop → Answer
answer_for Usage = record { status = status.Usage; said = codes "usage" }
answer_for (Source fault) = record { status = status.Source; said = source_text fault }
answer_for (Unread name) = record { status = status.ReadFault; said = codes "cannot read " ++ name.now }
answer_for (Input fault) = record { status = status.Input; said = input_text fault }
answer_for (NoValue (reason.Meant why)) = record { status = status.NoValue why; said = reason_text why }
answer_for (NoValue reason.Full) = record { status = status.Full; said = codes "chunks" }
answer_for (NoValue reason.Long) = record { status = status.Long; said = codes "result longer than 16777216 bytes" }
answer_for Memory = record { status = status.Memory; said = codes "memory" }
answer_for (Unwritten name) = record { status = status.WriteFault; said = codes "cannot write " ++ name.now }
answer_for Unput = record { status = status.WriteFault; said = codes "cannot write" }

-- The answer that the code keeps.
abbrev pub answer_of : KeptAnswer → Answer
answer_of answer = record { status = answer.status; said = said_text answer.said }
