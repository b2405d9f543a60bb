-- What the words of a command line ask to do.
use Rattle.std.specs.Prelude.{ℕ, List, Option}
use Rattle.gib_edge.specs.Views.{Held, Has}
use Rattle.gib_words.specs.declared.plan.Job.{Job}
use Rattle.gib_words.specs.declared.plan.Options.{Options}

-- Where bytes come from: they are part of the product, or stand in a file by its name.
pub data Document : Type 0 where
  BuiltIn : List ℕ → Document
  Named : List ℕ → Document

-- The write of a file: its name, and the bytes that stand there then.
pub record Write : Type 0 where
  pub name : List ℕ
  pub bytes : List ℕ

-- The first writes are made, one after another; the source is read, then the inputs in their order; a job is done with them; the
-- file that it makes is written under the target's name, and then the packed file of its result under the name that stands for it.
pub record Plan : Type 0 where
  pub first : List Write
  pub source : Document
  pub inputs : List Document
  pub target : Option (List ℕ)
  pub pack : Option (List ℕ)
  pub job : Job
  pub options : Options

-- What names hold.
abbrev pub Files : Type 0
Files = List ℕ → Held

-- What a document holds.
abbrev pub bytes_in : Files → Document → Held
bytes_in kept (BuiltIn bytes) = Has bytes
bytes_in kept (Named name) = kept name

-- The bytes of the inputs: those of the second file, of which there are none where no file is read, and those of further files.
pub record Contents : Type 0 where
  pub second : List ℕ
  pub further : List (List ℕ)
