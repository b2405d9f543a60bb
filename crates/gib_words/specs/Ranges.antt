-- The ranges of the numbers among the options.
use Rattle.std.specs.Prelude.{ℕ, ◌≤◌, ⊤}
use Rattle.gib_words.specs.declared.plan.Job.{Job}
use Rattle.gib_words.specs.declared.plan.Job.TheVariants.{Run, Plain, Core, Gen, Trace, Local}
use Rattle.gib_words.specs.declared.plan.Options.{Options}

-- Those of a run.
pub record AreOfRun (options : Options) : Type 0 where
  pub workers_least : 1 ≤ options.workers
  pub workers_most : options.workers ≤ 64
  pub depth_least : 1 ≤ options.depth
  pub depth_most : options.depth ≤ 1000000
  pub chunks_least : 16 ≤ options.chunks
  pub chunks_most : options.chunks ≤ 65536
  pub fork_most : options.fork ≤ 64

-- Those of a run whose files are made.
pub record AreOfMade (options : Options) : Type 0 where
  pub run : AreOfRun options
  pub number_most : options.number ≤ 2147483647
  pub levels_most : options.levels ≤ 18

-- The numbers that a job looks at are within their ranges.
abbrev pub AreInRange : Job → Options → Type 0
AreInRange Run options = AreOfRun options
AreInRange Plain options = (1 ≤ options.depth) × (options.depth ≤ 1000000)
AreInRange Core options = (1 ≤ options.pass) × (options.pass ≤ 4)
AreInRange Gen options = AreOfMade options
AreInRange Trace options = AreOfRun options
AreInRange Local options = AreOfRun options
AreInRange other options = ⊤
