-- What each job is, in one table: which inputs it takes, how its source is read and what it makes follow from its row.
use Rattle.gib_base.specs.Texts.{TextsView}
use Rattle.std.specs.Prelude.{List, [], ◌∷◌, ◌++◌, ℕ, codes}
use Rattle.gib_syntax.specs.Tree.{ProgramTree}
use Rattle.gib_core.specs.CoreText.{core_text}
use Rattle.gib_code.specs.ListingText.{listing_text}
use Rattle.gib_lower.specs.Lowering.{lower_program}
use Rattle.gib_words.specs.declared.plan.Job.{Job}
use Rattle.gib_words.specs.declared.plan.Job.TheVariants.{Run, Plain, Check, Core, Code, Pack, Show, Gen, Trace, Replay, Local}
use Rattle.gib_words.specs.declared.plan.Options.{Options}
use Rattle.gib_app.specs.Cores.{core_after, core_asked}

-- What is printed where all is well and nothing else is to be said.
abbrev pub ok_line : List ℕ
ok_line = codes "ok" ++ 10 ∷ []

-- How a program is evaluated: by the plain evaluator; or as a core in region memory, with an image and the packed file of the result, where
-- these are asked for; for a line about its value; with a journal; or with the places that its source writes out.
pub data Way : Type 0 where
  Plainly : Way
  ForFiles : Way
  ForSummary : Way
  ForJournal : Way
  ForPlaces : Way

-- What a job does: it says a text that the program and the options determine, evaluates the program on an input, packs a value, shows
-- a file, or follows a journal.
pub data Row : Type 0 where
  Says : (Options → ProgramTree → TextsView → List ℕ) → Row
  Evaluates : Way → Row
  PacksValue : Row
  ShowsFile : Row
  FollowsJournal : Row

-- The row of each job.
abbrev pub row : Job → Row
row Run = Evaluates ForFiles
row Plain = Evaluates Plainly
row Check = Says (λ options p names. ok_line)
row Core = Says (λ options p names. core_text names.long (core_after options.access options.pass p))
row Code = Says (λ options p names. listing_text names.long (lower_program (core_asked options p)))
row Pack = PacksValue
row Show = ShowsFile
row Gen = Evaluates ForSummary
row Trace = Evaluates ForJournal
row Replay = FollowsJournal
row Local = Evaluates ForPlaces
